-- The hints of small conversions, by the entries of docs/INTEROPERABILITY.md: what is told of each key, and what is not.
use Rattle.std.proofs.Common.{◌≡◌, ℕ, false, List, [], ◌∷◌, ◌++◌, map, length, None, refl, pos}
use Rattle.std.specs.Prelude.{codes, replicate}
use Rattle.oc_base.specs.{declared.format.Format.{Format}, Numbers.{number_at}}
use Rattle.oc_base.specs.declared.format.Format.TheVariants.{Elf32, Elf64, Coff32, Coff64, Mac32, Mac64, Omf, BigElf64, BigCoff32}
use Rattle.oc_linking.specs.{declared.terms.Kind.{Kind}, declared.terms.Width.{Width}, declared.terms.Width.TheVariants.{Four, Eight}, declared.terms.Check.TheVariants.{Wrap}}
use Rattle.oc_linking.specs.{declared.terms.Base.TheVariants.{Address}, declared.terms.Less.{Less}, declared.terms.Hint.{Hint as Use}, declared.terms.Hint.TheVariants.{Plain, Call}}
use Rattle.oc_linking.specs.{declared.terms.Mark.TheVariants.{NoType}, declared.terms.Visibility.TheVariants.{Default}, declared.terms.Binding.{Binding}}
use Rattle.oc_linking.specs.{declared.terms.Binding.TheVariants.{Local, Global, Undefined, Common, Weak}, declared.terms.Value.TheVariants.{Absolute}}
use Rattle.oc_linking.specs.declared.terms.Value.TheVariants as value
use Rattle.oc_linking.specs.declared.terms.Kind.TheVariants as kind
use Rattle.oc_linking.specs.declared.terms.Less.TheVariants as less
use Rattle.oc_linking.specs.declared.terms.Fallback.TheVariants as fallback
use Rattle.oc_chains.specs.declared.field.Field.{Field}
use Rattle.oc_neutral.specs.{declared.section.Section.{Section}, declared.symbol.Symbol.{Symbol}, declared.reloc.Reloc.{Reloc}, declared.reloc.Target.{Target}}
use Rattle.oc_neutral.specs.Objects.{Object}
use Rattle.oc_neutral.specs.declared.reloc.Target.TheVariants as target
use Rattle.oc_names.specs.{declared.edit.Edit.{Edit}, declared.edit.Choice.TheVariants.{Auto, Keep}, Wishes.{Wishes, no_wishes}}
use Rattle.oc_names.specs.declared.edit.Edit.TheVariants as edit
use Rattle.oc_hints.specs.{declared.hint.Hint.{Hint}, declared.key.SymbolKey.{SymbolKey}, declared.key.SectionKey.{SectionKey}, declared.key.FieldKey.{FieldKey}}
use Rattle.oc_hints.specs.{Hints.{hints_of, status_for}}
use Rattle.oc_hints.specs.declared.hint.Hint.TheVariants as hint
use Rattle.oc_hints.specs.declared.key.SymbolKey.TheVariants as symbols
use Rattle.oc_hints.specs.declared.key.SectionKey.TheVariants as sections
use Rattle.oc_hints.specs.declared.key.FieldKey.TheVariants as fields
use Rattle.oc_hints.specs.declared.key.FileKey.TheVariants as files
use Rattle.oc_hints.specs.declared.key.EditKey.TheVariants as edits

-- ... small objects

-- a symbol
abbrev symbol : List ℕ → Binding → Symbol
symbol name b = record { name = name; binding = b; mark = NoType; vis = Default; size = 0; pinned = false; number = 1 }

-- a section of that kind, name, bytes and tag, which is the first in the file
abbrev section : Kind → List ℕ → List ℕ → ℕ → Section
section kind name bytes tag = record { name = name; kind = kind; align = 1; size = length bytes; bytes = bytes; tag = tag; number = 1; group = None }

-- a field at an offset
abbrev field : ℕ → Less → Width → Use → Target → Field Reloc
field at l width how t = record { at = at; width = 4; item = record { target = t; form = record { base = Address; less = l; width = width; check = Wrap }; addend = pos 0; hint = how } }

-- an object of these
abbrev object : Format → List Section → List Symbol → List (List (Field Reloc)) → Object
object from sections symbols relocs = record { format = from; groups = []; sections = sections; symbols = symbols; relocs = relocs }

-- what is told of a conversion of an object that nothing is dropped or edited of
abbrev told : Format → Format → List Section → List Symbol → List (List (Field Reloc)) → List ℕ → Wishes → List Hint
told from to sections symbols relocs file wishes = hints_of (record {
  file = file;
  input = object from sections symbols relocs;
  output = object from sections symbols relocs;
  to = to;
  wishes = wishes;
})

-- ... symbols

abbrev SymbolRow : Type 0
SymbolRow = Format × Format × List ℕ × Binding × List SymbolKey

abbrev symbol_rows : List SymbolRow
symbol_rows =
    -- a weak definition, to COFF; not a weak reference, nor a strong one
    (Elf64, Coff64, codes "f", Weak (fallback.Place 0 0), symbols.WeakAtZero ∷ []) ∷ (Coff32, Coff32, codes "f", Weak (fallback.Place 0 0), symbols.WeakAtZero ∷ [])
    ∷ (Elf64, Coff64, codes "f", Weak fallback.Zero, []) ∷ (Elf64, Coff64, codes "f", Global (value.Place 0 0), []) ∷ (Elf64, Elf64, codes "f", Weak (fallback.Place 0 0), [])
    ∷ (Elf64, Mac64, codes "f", Weak (fallback.Place 0 0), [])
    -- two at signs, to ELF from another container
    ∷ (Coff64, Elf64, codes "??_7A@@6B@", Global (value.Place 0 0), symbols.VersionedName ∷ []) ∷ (Coff32, Elf32, codes "a@@b", Undefined, symbols.VersionedName ∷ [])
    ∷ (Coff32, Elf32, codes "a@8", Undefined, []) ∷ (Elf32, Elf32, codes "a@@b", Undefined, []) ∷ (Coff32, Mac32, codes "a@@b", Undefined, [])
    ∷ (Coff32, Elf32, codes "a@@b", Local (value.Place 0 0), [])
    -- a name that GNU ld sets, where it is defined
    ∷ (Mac64, Elf64, codes "_end", Global (value.Place 0 0), symbols.LinkerName ∷ []) ∷ (Mac64, BigElf64, codes "_edata", Common 4 4, symbols.LinkerName ∷ [])
    ∷ (Elf32, Elf32, codes "__bss_start", Weak (fallback.Place 0 0), symbols.LinkerName ∷ []) ∷ (Mac64, Elf64, codes "_end", Undefined, [])
    ∷ (Mac64, Elf64, codes "_etext", Global (value.Place 0 0), []) ∷ (Mac64, Elf64, codes "__end", Global (value.Place 0 0), []) ∷ (Mac64, Coff64, codes "_end", Global (value.Place 0 0), [])
    -- a common of Mach-O at any address, to another container
    ∷ (Mac32, Elf32, codes "c", Common 4 1, symbols.CommonAlignment ∷ []) ∷ (Mac32, Mac32, codes "c", Common 4 1, []) ∷ (Mac32, Elf32, codes "c", Common 1 1, [])
    ∷ (Mac32, Elf32, codes "c", Common 4 2, []) ∷ (Elf32, Mac32, codes "c", Common 4 1, [])
    -- code that gcc makes at link time
    ∷ (Elf64, Coff64, codes "__gnu_lto_slim", Common 1 1, symbols.LtoOnly ∷ []) ∷ (Elf64, Elf64, codes "__gnu_lto_slim", Common 1 1, [])
    ∷ (Elf64, Coff64, codes "__gnu_lto_v1", Common 1 1, [])
    -- a weak reference, to mac64
    ∷ (Elf64, Mac64, codes "_f", Weak fallback.Zero, symbols.WeakAbsent ∷ []) ∷ (Elf32, Mac32, codes "_f", Weak fallback.Zero, []) ∷ (Elf64, Mac64, codes "_f", Undefined, [])
    ∷ []

symbols-told : map (λ (r : SymbolRow). told r.0 r.1 [] (symbol r.2 r.3 ∷ []) [] [] no_wishes) symbol_rows ≡ map (λ (r : SymbolRow). map (λ key. hint.Symbol key r.2) r.4) symbol_rows
unfolding hints_of
symbols-told = refl

-- ... sections

abbrev SectionRow : Type 0
SectionRow = Format × Format × Kind × List ℕ × List ℕ × ℕ × List SectionKey

abbrev word : List ℕ
word = 0 ∷ 0 ∷ 0 ∷ 0 ∷ []

abbrev section_rows : List SectionRow
section_rows =
    -- functions of start-up that are data, to another container
    (Elf64, Coff64, kind.Data, codes ".ctors", word, 11, sections.StartUpLost ∷ []) ∷ (Elf64, Mac64, kind.ReadOnly, codes ".init_array.5", word, 11, sections.StartUpLost ∷ [])
    ∷ (Coff64, Elf64, kind.ReadOnly, codes ".CRT$XIU", word, 0x40000040, sections.StartUpLost ∷ []) ∷ (Mac64, Elf64, kind.ReadOnly, codes "__TEXT,__constructor", word, 0, sections.StartUpLost ∷ [])
    ∷ (Elf64, Elf64, kind.Data, codes ".ctors", word, 11, []) ∷ (Elf64, Coff64, kind.Init, codes ".init_array", word, 115, []) ∷ (Elf64, Coff64, kind.Data, codes ".ctors", [], 11, [])
    ∷ (Elf64, Coff64, kind.Data, codes ".CRT$XIU", word, 11, []) ∷ (Coff64, Elf64, kind.Init, codes ".CRT$XCU", word, 0x40000040, []) ∷ (Omf, Elf32, kind.Data, codes ".ctors", word, 0, [])
    -- functions for shut-down, to COFF
    ∷ (Elf64, Coff64, kind.Fini, codes ".fini_array", word, 123, sections.ShutDownNotRun ∷ []) ∷ (Coff64, Coff64, kind.Fini, codes ".CRT$XTU", word, 0x40000040, [])
    ∷ (Elf64, Mac64, kind.Fini, codes ".fini_array", word, 123, [])
    -- code that may be written, in ELF and in COFF
    ∷ (Elf64, Coff64, kind.Code, codes ".flat", word, 15, sections.WritableCode ∷ []) ∷ (Coff64, Elf64, kind.Code, codes ".flat", word, 0xE0000020, sections.WritableCode ∷ [])
    ∷ (Elf64, Coff64, kind.Code, codes ".text", word, 14, []) ∷ (Coff64, Elf64, kind.Code, codes ".text", word, 0x60000020, []) ∷ (Elf64, Elf64, kind.Code, codes ".flat", word, 15, [])
    ∷ (Mac64, Elf64, kind.Code, codes "__TEXT,__text", word, 0x80000400, [])
    -- COFF without rights
    ∷ (Coff32, Elf32, kind.ReadOnly, codes ".data", word, 0x40, sections.NoRights ∷ []) ∷ (Coff32, Elf32, kind.Code, codes ".text", word, 0x20, sections.NoRights ∷ [])
    ∷ (Coff32, Coff32, kind.ReadOnly, codes ".data", word, 0x40, []) ∷ (Coff32, Elf32, kind.ReadOnly, codes ".data", [], 0x40, []) ∷ (Coff32, Elf32, kind.Note, codes ".x", word, 0xA00, [])
    ∷ (Coff32, Elf32, kind.ReadOnly, codes ".drectve", codes " ", 0x800, []) ∷ (Elf32, Coff32, kind.ReadOnly, codes ".data", word, 10, [])
    -- directives
    ∷ (Coff64, Elf64, kind.Note, codes ".drectve", codes " -aligncomm:\"c\",5", 0xA00, sections.CommonAlignments ∷ [])
    ∷ (Coff64, Elf64, kind.Note, codes ".drectve", codes " -export:\"f\"", 0xA00, sections.DirectivesLost ∷ []) ∷ (Coff64, Coff64, kind.Note, codes ".drectve", codes " -export:\"f\"", 0xA00, [])
    ∷ (Coff64, Elf64, kind.Note, codes ".drectve", codes " /DEFAULTLIB:libcmt.lib", 0xA00, []) ∷ (Coff64, Elf64, kind.Data, codes ".data", codes " -export:\"f\"", 0xC0000040, [])
    ∷ []

sections-told : map (λ (r : SectionRow). told r.0 r.1 (section r.2 r.3 r.4 r.5 ∷ []) (symbol (codes "@feat.00") (Local (Absolute 1)) ∷ []) ([] ∷ []) [] no_wishes) section_rows
    ≡ map (λ (r : SectionRow). map (λ key. hint.Section key r.3) r.6) section_rows
unfolding hints_of
sections-told = refl

-- ... fields

-- a field at offset 1 of a section of this kind, against the first symbol
abbrev FieldRow : Type 0
FieldRow = Format × Format × Kind × ℕ × Less × Width × Use × Binding × List FieldKey

abbrev field_rows : List FieldRow
field_rows =
    -- an address of eight bytes in read-only data, to elf64
    (Coff64, Elf64, kind.ReadOnly, 0, less.Zero, Eight, Plain, Undefined, fields.AddressInReadOnly ∷ []) ∷ (Coff64, Elf64, kind.Data, 0, less.Zero, Eight, Plain, Undefined, [])
    ∷ (Elf64, Elf64, kind.ReadOnly, 0, less.Zero, Eight, Plain, Undefined, []) ∷ (Coff64, Elf64, kind.ReadOnly, 0, less.Place, Eight, Plain, Undefined, [])
    -- a distance from a segment, of OMF to COFF
    ∷ (Omf, Coff32, kind.Data, 0, less.Home, Four, Plain, Undefined, fields.DistanceForAddress ∷ []) ∷ (Omf, Coff32, kind.Data, 0, less.Zero, Four, Plain, Undefined, [])
    ∷ (Elf32, Coff32, kind.Data, 0, less.Home, Four, Plain, Undefined, [])
    -- a call, a jump, and a load that only look alike, to mac64 and from COFF to ELF
    ∷ (Elf64, Mac64, kind.Code, 0xE8, less.Place, Four, Plain, Undefined, fields.CallWithoutStub ∷ []) ∷ (Elf64, Mac64, kind.Code, 0xE9, less.Place, Four, Plain, Undefined, fields.CallWithoutStub ∷ [])
    ∷ (Elf64, Mac64, kind.Code, 0x05, less.Place, Four, Plain, Undefined, []) ∷ (Elf64, Mac64, kind.Code, 0xE8, less.Place, Four, Call, Undefined, [])
    ∷ (Elf64, Mac64, kind.Code, 0xE8, less.Place, Four, Plain, Global (value.Place 0 0), []) ∷ (Elf64, Mac64, kind.Data, 0xE8, less.Place, Four, Plain, Undefined, [])
    ∷ (Coff64, Elf64, kind.Code, 0xE8, less.Place, Four, Plain, Undefined, fields.CallRecompile ∷ []) ∷ (Elf64, Elf64, kind.Code, 0xE8, less.Place, Four, Plain, Undefined, [])
    -- an address of four bytes, to mac64 and to elf32
    ∷ (Elf64, Mac64, kind.Data, 0, less.Zero, Four, Plain, Undefined, fields.AddressOutOfRange ∷ []) ∷ (Elf64, Mac64, kind.Data, 0, less.Zero, Eight, Plain, Undefined, [])
    ∷ (Coff32, Elf32, kind.Code, 0, less.Zero, Four, Plain, Undefined, fields.TextRelocations ∷ []) ∷ (Mac32, Elf32, kind.ReadOnly, 0, less.Zero, Four, Plain, Undefined, fields.TextRelocations ∷ [])
    ∷ (Coff32, Elf32, kind.Data, 0, less.Zero, Four, Plain, Undefined, []) ∷ (Elf32, Elf32, kind.Code, 0, less.Zero, Four, Plain, Undefined, [])
    ∷ []

fields-told : map (λ (r : FieldRow). told r.0 r.1 (section r.2 (codes ".s") (r.3 ∷ word) 0x60000020 ∷ []) (symbol (codes "@feat.00") r.7 ∷ []) ((field 1 r.4 r.5 r.6 (target.Symbol 0) ∷ []) ∷ []) [] no_wishes) field_rows
    ≡ map (λ (r : FieldRow). map (λ key. hint.Field key (codes ".s") 1 1) r.8) field_rows
unfolding hints_of
fields-told = refl

-- of the fields of a section the first is told, and how many there are; then those of the next
two-sections : told Elf64 Mac64
    (section kind.Code (codes "a") [] 14 ∷ section kind.Data (codes "b") [] 11 ∷ section kind.Data (codes "c") [] 11 ∷ []) (symbol (codes "f") Undefined ∷ [])
    ((field 4 less.Zero Eight Plain (target.Symbol 0) ∷ field 8 less.Zero Four Plain (target.Symbol 0) ∷ field 12 less.Zero Four Plain (target.Symbol 0) ∷ []) ∷ []
    ∷ (field 0 less.Zero Four Plain (target.Symbol 0) ∷ []) ∷ []) [] no_wishes
    ≡ hint.Field fields.AddressOutOfRange (codes "a") 8 2 ∷ hint.Field fields.AddressOutOfRange (codes "c") 0 1 ∷ []
unfolding hints_of
two-sections = refl

-- a literal of Mach-O that is named by its section, to Mach-O: of texts, and not of other data
literals-told : map (λ (r : Format × ℕ). told Mac64 r.0 (section kind.ReadOnly (codes "__TEXT,__x") [] r.1 ∷ []) [] ((field 0 less.Place Four Plain (target.Section 0) ∷ []) ∷ []) [] no_wishes)
    ((Mac64, 2) ∷ (Mac64, 14) ∷ (Mac64, 0) ∷ (Elf64, 2) ∷ [])
    ≡ (hint.Field fields.SplitLiterals (codes "__TEXT,__x") 0 1 ∷ []) ∷ (hint.Field fields.SplitLiterals (codes "__TEXT,__x") 0 1 ∷ []) ∷ [] ∷ [] ∷ []
unfolding hints_of
literals-told = refl

-- ... what the file says

-- a header of ELF64 with section headers from 64 on, of which the second has these flags, in the third and fourth byte
abbrev elf64_file : ℕ → ℕ → List ℕ
elf64_file third fourth = replicate 40 0 ++ (64 ∷ replicate 7 0) ++ replicate 16 0 ++ replicate 64 0 ++ replicate 8 0 ++ (6 ∷ 0 ∷ third ∷ fourth ∷ 0 ∷ 0 ∷ 0 ∷ 0 ∷ [])

-- SHF_GNU_RETAIN and SHF_EXCLUDE, of sections of the program
flags-told : map (λ (r : Kind × ℕ × ℕ). told Elf64 Elf64 (section r.0 (codes "s") word 14 ∷ []) [] ([] ∷ []) (elf64_file r.1 r.2) no_wishes)
    ((kind.Code, 0x20, 0) ∷ (kind.Code, 0, 0x80) ∷ (kind.Note, 0, 0x80) ∷ (kind.Code, 0, 0) ∷ [])
    ≡ (hint.Section sections.KeptSection (codes "s") ∷ []) ∷ (hint.Section sections.ExcludedSection (codes "s") ∷ []) ∷ [] ∷ [] ∷ []
unfolding hints_of number_at
flags-told = refl

-- MH_SUBSECTIONS_VIA_SYMBOLS, within Mach-O
divided-told : map (λ (r : Format × ℕ). told Mac64 r.0 [] [] [] (replicate 25 0 ++ r.1 ∷ 0 ∷ 0 ∷ []) no_wishes) ((Mac64, 0x20) ∷ (Mac64, 0) ∷ (Elf64, 0x20) ∷ [])
    ≡ (hint.File files.WholeSections ∷ []) ∷ [] ∷ [] ∷ []
unfolding hints_of number_at
divided-told = refl

-- code without the mark of safe handlers, to COFF for i386
safeseh-told : map (λ (r : Format × Format × List ℕ × List ℕ). told r.0 r.1 (section kind.Code (codes ".text") r.2 14 ∷ []) (symbol r.3 (Local (Absolute 1)) ∷ []) ([] ∷ []) [] no_wishes)
    ((Elf32, Coff32, word, codes "f") ∷ (Elf32, BigCoff32, word, codes "f") ∷ (Elf32, Coff32, word, codes "@feat.00") ∷ (Elf32, Coff32, [], codes "f") ∷ (Elf64, Coff64, word, codes "f")
    ∷ (Elf32, Mac32, word, codes "f") ∷ [])
    ≡ (hint.File files.Safeseh ∷ []) ∷ (hint.File files.Safeseh ∷ []) ∷ [] ∷ [] ∷ [] ∷ [] ∷ []
unfolding hints_of
safeseh-told = refl

-- ... tables for unwinding

-- an object with a table and a name, of which the tables are dropped on the way to COFF, and kept where that is asked for
abbrev thrower : List ℕ → Format → Wishes → List Hint
thrower name to wishes = told Elf64 to (section kind.Exception (codes ".eh_frame") word 10 ∷ []) (symbol name Undefined ∷ []) ([] ∷ []) [] wishes

handlers-told : thrower (codes "__gxx_personality_v0") Coff64 no_wishes ∷ thrower (codes "_Unwind_Resume") Mac64 no_wishes ∷ thrower (codes "_CxxThrowException") Coff64 no_wishes
    ∷ thrower (codes "__gxx_personality_v0") Elf64 no_wishes ∷ thrower (codes "__gxx_personality_v0") Coff64 (record { edits = []; debug = Auto; exceptions = Keep })
    ∷ thrower (codes "cos") Coff64 no_wishes ∷ told Elf64 Coff64 [] (symbol (codes "__cxa_throw") Undefined ∷ []) [] [] no_wishes ∷ []
    ≡ (hint.Symbol symbols.NoHandler (codes "__gxx_personality_v0") ∷ []) ∷ (hint.Symbol symbols.NoHandler (codes "_Unwind_Resume") ∷ [])
    ∷ (hint.Symbol symbols.NoHandler (codes "_CxxThrowException") ∷ []) ∷ [] ∷ [] ∷ [] ∷ [] ∷ []
unfolding hints_of
handlers-told = refl

-- ... edits

-- the hints of these edits, of an object with a global `f` and a local `g`
abbrev edited : List Edit → List Hint
edited es = told Elf64 Elf64 [] (symbol (codes "f") (Global (Absolute 1)) ∷ symbol (codes "g") (Local (Absolute 1)) ∷ []) [] [] (record { edits = es; debug = Auto; exceptions = Auto })

edits-told : edited (edit.Rename (codes "f") (codes "h") ∷ edit.Rename (codes "g") (codes "h") ∷ []) ∷ edited (edit.Prefix (codes "f") [] ∷ edit.Suffix (codes "x") [] ∷ [])
    ∷ edited (edit.Weaken (codes "f") ∷ edit.MakeLocal (codes "u") ∷ edit.Underscore ∷ []) ∷ edited (edit.Alias (codes "f") (codes "h") ∷ [])
    ∷ edited (edit.Alias (codes "f") (codes "h") ∷ edit.Underscore ∷ []) ∷ []
    ≡ (hint.Edit edits.WithoutEffect (codes "g") ∷ []) ∷ (hint.Edit edits.WithoutEffect (codes "x") ∷ []) ∷ (hint.Edit edits.WithoutEffect (codes "u") ∷ []) ∷ []
    ∷ (hint.Edit edits.FinalName (codes "f") ∷ []) ∷ []
unfolding hints_of
edits-told = refl

-- ... statuses

-- one silent hint decides, then a loud one
statuses : status_for [] ∷ status_for (hint.Edit edits.WithoutEffect [] ∷ []) ∷ status_for (hint.File files.Safeseh ∷ hint.Edit edits.FinalName [] ∷ [])
    ∷ status_for (hint.File files.Safeseh ∷ hint.Section sections.KeptSection [] ∷ []) ∷ []
    ≡ 0 ∷ 0 ∷ 9 ∷ 10 ∷ []
statuses = refl
