-- The hints of a conversion, in the order of the table of keys, and then in that of the file (our profile).
use Rattle.std.specs.{Prelude.{ℕ, ◌+◌, Bool, true, false, if◌then◌else◌, List, [], ◌∷◌, ◌++◌, count_by, find}, List.{flat_map, list_any}, Option.{option_map_or}}
use Rattle.oc_chains.specs.{declared.field.Field.{Field}, Lists.{list_of}}
use Rattle.oc_neutral.specs.{declared.reloc.Reloc.{Reloc}, declared.section.Section.{Section}, declared.symbol.Symbol.{Symbol}, Objects.{Object}}
use Rattle.oc_names.specs.declared.edit.Edit.{Edit}
use Rattle.oc_hints.specs.{declared.key.Class.{Class}, declared.key.Class.TheVariants.{Silent, Loud, Note}, declared.hint.Hint.{Hint}, Case.{Case}, Classes.{class_of}}
use Rattle.oc_hints.specs.{declared.key.SymbolKey.{SymbolKey}, Symbols.{concerns_symbols, symbol_meets, symbols_for}}
use Rattle.oc_hints.specs.{declared.key.SectionKey.{SectionKey}, Sections.{concerns_sections, section_meets, sections_for}}
use Rattle.oc_hints.specs.{declared.key.FieldKey.{FieldKey}, Fields.{concerns_fields, field_meets}}
use Rattle.oc_hints.specs.{declared.key.FileKey.{FileKey}, declared.key.EditKey.{EditKey}, Files.{concerns_edits, edit_meets, file_meets, name_of}}
use Rattle.oc_hints.specs.declared.hint.Hint.TheVariants as hint
use Rattle.oc_hints.specs.declared.key.SymbolKey.TheVariants as symbol
use Rattle.oc_hints.specs.declared.key.SectionKey.TheVariants as section
use Rattle.oc_hints.specs.declared.key.FieldKey.TheVariants as field
use Rattle.oc_hints.specs.declared.key.FileKey.TheVariants as file
use Rattle.oc_hints.specs.declared.key.EditKey.TheVariants as edit

-- what is given for each thing of a list, whose first one is at a position
abbrev pub each_from : {X : Type 0} → (ℕ → X → List Hint) → ℕ → List X → List Hint
each_from give at [] = []
each_from give at (x ∷ xs) = give at x ++ each_from give (at + 1) xs

-- ... of one key

-- of a symbol
abbrev pub symbol_hint : SymbolKey → Symbol → List Hint
symbol_hint key s = if symbol_meets key s then hint.Symbol key s.name ∷ [] else []

-- of all symbols
abbrev pub symbol_hints : SymbolKey → Case → List Hint
symbol_hints key x = if concerns_symbols key x then flat_map (symbol_hint key) (symbols_for key x) else []

-- of a section
abbrev pub section_hint : SectionKey → Case → Section → List Hint
section_hint key x s = if section_meets key x s then hint.Section key s.name ∷ [] else []

-- of all sections
abbrev pub section_hints : SectionKey → Case → List Hint
section_hints key x = if concerns_sections key x then flat_map (section_hint key x) (sections_for key x) else []

-- the key is about a field of a section
abbrev pub meets : FieldKey → Object → Section → Field Reloc → Bool
meets key n s f = field_meets key n s f.at f.item

-- of the fields of a section at a position: the first that the key is about, and how many there are
abbrev pub field_hint : FieldKey → Object → ℕ → Section → List Hint
field_hint key n k s =
    option_map_or (λ (f : Field Reloc). hint.Field key s.name f.at (count_by (meets key n s) (list_of n.relocs k)) ∷ [])
    (find (meets key n s) (list_of n.relocs k)) []

-- of all fields
abbrev pub field_hints : FieldKey → Case → List Hint
field_hints key x = if concerns_fields key x then each_from (field_hint key x.output) 0 x.output.sections else []

-- of the file
abbrev pub file_hints : FileKey → Case → List Hint
file_hints key x = if file_meets key x then hint.File key ∷ [] else []

-- of an edit
abbrev pub edit_hint : EditKey → Case → Edit → List Hint
edit_hint key x e = if edit_meets key x e then hint.Edit key (name_of e) ∷ [] else []

-- of all edits
abbrev pub edit_hints : EditKey → Case → List Hint
edit_hints key x = if concerns_edits key x then flat_map (edit_hint key x) x.wishes.edits else []

-- ... of all keys

-- names and functions that a linker or start-up code takes otherwise
abbrev pub name_hints : Case → List Hint
name_hints x =
    symbol_hints symbol.WeakAtZero x
    ++ (section_hints section.StartUpLost x
    ++ (section_hints section.ShutDownNotRun x ++ (symbol_hints symbol.VersionedName x ++ symbol_hints symbol.LinkerName x)))

-- what sections and commons may be and have
abbrev pub right_hints : Case → List Hint
right_hints x =
    field_hints field.AddressInReadOnly x
    ++ (section_hints section.WritableCode x
    ++ (section_hints section.NoRights x
    ++ (symbol_hints symbol.CommonAlignment x ++ (section_hints section.CommonAlignments x ++ section_hints section.DirectivesLost x))))

-- what refers to other things, and what stays
abbrev pub reference_hints : Case → List Hint
reference_hints x =
    symbol_hints symbol.NoHandler x
    ++ (field_hints field.DistanceForAddress x
    ++ (field_hints field.CallWithoutStub x
    ++ (field_hints field.SplitLiterals x ++ (section_hints section.KeptSection x ++ section_hints section.ExcludedSection x))))

-- what linkers say of code and calls
abbrev pub call_hints : Case → List Hint
call_hints x =
    file_hints file.WholeSections x ++ (symbol_hints symbol.LtoOnly x ++ (field_hints field.CallRecompile x ++ field_hints field.AddressOutOfRange x))

-- what they say of names and sections
abbrev pub link_hints : Case → List Hint
link_hints x =
    symbol_hints symbol.WeakAbsent x ++ (file_hints file.Safeseh x ++ (field_hints field.TextRelocations x ++ file_hints file.ManySections x))

-- what is asked for and does less than it seems
abbrev pub wish_hints : Case → List Hint
wish_hints x = edit_hints edit.WithoutEffect x ++ edit_hints edit.FinalName x

-- all: what no tool says, then what a linker says too, then notes
unfoldable pub hints_of : Case → List Hint
hints_of x = name_hints x ++ (right_hints x ++ (reference_hints x ++ (call_hints x ++ (link_hints x ++ wish_hints x))))

-- ... the status

-- a class is this one
abbrev pub is_silent : Class → Bool
is_silent Silent = true
is_silent Loud = false
is_silent Note = false

abbrev pub is_loud : Class → Bool
is_loud Silent = false
is_loud Loud = true
is_loud Note = false

-- no tool says what the hint says
abbrev pub is_silent_hint : Hint → Bool
is_silent_hint h = is_silent (class_of h)

-- a linker says it, too
abbrev pub is_loud_hint : Hint → Bool
is_loud_hint h = is_loud (class_of h)

-- the status of a run that tells these: 10 where one is silent, else 9 where one is loud, else 0
abbrev pub status_for : List Hint → ℕ
status_for hints =
    if list_any is_silent_hint hints then 10 else (if list_any is_loud_hint hints then 9 else 0)
