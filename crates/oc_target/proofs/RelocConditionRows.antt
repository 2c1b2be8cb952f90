-- What is refused of relocations, worked out by hand from the rules for each target (our profile; the standards' tables).
use Rattle.std.proofs.Common.{◌≡◌, ℕ, zero, suc, ◌^◌, true, false, List, [], ◌∷◌, Option, Some, None, refl}
use Rattle.std.specs.Prelude.{ℤ, pos, neg_ℤ, codes, map}
use Rattle.oc_base.specs.{declared.format.Format.{Format}, declared.format.Format.TheVariants.{Elf32, Elf64, Coff32, Coff64, Mac32, Mac64, Omf}}
use Rattle.oc_base.specs.{declared.code.Code.{Code}, declared.code.Code.TheVariants.{TargetKind, NoForm, OffsetTooBig, EmptyEnd, AddendTooWide}}
use Rattle.oc_base.specs.{declared.fault.Phase.TheVariants.{TargetRelocation}, declared.fault.Fault.{Fault}}
use Rattle.oc_linking.specs.{declared.terms.Width.{Width}, declared.terms.Width.TheVariants.{One, Two, Four, Eight}, declared.terms.Check.{Check}}
use Rattle.oc_linking.specs.{declared.terms.Check.TheVariants.{Wrap, Signed, Unsigned, Either}, declared.terms.Hint.TheVariants.{Plain}}
use Rattle.oc_linking.specs.{declared.terms.Kind.TheVariants.{Code as CodeKind}, declared.terms.Mark.TheVariants.{NoType}}
use Rattle.oc_linking.specs.{declared.terms.Visibility.TheVariants.{Default}, declared.terms.Binding.{Binding}}
use Rattle.oc_linking.specs.{declared.terms.Binding.TheVariants.{Local, Global, Undefined, Common, Weak}, declared.terms.Base.{Base}}
use Rattle.oc_linking.specs.{declared.terms.Base.TheVariants.{Address, Slot, GotBase, HomeNumber}, declared.terms.Less.{Less}, Fits.{bytes_of}}
use Rattle.oc_linking.specs.declared.terms.Value.TheVariants as value
use Rattle.oc_linking.specs.declared.terms.Fallback.TheVariants as fallback
use Rattle.oc_linking.specs.declared.terms.Less.TheVariants as less
use Rattle.oc_algebra.specs.{declared.form.Form.{Form}, Fields.{to_field_of, field_for}, Residues.{residue_of, reduced_number}}
use Rattle.oc_chains.specs.{declared.field.Field.{Field}, Fields.{field}, Lists.{Lists}}
use Rattle.oc_neutral.specs.{declared.section.Section.{Section}, declared.symbol.Symbol.{Symbol}, declared.reloc.Target.{Target}, declared.reloc.Reloc.{Reloc}}
use Rattle.oc_neutral.specs.{Objects.{Object}, Spelling.{written_row}, Shifts.{field_shift}, Stored.{is_stored, stored_constant}}
use Rattle.oc_neutral.specs.TargetRelocations.{reloc_conditions}
use Rattle.oc_neutral.specs.declared.reloc.Target.TheVariants as target
use Rattle.oc_target.specs.Expressible.{first_unfit_relocation}

-- a section of so many bytes with that number in the input; what its bytes are is not looked at
abbrev piece : ℕ → ℕ → Section
piece number size = record { name = []; kind = CodeKind; align = 1; size = size; bytes = []; tag = 0; number = number; group = None }

-- a symbol of that binding
abbrev bound : Binding → Symbol
bound binding = record { name = codes "x"; binding = binding; mark = NoType; vis = Default; size = 0; pinned = false; number = 0 }

-- two sections, numbers 1 and 4 in the input, and an empty one, number 6
abbrev sections : List Section
sections = piece 1 0x2000000 ∷ piece 4 64 ∷ piece 6 0 ∷ []

-- 0: Undefined; 1: a Global at section 1; 2: a Global number; 3: a Local number; 4: a Common; 5: a weak reference;
-- 6: a weak definition; 7: Weak, else symbol 2; 8: a Global in the empty section
abbrev symbols : List Symbol
symbols =
    bound Undefined
    ∷ bound (Global (value.Place 1 8))
    ∷ bound (Global (value.Absolute 5))
    ∷ bound (Local (value.Absolute 5))
    ∷ bound (Common 4 4)
    ∷ bound (Weak fallback.Zero)
    ∷ bound (Weak (fallback.Place 1 0))
    ∷ bound (Weak (fallback.Name 2))
    ∷ bound (Global (value.Place 2 0))
    ∷ []

-- a form
abbrev form : Base → Less → Width → Check → Form
form b l k c = record { base = b; less = l; width = k; check = c }

-- a relocation
abbrev to : Target → Form → ℤ → Reloc
to t f addend = record { target = t; form = f; addend = addend; hint = Plain }

-- the relocations of the three sections, of which one has a relocation
abbrev only : ℕ → Field Reloc → Lists Reloc
only zero x = (x ∷ []) ∷ [] ∷ [] ∷ []
only (suc k) x = [] ∷ (x ∷ []) ∷ [] ∷ []

-- the object with these relocations
abbrev holding : Lists Reloc → Object
holding relocs = record { format = Elf64; groups = []; sections = sections; symbols = symbols; relocs = relocs }

-- what a target refuses of one relocation at an offset of the section at a position
abbrev judged : Format → ℕ → ℕ → Reloc → Option Fault
judged format s at r = first_unfit_relocation format (holding (only s (field at (bytes_of r.form.width) r)))

-- the same of several, each by itself
abbrev all_judged : Format → ℕ → ℕ → List Reloc → List (Option Fault)
all_judged format s at relocs = map (judged format s at) relocs

-- a refusal in the section with that number, at an offset
abbrev refused : ℕ → Code → ℕ → Option Fault
refused number code at = Some (record { phase = TargetRelocation; index = number; code = code; place = at })

-- the distance of symbol 0, with an addend
abbrev distance : Width → Check → ℤ → Reloc
distance k c addend = to (target.Symbol 0) (form Address less.Place k c) addend

-- the address of symbol 0, with an addend
abbrev address : Width → Check → ℤ → Reloc
address k c addend = to (target.Symbol 0) (form Address less.Zero k c) addend

-- minus a number
abbrev minus : ℕ → ℤ
minus n = neg_ℤ (pos n)

-- ... AddendTooWide

-- REL32 has 4 more in its field: 0x7FFFFFFC makes 0x80000000, which is no signed number of four bytes, and 0x7FFFFFFB makes 0x7FFFFFFF
coff64-distance : all_judged Coff64 0 1
    (distance Four Signed (pos 0x7FFFFFFD)
    ∷ distance Four Signed (pos 0x7FFFFFFC)
    ∷ distance Four Signed (pos 0x7FFFFFFB)
    ∷ distance Four Signed (minus 0x80000004)
    ∷ distance Four Signed (minus 0x80000005)
    ∷ []) ≡
    refused 1 AddendTooWide 1 ∷ refused 1 AddendTooWide 1 ∷ None ∷ None ∷ refused 1 AddendTooWide 1 ∷ []
unfolding reloc_conditions field_shift written_row to_field_of field_for reduced_number residue_of
coff64-distance = refl

-- an ADDR32 with 0x80000000 could fit where it is linked; its addend is a signed number all the same
coff64-address : all_judged Coff64 1 3
    (address Four Unsigned (pos 0x7FFFFFFF)
    ∷ address Four Unsigned (pos 0x80000000)
    ∷ address Four Unsigned (minus 0x80000000)
    ∷ address Four Unsigned (minus 0x80000001)
    ∷ address Eight Wrap (minus (2 ^ 63))
    ∷ []) ≡
    None ∷ refused 4 AddendTooWide 3 ∷ None ∷ refused 4 AddendTooWide 3 ∷ None ∷ []
unfolding reloc_conditions field_shift written_row to_field_of field_for reduced_number residue_of
coff64-address = refl

-- SECTION has two bytes
coff-section : all_judged Coff64 0 0
    (to (target.Symbol 0) (form HomeNumber less.Zero Two Wrap) (pos 0x7FFF)
    ∷ to (target.Symbol 0) (form HomeNumber less.Zero Two Wrap) (pos 0x8000)
    ∷ []) ≡
    None ∷ refused 1 AddendTooWide 0 ∷ []
unfolding reloc_conditions field_shift written_row to_field_of field_for reduced_number residue_of
coff-section = refl

-- R_386_8, R_386_16 and R_386_PC16
elf32-narrow : all_judged Elf32 0 9
    (address One Either (pos 127)
    ∷ address One Either (pos 128)
    ∷ address One Either (minus 128)
    ∷ address One Either (minus 129)
    ∷ address Two Either (pos 0x8000)
    ∷ distance Two Signed (minus 0x8001)
    ∷ distance Two Signed (minus 0x8000)
    ∷ []) ≡
    None ∷ refused 1 AddendTooWide 9 ∷ None ∷ refused 1 AddendTooWide 9 ∷ refused 1 AddendTooWide 9 ∷ refused 1 AddendTooWide 9 ∷ None ∷ []
unfolding reloc_conditions field_shift written_row to_field_of field_for reduced_number residue_of
elf32-narrow = refl

-- an addend in the entry has eight bytes
elf64-explicit : all_judged Elf64 0 9
    (address One Either (pos 128)
    ∷ distance Four Signed (pos 0x7FFFFFFD)
    ∷ distance Two Signed (minus (2 ^ 63))
    ∷ []) ≡
    None ∷ None ∷ None ∷ []
unfolding reloc_conditions field_shift written_row to_field_of field_for reduced_number residue_of
elf64-explicit = refl

-- four bytes hold every addend of 32 bits: REL32, VANILLA, a self-relative fixup
words-of-32 : map (λ format. judged format 0 1 (distance Four Wrap (pos 0x7FFFFFFF))) (Elf32 ∷ Coff32 ∷ Mac32 ∷ Omf ∷ []) ≡
    None ∷ None ∷ None ∷ None ∷ []
unfolding reloc_conditions field_shift written_row to_field_of field_for reduced_number residue_of
words-of-32 = refl

-- SIGNED and GOT have 4 more in their fields, UNSIGNED has nothing more
mac64-distance : all_judged Mac64 0 1
    (distance Four Signed (pos 0x7FFFFFFC)
    ∷ distance Four Signed (pos 0x7FFFFFFB)
    ∷ to (target.Symbol 0) (form Slot less.Place Four Signed) (pos 0x7FFFFFFC)
    ∷ address Four Unsigned (pos 0x7FFFFFFF)
    ∷ address Four Unsigned (pos 0x80000000)
    ∷ []) ≡
    refused 1 AddendTooWide 1 ∷ None ∷ refused 1 AddendTooWide 1 ∷ None ∷ refused 1 AddendTooWide 1 ∷ []
unfolding reloc_conditions field_shift written_row to_field_of field_for reduced_number residue_of
mac64-distance = refl

-- a difference is taken from the start of the section
mac64-difference : all_judged Mac64 0 1
    (to (target.Symbol 0) (form Address (less.Section 1) Four Signed) (pos 0x7FFFFFFF)
    ∷ to (target.Symbol 0) (form Address (less.Section 1) Four Signed) (pos 0x80000000)
    ∷ distance Eight Wrap (pos 0x7FFFFFFFFFFFFFFF)
    ∷ []) ≡
    None ∷ refused 1 AddendTooWide 1 ∷ None ∷ []
unfolding reloc_conditions field_shift written_row to_field_of field_for reduced_number residue_of
mac64-difference = refl

-- of SIGNED, of a difference, and of an eight-byte distance at 16, which is taken from the start of its section
mac64-shifts : map (field_shift Mac64 16)
    (distance Four Signed (pos 24)
    ∷ to (target.Symbol 0) (form Address (less.Section 1) Eight Wrap) (pos 0)
    ∷ distance Eight Wrap (pos 16)
    ∷ []) ≡
    Some (minus 4) ∷ Some (pos 0) ∷ Some (pos 16) ∷ []
unfolding reloc_conditions field_shift written_row to_field_of field_for reduced_number residue_of
mac64-shifts = refl

-- ... NoForm

-- R_X86_64_32S, R_X86_64_PC64, R_X86_64_GOTPCREL, R_X86_64_GOTOFF64, R_X86_64_GOTPC32, R_X86_64_16
coff64-forms : all_judged Coff64 0 3
    (address Four Signed (pos 0)
    ∷ distance Eight Wrap (pos 0)
    ∷ to (target.Symbol 0) (form Slot less.Place Four Signed) (minus 4)
    ∷ to (target.Symbol 0) (form Address less.GotBase Eight Wrap) (pos 0)
    ∷ to (target.Symbol 0) (form GotBase less.Place Four Signed) (pos 0)
    ∷ address Two Either (pos 0)
    ∷ []) ≡
    refused 1 NoForm 3 ∷ refused 1 NoForm 3 ∷ refused 1 NoForm 3 ∷ refused 1 NoForm 3 ∷ refused 1 NoForm 3 ∷ refused 1 NoForm 3 ∷ []
unfolding reloc_conditions field_shift written_row to_field_of field_for reduced_number residue_of
coff64-forms = refl

-- ADDR32NB, SECREL, SECTION, and a difference from another section
elf64-forms : all_judged Elf64 1 8
    (to (target.Symbol 0) (form Address less.ImageBase Four Unsigned) (pos 0)
    ∷ to (target.Symbol 0) (form Address less.Home Four Unsigned) (pos 0)
    ∷ to (target.Symbol 0) (form HomeNumber less.Zero Two Wrap) (pos 0)
    ∷ to (target.Symbol 0) (form Address (less.Section 0) Four Signed) (pos 0)
    ∷ []) ≡
    refused 4 NoForm 8 ∷ refused 4 NoForm 8 ∷ refused 4 NoForm 8 ∷ refused 4 NoForm 8 ∷ []
unfolding reloc_conditions field_shift written_row to_field_of field_for reduced_number residue_of
elf64-forms = refl

-- a difference of i386 from section 1
abbrev difference : Target → Reloc
difference t = to t (form Address (less.Section 1) Four Wrap) (pos 0)

-- a section; Undefined; a Global number; a Common; a Weak with a place
mac32-ends : all_judged Mac32 0 4
    (map difference (target.Section 0 ∷ target.Symbol 0 ∷ target.Symbol 2 ∷ target.Symbol 4 ∷ target.Symbol 6 ∷ [])) ≡
    None ∷ refused 1 NoForm 4 ∷ refused 1 NoForm 4 ∷ refused 1 NoForm 4 ∷ refused 1 NoForm 4 ∷ []
unfolding reloc_conditions field_shift written_row to_field_of field_for reduced_number residue_of
mac32-ends = refl

-- a Global in section 1, from another section and from that one, where two addresses would be read as a constant
mac32-global : all_judged Mac32 0 4 (map (λ k. to (target.Symbol 1) (form Address (less.Section k) Four Wrap) (pos 0)) (0 ∷ 1 ∷ [])) ≡
    None ∷ refused 1 NoForm 4 ∷ []
unfolding reloc_conditions field_shift written_row to_field_of field_for reduced_number residue_of
mac32-global = refl

-- SUBTRACTOR and UNSIGNED name symbols, wherever they lie
mac64-ends : all_judged Mac64 0 4
    (map (λ t. to t (form Address (less.Section 2) Eight Wrap) (pos 0))
    (target.Section 2 ∷ target.Symbol 0 ∷ target.Symbol 2 ∷ target.Symbol 6 ∷ target.Symbol 8 ∷ [])) ≡
    None ∷ None ∷ None ∷ None ∷ None ∷ []
unfolding reloc_conditions field_shift written_row to_field_of field_for reduced_number residue_of
mac64-ends = refl

-- ... TargetKind

-- symbols 0 to 8
abbrev all_symbols : List Target
all_symbols = map target.Symbol (0 ∷ 1 ∷ 2 ∷ 3 ∷ 4 ∷ 5 ∷ 6 ∷ 7 ∷ 8 ∷ [])

-- the address of each symbol: no format writes a Local number as a target
local-number : all_judged Elf64 0 1 (map (λ t. to t (form Address less.Zero Eight Wrap) (pos 0)) all_symbols) ≡
    None ∷ None ∷ None ∷ refused 1 TargetKind 1 ∷ None ∷ None ∷ None ∷ None ∷ None ∷ []
unfolding reloc_conditions field_shift written_row to_field_of field_for reduced_number residue_of
local-number = refl

-- the GOT has entries for nonlocal symbols alone
slots : all_judged Elf64 0 1 (map (λ t. to t (form Slot less.Place Four Signed) (pos 0)) (target.Section 0 ∷ all_symbols)) ≡
    refused 1 TargetKind 1 ∷ None ∷ None ∷ None ∷ refused 1 TargetKind 1 ∷ None ∷ None ∷ None ∷ None ∷ None ∷ []
unfolding reloc_conditions field_shift written_row to_field_of field_for reduced_number residue_of
slots = refl

-- the symbol of R_X86_64_GOTPC32 is not used, and is nonlocal all the same
got-base : all_judged Elf64 0 1 (map (λ t. to t (form GotBase less.Place Four Signed) (pos 0)) (target.Section 0 ∷ target.Symbol 0 ∷ [])) ≡
    refused 1 TargetKind 1 ∷ None ∷ []
unfolding reloc_conditions field_shift written_row to_field_of field_for reduced_number residue_of
got-base = refl

-- SECREL: a number and a weak reference lie nowhere; a Weak that names a number is a name
homes : all_judged Coff64 0 1 (map (λ t. to t (form Address less.Home Four Unsigned) (pos 0)) (target.Section 0 ∷ all_symbols)) ≡
    None ∷ None ∷ None ∷ refused 1 TargetKind 1 ∷ refused 1 TargetKind 1 ∷ None ∷ refused 1 TargetKind 1 ∷ None ∷ None ∷ None ∷ []
unfolding reloc_conditions field_shift written_row to_field_of field_for reduced_number residue_of
homes = refl

-- SECTION
home-numbers : all_judged Coff32 0 1 (map (λ t. to t (form HomeNumber less.Zero Two Wrap) (pos 0)) (target.Section 0 ∷ all_symbols)) ≡
    None ∷ None ∷ None ∷ refused 1 TargetKind 1 ∷ refused 1 TargetKind 1 ∷ None ∷ refused 1 TargetKind 1 ∷ None ∷ None ∷ None ∷ []
unfolding reloc_conditions field_shift written_row to_field_of field_for reduced_number residue_of
home-numbers = refl

-- ELF has no SECREL, and the target is judged first
kind-before-form : all_judged Elf32 0 1 (map (λ t. to t (form Address less.Home Four Wrap) (pos 0)) (target.Symbol 5 ∷ target.Symbol 0 ∷ [])) ≡
    refused 1 TargetKind 1 ∷ refused 1 NoForm 1 ∷ []
unfolding reloc_conditions field_shift written_row to_field_of field_for reduced_number residue_of
kind-before-form = refl

-- ... OffsetTooBig and EmptyEnd

-- 24 bits for the offset of a scattered entry
far-difference : map (λ at. judged Mac32 0 at (difference (target.Section 0))) (0xFFFFFF ∷ 0x1000000 ∷ []) ≡
    None ∷ refused 1 OffsetTooBig 0x1000000 ∷ []
unfolding reloc_conditions field_shift written_row to_field_of field_for reduced_number residue_of
far-difference = refl

-- an entry that is not scattered has more
far-address : judged Mac32 0 (2 ^ 24) (distance Four Wrap (pos 0)) ≡ None
unfolding reloc_conditions field_shift written_row to_field_of field_for reduced_number residue_of
far-address = refl

-- the target's end: the empty section, a Global in it; the other end; and both in sections that have bytes
empty-ends : all_judged Mac32 0 4
    (difference (target.Section 2)
    ∷ difference (target.Symbol 8)
    ∷ to (target.Section 0) (form Address (less.Section 2) Four Wrap) (pos 0)
    ∷ difference (target.Section 0)
    ∷ []) ≡
    refused 1 EmptyEnd 4 ∷ refused 1 EmptyEnd 4 ∷ refused 1 EmptyEnd 4 ∷ None ∷ []
unfolding reloc_conditions field_shift written_row to_field_of field_for reduced_number residue_of
empty-ends = refl

-- a form, then an offset, then an end
order-of-conditions : all_judged Mac32 0 (2 ^ 24) (difference (target.Symbol 0) ∷ difference (target.Section 2) ∷ []) ≡
    refused 1 NoForm (2 ^ 24) ∷ refused 1 OffsetTooBig (2 ^ 24) ∷ []
unfolding reloc_conditions field_shift written_row to_field_of field_for reduced_number residue_of
order-of-conditions = refl

-- ... what is stored

-- an eight-byte distance of a target
abbrev long_distance : Target → Reloc
long_distance t = to t (form Address less.Place Eight Wrap) (pos 24)

-- only an eight-byte distance of the field's own section
stored-alone : map
    (is_stored Mac64 1) (long_distance (target.Section 1)
    ∷ long_distance (target.Section 0)
    ∷ long_distance (target.Symbol 1)
    ∷ to (target.Section 1) (form Address less.Place Four Signed) (pos 0)
    ∷ to (target.Section 1) (form Address less.Zero Eight Wrap) (pos 0)
    ∷ []) ≡
    true ∷ false ∷ false ∷ false ∷ false ∷ []
stored-alone = refl

-- in mac64 alone
stored-where : map
    (λ format. is_stored format 1 (long_distance (target.Section 1))) (Elf32
    ∷ Elf64
    ∷ Coff32
    ∷ Coff64
    ∷ Mac32
    ∷ Mac64
    ∷ Omf
    ∷ []) ≡
    false ∷ false ∷ false ∷ false ∷ false ∷ true ∷ false ∷ []
stored-where = refl

-- the section's start, less the place at offset 8, and 24
stored-number : stored_constant 8 (pos 24) ≡ pos 16
stored-number = refl

-- in mac64 it is a constant; COFF has no such form
stored-needs-nothing : map (λ format. judged format 1 8 (long_distance (target.Section 1))) (Mac64 ∷ Elf64 ∷ Coff64 ∷ []) ≡
    None ∷ None ∷ refused 4 NoForm 8 ∷ []
unfolding reloc_conditions field_shift written_row to_field_of field_for reduced_number residue_of
stored-needs-nothing = refl

-- ... of several

-- in section 0 a good one at 10, then two that are refused; in section 1 one that is refused, at a lesser offset
abbrev several : Lists Reloc
several =
    (field 10 4 (distance Four Signed (pos 0))
    ∷ field 20 4 (address Four Signed (pos 0))
    ∷ field 40 4 (distance Four Signed (pos 0x7FFFFFFF))
    ∷ [])
    ∷ (field 8 8 (to (target.Symbol 3) (form Address less.Zero Eight Wrap) (pos 0)) ∷ [])
    ∷ []
    ∷ []

-- by the section's position, then by offset
first-of-several : first_unfit_relocation Coff64 (holding several) ≡ refused 1 NoForm 20
unfolding reloc_conditions field_shift written_row to_field_of field_for reduced_number residue_of
first-of-several = refl
