-- The conditions of the Edit phase and their order, computed on small objects: each by itself, and with its neighbour, where the first is told.
use Rattle.std.proofs.Common.{◌≡◌, ℕ, true, List, [], ◌∷◌, Option, refl}
use Rattle.std.specs.Prelude.{codes, slice_get, Some, None, pos, replicate}
use Rattle.oc_base.specs.{declared.code.Code.TheVariants.{SymbolInDropped, RelocToDropped, PinnedWeak, TargetKind, FoldTooWide, LimitSymbols, EmptyName, NameClash}}
use Rattle.oc_base.specs.{declared.fault.Fault.{Fault}, declared.format.Format.{Format}, declared.format.Format.TheVariants.{Elf64, Coff64}}
use Rattle.oc_linking.specs.{declared.terms.Kind.TheVariants.{Code, Data, Debug}, declared.terms.Check.TheVariants.{Signed, Wrap}}
use Rattle.oc_linking.specs.{declared.terms.Value.TheVariants.{Place, Absolute}, declared.terms.Binding.{Binding}}
use Rattle.oc_linking.specs.declared.terms.Binding.TheVariants.{Global, Weak}
use Rattle.oc_linking.specs.declared.terms.Base.TheVariants as base
use Rattle.oc_linking.specs.declared.terms.Less.TheVariants as less
use Rattle.oc_linking.specs.declared.terms.Fallback.TheVariants as fallback
use Rattle.oc_linking.specs.FirstFault.{first_broken}
use Rattle.oc_algebra.specs.{Residues.{residue_of, reduced_number}}
use Rattle.oc_chains.specs.declared.field.Field.{Field}
use Rattle.oc_neutral.specs.{declared.symbol.Symbol.{Symbol}, declared.reloc.Reloc.{Reloc}, Objects.{Object}}
use Rattle.oc_neutral.specs.declared.reloc.Target.TheVariants as target
use Rattle.oc_names.specs.{declared.edit.Edit.{Edit}, declared.edit.Edit.TheVariants.{Rename, Prefix, Weaken, MakeLocal}, Wishes.{Wishes}}
use Rattle.oc_drop.proofs.Examples.{symbol, section, object, field, group}
use Rattle.oc_names.proofs.Examples.{asked}
use Rattle.oc_equations.specs.{Faults.{are_too_many, each_of, edit_stages, fault_about, too_many}, Edited.{edit_fault}}

-- ... examples

-- the names that are edited
abbrev a : List ℕ
a = codes "a"

abbrev b : List ℕ
b = codes "b"

abbrev c : List ℕ
c = codes "c"

-- a pinned symbol
abbrev pinned : List ℕ → Binding → ℕ → Symbol
pinned name b number = record { name = name; binding = b; mark = (symbol name b number).mark; vis = (symbol name b number).vis; size = 0; pinned = true; number = number }

-- places in the first section, and in the second, which goes across formats
abbrev here : Binding
here = Global (Place 0 4)

abbrev gone : Binding
gone = Global (Place 1 0)

-- a field at an offset against the second section; and one against the symbol at position 0, less the first section
abbrev to_gone : ℕ → Field Reloc
to_gone at = field at (target.Section 1) base.Address less.Zero Wrap (pos 0)

abbrev difference : ℕ → Field Reloc
difference at = field at (target.Symbol 0) base.Address (less.Section 0) Signed (pos 2147483647)

-- sections with numbers 5, 6 (which goes) and 9, each in a group of its own
abbrev three : List Symbol → List (Field Reloc) → Object
three symbols fields =
    object Elf64 (group a ∷ group b ∷ group c ∷ [])
    (section Code (replicate 16 0) 5 (Some 0) ∷ section Debug (replicate 16 0) 6 (Some 1) ∷ section Data (replicate 16 0) 9 (Some 2) ∷ []) symbols (fields ∷ [] ∷ [] ∷ [])

-- the first fault of the edits from ELF to COFF
abbrev first : List Edit → Object → Option Fault
first edits n = edit_fault (asked edits) Coff64 n

-- ... each by itself

in-dropped : first [] (three (symbol b gone 3 ∷ []) []) ≡ Some (fault_about 3 SymbolInDropped 0)
in-dropped = refl

weak-in_dropped : first [] (three (symbol b (Weak (fallback.Place 1 0)) 3 ∷ []) []) ≡ Some (fault_about 3 SymbolInDropped 0)
weak-in_dropped = refl

to-dropped : first [] (three [] (to_gone 8 ∷ [])) ≡ Some (fault_about 5 RelocToDropped 8)
to-dropped = refl

pinned-weak : first (Weaken b ∷ []) (three (pinned b here 3 ∷ []) []) ≡ Some (fault_about 3 PinnedWeak 0)
pinned-weak = refl

weak-fallback : first (Weaken b ∷ []) (three (symbol b here 3 ∷ symbol c (Weak (fallback.Name 0)) 4 ∷ []) []) ≡ Some (fault_about 4 PinnedWeak 0)
weak-fallback = refl

number-fallback : first (MakeLocal b ∷ []) (three (symbol b (Global (Absolute 7)) 3 ∷ symbol c (Weak (fallback.Name 0)) 4 ∷ []) []) ≡ Some (fault_about 4 TargetKind 0)
number-fallback = refl

too-wide : first (MakeLocal b ∷ []) (three (symbol b here 3 ∷ []) (difference 8 ∷ [])) ≡ Some (fault_about 5 FoldTooWide 8)
unfolding residue_of reduced_number
too-wide = refl

-- the worked case of 167 further names of each of 100,000 symbols, and the greatest count
too-many : first_broken (too_many 16800010 ∷ []) ≡ Some (fault_about 0 LimitSymbols 16800010)
too-many = refl

most : first_broken (too_many 16777216 ∷ []) ≡ None
most = refl

empty-name : first (Prefix b [] ∷ []) (three (symbol b here 3 ∷ []) []) ≡ Some (fault_about 3 EmptyName 0)
empty-name = refl

-- the worked case: of the Globals 2 `a` and 3 `b` the first gets the name of the second
name-clash : first (Rename a b ∷ []) (three (symbol a here 2 ∷ symbol b here 3 ∷ []) []) ≡ Some (fault_about 3 NameClash 2)
name-clash = refl

-- the keys of groups are told by the numbers of their first sections that are left
key-clash : first (Rename a c ∷ []) (three (symbol a here 2 ∷ []) []) ≡ Some (fault_about 9 NameClash 5)
key-clash = refl

none-fails : first (Rename a b ∷ []) (three (symbol a here 2 ∷ []) []) ≡ None
none-fails = refl

-- ... each with its neighbour

-- a symbol in a section that goes, before a field that refers to it
symbol-before_field : first [] (three (symbol b gone 3 ∷ []) (to_gone 8 ∷ [])) ≡ Some (fault_about 3 SymbolInDropped 0)
symbol-before_field = refl

-- such a field, before a pinned symbol
field-before_pinned : first (Weaken b ∷ []) (three (pinned b here 3 ∷ []) (to_gone 8 ∷ [])) ≡ Some (fault_about 5 RelocToDropped 8)
field-before_pinned = refl

-- a pinned symbol, before a fallback; by options, and then by symbols
pinned-before_fallback : first (Weaken b ∷ Weaken c ∷ []) (three (symbol a (Weak (fallback.Name 1)) 2 ∷ symbol b here 3 ∷ pinned c here 4 ∷ []) []) ≡ Some (fault_about 4 PinnedWeak 0)
pinned-before_fallback = refl

option-before_symbol : first (Weaken c ∷ Weaken b ∷ []) (three (pinned b here 3 ∷ pinned c here 4 ∷ []) []) ≡ Some (fault_about 4 PinnedWeak 0)
option-before_symbol = refl

-- a fallback, before a constant that is too wide; by symbols
fallback-before_constant : first (MakeLocal b ∷ MakeLocal a ∷ []) (three (symbol b here 3 ∷ symbol a (Global (Absolute 7)) 2 ∷ symbol c (Weak (fallback.Name 1)) 4 ∷ []) (difference 8 ∷ []))
    ≡ Some (fault_about 4 TargetKind 0)
fallback-before_constant = refl

symbol-before_symbol : first (Weaken b ∷ MakeLocal a ∷ []) (three (symbol a (Global (Absolute 7)) 2 ∷ symbol b here 3 ∷ symbol c (Weak (fallback.Name 0)) 4 ∷ symbol (codes "d") (Weak (fallback.Name 1)) 5 ∷ []) [])
    ≡ Some (fault_about 4 TargetKind 0)
symbol-before_symbol = refl

-- a constant that is too wide, before names; by offsets
constant-before_name : first (MakeLocal b ∷ Prefix c [] ∷ []) (three (symbol b here 3 ∷ symbol c here 4 ∷ []) (difference 8 ∷ difference 12 ∷ [])) ≡ Some (fault_about 5 FoldTooWide 8)
unfolding residue_of reduced_number
constant-before_name = refl

-- the count stands between constants and names, whatever the object
count-is_sixth : (wishes : Wishes) (to : Format) (n : Object) → slice_get (edit_stages wishes to n) 5 ≡ Some (each_of (λ condition. condition ∷ []) (are_too_many wishes to n ∷ []))
count-is_sixth wishes to n = refl

-- of an empty name and a clash the lower position is told
clash-before_empty : first (Prefix c [] ∷ Rename b a ∷ []) (three (symbol a here 9 ∷ symbol b here 8 ∷ symbol c here 7 ∷ []) []) ≡ Some (fault_about 8 NameClash 9)
clash-before_empty = refl

-- names, before keys
name-before_key : first (Rename a c ∷ Rename b c ∷ []) (three (symbol a here 2 ∷ symbol b here 3 ∷ []) []) ≡ Some (fault_about 3 NameClash 2)
name-before_key = refl
