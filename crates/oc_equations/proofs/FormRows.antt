-- The edited object, computed on small ones: the table of final forms, options that match one symbol, names, fields and groups.
use Rattle.std.proofs.Common.{◌≡◌, ℕ, true, false, List, [], ◌∷◌, ◌++◌, Result, refl}
use Rattle.std.specs.Prelude.{codes, Some, None, Ok, Err, pos, negsuc, replicate}
use Rattle.oc_base.specs.{declared.code.Code.TheVariants.{PinnedWeak}, declared.fault.Fault.{Fault}}
use Rattle.oc_base.specs.declared.format.Format.TheVariants.{Elf32, Elf64, Coff32, Coff64, Mac32, Mac64, Omf}
use Rattle.oc_linking.specs.{declared.terms.Kind.TheVariants.{Code, Data, Debug}, declared.terms.Check.TheVariants.{Signed}}
use Rattle.oc_linking.specs.{declared.terms.Value.TheVariants.{Place, Absolute}, declared.terms.Binding.{Binding}}
use Rattle.oc_linking.specs.declared.terms.Binding.TheVariants.{Local, Global, Undefined, Common, Weak}
use Rattle.oc_linking.specs.declared.terms.Base.TheVariants as base
use Rattle.oc_linking.specs.declared.terms.Less.TheVariants as less
use Rattle.oc_linking.specs.declared.terms.Fallback.TheVariants as fallback
use Rattle.oc_algebra.specs.Residues.{residue_of, reduced_number}
use Rattle.oc_neutral.specs.{declared.symbol.Symbol.{Symbol}, Objects.{Object}}
use Rattle.oc_neutral.specs.declared.reloc.Target.TheVariants as target
use Rattle.oc_names.specs.{declared.edit.Edit.{Edit}, declared.edit.Edit.TheVariants.{Rename, Prefix, Alias, Weaken, MakeLocal, Underscore}}
use Rattle.oc_drop.proofs.Examples.{symbol, section, object, field, group}
use Rattle.oc_names.proofs.Examples.{asked, symbols_alone}
use Rattle.oc_equations.specs.{Symbols.{form}, Names.{final_name}, Sections.{each_once}, Faults.{fault_about}, Edited.{edited_or_fault}}

-- ... the table, on a place and on a number

abbrev here : Binding
here = Global (Place 0 4)

abbrev hidden : Binding
hidden = Local (Place 0 4)

abbrev weak : Binding
weak = Weak (fallback.Place 0 4)

global-weak : form true false None here ≡ weak
global-weak = refl

global-local : form false true None here ≡ hidden
global-local = refl

global-both : form true true None here ≡ hidden
global-both = refl

number-weak : form true false None (Global (Absolute 8)) ≡ Global (Absolute 8)
number-weak = refl

number-both : form true true None (Global (Absolute 8)) ≡ Local (Absolute 8)
number-both = refl

undefined-weak : form true false None Undefined ≡ Weak fallback.Zero
undefined-weak = refl

undefined-local : form false true None Undefined ≡ Undefined
undefined-local = refl

undefined-both : form true true None Undefined ≡ Weak fallback.Zero
undefined-both = refl

common-both : form true true None (Common 8 4) ≡ Common 8 4
common-both = refl

weak-local : form false true None weak ≡ hidden
weak-local = refl

reference-local : form false true None (Weak fallback.Zero) ≡ Weak fallback.Zero
reference-local = refl

-- a Weak that names its fallback follows that where it became a Local with a place, whatever is asked of itself
follows : form true true (Some hidden) (Weak (fallback.Name 3)) ≡ weak
follows = refl

stays : form true true (Some here) (Weak (fallback.Name 3)) ≡ Weak (fallback.Name 3)
stays = refl

-- ... options that match one symbol

abbrev a : List ℕ
a = codes "a"

abbrev b : List ℕ
b = codes "b"

abbrev c : List ℕ
c = codes "c"

-- from ELF to COFF, which has another habit of underscores
abbrev of : List Symbol → Object
of symbols = symbols_alone Elf32 symbols

abbrev made : List Edit → List Symbol → Result Object Fault
made edits symbols = edited_or_fault (asked edits) Coff32 (of symbols)

-- weaken, then hide; hide, then weaken
weaken-hide : made (Weaken a ∷ MakeLocal a ∷ []) (symbol a here 1 ∷ []) ≡ Ok (of (symbol a hidden 1 ∷ []))
weaken-hide = refl

hide-weaken : made (MakeLocal a ∷ Weaken a ∷ []) (symbol a here 1 ∷ []) ≡ Ok (of (symbol a hidden 1 ∷ []))
hide-weaken = refl

-- of a pinned symbol only the second order is good
abbrev pinned : List ℕ → Binding → ℕ → Symbol
pinned name b number = record { name = name; binding = b; mark = (symbol name b number).mark; vis = (symbol name b number).vis; size = 0; pinned = true; number = number }

pinned-weaken_hide : made (Weaken a ∷ MakeLocal a ∷ []) (pinned a here 1 ∷ []) ≡ Err (fault_about 1 PinnedWeak 0)
pinned-weaken_hide = refl

pinned-hide_weaken : made (MakeLocal a ∷ Weaken a ∷ []) (pinned a here 1 ∷ []) ≡ Ok (of (pinned a hidden 1 ∷ []))
pinned-hide_weaken = refl

-- hide, then alias: a Local has none. A Local keeps its name, which another may get
hide-alias : made (MakeLocal a ∷ Alias a c ∷ Rename a c ∷ Rename b a ∷ []) (symbol a here 1 ∷ symbol b here 2 ∷ []) ≡ Ok (of (symbol a hidden 1 ∷ symbol a here 2 ∷ []))
hide-alias = refl

-- alias, then weaken: the further symbol is weak too, wherever the words stand
alias-weaken : made (Alias a c ∷ Weaken a ∷ []) (symbol a here 1 ∷ []) ≡ Ok (of (symbol a weak 1 ∷ symbol c weak 1 ∷ []))
alias-weaken = refl

-- rename, then prefix: the first that matches is applied, once
rename-prefix : made (Rename a b ∷ Prefix a c ∷ Prefix b c ∷ []) (symbol a here 1 ∷ []) ≡ Ok (of (symbol b here 1 ∷ []))
rename-prefix = refl

prefix-rename : made (Prefix a c ∷ Rename a b ∷ []) (symbol a here 1 ∷ []) ≡ Ok (of (symbol c here 1 ∷ []))
prefix-rename = refl

-- underscores with all; a further name is final (the worked case is from ELF64 to Mach-O)
underscores-prefix_and_alias : edited_or_fault (asked (Underscore ∷ Prefix (codes "my_") (codes "your_") ∷ Alias (codes "my_f") (codes "start") ∷ [])) Mac64 (symbols_alone Elf64 (symbol (codes "my_f") here 1 ∷ []))
    ≡ Ok (symbols_alone Elf64 (symbol (codes "_your_f") here 1 ∷ symbol (codes "start") here 1 ∷ []))
underscores-prefix_and_alias = refl

underscores-all : made (Underscore ∷ Rename a b ∷ Weaken a ∷ Alias a c ∷ Underscore ∷ []) (symbol a here 1 ∷ symbol c Undefined 2 ∷ [])
    ≡ Ok (of (symbol (codes "_b") weak 1 ∷ symbol (codes "_c") Undefined 2 ∷ symbol c weak 1 ∷ []))
underscores-all = refl

underscore-off : final_name (Underscore ∷ []) Mac32 Elf32 (codes "__f") ≡ codes "_f"
underscore-off = refl

underscore-same : final_name (Underscore ∷ []) Coff32 Omf (codes "_f") ≡ codes "_f"
underscore-same = refl

-- ... parts

-- three sections, of which the second goes across formats, with their groups in another order than those that are left
abbrev given : Object
given =
    object Elf64 (group (codes "x") ∷ group (codes "t") ∷ []) (section Debug (0 ∷ []) 5 (Some 0) ∷ section Code (replicate 16 0) 6 (Some 1) ∷ section Data (replicate 16 0) 9 (Some 0) ∷ [])
    (symbol (codes "d") (Local (Place 0 0)) 1 ∷ symbol (codes "t") (Global (Place 1 4)) 2 ∷ symbol (codes "g") (Global (Place 2 8)) 3 ∷ symbol (codes "w") (Weak (fallback.Name 2)) 4 ∷ [])
    ([] ∷ (field 0 (target.Symbol 2) base.Address less.Place Signed (negsuc 3) ∷ field 4 (target.Symbol 2) base.Address (less.Section 2) Signed (pos 505) ∷ field 8 (target.Symbol 1) base.Address less.Place Signed (negsuc 3) ∷ [])
    ∷ [] ∷ [])

-- `g` becomes Local: a field against it is one against its section, a difference within that section is a constant, and `w` has its place.
-- `t` gets another name, which the key of its group follows
parts : edited_or_fault (asked (MakeLocal (codes "g") ∷ Rename (codes "t") (codes "u") ∷ [])) Coff64 given ≡ Ok
    (object Elf64 (group (codes "u") ∷ group (codes "x") ∷ [])
    (section Code (replicate 4 0 ++ 1 ∷ 2 ∷ replicate 10 0) 6 (Some 0) ∷ section Data (replicate 16 0) 9 (Some 1) ∷ [])
    (symbol (codes "u") (Global (Place 0 4)) 2 ∷ symbol (codes "g") (Local (Place 1 8)) 3 ∷ symbol (codes "w") (Weak (fallback.Place 1 8)) 4 ∷ [])
    ((field 0 (target.Section 1) base.Address less.Place Signed (pos 4) ∷ field 8 (target.Symbol 0) base.Address less.Place Signed (negsuc 3) ∷ []) ∷ [] ∷ []))
unfolding residue_of reduced_number
parts = refl

once : each_once (2 ∷ 0 ∷ 2 ∷ 1 ∷ 0 ∷ []) ≡ 2 ∷ 0 ∷ 1 ∷ []
once = refl
