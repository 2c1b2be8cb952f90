-- Sections that are marked, one after another.
use Rattle.std.proofs.Common.{◌≡◌, refl, ℕ, ◌+◌, ◌≤◌, ◌||◌, Bool, true, false, List, length, Some, ◌∙◌, ap}
use Rattle.std.specs.{Prelude.{slice_get, drop}, List.{count_by, list_any, enumerate_from, range_with_len}}
use Rattle.std.proofs.Math.Bool.{or_assoc}
use Rattle.std.proofs.lemmas.{List.{drop_all}, List.Sums.{length-filter}}
use Rattle.oc_chains.specs.declared.field.Field.{Field}
use Rattle.oc_neutral.specs.{declared.reloc.Reloc.{Reloc}, Objects.{Object}, Mach.SectionSymbols.{any_names, needs_section_symbol, needed_sections}}
use Rattle.oc_neutral.proofs.FieldLists.{drop_here}

-- three marks
pub marked_thrice : (old one two three a b c : Bool) → one ≡ (old || a) → two ≡ (one || b) → three ≡ (two || c) → three ≡ (old || ((a || b) || c))
marked_thrice old one two three a b c e f g =
    g ∙ ap (λ x. x || c) (f ∙ ap (λ x. x || b) e ∙ or_assoc old a b) ∙ or_assoc old (a || b) c

-- a mark for the next, and what is left
pub marked_next : (old new here left all : Bool) → new ≡ (old || here) → (old || (here || left)) ≡ all → (new || left) ≡ all
marked_next old new here left all e done = ap (λ x. x || left) e ∙ or_assoc old here left ∙ done

-- some of the relocations of the sections from position s on name section k
abbrev pub names_from : Object → ℕ → ℕ → Bool
names_from n k s = list_any (λ (row : ℕ × List (Field Reloc)). any_names k row.0 row.1) (enumerate_from s (drop s n.relocs))

pub names_step : (n : Object) (k s : ℕ) (fields : List (Field Reloc)) → slice_get n.relocs s ≡ Some fields → names_from n k s ≡ (any_names k s fields || names_from n k (s + 1))
names_step n k s fields here = ap (λ lists. list_any (λ (row : ℕ × List (Field Reloc)). any_names k row.0 row.1) (enumerate_from s lists)) (drop_here n.relocs s fields here)

pub names_none : (n : Object) (k s : ℕ) → length n.relocs ≤ s → names_from n k s ≡ false
names_none n k s past = ap (λ lists. list_any (λ (row : ℕ × List (Field Reloc)). any_names k row.0 row.1) (enumerate_from s lists)) (drop_all s n.relocs past)

-- all of them
pub names_all : (n : Object) (k : ℕ) → names_from n k 0 ≡ needs_section_symbol n k
unfolding needs_section_symbol
names_all n k = refl

-- how many sections need their symbols
pub needed_counted : (n : Object) → length (needed_sections n) ≡ count_by (needs_section_symbol n) (range_with_len 0 (length n.sections))
unfolding needed_sections
needed_counted n = length-filter (needs_section_symbol n) (range_with_len 0 (length n.sections))
