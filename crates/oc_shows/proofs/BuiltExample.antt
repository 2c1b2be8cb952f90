-- A file of three sections, of which one is in a group and one has zeros, and of two symbols, of which one falls back on the other: the
-- object that a Builder makes of it shows it, with a relocation and a folded constant.
use Rattle.std.proofs.Common.{◌≡◌, ℕ, zero, suc, ◌+◌, ◌^◌, ◌<◌, ◌≤◌, ◌⊎◌, inl, inr, Bool, true, false, ◌&&◌, cond, eqb, List, [], ◌∷◌, length, map, get_or, replicate, Option, Some, None, Ok, refl, sym, ◌∙◌, ap, subst, arith}
use Rattle.std.specs.{Prelude.{pos, nat_eq, if◌then◌else◌, slice_get}, List.{AllByRecursion}, Option.{is_some}}
use Rattle.std.proofs.lemmas.{Bool.{eqb-true, true≢false}, Bool.Decides.{nat_tests}, Option.{none-some, same_Some}}
use Rattle.oc_base.specs.{declared.format.Format.TheVariants.{Elf64}, declared.format.Word.TheVariants.{W64}}
use Rattle.oc_linking.specs.{declared.terms.Width.TheVariants.{Four}, declared.terms.Check.TheVariants.{Wrap}, declared.terms.Hint.TheVariants.{Plain}}
use Rattle.oc_linking.specs.{declared.terms.Kind.{Kind}, declared.terms.Kind.TheVariants.{Data, Zero}, declared.terms.Mark.TheVariants.{NoType}}
use Rattle.oc_linking.specs.{declared.terms.Visibility.TheVariants.{Default}, declared.terms.Binding.{Binding}}
use Rattle.oc_linking.specs.{declared.terms.Binding.TheVariants.{Global, Weak}, Keeping.{all}, Rules.{Field, Symbolic}, Values.{numbered as numbered_in_file}}
use Rattle.oc_linking.specs.declared.terms.Value.TheVariants as value
use Rattle.oc_linking.specs.declared.terms.Fallback.TheVariants as fallback
use Rattle.oc_linking.specs.declared.terms.Base.TheVariants as base
use Rattle.oc_linking.specs.declared.terms.Less.TheVariants as less
use Rattle.oc_linking.specs.Parts as parts
use Rattle.oc_linking.specs.Targets as file
use Rattle.oc_chains.specs.declared.field.Field as chain
use Rattle.oc_chains.specs.{Fields.{FollowFrom}, Lists.{is_taken}}
use Rattle.oc_algebra.specs.{Folds.{fold_of}, Residues.{residue_of, reduced_number}}
use Rattle.oc_neutral.specs.{declared.symbol.Symbol.{Symbol}, declared.reloc.Reloc.{Reloc}, declared.normal.Folded.{Folded}}
use Rattle.oc_neutral.specs.{Building.{Draft, is_zero, reloc_added, with_constant, with_number, with_reloc}, Dialects.{Dialect, is_kept}, Faces.{contents_of}}
use Rattle.oc_neutral.specs.{Invariants.{AreBytes, AreDistinct, CanAdd, IsDraft, IsHeld}, Normal.{moved_addend, place_among, by_section, folded}}
use Rattle.oc_neutral.specs.Rows.{Row, TakesSection, TakesPlace, row}
use Rattle.oc_neutral.specs.declared.reloc.Target.TheVariants as target
use Rattle.oc_shows.specs.{Built.{AddedReloc, given_by, HasAdded, IsFree, IsGiven, IsStarted}, Computed.{computed_symbol, keys_in}}
use Rattle.oc_shows.specs.{RowFields.{place_target, row_field}, RowValues.{row_reloc}, Shows.{AreNumbered, Shows}}
use Rattle.oc_shows.specs.Started.{AreShowable, start_of, stored_section}
use Rattle.oc_shows.proofs.{BuiltLaws.{built_shows}, RowFieldLaws.{rows_are_fields, section_rows_are_fields, symbol_is_target}}
use Rattle.oc_shows.proofs.StartedLaws.{start_is_started, fieldless_at}

abbrev section : Kind → ℕ → List ℕ → Option (List ℕ) → parts.Section
section kind number contents group = record { name = 97 ∷ []; kind = kind; align = 1; size = 8; contents = contents; tag = 0; number = number; group = group }

abbrev eight : ℕ → List ℕ
eight n = n ∷ n ∷ n ∷ n ∷ n ∷ n ∷ n ∷ n ∷ []

abbrev symbol : ℕ → List ℕ → Binding → parts.Symbol
symbol number name binding = record { name = name; binding = binding; mark = NoType; vis = Default; size = 0; pinned = false; number = number }

-- symbol 7 is a Global at offset 2 of section 1, and symbol 4, which stands before it, falls back on it
abbrev global : parts.Symbol
global = symbol 7 (98 ∷ []) (Global (value.Place 1 2))

abbrev weak : parts.Symbol
weak = symbol 4 (99 ∷ []) (Weak (fallback.Name 7))

-- a distance to a target, and a difference of sections
abbrev distance : Row
distance = row 1 Four Wrap base.Address TakesPlace Plain

abbrev difference : Row
difference = row 2 Four Wrap base.Address TakesSection Plain

abbrev to_global : file.Target
to_global = record { named = Symbolic 7; worth = λ p v. v 7 }

-- at offset 0 of section 0 the distance to symbol 7, and at offset 4 offset 3 of section 1 less section 1, plus 2
abbrev fields : ℕ → ℕ → Option Field
fields s at =
    if nat_eq s 0 && nat_eq at 0 then Some (row_field W64 distance 0 (pos 9) s at to_global)
    else (if nat_eq s 0 && nat_eq at 4 then Some (row_field W64 difference 1 (pos 2) s at (place_target W64 1 3)) else None)

abbrev example : Dialect
example = record {
  format = Elf64;
  rules = record {
    word = W64;
    fault = λ b keep. None;
    sections = λ b. section Data 1 (eight 1) None ∷ section Data 2 (eight 2) (Some (103 ∷ [])) ∷ section Zero 3 (eight 0) None ∷ [];
    symbols = λ b keep. weak ∷ global ∷ [];
    fields = λ b keep. fields;
    output_align = λ align. align;
    common_align = λ size align. align;
  };
}

abbrev start : Draft
start = start_of example [] all

-- ... what the file is to have, and the draft before the relocations

showable : AreShowable example [] all
showable = record { word = refl; zeros = zeros; names = names; numbered = numbered }
  where
    zeros : (k : ℕ) (s : parts.Section) → slice_get (example.rules.sections []) k ≡ Some s → is_zero s.kind ≡ true → s.contents ≡ replicate s.size 0
    zeros k s here e = grind arith

    names : (k number : ℕ) (s : parts.Symbol) → slice_get (weak ∷ global ∷ []) k ≡ Some s → s.binding ≡ Weak (fallback.Name number) → is_some (numbered_in_file (weak ∷ global ∷ []) number) ≡ true
    names zero number s here is =
        let named : Weak (fallback.Name 7) ≡ Weak (fallback.Name number) = ap (λ (y : parts.Symbol). y.binding) (same_Some weak s here) ∙ is in
        let seven : 7 ≡ number = cc in
        subst (λ (n : ℕ). is_some (numbered_in_file (weak ∷ global ∷ []) n) ≡ true) seven refl
    names (suc zero) number s here is = let named : Global (value.Place 1 2) ≡ Weak (fallback.Name number) = ap (λ (y : parts.Symbol). y.binding) (same_Some global s here) ∙ is in absurd (cc)
    names (suc (suc k)) number s here is = absurd (none-some s here)

    numbered : AreNumbered (weak ∷ global ∷ [])
    numbered zero zero s t low here there same = absurd (omega (arith, low))
    numbered zero (suc zero) s t low here there same =
        let first : 4 ≡ s.number = ap (λ (y : parts.Symbol). y.number) (same_Some weak s here) in
        let second : 7 ≡ t.number = ap (λ (y : parts.Symbol). y.number) (same_Some global t there) in
        omega (arith, first, second, same)
    numbered zero (suc (suc j)) s t low here there same = absurd (none-some t there)
    numbered (suc zero) zero s t low here there same = absurd (omega (arith, low))
    numbered (suc zero) (suc zero) s t low here there same = absurd (omega (arith, low))
    numbered (suc zero) (suc (suc j)) s t low here there same = absurd (none-some t there)
    numbered (suc (suc i)) j s t low here there same = absurd (none-some s here)

bytes : (n : ℕ) → n < 2 ^ 8 → AreBytes (eight n)
bytes n low = (low, (low, (low, (low, (low, (low, (low, (low, tt))))))))

draft : IsDraft start
draft = record {
  built = record {
    bytes = (refl, (refl, (refl, tt)));
    groups = ((omega arith, tt), tt);
    sections = (
      record { name = (omega arith, tt); bytes = bytes 1 (omega arith); tag = omega arith; number = omega arith },
      (
        record { name = (omega arith, tt); bytes = bytes 2 (omega arith); tag = omega arith; number = omega arith },
        (record { name = (omega arith, tt); bytes = tt; tag = omega arith; number = omega arith }, tt),
      ),
    );
    members = (tt, (omega arith, (tt, tt)));
    limits = record { each = (omega arith, (omega arith, (omega arith, tt))); sum = omega arith; bytes = omega arith };
    distinct = distinct;
    fields = record {
      counted = refl;
      each = λ s x here. subst (λ (xs : List (chain.Field Reloc)). AllByRecursion (IsHeld start.object s x.bytes) xs) (sym (fieldless_at {T = Reloc} start.object.sections s)) tt;
      apart = λ s. subst (λ (xs : List (chain.Field Reloc)). FollowFrom 0 xs) (sym (fieldless_at {T = Reloc} start.object.sections s)) (omega arith);
    };
    few = record { groups = omega arith; sections = omega arith; symbols = omega arith; relocs = omega arith };
  };
  folded = record {
    counted = refl;
    inside = λ s x here. subst (λ (xs : List (chain.Field Folded)). AllByRecursion (λ (y : chain.Field Folded). y.at + y.width ≤ length x.bytes) xs) (sym (fieldless_at {T = Folded} start.object.sections s)) tt;
    apart = λ s. subst (λ (xs : List (chain.Field Folded)). FollowFrom 0 xs) (sym (fieldless_at {T = Folded} start.object.sections s)) (omega arith);
    beside = λ s. subst (λ (xs : List (chain.Field Reloc)). AllByRecursion (λ (x : chain.Field Reloc). is_taken start.folded s x.at x.width ≡ false) xs) (sym (fieldless_at {T = Reloc} start.object.sections s)) tt;
  };
}
  where
    differ : (xs ys : List ℕ) → xs ≡ ys → xs ≡ 99 ∷ [] → ys ≡ 98 ∷ [] → ⊥
    differ xs ys same first second =
        let one : get_or xs 0 0 ≡ 99 = ap (λ (zs : List ℕ). get_or zs 0 0) first in
        let two : get_or ys 0 0 ≡ 98 = ap (λ (zs : List ℕ). get_or zs 0 0) second in
        let both : get_or xs 0 0 ≡ get_or ys 0 0 = ap (λ (zs : List ℕ). get_or zs 0 0) same in
        omega (arith, one, two, both)

    distinct : AreDistinct start.object.symbols
    distinct zero zero s t low here there own other same = absurd (omega (arith, low))
    distinct zero (suc zero) s t low here there own other same =
        differ s.name t.name same
        (sym (ap (λ (y : Symbol). y.name) (same_Some (computed_symbol (weak ∷ global ∷ []) weak) s here)))
        (sym (ap (λ (y : Symbol). y.name) (same_Some (computed_symbol (weak ∷ global ∷ []) global) t there)))
    distinct zero (suc (suc j)) s t low here there own other same = absurd (none-some t there)
    distinct (suc zero) zero s t low here there own other same = absurd (omega (arith, low))
    distinct (suc zero) (suc zero) s t low here there own other same = absurd (omega (arith, low))
    distinct (suc zero) (suc (suc j)) s t low here there own other same = absurd (none-some t there)
    distinct (suc (suc i)) j s t low here there own other same = absurd (none-some s here)

started : IsStarted example [] all start
started = start_is_started example [] all showable draft

-- ... the relocations

abbrev first : Reloc
first = row_reloc W64 distance 0 (pos 9) (target.Symbol 1)

abbrev second : Reloc
second = row_reloc W64 difference 1 (moved_addend base.Address (pos 2) 3) (target.Section 1)

-- the difference is added first
abbrev with_one : Draft
with_one = with_constant start 0 4 4 5

abbrev with_both : Draft
with_both = with_reloc with_one 0 0 (record { target = target.Symbol 1; form = record { base = base.Address; less = less.Place; width = Four; check = Wrap }; addend = pos 9; hint = Plain })

second-added : reloc_added start 0 4 second ≡ Ok with_one
unfolding reloc_added place_among by_section folded residue_of reduced_number fold_of
second-added = refl

first-added : reloc_added with_one 0 0 first ≡ Ok with_both
unfolding reloc_added place_among by_section folded residue_of reduced_number fold_of
first-added = refl

abbrev entries : List AddedReloc
entries = record { section = 0; at = 0; reloc = first } ∷ record { section = 0; at = 4; reloc = second } ∷ []

added : HasAdded start with_both (given_by entries)
unfolding place_among
added = record {
  entries = entries;
  made = (with_one, (start, refl, record { can = second-can; added = second-added }), record { can = first-can; added = first-added });
  each = λ s at. refl;
}
  where
    second-can : CanAdd start.object 0 4 second
    second-can = record {
      section = stored_section (keys_in example []) (section Data 1 (eight 1) None);
      there = refl;
      inside = omega arith;
      target = record { itself = omega arith; section = λ place e. absurd (none-some place e) };
      less = omega arith;
    }

    first-can : CanAdd with_one.object 0 0 first
    first-can = record {
      section = with_number 4 5 4 (stored_section (keys_in example []) (section Data 1 (eight 1) None));
      there = refl;
      inside = omega arith;
      target = record { itself = omega arith; section = λ place e. absurd (none-some place e) };
      less = tt;
    }

each : (s at : ℕ) → IsFree example [] all (given_by entries) s at ⊎ IsGiven example [] all start.object (given_by entries) s at
each s at = by (eqb s 0) (eqb at 0) (eqb at 4) refl refl refl
  where
    is-at : ℕ → ℕ → Type 0
    is-at s at = IsFree example [] all (given_by entries) s at ⊎ IsGiven example [] all start.object (given_by entries) s at

    none-kept : (c : Bool) → cond {A = Option Field} c None None ≡ None
    none-kept c = grind arith

    by : (a b c : Bool) → eqb s 0 ≡ a → eqb at 0 ≡ b → eqb at 4 ≡ c → IsFree example [] all (given_by entries) s at ⊎ IsGiven example [] all start.object (given_by entries) s at
    by true true c g h i = subst (λ (j : ℕ). is-at j at) (sym (eqb-true s 0 g)) (subst (is-at 0) (sym (eqb-true at 0 h)) (inr (record {
      field = row_field W64 distance 0 (pos 9) 0 0 to_global;
      reloc = first;
      here = refl;
      there = refl;
      is = rows_are_fields example [] all start.object 0 0 distance 0 (pos 9) (target.Symbol 1) to_global (symbol_is_target example [] all start.object 1 global to_global started.symbols refl refl);
    })))
    by true false true g h i = subst (λ (j : ℕ). is-at j at) (sym (eqb-true s 0 g)) (subst (is-at 0) (sym (eqb-true at 4 i)) (inr (record {
      field = row_field W64 difference 1 (pos 2) 0 4 (place_target W64 1 3);
      reloc = second;
      here = refl;
      there = refl;
      is = section_rows_are_fields example [] all start.object 0 4 difference 1 (pos 2) 1 3;
    })))
    by true false false g h i =
        let first_no : eqb 0 at ≡ false = grind (arith, nat_tests) in
        let second_no : eqb 4 at ≡ false = grind (arith, nat_tests) in
        subst (λ (j : ℕ). is-at j at) (sym (eqb-true s 0 g)) (inl (record { field = rw (h, i) refl; none = rw (first_no, second_no) refl }))
    by false b c g h i = inl (record { field = rw g (none-kept (is_kept example [] all s)); none = rw g refl })

-- the object shows the file: the distance is kept, and 5 stands in the field of the difference
pub example-shows : Shows example [] all with_both.object
example-shows = built_shows example [] all start with_both (given_by entries) started added each

pub example-contents : map contents_of with_both.object.sections ≡ (0 ∷ 0 ∷ 0 ∷ 0 ∷ 5 ∷ 0 ∷ 0 ∷ 0 ∷ []) ∷ eight 2 ∷ eight 0 ∷ []
example-contents = refl
