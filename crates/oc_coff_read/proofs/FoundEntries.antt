-- What the entries of a kept section have that have no fault.
use Rattle.std.proofs.Common.{◌≡◌, ℕ, zero, suc, ◌+◌, ◌<◌, ◌≤◌, inl, inr, Bool, true, false, cond, List, [], ◌∷◌, ◌++◌, length, take, Option, None, Some, refl, sym, ◌∙◌, ap, arith}
use Rattle.std.specs.{Prelude.{not, ◌&&◌, ◌||◌, nat_lt, filter, find, is_none, slice_get}, List.{list_any}, Option.{option_map_or}}
use Rattle.std.proofs.lemmas.{Bool.{cases_eq, cases_lt, eq-eqb, eqb-true, true≢false, and_parts, or_parts, not-false}, Bool.Decides.{nat_tests}}
use Rattle.std.proofs.lemmas.{Option.{none-some, same_Some, slice_get_within}, List.{append-nil}}
use Rattle.oc_base.specs.{declared.format.Word.{Word}, declared.code.Code.TheVariants.{RelocKind}}
use Rattle.oc_linking.specs.{declared.terms.Keep.{Keep}, Keeping.{keeps}, Fits.{bytes_of}, FirstFault.{fault_of, first_broken, stage_fault}}
use Rattle.oc_neutral.specs.{Rows.{Row}, RelocTables.{row_of}}
use Rattle.oc_shelf.proofs.{ReadingLaws.StageLemmas.{all_hold, clean_at}, WritingLaws.MemberLemmas.{member_flat_map, member_filter}}
use Rattle.oc_coff.specs.{declared.relocation.Relocation.{Relocation}, Tables.{Tables}, Sections.{Carried, carried_in}, Targets.{Aim, aim_in}}
use Rattle.oc_coff.specs.{Forms.{coff_format}, Fields.{relocates, says_nothing}}
use Rattle.oc_coff.specs.RelocationFaults.{Judged, is_wrong_aim, judged_from, judged_in, meets_field, relocation_conditions, relocation_fault, relocation_stage, row_conditions}
use Rattle.oc_coff_judge.proofs.EntryLemmas.{find_from}
use Rattle.oc_linking.proofs.Testing.{not_below}
use Rattle.oc_neutral.proofs.Adding.{wide_enough}

-- ... the entries that are judged

append_more : {X : Type 0} (xs : List X) (y : X) (ys : List X) → (xs ++ y ∷ []) ++ ys ≡ xs ++ y ∷ ys
append_more [] y ys = refl
append_more (x ∷ xs) y ys = ap (λ zs. x ∷ zs) (append_more xs y ys)

-- an entry, as it is judged
abbrev judged : Carried → ℕ → List Relocation → Relocation → Judged
judged c at earlier r = record { of = c; at = at; earlier = earlier; entry = r }

judged_at : (c : Carried) (at : ℕ) (earlier relocs : List Relocation) (k : ℕ) (r : Relocation) → slice_get relocs k ≡ Some r
    → (p : ℕ) × (slice_get (judged_from c at earlier relocs) k ≡ Some (judged c p (earlier ++ take k relocs) r))
judged_at c at earlier [] k r here = absurd (none-some r here)
judged_at c at earlier (x ∷ relocs) zero r here =
    (at, ap (λ (y : Relocation). Some (judged c at earlier y)) (same_Some x r here) ∙ ap (λ (es : List Relocation). Some (judged c at es r)) (sym (append-nil earlier)))
judged_at c at earlier (x ∷ relocs) (suc k) r here =
    let m = judged_at c (at + 10) (earlier ++ x ∷ []) relocs k r here in
    (m.0, m.1 ∙ ap (λ (es : List Relocation). Some (judged c m.0 es r)) (append_more earlier x (take k relocs)))

-- what entry k of a section has that has no fault
pub record IsGood (w : Word) (t : Tables) (c : Carried) (k : ℕ) (r : Relocation) : Type 0 where
  pub row : Row
  pub listed : row_of (coff_format w) r.Type ≡ Some row
  pub stored : c.stored ≡ true
  pub inside : r.VirtualAddress + bytes_of row.width ≤ c.section.size
  pub aim : Aim
  pub aimed : aim_in w t r.SymbolTableIndex ≡ Some (Some aim)
  pub unmet : list_any (meets_field w r.VirtualAddress (bytes_of row.width)) (take k c.relocs) ≡ false

good_by : (w : Word) (t : Tables) (c : Carried) (p k : ℕ) (r : Relocation) → first_broken (relocation_conditions w t (judged c p (take k c.relocs) r)) ≡ None → says_nothing r ≡ false → IsGood w t c k r
unfolding relocation_conditions
good_by w t c p k r clean busy =
    by (row_of (coff_format w) r.Type) refl
    (sym (ap (λ b. first_broken (cond b [] ((is_none (row_of (coff_format w) r.Type), relocation_fault x RelocKind) ∷ option_map_or (row_conditions w x r (aim_in w t r.SymbolTableIndex)) (row_of (coff_format w) r.Type) []))) busy) ∙ clean)
  where
    x : Judged
    x = judged c p (take k c.relocs) r

    aimed : (row : Row) (o : Option (Option Aim)) → is_none o ≡ false → is_wrong_aim row o ≡ false → (a : Aim) × (o ≡ Some (Some a))
    aimed row o some right = grind arith

    by : (o : Option Row) → row_of (coff_format w) r.Type ≡ o → first_broken ((is_none o, relocation_fault x RelocKind) ∷ option_map_or (row_conditions w x r (aim_in w t r.SymbolTableIndex)) o []) ≡ None → IsGood w t c k r
    by None g h = absurd (true≢false (all_hold ((true, relocation_fault x RelocKind) ∷ []) h).0)
    by (Some row) g h =
        let holds = all_hold ((false, relocation_fault x RelocKind) ∷ row_conditions w x r (aim_in w t r.SymbolTableIndex) row) h in
        let lies = or_parts (not c.stored) (nat_lt c.section.size (r.VirtualAddress + bytes_of row.width)) holds.1.0 in
        let aim = aimed row (aim_in w t r.SymbolTableIndex) holds.1.1.0 holds.1.1.1.0 in
        record {
          row = row;
          listed = g;
          stored = not-false c.stored lies.0;
          inside = not_below c.section.size (r.VirtualAddress + bytes_of row.width) lies.1;
          aim = aim.0;
          aimed = aim.1;
          unmet = holds.1.1.1.1.0;
        }

module _ (w : Word) (t : Tables) (keep : Keep) (clean : stage_fault (relocation_stage w t keep) ≡ None) (s : ℕ) (c : Carried) (there : slice_get (carried_in t) s ≡ Some c) (kept : keeps keep c.section.kind ≡ true) where
  entry_clean : (k : ℕ) (r : Relocation) → slice_get c.relocs k ≡ Some r → (p : ℕ) × (first_broken (relocation_conditions w t (judged c p (take k c.relocs) r)) ≡ None)
  unfolding judged_in
  entry_clean k r here =
      let m = member_filter (λ (c : Carried). keeps keep c.section.kind) (carried_in t) s c there kept in
      let j = judged_at c c.relocs_at [] c.relocs k r here in
      let i = member_flat_map (λ (c : Carried). judged_from c c.relocs_at [] c.relocs) (filter (λ (c : Carried). keeps keep c.section.kind) (carried_in t)) m.0 k c (judged c j.0 (take k c.relocs) r) m.1 j.1 in (
        j.0,
        sym (ap (λ (o : Option Judged). first_broken (option_map_or (relocation_conditions w t) o [])) i.1)
            ∙ clean_at (fault_of (relocation_stage w t keep)) (length (judged_in t keep)) i.0 clean (slice_get_within (judged_in t keep) i.0 (judged c j.0 (take k c.relocs) r) i.1),
      )

  pub good_entry : (k : ℕ) (r : Relocation) → slice_get c.relocs k ≡ Some r → says_nothing r ≡ false → IsGood w t c k r
  good_entry k r here busy = let m = entry_clean k r here in good_by w t c m.0 k r m.1 busy

  -- ... entries are apart

  any_none : (test : Relocation → Bool) (xs : List Relocation) (p q : ℕ) (x : Relocation) → p < q → slice_get xs p ≡ Some x → list_any test (take q xs) ≡ false → test x ≡ false
  any_none test [] p q x less here none = absurd (none-some x here)
  any_none test (y ∷ xs) p zero x less here none = absurd (omega (arith, less))
  any_none test (y ∷ xs) zero (suc q) x less here none = sym (ap test (same_Some y x here)) ∙ (or_parts (test y) (list_any test (take q xs)) none).0
  any_none test (y ∷ xs) (suc p) (suc q) x less here none = any_none test xs p q x (omega (arith, less)) here (or_parts (test y) (list_any test (take q xs)) none).1

  -- the field of an entry does not meet that of one before
  unmet : (a b : ℕ) (x y : Relocation) (m : IsGood w t c a x) (n : IsGood w t c b y) → a < b → slice_get c.relocs a ≡ Some x
      → (nat_lt y.VirtualAddress (x.VirtualAddress + bytes_of m.row.width) && nat_lt x.VirtualAddress (y.VirtualAddress + bytes_of n.row.width)) ≡ false
  unmet a b x y m n less here =
      sym (ap (λ (o : Option Row). option_map_or (λ (row : Row). nat_lt y.VirtualAddress (x.VirtualAddress + bytes_of row.width) && nat_lt x.VirtualAddress (y.VirtualAddress + bytes_of n.row.width)) o false) m.listed)
      ∙ any_none (meets_field w y.VirtualAddress (bytes_of n.row.width)) c.relocs a b x less here n.unmet

  between : (x y v u : ℕ) → (nat_lt x (y + u) && nat_lt y (x + v)) ≡ false → y < x → y + u ≤ x
  between x y v u e l = grind (arith, nat_tests)

  behind : (x y v u : ℕ) → (nat_lt x (y + u) && nat_lt y (x + v)) ≡ false → x < y → x + v ≤ y
  behind x y v u e l = grind (arith, nat_tests)

  same_place : (x v u : ℕ) → (nat_lt x (x + u) && nat_lt x (x + v)) ≡ false → 1 ≤ v → 1 ≤ u → ⊥
  same_place x v u e l m = grind (arith, nat_tests)

  -- two entries have different offsets
  pub differ_at : (a b : ℕ) (x y : Relocation) (m : IsGood w t c a x) (n : IsGood w t c b y) → a < b → slice_get c.relocs a ≡ Some x → x.VirtualAddress ≡ y.VirtualAddress → ⊥
  differ_at a b x y m n less here same =
      same_place y.VirtualAddress (bytes_of n.row.width) (bytes_of m.row.width)
      (sym (ap (λ (v : ℕ). nat_lt y.VirtualAddress (v + bytes_of m.row.width) && nat_lt v (y.VirtualAddress + bytes_of n.row.width)) same) ∙ unmet a b x y m n less here)
      (wide_enough n.row.width) (wide_enough m.row.width)

  -- two fields are apart
  pub apart_at : (a b : ℕ) (x y : Relocation) (m : IsGood w t c a x) (n : IsGood w t c b y) → slice_get c.relocs a ≡ Some x → slice_get c.relocs b ≡ Some y → x.VirtualAddress < y.VirtualAddress
      → x.VirtualAddress + bytes_of m.row.width ≤ y.VirtualAddress
  apart_at a b x y m n here there less = elim (cases_lt a b) [
    | inl before ↦ between y.VirtualAddress x.VirtualAddress (bytes_of n.row.width) (bytes_of m.row.width) (unmet a b x y m n before here) less
    | inr later ↦ elim (cases_eq a b) [
      | inl same ↦
          let one : x.VirtualAddress ≡ y.VirtualAddress = ap (λ (r : Relocation). r.VirtualAddress) (same_Some x y (sym here ∙ ap (slice_get c.relocs) same ∙ there)) in
          absurd (omega (arith, one, less))
      | inr other ↦ behind x.VirtualAddress y.VirtualAddress (bytes_of m.row.width) (bytes_of n.row.width) (unmet b a y x n m (omega (arith, later, other)) there) less
    ]
  ]

  -- ... the first at an offset

  -- an entry that says something at an offset
  pub record IsAtOffset (at : ℕ) (r : Relocation) : Type 0 where
    pub k : ℕ
    pub here : slice_get c.relocs k ≡ Some r
    pub busy : says_nothing r ≡ false
    pub offset : r.VirtualAddress ≡ at

  pub found_at : (at : ℕ) (r : Relocation) → find (relocates at) c.relocs ≡ Some r → IsAtOffset at r
  found_at at r e =
      let m = find_from (relocates at) c.relocs r e in
      let both = and_parts _ (not (says_nothing r)) m.passes in
      record { k = m.place; here = m.there; busy = unset (says_nothing r) both.1; offset = eqb-true r.VirtualAddress at both.0 }
    where
      unset : (b : Bool) → not b ≡ true → b ≡ false
      unset b e = grind arith

  find_some : (test : Relocation → Bool) (xs : List Relocation) (k : ℕ) (x : Relocation) → slice_get xs k ≡ Some x → test x ≡ true → find test xs ≡ None → ⊥
  find_some test [] k x here passes none = none-some x here
  find_some test (y ∷ xs) zero x here passes none = none-some y (sym none ∙ ap (λ b. cond b (Some y) (find test xs)) (ap test (same_Some y x here) ∙ passes))
  find_some test (y ∷ xs) (suc k) x here passes none = by (test y) none (find_some test xs k x here passes)
    where
      by : (b : Bool) → cond b (Some y) (find test xs) ≡ None → (find test xs ≡ None → ⊥) → ⊥
      by b e rest = grind arith

  -- an entry is the first at its offset
  pub first_is : (k : ℕ) (r : Relocation) → slice_get c.relocs k ≡ Some r → says_nothing r ≡ false → find (relocates r.VirtualAddress) c.relocs ≡ Some r
  first_is k r here busy = by (find (relocates r.VirtualAddress) c.relocs) refl
    where
      by : (o : Option Relocation) → find (relocates r.VirtualAddress) c.relocs ≡ o → o ≡ Some r
      by None e = absurd (find_some (relocates r.VirtualAddress) c.relocs k r here (ap (λ b. b && not (says_nothing r)) (eq-eqb r.VirtualAddress r.VirtualAddress refl) ∙ ap not busy) e)
      by (Some x) e =
          let m = found_at r.VirtualAddress x e in
          elim (cases_eq m.k k) [
            | inl same ↦ sym m.here ∙ ap (slice_get c.relocs) same ∙ here
            | inr other ↦ absurd (apart m other)
          ]
        where
          apart : (m : IsAtOffset r.VirtualAddress x) → (m.k ≡ k → ⊥) → ⊥
          apart m other = elim (cases_lt m.k k) [
            | inl before ↦ differ_at m.k k x r (good_entry m.k x m.here m.busy) (good_entry k r here busy) before m.here m.offset
            | inr later ↦ differ_at k m.k r x (good_entry k r here busy) (good_entry m.k x m.here m.busy) (omega (arith, later, other)) here (sym m.offset)
          ]
