-- The fields of fixups are what is given, one for each place.
use Rattle.std.proofs.Common.{◌≡◌, ℕ, zero, suc, ◌+◌, ◌-◌, ◌<◌, ◌≤◌, Bool, true, false, cond, List, [], ◌∷◌, ◌++◌, get_or, length, take, Option, None, Some, refl, sym, ◌∙◌, ap, subst, arith, length-take}
use Rattle.std.specs.{Prelude.{◌&&◌, ◌||◌, nat_eq, find, flat_map, slice_get}, List.{All, AllByRecursion, Any, IsDistinct, list_any}}
use Rattle.std.specs.{List.Sorted.{IsPermutation}, Option.{option_and_then, option_map, option_map_or, unwrap_or}}
use Rattle.std.proofs.lemmas.{Bool.{eq-eqb, eqb-true, ne_eqb, true≢false, and_parts}, List.{get_or-take}, List.Folds.{Any-from_list_any}}
use Rattle.std.proofs.lemmas.List.Sorted.{All-permutation, list_any-IsPermutation}
use Rattle.std.proofs.lemmas.Map.Keys.{IsDistinct-IsPermutation, apart_from_distinct, any_passes_from_place}
use Rattle.std.proofs.lemmas.Option.{none-some, same_Some, get_or_from_slice_get, slice_get-get_or}
use Rattle.oc_linking.specs.{declared.terms.Keep.{Keep}, FirstFault.{first_fault, stage_fault}}
use Rattle.oc_neutral.specs.declared.reloc.Reloc.{Reloc}
use Rattle.oc_neutral.proofs.Mapped.{all_from}
use Rattle.oc_linking.proofs.Testing.{either_way, found_there}
use Rattle.oc_shelf.proofs.WritingLaws.MemberLemmas.{member_map, of_map}
use Rattle.oc_omf_records.specs.Blocks.{copies_of, moved}
use Rattle.oc_omf.specs.{declared.constants.TheConstants.{OFFSET_32}, Entries.{Entry, entries_in}, Fields.{fixups_in, relocates}, Fixups.{Fixed, field_offsets}}
use Rattle.oc_omf.specs.{RelocationFaults.{relocation_stages}, SectionFaults.{section_stage}, Sections.{blocks_in}, Structures.{Piece}}
use Rattle.oc_omf.specs.Targets.{Meaning, meaning_of}
use Rattle.oc_omf_read.specs.{declared.fields.FixupField.{FixupField}, declared.fix.Fix.{Fix}, Aims.{fix_by, fix_for}}
use Rattle.oc_omf_read.specs.{Fields.{copies_in, fields_at, fields_by, fields_for, fields_of, is_among}, Given.{given_at, is_kept_at, reloc_by}}
use Rattle.oc_omf_read.specs.Aims as aims
use Rattle.oc_omf_read.proofs.{FixLemmas.{reloc_as, reloc_is}, PlacedFixups.{IsAt, at_by, data_sound, found_at, kept_aimed, same_at, sound}}
use Rattle.oc_omf_read.proofs.PlacedFixups as placed

-- ... lists

-- two are at one place
abbrev at_one : FixupField → FixupField → Bool
at_one x y = nat_eq x.section y.section && nat_eq x.at y.at

at_one_flips : (x y : FixupField) → at_one x y ≡ at_one y x
at_one_flips x y = ap (λ b. b && nat_eq x.at y.at) (either_way x.section y.section) ∙ ap (λ b. nat_eq y.section x.section && b) (either_way x.at y.at)

-- two lists of which none of the one is at the place of one of the other
all_join : {X : Type 0} (P : X → Type 0) (xs ys : List X) → AllByRecursion P xs → AllByRecursion P ys → AllByRecursion P (xs ++ ys)
all_join P [] ys a b = b
all_join P (x ∷ xs) ys a b = (a.0, all_join P xs ys a.1 b)

distinct_join : (xs ys : List FixupField) → IsDistinct at_one xs → IsDistinct at_one ys → AllByRecursion (λ x. AllByRecursion (λ y. at_one x y ≡ false) ys) xs → IsDistinct at_one (xs ++ ys)
unfolding IsDistinct
distinct_join [] ys a b cross = b
distinct_join (x ∷ xs) ys a b cross = (all_join (λ y. at_one x y ≡ false) xs ys a.0 cross.0, distinct_join xs ys a.1 b cross.1)

distinct_none : IsDistinct at_one []
unfolding IsDistinct
distinct_none = tt

-- fields of copies that stand apart
distinct_copies : (section offset : ℕ) (fix : Fix) (copies : List ℕ) → ((i j d : ℕ) → i < j → j < length copies → get_or copies i d + 4 ≤ get_or copies j d) → IsDistinct at_one (fields_at section offset fix copies)
unfolding IsDistinct
distinct_copies section offset fix [] apart = tt
distinct_copies section offset fix (c ∷ cs) apart = (later c cs (λ j low. apart 0 (suc j) 0 (omega arith) (omega (arith, low))), distinct_copies section offset fix cs (λ i j d low within. apart (suc i) (suc j) d (omega (arith, low)) (omega (arith, within))))
  where
    later : (c : ℕ) (cs : List ℕ) → ((j : ℕ) → j < length cs → c + 4 ≤ get_or cs j 0)
        → AllByRecursion (λ y. at_one (record { section = section; at = offset + c; fix = fix }) y ≡ false) (fields_at section offset fix cs)
    later c [] low = tt
    later c (x ∷ xs) low = (
      ap (λ b. b && nat_eq (offset + c) (offset + x)) (eq-eqb section section refl) ∙ ne_eqb (offset + c) (offset + x) (λ same. let above = low 0 (omega arith) in omega (arith, same, above)),
      later c xs (λ j within. low (suc j) (omega (arith, within))),
    )

-- one of copies is at a place
among_copies : (section offset s : ℕ) (fix : Fix) (at : ℕ) (copies : List ℕ) → section ≡ s → list_any (nat_eq at) (moved offset copies) ≡ true → is_among (fields_at section offset fix copies) s at ≡ true
among_copies section offset s fix at [] same e = absurd (true≢false (sym e))
among_copies section offset s fix at (c ∷ cs) same e = by (nat_eq at (offset + c)) refl e (among_copies section offset s fix at cs same)
  where
    or_true : (a : Bool) → (a || true) ≡ true
    or_true a = grind arith

    by : (b : Bool) → nat_eq at (offset + c) ≡ b → (b || list_any (nat_eq at) (moved offset cs)) ≡ true → (list_any (nat_eq at) (moved offset cs) ≡ true → is_among (fields_at section offset fix cs) s at ≡ true)
        → ((nat_eq section s && nat_eq (offset + c) at) || is_among (fields_at section offset fix cs) s at) ≡ true
    by true h e rest =
        ap (λ b. (b && nat_eq (offset + c) at) || is_among (fields_at section offset fix cs) s at) (eq-eqb section s same) ∙ ap (λ b. b || is_among (fields_at section offset fix cs) s at) (either_way (offset + c) at ∙ h)
    by false h e rest = ap (λ b. (nat_eq section s && nat_eq (offset + c) at) || b) (rest e) ∙ or_true (nat_eq section s && nat_eq (offset + c) at)

any_flat : {X Y : Type 0} (P : Y → Bool) (f : X → List Y) (xs : List X) (k : ℕ) (x : X) → slice_get xs k ≡ Some x → list_any P (f x) ≡ true → list_any P (flat_map f xs) ≡ true
any_flat P f [] k x here e = absurd (none-some x here)
any_flat P f (y ∷ ys) k x here e = by k here (λ k here. any_flat P f ys k x here e)
  where
    join_left : (xs ys : List _) → list_any P xs ≡ true → list_any P (xs ++ ys) ≡ true
    join_left [] ys e = absurd (true≢false (sym e))
    join_left (z ∷ zs) ys e = of (P z) e (join_left zs ys)
      where
        of : (b : Bool) → (b || list_any P zs) ≡ true → (list_any P zs ≡ true → list_any P (zs ++ ys) ≡ true) → (b || list_any P (zs ++ ys)) ≡ true
        of b e rest = grind arith

    join_right : (xs ys : List _) → list_any P ys ≡ true → list_any P (xs ++ ys) ≡ true
    join_right [] ys e = e
    join_right (z ∷ zs) ys e = ap (λ b. P z || b) (join_right zs ys e) ∙ or_true (P z)
      where
        or_true : (a : Bool) → (a || true) ≡ true
        or_true a = grind arith

    by : (k : ℕ) → slice_get (y ∷ ys) k ≡ Some x → ((k : ℕ) → slice_get ys k ≡ Some x → list_any P (flat_map f ys) ≡ true) → list_any P (f y ++ flat_map f ys) ≡ true
    by zero here rest = join_left (f y) (flat_map f ys) (ap (λ z. list_any P (f z)) (same_Some y x here) ∙ e)
    by (suc k) here rest = join_right (f y) (flat_map f ys) (rest k here)

module _ (file : List ℕ) (keep : Keep) (sections : stage_fault (section_stage (entries_in file)) ≡ None) (relocs : first_fault (relocation_stages (entries_in file) keep) ≡ None) where
  abbrev pub es : List Entry
  es = entries_in file

  abbrev pub m : Meaning
  m = meaning_of es

  abbrev pub fs : List Fixed
  fs = fixups_in es

  abbrev pub At : ℕ → ℕ → ℕ → Fixed → Type 0
  At s at p f = IsAt file keep sections relocs s at p f

  -- ... a field that is listed

  -- what is made where a fixup makes one
  pub fix_made : (segment : ℕ) (f : Fixed) (fix : Fix) → fix_for m keep segment f.fixup f.frame f.target ≡ Some fix
      → (nat_eq f.fixup.location OFFSET_32 ≡ true) × (aims.is_kept m.tables keep segment ≡ true) × (fix_by m segment f.fixup f.frame f.target ≡ Some fix)
  unfolding fix_for
  fix_made segment f fix e = by (nat_eq f.fixup.location OFFSET_32) (aims.is_kept m.tables keep segment) e
    where
      by : (a b : Bool) → cond (a && b) (fix_by m segment f.fixup f.frame f.target) None ≡ Some fix → (a ≡ true) × (b ≡ true) × (fix_by m segment f.fixup f.frame f.target ≡ Some fix)
      by a b e = grind arith

  fix_is : (segment : ℕ) (f : Fixed) → nat_eq f.fixup.location OFFSET_32 ≡ true → aims.is_kept m.tables keep segment ≡ true → fix_for m keep segment f.fixup f.frame f.target ≡ fix_by m segment f.fixup f.frame f.target
  unfolding fix_for
  fix_is segment f location kept = ap (λ b. cond (b && aims.is_kept m.tables keep segment) (fix_by m segment f.fixup f.frame f.target) None) location ∙ ap (λ b. cond b (fix_by m segment f.fixup f.frame f.target) None) kept

  kept_here : (d : Piece) → placed.IsSoundData file keep sections relocs d → aims.is_kept m.tables keep d.segment ≡ is_kept_at es keep (d.segment - 1)
  unfolding meaning_of
  kept_here d sound = kept_aimed file keep sections relocs d sound.placed

  -- a field of fixup p
  pub record IsFieldOf (p : ℕ) (e : FixupField) : Type 0 where
    pub f : Fixed
    pub is_at : At e.section e.at p f
    pub fix : fix_for m keep is_at.data_.segment f.fixup f.frame f.target ≡ Some e.fix

  field_of : (p : ℕ) (f : Fixed) → slice_get fs p ≡ Some f → (k : ℕ) (e : FixupField) → slice_get (fields_for m keep f) k ≡ Some e → IsFieldOf p e
  field_of p f here k e there = by f.piece refl there
    where
      by_fix : (d : Piece) → f.piece ≡ Some d → (o : Option Fix) → fix_for m keep d.segment f.fixup f.frame f.target ≡ o
          → slice_get (option_map_or (λ (fix : Fix). fields_at (d.segment - 1) d.offset fix (copies_in (blocks_in d.blocks) f.fixup.offset)) o []) k ≡ Some e → IsFieldOf p e
      by_fix d behind None is there = absurd (none-some e there)
      by_fix d behind (Some fix) is there =
          let copies : List ℕ = copies_in (blocks_in d.blocks) f.fixup.offset in
          let one = of_map (λ (copy : ℕ). record { section = d.segment - 1; at = d.offset + copy; fix = fix }) copies k e there in
          let data_ok = data_sound file keep sections relocs p f d here behind in
          let made = fix_made d.segment f fix is in
          let first = data_ok.placed.first in
          let offsets : field_offsets f ≡ moved d.offset copies =
          ap (λ (x : Option Piece). option_map_or (λ (d : Piece). moved d.offset (unwrap_or (option_and_then (λ (d : Piece). copies_of (blocks_in d.blocks) f.fixup.offset) x) [])) x []) behind in
          subst (IsFieldOf p) one.2 (record {
            f = f;
            is_at = record {
              here = here;
              data_ = d;
              behind = behind;
              segment = omega (arith, first);
              among = ap (list_any (nat_eq (d.offset + one.0))) offsets
                  ∙ any_passes_from_place (nat_eq (d.offset + one.0)) (moved d.offset copies) k (d.offset + one.0) (member_map (λ place. d.offset + place) copies k one.0 one.1) (eq-eqb (d.offset + one.0) (d.offset + one.0) refl);
              location = made.0;
              kept = sym (kept_here d data_ok) ∙ made.1;
            };
            fix = is;
          })

      by : (o : Option Piece) → f.piece ≡ o → slice_get (option_map_or (λ (d : Piece). fields_by m keep d.segment d.offset (blocks_in d.blocks) f.fixup f.frame f.target) o []) k ≡ Some e → IsFieldOf p e
      by None behind there = absurd (none-some e there)
      by (Some d) behind there = by_fix d behind (fix_for m keep d.segment f.fixup f.frame f.target) refl there

  -- a field of some fixup from a number on
  pub record IsFromFixup (k : ℕ) (e : FixupField) : Type 0 where
    pub p : ℕ
    pub from : k ≤ p
    pub is : IsFieldOf p e

  own_listed : (k : ℕ) (f : Fixed) → slice_get fs k ≡ Some f → AllByRecursion (IsFieldOf k) (fields_for m keep f)
  own_listed k f here = all_from (IsFieldOf k) (fields_for m keep f) (field_of k f here)

  weaker : {X : Type 0} (P Q : X → Type 0) (xs : List X) → ((x : X) → P x → Q x) → AllByRecursion P xs → AllByRecursion Q xs
  weaker P Q [] f all = tt
  weaker P Q (x ∷ xs) f all = (f x all.0, weaker P Q xs f all.1)

  -- fixups from number k on
  abbrev AreFrom : ℕ → List Fixed → Type 0
  AreFrom k xs = (j : ℕ) (x : Fixed) → slice_get xs j ≡ Some x → slice_get fs (k + j) ≡ Some x

  from_first : (k : ℕ) (x : Fixed) (xs : List Fixed) → AreFrom k (x ∷ xs) → slice_get fs k ≡ Some x
  from_first k x xs from = let same : k + 0 ≡ k = omega arith in ap (slice_get fs) (sym same) ∙ from 0 x refl

  from_rest : (k : ℕ) (x : Fixed) (xs : List Fixed) → AreFrom k (x ∷ xs) → AreFrom (k + 1) xs
  from_rest k x xs from j y here = let same : k + 1 + j ≡ k + suc j = omega arith in ap (slice_get fs) same ∙ from (suc j) y here

  listed_from : (k : ℕ) (xs : List Fixed) → AreFrom k xs → AllByRecursion (IsFromFixup k) (flat_map (fields_for m keep) xs)
  listed_from k [] from = tt
  listed_from k (x ∷ xs) from =
      all_join (IsFromFixup k) (fields_for m keep x) (flat_map (fields_for m keep) xs) (weaker (IsFieldOf k) (IsFromFixup k) (fields_for m keep x) (λ e is. record { p = k; from = omega arith; is = is }) (own_listed k x (from_first k x xs from)))
      (weaker (IsFromFixup (k + 1)) (IsFromFixup k) (flat_map (fields_for m keep) xs) (λ e l. let low = l.from in record { p = l.p; from = omega (arith, low); is = l.is }) (listed_from (k + 1) xs (from_rest k x xs from)))

  all_listed : AllByRecursion (IsFromFixup 0) (fields_of m keep fs)
  unfolding fields_of
  all_listed = listed_from 0 fs (λ j x here. let same : 0 + j ≡ j = omega arith in ap (slice_get fs) same ∙ here)

  -- what is given at its place
  pub field_given : (p : ℕ) (e : FixupField) → IsFieldOf p e → given_at es keep e.section e.at ≡ Some (reloc_as m e.section e.at e.fix)
  unfolding given_at
  field_given p e l =
      let a = l.is_at in
      let made = fix_made a.data_.segment l.f e.fix l.fix in
      ap (λ b. cond b (option_and_then (reloc_by m e.section e.at) (find (relocates e.section e.at) fs)) None) a.kept
      ∙ ap (option_and_then (reloc_by m e.section e.at)) (found_at file keep sections relocs e.section e.at p l.f a)
      ∙ reloc_is m e.section e.at l.f a.data_ a.behind ∙ ap (option_map (reloc_as m e.section e.at)) made.2

  -- ... places differ

  -- two fixups have no field at one place
  not_one : (p q : ℕ) (x y : FixupField) → IsFieldOf p x → IsFieldOf q y → p < q → at_one x y ≡ false
  not_one p q x y a b low = by (at_one x y) refl
    where
      by : (c : Bool) → at_one x y ≡ c → c ≡ false
      by false e = refl
      by true e =
          let both = and_parts (nat_eq x.section y.section) (nat_eq x.at y.at) e in
          let moved_there : At x.section x.at q b.f
          = subst (λ (s : ℕ). At s x.at q b.f) (sym (eqb-true x.section y.section both.0)) (subst (λ (at : ℕ). At y.section at q b.f) (sym (eqb-true x.at y.at both.1)) b.is_at) in
          let same = same_at file keep sections relocs x.section x.at p q a.f b.f a.is_at moved_there in
          absurd (omega (arith, same, low))

  own_distinct : (k : ℕ) (f : Fixed) → slice_get fs k ≡ Some f → IsDistinct at_one (fields_for m keep f)
  own_distinct k f here = by f.piece refl
    where
      by_copies : (d : Piece) → f.piece ≡ Some d → (fix : Fix) (o : Option (List ℕ)) → copies_of (blocks_in d.blocks) f.fixup.offset ≡ o → IsDistinct at_one (fields_at (d.segment - 1) d.offset fix (unwrap_or o []))
      by_copies d behind fix None e = distinct_none
      by_copies d behind fix (Some places) e =
          distinct_copies (d.segment - 1) d.offset fix places (λ i j x low within. ((data_sound file keep sections relocs k f d here behind).copied f.fixup.offset places e).apart i j x low within)

      by_fix : (d : Piece) → f.piece ≡ Some d → (o : Option Fix) → IsDistinct at_one (option_map_or (λ (fix : Fix). fields_at (d.segment - 1) d.offset fix (copies_in (blocks_in d.blocks) f.fixup.offset)) o [])
      by_fix d behind None = distinct_none
      by_fix d behind (Some fix) = by_copies d behind fix (copies_of (blocks_in d.blocks) f.fixup.offset) refl

      by : (o : Option Piece) → f.piece ≡ o → IsDistinct at_one (option_map_or (λ (d : Piece). fields_by m keep d.segment d.offset (blocks_in d.blocks) f.fixup f.frame f.target) o [])
      by None behind = distinct_none
      by (Some d) behind = by_fix d behind (fix_for m keep d.segment f.fixup f.frame f.target)

  distinct_from : (k : ℕ) (xs : List Fixed) → AreFrom k xs → IsDistinct at_one (flat_map (fields_for m keep) xs)
  distinct_from k [] from = distinct_none
  distinct_from k (x ∷ xs) from =
      distinct_join (fields_for m keep x) (flat_map (fields_for m keep) xs) (own_distinct k x (from_first k x xs from)) (distinct_from (k + 1) xs (from_rest k x xs from))
      (weaker (IsFieldOf k) (λ a. AllByRecursion (λ y. at_one a y ≡ false) (flat_map (fields_for m keep) xs)) (fields_for m keep x)
      (λ a own. weaker (IsFromFixup (k + 1)) (λ y. at_one a y ≡ false) (flat_map (fields_for m keep) xs) (λ y l. let from = l.from in not_one k l.p a y own l.is (omega (arith, from))) (listed_from (k + 1) xs (from_rest k x xs from)))
      (own_listed k x (from_first k x xs from)))

  all_distinct : IsDistinct at_one (fields_of m keep fs)
  unfolding fields_of
  all_distinct = distinct_from 0 fs (λ j x here. let same : 0 + j ≡ j = omega arith in ap (slice_get fs) same ∙ here)

  -- ... what is given is listed

  -- a relocation that is given, with its fixup
  pub record IsStanding (s at : ℕ) (r : Reloc) : Type 0 where
    pub p : ℕ
    pub f : Fixed
    pub is_at : At s at p f
    pub fix : Fix
    pub made : fix_for m keep is_at.data_.segment f.fixup f.frame f.target ≡ Some fix
    pub reloc : reloc_as m s at fix ≡ r

  pub given_standing : (s at : ℕ) (r : Reloc) → given_at es keep s at ≡ Some r → IsStanding s at r
  unfolding given_at
  given_standing s at r e = by (is_kept_at es keep s) refl e
    where
      fixed : (f : Fixed) (p : ℕ) (a : At s at p f) → reloc_by m s at f ≡ Some r → IsStanding s at r
      fixed f p a e = of (fix_by m a.data_.segment f.fixup f.frame f.target) refl (sym (reloc_is m s at f a.data_ a.behind) ∙ e)
        where
          of : (o : Option Fix) → fix_by m a.data_.segment f.fixup f.frame f.target ≡ o → option_map (reloc_as m s at) o ≡ Some r → IsStanding s at r
          of None h e = absurd (none-some r e)
          of (Some fix) h e =
              let ok = sound file keep sections relocs s at p f a in
              let segment = a.segment in
              let position : a.data_.segment - 1 ≡ s = omega (arith, segment) in
              record {
                p = p;
                f = f;
                is_at = a;
                fix = fix;
                made = fix_is a.data_.segment f a.location (kept_here a.data_ ok ∙ ap (is_kept_at es keep) position ∙ a.kept) ∙ h;
                reloc = same_Some (reloc_as m s at fix) r e;
              }

      found : (o : Option Fixed) → find (relocates s at) fs ≡ o → is_kept_at es keep s ≡ true → option_and_then (reloc_by m s at) o ≡ Some r → IsStanding s at r
      found None h kept e = absurd (none-some r e)
      found (Some f) h kept e = let there = found_there (relocates s at) fs f h in fixed f there.0 (at_by file keep sections relocs s at there.0 f there.1 there.2 kept) e

      by : (b : Bool) → is_kept_at es keep s ≡ b → cond b (option_and_then (reloc_by m s at) (find (relocates s at) fs)) None ≡ Some r → IsStanding s at r
      by false h e = absurd (none-some r e)
      by true h e = found (find (relocates s at) fs) refl h e

  pub standing_among : (s at : ℕ) (r : Reloc) → IsStanding s at r → is_among (fields_of m keep fs) s at ≡ true
  unfolding fields_of
  standing_among s at r n =
      let a = n.is_at in
      let d : Piece = a.data_ in
      let segment = a.segment in
      let position : d.segment - 1 ≡ s = omega (arith, segment) in
      let offsets : field_offsets n.f ≡ moved d.offset (copies_in (blocks_in d.blocks) n.f.fixup.offset) =
      ap (λ (x : Option Piece). option_map_or (λ (d : Piece). moved d.offset (unwrap_or (option_and_then (λ (d : Piece). copies_of (blocks_in d.blocks) n.f.fixup.offset) x) [])) x []) a.behind in
      let made : fields_for m keep n.f ≡ fields_at (d.segment - 1) d.offset n.fix (copies_in (blocks_in d.blocks) n.f.fixup.offset) =
      ap (λ (x : Option Piece). option_map_or (λ (d : Piece). fields_by m keep d.segment d.offset (blocks_in d.blocks) n.f.fixup n.f.frame n.f.target) x []) a.behind
      ∙ ap (λ (x : Option Fix). option_map_or (λ (fix : Fix). fields_at (d.segment - 1) d.offset fix (copies_in (blocks_in d.blocks) n.f.fixup.offset)) x []) n.made in
      any_flat (λ (e : FixupField). nat_eq e.section s && nat_eq e.at at) (fields_for m keep) fs n.p n.f a.here
      (ap (λ (xs : List FixupField). is_among xs s at) made
      ∙ among_copies (d.segment - 1) d.offset s n.fix at (copies_in (blocks_in d.blocks) n.f.fixup.offset) position (ap (list_any (nat_eq at)) (sym offsets) ∙ a.among))

  -- ... in any order

  module _ (fields : List FixupField) (are : IsPermutation (fields_of m keep fs) fields) where
    each_from : {X : Type 0} (P : X → Type 0) (xs : List X) → AllByRecursion P xs → All P xs
    each_from P [] all k d low = absurd (omega (arith, low))
    each_from P (x ∷ xs) all zero d low = all.0
    each_from P (x ∷ xs) all (suc k) d low = each_from P xs all.1 k d (omega (arith, low))

    pub listed_at : (j : ℕ) (d : FixupField) → j < length fields → IsFromFixup 0 (get_or fields j d)
    listed_at j d low = All-permutation (IsFromFixup 0) (fields_of m keep fs) fields are (each_from (IsFromFixup 0) (fields_of m keep fs) all_listed) j d low

    -- none before it is at its place
    pub not_among : (j : ℕ) (d : FixupField) → j < length fields → is_among (take j fields) (get_or fields j d).section (get_or fields j d).at ≡ false
    not_among j d low = by (is_among (take j fields) (get_or fields j d).section (get_or fields j d).at) refl
      where
        same_default : (q : ℕ) (x : FixupField) → q < length fields → get_or fields q x ≡ get_or fields q d
        same_default q x l = get_or_from_slice_get fields q (get_or fields q d) x (slice_get-get_or fields q d l)

        by : (b : Bool) → is_among (take j fields) (get_or fields j d).section (get_or fields j d).at ≡ b → b ≡ false
        by false e = refl
        by true e = of (Any-from_list_any (λ (x : FixupField). nat_eq x.section (get_or fields j d).section && nat_eq x.at (get_or fields j d).at) (take j fields) e)
          where
            of : Any (λ (x : FixupField). (nat_eq x.section (get_or fields j d).section && nat_eq x.at (get_or fields j d).at) ≡ true) (take j fields) → true ≡ false
            of n =
                let below : n.0 < j = let l = n.2 in omega (arith, l, length-take j fields) in
                let is : get_or fields n.0 d ≡ n.1 = sym (same_default n.0 n.1 (omega (arith, below, low))) ∙ sym (get_or-take j fields n.0 n.1 below) ∙ n.3 in
                let apart = apart_from_distinct at_one fields n.0 j d (IsDistinct-IsPermutation at_one at_one_flips (fields_of m keep fs) fields are all_distinct) below low in
                sym n.4 ∙ ap (λ (x : FixupField). at_one x (get_or fields j d)) (sym is) ∙ apart

    pub among_same : (s at : ℕ) → is_among fields s at ≡ is_among (fields_of m keep fs) s at
    among_same s at = sym (list_any-IsPermutation (λ (e : FixupField). nat_eq e.section s && nat_eq e.at at) (fields_of m keep fs) fields are)
