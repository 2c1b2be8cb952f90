-- Fixups with a field at a place that is kept: there is one at most, and none meets another.
use Rattle.std.proofs.Common.{◌≡◌, ℕ, zero, suc, ◌+◌, ◌-◌, ◌<◌, ◌≤◌, inl, inr, Bool, true, false, cond, List, [], ◌∷◌, ◌++◌, get_or, length, take, Option, None, Some, Result, Ok, Err, refl, sym, ◌∙◌, ap, subst, arith}
use Rattle.std.specs.{Prelude.{◌&&◌, ◌||◌, nat_eq, nat_lt, filter, find, slice_get}, List.{AllByRecursion, list_any}}
use Rattle.std.specs.Option.{option_map_or, unwrap_or, option_and_then}
use Rattle.std.proofs.lemmas.{Bool.{cases_eq, cases_lt, eq-eqb, eqb-true, true≢false}, Bool.Decides.{nat_tests}, Option.{none-some, same_Some}}
use Rattle.oc_linking.specs.{declared.terms.Keep.{Keep}, Keeping.{keeps}, FirstFault.{first_fault, stage_fault}}
use Rattle.oc_linking.specs.Parts as parts
use Rattle.oc_neutral.proofs.{Positions.{each_at}, Mapped.{all_from}}
use Rattle.oc_shelf.proofs.WritingLaws.MemberLemmas.{find_first, member_flat_map}
use Rattle.oc_omf_records.specs.{Blocks.{copies_of, moved}, NextEntry.{entry_of}}
use Rattle.oc_omf.specs.{declared.constants.TheConstants.{OFFSET_32}, declared.cut.Cut.{Cut}, declared.structures.Segment.{Segment}}
use Rattle.oc_omf.specs.{declared.structures.Subrecord.{Subrecord}, Entries.{Entry, all_read, entries_in}, Fields.{fixups_in, relocates}}
use Rattle.oc_omf.specs.Fixups.{Fixed, PlacedSubrecord, are_near, field_offsets, fixed_from, fixed_in, is_of_segment, last_of, meet, subrecords_upto, with_fixed}
use Rattle.oc_omf.specs.{RelocationFaults.{is_judged, relocation_stages}, SectionFaults.{section_stage}}
use Rattle.oc_omf.specs.{Sections.{blocks_in, is_covered, piece_size, segment_kind}, Structures.{Piece}, Tables.{indexed, tables_of}, Targets.{meaning_of}}
use Rattle.oc_omf.specs.declared.structures.Subrecord.TheVariants as subrecord
use Rattle.oc_omf.specs.RelocationFaults as faults
use Rattle.oc_omf.specs.Tables as all
use Rattle.oc_omf_read.specs.Aims as aims
use Rattle.oc_omf_read.specs.Given.{is_kept_at}
use Rattle.oc_omf_read.proofs.{AimLemmas.{some_indexed}, BuildLemmas.{section_at}, CleanFixups.{IsGood, each_placed, good_fixup}, ContentLemmas.{all_flat}}
use Rattle.oc_omf_read.proofs.{PieceCopies.{HaveCopies, pieces_copied}, SoundPieces.{IsPlacedPiece, pieces_placed}, SumLemmas.{said_here}}

any_filter : {X : Type 0} (P Q : X → Bool) (xs : List X) (k : ℕ) (x : X) → slice_get xs k ≡ Some x → P x ≡ true → Q x ≡ true → list_any P (filter Q xs) ≡ true
any_filter P Q [] k x here p q = absurd (none-some x here)
any_filter P Q (y ∷ ys) zero x here p q =
    ap (λ b. list_any P (cond b (y ∷ filter Q ys) (filter Q ys))) (ap Q (same_Some y x here) ∙ q) ∙ ap (λ b. b || list_any P (filter Q ys)) (ap P (same_Some y x here) ∙ p)
any_filter P Q (y ∷ ys) (suc k) x here p q = by (Q y) (any_filter P Q ys k x here p q)
  where
    or_true : (a b : Bool) → b ≡ true → (a || b) ≡ true
    or_true a b e = grind arith

    by : (b : Bool) → list_any P (filter Q ys) ≡ true → list_any P (cond b (y ∷ filter Q ys) (filter Q ys)) ≡ true
    by b e = grind arith

last_holds : {X : Type 0} (P : X → Type 0) (xs : List X) (x : X) → AllByRecursion P xs → last_of xs ≡ Some x → P x
last_holds P [] x all e = absurd (none-some x e)
last_holds P (y ∷ []) x all e = subst P (same_Some y x e) all.0
last_holds P (y ∷ z ∷ zs) x all e = last_holds P (z ∷ zs) x all.1 e

front_at : {X : Type 0} (n : ℕ) (xs : List X) (j : ℕ) (x : X) → slice_get (take n xs) j ≡ Some x → slice_get xs j ≡ Some x
front_at zero xs j x e = absurd (none-some x e)
front_at (suc n) [] j x e = absurd (none-some x e)
front_at (suc n) (y ∷ ys) zero x e = e
front_at (suc n) (y ∷ ys) (suc j) x e = front_at n ys j x e

before_at : {X : Type 0} (n : ℕ) (xs : List X) (j : ℕ) (x : X) → j < n → slice_get xs j ≡ Some x → slice_get (take n xs) j ≡ Some x
before_at zero xs j x low e = absurd (omega (arith, low))
before_at (suc n) [] j x low e = absurd (none-some x e)
before_at (suc n) (y ∷ ys) zero x low e = e
before_at (suc n) (y ∷ ys) (suc j) x low e = before_at n ys j x (omega (arith, low)) e

none_at : {X : Type 0} (P : X → Bool) (xs : List X) (k : ℕ) (x : X) → list_any P xs ≡ false → slice_get xs k ≡ Some x → P x ≡ false
none_at P [] k x none here = absurd (none-some x here)
none_at P (y ∷ ys) k x none here = by (P y) refl none (λ k. none_at P ys k x) k here
  where
    by : (b : Bool) → P y ≡ b → (b || list_any P ys) ≡ false → ((k : ℕ) → list_any P ys ≡ false → slice_get ys k ≡ Some x → P x ≡ false) → (k : ℕ) → slice_get (y ∷ ys) k ≡ Some x → P x ≡ false
    by b e none rest k here = grind arith

-- one that is among some passes for them
any_by : (P : ℕ → Bool) (at : ℕ) (xs : List ℕ) → list_any (nat_eq at) xs ≡ true → P at ≡ true → list_any P xs ≡ true
any_by P at [] among is = absurd (true≢false (sym among))
any_by P at (x ∷ xs) among is = by (nat_eq at x) refl among (λ more. any_by P at xs more is)
  where
    or_true : (a : Bool) → (a || true) ≡ true
    or_true a = grind arith

    by : (b : Bool) → nat_eq at x ≡ b → (b || list_any (nat_eq at) xs) ≡ true → (list_any (nat_eq at) xs ≡ true → list_any P xs ≡ true) → (P x || list_any P xs) ≡ true
    by b e among rest = grind arith

-- two that are among numbers that stand apart, in their order
pub position_of_any : (at : ℕ) (xs : List ℕ) → list_any (nat_eq at) xs ≡ true → (k : ℕ) × (k < length xs) × ((d : ℕ) → get_or xs k d ≡ at)
position_of_any at [] among = absurd (true≢false (sym among))
position_of_any at (x ∷ xs) among = by (nat_eq at x) refl among (position_of_any at xs)
  where
    by : (b : Bool) → nat_eq at x ≡ b → (b || list_any (nat_eq at) xs) ≡ true → (list_any (nat_eq at) xs ≡ true → (k : ℕ) × (k < length xs) × ((d : ℕ) → get_or xs k d ≡ at))
        → (k : ℕ) × (k < length (x ∷ xs)) × ((d : ℕ) → get_or (x ∷ xs) k d ≡ at)
    by true e among rest = (0, omega arith, λ d. sym (eqb-true at x e))
    by false e among rest = let m = rest among in let low = m.1 in (suc m.0, omega (arith, low), m.2)

module _ (file : List ℕ) (keep : Keep) (sections : stage_fault (section_stage (entries_in file)) ≡ None) (relocs : first_fault (relocation_stages (entries_in file) keep) ≡ None) where
  abbrev pub es : List Entry
  es = entries_in file

  abbrev pub t : all.Tables
  t = tables_of es

  abbrev pub fs : List Fixed
  fs = fixups_in es

  -- ... data

  pub record IsSoundData (d : Piece) : Type 0 where
    pub placed : IsPlacedPiece t d
    pub copied : HaveCopies (blocks_in d.blocks)
    pub covered : 0 < piece_size d → is_covered t d.segment ≡ true

  covers : (i : ℕ) (e : Entry) → slice_get es i ≡ Some e → (k : ℕ) (d : Piece) → slice_get (all_read e.pieces) k ≡ Some d → 0 < piece_size d → is_covered t d.segment ≡ true
  unfolding tables_of
  covers i e here k d at_k some =
      let all_at = member_flat_map (λ (e : Entry). all_read e.pieces) es i k e d here at_k in
      any_filter (λ (x : Piece). nat_lt 0 (piece_size x)) (λ (x : Piece). nat_eq x.segment d.segment) t.pieces all_at.0 d all_at.1 (positive (piece_size d) some) (eq-eqb d.segment d.segment refl)
    where
      positive : (n : ℕ) → 0 < n → nat_lt 0 n ≡ true
      positive n low = grind (arith, nat_tests)

  pieces_sound : (i : ℕ) (e : Entry) → slice_get es i ≡ Some e → AllByRecursion IsSoundData (all_read e.pieces)
  pieces_sound i e here =
      let placed = pieces_placed file sections i e here in
      let is = said_here file i e here in
      let copied = subst (λ (x : Entry). AllByRecursion (λ (d : Piece). HaveCopies (blocks_in d.blocks)) (all_read x.pieces)) (sym is.is) (pieces_copied (entry_of file is.at)) in
      all_from IsSoundData (all_read e.pieces) (λ k d at_k. record {
        placed = each_at (IsPlacedPiece t) (all_read e.pieces) k d placed at_k;
        copied = each_at (λ (d : Piece). HaveCopies (blocks_in d.blocks)) (all_read e.pieces) k d copied at_k;
        covered = covers i e here k d at_k;
      })

  before_sound : (i : ℕ) → AllByRecursion IsSoundData (tables_of (take i es)).pieces
  unfolding tables_of
  before_sound i = all_flat IsSoundData (λ (e : Entry). all_read e.pieces) (take i es) (λ j e at_j. pieces_sound j e (front_at i es j e at_j))

  -- the data before a fixup
  abbrev HasSound : Fixed → Type 0
  HasSound f = (d : Piece) → f.piece ≡ Some d → IsSoundData d

  from_placed : (earlier xs : List PlacedSubrecord) → AllByRecursion (λ (x : PlacedSubrecord). (d : Piece) → last_of x.before.pieces ≡ Some d → IsSoundData d) xs → AllByRecursion HasSound (fixed_from earlier xs)
  from_placed earlier [] all = tt
  from_placed earlier (x ∷ xs) all = by x.part (from_placed (earlier ++ x ∷ []) xs all.1)
    where
      by : (r : Result Subrecord Cut) → AllByRecursion HasSound (fixed_from (earlier ++ x ∷ []) xs)
          → AllByRecursion HasSound (with_fixed earlier (record { index = x.index; at = x.at; part = r; before = x.before }) (fixed_from (earlier ++ x ∷ []) xs))
      by (Ok (subrecord.Fixup f)) rest = (all.0, rest)
      by (Ok (subrecord.Thread t)) rest = rest
      by (Err c) rest = rest

  all_sound : AllByRecursion HasSound fs
  unfolding fixed_in
  all_sound = from_placed [] (subrecords_upto es (length es)) (each_placed es (λ (x : PlacedSubrecord). (d : Piece) → last_of x.before.pieces ≡ Some d → IsSoundData d) (λ i e s here d last. last_holds IsSoundData (tables_of (take i es)).pieces d (before_sound i) last))

  pub data_sound : (p : ℕ) (f : Fixed) (d : Piece) → slice_get fs p ≡ Some f → f.piece ≡ Some d → IsSoundData d
  data_sound p f d here behind = each_at HasSound fs p f all_sound here d behind

  -- ... sections

  -- whether the section of data is kept
  pub kept_kind : (d : Piece) (m : IsPlacedPiece t d) → is_kept_at es keep (d.segment - 1) ≡ keeps keep (segment_kind t d.segment m.segment)
  kept_kind d m =
      let first = m.first in
      let one : d.segment - 1 + 1 ≡ d.segment = omega (arith, first) in
      ap (λ (o : Option parts.Section). option_map_or (λ (x : parts.Section). keeps keep x.kind) o true) (section_at t (d.segment - 1) m.segment m.there)
      ∙ ap (λ (n : ℕ). keeps keep (segment_kind t n m.segment)) one

  index_is : (d : Piece) (m : IsPlacedPiece t d) → indexed t.segments d.segment ≡ Some m.segment
  index_is d m = let first = m.first in some_indexed t.segments d.segment (λ e. omega (arith, e, first)) ∙ m.there

  pub kept_judged : (d : Piece) → IsPlacedPiece t d → faults.is_kept t keep d ≡ is_kept_at es keep (d.segment - 1)
  kept_judged d m = ap (λ (o : Option Segment). option_map_or (λ (s : Segment). keeps keep (segment_kind t d.segment s)) o true) (index_is d m) ∙ sym (kept_kind d m)

  pub kept_aimed : (d : Piece) → IsPlacedPiece t d → aims.is_kept t keep d.segment ≡ is_kept_at es keep (d.segment - 1)
  kept_aimed d m = ap (λ (o : Option Segment). option_map_or (λ (s : Segment). keeps keep (segment_kind t d.segment s)) o false) (index_is d m) ∙ sym (kept_kind d m)

  -- ... fixups

  -- fixup p has a field at an offset of the section at position s, which is kept
  pub record IsAt (s at p : ℕ) (f : Fixed) : Type 0 where
    pub here : slice_get fs p ≡ Some f
    pub data_ : Piece
    pub behind : f.piece ≡ Some data_
    pub segment : data_.segment ≡ s + 1
    pub among : list_any (nat_eq at) (field_offsets f) ≡ true
    pub location : nat_eq f.fixup.location OFFSET_32 ≡ true
    pub kept : is_kept_at es keep s ≡ true

  pub at_by : (s at p : ℕ) (f : Fixed) → slice_get fs p ≡ Some f → relocates s at f ≡ true → is_kept_at es keep s ≡ true → IsAt s at p f
  at_by s at p f here is kept = by f.piece refl is
    where
      both : (a b c : Bool) → (a && b && c) ≡ true → (a ≡ true) × (b ≡ true) × (c ≡ true)
      both a b c e = grind arith

      by : (o : Option Piece) → f.piece ≡ o → (option_map_or (λ (d : Piece). nat_eq d.segment (s + 1)) o false && list_any (nat_eq at) (field_offsets f) && nat_eq f.fixup.location OFFSET_32) ≡ true → IsAt s at p f
      by None e h = absurd (true≢false (sym h))
      by (Some d) e h =
          let m = both (nat_eq d.segment (s + 1)) (list_any (nat_eq at) (field_offsets f)) (nat_eq f.fixup.location OFFSET_32) h in
          record { here = here; data_ = d; behind = e; segment = eqb-true d.segment (s + 1) m.0; among = m.1; location = m.2; kept = kept }

  module _ (s at p : ℕ) (f : Fixed) (m : IsAt s at p f) where
    pub of_segment : is_of_segment f (s + 1) ≡ true
    of_segment = ap (λ (o : Option Piece). option_map_or (λ (d : Piece). nat_eq d.segment (s + 1)) o false) m.behind ∙ eq-eqb m.data_.segment (s + 1) m.segment

    pub relocated : relocates s at f ≡ true
    relocated = ap (λ b. b && list_any (nat_eq at) (field_offsets f) && nat_eq f.fixup.location OFFSET_32) of_segment ∙ ap (λ b. b && nat_eq f.fixup.location OFFSET_32) m.among ∙ m.location

    pub sound : IsSoundData m.data_
    sound = data_sound p f m.data_ m.here m.behind

    position : s ≡ m.data_.segment - 1
    position = let segment = m.segment in omega (arith, segment)

    judged : is_judged (meaning_of es).tables keep f ≡ true
    unfolding meaning_of
    judged =
        ap (λ (o : Option Piece). option_map_or (faults.is_kept t keep) o true) m.behind ∙ kept_judged m.data_ sound.placed ∙ ap (is_kept_at es keep) (sym position) ∙ m.kept

    pub good : IsGood (meaning_of es) keep (take p fs) f
    good = good_fixup es keep relocs p f m.here judged

    -- its field lies in its data
    pub record HasCopies : Type 0 where
      pub places : List ℕ
      pub are : copies_of (blocks_in m.data_.blocks) f.fixup.offset ≡ Some places
      pub offsets : field_offsets f ≡ moved m.data_.offset places

    pub copies : HasCopies
    copies = by (copies_of (blocks_in m.data_.blocks) f.fixup.offset) refl
      where
        offsets_by : (o : Option (List ℕ)) → copies_of (blocks_in m.data_.blocks) f.fixup.offset ≡ o → field_offsets f ≡ moved m.data_.offset (unwrap_or o [])
        offsets_by o e =
            ap (λ (x : Option Piece). option_map_or (λ (d : Piece). moved d.offset (unwrap_or (option_and_then (λ (d : Piece). copies_of (blocks_in d.blocks) f.fixup.offset) x) [])) x []) m.behind
            ∙ ap (λ (o : Option (List ℕ)). moved m.data_.offset (unwrap_or o [])) e

        by : (o : Option (List ℕ)) → copies_of (blocks_in m.data_.blocks) f.fixup.offset ≡ o → HasCopies
        by o e = grind arith

  -- a place that is moved
  pub moved_from : (by at : ℕ) (xs : List ℕ) → list_any (nat_eq at) (moved by xs) ≡ true → (x : ℕ) × (at ≡ by + x) × (list_any (nat_eq x) xs ≡ true)
  moved_from by at [] e = absurd (true≢false (sym e))
  moved_from by at (x ∷ xs) e = of (nat_eq at (by + x)) refl e (moved_from by at xs)
    where
      or_true : (a : Bool) → (a || true) ≡ true
      or_true a = grind arith

      of : (b : Bool) → nat_eq at (by + x) ≡ b → (b || list_any (nat_eq at) (moved by xs)) ≡ true → (list_any (nat_eq at) (moved by xs) ≡ true → (y : ℕ) × (at ≡ by + y) × (list_any (nat_eq y) xs ≡ true))
          → (y : ℕ) × (at ≡ by + y) × (list_any (nat_eq y) (x ∷ xs) ≡ true)
      of true h e rest = (x, eqb-true at (by + x) h, ap (λ b. b || list_any (nat_eq x) xs) (eq-eqb x x refl))
      of false h e rest = let m = rest e in (m.0, m.1, ap (λ b. nat_eq m.0 x || b) m.2 ∙ or_true (nat_eq m.0 x))

  -- the field lies in the section, which is covered
  pub at_inside : (s at p : ℕ) (f : Fixed) (m : IsAt s at p f) → (m.data_.offset ≤ at) × (at + 4 ≤ m.data_.offset + piece_size m.data_)
  at_inside s at p f m =
      let c = copies s at p f m in
      let x = moved_from m.data_.offset at c.places (ap (list_any (nat_eq at)) (sym c.offsets) ∙ m.among) in
      let k = position_of_any x.0 c.places x.2 in
      let well = (sound s at p f m).copied f.fixup.offset c.places c.are in
      let inside = well.inside k.0 0 k.1 in
      let place = k.2 0 in
      let is = x.1 in
      (omega (arith, is), omega (arith, inside, place, is))

  -- two fields of one fixup
  apart_own : (s a b p : ℕ) (f : Fixed) → IsAt s a p f → IsAt s b p f → a < b → a + 4 ≤ b
  apart_own s a b p f m n less =
      let c = copies s a p f m in
      let x = moved_from m.data_.offset a c.places (ap (list_any (nat_eq a)) (sym c.offsets) ∙ m.among) in
      let y = moved_from m.data_.offset b c.places (ap (list_any (nat_eq b)) (sym c.offsets) ∙ n.among) in
      let j = position_of_any x.0 c.places x.2 in
      let k = position_of_any y.0 c.places y.2 in
      let well = (sound s a p f m).copied f.fixup.offset c.places c.are in
      let at_a = x.1 in
      let at_b = y.1 in
      let is_a = j.2 0 in
      let is_b = k.2 0 in
      elim (cases_lt j.0 k.0) [
        | inl before ↦ let apart = well.apart j.0 k.0 0 before k.1 in omega (arith, apart, at_a, at_b, is_a, is_b)
        | inr later ↦ elim (cases_eq j.0 k.0) [
          | inl same ↦ let one = ap (λ (i : ℕ). get_or c.places i 0) same in absurd (omega (arith, one, at_a, at_b, is_a, is_b, less))
          | inr other ↦ let apart = well.apart k.0 j.0 0 (omega (arith, later, other)) j.1 in absurd (omega (arith, apart, at_a, at_b, is_a, is_b, less))
        ]
      ]

  -- fields of two fixups
  unmet : (s a b p q : ℕ) (f g : Fixed) → IsAt s a p f → IsAt s b q g → p < q → are_near b a ≡ false
  unmet s a b p q f g m n low = by (are_near b a) refl
    where
      by : (c : Bool) → are_near b a ≡ c → c ≡ false
      by false e = refl
      by true e =
          let met : meet g f ≡ true =
          ap (λ (o : Option Piece). option_map_or (λ (d : Piece). is_of_segment f d.segment) o false && list_any (λ at. list_any (are_near at) (field_offsets f)) (field_offsets g)) n.behind
          ∙ ap (λ (i : ℕ). is_of_segment f i && list_any (λ at. list_any (are_near at) (field_offsets f)) (field_offsets g)) n.segment
          ∙ ap (λ c. c && list_any (λ at. list_any (are_near at) (field_offsets f)) (field_offsets g)) (of_segment s a p f m)
          ∙ any_by (λ at. list_any (are_near at) (field_offsets f)) b (field_offsets g) n.among (any_by (are_near b) a (field_offsets f) m.among e) in
          sym met ∙ none_at (meet g) (take q fs) p f (good s b q g n).apart (before_at q fs p f low m.here)

  near_false : (a b : ℕ) → are_near b a ≡ false → a < b → a + 4 ≤ b
  near_false a b e less = grind (arith, nat_tests)

  near_flips : (a b : ℕ) → are_near a b ≡ false → a < b → a + 4 ≤ b
  near_flips a b e less = grind (arith, nat_tests)

  near_self : (a : ℕ) → are_near a a ≡ true
  near_self a = grind (arith, nat_tests)

  -- no two fields meet
  pub apart_at : (s a b p q : ℕ) (f g : Fixed) → IsAt s a p f → IsAt s b q g → a < b → a + 4 ≤ b
  apart_at s a b p q f g m n less = elim (cases_lt p q) [
    | inl before ↦ near_false a b (unmet s a b p q f g m n before) less
    | inr later ↦ elim (cases_eq p q) [
      | inl same ↦
          let one : slice_get fs p ≡ Some g = ap (slice_get fs) same ∙ n.here in
          let is : g ≡ f = same_Some g f (sym one ∙ m.here) in
          apart_own s a b p f m (subst (λ (i : ℕ). IsAt s b i f) (sym same) (subst (IsAt s b q) is n)) less
      | inr other ↦ near_flips a b (unmet s b a q p g f n m (omega (arith, later, other))) less
    ]
  ]

  -- one fixup at most has a field at a place
  pub same_at : (s at p q : ℕ) (f g : Fixed) → IsAt s at p f → IsAt s at q g → p ≡ q
  same_at s at p q f g m n = elim (cases_lt p q) [
    | inl before ↦ absurd (true≢false (sym (near_self at) ∙ unmet s at at p q f g m n before))
    | inr later ↦ elim (cases_eq p q) [
      | inl same ↦ same
      | inr other ↦ absurd (true≢false (sym (near_self at) ∙ unmet s at at q p g f n m (omega (arith, later, other))))
    ]
  ]

  -- so it is the first
  pub found_at : (s at p : ℕ) (f : Fixed) → IsAt s at p f → find (relocates s at) fs ≡ Some f
  found_at s at p f m = find_first (relocates s at) fs p f m.here (relocated s at p f m) (λ j y low there. by j y low there (relocates s at y) refl)
    where
      by : (j : ℕ) (y : Fixed) → j < p → slice_get fs j ≡ Some y → (c : Bool) → relocates s at y ≡ c → c ≡ false
      by j y low there false e = refl
      by j y low there true e = let same = same_at s at j p y f (at_by s at j y there e m.kept) m in absurd (omega (arith, same, low))
