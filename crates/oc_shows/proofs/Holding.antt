-- What a draft holds to which entries were added, one by one.
use Rattle.std.proofs.Common.{◌≡◌, ℕ, ◌+◌, ◌-◌, ◌/◌, ◌%◌, ◌^◌, ◌<◌, ◌≤◌, ◌⊎◌, inl, inr, Bool, true, false, ◌&&◌, ◌||◌, cond, eqb, List, [], ◌∷◌, map, Option, Some, None, Ok, refl, sym, ◌∙◌, ap, subst, arith}
use Rattle.std.specs.{Prelude.{nat_eq, nat_le, nat_lt, slice_get}, Option.{option_map, option_and_then, option_map_or}}
use Rattle.std.proofs.lemmas.{Bool.{eqb-true, eq-eqb, leb-true, ltb-true, true≢false, and_parts, or_cases}, Bool.Decides.{nat_tests}}
use Rattle.std.proofs.lemmas.Option.{none-some, same_Some, slice_get-map}
use Rattle.oc_base.specs.{declared.format.Format.{Format}, declared.format.Word.{Word}, Formats.{word_for}}
use Rattle.oc_linking.specs.Fits.{bytes_of}
use Rattle.oc_chains.specs.Lists.{list_of}
use Rattle.oc_neutral.specs.{declared.section.Section.{Section}, declared.symbol.Symbol.{Symbol}, declared.reloc.Reloc.{Reloc}}
use Rattle.oc_neutral.specs.{Objects.{Object, reloc_among, reloc_at}, Normal.{normal_of}, Building.{Draft, is_met, stored_size, reloc_added}}
use Rattle.oc_neutral.specs.{Invariants.{CanAdd, IsDraft, groups_of}, Faces.{shown_section, frame_of}}
use Rattle.oc_shows.specs.{Built.{AddedReloc, RelocMap, and_one, given_by, Makes, HasAdded}, Again.{IsCovered}}
use Rattle.oc_neutral.proofs.{Added.{kept_of, number_left, IsFitting, IsAdded, added}, Adding.{have_common, wide_enough}}
use Rattle.oc_neutral.proofs.{DraftAdded.{draft_added, groups_added}, WrittenBytes.{byte_at, lies_in}}
use Rattle.oc_shows.proofs.{Addable.{sections-added}, Showing.{IsShowing, left_in, normal_in, stored_at}}

-- k bytes from an offset of section s on meet the field of one that is given
pub record IsMetBy (given : RelocMap) (s at k : ℕ) : Type 0 where
  pub from : ℕ
  pub reloc : Reloc
  pub here : given s from ≡ Some reloc
  pub common : have_common from (bytes_of reloc.form.width) at k ≡ true

-- d holds base and what is given
pub record IsHolding (base d : Draft) (given : RelocMap) : Type 0 where
  pub draft : IsDraft d
  pub showing : IsShowing base.object d.object given
  pub members : groups_of d.object.sections ≡ groups_of base.object.sections
  pub taken : (t x y k : ℕ) (r : Reloc) → given t x ≡ Some r → have_common x (bytes_of r.form.width) y k ≡ true → is_met d t y k ≡ true
  pub met : (t y k : ℕ) → is_met d t y k ≡ true → IsMetBy given t y k

-- a draft without fields holds itself, and nothing
pub holds_none : (base : Draft) → IsDraft base → ((s : ℕ) → list_of base.object.relocs s ≡ []) → ((s : ℕ) → list_of base.folded s ≡ []) → IsHolding base base (given_by [])
holds_none base draft relocs folded = record {
  draft = draft;
  showing = record {
    whole = draft.built.bytes;
    format = refl;
    groups = refl;
    symbols = refl;
    frames = refl;
    sizes = refl;
    relocs = λ t x. ap (λ fields. reloc_among fields x) (relocs t);
    fitting = λ t x r here. absurd (none-some r here);
    inside = λ t x r here. absurd (none-some r here);
    under = λ t x j r here low. absurd (none-some r here);
    beside = λ t i free. refl;
    apart = λ t i j q r here there low. absurd (none-some q here);
  };
  members = refl;
  taken = λ t x y k r here common. absurd (none-some r here);
  met = λ t y k met. absurd (true≢false (sym met ∙ rw (relocs t, folded t) refl));
}

-- what is given may be said in another way
shows_same : (base n : Object) (given other : RelocMap) → ((s at : ℕ) → given s at ≡ other s at) → IsShowing base n given → IsShowing base n other
shows_same base n given other same is = record {
  whole = is.whole;
  format = is.format;
  groups = is.groups;
  symbols = is.symbols;
  frames = is.frames;
  sizes = is.sizes;
  relocs = λ t x. is.relocs t x ∙ ap (option_and_then (λ r. kept_of (normal_in base t x r))) (same t x);
  fitting = λ t x r here. is.fitting t x r (same t x ∙ here);
  inside = λ t x r here. is.inside t x r (same t x ∙ here);
  under = λ t x j r here low. is.under t x j r (same t x ∙ here) low;
  beside = λ t i free. is.beside t i (λ c. free (record { at = c.at; reloc = c.reloc; here = sym (same t c.at) ∙ c.here; low = c.low; high = c.high }));
  apart = λ t i j q r here there low. is.apart t i j q r (same t i ∙ here) (same t j ∙ there) low;
}

pub holds_same : (base d : Draft) (given other : RelocMap) → ((s at : ℕ) → given s at ≡ other s at) → IsHolding base d given → IsHolding base d other
holds_same base d given other same is = record {
  draft = is.draft;
  showing = shows_same base.object d.object given other same is.showing;
  members = is.members;
  taken = λ t x y k r here common. is.taken t x y k r (same t x ∙ here) common;
  met = λ t y k met. let m : IsMetBy given t y k = is.met t y k met in record { from = m.from; reloc = m.reloc; here = sym (same t m.from) ∙ m.here; common = m.common };
}

-- the normal form is the one among the symbols of the base
pub normal-base : (base d : Draft) (given : RelocMap) → IsHolding base d given → (s at : ℕ) (r : Reloc) → normal_of (word_for d.object.format) d.object.symbols s at r ≡ normal_in base.object s at r
normal-base base d given has s at r =
    ap (λ (f : Format). normal_of (word_for f) d.object.symbols s at r) has.showing.format
    ∙ ap (λ (symbols : List Symbol). normal_of (word_for base.object.format) symbols s at r) has.showing.symbols

-- one more is found at its place
pub found-more : (given : RelocMap) (s at : ℕ) (r : Reloc) → and_one given s at r s at ≡ Some r
found-more given s at r = ap (λ c. cond (c && eqb at at) (Some r) (given s at)) (eq-eqb s s refl) ∙ ap (λ c. cond c (Some r) (given s at)) (eq-eqb at at refl)

-- one entry more
module _ (base d : Draft) (given : RelocMap) (has : IsHolding base d given) (s at : ℕ) (r : Reloc) (e : Draft) (can : CanAdd d.object s at r) (ok : reloc_added d s at r ≡ Ok e) where
  abbrev k : ℕ
  k = bytes_of r.form.width

  abbrev more : RelocMap
  more = and_one given s at r

  is : IsAdded d s at r (normal_of (word_for d.object.format) d.object.symbols s at r) e
  is = added d s at r e has.draft can ok

  -- the draft has the format and the symbols of the base
  in_base : (P : Word → List Symbol → Type 0) → P (word_for d.object.format) d.object.symbols → P (word_for base.object.format) base.object.symbols
  in_base P holds = subst (λ (f : Format). P (word_for f) base.object.symbols) has.showing.format (subst (λ (symbols : List Symbol). P (word_for d.object.format) symbols) has.showing.symbols holds)

  -- the new field meets none that is given
  unmet : (x : ℕ) (q : Reloc) → given s x ≡ Some q → have_common x (bytes_of q.form.width) at (bytes_of r.form.width) ≡ false
  unmet x q here = by (have_common x (bytes_of q.form.width) at (bytes_of r.form.width)) refl
    where
      by : (c : Bool) → have_common x (bytes_of q.form.width) at (bytes_of r.form.width) ≡ c → c ≡ false
      by true common = absurd (true≢false (sym (has.taken s x at k q here common) ∙ is.free))
      by false apart = refl

  fresh : given s at ≡ None
  fresh = by (given s at) refl
    where
      by : (o : Option Reloc) → given s at ≡ o → o ≡ None
      by None here = refl
      by (Some q) here = let wide = wide_enough r.form.width in let own = wide_enough q.form.width in let none = unmet at q here in absurd (grind (arith, nat_tests))

  -- it is found at its offset, and what was given at the others
  found_at : (t x : ℕ) → eqb t s ≡ true → eqb at x ≡ true → more t x ≡ Some r
  found_at t x here there = ap (λ c. cond (c && eqb at x) (Some r) (given t x)) here ∙ ap (λ c. cond c (Some r) (given t x)) there

  pub still-more : (t x : ℕ) (q : Reloc) → given t x ≡ Some q → more t x ≡ Some q
  still-more t x q here = by (eqb t s) (eqb at x) refl refl
    where
      by : (a b : Bool) → eqb t s ≡ a → eqb at x ≡ b → cond (a && b) (Some r) (given t x) ≡ Some q
      by true true g h = absurd (none-some q (sym (ap (λ (j : ℕ). given j x) (eqb-true t s g) ∙ ap (given s) (sym (eqb-true at x h)) ∙ fresh) ∙ here))
      by true false g h = here
      by false b g h = here

  -- what holds of the new one at its place, and of the old ones, holds of all
  each : (P : ℕ → ℕ → Reloc → Type 0) → P s at r → ((t x : ℕ) (q : Reloc) → given t x ≡ Some q → P t x q) → (t x : ℕ) (q : Reloc) → more t x ≡ Some q → P t x q
  each P new old t x q = by (eqb t s) (eqb at x) refl refl
    where
      by : (a b : Bool) → eqb t s ≡ a → eqb at x ≡ b → cond (a && b) (Some r) (given t x) ≡ Some q → P t x q
      by true true g h here =
          subst (λ (j : ℕ). P j x q) (sym (eqb-true t s g)) (subst (λ (j : ℕ). P s j q) (eqb-true at x h) (subst (λ (z : Reloc). P s at z) (same_Some r q here) new))
      by true false g h here = old t x q here
      by false b g h here = old t x q here

  relocs : (t x : ℕ) → reloc_at e.object t x ≡ option_and_then (λ q. kept_of (normal_in base.object t x q)) (more t x)
  relocs t x = is.relocs t x ∙ by (eqb t s) (eqb at x) refl refl
    where
      by : (a b : Bool) → eqb t s ≡ a → eqb at x ≡ b
          → cond (a && b) (kept_of (normal_of (word_for d.object.format) d.object.symbols s at r)) (reloc_at d.object t x)
          ≡ option_and_then (λ q. kept_of (normal_in base.object t x q)) (cond (a && b) (Some r) (given t x))
      by true true g h =
          in_base (λ w symbols. kept_of (normal_of (word_for d.object.format) d.object.symbols s at r) ≡ kept_of (normal_of w symbols s at r)) refl
          ∙ ap (λ (j : ℕ). kept_of (normal_in base.object j at r)) (sym (eqb-true t s g))
          ∙ ap (λ (j : ℕ). kept_of (normal_in base.object t j r)) (eqb-true at x h)
      by true false g h = has.showing.relocs t x
      by false b g h = has.showing.relocs t x

  stored_same : stored_at d.object.sections s ≡ stored_at base.object.sections s
  stored_same =
      sym (plain d.object.sections) ∙ ap (λ (xs : List ℕ). option_map_or (λ (n : ℕ). n) (slice_get xs s) 0) has.showing.sizes ∙ plain base.object.sections
    where
      plain : (zs : List Section) → option_map_or (λ (n : ℕ). n) (slice_get (map stored_size zs) s) 0 ≡ stored_at zs s
      plain zs = ap (λ (o : Option ℕ). option_map_or (λ (n : ℕ). n) o 0) (slice_get-map stored_size zs s) ∙ by (slice_get zs s)
        where
          by : (o : Option Section) → option_map_or (λ (n : ℕ). n) (option_map stored_size o) 0 ≡ option_map_or stored_size o 0
          by o = grind arith

  inside : at + bytes_of r.form.width ≤ stored_at base.object.sections s
  inside =
      let here : stored_at d.object.sections s ≡ stored_size can.section = ap (λ (o : Option Section). option_map_or stored_size o 0) can.there in
      let le : at + bytes_of r.form.width ≤ stored_size can.section = can.inside in
      omega (arith, here, stored_same)

  -- the bytes under the new field, and beside it
  byte_new : (j : ℕ) → j < bytes_of r.form.width → byte_at e.object.sections s (at + j) ≡ left_in base.object s at r / 256 ^ j % 256
  byte_new j low =
      let lies : lies_in at k (at + j) ≡ true = let a : nat_le at (at + j) ≡ true = grind (arith, nat_tests) in let b : nat_lt (at + j) (at + k) ≡ true = grind (arith, nat_tests) in rw (a, b) refl in
      let back : at + j - at ≡ j = omega arith in
      is.bytes s (at + j)
      ∙ ap (λ c. cond (c && lies_in at k (at + j)) (number / 256 ^ (at + j - at) % 256) (byte_at d.object.sections s (at + j))) (eq-eqb s s refl)
      ∙ ap (λ c. cond c (number / 256 ^ (at + j - at) % 256) (byte_at d.object.sections s (at + j))) lies
      ∙ ap (λ (i : ℕ). number / 256 ^ i % 256) back
      ∙ in_base (λ w symbols. number / 256 ^ j % 256 ≡ number_left w r.form.width (normal_of w symbols s at r) / 256 ^ j % 256) refl
    where
      number : ℕ
      number = number_left (word_for d.object.format) r.form.width (normal_of (word_for d.object.format) d.object.symbols s at r)

  byte_old : (t i : ℕ) → (t ≡ s → lies_in at k i ≡ false) → byte_at e.object.sections t i ≡ byte_at d.object.sections t i
  byte_old t i outside = is.bytes t i ∙ by (eqb t s) refl
    where
      by : (a : Bool) → eqb t s ≡ a
          → cond (a && lies_in at k i) (number_left (word_for d.object.format) r.form.width (normal_of (word_for d.object.format) d.object.symbols s at r) / 256 ^ (i - at) % 256) (byte_at d.object.sections t i)
          ≡ byte_at d.object.sections t i
      by true g = ap (λ c. cond c (number_left (word_for d.object.format) r.form.width (normal_of (word_for d.object.format) d.object.symbols s at r) / 256 ^ (i - at) % 256) (byte_at d.object.sections t i)) (outside (eqb-true t s g))
      by false g = refl

  under : (t x : ℕ) (q : Reloc) → more t x ≡ Some q → (j : ℕ) → j < bytes_of q.form.width → byte_at e.object.sections t (x + j) ≡ left_in base.object t x q / 256 ^ j % 256
  under = each (λ t x q. (j : ℕ) → j < bytes_of q.form.width → byte_at e.object.sections t (x + j) ≡ left_in base.object t x q / 256 ^ j % 256) byte_new
      (λ t x q here j low. byte_old t (x + j) (λ same. outside x q (ap (λ (i : ℕ). given i x) (sym same) ∙ here) j low) ∙ has.showing.under t x j q here low)
    where
      outside : (x : ℕ) (q : Reloc) → given s x ≡ Some q → (j : ℕ) → j < bytes_of q.form.width → lies_in at k (x + j) ≡ false
      outside x q here j low = by (nat_le at (x + j)) (nat_lt (x + j) (at + k)) refl refl
        where
          by : (a b : Bool) → nat_le at (x + j) ≡ a → nat_lt (x + j) (at + bytes_of r.form.width) ≡ b → (a && b) ≡ false
          by true true g h = let none = unmet x q here in absurd (grind (arith, nat_tests))
          by true false g h = refl
          by false b g h = refl

  beside : (t i : ℕ) → (IsCovered more t i → ⊥) → byte_at e.object.sections t i ≡ byte_at base.object.sections t i
  beside t i free = byte_old t i outside ∙ has.showing.beside t i (λ c. free (record { at = c.at; reloc = c.reloc; here = still-more t c.at c.reloc c.here; low = c.low; high = c.high }))
    where
      outside : t ≡ s → lies_in at k i ≡ false
      outside same = by (nat_le at i) (nat_lt i (at + k)) refl refl
        where
          by : (a b : Bool) → nat_le at i ≡ a → nat_lt i (at + bytes_of r.form.width) ≡ b → (a && b) ≡ false
          by true true g h = absurd (free (record { at = at; reloc = r; here = found_at t at (eq-eqb t s same) (eq-eqb at at refl); low = leb-true at i g; high = ltb-true i (at + k) h }))
          by true false g h = refl
          by false b g h = refl

  taken : (t x : ℕ) (q : Reloc) → more t x ≡ Some q → (y n : ℕ) → have_common x (bytes_of q.form.width) y n ≡ true → is_met e t y n ≡ true
  taken = each (λ t x q. (y n : ℕ) → have_common x (bytes_of q.form.width) y n ≡ true → is_met e t y n ≡ true)
      (λ y n common. is.met s y n ∙ rw (eq-eqb s s refl, common) refl)
      (λ t x q here y n common. is.met t y n ∙ ap (λ c. (nat_eq t s && have_common at k y n) || c) (has.taken t x y n q here common) ∙ or_true (nat_eq t s && have_common at k y n))
    where
      or_true : (a : Bool) → (a || true) ≡ true
      or_true a = grind arith

  met : (t y n : ℕ) → is_met e t y n ≡ true → IsMetBy more t y n
  met t y n is_true = elim (or_cases (nat_eq t s && have_common at k y n) (is_met d t y n) (sym (is.met t y n) ∙ is_true)) [
    | inl new ↦ let two = and_parts (eqb t s) (have_common at k y n) new in record { from = at; reloc = r; here = found_at t at two.0 (eq-eqb at at refl); common = two.1 }
    | inr old ↦ let m : IsMetBy given t y n = has.met t y n old in record { from = m.from; reloc = m.reloc; here = still-more t m.from m.reloc m.here; common = m.common }
  ]

  apart : (t i : ℕ) (q : Reloc) → more t i ≡ Some q → (j : ℕ) (z : Reloc) → more t j ≡ Some z → i < j → i + bytes_of q.form.width ≤ j
  apart = each (λ t i q. (j : ℕ) (z : Reloc) → more t j ≡ Some z → i < j → i + bytes_of q.form.width ≤ j)
      (λ j z there low. first j z there low)
      (λ t i q here j z there. each (λ u x y. u ≡ t → i < x → i + bytes_of q.form.width ≤ x)
      (λ same low. second i q (ap (λ (u : ℕ). given u i) same ∙ here) low)
      (λ u x y found same low. has.showing.apart t i x q y here (ap (λ (v : ℕ). given v x) (sym same) ∙ found) low) t j z there refl)
    where
      first : (j : ℕ) (z : Reloc) → more s j ≡ Some z → at < j → at + bytes_of r.form.width ≤ j
      first j z there = each (λ u x y. u ≡ s → at < x → at + bytes_of r.form.width ≤ x)
          (λ same low. absurd (omega (arith, low)))
          (λ u x y found same low. let none = unmet x y (ap (λ (v : ℕ). given v x) (sym same) ∙ found) in let wide = wide_enough y.form.width in grind (arith, nat_tests)) s j z there refl

      second : (i : ℕ) (q : Reloc) → given s i ≡ Some q → i < at → i + bytes_of q.form.width ≤ at
      second i q here low = let none = unmet i q here in let wide = wide_enough r.form.width in grind (arith, nat_tests)

  pub holds_more : IsHolding base e (and_one given s at r)
  holds_more = record {
    draft = after;
    showing = record {
      whole = after.built.bytes;
      format = is.format ∙ has.showing.format;
      groups = groups_added d s at r e ok ∙ has.showing.groups;
      symbols = is.symbols ∙ has.showing.symbols;
      frames = sections-added (λ (z : Section). frame_of (shown_section base.object.groups z)) (λ n number x z. refl) d s at r _ e is ∙ has.showing.frames;
      sizes = sections-added stored_size (λ n number x z. refl) d s at r _ e is ∙ has.showing.sizes;
      relocs = relocs;
      fitting = each (λ t x q. IsFitting (word_for base.object.format) q (normal_in base.object t x q)) (in_base (λ w symbols. IsFitting w r (normal_of w symbols s at r)) is.fitting) has.showing.fitting;
      inside = each (λ t x q. x + bytes_of q.form.width ≤ stored_at base.object.sections t) inside has.showing.inside;
      under = λ t x j q here low. under t x q here j low;
      beside = beside;
      apart = λ t i j q z here there low. apart t i q here j z there low;
    };
    members = sections-added (λ (z : Section). z.group) (λ n number x z. refl) d s at r _ e is ∙ has.members;
    taken = λ t x y n q here common. taken t x q here y n common;
    met = met;
  }
    where
      after : IsDraft e
      after = draft_added d s at r has.draft can e ok

-- what a draft holds to which entries were added
pub holds_by : (base d : Draft) (entries : List AddedReloc) → IsDraft base → ((s : ℕ) → list_of base.object.relocs s ≡ []) → ((s : ℕ) → list_of base.folded s ≡ []) → Makes base entries d
    → IsHolding base d (given_by entries)
holds_by base d [] draft relocs folded made = subst (λ (z : Draft). IsHolding base z (given_by [])) (sym made) (holds_none base draft relocs folded)
holds_by base e (x ∷ entries) draft relocs folded made =
    let d : Draft = made.0 in
    holds_more base d (given_by entries) (holds_by base d entries draft relocs folded made.1) x.section x.at x.reloc e made.2.can made.2.added

pub holds_all : (base d : Draft) (given : RelocMap) → IsDraft base → ((s : ℕ) → list_of base.object.relocs s ≡ []) → ((s : ℕ) → list_of base.folded s ≡ []) → HasAdded base d given → IsHolding base d given
holds_all base d given draft relocs folded has = holds_same base d (given_by has.entries) given has.each (holds_by base d has.entries draft relocs folded has.made)
