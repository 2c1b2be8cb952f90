-- The first repeat of a list of names, told by what repeats there are.
use Rattle.std.proofs.Common.{◌≡◌, ℕ, ◌<◌, ◌≤◌, Bool, true, false, List, cond, Option, Some, None, slice_get, bytes_eq, length, inl, inr, refl, sym, ◌∙◌, ap, arith, subst}
use Rattle.std.specs.Option.{option_and_then, option_map, option_map_or, option_flatten}
use Rattle.std.proofs.lemmas.{Bool.{cases_lt, cases_eq}, Option.{none-some, same_Some, slice_get_within}, Slice.Eq.{bytes_eq-Decides}}
use Rattle.oc_linking.proofs.FirstFaultLaws.{first_upto_none, first_upto_least}
use Rattle.oc_strings.specs.{declared.repeats.Repeat.{Repeat}, Repeats.{NameList, name_at, place_of, repeat_at, first_repeat}}

-- a name stands at both positions
pub record IsRepeat (names : NameList) (r : Repeat) : Type 0 where
  pub before : r.earlier < r.later
  pub name : List ℕ
  pub first : name_at names r.earlier ≡ Some name
  pub again : name_at names r.later ≡ Some name

-- there is no name past the end
pub named_within : (names : NameList) (k : ℕ) (name : List ℕ) → name_at names k ≡ Some name → k < length names
named_within names k name here = by (slice_get names k) refl here
  where
    by : (o : Option (Option (List ℕ))) → slice_get names k ≡ o → option_flatten o ≡ Some name → k < length names
    by None e here = absurd (none-some name here)
    by (Some x) e here = slice_get_within names k x e

module _ (names : NameList) where
  module _ (n : ℕ) (name : List ℕ) where
    -- that the name stands at a position
    abbrev place : ℕ → Option ℕ
    place k = cond (option_map_or (bytes_eq name) (name_at names k) false) (Some k) None

    place_hit : (k : ℕ) → name_at names k ≡ Some name → place k ≡ Some k
    place_hit k here = ap (λ o. cond (option_map_or (bytes_eq name) o false) (Some k) None) here ∙ ap (λ t. cond t (Some k) None) ((bytes_eq-Decides name name).1 refl)

    place_is : (k j : ℕ) → place k ≡ Some j → (k ≡ j) × (name_at names k ≡ Some name)
    place_is k j e = by (name_at names k) refl e
      where
        named : (other : List ℕ) (t : Bool) → bytes_eq name other ≡ t → name_at names k ≡ Some other → cond t (Some k) None ≡ Some j → (k ≡ j) × (name_at names k ≡ Some name)
        named other false d here e = absurd (none-some j e)
        named other true d here e = (same_Some k j e, here ∙ ap Some (sym ((bytes_eq-Decides name other).0 d)))

        by : (o : Option (List ℕ)) → name_at names k ≡ o → cond (option_map_or (bytes_eq name) o false) (Some k) None ≡ Some j → (k ≡ j) × (name_at names k ≡ Some name)
        by None here e = absurd (none-some j e)
        by (Some other) here e = named other (bytes_eq name other) refl here e

    -- where it stands first, it stands
    place_from : (j : ℕ) → place_of names n name ≡ Some j → (j < n) × (name_at names j ≡ Some name)
    place_from j e =
        let m = first_upto_least place n j e in
        let is = place_is m.0 j m.2 in
        subst (λ k. (k < n) × (name_at names k ≡ Some name)) is.0 (m.1, is.1)

    -- where it stands, it stands first somewhere
    place_some : (k : ℕ) → k < n → name_at names k ≡ Some name → (j : ℕ) × (place_of names n name ≡ Some j)
    place_some k low here = by (place_of names n name) refl
      where
        by : (o : Option ℕ) → place_of names n name ≡ o → (j : ℕ) × (place_of names n name ≡ Some j)
        by None e = absurd (none-some k (sym (first_upto_none place n e k low) ∙ place_hit k here))
        by (Some j) e = (j, e)

  -- what is told of a position is a repeat, which ends there
  repeat_is : (k : ℕ) (r : Repeat) → repeat_at names k ≡ Some r → (r.later ≡ k) × IsRepeat names r
  repeat_is k r e = by (name_at names k) refl e
    where
      placed : (name : List ℕ) → name_at names k ≡ Some name → (o : Option ℕ) → place_of names k name ≡ o → option_map (λ p. record { earlier = p; later = k }) o ≡ Some r → (r.later ≡ k) × IsRepeat names r
      placed name here None h e = absurd (none-some r e)
      placed name here (Some p) h e =
          let from = place_from k name p h in
          subst (λ (s : Repeat). (s.later ≡ k) × IsRepeat names s) (same_Some (record { earlier = p; later = k }) r e)
          (refl, record { before = from.0; name = name; first = from.1; again = here })

      by : (o : Option (List ℕ)) → name_at names k ≡ o → option_map (λ p. record { earlier = p; later = k }) (option_and_then (place_of names k) o) ≡ Some r → (r.later ≡ k) × IsRepeat names r
      by None here e = absurd (none-some r e)
      by (Some name) here e = placed name here (place_of names k name) refl e

  -- of where a repeat ends, one is told
  repeat_some : (r : Repeat) → IsRepeat names r → (s : Repeat) × (repeat_at names r.later ≡ Some s)
  repeat_some r is =
      let found = place_some r.later is.name r.earlier is.before is.first in (
        record { earlier = found.0; later = r.later },
        ap (λ o. option_map (λ p. record { earlier = p; later = r.later }) (option_and_then (place_of names r.later) o)) is.again
            ∙ ap (λ o. option_map (λ p. record { earlier = p; later = r.later }) o) found.1,
      )

  -- the first repeat is one
  pub first_is : (r : Repeat) → first_repeat names ≡ Some r → IsRepeat names r
  first_is r e = let m = first_upto_least (repeat_at names) (length names) r e in (repeat_is m.0 r m.2).1

  -- and none ends before it does
  pub first_least : (r : Repeat) → first_repeat names ≡ Some r → (s : Repeat) → IsRepeat names s → r.later ≤ s.later
  first_least r e s is = elim (cases_lt s.later r.later) [
    | inr other ↦ other
    | inl low ↦
        let m = first_upto_least (repeat_at names) (length names) r e in
        let same = (repeat_is m.0 r m.2).0 in
        let told = repeat_some s is in
        absurd (none-some told.0 (sym (m.3 s.later (omega (arith, low, same))) ∙ told.1))
  ]

  -- where no first one is told, there is none
  pub none_repeat : first_repeat names ≡ None → (s : Repeat) → IsRepeat names s → ⊥
  none_repeat e s is =
      let told = repeat_some s is in
      none-some told.0 (sym (first_upto_none (repeat_at names) (length names) e s.later (named_within names s.later is.name is.again)) ∙ told.1)

  -- where there is none, no first one is told
  pub no_repeat : ((s : Repeat) → IsRepeat names s → ⊥) → first_repeat names ≡ None
  no_repeat none = by (first_repeat names) refl
    where
      by : (o : Option Repeat) → first_repeat names ≡ o → first_repeat names ≡ None
      by None e = e
      by (Some r) e = absurd (none r (first_is r e))

  -- a repeat before whose end none ends is the first
  pub repeat_first : (r : Repeat) → IsRepeat names r → ((s : Repeat) → IsRepeat names s → r.later ≤ s.later) → first_repeat names ≡ Some r
  repeat_first r is least = by (first_repeat names) refl
    where
      -- a name stands at three positions: its first two repeat before the third
      three : (i j k : ℕ) (name other : List ℕ) → i < j → j < k → name_at names i ≡ Some name → name_at names k ≡ Some name → name_at names j ≡ Some other → name_at names k ≡ Some other
          → ((s : Repeat) → IsRepeat names s → k ≤ s.later) → ⊥
      three i j k name other low below at_i at_k at_j also first =
          let same : name ≡ other = same_Some name other (sym at_k ∙ also) in
          let late = first (record { earlier = i; later = j }) (record { before = low; name = name; first = at_i; again = at_j ∙ ap Some (sym same) }) in
          omega (arith, late, below)

      alike : (s : Repeat) → IsRepeat names s → s.later ≡ r.later → s.earlier ≡ r.earlier
      alike s told end = elim (cases_lt s.earlier r.earlier) [
        | inl low ↦ absurd (three s.earlier r.earlier r.later told.name is.name low is.before told.first (ap (name_at names) (sym end) ∙ told.again) is.first is.again least)
        | inr other ↦ elim (cases_eq s.earlier r.earlier) [
          | inl same ↦ same
          | inr differ ↦ absurd (three r.earlier s.earlier r.later is.name told.name (omega (arith, other, differ)) (omega (arith, told.before, end)) is.first is.again told.first (ap (name_at names) (sym end) ∙ told.again) least)
        ]
      ]

      by : (o : Option Repeat) → first_repeat names ≡ o → first_repeat names ≡ Some r
      by None e = absurd (none_repeat e r is)
      by (Some s) e =
          let told = first_is s e in
          let end : s.later ≡ r.later = omega (arith, first_least s e r is, least s told) in
          let start = alike s told end in
          e ∙ ap (λ k. Some (record { earlier = k; later = s.later })) start ∙ ap (λ k. Some (record { earlier = r.earlier; later = k })) end
