-- The walk from a top to the names that end it, by their numbers.
use Rattle.std.proofs.Common.{◌≡◌, ℕ, suc, ◌+◌, ◌-◌, ◌<◌, ◌≤◌, Bool, true, false, not, List, [], ◌∷◌, length, get_or, set, zero, Option, Some, None, refl, sym, ◌∙◌, ap, subst, arith, length-append}
use Rattle.std.proofs.lemmas.{Bool.{both_ways}, Option.{none-some, same_Some}}
use Rattle.std.specs.Option.{is_none, is_some, option_map, option_or}
use Rattle.oc_base.specs.Strings.{ends}
use Rattle.oc_strings.specs.{declared.order.Entry.{Entry}, declared.spots.Spot.{Spot}, Tables.{capped}}
use Rattle.oc_strings.specs.Order.{AreClosed, AreSpots, AreTailsPlaced, ends_next, name_at, names_of, number_at, place_in}
use Rattle.oc_strings.proofs.{EndLemmas.{ends_split}, EntryLemmas.{count_of_names, named_at, number_within, one_rank, rank_of}}
use Rattle.oc_strings.proofs.TailLemmas.{IsPlacing, placing_none, placing_more, placing_stop}

-- how many names have no offset
abbrev pub unplaced : List (Option ℕ) → ℕ
unplaced [] = 0
unplaced (None ∷ offsets) = suc (unplaced offsets)
unplaced (Some x ∷ offsets) = unplaced offsets

pub one_less : (offsets : List (Option ℕ)) (i x : ℕ) → i < length offsets → is_none (get_or offsets i None) ≡ true → unplaced (set offsets i (Some x)) < unplaced offsets
one_less [] i x l none = absurd (omega arith)
one_less (None ∷ offsets) zero x l none = below (unplaced offsets)
  where
    below : (n : ℕ) → n < suc n
    below n = omega arith
one_less (Some y ∷ offsets) zero x l none = absurd (both_ways false refl none)
one_less (None ∷ offsets) (suc i) x l none = omega (arith, one_less offsets i x (omega (arith, l)) none)
one_less (Some y ∷ offsets) (suc i) x l none = one_less offsets i x (omega (arith, l)) none

-- the walk has got to the name with a number, or to its end
pub record IsWalk (names : List (List ℕ)) (spots : List Spot) (at number : ℕ) (old new : List (Option ℕ)) (current : Option ℕ) : Type 0 where
  pub known : AreSpots names spots
  pub rank : ℕ
  pub within : rank < length known.entries
  pub here : number_at known.entries rank ≡ number
  pub place : Option ℕ
  pub stands : current ≡ option_map (number_at known.entries) place
  pub placing : IsPlacing (names_of known.entries) (number_at known.entries) at rank old new place

module _ (names : List (List ℕ)) (spots : List Spot) (at number : ℕ) (old : List (Option ℕ)) where
  -- it begins at a top
  pub walk_none : AreSpots names spots → number < length names → ((d : Spot) → (get_or spots number d).is_top ≡ true) → IsWalk names spots at number old old (Some number)
  walk_none known l top =
      let r = rank_of names known.entries known.tails known.order number l in
      record {
        known = known;
        rank = r.0;
        within = r.1;
        here = r.2;
        place = Some r.0;
        stands = ap Some (sym r.2);
        placing =
            placing_none (names_of known.entries) known.order.ascends (number_at known.entries)
            (one_rank names known.entries known.tails known.order)
            at r.0 (omega (arith, r.1, count_of_names known.entries)) old
            (apart (ends_next (names_of known.entries) r.0) (ap (λ (s : Spot). s.is_top) (sym (ap (λ n. get_or spots n unknown) (sym r.2) ∙ known.are r.0 unknown r.1)) ∙ top unknown));
      }
    where
      unknown : Spot
      unknown = record { is_top = false; tail = None }

      apart : (b : Bool) → not b ≡ true → b ≡ false
      apart false e = refl
      apart true e = absurd (both_ways false refl e)

  module _ (new : List (Option ℕ)) where
    -- the rank at which it stands
    stands_at : (i : ℕ) (w : IsWalk names spots at number old new (Some i))
        → (c : ℕ) × (i ≡ number_at w.known.entries c) × IsPlacing (names_of w.known.entries) (number_at w.known.entries) at w.rank old new (Some c)
    stands_at i w = by w.place w.stands w.placing
      where
        by : (p : Option ℕ) → Some i ≡ option_map (number_at w.known.entries) p → IsPlacing (names_of w.known.entries) (number_at w.known.entries) at w.rank old new p
            → (c : ℕ) × (i ≡ number_at w.known.entries c) × IsPlacing (names_of w.known.entries) (number_at w.known.entries) at w.rank old new (Some c)
        by None e p = absurd (none-some i (sym e))
        by (Some c) e p = (c, same_Some _ _ e, p)

    module _ (i : ℕ) (w : IsWalk names spots at number old new (Some i)) where
      abbrev entries : List Entry
      entries = w.known.entries

      abbrev c : ℕ
      c = (stands_at i w).0

      at_c : i ≡ number_at entries c
      at_c = (stands_at i w).1

      abbrev placing : IsPlacing (names_of entries) (number_at entries) at w.rank old new (Some c)
      placing = (stands_at i w).2

      c_in : c < length entries
      c_in = omega (arith, placing.on.0, w.within)

      name_here : name_at names i ≡ name_at (names_of entries) c
      name_here = ap (name_at names) at_c ∙ named_at names entries w.known.tails w.known.order c c_in

      text_here : name_at names number ≡ name_at (names_of entries) w.rank
      text_here = ap (name_at names) (sym w.here) ∙ named_at names entries w.known.tails w.known.order w.rank w.within

      pub walk_within : i < length names
      walk_within = omega (arith, at_c, number_within names entries w.known.tails w.known.order c c_in)

      pub walk_shorter : length (name_at names i) ≤ length (name_at names number)
      walk_shorter =
          let s = ends_split (name_at (names_of entries) c) (name_at (names_of entries) w.rank) placing.on.1 in
          omega (arith, ap length name_here, ap length text_here, ap length s.is, length-append s.front (name_at (names_of entries) c))

      -- its step
      pub walk_more : (offset : ℕ) (d : Spot) → i < length new → is_none (get_or new i None) ≡ true
          → offset ≡ capped (at + (length (name_at names number) - length (name_at names i))) → IsWalk names spots at number old (set new i (Some offset)) (get_or spots i d).tail
      walk_more offset d room none is =
          let next : Option ℕ = get_or w.known.tails c None in
          record {
            known = w.known;
            rank = w.rank;
            within = w.within;
            here = w.here;
            place = next;
            stands = ap (λ (s : Spot). s.tail) (ap (λ n. get_or spots n d) at_c ∙ w.known.are c d c_in);
            placing =
                subst (λ n. IsPlacing (names_of entries) (number_at entries) at w.rank old (set new n (Some offset)) next) (sym at_c)
                (placing_more (names_of entries) w.known.order.ascends (number_at entries)
                (one_rank names entries w.known.tails w.known.order)
                at w.rank (omega (arith, w.within, count_of_names entries)) old new c placing next offset (omega (arith, room, at_c)) (ap (λ n. is_none (get_or new n None)) (sym at_c) ∙ none)
                (w.known.order.tails_are.1 c None (omega (arith, c_in, w.known.order.tails_are.0, count_of_names entries)))
                (is ∙ ap (λ n. capped (at + (length n - length (name_at names i)))) text_here ∙ ap (λ n. capped (at + (length (name_at (names_of entries) w.rank) - length n))) name_here));
          }

      -- its end, at a name that has an offset: then all that end it have
      pub walk_stop : is_some (get_or new i None) ≡ true → AreClosed names old → IsWalk names spots at number old new None
      walk_stop some closed = record {
        known = w.known;
        rank = w.rank;
        within = w.within;
        here = w.here;
        place = None;
        stands = refl;
        placing =
            placing_stop (names_of entries) w.known.order.ascends (number_at entries)
            (one_rank names entries w.known.tails w.known.order)
            at w.rank (omega (arith, w.within, count_of_names entries)) old new c placing
            (λ j lj e.
            let in' : j < length entries = omega (arith, lj, count_of_names entries) in
            let name = named_at names entries w.known.tails w.known.order j in' in
            closed (number_at entries j) i (number_within names entries w.known.tails w.known.order j in') walk_within
            (subst (λ n. ends n (name_at names i) ≡ true) (sym name) (subst (λ n. ends (name_at (names_of entries) j) n ≡ true) (sym name_here) e))
            (ap is_some (ap (λ n. get_or old n None) at_c ∙ sym (placing.left c (omega (arith, c_in, count_of_names entries)) (omega arith)) ∙ ap (λ n. get_or new n None) (sym at_c)) ∙ some));
      }

    -- at its end each name has its old offset or its place
    pub walk_end : IsWalk names spots at number old new None → AreTailsPlaced names at number old new
    walk_end w i l =
        let o = w.known.order in
        let r = rank_of names w.known.entries w.known.tails o i l in
        let in' : r.0 < length (names_of w.known.entries) = omega (arith, r.1, count_of_names w.known.entries) in
        let text : name_at (names_of w.known.entries) w.rank ≡ name_at names number
        = sym (named_at names w.known.entries w.known.tails o w.rank w.within) ∙ ap (name_at names) w.here
        in
        let name : name_at (names_of w.known.entries) r.0 ≡ name_at names i = sym (named_at names w.known.entries w.known.tails o r.0 r.1) ∙ ap (name_at names) r.2 in
        let done = (ended w.place w.stands w.placing).done r.0 in' tt in
        ap (λ n. get_or new n None) (sym r.2) ∙ done
        ∙ ap (λ n. option_or (get_or old n None) (place_in at (name_at (names_of w.known.entries) w.rank) (name_at (names_of w.known.entries) r.0))) r.2
        ∙ ap (λ n. option_or (get_or old i None) (place_in at n (name_at (names_of w.known.entries) r.0))) text
        ∙ ap (λ n. option_or (get_or old i None) (place_in at (name_at names number) n)) name
      where
        ended : (p : Option ℕ) → None ≡ option_map (number_at w.known.entries) p → IsPlacing (names_of w.known.entries) (number_at w.known.entries) at w.rank old new p
            → IsPlacing (names_of w.known.entries) (number_at w.known.entries) at w.rank old new None
        ended None e p = p
        ended (Some c) e p = absurd (none-some _ e)
