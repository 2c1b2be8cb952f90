-- The numbers that a text notes are numbers of the word.
use Rattle.std.proofs.Common.{◌≡◌, ℕ, zero, suc, ◌+◌, ◌<◌, Bool, true, false, cond, List, [], ◌∷◌, length, get_or, replicate, Option, Some, None, Result, Ok, Err, refl, arith}
use Rattle.std.specs.{Prelude.{IfOk, is_some, slice_set, ◌||◌}, List.{AllByRecursion, slice_split}, Option.{option_map_or}}
use Rattle.std.proofs.lemmas.Bool.{leb-false, or_parts}
use Rattle.oc_base.specs.{declared.format.Word.{Word}, declared.format.Word.TheVariants.{W32, W64}}
use Rattle.oc_linking.specs.{Numbers.{modulus}, Placing.{IsSite}}
use Rattle.oc_place.specs.{declared.spot.Spot.{Spot}, declared.spot.Outside.{Outside}, declared.entry.PlacementLine.{PlacementLine}}
use Rattle.oc_place.specs.{declared.fault.PlaceCode.{PlaceCode}, declared.fault.PlaceCode.TheVariants.{Repeated, TooLarge}, Entries.{Shape, line_of}}
use Rattle.oc_place.specs.Footprints.{Footprint}
use Rattle.oc_place.specs.Written.{Notes, Bad, at_line, is_large, is_entry_large, is_newline, is_spot_large, no_notes, notes_from, notes_of, position_in, symbol_named, then_by, with_drop, with_entry, with_form, with_got, with_image, with_line, with_numbers, with_outside, with_rest, with_spot}
use Rattle.oc_place.specs.Placings.{Placing, as_site, first_bad, placed_by, placed_in, placing_of}
use Rattle.oc_place.specs.declared.entry.PlacementLine.TheVariants as entry

-- ... lists of which each element has something

module _ {X : Type 0} (P : X → Type 0) where
  -- where one is replaced
  pub each_set : (xs : List X) (k : ℕ) (x : X) → AllByRecursion P xs → P x → AllByRecursion P (slice_set xs k x)
  each_set [] k x each is = tt
  each_set (y ∷ ys) zero x each is = (is, each.1)
  each_set (y ∷ ys) (suc k) x each is = (each.0, each_set ys k x each.1 is)

  -- where all are one
  pub each_replicate : (n : ℕ) (x : X) → P x → AllByRecursion P (replicate n x)
  each_replicate zero x is = tt
  each_replicate (suc n) x is = (is, each_replicate n x is)

  -- the one at a position, or the default
  pub each_get_or : (xs : List X) (k : ℕ) (d : X) → P d → AllByRecursion P xs → P (get_or xs k d)
  each_get_or [] k d is each = is
  each_get_or (y ∷ ys) zero d is each = each.0
  each_get_or (y ∷ ys) (suc k) d is each = each_get_or ys k d is each.1

-- ... numbers of a word

pub zero_small : (w : Word) → 0 < modulus w
zero_small W32 = omega arith
zero_small W64 = omega arith

-- a number that is not too large
small : (w : Word) (h : ℕ) → is_large w h ≡ false → h < modulus w
small w h e = leb-false (modulus w) h e

spot_small : (w : Word) (s : Spot) → is_spot_large w s ≡ false → IsSite w (as_site s)
spot_small w s e =
    let a = or_parts (is_large w s.address) (is_large w s.home || is_large w s.number) e in
    let b = or_parts (is_large w s.home) (is_large w s.number) a.1 in
    record { address = small w s.address a.0; home = small w s.home b.0; home_number = small w s.number b.1 }

-- a base that is noted
abbrev pub IsBaseSmall : Word → Option ℕ → Type 0
IsBaseSmall w None = Unit {0}
IsBaseSmall w (Some h) = h < modulus w

-- where a thing lies that is noted
abbrev pub IsSpotSmall : Word → Option Spot → Type 0
IsSpotSmall w None = Unit {0}
IsSpotSmall w (Some s) = IsSite w (as_site s)

-- what the outside gives a name
abbrev pub IsOutsideSmall : Word → Option Outside → Type 0
IsOutsideSmall w None = Unit {0}
IsOutsideSmall w (Some o) = IsSpotSmall w o.spot × (o.slot < modulus w)

-- all that is noted
pub record AreSmall (w : Word) (notes : Notes) : Type 0 where
  pub image : IsBaseSmall w notes.image
  pub got : IsBaseSmall w notes.got
  pub spots : AllByRecursion (IsSpotSmall w) notes.spots
  pub given : AllByRecursion (IsOutsideSmall w) notes.given

-- ... one line

module _ (w : Word) (notes : Notes) (all : AreSmall w notes) where
  -- where an entry is either a repeat or noted
  unless : (more : Notes) → AreSmall w more → (t : Bool) → IfOk (cond t (Err Repeated) (Ok more)) (AreSmall w)
  unless more is true = tt
  unless more is false = is

  image_small : (h : ℕ) → h < modulus w → IfOk (with_image notes h) (AreSmall w)
  image_small h is = unless (record notes { image = Some h }) (record { image = is; got = all.got; spots = all.spots; given = all.given }) (is_some notes.image)

  got_small : (h : ℕ) → h < modulus w → IfOk (with_got notes h) (AreSmall w)
  got_small h is = unless (record notes { got = Some h }) (record { image = all.image; got = is; spots = all.spots; given = all.given }) (is_some notes.got)

  section_small : (spot : Spot) (o : Option ℕ) → IsSite w (as_site spot) → IfOk (with_spot notes spot o) (AreSmall w)
  section_small spot None is = tt
  section_small spot (Some k) is = unless (record notes { spots = slice_set notes.spots k (Some spot) })
      (record { image = all.image; got = all.got; spots = each_set (IsSpotSmall w) notes.spots k (Some spot) all.spots is; given = all.given }) (is_some (get_or notes.spots k None))

  drop_small : (o : Option ℕ) → IfOk (with_drop notes o) (AreSmall w)
  drop_small None = tt
  drop_small (Some k) = unless (record notes { dropped = slice_set notes.dropped k true })
      (record { image = all.image; got = all.got; spots = all.spots; given = all.given }) (get_or notes.dropped k false)

  outside_small : (given : Outside) (o : Option ℕ) → IsOutsideSmall w (Some given) → IfOk (with_outside notes given o) (AreSmall w)
  outside_small given None is = tt
  outside_small given (Some k) is = unless (record notes { given = slice_set notes.given k (Some given) })
      (record { image = all.image; got = all.got; spots = all.spots; given = each_set (IsOutsideSmall w) notes.given k (Some given) all.given is }) (is_some (get_or notes.given k None))

module _ (footprint : Footprint) where
  abbrev w : Word
  w = footprint.word

  -- an entry whose numbers are small
  numbers_small : (notes : Notes) (e : PlacementLine) (name : List ℕ) → AreSmall w notes → is_entry_large w e ≡ false → IfOk (with_numbers footprint notes e name) (AreSmall w)
  numbers_small notes (entry.Image h) name all is = image_small w notes all h (small w h is)
  numbers_small notes (entry.Got h) name all is = got_small w notes all h (small w h is)
  numbers_small notes (entry.Section k spot) name all is = section_small w notes all spot (position_in (length notes.spots) k) (spot_small w spot is)
  numbers_small notes (entry.Drop k) name all is = drop_small w notes all (position_in (length notes.dropped) k)
  numbers_small notes (entry.Name spot slot) name all is =
      let m = or_parts (is_spot_large w spot) (is_large w slot) is in
      outside_small w notes all (record { spot = Some spot; slot = slot }) (symbol_named footprint.symbols name) (spot_small w spot m.0, small w slot m.1)
  numbers_small notes (entry.Slot slot) name all is =
      outside_small w notes all (record { spot = None; slot = slot }) (symbol_named footprint.symbols name) (tt, small w slot is)

  entry_small : (notes : Notes) (e : PlacementLine) (name : List ℕ) → AreSmall w notes → IfOk (with_entry footprint notes e name) (AreSmall w)
  entry_small notes e name all = by (is_entry_large w e) refl
    where
      by : (t : Bool) → is_entry_large w e ≡ t → IfOk (cond t (Err TooLarge) (with_numbers footprint notes e name)) (AreSmall w)
      by true large = tt
      by false not_large = numbers_small notes e name all not_large

  form_small : (notes : Notes) (o : Option Shape) → AreSmall w notes → IfOk (with_form footprint notes o) (AreSmall w)
  form_small notes None all = tt
  form_small notes (Some shape) all = entry_small notes shape.0 shape.1 all

  line_small : (notes : Notes) (line : List ℕ) → AreSmall w notes → IfOk (with_line footprint notes line) (AreSmall w)
  unfolding with_line
  line_small notes line all = form_small notes (line_of line) all

  -- ... all lines

  none_small : AreSmall w (no_notes footprint)
  none_small = record {
    image = tt;
    got = tt;
    spots = each_replicate (IsSpotSmall w) (length footprint.sections) None tt;
    given = each_replicate (IsOutsideSmall w) (length footprint.symbols) None tt;
  }

  rest_small : (line : ℕ) (notes : Notes) (rest : List ℕ) → AreSmall w notes → IfOk (with_rest line notes rest) (AreSmall w)
  rest_small line notes [] all = all
  rest_small line notes (b ∷ bs) all = tt

  onward : (line : ℕ) (r : Result Notes PlaceCode) (next : Notes → Result Notes Bad) → IfOk r (AreSmall w) → ((more : Notes) → AreSmall w more → IfOk (next more) (AreSmall w))
      → IfOk (then_by (at_line line r) next) (AreSmall w)
  onward line (Ok more) next all goes = goes more all
  onward line (Err code) next all goes = tt

  lines_small : (line : ℕ) (notes : Notes) (pieces : List (List ℕ)) → AreSmall w notes → IfOk (notes_from footprint line notes pieces) (AreSmall w)
  lines_small line notes [] all = all
  lines_small line notes (piece ∷ []) all = rest_small line notes piece all
  lines_small line notes (piece ∷ (next ∷ pieces)) all =
      onward line (with_line footprint notes piece) (λ more. notes_from footprint (line + 1) more (next ∷ pieces)) (line_small notes piece all)
      (λ more is. lines_small (line + 1) more (next ∷ pieces) is)

  text_small : (text : List ℕ) → IfOk (notes_of footprint text) (AreSmall w)
  unfolding notes_of
  text_small text = lines_small 1 (no_notes footprint) (slice_split is_newline text) none_small

  -- what is placed is that of notes that are small and at no fault
  pub record IsNoted (x : Placing) : Type 0 where
    pub notes : Notes
    pub small : AreSmall w notes
    pub sound : first_bad footprint notes ≡ None
    pub same : placing_of footprint notes ≡ x

  pub placed_noted : (text : List ℕ) → IfOk (placed_in footprint text) IsNoted
  unfolding placed_in
  placed_noted text = by (notes_of footprint text) (text_small text)
    where
      unless_bad : (notes : Notes) → AreSmall w notes → (o : Option Bad) → first_bad footprint notes ≡ o → IfOk (option_map_or (λ bad. Err bad) o (Ok (placing_of footprint notes))) IsNoted
      unless_bad notes all None e = record { notes = notes; small = all; sound = e; same = refl }
      unless_bad notes all (Some bad) e = tt

      by : (r : Result Notes Bad) → IfOk r (AreSmall w) → IfOk (then_by r (placed_by footprint)) IsNoted
      by (Ok notes) all = unless_bad notes all (first_bad footprint notes) refl
      by (Err bad) all = tt
