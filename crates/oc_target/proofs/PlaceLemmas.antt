-- Where the names of sections stand among the names that are given.
use Rattle.std.proofs.Common.{◌≡◌, refl, ℕ, zero, suc, ◌+◌, ◌<◌, ◌≤◌, ◌&&◌, Bool, true, false, List, [], ◌∷◌, ◌++◌, map, Option, Some, None, ◌∙◌, ap, sym, get_or, arith}
use Rattle.std.specs.{Prelude.{slice_get, take, nat_lt, min, ◌^◌, ◌-◌}, Option.{option_map, option_map_or, option_and_then, unwrap_or}}
use Rattle.std.proofs.lemmas.{Bool.{ltb-true, ltb-false, lt-ltb, le-ltb}, Option.{none-some, slice_get-map}}
use Rattle.oc_base.specs.Strings.{table_place}
use Rattle.oc_strings.specs.Tables.{capped, offset_of}
use Rattle.oc_linking.specs.declared.terms.Value.{Value}
use Rattle.oc_neutral.specs.{Coff.Family.{is_far}, Coff.Strings.{is_tabled, coff_strings, string_offset}, Objects.{Object}}
use Rattle.oc_target.specs.{Far.{lies_far_in}, Places.{HasPlace, HavePlaces}}
use Rattle.oc_neutral.proofs.FieldLists.{take_here}

-- a place stays where more is given
get_front : {X : Type 0} (xs ys : List X) (k : ℕ) (x : X) → slice_get xs k ≡ Some x → slice_get (xs ++ ys) k ≡ Some x
get_front [] ys k x here = absurd (none-some x here)
get_front (y ∷ xs) ys zero x here = here
get_front (y ∷ xs) ys (suc k) x here = get_front xs ys k x here

pub place_more : (given more : List (List ℕ)) (name : List ℕ) (place : Option ℕ) → HasPlace given name place → HasPlace (given ++ more) name place
place_more given more name None has = has
place_more given more name (Some at) has = (has.0, get_front given more at name has.1)

pub places_more : (given more names : List (List ℕ)) (places : List (Option ℕ)) → HavePlaces given names places → HavePlaces (given ++ more) names places
places_more given more [] [] have = have
places_more given more [] (place ∷ places) have = absurd have
places_more given more (name ∷ names) [] have = absurd have
places_more given more (name ∷ names) (place ∷ places) have = (place_more given more name place have.0, places_more given more names places have.1)

-- one more name has its place
places_next : (given names : List (List ℕ)) (places : List (Option ℕ)) (name : List ℕ) (place : Option ℕ) → HavePlaces given names places → HasPlace given name place
    → HavePlaces given (names ++ name ∷ []) (places ++ place ∷ [])
places_next given [] [] name place have has = (has, tt)
places_next given [] (q ∷ places) name place have has = absurd have
places_next given (m ∷ names) [] name place have has = absurd have
places_next given (m ∷ names) (q ∷ places) name place have has = (have.0, places_next given names places name place have.1 has)

-- the names so far have places, and one more
pub places_step : (before now more names : List (List ℕ)) (places : List (Option ℕ)) (k : ℕ) (name : List ℕ) (place : Option ℕ) → slice_get names k ≡ Some name → now ≡ before ++ more
    → HavePlaces before (take k names) places → HasPlace now name place → HavePlaces now (take (k + 1) names) (places ++ place ∷ [])
places_step before now more names places k name place here e have has =
    rw (take_here names k name here) (places_next now (take k names) places name place (rw e (places_more before more (take k names) places have)) has)

-- the places stay where more is given thrice
pub places_whole : (first second third fourth a b c names : List (List ℕ)) (places : List (Option ℕ)) → second ≡ first ++ a → third ≡ second ++ b → fourth ≡ third ++ c
    → HavePlaces first names places → HavePlaces fourth names places
places_whole first second third fourth a b c names places e f g have =
    rw g (places_more third c names places (rw f (places_more second b names places (rw e (places_more first a names places have)))))

-- ... offsets

-- a number that is cut off at the largest number of 64 bits is far where it was
far_capped : (t : ℕ) → is_far (capped t) ≡ is_far t
far_capped t = by (nat_lt 9999999 t) refl
  where
    by : (b : Bool) → nat_lt 9999999 t ≡ b → nat_lt 9999999 (min t (2 ^ 64 - 1)) ≡ b
    by true e = let l : 9999999 < t = ltb-true 9999999 t e in lt-ltb 9999999 (min t (2 ^ 64 - 1)) (omega (arith, l))
    by false e = let l : t ≤ 9999999 = ltb-false 9999999 t e in le-ltb 9999999 (min t (2 ^ 64 - 1)) (omega (arith, l))

-- the name at this place lies too far, where names have these offsets
abbrev pub is_far_at : List ℕ → Option ℕ → Bool
is_far_at offsets place = option_map_or is_far (option_and_then (slice_get offsets) place) false

-- the offset of a name in the table, or 0
abbrev pub offset_in : List (List ℕ) → List ℕ → ℕ
offset_in given name = unwrap_or (table_place 4 given name) 0

-- an offset that is there is the name's
offset_there : (found : Option ℕ) (place : Option ℕ) → option_map Some found ≡ Some (option_map capped place) → option_map_or is_far found false ≡ is_far (unwrap_or place 0)
offset_there found place e = grind arith

far_there : (given : List (List ℕ)) (offsets : List ℕ) → map Some offsets ≡ map (offset_of 4 given) given → (name : List ℕ) (place : Option ℕ) → HasPlace given name place
    → is_far_at offsets place ≡ (is_tabled name && is_far (offset_in given name))
far_there given offsets laid name None short = ap (λ b. b && is_far (offset_in given name)) (sym short)
far_there given offsets laid name (Some at) has =
    let found : option_map Some (slice_get offsets at) ≡ Some (option_map capped (table_place 4 given name))
    = sym (slice_get-map Some offsets at) ∙ ap (λ xs. slice_get xs at) laid ∙ slice_get-map (offset_of 4 given) given at ∙ ap (option_map (offset_of 4 given)) has.1 in
    offset_there (slice_get offsets at) (table_place 4 given name) found ∙ ap (λ b. b && is_far (offset_in given name)) (sym has.0)

-- each name that is told of, and none past the last
pub far_known : (given : List (List ℕ)) (offsets : List ℕ) → map Some offsets ≡ map (offset_of 4 given) given → (names : List (List ℕ)) (places : List (Option ℕ)) → HavePlaces given names places
    → (i : ℕ) → get_or (map (is_far_at offsets) places) i false ≡ (is_tabled (get_or names i []) && is_far (offset_in given (get_or names i [])))
far_known given offsets laid [] [] have i = refl
far_known given offsets laid [] (place ∷ places) have i = absurd have
far_known given offsets laid (name ∷ names) [] have i = absurd have
far_known given offsets laid (name ∷ names) (place ∷ places) have zero = far_there given offsets laid name place have.0
far_known given offsets laid (name ∷ names) (place ∷ places) have (suc i) = far_known given offsets laid names places have.1 i

-- the names of sections are told of by the string table
pub far_told : (writes_local : List ℕ → Value → Bool) (names : List (List ℕ)) (n : Object) (given : List (List ℕ)) (offsets : List ℕ) (places : List (Option ℕ)) (far : List Bool)
    → given ≡ coff_strings writes_local names n → map Some offsets ≡ map (offset_of 4 given) given → HavePlaces given names places → far ≡ map (is_far_at offsets) places
    → (i : ℕ) → get_or far i false ≡ lies_far_in writes_local names n (get_or names i [])
unfolding string_offset
far_told writes_local names n given offsets places far are laid have told i =
    ap (λ fs. get_or fs i false) told ∙ far_known given offsets laid names places have i
    ∙ ap (λ g. is_tabled (get_or names i []) && is_far (offset_in g (get_or names i []))) are
