-- What is placed of an object is a placement and an outside map, as linking asks for them.
use Rattle.std.proofs.Common.{◌≡◌, ℕ, ◌+◌, ◌*◌, ◌/◌, ◌%◌, ◌<◌, ◌≤◌, Bool, true, false, cond, List, length, get_or, Option, Some, None, inl, inr, refl, sym, ◌∙◌, ap, subst, arith}
use Rattle.std.specs.{Prelude.{nat_eq, nat_lt, not, slice_get}, Option.{option_and_then, option_flatten, option_map, option_map_or, unwrap_or}}
use Rattle.std.proofs.Math.Nat.{div-add-mod}
use Rattle.std.proofs.lemmas.{Bool.{cases_eq, cases_lt, eqb-true, ltb-false, true≢false}, List.{length-map}}
use Rattle.std.proofs.lemmas.{Option.{get_or_from_slice_get, none-some, same_Some, slice_get-map, slice_get_within}, Result.{IfOk-at_ok}}
use Rattle.oc_base.specs.{declared.format.Word.{Word}, Formats.{word_for}}
use Rattle.oc_linking.specs.{declared.terms.Binding.{Binding}, declared.terms.Binding.TheVariants.{Local, Global, Undefined, Common, Weak}}
use Rattle.oc_linking.specs.{Numbers.{modulus, or_else, first_upto}, Parts.{is_local}}
use Rattle.oc_linking.specs.Placing.{DiscardsGroups, Gives, IsOutside, IsPlacement, IsSite, Meets, Places, nowhere}
use Rattle.oc_linking.specs.Parts as parts
use Rattle.oc_linking.specs.Placing as placing
use Rattle.oc_linking.proofs.FirstFaultLaws.{first_upto_none}
use Rattle.oc_neutral.specs.{declared.group.Group.{Group}, declared.section.Section.{Section}, Objects.{Object}}
use Rattle.oc_neutral.specs.{Faces.{key_of, shown_section, shown_sections, shown_symbol, shown_symbols}, Invariants.{HaveKeys, IsMember, IsObject}}
use Rattle.oc_strings.specs.Repeats.{name_at, nonlocal_name}
use Rattle.oc_neutral.proofs.Positions.{there_at}
use Rattle.oc_place.specs.{declared.spot.Spot.{Spot}, declared.spot.Outside.{Outside}, declared.fault.PlaceCode.{PlaceCode}}
use Rattle.oc_place.specs.declared.fault.PlaceCode.TheVariants.{Defined, Misaligned, PastEnd, Unnamed, Unplaced}
use Rattle.oc_place.specs.{Footprints.{Footprint, footprint_of, plot_of}, Written.{Notes, Bad, symbol_named}}
use Rattle.oc_place.specs.Placings.{Placing, as_site, at_position, first_bad, given_code, is_dropped, nothing_given, origin, outside_at, outside_of, placement_of, placing_of, plot_code, section_bad, spot_code, spot_for, symbol_bad, symbol_code}
use Rattle.oc_place.specs.Laws.{CanLink, IsUnused, ObjectCanLink}
use Rattle.oc_place.proofs.{CheckLemmas.{given_is, group_is, member, section_is, spot_is}, IndexLemmas.{name_from, names, one_name, place_none, place_only}}
use Rattle.oc_place.proofs.WordLemmas.{AreSmall, IsBaseSmall, IsOutsideSmall, IsSpotSmall, each_get_or, placed_noted, zero_small}
use Rattle.oc_shows.proofs.Reordered.{shown_local}

-- ... what the checks say

-- no code, no fault
no_code : (k : ℕ) (o : Option PlaceCode) → at_position k o ≡ None → o ≡ None
no_code k None e = refl
no_code k (Some code) e = absurd (none-some _ (sym e))

-- none of two is there
neither : (a b : Option Bad) → or_else a b ≡ None → (a ≡ None) × (b ≡ None)
neither None b e = (refl, e)
neither (Some a) b e = absurd (none-some a (sym e))

-- an address that leaves nothing over
multiple : (align address : ℕ) → nat_eq (address % align) 0 ≡ true → Meets align address
multiple align address e =
    let over : address % align ≡ 0 = eqb-true (address % align) 0 e in
    let whole : align * (address / align) + address % align ≡ address = div-add-mod address align in
    (address / align, omega (arith, over, whole))

module _ (w : Word) where
  -- a section lies well, where it is discarded or not
  record LiesWell (align size : ℕ) (gone : Bool) (spot : Spot) : Type 0 where
    pub site : IsSite w (as_site spot)
    pub aligned : Meets align spot.address
    pub inside : gone ≡ false → spot.address + size ≤ modulus w
    pub nowhere : gone ≡ true → as_site spot ≡ nowhere

  spot_well : (align size : ℕ) (o : Option Spot) → IsSpotSmall w o → spot_code w (record { align = align; size = size; group = None }) o ≡ None → LiesWell align size false (unwrap_or o origin)
  spot_well align size None small e = absurd (none-some Unplaced (sym e))
  spot_well align size (Some spot) small e = by (nat_eq (spot.address % align) 0) (nat_lt (modulus w) (spot.address + size)) refl refl e
    where
      by : (a b : Bool) → nat_eq (spot.address % align) 0 ≡ a → nat_lt (modulus w) (spot.address + size) ≡ b
          → cond (not a) (Some Misaligned) (cond b (Some PastEnd) None) ≡ None → LiesWell align size false spot
      by false b at past e = absurd (none-some Misaligned (sym e))
      by true true at past e = absurd (none-some PastEnd (sym e))
      by true false at past e = record {
        site = small;
        aligned = multiple align spot.address at;
        inside = λ h. ltb-false (modulus w) (spot.address + size) past;
        nowhere = λ h. absurd (true≢false (sym h));
      }

  -- and what the outside gives a symbol is what linking asks for
  outside_well : (b : Binding) (lost : Bool) (o : Option Spot) → IsSpotSmall w o → given_code b lost o ≡ None → Gives w b lost (option_map as_site o)
  outside_well (Local v) lost o small e = tt
  outside_well (Global v) true None small e = absurd (none-some Unnamed (sym e))
  outside_well (Global v) true (Some spot) small e = (as_site spot, refl, small)
  outside_well (Global v) false None small e = refl
  outside_well (Global v) false (Some spot) small e = absurd (none-some Defined (sym e))
  outside_well Undefined lost None small e = absurd (none-some Unnamed (sym e))
  outside_well Undefined lost (Some spot) small e = (as_site spot, refl, small)
  outside_well (Common size align) lost None small e = absurd (none-some Unnamed (sym e))
  outside_well (Common size align) lost (Some spot) small e = (as_site spot, refl, small, by (nat_eq (spot.address % align) 0) refl e)
    where
      by : (a : Bool) → nat_eq (spot.address % align) 0 ≡ a → cond (not a) (Some Misaligned) None ≡ None → Meets align spot.address
      by true at e = multiple align spot.address at
      by false at e = absurd (none-some Misaligned (sym e))
  outside_well (Weak f) true None small e = absurd (none-some Unnamed (sym e))
  outside_well (Weak f) true (Some spot) small e = (as_site spot, refl, small)
  outside_well (Weak f) false None small e = λ y h. absurd (none-some y h)
  outside_well (Weak f) false (Some spot) small e = λ y h. subst (IsSite w) (same_Some (as_site spot) y h) small

  -- a Local is given nothing
  local_well : (b : Binding) (lost : Bool) (o : Option placing.Site) → is_local b ≡ true → Gives w b lost o
  local_well (Local v) lost o e = tt
  local_well (Global v) lost o e = absurd (true≢false (sym e))
  local_well Undefined lost o e = absurd (true≢false (sym e))
  local_well (Common size align) lost o e = absurd (true≢false (sym e))
  local_well (Weak f) lost o e = absurd (true≢false (sym e))

  base_small : (o : Option ℕ) → IsBaseSmall w o → unwrap_or o 0 < modulus w
  base_small None small = zero_small w
  base_small (Some h) small = small

  outside_spot : (o : Option Outside) → IsOutsideSmall w o → IsSpotSmall w (unwrap_or o nothing_given).spot
  outside_spot None small = tt
  outside_spot (Some o) small = small.0

  outside_slot : (o : Option Outside) → IsOutsideSmall w o → (unwrap_or o nothing_given).slot < modulus w
  outside_slot None small = zero_small w
  outside_slot (Some o) small = small.1

-- ... groups

module _ (groups : List Group) where
  -- a group that has a key
  record HasKey (o : Option ℕ) (key : List ℕ) : Type 0 where
    pub at : ℕ
    pub is : o ≡ Some at
    pub group : Group
    pub here : slice_get groups at ≡ Some group
    pub same : group.key ≡ key

  has_key : (o : Option ℕ) (key : List ℕ) → option_and_then (key_of groups) o ≡ Some key → HasKey o key
  has_key None key e = absurd (none-some key e)
  has_key (Some g) key e = by (slice_get groups g) refl e
    where
      by : (x : Option Group) → slice_get groups g ≡ x → option_map (λ (y : Group). y.key) x ≡ Some key → HasKey (Some g) key
      by None here e = absurd (none-some key e)
      by (Some x) here e = record { at = g; is = refl; group = x; here = here; same = same_Some x.key key e }

  -- groups of one key are one
  one_group : HaveKeys groups → (a b : Option ℕ) (key : List ℕ) → option_and_then (key_of groups) a ≡ Some key → option_and_then (key_of groups) b ≡ Some key → a ≡ b
  one_group keys a b key ea eb =
      let x = has_key a key ea in
      let y = has_key b key eb in
      x.is ∙ ap Some (elim (cases_eq x.at y.at) [
        | inl same ↦ same
        | inr other ↦ absurd (elim (cases_lt x.at y.at) as (λ c. ⊥) [
          | inl less ↦ keys.differ x.at y.at x.group y.group less x.here y.here (x.same ∙ sym y.same)
          | inr more ↦ keys.differ y.at x.at y.group x.group (omega (arith, more, other)) y.here x.here (y.same ∙ sym x.same)
        ])
      ]) ∙ sym y.is

  -- a member has a key
  no_group : (o : Option ℕ) → IsMember (length groups) o → option_and_then (key_of groups) o ≡ None → o ≡ None
  no_group None is e = refl
  no_group (Some g) is e = let x = there_at groups g is in absurd (none-some x.0.key (sym e ∙ ap (option_map (λ (y : Group). y.key)) x.1))

-- ... an object

module _ (n : Object) (fine : IsObject n) (notes : Notes) (small : AreSmall (word_for n.format) notes) (sound : first_bad (footprint_of n) notes ≡ None) where
  abbrev w : Word
  w = word_for n.format

  abbrev print : Footprint
  print = footprint_of n

  abbrev x : Placing
  x = placing_of print notes

  abbrev p : placing.Placement
  p = placement_of print x

  abbrev e : placing.Outside
  e = outside_of print x

  parts_sound : (first_upto (section_bad print notes) (length print.sections) ≡ None) × (first_upto (symbol_bad print notes) (length print.symbols) ≡ None)
  parts_sound = neither (first_upto (section_bad print notes) (length print.sections)) (first_upto (symbol_bad print notes) (length print.symbols)) sound

  module _ (k : ℕ) (s : Section) (here : slice_get n.sections k ≡ Some s) where
    code_none : plot_code w notes k (plot_of s) ≡ None
    code_none =
        let inside = slice_get_within n.sections k s here in
        let long = length-map n.sections plot_of in
        no_code k (plot_code w notes k (plot_of s))
        (sym (section_is n fine k s here notes) ∙ first_upto_none (section_bad print notes) (length print.sections) parts_sound.0 k (omega (arith, inside, long)))

    well : LiesWell w s.align s.size (is_dropped notes.dropped s.group) (spot_for notes (k, plot_of s))
    well = by (is_dropped notes.dropped s.group) code_none
      where
        by : (gone : Bool) → cond gone None (spot_code w (plot_of s) (get_or notes.spots k None)) ≡ None
            → LiesWell w s.align s.size gone (cond gone origin (unwrap_or (get_or notes.spots k None) origin))
        by true e = record {
          site = record { address = zero_small w; home = zero_small w; home_number = zero_small w };
          aligned = (0, omega arith);
          inside = λ h. absurd (true≢false h);
          nowhere = λ h. refl;
        }
        by false e = spot_well w s.align s.size (get_or notes.spots k None) (each_get_or (IsSpotSmall w) notes.spots k None tt small.spots) e

    site_is : p.site k ≡ as_site (spot_for notes (k, plot_of s))
    site_is = ap as_site (get_or_from_slice_get x.spots k (spot_for notes (k, plot_of s)) origin (spot_is n fine k s here notes))

    gone_is : p.discarded k ≡ is_dropped notes.dropped s.group
    gone_is = ap (is_dropped notes.dropped) (group_is n fine k s here)

    placed : Places w p k (shown_section n.groups s)
    placed = record {
      aligned = subst (λ (y : placing.Site). Meets s.align y.address) (sym site_is) well.aligned;
      inside = λ h. subst (λ (y : placing.Site). y.address + s.size ≤ modulus w) (sym site_is) (well.inside (sym gone_is ∙ h));
      home = subst (λ (y : placing.Site). y.home < modulus w) (sym site_is) well.site.home;
      home_number = subst (λ (y : placing.Site). y.home_number < modulus w) (sym site_is) well.site.home_number;
      gone = λ h. site_is ∙ well.nowhere (sym gone_is ∙ h);
    }

  -- the section that is shown at a position
  record Shown (k : ℕ) (t : parts.Section) : Type 0 where
    pub section : Section
    pub here : slice_get n.sections k ≡ Some section
    pub same : shown_section n.groups section ≡ t

  shown_at : (k : ℕ) (t : parts.Section) → slice_get (shown_sections n) k ≡ Some t → Shown k t
  shown_at k t here =
      let inside = slice_get_within (shown_sections n) k t here in
      let long = length-map n.sections (shown_section n.groups) in
      let m = there_at n.sections k (omega (arith, inside, long)) in
      record { section = m.0; here = m.1; same = same_Some _ t (sym (slice_get-map (shown_section n.groups) n.sections k ∙ ap (option_map (shown_section n.groups)) m.1) ∙ here) }

  discards : DiscardsGroups (shown_sections n) p
  discards = record {
    together = λ j k s t key at_j at_k gs gt.
        let a = shown_at j s at_j in
        let b = shown_at k t at_k in
        gone_is j a.section a.here
        ∙ ap (is_dropped notes.dropped) (one_group n.groups fine.complete.keys a.section.group b.section.group key
        (ap (λ (y : parts.Section). y.group) a.same ∙ gs) (ap (λ (y : parts.Section). y.group) b.same ∙ gt))
        ∙ sym (gone_is k b.section b.here);
    alone = λ k s at_k none.
        let a = shown_at k s at_k in
        gone_is k a.section a.here
        ∙ ap (is_dropped notes.dropped) (no_group n.groups a.section.group (member n fine k a.section a.here) (ap (λ (y : parts.Section). y.group) a.same ∙ none));
  }

  placement : IsPlacement w (shown_sections n) p
  placement = record {
    places = λ k t here. let a = shown_at k t here in subst (Places w p k) a.same (placed k a.section a.here);
    groups = discards;
    image_base = base_small w notes.image small.image;
    got_base = base_small w notes.got small.got;
  }

  module _ (k : ℕ) (t : parts.Symbol) (here : slice_get (shown_symbols n) k ≡ Some t) where
    abbrev given : Outside
    given = unwrap_or (get_or notes.given k None) nothing_given

    given_small : IsOutsideSmall w (get_or notes.given k None)
    given_small = each_get_or (IsOutsideSmall w) notes.given k None tt small.given

    given_none : given_code t.binding (placing.is_lost p t.binding) given.spot ≡ None
    given_none =
        no_code k (symbol_code print notes k t)
        (ap (λ o. at_position k (option_and_then (symbol_code print notes k) o)) (sym here)
        ∙ first_upto_none (symbol_bad print notes) (length print.symbols) parts_sound.1 k (slice_get_within (shown_symbols n) k t here))

    name_there : is_local t.binding ≡ false → name_at (names n) k ≡ Some t.name
    name_there nonlocal =
        ap option_flatten (slice_get-map (λ (y : parts.Symbol). nonlocal_name y.binding y.name) (shown_symbols n) k
        ∙ ap (option_map (λ (y : parts.Symbol). nonlocal_name y.binding y.name)) here)
        ∙ ap (λ b. cond b None (Some t.name)) nonlocal

    -- what the outside gives its name is what is noted of it
    given_same : is_local t.binding ≡ false → outside_at print x t.name ≡ given
    given_same nonlocal =
        let inside = slice_get_within (shown_symbols n) k t here in
        let long = length-map n.symbols (shown_symbol n.symbols) in
        let own = name_there nonlocal in
        let named : symbol_named (shown_symbols n) t.name ≡ Some k
        = place_only (names n) (length (shown_symbols n)) t.name k inside own (λ j there. one_name n fine.built.distinct j k t.name there own) in
        ap (λ o. option_map_or (λ j. get_or x.given j nothing_given) o nothing_given) named
        ∙ get_or_from_slice_get x.given k given nothing_given (given_is n notes k (omega (arith, inside, long)))

    gives : Gives w t.binding (placing.is_lost p t.binding) (e.site t.name)
    gives = by (is_local t.binding) refl
      where
        by : (b : Bool) → is_local t.binding ≡ b → Gives w t.binding (placing.is_lost p t.binding) (e.site t.name)
        by true local = local_well w t.binding (placing.is_lost p t.binding) (e.site t.name) local
        by false nonlocal = subst (λ (o : Outside). Gives w t.binding (placing.is_lost p t.binding) (option_map as_site o.spot)) (sym (given_same nonlocal))
            (outside_well w t.binding (placing.is_lost p t.binding) given.spot (outside_spot w (get_or notes.given k None) given_small) given_none)

    slot : is_local t.binding ≡ false → e.slot t.name < modulus w
    slot nonlocal = subst (λ (o : Outside). o.slot < modulus w) (sym (given_same nonlocal)) (outside_slot w (get_or notes.given k None) given_small)

  -- a name that no nonlocal symbol has
  unused : (name : List ℕ) → IsUnused (shown_symbols n) name → outside_at print x name ≡ nothing_given
  unused name none = ap (λ o. option_map_or (λ j. get_or x.given j nothing_given) o nothing_given)
      (place_none (names n) (length (shown_symbols n)) name (λ k here.
      let m = name_from n k name here in
      none k (shown_symbol n.symbols m.symbol) (slice_get-map (shown_symbol n.symbols) n.symbols k ∙ ap (option_map (shown_symbol n.symbols)) m.here)
      (shown_local n.symbols m.symbol.binding ∙ m.nonlocal) m.same))

  can_link : CanLink w (shown_sections n) (shown_symbols n) p e
  can_link = record {
    placement = placement;
    outside = record { gives = gives; slots = slot };
    sites = λ name none. ap (λ (o : Outside). option_map as_site o.spot) (unused name none);
    slots = λ name none. ap (λ (o : Outside). o.slot) (unused name none);
  }

pub object_can_link : ObjectCanLink
object_can_link n text x fine placed =
    let m = IfOk-at_ok _ placed (placed_noted (footprint_of n) text) in
    subst (λ (y : Placing). CanLink (word_for n.format) (shown_sections n) (shown_symbols n) (placement_of (footprint_of n) y) (outside_of (footprint_of n) y)) m.same
    (can_link n fine m.notes m.small m.sound)
