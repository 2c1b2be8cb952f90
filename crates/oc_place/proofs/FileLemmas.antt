-- What is placed of a file is a placement and an outside map, as linking asks for them.
use Rattle.std.proofs.Common.{◌≡◌, ℕ, List, map, Some, sym, ◌∙◌, ap, subst, arith}
use Rattle.std.specs.Prelude.{slice_get}
use Rattle.std.proofs.lemmas.Option.{slice_get_within}
use Rattle.oc_base.specs.{declared.format.Word.{Word}, Formats.{word_for}}
use Rattle.oc_linking.specs.{Keeping.{all}, Parts.{Section, Symbol}, Placing.{IsOutside, IsPlacement, Placement, Places}}
use Rattle.oc_linking.proofs.Whole.{flags-all, sections-whole, spread_in-whole}
use Rattle.oc_neutral.specs.Faces.{shown_sections, shown_symbols, frame_of}
use Rattle.oc_neutral.proofs.Positions.{images_same, lengths_same, there_at}
use Rattle.oc_place.specs.{Footprints.{Footprint, footprint_in, footprint_of}, Placings.{outside_of, placed_in, placement_of}}
use Rattle.oc_place.specs.Laws.{CanLink, FileCanLink, InputCanLink}
use Rattle.oc_place.proofs.{FootprintLemmas.{footprints_agree}, LinkingLemmas.{object_can_link}}

-- contents are not placed
framed : (w : Word) (p : Placement) (k : ℕ) (s : Section) → Places w p k s → Places w p k (frame_of s)
framed w p k s is = record { aligned = is.aligned; inside = is.inside; home = is.home; home_number = is.home_number; gone = is.gone }

unframed : (w : Word) (p : Placement) (k : ℕ) (s : Section) → Places w p k (frame_of s) → Places w p k s
unframed w p k s is = record { aligned = is.aligned; inside = is.inside; home = is.home; home_number = is.home_number; gone = is.gone }

module _ (w : Word) (xs ys : List Section) (alike : map frame_of xs ≡ map frame_of ys) where
  -- the section at the same position
  record Twin (k : ℕ) (t : Section) : Type 0 where
    pub section : Section
    pub here : slice_get xs k ≡ Some section
    pub same : frame_of section ≡ frame_of t

  twin : (k : ℕ) (t : Section) → slice_get ys k ≡ Some t → Twin k t
  twin k t here =
      let inside = slice_get_within ys k t here in
      let long = lengths_same frame_of frame_of xs ys alike in
      let m = there_at xs k (omega (arith, inside, long)) in
      record { section = m.0; here = m.1; same = images_same frame_of frame_of xs ys alike k m.0 t m.1 here }

  reframed : (p : Placement) → IsPlacement w xs p → IsPlacement w ys p
  reframed p is = record {
    places = λ k t here. let m = twin k t here in unframed w p k t (subst (Places w p k) m.same (framed w p k m.section (is.places k m.section m.here)));
    groups = record {
      together = λ j k s t key at_j at_k gs gt.
          let a = twin j s at_j in
          let b = twin k t at_k in
          is.groups.together j k a.section b.section key a.here b.here (ap (λ (z : Section). z.group) a.same ∙ gs) (ap (λ (z : Section). z.group) b.same ∙ gt);
      alone = λ k s at_k none. let a = twin k s at_k in is.groups.alone k a.section a.here (ap (λ (z : Section). z.group) a.same ∙ none);
    };
    image_base = is.image_base;
    got_base = is.got_base;
  }

pub file_can_link : FileCanLink
file_can_link f b n text x is fine shows placed =
    let same : footprint_of n ≡ footprint_in f b = footprints_agree f b n is fine shows in
    let of_object = object_can_link n text x fine (ap (λ (g : Footprint). placed_in g text) same ∙ placed) in
    let of_file = subst (λ (g : Footprint). CanLink (word_for n.format) (shown_sections n) (shown_symbols n) (placement_of g x) (outside_of g x)) same of_object in
    let of_word = subst (λ (w : Word). CanLink w (shown_sections n) (shown_symbols n) (placement_of (footprint_in f b) x) (outside_of (footprint_in f b) x))
    (ap word_for shows.format ∙ sym is.word) of_file in
    let of_symbols = subst (λ (symbols : List Symbol). CanLink f.rules.word (shown_sections n) symbols (placement_of (footprint_in f b) x) (outside_of (footprint_in f b) x)) shows.symbols of_word in
    record {
      placement = reframed f.rules.word (shown_sections n) (f.rules.sections b) shows.sections (placement_of (footprint_in f b) x) of_symbols.placement;
      outside = of_symbols.outside;
      sites = of_symbols.sites;
      slots = of_symbols.slots;
    }

pub input_can_link : InputCanLink
input_can_link f b p e is =
    let whole = flags-all (f.rules.sections b) in (
      subst (λ (sections : List Section). IsPlacement f.rules.word sections p) (sym (sections-whole f.rules b all whole)) is.placement,
      subst (λ (q : Placement). IsOutside f.rules.word q (f.rules.symbols b all) e) (sym (spread_in-whole f.rules b all whole p)) is.outside,
    )
