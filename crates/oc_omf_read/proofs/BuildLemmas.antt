-- The sections of a module without faults, added one after the other.
use Rattle.std.proofs.Common.{◌≡◌, ℕ, zero, suc, ◌+◌, ◌<◌, ◌≤◌, cond, List, [], ◌∷◌, length, map, take, get_or, Option, None, Some, Ok, refl, sym, ◌∙◌, ap, arith}
use Rattle.std.specs.{Prelude.{slice_get, Vec}, Global.{Global}, List.{enumerate_from, sum_by}, Option.{option_and_then, option_map, option_map_or}}
use Rattle.std.proofs.lemmas.{List.{length-map, length-take-le, map-append}, List.FromFn.{length-enumerate_from}, List.Sums.{sum_by-cons, sum_by_more_le}}
use Rattle.std.proofs.lemmas.Option.{get_or_from_slice_get, slice_get-map, slice_get_within}
use Rattle.std.proofs.Math.Seq.{take-length}
use Rattle.oc_base.specs.declared.format.Format.TheVariants.{Omf}
use Rattle.oc_linking.specs.{declared.terms.Kind.{Kind}, declared.terms.Kind.TheVariants.{Zero}, FirstFault.{stage_fault}}
use Rattle.oc_linking.specs.Parts as parts
use Rattle.oc_neutral.specs.{KindRules.{same_kind}, declared.section.Section.{Section}}
use Rattle.oc_neutral.specs.{Building.{is_zero, limit_passed, section_added, size_sum, stored_size, stored_sum}, Invariants.{HasItsBytes}}
use Rattle.oc_shows.specs.Started.{plain_draft, stored_section}
use Rattle.oc_shows.proofs.{BuiltSteps.{within}, StartedLaws.{section_more}}
use Rattle.oc_neutral.proofs.{FieldLists.{take_here}, LeftObject.{sum_map}}
use Rattle.oc_omf.specs.{declared.structures.Segment.{Segment}, Entries.{entries_in}, HeaderFaults.{IsModule}}
use Rattle.oc_omf.specs.{Sections.{section_of, sections_in, segment_kind, segment_size}, SectionFaults.{all_bytes, bytes_size, section_stage}}
use Rattle.oc_omf.specs.Tables.{tables_of}
use Rattle.oc_omf.specs.Tables as all
use Rattle.oc_omf_judge.specs.{declared.defined.Defined.{Defined}, Defined.{IsDefined}}
use Rattle.oc_omf_read.specs.{Built.{AreBytesOf, HasLength, section_as, section_by, sectioned}, Sections.{kind_in}}
use Rattle.oc_omf_read.specs.Contents as contents
use Rattle.oc_omf_read.proofs.{ContentLemmas.{good_segment, known_kind, known_name}, SumLemmas.{bytes_few, sizes_few}}

numbered_at : {X : Type 0} (n : ℕ) (xs : List X) (i : ℕ) → slice_get (enumerate_from n xs) i ≡ option_map (λ x. (i + n, x)) (slice_get xs i)
numbered_at n [] zero = refl
numbered_at n [] (suc i) = refl
numbered_at n (x ∷ xs) zero = let none : n ≡ 0 + n = omega arith in ap (λ (k : ℕ). Some (k, x)) none
numbered_at {X} n (x ∷ xs) (suc i) =
    numbered_at (n + 1) xs i ∙ (let one : i + (n + 1) ≡ suc i + n = omega arith in ap (λ (k : ℕ). option_map (λ (x : X). (k, x)) (slice_get xs i)) one)

-- the section of a segment
pub section_at : (t : all.Tables) (k : ℕ) (s : Segment) → slice_get t.segments k ≡ Some s → slice_get (sections_in t) k ≡ Some (section_of t (k + 1, s))
unfolding sections_in
section_at t k s there =
    slice_get-map (section_of t) (enumerate_from 1 t.segments) k ∙ ap (option_map (section_of t)) (numbered_at 1 t.segments k ∙ ap (option_map (λ (s : Segment). (k + 1, s))) there)

pub as_many_sections : (t : all.Tables) → length (sections_in t) ≡ length t.segments
unfolding sections_in
as_many_sections t = length-map (enumerate_from 1 t.segments) (section_of t) ∙ length-enumerate_from 1 t.segments

-- what is made of what is known is the section
pub section_known : (t : all.Tables) (known : Defined) → IsDefined t known → (k : ℕ) (s : Segment) → slice_get t.segments k ≡ Some s → (bytes : List ℕ) → AreBytesOf t k bytes
    → section_by known k bytes ≡ Some (stored_section [] (section_of t (k + 1, s)))
section_known t known knows k s there bytes are =
    ap (option_and_then (λ (s : Segment). option_map (section_as known k bytes s) (kind_in known k))) (ap (λ (xs : List Segment). slice_get xs k) knows.segments_are ∙ there)
    ∙ ap (option_map (section_as known k bytes s)) (known_kind t known knows k s there)
    ∙ ap (λ (name : List ℕ). Some (record (section_as known k bytes s (segment_kind t (k + 1) s)) { name = name })) (known_name t known knows s.name)
    ∙ ap (λ (bytes : List ℕ). Some (record (stored_section [] (section_of t (k + 1, s))) { bytes = bytes })) (are s there)

-- ... sums

sum_numbered : (n : ℕ) (xs : List Segment) → sum_by (λ (x : ℕ × Segment). segment_size x.1) (enumerate_from n xs) ≡ sum_by segment_size xs
sum_numbered n [] = refl
sum_numbered n (x ∷ xs) =
    sum_by-cons (λ (x : ℕ × Segment). segment_size x.1) (n, x) (enumerate_from (n + 1) xs) ∙ ap (λ (m : ℕ). segment_size x + m) (sum_numbered (n + 1) xs) ∙ sym (sum_by-cons segment_size x xs)

sum_same : {X : Type 0} (f g : X → ℕ) (xs : List X) → ((x : X) → f x ≡ g x) → sum_by f xs ≡ sum_by g xs
sum_same f g [] same = refl
sum_same f g (x ∷ xs) same = sum_by-cons f x xs ∙ ap (λ (n : ℕ). n + sum_by f xs) (same x) ∙ ap (λ (n : ℕ). g x + n) (sum_same f g xs same) ∙ sym (sum_by-cons g x xs)

zero_same : (k : Kind) → same_kind k Zero ≡ is_zero k
zero_same k = grind arith

abbrev pub stored_all : all.Tables → List Section
stored_all t = map (stored_section []) (sections_in t)

sizes_are : (t : all.Tables) → size_sum (stored_all t) ≡ sum_by segment_size t.segments
unfolding sections_in
sizes_are t =
    sum_map (λ (x : Section). x.size) (stored_section []) (sections_in t) ∙ sum_map (λ (x : parts.Section). x.size) (section_of t) (enumerate_from 1 t.segments) ∙ sum_numbered 1 t.segments

bytes_are : (t : all.Tables) → stored_sum (stored_all t) ≡ all_bytes t
unfolding sections_in all_bytes
bytes_are t =
    sum_map stored_size (stored_section []) (sections_in t) ∙ sum_map (λ (x : parts.Section). stored_size (stored_section [] x)) (section_of t) (enumerate_from 1 t.segments)
    ∙ sum_same (λ (x : ℕ × Segment). stored_size (stored_section [] (section_of t x))) (bytes_size t) (enumerate_from 1 t.segments)
    (λ x. ap (λ b. cond b 0 (segment_size x.1)) (sym (zero_same (segment_kind t x.0 x.1))))

take_map : {X Y : Type 0} (g : X → Y) (n : ℕ) (xs : List X) → map g (take n xs) ≡ take n (map g xs)
take_map g zero xs = refl
take_map g (suc n) [] = refl
take_map {X} {Y} g (suc n) (x ∷ xs) = ap (λ (ys : List Y). g x ∷ ys) (take_map g n xs)

module _ (file : List ℕ) (head : IsModule file) (clean : stage_fault (section_stage (entries_in file)) ≡ None) (k : ℕ) (s : Segment) (there : slice_get (tables_of (entries_in file)).segments k ≡ Some s) where
  abbrev t : all.Tables
  t = tables_of (entries_in file)

  abbrev new : Section
  new = stored_section [] (section_of t (k + 1, s))

  stored_here : slice_get (stored_all t) k ≡ Some new
  stored_here = slice_get-map (stored_section []) (sections_in t) k ∙ ap (option_map (stored_section [])) (section_at t k s there)

  -- what is summed before a section, with it, is no more than all
  upto : (f : Section → ℕ) → sum_by f (map (stored_section []) (take k (sections_in t))) + f new ≤ sum_by f (stored_all t)
  upto f =
      let front : sum_by f (map (stored_section []) (take k (sections_in t))) ≡ sum_by f (take k (stored_all t)) = ap (sum_by f) (take_map (stored_section []) k (sections_in t)) in
      let low : k < length (stored_all t) = slice_get_within (stored_all t) k new stored_here in
      let one : f (get_or (stored_all t) k new) ≡ f new = ap f (get_or_from_slice_get (stored_all t) k new new stored_here) in
      let more = sum_by_more_le f (stored_all t) k new low in
      omega (arith, front, one, more)

  no_limit : limit_passed (map (stored_section []) (take k (sections_in t))) new ≡ None
  no_limit =
      let small = (good_segment file clean k s there).1.small in
      let sizes = upto (λ (x : Section). x.size) in
      let bytes = upto stored_size in
      let sizes_all = sizes_are t in
      let bytes_all = bytes_are t in
      let few = sizes_few file clean in
      let few_bytes = bytes_few file head clean in
      within (map (stored_section []) (take k (sections_in t))) new _ _ refl refl small (omega (arith, sizes, sizes_all, few)) (omega (arith, bytes, bytes_all, few_bytes))

  -- it is added
  pub next_added : section_added (sectioned t k) new ≡ Ok (sectioned t (k + 1))
  next_added =
      section_more Omf [] (map (stored_section []) (take k (sections_in t))) [] new no_limit
      ∙ ap (λ (xs : List Section). Ok (plain_draft Omf [] xs []))
      (sym (map-append (stored_section []) (take k (sections_in t)) (section_of t (k + 1, s) ∷ [])) ∙ sym (ap (map (stored_section [])) (take_here (sections_in t) k (section_of t (k + 1, s)) (section_at t k s there))))

  pub next_small : segment_size s < 4294967296
  next_small = let small = (good_segment file clean k s there).1.small in omega (arith, small)

  pub next_room : length (map (stored_section []) (take k (sections_in t))) ≡ k
  next_room =
      let low : k < length t.segments = slice_get_within t.segments k s there in
      let many = as_many_sections t in
      length-map (take k (sections_in t)) (stored_section []) ∙ length-take-le k (sections_in t) (omega (arith, low, many))

pub segment_there : (xs : List Segment) (k : ℕ) → k < length xs → (s : Segment) × (slice_get xs k ≡ Some s)
segment_there [] k low = absurd (omega (arith, low))
segment_there (x ∷ xs) zero low = (x, refl)
segment_there (x ∷ xs) (suc k) low = segment_there xs k (omega (arith, low))

-- it has its bytes
pub bytes_long : (file : List ℕ) (k : ℕ) (s : Segment) → slice_get (tables_of (entries_in file)).segments k ≡ Some s → (bytes : List ℕ) → AreBytesOf (tables_of (entries_in file)) k bytes
    → HasLength (tables_of (entries_in file)) k bytes → HasItsBytes (stored_section [] (section_of (tables_of (entries_in file)) (k + 1, s)))
bytes_long file k s there bytes are long = ap length (sym (are s there)) ∙ long s there

-- what a vector at a position holds
pub item_is : (vs : List (Vec ℕ Global)) (k : ℕ) (v : Vec ℕ Global) → slice_get vs k ≡ Some v → contents.items_at vs k ≡ v.items
item_is vs k v there = ap (λ (o : Option (Vec ℕ Global)). option_map_or (λ (v : Vec ℕ Global). v.items) o []) there

-- all sections
pub all_yet : (t : all.Tables) (n : ℕ) → n ≡ length t.segments → sectioned t n ≡ plain_draft Omf [] (stored_all t) []
all_yet t n is =
    ap (λ (xs : List parts.Section). plain_draft Omf [] (map (stored_section []) xs) [])
    (ap (λ (m : ℕ). take m (sections_in t)) (is ∙ sym (as_many_sections t)) ∙ take-length (sections_in t))
