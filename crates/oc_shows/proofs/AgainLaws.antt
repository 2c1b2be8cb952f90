-- An object whose fields are read again is shown: it is what is built of the file, with its own relocations.
use Rattle.std.proofs.Common.{◌≡◌, ℕ, zero, suc, ◌+◌, ◌/◌, ◌%◌, ◌^◌, ◌<◌, ◌≤◌, ◌⊎◌, inl, inr, Bool, true, false, cond, List, [], ◌∷◌, length, map, get_or, replicate, Option, Some, None, refl, sym, ◌∙◌, ap, arith}
use Rattle.std.specs.{Prelude.{slice_get}, List.{AllByRecursion}, Option.{option_map, option_and_then, option_map_or}}
use Rattle.std.proofs.Math.Nat.{zero-div}
use Rattle.std.proofs.lemmas.{Bool.{cases_lt}, Grind.{same_number_lists}, List.{get_or_past, length-map, length-replicate}}
use Rattle.std.proofs.lemmas.Option.{none-some, same_Some, slice_get_within, slice_get-map}
use Rattle.oc_linking.specs.{Fits.{bytes_of}, Keeping.{all}}
use Rattle.oc_linking.specs.Parts as parts
use Rattle.oc_chains.specs.{declared.field.Field.{Field}, Lists.{list_of}}
use Rattle.oc_neutral.specs.{declared.group.Group.{Group}, declared.section.Section.{Section}, declared.reloc.Reloc.{Reloc}}
use Rattle.oc_neutral.specs.{Objects.{Object, reloc_among, reloc_at}, Building.{is_zero, stored_size}, Invariants.{HasItsBytes, IsHeld, IsObject}}
use Rattle.oc_neutral.specs.{Faces.{contents_of, shown_section, shown_sections, frame_of}, Dialects.{Dialect}}
use Rattle.oc_shows.specs.{Shows.{Shows}, Built.{IsFree, IsGiven}, Again.{HasContents, IsCovered, IsReadAgain, ReadAgainShows}}
use Rattle.oc_neutral.proofs.{Added.{kept_of}, Adding.{wide_enough}, Standing.{wide, ends_by}, FoundRelocs.{found_at}}
use Rattle.oc_neutral.proofs.{Positions.{each_at, images_same, lengths_same, lists_same, there_at}, WrittenBytes.{byte_at}}
use Rattle.oc_shows.proofs.{Blank.{bytes_under, found_field}, BuiltContents.{content-stored, content-zero, long, mapped_at, zeros_at}}
use Rattle.oc_shows.proofs.{BuiltLaws.{showing_shows}, Showing.{IsBase, IsShowing, left_in, normal_in, stays, stored_at, StaysAt}}

-- a section with other contents
abbrev refill : Section → List ℕ → Section
refill z ys = record z { bytes = cond (is_zero z.kind) [] ys }

-- sections with the contents of these
abbrev refilled : List Section → List parts.Section → List Section
refilled [] ys = []
refilled (z ∷ zs) [] = z ∷ zs
refilled (z ∷ zs) (y ∷ ys) = refill z y.contents ∷ refilled zs ys

-- all but the bytes stays
frames_stay : (groups : List Group) (zs : List Section) (ys : List parts.Section)
    → map (λ (z : Section). frame_of (shown_section groups z)) zs ≡ map (λ (z : Section). frame_of (shown_section groups z)) (refilled zs ys)
frames_stay groups [] ys = refl
frames_stay groups (z ∷ zs) [] = refl
frames_stay groups (z ∷ zs) (y ∷ ys) = ap (λ (fs : List parts.Section). frame_of (shown_section groups z) ∷ fs) (frames_stay groups zs ys)

sizes_stay : (zs : List Section) (ys : List parts.Section) → map stored_size zs ≡ map stored_size (refilled zs ys)
sizes_stay [] ys = refl
sizes_stay (z ∷ zs) [] = refl
sizes_stay (z ∷ zs) (y ∷ ys) = ap (λ (ks : List ℕ). stored_size z ∷ ks) (sizes_stay zs ys)

size_stays : (zs : List Section) (ys : List parts.Section) (t : ℕ) → stored_at zs t ≡ stored_at (refilled zs ys) t
size_stays [] ys t = refl
size_stays (z ∷ zs) [] t = refl
size_stays (z ∷ zs) (y ∷ ys) zero = refl
size_stays (z ∷ zs) (y ∷ ys) (suc t) = size_stays zs ys t

-- the section at a position
refilled_at : (zs : List Section) (ys : List parts.Section) (k : ℕ) (z : Section) (y : parts.Section) → slice_get zs k ≡ Some z → slice_get ys k ≡ Some y
    → slice_get (refilled zs ys) k ≡ Some (refill z y.contents)
refilled_at [] ys k z y here there = absurd (none-some z here)
refilled_at (x ∷ zs) [] k z y here there = absurd (none-some y there)
refilled_at (x ∷ zs) (w ∷ ys) zero z y here there = ap (λ (a : Section). Some (refill a w.contents)) (same_Some x z here) ∙ ap (λ (a : parts.Section). Some (refill z a.contents)) (same_Some w y there)
refilled_at (x ∷ zs) (w ∷ ys) (suc k) z y here there = refilled_at zs ys k z y here there

-- a byte stays where it does in the section at its position
byte_stays : (zs : List Section) (ys : List parts.Section) (t i : ℕ)
    → ((z : Section) (y : parts.Section) → slice_get zs t ≡ Some z → slice_get ys t ≡ Some y → get_or {A = ℕ} z.bytes i 0 ≡ get_or (refill z y.contents).bytes i 0)
    → byte_at zs t i ≡ byte_at (refilled zs ys) t i
byte_stays [] ys t i each = refl
byte_stays (z ∷ zs) [] t i each = refl
byte_stays (z ∷ zs) (y ∷ ys) zero i each = each z y refl refl
byte_stays (z ∷ zs) (y ∷ ys) (suc t) i each = byte_stays zs ys t i each

-- each section has its bytes
refilled_whole : (zs : List Section) (ys : List parts.Section) → AllByRecursion HasItsBytes zs
    → ((k : ℕ) (z : Section) (y : parts.Section) → slice_get zs k ≡ Some z → slice_get ys k ≡ Some y → length y.contents ≡ z.size) → AllByRecursion HasItsBytes (refilled zs ys)
refilled_whole [] ys whole each = tt
refilled_whole (z ∷ zs) [] whole each = whole
refilled_whole (z ∷ zs) (y ∷ ys) whole each = (own (is_zero z.kind), refilled_whole zs ys whole.1 (λ k a b here there. each (suc k) a b here there))
  where
    own : (c : Bool) → length (cond {A = List ℕ} c [] y.contents) ≡ cond c 0 z.size
    own true = refl
    own false = each 0 z y refl refl

-- a section is shown with its contents
section_again : (groups : List Group) (z : Section) (y : parts.Section) → frame_of (shown_section groups z) ≡ frame_of y → contents_of (refill z y.contents) ≡ y.contents
    → shown_section groups (refill z y.contents) ≡ y
section_again groups z y frames same =
    let made : parts.Section → List ℕ → parts.Section = λ f cs. record f { contents = cs } in
    ap (λ (f : parts.Section). made f (contents_of (refill z y.contents))) frames ∙ ap (made (frame_of y)) same

module _ (n : Object) (fine : IsObject n) where
  -- a section with a relocation is there
  pub inside_of : (t x : ℕ) (r : Reloc) → reloc_at n t x ≡ Some r → t < length n.sections
  inside_of t x r here = elim (cases_lt t (length n.sections)) [
    | inl lt ↦ lt
    | inr past ↦
        let none : list_of n.relocs t ≡ [] = get_or_past n.relocs t [] (let e = fine.built.fields.counted in omega (arith, past, e)) in
        absurd (none-some r (sym (ap (λ (xs : List (Field Reloc)). reloc_among xs x) none) ∙ here))
  ]

module _ (g : Dialect) (c : List ℕ) (n : Object) (fine : IsObject n) (is : IsReadAgain g c n) where
  abbrev ys : List parts.Section
  ys = g.rules.sections c

  -- the object with the contents of the file, and no relocations
  abbrev base : Object
  base = record { format = n.format; groups = n.groups; sections = refilled n.sections ys; symbols = n.symbols; relocs = [] }

  has_bytes : (t : ℕ) (z : Section) → slice_get n.sections t ≡ Some z → HasItsBytes z
  has_bytes t z here = each_at HasItsBytes n.sections t z fine.built.bytes here

  sizes : (t : ℕ) (z : Section) (y : parts.Section) → slice_get n.sections t ≡ Some z → slice_get ys t ≡ Some y → length y.contents ≡ z.size
  sizes t z y here there = (is.contents t z y here there).long ∙ long z (has_bytes t z here)

  -- its field lies in the bytes
  field_inside : (t x : ℕ) (r : Reloc) (z : Section) → reloc_at n t x ≡ Some r → slice_get n.sections t ≡ Some z → x + bytes_of r.form.width ≤ stored_size z
  field_inside t x r z found here =
      let f = found_field (IsHeld n t z.bytes) (list_of n.relocs t) x r (fine.built.fields.each t z here) found in
      let width : f.0.width ≡ bytes_of r.form.width = f.3.width ∙ ap (λ (q : Reloc). bytes_of q.form.width) f.2 in
      let at : f.0.at ≡ x = f.1 in
      let within : f.0.at + f.0.width ≤ length z.bytes = f.3.inside in
      let bytes : length z.bytes ≡ stored_size z = has_bytes t z here in
      omega (arith, width, at, within, bytes)

  -- so nothing is covered in a section that has no bytes
  none_covered : (t : ℕ) (z : Section) → slice_get n.sections t ≡ Some z → is_zero z.kind ≡ true → (i : ℕ) → IsCovered (reloc_at n) t i → ⊥
  none_covered t z here zeros i cover =
      let none : stored_size z ≡ 0 = ap (λ b. cond b 0 z.size) zeros in
      let most = field_inside t cover.at cover.reloc z cover.here here in
      let some = wide_enough cover.reloc.form.width in
      omega (arith, none, most, some)

  -- the contents of the file are those of the base
  contents_again : (t : ℕ) (z : Section) (y : parts.Section) → slice_get n.sections t ≡ Some z → slice_get ys t ≡ Some y → contents_of (refill z y.contents) ≡ y.contents
  contents_again t z y here there = by (is_zero z.kind) refl
    where
      by : (b : Bool) → is_zero z.kind ≡ b → cond b (replicate z.size 0) (cond b [] y.contents) ≡ y.contents
      by false e = refl
      by true e =
          let has = is.contents t z y here there in
          let same : length y.contents ≡ z.size = sizes t z y here there in
          same_number_lists (replicate z.size 0) y.contents (length-replicate z.size 0 ∙ sym same) (λ i low.
          let inside : i < length y.contents = let repeated = length-replicate {A = ℕ} z.size 0 in omega (arith, low, repeated, same) in
          zeros_at z.size i ∙ sym (content-zero z i e) ∙ sym (has.beside i inside (none_covered t z here e i)))

  sections_again : shown_sections base ≡ ys
  sections_again = lists_same (shown_sections base) ys
      (length-map base.sections (shown_section n.groups) ∙ sym counted_base ∙ counted)
      (λ k a y here there.
      let m = mapped_at (shown_section n.groups) base.sections k a here in
      let z = there_at n.sections k (let lt = slice_get_within ys k y there in omega (arith, lt, counted)) in
      let own : m.0 ≡ refill z.0 y.contents = same_Some m.0 (refill z.0 y.contents) (sym m.1 ∙ refilled_at n.sections ys k z.0 y z.1 there) in
      let frame : frame_of (shown_section n.groups z.0) ≡ frame_of y =
      images_same frame_of frame_of (shown_sections n) ys is.sections k (shown_section n.groups z.0) y (slice_get-map (shown_section n.groups) n.sections k ∙ ap (option_map (shown_section n.groups)) z.1) there in
      m.2 ∙ ap (shown_section n.groups) own ∙ section_again n.groups z.0 y frame (contents_again k z.0 y z.1 there))
    where
      counted_base : length n.sections ≡ length base.sections
      counted_base = lengths_same stored_size stored_size n.sections base.sections (sizes_stay n.sections ys)

      counted : length n.sections ≡ length ys
      counted = sym (length-map n.sections (shown_section n.groups)) ∙ lengths_same frame_of frame_of (shown_sections n) ys is.sections

  base_is : IsBase g c all base
  base_is = record {
    whole = refilled_whole n.sections ys fine.built.bytes sizes;
    format = is.format;
    word = is.word;
    sections = sections_again;
    symbols = is.symbols;
    numbered = is.numbered;
  }

  -- a relocation of the object is in normal form
  stays_at : (t x : ℕ) (r : Reloc) → reloc_at n t x ≡ Some r → StaysAt n t x r
  stays_at t x r here =
      let normal = (found_at n fine t (inside_of n fine t x r here) x r here).0 in
      stays n t x r normal.against normal.reduced normal.varies normal.placed

  relocs_stay : (t x : ℕ) (o : Option Reloc) → reloc_at n t x ≡ o → o ≡ option_and_then (λ r. kept_of (normal_in n t x r)) o
  relocs_stay t x None here = refl
  relocs_stay t x (Some r) here = sym (stays_at t x r here).kept

  zeros_under : (t x j : ℕ) (r : Reloc) → reloc_at n t x ≡ Some r → j < bytes_of r.form.width → byte_at n.sections t (x + j) ≡ left_in n t x r / 256 ^ j % 256
  zeros_under t x j r here l =
      let z = there_at n.sections t (inside_of n fine t x r here) in
      ap (λ (o : Option Section). option_map_or (λ (y : Section). get_or y.bytes (x + j) 0) o 0) z.1
      ∙ bytes_under n fine t z.0 z.1 x j r here l
      ∙ sym (ap (λ (k : ℕ). k / 256 ^ j % 256) (stays_at t x r here).left ∙ ap (λ (k : ℕ). k % 256) (zero-div (256 ^ j)))

  bytes_beside : (t i : ℕ) → (IsCovered (reloc_at n) t i → ⊥) → byte_at n.sections t i ≡ byte_at base.sections t i
  bytes_beside t i free = byte_stays n.sections ys t i (λ z y here there. by z y here there (is_zero z.kind) refl)
    where
      stored : (z : Section) (y : parts.Section) → HasContents n t z y.contents → get_or {A = ℕ} (contents_of z) i 0 ≡ get_or y.contents i 0
      stored z y has = elim (cases_lt i (length y.contents)) [
        | inl lt ↦ sym (has.beside i lt free)
        | inr past ↦ get_or_past (contents_of z) i 0 (let same = has.long in omega (arith, past, same)) ∙ sym (get_or_past y.contents i 0 past)
      ]

      by : (z : Section) (y : parts.Section) → slice_get n.sections t ≡ Some z → slice_get ys t ≡ Some y
          → (b : Bool) → is_zero z.kind ≡ b → get_or {A = ℕ} z.bytes i 0 ≡ get_or (cond b [] y.contents) i 0
      by z y here there true e =
          get_or_past z.bytes i 0 (let bytes : length z.bytes ≡ stored_size z = has_bytes t z here in let none : stored_size z ≡ 0 = ap (λ b. cond b 0 z.size) e in omega (arith, bytes, none))
      by z y here there false e = sym (content-stored z i e) ∙ stored z y (is.contents t z y here there)

  base_shows : IsShowing base n (reloc_at n)
  base_shows = record {
    whole = fine.built.bytes;
    format = refl;
    groups = refl;
    symbols = refl;
    frames = frames_stay n.groups n.sections ys;
    sizes = sizes_stay n.sections ys;
    relocs = λ t x. relocs_stay t x (reloc_at n t x) refl;
    fitting = λ t x r here. (stays_at t x r here).fitting;
    inside = λ t x r here.
        let z = there_at n.sections t (inside_of n fine t x r here) in
        let own : stored_at n.sections t ≡ stored_size z.0 = ap (λ (o : Option Section). option_map_or stored_size o 0) z.1 in
        let most = field_inside t x r z.0 here z.1 in
        let same = size_stays n.sections ys t in
        omega (arith, own, most, same);
    under = zeros_under;
    beside = bytes_beside;
    apart = λ t i j q r here there l. ends_by 0 (list_of n.relocs t) (fine.built.fields.apart t) (wide n fine t) i j q r here there l;
  }

  -- the fields of the file are the object's relocations
  fields_again : (s at : ℕ) → IsFree g c all (reloc_at n) s at ⊎ IsGiven g c all base (reloc_at n) s at
  fields_again s at = elim (is.fields s at) [
    | inl free ↦ inl free
    | inr given ↦ inr (record {
      field = given.field;
      reloc = given.reloc;
      here = given.here;
      there = given.there;
      is = record {
        width = given.is.width;
        check = given.is.check;
        base = given.is.base;
        less = given.is.less;
        hint = given.is.hint;
        target = given.is.target;
        residue = given.is.residue;
      };
    })
  ]

  again : Shows g c all n
  again = showing_shows g c all base n (reloc_at n) base_is base_shows fields_again

pub read_again_shows : ReadAgainShows
read_again_shows g c n fine is = again g c n fine is
