-- The bytes of a section in which the numbers of its fields are written, field by field.
use Rattle.std.proofs.Common.{◌≡◌, ℕ, ◌+◌, ◌<◌, ◌≤◌, false, nat_eq, List, [], ◌∷◌, length, map, set, get_or, Option, Some, None, refl, sym, ◌∙◌, ap, subst, arith}
use Rattle.std.specs.{Prelude.{slice_get}, List.{AllByRecursion}, Option.{option_map}}
use Rattle.std.proofs.lemmas.{List.{ext_get_or}, Option.{none-some, same_Some, get_or_from_slice_get}}
use Rattle.std.proofs.Math.Seq.{map-set_same}
use Rattle.oc_linking.specs.{declared.terms.Patch.{Patch}, Fits.{bytes_of}, Images.{overlay}, Shows.{Apart}}
use Rattle.oc_linking.proofs.{Overlay.{length-overlay}, Storing.{others_stay}}
use Rattle.oc_chains.specs.{declared.field.Field.{Field}, Fields.{end_of, FollowFrom}, Lists.{Lists, list_of}}
use Rattle.oc_neutral.specs.{declared.section.Section.{Section}, declared.reloc.Reloc.{Reloc}, Building.{with_number, written}}
use Rattle.oc_neutral.specs.{Constants.{EndsWithin, IsWide, LieWithin, with_contents}, Invariants.{IsObject}, Objects.{Object, reloc_among}}
use Rattle.oc_neutral.proofs.{ConstantObject.{within}, Partly.{partly, partly_all, partly_more, partly_next}, Positions.{images_same, lengths_same, there_at}}
use Rattle.oc_neutral.proofs.{SortedFields.{found_first, other_first, none_before}, Standing.{ends_by}}
use Rattle.oc_neutral.proofs.{WrittenBytes.{length-written}, WrittenFields.{field_step}}
use Rattle.oc_plans.specs.Numbered.{AreAll, Numbering, all_with_numbers, patch_by, patches_by, section_with_numbers, with_numbers}

module _ (number_of : ℕ → Reloc → ℕ) where
  -- a field with its number is that of a relocation at its offset
  patch_from : (fields : List (Field Reloc)) (at : ℕ) (q : Patch) → patches_by number_of fields at ≡ Some q → (r : Reloc) × (reloc_among fields at ≡ Some r) × (r.form.width ≡ q.width)
  patch_from fields at q here = by (reloc_among fields at) refl here
    where
      by : (o : Option Reloc) → reloc_among fields at ≡ o → option_map (patch_by (number_of at)) o ≡ Some q → (r : Reloc) × (reloc_among fields at ≡ Some r) × (r.form.width ≡ q.width)
      by None e h = absurd (none-some q h)
      by (Some r) e h = (r, e, ap (λ (z : Patch). z.width) (same_Some (patch_by (number_of at) r) q h))

  -- none begins within another
  patches_apart : (p : ℕ) (fields : List (Field Reloc)) → FollowFrom p fields → AllByRecursion IsWide fields → Apart (patches_by number_of fields)
  patches_apart p fields follow wide i j q r here there l =
      let a = patch_from fields i q here in
      let b = patch_from fields j r there in
      subst (λ k. i + bytes_of k ≤ j) a.2 (ends_by p fields follow wide i j a.0 b.0 a.1 b.1 l)

  -- none begins before the fields
  none_early : (p : ℕ) (fields : List (Field Reloc)) (at : ℕ) → FollowFrom p fields → at < p → patches_by number_of fields at ≡ None
  none_early p fields at follow l = ap (option_map (patch_by (number_of at))) (none_before p fields at follow l)

  -- where no field is left the bytes stay
  none_left : (bytes : List ℕ) → overlay (patches_by number_of []) 0 bytes ≡ bytes
  none_left bytes =
      ext_get_or 0 (overlay (patches_by number_of []) 0 bytes) bytes (length-overlay (patches_by number_of []) 0 bytes)
      (λ i l. others_stay (patches_by number_of []) bytes i (subst (λ m. i < m) (length-overlay (patches_by number_of []) 0 bytes) l) (λ at q here a b. none-some q here))

  module _ (x : Field Reloc) (rest : List (Field Reloc)) (thick : 1 ≤ x.width) (follow : FollowFrom (end_of x) rest) where
    -- the numbers of all fields, and of the rest
    abbrev all : ℕ → Option Patch
    all = patches_by number_of (x ∷ rest)

    abbrev left : ℕ → Option Patch
    left = patches_by number_of rest

    -- at another offset than the first
    others : (at : ℕ) → nat_eq x.at at ≡ false → all at ≡ left at
    others at other = ap (option_map (patch_by (number_of at))) (other_first x rest at other)

    -- the first is found
    here : all x.at ≡ Some (patch_by (number_of x.at) x.item)
    here = ap (option_map (patch_by (number_of x.at))) (found_first x rest)

    module _ (wide : x.width ≡ bytes_of x.item.form.width) (more : AllByRecursion IsWide rest) (bytes : List ℕ) (inside : end_of x ≤ length bytes) where
      -- the number
      abbrev number : ℕ
      number = number_of x.at x.item

      apart : Apart all
      apart = patches_apart x.at (x ∷ rest) (omega arith, thick, follow) (wide, more)

      -- a number that is written is done
      write_step : overlay all 0 bytes ≡ overlay left 0 (written x.width number x.at bytes)
      write_step = field_step all left apart x.at x.width (patch_by (number_of x.at) x.item) here thick wide others (λ at l. none_early (end_of x) rest at follow l) bytes inside

  -- a section in which a number is written, and one in which all are
  section_step : (x : Field Reloc) (rest : List (Field Reloc)) → 1 ≤ x.width → FollowFrom (end_of x) rest → IsWide x → AllByRecursion IsWide rest → (s : Section) → end_of x ≤ length s.bytes
      → with_numbers number_of rest (with_number x.width (number_of x.at x.item) x.at s) ≡ with_numbers number_of (x ∷ rest) s
  section_step x rest thick follow wide more s inside = ap (λ bytes. with_contents bytes s) (sym (write_step x rest thick follow wide more s.bytes inside))

  section_done : (s : Section) → with_numbers number_of [] s ≡ s
  section_done s = ap (λ bytes. with_contents bytes s) (none_left s.bytes)

-- fields follow one another in so many bytes
pub record HaveRoom (size : ℕ) (left : List (Field Reloc)) : Type 0 where
  pub place : ℕ
  pub apart : FollowFrom place left
  pub wide : AllByRecursion IsWide left
  pub inside : AllByRecursion (EndsWithin size) left

-- the next field has room, and so have those behind it
pub room_next : (size : ℕ) (left : List (Field Reloc)) (x : Field Reloc) (rest : List (Field Reloc)) → left ≡ x ∷ rest → HaveRoom size left → x.at + x.width ≤ size
room_next size left x rest step room = (subst (AllByRecursion (EndsWithin size)) step room.inside).0

room_more : (size after : ℕ) (left : List (Field Reloc)) (x : Field Reloc) (rest : List (Field Reloc)) → left ≡ x ∷ rest → after ≡ size → HaveRoom size left → HaveRoom after rest
room_more size after left x rest step same room = record {
  place = end_of x;
  apart = (subst (FollowFrom room.place) step room.apart).2;
  wide = (subst (AllByRecursion IsWide) step room.wide).1;
  inside = subst (λ m. AllByRecursion (EndsWithin m) rest) (sym same) (subst (AllByRecursion (EndsWithin size)) step room.inside).1;
}

-- a number that is written is one less to write
same_more : (number_of : ℕ → Reloc → ℕ) (left : List (Field Reloc)) (x : Field Reloc) (rest : List (Field Reloc)) (now after whole : Section) (number : ℕ) → left ≡ x ∷ rest → HaveRoom (length now.bytes) left
    → number ≡ number_of x.at x.item → after ≡ with_number x.width number x.at now → with_numbers number_of left now ≡ whole → with_numbers number_of rest after ≡ whole
same_more number_of left x rest now after whole value step room told becomes same =
    let apart : FollowFrom room.place (x ∷ rest) = subst (FollowFrom room.place) step room.apart in
    let wide : AllByRecursion IsWide (x ∷ rest) = subst (AllByRecursion IsWide) step room.wide in
    let inside : AllByRecursion (EndsWithin (length now.bytes)) (x ∷ rest) = subst (AllByRecursion (EndsWithin (length now.bytes))) step room.inside in
    ap (with_numbers number_of rest) (becomes ∙ ap (λ m. with_number x.width m x.at now) told)
    ∙ section_step number_of x rest apart.1 apart.2 wide.0 wide.1 now inside.0
    ∙ ap (λ xs. with_numbers number_of xs now) (sym step)
    ∙ same

-- ... the loop over the fields of a section

-- the numbers of these fields are written in a section, but for those that are left
pub record IsWriting (Tells : Numbering → Type 0) (Knows : ℕ → Reloc → Type 0) (position : ℕ) (all : List (Field Reloc)) (old : Section) (left : List (Field Reloc)) (now : Section) : Type 0 where
  pub long : length now.bytes ≡ length old.bytes
  pub room : HaveRoom (length now.bytes) left
  pub there : AreAll Knows left
  pub same : (number_of : Numbering) → Tells number_of → with_numbers (number_of position) left now ≡ with_numbers (number_of position) all old

module _ (Tells : Numbering → Type 0) (Knows : ℕ → Reloc → Type 0) (position : ℕ) (all : List (Field Reloc)) (old : Section) where
  -- the number of the next is known
  pub writing_there : (left : List (Field Reloc)) (y : Field Reloc) (rest : List (Field Reloc)) (now : Section) → left ≡ y ∷ rest → IsWriting Tells Knows position all old left now → Knows y.at y.item
  writing_there left y rest now step is = (subst (AreAll Knows) step is.there).0

  pub writing_more : (left : List (Field Reloc)) (y : Field Reloc) (rest : List (Field Reloc)) (now : Section) → left ≡ y ∷ rest → IsWriting Tells Knows position all old left now
      → (number : ℕ) → ((number_of : Numbering) → Tells number_of → number ≡ number_of position y.at y.item) → (after : Section) → after ≡ with_number y.width number y.at now
      → IsWriting Tells Knows position all old rest after
  writing_more left y rest now step is number told after becomes =
      let long : length after.bytes ≡ length now.bytes = ap (λ (s : Section). length s.bytes) becomes ∙ length-written y.width number y.at now.bytes in
      record {
        long = long ∙ is.long;
        room = room_more (length now.bytes) (length after.bytes) left y rest step long is.room;
        there = (subst (AreAll Knows) step is.there).1;
        same = λ number_of tells. same_more (number_of position) left y rest now after (with_numbers (number_of position) all old) number step is.room (told number_of tells) becomes (is.same number_of tells);
      }

  -- behind the last all are written
  pub writing_done : (left : List (Field Reloc)) (now : Section) → left ≡ [] → IsWriting Tells Knows position all old left now → (number_of : Numbering) → Tells number_of → now ≡ with_numbers (number_of position) all old
  writing_done left now none is number_of tells = sym (section_done (number_of position) now) ∙ ap (λ xs. with_numbers (number_of position) xs now) (sym none) ∙ is.same number_of tells

-- ... the loop over all sections

-- how many bytes sections have
abbrev pub sizes : List Section → List ℕ
sizes sections = map (λ (s : Section). length s.bytes) sections

-- the first k sections are done
pub record AreWriting (Tells : Numbering → Type 0) (lists : Lists Reloc) (old : List Section) (k : ℕ) (now : List Section) : Type 0 where
  pub sized : sizes now ≡ sizes old
  pub same : (number_of : Numbering) → Tells number_of → now ≡ partly (section_with_numbers number_of lists) 0 k old

module _ (Tells : Numbering → Type 0) (lists : Lists Reloc) (old : List Section) (within : LieWithin old lists) (k : ℕ) (inside : k < length lists) (now : List Section) (is : AreWriting Tells lists old k now) where
  -- the next section, as it was
  next : (s : Section) × (slice_get old k ≡ Some s)
  next = there_at old k (let e = within.counted in omega (arith, e, inside))

  as_many : length now ≡ length old
  as_many = lengths_same (λ (s : Section). length s.bytes) (λ (s : Section). length s.bytes) now old is.sized

  -- is there, and has as many bytes
  pub inside_now : k < length now
  inside_now = let e = within.counted in let m = as_many in omega (arith, e, m, inside)

  pub inside_next : (d : Section) → AllByRecursion (EndsWithin (length (get_or now k d).bytes)) (list_of lists k)
  inside_next d =
      let s = there_at now k inside_now in
      let here : get_or now k d ≡ s.0 = get_or_from_slice_get now k s.0 d s.1 in
      let same : length next.0.bytes ≡ length s.0.bytes = sym (images_same (λ (s : Section). length s.bytes) (λ (s : Section). length s.bytes) now old is.sized k s.0 next.0 s.1 next.1) in
      subst (λ m. AllByRecursion (EndsWithin m) (list_of lists k)) (same ∙ ap (λ (z : Section). length z.bytes) (sym here)) (within.inside k next.0 next.1)

  section_next : (f : ℕ × Section → Section) (d : Section) → now ≡ partly f 0 k old → get_or now k d ≡ next.0
  section_next f d same = ap (λ (xs : List Section). get_or xs k d) same ∙ get_or_from_slice_get (partly f 0 k old) k next.0 d (partly_next f 0 k old ∙ next.1)

  -- then it is done
  pub section_more : (d y : Section) → length y.bytes ≡ length (get_or now k d).bytes → ((number_of : Numbering) → Tells number_of → y ≡ with_numbers (number_of k) (list_of lists k) (get_or now k d))
      → AreWriting Tells lists old (k + 1) (set now k y)
  section_more d y long numbers = record {
    sized = map-set_same (λ (s : Section). length s.bytes) now k y d long ∙ is.sized;
    same = λ number_of tells.
        let f = section_with_numbers number_of lists in
        let same = is.same number_of tells in
        ap (λ (xs : List Section). set xs k y) same
        ∙ ap (set (partly f 0 k old) k) (numbers number_of tells ∙ ap (with_numbers (number_of k) (list_of lists k)) (section_next f d same))
        ∙ partly_more f k old next.0 next.1;
  }

-- all are done
pub sections_done : (Tells : Numbering → Type 0) (lists : Lists Reloc) (old now : List Section) (k : ℕ) → length old ≤ k → AreWriting Tells lists old k now
    → (number_of : Numbering) → Tells number_of → now ≡ all_with_numbers number_of lists old
sections_done Tells lists old now k past is number_of tells = is.same number_of tells ∙ partly_all (section_with_numbers number_of lists) 0 k old past

pub sections_long : (Tells : Numbering → Type 0) (lists : Lists Reloc) (old now : List Section) (k : ℕ) → AreWriting Tells lists old k now → length now ≡ length old
sections_long Tells lists old now k is = lengths_same (λ (s : Section). length s.bytes) (λ (s : Section). length s.bytes) now old is.sized

-- ... the parts of an object

-- the fields of an object lie in the bytes of its sections
pub parts_within : (n : Object) → IsObject n → (sections : List Section) (lists : Lists Reloc) → sections ≡ n.sections → lists ≡ n.relocs → LieWithin sections lists
parts_within n is sections lists a b = subst (λ (xs : List Section). LieWithin xs lists) (sym a) (subst (λ (ls : Lists Reloc). LieWithin n.sections ls) (sym b) (within n.format n is))

-- the numbers of its relocations are in them
pub parts_numbered : (n : Object) (number_of : Numbering) (sections : List Section) (lists : Lists Reloc) → sections ≡ n.sections → lists ≡ n.relocs
    → all_with_numbers number_of lists sections ≡ all_with_numbers number_of n.relocs n.sections
parts_numbered n number_of sections lists a b = ap (λ (xs : List Section). all_with_numbers number_of lists xs) a ∙ ap (λ (ls : Lists Reloc). all_with_numbers number_of ls n.sections) b
