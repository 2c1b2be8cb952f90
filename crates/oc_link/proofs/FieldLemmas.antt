-- The fields of an object, found and filled.
use Rattle.std.proofs.Common.{◌≡◌, ℕ, ◌≤◌, Bool, true, false, cond, List, [], ◌∷◌, length, map, get_or, replicate, Option, Some, None, refl, sym, ◌∙◌, ap, subst, arith}
use mathlib.Core.Path.{fun_ext}
use Rattle.std.specs.{Prelude.{slice_get}, List.{AllByRecursion}, Option.{option_map, option_map_or, unwrap_or}}
use Rattle.std.proofs.lemmas.Option.{get_or_from_slice_get, slice_get-map}
use Rattle.oc_base.specs.Formats.{word_for}
use Rattle.oc_linking.specs.{declared.terms.Patch.{Patch}, Images.{first_at, overflows, overlay, passes_at}, Linking.{patch_of}}
use Rattle.oc_chains.specs.{declared.field.Field.{Field}, Fields.{FollowFrom, end_of}, Lists.{list_of}}
use Rattle.oc_neutral.specs.{declared.section.Section.{Section}, declared.reloc.Reloc.{Reloc}, Objects.{Object, reloc_at}, Building.{is_zero, written}}
use Rattle.oc_neutral.specs.{Constants.{IsWide}, Faces.{contents_of, field_of}, Invariants.{HasItsBytes, IsHeld, IsNormal, IsObject, NamesOriginal}}
use Rattle.oc_neutral.proofs.{Positions.{each_at, each_weaker}, WrittenBytes.{length-written}}
use Rattle.oc_place.specs.Placings.{Placing}
use Rattle.oc_link.specs.Values.{bytes_of, contents, first_in, first_of, laid, overflows_at, patch_at, patches, value_at, valued}
use Rattle.oc_link.proofs.{FillLemmas.{filled, none_filled, write_step}, ScanLemmas.{among, emptied_at, scan}}

-- a field of a section is in normal form, and names no alias
pub record IsFound (n : Object) (s : ℕ) (f : Field Reloc) : Type 0 where
  pub normal : IsNormal n s f.item
  pub original : NamesOriginal n.symbols f.item.target

module _ (n : Object) (fine : IsObject n) (s : ℕ) (y : Section) (here : slice_get n.sections s ≡ Some y) where
  -- the fields of a section
  abbrev fields : List (Field Reloc)
  fields = list_of n.relocs s

  held : AllByRecursion (IsHeld n s y.bytes) fields
  held = fine.built.fields.each s y here

  pub all_found : AllByRecursion (IsFound n s) fields
  all_found = both fields held (fine.complete.originals s)
    where
      both : (xs : List (Field Reloc)) → AllByRecursion (IsHeld n s y.bytes) xs → AllByRecursion (λ (f : Field Reloc). NamesOriginal n.symbols f.item.target) xs → AllByRecursion (IsFound n s) xs
      both [] a b = tt
      both (f ∷ xs) a b = (record { normal = a.0.normal; original = b.0 }, both xs a.1 b.1)

  -- the section has at least the bytes that are stored
  long_enough : length y.bytes ≤ length (contents_of y)
  long_enough = by (is_zero y.kind) refl
    where
      has : length y.bytes ≡ cond (is_zero y.kind) 0 y.size
      has = each_at HasItsBytes n.sections s y fine.built.bytes here

      by : (b : Bool) → is_zero y.kind ≡ b → length y.bytes ≤ length (cond b (replicate y.size 0) y.bytes)
      by true e = let none : length y.bytes ≡ 0 = has ∙ ap (λ c. cond c 0 y.size) e in omega (arith, none)
      by false e = omega arith

  ends : AllByRecursion (λ (f : Field Reloc). end_of f ≤ length (contents_of y)) fields
  ends = each_weaker (IsHeld n s y.bytes) (λ (f : Field Reloc). end_of f ≤ length (contents_of y)) (λ f is. let a = is.inside in let b = long_enough in omega (arith, a, b)) fields held

  module _ (x : Placing) where
    -- whether the field at an offset overflows
    hits : (at : ℕ) → passes_at (overflows (word_for n.format)) (patches n x s) at ≡ among (overflows_at n x s) (λ at. false) fields at
    hits at = by (reloc_at n s at)
      where
        by : (o : Option Reloc) → unwrap_or (option_map (overflows (word_for n.format)) (option_map (patch_of (laid n x) (valued n x)) (option_map (field_of n s at) o))) false
            ≡ option_map_or (overflows_at n x s at) o false
        by None = refl
        by (Some r) = refl

    -- the first field that overflows, where the section is not discarded
    pub first_is : (laid n x).discarded s ≡ false → first_of (overflows_at n x s) fields ≡ first_in n x s
    first_is keeps =
        let c : List ℕ = contents_of y in
        let at : slice_get (map contents_of n.sections) s ≡ Some c = slice_get-map contents_of n.sections s ∙ ap (option_map contents_of) here in
        let got : get_or (contents n x) s [] ≡ c = get_or_from_slice_get (contents n x) s (cond ((laid n x).discarded s) [] c) [] (emptied_at (laid n x).discarded 0 s s (map contents_of n.sections) c (omega arith) at)
        ∙ ap (λ b. cond b [] c) keeps in
        sym (scan (overflows_at n x s) (passes_at (overflows (word_for n.format)) (patches n x s)) 0 (length c) (length c) fields (omega arith) (fine.built.fields.apart s) ends (λ i l. hits i))
        ∙ ap (λ (b : List ℕ). first_at (overflows (word_for n.format)) (patches n x s) (length b)) (sym got)

    -- one that is discarded has none
    pub none_in : (laid n x).discarded s ≡ true → None ≡ first_in n x s
    none_in gone =
        let c : List ℕ = contents_of y in
        let at : slice_get (map contents_of n.sections) s ≡ Some c = slice_get-map contents_of n.sections s ∙ ap (option_map contents_of) here in
        let got : get_or (contents n x) s [] ≡ [] = get_or_from_slice_get (contents n x) s (cond ((laid n x).discarded s) [] c) [] (emptied_at (laid n x).discarded 0 s s (map contents_of n.sections) c (omega arith) at)
        ∙ ap (λ b. cond b [] c) gone in
        sym (ap (λ (b : List ℕ). first_at (overflows (word_for n.format)) (patches n x s) (length b)) got)

-- with the fields that are left the bytes have all
pub record IsFilling (n : Object) (x : Placing) (s : ℕ) (bytes : List ℕ) (left : List (Field Reloc)) : Type 0 where
  pub same : overlay (filled (value_at n x s) left) 0 bytes ≡ overlay (patches n x s) 0 (bytes_of n s)
  pub follow : (p : ℕ) × FollowFrom p left
  pub found : AllByRecursion (IsFound n s) left
  pub wide : AllByRecursion IsWide left
  pub inside : AllByRecursion (λ (f : Field Reloc). end_of f ≤ length bytes) left

-- at first
pub fill_start : (n : Object) (fine : IsObject n) (x : Placing) (s : ℕ) (y : Section) → slice_get n.sections s ≡ Some y → IsFilling n x s y.bytes (list_of n.relocs s)
fill_start n fine x s y here = record {
  same = ap (λ (o : ℕ → Option Patch). overlay o 0 y.bytes) (fun_ext (λ at. by at (reloc_at n s at))) ∙ ap (overlay (patches n x s) 0) (sym (ap (λ o. option_map_or (λ (z : Section). z.bytes) o []) here));
  follow = (0, fine.built.fields.apart s);
  found = all_found n fine s y here;
  wide = each_weaker (IsHeld n s y.bytes) IsWide (λ f is. is.width) (list_of n.relocs s) (held n fine s y here);
  inside = each_weaker (IsHeld n s y.bytes) (λ (f : Field Reloc). end_of f ≤ length y.bytes) (λ f is. is.inside) (list_of n.relocs s) (held n fine s y here);
}
  where
    by : (at : ℕ) (o : Option Reloc)
        → option_map (patch_at n x s at) o
        ≡ option_map (patch_of (laid n x) (valued n x)) (option_map (field_of n s at) o)
    by at None = refl
    by at (Some r) = refl

-- a field more
pub fill_more : (n : Object) (x : Placing) (s : ℕ) (bytes : List ℕ) (f : Field Reloc) (left : List (Field Reloc)) (number : ℕ) (after : List ℕ) → IsFilling n x s bytes (f ∷ left)
    → number ≡ value_at n x s f.at f.item → after ≡ written f.width number f.at bytes → IsFilling n x s after left
fill_more n x s bytes f left number after is same becomes =
    let done : after ≡ written f.width (value_at n x s f.at f.item) f.at bytes = becomes ∙ ap (λ k. written f.width k f.at bytes) same in
    subst (λ (b : List ℕ). IsFilling n x s b left) (sym done) (record {
      same = sym (write_step (value_at n x s) f left is.follow.1.1 is.follow.1.2 is.wide.0 is.wide.1 bytes is.inside.0) ∙ is.same;
      follow = (end_of f, is.follow.1.2);
      found = is.found.1;
      wide = is.wide.1;
      inside = each_weaker (λ (g : Field Reloc). end_of g ≤ length bytes) (λ (g : Field Reloc). end_of g ≤ length (written f.width (value_at n x s f.at f.item) f.at bytes))
          (λ g l. let e = length-written f.width (value_at n x s f.at f.item) f.at bytes in omega (arith, l, e)) left is.inside.1;
    })

-- none is left
pub fill_end : (n : Object) (x : Placing) (s : ℕ) (bytes : List ℕ) (left : List (Field Reloc)) → IsFilling n x s bytes left → left ≡ [] → bytes ≡ overlay (patches n x s) 0 (bytes_of n s)
fill_end n x s bytes left is none = sym (none_filled (value_at n x s) bytes) ∙ ap (λ xs. overlay (filled (value_at n x s) xs) 0 bytes) (sym none) ∙ is.same
