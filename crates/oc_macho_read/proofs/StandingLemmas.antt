-- The fields of a file without faults, each with the relocation that is given for it.
use Rattle.std.proofs.Common.{Bool, List, None, Option, Some, [], ap, arith, cond, eq-eqb, false, filter, inl, inr, length, nat_eq, nat_lt, refl, slice_get, subst, suc, sym, true, true≢false, zero, ℕ, ◌&&◌, ◌+◌, ◌<◌, ◌^◌, ◌||◌, ◌∙◌, ◌∷◌, ◌≡◌, ◌≢◌, ◌≤◌, ◌⊎◌}
use Rattle.std.proofs.lemmas.{Bool.Decides.{nat_tests}, Bool.{cases_eq, cases_lt, eqb-true}, Option.{none-some, same_Some, slice_get-map}}
use Rattle.std.specs.{List.{list_any}, Option.{option_and_then, option_map, option_map_or, unwrap_or}}
use Rattle.oc_base.specs.declared.format.Word.{Word}
use Rattle.oc_linking.proofs.{FirstFaultLaws.{first_upto_none}, Upto.{first_upto_from}}
use Rattle.oc_linking.specs.{FirstFault.{first_fault}, Fits.{bytes_of}, Keeping.{keeps}, Rules.{Field}, declared.terms.Keep.{Keep}}
use Rattle.oc_macho.specs.Entries.{is_pinned, is_taken_in, item_at, taken_entry, taken_reference, takes_symbol}
use Rattle.oc_macho.specs.{Fields.{FieldParts, field_of, fields_in, field_parts_by, item_for, number_of}, Rules.{mach_dialect}}
use Rattle.oc_macho.specs.{Sections.{is_kept, section_of, sections_in}, Tables.{SectionTable, Tables, tables_of}, declared.entries.Item.{Item}}
use Rattle.oc_macho.specs.declared.relocation_info.RelocationInfo.{RelocationInfo}
use Rattle.oc_macho_read.proofs.{FieldLemmas.{item_field}, ItemLemmas.{IsGoodItem, found_as, found_is, good_item, items_apart, row_width}}
use Rattle.oc_macho_read.proofs.SectionedLemmas.{at_most, section_there}
use Rattle.oc_macho_read.specs.Given.{given_at, reloc_as, reloc_by}
use Rattle.oc_shows.specs.Built.{AreApart, AreOfFile, IsField, IsFree, IsGiven}
use Rattle.oc_neutral.specs.{Dialects.{kept_fields}, Faces.{shown_symbols}, Objects.{Object}, declared.reloc.Reloc.{Reloc}}
use Rattle.oc_shelf.proofs.ReadingLaws.FirstsLemmas.{any_true}
use Rattle.oc_linking.specs.Parts as parts
use Rattle.oc_macho.specs.RelocationFaults as faults
use Rattle.oc_macho.specs.declared.relocation_info.Reference.TheVariants as reference
use Rattle.oc_neutral.specs.Dialects as dialects

-- ... pins

any_kept : {X : Type 0} (p q : X → Bool) (xs : List X) (i : ℕ) (x : X) → slice_get xs i ≡ Some x → p x ≡ true → q x ≡ true → list_any q (filter p xs) ≡ true
any_kept p q [] i x here kept is = absurd (none-some x here)
any_kept {X} p q (y ∷ xs) zero x here kept is =
    let same = same_Some y x here in
    ap (λ (b : Bool). list_any q (cond b (y ∷ filter p xs) (filter p xs))) (ap p same ∙ kept) ∙ ap (λ (b : Bool). b || list_any q (filter p xs)) (ap q same ∙ is)
any_kept p q (y ∷ xs) (suc i) x here kept is = by (p y) (any_kept p q xs i x here kept is)
  where
    right : (b : Bool) → (b || true) ≡ true
    right b = grind arith

    by : (b : Bool) → list_any q (filter p xs) ≡ true → list_any q (cond b (y ∷ filter p xs) (filter p xs)) ≡ true
    by b e = grind arith

-- the symbol that a field of a kept section takes is pinned
pub pinned_by : (t : Tables) (keep : Keep) (i : ℕ) (x : SectionTable) (k : ℕ) (item : Item) → slice_get t.sections i ≡ Some x → is_kept keep x ≡ true → k < length x.relocs → item_at t.word x.relocs k ≡ Some item
    → (j : ℕ) → taken_reference t.word item ≡ Some (reference.Symbol j) → is_pinned t keep j ≡ true
unfolding is_pinned
pinned_by t keep i x k item here kept low is j taken =
    any_kept (is_kept keep) (is_taken_in t.word j) t.sections i x here kept
    (any_true (λ k. option_map_or (takes_symbol t.word j) (item_at t.word x.relocs k) false) (length x.relocs) k low
    (ap (λ (o : Option Item). option_map_or (takes_symbol t.word j) o false) is ∙ by (taken_entry t.word item) refl taken))
  where
    by : (o : Option RelocationInfo) → taken_entry t.word item ≡ o → option_map (λ (e : RelocationInfo). e.refers) o ≡ Some (reference.Symbol j) → takes_symbol t.word j item ≡ true
    by o g h = grind arith

-- ... what stands at an offset

-- the field that begins at an offset begins with an entry
pub record IsItemAt (t : Tables) (c : SectionTable) (at : ℕ) (item : Item) : Type 0 where
  pub k : ℕ
  pub low : k < length c.relocs
  pub is : item_at t.word c.relocs k ≡ Some item
  pub offset : item.first.r_address ≡ at

pub item_found : (t : Tables) (c : SectionTable) (at : ℕ) (item : Item) → item_for t c at ≡ Some item → IsItemAt t c at item
unfolding item_for
item_found t c at item e =
    let m = first_upto_from (λ k. option_and_then (λ (i : Item). cond (nat_eq i.first.r_address at) (Some i) None) (item_at t.word c.relocs k)) (length c.relocs) item e in
    by m.0 m.1 (item_at t.word c.relocs m.0) refl m.2
  where
    by : (k : ℕ) → k < length c.relocs → (o : Option Item) → item_at t.word c.relocs k ≡ o → option_and_then (λ (i : Item). cond (nat_eq i.first.r_address at) (Some i) None) o ≡ Some item → IsItemAt t c at item
    by k low None g h = absurd (none-some item h)
    by k low (Some x) g h = of (nat_eq x.first.r_address at) refl h
      where
        of : (b : Bool) → nat_eq x.first.r_address at ≡ b → cond b (Some x) None ≡ Some item → IsItemAt t c at item
        of false f h = absurd (none-some item h)
        of true f h =
            let same = same_Some x item h in
            record { k = k; low = low; is = g ∙ ap (λ (i : Item). Some i) same; offset = sym (ap (λ (i : Item). i.first.r_address) same) ∙ eqb-true x.first.r_address at f }

-- where no field begins at an offset, none of the entries is one
pub item_none : (t : Tables) (c : SectionTable) (at k : ℕ) (item : Item) → item_for t c at ≡ None → k < length c.relocs → item_at t.word c.relocs k ≡ Some item → item.first.r_address ≡ at → ⊥
unfolding item_for
item_none t c at k item none low is offset =
    none-some item
    (sym (first_upto_none (λ k. option_and_then (λ (i : Item). cond (nat_eq i.first.r_address at) (Some i) None) (item_at t.word c.relocs k)) (length c.relocs) none k low)
    ∙ ap (option_and_then (λ (i : Item). cond (nat_eq i.first.r_address at) (Some i) None)) is ∙ ap (λ b. cond b (Some item) None) (eq-eqb item.first.r_address at offset))

-- a section is kept where its kind is
flag : (w : Word) (b : List ℕ) (keep : Keep) (s : ℕ) (c : SectionTable) → slice_get (tables_of w b).sections s ≡ Some c → dialects.is_kept (mach_dialect w) b keep s ≡ is_kept keep c
unfolding section_of
flag w b keep s c here =
    ap (λ (o : Option Bool). unwrap_or o true)
    (slice_get-map (λ (x : parts.Section). keeps keep x.kind) (sections_in (tables_of w b)) s
    ∙ ap (option_map (λ (x : parts.Section). keeps keep x.kind)) (section_there (tables_of w b) s c here))

module _ (w : Word) (b : List ℕ) (keep : Keep) (n : Object) (shown : shown_symbols n ≡ (mach_dialect w).rules.symbols b keep) (clean : first_fault (faults.relocation_stages (tables_of w b) keep) ≡ None) where
  abbrev t : Tables
  t = tables_of w b

  -- a field stands at an offset of section s, and a relocation is given for it
  pub record IsStanding (s at : ℕ) : Type 0 where
    pub c : SectionTable
    pub there : slice_get t.sections s ≡ Some c
    pub kept : is_kept keep c ≡ true
    pub item : Item
    pub begun : IsItemAt t c at item
    pub good : IsGoodItem t s c begun.k item
    pub field_is : kept_fields (mach_dialect w) b keep s at ≡ Some (field_of t s at c (found_as t s c begun.k item good))
    pub given_is : given_at t keep s at ≡ Some (reloc_as t keep s at (number_of c at (found_as t s c begun.k item good)) item (found_as t s c begun.k item good))

  abbrev Either : ℕ → ℕ → Type 0
  Either s at = IsFree (mach_dialect w) b keep (given_at t keep) s at ⊎ IsStanding s at

  pub either : (s at : ℕ) → Either s at
  unfolding fields_in given_at reloc_by
  either s at = by (slice_get t.sections s) refl
    where
      none : (k : Bool) → {X : Type 0} → cond {A = Option X} k None None ≡ None
      none k = grind arith

      field_by : (c : SectionTable) → slice_get t.sections s ≡ Some c → kept_fields (mach_dialect w) b keep s at ≡ cond (is_kept keep c) (option_map (field_of t s at c) (option_and_then (field_parts_by t) (item_for t c at))) None
      field_by c g =
          ap (λ k. cond k (option_and_then (λ (c : SectionTable). option_map (field_of t s at c) (option_and_then (field_parts_by t) (item_for t c at))) (slice_get t.sections s)) None) (flag w b keep s c g)
          ∙ ap (λ (o : Option SectionTable). cond (is_kept keep c) (option_and_then (λ (c : SectionTable). option_map (field_of t s at c) (option_and_then (field_parts_by t) (item_for t c at))) o) None) g

      given_by : (c : SectionTable) → slice_get t.sections s ≡ Some c → given_at t keep s at ≡ cond (is_kept keep c) (option_and_then (reloc_by t keep s c) (item_for t c at)) None
      given_by c g = ap (option_and_then (λ (c : SectionTable). cond (is_kept keep c) (option_and_then (reloc_by t keep s c) (item_for t c at)) None)) g

      by : (o : Option SectionTable) → slice_get t.sections s ≡ o → Either s at
      by None g = inl (record {
        field = ap (λ (o : Option SectionTable). cond (dialects.is_kept (mach_dialect w) b keep s) (option_and_then (λ (c : SectionTable). option_map (field_of t s at c) (option_and_then (field_parts_by t) (item_for t c at))) o) None) g
            ∙ none (dialects.is_kept (mach_dialect w) b keep s);
        none = ap (option_and_then (λ (c : SectionTable). cond (is_kept keep c) (option_and_then (reloc_by t keep s c) (item_for t c at)) None)) g;
      })
      by (Some c) g = kept (is_kept keep c) refl
        where
          kept : (k : Bool) → is_kept keep c ≡ k → Either s at
          kept false h = inl (record {
            field = field_by c g ∙ ap (λ k. cond k (option_map (field_of t s at c) (option_and_then (field_parts_by t) (item_for t c at))) None) h;
            none = given_by c g ∙ ap (λ k. cond k (option_and_then (reloc_by t keep s c) (item_for t c at)) None) h;
          })
          kept true h = found (item_for t c at) refl
            where
              field_then : kept_fields (mach_dialect w) b keep s at ≡ option_map (field_of t s at c) (option_and_then (field_parts_by t) (item_for t c at))
              field_then = field_by c g ∙ ap (λ k. cond k (option_map (field_of t s at c) (option_and_then (field_parts_by t) (item_for t c at))) None) h

              given_then : given_at t keep s at ≡ option_and_then (reloc_by t keep s c) (item_for t c at)
              given_then = given_by c g ∙ ap (λ k. cond k (option_and_then (reloc_by t keep s c) (item_for t c at)) None) h

              found : (o : Option Item) → item_for t c at ≡ o → Either s at
              found None i = inl (record {
                field = field_then ∙ ap (λ (o : Option Item). option_map (field_of t s at c) (option_and_then (field_parts_by t) o)) i;
                none = given_then ∙ ap (option_and_then (reloc_by t keep s c)) i;
              })
              found (Some item) i =
                  let m : IsItemAt t c at item = item_found t c at item i in
                  let good : IsGoodItem t s c m.k item = good_item t keep clean s c g h m.k item m.low m.is in
                  let x : FieldParts = found_as t s c m.k item good in
                  let is = found_is t s c m.k item good in
                  inr (record {
                    c = c;
                    there = g;
                    kept = h;
                    item = item;
                    begun = m;
                    good = good;
                    field_is = field_then ∙ ap (λ (o : Option Item). option_map (field_of t s at c) (option_and_then (field_parts_by t) o)) i ∙ ap (option_map (field_of t s at c)) is;
                    given_is = given_then ∙ ap (option_and_then (reloc_by t keep s c)) i
                        ∙ ap (option_map (λ (x : FieldParts). reloc_as t keep s item.first.r_address (number_of c item.first.r_address x) item x)) is
                        ∙ ap (λ (q : ℕ). Some (reloc_as t keep s q (number_of c q x) item x)) m.offset;
                  })

  -- what is given is the field
  pub standing_field : (s at : ℕ) (m : IsStanding s at)
      → IsField (mach_dialect w) b keep n s at (reloc_as t keep s at (number_of m.c at (found_as t s m.c m.begun.k m.item m.good)) m.item (found_as t s m.c m.begun.k m.item m.good))
      (field_of t s at m.c (found_as t s m.c m.begun.k m.item m.good))
  unfolding field_of
  standing_field s at m =
      item_field w b keep n shown s m.c m.begun.k m.item m.good m.begun.is (pinned_by t keep s m.c m.begun.k m.item m.there m.kept m.begun.low m.begun.is) at
      (number_of m.c at (found_as t s m.c m.begun.k m.item m.good))

  -- each offset is free, or its field is given
  pub free_or_given : (s at : ℕ) → IsFree (mach_dialect w) b keep (given_at t keep) s at ⊎ IsGiven (mach_dialect w) b keep n (given_at t keep) s at
  free_or_given s at = by (either s at)
    where
      by : Either s at → IsFree (mach_dialect w) b keep (given_at t keep) s at ⊎ IsGiven (mach_dialect w) b keep n (given_at t keep) s at
      by (inl free) = inl free
      by (inr m) = inr (record {
        field = field_of t s at m.c (found_as t s m.c m.begun.k m.item m.good);
        reloc = reloc_as t keep s at (number_of m.c at (found_as t s m.c m.begun.k m.item m.good)) m.item (found_as t s m.c m.begun.k m.item m.good);
        here = m.field_is;
        there = m.given_is;
        is = standing_field s at m;
      })

  -- what is given stands there
  pub given_standing : (s at : ℕ) (r : Reloc) → given_at t keep s at ≡ Some r → IsStanding s at
  given_standing s at r e = by (either s at)
    where
      by : Either s at → IsStanding s at
      by x = grind arith

  pub field_standing : (s at : ℕ) (x : Field) → kept_fields (mach_dialect w) b keep s at ≡ Some x → IsStanding s at
  field_standing s at x e = by (either s at)
    where
      by : Either s at → IsStanding s at
      by x = grind arith

  -- the relocation, by its row
  pub given_same : (s at : ℕ) (r : Reloc) (e : given_at t keep s at ≡ Some r) (m : IsStanding s at) → reloc_as t keep s at (number_of m.c at (found_as t s m.c m.begun.k m.item m.good)) m.item (found_as t s m.c m.begun.k m.item m.good) ≡ r
  given_same s at r e m = same_Some (reloc_as t keep s at (number_of m.c at (found_as t s m.c m.begun.k m.item m.good)) m.item (found_as t s m.c m.begun.k m.item m.good)) r (sym m.given_is ∙ e)

  pub are_of_file : AreOfFile (mach_dialect w) b keep n (given_at t keep)
  are_of_file s at r e =
      let m = given_standing s at r e in (
        field_of t s at m.c (found_as t s m.c m.begun.k m.item m.good),
        m.field_is,
        subst (λ (q : Reloc). IsField (mach_dialect w) b keep n s at q (field_of t s at m.c (found_as t s m.c m.begun.k m.item m.good))) (given_same s at r e m) (standing_field s at m),
      )

  -- ... apart

  -- two fields of a section do not meet
  pub spans_apart : (s i j : ℕ) (a : IsStanding s i) (d : IsStanding s j) → i < j → i + 2 ^ a.item.first.r_length ≤ j
  spans_apart s i j a d less =
      let one : d.c ≡ a.c = same_Some d.c a.c (sym d.there ∙ a.there) in
      let here : item_at t.word a.c.relocs d.begun.k ≡ Some d.item = subst (λ (c : SectionTable). item_at t.word c.relocs d.begun.k ≡ Some d.item) one d.begun.is in
      let good : IsGoodItem t s a.c d.begun.k d.item = subst (λ (c : SectionTable). IsGoodItem t s c d.begun.k d.item) one d.good in
      by here good (cases_eq a.begun.k d.begun.k) (cases_lt a.begun.k d.begun.k)
    where
      first : a.item.first.r_address ≡ i
      first = a.begun.offset

      second : d.item.first.r_address ≡ j
      second = d.begun.offset

      not_met : (x y p q : ℕ) → x ≡ i → y ≡ j → 1 ≤ q → (nat_lt y (x + p) && nat_lt x (y + q)) ≡ false → i + p ≤ j
      not_met x y p q e f some none =
          let low : nat_lt x (y + q) ≡ true = below x (y + q) (omega (arith, e, f, less, some)) in
          let past = at_most y (x + p) (left (nat_lt y (x + p)) (nat_lt x (y + q)) low none) in omega (arith, e, f, past)
        where
          below : (a b : ℕ) → a < b → nat_lt a b ≡ true
          below a b l = grind (arith, nat_tests)

          left : (a b : Bool) → b ≡ true → (a && b) ≡ false → a ≡ false
          left a b e f = grind arith

      positive : (n : ℕ) → 1 ≤ 2 ^ n
      positive n = one_le n
        where
          one_le : (n : ℕ) → 1 ≤ 2 ^ n
          one_le zero = omega arith
          one_le (suc n) = let rest = one_le n in omega (arith, rest)

      flip : (x y p q : ℕ) → (nat_lt x (y + q) && nat_lt y (x + p)) ≡ false → (nat_lt y (x + p) && nat_lt x (y + q)) ≡ false
      flip x y p q e = swap (nat_lt x (y + q)) (nat_lt y (x + p)) e
        where
          swap : (a b : Bool) → (a && b) ≡ false → (b && a) ≡ false
          swap a b e = grind arith

      by : item_at t.word a.c.relocs d.begun.k ≡ Some d.item → IsGoodItem t s a.c d.begun.k d.item → (a.begun.k ≡ d.begun.k) ⊎ (a.begun.k ≢ d.begun.k) → (a.begun.k < d.begun.k) ⊎ (d.begun.k ≤ a.begun.k)
          → i + 2 ^ a.item.first.r_length ≤ j
      by here good (inl same) order =
          let item : a.item ≡ d.item = same_Some a.item d.item (sym a.begun.is ∙ ap (item_at t.word a.c.relocs) same ∙ here) in
          let offset = ap (λ (x : Item). x.first.r_address) item in absurd (omega (arith, offset, first, second, less))
      by here good (inr other) (inl before) =
          not_met a.item.first.r_address d.item.first.r_address (2 ^ a.item.first.r_length) (2 ^ d.item.first.r_length) first second (positive d.item.first.r_length)
          (items_apart t s a.c a.begun.k d.begun.k a.item d.item good a.begun.is before)
      by here good (inr other) (inr past) =
          not_met a.item.first.r_address d.item.first.r_address (2 ^ a.item.first.r_length) (2 ^ d.item.first.r_length) first second (positive d.item.first.r_length)
          (flip a.item.first.r_address d.item.first.r_address (2 ^ a.item.first.r_length) (2 ^ d.item.first.r_length)
          (items_apart t s a.c d.begun.k a.begun.k d.item a.item a.good here (omega (arith, past, other))))

  pub are_apart : AreApart (mach_dialect w) b keep
  unfolding field_of
  are_apart s i j x y at_i at_j less =
      let a = field_standing s i x at_i in
      let d = field_standing s j y at_j in
      let width : bytes_of x.width ≡ 2 ^ a.item.first.r_length
      = ap (λ (f : Field). bytes_of f.width) (sym (same_Some (field_of t s i a.c (found_as t s a.c a.begun.k a.item a.good)) x (sym a.field_is ∙ at_i))) ∙ row_width t.word a.item.first a.good.row a.good.listed in
      let apart = spans_apart s i j a d less in
      omega (arith, width, apart)
