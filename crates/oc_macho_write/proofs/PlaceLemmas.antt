-- The places of parts, given one after another.
use Rattle.std.proofs.Common.{◌≡◌, ℕ, zero, suc, ◌+◌, ◌<◌, ◌≤◌, Bool, true, false, true≢false, cond, not, List, [], ◌∷◌, ◌++◌, length, map, take, get_or, Option, Some, None, inl, inr, refl, sym, ◌∙◌, ap, subst, arith}
use Rattle.std.specs.{Prelude.{slice_get}, List.{AllByRecursion, enumerate_from, filter}, Option.{option_map}}
use Rattle.std.proofs.lemmas.{Bool.{eqb-true}, List.{take_all}, Option.{none-some, same_Some, get_or_from_slice_get, slice_get_within}}
use Rattle.oc_base.specs.declared.format.Word.{Word}
use Rattle.oc_neutral.specs.{declared.section.Section.{Section}, Objects.{Object}}
use Rattle.oc_neutral.proofs.Positions.{each_at}
use Rattle.oc_shelf.specs.Writing.Parts.{Laid, laid}
use Rattle.oc_shelf.proofs.WritingLaws.MemberLemmas.{each_append, member_map, of_append, of_map, of_enumerated}
use Rattle.oc_shelf.proofs.WritingLaws.PartLemmas.{laid_part, laid_there}
use Rattle.oc_macho_file.specs.Addresses.{Numbered, is_blank, stored_sections}
use Rattle.oc_macho_file.specs.Layout.{FileHead, SegmentHead, SectionHeads, SymtabHead, DysymtabHead, Raw, Relocs, SymbolTable, StringTable, head_parts, table_parts, raw_part, relocs_part, is_raw, is_relocs, is_symbol_table, is_string_table, laid_parts, part_begin, part_size, parts_of}
use Rattle.oc_macho_file.specs.Layout as layout
use Rattle.oc_macho_file.proofs.PartLaws.{rises}
use Rattle.oc_macho_write.specs.{declared.parts.Part.{Part}, declared.places.Places.{Places}, LaidParts.{begins_by}, Parts.{part_in}}
use Rattle.oc_macho_write.specs.Places.{ArePlaces, CanGive, HasRoom, IsBlank}
use Rattle.oc_macho_write.specs.declared.parts.Part.TheVariants as part
use Rattle.oc_plans.proofs.Turns.{length-laid}
use Rattle.oc_macho_write.proofs.LastWhere.{last_where, last_more, last_is, PassesOnce}

-- ... of some things one alone passes a test

-- no thing passes
abbrev NonePass : {X : Type 0} → (X → Bool) → List X → Type 0
NonePass {X} test xs = (i : ℕ) (x : X) → slice_get xs i ≡ Some x → test x ≡ false

-- no two pass
abbrev OnePasses : {X : Type 0} → (X → Bool) → List X → Type 0
OnePasses {X} test xs = (i j : ℕ) (a b : X) → slice_get xs i ≡ Some a → slice_get xs j ≡ Some b → test a ≡ true → test b ≡ true → i ≡ j

module _ {X : Type 0} (test : X → Bool) where
  none_of : (xs : List X) → AllByRecursion (λ x. test x ≡ false) xs → NonePass test xs
  none_of xs all i x here = each_at (λ y. test y ≡ false) xs i x all here

  none_both : (xs ys : List X) → NonePass test xs → NonePass test ys → NonePass test (xs ++ ys)
  none_both xs ys a b = each_append (λ x. test x ≡ false) xs ys a b

  one_first : (y : X) (xs : List X) → NonePass test xs → OnePasses test (y ∷ xs)
  one_first y xs none zero zero a b h g p q = refl
  one_first y xs none zero (suc j) a b h g p q = absurd (true≢false (sym q ∙ none j b g))
  one_first y xs none (suc i) j a b h g p q = absurd (true≢false (sym p ∙ none i a h))

  one_behind : (xs ys : List X) → NonePass test xs → OnePasses test ys → OnePasses test (xs ++ ys)
  one_behind xs ys none once i j a b h g p q = elim (of_append xs ys i a h) [
    | inl l ↦ absurd (true≢false (sym p ∙ none i a l))
    | inr r ↦ elim (of_append xs ys j b g) [
      | inl l ↦ absurd (true≢false (sym q ∙ none j b l))
      | inr s ↦ let same = once r.0 s.0 a b r.2 s.2 p q in let first = r.1 in let second = s.1 in omega (arith, first, second, same)
    ]
  ]

  one_before : (xs ys : List X) → OnePasses test xs → NonePass test ys → OnePasses test (xs ++ ys)
  one_before xs ys once none i j a b h g p q = elim (of_append xs ys i a h) [
    | inl l ↦ elim (of_append xs ys j b g) [
      | inl m ↦ once i j a b l m p q
      | inr s ↦ absurd (true≢false (sym q ∙ none s.0 b s.2))
    ]
    | inr r ↦ absurd (true≢false (sym p ∙ none r.0 a r.2))
  ]

  one_laid : (begin : ℕ → X → ℕ) (size : X → ℕ) → ((at : ℕ) (x : X) → at ≤ begin at x) → (at : ℕ) (xs : List X) → OnePasses test xs → PassesOnce test (laid begin size at xs)
  one_laid begin size up at xs once i j a b h g p q = once i j a.part b.part (laid_part begin size up at xs i a h) (laid_part begin size up at xs j b g) p q

-- numbers rise
rising : (test : Numbered → Bool) (i : ℕ) (xs : List Section) (a : ℕ) (y : Numbered) → slice_get (filter test (enumerate_from i xs)) a ≡ Some y → i ≤ y.0
rising test i [] a y here = absurd (none-some y here)
rising test i (x ∷ xs) a y here = by (test (i, x)) (λ b h. rising test (i + 1) xs b y h) a here
  where
    rest : List Numbered
    rest = filter test (enumerate_from (i + 1) xs)

    by : (c : Bool) → ((b : ℕ) → slice_get rest b ≡ Some y → i + 1 ≤ y.0) → (a : ℕ) → slice_get (cond c ((i, x) ∷ rest) rest) a ≡ Some y → i ≤ y.0
    by true tail zero h = let e : i ≡ y.0 = ap (λ (z : Numbered). z.0) (same_Some (i, x) y h) in omega (arith, e)
    by true tail (suc a) h = let l = tail a h in omega (arith, l)
    by false tail a h = let l = tail a h in omega (arith, l)

-- so each stands once
once : (test : Numbered → Bool) (i : ℕ) (xs : List Section) (a b : ℕ) (y z : Numbered) → slice_get (filter test (enumerate_from i xs)) a ≡ Some y → slice_get (filter test (enumerate_from i xs)) b ≡ Some z → y.0 ≡ z.0 → a ≡ b
once test i [] a b y z here there same = absurd (none-some y here)
once test i (x ∷ xs) a b y z here there same = by (test (i, x)) (λ c d h g. once test (i + 1) xs c d y z h g same) a b here there
  where
    rest : List Numbered
    rest = filter test (enumerate_from (i + 1) xs)

    by : (c : Bool) → ((a b : ℕ) → slice_get rest a ≡ Some y → slice_get rest b ≡ Some z → a ≡ b)
        → (a b : ℕ) → slice_get (cond c ((i, x) ∷ rest) rest) a ≡ Some y → slice_get (cond c ((i, x) ∷ rest) rest) b ≡ Some z → a ≡ b
    by true tail zero zero h g = refl
    by true tail zero (suc b) h g =
        let e : i ≡ y.0 = ap (λ (v : Numbered). v.0) (same_Some (i, x) y h) in
        let l = rising test (i + 1) xs b z g in
        absurd (omega (arith, e, l, same))
    by true tail (suc a) zero h g =
        let e : i ≡ z.0 = ap (λ (v : Numbered). v.0) (same_Some (i, x) z g) in
        let l = rising test (i + 1) xs a y h in
        absurd (omega (arith, e, l, same))
    by true tail (suc a) (suc b) h g = ap suc (tail a b h g)
    by false tail a b h g = tail a b h g

-- ... the parts of a file

module _ (n : Object) where
  abbrev raws : List layout.Part
  raws = map raw_part (stored_sections n)

  abbrev relocs : List layout.Part
  relocs = map relocs_part (enumerate_from 0 n.sections)

  none_made : (make : Numbered → layout.Part) (test : layout.Part → Bool) (xs : List Numbered) → ((x : Numbered) → test (make x) ≡ false) → NonePass test (map make xs)
  none_made make test xs fails i p here = let x = of_map make xs i p here in ap test (sym x.2) ∙ fails x.0

  raw_once : (k : ℕ) → OnePasses (is_raw k) raws
  raw_once k i j a b h g p q =
      let x = of_map raw_part (stored_sections n) i a h in
      let y = of_map raw_part (stored_sections n) j b g in
      let one : x.0.0 ≡ k = eqb-true x.0.0 k (ap (is_raw k) x.2 ∙ p) in
      let two : y.0.0 ≡ k = eqb-true y.0.0 k (ap (is_raw k) y.2 ∙ q) in
      once (λ (z : Numbered). not (is_blank z)) 0 n.sections i j x.0 y.0 x.1 y.1 (one ∙ sym two)

  relocs_once : (k : ℕ) → OnePasses (is_relocs k) relocs
  relocs_once k i j a b h g p q =
      let x = of_map relocs_part (enumerate_from 0 n.sections) i a h in
      let y = of_map relocs_part (enumerate_from 0 n.sections) j b g in
      let one : x.0.0 ≡ k = eqb-true x.0.0 k (ap (is_relocs k) x.2 ∙ p) in
      let two : y.0.0 ≡ k = eqb-true y.0.0 k (ap (is_relocs k) y.2 ∙ q) in
      let first = (of_enumerated 0 n.sections i x.0 x.1).0 in
      let second = (of_enumerated 0 n.sections j y.0 y.1).0 in
      omega (arith, one, two, first, second)

  one_raw : (k : ℕ) → OnePasses (is_raw k) (parts_of n)
  unfolding parts_of
  one_raw k =
      one_behind (is_raw k) head_parts (raws ++ (relocs ++ table_parts)) (none_of (is_raw k) head_parts (refl, (refl, (refl, (refl, (refl, tt))))))
      (one_before (is_raw k) raws (relocs ++ table_parts) (raw_once k)
      (none_both (is_raw k) relocs table_parts (none_made relocs_part (is_raw k) (enumerate_from 0 n.sections) (λ x. refl)) (none_of (is_raw k) table_parts (refl, (refl, tt)))))

  one_relocs : (k : ℕ) → OnePasses (is_relocs k) (parts_of n)
  unfolding parts_of
  one_relocs k =
      one_behind (is_relocs k) head_parts (raws ++ (relocs ++ table_parts)) (none_of (is_relocs k) head_parts (refl, (refl, (refl, (refl, (refl, tt))))))
      (one_behind (is_relocs k) raws (relocs ++ table_parts) (none_made raw_part (is_relocs k) (stored_sections n) (λ x. refl))
      (one_before (is_relocs k) relocs table_parts (relocs_once k) (none_of (is_relocs k) table_parts (refl, (refl, tt)))))

  one_symbols : OnePasses is_symbol_table (parts_of n)
  unfolding parts_of
  one_symbols =
      one_behind is_symbol_table head_parts (raws ++ (relocs ++ table_parts)) (none_of is_symbol_table head_parts (refl, (refl, (refl, (refl, (refl, tt))))))
      (one_behind is_symbol_table raws (relocs ++ table_parts) (none_made raw_part is_symbol_table (stored_sections n) (λ x. refl))
      (one_behind is_symbol_table relocs table_parts (none_made relocs_part is_symbol_table (enumerate_from 0 n.sections) (λ x. refl))
      (one_first is_symbol_table SymbolTable (StringTable ∷ []) (none_of is_symbol_table (StringTable ∷ []) (refl, tt)))))

  one_strings : OnePasses is_string_table (parts_of n)
  unfolding parts_of
  one_strings =
      one_behind is_string_table head_parts (raws ++ (relocs ++ table_parts)) (none_of is_string_table head_parts (refl, (refl, (refl, (refl, (refl, tt))))))
      (one_behind is_string_table raws (relocs ++ table_parts) (none_made raw_part is_string_table (stored_sections n) (λ x. refl))
      (one_behind is_string_table relocs table_parts (none_made relocs_part is_string_table (enumerate_from 0 n.sections) (λ x. refl))
      (one_behind is_string_table (SymbolTable ∷ []) (StringTable ∷ []) (none_of is_string_table (SymbolTable ∷ []) (refl, tt))
      (one_first is_string_table StringTable [] (none_of is_string_table [] tt)))))

  -- there is a place for a part that is there
  pub can_give : (x : Places) (this : Part) (is : layout.Part) → HasRoom n x → part_in n this ≡ Some is → CanGive x this
  can_give x part.FileHead is room here = tt
  can_give x part.SegmentHead is room here = tt
  can_give x part.SectionHeads is room here = tt
  can_give x part.SymtabHead is room here = tt
  can_give x part.DysymtabHead is room here = tt
  can_give x (part.Raw k) is room here = by (slice_get n.sections k) refl here
    where
      by : (o : Option Section) → slice_get n.sections k ≡ o → option_map (Raw k) o ≡ Some is → k < length x.raws.items
      by None e g = absurd (none-some is g)
      by (Some s) e g = subst (λ m. k < m) (sym room.raws) (slice_get_within n.sections k s e)
  can_give x (part.Relocs k) is room here = by (slice_get n.sections k) refl here
    where
      by : (o : Option Section) → slice_get n.sections k ≡ o → option_map (Relocs k) o ≡ Some is → k < length x.relocs.items
      by None e g = absurd (none-some is g)
      by (Some s) e g = subst (λ m. k < m) (sym room.relocs) (slice_get_within n.sections k s e)
  can_give x part.SymbolTable is room here = tt
  can_give x part.StringTable is room here = tt

-- ... the places so far

module _ (w : Word) (n : Object) where
  -- the first parts have their places
  pub record AreUpto (i : ℕ) (x : Places) : Type 0 where
    pub raws : (k : ℕ) → k < length n.sections → get_or x.raws.items k 0 ≡ last_where (is_raw k) (take i (laid_parts w n)) 0
    pub relocs : (k : ℕ) → k < length n.sections → get_or x.relocs.items k 0 ≡ last_where (is_relocs k) (take i (laid_parts w n)) 0
    pub symbols : x.symbols ≡ last_where is_symbol_table (take i (laid_parts w n)) 0
    pub strings : x.strings ≡ last_where is_string_table (take i (laid_parts w n)) 0

  pub upto_none : (x : Places) → HasRoom n x → IsBlank x → AreUpto 0 x
  upto_none x room blank = record {
    raws = λ k low. blank.raws k (subst (λ m. k < m) (sym room.raws) low);
    relocs = λ k low. blank.relocs k (subst (λ m. k < m) (sym room.relocs) low);
    symbols = blank.symbols;
    strings = blank.strings;
  }

  -- one part more
  pub upto_more : (i : ℕ) (is : layout.Part) (old new : Places) (places : List ℕ) (place : ℕ) → slice_get (parts_of n) i ≡ Some is → places ≡ begins_by w n (parts_of n) → place ≡ get_or places i 0 → HasRoom n old → AreUpto i old
      → ((k : ℕ) → k < length old.raws.items → get_or new.raws.items k 0 ≡ cond (is_raw k is) place (get_or old.raws.items k 0))
      → ((k : ℕ) → k < length old.relocs.items → get_or new.relocs.items k 0 ≡ cond (is_relocs k is) place (get_or old.relocs.items k 0))
      → new.symbols ≡ cond (is_symbol_table is) place old.symbols → new.strings ≡ cond (is_string_table is) place old.strings → AreUpto (i + 1) new
  upto_more i is old new places place here are given room upto a b c d =
      let l = laid_there (part_begin w n) (part_size w n) (rises w n) 0 (parts_of n) i is here in
      let at : place ≡ l.0.at = given ∙ ap (λ ps. get_or ps i 0) are ∙ get_or_from_slice_get (begins_by w n (parts_of n)) i l.0.at 0 (member_map (λ (m : Laid layout.Part). m.at) (laid_parts w n) i l.0 l.1) in
      let next : (test : layout.Part → Bool) (before : ℕ) → before ≡ last_where test (take i (laid_parts w n)) 0 → cond (test is) place before ≡ last_where test (take (i + 1) (laid_parts w n)) 0
      = λ test before same.
      ap (λ p. cond (test is) p before) at ∙ ap (cond (test is) l.0.at) same ∙ ap (λ p. cond (test p) l.0.at (last_where test (take i (laid_parts w n)) 0)) (sym l.2)
      ∙ sym (last_more test (laid_parts w n) i l.0 0 l.1) in
      record {
        raws = λ k low. a k (subst (λ m. k < m) (sym room.raws) low) ∙ next (is_raw k) (get_or old.raws.items k 0) (upto.raws k low);
        relocs = λ k low. b k (subst (λ m. k < m) (sym room.relocs) low) ∙ next (is_relocs k) (get_or old.relocs.items k 0) (upto.relocs k low);
        symbols = c ∙ next is_symbol_table old.symbols upto.symbols;
        strings = d ∙ next is_string_table old.strings upto.strings;
      }

  pub as_many_laid : length (laid_parts w n) ≡ length (parts_of n)
  as_many_laid = length-laid (part_begin w n) (part_size w n) 0 (parts_of n)

  last_place : (test : layout.Part → Bool) (i : ℕ) → length (parts_of n) ≤ i → OnePasses test (parts_of n) → last_where test (take i (laid_parts w n)) 0 ≡ layout.part_where w n test
  last_place test i past one =
      let many = as_many_laid in
      ap (λ ls. last_where test ls 0) (take_all i (laid_parts w n) (omega (arith, many, past)))
      ∙ last_is test (laid_parts w n) 0 (one_laid test (part_begin w n) (part_size w n) (rises w n) 0 (parts_of n) one)

  -- all parts
  pub upto_all : (i : ℕ) (x : Places) → length (parts_of n) ≤ i → HasRoom n x → AreUpto i x → ArePlaces w n x
  upto_all i x past room upto = record {
    room = room;
    raws = λ k low. upto.raws k low ∙ last_place (is_raw k) i past (one_raw n k);
    relocs = λ k low. upto.relocs k low ∙ last_place (is_relocs k) i past (one_relocs n k);
    symbols = upto.symbols ∙ last_place is_symbol_table i past (one_symbols n);
    strings = upto.strings ∙ last_place is_string_table i past (one_strings n);
  }

-- the places so far, whatever the word of the file
pub record AreGiven (n : Object) (begins : List ℕ) (i : ℕ) (x : Places) : Type 0 where
  pub room : HasRoom n x
  pub upto : (w : Word) → begins ≡ begins_by w n (parts_of n) → AreUpto w n i x
