-- The sections of a file without faults, added one after the other.
use Rattle.std.proofs.Common.{List, None, Ok, Option, Some, [], ap, arith, cond, false, length, length-take, map, nat_lt, refl, slice_get, subst, suc, sum_by, sym, take, zero, ℕ, ◌++◌, ◌+◌, ◌<◌, ◌∙◌, ◌∷◌, ◌≡◌, ◌≤◌}
use Rattle.std.proofs.lemmas.{Bool.Decides.{nat_tests}, List.FromFn.{length-enumerate_from}, List.Sums.{sum_by-append, sum_by-cons}}
use Rattle.std.proofs.lemmas.{List.{length-map, map-append}, Option.{none-some, same_Some, slice_get-map, slice_get_within}}
use Rattle.std.specs.{List.{enumerate_from}, Option.{option_map, option_map_or}}
use Rattle.oc_linking.specs.{FirstFault.{fault_of, first_broken, stage_fault}, Numbers.{modulus}, declared.terms.Kind.TheVariants.{Zero}}
use Rattle.oc_linking.specs.declared.terms.Kind.{Kind}
use Rattle.oc_macho_judge.proofs.SectionLemmas.{there}
use Rattle.oc_macho.specs.{Framed.{table_at}, MachHeader.{mach_format}, Sections.{kind_of, section_of, sections_in}, Tables.{SectionTable, Tables}}
use Rattle.oc_macho.specs.declared.section_header.SectionHeader.{SectionHeader}
use Rattle.oc_macho_read.specs.Built.{sectioned}
use Rattle.oc_shows.proofs.{BuiltSteps.{within}, StartedLaws.{section_more}}
use Rattle.oc_neutral.specs.{Building.{is_zero, limit_passed, section_added, size_sum, stored_size, stored_sum}, Invariants.{IsMember}, KindRules.{same_kind}}
use Rattle.oc_neutral.specs.declared.section.Section.{Section}
use Rattle.oc_shows.specs.Started.{plain_draft, stored_section}
use Rattle.oc_shelf.proofs.ReadingLaws.StageLemmas.{all_hold, clean_at, clean_both}
use Rattle.oc_shelf.specs.Reading.Sums.{sum_upto}
use Rattle.oc_linking.specs.Parts as parts
use Rattle.oc_macho.specs.SectionFaults as rules
use Rattle.oc_neutral.proofs.FieldLists.{take_here}

-- ... sections by position

pub numbered_at : {X : Type 0} (n : ℕ) (xs : List X) (i : ℕ) → slice_get (enumerate_from n xs) i ≡ option_map (λ x. (i + n, x)) (slice_get xs i)
numbered_at n [] zero = refl
numbered_at n [] (suc i) = refl
numbered_at n (x ∷ xs) zero = let none : n ≡ 0 + n = omega arith in ap (λ (k : ℕ). Some (k, x)) none
numbered_at {X} n (x ∷ xs) (suc i) =
    numbered_at (n + 1) xs i ∙ (let one : i + (n + 1) ≡ suc i + n = omega arith in ap (λ (k : ℕ). option_map (λ (x : X). (k, x)) (slice_get xs i)) one)

pub take_all : {X : Type 0} (xs : List X) (n : ℕ) → n ≡ length xs → take n xs ≡ xs
take_all {X} xs n e = ap (λ (k : ℕ). take k xs) e ∙ by xs
  where
    by : (xs : List X) → take (length xs) xs ≡ xs
    by [] = refl
    by (x ∷ xs) = ap (λ (ys : List X). x ∷ ys) (by xs)

pub section_there : (t : Tables) (i : ℕ) (x : SectionTable) → slice_get t.sections i ≡ Some x → slice_get (sections_in t) i ≡ Some (section_of (i + 1, x))
unfolding sections_in
section_there t i x here =
    slice_get-map section_of (enumerate_from 1 t.sections) i ∙ ap (option_map section_of) (numbered_at 1 t.sections i ∙ ap (option_map (λ (x : SectionTable). (i + 1, x))) here)

pub section_from : (t : Tables) (i : ℕ) (y : parts.Section) → slice_get (sections_in t) i ≡ Some y → (x : SectionTable) × (slice_get t.sections i ≡ Some x) × (section_of (i + 1, x) ≡ y)
unfolding sections_in
section_from t i y e = by (slice_get t.sections i) refl (sym (slice_get-map section_of (enumerate_from 1 t.sections) i ∙ ap (option_map section_of) (numbered_at 1 t.sections i)) ∙ e)
  where
    by : (o : Option SectionTable) → slice_get t.sections i ≡ o → option_map section_of (option_map (λ (x : SectionTable). (i + 1, x)) o) ≡ Some y
        → (x : SectionTable) × (slice_get t.sections i ≡ Some x) × (section_of (i + 1, x) ≡ y)
    by None h g = absurd (none-some y g)
    by (Some x) h g = (x, h, same_Some (section_of (i + 1, x)) y g)

pub length-sections_in : (t : Tables) → length (sections_in t) ≡ length t.sections
unfolding sections_in
length-sections_in t = length-map (enumerate_from 1 t.sections) section_of ∙ length-enumerate_from 1 t.sections

-- ... what a section has that has no fault

pub record IsSoundSection (t : Tables) (i : ℕ) (x : SectionTable) : Type 0 where
  pub align : x.header.align ≤ 15
  pub odd : rules.is_odd x.header ≡ false
  pub addressed : x.header.addr + x.header.size ≤ modulus t.word
  pub size : x.header.size ≤ 2147483647
  pub sizes : sum_upto (rules.size_at t) i + x.header.size ≤ 2147483648
  pub bytes : sum_upto (rules.stored_at t) i + rules.stored_of x.header ≤ 67108864

pub at_most : (a b : ℕ) → nat_lt a b ≡ false → b ≤ a
at_most a b e = grind (arith, nat_tests)

sound_by : (t : Tables) (i : ℕ) (x : SectionTable) → first_broken (rules.section_conditions t i x) ≡ None → IsSoundSection t i x
unfolding rules.section_conditions rules.own_conditions rules.limit_conditions
sound_by t i x clean =
    let both = clean_both (rules.own_conditions t i x.header) (rules.limit_conditions t i x.header) clean in
    let own = all_hold (rules.own_conditions t i x.header) both.0 in
    let limits = all_hold (rules.limit_conditions t i x.header) both.1 in
    record {
      align = at_most 15 x.header.align own.0;
      odd = own.1.0;
      addressed = at_most (modulus t.word) (x.header.addr + x.header.size) own.1.1.0;
      size = at_most 2147483647 x.header.size limits.0;
      sizes = at_most 2147483648 (sum_upto (rules.size_at t) i + x.header.size) limits.1.0;
      bytes = at_most 67108864 (sum_upto (rules.stored_at t) i + rules.stored_of x.header) limits.1.1.0;
    }

pub sound_section : (t : Tables) → stage_fault (rules.section_stage t) ≡ None → (i : ℕ) (x : SectionTable) → slice_get t.sections i ≡ Some x → IsSoundSection t i x
sound_section t clean i x here =
    sound_by t i x
    (sym (ap (λ (o : Option SectionTable). first_broken (option_map_or (rules.section_conditions t i) o [])) here)
    ∙ clean_at (fault_of (rules.section_stage t)) (length t.sections) i clean (slice_get_within t.sections i x here))

-- ... sums

zero_is : (k : Kind) → is_zero k ≡ same_kind k Zero
zero_is k = grind arith

-- section i as it is stored
abbrev pub stored_at : Tables → ℕ → Section
stored_at t i = stored_section [] (section_of (i + 1, table_at t i))

next_taken : (t : Tables) (i : ℕ) → i < length t.sections → map (stored_section []) (take (i + 1) (sections_in t)) ≡ map (stored_section []) (take i (sections_in t)) ++ stored_at t i ∷ []
next_taken t i low =
    ap (map (stored_section [])) (take_here (sections_in t) i (section_of (i + 1, table_at t i)) (section_there t i (table_at t i) (there t i low)))
    ∙ map-append (stored_section []) (take i (sections_in t)) (section_of (i + 1, table_at t i) ∷ [])

module _ (t : Tables) (f : Section → ℕ) (g : SectionHeader → ℕ) (same : (i : ℕ) → f (stored_at t i) ≡ g (table_at t i).header) where
  worth_is : (i : ℕ) → i < length t.sections → rules.worth_by g t i ≡ f (stored_at t i)
  worth_is i low = ap (λ (o : Option SectionTable). option_map_or (λ (x : SectionTable). g x.header) o 0) (there t i low) ∙ sym (same i)

  sum_taken : (n : ℕ) → n ≤ length t.sections → sum_by f (map (stored_section []) (take n (sections_in t))) ≡ sum_upto (rules.worth_by g t) n
  sum_taken zero l = refl
  sum_taken (suc n) l =
      let low : n < length t.sections = omega (arith, l) in
      let one : suc n ≡ n + 1 = omega arith in
      let before = sum_taken n (omega (arith, l)) in
      let last = worth_is n low in
      let more : sum_by f (map (stored_section []) (take (suc n) (sections_in t))) ≡ sum_by f (map (stored_section []) (take n (sections_in t))) + sum_by f (stored_at t n ∷ [])
      = ap (λ (k : ℕ). sum_by f (map (stored_section []) (take k (sections_in t)))) one ∙ ap (sum_by f) (next_taken t n low)
      ∙ sum_by-append f (map (stored_section []) (take n (sections_in t))) (stored_at t n ∷ []) in
      omega (arith, more, before, last, sum_by-cons f (stored_at t n) [])

sizes_are : (t : Tables) (n : ℕ) → n ≤ length t.sections → size_sum (map (stored_section []) (take n (sections_in t))) ≡ sum_upto (rules.size_at t) n
unfolding section_of
sizes_are t n l = sum_taken t (λ (x : Section). x.size) (λ h. h.size) (λ i. refl) n l

stored_same : (t : Tables) (i : ℕ) → stored_size (stored_at t i) ≡ rules.stored_of (table_at t i).header
unfolding section_of
stored_same t i = ap (λ b. cond b 0 (table_at t i).header.size) (zero_is (kind_of (table_at t i).header))

stored_are : (t : Tables) (n : ℕ) → n ≤ length t.sections → stored_sum (map (stored_section []) (take n (sections_in t))) ≡ sum_upto (rules.stored_at t) n
stored_are t n l = sum_taken t stored_size rules.stored_of (λ i. stored_same t i) n l

-- ... a section more

module _ (t : Tables) (clean : stage_fault (rules.section_stage t) ≡ None) (i : ℕ) (low : i < length t.sections) where
  abbrev sound : IsSoundSection t i (table_at t i)
  sound = sound_section t clean i (table_at t i) (there t i low)

  size_is : (stored_at t i).size ≡ (table_at t i).header.size
  unfolding section_of
  size_is = refl

  limit_none : limit_passed (map (stored_section []) (take i (sections_in t))) (stored_at t i) ≡ None
  limit_none =
      within (map (stored_section []) (take i (sections_in t))) (stored_at t i) (sum_upto (rules.size_at t) i) (sum_upto (rules.stored_at t) i) (sizes_are t i (omega (arith, low)))
      (stored_are t i (omega (arith, low))) (subst (λ (n : ℕ). n ≤ 2147483647) (sym size_is) sound.size)
      (subst (λ (n : ℕ). sum_upto (rules.size_at t) i + n ≤ 2147483648) (sym size_is) sound.sizes)
      (subst (λ (n : ℕ). sum_upto (rules.stored_at t) i + n ≤ 67108864) (sym (stored_same t i)) sound.bytes)

  pub section_taken : section_added (sectioned t i) (stored_at t i) ≡ Ok (sectioned t (i + 1))
  section_taken =
      section_more (mach_format t.word) [] (map (stored_section []) (take i (sections_in t))) [] (stored_at t i) limit_none
      ∙ ap (λ (ss : List Section). Ok (plain_draft (mach_format t.word) [] ss [])) (sym (next_taken t i low))

  pub section_room : length t.sections ≤ 67108864 → length (sectioned t i).object.sections < 2147483647
  section_room few =
      let long = length-map (take i (sections_in t)) (stored_section []) in
      let least = length-take i (sections_in t) in
      let all = length-sections_in t in
      omega (arith, few, long, least, all, low)

-- all sections are those of the start
pub sections_whole : (t : Tables) (n : ℕ) → n ≡ length t.sections → sectioned t n ≡ plain_draft (mach_format t.word) [] (map (stored_section []) (sections_in t)) []
sections_whole t n e = ap (λ (xs : List parts.Section). plain_draft (mach_format t.word) [] (map (stored_section []) xs) []) (take_all (sections_in t) n (e ∙ sym (length-sections_in t)))

-- a section is in no group
pub no_group : (t : Tables) (i n : ℕ) → IsMember n (stored_at t i).group
unfolding section_of
no_group t i n = tt
