-- The sections of a file without faults, added one after the other.
use Rattle.oc_coff.specs.{Files.{CoffFile}, declared.section_header.SectionHeader.{SectionHeader}, Tables.{SectionTable, Tables, section_table}}
use Rattle.oc_coff.specs.{Names.{section_name}, Comdat.{definition_in, is_comdat}, Forms.{format_by}}
use Rattle.oc_coff.specs.{Sections.{align_bits, carried_of, is_stored, kind_in, section_of}, HeaderFaults.{passes_end}}
use Rattle.oc_coff.specs.SectionFaults.{Numbered, carried_bytes, carried_size, copy_conditions, header_place, limit_conditions, raw_conditions, section_conditions, section_fault, section_stage, table_conditions, worth_by}
use Rattle.std.proofs.Common.{◌≡◌, ℕ, zero, suc, ◌+◌, ◌<◌, ◌≤◌, Bool, true, false, cond, eqb, List, [], ◌∷◌, ◌++◌, length, map, take, drop, replicate, Option, None, Some, Ok, refl, sym, ◌∙◌, ap, subst, arith, length-take, length-drop}
use Rattle.std.specs.{Prelude.{not, ◌&&◌, nat_eq, is_none, is_some, slice_get, bytes_eq}, List.{enumerate_from, position_or_len}}
use Rattle.std.specs.Option.{option_map, option_map_or}
use Rattle.std.proofs.lemmas.{Bool.{true≢false}, Option.{slice_get_within}, List.{length-map}}
use Rattle.oc_base.specs.{declared.format.Word.{Word}, declared.format.Word.TheVariants.{W32}, declared.code.Code.TheVariants.{BadName, BadAlign, SectionKind}}
use Rattle.oc_linking.specs.{declared.terms.Kind.{Kind}, declared.terms.Kind.TheVariants.{Zero}, FirstFault.{Condition, fault_of, first_broken, stage_fault}}
use Rattle.oc_linking.specs.Parts as parts
use Rattle.oc_neutral.specs.{KindRules.{same_kind}, declared.section.Section.{Section}}
use Rattle.oc_neutral.specs.{Building.{is_zero, limit_passed, section_added, size_sum, stored_size, stored_sum}, Invariants.{HasItsBytes, IsMember}}
use Rattle.oc_shows.specs.Started.{groups_by, plain_draft, stored_section}
use Rattle.oc_shows.proofs.{BuiltSteps.{within}, StartedLaws.{section_more}, KeyListLemmas.{given_low}}
use Rattle.oc_shelf.specs.{Reading.Collected.{collected}, Reading.Sums.{sum_upto}}
use Rattle.oc_shelf.proofs.ReadingLaws.CollectedLemmas.{collected-some, collected-none, collected-sum, length-collected}
use Rattle.oc_shelf.proofs.ReadingLaws.StageLemmas.{all_hold, clean_at, clean_both}
use Rattle.oc_coff_judge.specs.Led.{carried_at, section_at}
use Rattle.oc_coff_read.specs.Built.{keys_of, sectioned}
use Rattle.oc_coff_read.proofs.BegunLemmas.{key_given, section_group}
use Rattle.oc_coff_judge.proofs.CarriedLemmas.{section_is}
use Rattle.oc_linking.proofs.Testing.{not_below}
use Rattle.oc_neutral.proofs.LeftObject.{sum_map}

numbered_at : {X : Type 0} (n : ℕ) (xs : List X) (i : ℕ) → slice_get (enumerate_from n xs) i ≡ option_map (λ x. (i + n, x)) (slice_get xs i)
numbered_at n [] zero = refl
numbered_at n [] (suc i) = refl
numbered_at n (x ∷ xs) zero = let none : n ≡ 0 + n = omega arith in ap (λ (k : ℕ). Some (k, x)) none
numbered_at {X} n (x ∷ xs) (suc i) =
    numbered_at (n + 1) xs i ∙ (let one : i + (n + 1) ≡ suc i + n = omega arith in ap (λ (k : ℕ). option_map (λ (x : X). (k, x)) (slice_get xs i)) one)

-- a section that is carried passes no limit
pub record IsCounted (t : Tables) (i : ℕ) (x : SectionTable) : Type 0 where
  pub size : carried_size t x ≤ 2147483647
  pub sizes : sum_upto (worth_by (carried_size t) t) i + worth_by (carried_size t) t i ≤ 2147483648
  pub bytes : sum_upto (worth_by (carried_bytes t) t) i + worth_by (carried_bytes t) t i ≤ 67108864

-- what section i has that has no fault
pub record IsSoundSection (file : CoffFile) (t : Tables) (i : ℕ) (x : SectionTable) : Type 0 where
  pub named : is_none (section_name t.strings x.header.Name) ≡ false
  pub copies : first_broken (cond (is_comdat x.header) (copy_conditions t (i + 1, x) (definition_in t (i + 1))) []) ≡ None
  pub aligned : eqb (align_bits x.header.Characteristics) 15 ≡ false
  pub raw : first_broken (raw_conditions file.bytes t (i + 1, x) x.header) ≡ None
  pub table : first_broken (table_conditions file.bytes t (i + 1, x) x.header) ≡ None
  pub limits : is_some (kind_in t.strings x.header) ≡ true → IsCounted t i x

sound_by : (file : CoffFile) (t : Tables) (i : ℕ) (x : SectionTable) → first_broken (section_conditions file.bytes t i (i + 1, x)) ≡ None → IsSoundSection file t i x
unfolding section_conditions
sound_by file t i x clean =
    let n : Numbered = (i + 1, x) in
    let copy : List Condition = cond (is_comdat x.header) (copy_conditions t n (definition_in t (i + 1))) [] in
    let form : List Condition = (not (nat_eq x.header.VirtualAddress 0), section_fault n (header_place t n) SectionKind) ∷ (nat_eq (align_bits x.header.Characteristics) 15, section_fault n (header_place t n) BadAlign) ∷ [] in
    let limit : List Condition = cond (is_some (kind_in t.strings x.header)) (limit_conditions t i n) [] in
    let rest : List Condition = raw_conditions file.bytes t n x.header ++ (table_conditions file.bytes t n x.header ++ limit) in
    let name = clean_both ((is_none (section_name t.strings x.header.Name), section_fault n (header_place t n) BadName) ∷ []) (copy ++ (form ++ rest)) clean in
    let second = clean_both copy (form ++ rest) name.1 in
    let third = clean_both form rest second.1 in
    let fourth = clean_both (raw_conditions file.bytes t n x.header) (table_conditions file.bytes t n x.header ++ limit) third.1 in
    let fifth = clean_both (table_conditions file.bytes t n x.header) limit fourth.1 in
    record {
      named = (all_hold ((is_none (section_name t.strings x.header.Name), section_fault n (header_place t n) BadName) ∷ []) name.0).0;
      copies = second.0;
      aligned = (all_hold form third.0).1.0;
      raw = fourth.0;
      table = fifth.0;
      limits = λ some.
          let holds = all_hold (limit_conditions t i n) (sym (ap (λ b. first_broken (cond b (limit_conditions t i n) [])) some) ∙ fifth.1) in
          record {
            size = not_below 2147483647 (carried_size t x) holds.0;
            sizes = not_below 2147483648 (sum_upto (worth_by (carried_size t) t) i + worth_by (carried_size t) t i) holds.1.0;
            bytes = not_below 67108864 (sum_upto (worth_by (carried_bytes t) t) i + worth_by (carried_bytes t) t i) holds.1.1.0;
          };
    }

pub sound_section : (file : CoffFile) (t : Tables) → stage_fault (section_stage file.bytes t) ≡ None → (i : ℕ) (x : SectionTable) → slice_get t.sections i ≡ Some x → IsSoundSection file t i x
sound_section file t clean i x here =
    sound_by file t i x
    (sym (ap (λ (o : Option Numbered). first_broken (option_map_or (section_conditions file.bytes t i) o [])) (numbered_at 1 t.sections i ∙ ap (option_map (λ (x : SectionTable). (i + 1, x))) here))
    ∙ clean_at (fault_of (section_stage file.bytes t)) (length t.sections) i clean (slice_get_within t.sections i x here))

-- ... sums

sum_same : (f g : ℕ → ℕ) (n : ℕ) → ((k : ℕ) → f k ≡ g k) → sum_upto f n ≡ sum_upto g n
sum_same f g zero same = refl
sum_same f g (suc n) same = rw (sum_same f g n same, same n) refl

zero_is : (k : Kind) → is_zero k ≡ same_kind Zero k
zero_is k = grind arith

length-zeros : (n : ℕ) → length (replicate {A = ℕ} n 0) ≡ n
length-zeros zero = refl
length-zeros (suc n) = omega (arith, length-zeros n)

module _ (t : Tables) where
  abbrev pub stored_as : parts.Section → Section
  stored_as s = stored_section (keys_of t) s

  size_at : (k : ℕ) → option_map_or (λ (s : parts.Section). (stored_as s).size) (section_at t k) 0 ≡ worth_by (carried_size t) t k
  unfolding carried_at carried_of
  size_at k = by (slice_get t.sections k) refl
    where
      one : (x : SectionTable) (o : Option Kind) → option_map_or (λ (s : parts.Section). s.size) (option_map (section_of t (k + 1) x) o) 0 ≡ cond (is_some o) x.header.SizeOfRawData 0
      one x o = grind arith

      by : (o : Option SectionTable) → slice_get t.sections k ≡ o → option_map_or (λ (s : parts.Section). (stored_as s).size) (section_at t k) 0 ≡ option_map_or (carried_size t) o 0
      by o e = grind arith

  bytes_at : (k : ℕ) → option_map_or (λ (s : parts.Section). stored_size (stored_as s)) (section_at t k) 0 ≡ worth_by (carried_bytes t) t k
  unfolding carried_at carried_of
  bytes_at k = by (slice_get t.sections k) refl
    where
      one : (x : SectionTable) (o : Option Kind) → option_map_or (λ (s : parts.Section). cond (is_zero s.kind) 0 s.size) (option_map (section_of t (k + 1) x) o) 0
          ≡ option_map_or (λ (kind : Kind). cond (same_kind Zero kind) 0 x.header.SizeOfRawData) o 0
      one x None = refl
      one x (Some kind) = ap (λ b. cond b 0 x.header.SizeOfRawData) (zero_is kind)

      by : (o : Option SectionTable) → slice_get t.sections k ≡ o → option_map_or (λ (s : parts.Section). stored_size (stored_as s)) (section_at t k) 0 ≡ option_map_or (carried_bytes t) o 0
      by o e = grind arith

  -- the sums of the sections so far
  sizes_are : (n : ℕ) → size_sum (map stored_as (collected (section_at t) n)) ≡ sum_upto (worth_by (carried_size t) t) n
  sizes_are n =
      sum_map (λ (x : Section). x.size) stored_as (collected (section_at t) n) ∙ collected-sum (section_at t) (λ (s : parts.Section). (stored_as s).size) n
      ∙ sum_same (λ k. option_map_or (λ (s : parts.Section). (stored_as s).size) (section_at t k) 0) (worth_by (carried_size t) t) n size_at

  stored_are : (n : ℕ) → stored_sum (map stored_as (collected (section_at t) n)) ≡ sum_upto (worth_by (carried_bytes t) t) n
  stored_are n =
      sum_map stored_size stored_as (collected (section_at t) n) ∙ collected-sum (section_at t) (λ (s : parts.Section). stored_size (stored_as s)) n
      ∙ sum_same (λ k. option_map_or (λ (s : parts.Section). stored_size (stored_as s)) (section_at t k) 0) (worth_by (carried_bytes t) t) n bytes_at

  -- it is in one of the groups that are begun, or in none
  pub member_stored : (i : ℕ) (s : parts.Section) → i < length t.sections → section_at t i ≡ Some s → IsMember (length (keys_of t)) (stored_as s).group
  member_stored i s low is = by s.group refl
    where
      by : (o : Option (List ℕ)) → s.group ≡ o → IsMember (length (keys_of t)) (option_map (λ key. position_or_len (bytes_eq key) (keys_of t)) o)
      by None e = tt
      by (Some key) e = given_low (keys_of t) key (key_given t i key low (ap is_some is) (sym (section_group t i s is) ∙ e))

  pub room : (i : ℕ) → i < length t.sections → length t.sections < 2097152 → length (map stored_as (collected (section_at t) i)) < 2147483647
  room i low few = omega (arith, length-map (collected (section_at t) i) stored_as, length-collected (section_at t) i, few, low)

  -- any section that is not carried leaves what is built
  pub passed_over : (w : Word) (i : ℕ) → section_at t i ≡ None → sectioned w t i ≡ sectioned w t (i + 1)
  passed_over w i none = ap (λ (xs : List parts.Section). plain_draft (format_by w t.shape) (groups_by (keys_of t)) (map stored_as xs) []) (sym (collected-none (section_at t) i none))

module _ (w : Word) (file : CoffFile) (t : Tables) (clean : stage_fault (section_stage file.bytes t) ≡ None) (i : ℕ) (x : SectionTable) (here : slice_get t.sections i ≡ Some x) (kind : Kind)
    (is : kind_in t.strings x.header ≡ Some kind) where
  abbrev pub s : parts.Section
  s = section_of t (i + 1) x kind

  pub s_is : section_at t i ≡ Some s
  s_is = section_is t i x (Some kind) here is

  counted : IsCounted t i x
  counted = (sound_section file t clean i x here).limits (ap is_some is)

  -- it passes no limit
  limit_none : limit_passed (map (stored_as t) (collected (section_at t) i)) (stored_as t s) ≡ None
  limit_none =
      within (map (stored_as t) (collected (section_at t) i)) (stored_as t s) (sum_upto (worth_by (carried_size t) t) i) (sum_upto (worth_by (carried_bytes t) t) i) (sizes_are t i) (stored_are t i)
      (subst (λ n. n ≤ 2147483647) (ap (λ (o : Option Kind). cond (is_some o) x.header.SizeOfRawData 0) is) counted.size)
      (subst (λ n. sum_upto (worth_by (carried_size t) t) i + n ≤ 2147483648) (sym (size_at t i) ∙ ap (λ (o : Option parts.Section). option_map_or (λ (s : parts.Section). (stored_as t s).size) o 0) s_is) counted.sizes)
      (subst (λ n. sum_upto (worth_by (carried_bytes t) t) i + n ≤ 67108864) (sym (bytes_at t i) ∙ ap (λ (o : Option parts.Section). option_map_or (λ (s : parts.Section). stored_size (stored_as t s)) o 0) s_is) counted.bytes)

  -- so it is added
  pub carried_added : section_added (sectioned w t i) (stored_as t s) ≡ Ok (sectioned w t (i + 1))
  carried_added =
      section_more (format_by w t.shape) (groups_by (keys_of t)) (map (stored_as t) (collected (section_at t) i)) [] (stored_as t s) limit_none
      ∙ ap (λ (ss : List Section). Ok (plain_draft (format_by w t.shape) (groups_by (keys_of t)) ss []))
      (sym (more (stored_as t) (collected (section_at t) i) s) ∙ ap (λ (xs : List parts.Section). map (stored_as t) xs) (sym (collected-some (section_at t) i s s_is)))
    where
      more : {X Y : Type 0} (g : X → Y) (xs : List X) (x : X) → map g (xs ++ x ∷ []) ≡ map g xs ++ g x ∷ []
      more g [] x = refl
      more {X} {Y} g (y ∷ xs) x = ap (λ (ys : List Y). g y ∷ ys) (more g xs x)

  -- its bytes lie in the file
  pub raw_lies : is_stored (Some kind) x.header ≡ true → x.header.PointerToRawData + x.header.SizeOfRawData ≤ length file.bytes
  raw_lies stored =
      let holds = all_hold (raw_conditions file.bytes t (i + 1, x) x.header) (sound_section file t clean i x here).raw in
      let past : passes_end file.bytes x.header.PointerToRawData x.header.SizeOfRawData ≡ false
      = second (is_stored (kind_in t.strings x.header) x.header) (passes_end file.bytes x.header.PointerToRawData x.header.SizeOfRawData) (ap (λ (o : Option Kind). is_stored o x.header) is ∙ stored) holds.1.0 in
      not_below (length file.bytes) (x.header.PointerToRawData + x.header.SizeOfRawData) past
    where
      second : (a b : Bool) → a ≡ true → (a && b) ≡ false → b ≡ false
      second a b e h = grind arith

-- ... in words of the header

module _ (file : CoffFile) (h : SectionHeader) where
  pub header_kind : (strings : List ℕ) (o : Option Kind) → kind_in strings h ≡ o → kind_in strings (section_table file.bytes h).header ≡ o
  unfolding section_table
  header_kind strings o e = e

  -- the bytes of a section are as many as it says
  pub bytes_long : (t : Tables) (k : ℕ) (kind : Kind) → (is_stored (Some kind) h ≡ true → h.PointerToRawData + h.SizeOfRawData ≤ length file.bytes) → HasItsBytes (stored_as t (section_of t k (section_table file.bytes h) kind))
  unfolding section_table
  bytes_long t k kind lies =
      elim (is_zero kind) as (λ z. length (cond z [] (cond (is_stored (Some kind) h) (cond (eqb h.PointerToRawData 0) [] (take h.SizeOfRawData (drop h.PointerToRawData file.bytes))) (replicate h.SizeOfRawData 0))) ≡ cond z 0 h.SizeOfRawData) [
        | true ↦ refl
        | false ↦ by (is_stored (Some kind) h) refl (eqb h.PointerToRawData 0) refl
      ]
    where
      by : (s : Bool) → is_stored (Some kind) h ≡ s → (z : Bool) → eqb h.PointerToRawData 0 ≡ z
          → length (cond s (cond z [] (take h.SizeOfRawData (drop h.PointerToRawData file.bytes))) (replicate h.SizeOfRawData 0)) ≡ h.SizeOfRawData
      by false e z g = length-zeros h.SizeOfRawData
      by true e true g = absurd (true≢false (sym e ∙ ap (λ b. not b && not (same_kind Zero kind)) g))
      by true e false g =
          let inside = lies e in
          omega (arith, length-take h.SizeOfRawData (drop h.PointerToRawData file.bytes), length-drop h.PointerToRawData file.bytes, inside)

  -- the bytes at its pointer
  pub raw_is : (kind : Kind) → is_stored (Some kind) h ≡ true → (section_table file.bytes h).raw ≡ take h.SizeOfRawData (drop h.PointerToRawData file.bytes)
  unfolding section_table
  raw_is kind stored = by (eqb h.PointerToRawData 0) refl
    where
      by : (z : Bool) → eqb h.PointerToRawData 0 ≡ z → cond z [] (take h.SizeOfRawData (drop h.PointerToRawData file.bytes)) ≡ take h.SizeOfRawData (drop h.PointerToRawData file.bytes)
      by z g = grind arith

  module _ (t : Tables) (clean : stage_fault (section_stage file.bytes t) ≡ None) (i : ℕ) (here : slice_get t.sections i ≡ Some (section_table file.bytes h)) (kind : Kind) (is : kind_in t.strings h ≡ Some kind) where
    pub header_lies : is_stored (Some kind) h ≡ true → h.PointerToRawData + h.SizeOfRawData ≤ length file.bytes
    unfolding section_table
    header_lies = raw_lies W32 file t clean i (section_table file.bytes h) here kind is

    pub header_added : (w : Word) → section_added (sectioned w t i) (stored_as t (section_of t (i + 1) (section_table file.bytes h) kind)) ≡ Ok (sectioned w t (i + 1))
    header_added w = carried_added w file t clean i (section_table file.bytes h) here kind (header_kind t.strings (Some kind) is)

    pub header_section : section_at t i ≡ Some (section_of t (i + 1) (section_table file.bytes h) kind)
    header_section = section_is t i (section_table file.bytes h) (Some kind) here (header_kind t.strings (Some kind) is)
