-- The sections of a canonical file are well formed.
use Rattle.oc_coff.specs.{declared.section_aux.SectionAux.{SectionAux}, declared.form.CoffForm.{CoffForm}}
use Rattle.oc_coff.specs.{declared.section_header.SectionHeader.{SectionHeader}, declared.relocation.Relocation.{Relocation}}
use Rattle.oc_coff.specs.{Relocation.{relocation_bytes, relocation_at}, Tables.{SectionTable, Tables}, Sections.{is_stored, kind_in, align_bits}}
use Rattle.oc_coff.specs.Flags.{is_crowded, count_entry, with_count, pointer_to, section_flags}
use Rattle.oc_coff.specs.SectionFaults.{Numbered, limit_conditions, table_conditions, raw_conditions, section_conditions, section_stage, names_another, follows_follower, copy_conditions, carried_size, carried_bytes, worth_by}
use Rattle.oc_coff.specs.{Entries.{entries_in}, Comdat.{key_symbol, definition_in, selects, is_comdat}, Names.{section_name}}
use Rattle.std.proofs.Common.{◌≡◌, ℕ, zero, suc, ◌+◌, ◌*◌, ◌<◌, ◌≤◌, Bool, true, false, cond, not, ◌&&◌, eqb, List, [], ◌∷◌, ◌++◌, length, map, Option, Some, None, refl, sym, ◌∙◌, ap, subst, inl, inr, arith, ◌≢◌, ◌||◌}
use Rattle.std.specs.{Prelude.{◌⊎◌, slice_get, flat_map, nat_lt, min, is_none, nat_le}, List.{enumerate_from, sum_by}, Option.{option_map_or, is_some}}
use Rattle.std.proofs.lemmas.{Bool.{true≢false, ne_eqb, ltb-true, le-leb, cases_lt}, List.{length-map}, List.FromFn.{length-enumerate_from}}
use Rattle.std.proofs.lemmas.{List.Sums.{sum_by-cons}, Option.{slice_get_within, slice_get_past}}
use Rattle.oc_base.specs.Numbers.{number_at}
use Rattle.oc_linking.specs.{declared.terms.Kind.TheVariants.{Zero}, FirstFault.{Condition}, declared.terms.Kind.{Kind}}
use Rattle.oc_neutral.specs.{declared.section.Section.{Section}, Objects.{Object}, KindRules.{has, same_kind}}
use Rattle.oc_neutral.specs.{declared.coff.TheConstants.{IMAGE_SCN_LNK_NRELOC_OVFL, IMAGE_SCN_CNT_UNINITIALIZED_DATA}, Building.{stored_size, is_zero}}
use Rattle.oc_coff_file.proofs.{StructureLaws.{length-relocation_bytes}, CodedLaws.{seen_kind, IsForCoff, coded_section}}
use Rattle.oc_coff_file.proofs.{PartLaws.{length-raw, raw_past, stands_raw, stands_relocs}, TableLaws.{made_table, made_tables, relocation_stands}}
use Rattle.oc_coff_file.proofs.{SectionLaws.{FlagsSay, flags_say, name_read, kind_read, enumerated_again, sized}, HeaderClean.{within_file}}
use Rattle.oc_coff_file.proofs.{CodableLaws.{HasNumbers}, EntryLaws.{made_entry}}
use Rattle.oc_coff_file.proofs.{KeyLaws.{leader_selects, member_selects, member_kept, key_symbol_made, definition_some, comdat_header}, GroupLaws.{leader_of}}
use Rattle.oc_base.proofs.NumberLaws.{length-table}
use Rattle.oc_shelf.specs.{Writing.Parts.{Stands, place_where}, Reading.Sums.{sum_upto}}
use Rattle.oc_shelf.proofs.{WritingLaws.StandingLemmas.{stands_inside, stands_front}, WritingLaws.MemberLemmas.{member_enumerated, member_map}}
use Rattle.oc_shelf.proofs.ReadingLaws.StageLemmas.{Unbroken, unbroken_append, IsUnbroken}
use Rattle.oc_coff_file.specs.{Lines.{numbered_lines}, Bodies.{raw_of, relocs_of}, Layout.{laid_parts, is_raw, is_relocs}}
use Rattle.oc_coff_file.specs.Canonical.{header_at, string_table, coff_file, section_aux, leads}
use Rattle.oc_neutral.proofs.Positions.{there_at}
use Rattle.oc_linking.proofs.Testing.{not_below}

-- ... running sums

upto_head : {X : Type 0} (worth : X → ℕ) (x : X) (xs : List X) (i : ℕ)
    → sum_upto (λ k. option_map_or worth (slice_get (x ∷ xs) k) 0) (suc i) ≡ worth x + sum_upto (λ k. option_map_or worth (slice_get xs k) 0) i
upto_head worth x xs zero = omega arith
upto_head worth x xs (suc i) = let e = upto_head worth x xs i in omega (arith, e)

upto_none : {X : Type 0} (worth : X → ℕ) (i : ℕ) → sum_upto (λ k. option_map_or worth (slice_get [] k) 0) i ≡ 0
upto_none worth zero = refl
upto_none worth (suc i) = let e = upto_none worth i in omega (arith, e)

-- the first are not worth more than all
upto_all : {X : Type 0} (worth : X → ℕ) (xs : List X) (i : ℕ) → sum_upto (λ k. option_map_or worth (slice_get xs k) 0) i ≤ sum_by worth xs
upto_all worth [] i = let e = upto_none worth i in omega (arith, e)
upto_all worth (x ∷ xs) zero = omega arith
upto_all worth (x ∷ xs) (suc i) = let e = upto_head worth x xs i in let l = upto_all worth xs i in let s = sum_by-cons worth x xs in omega (arith, e, l, s)

upto_less : (f g : ℕ → ℕ) (i : ℕ) → ((k : ℕ) → f k ≤ g k) → sum_upto f i ≤ sum_upto g i
upto_less f g zero less = omega arith
upto_less f g (suc i) less = let l = upto_less f g i less in let e = less i in omega (arith, l, e)

none_of_three : (a b c : Bool) → (a ≡ true) ⊎ ((b ≡ true) ⊎ (c ≡ false)) → ((not a && not b) && c) ≡ false
none_of_three a b c one = grind arith

pub and_false : (a : Bool) → (a && false) ≡ false
and_false a = grind arith

module _ (w : CoffForm) (n : Object) (is : IsForCoff w n) (numbers : HasNumbers w n) (entries : entries_in (made_tables w n) ≡ map (made_entry w n) (numbered_lines w n)) where
  abbrev file : List ℕ
  file = coff_file w n

  abbrev relocs : ℕ → List Relocation
  relocs k = relocs_of w (numbered_lines w n) n k

  abbrev numbered : ℕ → Section → Numbered
  numbered k s = (k + 1, made_table w n (k, s))

  module _ (k : ℕ) (s : Section) (here : slice_get n.sections k ≡ Some s) where
    abbrev header : SectionHeader
    header = header_at w n (k, s)

    say : FlagsSay s (relocs k)
    say = flags_say w n s (relocs k) (coded_section w n is k s here)

    -- its bytes
    raw_clean : Unbroken (raw_conditions file (made_tables w n) (numbered k s) header)
    unfolding header_at made_tables
    raw_clean = by s.bytes refl
      where
        unsized : s.bytes ≡ [] → eqb s.size 0 ≡ false → is_zero s.kind ≡ true
        unsized none some = by (is_zero s.kind) (coded_section w n is k s here).bytes
          where
            by : (b : Bool) → length s.bytes ≡ cond b 0 s.size → b ≡ true
            by b e = grind arith

        pick : s.bytes ≡ [] → (b : Bool) → eqb s.size 0 ≡ b
            → (has (section_flags s (relocs k)) IMAGE_SCN_CNT_UNINITIALIZED_DATA ≡ true) ⊎ ((eqb s.size 0 ≡ true) ⊎ (eqb header.PointerToRawData 0 ≡ false))
        pick none true e = inr (inl e)
        pick none false e = inl (say.zeros ∙ (coded_section w n is k s here).unset (unsized none e))

        by : (bytes : List ℕ) → s.bytes ≡ bytes → Unbroken (raw_conditions file (made_tables w n) (numbered k s) header)
        by [] e =
            let none : length s.bytes ≡ 0 = ap length e in
            let pointer : eqb header.PointerToRawData 0 ≡ true = ap (λ m. eqb (pointer_to (place_where (is_raw k) (laid_parts w n)) m) 0) none in
            let unstored : is_stored (kind_in (string_table w n) header) header ≡ false = ap (λ b. not b && not (option_map_or (same_kind Zero) (kind_in (string_table w n) header) false)) pointer in (
              none_of_three (has (section_flags s (relocs k)) IMAGE_SCN_CNT_UNINITIALIZED_DATA) (eqb s.size 0) (eqb header.PointerToRawData 0) (pick e (eqb s.size 0) refl),
              (ap (λ b. b && nat_lt (length file) (header.PointerToRawData + s.size)) unstored, tt),
            )
        by (x ∷ bytes) e =
            let many : 0 < length s.bytes = omega (arith, ap length e) in
            let past : 20 ≤ place_where (is_raw k) (laid_parts w n) = raw_past w n k s here in
            let some : header.PointerToRawData ≡ place_where (is_raw k) (laid_parts w n) = ap (λ b. cond b 0 (place_where (is_raw k) (laid_parts w n))) (ne_eqb (length s.bytes) 0 (omega (arith, many))) in
            let pointer : eqb header.PointerToRawData 0 ≡ false = ne_eqb header.PointerToRawData 0 (omega (arith, some, past)) in
            let inside = stands_inside file (raw_of w n k s) (place_where (is_raw k) (laid_parts w n)) (stands_raw w n k s here) in
            let size = numbers.codable.sizes k s here many in
            let own = length-raw w n k s in
            let within : nat_lt (length file) (header.PointerToRawData + s.size) ≡ false = within_file (length file) (header.PointerToRawData + s.size) (omega (arith, some, inside, size, own)) in (
              none_of_three (has (section_flags s (relocs k)) IMAGE_SCN_CNT_UNINITIALIZED_DATA) (eqb s.size 0) (eqb header.PointerToRawData 0) (inr (inr pointer)),
              (ap (λ b. is_stored (kind_in (string_table w n) header) header && b) within ∙ and_false (is_stored (kind_in (string_table w n) header) header), tt),
            )

    -- its relocation table
    table_clean : Unbroken (table_conditions file (made_tables w n) (numbered k s) header)
    unfolding header_at relocation_at
    table_clean = by (is_crowded (relocs k)) refl
      where
        by : (b : Bool) → is_crowded (relocs k) ≡ b → Unbroken (table_conditions file (made_tables w n) (numbered k s) header)
        by true e =
            let at : ℕ = place_where (is_relocs k) (laid_parts w n) in
            let long : 65535 < length (relocs k) = ltb-true 65535 (length (relocs k)) e in
            let capped : min (length (relocs k)) 0xFFFF ≡ 0xFFFF = omega (arith, long) in
            let flag : has (section_flags s (relocs k)) IMAGE_SCN_LNK_NRELOC_OVFL ≡ true = say.overflow ∙ e in
            let some : pointer_to at (length (relocs k)) ≡ at = ap (λ b. cond b 0 at) (ne_eqb (length (relocs k)) 0 (omega (arith, long))) in
            let counted : with_count (relocs k) ≡ count_entry (relocs k) ∷ relocs k = ap (λ b. cond b (count_entry (relocs k) ∷ relocs k) (relocs k)) e in
            let stands : Stands file at (flat_map relocation_bytes (count_entry (relocs k) ∷ relocs k)) = subst (λ rs. Stands file at (flat_map relocation_bytes rs)) counted (stands_relocs w n k s here) in
            let size : length (flat_map relocation_bytes (count_entry (relocs k) ∷ relocs k)) ≡ 10 * length (count_entry (relocs k) ∷ relocs k) = length-table relocation_bytes 10 (count_entry (relocs k) ∷ relocs k) length-relocation_bytes in
            let inside = stands_inside file (flat_map relocation_bytes (count_entry (relocs k) ∷ relocs k)) at stands in
            let first : relocation_at file at ≡ count_entry (relocs k) = relocation_stands file at (count_entry (relocs k)) (stands_front file (relocation_bytes (count_entry (relocs k))) (flat_map relocation_bytes (relocs k)) at stands)
            (numbers.codable.relocs k 0 (count_entry (relocs k)) (ap (λ rs. slice_get rs 0) counted)) in
            let count : number_at file at 4 ≡ length (relocs k) + 1 = ap (λ (r : Relocation). r.VirtualAddress) first in
            rw (capped, flag, some, count) (
              within_file (length file) (at + 10) (omega (arith, inside, size, long)),
              (
                ne_eqb (length (relocs k) + 1) 0 (omega arith),
                (within_file (length file) (at + 10 * (length (relocs k) + 1)) (omega (arith, inside, size)), tt),
              ),
            )
        by false e =
            let at : ℕ = place_where (is_relocs k) (laid_parts w n) in
            let short : length (relocs k) ≤ 65535 = not_below 65535 (length (relocs k)) e in
            let uncapped : min (length (relocs k)) 0xFFFF ≡ length (relocs k) = omega (arith, short) in
            let flag : has (section_flags s (relocs k)) IMAGE_SCN_LNK_NRELOC_OVFL ≡ false = say.overflow ∙ e in
            let counted : with_count (relocs k) ≡ relocs k = ap (λ b. cond b (count_entry (relocs k) ∷ relocs k) (relocs k)) e in
            let stands : Stands file at (flat_map relocation_bytes (relocs k)) = subst (λ rs. Stands file at (flat_map relocation_bytes rs)) counted (stands_relocs w n k s here) in
            let size : length (flat_map relocation_bytes (relocs k)) ≡ 10 * length (relocs k) = length-table relocation_bytes 10 (relocs k) length-relocation_bytes in
            let inside = stands_inside file (flat_map relocation_bytes (relocs k)) at stands in
            let low : pointer_to at (length (relocs k)) ≤ at = elim (eqb (length (relocs k)) 0) as (λ b. cond b 0 at ≤ at) [ true ↦ omega arith | false ↦ omega arith ] in
            rw (flag, uncapped) (within_file (length file) (pointer_to at (length (relocs k)) + 10 * length (relocs k)) (omega (arith, inside, size, low)), tt)

    -- ... copies

    abbrev aux : SectionAux
    aux = section_aux w n k s

    abbrev AreCleanCopies : Option SectionAux → Type 0
    AreCleanCopies d = Unbroken (copy_conditions (made_tables w n) (numbered k s) d)

    known_any : (m : ℕ) → m ≡ 2 → not ((eqb m 1 || eqb m 2) || eqb m 5) ≡ false
    known_any m e = ap (λ m. not ((eqb m 1 || eqb m 2) || eqb m 5)) e

    known_follower : (m : ℕ) → m ≡ 5 → not ((eqb m 1 || eqb m 2) || eqb m 5) ≡ false
    known_follower m e = ap (λ m. not ((eqb m 1 || eqb m 2) || eqb m 5)) e

    -- the section leads its group
    leader_clean : (g : ℕ) → s.group ≡ Some g → leads n k ≡ true → AreCleanCopies (Some aux)
    leader_clean g group lead =
        let any : aux.Selection ≡ 2 = leader_selects w n is numbers.small entries numbers.auxes k s g group lead in
        let key = key_symbol_made w n is numbers.small entries numbers.auxes k s here lead in
        let found : is_none (key_symbol (entries_in (made_tables w n)) (k + 1)) ≡ false = ap (λ es. is_none (key_symbol es (k + 1))) entries ∙ ap is_none key.5 in (
          known_any aux.Selection any,
          (
            ap (λ m. eqb m 5 && not (names_another (made_tables w n) (k + 1) (Some aux))) any,
            (
              ap (λ m. eqb m 5 && follows_follower (made_tables w n) (Some aux)) any,
              (ap (λ b. eqb aux.Selection 2 && b) found ∙ and_false (eqb aux.Selection 2), tt),
            ),
          ),
        )

    -- it is kept with the section that does
    follower_clean : (g : ℕ) → s.group ≡ Some g → leads n k ≡ false → AreCleanCopies (Some aux)
    unfolding made_tables
    follower_clean g group lead =
        let five : aux.Selection ≡ 5 = member_selects w n is numbers.small entries numbers.auxes k s g group lead in
        let x = leader_of n g ((is.meets.sections k s here).led g group) in
        let number : aux.Number ≡ x.position + 1 = member_kept w n is numbers.small entries numbers.auxes k s g group lead ∙ x.number in
        let low : x.position < length n.sections = slice_get_within n.sections x.position x.section x.here in
        let count : length (map (made_table w n) (enumerate_from 0 n.sections)) ≡ length n.sections = length-map (enumerate_from 0 n.sections) (made_table w n) ∙ length-enumerate_from 0 n.sections in
        let other : x.position ≢ k = λ e. true≢false (sym x.leads ∙ ap (leads n) e ∙ lead) in
        let another : names_another (made_tables w n) (k + 1) (Some aux) ≡ true
        = ap (λ m. (nat_le 1 m && nat_le m (length (map (made_table w n) (enumerate_from 0 n.sections)))) && not (eqb m (k + 1))) number
        ∙ ap (λ b. (b && nat_le (x.position + 1) (length (map (made_table w n) (enumerate_from 0 n.sections)))) && not (eqb (x.position + 1) (k + 1))) (le-leb 1 (x.position + 1) (omega arith))
        ∙ ap (λ b. b && not (eqb (x.position + 1) (k + 1))) (le-leb (x.position + 1) (length (map (made_table w n) (enumerate_from 0 n.sections))) (omega (arith, low, count)))
        ∙ ap not (ne_eqb (x.position + 1) (k + 1) (λ e. other (omega (arith, e)))) in
        let leader : definition_in (made_tables w n) aux.Number ≡ Some (section_aux w n x.position x.section)
        = ap (definition_in (made_tables w n)) number ∙ definition_some w n is numbers.small entries numbers.auxes x.position x.section g x.here x.group in
        let any : (section_aux w n x.position x.section).Selection ≡ 2 = leader_selects w n is numbers.small entries numbers.auxes x.position x.section g x.group x.leads in
        let leads_it : follows_follower (made_tables w n) (Some aux) ≡ false = ap (selects 5) leader ∙ ap (λ m. eqb m 5) any in (
          known_follower aux.Selection five,
          (
            ap (λ b. eqb aux.Selection 5 && not b) another ∙ and_false (eqb aux.Selection 5),
            (
              ap (λ b. eqb aux.Selection 5 && b) leads_it ∙ and_false (eqb aux.Selection 5),
              (ap (λ m. eqb m 2 && is_none (key_symbol (entries_in (made_tables w n)) (k + 1))) five, tt),
            ),
          ),
        )

    copies_clean : is_some s.group ≡ true → AreCleanCopies (definition_in (made_tables w n) (k + 1))
    copies_clean some = by s.group refl (leads n k) refl some
      where
        by : (o : Option ℕ) → s.group ≡ o → (b : Bool) → leads n k ≡ b → is_some o ≡ true → AreCleanCopies (definition_in (made_tables w n) (k + 1))
        by None group b lead some = absurd (true≢false (sym some))
        by (Some g) group true lead some = subst AreCleanCopies (sym (definition_some w n is numbers.small entries numbers.auxes k s g here group)) (leader_clean g group lead)
        by (Some g) group false lead some = subst AreCleanCopies (sym (definition_some w n is numbers.small entries numbers.auxes k s g here group)) (follower_clean g group lead)

    -- what the header says
    flags_header : header.Characteristics ≡ section_flags s (relocs k)
    unfolding header_at
    flags_header = refl

    no_address : header.VirtualAddress ≡ 0
    unfolding header_at
    no_address = refl

    kind_made : kind_in (made_tables w n).strings header ≡ Some (seen_kind s)
    unfolding made_tables
    kind_made = kind_read w n numbers.small k s here (coded_section w n is k s here)

    name_made : section_name (made_tables w n).strings header.Name ≡ Some s.name
    unfolding made_tables
    name_made = name_read w n numbers.small k s here (coded_section w n is k s here)

    size_made : carried_size (made_tables w n) (made_table w n (k, s)) ≡ s.size
    size_made = ap (λ o. cond (is_some o) header.SizeOfRawData 0) kind_made ∙ sized w n numbers.small k s here (coded_section w n is k s here)

    bytes_made : carried_bytes (made_tables w n) (made_table w n (k, s)) ≡ stored_size s
    bytes_made =
        ap (λ o. option_map_or (λ (kind : Kind). cond (same_kind Zero kind) 0 header.SizeOfRawData) o 0) kind_made
        ∙ ap (λ m. cond (same_kind Zero (seen_kind s)) 0 m) (sized w n numbers.small k s here (coded_section w n is k s here))
        ∙ ap (λ b. cond b 0 s.size) (coded_section w n is k s here).zeros

  -- ... limits

  table_at : (k : ℕ) (s : Section) → slice_get n.sections k ≡ Some s → slice_get (made_tables w n).sections k ≡ Some (made_table w n (k, s))
  unfolding made_tables
  table_at k s here =
      let e : 0 + k ≡ k = omega arith in
      member_map (made_table w n) (enumerate_from 0 n.sections) k (0 + k, s) (member_enumerated 0 n.sections k s here) ∙ ap (λ i. Some (made_table w n (i, s))) e

  table_past : (k : ℕ) → length n.sections ≤ k → slice_get (made_tables w n).sections k ≡ None
  unfolding made_tables
  table_past k high =
      let count : length (map (made_table w n) (enumerate_from 0 n.sections)) ≡ length n.sections = length-map (enumerate_from 0 n.sections) (made_table w n) ∙ length-enumerate_from 0 n.sections in
      slice_get_past (map (made_table w n) (enumerate_from 0 n.sections)) k (omega (arith, high, count))

  worth_low : (worth : SectionTable → ℕ) (own : Section → ℕ) → ((k : ℕ) (s : Section) → slice_get n.sections k ≡ Some s → worth (made_table w n (k, s)) ≡ own s)
      → (k : ℕ) → worth_by worth (made_tables w n) k ≤ option_map_or own (slice_get n.sections k) 0
  worth_low worth own same k = elim (cases_lt k (length n.sections)) [
    | inl low ↦
        let s = there_at n.sections k low in
        let a : worth_by worth (made_tables w n) k ≡ own s.0 = ap (λ o. option_map_or worth o 0) (table_at k s.0 s.1) ∙ same k s.0 s.1 in
        let b : option_map_or own (slice_get n.sections k) 0 ≡ own s.0 = ap (λ o. option_map_or own o 0) s.1 in
        omega (arith, a, b)
    | inr high ↦
        let a : worth_by worth (made_tables w n) k ≡ 0 = ap (λ o. option_map_or worth o 0) (table_past k (omega (arith, high))) in
        omega (arith, a)
  ]

  sum_low : (worth : SectionTable → ℕ) (own : Section → ℕ) → ((k : ℕ) (s : Section) → slice_get n.sections k ≡ Some s → worth (made_table w n (k, s)) ≡ own s)
      → (i : ℕ) → sum_upto (worth_by worth (made_tables w n)) i ≤ sum_by own n.sections
  sum_low worth own same i =
      let a = upto_less (worth_by worth (made_tables w n)) (λ k. option_map_or own (slice_get n.sections k) 0) i (worth_low worth own same) in
      let b = upto_all own n.sections i in
      omega (arith, a, b)

  limits_clean : (k : ℕ) (s : Section) → slice_get n.sections k ≡ Some s → Unbroken (limit_conditions (made_tables w n) k (numbered k s))
  limits_clean k s here =
      let limits = is.object.built.limits in
      let own = (coded_section w n is k s here).size in
      let size = size_made k s here in
      let sizes = sum_low (carried_size (made_tables w n)) (λ (x : Section). x.size) size_made (suc k) in
      let stored = sum_low (carried_bytes (made_tables w n)) stored_size bytes_made (suc k) in
      let all = limits.sum in
      let bytes = limits.bytes in (
        within_file 2147483647 (carried_size (made_tables w n) (made_table w n (k, s))) (omega (arith, own, size)),
        (
          within_file 2147483648 (sum_upto (worth_by (carried_size (made_tables w n)) (made_tables w n)) k + worth_by (carried_size (made_tables w n)) (made_tables w n) k) (omega (arith, sizes, all)),
          (within_file 67108864 (sum_upto (worth_by (carried_bytes (made_tables w n)) (made_tables w n)) k + worth_by (carried_bytes (made_tables w n)) (made_tables w n) k) (omega (arith, stored, bytes)), tt),
        ),
      )

  -- ... a section

  one_section_clean : (k : ℕ) (s : Section) → slice_get n.sections k ≡ Some s → Unbroken (section_conditions file (made_tables w n) k (numbered k s))
  unfolding section_conditions
  one_section_clean k s here =
      let f = say k s here in
      let flags = flags_header k s here in
      let t : Tables = made_tables w n in
      let x : Numbered = numbered k s in
      let h : SectionHeader = header_at w n (k, s) in
      let copies : List Condition = cond (is_comdat h) (copy_conditions t x (definition_in t (k + 1))) [] in
      let limits : List Condition = cond (is_some (kind_in t.strings h)) (limit_conditions t k x) [] in (
        ap is_none (name_made k s here),
        unbroken_append copies _ (by k s here (is_comdat h) (comdat_header w n is numbers.small entries numbers.auxes k s here)) (
          ap (λ a. not (eqb a 0)) (no_address k s here),
          (
            ap (λ g. eqb (align_bits g) 15) flags ∙ f.fifteen,
            unbroken_append (raw_conditions file t x h) (table_conditions file t x h ++ limits) (raw_clean k s here)
                (unbroken_append (table_conditions file t x h) limits (table_clean k s here)
                (subst (λ o. Unbroken (cond (is_some o) (limit_conditions t k x) [])) (sym (kind_made k s here)) (limits_clean k s here))),
          ),
        ),
      )
    where
      by : (k : ℕ) (s : Section) → slice_get n.sections k ≡ Some s → (b : Bool) → b ≡ is_some s.group
          → Unbroken (cond b (copy_conditions (made_tables w n) (numbered k s) (definition_in (made_tables w n) (k + 1))) [])
      by k s here true e = copies_clean k s here (sym e)
      by k s here false e = tt

  -- the sections
  pub sections_clean : IsUnbroken (section_stage file (made_tables w n))
  unfolding made_tables
  sections_clean i l =
      let count : length (map (made_table w n) (enumerate_from 0 n.sections)) ≡ length n.sections = length-map (enumerate_from 0 n.sections) (made_table w n) ∙ length-enumerate_from 0 n.sections in
      let s = there_at n.sections i (omega (arith, l, count)) in
      let g : ℕ × Section → ℕ × SectionTable = λ x. (x.0 + 1, made_table w n x) in
      let one : 0 + 1 ≡ 1 = omega arith in
      let e : 0 + i ≡ i = omega arith in
      let here : slice_get (enumerate_from 1 (map (made_table w n) (enumerate_from 0 n.sections))) i ≡ Some (i + 1, made_table w n (i, s.0))
      = ap (λ xs. slice_get xs i) (ap (λ j. enumerate_from j (map (made_table w n) (enumerate_from 0 n.sections))) (sym one) ∙ enumerated_again (made_table w n) 0 n.sections)
      ∙ member_map g (enumerate_from 0 n.sections) i (0 + i, s.0) (member_enumerated 0 n.sections i s.0 s.1) ∙ ap (λ j. Some (j + 1, made_table w n (j, s.0))) e in
      subst (λ o. Unbroken (option_map_or (section_conditions file (made_tables w n) i) o [])) (sym here) (one_section_clean i s.0 s.1)
