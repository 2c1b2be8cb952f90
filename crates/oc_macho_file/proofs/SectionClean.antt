-- The section headers of a canonical file are well formed.
use Rattle.std.proofs.Common.{◌≡◌, ℕ, zero, suc, ◌+◌, ◌-◌, ◌*◌, ◌^◌, ◌≤◌, Bool, true, false, not, ◌&&◌, ◌||◌, cond, List, [], ◌∷◌, length, take, Some, refl, sym, ◌∙◌, ap, subst, arith}
use Rattle.std.specs.{Prelude.{slice_get, nat_lt, flat_map}, List.{list_any, sum_by, before_first, position_or_len}, Option.{option_map_or}}
use Rattle.std.proofs.lemmas.{Bool.{ne_eqb}, Option.{slice_get_within}}
use Rattle.oc_base.specs.{declared.format.Word.{Word}, declared.format.Word.TheVariants.{W32, W64}}
use Rattle.oc_base.proofs.NumberLaws.{length-table}
use Rattle.oc_linking.specs.{declared.terms.Kind.{Kind}, declared.terms.Kind.TheVariants.{Zero}, Numbers.{modulus}}
use Rattle.oc_neutral.specs.{declared.section.Section.{Section}, Building.{is_zero, stored_size}, KindRules.{same_kind}}
use Rattle.oc_neutral.specs.{Mach.Kinds.{is_comma, is_read_type, is_zerofill_tag, mach_kind, segment_of}, Objects.{Object}}
use Rattle.oc_neutral.specs.Mach.Kinds as kinds
use Rattle.oc_neutral.proofs.Positions.{there_at}
use Rattle.oc_shelf.specs.Reading.Sums.{sum_upto}
use Rattle.oc_shelf.proofs.{ReadingLaws.StageLemmas.{Unbroken, IsUnbroken, unbroken_append}, WritingLaws.StandingLemmas.{stands_inside}}
use Rattle.oc_shelf.proofs.WritingLaws.SizeLemmas.{sum_list, sum_rises}
use Rattle.oc_macho.specs.{declared.section_header.SectionHeader.{SectionHeader}, Sections.{kind_of, until_nul}, Tables.{SectionTable, Tables}}
use Rattle.oc_macho.specs.SectionFaults.{is_odd, stored_of, size_at, stored_at, place_conditions, own_conditions, limit_conditions, section_conditions, section_stage}
use Rattle.oc_macho.specs.Structures.{padded, relocation_bytes}
use Rattle.oc_macho_file.specs.{Addresses.{address_of}, Bodies.{raw_of}, Layout.{relocs_of, part_where, is_raw, is_relocs}, Symbols.{exponent_of}}
use Rattle.oc_macho_file.specs.Canonical.{pointer_to, section_header, mach_file}
use Rattle.oc_macho_file.proofs.{StructureLaws.{length-relocation_bytes}, PartLaws.{length-raw, stands_raw, stands_relocs}, TableLaws.{made_tables}}
use Rattle.oc_macho_file.proofs.{CodedLaws.{IsForMach, meets_section, size_low, exponent_low, stored_all}, NameLaws.{segment_read, section_read}}
use Rattle.oc_macho_file.proofs.{SectionLaws.{table_at, length-tables}, AddressLaws.{memory_low, address_low}, HeaderClean.{within_file}}

-- no comma stands before the first
no_comma : (name : List ℕ) → list_any is_comma (before_first is_comma name) ≡ false
no_comma [] = refl
no_comma (c ∷ name) = by (is_comma c) refl (no_comma name)
  where
    m : ℕ
    m = position_or_len is_comma name

    by : (b : Bool) → is_comma c ≡ b → list_any is_comma (take m name) ≡ false → list_any is_comma (take (cond (not b) (1 + m) 0) (c ∷ name)) ≡ false
    by true e rest = refl
    by false e rest =
        let one : 1 + m ≡ suc m = omega arith in
        ap (λ (k : ℕ). list_any is_comma (take k (c ∷ name))) one ∙ ap (λ b. b || list_any is_comma (take m name)) e ∙ rest

-- ... running sums

-- what is counted up to and with a position
counted_low : {X : Type 0} (worth : ℕ → ℕ) (size : X → ℕ) (xs : List X) → ((k : ℕ) (x : X) → slice_get xs k ≡ Some x → worth k ≤ size x)
    → (k : ℕ) (x : X) → slice_get xs k ≡ Some x → sum_upto worth k + worth k ≤ sum_by size xs
counted_low worth size xs each k x here =
    let low = slice_get_within xs k x here in
    let all = sum_list worth size 0 xs (λ j y h. let z : 0 + j ≡ j = omega arith in let e = ap worth z in let l = each j y h in omega (arith, e, l)) in
    let e : sum_upto worth (suc k + (length xs - suc k)) ≡ sum_upto worth (0 + length xs)
    = (let z : suc k + (length xs - suc k) ≡ 0 + length xs = omega (arith, low) in ap (sum_upto worth) z) in
    let rest = sum_rises worth (suc k) (length xs - suc k) in
    omega (arith, all, e, rest)

same_zero : (k : Kind) → same_kind k Zero ≡ is_zero k
same_zero k = grind arith

module _ (w : Word) (n : Object) (is : IsForMach w n) where
  abbrev t : Tables
  t = made_tables w n

  abbrev head : ℕ → Section → SectionHeader
  head k s = section_header w n (k, s)

  -- ... places

  bytes_inside : (k : ℕ) (s : Section) → slice_get n.sections k ≡ Some s → (not (is_zerofill_tag s.tag) && nat_lt (length (mach_file w n)) (part_where w n (is_raw k) + s.size)) ≡ false
  bytes_inside k s here = by (is_zerofill_tag s.tag) refl
    where
      by : (b : Bool) → is_zerofill_tag s.tag ≡ b → (not b && nat_lt (length (mach_file w n)) (part_where w n (is_raw k) + s.size)) ≡ false
      by true e = refl
      by false e =
          let f = stored_all w n is k s here e in
          let inside = stands_inside (mach_file w n) (raw_of w n k s) (part_where w n (is_raw k)) (stands_raw w n k s here f.0) in
          let raw = length-raw w n k s in
          let size = f.1 in
          within_file (length (mach_file w n)) (part_where w n (is_raw k) + s.size) (omega (arith, inside, raw, size))

  entries_inside : (k : ℕ) (s : Section) → slice_get n.sections k ≡ Some s → nat_lt (length (mach_file w n)) (pointer_to (part_where w n (is_relocs k)) (length (relocs_of w n k)) + 8 * length (relocs_of w n k)) ≡ false
  entries_inside k s here =
      let inside = stands_inside (mach_file w n) (flat_map relocation_bytes (relocs_of w n k)) (part_where w n (is_relocs k)) (stands_relocs w n k s here) in
      let size = length-table relocation_bytes 8 (relocs_of w n k) length-relocation_bytes in
      by (part_where w n (is_relocs k)) (length (relocs_of w n k)) (length (flat_map relocation_bytes (relocs_of w n k))) inside size
    where
      by : (at m a : ℕ) → at + a ≤ length (mach_file w n) → a ≡ 8 * m → nat_lt (length (mach_file w n)) (pointer_to at m + 8 * m) ≡ false
      by at zero a inside size = within_file (length (mach_file w n)) (0 + 8 * 0) (omega arith)
      by at (suc m) a inside size =
          ap (λ b. nat_lt (length (mach_file w n)) (cond b 0 at + 8 * suc m)) (ne_eqb (suc m) 0 (λ e. omega (arith, e))) ∙ within_file (length (mach_file w n)) (at + 8 * suc m) (omega (arith, inside, size))

  place_clean : (k : ℕ) (s : Section) → slice_get n.sections k ≡ Some s → Unbroken (place_conditions t k (head k s))
  unfolding made_tables section_header
  place_clean k s here = (bytes_inside k s here, (entries_inside k s here, tt))

  -- ... headers

  plain_head : (k : ℕ) (s : Section) → slice_get n.sections k ≡ Some s → is_odd (head k s) ≡ false
  unfolding section_header
  plain_head k s here =
      ap (λ name. list_any is_comma name || not (is_read_type s.tag)) (segment_read w n is k s here)
      ∙ ap (λ b. b || not (is_read_type s.tag)) (no_comma s.name) ∙ ap not (meets_section w n is k s here).type

  below : (k : ℕ) (s : Section) → slice_get n.sections k ≡ Some s → nat_lt (modulus w) (address_of n k + s.size) ≡ false
  below k s here = by w
    where
      by : (v : Word) → nat_lt (modulus v) (address_of n k + s.size) ≡ false
      by W32 = let l = address_low w n is k s here in let m = memory_low w n is in within_file (2 ^ 32) (address_of n k + s.size) (omega (arith, l, m))
      by W64 = let l = address_low w n is k s here in let m = memory_low w n is in within_file (2 ^ 64) (address_of n k + s.size) (omega (arith, l, m))

  own_clean : (k : ℕ) (s : Section) → slice_get n.sections k ≡ Some s → Unbroken (own_conditions t k (head k s))
  unfolding own_conditions made_tables section_header
  own_clean k s here =
      (within_file 15 (exponent_of s.align) (exponent_low s.align (meets_section w n is k s here).align), (plain_head k s here, (below k s here, place_clean k s here)))

  -- ... limits

  size_is : (k : ℕ) (s : Section) → slice_get n.sections k ≡ Some s → size_at t k ≡ s.size
  unfolding made_tables section_header
  size_is k s here = ap (λ o. option_map_or (λ (x : SectionTable). x.header.size) o 0) (table_at w n k s here)

  stored_is : (k : ℕ) (s : Section) → slice_get n.sections k ≡ Some s → stored_of (head k s) ≡ stored_size s
  unfolding kind_of section_header
  stored_is k s here =
      ap (λ x. cond (same_kind (mach_kind x (until_nul (padded (kinds.section_of s.name))) s.tag) Zero) 0 s.size) (segment_read w n is k s here)
      ∙ ap (λ x. cond (same_kind (mach_kind (segment_of s.name) x s.tag) Zero) 0 s.size) (section_read w n is k s here)
      ∙ ap (λ b. cond b 0 s.size) (same_zero (mach_kind (segment_of s.name) (kinds.section_of s.name) s.tag) ∙ (meets_section w n is k s here).kind.zero)

  stored_at_is : (k : ℕ) (s : Section) → slice_get n.sections k ≡ Some s → stored_at t k ≡ stored_size s
  unfolding made_tables
  stored_at_is k s here = ap (λ o. option_map_or (λ (x : SectionTable). stored_of x.header) o 0) (table_at w n k s here) ∙ stored_is k s here

  limits_clean : (k : ℕ) (s : Section) → slice_get n.sections k ≡ Some s → Unbroken (limit_conditions t k (head k s))
  unfolding limit_conditions section_header
  limits_clean k s here =
      let most = size_low w n is k s here in
      let sizes = counted_low (size_at t) (λ (x : Section). x.size) n.sections (λ j y h. let e = size_is j y h in omega (arith, e)) k s here in
      let size = size_is k s here in
      let sum = is.object.built.limits.sum in
      let all = counted_low (stored_at t) stored_size n.sections (λ j y h. let e = stored_at_is j y h in omega (arith, e)) k s here in
      let own = stored_at_is k s here in
      let own_header = stored_is k s here in
      let bytes = is.object.built.limits.bytes in (
        within_file 2147483647 s.size most,
        (
          within_file 2147483648 (sum_upto (size_at t) k + s.size) (omega (arith, sizes, size, sum)),
          (within_file 67108864 (sum_upto (stored_at t) k + stored_of (head k s)) (omega (arith, all, own, own_header, bytes)), tt),
        ),
      )

  -- ... all

  pub sections_clean : IsUnbroken (section_stage t)
  unfolding section_conditions made_tables
  sections_clean i low =
      let count = length-tables w n in
      let x = there_at n.sections i (omega (arith, low, count)) in
      subst (λ o. Unbroken (option_map_or (section_conditions t i) o [])) (sym (table_at w n i x.0 x.1))
      (unbroken_append (own_conditions t i (head i x.0)) (limit_conditions t i (head i x.0)) (own_clean i x.0 x.1) (limits_clean i x.0 x.1))
