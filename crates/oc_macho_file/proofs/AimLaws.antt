-- The entries of a canonical file refer to the targets of their relocations.
use Rattle.std.proofs.Common.{◌≡◌, ℕ, ◌+◌, ◌-◌, ◌<◌, ◌≤◌, true, false, ◌&&◌, cond, eqb, List, [], Some, None, refl, sym, ◌∙◌, ap, inl, inr, arith}
use Rattle.std.specs.{Prelude.{slice_get, nat_eq, nat_le, nat_lt, bytes_eq, find}, List.{enumerate_from}}
use Rattle.std.specs.Option.{option_map, option_map_or, option_and_then, unwrap_or}
use Rattle.std.proofs.lemmas.{Bool.{eq-eqb, ne_eqb}, Bool.Decides.{nat_tests}, Slice.Eq.{bytes_eq-Decides}}
use Rattle.oc_base.specs.{declared.format.Word.{Word}, declared.format.Word.TheVariants.{W64}}
use Rattle.oc_linking.specs.Numbers.{or_else}
use Rattle.oc_neutral.specs.{declared.section.Section.{Section}, Mach.SectionSymbols.{section_symbol_name}, Objects.{Object}}
use Rattle.oc_shelf.proofs.WritingLaws.MemberLemmas.{member_map, member_enumerated, of_map, find_first, of_enumerated}
use Rattle.oc_macho.specs.{declared.section_header.SectionHeader.{SectionHeader}, Tables.{SectionTable, Tables}}
use Rattle.oc_macho.specs.{Sections.{header_numbered, holder_of, lies_in, lies_at}, Symbols.{name_of, is_own_in, is_own, symbol_of}}
use Rattle.oc_macho.specs.Aims.{section_aim, symbol_aim, numbered_aim, aim_of, aim_in}
use Rattle.oc_macho.specs.declared.relocation_info.Reference.TheVariants as reference
use Rattle.oc_macho.specs.Sections as read
use Rattle.oc_macho_file.specs.{Addresses.{address_of}, Lines.{Line, OwnLine, lines_of, numbered_lines, own_number}, Symbols.{line_entry, own_entry}}
use Rattle.oc_macho_file.specs.Canonical.{section_header}
use Rattle.oc_macho_file.proofs.{TableLaws.{made_table, made_sections, made_tables}, CodedLaws.{IsForMach}, LineLaws.{own_found}, NameLaws.{line_named}}
use Rattle.oc_macho_file.proofs.{SectionLaws.{header_made, address_made, table_at}, AddressLaws.{sections_apart}, PinLaws.{Needed}}

pub same_bytes : (m : List ℕ) → bytes_eq m m ≡ true
same_bytes m = grind (arith, bytes_eq-Decides)

lies_true : (a v size : ℕ) → a ≤ v → v < a + size → (nat_le a v && nat_lt v (a + size)) ≡ true
lies_true a v size low high = grind (arith, nat_tests, low, high)

lies_false : (a v size : ℕ) → (a + size ≤ v) → (nat_le a v && nat_lt v (a + size)) ≡ false
lies_false a v size far = grind (arith, nat_tests, far)

lies_below : (a v size : ℕ) → v < a → (nat_le a v && nat_lt v (a + size)) ≡ false
lies_below a v size far = grind (arith, nat_tests, far)

module _ (w : Word) (n : Object) (is : IsForMach w n) where
  abbrev t : Tables
  t = made_tables w n

  -- the symbol at a number is the entry of its line
  pub entry_there : (j : ℕ) (x : Line) → slice_get (lines_of w n) j ≡ Some x → slice_get t.symbols j ≡ Some (line_entry w n x)
  unfolding made_tables
  entry_there j x here = member_map (line_entry w n) (lines_of w n) j x here

  -- in 64 bits the symbol of a section is one
  pub own_is : w ≡ W64 → (k j : ℕ) (s : Section) → slice_get (lines_of w n) j ≡ Some (OwnLine k) → slice_get n.sections k ≡ Some s → is_own t (line_entry w n (OwnLine k)) ≡ true
  unfolding is_own made_tables line_entry section_header
  own_is e k j s here there =
      let name : name_of t (line_entry w n (OwnLine k)) ≡ section_symbol_name (k + 1) = ap (λ o. unwrap_or o []) (line_named w n is j (OwnLine k) here) in
      ap (λ v. is_own_in v t (own_entry w n k)) e
      ∙ ap (λ o. option_map_or (λ (h : SectionHeader). nat_eq (address_of n k) h.addr) o false && bytes_eq (name_of t (own_entry w n k)) (section_symbol_name (k + 1))) (header_made w n k s there)
      ∙ ap (λ b. b && bytes_eq (name_of t (own_entry w n k)) (section_symbol_name (k + 1))) (eq-eqb (address_of n k) (address_of n k) refl)
      ∙ ap (λ m. bytes_eq m (section_symbol_name (k + 1))) name ∙ same_bytes (section_symbol_name (k + 1))

  -- so an entry that names it refers to the section
  pub own_aimed : w ≡ W64 → (k : ℕ) (s : Section) → slice_get n.sections k ≡ Some s → Needed n k → aim_in t (reference.Symbol (own_number (numbered_lines w n) k)) ≡ Some (Some (section_aim t k None))
  unfolding aim_in line_entry
  own_aimed e k s there needed =
      let here = own_found w n e k needed.0 needed.1 in
      let one : k + 1 - 1 ≡ k = omega arith in
      ap (option_and_then (aim_of t (own_number (numbered_lines w n) k))) (entry_there (own_number (numbered_lines w n) k) (OwnLine k) here)
      ∙ ap (λ b. cond b (Some (Some (section_aim t (k + 1 - 1) None))) (option_map symbol_aim (symbol_of t false (own_number (numbered_lines w n) k) (own_entry w n k)))) (own_is e k (own_number (numbered_lines w n) k) s here there)
      ∙ ap (λ i. Some (Some (section_aim t i None))) one

  -- an entry that names a section by its number refers to it, and counts its address
  pub numbered_aimed : (k : ℕ) (s : Section) → slice_get n.sections k ≡ Some s → numbered_aim t (k + 1) ≡ Some (Some (section_aim t k (Some (address_of n k))))
  numbered_aimed k s there =
      let some : eqb (k + 1) 0 ≡ false = ne_eqb (k + 1) 0 (λ h. omega (arith, h)) in
      let one : k + 1 - 1 ≡ k = omega arith in
      ap (λ b. cond b (Some None) (option_map (λ h. Some (section_aim t (k + 1 - 1) (Some (read.address_of t (k + 1))))) (header_numbered t (k + 1)))) some
      ∙ ap (option_map (λ h. Some (section_aim t (k + 1 - 1) (Some (read.address_of t (k + 1)))))) (header_made w n k s there)
      ∙ ap (λ i. Some (Some (section_aim t i (Some (read.address_of t (k + 1)))))) one
      ∙ ap (λ a. Some (Some (section_aim t k (Some a)))) (address_made w n k s there)

  pub section_aimed : (k : ℕ) (s : Section) → slice_get n.sections k ≡ Some s → aim_in t (reference.Section (k + 1)) ≡ Some (Some (section_aim t k (Some (address_of n k))))
  unfolding aim_in
  section_aimed k s there = numbered_aimed k s there

  -- the first address of a section that has bytes is held by it alone
  pub holder_is : (k : ℕ) (s : Section) → slice_get n.sections k ≡ Some s → 0 < s.size → holder_of t (address_of n k) ≡ Some (k + 1)
  unfolding holder_of made_tables section_header
  holder_is k s there some =
      ap (λ o. option_map (λ (x : ℕ × SectionTable). x.0) (or_else o (find (lies_at (address_of n k)) (enumerate_from 1 (made_sections w n)))))
      (find_first (lies_in (address_of n k)) (enumerate_from 1 (made_sections w n)) k (1 + k, made_table w n (k, s)) (member_enumerated 1 (made_sections w n) k (made_table w n (k, s)) (table_at w n k s there))
      (lies_true (address_of n k) (address_of n k) s.size (omega arith) (omega (arith, some))) before)
      ∙ ap Some (by k)
    where
      by : (k : ℕ) → 1 + k ≡ k + 1
      by k = omega arith

      before : (j : ℕ) (y : ℕ × SectionTable) → j < k → slice_get (enumerate_from 1 (made_sections w n)) j ≡ Some y → lies_in (address_of n k) y ≡ false
      before j y low h =
          let e = of_enumerated 1 (made_sections w n) j y h in
          let z = other j y.1 e.1 in
          ap (λ (x : SectionTable). lies_in (address_of n k) (y.0, x)) z.2
          ∙ elim (sections_apart n j k z.0 s z.1 there (λ same. omega (arith, low, same))) [
            | inl far ↦ lies_false (address_of n j) (address_of n k) z.0.size far
            | inr far ↦ lies_below (address_of n j) (address_of n k) z.0.size (omega (arith, far, some))
          ]
        where
          other : (j : ℕ) (x : SectionTable) → slice_get (made_sections w n) j ≡ Some x → (a : Section) × (slice_get n.sections j ≡ Some a) × (x ≡ made_table w n (j, a))
          other j x h =
              let f = of_map (made_table w n) (enumerate_from 0 n.sections) j x h in
              let g = of_enumerated 0 n.sections j f.0 f.1 in
              let e : f.0.0 ≡ j = omega (arith, g.0) in
              (f.0.1, g.1, sym f.2 ∙ ap (λ i. made_table w n (i, f.0.1)) e)

  pub address_aimed : (k : ℕ) (s : Section) → slice_get n.sections k ≡ Some s → 0 < s.size → aim_in t (reference.Address (address_of n k)) ≡ Some (Some (section_aim t k (Some (address_of n k))))
  unfolding aim_in
  address_aimed k s there some = ap (option_and_then (numbered_aim t)) (holder_is k s there some) ∙ numbered_aimed k s there
