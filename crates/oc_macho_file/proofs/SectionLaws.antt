-- The sections of a canonical file are those of the object.
use Rattle.std.proofs.Common.{◌≡◌, ℕ, suc, ◌+◌, ◌-◌, ◌^◌, Bool, false, cond, eqb, List, [], ◌∷◌, length, map, replicate, Some, None, refl, sym, ◌∙◌, ap, arith}
use Rattle.std.specs.{Prelude.{slice_get}, List.{enumerate_from}, Option.{option_map, option_map_or}}
use Rattle.std.proofs.lemmas.{Bool.{ne_eqb}, List.{length-map}, List.FromFn.{length-enumerate_from}}
use Rattle.oc_base.specs.declared.format.Word.{Word}
use Rattle.oc_linking.specs.declared.terms.Kind.{Kind}
use Rattle.oc_linking.specs.Parts as parts
use Rattle.oc_neutral.specs.{declared.section.Section.{Section}, Mach.Kinds.{mach_name, mach_kind, mach_tag, segment_of, is_zerofill_tag}, Objects.{Object}}
use Rattle.oc_neutral.specs.Mach.Kinds as kinds
use Rattle.oc_shelf.proofs.WritingLaws.MemberLemmas.{member_map, member_enumerated}
use Rattle.oc_macho.specs.{declared.section_header.SectionHeader.{SectionHeader}, Tables.{SectionTable}}
use Rattle.oc_macho.specs.{Sections.{until_nul, kind_of, contents_of, section_of, sections_in, header_numbered}, Structures.{padded}}
use Rattle.oc_macho.specs.Sections as read
use Rattle.oc_macho_file.specs.{Addresses.{Numbered, address_of}, Bodies.{raw_of}, Symbols.{exponent_of}, Canonical.{section_header}}
use Rattle.oc_macho_file.proofs.{TableLaws.{made_table, made_sections, made_tables}, CodedLaws.{IsForMach, meets_section, power_back}}
use Rattle.oc_macho_file.proofs.NameLaws.{segment_read, section_read}

-- the contents that the file has of the section at a position
abbrev pub made_contents : Word → Object → Numbered → List ℕ
made_contents w n x = cond (is_zerofill_tag x.1.tag) (replicate x.1.size 0) (raw_of w n x.0 x.1)

-- the section at a position, as it is read
abbrev pub made_section : Word → Object → Numbered → parts.Section
made_section w n x = record {
  name = x.1.name;
  kind = mach_kind (segment_of x.1.name) (kinds.section_of x.1.name) x.1.tag;
  align = x.1.align;
  size = x.1.size;
  contents = made_contents w n x;
  tag = x.1.tag;
  number = 1 + x.0;
  group = None;
}

abbrev pub made : Word → Object → List parts.Section
made w n = map (made_section w n) (enumerate_from 0 n.sections)

framed : ℕ → ℕ → List ℕ → List ℕ → Kind → ℕ → ℕ → parts.Section
framed size number contents name kind align tag = record { name = name; kind = kind; align = align; size = size; contents = contents; tag = tag; number = number; group = None }

-- a table of the file
pub table_at : (w : Word) (n : Object) (k : ℕ) (s : Section) → slice_get n.sections k ≡ Some s → slice_get (made_sections w n) k ≡ Some (made_table w n (k, s))
table_at w n k s here =
    let e : 0 + k ≡ k = omega arith in
    member_map (made_table w n) (enumerate_from 0 n.sections) k (0 + k, s) (member_enumerated 0 n.sections k s here) ∙ ap (λ i. Some (made_table w n (i, s))) e

pub length-tables : (w : Word) (n : Object) → length (made_sections w n) ≡ length n.sections
length-tables w n = length-map (enumerate_from 0 n.sections) (made_table w n) ∙ length-enumerate_from 0 n.sections

-- the header of a number
pub header_made : (w : Word) (n : Object) (k : ℕ) (s : Section) → slice_get n.sections k ≡ Some s → header_numbered (made_tables w n) (k + 1) ≡ Some (section_header w n (k, s))
unfolding made_tables
header_made w n k s here =
    let none : eqb (k + 1) 0 ≡ false = ne_eqb (k + 1) 0 (λ e. omega (arith, e)) in
    let one : k + 1 - 1 ≡ k = omega arith in
    ap (λ b. cond b None (option_map (λ (x : SectionTable). x.header) (slice_get (made_sections w n) (k + 1 - 1)))) none
    ∙ ap (λ j. option_map (λ (x : SectionTable). x.header) (slice_get (made_sections w n) j)) one
    ∙ ap (option_map (λ (x : SectionTable). x.header)) (table_at w n k s here)

-- the address that the file gives to a section is the one that the layout gives
pub address_made : (w : Word) (n : Object) (k : ℕ) (s : Section) → slice_get n.sections k ≡ Some s → read.address_of (made_tables w n) (k + 1) ≡ address_of n k
unfolding section_header
address_made w n k s here = ap (λ o. option_map_or (λ (h : SectionHeader). h.addr) o 0) (header_made w n k s here)

module _ (w : Word) (n : Object) (is : IsForMach w n) where
  pub contents_made : (k : ℕ) (s : Section) → contents_of (made_table w n (k, s)) ≡ made_contents w n (k, s)
  unfolding contents_of section_header
  contents_made k s = by (is_zerofill_tag s.tag)
    where
      by : (b : Bool) → cond b (replicate s.size 0) (cond b [] (raw_of w n k s)) ≡ cond b (replicate s.size 0) (raw_of w n k s)
      by b = grind arith

  section_made : (number k : ℕ) (s : Section) → slice_get n.sections k ≡ Some s → number ≡ 1 + k → section_of (number, made_table w n (k, s)) ≡ made_section w n (k, s)
  unfolding section_of kind_of section_header framed
  section_made number k s here e =
      let m = meets_section w n is k s here in
      let seg : List ℕ = segment_of s.name in
      let sect : List ℕ = kinds.section_of s.name in
      let contents : List ℕ = contents_of (made_table w n (k, s)) in
      ap (λ x. framed s.size number contents (mach_name x (until_nul (padded sect))) (mach_kind x (until_nul (padded sect)) s.tag) (2 ^ exponent_of s.align) (mach_tag s.tag)) (segment_read w n is k s here)
      ∙ ap (λ x. framed s.size number contents (mach_name seg x) (mach_kind seg x s.tag) (2 ^ exponent_of s.align) (mach_tag s.tag)) (section_read w n is k s here)
      ∙ ap (λ x. framed s.size number contents x (mach_kind seg sect s.tag) (2 ^ exponent_of s.align) (mach_tag s.tag)) (sym m.name)
      ∙ ap (λ x. framed s.size number contents s.name (mach_kind seg sect s.tag) x (mach_tag s.tag)) (power_back s.align m.align)
      ∙ ap (λ x. framed s.size number contents s.name (mach_kind seg sect s.tag) s.align x) m.tag
      ∙ ap (λ x. framed s.size x contents s.name (mach_kind seg sect s.tag) s.align s.tag) e
      ∙ ap (λ x. framed s.size (1 + k) x s.name (mach_kind seg sect s.tag) s.align s.tag) (contents_made k s)

  from : (i : ℕ) (xs : List Section) → ((j : ℕ) (s : Section) → slice_get xs j ≡ Some s → slice_get n.sections (i + j) ≡ Some s)
      → map section_of (enumerate_from (1 + i) (map (made_table w n) (enumerate_from i xs))) ≡ map (made_section w n) (enumerate_from i xs)
  from i [] there = refl
  from i (x ∷ xs) there =
      let z : i + 0 ≡ i = omega arith in
      let next : 1 + i + 1 ≡ 1 + (i + 1) = omega arith in
      ap (λ y. y ∷ map section_of (enumerate_from (1 + i + 1) (map (made_table w n) (enumerate_from (i + 1) xs)))) (section_made (1 + i) i x (ap (slice_get n.sections) (sym z) ∙ there 0 x refl) refl)
      ∙ ap (λ m. made_section w n (i, x) ∷ map section_of (enumerate_from m (map (made_table w n) (enumerate_from (i + 1) xs)))) next
      ∙ ap (λ ys. made_section w n (i, x) ∷ ys) (from (i + 1) xs (λ j s h. let e : i + 1 + j ≡ i + suc j = omega arith in ap (slice_get n.sections) e ∙ there (suc j) s h))

  pub sections_are : sections_in (made_tables w n) ≡ made w n
  unfolding sections_in made_tables
  sections_are = from 0 n.sections (λ j s h. let e : 0 + j ≡ j = omega arith in ap (slice_get n.sections) e ∙ h)
