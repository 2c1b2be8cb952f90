-- The sections of a canonical file are those that are seen.
use Rattle.std.proofs.Common.{◌≡◌, ℕ, suc, ◌+◌, ◌-◌, ◌*◌, ◌/◌, ◌%◌, ◌^◌, ◌<◌, ◌≤◌, Bool, true, false, cond, not, ◌&&◌, eqb, List, [], ◌∷◌, length, map, replicate, Option, Some, None, refl, sym, ◌∙◌, ap, subst, arith}
use Rattle.std.specs.{Prelude.{slice_get, nat_eq, filter_map}, List.{enumerate_from, cons_option}}
use Rattle.std.specs.Option.{unwrap_or, option_map, option_map_or, option_and_then, is_some}
use Rattle.std.proofs.lemmas.Bool.{true≢false, eqb-true, eq-eqb, ne_eqb}
use Rattle.oc_coff.specs.{declared.form.CoffForm.{CoffForm}, declared.section_header.SectionHeader.{SectionHeader}, declared.relocation.Relocation.{Relocation}}
use Rattle.oc_coff.specs.{Names.{section_name}, Tables.{relocs_place}}
use Rattle.oc_coff.specs.Sections.{align_of, kind_in, is_stored, Carried, carried_of, carried_in, sections_in, align_bits}
use Rattle.oc_coff.specs.{Flags.{is_crowded, align_field, section_flags}, Comdat.{key_in}}
use Rattle.oc_linking.specs.{declared.terms.Kind.{Kind}, declared.terms.Kind.TheVariants.{Zero}, Numbers.{first_from}}
use Rattle.oc_linking.proofs.Searching.{first_from_found, first_from_none}
use Rattle.oc_neutral.specs.{declared.section.Section.{Section}, Objects.{Object}, KindRules.{has, same_kind}, Coff.Kinds.{coff_kind, coff_tag}}
use Rattle.oc_neutral.specs.declared.coff.TheConstants.{IMAGE_SCN_LNK_NRELOC_OVFL, IMAGE_SCN_LNK_COMDAT, IMAGE_SCN_CNT_UNINITIALIZED_DATA, IMAGE_SCN_ALIGN_1BYTES}
use Rattle.oc_neutral.specs.Faces.{key_of}
use Rattle.oc_neutral.proofs.GivenLaws.{coff_kind-tag}
use Rattle.oc_shelf.specs.Writing.Parts.{place_where}
use Rattle.oc_shelf.proofs.WritingLaws.MemberLemmas.{map-map, filter_map-map, each_enumerated}
use Rattle.oc_coff_file.specs.{Lines.{numbered_lines}, Bodies.{raw_of, relocs_of}, Layout.{laid_parts, is_raw}, Canonical.{header_at, string_table}}
use Rattle.oc_coff_file.proofs.{CodedLaws.{seen_kind, IsCodedSection}, PartLaws.{raw_past, length-raw}, TableLaws.{made_table, made_tables}}
use Rattle.oc_coff_file.proofs.{NameLaws.{section_named}, FlagLaws.{IsFlags, flags_align, flags_overflow, flags_zeros, flags_tag, flags_small, flags_copies}}
use Rattle.oc_linking.specs.Parts as parts

-- the exponent of an alignment
pub align_found : (align e : ℕ) → align ≡ 2 ^ e → e ≤ 13 → (k : ℕ) × (k ≤ 13) × (align ≡ 2 ^ k) × (align_field align ≡ k + 1)
unfolding align_field
align_found align e power small = by (first_from (λ k. nat_eq align (2 ^ k)) 0 14) refl
  where
    by : (o : Option ℕ) → first_from (λ k. nat_eq align (2 ^ k)) 0 14 ≡ o → (k : ℕ) × (k ≤ 13) × (align ≡ 2 ^ k) × (align_field align ≡ k + 1)
    by None none = absurd (true≢false (sym (eq-eqb align (2 ^ e) power) ∙ first_from_none (λ k. nat_eq align (2 ^ k)) 0 14 none e (omega arith) (omega (arith, small))))
    by (Some k) found =
        let f = first_from_found (λ k. nat_eq align (2 ^ k)) 0 14 k found in
        (k, omega (arith, f.1), eqb-true align (2 ^ k) f.2, ap (λ o. unwrap_or o 0 + 1) found)

-- the flags of a section, as a tag, an alignment and two flags
flags_are : (s : Section) (relocs : List Relocation)
    → section_flags s relocs ≡ s.tag + align_field s.align * 2 ^ 20 + cond (is_some s.group) 1 0 * 0x1000 + cond (is_crowded relocs) 1 0 * 0x1000000
flags_are s relocs = by s.group (is_crowded relocs)
  where
    by : (o : Option ℕ) (b : Bool) → s.tag + align_field s.align * IMAGE_SCN_ALIGN_1BYTES + option_map_or (λ g. IMAGE_SCN_LNK_COMDAT) o 0 + cond b IMAGE_SCN_LNK_NRELOC_OVFL 0
        ≡ s.tag + align_field s.align * 2 ^ 20 + cond (is_some o) 1 0 * 0x1000 + cond b 1 0 * 0x1000000
    by None true = omega arith
    by None false = omega arith
    by (Some g) true = omega arith
    by (Some g) false = omega arith

-- what the flags say
pub record FlagsSay (s : Section) (relocs : List Relocation) : Type 0 where
  pub align : align_of (section_flags s relocs) ≡ s.align
  pub fifteen : nat_eq (align_bits (section_flags s relocs)) 15 ≡ false
  pub tag : coff_tag (section_flags s relocs) ≡ s.tag
  pub comdat : has (section_flags s relocs) IMAGE_SCN_LNK_COMDAT ≡ is_some s.group
  pub overflow : has (section_flags s relocs) IMAGE_SCN_LNK_NRELOC_OVFL ≡ is_crowded relocs
  pub zeros : has (section_flags s relocs) IMAGE_SCN_CNT_UNINITIALIZED_DATA ≡ has s.tag IMAGE_SCN_CNT_UNINITIALIZED_DATA
  pub small : section_flags s relocs < 2 ^ 32

bit_is : (b : Bool) → eqb (cond b 1 0) 1 ≡ b
bit_is b = grind arith

bit_low : (b : Bool) → cond b 1 0 ≤ 1
bit_low b = grind arith

pub flags_say : (w : CoffForm) (n : Object) (s : Section) (relocs : List Relocation) → IsCodedSection w n s → FlagsSay s relocs
flags_say w n s relocs is =
    let found = align_found s.align is.exponent is.power is.exponent_small in
    let a : ℕ = align_field s.align in
    let field : a ≡ found.0 + 1 = found.3 in
    let low : found.0 ≤ 13 = found.1 in
    let c : ℕ = cond (is_some s.group) 1 0 in
    let o : ℕ = cond (is_crowded relocs) 1 0 in
    let fl : IsFlags s.tag a c o
    = record { own = is.tag; small = is.small; one = omega (arith, field); align = omega (arith, field, low); copies = bit_low (is_some s.group); crowded = bit_low (is_crowded relocs) } in
    let f : ℕ = s.tag + a * 2 ^ 20 + c * 0x1000 + o * 0x1000000 in
    let same : section_flags s relocs ≡ f = flags_are s relocs in
    let al : f / 2 ^ 20 % 16 ≡ a = flags_align s.tag a c o fl in
    let some : eqb a 0 ≡ false = ne_eqb a 0 (omega (arith, field)) in
    let back : a - 1 ≡ found.0 = omega (arith, field) in
    record {
      align = ap align_of same ∙ ap (λ m. cond (eqb m 0) 16 (2 ^ (m - 1))) al ∙ ap (λ b. cond b 16 (2 ^ (a - 1))) some ∙ ap (λ k. 2 ^ k) back ∙ sym found.2;
      fifteen = ap (λ m. eqb (align_bits m) 15) same ∙ ap (λ m. eqb m 15) al ∙ ne_eqb a 15 (omega (arith, field, low));
      tag = ap coff_tag same ∙ flags_tag s.tag a c o fl;
      comdat = ap (λ m. has m IMAGE_SCN_LNK_COMDAT) same ∙ ap (λ m. eqb m 1) (flags_copies s.tag a c o fl) ∙ bit_is (is_some s.group);
      overflow = ap (λ m. has m IMAGE_SCN_LNK_NRELOC_OVFL) same ∙ ap (λ m. eqb m 1) (flags_overflow s.tag a c o fl) ∙ bit_is (is_crowded relocs);
      zeros = ap (λ m. has m IMAGE_SCN_CNT_UNINITIALIZED_DATA) same ∙ ap (λ m. eqb m 1) (flags_zeros s.tag a c o fl);
      small = subst (λ m. m < 2 ^ 32) (sym same) (flags_small s.tag a c o fl);
    }

-- ... sections

-- the contents of a section of the file
abbrev pub made_contents : CoffForm → Object → ℕ × Section → List ℕ
made_contents w n x = cond (same_kind Zero (seen_kind x.1)) (replicate x.1.size 0) (raw_of w n x.0 x.1)

-- a section of the file
abbrev pub made_section : CoffForm → Object → ℕ × Section → parts.Section
made_section w n x = record {
  name = x.1.name;
  kind = seen_kind x.1;
  align = x.1.align;
  size = x.1.size;
  contents = made_contents w n x;
  tag = x.1.tag;
  number = x.0 + 1;
  group = option_and_then (key_of n.groups) x.1.group;
}

-- with its relocations
abbrev pub made_carried : CoffForm → Object → ℕ × Section → Carried
made_carried w n x = record {
  section = made_section w n x;
  stored = is_stored (Some (seen_kind x.1)) (header_at w n x);
  relocs_at = relocs_place (header_at w n x);
  relocs = relocs_of w (numbered_lines w n) n x.0;
}

by_either : (b : Bool) → cond {A = List ℕ} b [] [] ≡ []
by_either b = grind arith

-- bytes, or zeros, by two tests
contents_by : (stored zeros : Bool) (raw : List ℕ) (size : ℕ) → (zeros ≡ true → stored ≡ false) → (zeros ≡ false → 0 < length raw → stored ≡ true) → (zeros ≡ false → length raw ≡ 0 → size ≡ 0)
    → cond stored raw (replicate size 0) ≡ cond zeros (replicate size 0) raw
contents_by stored true raw size none some empty = ap (λ b. cond b raw (replicate size 0)) (none refl)
contents_by stored false [] size none some empty = ap (λ m. cond stored [] (replicate m 0)) (empty refl refl) ∙ by_either stored
contents_by stored false (x ∷ raw) size none some empty = ap (λ b. cond b (x ∷ raw) (replicate size 0)) (some refl (omega arith))

module _ (w : CoffForm) (n : Object) (small : length (string_table w n) < 2 ^ 32) where
  module _ (k : ℕ) (s : Section) (here : slice_get n.sections k ≡ Some s) (is : IsCodedSection w n s) where
    abbrev header : SectionHeader
    header = header_at w n (k, s)

    pub name_read : section_name (string_table w n) header.Name ≡ Some s.name
    unfolding header_at
    name_read = section_named w n small s.name is.name is.tabled is.near

    say : FlagsSay s (relocs_of w (numbered_lines w n) n k)
    say = flags_say w n s (relocs_of w (numbered_lines w n) n k) is

    pub kind_read : kind_in (string_table w n) header ≡ Some (seen_kind s)
    unfolding kind_in header_at
    kind_read =
        ap (option_and_then (λ name. coff_kind name header.Characteristics)) name_read
        ∙ sym (coff_kind-tag s.name header.Characteristics)
        ∙ ap (coff_kind s.name) say.tag ∙ is.kind

    -- it is stored exactly where it has bytes
    pub stored_read : same_kind Zero (seen_kind s) ≡ false → 0 < length s.bytes → is_stored (Some (seen_kind s)) header ≡ true
    unfolding header_at
    stored_read kind many =
        let past : 20 ≤ place_where (is_raw k) (laid_parts w n) = raw_past w n k s here in
        rw (ne_eqb (length s.bytes) 0 (omega (arith, many)), ne_eqb (place_where (is_raw k) (laid_parts w n)) 0 (omega (arith, past)), kind) refl

    contents_read : cond (is_stored (Some (seen_kind s)) header) (raw_of w n k s) (replicate s.size 0) ≡ made_contents w n (k, s)
    contents_read = contents_by (is_stored (Some (seen_kind s)) header) (same_kind Zero (seen_kind s)) (raw_of w n k s) s.size
        (λ z. ap (λ b. not (eqb header.PointerToRawData 0) && not b) z ∙ never (not (eqb header.PointerToRawData 0)))
        (λ z many. stored_read z (omega (arith, many, length-raw w n k s)))
        (λ z none. sym (ap (λ b. cond b 0 s.size) (sym is.zeros ∙ z)) ∙ sym is.bytes ∙ sym (length-raw w n k s) ∙ none)
      where
        never : (b : Bool) → (b && false) ≡ false
        never b = grind arith

    aligned : align_of header.Characteristics ≡ s.align
    unfolding header_at
    aligned = say.align

    pub sized : header.SizeOfRawData ≡ s.size
    unfolding header_at
    sized = refl

    tagged : coff_tag header.Characteristics ≡ s.tag
    unfolding header_at
    tagged = say.tag

    -- the section is carried
    pub carried_read : key_in (made_tables w n) (k + 1) ≡ option_and_then (key_of n.groups) s.group → carried_of (made_tables w n) (k + 1, made_table w n (k, s)) ≡ Some (made_carried w n (k, s))
    unfolding carried_of made_tables
    carried_read grouped =
        ap (option_map (λ kind. made kind (unwrap_or (section_name (string_table w n) header.Name) []) (align_of header.Characteristics) header.SizeOfRawData (coff_tag header.Characteristics) (key_in (made_tables w n) (k + 1)))) kind_read
        ∙ ap Some (
        ap (λ name. made (seen_kind s) (unwrap_or name []) (align_of header.Characteristics) header.SizeOfRawData (coff_tag header.Characteristics) (key_in (made_tables w n) (k + 1))) name_read
        ∙ ap (λ align. made (seen_kind s) s.name align header.SizeOfRawData (coff_tag header.Characteristics) (key_in (made_tables w n) (k + 1))) aligned
        ∙ ap (λ size. made (seen_kind s) s.name s.align size (coff_tag header.Characteristics) (key_in (made_tables w n) (k + 1))) sized
        ∙ ap (λ tag. made (seen_kind s) s.name s.align s.size tag (key_in (made_tables w n) (k + 1))) tagged
        ∙ ap (made (seen_kind s) s.name s.align s.size s.tag) grouped
        ∙ ap (with_contents (seen_kind s) s.name s.align s.size s.tag (option_and_then (key_of n.groups) s.group)) contents_read)
      where
        with_contents : Kind → List ℕ → ℕ → ℕ → ℕ → Option (List ℕ) → List ℕ → Carried
        with_contents kind name align size tag group contents = record {
          section = record { name = name; kind = kind; align = align; size = size; contents = contents; tag = tag; number = k + 1; group = group };
          stored = is_stored (Some kind) header;
          relocs_at = relocs_place header;
          relocs = relocs_of w (numbered_lines w n) n k;
        }

        made : Kind → List ℕ → ℕ → ℕ → ℕ → Option (List ℕ) → Carried
        made kind name align size tag group = with_contents kind name align size tag group (cond (is_stored (Some kind) header) (raw_of w n k s) (replicate size 0))

-- a filter that keeps all
pub filter_map_all : {X Y : Type 0} (f : X → Option Y) (g : X → Y) (xs : List X) → ((k : ℕ) (x : X) → slice_get xs k ≡ Some x → f x ≡ Some (g x)) → filter_map f xs ≡ map g xs
filter_map_all f g [] all = refl
filter_map_all f g (x ∷ xs) all = ap (λ o. cons_option o (filter_map f xs)) (all 0 x refl) ∙ ap (λ ys. g x ∷ ys) (filter_map_all f g xs (λ k y h. all (suc k) y h))

-- enumerated after a map of an enumerated list
pub enumerated_again : {X Y : Type 0} (f : ℕ × X → Y) (i : ℕ) (xs : List X) → enumerate_from (i + 1) (map f (enumerate_from i xs)) ≡ map (λ (x : ℕ × X). (x.0 + 1, f x)) (enumerate_from i xs)
enumerated_again f i [] = refl
enumerated_again f i (x ∷ xs) = ap (λ ys. (i + 1, f (i, x)) ∷ ys) (enumerated_again f (i + 1) xs)

-- the groups are those of the object
abbrev pub AreGrouped : CoffForm → Object → Type 0
AreGrouped w n = (k : ℕ) (s : Section) → slice_get n.sections k ≡ Some s → key_in (made_tables w n) (k + 1) ≡ option_and_then (key_of n.groups) s.group

module _ (w : CoffForm) (n : Object) (small : length (string_table w n) < 2 ^ 32) (coded : (k : ℕ) (s : Section) → slice_get n.sections k ≡ Some s → IsCodedSection w n s)
    (grouped : AreGrouped w n) where
  -- all sections
  pub carried_made : carried_in (made_tables w n) ≡ map (made_carried w n) (enumerate_from 0 n.sections)
  unfolding carried_in made_tables
  carried_made =
      let one : 0 + 1 ≡ 1 = omega arith in
      ap (filter_map (carried_of (made_tables w n))) (ap (λ i. enumerate_from i (map (made_table w n) (enumerate_from 0 n.sections))) (sym one) ∙ enumerated_again (made_table w n) 0 n.sections)
      ∙ filter_map-map (carried_of (made_tables w n)) (λ (x : ℕ × Section). (x.0 + 1, made_table w n x)) (enumerate_from 0 n.sections)
      ∙ filter_map_all (λ (x : ℕ × Section). carried_of (made_tables w n) (x.0 + 1, made_table w n x)) (made_carried w n) (enumerate_from 0 n.sections)
      (each_enumerated (λ x. carried_of (made_tables w n) (x.0 + 1, made_table w n x) ≡ Some (made_carried w n x)) 0 n.sections (λ j s h.
      let e : j ≡ 0 + j = omega arith in
      subst (λ i. carried_of (made_tables w n) (i + 1, made_table w n (i, s)) ≡ Some (made_carried w n (i, s))) e (carried_read w n small j s h (coded j s h) (grouped j s h))))

  -- as linking sees them
  pub sections_made : sections_in (made_tables w n) ≡ map (made_section w n) (enumerate_from 0 n.sections)
  sections_made = ap (map (λ (c : Carried). c.section)) carried_made ∙ map-map (λ (c : Carried). c.section) (made_carried w n) (enumerate_from 0 n.sections)
