-- What parts hold, as a plan has them, is what they hold in the canonical file.
use Rattle.std.proofs.Common.{◌≡◌, ℕ, ◌+◌, ◌-◌, ◌*◌, ◌^◌, ◌<◌, zero, suc, List, [], ◌∷◌, ◌++◌, length, map, flat_map, replicate, get_or, Option, Some, None, refl, sym, ◌∙◌, ap, subst, append_assoc, arith, Vec, Global}
use Rattle.std.specs.{Prelude.{slice_get}, List.{enumerate_from}, Option.{option_map}}
use Rattle.std.proofs.lemmas.{List.{length-append, length-map, length-replicate}, List.FromFn.{length-enumerate_from}}
use Rattle.std.proofs.lemmas.Option.{get_or_from_slice_get, none-some, same_Some, slice_get-get_or, slice_get_within}
use Rattle.oc_base.specs.{declared.format.Word.{Word}, Numbers.{bytes_of_number}}
use Rattle.oc_neutral.specs.{declared.section.Section.{Section}, Objects.{Object}}
use Rattle.oc_shelf.specs.{Writing.Packed.{packed}, Writing.Parts.{aligned, table_of, HaveSize}}
use Rattle.oc_neutral.proofs.Positions.{there_at}
use Rattle.oc_shelf.proofs.{WritingLaws.PartLemmas.{aligned_rises}, WritingLaws.MemberLemmas.{of_map, member_map}}
use Rattle.oc_macho.specs.{Nlist.{nlist_size}, declared.constants.TheConstants.{LC_DYSYMTAB}, declared.load_command.TheConstants.{DYSYMTAB_COMMAND_SIZE}}
use Rattle.oc_macho.specs.{declared.relocation_info.RelocationInfo.{RelocationInfo}, MachHeader.{address_size}, SectionHeader.{section_header_size}}
use Rattle.oc_macho.specs.{SegmentCommand.{segment_number}, declared.section_header.SectionHeader.{SectionHeader}}
use Rattle.oc_macho.specs.{Structures.{section_bytes, nlist_bytes, relocation_bytes, mach_header_bytes, symtab_bytes}, declared.structures.Dysymtab.{Dysymtab}}
use Rattle.oc_macho.specs.Structures.{segment_front, segment_back, dysymtab_front}
use Rattle.oc_strings.specs.Tables.{StringTable}
use Rattle.oc_macho_file.specs.{Bodies.{raw_of}, Canonical.{part_bytes, segment_numbers, section_headers, dysymtab_numbers, words}}
use Rattle.oc_macho_file.specs.Layout.{filled, relocs_of, parts_of, segment_length, string_table, strings_of}
use Rattle.oc_macho_file.specs.{Lines.{lines_of, inner_lines, defined_lines, undefined_lines}, Symbols.{line_entry}}
use Rattle.oc_macho_file.specs.Layout as layout
use Rattle.oc_macho_file.proofs.{CodedLaws.{IsForMach}, CountLaws.{few_lines}, PartLaws.{header_sized}}
use Rattle.oc_macho_write.specs.{declared.bodies.Bodies.{Bodies}, declared.heads.Heads.{Heads}, declared.parts.Part.{Part}}
use Rattle.oc_macho_write.specs.{Bodies.{AreBodies, body_by, HasBody, IsHeaded, size_by}, Heads.{AreHeads, segment_of, dysymtab_of}, Parts.{AreParts, part_in}}
use Rattle.oc_macho_write.specs.{Relocations.{all_raws}, Words.{items_at}}
use Rattle.oc_macho_write.specs.declared.parts.Part.TheVariants as part
use Rattle.oc_plans.proofs.PlacedLemmas.{joined_rows}

-- a table of what is made of each thing
joined_map : {X Y : Type 0} (f : Y → List ℕ) (g : X → Y) (xs : List X) → flat_map f (map g xs) ≡ flat_map (λ x. f (g x)) xs
joined_map f g [] = refl
joined_map f g (x ∷ xs) = ap (λ ys. f (g x) ++ ys) (joined_map f g xs)

-- what is made of the thing at a position
at_position : {X Y : Type 0} (f : ℕ × X → Y) (i : ℕ) (xs : List X) (k : ℕ) (x : X) (d : Y) → slice_get xs k ≡ Some x → get_or (map f (enumerate_from i xs)) k d ≡ f (i + k, x)
at_position f i [] k x d here = absurd (none-some x here)
at_position f i (y ∷ xs) zero x d here = let e : i ≡ i + 0 = omega arith in ap (λ z. f (i, z)) (same_Some y x here) ∙ ap (λ j. f (j, x)) e
at_position f i (y ∷ xs) (suc k) x d here = let e : i + 1 + k ≡ i + suc k = omega arith in at_position f (i + 1) xs k x d here ∙ ap (λ j. f (j, x)) e

-- what a vector at a position holds
pub items_is : {X : Type 0} (vs : List (Vec X Global)) (k : ℕ) (v : Vec X Global) → slice_get vs k ≡ Some v → items_at vs k ≡ v.items
items_is {X} vs k v here = get_or_from_slice_get (map (λ (v : Vec X Global). v.items) vs) k v.items [] (member_map (λ (v : Vec X Global). v.items) vs k v here)

-- ... one of the parts

pub part_listed : (n : Object) (these : List Part) (k : ℕ) (p : Part) → AreParts n these → slice_get these k ≡ Some p
    → (x : layout.Part) × (slice_get (parts_of n) k ≡ Some x) × (part_in n p ≡ Some x)
part_listed n these k p are here =
    let m = of_map Some (parts_of n) k (part_in n p) (ap (λ ls. slice_get ls k) (sym are) ∙ member_map (part_in n) these k p here) in
    (m.0, m.1, sym m.2)

-- ... structures in two runs

packed_append : (xs ys : List (ℕ × ℕ)) → packed (xs ++ ys) ≡ packed xs ++ packed ys
packed_append [] ys = refl
packed_append (x ∷ xs) ys = ap (λ zs. bytes_of_number x.0 x.1 ++ zs) (packed_append xs ys) ∙ sym (append_assoc (bytes_of_number x.0 x.1) (packed xs) (packed ys))

sixteen_zeros : replicate {A = ℕ} 16 0 ≡ bytes_of_number 16 0
unfolding bytes_of_number
sixteen_zeros = refl

more_zeros : replicate {A = ℕ} 48 0 ≡ packed (words (replicate 12 0))
unfolding bytes_of_number
more_zeros = refl

module _ (w : Word) (n : Object) where
  segment_same : segment_front w (segment_length w n) (segment_of w n) ++ segment_back w (segment_of w n) ≡ part_bytes w n layout.SegmentHead
  unfolding part_bytes segment_numbers
  segment_same =
      let a : List ℕ = bytes_of_number 4 (segment_number w) in
      let c : List ℕ = bytes_of_number 4 (segment_length w n) in
      let back : List ℕ = segment_back w (segment_of w n) in
      append_assoc (a ++ (c ++ [])) (replicate 16 0) back ∙ append_assoc a (c ++ []) (replicate 16 0 ++ back)
      ∙ ap (λ zs. a ++ zs) (append_assoc c [] (replicate 16 0 ++ back)) ∙ ap (λ zs. a ++ (c ++ (zs ++ back))) sixteen_zeros

  dysymtab_same : dysymtab_front (dysymtab_of w n) ++ replicate 48 0 ≡ part_bytes w n layout.DysymtabHead
  unfolding part_bytes dysymtab_numbers
  dysymtab_same =
      let d = dysymtab_of w n in
      let numbers : List (ℕ × ℕ)
      = (4, LC_DYSYMTAB) ∷ (4, DYSYMTAB_COMMAND_SIZE) ∷ (4, 0) ∷ (4, d.nlocalsym) ∷ (4, d.nlocalsym) ∷ (4, d.nextdefsym) ∷ (4, d.nlocalsym + d.nextdefsym) ∷ (4, d.nundefsym) ∷ [] in
      ap (λ zs. dysymtab_front d ++ zs) more_zeros ∙ sym (packed_append numbers (words (replicate 12 0)))

  module _ (h : Heads) (made : AreHeads w n h) (b : Bodies) (tables : AreBodies w n b) (sections : List Section) (have : map (λ (s : Section). s.bytes) sections ≡ all_raws w n) where
    -- the bytes and the entries of a section
    raw_same : (k : ℕ) (x : layout.Part) → option_map (layout.Raw k) (slice_get n.sections k) ≡ Some x → get_or (map (λ (s : Section). s.bytes) sections) k [] ≡ part_bytes w n x
    unfolding part_bytes
    raw_same k x here = by (slice_get n.sections k) refl here
      where
        by : (o : Option Section) → slice_get n.sections k ≡ o → option_map (layout.Raw k) o ≡ Some x → get_or (map (λ (s : Section). s.bytes) sections) k [] ≡ part_bytes w n x
        by None e g = absurd (none-some x g)
        by (Some s) e g =
            let z : 0 + k ≡ k = omega arith in
            ap (λ rs. get_or rs k []) have ∙ at_position (λ (y : ℕ × Section). raw_of w n y.0 y.1) 0 n.sections k s [] e ∙ ap (λ j. raw_of w n j s) z ∙ ap (part_bytes w n) (same_Some (layout.Raw k s) x g)

    relocs_same : (k : ℕ) (x : layout.Part) → option_map (layout.Relocs k) (slice_get n.sections k) ≡ Some x → table_of (map relocation_bytes (items_at b.relocs.items k)) ≡ part_bytes w n x
    unfolding part_bytes
    relocs_same k x here = by (slice_get n.sections k) refl here
      where
        by : (o : Option Section) → slice_get n.sections k ≡ o → option_map (layout.Relocs k) o ≡ Some x → table_of (map relocation_bytes (items_at b.relocs.items k)) ≡ part_bytes w n x
        by None e g = absurd (none-some x g)
        by (Some s) e g =
            let z : 0 + k ≡ k = omega arith in
            ap (λ es. table_of (map relocation_bytes es))
            (ap (λ rs. get_or rs k []) tables.relocs ∙ at_position (λ (y : ℕ × Section). relocs_of w n y.0) 0 n.sections k s [] e ∙ ap (relocs_of w n) z)
            ∙ sym (joined_rows relocation_bytes (relocs_of w n k)) ∙ ap (part_bytes w n) (same_Some (layout.Relocs k s) x g)

    symbols_same : table_of (map (nlist_bytes w) b.nlists.items) ≡ part_bytes w n layout.SymbolTable
    unfolding part_bytes
    symbols_same =
        ap (λ ns. table_of (map (nlist_bytes w) ns)) tables.nlists ∙ sym (joined_rows (nlist_bytes w) (map (line_entry w n) (lines_of w n)))
        ∙ joined_map (nlist_bytes w) (line_entry w n) (lines_of w n)

    strings_same : body_by w h sections b part.StringTable ≡ part_bytes w n layout.StringTable
    unfolding part_bytes string_table
    strings_same = ap (λ (t : StringTable). filled (address_size w) (strings_of t.names)) tables.strings

    pub body_is : (p : Part) (x : layout.Part) → part_in n p ≡ Some x → body_by w h sections b p ≡ part_bytes w n x
    unfolding part_bytes
    body_is part.FileHead x here = ap (mach_header_bytes w) made.file ∙ ap (part_bytes w n) (same_Some layout.FileHead x here)
    body_is part.SegmentHead x here =
        ap (λ c. segment_front w c h.segment ++ segment_back w h.segment) made.cmdsize
        ∙ ap (λ s. segment_front w (segment_length w n) s ++ segment_back w s) made.segment ∙ segment_same ∙ ap (part_bytes w n) (same_Some layout.SegmentHead x here)
    body_is part.SectionHeads x here = ap (λ hs. table_of (map (section_bytes w) hs)) made.sections ∙ sym (joined_rows (section_bytes w) (section_headers w n)) ∙ ap (part_bytes w n) (same_Some layout.SectionHeads x here)
    body_is part.SymtabHead x here = ap symtab_bytes made.symtab ∙ ap (part_bytes w n) (same_Some layout.SymtabHead x here)
    body_is part.DysymtabHead x here = ap (λ d. dysymtab_front d ++ replicate 48 0) made.dysymtab ∙ dysymtab_same ∙ ap (part_bytes w n) (same_Some layout.DysymtabHead x here)
    body_is (part.Raw k) x here = raw_same k x here
    body_is (part.Relocs k) x here = relocs_same k x here
    body_is part.SymbolTable x here = symbols_same ∙ ap (part_bytes w n) (same_Some layout.SymbolTable x here)
    body_is part.StringTable x here = strings_same ∙ ap (part_bytes w n) (same_Some layout.StringTable x here)

module _ (w : Word) (n : Object) (b : Bodies) (tables : AreBodies w n b) where
  -- as many lists of entries as sections
  pub many_relocs : length b.relocs.items ≡ length n.sections
  many_relocs =
      sym (length-map b.relocs.items (λ (v : Vec RelocationInfo Global). v.items)) ∙ ap length tables.relocs
      ∙ length-map (enumerate_from 0 n.sections) (λ (y : ℕ × Section). relocs_of w n y.0) ∙ length-enumerate_from 0 n.sections

  -- those of a section
  pub held_relocs : (k : ℕ) → k < length n.sections → items_at b.relocs.items k ≡ relocs_of w n k
  held_relocs k low =
      let s = there_at n.sections k low in
      let z : 0 + k ≡ k = omega arith in
      ap (λ rs. get_or rs k []) tables.relocs ∙ at_position (λ (y : ℕ × Section). relocs_of w n y.0) 0 n.sections k s.0 [] s.1 ∙ ap (relocs_of w n) z

  pub vector_is : (k : ℕ) (v : Vec RelocationInfo Global) → k < length n.sections → v ≡ get_or b.relocs.items k v → v.items ≡ relocs_of w n k
  vector_is k v low here =
      let inside : k < length b.relocs.items = (let m = many_relocs in omega (arith, m, low)) in
      sym (items_is b.relocs.items k v (slice_get-get_or b.relocs.items k v inside ∙ ap (λ z. Some z) (sym here))) ∙ held_relocs k low

  module _ (sections : List Section) (long : length sections ≡ length n.sections) where
    -- what a part holds is there
    pub has_body : (p : Part) (x : layout.Part) → part_in n p ≡ Some x → HasBody sections b p
    has_body part.FileHead x here = tt
    has_body part.SegmentHead x here = tt
    has_body part.SectionHeads x here = tt
    has_body part.SymtabHead x here = tt
    has_body part.DysymtabHead x here = tt
    has_body (part.Raw k) x here = by (slice_get n.sections k) refl here
      where
        by : (o : Option Section) → slice_get n.sections k ≡ o → option_map (layout.Raw k) o ≡ Some x → k < length sections
        by None e g = absurd (none-some x g)
        by (Some s) e g = subst (λ m. k < m) (sym long) (slice_get_within n.sections k s e)
    has_body (part.Relocs k) x here = by (slice_get n.sections k) refl here
      where
        by : (o : Option Section) → slice_get n.sections k ≡ o → option_map (layout.Relocs k) o ≡ Some x → k < length b.relocs.items
        by None e g = absurd (none-some x g)
        by (Some s) e g = subst (λ m. k < m) (sym many_relocs) (slice_get_within n.sections k s e)
    has_body part.SymbolTable x here = tt
    has_body part.StringTable x here = tt

  -- a part has its size, by counts alone
  pub size_is : (p : Part) (x : layout.Part) → part_in n p ≡ Some x → size_by w n.sections b p ≡ layout.part_size w n x
  unfolding string_table
  size_is part.FileHead x here = ap (layout.part_size w n) (same_Some layout.FileHead x here)
  size_is part.SegmentHead x here = ap (layout.part_size w n) (same_Some layout.SegmentHead x here)
  size_is part.SectionHeads x here = ap (layout.part_size w n) (same_Some layout.SectionHeads x here)
  size_is part.SymtabHead x here = ap (layout.part_size w n) (same_Some layout.SymtabHead x here)
  size_is part.DysymtabHead x here = ap (layout.part_size w n) (same_Some layout.DysymtabHead x here)
  size_is (part.Raw k) x here = by (slice_get n.sections k) refl here
    where
      by : (o : Option Section) → slice_get n.sections k ≡ o → option_map (layout.Raw k) o ≡ Some x → length (get_or (map (λ (s : Section). s.bytes) n.sections) k []) ≡ layout.part_size w n x
      by None e g = absurd (none-some x g)
      by (Some s) e g =
          ap length (get_or_from_slice_get (map (λ (s : Section). s.bytes) n.sections) k s.bytes [] (member_map (λ (s : Section). s.bytes) n.sections k s e))
          ∙ ap (layout.part_size w n) (same_Some (layout.Raw k s) x g)
  size_is (part.Relocs k) x here = by (slice_get n.sections k) refl here
    where
      by : (o : Option Section) → slice_get n.sections k ≡ o → option_map (layout.Relocs k) o ≡ Some x → 8 * length (items_at b.relocs.items k) ≡ layout.part_size w n x
      by None e g = absurd (none-some x g)
      by (Some s) e g = ap (λ es. 8 * length es) (held_relocs k (slice_get_within n.sections k s e)) ∙ ap (layout.part_size w n) (same_Some (layout.Relocs k s) x g)
  size_is part.SymbolTable x here =
      ap (λ ns. nlist_size w * length ns) tables.nlists ∙ ap (λ m. nlist_size w * m) (length-map (lines_of w n) (line_entry w n)) ∙ ap (layout.part_size w n) (same_Some layout.SymbolTable x here)
  size_is part.StringTable x here =
      ap (λ (t : StringTable). length (filled (address_size w) (strings_of t.names))) tables.strings ∙ ap (layout.part_size w n) (same_Some layout.StringTable x here)

-- a text that is filled has its size
pub filled_long : (unit : ℕ) (bytes : List ℕ) → length (filled unit bytes) ≡ aligned unit (length bytes)
filled_long unit bytes =
    let all = length-append bytes (replicate (aligned unit (length bytes) - length bytes) 0) in
    let zeros = length-replicate {A = ℕ} (aligned unit (length bytes) - length bytes) 0 in
    let up = aligned_rises unit (length bytes) in
    omega (arith, all, zeros, up)

-- the two counts of symbols together are a number of 32 bits
few_symbols : (w : Word) (n : Object) (h : Heads) → AreHeads w n h → IsForMach w n → h.dysymtab.nlocalsym + h.dysymtab.nextdefsym < 2 ^ 32
unfolding lines_of
few_symbols w n h made is =
    let few = few_lines w n is in
    let all = length-append (inner_lines w n) (defined_lines n ++ undefined_lines n) in
    let more = length-append (defined_lines n) (undefined_lines n) in
    let inner = ap (λ (d : Dysymtab). d.nlocalsym) made.dysymtab in
    let defined = ap (λ (d : Dysymtab). d.nextdefsym) made.dysymtab in
    omega (arith, few, all, more, inner, defined)

-- headers have their size
pub is_headed : (w : Word) (n : Object) (h : Heads) → AreHeads w n h → IsForMach w n → IsHeaded w h
is_headed w n h made is = record {
  sized = subst (λ hs. HaveSize (section_header_size w) (map (section_bytes w) hs)) (sym made.sections) (each (section_headers w n) (header_sized w n));
  counted = few_symbols w n h made is;
}
  where
    each : (hs : List SectionHeader) → ((k : ℕ) (x : SectionHeader) → slice_get hs k ≡ Some x → length (section_bytes w x) ≡ section_header_size w) → HaveSize (section_header_size w) (map (section_bytes w) hs)
    each [] all = tt
    each (x ∷ hs) all = (all 0 x refl, each hs (λ k y g. all (suc k) y g))
