-- The relocations of an object that is ready for Mach-O: their rows, and that the entries of a canonical file are items, one for each relocation.
use Rattle.std.proofs.Common.{◌≡◌, ℕ, zero, suc, ◌+◌, ◌<◌, ◌≤◌, Bool, true, false, cond, eqb, List, [], ◌∷◌, ◌++◌, length, map, Option, Some, None, refl, sym, ◌∙◌, ap, subst, inl, inr, arith}
use Rattle.std.specs.{Prelude.{slice_get, nat_eq, flat_map}, List.{AllByRecursion}, Option.{option_map, option_map_or, option_and_then}}
use Rattle.std.proofs.lemmas.{Bool.{eqb-true, eq-eqb, cases_lt}, Option.{none-some, same_Some, slice_get_within}}
use Rattle.oc_base.specs.{declared.format.Word.{Word}, declared.format.Word.TheVariants.{W32, W64}}
use Rattle.oc_linking.specs.{declared.terms.Patch.{Patch}, Fits.{bytes_of}, Numbers.{first_upto}, Shows.{Apart}}
use Rattle.oc_linking.proofs.{FirstFaultLaws.{first_upto_none}, Upto.{first_upto_from}}
use Rattle.oc_chains.specs.{Fields.{FollowFrom, end_of}, declared.field.Field.{Field}, Lists.{list_of}}
use Rattle.oc_neutral.specs.{declared.section.Section.{Section}, declared.reloc.Reloc.{Reloc}, declared.reloc.Target.{Target}, Mach.Kinds.{is_zerofill_tag}}
use Rattle.oc_neutral.specs.{Mach.Relocs.{MachRow, length_of, mach_entries, entry_among}, Objects.{Object, reloc_at, reloc_among}}
use Rattle.oc_neutral.specs.Rows.{Row, TakesPlace, TakesSection, same_taken}
use Rattle.oc_neutral.specs.declared.reloc.Target.TheVariants as target
use Rattle.oc_target.specs.{MachMeets.{MachReloc}, Meets.{HoldsAddend, MeetsReloc}}
use Rattle.oc_neutral.proofs.{Mapped.{from_mapped}, Positions.{there_at}, Standing.{ends_by, wide_in}}
use Rattle.oc_shelf.specs.Writing.Parts.{Laid}
use Rattle.oc_shelf.proofs.WritingLaws.MemberLemmas.{of_map, member_map, all_members}
use Rattle.oc_macho.specs.{declared.relocation_info.Reference.{Reference}, declared.relocation_info.RelocationInfo.{RelocationInfo}}
use Rattle.oc_macho.specs.{declared.entries.Item.{Item}, MachHeader.{mach_format}, Entries.{can_refer, row_for, is_first, item_at}}
use Rattle.oc_macho.specs.declared.relocation_info.Reference.TheVariants as reference
use Rattle.oc_macho_file.specs.{Addresses.{address_of}, Lines.{Line, own_number}}
use Rattle.oc_macho_file.specs.Bodies.{WrittenReloc, taken_section, end_section_address, written_reloc_at, reference_to, plain_entry, scattered_entry, pair_entries, standing_entries, entries_at, entries_of, field_shift, field_patch, field_patches}
use Rattle.oc_macho_file.proofs.CodedLaws.{IsForMach, word_back, stored_all}
use Rattle.oc_macho_file.proofs.ItemLaws.{Written, Alone, Pair, written_entries, item_of, IsTold, begin_of, item_there, item_only, item_inside}
use Rattle.oc_macho_file.proofs.RowLaws.{IsMachRow, IsAloneRow, IsPairRow, IsKnown, KnownAlone, KnownPair, known_entry}
use Rattle.oc_shows.proofs.FoundLaws.{empty_past, found_in}

-- ... lists

-- a relocation that is found is one of the list
pub member_of : (xs : List (Field Reloc)) (at : ℕ) (r : Reloc) → reloc_among xs at ≡ Some r → (i : ℕ) × (x : Field Reloc) × (slice_get xs i ≡ Some x) × (x.at ≡ at) × (x.item ≡ r)
member_of [] at r h = absurd (none-some r h)
member_of (y ∷ xs) at r h = by (eqb y.at at) refl (λ g. member_of xs at r g) h
  where
    by : (b : Bool) → eqb y.at at ≡ b → (reloc_among xs at ≡ Some r → (i : ℕ) × (x : Field Reloc) × (slice_get xs i ≡ Some x) × (x.at ≡ at) × (x.item ≡ r))
        → cond b (Some y.item) (reloc_among xs at) ≡ Some r → (i : ℕ) × (x : Field Reloc) × (slice_get (y ∷ xs) i ≡ Some x) × (x.at ≡ at) × (x.item ≡ r)
    by true e rest h = (0, y, refl, eqb-true y.at at e, same_Some y.item r h)
    by false e rest h = let m = rest h in (suc m.0, m.1, m.2, m.3, m.4)

-- the offsets of a list in order differ
pub places_differ : (p : ℕ) (xs : List (Field Reloc)) → FollowFrom p xs → (i j : ℕ) (x y : Field Reloc) → slice_get xs i ≡ Some x → slice_get xs j ≡ Some y → x.at ≡ y.at → i ≡ j
places_differ p [] follow i j x y h t e = absurd (none-some x h)
places_differ p (z ∷ xs) follow zero zero x y h t e = refl
places_differ p (z ∷ xs) follow zero (suc j) x y h t e =
    let low = (found_in (end_of z) xs follow.2 j y t).0 in
    let wide = follow.1 in
    let same : z.at ≡ x.at = ap (λ (f : Field Reloc). f.at) (same_Some z x h) in
    absurd (omega (arith, low, wide, same, e))
places_differ p (z ∷ xs) follow (suc i) zero x y h t e =
    let low = (found_in (end_of z) xs follow.2 i x h).0 in
    let wide = follow.1 in
    let same : z.at ≡ y.at = ap (λ (f : Field Reloc). f.at) (same_Some z y t) in
    absurd (omega (arith, low, wide, same, e))
places_differ p (z ∷ xs) follow (suc i) (suc j) x y h t e = ap suc (places_differ (end_of z) xs follow.2 i j x y h t e)

-- ... what is written

-- the pair of a relocation
abbrev pub written_pair : Word → Object → List (Laid Line) → WrittenReloc → ℕ → Written
written_pair W32 n lines x second = Pair (scattered_entry x.at x.row.number (end_section_address n x.reloc.target)) (scattered_entry 0 second (address_of n (taken_section x)))
written_pair W64 n lines x second = Pair (plain_entry x x.row.number (reference.Symbol (own_number lines (taken_section x)))) (plain_entry x second (reference_to W64 lines x.reloc.target))

abbrev pub written_by : Word → Object → List (Laid Line) → WrittenReloc → Option ℕ → Written
written_by w n lines x None = Alone (plain_entry x x.row.number (reference_to w lines x.reloc.target))
written_by w n lines x (Some second) = written_pair w n lines x second

abbrev pub written_standing : Word → Object → List (Laid Line) → WrittenReloc → Written
written_standing w n lines x = written_by w n lines x x.row.second

-- what would be written for a relocation without a row
abbrev unwritten : Written
unwritten = Alone (record { r_address = 0; r_pcrel = 0; r_length = 0; r_type = 0; refers = reference.Section 0 })

-- the item of a relocation at an offset of the section at a position
abbrev pub written_at : Word → Object → List (Laid Line) → ℕ → ℕ → Reloc → Written
written_at w n lines k at r = option_map_or (written_standing w n lines) (written_reloc_at w k at r) unwritten

abbrev pub written_field : Word → Object → List (Laid Line) → ℕ → Field Reloc → Written
written_field w n lines k x = written_at w n lines k x.at x.item

entries_written : (w : Word) (n : Object) (lines : List (Laid Line)) (x : WrittenReloc) → standing_entries w n lines x ≡ written_entries (written_standing w n lines x)
unfolding standing_entries
entries_written w n lines x = by w x.row.second
  where
    by : (w : Word) (o : Option ℕ) → (elim o [ None ↦ plain_entry x x.row.number (reference_to w lines x.reloc.target) ∷ [] | Some second ↦ pair_entries w n lines x second ]) ≡ written_entries (written_by w n lines x o)
    by w o = grind arith

-- the first entry has the field's offset
first_address : (w : Word) (n : Object) (lines : List (Laid Line)) (x : WrittenReloc) → (item_of (written_standing w n lines x)).first.r_address ≡ x.at
first_address w n lines x = by w x.row.second
  where
    by : (w : Word) (o : Option ℕ) → (item_of (written_by w n lines x o)).first.r_address ≡ x.at
    by w o = grind arith

-- the numbers of a pair
pub pair_second : (w : Word) (m : MachRow) → IsPairRow w m → (s : ℕ) × (m.row.second ≡ Some s)
pair_second w m p = grind arith

-- the first entry of a pair is read as of its type, where entries of that type are
pair_first : (w : Word) (n : Object) (lines : List (Laid Line)) (x : WrittenReloc) (m : MachRow) (second : ℕ) → IsPairRow w m → m.row ≡ x.row
    → ((e : RelocationInfo) → e.r_type ≡ x.row.number → e.r_pcrel ≡ m.pcrel → e.r_length ≡ length_of x.row.width → can_refer m e.refers ≡ true → row_for w e ≡ Some m)
    → m.pcrel ≡ 0 → cond (same_taken x.row.taken TakesPlace) 1 0 ≡ m.pcrel → row_for w (item_of (written_pair w n lines x second)).first ≡ Some m
pair_first W32 n lines x m second p same found none pcrel =
    found (scattered_entry x.at x.row.number (end_section_address n x.reloc.target)) refl (sym none) (sym (ap (λ (y : Row). length_of y.width) (sym same) ∙ p.1)) p.3
pair_first W64 n lines x m second p same found none pcrel = found (plain_entry x x.row.number (reference.Symbol (own_number lines (taken_section x)))) refl pcrel refl p.1

lone_refers : (w : Word) (lines : List (Laid Line)) (m : MachRow) (t : Target) → IsAloneRow w m → can_refer m (reference_to w lines t) ≡ true
lone_refers w lines m t a = grind arith

flat_same : {X Y Z : Type 0} (f : X → List Z) (g : Y → List Z) (h : X → Y) (xs : List X) → AllByRecursion (λ x. f x ≡ g (h x)) xs → flat_map f xs ≡ flat_map g (map h xs)
flat_same f g h [] all = refl
flat_same f g h (x ∷ xs) all = ap (λ zs. zs ++ flat_map f xs) all.0 ∙ ap (λ zs. g (h x) ++ zs) (flat_same f g h xs all.1)

module _ (w : Word) (n : Object) (is : IsForMach w n) where
  -- ... the row of a relocation
  module _ (k at : ℕ) (r : Reloc) (there : reloc_at n k at ≡ Some r) where
    pub mach_reloc : MachReloc (mach_format w) n k at r
    mach_reloc = is.meets.relocs k at r there

    abbrev pub meets : MeetsReloc (mach_format w) n k at r
    meets = mach_reloc.meets

    abbrev pub row : Row
    row = meets.row

    abbrev pub entry : MachRow
    entry = mach_reloc.entry

    -- it, where it stands
    abbrev pub standing : WrittenReloc
    standing = record { section = k; at = at; reloc = r; row = row }

    pub row_is : {X : Type 0} (f : Row → X) → f entry.row ≡ f row
    row_is f = ap f mach_reloc.row

    -- its field holds the addend: in i386 each does, and in x86-64 the target asks for it
    pub addend_held : HoldsAddend (mach_format w) r (field_shift w n standing)
    addend_held = by w refl
      where
        by : (v : Word) → w ≡ v → HoldsAddend (mach_format w) r (field_shift w n standing)
        by W32 e = mach_reloc.holds (field_shift w n standing) (ap mach_format e)
        by W64 e = subst (HoldsAddend (mach_format w) r) (sym (ap (λ v. field_shift v n standing) e)) (mach_reloc.held (ap mach_format e))

    among : entry_among (mach_entries w) row.number entry.pcrel (length_of row.width) ≡ Some entry
    among = ap (λ v. entry_among (mach_entries v) row.number entry.pcrel (length_of row.width)) (sym (word_back w)) ∙ mach_reloc.found

    pub known : IsMachRow w entry
    known = known_entry w row.number entry.pcrel (length_of row.width) entry among

    pub standing_is : written_reloc_at w k at r ≡ Some standing
    standing_is = ap (option_map (λ row. record { section = k; at = at; reloc = r; row = row })) meets.is.written

    pub written_is : (lines : List (Laid Line)) → written_at w n lines k at r ≡ written_standing w n lines standing
    written_is lines = ap (λ o. option_map_or (written_standing w n lines) o unwritten) standing_is

    -- it stands in its section, which has bytes in the file
    pub inside : (s : Section) → slice_get n.sections k ≡ Some s → at + bytes_of r.form.width ≤ length s.bytes
    inside s here = let same = same_Some meets.section s (sym meets.there ∙ here) in subst (λ (x : Section). at + bytes_of r.form.width ≤ length x.bytes) same meets.inside

    pub is_stored : (s : Section) → slice_get n.sections k ≡ Some s → is_zerofill_tag s.tag ≡ false
    is_stored s here = let same = same_Some meets.section s (sym meets.there ∙ here) in subst (λ (x : Section). is_zerofill_tag x.tag ≡ false) same mach_reloc.stored

    pub has_size : (s : Section) → slice_get n.sections k ≡ Some s → length s.bytes ≡ s.size
    has_size s here = (stored_all w n is k s here (is_stored s here)).1

    -- ... its entries

    found : (e : RelocationInfo) → e.r_type ≡ row.number → e.r_pcrel ≡ entry.pcrel → e.r_length ≡ length_of row.width → can_refer entry e.refers ≡ true → row_for w e ≡ Some entry
    unfolding row_for
    found e type pcrel len refers =
        ap (λ t. option_and_then (λ m. cond (can_refer m e.refers) (Some m) None) (entry_among (mach_entries w) t e.r_pcrel e.r_length)) type
        ∙ ap (λ p. option_and_then (λ m. cond (can_refer m e.refers) (Some m) None) (entry_among (mach_entries w) row.number p e.r_length)) pcrel
        ∙ ap (λ l. option_and_then (λ m. cond (can_refer m e.refers) (Some m) None) (entry_among (mach_entries w) row.number entry.pcrel l)) len
        ∙ ap (option_and_then (λ m. cond (can_refer m e.refers) (Some m) None)) among
        ∙ ap (λ b. cond b (Some entry) None) refers

    pcrel_is : cond (same_taken row.taken TakesPlace) 1 0 ≡ entry.pcrel
    pcrel_is = sym (known.pcrel ∙ row_is (λ x. cond (same_taken x.taken TakesPlace) 1 0))

    -- the type of an entry that is not scattered
    pub plain_row : (refers : Reference) → can_refer entry refers ≡ true → row_for w (plain_entry standing row.number refers) ≡ Some entry
    plain_row refers can = found (plain_entry standing row.number refers) refl pcrel_is refl can

    module _ (lines : List (Laid Line)) where
      abbrev own : Written
      own = written_standing w n lines standing

      -- the type of its first entry
      pub first_row : row_for w (item_of own).first ≡ Some entry
      first_row = by known.known
        where
          by : IsKnown w entry → row_for w (item_of own).first ≡ Some entry
          by (KnownAlone none alone lacks) =
              let second : row.second ≡ None = sym (row_is (λ x. x.second)) ∙ none in
              ap (λ o. row_for w (item_of (written_by w n lines standing o)).first) second
              ∙ plain_row (reference_to w lines r.target) (lone_refers w lines entry r.target alone)
          by (KnownPair p taken d) =
              let s = pair_second w entry p in
              let second : row.second ≡ Some s.0 = sym (row_is (λ x. x.second)) ∙ s.1 in
              let none : entry.pcrel ≡ 0 = known.pcrel ∙ ap (λ t. cond (same_taken t TakesPlace) 1 0) taken in
              ap (λ o. row_for w (item_of (written_by w n lines standing o)).first) second
              ∙ pair_first w n lines standing entry s.0 p mach_reloc.row found none pcrel_is

      pub first_is : is_first w (item_of own).first ≡ same_taken entry.row.taken TakesSection
      first_is = ap (λ o. option_map_or (λ (m : MachRow). same_taken m.row.taken TakesSection) o false) first_row

      -- it tells whether it is the first of a pair
      pub told : IsTold w own
      told = by known.known
        where
          as_pair : (w : Word) (x : WrittenReloc) (second : ℕ) → is_first w (item_of (written_pair w n lines x second)).first ≡ true → IsTold w (written_pair w n lines x second)
          as_pair w x second e = grind arith

          by : IsKnown w entry → IsTold w own
          by (KnownAlone none alone lacks) =
              let second : row.second ≡ None = sym (row_is (λ x. x.second)) ∙ none in
              subst (λ o. IsTold w (written_by w n lines standing o)) (sym second) (ap (λ o. is_first w (item_of (written_by w n lines standing o)).first) (sym second) ∙ first_is ∙ lacks)
          by (KnownPair p taken d) =
              let s = pair_second w entry p in
              let second : row.second ≡ Some s.0 = sym (row_is (λ x. x.second)) ∙ s.1 in
              subst (λ o. IsTold w (written_by w n lines standing o)) (sym second)
              (as_pair w standing s.0 (ap (λ o. is_first w (item_of (written_by w n lines standing o)).first) (sym second) ∙ first_is ∙ ap (λ t. same_taken t TakesSection) taken))

      -- the field is as long as it says
      pub first_length : (item_of own).first.r_length ≡ length_of row.width
      first_length = by known.known
        where
          as_pair : (v : Word) → w ≡ v → (second : ℕ) → IsPairRow w entry → (item_of (written_pair v n lines standing second)).first.r_length ≡ length_of row.width
          as_pair v e second p = grind arith

          by : IsKnown w entry → (item_of own).first.r_length ≡ length_of row.width
          by (KnownAlone none alone lacks) = ap (λ o. (item_of (written_by w n lines standing o)).first.r_length) (sym (row_is (λ x. x.second)) ∙ none)
          by (KnownPair p taken d) =
              let s = pair_second w entry p in
              ap (λ o. (item_of (written_by w n lines standing o)).first.r_length) (sym (row_is (λ x. x.second)) ∙ s.1) ∙ as_pair w refl s.0 p

      pub first_at : (item_of own).first.r_address ≡ at
      first_at = first_address w n lines standing

  -- ... the entries of a section

  -- no relocation stands in a section that is not there
  pub none_past : (k at : ℕ) → length n.sections ≤ k → reloc_at n k at ≡ None
  none_past k at high =
      let counted = is.object.built.fields.counted in
      ap (λ xs. reloc_among xs at) (empty_past n.relocs k (omega (arith, counted, high)))

  pub apart_by : (k i j : ℕ) (r q : Reloc) → reloc_at n k i ≡ Some r → reloc_at n k j ≡ Some q → i < j → i + bytes_of r.form.width ≤ j
  apart_by k i j r q here there before = elim (cases_lt k (length n.sections)) [
    | inl low ↦
        let s = there_at n.sections k low in
        ends_by 0 (list_of n.relocs k) (is.object.built.fields.apart k) (wide_in n is.object k s.0 s.1) i j r q here there before
    | inr high ↦ absurd (none-some r (sym (none_past k i (omega (arith, high))) ∙ here))
  ]

  pub apart_patches : (k : ℕ) → Apart (field_patches w n k)
  apart_patches k i j q r here there before =
      let a = from_mapped (field_patch w n k i) (reloc_at n k i) q here in
      let b = from_mapped (field_patch w n k j) (reloc_at n k j) r there in
      let ends = apart_by k i j a.0 b.0 a.1 b.1 before in
      let wide : bytes_of q.width ≡ bytes_of a.0.form.width = ap (λ (x : Patch). bytes_of x.width) (sym a.2) in
      omega (arith, ends, wide)

  module _ (lines : List (Laid Line)) (k : ℕ) where
    abbrev fields : List (Field Reloc)
    fields = list_of n.relocs k

    -- what is written for its relocations
    abbrev pub written_all : List Written
    written_all = map (written_field w n lines k) fields

    pub field_there : (i : ℕ) (x : Field Reloc) → slice_get fields i ≡ Some x → reloc_at n k x.at ≡ Some x.item
    field_there i x h = (found_in 0 fields (is.object.built.fields.apart k) i x h).1

    pub entries_are : entries_of w n lines k ≡ flat_map written_entries written_all
    unfolding entries_of
    entries_are = flat_same (entries_at w n lines k) written_entries (written_field w n lines k) fields (all_members (λ x. entries_at w n lines k x ≡ written_entries (written_field w n lines k x)) fields each)
      where
        each : (i : ℕ) (x : Field Reloc) → slice_get fields i ≡ Some x → entries_at w n lines k x ≡ written_entries (written_field w n lines k x)
        each i x h =
            let there = field_there i x h in
            ap (λ o. option_map_or (standing_entries w n lines) o []) (standing_is k x.at x.item there)
            ∙ entries_written w n lines (standing k x.at x.item there)
            ∙ ap written_entries (sym (written_is k x.at x.item there lines))

    all_told : AllByRecursion (IsTold w) written_all
    all_told = all_members (IsTold w) written_all (λ i y h.
        let x = of_map (written_field w n lines k) fields i y h in
        let there = field_there i x.0 x.1 in
        subst (IsTold w) (sym (written_is k x.0.at x.0.item there lines) ∙ x.2) (told k x.0.at x.0.item there lines))

    -- an item that is read is that of a relocation
    pub record IsOfReloc (index : ℕ) (i : Item) : Type 0 where
      pub at : ℕ
      pub reloc : Reloc
      pub there : reloc_at n k at ≡ Some reloc
      pub is_item : i ≡ item_of (written_standing w n lines (standing k at reloc there))
      pub position : ℕ
      pub field : Field Reloc
      pub among : slice_get fields position ≡ Some field
      pub begins : index ≡ begin_of written_all position
      pub offset : field.at ≡ at

    pub item_is : (index : ℕ) (i : Item) → item_at w (entries_of w n lines k) index ≡ Some i → IsOfReloc index i
    item_is index i h =
        let r = item_only w written_all all_told index i (ap (λ es. item_at w es index) (sym entries_are) ∙ h) in
        let x = of_map (written_field w n lines k) fields r.index r.one r.here in
        let there = field_there r.index x.0 x.1 in
        let place = r.place in
        record {
          at = x.0.at;
          reloc = x.0.item;
          there = there;
          is_item = r.is ∙ ap item_of (sym x.2) ∙ ap item_of (written_is k x.0.at x.0.item there lines);
          position = r.index;
          field = x.0;
          among = x.1;
          begins = omega (arith, place);
          offset = refl;
        }

    -- a relocation has its item
    pub record HasItem (at : ℕ) (i : Item) : Type 0 where
      pub index : ℕ
      pub inside_table : index < length (entries_of w n lines k)
      pub here : item_at w (entries_of w n lines k) index ≡ Some i

    pub item_of_reloc : (at : ℕ) (r : Reloc) (there : reloc_at n k at ≡ Some r) → HasItem at (item_of (written_standing w n lines (standing k at r there)))
    item_of_reloc at r there =
        let m = member_of fields at r there in
        let own : written_field w n lines k m.1 ≡ written_standing w n lines (standing k at r there)
        = ap (λ p. written_at w n lines k p m.1.item) m.3 ∙ ap (written_at w n lines k at) m.4 ∙ written_is k at r there lines in
        let t = item_there w written_all all_told m.0 (written_field w n lines k m.1) (member_map (written_field w n lines k) fields m.0 m.1 m.2) in
        let here : item_at w (entries_of w n lines k) (begin_of written_all m.0) ≡ Some (item_of (written_standing w n lines (standing k at r there)))
        = ap (λ es. item_at w es (begin_of written_all m.0)) entries_are ∙ t ∙ ap (λ y. Some (item_of y)) own in
        let e = item_inside w (entries_of w n lines k) (begin_of written_all m.0) (item_of (written_standing w n lines (standing k at r there))) here in
        record { index = begin_of written_all m.0; inside_table = slice_get_within (entries_of w n lines k) (begin_of written_all m.0) e.0 e.1; here = here }

    -- items are found by the offsets of their fields
    abbrev at_offset : ℕ → ℕ → Option Item
    at_offset at j = option_and_then (λ (i : Item). cond (nat_eq i.first.r_address at) (Some i) None) (item_at w (entries_of w n lines k) j)

    passes_at : (at : ℕ) (i : Item) (o : Option Item) → option_and_then (λ (i : Item). cond (nat_eq i.first.r_address at) (Some i) None) o ≡ Some i → (o ≡ Some i) × (i.first.r_address ≡ at)
    passes_at at i None h = absurd (none-some i h)
    passes_at at i (Some j) h = by (nat_eq j.first.r_address at) refl h
      where
        by : (b : Bool) → nat_eq j.first.r_address at ≡ b → cond b (Some j) None ≡ Some i → (Some j ≡ Some i) × (i.first.r_address ≡ at)
        by b e h = grind arith

    -- what is found at an offset is the item of the relocation there
    found_there : (at : ℕ) (i : Item) → first_upto (at_offset at) (length (entries_of w n lines k)) ≡ Some i
        → (r : Reloc) × (there : reloc_at n k at ≡ Some r) × (i ≡ item_of (written_standing w n lines (standing k at r there)))
    found_there at i h =
        let f = first_upto_from (at_offset at) (length (entries_of w n lines k)) i h in
        let p = passes_at at i (item_at w (entries_of w n lines k) f.0) f.2 in
        let x = item_is f.0 i p.0 in
        let same : x.at ≡ at = sym (first_at k x.at x.reloc x.there lines) ∙ ap (λ (y : Item). y.first.r_address) (sym x.is_item) ∙ p.1 in
        moved x.at at x.reloc x.there same x.is_item
      where
        moved : (a b : ℕ) (r : Reloc) (there : reloc_at n k a ≡ Some r) → a ≡ b → i ≡ item_of (written_standing w n lines (standing k a r there))
            → (r : Reloc) × (there : reloc_at n k b ≡ Some r) × (i ≡ item_of (written_standing w n lines (standing k b r there)))
        moved a b r there e own = subst (λ c. (r : Reloc) × (there : reloc_at n k c ≡ Some r) × (i ≡ item_of (written_standing w n lines (standing k c r there)))) e (r, there, own)

    pub none_found : (at : ℕ) → reloc_at n k at ≡ None → first_upto (at_offset at) (length (entries_of w n lines k)) ≡ None
    none_found at none = by (first_upto (at_offset at) (length (entries_of w n lines k))) refl
      where
        by : (o : Option Item) → first_upto (at_offset at) (length (entries_of w n lines k)) ≡ o → first_upto (at_offset at) (length (entries_of w n lines k)) ≡ None
        by None e = e
        by (Some i) e = let f = found_there at i e in absurd (none-some f.0 (sym none ∙ f.1))

    pub item_found : (at : ℕ) (r : Reloc) (there : reloc_at n k at ≡ Some r)
        → first_upto (at_offset at) (length (entries_of w n lines k)) ≡ Some (item_of (written_standing w n lines (standing k at r there)))
    item_found at r there = by (first_upto (at_offset at) (length (entries_of w n lines k))) refl
      where
        own : HasItem at (item_of (written_standing w n lines (standing k at r there)))
        own = item_of_reloc at r there

        passes : at_offset at own.index ≡ Some (item_of (written_standing w n lines (standing k at r there)))
        passes =
            ap (option_and_then (λ (i : Item). cond (nat_eq i.first.r_address at) (Some i) None)) own.here
            ∙ ap (λ b. cond b (Some (item_of (written_standing w n lines (standing k at r there)))) None) (eq-eqb _ at (first_at k at r there lines))

        by : (o : Option Item) → first_upto (at_offset at) (length (entries_of w n lines k)) ≡ o
            → first_upto (at_offset at) (length (entries_of w n lines k)) ≡ Some (item_of (written_standing w n lines (standing k at r there)))
        by None e = absurd (none-some _ (sym (first_upto_none (at_offset at) (length (entries_of w n lines k)) e own.index own.inside_table) ∙ passes))
        by (Some i) e =
            let f = found_there at i e in
            let same : f.0 ≡ r = same_Some f.0 r (sym f.1 ∙ there) in
            e ∙ ap Some f.2 ∙ ap Some (one_reloc f.0 r f.1 there same)
          where
            one_reloc : (q r : Reloc) (a : reloc_at n k at ≡ Some q) (b : reloc_at n k at ≡ Some r) → q ≡ r
                → item_of (written_standing w n lines (standing k at q a)) ≡ item_of (written_standing w n lines (standing k at r b))
            one_reloc q r a b e = ap item_of (sym (written_is k at q a lines) ∙ ap (written_at w n lines k at) e ∙ written_is k at r b lines)
