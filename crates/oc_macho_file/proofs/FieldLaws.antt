-- The fields of a canonical file: what numbers stand in them, and which entries they are read by.
use Rattle.std.proofs.Common.{◌≡◌, ℕ, ◌%◌, ◌≤◌, cond, ℤ, List, length, replicate, Option, Some, None, Ok, sym, ◌∙◌, ap, arith}
use Rattle.std.specs.{Prelude.{◌+ℤ◌, slice_get}, Option.{option_map, option_map_or, option_and_then}}
use Rattle.oc_base.specs.{declared.format.Word.{Word}, declared.format.Word.TheVariants.{W32, W64}, Numbers.{number_at}}
use Rattle.oc_linking.specs.Fits.{bytes_of, span}
use Rattle.oc_linking.proofs.Storing.{field_holds}
use Rattle.oc_algebra.specs.{Residues.{reduced_number}, Fields.{extended, to_field_of, from_field_of}}
use Rattle.oc_neutral.specs.{declared.section.Section.{Section}, declared.reloc.Reloc.{Reloc}, Mach.Relocs.{MachRow}, Objects.{Object, reloc_at}}
use Rattle.oc_target.specs.Meets.{HoldsAddend}
use Rattle.oc_shows.specs.RowFields.{number_in}
use Rattle.oc_shelf.specs.Writing.Parts.{Laid}
use Rattle.oc_macho.specs.declared.relocation_info.Reference.TheVariants as reference
use Rattle.oc_macho.specs.{declared.entries.Item.{Item}, MachHeader.{mach_format}, Tables.{SectionTable, Tables}, Entries.{row_for, target_entry, taken_entry}}
use Rattle.oc_macho.specs.{Aims.{Aim, aim_in, target_in}, Fields.{FieldParts, field_parts_by, field_parts_in, item_for, field_of, fields_in}}
use Rattle.oc_macho_file.specs.{Addresses.{address_of}, Lines.{Line, numbered_lines, own_number}}
use Rattle.oc_macho_file.specs.Bodies.{WrittenReloc, taken_section, end_section_address, field_shift, number_or, field_number, field_patch, field_patches, raw_of, reference_to, plain_entry, scattered_entry}
use Rattle.oc_macho_file.proofs.{TableLaws.{made_table, made_sections, made_tables}, CodedLaws.{IsForMach, word_back}, ItemLaws.{item_of}}
use Rattle.oc_macho_file.proofs.EntryLaws.{written_pair, written_by, written_standing, addend_held, meets, row, entry, row_is, standing, standing_is, first_row, inside, is_stored, apart_patches, item_found, none_found}
use Rattle.oc_macho_file.proofs.SectionLaws.{made_contents, table_at, length-tables}
use Rattle.std.proofs.lemmas.Option.{slice_get_past}
use Rattle.oc_shows.proofs.FoundLaws.{holds_addend}

module _ (w : Word) (n : Object) (is : IsForMach w n) where
  abbrev t : Tables
  t = made_tables w n

  abbrev lines : List (Laid Line)
  lines = numbered_lines w n

  module _ (k : ℕ) (s : Section) (here : slice_get n.sections k ≡ Some s) where
    -- the table of the section
    abbrev c : SectionTable
    c = made_table w n (k, s)

    fields_by : (at : ℕ) → fields_in t k at ≡ option_map (field_of t k at c) (field_parts_in t c at)
    unfolding fields_in made_tables
    fields_by at = ap (option_and_then (λ c. option_map (field_of t k at c) (field_parts_in t c at))) (table_at w n k s here)

    -- where no relocation stands, no field does
    pub no_field : (at : ℕ) → reloc_at n k at ≡ None → fields_in t k at ≡ None
    unfolding item_for made_tables
    no_field at none = fields_by at ∙ ap (λ o. option_map (field_of t k at c) (option_and_then (field_parts_by t) o)) (none_found w n is lines k at none)

    module _ (at : ℕ) (r : Reloc) (there : reloc_at n k at ≡ Some r) where
      abbrev x : WrittenReloc
      x = standing w n is k at r there

      abbrev e : MachRow
      e = entry w n is k at r there

      -- the entries of the field
      abbrev pub own_item : Item
      own_item = item_of (written_standing w n lines x)

      pub field_there : (f : FieldParts) → field_parts_by t own_item ≡ Some f → fields_in t k at ≡ Some (field_of t k at c f)
      unfolding item_for made_tables
      field_there f found =
          fields_by at ∙ ap (λ o. option_map (field_of t k at c) (option_and_then (field_parts_by t) o)) (item_found w n is lines k at r there)
          ∙ ap (option_map (field_of t k at c)) found

      -- ... the number in the field

      abbrev shift : ℤ
      shift = field_shift w n x

      -- it holds the addend
      abbrev holds : HoldsAddend (mach_format w) r shift
      holds = addend_held w n is k at r there

      written : to_field_of w r.form.width shift r.addend ≡ Ok holds.0
      written = ap (λ v. to_field_of v r.form.width shift r.addend) (sym (word_back w)) ∙ holds.1

      -- as it is read
      abbrev pub number : ℤ
      number = number_in e.row (made_contents w n (k, s)) at

      pub held : reduced_number w (number +ℤ shift) ≡ reduced_number w r.addend
      unfolding raw_of field_number from_field_of
      held =
          let F : ℕ = holds.0 in
          let contents : List ℕ = made_contents w n (k, s) in
          let own = holds_addend w r.form.width shift r.addend F written in
          let stored : (field_patch w n k at r).residue ≡ F = ap (λ o. option_map_or (field_number w n) o 0) (standing_is w n is k at r there) ∙ ap number_or written in
          let read : number_at contents at (bytes_of r.form.width) ≡ F
          = ap (λ b. number_at (cond b (replicate s.size 0) (raw_of w n k s)) at (bytes_of r.form.width)) (is_stored w n is k at r there s here)
          ∙ field_holds (field_patches w n k) (apart_patches w n is k) s.bytes at (field_patch w n k at r) (ap (option_map (field_patch w n k at)) there) (inside w n is k at r there s here)
          ∙ ap (λ f. f % span r.form.width) stored ∙ own.0 in
          let width : e.row.width ≡ r.form.width = row_is w n is k at r there (λ y. y.width) ∙ (meets w n is k at r there).is.width in
          ap (λ k. reduced_number w (extended k (number_at contents at (bytes_of k)) +ℤ shift)) width
          ∙ ap (λ f. reduced_number w (extended r.form.width f +ℤ shift)) read ∙ own.1

      -- ... the field by its entries

      abbrev with_aims : Option Aim → Option Aim → Option FieldParts
      with_aims target taken = option_map (λ target. record { row = e; target = target; taken = taken }) target

      found_as : (i : Item) → row_for w i.first ≡ Some e → field_parts_by t i ≡ with_aims (target_in t (target_entry w i)) (option_and_then (target_in t) (taken_entry w i))
      unfolding field_parts_by made_tables
      found_as i row = ap (option_and_then (λ m. option_map (λ target. record { row = m; target = target; taken = option_and_then (target_in t) (taken_entry w i) }) (target_in t (target_entry w i)))) row

      -- of an entry that stands alone
      pub found_alone : x.row.second ≡ None → (aim : Aim) → aim_in t (reference_to w lines r.target) ≡ Some (Some aim) → field_parts_by t own_item ≡ Some (record { row = e; target = aim; taken = None })
      found_alone second aim aimed =
          found_as own_item (first_row w n is k at r there lines)
          ∙ ap (λ o. with_aims (target_in t (target_entry w (item_of (written_by w n lines x o)))) (option_and_then (target_in t) (taken_entry w (item_of (written_by w n lines x o))))) second
          ∙ by w
        where
          by : (v : Word) → with_aims (target_in t (target_entry v (record { first = plain_entry x x.row.number (reference_to w lines r.target); second = None })))
              (option_and_then (target_in t) (taken_entry v (record { first = plain_entry x x.row.number (reference_to w lines r.target); second = None }))) ≡ Some (record { row = e; target = aim; taken = None })
          by W32 = ap (λ o. with_aims (option_and_then (λ a. a) o) None) aimed
          by W64 = ap (λ o. with_aims (option_and_then (λ a. a) o) None) aimed

      -- it takes nothing
      pub taken_alone : x.row.second ≡ None → taken_entry w own_item ≡ None
      taken_alone second = ap (λ o. taken_entry w (item_of (written_by w n lines x o))) second ∙ by w
        where
          by : (v : Word) → taken_entry v (record { first = plain_entry x x.row.number (reference_to w lines r.target); second = None }) ≡ None
          by v = grind arith

      -- of a pair of x86-64
      pub found_long : w ≡ W64 → (second : ℕ) → x.row.second ≡ Some second → (aim taken : Aim) → aim_in t (reference_to W64 lines r.target) ≡ Some (Some aim)
          → aim_in t (reference.Symbol (own_number lines (taken_section x))) ≡ Some (Some taken) → field_parts_by t own_item ≡ Some (record { row = e; target = aim; taken = Some taken })
      found_long long second is_second aim taken aimed takes =
          found_as own_item (first_row w n is k at r there lines)
          ∙ ap (λ o. with_aims (target_in t (target_entry w (item_of (written_by w n lines x o)))) (option_and_then (target_in t) (taken_entry w (item_of (written_by w n lines x o))))) is_second
          ∙ ap (λ v. with_aims (target_in t (target_entry v (item_of (written_pair v n lines x second)))) (option_and_then (target_in t) (taken_entry v (item_of (written_pair v n lines x second))))) long
          ∙ ap (λ o. with_aims (option_and_then (λ a. a) o) (target_in t (plain_entry x x.row.number (reference.Symbol (own_number lines (taken_section x)))))) aimed
          ∙ ap (λ o. with_aims (Some aim) (option_and_then (λ a. a) o)) takes

      -- of one of i386
      pub found_short : w ≡ W32 → (second : ℕ) → x.row.second ≡ Some second → (aim taken : Aim) → aim_in t (reference.Address (end_section_address n r.target)) ≡ Some (Some aim)
          → aim_in t (reference.Address (address_of n (taken_section x))) ≡ Some (Some taken) → field_parts_by t own_item ≡ Some (record { row = e; target = aim; taken = Some taken })
      found_short short second is_second aim taken aimed takes =
          found_as own_item (first_row w n is k at r there lines)
          ∙ ap (λ o. with_aims (target_in t (target_entry w (item_of (written_by w n lines x o)))) (option_and_then (target_in t) (taken_entry w (item_of (written_by w n lines x o))))) is_second
          ∙ ap (λ v. with_aims (target_in t (target_entry v (item_of (written_pair v n lines x second)))) (option_and_then (target_in t) (taken_entry v (item_of (written_pair v n lines x second))))) short
          ∙ ap (λ o. with_aims (option_and_then (λ a. a) o) (target_in t (scattered_entry 0 second (address_of n (taken_section x))))) aimed
          ∙ ap (λ o. with_aims (Some aim) (option_and_then (λ a. a) o)) takes

  -- no field stands in a section that is not there
  pub fields_past : (k at : ℕ) → length n.sections ≤ k → fields_in t k at ≡ None
  unfolding fields_in made_tables
  fields_past k at high =
      let long = length-tables w n in
      ap (option_and_then (λ c. option_map (field_of t k at c) (field_parts_in t c at))) (slice_get_past (made_sections w n) k (omega (arith, high, long)))
