-- The header of a canonical file is well formed.
use Rattle.std.proofs.Common.{◌≡◌, ℕ, ◌+◌, ◌*◌, ◌≤◌, true, false, eqb, List, length, refl, arith}
use Rattle.std.specs.Prelude.{flat_map, nat_lt}
use Rattle.std.proofs.lemmas.{Bool.{ne_eqb, lt-ltb}, Bool.Decides.{nat_tests}}
use Rattle.oc_coff.specs.{declared.form.CoffForm.{CoffForm}, declared.form.Shape.{Shape}, Forms.{header_size, shape_of, symbol_size}}
use Rattle.oc_coff.specs.{declared.file_header.FileHeader.{FileHeader}, SectionHeader.{section_header_bytes}, Flags.{version_of}}
use Rattle.oc_coff.specs.HeaderFaults.{foreign_condition, header_conditions}
use Rattle.oc_neutral.specs.Objects.{Object}
use Rattle.oc_shelf.proofs.{WritingLaws.StandingLemmas.{stands_inside}, ReadingLaws.StageLemmas.{Unbroken}}
use Rattle.oc_coff_file.specs.{Lines.{entry_count}, Layout.{SectionHeads, text_of}, Canonical.{headers_of, file_header, coff_file, part_bytes}}
use Rattle.oc_coff_file.proofs.PartLaws.{part_sized, table_place, table_past, length-coff_file, stands_headers}
use Rattle.oc_coff_file.proofs.TableLaws.{IsCodable, symbols_counted, place_there, strings_number}

-- a range that lies in the file
pub within_file : (size end : ℕ) → end ≤ size → nat_lt size end ≡ false
within_file size end l = grind (arith, nat_tests)

module _ (w : CoffForm) (n : Object) (fits : IsCodable w n) where
  abbrev file : List ℕ
  file = coff_file w n

  long : length file ≡ table_place w n + symbol_size (shape_of w) * entry_count w n + (4 + length (text_of w n))
  long = length-coff_file w n

  heads_inside : header_size (shape_of w) + 40 * length n.sections ≤ length file
  unfolding part_bytes
  heads_inside =
      let size : length (flat_map section_header_bytes (headers_of w n)) ≡ 40 * length n.sections = part_sized w n SectionHeads in
      let inside = stands_inside file (flat_map section_header_bytes (headers_of w n)) (header_size (shape_of w)) (stands_headers w n) in
      omega (arith, size, inside)

  sections_counted : (file_header w n).NumberOfSections ≡ length n.sections
  unfolding file_header
  sections_counted = refl

  no_optional : (file_header w n).SizeOfOptionalHeader ≡ 0
  unfolding file_header
  no_optional = refl

  versioned : (file_header w n).Version ≡ version_of (shape_of w)
  unfolding file_header
  versioned = refl

  -- what the header says is of an object
  native : (z : Shape) (h : FileHeader) → h.SizeOfOptionalHeader ≡ 0 → h.Version ≡ version_of z → (foreign_condition z h).0 ≡ false
  native z h optional version = grind arith

  pub header_clean : Unbroken (header_conditions (shape_of w) file (file_header w n))
  unfolding header_conditions
  header_clean =
      let z : Shape = shape_of w in
      let past : 20 ≤ table_place w n = table_past w n in
      let inside = heads_inside in
      let l = long in
      let pointer : eqb (table_place w n) 0 ≡ false = ne_eqb (table_place w n) 0 (omega (arith, past)) in
      let there : nat_lt (table_place w n + symbol_size (shape_of w) * entry_count w n) (length file) ≡ true = lt-ltb _ _ (omega (arith, l)) in
      let number : nat_lt (4 + length (text_of w n)) 4 ≡ false = within_file (4 + length (text_of w n)) 4 (omega arith) in
      rw (place_there w n fits, symbols_counted w n, sections_counted, pointer, there, strings_number w n fits, number) (
        within_file (length file) (0 + header_size (shape_of w)) (omega (arith, inside)),
        (
          native (shape_of w) _ no_optional versioned,
          (
            refl,
            (
              within_file (length file) (header_size (shape_of w) + 40 * length n.sections) inside,
              (
                within_file (length file) (table_place w n + symbol_size (shape_of w) * entry_count w n) (omega (arith, l)),
                (
                  within_file (length file) (table_place w n + symbol_size (shape_of w) * entry_count w n + 4) (omega (arith, l)),
                  (
                    refl,
                    (within_file (length file) (table_place w n + symbol_size (shape_of w) * entry_count w n + (4 + length (text_of w n))) (omega (arith, l)), tt),
                  ),
                ),
              ),
            ),
          ),
        ),
      )
