-- Which refusal comes first, on the first bytes of files from outside, where all files end too early.
use Rattle.std.proofs.Common.{◌≡◌, ℕ, List, [], ◌∷◌, map, Option, Some, None, refl}
use Rattle.oc_base.specs.{declared.code.Code.TheVariants.{UnknownFormat, WordSize, Short}, declared.fault.Fault.{Fault}, declared.format.Format.{Format}}
use Rattle.oc_base.specs.{declared.format.Format.TheVariants.{Elf32, Elf64, Coff32, Coff64, Mac64}, Formats.{word_for}}
use Rattle.oc_linking.specs.Keeping.{all}
use Rattle.oc_neutral.specs.{Alignments.{output_align, common_align}, Dialects.{Dialect}}
use Rattle.oc_names.specs.Wishes.{no_wishes}
use Rattle.oc_convert.specs.{Identified.{identified}, Dispatched.{Built, header_refusal, dispatch_refusal, reading_refusal}}

-- a format whose files all end too early
abbrev short : Format → Dialect
short format = record {
  format = format;
  rules = record {
    word = word_for format;
    fault = λ b keep. Some (header_refusal Short);
    sections = λ b. [];
    symbols = λ b keep. [];
    fields = λ b keep s at. None;
    output_align = output_align format;
    common_align = common_align format;
  };
}

abbrev built : Built
built = record { reader = short; writer = λ to. record { dialect = short to; canonical = λ n. [] } }

-- a file, a target and the first refusal
abbrev Row : Type 0
Row = List ℕ × Format × Option Fault

abbrev rows : List Row
rows =
    -- an empty file, whatever the target
    ([], Coff32, Some (header_refusal UnknownFormat)) ∷ ([], Elf64, Some (header_refusal UnknownFormat))
    -- words that differ come before the file's own faults
    ∷ (0x7F ∷ 0x45 ∷ 0x4C ∷ 0x46 ∷ 1 ∷ 1 ∷ [], Coff64, Some (header_refusal WordSize)) ∷ (0x80 ∷ 0x03 ∷ [], Elf64, Some (header_refusal WordSize))
    -- of one word: the file decides
    ∷ (0x4C ∷ 0x01 ∷ [], Elf32, Some (header_refusal Short)) ∷ (0x7F ∷ 0x45 ∷ 0x4C ∷ 0x46 ∷ 2 ∷ [], Mac64, Some (header_refusal Short))
    ∷ (0x7F ∷ 0x45 ∷ 0x4C ∷ 0x46 ∷ 1 ∷ 1 ∷ [], Elf32, Some (header_refusal Short)) ∷ []

rows-refused : map (λ (row : Row). dispatch_refusal built no_wishes row.1 row.0) rows ≡ map (λ (row : Row). row.2) rows
unfolding identified
rows-refused = refl

-- where a file is only read, its word is not looked at
abbrev reading_rows : List (List ℕ × Option Fault)
reading_rows =
    ([], Some (header_refusal UnknownFormat)) ∷ (0x4C ∷ 0x01 ∷ [], Some (header_refusal Short)) ∷ (0x7F ∷ 0x45 ∷ 0x4C ∷ 0x46 ∷ 2 ∷ [], Some (header_refusal Short)) ∷ []

reading_rows-refused : map (λ (row : List ℕ × Option Fault). reading_refusal built all row.0) reading_rows ≡ map (λ (row : List ℕ × Option Fault). row.1) reading_rows
unfolding identified
reading_rows-refused = refl
