-- How many bytes a section has, by its number.
use Rattle.oc_coff.specs.{Files.{CoffFile, tables_in}, declared.section_header.SectionHeader.{SectionHeader}, Tables.{SectionTable, section_table}}
use Rattle.oc_coff.specs.Comdat.{section_numbered}
use Rattle.std.proofs.Common.{◌≡◌, ℕ, ◌-◌, false, cond, eqb, Option, None, Some, sym, ◌∙◌, ap}
use Rattle.std.specs.{Prelude.{nat_lt, slice_get}, Option.{option_map_or}}

pub size_at : (file : CoffFile) (k offset : ℕ) (h : SectionHeader) → eqb k 0 ≡ false → slice_get (tables_in file).sections (k - 1) ≡ Some (section_table file.bytes h)
    → nat_lt h.SizeOfRawData offset ≡ option_map_or (λ (x : SectionTable). nat_lt x.header.SizeOfRawData offset) (section_numbered (tables_in file) k) false
unfolding section_table
size_at file k offset h some here =
    sym (ap (λ (o : Option SectionTable). option_map_or (λ (x : SectionTable). nat_lt x.header.SizeOfRawData offset) o false) (ap (λ b. cond b None (slice_get (tables_in file).sections (k - 1))) some ∙ here))
