-- Relocation entries, scattered or not (Mach-O reference, "relocation_info" and "scattered_relocation_info").
use Rattle.std.specs.Prelude.{ℕ, ◌+◌, ◌/◌, ◌%◌, ◌^◌, nat_eq, nat_le, if◌then◌else◌, List}
use Rattle.oc_base.specs.Numbers.{number_at}
use Rattle.oc_macho.specs.{declared.constants.TheConstants.{R_SCATTERED}, declared.relocation_info.RelocationInfo.{RelocationInfo}}
use Rattle.oc_macho.specs.{declared.relocation_info.Reference.{Reference}, declared.relocation_info.Reference.TheVariants.{Symbol, Section, Address}}

-- a scattered entry of two words: the address in bits 0 to 23 of the first, the type in 24 to 27, the length in 28 and 29, r_pcrel in 30
unfoldable pub scattered_of : ℕ → ℕ → RelocationInfo
scattered_of first second = record {
  r_address = first % 2 ^ 24;
  r_pcrel = first / 2 ^ 30 % 2;
  r_length = first / 2 ^ 28 % 4;
  r_type = first / 2 ^ 24 % 16;
  refers = Address second;
}

-- what an entry that is not scattered refers to: r_symbolnum in bits 0 to 23 of its second word, r_extern in 27
unfoldable pub reference_of : ℕ → Reference
reference_of second = if nat_eq (second / 2 ^ 27 % 2) 1 then Symbol (second % 2 ^ 24) else Section (second % 2 ^ 24)

-- the relocation entry of two words: of one that is not scattered, r_pcrel in bit 24 of the second, the length in 25 and 26, the type in 28 to 31
unfoldable pub relocation_info_of : ℕ → ℕ → RelocationInfo
relocation_info_of first second =
    if nat_le R_SCATTERED first then scattered_of first second
    else record {
      r_address = first;
      r_pcrel = second / 2 ^ 24 % 2;
      r_length = second / 2 ^ 25 % 4;
      r_type = second / 2 ^ 28;
      refers = reference_of second;
    }

-- the relocation entry at a place of the file
unfoldable pub relocation_info_at : List ℕ → ℕ → RelocationInfo
relocation_info_at file at = relocation_info_of (number_at file at 4) (number_at file (at + 4) 4)
