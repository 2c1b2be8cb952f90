-- What the entries of a symbol table say by themselves (gABI, "Symbol Table").
use Rattle.std.specs.{Prelude.{ℕ, ◌%◌, Bool, not, ◌&&◌, ◌||◌, nat_eq, nat_lt, if◌then◌else◌, List, [], Option}, Option.{unwrap_or}}
use Rattle.oc_linking.specs.{declared.terms.Mark.{Mark}, declared.terms.Mark.TheVariants.{NoType, Object, Function}, declared.terms.Visibility.{Visibility}}
use Rattle.oc_linking.specs.declared.terms.Visibility.TheVariants.{Default, Internal, Hidden, Protected}
use Rattle.oc_elf.specs.declared.constants.TheConstants.{SHN_LORESERVE}
use Rattle.oc_elf.specs.declared.constants.TheConstants.{SHN_UNDEF, STB_LOCAL, STT_OBJECT, STT_FUNC, STT_SECTION, STT_COMMON}
use Rattle.oc_elf.specs.{declared.constants.TheConstants.{STV_DEFAULT, STV_INTERNAL, STV_HIDDEN}, declared.sym.Sym.{Sym}, Sym.{bind_of, type_of}}
use Rattle.oc_elf.specs.{Names.{name_in}, Frames.{FileFrame, header_at}, Tables.{symtab_of}}

-- the name of a symbol, if it is present
unfoldable pub name_at : FileFrame → Sym → Option (List ℕ)
name_at f s = name_in f.file (header_at f.headers (symtab_of f).sh_link) s.st_name

-- the name of a symbol
abbrev pub name_of : FileFrame → Sym → List ℕ
name_of f s = unwrap_or (name_at f s) []

-- it is LOCAL
abbrev pub is_local_entry : Sym → Bool
is_local_entry s = nat_eq (bind_of s) STB_LOCAL

-- its number is a section's
abbrev pub is_sectional : Sym → Bool
is_sectional s = not (nat_eq s.st_shndx SHN_UNDEF) && nat_lt s.st_shndx SHN_LORESERVE

-- it is a section's own
abbrev pub is_section_symbol : Sym → Bool
is_section_symbol s = nat_eq (type_of s) STT_SECTION

-- its mark
abbrev pub mark_of : Sym → Mark
mark_of s = if nat_eq (type_of s) STT_OBJECT || nat_eq (type_of s) STT_COMMON then Object else (if nat_eq (type_of s) STT_FUNC then Function else NoType)

-- its visibility: the low two bits of st_other
abbrev pub visibility_of : Sym → Visibility
visibility_of s =
    if nat_eq (s.st_other % 4) STV_DEFAULT then Default
    else (if nat_eq (s.st_other % 4) STV_INTERNAL then Internal else (if nat_eq (s.st_other % 4) STV_HIDDEN then Hidden else Protected))
