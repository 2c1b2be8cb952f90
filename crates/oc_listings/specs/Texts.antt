-- The lines of listings (our profile).
use Rattle.std.specs.{Prelude.{ℕ, List, ◌++◌, codes}, Fmt.{decimal}}
use Rattle.oc_base.specs.declared.format.Format.{Format}
use Rattle.oc_base.specs.declared.format.Format.TheVariants.{Elf32, Elf64, Coff32, Coff64, Mac32, Mac64, Omf, BigElf32, BigElf64, BigCoff32, BigCoff64}
use Rattle.oc_base.specs.declared.format.Word.{Word}
use Rattle.oc_linking.specs.{declared.terms.Check.{Check}, declared.terms.Kind.{Kind}, declared.terms.Width.{Width}, Fits.{bytes_of}}
use Rattle.oc_linking.specs.declared.terms.Check.TheVariants as check
use Rattle.oc_linking.specs.declared.terms.Kind.TheVariants as kind
use Rattle.oc_dump.specs.Lines.{digit_count, hex, shown_name}

-- the name of a format
unfoldable pub format_text : Format → List ℕ
format_text Elf32 = codes "elf32"
format_text Elf64 = codes "elf64"
format_text Coff32 = codes "coff32"
format_text Coff64 = codes "coff64"
format_text Mac32 = codes "mac32"
format_text Mac64 = codes "mac64"
format_text Omf = codes "omf"
format_text BigElf32 = codes "bigelf32"
format_text BigElf64 = codes "bigelf64"
format_text BigCoff32 = codes "bigcoff32"
format_text BigCoff64 = codes "bigcoff64"

-- what a section is for
abbrev pub kind_text : Kind → List ℕ
kind_text kind.Code = codes "code"
kind_text kind.ReadOnly = codes "readonly"
kind_text kind.Data = codes "data"
kind_text kind.Zero = codes "zero"
kind_text kind.Init = codes "init"
kind_text kind.Fini = codes "fini"
kind_text kind.Debug = codes "debug"
kind_text kind.Exception = codes "exception"
kind_text kind.Note = codes "note"

-- which residues fit
abbrev pub check_text : Check → List ℕ
check_text check.Wrap = codes "wrap"
check_text check.Signed = codes "signed"
check_text check.Unsigned = codes "unsigned"
check_text check.Either = codes "either"

-- the line of a word and a number
unfoldable pub line_text : List ℕ → ℕ → List ℕ
line_text word number = word ++ codes " " ++ decimal number ++ codes "\n"

-- the lines of a header: the format, how many sections, symbols and relocations there are, and how many bytes
unfoldable pub header_text : Format → ℕ → ℕ → ℕ → ℕ → List ℕ
header_text format sections symbols relocations bytes =
    codes "format " ++ format_text format ++ codes "\n" ++ line_text (codes "sections") sections ++ line_text (codes "symbols") symbols
    ++ line_text (codes "relocations") relocations ++ line_text (codes "bytes") bytes

-- a number with a blank after it
abbrev pub number_text : ℕ → List ℕ
number_text x = decimal x ++ codes " "

-- the line of a section: its number, kind, alignment, size and name
unfoldable pub section_text : ℕ → Kind → ℕ → ℕ → List ℕ → List ℕ
section_text number kind align size name = number_text number ++ kind_text kind ++ codes " " ++ number_text align ++ number_text size ++ shown_name name ++ codes "\n"

-- what a field names: a symbol, or a section by its number
abbrev pub symbol_text : List ℕ → List ℕ
symbol_text name = codes "symbol " ++ shown_name name

abbrev pub numbered_text : ℕ → List ℕ
numbered_text number = codes "section " ++ decimal number

-- the numbers of a field and its check, with a blank after it
abbrev pub numbers_text : ℕ → ℕ → Width → Check → List ℕ
numbers_text number offset width check = number_text number ++ number_text offset ++ number_text (bytes_of width) ++ check_text check ++ codes " "

-- the line of a field: the number of its section, its offset, its width in bytes, its check, its residue, and what it names
unfoldable pub field_text : Word → ℕ → ℕ → Width → Check → ℕ → List ℕ → List ℕ
field_text word number offset width check residue named =
    numbers_text number offset width check ++ hex (digit_count word) residue ++ codes " " ++ named ++ codes "\n"
