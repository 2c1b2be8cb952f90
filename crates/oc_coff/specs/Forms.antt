-- The forms of COFF: two words, and objects of few and of many sections (PE/COFF; winnt.h, "ANON_OBJECT_HEADER_BIGOBJ").
use Rattle.std.specs.Prelude.{ℕ}
use Rattle.oc_base.specs.{declared.format.Format.{Format}, declared.format.Format.TheVariants.{Coff32, Coff64, BigCoff32, BigCoff64}}
use Rattle.oc_base.specs.{declared.format.Word.{Word}, declared.format.Word.TheVariants.{W32, W64}}
use Rattle.oc_coff.specs.{declared.file_header.TheConstants.{FILE_HEADER_SIZE, BIG_HEADER_SIZE}, declared.form.CoffForm.{CoffForm}}
use Rattle.oc_coff.specs.{declared.form.CoffForm.TheVariants.{Usual32, Usual64, Big32, Big64}, declared.form.Shape.{Shape}}
use Rattle.oc_coff.specs.{declared.form.Shape.TheVariants.{Usual, Big}, declared.symbol.TheConstants.{SYMBOL_SIZE, BIG_SYMBOL_SIZE}}

-- the word of a form
abbrev pub word_of : CoffForm → Word
word_of Usual32 = W32
word_of Usual64 = W64
word_of Big32 = W32
word_of Big64 = W64

-- its shape
abbrev pub shape_of : CoffForm → Shape
shape_of Usual32 = Usual
shape_of Usual64 = Usual
shape_of Big32 = Big
shape_of Big64 = Big

-- the format of a word and a shape
abbrev pub format_by : Word → Shape → Format
format_by W32 Usual = Coff32
format_by W64 Usual = Coff64
format_by W32 Big = BigCoff32
format_by W64 Big = BigCoff64

-- that of a form
abbrev pub format_of : CoffForm → Format
format_of f = format_by (word_of f) (shape_of f)

-- the format for few sections of a word, whose rows both have
abbrev pub coff_format : Word → Format
coff_format W32 = Coff32
coff_format W64 = Coff64

-- the size of the file header
abbrev pub header_size : Shape → ℕ
header_size Usual = FILE_HEADER_SIZE
header_size Big = BIG_HEADER_SIZE

-- the size of an entry of the symbol table
abbrev pub symbol_size : Shape → ℕ
symbol_size Usual = SYMBOL_SIZE
symbol_size Big = BIG_SYMBOL_SIZE
