-- The lines of hints, as docs/OBJHINT.md has them.
use Rattle.std.proofs.Common.{◌≡◌, [], ◌∷◌, ◌++◌, refl}
use Rattle.std.specs.{Prelude.{codes}, Fmt.{digits}}
use Rattle.oc_dump.specs.Lines.{hex}
use Rattle.oc_hints.specs.declared.hint.Hint.TheVariants as hint
use Rattle.oc_hints.specs.declared.key.SymbolKey.TheVariants as symbols
use Rattle.oc_hints.specs.declared.key.SectionKey.TheVariants as sections
use Rattle.oc_hints.specs.declared.key.FieldKey.TheVariants as fields
use Rattle.oc_hints.specs.declared.key.FileKey.TheVariants as files
use Rattle.oc_hints.specs.declared.key.EditKey.TheVariants as edits
use Rattle.oc_hint_text.specs.Lines.{hint_line, hint_lines}
use Rattle.oc_hint_text.specs.Words.{symbol_word, symbol_sentence, section_word, section_sentence, field_word, field_sentence, file_word, file_sentence, edit_word, edit_sentence}

-- a name is shown as in a listing of symbols
symbol-line : hint_line (hint.Symbol symbols.WeakAtZero (codes "a b")) ≡ codes "weak-at-zero: a\\x20b: GNU ld does not follow the default of a weak symbol of COFF, and puts it at address 0\n"
unfolding hint_line symbol_word symbol_sentence hex digits
symbol-line = refl

section-line : hint_line (hint.Section sections.StartUpLost (codes ".ctors")) ≡ codes "start-up-lost: .ctors: the start-up code calls none of its functions, since the section becomes data\n"
unfolding hint_line section_word section_sentence
section-line = refl

-- one field, and more than one
field-lines : hint_lines (hint.Field fields.AddressOutOfRange (codes ".text") 12 1 ∷ hint.Field fields.AddressOutOfRange (codes ".data") 0 3 ∷ [])
    ≡ codes "address-out-of-range: .text at 12: ld64 refuses it, since a program for macOS begins at 2^32\n"
    ++ codes "address-out-of-range: .data at 0, and 2 more: ld64 refuses it, since a program for macOS begins at 2^32\n"
unfolding hint_lines hint_line field_word field_sentence digits
field-lines = refl

file-line : hint_line (hint.File files.Safeseh) ≡ codes "safeseh: the file: lld-link refuses it without /safeseh:no, since it has no mark @feat.00\n"
unfolding hint_line file_word file_sentence
file-line = refl

edit-line : hint_line (hint.Edit edits.WithoutEffect (codes "foo")) ≡ codes "edit-without-effect: foo: no symbol of the file has such a name\n"
unfolding hint_line edit_word edit_sentence
edit-line = refl
