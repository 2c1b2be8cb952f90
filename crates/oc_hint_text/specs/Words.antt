-- The words for keys, and what each says (docs/OBJHINT.md, docs/INTEROPERABILITY.md; our profile).
use Rattle.std.specs.Prelude.{ℕ, List, codes}
use Rattle.oc_hints.specs.{declared.key.SymbolKey.{SymbolKey}, declared.key.SectionKey.{SectionKey}, declared.key.FieldKey.{FieldKey}}
use Rattle.oc_hints.specs.{declared.key.FileKey.{FileKey}, declared.key.EditKey.{EditKey}}
use Rattle.oc_hints.specs.declared.key.SymbolKey.TheVariants as symbol
use Rattle.oc_hints.specs.declared.key.SectionKey.TheVariants as section
use Rattle.oc_hints.specs.declared.key.FieldKey.TheVariants as field
use Rattle.oc_hints.specs.declared.key.FileKey.TheVariants as file
use Rattle.oc_hints.specs.declared.key.EditKey.TheVariants as edit

-- ... of a symbol

unfoldable pub symbol_word : SymbolKey → List ℕ
symbol_word symbol.WeakAtZero = codes "weak-at-zero"
symbol_word symbol.VersionedName = codes "versioned-name"
symbol_word symbol.LinkerName = codes "linker-name"
symbol_word symbol.CommonAlignment = codes "common-alignment"
symbol_word symbol.NoHandler = codes "no-handler"
symbol_word symbol.LtoOnly = codes "lto-only"
symbol_word symbol.WeakAbsent = codes "weak-absent"

unfoldable pub symbol_sentence : SymbolKey → List ℕ
symbol_sentence symbol.WeakAtZero = codes "GNU ld does not follow the default of a weak symbol of COFF, and puts it at address 0"
symbol_sentence symbol.VersionedName = codes "ld.lld takes names that are alike before @@ for one, and GNU ld says multiple definition of what is before it"
symbol_sentence symbol.LinkerName = codes "GNU ld gives the name a value of its own, though an object defines it"
symbol_sentence symbol.CommonAlignment = codes "the linker aligns it at 1, since the file gives no alignment"
symbol_sentence symbol.NoHandler = codes "the run-time finds no handler and ends the program, since the tables for unwinding are dropped"
symbol_sentence symbol.LtoOnly = codes "the linker finds no code, since gcc makes it at link time alone"
symbol_sentence symbol.WeakAbsent = codes "ld64 asks for a definition, where no -U names it"

-- ... of a section

unfoldable pub section_word : SectionKey → List ℕ
section_word section.StartUpLost = codes "start-up-lost"
section_word section.ShutDownNotRun = codes "shut-down-not-run"
section_word section.WritableCode = codes "writable-code"
section_word section.NoRights = codes "no-rights"
section_word section.CommonAlignments = codes "common-alignment"
section_word section.DirectivesLost = codes "directives-lost"
section_word section.KeptSection = codes "kept-section"
section_word section.ExcludedSection = codes "excluded-section"

unfoldable pub section_sentence : SectionKey → List ℕ
section_sentence section.StartUpLost = codes "the start-up code calls none of its functions, since the section becomes data"
section_sentence section.ShutDownNotRun = codes "the start-up code of mingw-w64 never calls its functions"
section_sentence section.WritableCode = codes "the linker places it where nothing may be written, and a write ends the program"
section_sentence section.NoRights = codes "the linker places it where nothing may be written, since no flag says how it may be used, and calls of DJGPP count otherwise"
section_sentence section.CommonAlignments = codes "the linker does not see the alignments of commons that it gives"
section_sentence section.DirectivesLost = codes "the linker does not see the directives that it holds"
section_sentence section.KeptSection = codes "GNU ld and ld.lld may drop it with --gc-sections, since SHF_GNU_RETAIN is not carried"
section_sentence section.ExcludedSection = codes "the linker puts it into the program, since SHF_EXCLUDE is not carried"

-- ... of fields

unfoldable pub field_word : FieldKey → List ℕ
field_word field.AddressInReadOnly = codes "address-in-read-only"
field_word field.DistanceForAddress = codes "distance-for-address"
field_word field.CallWithoutStub = codes "call-without-stub"
field_word field.SplitLiterals = codes "split-literals"
field_word field.CallRecompile = codes "call-recompile"
field_word field.AddressOutOfRange = codes "address-out-of-range"
field_word field.TextRelocations = codes "text-relocations"

unfoldable pub field_sentence : FieldKey → List ℕ
field_sentence field.AddressInReadOnly = codes "in a PIE GNU ld makes DT_TEXTREL, and ld.lld refuses it or stores the address of the link"
field_sentence field.DistanceForAddress = codes "the linker stores a distance from the segment, and no address"
field_sentence field.CallWithoutStub = codes "ld64 makes no stub for it: a call into a dynamic library is refused, or goes to address 0"
field_sentence field.SplitLiterals = codes "ld64 takes the literals apart where it merges them or drops dead code"
field_sentence field.CallRecompile = codes "GNU ld and ld.lld ask to recompile with -fPIE or -fPIC, where the function is in a shared library"
field_sentence field.AddressOutOfRange = codes "ld64 refuses it, since a program for macOS begins at 2^32"
field_sentence field.TextRelocations = codes "in a PIE GNU ld makes DT_TEXTREL, and ld.lld refuses it"

-- ... of the file

unfoldable pub file_word : FileKey → List ℕ
file_word file.WholeSections = codes "whole-sections"
file_word file.Safeseh = codes "safeseh"
file_word file.ManySections = codes "many-sections"

unfoldable pub file_sentence : FileKey → List ℕ
file_sentence file.WholeSections = codes "ld64 drops nothing of it with -dead_strip, since its sections are no longer divided"
file_sentence file.Safeseh = codes "lld-link refuses it without /safeseh:no, since it has no mark @feat.00"
file_sentence file.ManySections = codes "the tools of mingw-w64 take minutes for it, or do not end"

-- ... of an edit

unfoldable pub edit_word : EditKey → List ℕ
edit_word edit.WithoutEffect = codes "edit-without-effect"
edit_word edit.FinalName = codes "final-name"

unfoldable pub edit_sentence : EditKey → List ℕ
edit_sentence edit.WithoutEffect = codes "no symbol of the file has such a name"
edit_sentence edit.FinalName = codes "the further name stays as it is given, where the names beside it change"
