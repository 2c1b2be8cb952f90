-- What hints say of a file and of edits (docs/INTEROPERABILITY.md; our profile).
use Rattle.std.specs.{Prelude.{ℕ, Bool, true, false, not, ◌&&◌, nat_eq, nat_lt, bytes_eq, List, [], length}, List.{ends_with, list_any, starts_with}}
use Rattle.oc_linking.specs.{declared.terms.Kind.TheVariants.{Code}, Parts.{is_local}}
use Rattle.oc_neutral.specs.{declared.section.Section.{Section}, declared.symbol.Symbol.{Symbol}, KindRules.{has, same_kind}}
use Rattle.oc_names.specs.{declared.edit.Edit.{Edit}, Matching.{is_alias}, NewNames.{is_underscore}}
use Rattle.oc_names.specs.declared.edit.Edit.TheVariants as edit
use Rattle.oc_hints.specs.{declared.key.EditKey.{EditKey}, declared.key.FileKey.{FileKey}}
use Rattle.oc_hints.specs.{Case.{Case, is_coff, is_mach, is_wide, source_of}, Names.{is_feature_mark}, Sections.{number_or_0}}
use Rattle.oc_hints.specs.declared.key.EditKey.TheVariants as edits
use Rattle.oc_hints.specs.declared.key.FileKey.TheVariants as key

-- ... the file

-- a linker may divide the sections at symbols: MH_SUBSECTIONS_VIA_SYMBOLS in the flags (Mach-O reference, "mach_header")
abbrev pub is_divided : List ℕ → Bool
is_divided file = has (number_or_0 file 24 4) 0x2000

-- there is code in a section
abbrev pub has_code : Section → Bool
has_code s = same_kind s.kind Code && nat_lt 0 s.size

-- the symbol is the mark that all handlers are known
abbrev pub is_mark : Symbol → Bool
is_mark s = is_feature_mark s.name

-- the key is about the conversion
abbrev pub file_meets : FileKey → Case → Bool
file_meets key.WholeSections x = is_mach (source_of x) && is_mach x.to && is_divided x.file
file_meets key.Safeseh x = is_coff x.to && not (is_wide x.to) && list_any has_code x.output.sections && not (list_any is_mark x.output.symbols)
file_meets key.ManySections x = is_coff x.to && nat_lt 20000 (length x.output.sections)

-- ... edits

-- the name that the edit speaks of; that of underscores speaks of none
abbrev pub name_of : Edit → List ℕ
name_of (edit.Rename from to) = from
name_of (edit.Prefix from to) = from
name_of (edit.Suffix from to) = from
name_of (edit.Alias from to) = from
name_of (edit.AliasPrefix from to) = from
name_of (edit.AliasSuffix from to) = from
name_of (edit.Weaken name) = name
name_of (edit.MakeLocal name) = name
name_of edit.Underscore = []

-- the edit is about a symbol of this name
abbrev pub speaks_of : List ℕ → Edit → Bool
speaks_of name (edit.Rename from to) = bytes_eq name from
speaks_of name (edit.Prefix from to) = starts_with nat_eq name from
speaks_of name (edit.Suffix from to) = ends_with nat_eq name from
speaks_of name (edit.Alias from to) = bytes_eq name from
speaks_of name (edit.AliasPrefix from to) = starts_with nat_eq name from
speaks_of name (edit.AliasSuffix from to) = ends_with nat_eq name from
speaks_of name (edit.Weaken of) = bytes_eq name of
speaks_of name (edit.MakeLocal of) = bytes_eq name of
speaks_of name edit.Underscore = true

-- the edit meets a symbol: it leaves Locals
abbrev pub meets_symbol : Edit → Symbol → Bool
meets_symbol e s = not (is_local s.binding) && speaks_of s.name e

-- the edit changes the names of symbols that are there
abbrev pub changes_names : Edit → Bool
changes_names (edit.Rename from to) = true
changes_names (edit.Prefix from to) = true
changes_names (edit.Suffix from to) = true
changes_names edit.Underscore = true
changes_names (edit.Alias from to) = false
changes_names (edit.AliasPrefix from to) = false
changes_names (edit.AliasSuffix from to) = false
changes_names (edit.Weaken of) = false
changes_names (edit.MakeLocal of) = false

-- all edits together are ones that the key is about
abbrev pub concerns_edits : EditKey → Case → Bool
concerns_edits edits.WithoutEffect x = true
concerns_edits edits.FinalName x = list_any changes_names x.wishes.edits

-- the key is about an edit
abbrev pub edit_meets : EditKey → Case → Edit → Bool
edit_meets edits.WithoutEffect x e = not (is_underscore e) && not (list_any (meets_symbol e) x.input.symbols)
edit_meets edits.FinalName x e = is_alias e
