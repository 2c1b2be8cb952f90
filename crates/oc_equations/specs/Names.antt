-- The names that the options give (our profile). They go by the names of the input, byte for byte.
use Rattle.std.specs.Prelude.{ℕ, ◌-◌, Bool, true, false, nat_eq, bytes_eq, if◌then◌else◌, List, ◌++◌, codes, length, take, drop, slice_get, filter_map, Option}
use Rattle.std.specs.Prelude.{Some, None}
use Rattle.std.specs.{Option.{unwrap_or}, List.{list_any, starts_with, ends_with}}
use Rattle.oc_base.specs.declared.format.Format.{Format}
use Rattle.oc_base.specs.declared.format.Format.TheVariants.{Elf32, Elf64, Coff32, Coff64, Mac32, Mac64, Omf, BigElf32, BigElf64, BigCoff32, BigCoff64}
use Rattle.oc_names.specs.declared.edit.Edit.{Edit}
use Rattle.oc_names.specs.declared.edit.Edit.TheVariants.{Rename, Prefix, Suffix, Alias, AliasPrefix, AliasSuffix, Weaken, MakeLocal, Underscore}

-- ... one option

-- `new`, where the name is `old`
abbrev pub new_whole : List ℕ → List ℕ → List ℕ → Option (List ℕ)
new_whole old new name = if bytes_eq name old then Some new else None

-- the name with `new` for the `old` that it begins with
abbrev pub new_front : List ℕ → List ℕ → List ℕ → Option (List ℕ)
new_front old new name = if starts_with nat_eq name old then Some (new ++ drop (length old) name) else None

-- the name with `new` for the `old` that it ends with
abbrev pub new_end : List ℕ → List ℕ → List ℕ → Option (List ℕ)
new_end old new name = if ends_with nat_eq name old then Some (take (length name - length old) name ++ new) else None

-- the name that `-nr`, `-np` or `-ns` gives in place of a name
abbrev pub new_name : List ℕ → Edit → Option (List ℕ)
new_name name (Rename old new) = new_whole old new name
new_name name (Prefix old new) = new_front old new name
new_name name (Suffix old new) = new_end old new name
new_name name (Alias old new) = None
new_name name (AliasPrefix old new) = None
new_name name (AliasSuffix old new) = None
new_name name (Weaken of) = None
new_name name (MakeLocal of) = None
new_name name Underscore = None

-- the name that `-ar`, `-ap` or `-as` gives beside a name
abbrev pub further_name : List ℕ → Edit → Option (List ℕ)
further_name name (Alias old new) = new_whole old new name
further_name name (AliasPrefix old new) = new_front old new name
further_name name (AliasSuffix old new) = new_end old new name
further_name name (Rename old new) = None
further_name name (Prefix old new) = None
further_name name (Suffix old new) = None
further_name name (Weaken of) = None
further_name name (MakeLocal of) = None
further_name name Underscore = None

-- the option is `-nu`
abbrev pub is_about_underscores : Edit → Bool
is_about_underscores Underscore = true
is_about_underscores (Rename old new) = false
is_about_underscores (Prefix old new) = false
is_about_underscores (Suffix old new) = false
is_about_underscores (Alias old new) = false
is_about_underscores (AliasPrefix old new) = false
is_about_underscores (AliasSuffix old new) = false
is_about_underscores (Weaken of) = false
is_about_underscores (MakeLocal of) = false

-- ... underscores

-- in these formats a name of the source has an underscore before it
abbrev pub puts_underscores : Format → Bool
puts_underscores Elf32 = false
puts_underscores BigElf32 = false
puts_underscores Elf64 = false
puts_underscores BigElf64 = false
puts_underscores Coff32 = true
puts_underscores BigCoff32 = true
puts_underscores Coff64 = false
puts_underscores BigCoff64 = false
puts_underscores Mac32 = true
puts_underscores Mac64 = true
puts_underscores Omf = true

-- from a format without to one with underscores, one is put on; the other way one is taken off, where there is one
abbrev pub with_habit : Bool → Bool → List ℕ → List ℕ
with_habit false true name = codes "_" ++ name
with_habit true false name = if starts_with nat_eq name (codes "_") then drop 1 name else name
with_habit false false name = name
with_habit true true name = name

-- ... all options

-- the first `-nr`, `-np` or `-ns` that matches gives the new name; where none does, the name stays
abbrev pub renamed : List Edit → List ℕ → List ℕ
renamed edits name = unwrap_or (slice_get (filter_map (new_name name) edits) 0) name

-- the final name on the way from one format to another
abbrev pub final_name : List Edit → Format → Format → List ℕ → List ℕ
final_name edits from to name =
    if list_any is_about_underscores edits then with_habit (puts_underscores from) (puts_underscores to) (renamed edits name) else renamed edits name
