-- The names of sections, each once, and their positions (TIS OMF 1.1, "LNAMES: List of Names Record"; our profile).
use Rattle.std.specs.Prelude.{◌≡◌, ℕ, ◌+◌, ◌<◌, ◌≤◌, true, bytes_eq, nat_eq, if◌then◌else◌, List, [], ◌∷◌, ◌++◌, drop, length, map, flat_map, fold, codes, slice_get, slice_range, is_some, Option, Some, None}
use Rattle.std.specs.{BTreeMap.{BTreeMap, get_by}, Cmp.Lexicographic.{slice_cmp}, Ordering.{nat_cmp}, List.{AllByRecursion, list_any, position_or_len}}
use Rattle.std.specs.Option.{option_map_or}
use denote.Ref.{Bor}
use Rattle.oc_neutral.specs.{Omf.Family.{omf_aligns}, Omf.Kinds.{omf_class}, declared.section.Section.{Section}}
use Rattle.oc_omf.specs.declared.structures.Segment as read
use Rattle.oc_omf_file.specs.{Canonical.{attributes_of}, Names.{class_of, with_name, filled_from}}
use Rattle.oc_omf_write.specs.{declared.entries.Entry.{Entry}, declared.names.Name.{Name}, declared.names.Names.{Names}}
use Rattle.oc_omf_write.specs.declared.entries.Entry.TheVariants as entry
use Rattle.oc_omf_write.specs.declared.names.Name.TheVariants as name

-- ... one name

-- the text of a name of these sections
abbrev pub text_by : List Section → Name → List ℕ
text_by sections name.Empty = []
text_by sections name.Flat = codes "FLAT"
text_by sections (name.Section k) = option_map_or (λ (s : Section). s.name) (slice_get sections k) []
text_by sections (name.Class k) = option_map_or class_of (slice_get sections k) []

-- the section that a name is of, if it is of one, is one of so many
abbrev pub IsNameOf : ℕ → Name → Type 0
IsNameOf count name.Empty = Unit {0}
IsNameOf count name.Flat = Unit {0}
IsNameOf count (name.Section k) = k < count
IsNameOf count (name.Class k) = k < count

-- ... all names

-- the names that are given for sections: those of each, and its class
abbrev pub given_for : List Section → List (List ℕ)
given_for sections = flat_map (λ (s : Section). s.name ∷ class_of s ∷ []) sections

-- the names of sections, once each: the empty one and FLAT come first
abbrev pub names_for : List Section → List (List ℕ)
names_for sections = fold with_name [] ([] ∷ codes "FLAT" ∷ given_for sections)

-- where a text comes among names
abbrev pub place_among : List (List ℕ) → List ℕ → Option ℕ
place_among names text = if list_any (bytes_eq text) names then Some (position_or_len (bytes_eq text) names) else None

-- what a map has at a text
abbrev pub value_at : BTreeMap (Bor (List ℕ)) ℕ → List ℕ → Option ℕ
value_at places text = get_by (λ k. slice_cmp nat_cmp text k.now) places

-- these are those names of the sections, each of one of so many
pub record AreNames (sections : List Section) (done : List (List ℕ)) (names : Names) : Type 0 where
  pub texts : map (text_by sections) names.list.items ≡ done
  pub places : (text : List ℕ) → value_at names.places text ≡ place_among done text
  pub of_sections : AllByRecursion (IsNameOf (length sections)) names.list.items

-- the names of the sections before position k, and those that are left
pub record AreUpto (sections : List Section) (k : ℕ) (names : Names) : Type 0 where
  pub done : List (List ℕ)
  pub are : AreNames sections done names
  pub all : fold with_name done (given_for (drop k sections)) ≡ names_for sections

-- ... segments

-- the index of a name of sections
abbrev pub index_in : List Section → List ℕ → ℕ
index_in sections text = position_or_len (bytes_eq text) (names_for sections) + 1

-- a text is one of the names, and its index fits
pub record IsIndexed (names : Names) (text : List ℕ) : Type 0 where
  pub place : ℕ
  pub there : value_at names.places text ≡ Some place
  pub small : place + 1 < 32768

-- the alignment of a section is one that segments can have, and so is its kind, which has a class
pub record IsSegment (s : Section) : Type 0 where
  pub align : list_any (nat_eq s.align) omf_aligns ≡ true
  pub class : is_some (omf_class s.kind) ≡ true

-- the segment of one of the sections
abbrev pub segment_in : List Section → Section → read.Segment
segment_in sections s = record { wide = true; attributes = attributes_of s; length = s.size; name = index_in sections s.name; class = index_in sections (class_of s); overlay = 1 }

-- ... entries

-- the entry of a range of the names
abbrev pub names_entry : ℕ × ℕ → Entry
names_entry x = entry.Names x.0 x.1

-- the texts of a range
abbrev pub texts_in : List (List ℕ) → ℕ × ℕ → List (List ℕ)
texts_in texts x = slice_range texts x.0 x.1

-- a range of so many names
abbrev pub IsRange : ℕ → ℕ × ℕ → Type 0
IsRange count x = (x.0 ≤ x.1) × (x.1 ≤ count)

-- entries of names were added, which hold these texts
pub record AreAdded (texts : List (List ℕ)) (old now : List Entry) : Type 0 where
  pub ranges : List (ℕ × ℕ)
  pub added : now ≡ old ++ map names_entry ranges
  pub filled : map (texts_in texts) ranges ≡ filled_from [] texts
  pub inside : AllByRecursion (IsRange (length texts)) ranges

-- names are short
abbrev pub AreShort : List (List ℕ) → Type 0
AreShort texts = AllByRecursion (λ text. length text ≤ 255) texts
