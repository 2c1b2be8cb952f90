-- Symbols whose addresses are taken (Mach-O reference, "Relocation Data Structures"; our profile).
use Rattle.std.specs.Prelude.{◌≡◌, ℕ, ◌<◌, Bool, true, false, nat_lt, if◌then◌else◌, List, length, take, filter, slice_index_or, slice_set, Option, Some, None}
use Rattle.std.specs.{List.{list_any}, Option.{option_map_or}}
use Rattle.oc_linking.specs.declared.terms.Keep.{Keep}
use Rattle.oc_shelf.specs.Reading.Firsts.{any_upto}
use Rattle.oc_macho.specs.{declared.relocation_info.Reference.{Reference}, declared.relocation_info.Reference.TheVariants.{Symbol, Section, Address}}
use Rattle.oc_macho.specs.{Tables.{SectionTable, Tables}, Sections.{is_kept}, Entries.{is_pinned, is_taken_in, item_at, takes_symbol}}

-- the marks are those of a test on the numbers of symbols
pub record AreMarks (t : Tables) (test : ℕ → Bool) (marks : List Bool) : Type 0 where
  pub long : length marks ≡ length t.symbols
  pub each : (j : ℕ) → j < length t.symbols → slice_index_or marks j false ≡ test j

-- the marks with that of the symbol to which a reference is, where it is to one
abbrev pub marked : List Bool → Option Reference → List Bool
marked marks None = marks
marked marks (Some (Symbol j)) = if nat_lt j (length marks) then slice_set marks j true else marks
marked marks (Some (Section k)) = marks
marked marks (Some (Address v)) = marks

-- field k of a section takes the address of symbol number j
abbrev pub is_taken_at : Tables → SectionTable → ℕ → ℕ → Bool
is_taken_at t x k j = option_map_or (takes_symbol t.word j) (item_at t.word x.relocs k) false

-- the first n fields of a section do
abbrev pub is_taken_upto : Tables → SectionTable → ℕ → ℕ → Bool
is_taken_upto t x n j = any_upto (λ k. is_taken_at t x k j) n

-- those of the kept ones of the first n sections do
abbrev pub is_pinned_upto : Tables → Keep → ℕ → ℕ → Bool
is_pinned_upto t keep n j = list_any (is_taken_in t.word j) (filter (is_kept keep) (take n t.sections))

-- the marks are those of the symbols that are pinned
abbrev pub ArePins : Tables → Keep → List Bool → Type 0
ArePins t keep marks = AreMarks t (is_pinned t keep) marks
