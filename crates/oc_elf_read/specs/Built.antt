-- What is built of a file, step by step (our profile).
use Rattle.std.specs.Prelude.{◌≡◌, ℕ, ◌+◌, ◌^◌, ◌<◌, ◌≤◌, false, List, [], ◌∷◌, ◌++◌, length, map, if◌then◌else◌, slice_index_or, Option, Some, None}
use Rattle.std.specs.Option.{option_and_then}
use Rattle.oc_base.specs.Strings.{is_given}
use Rattle.oc_linking.specs.Parts as parts
use Rattle.oc_neutral.specs.{declared.elf.TheConstants.{SHT_NOBITS, ALIGN_BITS}, declared.symbol.Symbol.{Symbol}, Building.{Draft}}
use Rattle.oc_elf.specs.{declared.constants.TheConstants.{MOST_SIZE}, declared.shdr.Shdr.{Shdr}, Classes.{format_of}, Frames.{FileFrame}}
use Rattle.oc_elf.specs.{Groups.{comdat_key, is_comdat, owner_among}, Sections.{is_type}, CarriedSections.{section_of, sections_of}}
use Rattle.oc_elf.specs.CarriedSymbols.{symbol_of, symbols_of}
use Rattle.oc_shows.specs.{Computed.{computed_symbol, keys_after}, Started.{groups_by, plain_draft, stored_section}}
use Rattle.oc_shelf.specs.{Reading.Collected.{collected}, Reading.Slots.{place_in}}

-- a carried section lies in the file, where it takes bytes of it, and its numbers are small
pub record IsPlaced (f : FileFrame) (s : Shdr) : Type 0 where
  pub lies : is_type SHT_NOBITS s ≡ false → s.sh_offset + s.sh_size ≤ length f.file
  pub size : s.sh_size ≤ MOST_SIZE
  pub align : s.sh_addralign ≤ 2 ^ ALIGN_BITS
  pub small : length f.file ≤ 67108864

-- the one-definition group of section k, by its header
abbrev pub holder_of : FileFrame → ℕ → Option ℕ
holder_of f k = option_and_then (λ g. if is_comdat f g then Some g else None) (owner_among f (length f.headers) k)

-- the keys of the groups of the carried ones among the first k sections, in the order in which they begin
abbrev pub keys_upto : FileFrame → ℕ → List (List ℕ)
keys_upto f k = keys_after [] (map (λ (s : parts.Section). s.group) (collected (section_of f) k))

-- those of all
abbrev pub keys_of : FileFrame → List (List ℕ)
keys_of f = keys_upto f (length f.headers)

-- the slots have the position of the group of each header that is a one-definition group
pub record AreBegunGroups (f : FileFrame) (keys : List (List ℕ)) (slots : List (Option ℕ)) : Type 0 where
  pub long : length slots ≡ length f.headers
  pub each : (g : ℕ) (key : List ℕ) → g < length f.headers → comdat_key f g ≡ Some key → slice_index_or slots g None ≡ place_in keys key

-- header g is the one-definition group of section k, with that key
pub record IsHeld (f : FileFrame) (k g : ℕ) (key : List ℕ) : Type 0 where
  pub held : holder_of f k ≡ Some g
  pub is : comdat_key f g ≡ Some key

-- header g is the next group to begin, with that key: the group of section k, where it is not begun
pub record IsNextGroup (f : FileFrame) (k g : ℕ) (key : List ℕ) : Type 0 where
  pub low : g < length f.headers
  pub is : comdat_key f g ≡ Some key
  pub new : is_given (keys_upto f k) key ≡ false
  pub next : keys_upto f (k + 1) ≡ keys_upto f k ++ key ∷ []

-- a symbol of a file, in an object, where its binding names no symbol
abbrev pub symbol_as : parts.Symbol → Symbol
symbol_as s = record { name = s.name; binding = s.binding; mark = s.mark; vis = s.vis; size = s.size; pinned = s.pinned; number = s.number }

-- the draft with the groups of the first k sections
abbrev pub grouped : FileFrame → ℕ → Draft
grouped f k = plain_draft (format_of f.class) (groups_by (keys_upto f k)) [] []

-- with all groups, and the carried ones of the first k sections
abbrev pub sectioned : FileFrame → ℕ → Draft
sectioned f k = plain_draft (format_of f.class) (groups_by (keys_of f)) (map (stored_section (keys_of f)) (collected (section_of f) k)) []

-- with all carried sections, and the carried ones of the first k symbols
abbrev pub symboled : FileFrame → ℕ → Draft
symboled f k =
    plain_draft (format_of f.class) (groups_by (keys_of f)) (map (stored_section (keys_of f)) (sections_of f)) (map (computed_symbol (symbols_of f)) (collected (symbol_of f) k))
