-- What a Builder holds that has the sections and symbols of a file, before any relocation (our profile).
use Rattle.std.specs.{Prelude.{◌≡◌, ℕ, true, bytes_eq, if◌then◌else◌, List, [], map, replicate, slice_get, Some}, List.{position_or_len}}
use Rattle.std.specs.Option.{is_some, option_map}
use Rattle.oc_base.specs.{declared.format.Format.{Format}, Formats.{word_for}}
use Rattle.oc_linking.specs.{declared.terms.Keep.{Keep}, declared.terms.Binding.TheVariants.{Weak}, Values.{numbered}}
use Rattle.oc_linking.specs.declared.terms.Fallback.TheVariants as fallback
use Rattle.oc_linking.specs.Parts as parts
use Rattle.oc_chains.specs.Lists.{Lists}
use Rattle.oc_neutral.specs.{declared.group.Group.{Group}, declared.section.Section.{Section}, declared.symbol.Symbol.{Symbol}, Building.{Draft, is_zero}}
use Rattle.oc_neutral.specs.{Dialects.{Dialect}, Invariants.{IsDraft}}
use Rattle.oc_shows.specs.{Built.{IsStarted}, Computed.{keys_in, computed_symbol}, Shows.{AreNumbered}}

-- a list without fields for each section
abbrev pub fieldless : {T : Type 0} → List Section → Lists T
fieldless sections = map (λ s. []) sections

-- what a Builder holds that has these groups, sections and symbols, and no fields
abbrev pub plain_draft : Format → List Group → List Section → List Symbol → Draft
plain_draft format groups sections symbols = record {
  object = record { format = format; groups = groups; sections = sections; symbols = symbols; relocs = fieldless sections };
  folded = fieldless sections;
}

-- the groups of these keys
abbrev pub groups_by : List (List ℕ) → List Group
groups_by keys = map (λ key. record { key = key }) keys

-- a section of a file, in an object whose groups have these keys: one of zeros has no bytes
abbrev pub stored_section : List (List ℕ) → parts.Section → Section
stored_section keys s = record {
  name = s.name;
  kind = s.kind;
  align = s.align;
  size = s.size;
  bytes = if is_zero s.kind then [] else s.contents;
  tag = s.tag;
  number = s.number;
  group = option_map (λ key. position_or_len (bytes_eq key) keys) s.group;
}

-- what a Builder holds of a file before its relocations
abbrev pub start_of : Dialect → List ℕ → Keep → Draft
start_of f b keep =
    plain_draft f.format (groups_by (keys_in f b)) (map (stored_section (keys_in f b)) (f.rules.sections b)) (map (computed_symbol (f.rules.symbols b keep)) (f.rules.symbols b keep))

-- what the sections and symbols of a file are to have, so that an object can show them
pub record AreShowable (f : Dialect) (b : List ℕ) (keep : Keep) : Type 0 where
  pub word : f.rules.word ≡ word_for f.format
  -- a section of zeros holds zeros
  pub zeros : (k : ℕ) (s : parts.Section) → slice_get (f.rules.sections b) k ≡ Some s → is_zero s.kind ≡ true → s.contents ≡ replicate s.size 0
  -- a fallback Name names a symbol that exists
  pub names : (k number : ℕ) (s : parts.Symbol) → slice_get (f.rules.symbols b keep) k ≡ Some s → s.binding ≡ Weak (fallback.Name number)
      → is_some (numbered (f.rules.symbols b keep) number) ≡ true
  pub numbered : AreNumbered (f.rules.symbols b keep)

-- the draft before the relocations has what the file has
abbrev pub StartIsStarted : Type 0
StartIsStarted = (f : Dialect) (b : List ℕ) (keep : Keep) → AreShowable f b keep → IsDraft (start_of f b keep) → IsStarted f b keep (start_of f b keep)
