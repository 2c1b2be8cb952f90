-- What a reader of a format shows of a fitted object that was written (our profile): what the format does not say is not there, and symbols have
-- the order and the numbers of the file.
use Rattle.std.specs.Prelude.{ℕ, ◌+◌, false, nat_eq, if◌then◌else◌, List, [], ◌∷◌, map, filter_map, slice_get, Option, Some, None}
use Rattle.std.specs.{List.{enumerate_from, position_or_len}, Option.{option_map, option_map_or, option_and_then}}
use Rattle.oc_base.specs.Formats.{word_for}
use Rattle.oc_linking.specs.{declared.terms.Fallback.{Fallback}, declared.terms.Less.{Less}, declared.terms.Binding.{Binding}}
use Rattle.oc_linking.specs.declared.terms.Binding.TheVariants.{Local, Global, Undefined, Common, Weak}
use Rattle.oc_linking.specs.declared.terms.Fallback.TheVariants as fallback
use Rattle.oc_chains.specs.declared.field.Field.{Field}
use Rattle.oc_neutral.specs.{declared.section.Section.{Section}, declared.symbol.Symbol.{Symbol}, declared.reloc.Target.{Target}, declared.reloc.Reloc.{Reloc}}
use Rattle.oc_neutral.specs.{Objects.{Object}, Normal.{Place, at_section, takes_section}, KeySymbols.{global_place}}
use Rattle.oc_neutral.specs.declared.reloc.Target.TheVariants as target
use Rattle.oc_shows.specs.{SymbolLines.{Line}, Manners.{Manner, own_manner}}

-- the symbols that lines show, by position, each with the number of its first entry; the first line has the number that is given
abbrev pub shown_from : ℕ → List Line → List (ℕ × ℕ)
shown_from number [] = []
shown_from number (l ∷ lines) = option_map_or (λ k. (k, number) ∷ shown_from (number + l.entries) lines) l.shows (shown_from (number + l.entries) lines)

-- where the symbol at a position comes among those that are shown
abbrev pub new_position : List (ℕ × ℕ) → ℕ → ℕ
new_position shown k = position_or_len (λ (x : ℕ × ℕ). nat_eq x.0 k) shown

-- the place of the Global at a position
abbrev pub place_at : Object → ℕ → Option Place
place_at n k = option_and_then (λ (s : Symbol). global_place s.binding) (slice_get n.symbols k)

-- a section at a position
abbrev pub seen_section : Manner → Object → ℕ × Section → Section
seen_section m n x = record {
  name = x.1.name;
  kind = m.kind x.1;
  align = x.1.align;
  size = x.1.size;
  bytes = x.1.bytes;
  tag = x.1.tag;
  number = m.first_section n + x.0;
  group = x.1.group;
}

-- a fallback: a Name is the place of the Global that it names, where the family gives places
abbrev pub seen_fallback : Manner → Object → List (ℕ × ℕ) → Fallback → Fallback
seen_fallback m n shown (fallback.Place s offset) = fallback.Place s offset
seen_fallback m n shown fallback.Zero = fallback.Zero
seen_fallback m n shown (fallback.Name k) =
    option_map_or (λ (place : Place). fallback.Place place.0 place.1) (if m.places then place_at n k else None) (fallback.Name (new_position shown k))

-- a binding
abbrev pub seen_binding : Manner → Object → List (ℕ × ℕ) → Binding → Binding
seen_binding m n shown (Local v) = Local v
seen_binding m n shown (Global v) = Global v
seen_binding m n shown Undefined = Undefined
seen_binding m n shown (Common size align) = Common size align
seen_binding m n shown (Weak f) = Weak (seen_fallback m n shown f)

-- a symbol with its number
abbrev pub seen_symbol : Manner → Object → List (ℕ × ℕ) → ℕ → Symbol → Symbol
seen_symbol m n shown number s = record {
  name = s.name;
  binding = seen_binding m n shown s.binding;
  mark = m.mark s.binding s.mark;
  vis = m.vis s.binding s.vis;
  size = m.size s.binding s.size;
  pinned = false;
  number = number;
}

-- the symbols
unfoldable pub seen_symbols : Manner → Object → List (ℕ × ℕ) → List Symbol
seen_symbols m n shown = filter_map (λ (x : ℕ × ℕ). option_map (seen_symbol m n shown x.1) (slice_get n.symbols x.0)) shown

-- the place of a Global as a target from which this is taken; none where that is the address of the place's section
abbrev pub target_place : Object → Less → Target → Option Place
target_place n l (target.Section k) = None
target_place n l (target.Symbol k) = option_and_then (λ (place : Place). if takes_section place.0 l then None else Some place) (place_at n k)

-- that place, where the family reads the Global as its section
abbrev pub section_place : Manner → Object → Reloc → Option Place
section_place m n r = if m.by_section r.form.less then target_place n r.form.less r.target else None

-- a target: a symbol is at its new position
abbrev pub seen_target : List (ℕ × ℕ) → Target → Target
seen_target shown (target.Section k) = target.Section k
seen_target shown (target.Symbol k) = target.Symbol (new_position shown k)

-- a relocation
abbrev pub seen_reloc : Manner → Object → List (ℕ × ℕ) → Reloc → Reloc
seen_reloc m n shown r =
    let q : Reloc = at_section (word_for n.format) r (section_place m n r) in
    record { target = seen_target shown q.target; form = q.form; addend = q.addend; hint = m.hint q.hint }

-- with its place
abbrev pub seen_field : Manner → Object → List (ℕ × ℕ) → Field Reloc → Field Reloc
seen_field m n shown x = record { at = x.at; width = x.width; item = seen_reloc m n shown x.item }

-- the object, by a manner and the symbols that are shown
abbrev pub seen_with : Manner → Object → List (ℕ × ℕ) → Object
seen_with m n shown = record {
  format = n.format;
  groups = n.groups;
  sections = map (seen_section m n) (enumerate_from 0 n.sections);
  symbols = seen_symbols m n shown;
  relocs = map (map (seen_field m n shown)) n.relocs;
}

-- the object as a reader of its format shows it
abbrev pub seen : Object → Object
seen n = seen_with (own_manner n) n (shown_from 0 ((own_manner n).lines n))
