-- Lists that are filtered, entry by entry.
use Rattle.std.proofs.Common.{◌≡◌, length, map, ◌∙◌, ap}
use Rattle.oc_shelf.specs.Reading.Collected.{collected}
use Rattle.oc_shelf.proofs.ReadingLaws.CollectedLemmas.{collected-map, filtered, numbered}
use Rattle.oc_coff.specs.{Tables.{Tables}, Entries.{entries_in}, Sections.{Carried, carried_in, carried_of, sections_in}, Symbols.{symbol_of, symbols_in}}
use Rattle.oc_coff_judge.specs.Led.{carried_at, section_at, symbol_at}

-- the carried sections and symbols of a file, one by one
pub carried_are : (t : Tables) → carried_in t ≡ collected (carried_at t) (length t.sections)
unfolding carried_in carried_at
carried_are t = numbered (carried_of t) 1 t.sections

pub sections_are : (t : Tables) → sections_in t ≡ collected (section_at t) (length t.sections)
sections_are t = ap (map (λ (c : Carried). c.section)) (carried_are t) ∙ collected-map (λ (c : Carried). c.section) (carried_at t) (length t.sections)

pub symbols_are : (t : Tables) → symbols_in t ≡ collected (symbol_at t) (length (entries_in t))
unfolding symbols_in symbol_at
symbols_are t = filtered (symbol_of t.strings (sections_in t) (entries_in t)) (entries_in t)
