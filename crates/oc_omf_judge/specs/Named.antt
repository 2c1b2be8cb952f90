-- What frames and targets name, as a reader keeps it (our profile).
use Rattle.std.specs.{Prelude.{ℕ, ◌-◌, Bool, true, false, ◌&&◌, nat_eq, bytes_eq, if◌then◌else◌, List, Option, Some, None}, Option.{option_map, option_map_or}}
use denote.Ref.{Bor}
use Rattle.oc_linking.specs.Rules.{Symbolic, Sectional, Named as Shown}
use Rattle.oc_omf_judge.specs.{declared.earlier.SeenExternal.{SeenExternal}, NameNumbers.{NameNumbers, value_at}, declared.named.Referent.{Referent}, declared.whole.Whole.{Whole}}
use Rattle.oc_omf.specs.{declared.structures.Method.{Method}, Symbols.{Mention, agree, number_of}, Tables.{indexed}}
use Rattle.oc_omf_judge.specs.declared.named.Referent.TheVariants as named

-- a segment by its index
abbrev pub section_at : ℕ → Referent
section_at index = named.Section (index - 1)

-- a symbol: the section of one that this module alone sees and defines
abbrev pub named_symbol : NameNumbers → Bool → Bor (List ℕ) → Referent
named_symbol locals false name = named.Symbol false name
named_symbol locals true name = option_map_or section_at (value_at locals name.now) (named.Symbol true name)

-- the external of an index
abbrev pub named_external : Whole → ℕ → Option Referent
named_external w index = option_map (λ (x : SeenExternal). named_symbol w.locals x.local x.name) (indexed w.front.seen.externals.items index)

-- what a method names
abbrev pub named_of : Whole → Method → Option Referent
named_of w method =
    if nat_eq method.number 0 then Some (section_at method.index)
    else if nat_eq method.number 2 then named_external w method.index
    else None

-- ... two that are one

abbrev pub is_section : Referent → ℕ → Bool
is_section (named.Section other) k = nat_eq k other
is_section (named.Symbol local name) k = false

abbrev pub same_names : Bool → List ℕ → Bool → List ℕ → Bool
same_names local name other_local other_name = agree local other_local && bytes_eq name other_name

abbrev pub is_symbol : Referent → Bool → List ℕ → Bool
is_symbol (named.Section k) local name = false
is_symbol (named.Symbol other_local other_name) local name = same_names local name other_local other_name.now

abbrev pub same : Referent → Referent → Bool
same (named.Section k) other = is_section other k
same (named.Symbol local name) other = is_symbol other local name.now

-- ... what is shown of them

-- among the symbols that are mentioned
abbrev pub shown : List Mention → Referent → Shown
shown mentions (named.Section k) = Sectional k
shown mentions (named.Symbol local name) = Symbolic (number_of mentions (record { local = local; name = name.now }))
