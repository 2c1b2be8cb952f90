-- What is judged of a module, as far as its symbols (our profile).
use Rattle.std.specs.Prelude.{◌≡◌, ℕ, List, ◌∷◌}
use Rattle.oc_linking.specs.FirstFault.{Stage}
use Rattle.oc_omf_judge.specs.{declared.front.Front.{Front}, Defined.{IsDefined}, EarlierSymbols.{AreEarlierSymbols}}
use Rattle.oc_omf.specs.{Entries.{entries_in}, Tables.{tables_of}, HeaderFaults.{header_stage}, SectionFaults.{section_stage}, SymbolFaults.{symbol_stages}}

-- the stages before relocations
abbrev pub front_stages : List ℕ → List Stage
front_stages file = header_stage file ∷ section_stage (entries_in file) ∷ symbol_stages (entries_in file)

-- what is kept is that of the file
pub record IsFront (file : List ℕ) (f : Front) : Type 0 where
  pub omf_is : f.omf ≡ file
  pub defined_is : IsDefined (tables_of (entries_in file)) f.defined
  pub seen_is : AreEarlierSymbols (tables_of (entries_in file)) f.seen
