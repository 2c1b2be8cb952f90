-- A weak external without a fault tags a symbol.
use Rattle.oc_coff.specs.{Files.{tables_in}, Entries.{Entry}, Sections.{sections_in}, Symbols.{fallback_by}}
use Rattle.std.proofs.Common.{Option, sym, ◌∙◌, ap}
use Rattle.std.specs.Option.{option_and_then, option_map}
use Rattle.oc_linking.specs.{declared.terms.Binding.TheVariants.{Weak}, declared.terms.Fallback.{Fallback}}
use Rattle.oc_coff_judge.proofs.TagLemmas.{tag_there}
use Rattle.oc_coff_judge.proofs.bindings.weak_binding.Goals as goal

pub fallback_by-requires-clause-there : goal.fallback_by-requires-clause-there
fallback_by-requires-clause-there c =
    (tag_there c.args.coff.now c.is_headed.ensures c.requires.clean c.args.j c.requires.symbol c.requires.weak c.in-Some.d (sym c.tag_of.ensures ∙ c.in-Some.is)).low

pub returns-in-Some-fallback_by : goal.returns-in-Some-fallback_by
returns-in-Some-fallback_by c =
    let t = tables_in c.args.coff.now in
    let m = tag_there c.args.coff.now c.is_headed.ensures c.requires.clean c.args.j c.requires.symbol c.requires.weak c.in-Some.d (sym c.tag_of.ensures ∙ c.in-Some.is) in
    sym (ap (λ (o : Option Entry). option_map Weak (option_and_then (fallback_by (sections_in t)) o)) m.is ∙ ap (λ (o : Option Fallback). option_map Weak o) (sym c.fallback_by.ensures ∙ c.in-Some-fallback_by.is))

pub returns-in-None-fallback_by : goal.returns-in-None-fallback_by
returns-in-None-fallback_by c =
    let t = tables_in c.args.coff.now in
    let m = tag_there c.args.coff.now c.is_headed.ensures c.requires.clean c.args.j c.requires.symbol c.requires.weak c.in-Some.d (sym c.tag_of.ensures ∙ c.in-Some.is) in
    sym (ap (λ (o : Option Entry). option_map Weak (option_and_then (fallback_by (sections_in t)) o)) m.is ∙ ap (λ (o : Option Fallback). option_map Weak o) (sym c.fallback_by.ensures ∙ c.in-None-fallback_by.is))
