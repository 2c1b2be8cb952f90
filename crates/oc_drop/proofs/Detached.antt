-- Where no fault is met, nothing that stays refers to what goes.
use Rattle.std.proofs.Common.{◌≡◌, Bool, true, false, not, ◌&&◌, cond, List, Some, None, refl, sym}
use Rattle.std.proofs.lemmas.Option.{none-some}
use Rattle.oc_base.specs.declared.fault.Fault.{Fault}
use Rattle.oc_linking.specs.Parts.{is_local}
use Rattle.oc_chains.specs.{declared.field.Field.{Field}, Lists.{list_of}}
use Rattle.oc_neutral.specs.{declared.reloc.Reloc.{Reloc}, declared.symbol.Symbol.{Symbol}, Objects.{Object}}
use Rattle.oc_neutral.specs.Without.{IsDetached, is_dropped, lies_in_dropped, refers_to_dropped}
use Rattle.oc_neutral.proofs.Positions.{each_weaker}
use Rattle.oc_drop.specs.{Steps.{first_field, first_in}, Dropping.{dropped_reference, dropped_symbol, dropping_fault}}
use Rattle.oc_drop.proofs.FirstLaws.{neither_first, neither_second, none_in, none_of_section}

not_met : (b : Bool) (fault : Fault) → cond b (Some fault) None ≡ None → b ≡ false
not_met true fault e = absurd (none-some fault (sym e))
not_met false fault e = refl

pub detached : (stay : List Bool) (n : Object) → dropping_fault stay n ≡ None → IsDetached stay n
detached stay n none = record {
  symbols = each_weaker (λ (s : Symbol). dropped_symbol stay s ≡ None) (λ (s : Symbol). (not (is_local s.binding) && lies_in_dropped stay s) ≡ false)
      (λ s e. not_met (not (is_local s.binding) && lies_in_dropped stay s) _ e) n.symbols
      (none_in (dropped_symbol stay) n.symbols (neither_first (first_in (dropped_symbol stay) n.symbols) (first_field (dropped_reference stay) n) none));
  fields = λ k s here. each_weaker (λ (x : Field Reloc). dropped_reference stay k s x ≡ None) (λ (x : Field Reloc). (not (is_dropped stay k) && refers_to_dropped stay x.item) ≡ false)
      (λ x e. not_met (not (is_dropped stay k) && refers_to_dropped stay x.item) _ e) (list_of n.relocs k)
      (none_of_section (dropped_reference stay) n (neither_second (first_in (dropped_symbol stay) n.symbols) (first_field (dropped_reference stay) n) none) k s here);
}
