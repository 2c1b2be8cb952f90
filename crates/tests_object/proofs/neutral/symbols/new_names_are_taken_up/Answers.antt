-- The first name is new.
use Rattle.std.proofs.Common.{Bool, true, false, not, cond, ◌&&◌, IsOk, Ok, Err, [], refl}
use Rattle.oc_base.specs.declared.format.Format.{Format}
use Rattle.oc_linking.specs.Parts.{is_local}
use Rattle.oc_neutral.specs.{declared.fault.BuildFault.{BuildFault}, declared.symbol.Symbol.{Symbol}, Building.{Draft, empty_draft, symbol_added, with_symbol}}
use Rattle.oc_neutral.specs.declared.fault.BuildFault.TheVariants as fault
use Rattle.tests_object.proofs.neutral.symbols.new_names_are_taken_up.Goals as goal

first : (format : Format) (y : Symbol) → IsOk (symbol_added (empty_draft format) y)
unfolding symbol_added
first format y = by (not (is_local y.binding))
  where
    by : (t : Bool) → IsOk {T = Draft} {E = BuildFault} (cond (t && false) (Err fault.DuplicateName) (Ok (record { object = with_symbol (empty_draft format).object y; folded = [] })))
    by true = refl
    by false = refl

pub add_new_symbol-requires-clause-new : goal.add_new_symbol-requires-clause-new
add_new_symbol-requires-clause-new g c = rw c.new-builder.ensures (first _ c.in_ok-new.new)
