use Rattle.std.proofs.Common.{◌≡◌, ◌∙◌, ℕ, ◌+◌, ◌<◌, Bool, true, false, List, Some, ap, arith, if◌then◌else◌, length, slice_get, sym, take}
use Rattle.std.proofs.lemmas.{Option.{slice_get_within}, List.{length-take-le}}
use Rattle.oc_neutral.specs.{declared.symbol.Symbol.{Symbol}, Keeping.{IsEndOf}}
use Rattle.oc_neutral.proofs.{FieldLists.{take_here}, PlacedSymbols.{end_grown}}
use Rattle.oc_express.specs.Firsts.{is_numbered}
use Rattle.oc_express.proofs.relocs.numbers_end.Goals as goal
use Rattle.oc_express.proofs.relocs.numbers_end.Goals.{then-is_local_number, else-is_local_number}

pub loop-k-preserved : goal.loop-k-preserved
loop-k-preserved c =
    let symbols : List Symbol = c.args.neutral.now.symbols in
    let k : ℕ = c.loop-k.k in
    let s : Symbol = c.symbol.result.now in
    let here : slice_get symbols k ≡ Some s = c.symbol.ensures in
    let within : k < length symbols = slice_get_within symbols k s here in
    let long : length (take k symbols) ≡ k = length-take-le k symbols (omega (arith, within)) in
    let grown : (b : Bool) → is_numbered s ≡ b → (n : ℕ) → n ≡ (if b then k + 1 else c.loop-k.end) → IsEndOf is_numbered n (take (k + 1) symbols)
    = λ b is n end. end_grown is_numbered c.loop-k.end n k (take k symbols) (take (k + 1) symbols) s c.loop-k.invariant (take_here symbols k s here) (sym long)
    (end ∙ ap (λ (d : Bool). if d then k + 1 else c.loop-k.end) (sym is))
    in
    elim c.if-is_local_number.branch [
      | then-is_local_number w ↦ grown true (sym c.is_local_number.ensures ∙ w.if-is_local_number.true) _ (omega (arith, w.end-is))
      | else-is_local_number w ↦ grown false (sym c.is_local_number.ensures ∙ w.if-is_local_number.false) _ w.end-is
    ]
