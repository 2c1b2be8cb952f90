use Rattle.std.proofs.Common.{ℕ, List, [], ◌∷◌, ◌++◌, get_or, ◌∙◌, ap}
use denote.Ref.{Bor}
use Rattle.oc_base.specs.Strings.{text_of}
use Rattle.oc_strings.proofs.SliceLemmas.{text_push}
use Rattle.oc_strings.proofs.parts.bytes_of.Goals as goal

pub loop-top-init : goal.loop-top-init
unfolding text_of
loop-top-init c = c.in_ok-bytes.ensures.items

pub loop-top-preserved : goal.loop-top-preserved
loop-top-preserved c =
    let d : Bor (List ℕ) = record { ref_ptr = (0, 0); now = [] } in
    c.in_ok-push.ensures.items ∙ ap (λ t. t ++ 0 ∷ []) c.in_ok-extend_from_slice.ensures.items
    ∙ ap (λ t. (t ++ (get_or c.args.tops.now c.loop-top.top-index d).now) ++ 0 ∷ []) c.loop-top.invariant
    ∙ text_push c.args.tops.now c.loop-top.top-index d c.loop-top-test.true
