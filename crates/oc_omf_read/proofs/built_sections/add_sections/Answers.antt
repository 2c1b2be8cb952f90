-- Each section has its bytes.
use Rattle.std.proofs.Common.{◌≡◌, ℕ, length, Some, sym, ◌∙◌, ap}
use Rattle.std.specs.{Prelude.{slice_get, Vec}, Global.{Global}}
use Rattle.std.proofs.lemmas.Option.{slice_get-get_or}
use Rattle.oc_omf_read.proofs.BuildLemmas.{item_is}
use Rattle.oc_omf_read.proofs.built_sections.add_sections.Goals as goal

pub add_section-requires-clause-bytes : goal.add_section-requires-clause-bytes
add_section-requires-clause-bytes c = λ s there.
    let v = c.index-contents-k.result in
    let here : slice_get c.args.contents.now c.loop-k.k ≡ Some v = slice_get-get_or c.args.contents.now c.loop-k.k v c.loop-k-test.true ∙ ap (λ (v : Vec ℕ Global). Some v) (sym c.index-contents-k.is) in
    c.as_slice.ensures.value ∙ sym (item_is c.args.contents.now c.loop-k.k v here) ∙ c.requires.contents.each c.loop-k.k s there

pub add_section-requires-clause-long : goal.add_section-requires-clause-long
add_section-requires-clause-long c = λ s there.
    let v = c.index-contents-k.result in
    let here : slice_get c.args.contents.now c.loop-k.k ≡ Some v = slice_get-get_or c.args.contents.now c.loop-k.k v c.loop-k-test.true ∙ ap (λ (v : Vec ℕ Global). Some v) (sym c.index-contents-k.is) in
    ap length (c.as_slice.ensures.value ∙ sym (item_is c.args.contents.now c.loop-k.k v here)) ∙ c.requires.contents.sizes c.loop-k.k s there
