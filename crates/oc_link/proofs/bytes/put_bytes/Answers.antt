use Rattle.std.proofs.Common.{ℕ, ◌≤◌, ◌∙◌, ◌++◌, ap, arith, get_or, length, string_bytes, sym, take}
use Rattle.std.specs.List.{enumerate_from, flat_map}
use Rattle.std.proofs.lemmas.{List.{append_assoc, take_all}, List.FromFn.{length-enumerate_from}, Option.{slice_get-get_or}}
use Rattle.oc_link.specs.Texts.{byte_text}
use Rattle.oc_link.proofs.TextLemmas.{byte_more}
use Rattle.oc_link.proofs.bytes.put_bytes.Goals as goal

pub loop-i-preserved : goal.loop-i-preserved
loop-i-preserved c =
    let bytes = c.args.bytes.now in
    let i = c.loop-i.i in
    let b : ℕ = get_or bytes i 0 in
    let out = string_bytes c.args.out.now in
    let f = byte_text (length bytes) in
    c.in_ok-put_byte.ensures
    ∙ ap (λ text. text ++ f (i, b)) c.loop-i.invariant
    ∙ append_assoc out (flat_map f (take i (enumerate_from 0 bytes))) (f (i, b))
    ∙ ap (λ text. out ++ text) (sym (byte_more bytes i b (slice_get-get_or bytes i 0 c.loop-i-test.true)))

pub returns : goal.returns
returns c =
    let bytes = c.args.bytes.now in
    let i = c.loop-i.i in
    let long = length-enumerate_from 0 bytes in
    let past : length (enumerate_from 0 bytes) ≤ i = omega (arith, long, c.loop-i-test.false) in
    c.loop-i.invariant ∙ ap (λ xs. string_bytes c.args.out.now ++ flat_map (byte_text (length bytes)) xs) (take_all i (enumerate_from 0 bytes) past)
