-- One external after another.
use Rattle.std.proofs.Common.{◌≡◌, ℕ, suc, ◌+◌, ◌<◌, ◌≤◌, false, length, sym, ◌∙◌, ap, arith}
use Rattle.std.specs.Prelude.{min}
use Rattle.oc_omf.specs.Entries.{all_read}
use Rattle.oc_omf.proofs.EachLemmas.{each_begin, each_cut, each_end, each_from, each_more}
use Rattle.oc_omf_judge.specs.Counts.{external_by}
use Rattle.oc_omf_judge.proofs.EntryLemmas.{end_lost, end_there, external_by_goes}
use Rattle.oc_omf_judge.proofs.counts.with_externals.Goals as goal

pub loop-at-init : goal.loop-at-init
loop-at-init c = λ local n is. (0, let same : n + 0 ≡ n = omega arith in is ∙ ap (λ (k : ℕ). min k 65536) (sym same), omega arith)

pub loop-at-smaller : goal.loop-at-smaller
loop-at-smaller c =
    let low : c.loop-at.at < length c.args.contents.now = omega arith in
    let r = end_there (external_by c.args.communals false c.args.contents.now c.loop-at.at) c.in-Some.after (sym c.in-Some.is ∙ c.end_of_external.ensures false) in
    let p = external_by_goes c.args.communals false c.args.contents.now c.loop-at.at r.0 c.in-Some.after r.1 in
    omega (arith, low, p.0, p.1)

pub loop-at-preserved : goal.loop-at-preserved
loop-at-preserved c = λ local n is.
    let b = c.args.contents.now in
    let read = external_by c.args.communals local in
    let low : c.loop-at.at < length b = omega arith in
    let r = end_there (read b c.loop-at.at) c.in-Some.after (sym c.in-Some.is ∙ c.end_of_external.ensures local) in
    let w = c.loop-at.invariant local n is in
    let many = w.1 in
    let more = ap (λ rs. length (all_read rs)) (each_more read b (external_by_goes c.args.communals local b) c.loop-at.at low r.0 c.in-Some.after r.1) in
    let one = c.one_more-count.ensures in
    let all = w.2 in
    (w.0 + 1, omega (arith, many, one), all ∙ ap (λ (k : ℕ). w.0 + k) more ∙ (let same : w.0 + suc (length (all_read (each_from read b c.in-Some.after))) ≡ w.0 + 1 + length (all_read (each_from read b c.in-Some.after)) = omega arith in same))

pub returns-in-None : goal.returns-in-None
returns-in-None c = λ local n is.
    let b = c.args.contents.now in
    let read = external_by c.args.communals local in
    let low : c.loop-at.at < length b = omega arith in
    let r = end_lost (read b c.loop-at.at) (sym c.in-None.is ∙ c.end_of_external.ensures local) in
    let w = c.loop-at.invariant local n is in
    let all : length (all_read (each_from read b 0)) ≡ w.0 + 0 = w.2 ∙ ap (λ rs. w.0 + length (all_read rs)) (each_cut read b (external_by_goes c.args.communals local b) c.loop-at.at low r.0 r.1) in
    let same : w.0 ≡ length (all_read (each_from read b 0)) = omega (arith, all) in
    w.1 ∙ ap (λ (k : ℕ). min (n + k) 65536) same ∙ ap (λ rs. min (n + length (all_read rs)) 65536) (sym (each_begin read b))

pub returns : goal.returns
returns c = λ local n is.
    let b = c.args.contents.now in
    let read = external_by c.args.communals local in
    let high : length b ≤ c.loop-at.at = omega arith in
    let w = c.loop-at.invariant local n is in
    let all : length (all_read (each_from read b 0)) ≡ w.0 + 0 = w.2 ∙ ap (λ rs. w.0 + length (all_read rs)) (each_end read b c.loop-at.at high) in
    let same : w.0 ≡ length (all_read (each_from read b 0)) = omega (arith, all) in
    w.1 ∙ ap (λ (k : ℕ). min (n + k) 65536) same ∙ ap (λ rs. min (n + length (all_read rs)) 65536) (sym (each_begin read b))
