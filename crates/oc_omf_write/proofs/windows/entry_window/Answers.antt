-- The parts are filled in one behind another.
use Rattle.std.proofs.Common.{◌≡◌, ℕ, ◌+◌, List, ◌++◌, length, subst, arith, length-append}
use Rattle.oc_outside.specs.Windows.{IsFilled}
use Rattle.oc_shelf.proofs.WritingLaws.WindowLemmas.{filled_long}
use Rattle.oc_omf.specs.Bytes.{entry_bytes}
use Rattle.oc_omf_write.proofs.WindowLemmas.{head_long, parts_are}
use Rattle.oc_omf_write.proofs.windows.entry_window.Goals as goal

pub fill-done-requires-clause-room : goal.fill-done-requires-clause-room
fill-done-requires-clause-room c =
    let first = c.copy_window-done.ensures in
    let count = first.count in
    let long = filled_long c.head_of-head.result c.args.out.now c.copy_window-done.new.out c.args.from c.copy_window-done.result first in
    omega (arith, count, long)

pub fill-done-requires-clause-filled : goal.fill-done-requires-clause-filled
fill-done-requires-clause-filled c =
    let count = c.copy_window-done.ensures.count in
    let three = head_long c.args.record_type c.as_slice-contents.result.now c.head_of-head.result c.head_of-head.ensures in
    omega (arith, count, three)

pub fill-requires-clause-room : goal.fill-requires-clause-room
fill-requires-clause-room c =
    let head = c.head_of-head.result in
    let contents = c.as_slice-contents.result.now in
    let three = head_long c.args.record_type contents head c.head_of-head.ensures in
    let second = c.fill-done.ensures head c.args.out.now three c.copy_window-done.ensures in
    let count = second.count in
    let long = filled_long (head ++ contents) c.args.out.now c.fill-done.new.out c.args.from c.fill-done.result second in
    omega (arith, count, long)

pub fill-requires-clause-filled : goal.fill-requires-clause-filled
fill-requires-clause-filled c =
    let head = c.head_of-head.result in
    let contents = c.as_slice-contents.result.now in
    let three = head_long c.args.record_type contents head c.head_of-head.ensures in
    let second = c.fill-done.ensures head c.args.out.now three c.copy_window-done.ensures in
    let count = second.count in
    let both = length-append head contents in
    omega (arith, count, both, three)

pub returns : goal.returns
returns c =
    let head = c.head_of-head.result in
    let contents = c.as_slice-contents.result.now in
    let old : List ℕ = c.args.out.now in
    let new : List ℕ = c.fill.new.out in
    let three = head_long c.args.record_type contents head c.head_of-head.ensures in
    let second = c.fill-done.ensures head old three c.copy_window-done.ensures in
    let both : length (head ++ contents) ≡ 3 + length contents = omega (arith, length-append head contents, three) in
    let third = c.fill.ensures (head ++ contents) old both second in
    subst (λ (xs : List ℕ). IsFilled (entry_bytes c.args.record_type xs) c.args.from old new c.fill.result) c.as_slice-contents.ensures.bytes
    (subst (λ (xs : List ℕ). IsFilled xs c.args.from old new c.fill.result) (parts_are c.args.record_type contents head c.checksum_of-checksum.result c.head_of-head.ensures c.checksum_of-checksum.ensures) third)
