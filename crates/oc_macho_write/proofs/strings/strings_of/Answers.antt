-- Each turn gives the name of its line; the names have room.
use Rattle.std.proofs.Common.{◌≡◌, ◌≤◌, ◌+◌, ◌<◌, ◌^◌, List, ℕ, [], ◌∷◌, ◌++◌, length, map, sym, ◌∙◌, ap, subst, arith}
use Rattle.std.specs.{Prelude.{sum_by}, Option.{is_some}}
use Rattle.std.proofs.lemmas.{List.{drop_all}, Option.{slice_get-get_or}, Result.{IfOk-weaker}}
use Rattle.oc_strings.specs.Tables.{StringTable}
use Rattle.oc_target.proofs.Giving.{more_given, all_given}
use Rattle.oc_macho_file.specs.{Layout.{line_names}, Lines.{line_name, lines_of}}
use Rattle.oc_macho_file.proofs.CodedLaws.{for_mach}
use Rattle.oc_macho_write.specs.declared.lines.Line.TheVariants as line
use Rattle.oc_macho_write.specs.Strings.{table_with}
use Rattle.oc_macho_write.proofs.{LineLemmas.{line_listed, as_many_lines}, StringLemmas.{ended_size, few_names}, Turns.{name_step}}
use Rattle.oc_macho_write.proofs.strings.strings_of.Goals as goal

pub loop-line-init : goal.loop-line-init
unfolding line_names
loop-line-init c = λ w are. ap (λ gs. gs ++ map line_name (lines_of w c.args.neutral.now)) c.in_ok-names.ensures.items

pub line_name-requires : goal.line_name-requires
line_name-requires c =
    let k = c.loop-line.line-index in
    let x = line_listed c.requires.word c.args.neutral.now c.args.lines.now k _ c.requires.lines (slice_get-get_or c.args.lines.now k (line.Own 0) c.loop-line-test.true) in
    ap is_some x.2

pub loop-line-preserved : goal.loop-line-preserved
loop-line-preserved c = λ w are.
    let n = c.args.neutral.now in
    let k = c.loop-line.line-index in
    let x = line_listed w n c.args.lines.now k _ are (slice_get-get_or c.args.lines.now k (line.Own 0) c.loop-line-test.true) in
    more_given c.loop-line.names.items _ _ _ (line_name x.0 ∷ []) _
    (◌∙◌ {A = List (List ℕ)} c.in_ok-push.ensures.items (ap (λ (name : List ℕ). c.loop-line.names.items ++ name ∷ []) (c.in_ok-line_name.ensures x.0 x.2)))
    (name_step line_name (lines_of w n) k x.0 x.1) (c.loop-line.invariant w are)

pub of-requires : goal.of-requires
of-requires c =
    let n = c.args.neutral.now in
    let w = c.requires.word in
    let k = c.loop-line.line-index in
    let many = as_many_lines w n c.args.lines.now c.requires.lines in
    let done : length (lines_of w n) ≤ k = omega (arith, c.loop-line-test.false, many) in
    let given = all_given c.loop-line.names.items _ _ (ap (λ ls. map line_name ls) (drop_all k (lines_of w n) done)) (c.loop-line.invariant w c.requires.lines) in
    subst (λ (names : List (List ℕ)). 1 + sum_by ended_size names < 2 ^ 32) (sym (c.deref.ensures.value ∙ given)) (few_names w n (for_mach w n c.requires.fitted))

pub returns : goal.returns
returns c = λ w are.
    let n = c.args.neutral.now in
    let k = c.loop-line.line-index in
    let many = as_many_lines w n c.args.lines.now are in
    let done : length (lines_of w n) ≤ k = omega (arith, c.loop-line-test.false, many) in
    let given = all_given c.loop-line.names.items _ _ (ap (λ ls. map line_name ls) (drop_all k (lines_of w n) done)) (c.loop-line.invariant w are) in
    IfOk-weaker c.of.result (λ (t : StringTable). t ≡ table_with c.deref.result.now) (λ (t : StringTable). t ≡ table_with (line_names w n)) (λ t e. e ∙ ap table_with (c.deref.ensures.value ∙ given)) c.of.ensures
