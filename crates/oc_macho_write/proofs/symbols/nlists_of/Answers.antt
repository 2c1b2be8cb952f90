-- Each turn adds the entry of its line.
use Rattle.std.proofs.Common.{◌≤◌, List, [], ◌∷◌, ◌++◌, length, map, sym, ap, ◌∙◌, subst, arith}
use Rattle.std.specs.{List.{Contains}, Option.{is_some}}
use Rattle.std.proofs.lemmas.{List.{drop_all}, Option.{same_Some, slice_get-get_or}}
use Rattle.oc_strings.specs.Tables.{StringTable}
use Rattle.oc_target.proofs.Giving.{more_given, all_given}
use Rattle.oc_macho.specs.declared.nlist.Nlist.{Nlist}
use Rattle.oc_macho_file.specs.{Lines.{Line, line_name, lines_of}, Symbols.{line_entry}}
use Rattle.oc_macho_write.specs.declared.lines.Line.TheVariants as line
use Rattle.oc_macho_write.proofs.{LineLemmas.{line_listed, as_many_lines}, NumberLemmas.{own_named}, StringLemmas.{named_among}}
use Rattle.oc_macho_write.proofs.symbols.nlists_of.Goals as goal
use Rattle.oc_neutral.proofs.FieldLists.{drop_here}

pub loop-k-init : goal.loop-k-init
loop-k-init c = λ w named are. ap (λ gs. gs ++ map (line_entry w c.args.neutral.now) (lines_of w c.args.neutral.now)) c.in_ok-nlists.ensures.items

pub line_nlist-requires-clause-there : goal.line_nlist-requires-clause-there
line_nlist-requires-clause-there c =
    let k = c.loop-k.k in
    let x = line_listed c.requires.lines.word c.args.neutral.now c.args.lines.now k _ c.requires.lines.lines (slice_get-get_or c.args.lines.now k (line.Own 0) c.loop-k-test.true) in
    ap is_some x.2

pub line_nlist-requires-clause-section : goal.line_nlist-requires-clause-section
line_nlist-requires-clause-section c =
    let k = c.loop-k.k in
    let w = c.requires.lines.word in
    let x = line_listed w c.args.neutral.now c.args.lines.now k _ c.requires.lines.lines (slice_get-get_or c.args.lines.now k (line.Own 0) c.loop-k-test.true) in
    own_named w c.args.neutral.now _ k x.0 x.1 x.2

pub line_nlist-requires-clause-named : goal.line_nlist-requires-clause-named
line_nlist-requires-clause-named c = λ is there.
    let k = c.loop-k.k in
    let w = c.requires.lines.word in
    let n = c.args.neutral.now in
    let x = line_listed w n c.args.lines.now k _ c.requires.lines.lines (slice_get-get_or c.args.lines.now k (line.Own 0) c.loop-k-test.true) in
    let names = c.args.names.now.names in
    subst (λ (l : Line). Contains names (line_name l)) (same_Some x.0 is (sym x.2 ∙ there)) (named_among w n k x.0 names (ap (λ (t : StringTable). t.names) c.requires.lines.names) x.1)

pub loop-k-preserved : goal.loop-k-preserved
loop-k-preserved c = λ w named are.
    let n = c.args.neutral.now in
    let k = c.loop-k.k in
    let x = line_listed w n c.args.lines.now k _ are (slice_get-get_or c.args.lines.now k (line.Own 0) c.loop-k-test.true) in
    more_given c.loop-k.nlists.items _ _ _ (line_entry w n x.0 ∷ []) _
    (◌∙◌ {A = List Nlist} c.in_ok-push.ensures.items (ap (λ (s : Nlist). c.loop-k.nlists.items ++ s ∷ []) (c.in_ok-line_nlist.ensures w x.0 named x.2)))
    (ap (map (line_entry w n)) (drop_here (lines_of w n) k x.0 x.1)) (c.loop-k.invariant w named are)

pub returns : goal.returns
returns c = λ w named are.
    let n = c.args.neutral.now in
    let k = c.loop-k.k in
    let many = as_many_lines w n c.args.lines.now are in
    let done : length (lines_of w n) ≤ k = omega (arith, c.loop-k-test.false, many) in
    all_given c.loop-k.nlists.items _ _ (ap (map (line_entry w n)) (drop_all k (lines_of w n) done)) (c.loop-k.invariant w named are)
