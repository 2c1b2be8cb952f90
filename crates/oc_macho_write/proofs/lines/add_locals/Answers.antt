-- Each turn adds the line of its symbol, where it passes.
use Rattle.std.proofs.Common.{ℕ, ◌≤◌, ◌&&◌, ◌∙◌, length, map, sym, ap, arith}
use Rattle.std.specs.{List.{enumerate_from, filter}, Option.{option_map}}
use Rattle.std.proofs.lemmas.List.{drop_all}
use Rattle.oc_linking.specs.Parts.{is_local}
use Rattle.oc_neutral.specs.{declared.symbol.Symbol.{Symbol}, WrittenSymbols.{is_written}}
use Rattle.oc_macho_file.specs.Lines.{LocalLine}
use Rattle.oc_macho_write.specs.Lines.{line_in}
use Rattle.oc_macho_write.specs.declared.lines.Line.TheVariants as line
use Rattle.oc_plans.proofs.Turns.{filter_step, turn_if, whole}
use Rattle.oc_macho_write.proofs.lines.add_locals.Goals as goal

pub loop-k-preserved : goal.loop-k-preserved
loop-k-preserved c =
    let n = c.args.neutral.now in
    let k = c.loop-k.k in
    let s = c.symbol.result.now in
    turn_if (line_in n) c.loop-k.lines.items _ (line.Local k) (LocalLine k s) _ (is_local s.binding && is_written n.format s) _ _ _ c.in_ok-give_line.ensures (ap (option_map (LocalLine k)) c.symbol.ensures) (c.in_ok-wanted.ensures ∙ ap (λ f. is_local s.binding && is_written f s) (sym c.requires))
    (filter_step (λ (x : ℕ × Symbol). LocalLine x.0 x.1) (λ (x : ℕ × Symbol). is_local x.1.binding && is_written n.format x.1) n.symbols k s c.symbol.ensures) c.loop-k.invariant

pub returns : goal.returns
returns c =
    let n = c.args.neutral.now in
    let done : length n.symbols ≤ c.loop-k.k = omega (arith, c.loop-k-test.false, c.symbol_count-k-end.ensures) in
    whole (line_in n) c.loop-k.lines.items _ _ (ap (λ xs. map (λ (x : ℕ × Symbol). LocalLine x.0 x.1) (filter (λ (x : ℕ × Symbol). is_local x.1.binding && is_written n.format x.1) (enumerate_from c.loop-k.k xs))) (drop_all c.loop-k.k n.symbols done)) c.loop-k.invariant
