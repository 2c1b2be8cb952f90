-- All lines, in the order of their groups.
use Rattle.std.proofs.Common.{◌≡◌, ◌+◌, [], rules, ◌∙◌, ap, sym, length}
use Rattle.std.proofs.lemmas.List.{length-append}
use Rattle.oc_macho_file.specs.Lines.{inner_lines, defined_lines}
use Rattle.oc_macho_write.proofs.LineLemmas.{all_inner, all_lines, as_long, with_defined}
use Rattle.oc_macho_write.proofs.lines.lines_of.Goals as goal

pub returns-clause-all : goal.returns-clause-all
returns-clause-all c =
    let w = c.args.word in
    let n = c.args.neutral.now in
    let none : c.new-all.result.items ≡ [] = search rules in
    let inner = all_inner w n _ _ _ none c.in_ok-add_owns.ensures c.in_ok-add_locals.ensures in
    let defined = with_defined w n _ _ inner c.in_ok-add_outers.ensures in
    all_lines w n _ _ _ _ defined c.in_ok-add_outers-2.ensures c.in_ok-add_outers-3.ensures c.in_ok-add_outers-4.ensures

pub returns-clause-inner : goal.returns-clause-inner
returns-clause-inner c =
    let w = c.args.word in
    let n = c.args.neutral.now in
    let none : c.new-all.result.items ≡ [] = search rules in
    let long : c.len-inner.result ≡ length c.add_locals.new.lines.items = search rules in
    long ∙ as_long n _ _ (all_inner w n _ _ _ none c.in_ok-add_owns.ensures c.in_ok-add_locals.ensures)

pub returns-clause-defined : goal.returns-clause-defined
returns-clause-defined c =
    let w = c.args.word in
    let n = c.args.neutral.now in
    let none : c.new-all.result.items ≡ [] = search rules in
    let inner = all_inner w n _ _ _ none c.in_ok-add_owns.ensures c.in_ok-add_locals.ensures in
    let first : c.len-inner.result ≡ length c.add_locals.new.lines.items = search rules in
    let long : c.len-defined.result ≡ length c.add_outers.new.lines.items = search rules in
    long ∙ as_long n _ _ (with_defined w n _ _ inner c.in_ok-add_outers.ensures) ∙ length-append (inner_lines w n) (defined_lines n)
    ∙ ap (λ m. m + length (defined_lines n)) (sym (first ∙ as_long n _ _ inner))
