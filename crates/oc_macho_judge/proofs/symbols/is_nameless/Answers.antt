-- A text is empty exactly where a NUL is its first byte.
use Rattle.std.proofs.Common.{◌≡◌, ℕ, true, List, [], Option, sym, ◌∙◌, ap, arith}
use Rattle.std.specs.{Prelude.{bytes_eq, nat_eq, nat_le, slice_index_or}, Option.{unwrap_or}}
use Rattle.std.proofs.lemmas.Bool.Decides.{nat_tests}
use Rattle.oc_macho.specs.Symbols.{name_at}
use Rattle.oc_macho.proofs.NameLemmas.{empty_at}
use Rattle.oc_macho_judge.proofs.symbols.is_nameless.Goals as goal

pub returns-then-at-text_end : goal.returns-then-at-text_end
unfolding name_at
returns-then-at-text_end c =
    let past = c.if-at-text_end.true in
    let test : nat_le c.text_end.result c.args.s.now.n_strx ≡ true = grind (arith, nat_tests) in
    test ∙ sym (ap (λ (o : Option (List ℕ)). bytes_eq (unwrap_or o []) []) (c.text_end.ensures.none c.args.s.now.n_strx past))

pub returns-else-at-text_end : goal.returns-else-at-text_end
unfolding name_at
returns-else-at-text_end c =
    ap (λ (strings : List ℕ). nat_eq (slice_index_or strings c.args.s.now.n_strx 0) 0) c.strings-strings.ensures
    ∙ empty_at c.args.frame.now.strings c.args.s.now.n_strx (c.text_end.ensures.some c.args.s.now.n_strx c.if-at-text_end.false)
