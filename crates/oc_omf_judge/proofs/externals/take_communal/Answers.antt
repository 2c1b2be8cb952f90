-- A communal without a fault is taken up.
use Rattle.std.proofs.Common.{◌≡◌, ℕ, true, false, cond, nat_eq, length, Some, None, refl, sym, ◌∙◌, ap, arith}
use Rattle.std.specs.{Option.{option_map_or}, Prelude.{not}, List.{list_any}}
use Rattle.std.proofs.lemmas.Bool.Decides.{nat_tests}
use Rattle.oc_omf_judge.specs.{NameNumbers.{value_at}, EarlierSymbols.{external_with}}
use Rattle.oc_base.specs.declared.code.Code.TheVariants.{DuplicateName, SymbolKind}
use Rattle.oc_linking.specs.Numbers.{or_else}
use Rattle.oc_omf.specs.SymbolFaults.{is_empty, is_other_length, symbol_fault}
use Rattle.oc_omf_judge.proofs.SeenSteps.{communal_seen, communal_verdict}
use Rattle.oc_omf_judge.proofs.externals.take_communal.Goals as goal

pub returns-in-Some-clause-stop : goal.returns-in-Some-clause-stop
returns-in-Some-clause-stop c = λ known all t names is.
    let x : ℕ × ℕ = (c.args.here.index, c.args.here.place) in
    let name = c.args.name.now in
    let d = c.args.communal in
    communal_verdict all t.externals x name d
    ∙ ap (λ o. or_else o (cond (is_empty name) (Some (symbol_fault x SymbolKind)) (cond (list_any (is_other_length name d) t.externals) (Some (symbol_fault x DuplicateName)) None))) (sym c.communal_fault.ensures ∙ c.in-Some.is)

pub returns-then-is_empty-clause-stop : goal.returns-then-is_empty-clause-stop
returns-then-is_empty-clause-stop c = λ known all t names is.
    let x : ℕ × ℕ = (c.args.here.index, c.args.here.place) in
    let name = c.args.name.now in
    let d = c.args.communal in
    let named : nat_eq (length name) 0 ≡ true = grind (arith, nat_tests, c.if-is_empty.ensures, c.if-is_empty.true) in
    communal_verdict all t.externals x name d
    ∙ ap (λ o. or_else o (cond (is_empty name) (Some (symbol_fault x SymbolKind)) (cond (list_any (is_other_length name d) t.externals) (Some (symbol_fault x DuplicateName)) None))) (sym c.communal_fault.ensures ∙ c.in-None.is)
    ∙ ap (λ b. cond b (Some (symbol_fault x SymbolKind)) (cond (list_any (is_other_length name d) t.externals) (Some (symbol_fault x DuplicateName)) None)) named
    ∙ ap (λ f. Some f) (sym c.symbol_fault.ensures)

pub returns-then-is_other-clause-stop : goal.returns-then-is_other-clause-stop
returns-then-is_other-clause-stop c = λ known all t names is.
    let x : ℕ × ℕ = (c.args.here.index, c.args.here.place) in
    let name = c.args.name.now in
    let d = c.args.communal in
    let named : nat_eq (length name) 0 ≡ false = grind (arith, nat_tests, c.if-is_empty.ensures, c.if-is_empty.false) in
    let other : option_map_or (λ l. not (nat_eq d.length l)) (value_at c.args.seen.now.communals name) false ≡ true
    = ap (λ o. option_map_or (λ l. not (nat_eq d.length l)) o false) (sym c.in_ok-before.ensures.before) ∙ sym c.is_other.ensures ∙ c.if-is_other.true in
    communal_verdict all t.externals x name d
    ∙ ap (λ o. or_else o (cond (is_empty name) (Some (symbol_fault x SymbolKind)) (cond (list_any (is_other_length name d) t.externals) (Some (symbol_fault x DuplicateName)) None))) (sym c.communal_fault.ensures ∙ c.in-None.is)
    ∙ ap (λ b. cond b (Some (symbol_fault x SymbolKind)) (cond (list_any (is_other_length name d) t.externals) (Some (symbol_fault x DuplicateName)) None)) named
    ∙ ap (λ b. cond b (Some (symbol_fault x DuplicateName)) None) (is.communals_are name d ∙ other)
    ∙ ap (λ f. Some f) (sym c.symbol_fault-then-is_other.ensures)

pub returns-clause-taken : goal.returns-clause-taken
returns-clause-taken c = λ known all t names is.
    let x : ℕ × ℕ = (c.args.here.index, c.args.here.place) in
    let name = c.args.name.now in
    let d = c.args.communal in
    let y = external_with false name (Some d) in
    let named : nat_eq (length name) 0 ≡ false = grind (arith, nat_tests, c.if-is_empty.ensures, c.if-is_empty.false) in
    let alike : option_map_or (λ l. not (nat_eq d.length l)) (value_at c.args.seen.now.communals name) false ≡ false
    = ap (λ o. option_map_or (λ l. not (nat_eq d.length l)) o false) (sym c.in_ok-before.ensures.before) ∙ sym c.is_other.ensures ∙ c.if-is_other.false in (
      communal_verdict all t.externals x name d
          ∙ ap (λ o. or_else o (cond (is_empty name) (Some (symbol_fault x SymbolKind)) (cond (list_any (is_other_length name d) t.externals) (Some (symbol_fault x DuplicateName)) None))) (sym c.communal_fault.ensures ∙ c.in-None.is)
          ∙ ap (λ b. cond b (Some (symbol_fault x SymbolKind)) (cond (list_any (is_other_length name d) t.externals) (Some (symbol_fault x DuplicateName)) None)) named
          ∙ ap (λ b. cond b (Some (symbol_fault x DuplicateName)) None) (is.communals_are name d ∙ alike),
      communal_seen t c.args.seen.now _ _ y d is refl refl alike c.in_ok-before.ensures.taken c.in_ok-push.ensures.items refl refl refl refl,
    )
