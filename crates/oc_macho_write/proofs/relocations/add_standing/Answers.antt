-- One entry, or the two of a pair.
use Rattle.std.proofs.Common.{◌≡◌, ℕ, Bool, true, false, cond, refl, List, [], ◌∷◌, ◌++◌, sym, ◌∙◌, ap, arith, append_assoc}
use mir.Val.{bool_byte}
use Rattle.oc_macho.specs.declared.relocation_info.RelocationInfo.{RelocationInfo}
use Rattle.oc_macho_file.specs.Lines.{numbered_lines}
use Rattle.oc_macho_write.proofs.{FormLemmas.{alone_relative, its_row, pair_takes, spelled_one, spelled_pair}, RelocationLemmas.{alone_entries, pair_standing}}
use Rattle.oc_macho_write.proofs.relocations.add_standing.Goals as goal

-- what a test is as a number
byte : (b : Bool) → bool_byte b ≡ cond {A = ℕ} b 1 0
byte true = refl
byte false = refl

pub overflow_cast-number : goal.overflow_cast-number
overflow_cast-number c =
    let w = c.args.context.word in
    let y = c.args.standing.now in
    let x = c.requires.written in
    let same = (spelled_one w y x.0 x.1 c.in-One.number c.in-One.is).1 in
    let low = (its_row w y x.0 x.1).number in
    omega (arith, same, low)

pub overflow_cast-number-in-Pair : goal.overflow_cast-number-in-Pair
overflow_cast-number-in-Pair c =
    let w = c.args.context.word in
    let y = c.args.standing.now in
    let x = c.requires.written in
    let same = (spelled_pair w y x.0 x.1 c.in-Pair.number c.in-Pair.behind c.in-Pair.is).1 in
    let low = (its_row w y x.0 x.1).number in
    omega (arith, same, low)

pub overflow_cast-behind : goal.overflow_cast-behind
overflow_cast-behind c =
    let w = c.args.context.word in
    let y = c.args.standing.now in
    let x = c.requires.written in
    let low = (pair_takes y.reloc.form x.0.row c.in-Pair.behind (its_row w y x.0 x.1).spelled (spelled_pair w y x.0 x.1 c.in-Pair.number c.in-Pair.behind c.in-Pair.is).0).1 in
    omega (arith, low)

pub pair_of-requires-clause-ends : goal.pair_of-requires-clause-ends
pair_of-requires-clause-ends c = λ short. c.requires.there.ends short c.in-Pair.number c.in-Pair.behind c.in-Pair.is

pub returns-in_ok-push-in-One : goal.returns-in_ok-push-in-One
returns-in_ok-push-in-One c = λ n is context numbered written.
    let w = c.args.context.word in
    let y = c.args.standing.now in
    let told = spelled_one w y is written c.in-One.number c.in-One.is in
    c.in_ok-push-in-One.ensures.items
    ∙ ap (λ (es : List RelocationInfo). c.args.entries.now.items ++ es) (
    ap (λ (e : RelocationInfo). e ∷ []) c.plain_entry.ensures
    ∙ alone_entries w n (numbered_lines w n) y is written c.from-r_pcrel.result c.in-One.number c.of_target-refers.result told.0 (c.from-r_pcrel.ensures ∙ byte c.takes_place.result ∙ ap (λ (b : Bool). cond {A = ℕ} b 1 0) (c.takes_place.ensures ∙ sym (alone_relative w y is written told.0))) told.1 (c.of_target-refers.ensures n numbered))

pub returns-in_ok-push-in-Pair-2 : goal.returns-in_ok-push-in-Pair-2
returns-in_ok-push-in-Pair-2 c = λ n is context numbered written.
    let w = c.args.context.word in
    let y = c.args.standing.now in
    let told = spelled_pair w y is written c.in-Pair.number c.in-Pair.behind c.in-Pair.is in
    let before : List RelocationInfo = c.args.entries.now.items in
    c.in_ok-push-in-Pair-2.ensures.items
    ∙ ap (λ (es : List RelocationInfo). es ++ c.pair_of.result.1 ∷ []) c.in_ok-push-in-Pair.ensures.items
    ∙ append_assoc before (c.pair_of.result.0 ∷ []) (c.pair_of.result.1 ∷ [])
    ∙ ap (λ (es : List RelocationInfo). before ++ es) (
    c.pair_of.ensures n is context numbered written told.1 told.0
    ∙ pair_standing w n (numbered_lines w n) y is written c.in-Pair.behind told.0)
