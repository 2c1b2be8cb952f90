use Rattle.std.proofs.Common.{◌<◌, ℕ, [], Some, None, length, sym, ◌∙◌, ap, subst, arith}
use Rattle.std.proofs.lemmas.List.{get_or_default}
use Rattle.std.specs.Prelude.{nat_eq}
use Rattle.oc_strings.specs.{declared.order.Entry.{Entry}, Order.{IsNextTail, name_at, names_of}}
use Rattle.oc_strings.proofs.EntryLemmas.{count_of_names, name_of_entry, repeat_told, repeat_none}
use Rattle.oc_strings.proofs.order.Order.is_repeat.Goals as goal

pub returns-in-Some : goal.returns-in-Some
returns-in-Some c =
    let entries = c.args.self.now.entries.items in
    let names = names_of entries in
    let k : ℕ = c.args.k in
    let in' : k < length names = omega (arith, c.requires.within, count_of_names entries) in
    let there : k < length c.args.self.now.tails.items = omega (arith, in', c.requires.tailed.0) in
    let tail : IsNextTail names k (Some c.in-Some.j)
    = subst (IsNextTail names k) (get_or_default c.args.self.now.tails.items k None c.index.result.now there ∙ sym c.index.ensures ∙ c.in-Some.is) (c.requires.tailed.1 k None there)
    in
    let first : c.in-Some.j < length entries = omega (arith, tail.0, c.requires.within) in
    ap (λ n. nat_eq n (length c.index-in-Some-2.result.now.name.now))
    (ap (λ (e : Entry). length e.name.now) c.index-in-Some.ensures ∙ ap length (sym (name_of_entry entries c.in-Some.j [] c.index-in-Some.result.now first)))
    ∙ ap (nat_eq (length (name_at names c.in-Some.j)))
    (ap (λ (e : Entry). length e.name.now) c.index-in-Some-2.ensures ∙ ap length (sym (name_of_entry entries k [] c.index-in-Some-2.result.now c.requires.within)))
    ∙ repeat_told names c.requires.ascends k c.in-Some.j in' tail

pub returns-in-None : goal.returns-in-None
returns-in-None c =
    let entries = c.args.self.now.entries.items in
    let names = names_of entries in
    let there : c.args.k < length c.args.self.now.tails.items = omega (arith, c.requires.within, count_of_names entries, c.requires.tailed.0) in
    repeat_none names c.args.k
    (subst (IsNextTail names c.args.k) (get_or_default c.args.self.now.tails.items c.args.k None c.index.result.now there ∙ sym c.index.ensures ∙ c.in-None.is) (c.requires.tailed.1 c.args.k None there))
