use Rattle.std.proofs.Common.{◌∙◌, ◌+◌, ap, length, sym}
use Rattle.std.specs.Option.{option_map}
use Rattle.oc_linking.specs.Keeping.{kept_of}
use Rattle.oc_chains.specs.Lists.{Chained, held_in}
use Rattle.oc_neutral.specs.declared.reloc.Reloc.{Reloc}
use Rattle.oc_neutral.proofs.Numbers.{all_left_lists, all_left_numbers, all_left_spare}
use Rattle.oc_neutral.proofs.relocs.Relocs.leave.Goals as goal

pub invariant_of-self : goal.invariant_of-self
invariant_of-self c =
    all_left_numbers (option_map (λ v. v.items) c.self.inside.of) c.args.stay.now c.self.inside.chains c.drop_others.new.chains c.self.invariant (c.requires ∙ sym (ap (λ (v : Chained Reloc). length v.lists) c.self.view_is)) c.drop_others.ensures.numbers c.drop_others.ensures.count c.drop_others.ensures.lists c.drop_others.ensures.spare c.in_ok-numbers.numbers.items c.in_ok-numbers.ensures

pub returns-clause-lists : goal.returns-clause-lists
returns-clause-lists c =
    all_left_lists (option_map (λ v. v.items) c.self.inside.of) c.args.stay.now c.self.inside.chains c.drop_others.new.chains c.self.invariant (c.requires ∙ sym (ap (λ (v : Chained Reloc). length v.lists) c.self.view_is)) c.drop_others.ensures.numbers c.drop_others.ensures.count c.drop_others.ensures.lists c.drop_others.ensures.spare c.in_ok-numbers.numbers.items c.in_ok-numbers.ensures
    ∙ ap (λ (v : Chained Reloc). kept_of c.args.stay.now v.lists) c.self.view_is

pub returns-clause-spare : goal.returns-clause-spare
returns-clause-spare c =
    all_left_spare (option_map (λ v. v.items) c.self.inside.of) c.args.stay.now c.self.inside.chains c.drop_others.new.chains c.self.invariant (c.requires ∙ sym (ap (λ (v : Chained Reloc). length v.lists) c.self.view_is)) c.drop_others.ensures.numbers c.drop_others.ensures.count c.drop_others.ensures.lists c.drop_others.ensures.spare c.in_ok-numbers.numbers.items c.in_ok-numbers.ensures
    ∙ ap (λ (v : Chained Reloc). v.spare + held_in v.lists) c.self.view_is
