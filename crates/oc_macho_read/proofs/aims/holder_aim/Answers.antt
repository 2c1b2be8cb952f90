-- The section that holds an address is looked up.
use Rattle.std.proofs.Common.{ℕ, Option, sym, ◌∙◌, ap, subst}
use Rattle.std.specs.{Prelude.{IsSome}, Option.{unwrap_or}}
use Rattle.oc_macho_read.specs.Given.{section_aim}
use Rattle.oc_macho_read.proofs.MeantLemmas.{aimed_held}
use Rattle.oc_macho_read.proofs.aims.holder_aim.Goals as goal

pub unwrap-k-requires : goal.unwrap-k-requires
unwrap-k-requires c = subst (λ (o : Option ℕ). IsSome o) (sym (c.holder.ensures c.args.frame.now c.requires.holders)) (aimed_held c.args.frame.now c.args.v c.requires.aimed)

pub returns : goal.returns
returns c =
    c.section_aim.ensures
    ∙ ap (section_aim c.args.frame.now) (ap (λ (o : Option ℕ). unwrap_or o 0) (sym c.unwrap-k.ensures ∙ c.holder.ensures c.args.frame.now c.requires.holders))
