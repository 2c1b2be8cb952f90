-- The field lies in bytes of the file, which are the contents.
use Rattle.std.proofs.Common.{◌≡◌, ℕ, Bool, false, cond, List, sym, ◌∙◌, ap, to_z, of_z, w64, rules}
use Rattle.std.specs.Prelude.{◌||◌, replicate}
use Rattle.oc_base.specs.Numbers.{number_at}
use Rattle.oc_linking.specs.declared.terms.Width.TheVariants.{Four}
use Rattle.oc_algebra.specs.Fields.{extended}
use Rattle.oc_macho.specs.{Framed.{table_at}, Sections.{contents_of, is_zerofill}, Tables.{SectionTable}}
use Rattle.oc_macho_judge.proofs.differences.number_of.Goals as goal
use Rattle.oc_neutral.proofs.Adding.{or_left}

raw_is : (x : SectionTable) → is_zerofill x.header ≡ false → contents_of x ≡ x.raw
unfolding contents_of
raw_is x stored = ap (λ (b : Bool). cond b (replicate x.header.size 0) x.raw) stored

pub returns : goal.returns
returns c =
    let x = table_at c.args.frame.now c.args.i in
    let id : to_z w64 (of_z w64 c.signed.result) ≡ c.signed.result = search rules in
    id ∙ c.signed.ensures
    ∙ ap (extended Four) (c.u32_in.ensures
    ∙ ap (λ (bytes : List ℕ). number_at bytes c.args.item.now.first.r_address 4) (c.raw.ensures ∙ sym (raw_is x (ap is_zerofill (sym c.requires.table.is) ∙ or_left _ _ c.requires.inside))))
