-- The number in the field and the displacement, less the bytes from behind which the value is counted.
use Rattle.std.proofs.Common.{rules, ◌≡◌, ℕ, ◌∙◌, ap, arith, w64, pos, ◌-ℤ◌, ◌+ℤ◌, to_z, of_z}
use Rattle.std.specs.Prelude.{ℤ, neg_ℤ}
use Rattle.std.proofs.lemmas.Int.{ints}
use Rattle.oc_base.specs.declared.format.Word.TheVariants.{W32}
use Rattle.oc_linking.specs.declared.terms.Width.TheVariants.{Four}
use Rattle.oc_algebra.specs.{Fields.{extended, from_field_of}, Residues.{reduced_number}}
use Rattle.oc_neutral.specs.Omf.Relocs.{fixup_row}
use Rattle.oc_omf_read.specs.Fixing.{framed_as}
use Rattle.oc_omf_read.proofs.fix.addend_of.Goals as goal

regrouped : (e : ℤ) (d b : ℕ) → e +ℤ (pos d -ℤ pos b) ≡ e +ℤ pos d +ℤ neg_ℤ (pos b)
regrouped e d b = omega (arith, ints)

pub returns : goal.returns
unfolding from_field_of
returns c =
    let kept : to_z w64 (of_z w64 c.from_field.result) ≡ c.from_field.result = search rules in
    let behind : ℕ = (fixup_row (framed_as c.args.fix.now.framed)).behind in
    let passed : to_z w64 (of_z w64 c.shift_by-shift.result) ≡ pos c.args.fix.now.displacement -ℤ pos behind = search rules in
    kept ∙ c.from_field.ensures ∙ ap (λ n. reduced_number W32 (extended Four n +ℤ to_z w64 (of_z w64 c.shift_by-shift.result))) c.into.ensures ∙ ap (λ n. reduced_number W32 (extended Four c.args.field +ℤ n)) passed ∙ ap (reduced_number W32) (regrouped (extended Four c.args.field) c.args.fix.now.displacement behind)
