-- What a fixup does to one of its fields (TIS OMF 1.1, "FIXUPP"; our profile).
use Rattle.std.specs.Prelude.{ℕ, ℤ, pos, ◌+ℤ◌}
use Rattle.oc_linking.specs.declared.terms.Width.TheVariants.{Four}
use Rattle.oc_algebra.specs.Fields.{extended}
use Rattle.oc_neutral.specs.Omf.Relocs as relocs
use Rattle.oc_omf_read.specs.{declared.fix.Fix.{Fix}, declared.fix.FixupFrame.{FixupFrame}}
use Rattle.oc_omf_read.specs.declared.fix.FixupFrame.TheVariants as framed

-- the frame by which the table of fixups has it
abbrev pub framed_as : FixupFrame → relocs.FixupFrame
framed_as framed.Flat = relocs.ByFlat
framed_as framed.Home = relocs.ByTarget
framed_as framed.Own = relocs.BySelf

-- the number that is added where the field holds that number: it, sign-extended, and the displacement
abbrev pub added_by : Fix → ℕ → ℤ
added_by fix field = extended Four field +ℤ pos fix.displacement
