-- Relocations added on small examples: fields that meet are refused, a constant is stored, and one that does not fit is refused.
use Rattle.std.proofs.Common.{◌≡◌, ℕ, refl, List, [], ◌∷◌, Option, Some, None, Result, Ok, Err, map}
use Rattle.std.specs.Prelude.{ℤ, pos, negsuc}
use Rattle.oc_base.specs.declared.format.Format.TheVariants.{Mac64}
use Rattle.oc_linking.specs.{declared.terms.Width.{Width}, declared.terms.Width.TheVariants.{One, Four}, declared.terms.Check.TheVariants.{Signed}}
use Rattle.oc_linking.specs.{declared.terms.Hint.TheVariants.{Plain}, declared.terms.Kind.TheVariants.{Data}, declared.terms.Less.{Less}}
use Rattle.oc_linking.specs.declared.terms.Base.TheVariants as base
use Rattle.oc_linking.specs.declared.terms.Less.TheVariants as less
use Rattle.oc_algebra.specs.{Folds.{fold_of}, Residues.{residue_of, reduced_number}}
use Rattle.oc_neutral.specs.{declared.section.Section.{Section}, declared.reloc.Reloc.{Reloc}, declared.fault.BuildFault.{BuildFault}}
use Rattle.oc_neutral.specs.{Building.{Draft, reloc_added}, Faces.{contents_of}, Normal.{place_among, by_section, folded}, Objects.{reloc_at}}
use Rattle.oc_neutral.specs.declared.reloc.Target.TheVariants as target
use Rattle.oc_neutral.specs.declared.fault.BuildFault.TheVariants as fault
use Rattle.oc_shows.specs.Started.{plain_draft}

-- a section of the bytes 1 to 8
abbrev section : Section
section = record { name = 97 ∷ []; kind = Data; align = 1; size = 8; bytes = 1 ∷ 2 ∷ 3 ∷ 4 ∷ 5 ∷ 6 ∷ 7 ∷ 8 ∷ []; tag = 0; number = 1; group = None }

-- two of them
abbrev start : Draft
start = plain_draft Mac64 [] (section ∷ section ∷ []) []

-- section 1, less what is taken
abbrev against : Width → Less → ℤ → Reloc
against width l addend = record { target = target.Section 1; form = record { base = base.Address; less = l; width = width; check = Signed }; addend = addend; hint = Plain }

-- relocations of section 0, one after another
abbrev each_added : Result Draft BuildFault → List (ℕ × Reloc) → Result Draft BuildFault
each_added d [] = d
each_added (Ok d) (x ∷ xs) = each_added (reloc_added d 0 x.0 x.1) xs
each_added (Err e) (x ∷ xs) = Err e

-- what is seen then: the contents of section 0, and the relocation at offset 2
abbrev seen : Result Draft BuildFault → Result (List (List ℕ) × Option Reloc) BuildFault
seen (Ok d) = Ok (map contents_of d.object.sections, reloc_at d.object 0 2)
seen (Err e) = Err e

-- a relocation leaves zeros, and a section less itself its addend
one-kept : seen (each_added (Ok start) ((2, against Four less.Zero (pos 5)) ∷ []))
    ≡ Ok ((1 ∷ 2 ∷ 0 ∷ 0 ∷ 0 ∷ 0 ∷ 7 ∷ 8 ∷ []) ∷ section.bytes ∷ [], Some (against Four less.Zero (pos 5)))
unfolding reloc_added place_among by_section folded residue_of reduced_number fold_of
one-kept = refl

one-folded : seen (each_added (Ok start) ((2, against Four (less.Section 1) (negsuc 1)) ∷ [])) ≡ Ok ((1 ∷ 2 ∷ 254 ∷ 255 ∷ 255 ∷ 255 ∷ 7 ∷ 8 ∷ []) ∷ section.bytes ∷ [], None)
unfolding reloc_added place_among by_section folded residue_of reduced_number fold_of
one-folded = refl

-- a constant fits a signed byte up to 127
widest-folded : seen (each_added (Ok start) ((2, against One (less.Section 1) (pos 127)) ∷ [])) ≡ Ok ((1 ∷ 2 ∷ 127 ∷ 4 ∷ 5 ∷ 6 ∷ 7 ∷ 8 ∷ []) ∷ section.bytes ∷ [], None)
unfolding reloc_added place_among by_section folded residue_of reduced_number fold_of
widest-folded = refl

too-wide : seen (each_added (Ok start) ((2, against One (less.Section 1) (pos 128)) ∷ [])) ≡ Err fault.FoldTooWide
unfolding reloc_added place_among by_section folded residue_of reduced_number fold_of
too-wide = refl

-- fields that meet, in either order, also where one was folded; and fields that touch
met-behind : seen (each_added (Ok start) ((0, against Four less.Zero (pos 5)) ∷ (3, against Four less.Zero (pos 5)) ∷ [])) ≡ Err fault.Overlap
unfolding reloc_added place_among by_section folded residue_of reduced_number fold_of
met-behind = refl

met-before : seen (each_added (Ok start) ((3, against Four less.Zero (pos 5)) ∷ (0, against Four less.Zero (pos 5)) ∷ [])) ≡ Err fault.Overlap
unfolding reloc_added place_among by_section folded residue_of reduced_number fold_of
met-before = refl

met-folded : seen (each_added (Ok start) ((0, against Four (less.Section 1) (pos 5)) ∷ (3, against Four less.Zero (pos 5)) ∷ [])) ≡ Err fault.Overlap
unfolding reloc_added place_among by_section folded residue_of reduced_number fold_of
met-folded = refl

touching : seen (each_added (Ok start) ((6, against One (less.Section 1) (pos 9)) ∷ (2, against Four less.Zero (pos 5)) ∷ []))
    ≡ Ok ((1 ∷ 2 ∷ 0 ∷ 0 ∷ 0 ∷ 0 ∷ 9 ∷ 8 ∷ []) ∷ section.bytes ∷ [], Some (against Four less.Zero (pos 5)))
unfolding reloc_added place_among by_section folded residue_of reduced_number fold_of
touching = refl
