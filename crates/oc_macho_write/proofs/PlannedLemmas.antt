-- The parts of the canonical file, as a plan has them.
use Rattle.std.proofs.Common.{◌≡◌, ℕ, List, [], ◌∷◌, length, map, refl, sym, ◌∙◌, ap, subst, arith}
use Rattle.std.specs.List.{enumerate_from}
use Rattle.std.proofs.lemmas.{List.{length-map}, List.FromFn.{length-enumerate_from}}
use Rattle.oc_base.specs.declared.format.Word.{Word}
use Rattle.oc_neutral.specs.{declared.section.Section.{Section}, Objects.{Object}}
use Rattle.oc_shelf.specs.{declared.writing.layout.Layout.{Layout}, Writing.Parts.{file_of, pieces_by, IsPlaced}}
use Rattle.oc_plans.specs.Numbered.{section_with_numbers}
use Rattle.oc_shelf.proofs.{WritingLaws.LayoutLemmas.{part_low}, WritingLaws.MemberLemmas.{all_members}}
use Rattle.oc_plans.proofs.PlacedLemmas.{file_laid, mapped_in, placed_laid}
use Rattle.oc_macho_file.specs.{Bodies.{raw_of}, Canonical.{mach_file, part_bytes}, Layout.{part_begin, part_size, parts_of}}
use Rattle.oc_macho_file.proofs.{CodedLaws.{IsForMach}, FileSize.{small_file}, PartLaws.{part_sized, rises}}
use Rattle.oc_macho_write.specs.{declared.plan.MachParts.{MachParts}, Bodies.{body_by, HasBody, IsHeaded}, LaidParts.{AreLaid}, Parts.{part_in}}
use Rattle.oc_macho_write.specs.{Plans.{AreMade, AreSound, parts_by}, Relocations.{number_at}}
use Rattle.oc_macho_write.proofs.BodyLemmas.{body_is, has_body, is_headed, part_listed}

-- ... the bytes of sections

-- sections with the numbers in their fields have the bytes of the canonical file
pub raws_are : (w : Word) (n : Object) (xs : List (ℕ × Section)) → map (λ (s : Section). s.bytes) (map (section_with_numbers (number_at w n) n.relocs) xs) ≡ map (λ (x : ℕ × Section). raw_of w n x.0 x.1) xs
unfolding raw_of
raws_are w n [] = refl
raws_are w n (x ∷ xs) = ap (λ bs. raw_of w n x.0 x.1 ∷ bs) (raws_are w n xs)

-- ... which parts they are

module _ (w : Word) (n : Object) (p : MachParts) (made : AreMade w n p) where
  parts_are : parts_by p ≡ map (part_bytes w n) (parts_of n)
  parts_are =
      ap (λ z. map (body_by z p.heads p.sections.items p.bodies) p.parts.items) made.word
      ∙ mapped_in (part_in n) (body_by w p.heads p.sections.items p.bodies) (part_bytes w n) p.parts.items (parts_of n) made.parts
      (λ q x here. body_is w n p.heads made.heads p.bodies made.bodies p.sections.items made.raws q x here)

  module _ (layout : Layout) (laid_are : AreLaid w n layout (parts_of n)) where
    -- they are placed
    pub placed : IsPlaced layout (parts_by p)
    placed = subst (IsPlaced layout) (sym parts_are) (placed_laid (part_begin w n) (part_size w n) (part_bytes w n) (parts_of n) layout laid_are (rises w n) (part_sized w n))

    -- their file is the canonical file
    pub file_is : file_of (pieces_by layout (parts_by p)) ≡ mach_file w n
    unfolding mach_file
    file_is = ap (λ ps. file_of (pieces_by layout ps)) parts_are ∙ file_laid (part_begin w n) (part_size w n) (part_bytes w n) (parts_of n) layout laid_are

    long_sections : length p.sections.items ≡ length n.sections
    long_sections =
        sym (length-map p.sections.items (λ (s : Section). s.bytes)) ∙ ap length made.raws
        ∙ length-map (enumerate_from 0 n.sections) (λ (x : ℕ × Section). raw_of w n x.0 x.1) ∙ length-enumerate_from 0 n.sections

    -- they can be given
    pub sound : IsForMach w n → AreSound p
    sound is = record {
      small =
          λ k.
          let low = part_low layout (parts_by p) placed k in
          let ends = placed.ends ∙ ap length file_is in
          let small = small_file w n is in
          omega (arith, low, ends, small);
      headed = subst (λ z. IsHeaded z p.heads) (sym made.word) (is_headed w n p.heads made.heads is);
      there = all_members (HasBody p.sections.items p.bodies) p.parts.items (λ k q here. let y = part_listed n p.parts.items k q made.parts here in has_body w n p.bodies made.bodies p.sections.items long_sections q y.0 y.2);
    }
