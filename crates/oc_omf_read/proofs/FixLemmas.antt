-- What a fixup does is what its relocation is made of.
use Rattle.std.proofs.Common.{◌≡◌, ℕ, ◌+◌, ◌-◌, Bool, true, false, cond, Option, None, Some, refl, ◌∙◌, ap, arith}
use Rattle.std.specs.{Prelude.{◌||◌, nat_eq, ℤ}, Option.{option_and_then, option_map, option_map_or}}
use Rattle.oc_base.specs.{declared.format.Word.TheVariants.{W32}, Numbers.{number_at}}
use Rattle.oc_linking.specs.Parts as parts
use Rattle.oc_linking.specs.Rules as rules
use Rattle.oc_linking.specs.Targets as file
use Rattle.oc_linking.specs.Targets.{symbol_target}
use Rattle.oc_shows.specs.{Computed.{position_of}, RowValues.{row_reloc}}
use Rattle.oc_neutral.specs.{declared.reloc.Reloc.{Reloc}, declared.reloc.Target.{Target}, Omf.Relocs.{BySelf, fixup_row}, Rows.{Row}}
use Rattle.oc_neutral.specs.declared.reloc.Target.TheVariants as target
use Rattle.oc_omf.specs.{declared.structures.Method.{Method}, Fields.{added_at, row_of}, Fixups.{Fixed}, Sections.{contents_of, size_at}, Structures.{Piece}}
use Rattle.oc_omf.specs.Targets.{Meaning, external_at, is_flat, is_home, same_named, section_target, target_of}
use Rattle.oc_omf_read.specs.{declared.fix.Fix.{Fix}, declared.fix.FixupFrame.{FixupFrame}, Aims.{aim_by, fix_by, framed_by, framed_of, is_home_of}}
use Rattle.oc_omf_read.specs.{Fixing.{added_by, framed_as}, Given.{against, reloc_by}}
use Rattle.oc_omf_read.specs.declared.fix.FixupFrame.TheVariants as framed

module _ (m : Meaning) where
  -- the number in a field at an offset of the section at position s
  abbrev pub field_number : ℕ → ℕ → ℕ
  field_number s at = number_at (contents_of m.tables (s + 1) (size_at m.tables (s + 1))) at 4

  -- the relocation of a fixup for its field there
  abbrev pub reloc_as : ℕ → ℕ → Fix → Reloc
  reloc_as s at fix = row_reloc W32 (fixup_row (framed_as fix.framed)) s (added_by fix (field_number s at)) fix.target

  names_same : (frame : Method) → option_map (λ (t : file.Target). t.named) (target_of m frame) ≡ option_map (λ (a : Target × rules.Named). a.1) (aim_by m frame)
  names_same frame = by (nat_eq frame.number 0) (nat_eq frame.number 2) (external_at m frame.index)
    where
      targets : Bool → Bool → Option parts.Symbol → Option file.Target
      targets c d o = cond c (Some (section_target (frame.index - 1))) (cond d (option_and_then symbol_target o) None)

      objects : Bool → Bool → Option parts.Symbol → Option Target
      objects c d o = cond c (Some (target.Section (frame.index - 1))) (cond d (option_map (λ (s : parts.Symbol). target.Symbol (position_of m.symbols s.number)) o) None)

      found : (y : parts.Symbol) (o : Option file.Target) → option_map (λ (t : file.Target). t.named) o
          ≡ option_map (λ (a : Target × rules.Named). a.1) (option_and_then (λ (u : file.Target). option_map (λ (t : Target). (t, u.named)) (Some (target.Symbol (position_of m.symbols y.number)))) o)
      found y None = refl
      found y (Some u) = refl

      by : (c d : Bool) (o : Option parts.Symbol)
          → option_map (λ (t : file.Target). t.named) (targets c d o) ≡ option_map (λ (a : Target × rules.Named). a.1) (option_and_then (λ (u : file.Target). option_map (λ (t : Target). (t, u.named)) (objects c d o)) (targets c d o))
      by true d o = refl
      by false true None = refl
      by false true (Some y) = found y (symbol_target y)
      by false false o = refl

  home_same : (d : Piece) (frame : Method) (u : file.Target) → is_home m (Some d) frame u ≡ is_home_of m d.segment frame u.named
  home_same d frame u = by (nat_eq frame.number 4)
    where
      by : (b : Bool) → (nat_eq frame.number 5 || option_map_or (same_named u.named) (cond b (option_map (λ (d : Piece). rules.Sectional (d.segment - 1)) (Some d)) (option_map (λ (t : file.Target). t.named) (target_of m frame))) false)
          ≡ (nat_eq frame.number 5 || option_map_or (same_named u.named) (cond b (Some (rules.Sectional (d.segment - 1))) (option_map (λ (a : Target × rules.Named). a.1) (aim_by m frame))) false)
      by true = refl
      by false = ap (λ (o : Option rules.Named). nat_eq frame.number 5 || option_map_or (same_named u.named) o false) (names_same frame)

  row_same : (x : Fixed) (d : Piece) (u : file.Target) → x.piece ≡ Some d → row_of m x u ≡ option_map (λ (f : FixupFrame). fixup_row (framed_as f)) (framed_of m d.segment x.fixup x.frame u.named)
  row_same x d u behind = by x.fixup.segment_relative x.frame
    where
      home : (frame : Method) → is_home m x.piece frame u ≡ is_home_of m d.segment frame u.named
      home frame = ap (λ (o : Option Piece). is_home m o frame u) behind ∙ home_same d frame u

      framed_is : (frame : Method) (a b c : Bool) → b ≡ c → cond a (Some (fixup_row (framed_as framed.Flat))) (cond b (Some (fixup_row (framed_as framed.Home))) None)
          ≡ option_map (λ (f : FixupFrame). fixup_row (framed_as f)) (cond a (Some framed.Flat) (cond c (Some framed.Home) None))
      framed_is frame true b c same = refl
      framed_is frame false b true same = ap (λ z. cond z (Some (fixup_row (framed_as framed.Home))) None) same
      framed_is frame false b false same = ap (λ z. cond z (Some (fixup_row (framed_as framed.Home))) None) same

      by : (r : Bool) (frame : Option Method)
          → cond r (option_and_then (λ (f : Method). cond (is_flat m f) (Some (fixup_row (framed_as framed.Flat))) (cond (is_home m x.piece f u) (Some (fixup_row (framed_as framed.Home))) None)) frame) (Some (fixup_row BySelf))
          ≡ option_map (λ (f : FixupFrame). fixup_row (framed_as f)) (cond r (option_and_then (framed_by m d.segment u.named) frame) (Some framed.Own))
      by false frame = refl
      by true None = refl
      by true (Some frame) = framed_is frame (is_flat m frame) (is_home m x.piece frame u) (is_home_of m d.segment frame u.named) (home frame)

  added_same : (s at : ℕ) (x : Fixed) (f : FixupFrame) (t : Target) → added_at m s at x (fixup_row (framed_as f)) ≡ added_by (record { framed = f; target = t; displacement = x.fixup.displacement }) (field_number s at)
  added_same s at x f t = grind arith

  -- the relocation of a fixup is that of what it does
  pub reloc_is : (s at : ℕ) (x : Fixed) (d : Piece) → x.piece ≡ Some d → reloc_by m s at x ≡ option_map (reloc_as s at) (fix_by m d.segment x.fixup x.frame x.target)
  unfolding reloc_by
  reloc_is s at x d behind = by_target x.target
    where
      made : (t : Target) (o : Option FixupFrame) → option_map (λ (row : Row). row_reloc W32 row s (added_at m s at x row) t) (option_map (λ (f : FixupFrame). fixup_row (framed_as f)) o)
          ≡ option_map (reloc_as s at) (option_map (λ (f : FixupFrame). record { framed = f; target = t; displacement = x.fixup.displacement }) o)
      made t None = refl
      made t (Some f) = ap (λ (a : ℤ). Some (row_reloc W32 (fixup_row (framed_as f)) s a t)) (added_same s at x f t)

      plain : (t : Target) (o : Option Row) → option_and_then (λ (row : Row). option_map (row_reloc W32 row s (added_at m s at x row)) (Some t)) o ≡ option_map (λ (row : Row). row_reloc W32 row s (added_at m s at x row) t) o
      plain t o = grind arith

      no_row : (o : Option Row) → option_and_then (λ (row : Row). option_map (row_reloc W32 row s (added_at m s at x row)) None) o ≡ None
      no_row o = grind arith

      by_object : (u : file.Target) (o : Option Target) → option_and_then (λ (row : Row). option_map (row_reloc W32 row s (added_at m s at x row)) o) (row_of m x u)
          ≡ option_map (reloc_as s at) (option_and_then (λ (aim : Target × rules.Named). option_map (λ (f : FixupFrame). record { framed = f; target = aim.0; displacement = x.fixup.displacement }) (framed_of m d.segment x.fixup x.frame aim.1)) (option_map (λ (t : Target). (t, u.named)) o))
      by_object u None = no_row (row_of m x u)
      by_object u (Some t) =
          plain t (row_of m x u) ∙ ap (option_map (λ (row : Row). row_reloc W32 row s (added_at m s at x row) t)) (row_same x d u behind) ∙ made t (framed_of m d.segment x.fixup x.frame u.named)

      by_method : (method : Method) (o : Option file.Target) → option_and_then (λ (u : file.Target). option_and_then (λ (row : Row). option_map (row_reloc W32 row s (added_at m s at x row)) (against m method)) (row_of m x u)) o
          ≡ option_map (reloc_as s at) (option_and_then (λ (aim : Target × rules.Named). option_map (λ (f : FixupFrame). record { framed = f; target = aim.0; displacement = x.fixup.displacement }) (framed_of m d.segment x.fixup x.frame aim.1))
          (option_and_then (λ (u : file.Target). option_map (λ (t : Target). (t, u.named)) (against m method)) o))
      by_method method None = refl
      by_method method (Some u) = by_object u (against m method)

      by_target : (o : Option Method) → option_and_then (λ (method : Method). option_and_then (λ (u : file.Target). option_and_then (λ (row : Row). option_map (row_reloc W32 row s (added_at m s at x row)) (against m method)) (row_of m x u)) (target_of m method)) o
          ≡ option_map (reloc_as s at) (fix_by m d.segment x.fixup x.frame o)
      by_target None = refl
      by_target (Some method) = by_method method (target_of m method)
