-- Every object that is ready for OMF meets what its writer uses.
use Rattle.std.proofs.Common.{◌≡◌, ℕ, ◌+◌, false, ◌&&◌, length, Option, Some, None, refl, sym, ◌∙◌, ap, subst, arith}
use Rattle.std.specs.{Prelude.{slice_get, nat_le, nat_lt, not, count_by, find, is_err}, Option.{unwrap_or}}
use Rattle.std.proofs.lemmas.Bool.{true≢false}
use Rattle.oc_base.specs.{declared.format.Format.TheVariants.{Omf}, declared.format.Word.TheVariants.{W32}}
use Rattle.oc_linking.specs.declared.terms.Width.TheVariants.{Four}
use Rattle.oc_linking.proofs.Testing.{found_there, not_below}
use Rattle.oc_algebra.specs.Fields.{to_field_of}
use Rattle.oc_neutral.specs.{Bindings.{is_external}, Powers.{natural_align}, Omf.Family.{omf_aligns}, declared.section.Section.{Section}}
use Rattle.oc_neutral.specs.{declared.symbol.Symbol.{Symbol}, declared.reloc.Reloc.{Reloc}, Alignments.{output_align}, Objects.{Object, reloc_at}}
use Rattle.oc_neutral.specs.{Omf.Relocs.{FixupFrame, fixup_row}, RelocTables.{rows_of}, Rows.{Row}, TargetSections.{is_debug_kept, section_conditions}}
use Rattle.oc_neutral.specs.TargetSymbols.{is_absolute_form, is_common_form, is_weak_form, symbol_conditions}
use Rattle.oc_target.specs.{Fitted.{fitted_binding, IsFitted}, Meets.{MeetsReloc}, OmfMeets.{OmfSection, OmfSymbol, OmfReloc, FittedMeetsOmf}}
use Rattle.oc_target.proofs.{MeetsCoff.{natural, align_same, fitted_common}, MeetsConditions.{section_count_met, section_met, symbol_met}}
use Rattle.oc_target.proofs.{MeetsCounts.{symbols_bounded, bounded_object}, MeetsGroups.{no_groups}, MeetsMach.{alone}, MeetsMachKinds.{IsOmfTag, omf_named}}
use Rattle.oc_target.proofs.{MeetsParts.{taken_alike}, MeetsRelocs.{no_error, reloc_meets}, MeetsRows.{of_table}}
use Rattle.oc_neutral.proofs.{Positions.{each_at}, ShiftLemmas.{four_bytes_hold}}

-- an alignment that OMF leaves as it is, is one of its own
own_align : (align : ℕ) → output_align Omf align ≡ align → (k : ℕ) × (slice_get omf_aligns k ≡ Some align)
unfolding output_align
own_align align e = by (find (nat_le align) omf_aligns) refl e
  where
    by : (o : Option ℕ) → find (nat_le align) omf_aligns ≡ o → unwrap_or o 256 ≡ align → (k : ℕ) × (slice_get omf_aligns k ≡ Some align)
    by None h e = (4, ap Some e)
    by (Some a) h e = let f = found_there (nat_le align) omf_aligns a h in (f.0, f.1 ∙ ap Some e)

-- a row of the table is that of a fixup
framed_row : (k : ℕ) (row : Row) → slice_get (rows_of Omf) k ≡ Some row → (framed : FixupFrame) × (fixup_row framed ≡ row)
framed_row k row h = grind arith

module _ (n : Object) (fits : IsFitted Omf n) where
  section : (k : ℕ) (s : Section) → slice_get n.sections k ≡ Some s → OmfSection s
  unfolding section_conditions
  section k s here =
      let met = section_met Omf n fits k s here in
      let kept : is_debug_kept Omf Omf s.kind ≡ false = subst (λ f. is_debug_kept Omf f s.kind ≡ false) fits.format met.0 in
      let tag : IsOmfTag s.kind s.tag = omf_named (k + 1) s.kind s.name s.tag (fits.names k s here) (λ debug. true≢false (sym (ap (is_debug_kept Omf Omf) debug) ∙ kept)) in
      let align = own_align s.align (each_at (λ (x : Section). output_align Omf x.align ≡ x.align) n.sections k s fits.aligns here) in
      record {
        name = not_below 255 (length s.name) met.1.1.1.1.0;
        alone = alone s.group met.1.1.1.1.1.0;
        exponent = align.0;
        align = align.1;
        tag = tag.own;
        class = tag.class;
        classed = tag.classed;
        kind = tag.read;
      }

  symbol : (k : ℕ) (s : Symbol) → slice_get n.symbols k ≡ Some s → OmfSymbol s
  unfolding symbol_conditions
  symbol k s here =
      let met = symbol_met Omf n fits k s here in
      record {
        name = λ outer. not_below 255 (length s.name) (sym (ap (λ b. not b && nat_lt 255 (length s.name)) outer) ∙ met.0);
        placed = λ x e. true≢false (ap (is_absolute_form Omf) (sym e) ∙ met.1.0);
        common = λ size align e.
            natural size align (ap (is_common_form Omf) (sym e) ∙ met.1.1.0)
            (align_same size (natural_align size) align
            (fitted_common Omf size align ∙ ap (fitted_binding Omf) (sym e) ∙ each_at (λ (x : Symbol). fitted_binding Omf x.binding ≡ x.binding) n.symbols k s fits.commons here ∙ e));
        strong = λ f e. true≢false (ap (is_weak_form Omf n) (sym e) ∙ met.1.1.1.0);
      }

  reloc : (s at : ℕ) (r : Reloc) → reloc_at n s at ≡ Some r → OmfReloc n s at r
  reloc s at r here =
      let m : MeetsReloc Omf n s at r = reloc_meets Omf n fits s at r here in
      let framed = framed_row m.is.position m.row m.is.there in
      let four : r.form.width ≡ Four = sym m.is.width ∙ of_table (λ q. q.width) (λ q. Four) (rows_of Omf) m.is.position m.row refl m.is.there in
      record {
        meets = m;
        framed = framed.0;
        row = framed.1;
        taken = taken_alike Omf r.form.less m.row.taken (λ is. absurd (cc)) m.is.taken;
        width = four;
        holds = λ shift. no_error (to_field_of W32 r.form.width shift r.addend) (ap (λ w. is_err (to_field_of W32 w shift r.addend)) four ∙ four_bytes_hold shift r.addend);
      }

pub meets_omf : FittedMeetsOmf
meets_omf n fits = record {
  bounds = bounded_object Omf n fits;
  few = not_below 30000 (length n.sections) (section_count_met Omf n fits).1.0;
  externals = not_below 32767 (count_by (λ (s : Symbol). is_external s.binding) n.symbols) (symbols_bounded Omf n fits).0;
  groups = no_groups n fits.object (λ k s here. (section n fits k s here).alone);
  sections = section n fits;
  symbols = symbol n fits;
  relocs = reloc n fits;
}
