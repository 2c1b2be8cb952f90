-- A file without faults shows what is built of it, which can be finished and read.
use Rattle.std.proofs.Common.{◌≡◌, ℕ, Bool, true, false, Option, None, Some, refl, sym, ◌∙◌, ap, subst, arith, get_or}
use Rattle.std.specs.{Prelude.{◌&&◌, ◌||◌, slice_get}, Option.{option_map, option_map_or}}
use Rattle.std.proofs.lemmas.{Bool.{true≢false, and_parts}, Option.{same_Some, slice_get-map, slice_get_within, slice_get-get_or}}
use Rattle.oc_linking.specs.{declared.terms.Base.{Base}, declared.terms.Hint.TheVariants.{Plain, Call}, declared.terms.Keep.{Keep}}
use Rattle.oc_linking.specs.{declared.terms.Width.{Width}, declared.terms.Width.TheVariants.{Four}}
use Rattle.oc_linking.specs.declared.terms.Base.TheVariants as base
use Rattle.oc_linking.specs.declared.terms.Less.TheVariants as less
use Rattle.oc_linking.specs.Parts as parts
use Rattle.oc_neutral.specs.{declared.elf.TheConstants.{SHT_NOBITS}, declared.reloc.Reloc.{Reloc}, declared.reloc.Target.{Target}}
use Rattle.oc_neutral.specs.{declared.section.Section.{Section}, declared.symbol.Symbol.{Symbol}, Elf.Kinds.{elf_tag, is_nobits_tag}, Faces.{number_of}}
use Rattle.oc_neutral.specs.{Invariants.{IsHinted, NamesOriginal}, Rows.{Row, Taken, TakesPlace, less_of, same_base, same_hint, same_taken, same_width}}
use Rattle.oc_neutral.specs.declared.reloc.Target.TheVariants as target
use Rattle.oc_shows.specs.{Built.{IsStarted}, Computed.{computed_symbol}, Finished.{AreFinal, LeavesBlanks}, Shows.{AreNumbered}, Started.{stored_section}}
use Rattle.oc_shows.proofs.BuiltLaws.{built_shows}
use Rattle.oc_elf_read.specs.{Built.{keys_of, symboled}, Given.{given_at}, Shown.{CleanIsShown}}
use Rattle.oc_elf.specs.{CarriedSections.{section_with, sections_of}, CarriedSymbols.{symbols_of}, Elf.{elf_dialect}, Frames.{FileFrame, header_at}}
use Rattle.oc_elf.specs.{Laid.{IsFrame}, Sections.{is_type}, Tables.{reloc_of, symbol_count}}
use Rattle.oc_elf_read.proofs.{AddedRelocs.{Standing}, AimedFields.{IsAim}, CarriedLemmas.{IsHere, number_here, section_here}}
use Rattle.oc_elf_read.proofs.{FoundFields.{IsClean, rules_symbols, stages_clean}, ReadableLemmas.{blank_is, nobits_is}, RowLemmas.{IsRow, is_row}}
use Rattle.oc_elf_read.proofs.StandingFields.{free_or_given, given_standing}
use Rattle.oc_elf_judge.proofs.SectionLemmas.{here}

pub clean_is_shown : CleanIsShown
clean_is_shown f keep d frame none started has =
    built_shows (elf_dialect f.class) f.file keep (symboled f (symbol_count f)) d (given_at f keep) started has
    (free_or_given f keep frame (stages_clean f keep none) (symboled f (symbol_count f)).object started.symbols)

-- ... hints

-- a row with the hint Call is the distance of an address, in four bytes
pub record IsCall (row : Row) : Type 0 where
  pub base : row.base ≡ base.Address
  pub less : less_of row.taken 0 ≡ less.Place
  pub width : row.width ≡ Four

call_row : (row : Row) → IsRow row → row.hint ≡ Call → IsCall row
call_row row is hint =
    let test : (same_base row.base base.Address && same_taken row.taken TakesPlace && same_width row.width Four) ≡ true
    = called (same_hint row.hint Plain) _ (ap (λ h. same_hint h Plain) hint) is.called in
    let outer = and_parts (same_base row.base base.Address && same_taken row.taken TakesPlace) (same_width row.width Four) test in
    let inner = and_parts (same_base row.base base.Address) (same_taken row.taken TakesPlace) outer.0 in
    record { base = of_base row.base inner.0; less = of_taken row.taken inner.1; width = of_width row.width outer.1 }
  where
    called : (a b : Bool) → a ≡ false → (a || b) ≡ true → b ≡ true
    called a b e h = grind arith

    of_base : (b : Base) → same_base b base.Address ≡ true → b ≡ base.Address
    of_base b e = grind arith

    of_taken : (t : Taken) → same_taken t TakesPlace ≡ true → less_of t 0 ≡ less.Place
    of_taken t e = grind arith

    of_width : (w : Width) → same_width w Four ≡ true → w ≡ Four
    of_width w e = grind arith

module _ (f : FileFrame) (keep : Keep) (frame : IsFrame f) (clean : IsClean f keep) (started : IsStarted (elf_dialect f.class) f.file keep (symboled f (symbol_count f))) where
  standing : (s at : ℕ) (r : Reloc) → given_at f keep s at ≡ Some r → Standing f keep frame clean started s at
  standing s at r e = given_standing f keep frame clean (symboled f (symbol_count f)).object started.symbols s at r e

  hinted : (s at : ℕ) (r : Reloc) → given_at f keep s at ≡ Some r → IsHinted r
  hinted s at r e call = by (standing s at r e)
    where
      by : Standing f keep frame clean started s at → (r.form.base ≡ base.Address) × (r.form.less ≡ less.Place) × (r.form.width ≡ Four)
      by m =
          let same : m.meant.reloc ≡ r = same_Some m.meant.reloc r (sym m.given ∙ e) in
          let row = call_row m.good.row (is_row f (reloc_of f m.x.number m.k) m.good.row m.good.listed) (sym m.meant.hint ∙ ap (λ (q : Reloc). q.hint) same ∙ call) in (
            ap (λ (q : Reloc). q.form.base) (sym same) ∙ ap (λ g. g.base) m.meant.form ∙ row.base,
            ap (λ (q : Reloc). q.form.less) (sym same) ∙ ap (λ g. g.less) m.meant.form ∙ row.less,
            ap (λ (q : Reloc). q.form.width) (sym same) ∙ ap (λ g. g.width) m.meant.form ∙ row.width,
          )

  -- ... originals

  number_at : (p : ℕ) (y : parts.Symbol) → slice_get (symbols_of f) p ≡ Some y → number_of (symboled f (symbol_count f)).object.symbols p ≡ y.number
  number_at p y there =
      ap (λ (o : Option Symbol). option_map_or (λ (s : Symbol). s.number) o 0)
      (slice_get-map (computed_symbol (symbols_of f)) (symbols_of f) p ∙ ap (option_map (computed_symbol (symbols_of f))) there)

  numbers : AreNumbered (symbols_of f)
  numbers = subst AreNumbered (rules_symbols f frame keep) started.numbered

  original : (t : Target) → IsAim f t → NamesOriginal (symboled f (symbol_count f)).object.symbols t
  original (target.Section k) low = tt
  original (target.Symbol p) (j, y, is, there) = λ q before same.
      let below = slice_get_within (symbols_of f) p y there in
      let other : slice_get (symbols_of f) q ≡ Some (get_or (symbols_of f) q y) = slice_get-get_or (symbols_of f) q y (omega (arith, below, before)) in
      numbers q p (get_or (symbols_of f) q y) y before other there (sym (number_at q (get_or (symbols_of f) q y) other) ∙ same ∙ number_at p y there)

  -- what is given can be finished
  pub are_final : AreFinal (symboled f (symbol_count f)).object (given_at f keep)
  are_final = record {
    hints = hinted;
    originals = λ s at r e.
        let m : Standing f keep frame clean started s at = standing s at r e in
        subst (λ (q : Reloc). NamesOriginal (symboled f (symbol_count f)).object.symbols q.target) (same_Some m.meant.reloc r (sym m.given ∙ e)) (original m.meant.reloc.target m.meant.aim);
  }

  -- ... blanks

  tag_here : (s : ℕ) (x : parts.Section) (m : IsHere f s x) → x.tag ≡ elf_tag (here f m.k).sh_type (here f m.k).sh_flags
  unfolding section_with
  tag_here s x m = ap (λ (y : parts.Section). y.tag) (sym m.is)

  -- nothing is given in a section that takes no bytes of a file
  pub leaves_blanks : LeavesBlanks (symboled f (symbol_count f)).object (given_at f keep)
  leaves_blanks s x there blank at = by (given_at f keep s at) refl
    where
      by : (o : Option Reloc) → given_at f keep s at ≡ o → o ≡ None
      by None e = refl
      by (Some r) e =
          let m : Standing f keep frame clean started s at = standing s at r e in
          let h : IsHere f s m.x = section_here f s m.x m.there in
          let same : stored_section (keys_of f) m.x ≡ x = same_Some (stored_section (keys_of f) m.x) x (sym (slice_get-map (stored_section (keys_of f)) (sections_of f) s ∙ ap (option_map (stored_section (keys_of f))) m.there) ∙ there) in
          let tag : m.x.tag ≡ x.tag = ap (λ (y : Section). y.tag) same in
          let none : is_nobits_tag m.x.tag ≡ false
          = ap is_nobits_tag (tag_here s m.x h) ∙ nobits_is (here f h.k).sh_type (here f h.k).sh_flags
          ∙ ap (λ (i : ℕ). is_type SHT_NOBITS (header_at f.headers i)) (sym (number_here f s m.x h)) ∙ m.good.stored in
          absurd (true≢false (sym blank ∙ blank_is f.class x.tag ∙ ap is_nobits_tag (sym tag) ∙ none))
