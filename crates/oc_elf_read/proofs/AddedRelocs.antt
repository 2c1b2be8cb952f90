-- The relocations of a file without faults, added one after the other.
use Rattle.std.proofs.Common.{◌≡◌, ℕ, ◌+◌, ◌<◌, ◌≤◌, Bool, true, false, cond, List, [], ◌∷◌, Some, refl, sym, ◌∙◌, ap, subst, arith}
use Rattle.std.specs.{Prelude.{◌&&◌, ◌||◌, not, nat_eq}, List.{AllByRecursion}, Option.{option_map, option_and_then}}
use Rattle.std.proofs.lemmas.{Bool.{true≢false}, List.{length-map}, Option.{none-some, same_Some, slice_get-map, slice_get_within}}
use Rattle.oc_linking.specs.{declared.terms.Binding.{Binding}, declared.terms.Binding.TheVariants.{Local}, declared.terms.Keep.{Keep}}
use Rattle.oc_linking.specs.{declared.terms.Kind.{Kind}, declared.terms.Kind.TheVariants.{Code, ReadOnly, Data, Zero, Init, Fini, Debug, Exception, Note}}
use Rattle.oc_linking.specs.Fits.{bytes_of}
use Rattle.oc_linking.specs.declared.terms.Value.TheVariants as value
use Rattle.oc_linking.specs.Parts as parts
use Rattle.oc_neutral.specs.declared.elf.TheConstants.{SHT_NOTE, SHT_NOBITS, SHT_INIT_ARRAY, SHT_FINI_ARRAY, SHT_X86_64_UNWIND, SHF_WRITE, SHF_ALLOC, SHF_EXECINSTR}
use Rattle.oc_neutral.specs.{declared.reloc.Target.{Target}, declared.symbol.Symbol.{Symbol}, Building.{Draft, is_zero}}
use Rattle.oc_neutral.specs.{Elf.Kinds.{elf_kind, is_debug_name, is_unwind_name}, Invariants.{CanAdd, IsLessThere, IsTargetThere}, KindRules.{first_rule, has}}
use Rattle.oc_neutral.specs.{Normal.{Place, local_place, place_among}, Rows.{Row, Taken, TakesSection, less_of, same_taken}}
use Rattle.oc_neutral.specs.declared.reloc.Target.TheVariants as target
use Rattle.oc_shows.specs.{Built.{IsStarted}, Computed.{computed_symbol, placed_binding}, Started.{stored_section}}
use Rattle.oc_elf_read.specs.{Built.{keys_of, symboled}, Given.{given_at}}
use Rattle.oc_elf.specs.{CarriedSections.{section_with, sections_of}, CarriedSymbols.{symbols_of}, Elf.{elf_dialect}, Frames.{FileFrame, header_at}}
use Rattle.oc_elf.specs.{Laid.{IsFrame}, Sections.{is_type, section_name}, Tables.{reloc_of, symbol_count}}
use Rattle.oc_elf_read.proofs.{AimedFields.{IsAim, local_below}, CarriedLemmas.{IsHere, kind_here, number_here, section_here}, FoundFields.{IsClean}}
use Rattle.oc_elf_read.proofs.{RowLemmas.{IsRow, is_row}, StandingFields.{IsStanding, are_apart, are_of_file, differences_fit, given_standing}}
use Rattle.oc_elf_judge.proofs.SectionLemmas.{here}
use Rattle.oc_shows.proofs.AddedLaws.{AreAddable}

-- ... what can be added

-- a section whose type is not NOBITS is not Zero
not_zero : (rules : List (Bool × Kind)) (otherwise : Kind) → AllByRecursion (λ (r : Bool × Kind). r.0 ≡ true → is_zero r.1 ≡ false) rules → is_zero otherwise ≡ false → is_zero (first_rule rules otherwise) ≡ false
not_zero [] otherwise all last = last
not_zero (r ∷ rules) otherwise all last = by r.0 refl (not_zero rules otherwise all.1 last)
  where
    by : (b : Bool) → r.0 ≡ b → is_zero (first_rule rules otherwise) ≡ false → is_zero (cond b r.1 (first_rule rules otherwise)) ≡ false
    by b e rest = grind arith

stored_kind : (name : List ℕ) (type flags : ℕ) → nat_eq type SHT_NOBITS ≡ false → is_zero (elf_kind name type flags) ≡ false
unfolding elf_kind
stored_kind name type flags other =
    not_zero (
    (is_unwind_name name || nat_eq type SHT_X86_64_UNWIND, Exception)
    ∷ (not (has flags SHF_ALLOC) && is_debug_name name, Debug)
    ∷ (not (has flags SHF_ALLOC), Note)
    ∷ (nat_eq type SHT_NOTE, Note)
    ∷ (nat_eq type SHT_INIT_ARRAY, Init)
    ∷ (nat_eq type SHT_FINI_ARRAY, Fini)
    ∷ (nat_eq type SHT_NOBITS, Zero)
    ∷ (has flags SHF_EXECINSTR, Code)
    ∷ (has flags SHF_WRITE, Data)
    ∷ []) ReadOnly
    ((λ e. refl), ((λ e. refl), ((λ e. refl), ((λ e. refl), ((λ e. refl), ((λ e. refl), ((λ e. absurd (true≢false (sym e ∙ other))), ((λ e. refl), ((λ e. refl), tt))))))))) refl

size_here : (f : FileFrame) (frame : IsFrame f) (s : ℕ) (x : parts.Section) (m : IsHere f s x) → x.size ≡ (here f m.k).sh_size
unfolding section_with
size_here f frame s x m = ap (λ (y : parts.Section). y.size) (sym m.is)

-- a Local's place, in a binding as it is stored
stored_place : (all : List parts.Symbol) (b : Binding) (place : Place) → local_place (placed_binding all b) ≡ Some place → b ≡ Local (value.Place place.0 place.1)
stored_place all b place e = grind arith

module _ (f : FileFrame) (keep : Keep) (frame : IsFrame f) (clean : IsClean f keep) (started : IsStarted (elf_dialect f.class) f.file keep (symboled f (symbol_count f))) where
  abbrev base : Draft
  base = symboled f (symbol_count f)

  -- an entry stands at an offset of the section at position s
  abbrev pub Standing : ℕ → ℕ → Type 0
  Standing s at = IsStanding f keep frame clean base.object started.symbols s at

  -- its target is there
  target_there : (t : Target) → IsAim f t → IsTargetThere base.object t
  unfolding place_among
  target_there (target.Section k) low = record {
    itself = subst (λ (m : ℕ). k < m) (sym (length-map (sections_of f) (stored_section (keys_of f)))) low;
    section = λ place e. absurd (none-some place e);
  }
  target_there (target.Symbol p) (j, y, is, there) = record {
    itself = subst (λ (m : ℕ). p < m) (sym (length-map (symbols_of f) (computed_symbol (symbols_of f)))) (slice_get_within (symbols_of f) p y there);
    section = λ place e. subst (λ (m : ℕ). place.0 < m) (sym (length-map (sections_of f) (stored_section (keys_of f))))
        (local_below f j place.0 place.1 y is
        (stored_place (symbols_of f) y.binding place (sym (ap (option_and_then (λ (z : Symbol). local_place z.binding)) (slice_get-map (computed_symbol (symbols_of f)) (symbols_of f) p ∙ ap (option_map (computed_symbol (symbols_of f))) there)) ∙ e)));
  }

  -- it takes no section
  less_there : (row : Row) → IsRow row → IsLessThere base.object (less_of row.taken 0)
  less_there row is = by row.taken is.alone
    where
      by : (t : Taken) → same_taken t TakesSection ≡ false → IsLessThere base.object (less_of t 0)
      by t e = grind arith

  -- a relocation can be added before any other
  can_base : (s at : ℕ) (m : Standing s at) → CanAdd base.object s at m.meant.reloc
  can_base s at m = record {
    section = stored_section (keys_of f) m.x;
    there = slice_get-map (stored_section (keys_of f)) (sections_of f) s ∙ ap (option_map (stored_section (keys_of f))) m.there;
    inside = subst (λ (b : Bool). at + bytes_of m.meant.reloc.form.width ≤ cond b 0 m.x.size) (sym stored) inside;
    target = target_there m.meant.reloc.target m.meant.aim;
    less = subst (IsLessThere base.object) (sym (ap (λ g. g.less) m.meant.form)) (less_there m.good.row (is_row f (reloc_of f m.x.number m.k) m.good.row m.good.listed));
  }
    where
      h : IsHere f s m.x
      h = section_here f s m.x m.there

      stored : is_zero m.x.kind ≡ false
      stored =
          ap is_zero (kind_here f s m.x h)
          ∙ stored_kind (section_name f (here f h.k)) (here f h.k).sh_type (here f h.k).sh_flags
          (ap (λ (i : ℕ). is_type SHT_NOBITS (header_at f.headers i)) (sym (number_here f s m.x h)) ∙ m.good.stored)

      inside : at + bytes_of m.meant.reloc.form.width ≤ m.x.size
      inside =
          let ends = m.good.inside in
          let offset : (reloc_of f m.x.number m.k).r_offset ≡ at = m.offset in
          let width : bytes_of m.meant.reloc.form.width ≡ bytes_of m.good.row.width = ap (λ g. bytes_of g.width) m.meant.form in
          let size : m.x.size ≡ (header_at f.headers m.x.number).sh_size = size_here f frame s m.x h ∙ ap (λ (i : ℕ). (header_at f.headers i).sh_size) (sym (number_here f s m.x h)) in
          omega (arith, ends, offset, width, size)

  -- so each that is given can
  pub addable : AreAddable base (given_at f keep)
  addable = record {
    dialect = elf_dialect f.class;
    file = f.file;
    keep = keep;
    start = started;
    apart = are_apart f keep frame clean base.object started.symbols;
    fit = differences_fit f keep frame clean base.object started.symbols;
    of_file = are_of_file f keep frame clean base.object started.symbols;
    can = λ s at r e. let m = given_standing f keep frame clean base.object started.symbols s at r e in subst (CanAdd base.object s at) (same_Some m.meant.reloc r (sym m.given ∙ e)) (can_base s at m);
  }
