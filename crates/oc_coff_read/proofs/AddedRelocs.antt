-- The relocations of a file without faults, added one after the other.
use Rattle.oc_coff.specs.{Files.{CoffFile, tables_in}, Tables.{SectionTable, Tables}, Entries.{entries_in}, RelocationFaults.{relocation_stage}}
use Rattle.oc_coff.specs.{Rules.{dialect_by}, Sections.{Carried, carried_in, carried_of, is_stored, kind_in, section_of, sections_in}}
use Rattle.oc_coff.specs.{SymbolFaults.{symbol_stage}, Symbols.{symbol_of, symbols_in}, Head.{IsHeaded}}
use Rattle.std.proofs.Common.{◌≡◌, ℕ, ◌+◌, ◌≤◌, Bool, true, false, cond, List, length, Option, None, Some, refl, sym, ◌∙◌, ap, subst, arith}
use Rattle.std.specs.{Prelude.{◌&&◌, not, nat_eq, slice_get}, Option.{option_map, option_and_then}}
use Rattle.std.proofs.lemmas.{Bool.{true≢false}, Option.{none-some, same_Some, slice_get-map, slice_get_within}}
use Rattle.oc_base.specs.declared.format.Word.{Word}
use Rattle.oc_linking.specs.{declared.terms.Binding.{Binding}, declared.terms.Binding.TheVariants.{Local}, declared.terms.Keep.{Keep}}
use Rattle.oc_linking.specs.{declared.terms.Kind.{Kind}, declared.terms.Kind.TheVariants.{Zero}, declared.terms.Less.{Less}, FirstFault.{stage_fault}}
use Rattle.oc_linking.specs.Fits.{bytes_of}
use Rattle.oc_linking.specs.declared.terms.Less.TheVariants as less
use Rattle.oc_linking.specs.declared.terms.Value.TheVariants as value
use Rattle.oc_linking.specs.Parts as parts
use Rattle.oc_neutral.specs.{declared.reloc.Reloc.{Reloc}, declared.reloc.Target.{Target}, declared.symbol.Symbol.{Symbol}, Building.{Draft, is_zero}}
use Rattle.oc_neutral.specs.{Invariants.{AreBytes, CanAdd, IsBinding, IsLessThere, IsTargetThere}, KindRules.{same_kind}}
use Rattle.oc_neutral.specs.Normal.{Place, local_place, place_among}
use Rattle.oc_neutral.specs.declared.reloc.Target.TheVariants as target
use Rattle.oc_shows.specs.{Built.{IsStarted}, Computed.{computed_symbol, placed_binding, position_of as symbol_place}, Started.{stored_section}}
use Rattle.oc_shelf.proofs.ReadingLaws.CollectedLemmas.{IsFrom, collected-from}
use Rattle.oc_coff_judge.specs.Led.{carried_at}
use Rattle.oc_coff_read.specs.{Built.{keys_of, symboled}, Given.{given_at}}
use Rattle.oc_coff_judge.proofs.{CollectLemmas.{carried_are}, NumberedSymbols.{IsCarried, carried_symbol, symbol_stands}}
use Rattle.oc_coff_read.proofs.{RowLemmas.{is_row, takes_none}, StandingFields.{IsStanding, are_apart, are_of_file, differences_fit, form_of, given_standing}}
use Rattle.oc_coff_read.proofs.WholeSymbols.{binding_there, symbols_same, value_there}
use Rattle.oc_shows.proofs.AddedLaws.{AreAddable}

-- ... sections

-- a carried section that has bytes in the file is not Zero
stored_kind : (t : Tables) (i : ℕ) (c : Carried) → carried_at t i ≡ Some c → c.stored ≡ true → is_zero c.section.kind ≡ false
unfolding carried_at carried_of
stored_kind t i c is = by (slice_get t.sections i) is
  where
    zero_by : (k : Kind) → (b : Bool) → (b && not (same_kind Zero k)) ≡ true → is_zero k ≡ false
    zero_by k b e = grind arith

    by : (o : Option SectionTable) → option_and_then (λ (x : SectionTable). carried_of t (i + 1, x)) o ≡ Some c → c.stored ≡ true → is_zero c.section.kind ≡ false
    by None h = absurd (none-some c h)
    by (Some x) h = kind (kind_in t.strings x.header) h
      where
        kind : (k : Option Kind)
            → option_map (λ kind. record { section = section_of t (i + 1) x kind; stored = is_stored (Some kind) x.header; relocs_at = x.relocs_at; relocs = x.relocs }) k ≡ Some c → c.stored ≡ true → is_zero c.section.kind ≡ false
        kind None h = absurd (none-some c h)
        kind (Some k) h =
            subst (λ (c : Carried). c.stored ≡ true → is_zero c.section.kind ≡ false)
            (same_Some (record { section = section_of t (i + 1) x k; stored = is_stored (Some k) x.header; relocs_at = x.relocs_at; relocs = x.relocs }) c h)
            (zero_by k (not (nat_eq x.header.PointerToRawData 0)))

pub stored_at : (t : Tables) (s : ℕ) (c : Carried) → slice_get (carried_in t) s ≡ Some c → c.stored ≡ true → is_zero c.section.kind ≡ false
stored_at t s c there = by (collected-from (carried_at t) (length t.sections) s c (sym (ap (λ (xs : List Carried). slice_get xs s) (carried_are t)) ∙ there))
  where
    by : IsFrom (carried_at t) (length t.sections) s c → c.stored ≡ true → is_zero c.section.kind ≡ false
    by m = stored_kind t m.k c m.is

-- a Local's place, in a binding as it is stored
stored_place : (all : List parts.Symbol) (b : Binding) (place : Place) → local_place (placed_binding all b) ≡ Some place → placed_binding all b ≡ Local (value.Place place.0 place.1)
stored_place all b place e = grind arith

module _ (w : Word) (file : CoffFile) (head : IsHeaded file) (bytes : AreBytes file.bytes) (keep : Keep) (symbols : stage_fault (symbol_stage (tables_in file)) ≡ None) (clean : stage_fault (relocation_stage w (tables_in file) keep) ≡ None) where
  abbrev t : Tables
  t = tables_in file

  abbrev pub base : Draft
  base = symboled w t (length (entries_in t))

  module _ (started : IsStarted (dialect_by w file.shape) file.bytes keep base) where
    abbrev pub Standing : ℕ → ℕ → Reloc → Type 0
    Standing s at r = IsStanding w file head keep base.object started.symbols clean s at r

    -- its target is there
    target_there : (s at : ℕ) (r : Reloc) (m : Standing s at r) (u : Target) → m.made.against.at ≡ u → IsTargetThere base.object u
    unfolding place_among
    target_there s at r m (target.Section k) same =
        let placed = m.made.against.place k same in
        let there = value_there w file head bytes symbols m.made.place m.made.symbol m.made.there (value.Place k placed.0) placed.1 in
        record { itself = slice_get_within base.object.sections k there.0 there.1; section = λ place e. absurd (none-some place e) }
    target_there s at r m (target.Symbol p) same = of (carried_symbol t m.made.symbol x.0 x.1)
      where
        x : (x : parts.Symbol) × (symbol_of t.strings (sections_in t) (entries_in t) m.made.symbol ≡ Some x) × (symbol_place (symbols_in t) x.number ≡ p)
        x = m.made.against.symbol p same

        stands : slice_get base.object.symbols p ≡ Some (computed_symbol (symbols_in t) x.0)
        stands =
            ap (λ (ss : List Symbol). slice_get ss p) (sym (symbols_same w file head bytes symbols))
            ∙ slice_get-map (computed_symbol (symbols_in t)) (symbols_in t) p
            ∙ ap (option_map (computed_symbol (symbols_in t))) (ap (slice_get (symbols_in t)) (sym x.2) ∙ symbol_stands file head m.made.place m.made.symbol x.0 m.made.there x.1)

        of : IsCarried t m.made.symbol x.0 → IsTargetThere base.object (target.Symbol p)
        of n = record {
          itself = slice_get_within base.object.symbols p (computed_symbol (symbols_in t) x.0) stands;
          section = λ place e.
              let local : placed_binding (symbols_in t) x.0.binding ≡ Local (value.Place place.0 place.1) = stored_place (symbols_in t) x.0.binding place (sym (ap (option_and_then (λ (z : Symbol). local_place z.binding)) stands) ∙ e) in
              let whole : IsBinding base.object (Local (value.Place place.0 place.1))
              = subst (IsBinding base.object) (ap (λ (y : parts.Symbol). placed_binding (symbols_in t) y.binding) n.is ∙ local) (binding_there w file head bytes symbols m.made.place m.made.symbol m.made.there n.binding n.bound) in
              slice_get_within base.object.sections place.0 whole.0 whole.1;
        }

    less_there : (l : Less) → ((k : ℕ) → l ≡ less.Section k → ⊥) → IsLessThere base.object l
    less_there l none = grind arith

    -- a relocation can be added before any other
    can_base : (s at : ℕ) (r : Reloc) (m : Standing s at r) → CanAdd base.object s at r
    can_base s at r m = record {
      section = stored_section (keys_of t) m.c.section;
      there = slice_get-map (stored_section (keys_of t)) (sections_in t) s
          ∙ ap (option_map (stored_section (keys_of t))) (slice_get-map (λ (c : Carried). c.section) (carried_in t) s ∙ ap (option_map (λ (c : Carried). c.section)) m.there);
      inside =
          subst (λ (b : Bool). at + bytes_of r.form.width ≤ cond b 0 m.c.section.size) (sym (stored_at t s m.c m.there m.good.stored))
          (let inside = m.good.inside in let offset = m.offset in let width = ap bytes_of (form_of w file head keep base.object started.symbols clean s at r m).0 in omega (arith, inside, offset, width));
      target = subst (λ (q : Reloc). IsTargetThere base.object q.target) m.made.against.is (target_there s at r m m.made.against.at refl);
      less = less_there r.form.less (λ k same. takes_none m.good.row s k (is_row w m.entry.Type m.good.row m.good.listed) (sym (form_of w file head keep base.object started.symbols clean s at r m).1 ∙ same));
    }

    -- so each that is given can
    pub addable : AreAddable base (given_at w t keep)
    addable = record {
      dialect = dialect_by w file.shape;
      file = file.bytes;
      keep = keep;
      start = started;
      apart = are_apart w file head keep base.object started.symbols clean;
      fit = differences_fit w file head keep base.object started.symbols clean;
      of_file = are_of_file w file head keep base.object started.symbols clean;
      can = λ s at r given. can_base s at r (given_standing w file head keep base.object started.symbols clean s at r given);
    }
