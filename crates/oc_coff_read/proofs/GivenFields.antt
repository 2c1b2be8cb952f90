-- What is given at an offset is the field there.
use Rattle.oc_coff.specs.{Files.{CoffFile, tables_in}, declared.relocation.Relocation.{Relocation}, Entries.{Entry, entries_in, entry_numbered}}
use Rattle.oc_coff.specs.{Sections.{Carried, carried_in, sections_in}, Symbols.{is_own, symbol_of, symbols_in, value_of}}
use Rattle.oc_coff.specs.{Targets.{Aim, aim_at, aim_by, aim_for, aim_in, target_in}, Forms.{coff_format}}
use Rattle.oc_coff.specs.{Fields.{field_by, field_in, fields_in, relocates, says_nothing}, Rules.{dialect_by}, Head.{IsHeaded}}
use Rattle.std.proofs.Common.{◌≡◌, ℕ, ◌⊎◌, inl, inr, Bool, true, false, cond, ℤ, List, Option, None, Some, refl, sym, ◌∙◌, ap, subst, arith}
use Rattle.std.specs.{Prelude.{not, nat_eq, find, slice_get}, Option.{option_and_then, option_map, unwrap_or}}
use Rattle.std.proofs.lemmas.{Bool.{eqb-true, and_parts}, Option.{slice_get-map}}
use Rattle.oc_base.specs.declared.format.Word.{Word}
use Rattle.oc_linking.specs.{declared.terms.Keep.{Keep}, declared.terms.Value.{Value}, Keeping.{keeps}, Rules.{Field}, Targets.{symbol_target}}
use Rattle.oc_linking.specs.declared.terms.Value.TheVariants as value
use Rattle.oc_linking.specs.Parts as parts
use Rattle.oc_linking.specs.Targets as file
use Rattle.oc_neutral.specs.{declared.reloc.Reloc.{Reloc}, Dialects.{is_kept, kept_fields}, Faces.{shown_symbols}, Normal.{moved_addend}, Objects.{Object}}
use Rattle.oc_neutral.specs.{RelocTables.{row_of}, TargetRelocations.{is_homeless}, Rows.{Row}}
use Rattle.oc_neutral.specs.declared.reloc.Target.TheVariants as target
use Rattle.oc_shows.specs.{Built.{IsField, IsFree, IsGiven}, Computed.{position_of}, RowFields.{field_in_place, number_in, place_target, row_field}}
use Rattle.oc_shows.specs.RowValues.{row_reloc}
use Rattle.oc_shows.proofs.RowFieldLaws.{rows_are_fields, section_rows_are_fields, symbol_is_target}
use Rattle.oc_coff_read.specs.Given.{given_at, reloc_at, reloc_by, reloc_for, reloc_in, reloc_to, reloc_with}
use Rattle.oc_coff_judge.proofs.{EntryLemmas.{find_from}, NumberedSymbols.{symbol_stands}}

module _ (w : Word) (b : CoffFile) (head : IsHeaded b) (keep : Keep) (n : Object) (shown : shown_symbols n ≡ (dialect_by w b.shape).rules.symbols b.bytes keep) where
  -- a field and a relocation that is that field
  pub record IsBoth (s at : ℕ) (o : Option Field) (p : Option Reloc) : Type 0 where
    pub field : Field
    pub reloc : Reloc
    pub here : o ≡ Some field
    pub there : p ≡ Some reloc
    pub is : IsField (dialect_by w b.shape) b.bytes keep n s at reloc field

  -- neither is there, or both are
  abbrev Agree : ℕ → ℕ → Option Field → Option Reloc → Type 0
  Agree s at o p = (o ≡ None) × (p ≡ None) ⊎ IsBoth s at o p

  -- the target of what a symbol stands for
  abbrev target_for : Option (Option Aim) → Option file.Target
  target_for aim = option_map (λ (a : Aim). a.target) (option_and_then (λ aim. aim) aim)

  by_value : (row : Row) (s at : ℕ) (a : ℤ) (v : Option Value) → Agree s at (option_map (row_field w row s a s at) (target_for (Some (option_and_then (aim_at w) v)))) (option_and_then (reloc_at w row s a) v)
  by_value row s at a None = inl (refl, refl)
  by_value row s at a (Some (value.Absolute m)) = inl (refl, refl)
  by_value row s at a (Some (value.Place k offset)) = inr (record {
    field = row_field w row s a s at (place_target w k offset);
    reloc = row_reloc w row s (moved_addend row.base a offset) (target.Section k);
    here = refl;
    there = refl;
    is = section_rows_are_fields (dialect_by w b.shape) b.bytes keep n s at row s a k offset;
  })

  by_symbol : (row : Row) (s at : ℕ) (a : ℤ) (x : parts.Symbol) → slice_get ((dialect_by w b.shape).rules.symbols b.bytes keep) (position_of (symbols_in (tables_in b)) x.number) ≡ Some x
      → Agree s at (option_map (row_field w row s a s at) (target_for (Some (aim_by x)))) (reloc_to w (tables_in b) row s a x)
  by_symbol row s at a x stands = by (symbol_target x) refl
    where
      p : ℕ
      p = position_of (symbols_in (tables_in b)) x.number

      by : (u : Option file.Target) → symbol_target x ≡ u → Agree s at (option_map (row_field w row s a s at) (target_for (Some (aim_by x)))) (reloc_to w (tables_in b) row s a x)
      by None e = inl (
        ap (λ (u : Option file.Target). option_map (row_field w row s a s at) (target_for (Some (option_map (λ (u : file.Target). record { target = u; homeless = is_homeless x.binding }) u)))) e,
        ap (option_map (λ (u : file.Target). row_reloc w row s a (target.Symbol p))) e,
      )
      by (Some u) e = inr (record {
        field = row_field w row s a s at u;
        reloc = row_reloc w row s a (target.Symbol p);
        here = ap (λ (u : Option file.Target). option_map (row_field w row s a s at) (target_for (Some (option_map (λ (u : file.Target). record { target = u; homeless = is_homeless x.binding }) u)))) e;
        there = ap (option_map (λ (u : file.Target). row_reloc w row s a (target.Symbol p))) e;
        is = rows_are_fields (dialect_by w b.shape) b.bytes keep n s at row s a (target.Symbol p) u (symbol_is_target (dialect_by w b.shape) b.bytes keep n p x u shown stands e);
      })

  by_entry : (row : Row) (s at : ℕ) (a : ℤ) (k : ℕ) (e : Entry) → slice_get (entries_in (tables_in b)) k ≡ Some e → (o : Option parts.Symbol)
      → symbol_of (tables_in b).strings (sections_in (tables_in b)) (entries_in (tables_in b)) e ≡ o
      → Agree s at (option_map (row_field w row s a s at) (target_for (aim_for w (sections_in (tables_in b)) (entries_in (tables_in b)) e o))) (reloc_for w (tables_in b) row s a e o)
  by_entry row s at a k e there (Some x) is = by_symbol row s at a x (symbol_stands b head k e x there is)
  by_entry row s at a k e there None is = by (is_own (entries_in (tables_in b)) e)
    where
      v : Option Value
      v = value_of (sections_in (tables_in b)) e.symbol

      by : (c : Bool) → Agree s at (option_map (row_field w row s a s at) (target_for (cond c (Some (option_and_then (aim_at w) v)) None))) (cond c (option_and_then (reloc_at w row s a) v) None)
      by true = by_value row s at a v
      by false = inl (refl, refl)

  by_row : (s : ℕ) (contents : List ℕ) (r : Relocation) (row : Row)
      → Agree s r.VirtualAddress (option_map (field_in_place w row contents s r.VirtualAddress) (target_in w (tables_in b) r.SymbolTableIndex)) (reloc_with w (tables_in b) s contents r row)
  unfolding aim_in
  by_row s contents r row = by (entry_numbered (entries_in (tables_in b)) r.SymbolTableIndex) refl
    where
      a : ℤ
      a = number_in row contents r.VirtualAddress

      sym_of : Entry → Option parts.Symbol
      sym_of e = symbol_of (tables_in b).strings (sections_in (tables_in b)) (entries_in (tables_in b)) e

      by : (o : Option Entry) → entry_numbered (entries_in (tables_in b)) r.SymbolTableIndex ≡ o
          → Agree s r.VirtualAddress
          (option_map (row_field w row s a s r.VirtualAddress) (target_for (option_and_then (λ e. aim_for w (sections_in (tables_in b)) (entries_in (tables_in b)) e (sym_of e)) o)))
          (option_and_then (λ (e : Entry). reloc_for w (tables_in b) row s a e (sym_of e)) o)
      by None e = inl (refl, refl)
      by (Some x) e =
          let p = find_from (λ (y : Entry). nat_eq y.number r.SymbolTableIndex) (entries_in (tables_in b)) x e in
          by_entry row s r.VirtualAddress a p.place x p.there (sym_of x) refl

  by_type : (s : ℕ) (contents : List ℕ) (r : Relocation) → Agree s r.VirtualAddress (field_by w (target_in w (tables_in b)) s contents r) (reloc_by w (tables_in b) s contents r)
  unfolding field_by reloc_by
  by_type s contents r = by (row_of (coff_format w) r.Type)
    where
      by : (o : Option Row)
          → Agree s r.VirtualAddress (option_and_then (λ (row : Row). option_map (field_in_place w row contents s r.VirtualAddress) (target_in w (tables_in b) r.SymbolTableIndex)) o)
          (option_and_then (reloc_with w (tables_in b) s contents r) o)
      by None = inl (refl, refl)
      by (Some row) = by_row s contents r row

  by_section : (s at : ℕ) (c : Carried) → Agree s at (field_in w (target_in w (tables_in b)) s at c) (reloc_in w (tables_in b) s at c)
  by_section s at c = by (find (relocates at) c.relocs) refl
    where
      by : (o : Option Relocation) → find (relocates at) c.relocs ≡ o
          → Agree s at (option_and_then (field_by w (target_in w (tables_in b)) s c.section.contents) o) (option_and_then (reloc_by w (tables_in b) s c.section.contents) o)
      by None e = inl (refl, refl)
      by (Some r) e =
          let p = find_from (relocates at) c.relocs r e in
          let same : r.VirtualAddress ≡ at = eqb-true r.VirtualAddress at (and_parts (nat_eq r.VirtualAddress at) (not (says_nothing r)) p.passes).0 in
          subst (λ (x : ℕ). Agree s x (field_by w (target_in w (tables_in b)) s c.section.contents r) (reloc_by w (tables_in b) s c.section.contents r)) same (by_type s c.section.contents r)

  -- whether the section at a position is kept
  pub flag : (s : ℕ) (c : Carried) → slice_get (carried_in (tables_in b)) s ≡ Some c → is_kept (dialect_by w b.shape) b.bytes keep s ≡ keeps keep c.section.kind
  flag s c here =
      ap (λ (o : Option Bool). unwrap_or o true)
      (slice_get-map (λ (x : parts.Section). keeps keep x.kind) (sections_in (tables_in b)) s
      ∙ ap (option_map (λ (x : parts.Section). keeps keep x.kind)) (slice_get-map (λ (c : Carried). c.section) (carried_in (tables_in b)) s ∙ ap (option_map (λ (c : Carried). c.section)) here))

  whole : (s at : ℕ) → Agree s at (kept_fields (dialect_by w b.shape) b.bytes keep s at) (given_at w (tables_in b) keep s at)
  unfolding fields_in given_at
  whole s at = by (slice_get (carried_in (tables_in b)) s) refl
    where
      kept : (k : Bool) (c : Carried) → Agree s at (cond k (field_in w (target_in w (tables_in b)) s at c) None) (cond k (reloc_in w (tables_in b) s at c) None)
      kept true c = by_section s at c
      kept false c = inl (refl, refl)

      none : (k : Bool) (o : Option Field) → o ≡ None → cond k o None ≡ None
      none k o e = grind arith

      by : (o : Option Carried) → slice_get (carried_in (tables_in b)) s ≡ o
          → Agree s at (cond (is_kept (dialect_by w b.shape) b.bytes keep s) (option_and_then (field_in w (target_in w (tables_in b)) s at) o) None)
          (option_and_then (λ (c : Carried). cond (keeps keep c.section.kind) (reloc_in w (tables_in b) s at c) None) o)
      by None e = inl (none (is_kept (dialect_by w b.shape) b.bytes keep s) (option_and_then (field_in w (target_in w (tables_in b)) s at) None) refl, refl)
      by (Some c) e =
          subst (λ (k : Bool). Agree s at (cond k (field_in w (target_in w (tables_in b)) s at c) None) (cond (keeps keep c.section.kind) (reloc_in w (tables_in b) s at c) None)) (sym (flag s c e))
          (kept (keeps keep c.section.kind) c)

  -- each offset is free, or its field is given
  pub free_or_given : (s at : ℕ) → IsFree (dialect_by w b.shape) b.bytes keep (given_at w (tables_in b) keep) s at ⊎ IsGiven (dialect_by w b.shape) b.bytes keep n (given_at w (tables_in b) keep) s at
  free_or_given s at = by (whole s at)
    where
      by : Agree s at (kept_fields (dialect_by w b.shape) b.bytes keep s at) (given_at w (tables_in b) keep s at)
          → IsFree (dialect_by w b.shape) b.bytes keep (given_at w (tables_in b) keep) s at ⊎ IsGiven (dialect_by w b.shape) b.bytes keep n (given_at w (tables_in b) keep) s at
      by (inl both) = inl (record { field = both.0; none = both.1 })
      by (inr m) = inr (record { field = m.field; reloc = m.reloc; here = m.here; there = m.there; is = m.is })
