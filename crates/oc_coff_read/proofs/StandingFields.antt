-- The fields of a file without faults, each with the relocation that is given for it.
use Rattle.oc_coff.specs.{Files.{CoffFile, tables_in}, declared.relocation.Relocation.{Relocation}, Entries.{Entry, entries_in, entry_numbered}}
use Rattle.oc_coff.specs.{Sections.{Carried, carried_in, sections_in}, Symbols.{is_own, symbol_of, symbols_in, value_of}, Targets.{Aim, target_in}}
use Rattle.oc_coff.specs.{Forms.{coff_format}, Fields.{field_by, field_in, fields_in, relocates, says_nothing}, RelocationFaults.{relocation_stage}}
use Rattle.oc_coff.specs.{Rules.{dialect_by}, Head.{IsHeaded}}
use Rattle.std.proofs.Common.{◌≡◌, ℕ, ◌+◌, ◌≤◌, Bool, true, false, cond, ℤ, List, Option, None, Some, refl, sym, ◌∙◌, ap, subst, arith}
use Rattle.std.specs.{Prelude.{find, slice_get}, Option.{option_map, option_and_then}}
use Rattle.std.proofs.lemmas.Option.{none-some, same_Some}
use Rattle.oc_base.specs.declared.format.Word.{Word}
use Rattle.oc_linking.specs.{declared.terms.Keep.{Keep}, declared.terms.Value.{Value}, FirstFault.{stage_fault}, Fits.{bytes_of}, Keeping.{keeps}}
use Rattle.oc_linking.specs.{Rules.{Field}, Targets.{symbol_target}}
use Rattle.oc_linking.specs.declared.terms.Value.TheVariants as value
use Rattle.oc_linking.specs.Parts as parts
use Rattle.oc_linking.specs.Targets as file
use Rattle.oc_neutral.specs.{declared.reloc.Reloc.{Reloc}, declared.reloc.Target.{Target}, Dialects.{kept_fields}, Faces.{shown_symbols}, Normal.{moved_addend}}
use Rattle.oc_neutral.specs.{Objects.{Object}, RelocTables.{row_of}, Rows.{Row, less_of}}
use Rattle.oc_neutral.specs.declared.reloc.Target.TheVariants as target
use Rattle.oc_shows.specs.{Built.{AreApart, AreOfFile, DifferencesFit, IsField}, Computed.{position_of}, RowFields.{field_in_place, number_in}}
use Rattle.oc_shows.specs.RowValues.{row_reloc}
use Rattle.oc_coff_read.specs.Given.{given_at, reloc_at, reloc_by, reloc_for, reloc_in, reloc_to, reloc_with}
use Rattle.oc_coff_judge.proofs.EntryLemmas.{find_from}
use Rattle.oc_coff_read.proofs.{FoundEntries.{IsGood, apart_at, first_is, found_at, good_entry}, GivenFields.{flag, free_or_given}}
use Rattle.oc_coff_read.proofs.RowLemmas.{is_row, takes_none}
use Rattle.oc_shows.proofs.GivenLaws as laws

module _ (w : Word) (b : CoffFile) (head : IsHeaded b) (keep : Keep) (n : Object) (shown : shown_symbols n ≡ (dialect_by w b.shape).rules.symbols b.bytes keep) (clean : stage_fault (relocation_stage w (tables_in b) keep) ≡ None) where
  -- ... targets

  -- what a relocation is against: a section of a place, or a carried symbol
  pub record IsAgainst (row : Row) (s : ℕ) (e : Entry) (r : Reloc) : Type 0 where
    pub a : ℤ
    pub at : Target
    pub is : row_reloc w row s a at ≡ r
    pub place : (k : ℕ) → at ≡ target.Section k → (offset : ℕ) × (value_of (sections_in (tables_in b)) e.symbol ≡ Some (value.Place k offset))
    pub symbol : (p : ℕ) → at ≡ target.Symbol p → (x : parts.Symbol) × (symbol_of (tables_in b).strings (sections_in (tables_in b)) (entries_in (tables_in b)) e ≡ Some x) × (position_of (symbols_in (tables_in b)) x.number ≡ p)

  same_section : (k j : ℕ) → target.Section k ≡ target.Section j → k ≡ j
  same_section k j e = cc

  same_symbol : (k j : ℕ) → target.Symbol k ≡ target.Symbol j → k ≡ j
  same_symbol k j e = cc

  by_value : (row : Row) (s : ℕ) (a : ℤ) (e : Entry) (v : Option Value) → value_of (sections_in (tables_in b)) e.symbol ≡ v → (r : Reloc) → option_and_then (reloc_at w row s a) v ≡ Some r → IsAgainst row s e r
  by_value row s a e None g r h = absurd (none-some r h)
  by_value row s a e (Some (value.Absolute m)) g r h = absurd (none-some r h)
  by_value row s a e (Some (value.Place k offset)) g r h = record {
    a = moved_addend row.base a offset;
    at = target.Section k;
    is = same_Some (row_reloc w row s (moved_addend row.base a offset) (target.Section k)) r h;
    place = λ j same. (offset, g ∙ ap (λ (q : ℕ). Some (value.Place q offset)) (same_section k j same));
    symbol = λ p same. absurd (cc);
  }

  by_symbol : (row : Row) (s : ℕ) (a : ℤ) (e : Entry) (x : parts.Symbol) → symbol_of (tables_in b).strings (sections_in (tables_in b)) (entries_in (tables_in b)) e ≡ Some x → (r : Reloc) → reloc_to w (tables_in b) row s a x ≡ Some r → IsAgainst row s e r
  by_symbol row s a e x is r h = by (symbol_target x) h
    where
      by : (u : Option file.Target) → option_map (λ (u : file.Target). row_reloc w row s a (target.Symbol (position_of (symbols_in (tables_in b)) x.number))) u ≡ Some r → IsAgainst row s e r
      by None h = absurd (none-some r h)
      by (Some u) h = record {
        a = a;
        at = target.Symbol (position_of (symbols_in (tables_in b)) x.number);
        is = same_Some (row_reloc w row s a (target.Symbol (position_of (symbols_in (tables_in b)) x.number))) r h;
        place = λ k same. absurd (cc);
        symbol = λ p same. (x, is, same_symbol (position_of (symbols_in (tables_in b)) x.number) p same);
      }

  by_entry : (row : Row) (s : ℕ) (a : ℤ) (e : Entry) (o : Option parts.Symbol) → symbol_of (tables_in b).strings (sections_in (tables_in b)) (entries_in (tables_in b)) e ≡ o → (r : Reloc) → reloc_for w (tables_in b) row s a e o ≡ Some r → IsAgainst row s e r
  by_entry row s a e (Some x) is r h = by_symbol row s a e x is r h
  by_entry row s a e None is r h = by (is_own (entries_in (tables_in b)) e) h
    where
      by : (c : Bool) → cond c (option_and_then (reloc_at w row s a) (value_of (sections_in (tables_in b)) e.symbol)) None ≡ Some r → IsAgainst row s e r
      by c h = grind arith

  -- the entry of its symbol
  pub record IsMade (s : ℕ) (entry : Relocation) (row : Row) (r : Reloc) : Type 0 where
    pub place : ℕ
    pub symbol : Entry
    pub there : slice_get (entries_in (tables_in b)) place ≡ Some symbol
    pub against : IsAgainst row s symbol r

  made_with : (s : ℕ) (contents : List ℕ) (entry : Relocation) (row : Row) (r : Reloc) → reloc_with w (tables_in b) s contents entry row ≡ Some r → IsMade s entry row r
  made_with s contents entry row r h = by (entry_numbered (entries_in (tables_in b)) entry.SymbolTableIndex) refl h
    where
      by : (o : Option Entry) → entry_numbered (entries_in (tables_in b)) entry.SymbolTableIndex ≡ o
          → option_and_then (λ (e : Entry). reloc_for w (tables_in b) row s (number_in row contents entry.VirtualAddress) e (symbol_of (tables_in b).strings (sections_in (tables_in b)) (entries_in (tables_in b)) e)) o ≡ Some r
          → IsMade s entry row r
      by None e h = absurd (none-some r h)
      by (Some x) e h =
          let m = find_from _ (entries_in (tables_in b)) x e in
          record { place = m.place; symbol = x; there = m.there; against = by_entry row s (number_in row contents entry.VirtualAddress) x (symbol_of (tables_in b).strings (sections_in (tables_in b)) (entries_in (tables_in b)) x) refl r h }

  made_by : (s : ℕ) (contents : List ℕ) (entry : Relocation) (row : Row) (r : Reloc) → row_of (coff_format w) entry.Type ≡ Some row → reloc_by w (tables_in b) s contents entry ≡ Some r → IsMade s entry row r
  unfolding reloc_by
  made_by s contents entry row r listed h =
      made_with s contents entry row r (sym (ap (option_and_then (reloc_with w (tables_in b) s contents entry)) listed) ∙ h)

  -- ... entries

  -- an entry stands at an offset of the section at position s, and that is given for it
  pub record IsStanding (s at : ℕ) (r : Reloc) : Type 0 where
    pub c : Carried
    pub there : slice_get (carried_in (tables_in b)) s ≡ Some c
    pub kept : keeps keep c.section.kind ≡ true
    pub k : ℕ
    pub entry : Relocation
    pub here : slice_get c.relocs k ≡ Some entry
    pub busy : says_nothing entry ≡ false
    pub offset : entry.VirtualAddress ≡ at
    pub good : IsGood w (tables_in b) c k entry
    pub by : reloc_by w (tables_in b) s c.section.contents entry ≡ Some r
    pub made : IsMade s entry good.row r

  pub given_standing : (s at : ℕ) (r : Reloc) → given_at w (tables_in b) keep s at ≡ Some r → IsStanding s at r
  unfolding given_at
  given_standing s at r e = by (slice_get (carried_in (tables_in b)) s) refl e
    where
      by : (o : Option Carried) → slice_get (carried_in (tables_in b)) s ≡ o → option_and_then (λ (c : Carried). cond (keeps keep c.section.kind) (reloc_in w (tables_in b) s at c) None) o ≡ Some r → IsStanding s at r
      by None g h = absurd (none-some r h)
      by (Some c) g h = kept (keeps keep c.section.kind) refl h
        where
          kept : (a : Bool) → keeps keep c.section.kind ≡ a → cond a (reloc_in w (tables_in b) s at c) None ≡ Some r → IsStanding s at r
          kept false i h = absurd (none-some r h)
          kept true i h = found (find (relocates at) c.relocs) refl h
            where
              found : (o : Option Relocation) → find (relocates at) c.relocs ≡ o → option_and_then (reloc_by w (tables_in b) s c.section.contents) o ≡ Some r → IsStanding s at r
              found None j h = absurd (none-some r h)
              found (Some x) j h =
                  let m = found_at w (tables_in b) keep clean s c g i at x j in
                  let good = good_entry w (tables_in b) keep clean s c g i m.k x m.here m.busy in
                  record { c = c; there = g; kept = i; k = m.k; entry = x; here = m.here; busy = m.busy; offset = m.offset; good = good; by = h; made = made_by s c.section.contents x good.row r good.listed h }

  -- the form of what is given is that of the row
  pub form_of : (s at : ℕ) (r : Reloc) (m : IsStanding s at r) → (r.form.width ≡ m.good.row.width) × (r.form.less ≡ less_of m.good.row.taken s) × (r.hint ≡ m.good.row.hint)
  form_of s at r m = let same = sym m.made.against.is in (ap (λ (q : Reloc). q.form.width) same, ap (λ (q : Reloc). q.form.less) same, ap (λ (q : Reloc). q.hint) same)

  -- what is given is a field
  pub are_of_file : AreOfFile (dialect_by w b.shape) b.bytes keep n (given_at w (tables_in b) keep)
  are_of_file = laws.are_of_file (dialect_by w b.shape) b.bytes keep n (given_at w (tables_in b) keep) (free_or_given w b head keep n shown)

  -- each field is given
  field_given : (s at : ℕ) (x : Field) → kept_fields (dialect_by w b.shape) b.bytes keep s at ≡ Some x → (r : Reloc) × (given_at w (tables_in b) keep s at ≡ Some r) × IsField (dialect_by w b.shape) b.bytes keep n s at r x
  field_given = laws.field_given (dialect_by w b.shape) b.bytes keep n (given_at w (tables_in b) keep) (free_or_given w b head keep n shown)

  -- an entry that says something has a field
  pub entry_given : (s : ℕ) (c : Carried) → slice_get (carried_in (tables_in b)) s ≡ Some c → keeps keep c.section.kind ≡ true → (k : ℕ) (entry : Relocation) → slice_get c.relocs k ≡ Some entry → says_nothing entry ≡ false
      → (r : Reloc) × (given_at w (tables_in b) keep s entry.VirtualAddress ≡ Some r)
  unfolding fields_in field_by
  entry_given s c there kept k entry here busy =
      let good = good_entry w (tables_in b) keep clean s c there kept k entry here busy in
      let x : Field = field_in_place w good.row c.section.contents s entry.VirtualAddress good.aim.target in
      let is : kept_fields (dialect_by w b.shape) b.bytes keep s entry.VirtualAddress ≡ Some x
      = ap (λ (a : Bool). cond a (fields_in w (tables_in b) s entry.VirtualAddress) None) (flag w b head keep n shown s c there ∙ kept)
      ∙ ap (option_and_then (field_in w (target_in w (tables_in b)) s entry.VirtualAddress)) there
      ∙ ap (option_and_then (field_by w (target_in w (tables_in b)) s c.section.contents)) (first_is w (tables_in b) keep clean s c there kept k entry here busy)
      ∙ ap (option_and_then (λ (row : Row). option_map (field_in_place w row c.section.contents s entry.VirtualAddress) (target_in w (tables_in b) entry.SymbolTableIndex))) good.listed
      ∙ ap (λ (o : Option (Option Aim)). option_map (field_in_place w good.row c.section.contents s entry.VirtualAddress) (option_map (λ (a : Aim). a.target) (option_and_then (λ aim. aim) o))) good.aimed in
      let m = field_given s entry.VirtualAddress x is in (m.0, m.1)

  -- ... all

  -- no two fields meet
  pub are_apart : AreApart (dialect_by w b.shape) b.bytes keep
  are_apart s i j x y at_i at_j less = by (field_given s i x at_i) (field_given s j y at_j)
    where
      by : (r : Reloc) × (given_at w (tables_in b) keep s i ≡ Some r) × IsField (dialect_by w b.shape) b.bytes keep n s i r x → (r : Reloc) × (given_at w (tables_in b) keep s j ≡ Some r) × IsField (dialect_by w b.shape) b.bytes keep n s j r y
          → i + bytes_of x.width ≤ j
      by p q = of (given_standing s i p.0 p.1) (given_standing s j q.0 q.1)
        where
          of : IsStanding s i p.0 → IsStanding s j q.0 → i + bytes_of x.width ≤ j
          of a d =
              let one : d.c ≡ a.c = same_Some d.c a.c (sym d.there ∙ a.there) in
              let here : slice_get a.c.relocs d.k ≡ Some d.entry = subst (λ (c : Carried). slice_get c.relocs d.k ≡ Some d.entry) one d.here in
              let good = good_entry w (tables_in b) keep clean s a.c a.there a.kept d.k d.entry here d.busy in
              let first = a.offset in
              let second = d.offset in
              let ends = apart_at w (tables_in b) keep clean s a.c a.there a.kept a.k d.k a.entry d.entry a.good good a.here here (omega (arith, first, second, less)) in
              let width : bytes_of x.width ≡ bytes_of a.good.row.width = ap bytes_of (sym p.2.width ∙ (form_of s i p.0 a).0) in
              omega (arith, ends, first, second, width)

  -- none is a difference
  pub differences_fit : DifferencesFit (dialect_by w b.shape) b.bytes keep
  differences_fit =
      laws.differences_fit (dialect_by w b.shape) b.bytes keep n (given_at w (tables_in b) keep) (free_or_given w b head keep n shown)
      (λ s at r e k same. let m = given_standing s at r e in takes_none m.good.row s k (is_row w m.entry.Type m.good.row m.good.listed) (sym (form_of s at r m).1 ∙ same))
