-- What is given are the fields of the module.
use Rattle.std.proofs.Common.{◌≡◌, ℕ, ◌+◌, ◌-◌, ◌⊎◌, inl, inr, Bool, true, false, cond, eqb, List, [], ◌∷◌, Option, None, Some, refl, sym, ◌∙◌, ap, subst, arith}
use Rattle.std.specs.{Prelude.{find, not, nat_eq, slice_get}, Option.{option_and_then, option_map, option_map_or, unwrap_or}}
use Rattle.std.proofs.lemmas.{Bool.{eqb-true, eq-eqb, true≢false}, Option.{none-some, same_Some, slice_get-map}}
use Rattle.oc_base.specs.declared.format.Word.TheVariants.{W32}
use Rattle.oc_linking.specs.{declared.terms.Keep.{Keep}, Keeping.{keeps}, Rules.{Field}, Targets.{symbol_target}, Values.{numbered}}
use Rattle.oc_linking.specs.Parts as parts
use Rattle.oc_linking.specs.Targets as file
use Rattle.oc_shows.specs.{Built.{IsField, IsFree, IsGiven}, Computed.{position_of}, RowFields.{IsTarget}, RowValues.{row_reloc}}
use Rattle.oc_neutral.specs.{declared.reloc.Reloc.{Reloc}, declared.reloc.Target.{Target}, Dialects.{is_kept, kept_fields}, Faces.{shown_symbols}}
use Rattle.oc_neutral.specs.{Normal.{place_among}, Objects.{Object}, Rows.{Row}}
use Rattle.oc_neutral.specs.declared.reloc.Target.TheVariants as target
use Rattle.oc_shows.proofs.RowFieldLaws.{rows_are_fields, symbol_is_target}
use Rattle.oc_omf.specs.{declared.structures.Method.{Method}, Entries.{entries_in}}
use Rattle.oc_omf.specs.{Fields.{added_at, field_by, field_of, fields_in, fixups_in, relocates, row_of}, Fixups.{Fixed}, Rules.{omf_dialect}}
use Rattle.oc_omf.specs.{Sections.{sections_in}, Structures.{External}, Symbols.{external_mention, number_of, symbols_in}, Tables.{indexed, tables_of}}
use Rattle.oc_omf.specs.Targets.{Meaning, external_at, meaning_of, section_target, target_of}
use Rattle.oc_omf_read.specs.Given.{given_at, is_kept_at, reloc_by, reloc_to}

-- ... symbols by their numbers

-- a symbol that is found by a number stands at the position of its own
pub number_stands : (ss : List parts.Symbol) (k : ℕ) (y : parts.Symbol) → numbered ss k ≡ Some y → (y.number ≡ k) × (slice_get ss (position_of ss y.number) ≡ Some y)
number_stands [] k y e = absurd (none-some y e)
number_stands (s ∷ ss) k y e = by (eqb s.number k) refl e (number_stands ss k y)
  where
    first : (s y : parts.Symbol) → s ≡ y → slice_get (s ∷ ss) (cond (not (nat_eq s.number y.number)) (1 + position_of ss y.number) 0) ≡ Some y
    first s y same =
        ap (λ b. slice_get (s ∷ ss) (cond (not b) (1 + position_of ss y.number) 0)) (eq-eqb s.number y.number (ap (λ (z : parts.Symbol). z.number) same)) ∙ ap (λ (z : parts.Symbol). Some z) same

    later : (b : Bool) → nat_eq s.number y.number ≡ b → b ≡ false → slice_get ss (position_of ss y.number) ≡ Some y → slice_get (s ∷ ss) (cond (not b) (1 + position_of ss y.number) 0) ≡ Some y
    later b e f there = grind arith

    by : (b : Bool) → eqb s.number k ≡ b → cond b (Some s) (numbered ss k) ≡ Some y → (numbered ss k ≡ Some y → (y.number ≡ k) × (slice_get ss (position_of ss y.number) ≡ Some y))
        → (y.number ≡ k) × (slice_get (s ∷ ss) (position_of (s ∷ ss) y.number) ≡ Some y)
    by true f h rest = let same = same_Some s y h in (ap (λ (z : parts.Symbol). z.number) (sym same) ∙ eqb-true s.number k f, first s y same)
    by false f h rest = let m = rest h in (m.0, later (nat_eq s.number y.number) refl (ap (nat_eq s.number) m.0 ∙ f) m.1)

-- ... fields

module _ (b : List ℕ) (keep : Keep) (n : Object) (shown : shown_symbols n ≡ omf_dialect.rules.symbols b keep) where
  abbrev m : Meaning
  m = meaning_of (entries_in b)

  -- a field and a relocation that is that field
  pub record IsBoth (s at : ℕ) (o : Option Field) (p : Option Reloc) : Type 0 where
    pub field : Field
    pub reloc : Reloc
    pub here : o ≡ Some field
    pub there : p ≡ Some reloc
    pub is : IsField omf_dialect b keep n s at reloc field

  -- neither is there, or both are
  abbrev Agree : ℕ → ℕ → Option Field → Option Reloc → Type 0
  Agree s at o p = (o ≡ None) × (p ≡ None) ⊎ IsBoth s at o p

  symbols_are : m.symbols ≡ symbols_in (entries_in b)
  unfolding meaning_of
  symbols_are = refl

  section_is : (k : ℕ) → IsTarget omf_dialect b keep n (target.Section k) (section_target k)
  unfolding place_among
  section_is k = record { named = refl; worth = λ p v fixed. refl }

  by_row : (s at : ℕ) (x : Fixed) (u : file.Target) (t : Target) → IsTarget omf_dialect b keep n t u → (o : Option Row)
      → Agree s at (option_map (field_of m s at x u) o) (option_and_then (λ (row : Row). option_map (row_reloc W32 row s (added_at m s at x row)) (Some t)) o)
  by_row s at x u t is None = inl (refl, refl)
  by_row s at x u t is (Some row) = inr (record {
    field = field_of m s at x u row;
    reloc = row_reloc W32 row s (added_at m s at x row) t;
    here = refl;
    there = refl;
    is = rows_are_fields omf_dialect b keep n s at row s (added_at m s at x row) t u is;
  })

  external_stands : (index : ℕ) (y : parts.Symbol) → external_at m index ≡ Some y → slice_get m.symbols (position_of m.symbols y.number) ≡ Some y
  external_stands index y e = by (indexed m.tables.externals index) e
    where
      by : (o : Option External) → option_and_then (λ x. numbered m.symbols (number_of m.mentions (external_mention x))) o ≡ Some y → slice_get m.symbols (position_of m.symbols y.number) ≡ Some y
      by None h = absurd (none-some y h)
      by (Some x) h = (number_stands m.symbols (number_of m.mentions (external_mention x)) y h).1

  by_external : (s at : ℕ) (x : Fixed) (index : ℕ) (o : Option parts.Symbol) → external_at m index ≡ o
      → Agree s at (option_and_then (λ (u : file.Target). option_map (field_of m s at x u) (row_of m x u)) (option_and_then symbol_target o))
      (option_and_then (λ (u : file.Target). option_and_then (λ (row : Row). option_map (row_reloc W32 row s (added_at m s at x row)) (option_map (λ (y : parts.Symbol). target.Symbol (position_of m.symbols y.number)) o)) (row_of m x u)) (option_and_then symbol_target o))
  by_external s at x index None e = inl (refl, refl)
  by_external s at x index (Some y) e = by (symbol_target y) refl
    where
      by : (v : Option file.Target) → symbol_target y ≡ v
          → Agree s at (option_and_then (λ (u : file.Target). option_map (field_of m s at x u) (row_of m x u)) v)
          (option_and_then (λ (u : file.Target). option_and_then (λ (row : Row). option_map (row_reloc W32 row s (added_at m s at x row)) (Some (target.Symbol (position_of m.symbols y.number)))) (row_of m x u)) v)
      by None h = inl (refl, refl)
      by (Some u) h = by_row s at x u (target.Symbol (position_of m.symbols y.number)) (symbol_is_target omf_dialect b keep n (position_of m.symbols y.number) y u shown (ap (λ (ss : List parts.Symbol). slice_get ss (position_of m.symbols y.number)) (sym symbols_are) ∙ external_stands index y e) h) (row_of m x u)

  by_method : (s at : ℕ) (x : Fixed) (method : Method) → Agree s at (option_and_then (λ (u : file.Target). option_map (field_of m s at x u) (row_of m x u)) (target_of m method)) (reloc_to m s at x method)
  by_method s at x method = by (nat_eq method.number 0) (nat_eq method.number 2)
    where
      by : (c d : Bool)
          → Agree s at (option_and_then (λ (u : file.Target). option_map (field_of m s at x u) (row_of m x u)) (cond c (Some (section_target (method.index - 1))) (cond d (option_and_then symbol_target (external_at m method.index)) None)))
          (option_and_then (λ (u : file.Target). option_and_then (λ (row : Row). option_map (row_reloc W32 row s (added_at m s at x row))
          (cond c (Some (target.Section (method.index - 1))) (cond d (option_map (λ (y : parts.Symbol). target.Symbol (position_of m.symbols y.number)) (external_at m method.index)) None))) (row_of m x u))
          (cond c (Some (section_target (method.index - 1))) (cond d (option_and_then symbol_target (external_at m method.index)) None)))
      by true d = by_row s at x (section_target (method.index - 1)) (target.Section (method.index - 1)) (section_is (method.index - 1)) (row_of m x (section_target (method.index - 1)))
      by false true = by_external s at x method.index (external_at m method.index) refl
      by false false = inl (refl, refl)

  by_fixup : (s at : ℕ) (x : Fixed) → Agree s at (field_by m s at x) (reloc_by m s at x)
  unfolding field_by reloc_by
  by_fixup s at x = by x.target
    where
      by : (o : Option Method) → Agree s at (option_and_then (λ (u : file.Target). option_map (field_of m s at x u) (row_of m x u)) (option_and_then (target_of m) o)) (option_and_then (reloc_to m s at x) o)
      by None = inl (refl, refl)
      by (Some method) = by_method s at x method

  by_place : (s at : ℕ) (o : Option Fixed) → Agree s at (option_and_then (field_by m s at) o) (option_and_then (reloc_by m s at) o)
  by_place s at None = inl (refl, refl)
  by_place s at (Some x) = by_fixup s at x

  -- whether the section at a position is kept
  pub flag : (s : ℕ) → is_kept omf_dialect b keep s ≡ is_kept_at (entries_in b) keep s
  flag s =
      ap (λ (o : Option Bool). unwrap_or o true) (slice_get-map (λ (x : parts.Section). keeps keep x.kind) (sections_in (tables_of (entries_in b))) s) ∙ by (slice_get (sections_in (tables_of (entries_in b))) s)
    where
      by : (o : Option parts.Section) → unwrap_or (option_map (λ (x : parts.Section). keeps keep x.kind) o) true ≡ option_map_or (λ (x : parts.Section). keeps keep x.kind) o true
      by o = grind arith

  whole : (s at : ℕ) → Agree s at (kept_fields omf_dialect b keep s at) (given_at (entries_in b) keep s at)
  unfolding fields_in given_at
  whole s at = subst (λ (k : Bool). Agree s at (cond k (option_and_then (field_by m s at) (find (relocates s at) (fixups_in (entries_in b)))) None) (cond (is_kept_at (entries_in b) keep s) (option_and_then (reloc_by m s at) (find (relocates s at) (fixups_in (entries_in b)))) None))
      (sym (flag s)) (by (is_kept_at (entries_in b) keep s))
    where
      by : (k : Bool) → Agree s at (cond k (option_and_then (field_by m s at) (find (relocates s at) (fixups_in (entries_in b)))) None) (cond k (option_and_then (reloc_by m s at) (find (relocates s at) (fixups_in (entries_in b)))) None)
      by true = by_place s at (find (relocates s at) (fixups_in (entries_in b)))
      by false = inl (refl, refl)

  -- each offset is free, or its field is given
  pub free_or_given : (s at : ℕ) → IsFree omf_dialect b keep (given_at (entries_in b) keep) s at ⊎ IsGiven omf_dialect b keep n (given_at (entries_in b) keep) s at
  free_or_given s at = by (whole s at)
    where
      by : Agree s at (kept_fields omf_dialect b keep s at) (given_at (entries_in b) keep s at)
          → IsFree omf_dialect b keep (given_at (entries_in b) keep) s at ⊎ IsGiven omf_dialect b keep n (given_at (entries_in b) keep) s at
      by (inl both) = inl (record { field = both.0; none = both.1 })
      by (inr m) = inr (record { field = m.field; reloc = m.reloc; here = m.here; there = m.there; is = m.is })
