-- The symbols of a canonical file are well formed.
use Rattle.std.proofs.Common.{◌≡◌, ℕ, zero, suc, ◌+◌, ◌<◌, inl, inr, Bool, true, false, not, ◌&&◌, ◌||◌, cond, List, [], ◌∷◌, ◌++◌, map, Option, Some, None, refl, sym, ◌∙◌, ap, subst, arith}
use Rattle.std.specs.{Prelude.{slice_get, nat_lt, bytes_eq, is_none, is_some}, Option.{option_map, option_map_or, option_flatten, unwrap_or}}
use Rattle.std.proofs.lemmas.{Bool.{cases_lt}, Bool.Decides.{nat_tests}, List.{length-map}, Option.{none-some, same_Some}}
use Rattle.oc_base.specs.declared.format.Word.{Word}
use Rattle.oc_linking.specs.FirstFault.{Condition}
use Rattle.oc_neutral.specs.{declared.symbol.Symbol.{Symbol}, Objects.{Object}}
use Rattle.oc_strings.specs.Repeats.{repeat_at}
use Rattle.oc_strings.specs.Repeats as repeats
use Rattle.oc_neutral.proofs.Positions.{there_at}
use Rattle.oc_shelf.proofs.{ReadingLaws.StageLemmas.{Unbroken, IsUnbroken, unbroken_append}, WritingLaws.MemberLemmas.{member_map}}
use Rattle.oc_macho.specs.{declared.constants.TheConstants.{N_SECT}, declared.nlist.Nlist.{Nlist}, Sections.{header_numbered}}
use Rattle.oc_macho.specs.{Symbols.{name_at, name_of, is_stab, is_type, is_external}, Tables.{Tables}}
use Rattle.oc_macho.specs.SymbolFaults.{is_odd, is_outside, public_name, public_names, kind_conditions, home_conditions, name_conditions, symbol_conditions, symbol_stage}
use Rattle.oc_macho_file.specs.{Addresses.{address_of}, Lines.{Line, OwnLine, LocalLine, OuterLine, lines_of}, Symbols.{line_entry, own_entry, symbol_entry}}
use Rattle.oc_macho_file.specs.Canonical.{section_header}
use Rattle.oc_macho_file.proofs.{TableLaws.{made_tables}, CodedLaws.{IsForMach, named}, LineLaws.{IsLine, line_at, one_outer}}
use Rattle.oc_macho_file.proofs.{NameLaws.{line_named, needed_low}, SectionLaws.{header_made}, SymbolLaws.{some_name, entry_read}}
use Rattle.oc_shows.proofs.FoundLaws.{no_repeat}

mapped_get : {X Y : Type 0} (f : X → Y) (xs : List X) (i : ℕ) → slice_get (map f xs) i ≡ option_map f (slice_get xs i)
mapped_get f [] i = refl
mapped_get f (x ∷ xs) zero = refl
mapped_get f (x ∷ xs) (suc i) = mapped_get f xs i

at_start : (a size : ℕ) → (nat_lt a a || nat_lt (a + size) a) ≡ false
at_start a size = grind (arith, nat_tests)

module _ (w : Word) (n : Object) (is : IsForMach w n) where
  abbrev t : Tables
  t = made_tables w n

  -- ... names

  -- the public name of an entry is that of a symbol that is not Local
  public_is : (i : ℕ) (name : List ℕ) → repeats.name_at (public_names t) i ≡ Some name
      → (k : ℕ) × (s : Symbol) × (slice_get (lines_of w n) i ≡ Some (OuterLine k s)) × (s.name ≡ name)
  unfolding made_tables line_entry
  public_is i name e =
      by (slice_get (lines_of w n) i) refl
      (sym (ap (λ o. option_flatten o) (mapped_get (public_name t) (map (line_entry w n) (lines_of w n)) i ∙ ap (option_map (public_name t)) (mapped_get (line_entry w n) (lines_of w n) i))) ∙ e)
    where
      shown_by : Nlist → Bool → Bool → Option (List ℕ)
      shown_by y stab external = cond (not stab && external) (Some (name_of t y)) None

      line : (x : Line) → slice_get (lines_of w n) i ≡ Some x → IsLine w n x → public_name t (line_entry w n x) ≡ Some name
          → (k : ℕ) × (s : Symbol) × (slice_get (lines_of w n) i ≡ Some (OuterLine k s)) × (s.name ≡ name)
      line (OwnLine k) here own g = absurd (none-some name g)
      line (LocalLine k s) here own g =
          let r = entry_read w n is k s own.0 s.binding refl in
          absurd (none-some name (sym (ap (λ b. cond (not b && is_external (symbol_entry w n s)) (Some (name_of t (symbol_entry w n s))) None) r.plain
          ∙ ap (λ b. cond b (Some (name_of t (symbol_entry w n s))) None) (r.external ∙ ap not own.1)) ∙ g))
      line (OuterLine k s) here own g =
          let r = entry_read w n is k s own.0 s.binding refl in
          let read : name_of t (symbol_entry w n s) ≡ s.name = ap (λ o. unwrap_or o []) (line_named w n is i (OuterLine k s) here) in (
            k,
            s,
            here,
            sym read ∙ same_Some (name_of t (symbol_entry w n s)) name (sym (ap (λ b. cond (not b && is_external (symbol_entry w n s)) (Some (name_of t (symbol_entry w n s))) None) r.plain
                ∙ ap (λ b. cond b (Some (name_of t (symbol_entry w n s))) None) (r.external ∙ ap not own.1)) ∙ g),
          )

      by : (o : Option Line) → slice_get (lines_of w n) i ≡ o → option_flatten (option_map (public_name t) (option_map (line_entry w n) o)) ≡ Some name
          → (k : ℕ) × (s : Symbol) × (slice_get (lines_of w n) i ≡ Some (OuterLine k s)) × (s.name ≡ name)
      by None h g = absurd (none-some name g)
      by (Some x) h g = line x h (line_at w n i x h) g

  -- no name stands twice
  no_duplicate : (i : ℕ) → is_some (repeat_at (public_names t) i) ≡ false
  no_duplicate i = no_repeat (public_names t) i differ
    where
      differ : (j : ℕ) (name : List ℕ) → j < i → repeats.name_at (public_names t) i ≡ Some name → repeats.name_at (public_names t) j ≡ Some name → ⊥
      differ j name low here there =
          let x = public_is i name here in
          let y = public_is j name there in
          let own = line_at w n i (OuterLine x.0 x.1) x.2 in
          let other = line_at w n j (OuterLine y.0 y.1) y.2 in
          let alike : x.1.name ≡ y.1.name = x.3 ∙ sym y.3 in
          elim (cases_lt x.0 y.0) [
            | inl l ↦ is.object.built.distinct x.0 y.0 x.1 y.1 l own.0 other.0 own.1 other.1 alike
            | inr high ↦ elim (cases_lt y.0 x.0) [
              | inl l ↦ is.object.built.distinct y.0 x.0 y.1 x.1 l other.0 own.0 other.1 own.1 (sym alike)
              | inr no_less ↦
                  let same : x.0 ≡ y.0 = omega (arith, high, no_less) in
                  let one = one_outer w n y.0 i j x.1 y.1 (x.2 ∙ ap (λ k. Some (OuterLine k x.1)) same) y.2 in
                  omega (arith, one, low)
            ]
          ]

  -- ... entries

  clean_by : (i : ℕ) (y : Nlist) (again : Bool) → is_none (name_at t y) ≡ false → is_odd y ≡ false → (is_type N_SECT y && is_none (header_numbered t y.n_sect)) ≡ false
      → (is_type N_SECT y && option_map_or (is_outside y) (header_numbered t y.n_sect) false) ≡ false → (is_external y && bytes_eq (name_of t y) []) ≡ false → again ≡ false
      → Unbroken (symbol_conditions t i y again)
  unfolding symbol_conditions
  clean_by i y again name odd home within empty twice =
      by (is_stab y) (kind_conditions t i y ++ (home_conditions t i y ++ name_conditions t i y again))
      (unbroken_append (kind_conditions t i y) (home_conditions t i y ++ name_conditions t i y again) (name, (odd, tt))
      (unbroken_append (home_conditions t i y) (name_conditions t i y again) (home, (within, tt)) (empty, (twice, tt))))
    where
      by : (b : Bool) (cs : List Condition) → Unbroken cs → Unbroken (cond b [] cs)
      by true cs u = tt
      by false cs u = u

  line_clean : (i : ℕ) (x : Line) → slice_get (lines_of w n) i ≡ Some x → IsLine w n x → (again : Bool) → again ≡ false → Unbroken (symbol_conditions t i (line_entry w n x) again)
  unfolding line_entry section_header
  line_clean i (OwnLine k) here own again twice =
      let s = there_at n.sections k (needed_low n own.1 k own.2) in
      let header = header_made w n k s.0 s.1 in
      clean_by i (own_entry w n k) again (ap is_none (line_named w n is i (OwnLine k) here)) refl
      (ap is_none header) (ap (λ o. option_map_or (is_outside (own_entry w n k)) o false) header ∙ at_start (address_of n k) s.0.size) refl twice
  line_clean i (LocalLine k s) here own again twice =
      let r = entry_read w n is k s own.0 s.binding refl in
      clean_by i (symbol_entry w n s) again (ap is_none (line_named w n is i (LocalLine k s) here)) r.known r.home r.within
      (ap (λ b. b && bytes_eq (name_of t (symbol_entry w n s)) []) (r.external ∙ ap not own.1)) twice
  line_clean i (OuterLine k s) here own again twice =
      let r = entry_read w n is k s own.0 s.binding refl in
      let read : name_of t (symbol_entry w n s) ≡ s.name = ap (λ o. unwrap_or o []) (line_named w n is i (OuterLine k s) here) in
      clean_by i (symbol_entry w n s) again (ap is_none (line_named w n is i (OuterLine k s) here)) r.known r.home r.within
      (ap (λ b. b && bytes_eq (name_of t (symbol_entry w n s)) []) (r.external ∙ ap not own.1) ∙ ap (λ m. bytes_eq m []) read ∙ some_name s.name (named w n is k s own.0)) twice

  pub symbols_clean : IsUnbroken (symbol_stage t)
  unfolding made_tables
  symbols_clean i low =
      let count = length-map (lines_of w n) (line_entry w n) in
      let x = there_at (lines_of w n) i (omega (arith, low, count)) in
      subst (λ o. Unbroken (option_map_or (λ s. symbol_conditions t i s (is_some (repeat_at (public_names t) i))) o [])) (sym (member_map (line_entry w n) (lines_of w n) i x.0 x.1))
      (line_clean i x.0 x.1 (line_at w n i x.0 x.1) (is_some (repeat_at (public_names t) i)) (no_duplicate i))
