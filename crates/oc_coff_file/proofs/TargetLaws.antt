-- The targets of a canonical file are those of its object.
use Rattle.oc_coff.specs.{Forms.{word_of}, declared.form.CoffForm.{CoffForm}, Entries.{entries_in, entry_numbered}, Sections.{sections_in}}
use Rattle.oc_coff.specs.{Symbols.{is_own, value_of, symbol_of}, Targets.{Aim, aim_at, aim_for, aim_in}}
use Rattle.std.proofs.Common.{◌≡◌, ℕ, ◌+◌, ◌<◌, ◌^◌, Bool, true, false, cond, List, length, Option, Some, None, refl, sym, ◌∙◌, ap, arith}
use Rattle.std.specs.{Prelude.{slice_get}, Option.{option_map, option_and_then}}
use Rattle.std.proofs.lemmas.{Bool.{le-leb}, Option.{slice_get_within}}
use Rattle.oc_linking.specs.declared.terms.Value.TheVariants as value
use Rattle.oc_linking.specs.declared.terms.Fallback.TheVariants as fallback
use Rattle.oc_linking.specs.{declared.terms.Binding.{Binding}, Parts.{is_local}, Rules.{Named, Symbolic}, Targets.{Target}}
use Rattle.oc_neutral.specs.{declared.section.Section.{Section}, declared.symbol.Symbol.{Symbol}, Objects.{Object}, Faces.{shown_binding, shown_symbol}}
use Rattle.oc_neutral.specs.TargetRelocations.{is_homeless}
use Rattle.oc_shows.specs.{Manners.{coff_manner}, RowFields.{place_target}, Seen.{seen_binding, seen_symbol}}
use Rattle.oc_shelf.specs.Writing.Parts.{Laid}
use Rattle.oc_made_files.proofs.MadeLaws.{named_by_symbol}
use Rattle.oc_coff_file.specs.Lines.{Line, SectionLine, OuterLine, numbered_lines, is_section_line, is_outer_line, section_number, outer_number}
use Rattle.oc_coff_file.specs.Canonical.{symbol_field, line_entry, string_table}
use Rattle.oc_coff_file.proofs.{TableLaws.{made_tables}, EntryLaws.{made_entry}, LineLaws.{section_found, outer_found}, CodedLaws.{IsForCoff, fewest}}
use Rattle.oc_coff_file.proofs.{SeenLaws.{shown, syms}, SymbolLaws.{AreTagged, S, E, entry_where, value_made, line_read}}

module _ (w : CoffForm) (n : Object) (is : IsForCoff w n) (tags_fit : AreTagged w n) (small : length (string_table w n) < 2 ^ 32)
    (sections : sections_in (made_tables w n) ≡ S w n is) (entries : entries_in (made_tables w n) ≡ E w n is) where
  abbrev lines : List (Laid Line)
  lines = numbered_lines w n

  -- a target by the sections and the symbols of the file
  aim_made : (j : ℕ) → aim_in (word_of w) (made_tables w n) j
      ≡ option_and_then (λ e. aim_for (word_of w) (S w n is) (E w n is) e (symbol_of (string_table w n) (S w n is) (E w n is) e)) (entry_numbered (E w n is) j)
  unfolding aim_in made_tables
  aim_made j =
      ap (λ xs. option_and_then (λ e. aim_for (word_of w) xs (entries_in (made_tables w n)) e (symbol_of (string_table w n) xs (entries_in (made_tables w n)) e)) (entry_numbered (entries_in (made_tables w n)) j)) sections
      ∙ ap (λ es. option_and_then (λ e. aim_for (word_of w) (S w n is) es e (symbol_of (string_table w n) (S w n is) es e)) (entry_numbered es j)) entries

  -- a section's own symbol
  own_section : (k : ℕ) (s : Section) (at : ℕ) → k < length n.sections → is_own (E w n is) (made_entry w n (record { at = at; part = SectionLine k s })) ≡ true
  own_section k s at low = let few = fewest w n is in rw (le-leb 1 (k + 1) (omega arith), le-leb (k + 1) 0x7FFFFFFF (omega (arith, low, few))) refl

  pub section_aim : (k : ℕ) (s : Section) → slice_get n.sections k ≡ Some s
      → aim_in (word_of w) (made_tables w n) (section_number lines k) ≡ Some (Some (record { target = place_target (word_of w) k 0; homeless = false }))
  section_aim k s here =
      let f = section_found w n k s here in
      let low : k < length n.sections = slice_get_within n.sections k s here in
      let l : Laid Line = record { at = f.one.at; part = SectionLine k s } in
      let there : slice_get lines f.index ≡ Some l = f.here ∙ ap (λ x. Some (record { at = f.one.at; part = x })) f.part in
      let nothing : symbol_of (string_table w n) (S w n is) (E w n is) (made_entry w n l) ≡ None = line_read w n is tags_fit small f.index f.one.at (SectionLine k s) there in
      let placed : value_of (S w n is) (line_entry w n (SectionLine k s)) ≡ Some (value.Place k 0)
      = value_made w n is (symbol_field w n s.name) (value.Place k 0) 0 3 1 (s, here, omega arith) in
      aim_made (section_number lines k)
      ∙ ap (option_and_then (λ e. aim_for (word_of w) (S w n is) (E w n is) e (symbol_of (string_table w n) (S w n is) (E w n is) e))) (entry_where w n is (is_section_line k) (SectionLine k s) f)
      ∙ ap (aim_for (word_of w) (S w n is) (E w n is) (made_entry w n l)) nothing
      ∙ ap (λ b. cond b (Some (option_and_then (aim_at (word_of w)) (value_of (S w n is) (line_entry w n (SectionLine k s))))) None) (own_section k s f.one.at low)
      ∙ ap (λ o. Some (option_and_then (aim_at (word_of w)) o)) placed

  -- the binding of a symbol, as it is seen
  abbrev seen_as : Binding → Binding
  seen_as b = shown_binding (syms n) (seen_binding coff_manner n (shown n) b)

  homeless_seen : (b : Binding) → is_homeless (seen_as b) ≡ is_homeless b
  homeless_seen b = grind arith

  -- a symbol that is not Local
  pub symbol_aim : (j : ℕ) (t : Symbol) → slice_get n.symbols j ≡ Some t → is_local t.binding ≡ false
      → aim_in (word_of w) (made_tables w n) (outer_number lines j)
      ≡ Some (Some (record { target = record { named = Symbolic (outer_number lines j); worth = λ p v. v (outer_number lines j) }; homeless = is_homeless t.binding }))
  symbol_aim j t here outer =
      let f = outer_found w n is.format j t here outer in
      let l : Laid Line = record { at = f.one.at; part = OuterLine j t } in
      let there : slice_get lines f.index ≡ Some l = f.here ∙ ap (λ x. Some (record { at = f.one.at; part = x })) f.part in
      let symbol : symbol_of (string_table w n) (S w n is) (E w n is) (made_entry w n l) ≡ Some (shown_symbol (syms n) (seen_symbol coff_manner n (shown n) f.one.at t))
      = line_read w n is tags_fit small f.index f.one.at (OuterLine j t) there in
      let made : ℕ → Option Named → Bool → Option (Option Aim) = λ number o homeless. Some (option_map (λ (u : Target). record { target = u; homeless = homeless }) (option_map (λ named. record { named = named; worth = λ p v. v number }) o)) in
      aim_made (outer_number lines j)
      ∙ ap (option_and_then (λ e. aim_for (word_of w) (S w n is) (E w n is) e (symbol_of (string_table w n) (S w n is) (E w n is) e))) (entry_where w n is (is_outer_line j) (OuterLine j t) f)
      ∙ ap (aim_for (word_of w) (S w n is) (E w n is) (made_entry w n l)) symbol
      ∙ ap (λ o. made f.one.at o (is_homeless (seen_as t.binding))) (named_by_symbol coff_manner n f.one.at t.binding outer)
      ∙ ap (made f.one.at (Some (Symbolic f.one.at))) (homeless_seen t.binding)
      ∙ ap (λ m. made m (Some (Symbolic m)) (is_homeless t.binding)) (sym f.place)
