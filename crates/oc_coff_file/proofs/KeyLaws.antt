-- The keys of groups are read in a canonical file.
use Rattle.std.proofs.Common.{◌≡◌, ℕ, ◌+◌, ◌-◌, ◌<◌, ◌^◌, Bool, true, false, cond, eqb, List, [], length, map, Option, Some, None, refl, sym, ◌∙◌, ap, arith}
use Rattle.std.specs.{Prelude.{slice_get, nat_eq}, List.{enumerate_from}, Option.{option_map, option_map_or, option_and_then, unwrap_or, is_some}}
use Rattle.std.proofs.lemmas.{Bool.{ne_eqb}, Option.{same_Some, slice_get_within}}
use Rattle.oc_coff.specs.declared.form.CoffForm.{CoffForm}
use Rattle.oc_coff.specs.declared.constants.TheConstants.{IMAGE_COMDAT_SELECT_ANY, IMAGE_COMDAT_SELECT_ASSOCIATIVE, IMAGE_SYM_CLASS_EXTERNAL}
use Rattle.oc_coff.specs.{Tables.{SectionTable}, Entries.{Entry, entries_in, name_of, is_class}}
use Rattle.oc_coff.specs.Comdat.{section_numbered, is_comdat, symbols_of, own_definition, definition_of, definition_in, selects, key_symbol, led_key, key_by, key_in}
use Rattle.oc_coff.specs.{Values.{class_by}, Forms.{shape_of}, SectionAux.{section_aux_numbers}}
use Rattle.oc_linking.specs.Parts.{is_local}
use Rattle.oc_neutral.specs.{declared.section.Section.{Section}, declared.symbol.Symbol.{Symbol}, Objects.{Object}, Faces.{key_of}}
use Rattle.oc_shelf.proofs.{WritingLaws.MemberLemmas.{member_map, member_enumerated}, WritingLaws.PackedLemmas.{Fit}}
use Rattle.oc_coff_file.specs.{Lines.{OuterLine, numbered_lines}, Bodies.{relocs_of}}
use Rattle.oc_coff_file.specs.Canonical.{leads, leader_number, selection_of, kept_with, header_at, section_aux, string_table}
use Rattle.oc_coff_file.proofs.{TableLaws.{made_table, made_tables}, EntryLaws.{made_entry, section_said}, NameLaws.{symbol_named}}
use Rattle.oc_coff_file.proofs.{CodedLaws.{IsForCoff, coded_section, outer_coded, fewest}, SectionLaws.{flags_say, AreGrouped}}
use Rattle.oc_coff_file.proofs.GroupLaws.{IsKeyOf, leader_of, BeginsWith, first_symbols, IsSecond, second_symbol}

module _ (w : CoffForm) (n : Object) (is : IsForCoff w n) (small : length (string_table w n) < 2 ^ 32)
    (entries : entries_in (made_tables w n) ≡ map (made_entry w n) (numbered_lines w n))
    (fit : (k : ℕ) (s : Section) → slice_get n.sections k ≡ Some s → Fit (section_aux_numbers (shape_of w) (section_aux w n k s))) where
  abbrev E : List Entry
  E = map (made_entry w n) (numbered_lines w n)

  -- the section of a number
  pub numbered_section : (k : ℕ) (s : Section) → slice_get n.sections k ≡ Some s → section_numbered (made_tables w n) (k + 1) ≡ Some (made_table w n (k, s))
  unfolding made_tables
  numbered_section k s here =
      let e : 0 + k ≡ k = omega arith in
      let back : k + 1 - 1 ≡ k = omega arith in
      ap (λ b. cond b None (slice_get (map (made_table w n) (enumerate_from 0 n.sections)) (k + 1 - 1))) (ne_eqb (k + 1) 0 (omega arith))
      ∙ ap (slice_get (map (made_table w n) (enumerate_from 0 n.sections))) back
      ∙ member_map (made_table w n) (enumerate_from 0 n.sections) k (0 + k, s) (member_enumerated 0 n.sections k s here)
      ∙ ap (λ i. Some (made_table w n (i, s))) e

  pub comdat_header : (k : ℕ) (s : Section) → slice_get n.sections k ≡ Some s → is_comdat (header_at w n (k, s)) ≡ is_some s.group
  unfolding header_at
  comdat_header k s here = (flags_say w n s (relocs_of w (numbered_lines w n) n k) (coded_section w n is k s here)).comdat

  begins : (k : ℕ) (s : Section) → slice_get n.sections k ≡ Some s → BeginsWith w n k s (symbols_of E (k + 1))
  begins k s here = first_symbols w n k s here (fewest w n is)

  own_read : (k : ℕ) (s : Section) → slice_get n.sections k ≡ Some s → definition_of E (k + 1) ≡ Some (section_aux w n k s)
  own_read k s here =
      ap (λ es. option_and_then own_definition (slice_get es 0)) (begins k s here).is
      ∙ ap Some (section_said w n k s (fit k s here))

  -- what a section's own symbol says, where it is in a group
  pub definition_made : (k : ℕ) (s : Section) → slice_get n.sections k ≡ Some s → definition_in (made_tables w n) (k + 1) ≡ cond (is_some s.group) (Some (section_aux w n k s)) None
  unfolding definition_in
  definition_made k s here =
      ap (λ o. cond (option_map_or (λ (x : SectionTable). is_comdat x.header) o false) (definition_of (entries_in (made_tables w n)) (k + 1)) None) (numbered_section k s here)
      ∙ ap (λ b. cond b (definition_of (entries_in (made_tables w n)) (k + 1)) None) (comdat_header k s here)
      ∙ ap (λ o. cond (is_some s.group) o None) (ap (λ es. definition_of es (k + 1)) entries ∙ own_read k s here)

  pub definition_some : (k : ℕ) (s : Section) (g : ℕ) → slice_get n.sections k ≡ Some s → s.group ≡ Some g → definition_in (made_tables w n) (k + 1) ≡ Some (section_aux w n k s)
  definition_some k s g here group = definition_made k s here ∙ ap (λ o. cond (is_some o) (Some (section_aux w n k s)) None) group

  -- the selections of a leader and of another member
  pub leader_selects : (k : ℕ) (s : Section) (g : ℕ) → s.group ≡ Some g → leads n k ≡ true → (section_aux w n k s).Selection ≡ IMAGE_COMDAT_SELECT_ANY
  leader_selects k s g group lead =
      ap (selection_of n k) group ∙ ap (λ b. cond b IMAGE_COMDAT_SELECT_ANY IMAGE_COMDAT_SELECT_ASSOCIATIVE) lead

  pub member_selects : (k : ℕ) (s : Section) (g : ℕ) → s.group ≡ Some g → leads n k ≡ false → (section_aux w n k s).Selection ≡ IMAGE_COMDAT_SELECT_ASSOCIATIVE
  member_selects k s g group lead =
      ap (selection_of n k) group ∙ ap (λ b. cond b IMAGE_COMDAT_SELECT_ANY IMAGE_COMDAT_SELECT_ASSOCIATIVE) lead

  pub member_kept : (k : ℕ) (s : Section) (g : ℕ) → s.group ≡ Some g → leads n k ≡ false → (section_aux w n k s).Number ≡ leader_number n g
  member_kept k s g group lead = ap (kept_with n k) group ∙ ap (λ b. cond b 0 (leader_number n g)) lead

  -- the second symbol of a leader
  second : (k : ℕ) (s : Section) → slice_get n.sections k ≡ Some s → leads n k ≡ true → IsSecond w n k (symbols_of E (k + 1))
  second k s here lead =
      let low : k < length n.sections = slice_get_within n.sections k s here in
      let few = fewest w n is in
      second_symbol w n k s (symbols_of E (k + 1)) (begins k s here) (omega (arith, low, few)) lead

  pub key_symbol_made : (k : ℕ) (s : Section) → slice_get n.sections k ≡ Some s → leads n k ≡ true
      → (at : ℕ) × (i : ℕ) × (t : Symbol) × IsKeyOf n k t × (slice_get n.symbols i ≡ Some t) × (key_symbol E (k + 1) ≡ Some (made_entry w n (record { at = at; part = OuterLine i t })))
  key_symbol_made k s here lead =
      let x = second k s here lead in (
        x.at,
        x.position,
        x.symbol,
        x.key,
        x.there,
        ap (option_and_then (λ (e : Entry). cond (is_class IMAGE_SYM_CLASS_EXTERNAL e.symbol) (Some e) None)) x.is
            ∙ ap (λ b. cond (eqb (class_by b) 2) (Some (made_entry w n (record { at = x.at; part = OuterLine x.position x.symbol }))) None) x.key.binding,
      )

  key_group : (k : ℕ) (s : Section) (g : ℕ) (t : Symbol) → slice_get n.sections k ≡ Some s → s.group ≡ Some g → IsKeyOf n k t → key_of n.groups g ≡ Some t.name
  key_group k s g t here group key =
      let same : key.group ≡ g = same_Some key.group g (sym key.member ∙ ap (option_and_then (λ (x : Section). x.group)) here ∙ group) in
      ap (key_of n.groups) (sym same) ∙ key.key

  key_name : (t : Symbol) (i at : ℕ) → slice_get n.symbols i ≡ Some t → is_local t.binding ≡ false → name_of (string_table w n) (made_entry w n (record { at = at; part = OuterLine i t })) ≡ t.name
  key_name t i at there outer =
      let c = outer_coded w n is i t there outer in
      ap (λ o. unwrap_or o []) (symbol_named w n small t.name c.plain c.given)

  -- the key of the group that a section leads
  led_made : (k : ℕ) (s : Section) (g : ℕ) → slice_get n.sections k ≡ Some s → s.group ≡ Some g → leads n k ≡ true → led_key (made_tables w n) (k + 1) ≡ key_of n.groups g
  unfolding led_key made_tables
  led_made k s g here group lead =
      let x = key_symbol_made k s here lead in
      ap (λ d. cond (selects IMAGE_COMDAT_SELECT_ANY d) (option_map (name_of (string_table w n)) (key_symbol (entries_in (made_tables w n)) (k + 1))) None) (definition_some k s g here group)
      ∙ ap (λ m. cond (nat_eq m IMAGE_COMDAT_SELECT_ANY) (option_map (name_of (string_table w n)) (key_symbol (entries_in (made_tables w n)) (k + 1))) None) (leader_selects k s g group lead)
      ∙ ap (λ es. option_map (name_of (string_table w n)) (key_symbol es (k + 1))) entries
      ∙ ap (option_map (name_of (string_table w n))) x.5
      ∙ ap Some (key_name x.2 x.1 x.0 x.4 (ap is_local x.3.binding))
      ∙ sym (key_group k s g x.2 here group x.3)

  -- the groups are those of the object
  pub grouped : AreGrouped w n
  unfolding key_in
  grouped k s here = by s.group refl (leads n k) refl
    where
      by : (o : Option ℕ) → s.group ≡ o → (b : Bool) → leads n k ≡ b → key_in (made_tables w n) (k + 1) ≡ option_and_then (key_of n.groups) o
      by None group b lead =
          ap (option_and_then (key_by (made_tables w n) (k + 1))) (definition_made k s here ∙ ap (λ o. cond (is_some o) (Some (section_aux w n k s)) None) group)
      by (Some g) group true lead =
          ap (option_and_then (key_by (made_tables w n) (k + 1))) (definition_some k s g here group)
          ∙ ap (λ m. cond (nat_eq m IMAGE_COMDAT_SELECT_ASSOCIATIVE) (led_key (made_tables w n) (section_aux w n k s).Number) (led_key (made_tables w n) (k + 1))) (leader_selects k s g group lead)
          ∙ led_made k s g here group lead
      by (Some g) group false lead =
          let x = leader_of n g ((is.meets.sections k s here).led g group) in
          ap (option_and_then (key_by (made_tables w n) (k + 1))) (definition_some k s g here group)
          ∙ ap (λ m. cond (nat_eq m IMAGE_COMDAT_SELECT_ASSOCIATIVE) (led_key (made_tables w n) (section_aux w n k s).Number) (led_key (made_tables w n) (k + 1))) (member_selects k s g group lead)
          ∙ ap (led_key (made_tables w n)) (member_kept k s g group lead ∙ x.number)
          ∙ led_made x.position x.section g x.here x.group x.leads
