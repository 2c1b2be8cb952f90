-- The names of the sections and of the symbols of a canonical file are read back.
use Rattle.std.proofs.Common.{◌≡◌, ℕ, zero, suc, ◌+◌, ◌-◌, ◌<◌, ◌≤◌, false, ◌||◌, eqb, List, [], ◌∷◌, ◌++◌, length, take, replicate, Some, refl, sym, ◌∙◌, ap, arith}
use Rattle.std.specs.{Prelude.{slice_get, nat_eq}, List.{position_or_len, range_with_len}}
use Rattle.std.proofs.lemmas.{Bool.{true≢false, eq-eqb, ne_eqb, or_parts}, List.Folds.{list_any-append}, Option.{none-some, same_Some}}
use Rattle.oc_base.specs.{declared.format.Word.{Word}, Strings.{table_text}}
use Rattle.oc_neutral.specs.{declared.section.Section.{Section}, KindRules.{has_nul}, Mach.Kinds.{mach_name, segment_of, section_of}}
use Rattle.oc_neutral.specs.{Mach.SectionSymbols.{needs_section_symbol, needed_sections}, Objects.{Object}}
use Rattle.oc_target.proofs.MeetsNames.{section_symbol_uncut}
use Rattle.oc_shelf.specs.{Reading.Texts.{text_at}, Writing.Parts.{Stands}}
use Rattle.oc_shelf.proofs.{WritingLaws.MemberLemmas.{member_map, of_filter}, WritingLaws.StandingLemmas.{stands_whole, stands_first, stands_second, stands_in}}
use Rattle.oc_shelf.proofs.WritingLaws.StringLemmas.{member_given, name_in_table, text_read}
use Rattle.oc_macho.specs.{Sections.{until_nul}, Symbols.{name_at}, Structures.{padded}}
use Rattle.oc_macho_file.specs.{Lines.{Line, OwnLine, LocalLine, OuterLine, lines_of, line_name}, Layout.{line_names, offset_in, strings_of, string_table}}
use Rattle.oc_macho_file.specs.Symbols.{line_entry}
use Rattle.oc_macho_file.proofs.{TableLaws.{made_tables}, CodedLaws.{IsForMach, meets_section}, LineLaws.{IsLine, line_at}}

-- ... padded names

-- the bytes before the NULs that follow a name, where the first n are taken
until_nul-taken : (name : List ℕ) (n m : ℕ) → length name ≤ n → has_nul name ≡ false → until_nul (take n (name ++ replicate m 0)) ≡ name
until_nul-taken [] zero m short none = refl
until_nul-taken [] (suc n) zero short none = refl
until_nul-taken [] (suc n) (suc m) short none = refl
until_nul-taken (c ∷ name) zero m short none = absurd (omega (arith, short))
until_nul-taken (c ∷ name) (suc n) m short none =
    let parts = or_parts (nat_eq 0 c) (has_nul name) none in
    let own : eqb c 0 ≡ false = ne_eqb c 0 (λ e. true≢false (sym (eq-eqb 0 c (sym e)) ∙ parts.0)) in
    let more : (i : ℕ) → 1 + i ≡ suc i = λ i. omega arith in
    rw (own, more (position_or_len (λ x. eqb x 0) (take n (name ++ replicate m 0))), until_nul-taken name n m (omega (arith, short)) parts.1) refl

-- a padded name reads back
pub until_nul-padded : (name : List ℕ) → length name ≤ 16 → has_nul name ≡ false → until_nul (padded name) ≡ name
until_nul-padded name short none = until_nul-taken name 16 16 short none

-- neither part of a section's name has a NUL
pub parts_uncut : (segment section : List ℕ) → has_nul (mach_name segment section) ≡ false → (has_nul segment ≡ false) × (has_nul section ≡ false)
parts_uncut segment section none = or_parts (has_nul segment) (has_nul section) (sym (list_any-append (nat_eq 0) segment (44 ∷ section)) ∙ none)

-- ... needed sections

range_at : (a m k x : ℕ) → slice_get (range_with_len a m) k ≡ Some x → (x ≡ a + k) × (k < m)
range_at a zero k x here = absurd (none-some x here)
range_at a (suc m) zero x here = (sym (same_Some a x here) ∙ omega arith, omega arith)
range_at a (suc m) (suc k) x here = let r = range_at (a + 1) m k x here in (r.0 ∙ omega arith, (let l = r.1 in omega (arith, l)))

-- a needed section is there
pub needed_low : (n : Object) (i k : ℕ) → slice_get (needed_sections n) i ≡ Some k → k < length n.sections
unfolding needed_sections
needed_low n i k here =
    let f = of_filter (needs_section_symbol n) (range_with_len 0 (length n.sections)) i k here in
    let r = range_at 0 (length n.sections) f.0 k f.1 in
    let e = r.0 in
    let l = r.1 in
    omega (arith, e, l)

module _ (w : Word) (n : Object) (is : IsForMach w n) where
  -- ... sections

  pub segment_read : (k : ℕ) (s : Section) → slice_get n.sections k ≡ Some s → until_nul (padded (segment_of s.name)) ≡ segment_of s.name
  segment_read k s here =
      let m = meets_section w n is k s here in
      until_nul-padded (segment_of s.name) m.segment (parts_uncut (segment_of s.name) (section_of s.name) (ap has_nul (sym m.name) ∙ m.uncut)).0

  pub section_read : (k : ℕ) (s : Section) → slice_get n.sections k ≡ Some s → until_nul (padded (section_of s.name)) ≡ section_of s.name
  section_read k s here =
      let m = meets_section w n is k s here in
      until_nul-padded (section_of s.name) m.section (parts_uncut (segment_of s.name) (section_of s.name) (ap has_nul (sym m.name) ∙ m.uncut)).1

  -- ... symbols

  plain_line : (x : Line) → IsLine w n x → has_nul (line_name x) ≡ false
  plain_line (OwnLine k) own =
      let low = needed_low n own.1 k own.2 in
      let few = is.meets.few in
      section_symbol_uncut (k + 1) (omega arith) (omega (arith, low, few))
  plain_line (LocalLine k s) own = (is.meets.symbols k s own.0).name
  plain_line (OuterLine k s) own = (is.meets.symbols k s own.0).name

  line_offset : (x : Line) → (line_entry w n x).n_strx ≡ offset_in (line_names w n) (line_name x)
  unfolding line_entry
  line_offset x = grind arith

  -- the texts stand behind the first NUL
  texts_stand : Stands (string_table w n) 1 (table_text (line_names w n))
  unfolding string_table
  texts_stand =
      stands_in (string_table w n) (strings_of (line_names w n)) (table_text (line_names w n)) 0 1 1
      (stands_first (strings_of (line_names w n)) _)
      (stands_second (0 ∷ []) (table_text (line_names w n)) (table_text (line_names w n)) 0 1 (stands_whole (table_text (line_names w n))) (omega arith)) (omega arith)

  text_there : (i : ℕ) (x : Line) → slice_get (lines_of w n) i ≡ Some x → text_at (string_table w n) (offset_in (line_names w n) (line_name x)) ≡ Some (line_name x)
  unfolding line_names
  text_there i x here =
      let names : List (List ℕ) = line_names w n in
      let t = name_in_table 1 names (line_name x) (member_given names i (line_name x) (member_map line_name (lines_of w n) i x here)) in
      let above = t.above in
      text_read (string_table w n) (line_name x) (offset_in names (line_name x))
      (stands_in (string_table w n) (table_text names) (line_name x ++ 0 ∷ []) 1 (offset_in names (line_name x) - 1) (offset_in names (line_name x)) texts_stand t.there (omega (arith, above)))
      (plain_line x (line_at w n i x here))

  pub line_named : (i : ℕ) (x : Line) → slice_get (lines_of w n) i ≡ Some x → name_at (made_tables w n) (line_entry w n x) ≡ Some (line_name x)
  unfolding name_at made_tables
  line_named i x here = ap (text_at (string_table w n)) (line_offset x) ∙ text_there i x here
