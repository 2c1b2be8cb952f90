-- The symbols of a canonical file are those that are seen.
use Rattle.oc_coff.specs.{declared.weak_aux.WeakAux.{WeakAux}, declared.form.CoffForm.{CoffForm}, declared.symbol.SymbolEntry.{SymbolEntry}}
use Rattle.oc_coff.specs.{Names.{is_nothing, symbol_name}, Tables.{Slot}, Sections.{sections_in, position_from, position_of}}
use Rattle.oc_coff.specs.Entries.{Entry, entry_numbered, has_section, entries_in}
use Rattle.oc_coff.specs.Symbols.{tags, is_tagged, is_section_symbol, value_of, fallback_at, fallback_by, binding_of, symbol_with, symbol_of, symbols_in}
use Rattle.oc_coff.specs.{Values.{numbers_of, numbers_by, default_numbers, type_by, class_by, aux_by}, Forms.{shape_of}, WeakAux.{weak_aux_numbers}}
use Rattle.std.proofs.Common.{◌≡◌, ℕ, zero, suc, ◌+◌, ◌^◌, ◌<◌, ◌≤◌, Bool, true, false, cond, ◌&&◌, eqb, List, [], ◌∷◌, length, map, Option, Some, None, refl, sym, ◌∙◌, ap, subst, inl, inr, arith}
use Rattle.std.specs.{Prelude.{◌⊎◌, slice_get, filter_map}, List.{enumerate_from}, Option.{unwrap_or, option_map, option_map_or, option_and_then}}
use Rattle.std.proofs.lemmas.{Bool.{true≢false, eq-eqb, ne_eqb, le-leb, or_right}, Option.{same_Some, slice_get_within}, Map.Keys.{any_passes_from_place}}
use Rattle.oc_linking.specs.{declared.terms.Mark.{Mark}, declared.terms.Mark.TheVariants.{NoType, Object as ObjectMark, Function}}
use Rattle.oc_linking.specs.{declared.terms.Visibility.TheVariants.{Default}, declared.terms.Value.{Value}, declared.terms.Fallback.{Fallback}}
use Rattle.oc_linking.specs.{declared.terms.Binding.{Binding}, declared.terms.Binding.TheVariants.{Local, Global, Undefined, Common, Weak}, Parts.{is_local}}
use Rattle.oc_neutral.specs.{declared.section.Section.{Section}, declared.symbol.Symbol.{Symbol}, Objects.{Object}}
use Rattle.oc_neutral.specs.{Faces.{number_of, shown_fallback, shown_binding, shown_symbol}, Coff.Strings.{default_name, has_default}}
use Rattle.oc_shelf.specs.Writing.Parts.{Laid, place_where}
use Rattle.oc_shelf.proofs.WritingLaws.PartLemmas.{IsFound}
use Rattle.oc_shelf.proofs.WritingLaws.MemberLemmas.{of_map, find_first, none_passes, member_map, filter_map-map, filter_map-results}
use Rattle.oc_shelf.proofs.WritingLaws.PackedLemmas.{Fit}
use Rattle.oc_coff_file.specs.Lines.{Line, SectionLine, LocalLine, DefaultLine, OuterLine, lines_of, numbered_lines, is_default_line, is_outer_line, default_number, outer_number}
use Rattle.oc_coff_file.specs.Canonical.{entry, tag_of, line_entry, symbol_field, string_table, weak_aux}
use Rattle.oc_shows.specs.{Seen.{seen_fallback, seen_symbol, new_position, seen_binding}, SymbolLines.{is_weak_with}, Manners.{coff_manner, coff_mark}}
use Rattle.oc_coff_file.proofs.{SeenLaws.{seen_line, syms, shown, seen_there, symbols_seen}, TableLaws.{made_tables}}
use Rattle.oc_coff_file.proofs.{EntryLaws.{made_entry, outer_slot, weak_said}, NameLaws.{symbol_named}, SectionLaws.{made_section}}
use Rattle.oc_coff_file.proofs.LineLaws.{IsLineOf, numbered_is_of, default_found, outer_found, one_number, one_default, numbered_line}
use Rattle.oc_coff_file.proofs.CodedLaws.{IsForCoff, IsCodedValue, IsCodedFallback, IsCodedBinding, IsCodedSymbol, IsCodedLine, coded_line, weak_default, fewest}
use Rattle.oc_linking.specs.declared.terms.Value.TheVariants as value
use Rattle.oc_linking.specs.declared.terms.Fallback.TheVariants as fallback
use Rattle.oc_linking.specs.Parts as parts

-- ... places of sections

position_here : (w : CoffForm) (n : Object) (i j : ℕ) (xs : List Section) → j < length xs → position_from i (map (made_section w n) (enumerate_from i xs)) (i + j + 1) ≡ Some (i + j)
position_here w n i j [] l = absurd (omega (arith, l))
position_here w n i zero (x ∷ xs) l =
    let e : i + 0 ≡ i = omega arith in
    let here : eqb (i + 1) (i + 0 + 1) ≡ true = eq-eqb (i + 1) (i + 0 + 1) (omega arith) in
    rw here (ap Some (sym e))
position_here w n i (suc j) (x ∷ xs) l =
    let other : eqb (i + 1) (i + suc j + 1) ≡ false = ne_eqb (i + 1) (i + suc j + 1) (omega arith) in
    let e : i + suc j ≡ i + 1 + j = omega arith in
    rw (other, e) (position_here w n (i + 1) j xs (omega (arith, l)))

-- the auxiliary entries of weak externals fit
abbrev pub AreTagged : CoffForm → Object → Type 0
AreTagged w n = (k : ℕ) (s : Symbol) (f : Fallback) → slice_get n.symbols k ≡ Some s → s.binding ≡ Weak f → Fit (weak_aux_numbers (shape_of w) (weak_aux (numbered_lines w n) k f))

module _ (w : CoffForm) (n : Object) (is : IsForCoff w n) where
  -- the sections of the file
  abbrev pub S : List parts.Section
  S = map (made_section w n) (enumerate_from 0 n.sections)

  pub position_made : (k : ℕ) (s : Section) → slice_get n.sections k ≡ Some s → position_of S (k + 1) ≡ Some k
  unfolding position_of
  position_made k s here =
      let low : k < length n.sections = slice_get_within n.sections k s here in
      let few = fewest w n is in
      let e : 0 + k ≡ k = omega arith in
      rw (le-leb (k + 1) 0x7FFFFFFF (omega (arith, low, few)))
      (ap (position_from 0 S) (ap (λ i. i + 1) (sym e)) ∙ position_here w n 0 k n.sections low ∙ ap Some e)

  pub value_made : (field : List ℕ) (v : Value) (type class aux : ℕ) → IsCodedValue n v → value_of S (entry field (numbers_of v) type class aux) ≡ Some v
  unfolding value_of
  value_made field (value.Place k offset) type class aux there =
      let low : k < length n.sections = slice_get_within n.sections k there.0 there.1 in
      let few = fewest w n is in
      rw (ne_eqb (k + 1) 0xFFFFFFFF (omega (arith, low, few)), position_made k there.0 there.1) refl
  value_made field (value.Absolute x) type class aux there = refl

  abbrev lines : List (Laid Line)
  lines = numbered_lines w n

  -- the symbols of the file
  abbrev pub E : List Entry
  E = map (made_entry w n) lines

  -- the symbol of a number
  pub entry_found : (i : ℕ) (l : Laid Line) → slice_get lines i ≡ Some l → entry_numbered E l.at ≡ Some (made_entry w n l)
  entry_found i l here = find_first (λ e. eqb e.number l.at) E i (made_entry w n l) (member_map (made_entry w n) lines i l here) (eq-eqb l.at l.at refl) earlier
    where
      earlier : (j : ℕ) (e : Entry) → j < i → slice_get E j ≡ Some e → eqb e.number l.at ≡ false
      earlier j e before there =
          let m = of_map (made_entry w n) lines j e there in
          ne_eqb e.number l.at (λ same. let o = one_number w n j i m.0 l m.1 here (ap (λ (x : Entry). x.number) m.2 ∙ same) in absurd (omega (arith, o.0, before)))

  pub entry_where : (test : Line → Bool) (x : Line) (f : IsFound lines test x) → entry_numbered E (place_where test lines) ≡ Some (made_entry w n (record { at = f.one.at; part = x }))
  entry_where test x f = ap (entry_numbered E) f.place ∙ entry_found f.index f.one f.here ∙ ap (λ y. Some (made_entry w n (record { at = f.one.at; part = y }))) f.part

  -- ... what weak externals tag

  -- a line with its number, which COFF can say
  pub numbered_coded : (i : ℕ) (l : Laid Line) → slice_get lines i ≡ Some l → IsCodedLine w n l.part
  numbered_coded i l here = coded_line w n is i l.part (numbered_line w n i l here)

  -- the line that a fallback tags
  record IsTagged (k : ℕ) (s : Symbol) (f : Fallback) : Type 0 where
    index : ℕ
    one : Laid Line
    here : slice_get lines index ≡ Some one
    number : tag_of lines k f ≡ one.at
    kind : (one.part ≡ DefaultLine k s) ⊎ ((j : ℕ) × (t : Symbol) × (one.part ≡ OuterLine j t))

  tagged : (k : ℕ) (s : Symbol) (f : Fallback) → slice_get n.symbols k ≡ Some s → s.binding ≡ Weak f → IsCodedFallback n f → IsTagged k s f
  tagged k s (fallback.Place j offset) here own c =
      let d = default_found w n k s here (ap (is_weak_with has_default) own) in
      record { index = d.index; one = d.one; here = d.here; number = d.place; kind = inl d.part }
  tagged k s fallback.Zero here own c =
      let d = default_found w n k s here (ap (is_weak_with has_default) own) in
      record { index = d.index; one = d.one; here = d.here; number = d.place; kind = inl d.part }
  tagged k s (fallback.Name j) here own c =
      let o = outer_found w n is.format j c.0 c.1 c.2 in
      record { index = o.index; one = o.one; here = o.here; number = o.place; kind = inr (j, c.0, o.part) }

  -- a Local is not one
  not_local : (k j : ℕ) (s t : Symbol) (f : Fallback) (g : IsTagged k s f) → g.one.part ≡ LocalLine j t → ⊥
  not_local k j s t f g e = elim g.kind [
    | inl d ↦ clash_default (sym d ∙ e)
    | inr o ↦ clash_outer o.0 o.1 (sym o.2 ∙ e)
  ]
    where
      clash_default : DefaultLine k s ≡ LocalLine j t → ⊥
      clash_default h = absurd (cc)

      clash_outer : (i : ℕ) (u : Symbol) → OuterLine i u ≡ LocalLine j t → ⊥
      clash_outer i u h = absurd (cc)

  module _ (tags_fit : AreTagged w n) where
    -- what the auxiliary entry of a weak external says
    pub tag_read : (k : ℕ) (s : Symbol) (f : Fallback) → slice_get n.symbols k ≡ Some s → s.binding ≡ Weak f
        → option_map (λ (x : Slot). x.weak.TagIndex) (outer_slot (shape_of w) lines k (Weak f)) ≡ Some (tag_of lines k f)
    tag_read k s f here own = ap (λ (a : WeakAux). Some a.TagIndex) (weak_said (shape_of w) lines k f (tags_fit k s f here own))

    -- whether the entry of a line tags a number
    tags_other : (number : ℕ) (l : Laid Line) → ((k : ℕ) (s : Symbol) (f : Fallback) → l.part ≡ OuterLine k s → s.binding ≡ Weak f → eqb number (tag_of lines k f) ≡ false)
        → (i : ℕ) → slice_get lines i ≡ Some l → tags number (made_entry w n l) ≡ false
    tags_other number l other i here = by l.part (numbered_is_of w n i l here) other
      where
        by : (x : Line) → IsLineOf w n x → ((k : ℕ) (s : Symbol) (f : Fallback) → x ≡ OuterLine k s → s.binding ≡ Weak f → eqb number (tag_of lines k f) ≡ false)
            → tags number (made_entry w n (record { at = l.at; part = x })) ≡ false
        by (SectionLine k s) o other = refl
        by (LocalLine k s) o other = refl
        by (DefaultLine k s) o other = refl
        by (OuterLine k s) o other = bind s.binding refl
          where
            bind : (b : Binding) → s.binding ≡ b → (eqb (class_by b) 105 && option_map_or (eqb number) (option_map (λ (x : Slot). x.weak.TagIndex) (outer_slot (shape_of w) lines k b)) false) ≡ false
            bind (Local v) e = refl
            bind (Global v) e = refl
            bind Undefined e = refl
            bind (Common size align) e = refl
            bind (Weak f) e = ap (λ o. option_map_or (eqb number) o false) (tag_read k s f o.0 e) ∙ other k s f refl e

    -- no Local is tagged
    pub local_untagged : (i k : ℕ) (l : Laid Line) (s : Symbol) → slice_get lines i ≡ Some l → l.part ≡ LocalLine k s → is_tagged E l.at ≡ false
    local_untagged i k l s here own =
        none_passes (tags l.at) E (λ j e there.
        let m = of_map (made_entry w n) lines j e there in
        ap (tags l.at) (sym m.2) ∙ tags_other l.at m.0 (λ a t f part weak. not_this j m.0 m.1 a t f part weak) j m.1)
      where
        not_this : (j : ℕ) (m : Laid Line) → slice_get lines j ≡ Some m → (a : ℕ) (t : Symbol) (f : Fallback) → m.part ≡ OuterLine a t → t.binding ≡ Weak f → eqb l.at (tag_of lines a f) ≡ false
        not_this j m there a t f part weak =
            let o : IsLineOf w n (OuterLine a t) = subst (IsLineOf w n) part (numbered_is_of w n j m there) in
            let c : IsCodedSymbol w n t = subst (IsCodedLine w n) part (numbered_coded j m there) in
            let g = tagged a t f o.0 weak (subst (IsCodedBinding n) weak c.binding) in
            ne_eqb l.at (tag_of lines a f) (λ same.
            let one = one_number w n i g.index l g.one here g.here (same ∙ g.number) in
            not_local a k t s f g (sym (ap (λ (x : Laid Line). x.part) one.1) ∙ own))

    -- a default is tagged by its symbol
    pub default_tagged : (i k : ℕ) (l : Laid Line) (s : Symbol) → slice_get lines i ≡ Some l → l.part ≡ DefaultLine k s → is_tagged E l.at ≡ true
    default_tagged i k l s here own =
        let o : IsLineOf w n (DefaultLine k s) = subst (IsLineOf w n) own (numbered_is_of w n i l here) in
        let f = weak_default w n is s o.1 in
        let outer : is_local s.binding ≡ false = ap is_local f.1 in
        let d = default_found w n k s o.0 o.1 in
        let u = outer_found w n is.format k s o.0 outer in
        let first : slice_get (lines_of w n) i ≡ Some (DefaultLine k s) = numbered_line w n i l here ∙ ap Some own in
        let second : slice_get (lines_of w n) d.index ≡ Some (DefaultLine k s) = numbered_line w n d.index d.one d.here ∙ ap Some d.part in
        let index : i ≡ d.index = one_default w n k i d.index s s first second in
        let same : l ≡ d.one = same_Some l d.one (sym here ∙ ap (slice_get lines) index ∙ d.here) in
        let number : default_number lines k ≡ l.at = d.place ∙ ap (λ (x : Laid Line). x.at) (sym same) in
        any_passes_from_place (tags l.at) E u.index (made_entry w n u.one) (member_map (made_entry w n) lines u.index u.one u.here)
        (subst (λ x. tags l.at (made_entry w n (record { at = u.one.at; part = x })) ≡ true) (sym u.part)
        (ap (λ b. eqb (class_by b) 105 && option_map_or (eqb l.at) (option_map (λ (x : Slot). x.weak.TagIndex) (outer_slot (shape_of w) lines k b)) false) f.1
        ∙ ap (λ o. option_map_or (eqb l.at) o false) (tag_read k s f.0 o.0 f.1) ∙ eq-eqb l.at (tag_of lines k f.0) (sym (tag_is f.0 f.2 ∙ number))))
      where
        tag_is : (f : Fallback) → has_default f ≡ true → tag_of lines k f ≡ default_number lines k
        tag_is f e = grind arith

    -- the number of a seen symbol
    pub seen_number : (j : ℕ) (t : Symbol) → slice_get n.symbols j ≡ Some t → is_local t.binding ≡ false → number_of (syms n) (new_position (shown n) j) ≡ outer_number lines j
    seen_number j t here outer = ap (λ o. option_map_or (λ (s : Symbol). s.number) o 0) (seen_there w n is.format j t here outer)

    -- ... one line

    module _ (small : length (string_table w n) < 2 ^ 32) where
      abbrev names : List ℕ
      names = string_table w n

      entry_name : (s : Symbol) → IsCodedSymbol w n s → unwrap_or (symbol_name names (symbol_field w n s.name)) [] ≡ s.name
      entry_name s c = ap (λ o. unwrap_or o []) (symbol_named w n small s.name c.plain c.given)

      -- an entry of the file, as the rules read it
      abbrev as_entry : ℕ → SymbolEntry → Option Slot → Entry
      as_entry number symbol aux = record { number = number; symbol = symbol; aux = aux }

      no_section_symbol : (a b d : Bool) → (((a && b) && false) && d) ≡ false
      no_section_symbol a b d = grind arith

      -- a binding as it is seen
      abbrev seen_as : Binding → Binding
      seen_as b = shown_binding (syms n) (seen_binding coff_manner n (shown n) b)

      local_bound : (number type : ℕ) (field name : List ℕ) (v : Value) → is_tagged E number ≡ false → is_nothing name ≡ false → IsCodedValue n v
          → binding_of S E name (as_entry number (entry field (numbers_of v) type 3 0) None) ≡ Some (Local v)
      unfolding binding_of
      local_bound number type field name v untagged some c =
          rw (no_section_symbol true (eqb (numbers_of v).0 0) (has_section (entry field (numbers_of v) type 3 0)), untagged, some) (ap (option_map Local) (value_made field v type 3 0 c))

      -- a symbol that is not Local
      outer_bound : (number k : ℕ) (type : ℕ) (field name : List ℕ) (s : Symbol) (b : Binding) → slice_get n.symbols k ≡ Some s → s.binding ≡ b → IsCodedBinding n b → is_local b ≡ false
          → binding_of S E name (as_entry number (entry field (numbers_by b) type (class_by b) (aux_by b)) (outer_slot (shape_of w) lines k b)) ≡ Some (seen_as b)
      unfolding binding_of
      outer_bound number k type field name s (Local v) here own c o = absurd (true≢false o)
      outer_bound number k type field name s (Global v) here own c o =
          rw (some_section v c) (ap (option_map Global) (value_made field v type 2 0 c))
        where
          some_section : (v : Value) → IsCodedValue n v → eqb (numbers_of v).1 0 ≡ false
          some_section v c = grind arith
      outer_bound number k type field name s Undefined here own c o = refl
      outer_bound number k type field name s (Common size align) here own c o =
          rw (ne_eqb size 0 (omega (arith, c.0))) (ap (λ a. Some (Common size a)) c.2)
      outer_bound number k type field name s (Weak f) here own c o =
          ap (option_map Weak) (ap (λ t. option_and_then (fallback_by S) (option_and_then (entry_numbered E) t)) (tag_read k s f here own) ∙ by f own c)
        where
          by : (f : Fallback) → s.binding ≡ Weak f → IsCodedFallback n f
              → option_and_then (fallback_by S) (entry_numbered E (tag_of lines k f)) ≡ Some (shown_fallback (syms n) (seen_fallback coff_manner n (shown n) f))
          by (fallback.Place j offset) own c =
              let d = default_found w n k s here (ap (is_weak_with has_default) own) in
              ap (option_and_then (fallback_by S)) (entry_where (is_default_line k) (DefaultLine k s) d)
              ∙ ap (λ b. option_map fallback_at (value_of S (entry (symbol_field w n (default_name s.name)) (default_numbers b) 0 3 0))) own
              ∙ ap (option_map fallback_at) (value_made (symbol_field w n (default_name s.name)) (value.Place j offset) 0 3 0 c)
          by fallback.Zero own c =
              let d = default_found w n k s here (ap (is_weak_with has_default) own) in
              ap (option_and_then (fallback_by S)) (entry_where (is_default_line k) (DefaultLine k s) d)
              ∙ ap (λ b. option_map fallback_at (value_of S (entry (symbol_field w n (default_name s.name)) (default_numbers b) 0 3 0))) own
              ∙ ap (option_map fallback_at) (value_made (symbol_field w n (default_name s.name)) (value.Absolute 0) 0 3 0 (omega arith))
          by (fallback.Name j) own c =
              let u = outer_found w n is.format j c.0 c.1 c.2 in
              ap (option_and_then (fallback_by S)) (entry_where (is_outer_line j) (OuterLine j c.0) u)
              ∙ ap (λ class. cond (eqb class 2) (Some (fallback.Name u.one.at)) (option_map fallback_at (value_of S (line_entry w n (OuterLine j c.0))))) c.3
              ∙ ap (λ m. Some (fallback.Name m)) (sym u.place ∙ sym (seen_number j c.0 c.1 c.2))

      -- what the rules read of a line is what is seen of it
      mark_read : (m : Mark) → cond (eqb (type_by m) 0x20) Function NoType ≡ coff_mark m
      mark_read m = grind arith

      some_name : (name : List ℕ) → 1 ≤ length name → is_nothing name ≡ false
      some_name name l = grind arith

      bound_local : (b : Binding) → is_local b ≡ true → (number type : ℕ) (field name : List ℕ) → is_tagged E number ≡ false → is_nothing name ≡ false → IsCodedBinding n b
          → binding_of S E name (as_entry number (entry field (numbers_by b) type 3 0) None) ≡ Some (seen_as b)
      bound_local (Local v) e number type field name untagged some c = local_bound number type field name v untagged some c
      bound_local (Global v) e number type field name untagged some c = absurd (true≢false (sym e))
      bound_local Undefined e number type field name untagged some c = absurd (true≢false (sym e))
      bound_local (Common size align) e number type field name untagged some c = absurd (true≢false (sym e))
      bound_local (Weak f) e number type field name untagged some c = absurd (true≢false (sym e))

      -- a symbol of a name and a binding
      symbol_made : (number class auxes : ℕ) (aux : Option Slot) (numbers : ℕ × ℕ) (s : Symbol) → IsCodedSymbol w n s
          → binding_of S E s.name (as_entry number (entry (symbol_field w n s.name) numbers (type_by s.mark) class auxes) aux) ≡ Some (seen_as s.binding)
          → symbol_of names S E (as_entry number (entry (symbol_field w n s.name) numbers (type_by s.mark) class auxes) aux) ≡ Some (shown_symbol (syms n) (seen_symbol coff_manner n (shown n) number s))
      unfolding symbol_of
      symbol_made number class auxes aux numbers s c bound =
          let e : Entry = as_entry number (entry (symbol_field w n s.name) numbers (type_by s.mark) class auxes) aux in
          ap (λ name. option_map (symbol_with name e) (binding_of S E name e)) (entry_name s c)
          ∙ ap (option_map (symbol_with s.name e)) bound
          ∙ ap (λ m. Some (record { name = s.name; binding = seen_as s.binding; mark = m; vis = Default; size = 0; pinned = false; number = number })) (mark_read s.mark)

      pub line_read : (i : ℕ) (at : ℕ) (x : Line) → slice_get lines i ≡ Some (record { at = at; part = x })
          → symbol_of names S E (made_entry w n (record { at = at; part = x })) ≡ option_map (shown_symbol (syms n)) (seen_line n (record { at = at; part = x }))
      unfolding symbol_of binding_of
      line_read i at (SectionLine k s) here =
          let o : slice_get n.sections k ≡ Some s = numbered_is_of w n i (record { at = at; part = SectionLine k s }) here in
          let low : k < length n.sections = slice_get_within n.sections k s o in
          let few = fewest w n is in
          rw (le-leb 1 (k + 1) (omega arith), le-leb (k + 1) 0x7FFFFFFF (omega (arith, low, few))) refl
      line_read i at (LocalLine k s) here =
          let l : Laid Line = record { at = at; part = LocalLine k s } in
          let o = numbered_is_of w n i l here in
          let c = numbered_coded i l here in
          symbol_made at 3 0 None (numbers_by s.binding) s c
          (bound_local s.binding o.1 at (type_by s.mark) (symbol_field w n s.name) s.name (local_untagged i k l s here refl) (some_name s.name c.some) c.binding)
      line_read i at (DefaultLine k s) here =
          let l : Laid Line = record { at = at; part = DefaultLine k s } in
          rw (default_tagged i k l s here refl, or_right (is_section_symbol (line_entry w n (DefaultLine k s))) true refl) refl
      line_read i at (OuterLine k s) here =
          let l : Laid Line = record { at = at; part = OuterLine k s } in
          let o = numbered_is_of w n i l here in
          let c = numbered_coded i l here in
          symbol_made at (class_by s.binding) (aux_by s.binding) (outer_slot (shape_of w) lines k s.binding) (numbers_by s.binding) s c
          (outer_bound at k (type_by s.mark) (symbol_field w n s.name) s.name s s.binding o.0 refl c.binding o.1)

      -- the symbols of the file are those that are seen
      pub symbols_read : sections_in (made_tables w n) ≡ S → entries_in (made_tables w n) ≡ E → symbols_in (made_tables w n) ≡ map (shown_symbol (syms n)) (syms n)
      unfolding symbols_in made_tables
      symbols_read sections entries =
          ap (λ xs. filter_map (symbol_of names xs (entries_in (made_tables w n))) (entries_in (made_tables w n))) sections
          ∙ ap (λ es. filter_map (symbol_of names S es) es) entries
          ∙ filter_map-map (symbol_of names S E) (made_entry w n) lines
          ∙ filter_map-results (λ l. symbol_of names S E (made_entry w n l)) (seen_line n) (shown_symbol (syms n)) lines (λ k l h. line_read k l.at l.part h)
          ∙ ap (map (shown_symbol (syms n))) (symbols_seen w n is.format)
