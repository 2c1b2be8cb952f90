-- The symbols of a file without faults speak of things that are there.
use Rattle.oc_coff.specs.{declared.form.Shape.{Shape}, Files.{CoffFile, tables_in}}
use Rattle.oc_coff.specs.declared.constants.TheConstants.{IMAGE_SYM_SECTION_MAX_EX, IMAGE_SYM_CLASS_EXTERNAL, IMAGE_SYM_CLASS_LABEL, IMAGE_SYM_CLASS_STATIC, IMAGE_SYM_CLASS_WEAK_EXTERNAL}
use Rattle.oc_coff.specs.{declared.symbol.SymbolEntry.{SymbolEntry}, Tables.{SectionTable, Tables}, Names.{is_nothing}, Comdat.{section_numbered}}
use Rattle.oc_coff.specs.{Entries.{Entry, entries_in, entry_numbered, has_section, is_class, name_of}, Forms.{format_by}}
use Rattle.oc_coff.specs.Sections.{Carried, carried_of, is_stored, kind_in, position_from, position_of, section_of, sections_in}
use Rattle.oc_coff.specs.Symbols.{binding_of, external_binding, fallback_at, fallback_by, is_own, local_binding, symbol_of, symbols_in, tag_of, value_of, weak_binding}
use Rattle.oc_coff.specs.{SymbolFaults.{can_be_tagged, is_external, symbol_stage}, Head.{IsHeaded}}
use Rattle.std.proofs.Common.{◌≡◌, ◌≢◌, ℕ, ◌+◌, ◌-◌, ◌<◌, ◌≤◌, ◌^◌, Bool, true, false, cond, List, [], length, map, Option, None, Some, refl, sym, ◌∙◌, ap, subst, arith, get_or}
use Rattle.std.specs.{Prelude.{◌&&◌, ◌||◌, nat_eq, nat_le, nat_lt, slice_get}, Option.{option_and_then, option_map, option_map_or, unwrap_or}}
use Rattle.std.proofs.lemmas.{Bool.{ne_eqb, true≢false}, Bool.Decides.{nat_tests}}
use Rattle.std.proofs.lemmas.Option.{none-some, same_Some, slice_get-map, slice_get-get_or, slice_get_within}
use Rattle.oc_base.specs.{declared.format.Word.{Word}, Formats.{word_for}}
use Rattle.oc_linking.specs.{declared.terms.Binding.{Binding}, declared.terms.Binding.TheVariants.{Local, Global, Undefined, Common, Weak}}
use Rattle.oc_linking.specs.{declared.terms.Fallback.{Fallback}, declared.terms.Kind.{Kind}, declared.terms.Value.{Value}, FirstFault.{stage_fault}}
use Rattle.oc_linking.specs.Numbers.{first_from, modulus}
use Rattle.oc_linking.specs.declared.terms.Fallback.TheVariants as fallback
use Rattle.oc_linking.specs.declared.terms.Value.TheVariants as value
use Rattle.oc_linking.specs.Parts as parts
use Rattle.oc_neutral.specs.{declared.symbol.Symbol.{Symbol}, Faces.{number_of}}
use Rattle.oc_neutral.specs.{Invariants.{AreBytes, HasOffset, IsAlign, IsBinding, IsOriginal, IsSymbol, IsValue, is_strong}, Objects.{Object}}
use Rattle.oc_neutral.specs.Powers.{natural_align}
use Rattle.oc_shows.specs.{Computed.{computed_symbol, placed_binding, position_of as symbol_place}, Started.{stored_section}}
use Rattle.oc_shelf.proofs.ReadingLaws.CollectedLemmas.{IsFrom}
use Rattle.oc_coff_judge.specs.Led.{carried_at, section_at}
use Rattle.oc_coff_read.specs.Built.{keys_of, symboled}
use Rattle.oc_coff_read.proofs.{AddedSymbols.{external_entry, tagged_other}, ByteLemmas.{entry_name_bytes, entry_small}}
use Rattle.oc_coff_judge.proofs.{CollectLemmas.{symbols_are}, EntryLemmas.{IsPassed, find_from}}
use Rattle.oc_coff_judge.proofs.{NumberedSymbols.{IsCarried, carried_symbol, symbol_stands, symbols_numbered}, PlacedLemmas.{from_at, section_from}}
use Rattle.oc_coff_judge.proofs.{SoundSymbols.{IsSoundSymbol, sound_symbol}, TagLemmas.{entry_at}}

-- ... sections by their positions

-- the section at the position of a number
pub record IsPlacedSection (t : Tables) (number k : ℕ) : Type 0 where
  pub section : parts.Section
  pub there : slice_get (sections_in t) k ≡ Some section
  pub number_is : section.number ≡ number
  pub nameable : nat_le number IMAGE_SYM_SECTION_MAX_EX ≡ true

pub placed_section : (t : Tables) (number k : ℕ) → position_of (sections_in t) number ≡ Some k → IsPlacedSection t number k
unfolding position_of
placed_section t number k is = by (nat_le number IMAGE_SYM_SECTION_MAX_EX) refl is
  where
    by : (b : Bool) → nat_le number IMAGE_SYM_SECTION_MAX_EX ≡ b → cond b (position_from 0 (sections_in t) number) None ≡ Some k → IsPlacedSection t number k
    by false e g = absurd (none-some k g)
    by true e g =
        let m = from_at 0 (sections_in t) number k g in
        let none : k - 0 ≡ k = omega arith in
        record { section = m.0; there = sym (ap (slice_get (sections_in t)) none) ∙ m.1; number_is = m.2; nameable = e }

-- a carried section by its header
pub record IsOf (t : Tables) (i : ℕ) (s : parts.Section) : Type 0 where
  pub table : SectionTable
  pub kind : Kind
  pub here : slice_get t.sections i ≡ Some table
  pub kind_is : kind_in t.strings table.header ≡ Some kind
  pub is : section_of t (i + 1) table kind ≡ s

pub section_by : (t : Tables) (i : ℕ) (s : parts.Section) → section_at t i ≡ Some s → IsOf t i s
unfolding carried_at carried_of
section_by t i s is = by (slice_get t.sections i) refl is
  where
    by : (o : Option SectionTable) → slice_get t.sections i ≡ o → option_map (λ (c : Carried). c.section) (option_and_then (λ (x : SectionTable). carried_of t (i + 1, x)) o) ≡ Some s → IsOf t i s
    by None e h = absurd (none-some s h)
    by (Some x) e h = kind (kind_in t.strings x.header) refl h
      where
        kind : (k : Option Kind) → kind_in t.strings x.header ≡ k
            → option_map (λ (c : Carried). c.section) (option_map (λ kind. record { section = section_of t (i + 1) x kind; stored = is_stored (Some kind) x.header; relocs_at = x.relocs_at; relocs = x.relocs }) k) ≡ Some s
            → IsOf t i s
        kind None g h = absurd (none-some s h)
        kind (Some k) g h = record { table = x; kind = k; here = e; kind_is = g; is = same_Some (section_of t (i + 1) x k) s h }

-- ... alignments

pub natural_aligns : (n : ℕ) → IsAlign (natural_align n)
natural_aligns n = by (first_from (λ k. nat_le n (2 ^ k)) 0 5) refl
  where
    by : (o : Option ℕ) → first_from (λ k. nat_le n (2 ^ k)) 0 5 ≡ o → IsAlign (2 ^ unwrap_or o 5)
    by o e = grind arith

-- ... symbols

word_room : (w : Word) (z : Shape) → 4294967296 ≤ modulus (word_for (format_by w z))
word_room w z = grind arith

module _ (w : Word) (file : CoffFile) (head : IsHeaded file) (bytes : AreBytes file.bytes) (clean : stage_fault (symbol_stage (tables_in file)) ≡ None) where
  abbrev t : Tables
  t = tables_in file

  -- the object before the relocations
  abbrev pub object : Object
  object = (symboled w t (length (entries_in t))).object

  -- its symbols are the carried ones
  pub symbols_same : map (computed_symbol (symbols_in t)) (symbols_in t) ≡ object.symbols
  symbols_same = ap (map (computed_symbol (symbols_in t))) (symbols_are t)

  sound_at : (p : ℕ) (e : Entry) → slice_get (entries_in t) p ≡ Some e → (earlier : List Entry) × IsSoundSymbol t earlier e
  sound_at p e there = (_, sound_symbol t clean p e there)

  value_small : (p : ℕ) (e : Entry) → slice_get (entries_in t) p ≡ Some e → e.symbol.Value < modulus (word_for (format_by w t.shape))
  value_small p e there =
      let m = entry_at file head clean p e there in
      let low : e.symbol.Value < 4294967296 = subst (λ (x : Entry). x.symbol.Value < 4294967296) (sym m.is) (entry_small file bytes e.number).value in
      let room = word_room w t.shape in
      omega (arith, low, room)

  -- the place of a symbol is there
  pub place_there : (p : ℕ) (e : Entry) → slice_get (entries_in t) p ≡ Some e → (k : ℕ) → position_of (sections_in t) e.symbol.SectionNumber ≡ Some k → HasOffset object.sections k e.symbol.Value
  place_there p e there k is = of (placed_section t e.symbol.SectionNumber k is)
    where
      of : IsPlacedSection t e.symbol.SectionNumber k → HasOffset object.sections k e.symbol.Value
      of m = at (section_from t k m.section m.there)
        where
          at : IsFrom (section_at t) (length t.sections) k m.section → HasOffset object.sections k e.symbol.Value
          at from = by (section_by t from.k m.section from.is)
            where
              by : IsOf t from.k m.section → HasOffset object.sections k e.symbol.Value
              by o = (stored_section (keys_of t) m.section, slice_get-map (stored_section (keys_of t)) (sections_in t) k ∙ ap (option_map (stored_section (keys_of t))) m.there, inside)
                where
                  number : from.k + 1 ≡ e.symbol.SectionNumber
                  number = ap (λ (s : parts.Section). s.number) o.is ∙ m.number_is

                  has : has_section e.symbol ≡ true
                  has =
                      let one : nat_le 1 e.symbol.SectionNumber ≡ true = some e.symbol.SectionNumber from.k number in
                      ap (λ b. b && nat_le e.symbol.SectionNumber IMAGE_SYM_SECTION_MAX_EX) one ∙ m.nameable
                    where
                      some : (n k : ℕ) → k + 1 ≡ n → nat_le 1 n ≡ true
                      some n k same = grind (arith, nat_tests)

                  table : section_numbered t e.symbol.SectionNumber ≡ Some o.table
                  table =
                      let before : from.k + 1 - 1 ≡ from.k = omega arith in
                      ap (section_numbered t) (sym number)
                      ∙ ap (λ b. cond b None (slice_get t.sections (from.k + 1 - 1))) (ne_eqb (from.k + 1) 0 (λ z. absurd (omega (arith, z))))
                      ∙ ap (slice_get t.sections) before ∙ o.here

                  inside : e.symbol.Value ≤ m.section.size
                  inside =
                      let sound = (sound_at p e there).1 in
                      let fits : nat_lt o.table.header.SizeOfRawData e.symbol.Value ≡ false
                      = sym (ap (λ b. b && option_map_or (λ (x : SectionTable). nat_lt x.header.SizeOfRawData e.symbol.Value) (section_numbered t e.symbol.SectionNumber) false) has
                      ∙ ap (λ (o : Option SectionTable). option_map_or (λ (x : SectionTable). nat_lt x.header.SizeOfRawData e.symbol.Value) o false) table)
                      ∙ sound.inside in
                      let size : o.table.header.SizeOfRawData ≡ m.section.size = ap (λ (s : parts.Section). s.size) o.is in
                      within o.table.header.SizeOfRawData e.symbol.Value m.section.size fits size
                    where
                      within : (a b c : ℕ) → nat_lt a b ≡ false → a ≡ c → b ≤ c
                      within a b c e same = grind (arith, nat_tests)

  -- a value is one of the object
  pub value_there : (p : ℕ) (e : Entry) → slice_get (entries_in t) p ≡ Some e → (v : Value) → value_of (sections_in t) e.symbol ≡ Some v → IsValue object v
  unfolding value_of
  value_there p e there v is = by (nat_eq e.symbol.SectionNumber 4294967295) (position_of (sections_in t) e.symbol.SectionNumber) refl is
    where
      by : (b : Bool) (o : Option ℕ) → position_of (sections_in t) e.symbol.SectionNumber ≡ o → cond b (Some (value.Absolute e.symbol.Value)) (option_map (λ k. value.Place k e.symbol.Value) o) ≡ Some v → IsValue object v
      by true o g h = subst (IsValue object) (same_Some (value.Absolute e.symbol.Value) v h) (value_small p e there)
      by false None g h = absurd (none-some v h)
      by false (Some k) g h = subst (IsValue object) (same_Some (value.Place k e.symbol.Value) v h) (place_there p e there k g)

  -- an EXTERNAL symbol has a strong binding
  external_strong : (s : SymbolEntry) (b : Binding) → external_binding (sections_in t) s ≡ Some b → is_strong b ≡ true
  external_strong s b is = by (nat_eq s.SectionNumber 0) (nat_eq s.Value 0) (value_of (sections_in t) s) is
    where
      by : (a c : Bool) (o : Option Value) → cond a (cond c (Some Undefined) (Some (Common s.Value (natural_align s.Value)))) (option_map Global o) ≡ Some b → is_strong b ≡ true
      by a c o h = grind arith

  external_there : (p : ℕ) (e : Entry) → slice_get (entries_in t) p ≡ Some e → (b : Binding) → external_binding (sections_in t) e.symbol ≡ Some b → IsBinding object (placed_binding (symbols_in t) b)
  external_there p e there b is = by (nat_eq e.symbol.SectionNumber 0) (nat_eq e.symbol.Value 0) (value_of (sections_in t) e.symbol) refl is
    where
      by : (a c : Bool) (o : Option Value) → value_of (sections_in t) e.symbol ≡ o → cond a (cond c (Some Undefined) (Some (Common e.symbol.Value (natural_align e.symbol.Value)))) (option_map Global o) ≡ Some b
          → IsBinding object (placed_binding (symbols_in t) b)
      by true true o g h = subst (λ (b : Binding). IsBinding object (placed_binding (symbols_in t) b)) (same_Some Undefined b h) tt
      by true false o g h = subst (λ (b : Binding). IsBinding object (placed_binding (symbols_in t) b)) (same_Some (Common e.symbol.Value (natural_align e.symbol.Value)) b h) (value_small p e there, natural_aligns e.symbol.Value)
      by false c None g h = absurd (none-some b h)
      by false c (Some v) g h = subst (λ (b : Binding). IsBinding object (placed_binding (symbols_in t) b)) (same_Some (Global v) b h) (value_there p e there v g)

  local_there : (p : ℕ) (e : Entry) → slice_get (entries_in t) p ≡ Some e → (name : List ℕ) (b : Binding) → local_binding (sections_in t) (entries_in t) name e ≡ Some b → IsBinding object (placed_binding (symbols_in t) b)
  local_there p e there name b is = by (is_own (entries_in t) e || is_nothing name) (value_of (sections_in t) e.symbol) refl is
    where
      by : (a : Bool) (o : Option Value) → value_of (sections_in t) e.symbol ≡ o → cond a None (option_map Local o) ≡ Some b → IsBinding object (placed_binding (symbols_in t) b)
      by true o g h = absurd (none-some b h)
      by false None g h = absurd (none-some b h)
      by false (Some v) g h = subst (λ (b : Binding). IsBinding object (placed_binding (symbols_in t) b)) (same_Some (Local v) b h) (value_there p e there v g)

  -- the symbol at a position has the number that it has in the file
  number_at : (q : ℕ) (y : parts.Symbol) → slice_get (symbols_in t) q ≡ Some y → number_of (map (computed_symbol (symbols_in t)) (symbols_in t)) q ≡ y.number
  number_at q y there =
      ap (λ (o : Option Symbol). option_map_or (λ (s : Symbol). s.number) o 0)
      (slice_get-map (computed_symbol (symbols_in t)) (symbols_in t) q ∙ ap (option_map (computed_symbol (symbols_in t))) there)

  original_at : (q : ℕ) (y : parts.Symbol) → slice_get (symbols_in t) q ≡ Some y → IsOriginal (map (computed_symbol (symbols_in t)) (symbols_in t)) q
  original_at q y there j before same =
      let below = slice_get_within (symbols_in t) q y there in
      let other : slice_get (symbols_in t) j ≡ Some (get_or (symbols_in t) j y) = slice_get-get_or (symbols_in t) j y (omega (arith, below, before)) in
      symbols_numbered file head j q (get_or (symbols_in t) j y) y before other there (sym (number_at j (get_or (symbols_in t) j y) other) ∙ same ∙ number_at q y there)

  pub original_there : (q : ℕ) (y : parts.Symbol) → slice_get (symbols_in t) q ≡ Some y → IsOriginal object.symbols q
  original_there q y there = subst (λ (ss : List Symbol). IsOriginal ss q) symbols_same (original_at q y there)

  -- a default that is a symbol of other files
  named_there : (q : ℕ) (d : Entry) (y : parts.Symbol) → slice_get (entries_in t) q ≡ Some d → is_class IMAGE_SYM_CLASS_EXTERNAL d.symbol ≡ true → symbol_of t.strings (sections_in t) (entries_in t) d ≡ Some y
      → (s : Symbol) × (slice_get object.symbols (symbol_place (symbols_in t) d.number) ≡ Some s) × (is_strong s.binding ≡ true) × IsOriginal object.symbols (symbol_place (symbols_in t) d.number)
  unfolding binding_of
  named_there q d y at external is = by (carried_symbol t d y is)
    where
      stands : slice_get (symbols_in t) (symbol_place (symbols_in t) y.number) ≡ Some y
      stands = symbol_stands file head q d y at is

      by : IsCarried t d y → (s : Symbol) × (slice_get object.symbols (symbol_place (symbols_in t) d.number) ≡ Some s) × (is_strong s.binding ≡ true) × IsOriginal object.symbols (symbol_place (symbols_in t) d.number)
      by m = (
        computed_symbol (symbols_in t) y,
        ap (λ (ss : List Symbol). slice_get ss (symbol_place (symbols_in t) d.number)) (sym symbols_same)
            ∙ slice_get-map (computed_symbol (symbols_in t)) (symbols_in t) (symbol_place (symbols_in t) d.number) ∙ ap (option_map (computed_symbol (symbols_in t))) here,
        strong,
        original_there (symbol_place (symbols_in t) d.number) y here,
      )
        where
          number : y.number ≡ d.number
          number = sym (ap (λ (x : parts.Symbol). x.number) m.is)

          here : slice_get (symbols_in t) (symbol_place (symbols_in t) d.number) ≡ Some y
          here = ap (λ (n : ℕ). slice_get (symbols_in t) (symbol_place (symbols_in t) n)) (sym number) ∙ stands

          bound : external_binding (sections_in t) d.symbol ≡ Some m.binding
          bound = sym (ap (λ c. cond c (external_binding (sections_in t) d.symbol) (cond (is_class IMAGE_SYM_CLASS_WEAK_EXTERNAL d.symbol) (weak_binding (sections_in t) (entries_in t) d)
              (cond (is_class IMAGE_SYM_CLASS_STATIC d.symbol || is_class IMAGE_SYM_CLASS_LABEL d.symbol) (local_binding (sections_in t) (entries_in t) (name_of t.strings d) d) None))) external) ∙ m.bound

          placed_strong : (b : Binding) → is_strong b ≡ true → is_strong (placed_binding (symbols_in t) b) ≡ true
          placed_strong b e = grind arith

          strong : is_strong (placed_binding (symbols_in t) y.binding) ≡ true
          strong = placed_strong y.binding (ap is_strong (sym (ap (λ (x : parts.Symbol). x.binding) m.is)) ∙ external_strong d.symbol m.binding bound)

  fallback_there : (q : ℕ) (d : Entry) → slice_get (entries_in t) q ≡ Some d → (f : Fallback) → fallback_by (sections_in t) d ≡ Some f
      → (is_class IMAGE_SYM_CLASS_EXTERNAL d.symbol ≡ true → (y : parts.Symbol) × (symbol_of t.strings (sections_in t) (entries_in t) d ≡ Some y)) → IsBinding object (placed_binding (symbols_in t) (Weak f))
  fallback_there q d at f is carried = by (is_class IMAGE_SYM_CLASS_EXTERNAL d.symbol) refl (value_of (sections_in t) d.symbol) refl is
    where
      by : (a : Bool) → is_class IMAGE_SYM_CLASS_EXTERNAL d.symbol ≡ a → (o : Option Value) → value_of (sections_in t) d.symbol ≡ o → cond a (Some (fallback.Name d.number)) (option_map fallback_at o) ≡ Some f
          → IsBinding object (placed_binding (symbols_in t) (Weak f))
      by true g o h e =
          let y = carried g in
          subst (λ (f : Fallback). IsBinding object (placed_binding (symbols_in t) (Weak f))) (same_Some (fallback.Name d.number) f e) (named_there q d y.0 at g y.1)
      by false g None h e = absurd (none-some f e)
      by false g (Some (value.Place k offset)) h e = subst (λ (f : Fallback). IsBinding object (placed_binding (symbols_in t) (Weak f))) (same_Some (fallback.Place k offset) f e) (value_there q d at (value.Place k offset) h)
      by false g (Some (value.Absolute n)) h e = subst (λ (f : Fallback). IsBinding object (placed_binding (symbols_in t) (Weak f))) (same_Some fallback.Zero f e) tt

  weak_there : (p : ℕ) (e : Entry) → slice_get (entries_in t) p ≡ Some e → is_class IMAGE_SYM_CLASS_WEAK_EXTERNAL e.symbol ≡ true → (b : Binding) → weak_binding (sections_in t) (entries_in t) e ≡ Some b
      → IsBinding object (placed_binding (symbols_in t) b)
  weak_there p e there weak b is = of (tag_of e) refl is
    where
      of : (o : Option ℕ) → tag_of e ≡ o → option_map Weak (option_and_then (fallback_by (sections_in t)) (option_and_then (entry_numbered (entries_in t)) o)) ≡ Some b → IsBinding object (placed_binding (symbols_in t) b)
      of None g h = absurd (none-some b h)
      of (Some j) g h = entry (entry_numbered (entries_in t) j) refl h
        where
          entry : (o : Option Entry) → entry_numbered (entries_in t) j ≡ o → option_map Weak (option_and_then (fallback_by (sections_in t)) o) ≡ Some b → IsBinding object (placed_binding (symbols_in t) b)
          entry None k h = absurd (none-some b h)
          entry (Some d) k h = fall (fallback_by (sections_in t) d) refl h
            where
              q : IsPassed (λ (y : Entry). nat_eq y.number j) (entries_in t) d
              q = find_from (λ (y : Entry). nat_eq y.number j) (entries_in t) d k

              can : can_be_tagged (sections_in t) d.symbol ≡ true
              can = sym (ap (λ (o : Option Entry). option_map_or (λ (d : Entry). can_be_tagged (sections_in t) d.symbol) o false) (ap (option_and_then (entry_numbered (entries_in t))) g ∙ k)) ∙ (sound_at p e there).1.tags weak

              fall : (o : Option Fallback) → fallback_by (sections_in t) d ≡ o → option_map Weak o ≡ Some b → IsBinding object (placed_binding (symbols_in t) b)
              fall None l h = absurd (none-some b h)
              fall (Some f) l h = subst (λ (b : Binding). IsBinding object (placed_binding (symbols_in t) b)) (same_Some (Weak f) b h)
                  (fallback_there q.place d q.there f l (λ external. external_entry file head clean bytes q.place d q.there external (tagged_other d (sections_in t) external can)))

  -- a binding speaks of things that are there
  pub binding_there : (p : ℕ) (e : Entry) → slice_get (entries_in t) p ≡ Some e → (b : Binding) → binding_of (sections_in t) (entries_in t) (name_of t.strings e) e ≡ Some b → IsBinding object (placed_binding (symbols_in t) b)
  unfolding binding_of
  binding_there p e there b is =
      by (is_class IMAGE_SYM_CLASS_EXTERNAL e.symbol) (is_class IMAGE_SYM_CLASS_WEAK_EXTERNAL e.symbol) refl (is_class IMAGE_SYM_CLASS_STATIC e.symbol || is_class IMAGE_SYM_CLASS_LABEL e.symbol) is
    where
      by : (a c : Bool) → is_class IMAGE_SYM_CLASS_WEAK_EXTERNAL e.symbol ≡ c → (s : Bool)
          → cond a (external_binding (sections_in t) e.symbol) (cond c (weak_binding (sections_in t) (entries_in t) e) (cond s (local_binding (sections_in t) (entries_in t) (name_of t.strings e) e) None)) ≡ Some b
          → IsBinding object (placed_binding (symbols_in t) b)
      by true c g s h = external_there p e there b h
      by false true g s h = weak_there p e there g b h
      by false false g true h = local_there p e there (name_of t.strings e) b h
      by false false g false h = absurd (none-some b h)

  -- a carried symbol has a name
  pub named_full : (p : ℕ) (e : Entry) → slice_get (entries_in t) p ≡ Some e → (b : Binding) → binding_of (sections_in t) (entries_in t) (name_of t.strings e) e ≡ Some b → name_of t.strings e ≢ []
  unfolding binding_of
  named_full p e there b is none =
      by (is_class IMAGE_SYM_CLASS_EXTERNAL e.symbol) (is_class IMAGE_SYM_CLASS_WEAK_EXTERNAL e.symbol) refl refl (is_class IMAGE_SYM_CLASS_STATIC e.symbol || is_class IMAGE_SYM_CLASS_LABEL e.symbol) is
    where
      nothing : is_nothing (name_of t.strings e) ≡ true
      nothing = ap is_nothing none

      public : is_external e.symbol ≡ true → ⊥
      public external = true≢false (sym (ap (λ b. b && is_nothing (name_of t.strings e)) external ∙ nothing) ∙ (sound_at p e there).1.full)

      or_true : (a : Bool) → (a || true) ≡ true
      or_true a = grind arith

      local : (a c : Bool) (o : Option Value) → c ≡ true → cond (a || c) None (option_map Local o) ≡ Some b → ⊥
      local a c o g h = grind arith

      by : (a c : Bool) → is_class IMAGE_SYM_CLASS_EXTERNAL e.symbol ≡ a → is_class IMAGE_SYM_CLASS_WEAK_EXTERNAL e.symbol ≡ c → (s : Bool)
          → cond a (external_binding (sections_in t) e.symbol) (cond c (weak_binding (sections_in t) (entries_in t) e) (cond s (local_binding (sections_in t) (entries_in t) (name_of t.strings e) e) None)) ≡ Some b → ⊥
      by true c g k s h = public (ap (λ b. b || is_class IMAGE_SYM_CLASS_WEAK_EXTERNAL e.symbol) g)
      by false true g k s h = public (ap (λ b. is_class IMAGE_SYM_CLASS_EXTERNAL e.symbol || b) k ∙ or_true (is_class IMAGE_SYM_CLASS_EXTERNAL e.symbol))
      by false false g k true h = local (is_own (entries_in t) e) (is_nothing (name_of t.strings e)) (value_of (sections_in t) e.symbol) nothing h
      by false false g k false h = none-some b h

  -- a carried symbol is one of the object
  pub symbol_whole : (p : ℕ) (e : Entry) → slice_get (entries_in t) p ≡ Some e → (x : parts.Symbol) → symbol_of t.strings (sections_in t) (entries_in t) e ≡ Some x → length t.entries < 4294967296
      → IsSymbol object (computed_symbol (symbols_in t) x)
  symbol_whole p e there x is few = by (carried_symbol t e x is)
    where
      by : IsCarried t e x → IsSymbol object (computed_symbol (symbols_in t) x)
      by m = subst (λ (y : parts.Symbol). IsSymbol object (computed_symbol (symbols_in t) y)) m.is (record {
        named = named_full p e there m.binding m.bound;
        name = let entry = entry_at file head clean p e there in subst (λ (y : Entry). AreBytes (name_of t.strings y)) (sym entry.is) (entry_name_bytes file bytes e.number);
        binding = binding_there p e there m.binding m.bound;
        size = let room = word_room w t.shape in omega (arith, room);
        number = let entry = entry_at file head clean p e there in let low = entry.low in omega (arith, low, few);
      })
