-- What is built of a file without faults can be finished.
use Rattle.std.proofs.Common.{Bool, List, None, Option, Some, [], ap, arith, bytes_eq, cond, drop, false, length, map, not, refl, slice_get, subst, sym, true, true≢false, ℕ, ◌%◌, ◌&&◌, ◌+◌, ◌-◌, ◌/◌, ◌<◌, ◌^◌, ◌||◌, ◌∙◌, ◌∷◌, ◌≡◌, ◌≢◌}
use Rattle.std.proofs.lemmas.Option.{none-some, slice_get-get_or, slice_get-map, slice_get_within}
use Rattle.std.specs.{List.{AllByRecursion, enumerate_from}, Option.{option_map, option_map_or, unwrap_or}}
use Rattle.oc_base.specs.{Formats.{word_for}, declared.format.Word.{Word}}
use Rattle.oc_linking.specs.{Numbers.{modulus}, declared.terms.Keep.{Keep}}
use Rattle.oc_chains.specs.declared.field.Field.{Field}
use Rattle.oc_macho.specs.{Aims.{aim_in}, Entries.{is_pinned, target_entry}, Fields.{taken_section}, MachHeader.{mach_format}, Rules.{mach_dialect, symbols_in}}
use Rattle.oc_macho.specs.Sections.{section_of, sections_in}
use Rattle.oc_macho.specs.Symbols.{binding_of, is_carried, is_external, is_own, is_stab, is_type, name_at, name_of, offset_of, value_of}
use Rattle.oc_macho.specs.{Tables.{SectionTable, Tables, tables_of}, declared.constants.TheConstants.{N_ABS, N_SECT, N_UNDF}, declared.nlist.Nlist.{Nlist}}
use Rattle.oc_macho.specs.declared.relocation_info.Reference.{Reference}
use Rattle.oc_macho_read.proofs.{AddedLemmas.{symbols_same}, AimLemmas.{Carried, IsAim, IsNamed, Own, ToAddress, ToSection, ToSymbol, aim_is}}
use Rattle.oc_macho_read.proofs.{CompleteLemmas.{leaves_blanks, readable, strings_bytes, symbol_small}, ItemLemmas.{call_row, found_as}}
use Rattle.oc_macho_read.proofs.{SectionedLemmas.{section_from, section_there, sound_section}, ShownLemmas.{built_is_shown, is_started}}
use Rattle.oc_macho_read.proofs.StandingLemmas.{given_same, given_standing}
use Rattle.oc_macho_read.proofs.SymbolLemmas.{IsSoundSymbol, as_computed, as_part, carried_at, each_binding, each_outer, from_number, has_home, known_section, left_at, local_defined, not_stab, offset_low, sound_symbol, stands_at, symbol_stands, symbols_are, symbols_numbered}
use Rattle.oc_shelf.proofs.{ReadingLaws.ByteLemmas.{all_drop, all_text}, ReadingLaws.CollectedLemmas.{all_mapped}}
use Rattle.oc_macho_read.specs.{Adding.{IsClean}, Built.{started}, Given.{given_at, target_for}}
use Rattle.oc_shows.proofs.{BuiltWhole.{built_is_complete, built_is_readable}, StartedLaws.{fieldless_at}}
use Rattle.oc_neutral.specs.{Building.{Draft}, Faces.{number_of}}
use Rattle.oc_neutral.specs.Invariants.{AreBegun, AreBytes, HasOffset, IsAlign, IsBinding, IsComplete, IsDraft, IsHinted, IsOriginal, IsSymbol, IsValue, NamesOriginal, groups_of}
use Rattle.oc_neutral.specs.{Objects.{Object}, Rows.{Taken}, declared.reloc.Reloc.{Reloc}, declared.section.Section.{Section}, declared.symbol.Symbol.{Symbol}}
use Rattle.oc_shows.specs.{Built.{HasAdded, IsStarted}, Computed.{computed_symbol, position_of}, Finished.{AreFinal}, Readable.{IsReadable}, Shows.{Shows}}
use Rattle.oc_shows.specs.Started.{stored_section}
use Rattle.oc_shelf.specs.Reading.Texts.{text_at}
use Rattle.oc_linking.specs.Parts as parts
use Rattle.oc_linking.specs.declared.terms.Value.TheVariants as value
use Rattle.oc_neutral.specs.Rows as rows
use Rattle.oc_macho.specs.Aims as aims
use Rattle.oc_macho.specs.declared.relocation_info.Reference.TheVariants as reference
use Rattle.oc_macho_read.specs.Given as given

groups_none : (xs : List (ℕ × SectionTable)) → AreBegun 0 0 (groups_of (map (stored_section []) (map section_of xs)))
unfolding section_of
groups_none [] = refl
groups_none (x ∷ xs) = (tt, groups_none xs)

all_bytes : (t : Tables) → AreBytes t.strings → (s : Nlist) → AreBytes (name_of t s)
unfolding name_at
all_bytes t bytes s = by (text_at t.strings s.n_strx) refl
  where
    by : (o : Option (List ℕ)) → text_at t.strings s.n_strx ≡ o → AreBytes (unwrap_or o [])
    by None e = tt
    by (Some text) e = all_text (λ x. x < 2 ^ 8) (drop s.n_strx t.strings) text (all_drop (λ x. x < 2 ^ 8) s.n_strx t.strings bytes) e

-- a carried symbol has a name
named_full : (t : Tables) (j : ℕ) (s : Nlist) → IsSoundSymbol t j s → is_carried t s ≡ true → name_of t s ≢ []
named_full t j s sound carried none =
    by (not (is_stab s) && not (is_own t s)) (is_external s) refl (ap (λ (l : List ℕ). bytes_eq l []) none) carried
  where
    by : (a b : Bool) → is_external s ≡ b → bytes_eq (name_of t s) [] ≡ true → (a && (b || not (bytes_eq (name_of t s) []))) ≡ true → ⊥
    by a true e f g = true≢false (sym (ap (λ b. b && bytes_eq (name_of t s) []) e ∙ f) ∙ sound.full)
    by a false e f g = absurd (last a (not (bytes_eq (name_of t s) [])) (ap not f) g)
      where
        last : (a b : Bool) → b ≡ false → (a && b) ≡ true → ⊥
        last a b e f = grind arith

align_small : (n : ℕ) → IsAlign (2 ^ (n / 2 ^ 8 % 16))
align_small n = (n / 2 ^ 8 % 16, omega arith, refl)

module _ (w : Word) (file : List ℕ) (bytes : AreBytes file) (keep : Keep) (clean : IsClean (tables_of w file) keep) where
  abbrev t : Tables
  t = tables_of w file

  abbrev object : Object
  object = (started t keep).object

  word_is : modulus (word_for object.format) ≡ modulus w
  unfolding tables_of
  word_is = by w
    where
      by : (w : Word) → modulus (word_for (mach_format w)) ≡ modulus w
      by w = grind arith

  -- an offset of a symbol in its section is one of the object's
  place_whole : (j : ℕ) (s : Nlist) → IsSoundSymbol t j s → is_type N_SECT s ≡ true → HasOffset object.sections (s.n_sect - 1) (offset_of t s)
  unfolding section_of
  place_whole j s sound sect =
      let home = has_home t j s sound sect in
      let low = offset_low t s home in (
        stored_section [] (section_of (s.n_sect - 1 + 1, home.table)),
        slice_get-map (stored_section []) (sections_in t) (s.n_sect - 1) ∙ ap (option_map (stored_section [])) (section_there t (s.n_sect - 1) home.table home.there),
        low,
      )

  value_whole : (j : ℕ) (s : Nlist) → slice_get t.symbols j ≡ Some s → IsSoundSymbol t j s → is_type N_UNDF s ≡ false → IsValue object (value_of t s)
  value_whole j s here sound defined = by (is_type N_ABS s) refl
    where
      by : (b : Bool) → is_type N_ABS s ≡ b → IsValue object (cond b (value.Absolute s.n_value) (value.Place (s.n_sect - 1) (offset_of t s)))
      by true e = subst (λ (m : ℕ). s.n_value < m) (sym word_is) (symbol_small w file bytes j s here)
      by false e = place_whole j s sound (known_section s sound.known defined e)

  binding_whole : (j : ℕ) (s : Nlist) → slice_get t.symbols j ≡ Some s → IsSoundSymbol t j s → IsBinding object (binding_of t s)
  binding_whole j s here sound =
      each_binding t s (IsBinding object)
      (λ local. value_whole j s here sound (local_defined s sound.known local))
      (λ e g. each_outer s (IsBinding object) tt tt (subst (λ (m : ℕ). s.n_value < m) (sym word_is) (symbol_small w file bytes j s here), align_small s.n_desc))
      (λ e sect. place_whole j s sound sect)
      (λ e defined. value_whole j s here sound defined)

  room : 0 < modulus (word_for object.format)
  room = subst (λ (m : ℕ). 0 < m) (sym word_is) (by w)
    where
      by : (w : Word) → 0 < modulus w
      by w = grind arith

  symbol_whole : length t.symbols < 2 ^ 32 → (k : ℕ) (x : parts.Symbol) → slice_get (symbols_in t keep) k ≡ Some x → IsSymbol object (computed_symbol (symbols_in t keep) x)
  symbol_whole few k x at =
      let from = from_number t keep k x at in
      let m = stands_at t keep from.k x from.is in
      let sound = sound_symbol t clean.symbols from.k m.nlist m.there (not_stab t m.nlist m.carried) in
      subst (λ (y : parts.Symbol). IsSymbol object (computed_symbol (symbols_in t keep) y)) m.is
      (subst (IsSymbol object) (sym (as_computed (symbols_in t keep) t (is_pinned t keep from.k) from.k m.nlist)) (record {
        named = named_full t from.k m.nlist sound m.carried;
        name = all_bytes t (strings_bytes w file bytes) m.nlist;
        binding = binding_whole from.k m.nlist m.there sound;
        size = room;
        number = let low = from.below in omega (arith, low, few);
      }))

  aligned : (k : ℕ) (s : parts.Section) → slice_get (sections_in t) k ≡ Some s → IsAlign s.align
  unfolding section_of
  aligned k s at =
      let m = section_from t k s at in
      let low = (sound_section t clean.sections k m.0 m.1).align in
      subst (λ (y : parts.Section). IsAlign y.align) m.2 (m.0.header.align, omega (arith, low), refl)

  pub complete : length t.symbols < 2 ^ 32 → IsComplete object
  unfolding sections_in
  complete few = record {
    keys = record { differ = λ i j g h low at_i at_j. absurd (none-some g at_i); full = tt };
    begun = groups_none (enumerate_from 1 t.sections);
    aligns = all_mapped (λ (x : Section). IsAlign x.align) (stored_section []) (sections_in t) aligned;
    symbols = subst (AllByRecursion (IsSymbol object)) (ap (map (computed_symbol (symbols_in t keep))) (symbols_are t keep)) (all_mapped (IsSymbol object) (computed_symbol (symbols_in t keep)) (symbols_in t keep) (symbol_whole few));
    hints = λ s. subst (AllByRecursion (λ (x : Field Reloc). IsHinted x.item)) (sym (fieldless_at {T = Reloc} (map (stored_section []) (sections_in t)) s)) tt;
    originals = λ s. subst (AllByRecursion (λ (x : Field Reloc). NamesOriginal object.symbols x.item.target)) (sym (fieldless_at {T = Reloc} (map (stored_section []) (sections_in t)) s)) tt;
  }

  -- ... what is given

  -- a symbol of the object is the first of its number
  original : (j : ℕ) (s : Nlist) → slice_get t.symbols j ≡ Some s → is_carried t s ≡ true → IsOriginal object.symbols (position_of (symbols_in t keep) j)
  original j s here carried k less same =
      let p = position_of (symbols_in t keep) j in
      let x = as_part t (is_pinned t keep j) j s in
      let stands = symbol_stands t keep j x (slice_get_within t.symbols j s here) (carried_at t keep j s here carried) in
      by (slice_get (symbols_in t keep) k) refl p stands
    where
      number_at_place : (q : ℕ) (y : parts.Symbol) → slice_get (symbols_in t keep) q ≡ Some y → number_of object.symbols q ≡ y.number
      number_at_place q y at =
          ap (λ (ss : List Symbol). number_of ss q) (symbols_same w file keep clean)
          ∙ ap (λ (o : Option Symbol). option_map_or (λ (z : Symbol). z.number) o 0) (slice_get-map (computed_symbol (symbols_in t keep)) (symbols_in t keep) q ∙ ap (option_map (computed_symbol (symbols_in t keep))) at)

      by : (o : Option parts.Symbol) → slice_get (symbols_in t keep) k ≡ o → (p : ℕ) → slice_get (symbols_in t keep) p ≡ Some (as_part t (is_pinned t keep j) j s) → ⊥
      by None e p stands =
          let low = slice_get_within (symbols_in t keep) (position_of (symbols_in t keep) j) (as_part t (is_pinned t keep j) j s)
          (symbol_stands t keep j (as_part t (is_pinned t keep j) j s) (slice_get_within t.symbols j s here) (carried_at t keep j s here carried)) in
          absurd (none-some _ (sym e ∙ slice_get-get_or (symbols_in t keep) k (as_part t (is_pinned t keep j) j s) (omega (arith, low, less))))
      by (Some y) e p stands =
          symbols_numbered t keep k (position_of (symbols_in t keep) j) y (as_part t (is_pinned t keep j) j s) less e
          (symbol_stands t keep j (as_part t (is_pinned t keep j) j s) (slice_get_within t.symbols j s here) (carried_at t keep j s here carried))
          (sym (number_at_place k y e) ∙ same
          ∙ number_at_place (position_of (symbols_in t keep) j) (as_part t (is_pinned t keep j) j s)
          (symbol_stands t keep j (as_part t (is_pinned t keep j) j s) (slice_get_within t.symbols j s here) (carried_at t keep j s here carried)))

  target_original : (r : Reference) (a : aims.Aim) → aim_in t r ≡ Some (Some a) → NamesOriginal object.symbols (target_for t keep r)
  target_original r a aimed = by (aim_is t r a aimed)
    where
      named : (j : ℕ) → IsNamed t j a → NamesOriginal object.symbols (target_for t keep (reference.Symbol j))
      named j (Carried m) =
          subst (NamesOriginal object.symbols)
          (sym (ap (given.target_by (option_map_or (λ (s : Nlist). s.n_sect - 1) (slice_get t.symbols j) 0))
          (ap (option_map (λ (x : parts.Symbol). position_of (symbols_in t keep) x.number)) (carried_at t keep j m.nlist m.there m.carried)))) (original j m.nlist m.there m.carried)
      named j (Own s here left offset m counted) =
          subst (NamesOriginal object.symbols)
          (sym (ap (given.target_by (option_map_or (λ (s : Nlist). s.n_sect - 1) (slice_get t.symbols j) 0))
          (ap (option_map (λ (x : parts.Symbol). position_of (symbols_in t keep) x.number)) (left_at t keep j s here left)))) tt

      by : IsAim t r a → NamesOriginal object.symbols (target_for t keep r)
      by (ToSymbol j is m) = subst (λ (x : Reference). NamesOriginal object.symbols (target_for t keep x)) (sym is) (named j m)
      by (ToSection k is m counted) = subst (λ (x : Reference). NamesOriginal object.symbols (target_for t keep x)) (sym is) tt
      by (ToAddress u k is held m counted) = subst (λ (x : Reference). NamesOriginal object.symbols (target_for t keep x)) (sym is) tt

  module _ (start : IsStarted (mach_dialect w) file keep (started t keep)) where
    are_final : AreFinal object (given_at t keep)
    are_final = record {
      hints = λ s at r e.
          let m = given_standing w file keep object start.symbols clean.relocs s at r e in
          let call = call_row t.word m.item.first m.good.row m.good.listed in
          subst IsHinted (given_same w file keep object start.symbols clean.relocs s at r e m)
          (λ c. let row = call c in (row.0, ap (λ (l : Taken). rows.less_of l (taken_section (found_as t s m.c m.begun.k m.item m.good))) row.1, row.2));
      originals = λ s at r e.
          let m = given_standing w file keep object start.symbols clean.relocs s at r e in
          subst (λ (q : Reloc). NamesOriginal object.symbols q.target) (given_same w file keep object start.symbols clean.relocs s at r e m) (target_original (target_entry t.word m.item).refers m.good.aim m.good.aimed);
    }

    module _ (d : Draft) (added : HasAdded (started t keep) d (given_at t keep)) where
      pub read_complete : length t.symbols < 2 ^ 32 → IsComplete d.object
      read_complete few = built_is_complete (mach_dialect w) file keep (started t keep) d (given_at t keep) start added (complete few) are_final

      pub read_readable : IsReadable d.object
      read_readable = built_is_readable (mach_dialect w) file keep (started t keep) d (given_at t keep) start added (readable w file bytes keep clean) (leaves_blanks w file bytes keep clean start)

      pub read_shows : Shows (mach_dialect w) file keep d.object
      read_shows = built_is_shown w file keep clean.relocs d start added

-- ... in the words of what reads it

pub start_of_tables : (t : Tables) (w : Word) (file : List ℕ) (keep : Keep) → t ≡ tables_of w file → IsDraft (started t keep) → IsStarted (mach_dialect w) file keep (started t keep)
start_of_tables t w file keep same draft =
    subst (λ (u : Tables). IsStarted (mach_dialect w) file keep (started u keep)) (sym same) (is_started w file keep (subst (λ (u : Tables). IsDraft (started u keep)) same draft))

module _ (t : Tables) (w : Word) (file : List ℕ) (keep : Keep) (same : t ≡ tables_of w file) (bytes : AreBytes file) (clean : IsClean t keep) (draft : IsDraft (started t keep))
    (d : Draft) (added : HasAdded (started t keep) d (given_at t keep)) where
  clean_there : IsClean (tables_of w file) keep
  clean_there = subst (λ (u : Tables). IsClean u keep) same clean

  start_there : IsStarted (mach_dialect w) file keep (started (tables_of w file) keep)
  start_there = is_started w file keep (subst (λ (u : Tables). IsDraft (started u keep)) same draft)

  added_there : HasAdded (started (tables_of w file) keep) d (given_at (tables_of w file) keep)
  added_there = subst (λ (u : Tables). HasAdded (started u keep) d (given_at u keep)) same added

  pub whole_complete : length t.symbols < 2 ^ 32 → IsComplete d.object
  whole_complete few = read_complete w file bytes keep clean_there start_there d added_there (subst (λ (u : Tables). length u.symbols < 2 ^ 32) same few)

  pub whole_readable : IsReadable d.object
  whole_readable = read_readable w file bytes keep clean_there start_there d added_there

  pub whole_shows : Shows (mach_dialect w) file keep d.object
  whole_shows = read_shows w file bytes keep clean_there start_there d added_there
