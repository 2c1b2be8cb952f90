-- The listings of an object are those of the file that it shows.
use Rattle.std.proofs.Common.{◌≡◌, ℕ, ◌<◌, ◌≤◌, List, [], length, map, Option, Some, None, refl, sym, ◌∙◌, ap, subst, arith}
use Rattle.std.proofs.lemmas.{List.{length-map}, Option.{slice_get-map, slice_get_within}, List.Folds.{flat_map-map}}
use Rattle.std.specs.{Prelude.{filter_map, slice_get}, List.{flat_map, range_with_len}, Option.{option_and_then, option_map, option_map_or}}
use Rattle.oc_base.specs.Formats.{word_for}
use Rattle.oc_linking.specs.{declared.terms.Patch.{Patch}, Keeping.{all}, Linking.{patch_of}, Placing.{zeros}, Values.{Valuation, numbered, values}}
use Rattle.oc_linking.specs.Parts as parts
use Rattle.oc_chains.specs.{Fields.{end_of}, Lists.{held_in, list_of}}
use Rattle.oc_neutral.specs.{declared.reloc.Reloc.{Reloc}, declared.reloc.Target.{Target}, declared.section.Section.{Section}, declared.symbol.Symbol.{Symbol}}
use Rattle.oc_neutral.specs.{Building.{is_zero}, Dialects.{Dialect, Look, is_folded, looks_in, patches_in}}
use Rattle.oc_neutral.specs.Faces.{field_of, named_of, number_of, shown_section, shown_sections, shown_symbol, shown_symbols, frame_of}
use Rattle.oc_neutral.specs.{Invariants.{HasItsBytes, IsBinding, IsHeld, IsObject, IsSymbol, IsThere}, Objects.{Object, reloc_at}, Worth.{residue_at}}
use Rattle.oc_neutral.specs.declared.reloc.Target.TheVariants as target
use Rattle.oc_shows.specs.Shows.{AreNumbered, Shows, ShowsAt, reloc_look}
use Rattle.oc_neutral.proofs.{FoundRelocs.{found_at, widths_at}, Positions.{each_at, each_weaker, images_same, there_at}, SameParts.{bytes_within}}
use Rattle.oc_neutral.proofs.Scanning.{field_at, field_found, scanned}
use Rattle.oc_shows.proofs.{Truth.{values_fixed}, ShownComputed.{live_there}}
use Rattle.oc_listings.specs.{declared.listing.Listing.{Listing}, declared.listing.Listing.TheVariants.{Header, Sections, Relocations}}
use Rattle.oc_listings.specs.{Texts.{field_text, header_text, numbered_text, section_text, symbol_text}, Listings.{silent}}
use Rattle.oc_listings.specs.ObjectListings.{resting_residue, target_text, reloc_line, number_at, reloc_text_of}
use Rattle.oc_listings.specs.Listings as file
use Rattle.oc_listings.specs.ObjectListings as object
use Rattle.oc_listings.proofs.LineLaws.{filter_map-same, filter_map-map, flat_map-twice, flat_map-same, flat_map-numbered, held-lines}
use Rattle.oc_listings.proofs.RestLaws.{found_by_number, residue-rests, resting}

-- the lines of sections are those of their frames
frame-lines : (xs : List parts.Section) → flat_map (λ (s : parts.Section). section_text s.number s.kind s.align s.size s.name) (map frame_of xs)
    ≡ flat_map (λ (s : parts.Section). section_text s.number s.kind s.align s.size s.name) xs
frame-lines xs = flat_map-map (λ (s : parts.Section). section_text s.number s.kind s.align s.size s.name) frame_of xs

-- so are their numbers
frame-number : (xs : List parts.Section) (k : ℕ) → option_map_or (λ (s : parts.Section). s.number) (slice_get (map frame_of xs) k) 0 ≡ option_map_or (λ (s : parts.Section). s.number) (slice_get xs k) 0
frame-number xs k = ap (λ o. option_map_or (λ (s : parts.Section). s.number) o 0) (slice_get-map frame_of xs k) ∙ by (slice_get xs k)
  where
    by : (o : Option parts.Section) → option_map_or (λ (s : parts.Section). s.number) (option_map frame_of o) 0 ≡ option_map_or (λ (s : parts.Section). s.number) o 0
    by None = refl
    by (Some s) = refl

module _ (f : Dialect) (b : List ℕ) (n : Object) (fine : IsObject n) (shows : Shows f b all n) (worded : f.rules.word ≡ word_for f.format) where
  abbrev file_sections : List parts.Section
  file_sections = f.rules.sections b

  -- the word of the object
  word-same : f.rules.word ≡ word_for n.format
  word-same = worded ∙ ap word_for (sym shows.format)

  -- numbers differ
  differ : AreNumbered (shown_symbols n)
  differ = subst AreNumbered (sym shows.symbols) shows.numbered

  -- what the symbols of the file are worth is what those of the object are worth
  worth-same : file.resting_values f b ≡ resting (word_for n.format) n differ
  worth-same = ap (λ w. values w (f.rules.symbols b all) (f.rules.symbols b all) zeros silent) word-same ∙ ap (λ symbols. values (word_for n.format) symbols symbols zeros silent) (sym shows.symbols)

  -- the object shows the file there
  at_rest : ShowsAt f b all n zeros (file.resting_values f b)
  at_rest = shows.at zeros (file.resting_values f b) (values_fixed f.rules.word (f.rules.symbols b all) shows.numbered zeros silent)

  -- it has as many sections
  counted : length n.sections ≡ length file_sections
  counted =
      sym (length-map n.sections (shown_section n.groups)) ∙ sym (length-map (shown_sections n) frame_of) ∙ ap length shows.sections ∙ length-map file_sections frame_of

  -- the number of a section
  section-number : (k : ℕ) → file.number_of_section f b k ≡ number_at n k
  section-number k =
      sym (frame-number file_sections k) ∙ ap (λ xs. option_map_or (λ (s : parts.Section). s.number) (slice_get xs k) 0) (sym shows.sections) ∙ frame-number (shown_sections n) k
      ∙ ap (λ o. option_map_or (λ (s : parts.Section). s.number) o 0) (slice_get-map (shown_section n.groups) n.sections k) ∙ by (slice_get n.sections k)
    where
      by : (o : Option Section) → option_map_or (λ (s : parts.Section). s.number) (option_map (shown_section n.groups) o) 0 ≡ option_map_or (λ (s : Section). s.number) o 0
      by None = refl
      by (Some s) = refl

  -- what a relocation names
  named-same : (t : Target) → ((k : ℕ) → t ≡ target.Symbol k → (s : Symbol) × (slice_get n.symbols k ≡ Some s) × IsBinding n s.binding) → file.named_text f b (named_of n.symbols t) ≡ target_text n t
  named-same (target.Section k) there = ap numbered_text (section-number k)
  named-same (target.Symbol k) there =
      let s = there k refl in
      ap (λ symbols. symbol_text (option_map_or (λ (x : parts.Symbol). x.name) (numbered symbols (number_of n.symbols k)) [])) (sym shows.symbols)
      ∙ ap (λ o. symbol_text (option_map_or (λ (x : parts.Symbol). x.name) o [])) (found_by_number (word_for n.format) n differ k s.0 s.1)
      ∙ ap (λ o. symbol_text (option_map_or (λ (x : Symbol). x.name) o [])) (sym s.1)

  module _ (k : ℕ) (x : Section) (y : parts.Section) (here : slice_get n.sections k ≡ Some x) (there : slice_get file_sections k ≡ Some y) where
    -- the sections at one position have one frame
    framed : frame_of (shown_section n.groups x) ≡ frame_of y
    framed = images_same frame_of frame_of (shown_sections n) file_sections shows.sections k (shown_section n.groups x) y
        (slice_get-map (shown_section n.groups) n.sections k ∙ ap (option_map (shown_section n.groups)) here) there

    inside : k < length n.sections
    inside = slice_get_within n.sections k x here

    -- what a relocation names is there
    named_there : (offset : ℕ) (r : Reloc) → reloc_at n k offset ≡ Some r → (i : ℕ) → r.target ≡ target.Symbol i → (s : Symbol) × (slice_get n.symbols i ≡ Some s) × IsBinding n s.binding
    named_there offset r e i is =
        let normal = (found_at n fine k inside offset r e).0 in
        let low : i < length n.symbols = subst (IsThere n) is normal.target in
        let s = there_at n.symbols i low in
        (s.0, s.1, (each_at (IsSymbol n) n.symbols i s.0 fine.complete.symbols s.1).binding)

    -- the line of a field
    line-same : (offset : ℕ) → file.line_at f b k y.number offset ≡ option_map (reloc_line n y.number) (field_found (list_of n.relocs k) offset)
    line-same offset = by (reloc_at n k offset) refl
      where
        v : Valuation
        v = file.resting_values f b

        with : Option Look → Option Patch → Option (List ℕ)
        with look patch = option_and_then (λ (l : Look). option_map (file.look_text f b y.number offset l) patch) look

        by : (o : Option Reloc) → reloc_at n k offset ≡ o → with (looks_in f b all k offset) (patches_in f b all zeros v k offset) ≡ option_map (reloc_line n y.number) (option_map (field_at offset) o)
        by None e = ap (λ l. with l (patches_in f b all zeros v k offset)) (sym (shows.looks k offset) ∙ ap (option_map (reloc_look n)) e)
        by (Some r) e =
            let named = named_there offset r e in
            ap (λ l. with l (patches_in f b all zeros v k offset)) (sym (shows.looks k offset) ∙ ap (option_map (reloc_look n)) e)
            ∙ ap (λ p. with (Some (reloc_look n r)) p)
            (live_there (is_folded f b all k offset) (patches_in f b all zeros v k offset) (patch_of zeros v (field_of n k offset r))
            (sym (at_rest.patches k offset) ∙ ap (λ o. option_map (patch_of zeros v) (option_map (field_of n k offset) o)) e))
            ∙ ap (λ w. Some (field_text w y.number offset r.form.width r.form.check (residue_at (word_for n.format) n.symbols zeros v k offset r) (file.named_text f b (named_of n.symbols r.target))))
            (ap word_for (sym shows.format))
            ∙ ap (λ residue. Some (field_text (word_for n.format) y.number offset r.form.width r.form.check residue (file.named_text f b (named_of n.symbols r.target))))
            (ap (λ u. residue_at (word_for n.format) n.symbols zeros u k offset r) worth-same ∙ residue-rests (word_for n.format) n differ k offset r named)
            ∙ ap (λ text. Some (field_text (word_for n.format) y.number offset r.form.width r.form.check (resting_residue (word_for n.format) n.symbols offset r) text)) (named-same r.target named)

    -- the lines of the fields of a section
    lines-same : file.field_lines_of f b (k, y) ≡ map (reloc_line n (number_at n k)) (list_of n.relocs k)
    lines-same =
        let size : x.size ≡ y.size = ap (λ (s : parts.Section). s.size) framed in
        let has_bytes : HasItsBytes x = each_at HasItsBytes n.sections k x fine.built.bytes here in
        let within : length x.bytes ≤ x.size = bytes_within (is_zero x.kind) x.size (length x.bytes) has_bytes in
        let found : filter_map (field_found (list_of n.relocs k)) (range_with_len 0 y.size) ≡ list_of n.relocs k =
        scanned (field_found (list_of n.relocs k)) 0 y.size y.size (list_of n.relocs k) (omega arith) (fine.built.fields.apart k) (widths_at n fine k inside)
        (each_weaker (IsHeld n k x.bytes) (λ z. end_of z ≤ y.size) (λ z held. let ends = held.inside in omega (arith, ends, within, size)) (list_of n.relocs k) (fine.built.fields.each k x here))
        (λ offset l. refl) in
        let number : y.number ≡ number_at n k = ap (λ (s : parts.Section). s.number) (sym framed) ∙ ap (λ o. option_map_or (λ (s : Section). s.number) o 0) (sym here) in
        filter_map-same (file.line_at f b k y.number) (λ offset. option_map (reloc_line n y.number) (field_found (list_of n.relocs k) offset)) (range_with_len 0 y.size) line-same
        ∙ filter_map-map (field_found (list_of n.relocs k)) (reloc_line n y.number) (range_with_len 0 y.size)
        ∙ ap (map (reloc_line n y.number)) found
        ∙ ap (λ m. map (reloc_line n m) (list_of n.relocs k)) number

  -- the lines of all fields
  abbrev lines_at : ℕ → List (List ℕ)
  lines_at k = map (reloc_line n (number_at n k)) (list_of n.relocs k)

  all-lines : file.field_lines f b ≡ flat_map lines_at (range_with_len 0 (length n.sections))
  all-lines =
      flat_map-numbered (file.field_lines_of f b) lines_at 0 file_sections (λ j i y is here.
      let same : j ≡ i = omega (arith, is) in
      let there : slice_get file_sections i ≡ Some y = subst (λ m. slice_get file_sections m ≡ Some y) same here in
      let x = there_at n.sections i (let l = slice_get_within file_sections i y there in omega (arith, l, counted)) in
      lines-same i x.0 y x.1 there)
      ∙ ap (λ m. flat_map lines_at (range_with_len 0 m)) (sym counted)

  -- as many as the object has relocations
  lines-counted : length (file.field_lines f b) ≡ held_in n.relocs
  lines-counted =
      ap length all-lines ∙ ap (λ m. length (flat_map lines_at (range_with_len 0 m))) (sym fine.built.fields.counted)
      ∙ held-lines lines_at 0 n.relocs (λ j i is. length-map (list_of n.relocs i) (reloc_line n (number_at n i)) ∙ ap (λ m. length (list_of n.relocs m)) (omega (arith, is)))

  -- one after the other
  lines-joined : flat_map (λ line. line) (file.field_lines f b) ≡ flat_map (reloc_text_of n) (range_with_len 0 (length n.sections))
  lines-joined =
      ap (flat_map (λ line. line)) all-lines ∙ flat_map-twice (λ line. line) lines_at (range_with_len 0 (length n.sections))
      ∙ flat_map-same (λ k. flat_map (λ line. line) (lines_at k)) (reloc_text_of n) (range_with_len 0 (length n.sections))
      (λ k. flat_map-map (λ line. line) (reloc_line n (number_at n k)) (list_of n.relocs k))

  -- the lines of all sections
  sections-joined : flat_map (file.section_line f b) file_sections ≡ flat_map object.section_line n.sections
  sections-joined =
      sym (frame-lines file_sections) ∙ ap (flat_map (λ (s : parts.Section). section_text s.number s.kind s.align s.size s.name)) (sym shows.sections) ∙ frame-lines (shown_sections n)
      ∙ flat_map-map (λ (s : parts.Section). section_text s.number s.kind s.align s.size s.name) (shown_section n.groups) n.sections

  -- as many symbols
  symbols-counted : length (f.rules.symbols b all) ≡ length n.symbols
  symbols-counted = ap length (sym shows.symbols) ∙ length-map n.symbols (shown_symbol n.symbols)

  -- the listings
  pub listings-same : (listing : Listing) → file.listing_of f b listing ≡ object.object_listing n (length b) listing
  unfolding file.listing_of object.object_listing
  listings-same Header =
      ap (λ format. header_text format (length file_sections) (length (f.rules.symbols b all)) (length (file.field_lines f b)) (length b)) (sym shows.format)
      ∙ ap (λ m. header_text n.format m (length (f.rules.symbols b all)) (length (file.field_lines f b)) (length b)) (sym counted)
      ∙ ap (λ m. header_text n.format (length n.sections) m (length (file.field_lines f b)) (length b)) symbols-counted
      ∙ ap (λ m. header_text n.format (length n.sections) (length n.symbols) m (length b)) lines-counted
  listings-same Sections = sections-joined
  listings-same Relocations = lines-joined
