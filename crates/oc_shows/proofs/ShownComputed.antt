-- An object that shows a file is the file's.
use Rattle.std.proofs.Common.{◌≡◌, ℕ, ◌<◌, ◌≤◌, Bool, cond, List, [], ◌∷◌, length, map, Option, Some, None, refl, sym, ◌∙◌, ap, arith}
use Rattle.std.specs.{Prelude.{bytes_eq, slice_get}, List.{AllByRecursion, enumerate_from, position_or_len}, Option.{option_map, option_and_then}}
use Rattle.std.proofs.lemmas.{List.{length-map}, Option.{same_Some, slice_get-map, slice_get_within, get_or_from_slice_get}}
use Rattle.oc_base.specs.Formats.{word_for}
use Rattle.oc_linking.specs.{declared.terms.Keep.{Keep}, declared.terms.Patch.{Patch}, Placing.{zeros}, Values.{Valuation}, Images.{Patches, overlay}}
use Rattle.oc_linking.specs.{Linking.{patch_of}, Shows.{live_of, unders}}
use Rattle.oc_linking.specs.Parts as parts
use Rattle.oc_chains.specs.{declared.field.Field.{Field}, Fields.{end_of}, Lists.{list_of}}
use Rattle.oc_neutral.specs.{declared.section.Section.{Section}, declared.symbol.Symbol.{Symbol}, declared.reloc.Reloc.{Reloc}, Objects.{Object, reloc_at}}
use Rattle.oc_neutral.specs.{Building.{is_zero}, Invariants.{HasItsBytes, IsHeld, IsMember, IsSymbol, IsObject, groups_of}, Worth.{residue_at}}
use Rattle.oc_neutral.specs.Faces.{contents_of, field_of, shown_section, shown_sections, shown_symbol, shown_symbols, frame_of}
use Rattle.oc_neutral.specs.Dialects.{Dialect, Look, is_folded, looks_in}
use Rattle.oc_shows.specs.{Shows.{reloc_look, Shows, ShowsAt}, Laws.{ShownObjectIsComputed}}
use Rattle.oc_shows.specs.Computed.{zeros_outside, zero_values, zero_patches, keys_in, keys_after, computed_section, computed_symbol, reloc_for, computed_field, computed_fields, object_in}
use Rattle.oc_shows.proofs.{Truth.{values_fixed}, KeysBegun.{all_keys, groups-keys, keys-begun, member_position}, PlacedSymbols.{symbol-computed}}
use Rattle.oc_shows.proofs.ComputedRelocs.{reloc-computed}
use Rattle.oc_neutral.proofs.{Positions.{each_at, each_weaker, images_same, there_at}, GroupLemmas.{keys-shown}, Numbered.{computed_list, overlay_at}}
use Rattle.oc_neutral.proofs.{SameParts.{bytes_are, bytes_within, filled, parts_same}, FoundRelocs.{widths_at, found_at}}
use Rattle.oc_neutral.proofs.Scanning.{field_at, field_found, scanned}

-- a frame is in the group of its section
frame-groups : (xs : List parts.Section) → map (λ (s : parts.Section). s.group) (map frame_of xs) ≡ map (λ (s : parts.Section). s.group) xs
frame-groups [] = refl
frame-groups (x ∷ xs) = ap (λ gs. x.group ∷ gs) (frame-groups xs)

-- what is live was there
pub live_there : (folded : Bool) (o : Option Patch) (q : Patch) → live_of folded o ≡ Some q → o ≡ Some q
live_there folded o q here = grind arith

module _ (f : Dialect) (b : List ℕ) (keep : Keep) (n : Object) (fine : IsObject n) (shows : Shows f b keep n) where
  -- the sections of the file
  abbrev file_sections : List parts.Section
  file_sections = f.rules.sections b

  -- the object shows the file where all numbers are 0
  at_zeros : ShowsAt f b keep n zeros (zero_values f b keep)
  at_zeros = shows.at zeros (zero_values f b keep) (values_fixed f.rules.word (f.rules.symbols b keep) shows.numbered zeros zeros_outside)

  -- it has as many sections
  counted : length n.sections ≡ length file_sections
  counted =
      sym (length-map n.sections (shown_section n.groups)) ∙ sym (length-map (shown_sections n) frame_of) ∙ ap length shows.sections ∙ length-map file_sections frame_of

  -- its groups have the keys of the file
  keys-same : all_keys n.groups ≡ keys_in f b
  keys-same =
      sym (keys-begun n.groups fine.complete.keys [] (all_keys n.groups) (groups_of n.sections) refl fine.complete.begun fine.built.members)
      ∙ ap (keys_after []) (sym (keys-shown n.groups n.sections) ∙ ap (map (λ (s : parts.Section). s.group)) shows.sections ∙ frame-groups file_sections)

  module _ (k : ℕ) (x : Section) (y : parts.Section) (here : slice_get n.sections k ≡ Some x) (there : slice_get file_sections k ≡ Some y) where
    -- the sections at one position have one frame
    framed : frame_of (shown_section n.groups x) ≡ frame_of y
    framed = images_same frame_of frame_of (shown_sections n) file_sections shows.sections k (shown_section n.groups x) y
        (slice_get-map (shown_section n.groups) n.sections k ∙ ap (option_map (shown_section n.groups)) here) there

    -- the section is in the group of its key
    grouped : x.group ≡ option_map (λ key. position_or_len (bytes_eq key) (keys_in f b)) y.group
    grouped =
        sym (member_position n.groups fine.complete.keys x.group
        (each_at (IsMember (length n.groups)) (groups_of n.sections) k x.group fine.built.members (slice_get-map (λ (s : Section). s.group) n.sections k ∙ ap (option_map (λ (s : Section). s.group)) here)))
        ∙ ap (λ (s : parts.Section). option_map (λ key. position_or_len (bytes_eq key) (all_keys n.groups)) s.group) framed
        ∙ ap (λ keys. option_map (λ key. position_or_len (bytes_eq key) keys) y.group) keys-same

    -- what stands under the fields of the file
    abbrev under : Patches
    under = unders (is_folded f b keep) (zero_patches f b keep)

    -- its contents are those of the file, with the fields filled
    filled_by : contents_of x ≡ overlay (under k) 0 y.contents
    filled_by = same_Some (contents_of x) (overlay (under k) 0 y.contents)
        (sym (slice_get-map contents_of n.sections k ∙ ap (option_map contents_of) here) ∙ ap (λ cs. slice_get cs k) at_zeros.contents
        ∙ overlay_at under 0 (map (λ (s : parts.Section). s.contents) file_sections) k k y.contents (omega arith)
        (slice_get-map (λ (s : parts.Section). s.contents) file_sections k ∙ ap (option_map (λ (s : parts.Section). s.contents)) there))

    -- it has its bytes
    has_bytes : HasItsBytes x
    has_bytes = each_at HasItsBytes n.sections k x fine.built.bytes here

    -- so it is the computed one
    section-computed : x ≡ computed_section f b keep (k, y)
    section-computed =
        ap (λ s. filled s x.group x.bytes) framed
        ∙ ap (λ g. filled (frame_of y) g x.bytes) grouped
        ∙ ap (filled (frame_of y) (option_map (λ key. position_or_len (bytes_eq key) (keys_in f b)) y.group))
        (bytes_are (is_zero x.kind) x.size x.bytes (overlay (under k) 0 y.contents) filled_by has_bytes
        ∙ ap (λ (s : parts.Section). cond (is_zero s.kind) [] (overlay (under k) 0 y.contents)) framed)

    -- it is there
    inside : k < length n.sections
    inside = slice_get_within n.sections k x here

    -- at each offset that field is found which is computed there
    field-computed : (at : ℕ) → computed_field f b keep k at ≡ field_found (list_of n.relocs k) at
    field-computed at = by (reloc_at n k at) refl
      where
        -- with that look and that patch
        with : Option Look → Option Patch → Option (Field Reloc)
        with look patch = option_and_then
            (λ (l : Look). option_map (λ (q : Patch). field_at at (reloc_for (word_for f.format) (f.rules.symbols b keep) (zero_values f b keep) k at l q.residue)) patch) look

        by : (o : Option Reloc) → reloc_at n k at ≡ o → with (looks_in f b keep k at) (zero_patches f b keep k at) ≡ option_map (field_at at) o
        by None e = ap (λ l. with l (zero_patches f b keep k at)) (sym (shows.looks k at) ∙ ap (option_map (reloc_look n)) e)
        by (Some r) e =
            let v : Valuation = zero_values f b keep in
            let is = found_at n fine k inside at r e in
            let residue : ℕ = residue_at (word_for n.format) n.symbols zeros v k at r in
            ap (λ l. with l (zero_patches f b keep k at)) (sym (shows.looks k at) ∙ ap (option_map (reloc_look n)) e)
            ∙ ap (λ p. with (Some (reloc_look n r)) p)
            (live_there (is_folded f b keep k at) (zero_patches f b keep k at) (patch_of zeros v (field_of n k at r))
            (sym (at_zeros.patches k at) ∙ ap (λ o. option_map (patch_of zeros v) (option_map (field_of n k at) o)) e))
            ∙ ap (λ format. Some (field_at at (reloc_for (word_for format) (f.rules.symbols b keep) v k at (reloc_look n r) residue))) (sym shows.format)
            ∙ ap (λ symbols. Some (field_at at (reloc_for (word_for n.format) symbols v k at (reloc_look n r) residue))) (sym shows.symbols)
            ∙ ap (λ q. Some (field_at at q)) (reloc-computed n v k at r is.0 is.1)

    -- so its fields are the computed ones
    fields-computed : list_of n.relocs k ≡ computed_fields f b keep (k, y)
    fields-computed =
        let size : x.size ≡ y.size = ap (λ (s : parts.Section). s.size) framed in
        let within : length x.bytes ≤ x.size = bytes_within (is_zero x.kind) x.size (length x.bytes) has_bytes in
        sym (scanned (computed_field f b keep k) 0 y.size y.size (list_of n.relocs k) (omega arith) (fine.built.fields.apart k) (widths_at n fine k inside)
        (each_weaker (IsHeld n k x.bytes) (λ z. end_of z ≤ y.size) (λ z held. let ends = held.inside in omega (arith, ends, within, size)) (list_of n.relocs k) (fine.built.fields.each k x here))
        (λ at l. field-computed at))

  -- and so for all sections, symbols and lists of fields
  sections-computed : n.sections ≡ map (computed_section f b keep) (enumerate_from 0 file_sections)
  sections-computed = computed_list (computed_section f b keep) 0 n.sections file_sections counted
      (λ k i x y at here there. section-computed k x y here there ∙ ap (λ j. computed_section f b keep (j, y)) (omega (arith, at)))

  symbols-computed : n.symbols ≡ map (computed_symbol (f.rules.symbols b keep)) (f.rules.symbols b keep)
  symbols-computed =
      own n.symbols fine.complete.symbols ∙ ap (λ symbols. map (computed_symbol symbols) symbols) shows.symbols
    where
      own : (symbols : List Symbol) → AllByRecursion (IsSymbol n) symbols → symbols ≡ map (computed_symbol (shown_symbols n)) (map (shown_symbol n.symbols) symbols)
      own [] each = refl
      own (s ∷ symbols) each =
          ap (λ z. z ∷ symbols) (sym (symbol-computed n s each.0)) ∙ ap (λ zs. computed_symbol (shown_symbols n) (shown_symbol n.symbols s) ∷ zs) (own symbols each.1)

  relocs-computed : n.relocs ≡ map (computed_fields f b keep) (enumerate_from 0 file_sections)
  relocs-computed = computed_list (computed_fields f b keep) 0 n.relocs file_sections (fine.built.fields.counted ∙ counted)
      (λ k i xs y at here there.
      let x = there_at n.sections k (let l = slice_get_within n.relocs k xs here in let c = fine.built.fields.counted in omega (arith, l, c)) in
      sym (get_or_from_slice_get n.relocs k xs [] here) ∙ fields-computed k x.0 y x.1 there ∙ ap (λ j. computed_fields f b keep (j, y)) (omega (arith, at)))

-- the law
pub shown_is_computed : ShownObjectIsComputed
shown_is_computed f b keep n fine shows =
    parts_same n (object_in f b keep) shows.format
    (sym (groups-keys n.groups) ∙ ap (map (λ key. record { key = key })) (keys-same f b keep n fine shows))
    (sections-computed f b keep n fine shows) (symbols-computed f b keep n fine shows) (relocs-computed f b keep n fine shows)
