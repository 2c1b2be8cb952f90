-- What the edits, step by step, make of the symbols of a file is their final forms.
use Rattle.std.proofs.Common.{◌≡◌, ℕ, Bool, true, false, not, ◌&&◌, cond, eqb, List, [], ◌∷◌, ◌++◌, map, bytes_eq, Option, Some, None, inl, inr, refl, sym, ◌∙◌}
use Rattle.std.proofs.Common.{ap, arith}
use mathlib.Core.Path.{fun_ext}
use Rattle.std.specs.{Prelude.{slice_get, filter, filter_map}, List.{cons_option, flat_map, list_any}, Option.{option_map, option_map_or}}
use Rattle.oc_base.specs.declared.format.Format.{Format}
use Rattle.oc_linking.specs.declared.terms.Fallback.TheVariants as fallback
use Rattle.oc_linking.specs.{declared.terms.Binding.{Binding}, declared.terms.Binding.TheVariants.{Weak}}
use Rattle.oc_linking.specs.{Numbers.{or_else}, Keeping.{kept_flags, kept_of}, Parts.{is_local}}
use Rattle.oc_linking.specs.Parts as parts
use Rattle.oc_neutral.specs.{declared.symbol.Symbol.{Symbol}, Without.{lies_in_dropped, with_binding}}
use Rattle.oc_drop.specs.{KeptShows.{left_symbols}}
use Rattle.oc_drop.proofs.DroppedSections.{kept_map, map_same, map_twice}
use Rattle.oc_names.specs.{declared.edit.Edit.{Edit}, Wishes.{Wishes}, Kept.{keep_for}, Rebinding.{placed_fallback}}
use Rattle.oc_names.specs.NewNames as given
use Rattle.oc_names.specs.{EditedFile.{after_all, all_rebound, all_settled, as_part, as_symbol, binding_numbered, edited_in, fallback_numbered, settled_in}}
use Rattle.oc_names.specs.Naming.{alias, alias_of, aliases, all_named, edited_group, is_definition, named, with_name}
use Rattle.oc_names.proofs.TurnsBindings.{stands_for, stands_or_not}
use Rattle.std.proofs.lemmas.List.{map-append}
use Rattle.oc_equations.specs.{Laws.{FileIsFinal}, Names.{final_name, further_name}, Symbols.{asks_local, asks_weak, form, form_by, may_have_more, stand_in}}
use Rattle.oc_equations.specs.Files.{filed_form, filed_further, filed_staying, filed_symbol, final_file, is_gone, keys_it, numbered_form, part_as}
use Rattle.oc_equations.proofs.{Forms.{after_is}, FinalNames.{any_map, name-told}}

-- a binding that names no fallback
own_form : (w l : Bool) (xs : List Symbol) (b : Binding) → stands_for b ≡ false → fallback_numbered xs (form w l None b) ≡ None
own_form w l xs b own = grind arith

placed_as : (k : ℕ) (c : Binding) → placed_fallback (Weak (fallback.Name k)) c ≡ Weak (stand_in k (Some c))
placed_as k c = grind arith

definition_as : (b : Binding) → is_definition b ≡ may_have_more b
definition_as b = grind arith

module _ (wishes : Wishes) (from to : Format) (sections : List parts.Section) (symbols : List parts.Symbol) where
  abbrev edits : List Edit
  edits = wishes.edits

  abbrev stay : List Bool
  stay = kept_flags (keep_for wishes from to) sections

  abbrev those : List parts.Symbol
  those = filed_staying wishes from to sections symbols

  abbrev final : parts.Symbol → Binding
  final s = filed_form wishes from to sections symbols s

  numbered_none : (b : Binding) → stands_for b ≡ false → numbered_form wishes from to sections symbols b ≡ None
  numbered_none b own = grind arith

  left-are : left_symbols stay (map as_symbol symbols) ≡ map as_symbol those
  left-are =
      ap (λ flags. kept_of flags (map as_symbol symbols)) (map_twice (λ (s : Symbol). not (lies_in_dropped stay s)) as_symbol symbols)
      ∙ sym (kept_map as_symbol (map (λ s. not (is_gone wishes from to sections symbols s)) symbols) symbols)

  -- a symbol after all words
  abbrev worded : parts.Symbol → Symbol
  worded s = with_binding (as_symbol s) (form_by edits s.name None s.binding)

  words-are : map (after_all edits) (left_symbols stay (map as_symbol symbols)) ≡ map worded those
  words-are =
      ap (map (after_all edits)) left-are
      ∙ map_twice (after_all edits) as_symbol those
      ∙ map_same (λ s. after_all edits (as_symbol s)) worded those (λ k s here. after_is edits (as_symbol s))

  found : (number : ℕ) (xs : List parts.Symbol) → binding_numbered (map worded xs) number
      ≡ option_map (λ (t : parts.Symbol). form_by edits t.name None t.binding) (slice_get (filter (λ (t : parts.Symbol). eqb t.number number) xs) 0)
  found number [] = refl
  found number (x ∷ xs) = by (eqb x.number number) (found number xs)
    where
      by : (b : Bool) → binding_numbered (map worded xs) number ≡ option_map (λ (t : parts.Symbol). form_by edits t.name None t.binding) (slice_get (filter (λ (t : parts.Symbol). eqb t.number number) xs) 0)
          → or_else (cond b (Some (worded x).binding) None) (binding_numbered (map worded xs) number)
          ≡ option_map (λ (t : parts.Symbol). form_by edits t.name None t.binding) (slice_get (cond b (x ∷ filter (λ (t : parts.Symbol). eqb t.number number) xs) (filter (λ (t : parts.Symbol). eqb t.number number) xs)) 0)
      by true e = refl
      by false e = e

  -- a symbol with its final form, and its input name
  abbrev shaped : parts.Symbol → Symbol
  shaped s = with_binding (as_symbol s) (final s)

  settled-is : (s : parts.Symbol) → settled_in (map worded those) (worded s) ≡ shaped s
  settled-is s = ap (with_binding (as_symbol s)) (elim (stands_or_not s.binding) [ inl named ↦ weak named.0 named.1 | inr own ↦ free own ])
    where
      settle : Binding → Option Binding → Binding
      settle b o = option_map_or (placed_fallback b) o b

      placed : (k : ℕ) (o : Option Binding) → option_map_or (placed_fallback (Weak (fallback.Name k))) o (Weak (fallback.Name k)) ≡ Weak (stand_in k o)
      placed k None = refl
      placed k (Some c) = placed_as k c

      weak : (k : ℕ) → s.binding ≡ Weak (fallback.Name k)
          → option_map_or (placed_fallback (worded s).binding) (fallback_numbered (map worded those) (worded s).binding) (worded s).binding ≡ final s
      weak k is =
          ap (λ b. option_map_or (placed_fallback (form_by edits s.name None b)) (fallback_numbered (map worded those) (form_by edits s.name None b)) (form_by edits s.name None b)) is
          ∙ ap (λ o. option_map_or (placed_fallback (Weak (fallback.Name k))) o (Weak (fallback.Name k))) (found k those)
          ∙ placed k (numbered_form wishes from to sections symbols (Weak (fallback.Name k)))
          ∙ ap (λ b. form_by edits s.name (numbered_form wishes from to sections symbols b) b) (sym is)

      free : stands_for s.binding ≡ false
          → option_map_or (placed_fallback (worded s).binding) (fallback_numbered (map worded those) (worded s).binding) (worded s).binding ≡ final s
      free own =
          ap (λ o. option_map_or (placed_fallback (worded s).binding) o (worded s).binding)
          (own_form (list_any (asks_weak s.name) edits) (list_any (asks_local s.name) edits) (map worded those) s.binding own)
          ∙ ap (λ o. form_by edits s.name o s.binding) (sym (numbered_none s.binding own))

  rebound-are : all_rebound stay edits (map as_symbol symbols) ≡ map shaped those
  rebound-are =
      ap all_settled words-are
      ∙ map_twice (settled_in (map worded those)) worded those
      ∙ map_same (λ s. settled_in (map worded those) (worded s)) shaped those (λ k s here. settled-is s)

  -- ... names

  named-is : (s : parts.Symbol) → as_part (named edits from to (shaped s)) ≡ filed_symbol wishes from to sections symbols s
  named-is s = ap (λ name. as_part (cond (is_local (final s)) (shaped s) (with_name (shaped s) name))) (name-told edits from to s.name) ∙ by (is_local (final s))
    where
      by : (b : Bool) → as_part (cond b (shaped s) (with_name (shaped s) (final_name edits from to s.name))) ≡ part_as s (cond b s.name (final_name edits from to s.name)) (final s) s.pinned
      by true = refl
      by false = refl

  further-is : (edit : Edit) (s : parts.Symbol) → option_map as_part (alias_of edit (shaped s)) ≡ filed_further wishes from to sections symbols edit s
  further-is edit s = ap (λ b. option_map as_part (option_map (alias (shaped s)) (cond b (given.alias_by s.name edit) None))) (definition_as (final s)) ∙ by (may_have_more (final s))
    where
      both : (o : Option (List ℕ)) → option_map as_part (option_map (alias (shaped s)) o) ≡ option_map (λ name. part_as s name (final s) false) o
      both None = refl
      both (Some name) = refl

      by : (b : Bool) → option_map as_part (option_map (alias (shaped s)) (cond b (given.alias_by s.name edit) None))
          ≡ cond b (option_map (λ name. part_as s name (final s) false) (further_name s.name edit)) None
      by true = both (further_name s.name edit)
      by false = refl

  symbols-are : map as_part (all_named edits from to (map shaped those)) ≡ (final_file wishes from to sections symbols).symbols
  symbols-are =
      map-append as_part (map (named edits from to) (map shaped those)) (aliases edits (map shaped those))
      ∙ ap (λ xs. xs ++ map as_part (aliases edits (map shaped those)))
      (map_twice as_part (named edits from to) (map shaped those)
      ∙ map_twice (λ s. as_part (named edits from to s)) shaped those
      ∙ map_same (λ s. as_part (named edits from to (shaped s))) (filed_symbol wishes from to sections symbols) those (λ k s here. named-is s))
      ∙ ap (λ ys. map (filed_symbol wishes from to sections symbols) those ++ ys) (all edits)
    where
      one : (edit : Edit) (xs : List parts.Symbol) → map as_part (filter_map (alias_of edit) (map shaped xs)) ≡ filter_map (filed_further wishes from to sections symbols edit) xs
      one edit [] = refl
      one edit (x ∷ xs) = more (alias_of edit (shaped x)) (further-is edit x) (one edit xs)
        where
          more : (o : Option Symbol) → option_map as_part o ≡ filed_further wishes from to sections symbols edit x
              → map as_part (filter_map (alias_of edit) (map shaped xs)) ≡ filter_map (filed_further wishes from to sections symbols edit) xs
              → map as_part (cons_option o (filter_map (alias_of edit) (map shaped xs))) ≡ cons_option (filed_further wishes from to sections symbols edit x) (filter_map (filed_further wishes from to sections symbols edit) xs)
          more None same rest = rest ∙ ap (λ o. cons_option o (filter_map (filed_further wishes from to sections symbols edit) xs)) same
          more (Some t) same rest = ap (λ ys. as_part t ∷ ys) rest ∙ ap (λ o. cons_option o (filter_map (filed_further wishes from to sections symbols edit) xs)) same

      all : (es : List Edit) → map as_part (flat_map (λ edit. filter_map (alias_of edit) (map shaped those)) es) ≡ flat_map (λ edit. filter_map (filed_further wishes from to sections symbols edit) those) es
      all [] = refl
      all (e ∷ es) =
          map-append as_part (filter_map (alias_of e) (map shaped those)) (flat_map (λ edit. filter_map (alias_of edit) (map shaped those)) es)
          ∙ ap (λ ys. ys ++ map as_part (flat_map (λ edit. filter_map (alias_of edit) (map shaped those)) es)) (one e those)
          ∙ ap (λ ys. filter_map (filed_further wishes from to sections symbols e) those ++ ys) (all es)

  key-is : (key : List ℕ) → (edited_group edits from to (map shaped those) (record { key = key })).key ≡ (final_file wishes from to sections symbols).key key
  key-is key =
      ap (λ b. cond b (given.final_name edits from to key) key) (any_map (λ (s : Symbol). not (is_local s.binding) && bytes_eq s.name key) shaped those)
      ∙ ap (λ name. cond (list_any (keys_it wishes from to sections symbols key) those) name key) (name-told edits from to key)

  file-is : edited_in wishes from to sections symbols ≡ final_file wishes from to sections symbols
  file-is =
      ap (λ (xs : List Symbol). made (map as_part (all_named edits from to xs)) (λ key. (edited_group edits from to xs (record { key = key })).key)) rebound-are
      ∙ ap (λ ss. made ss (λ key. (edited_group edits from to (map shaped those) (record { key = key })).key)) symbols-are
      ∙ ap (made (final_file wishes from to sections symbols).symbols) (fun_ext key-is)
    where
      made : List parts.Symbol → (List ℕ → List ℕ) → parts.Edited
      made ss key = record { symbols = ss; key = key }

pub file_is_final : FileIsFinal
file_is_final wishes from to sections symbols = file-is wishes from to sections symbols
