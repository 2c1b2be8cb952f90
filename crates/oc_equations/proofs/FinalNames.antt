-- The names, further symbols and keys that the edits give, step by step, are the final ones.
use Rattle.std.proofs.Common.{◌≡◌, ℕ, suc, ◌+◌, Bool, true, false, not, ◌&&◌, ◌||◌, cond, List, [], ◌∷◌, ◌++◌, length, length-append, map, bytes_eq, nat_eq}
use Rattle.std.proofs.Common.{Option, Some, None, refl, sym, ◌∙◌, ap, arith}
use Rattle.std.specs.{Prelude.{slice_get, filter_map}, List.{cons_option, enumerate_from, flat_map, list_any}}
use Rattle.std.specs.Option.{is_some, option_flatten, option_map, option_map_or, option_and_then, unwrap_or}
use Rattle.std.proofs.lemmas.{List.{length-map}, Option.{slice_get-map}}
use Rattle.oc_base.specs.{declared.code.Code.TheVariants.{NameClash, EmptyName}, declared.fault.Fault.{Fault}, declared.format.Format.{Format}}
use Rattle.oc_linking.specs.{declared.terms.Binding.{Binding}}
use Rattle.oc_linking.specs.{Numbers.{or_else}, FirstFault.{first_broken, stage_fault}, Keeping.{kept_of}, Parts.{is_local}}
use Rattle.oc_neutral.specs.{declared.group.Group.{Group}, declared.symbol.Symbol.{Symbol}, Objects.{Object}, Building.{has_name}, Faces.{number_of}}
use Rattle.oc_neutral.specs.Invariants.{IsObject}
use Rattle.oc_neutral.specs.Without.{IsDetached, moved_binding}
use Rattle.oc_strings.specs.{Repeats.{NameList, name_at, nonlocal_name, place_of}}
use Rattle.oc_drop.proofs.DroppedSections.{map_same, map_twice}
use Rattle.oc_names.specs.{declared.edit.Edit.{Edit}, Wishes.{Wishes}}
use Rattle.oc_names.specs.NewNames as given
use Rattle.oc_names.specs.Naming.{alias, alias_of, aliases, all_named, clash_fault, count_fault, count_named, edited_group, empty_fault, group_by}
use Rattle.oc_names.specs.Naming.{is_definition, name_fault_at, named, names_fault, nonlocal_names, with_name}
use Rattle.oc_equations.specs.{Names.{final_name, further_name, new_name}, Sections.{final_key, is_key_of}}
use Rattle.oc_equations.specs.Symbols.{asks_local, asks_weak, fallback_form, final_form, final_symbol, final_symbols, further_symbol, kept, may_have_more, staying, symbol_as}
use Rattle.oc_equations.specs.Faults.{are_too_many, each_of, fault_about, first_called, has_used_name, is_called, is_nameless}
use Rattle.oc_equations.proofs.Firsts.{first_filtered, or_none, stage_in, upto_numbered, upto_position}
use Rattle.oc_equations.proofs.Forms.{form_local, local_moved}
use Rattle.oc_equations.proofs.FinalForms.{formed, gone_local}

-- ... names

pub name-told : (edits : List Edit) (from to : Format) (name : List ℕ) → given.final_name edits from to name ≡ final_name edits from to name
name-told edits from to name =
    ap (λ (o : Option (List ℕ)). cond (list_any given.is_underscore edits) (given.in_habit (given.has_underscores from) (given.has_underscores to) (unwrap_or o name)) (unwrap_or o name))
    (sym (first_filtered (new_name name) edits))

-- ... lists

pub any_map : {X Y : Type 0} (p : Y → Bool) (f : X → Y) (xs : List X) → list_any p (map f xs) ≡ list_any (λ x. p (f x)) xs
any_map p f [] = refl
any_map p f (x ∷ xs) = ap (λ b. p (f x) || b) (any_map p f xs)

pub any_same : {X : Type 0} (p q : X → Bool) → ((x : X) → p x ≡ q x) → (xs : List X) → list_any p xs ≡ list_any q xs
any_same p q same [] = refl
any_same p q same (x ∷ xs) = ap (λ b. b || list_any p xs) (same x) ∙ ap (λ b. q x || b) (any_same p q same xs)

any_kept : {X : Type 0} (p : X → Bool) (stay : List Bool) (xs : List X)
    → ((k : ℕ) (x : X) → slice_get xs k ≡ Some x → slice_get stay k ≡ Some false → p x ≡ false) → list_any p (kept_of stay xs) ≡ list_any p xs
any_kept p [] [] none = refl
any_kept p (s ∷ stay) [] none = refl
any_kept p [] (x ∷ xs) none = refl
any_kept p (true ∷ stay) (x ∷ xs) none = ap (λ b. p x || b) (any_kept p stay xs (λ k y here goes. none (suc k) y here goes))
any_kept p (false ∷ stay) (x ∷ xs) none =
    any_kept p stay xs (λ k y here goes. none (suc k) y here goes) ∙ ap (λ b. b || list_any p xs) (sym (none 0 x refl refl))

pub filter_mapped : {X Y Z : Type 0} (f : Y → Option Z) (h : X → Y) (g : X → Option Z) → ((x : X) → f (h x) ≡ g x) → (xs : List X) → filter_map f (map h xs) ≡ filter_map g xs
filter_mapped f h g same [] = refl
filter_mapped f h g same (x ∷ xs) = ap (λ o. cons_option o (filter_map f (map h xs))) (same x) ∙ ap (cons_option (g x)) (filter_mapped f h g same xs)

pub flat_same : {X Y : Type 0} (f g : X → List Y) → ((x : X) → f x ≡ g x) → (xs : List X) → flat_map f xs ≡ flat_map g xs
flat_same f g same [] = refl
flat_same f g same (x ∷ xs) = ap (λ ys. ys ++ flat_map f xs) (same x) ∙ ap (λ ys. g x ++ ys) (flat_same f g same xs)

-- ... symbols

module _ (wishes : Wishes) (to : Format) (n : Object) where
  abbrev edits : List Edit
  edits = wishes.edits

  abbrev stay : List Bool
  stay = kept wishes to n

  abbrev names : List Bool
  names = staying wishes to n

  abbrev final : Symbol → Binding
  final s = final_form edits n.symbols s

  abbrev pub shaped : Symbol → Symbol
  shaped s = formed stay names edits n.symbols s

  abbrev pub shaped_all : List Symbol
  shaped_all = map shaped (kept_of names n.symbols)

  named-told : (s : Symbol) → named edits n.format to (shaped s) ≡ final_symbol wishes to n s
  named-told s =
      ap (λ b. cond b (shaped s) (with_name (shaped s) (given.final_name edits n.format to s.name))) (local_moved stay names (final s))
      ∙ ap (λ name. cond (is_local (final s)) (shaped s) (with_name (shaped s) name)) (name-told edits n.format to s.name)
      ∙ by (is_local (final s))
    where
      by : (b : Bool) → cond b (shaped s) (with_name (shaped s) (final_name edits n.format to s.name))
          ≡ symbol_as s (cond b s.name (final_name edits n.format to s.name)) (moved_binding stay names (final s)) s.pinned
      by true = refl
      by false = refl

  definition_moved : (b : Binding) → is_definition (moved_binding stay names b) ≡ may_have_more b
  definition_moved b = grind arith

  alias-told : (edit : Edit) (s : Symbol) → alias_of edit (shaped s) ≡ further_symbol wishes to n edit s
  alias-told edit s =
      ap (λ b. option_map (alias (shaped s)) (cond b (given.alias_by s.name edit) None)) (definition_moved (final s)) ∙ by (may_have_more (final s))
    where
      by : (b : Bool) → option_map (alias (shaped s)) (cond b (given.alias_by s.name edit) None)
          ≡ cond b (option_map (λ name. symbol_as s name (moved_binding stay names (final s)) false) (further_name s.name edit)) None
      by true = refl
      by false = refl

  pub all-named : all_named edits n.format to shaped_all ≡ final_symbols wishes to n
  all-named =
      ap (λ xs. xs ++ aliases edits shaped_all)
      (map_twice (named edits n.format to) shaped (kept_of names n.symbols)
      ∙ map_same (λ s. named edits n.format to (shaped s)) (final_symbol wishes to n) (kept_of names n.symbols) (λ k s here. named-told s))
      ∙ ap (λ ys. map (final_symbol wishes to n) (kept_of names n.symbols) ++ ys)
      (flat_same (λ edit. filter_map (alias_of edit) shaped_all) (λ edit. filter_map (further_symbol wishes to n edit) (kept_of names n.symbols))
      (λ edit. filter_mapped (alias_of edit) shaped (further_symbol wishes to n edit) (alias-told edit) (kept_of names n.symbols)) edits)

  -- ... how many

  count-told : count_named edits shaped_all ≡ length (final_symbols wishes to n)
  count-told =
      ap (λ k. k + length (aliases edits shaped_all)) (sym (length-map shaped_all (named edits n.format to)))
      ∙ sym (length-append (map (named edits n.format to) shaped_all) (aliases edits shaped_all))
      ∙ ap length all-named

  pub limit-told : count_fault (count_named edits shaped_all) ≡ stage_fault (each_of (λ c. c ∷ []) (are_too_many wishes to n ∷ []))
  limit-told =
      ap count_fault count-told
      ∙ sym (or_none (count_fault (length (final_symbols wishes to n))))
      ∙ sym (stage_in (λ c. c ∷ []) (are_too_many wishes to n ∷ []))

  -- ... their names

  abbrev all : List Symbol
  all = final_symbols wishes to n

  abbrev all_names : NameList
  all_names = nonlocal_names all

  name_there : (i : ℕ) → name_at all_names i ≡ option_flatten (option_map (λ (s : Symbol). nonlocal_name s.binding s.name) (slice_get all i))
  name_there i = ap option_flatten (slice_get-map (λ (s : Symbol). nonlocal_name s.binding s.name) all i)

  called-told : (i : ℕ) (name : List ℕ) → option_map_or (bytes_eq name) (name_at all_names i) false ≡ option_map_or (is_called name) (slice_get all i) false
  called-told i name = ap (λ o. option_map_or (bytes_eq name) o false) (name_there i) ∙ by (slice_get all i)
    where
      one : (b : Bool) (own : List ℕ) → option_map_or (bytes_eq name) (cond b None (Some own)) false ≡ (not b && bytes_eq name own)
      one true own = refl
      one false own = refl

      by : (o : Option Symbol) → option_map_or (bytes_eq name) (option_flatten (option_map (λ (s : Symbol). nonlocal_name s.binding s.name) o)) false ≡ option_map_or (is_called name) o false
      by None = refl
      by (Some s) = one (is_local s.binding) s.name

  place-told : (k : ℕ) (name : List ℕ) → place_of all_names k name ≡ first_called wishes to n k name
  place-told k name = upto_position (is_called name) 0 all k (λ j. cond (option_map_or (bytes_eq name) (name_at all_names j) false) (Some j) None) (λ i j e.
      let same : i ≡ j = omega (arith, e) in
      ap (λ b. cond b (Some i) None) (called-told i name) ∙ ap (λ (k : ℕ). cond (option_map_or (is_called name) (slice_get all i) false) (Some k) None) same)

  abbrev conditions_at : ℕ → Symbol → Option Fault
  conditions_at j s = first_broken (is_nameless s ∷ has_used_name wishes to n (j, s) ∷ [])

  -- what a position tells
  told : (i : ℕ) → name_fault_at all i ≡ option_and_then (conditions_at i) (slice_get all i)
  told i =
      ap (λ o. or_else (option_and_then empty_fault (slice_get all i)) (option_map (clash_fault all) (option_map (λ place. record { earlier = place; later = i }) (option_and_then (place_of all_names i) o)))) (name_there i)
      ∙ by (slice_get all i) refl
    where
      clash : (s : Symbol) (o : Option ℕ) → number_of all i ≡ s.number
          → option_map (clash_fault all) (option_map (λ place. record { earlier = place; later = i }) o) ≡ cond (is_some o) (Some (fault_about s.number NameClash (option_map_or (number_of all) o 0))) None
      clash s None e = refl
      clash s (Some p) e = ap (λ number. Some (fault_about number NameClash (number_of all p))) e

      both : (s : Symbol) (b e : Bool) (o : Option ℕ) → number_of all i ≡ s.number
          → or_else (cond (not b && e) (Some (fault_about s.number EmptyName 0)) None) (option_map (clash_fault all) (option_map (λ place. record { earlier = place; later = i }) (cond b None o)))
          ≡ first_broken ((not b && e, fault_about s.number EmptyName 0) ∷ (not b && is_some o, fault_about s.number NameClash (option_map_or (number_of all) o 0)) ∷ [])
      both s true e o same = refl
      both s false true o same = refl
      both s false false o same = clash s o same

      outer : (s : Symbol) (b : Bool) → option_and_then (place_of all_names i) (cond b None (Some s.name)) ≡ cond b None (place_of all_names i s.name)
      outer s true = refl
      outer s false = refl

      by : (o : Option Symbol) → slice_get all i ≡ o
          → or_else (option_and_then empty_fault o) (option_map (clash_fault all) (option_map (λ place. record { earlier = place; later = i }) (option_and_then (place_of all_names i) (option_flatten (option_map (λ (s : Symbol). nonlocal_name s.binding s.name) o)))))
          ≡ option_and_then (conditions_at i) o
      by None here = refl
      by (Some s) here =
          ap (λ o. or_else (empty_fault s) (option_map (clash_fault all) (option_map (λ place. record { earlier = place; later = i }) o)))
          (outer s (is_local s.binding) ∙ ap (λ o. cond (is_local s.binding) None o) (place-told i s.name))
          ∙ both s (is_local s.binding) (nat_eq (length s.name) 0) (first_called wishes to n i s.name) (ap (λ o. option_map_or (λ (s : Symbol). s.number) o 0) here)

  pub names-told : names_fault all ≡ stage_fault (each_of (λ (x : ℕ × Symbol). is_nameless x.1 ∷ has_used_name wishes to n x ∷ []) (enumerate_from 0 all))
  names-told =
      upto_numbered conditions_at 0 all (name_fault_at all) (λ i j e. let same : i ≡ j = omega (arith, e) in told i ∙ ap (λ k. option_and_then (conditions_at k) (slice_get all i)) same)
      ∙ sym (stage_in (λ (x : ℕ × Symbol). is_nameless x.1 ∷ has_used_name wishes to n x ∷ []) (enumerate_from 0 all))

  -- ... keys

  module _ (fine : IsObject n) (none : IsDetached stay n) where
    key_of_gone : (key : List ℕ) (k : ℕ) (s : Symbol) → slice_get n.symbols k ≡ Some s → slice_get names k ≡ Some false → is_key_of wishes to n key s ≡ false
    key_of_gone key k s here goes =
        let own : is_local s.binding ≡ true = gone_local edits stay n fine (sym (length-map n.sections _)) none k s here goes in
        let same : is_local (final s) ≡ true = ap is_local (form_local (list_any (asks_weak s.name) edits) (list_any (asks_local s.name) edits) (fallback_form edits n.symbols s.binding) s.binding own) ∙ own in
        ap (λ b. not b && bytes_eq s.name key) same

    keys_same : (key : List ℕ) → has_name shaped_all key ≡ list_any (is_key_of wishes to n key) n.symbols
    keys_same key =
        any_map (λ (s : Symbol). not (is_local s.binding) && bytes_eq s.name key) shaped (kept_of names n.symbols)
        ∙ any_same (λ s. not (is_local (shaped s).binding) && bytes_eq s.name key) (is_key_of wishes to n key) (λ s. ap (λ b. not b && bytes_eq s.name key) (local_moved stay names (final s))) (kept_of names n.symbols)
        ∙ any_kept (is_key_of wishes to n key) names n.symbols (key_of_gone key)

    pub group-told : (g : Group) → edited_group edits n.format to shaped_all g ≡ record { key = final_key wishes to n g.key }
    group-told g =
        ap (λ b. group_by edits n.format to b g) (keys_same g.key)
        ∙ ap (λ name. record { key = cond (list_any (is_key_of wishes to n g.key) n.symbols) name g.key }) (name-told edits n.format to g.key)
