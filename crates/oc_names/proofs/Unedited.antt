-- Where nothing is asked for and every section is kept, the edited object is the object.
use Rattle.std.proofs.Common.{◌≡◌, ◌≢◌, ℕ, suc, ◌+◌, ◌^◌, ◌<◌, ◌≤◌, Bool, true, false, cond, not, ◌&&◌, eqb, nat_lt, List, [], ◌∷◌, length, map, fold, Option, Some, None, Ok, refl, sym, ◌∙◌, ap, arith, append-nil}
use Rattle.std.specs.{Prelude.{slice_get, filter_map}, List.{enumerate_from, cons_option}, Option.{option_map, option_map_or, option_and_then, option_flatten}}
use Rattle.std.proofs.lemmas.{Bool.{true≢false, ne_eqb}, Bool.Decides.{nat_tests}, List.{length-map}}
use Rattle.std.proofs.lemmas.Option.{none-some, same_Some, slice_get-map, slice_get_within, get_or_from_slice_get}
use Rattle.oc_base.specs.{declared.format.Format.{Format}, declared.format.Word.{Word}, Formats.{word_for}}
use Rattle.oc_base.specs.declared.code.Code.TheVariants.{LimitSymbols, EmptyName}
use Rattle.oc_linking.specs.declared.terms.Fallback.TheVariants as fallback
use Rattle.oc_linking.specs.{declared.terms.Binding.{Binding}, declared.terms.Binding.TheVariants.{Local, Global, Undefined, Common, Weak}, Numbers.{or_else}}
use Rattle.oc_linking.specs.{Parts.{is_local}, declared.terms.Keep.{Keep}}
use Rattle.oc_linking.proofs.FirstFaultLaws.{first_upto_none}
use Rattle.oc_chains.specs.{declared.field.Field.{Field}, Lists.{list_of}}
use Rattle.oc_neutral.specs.{declared.group.Group.{Group}, declared.section.Section.{Section}, declared.symbol.Symbol.{Symbol}, declared.reloc.Reloc.{Reloc}}
use Rattle.oc_neutral.specs.{Objects.{Object}, Building.{has_name}, Normal.{by_section, folded, by_place, normal_of, at_section, takes_section}}
use Rattle.oc_neutral.specs.{Invariants.{IsBinding, is_strong, IsNormal, IsObject}, Without.{with_binding}}
use Rattle.oc_neutral.specs.declared.normal.Normal.TheVariants as normal
use Rattle.oc_strings.specs.Repeats.{nonlocal_name, name_at, repeat_at, first_repeat}
use Rattle.oc_neutral.proofs.Positions.{there_at}
use Rattle.oc_strings.proofs.RepeatLemmas.{no_repeat}
use Rattle.oc_drop.specs.{Steps.{first_in, unless, then_by, edit_fault, symbol_fault, fault_in, first_field}, Dropping.{dropped}}
use Rattle.oc_drop.proofs.{NothingDropped.{symbol_is, held, none_first, map_stays, never_and, dropped_same}, FirstLaws.{none_upto}}
use Rattle.oc_names.specs.Rebinding.{bindings_of, fallback_binding, fallback_code, fallback_fault, placed_fallback, settled_binding, settled, after_fallbacks, left_in, kept_field, field_of, unfit_fault, fault_of, with_constant, section_of, lists_left, sections_left, normalized, after_relocs, rebound_object}
use Rattle.oc_names.specs.Naming.{count_named, count_fault, named, all_named, nonlocal_names, empty_fault, clash_fault, name_fault_at, names_fault, edited_group, groups_named, keys_of, key_clash, keys_fault, parts_fault, with_names, named_object}
use Rattle.oc_names.specs.{Laws.{NothingIsEdited}, Kept.{keep_for}}

-- ... lists

pub numbered_stay : {X : Type 0} (f : ℕ × X → X) (i : ℕ) (xs : List X) → ((k : ℕ) (x : X) → slice_get xs k ≡ Some x → f (i + k, x) ≡ x) → map f (enumerate_from i xs) ≡ xs
numbered_stay f i [] same = refl
numbered_stay f i (x ∷ xs) same =
    let zero_more : i ≡ i + 0 = omega arith in
    ap (λ (j : ℕ). f (j, x) ∷ map f (enumerate_from (i + 1) xs)) zero_more
    ∙ ap (λ y. y ∷ map f (enumerate_from (i + 1) xs)) (same 0 x refl)
    ∙ ap (λ ys. x ∷ ys) (numbered_stay f (i + 1) xs (λ k y h. let e : i + 1 + k ≡ i + suc k = omega arith in ap (λ (j : ℕ). f (j, y)) e ∙ same (suc k) y h))

pub filter_map_stays : {X : Type 0} (f : X → Option X) (xs : List X) → ((k : ℕ) (x : X) → slice_get xs k ≡ Some x → f x ≡ Some x) → filter_map f xs ≡ xs
filter_map_stays f [] all = refl
filter_map_stays f (x ∷ xs) all = ap (λ o. cons_option o (filter_map f xs)) (all 0 x refl) ∙ ap (λ ys. x ∷ ys) (filter_map_stays f xs (λ k y h. all (suc k) y h))

fold_stays : {X Y : Type 0} (f : X → Y → X) (x : X) (ys : List Y) → ((k : ℕ) (y : Y) → slice_get ys k ≡ Some y → f x y ≡ x) → fold f x ys ≡ x
fold_stays f x [] same = refl
fold_stays f x (y ∷ ys) same = ap (λ z. fold f z ys) (same 0 y refl) ∙ fold_stays f x ys (λ k z h. same (suc k) z h)

module _ (n : Object) (fine : IsObject n) where
  -- ... no symbol becomes another

  settles : (b : Binding) → IsBinding n b → (option_and_then fallback_code (fallback_binding (bindings_of n.symbols) b) ≡ None) × (settled_binding (bindings_of n.symbols) b ≡ b)
  settles (Local v) is = (refl, refl)
  settles (Global v) is = (refl, refl)
  settles Undefined is = (refl, refl)
  settles (Common size align) is = (refl, refl)
  settles (Weak (fallback.Place k offset)) is = (refl, refl)
  settles (Weak fallback.Zero) is = (refl, refl)
  settles (Weak (fallback.Name k)) is =
      let at : slice_get (bindings_of n.symbols) k ≡ Some is.0.binding = slice_get-map (λ (s : Symbol). s.binding) n.symbols k ∙ ap (option_map (λ (s : Symbol). s.binding)) is.1 in (
        ap (option_and_then fallback_code) at ∙ (by is.0.binding is.2).0,
        ap (λ o. option_map_or (placed_fallback (Weak (fallback.Name k))) o (Weak (fallback.Name k))) at ∙ (by is.0.binding is.2).1,
      )
    where
      by : (c : Binding) → is_strong c ≡ true → (fallback_code c ≡ None) × (placed_fallback (Weak (fallback.Name k)) c ≡ Weak (fallback.Name k))
      by c e = grind arith

  fallbacks_same : after_fallbacks n.symbols ≡ Ok n.symbols
  fallbacks_same =
      ap (λ o. unless o (map (settled (bindings_of n.symbols)) n.symbols))
      (none_first (fallback_fault (bindings_of n.symbols)) n.symbols (λ k s h. ap (option_map (λ code. symbol_fault code s)) (settles s.binding (symbol_is n fine k s h).binding).0))
      ∙ ap Ok (map_stays (settled (bindings_of n.symbols)) n.symbols (λ k s h. ap (with_binding s) (settles s.binding (symbol_is n fine k s h).binding).1))

  abbrev w : Word
  w = word_for n.format

  normal_same : (k at : ℕ) (r : Reloc) → IsNormal n k r → normal_of w n.symbols k at r ≡ normal.Kept r
  unfolding by_section folded
  normal_same k at r is =
      let own : by_section w n.symbols r ≡ r
      = ap (at_section w r) is.against ∙ ap (λ a. record { target = r.target; form = r.form; addend = a; hint = r.hint }) is.reduced in
      ap (folded w k at) own
      ∙ ap (λ b. cond b (normal.Constant r.addend) (cond (takes_section k r.form.less) (normal.Kept (by_place w at r)) (normal.Kept r))) is.varies
      ∙ ap (λ b. cond b (normal.Kept (by_place w at r)) (normal.Kept r)) is.placed

  left_same_in : (k : ℕ) (x : Field Reloc) → IsNormal n k x.item → left_in w n.symbols k x ≡ normal.Kept x.item
  left_same_in k x is = normal_same k x.at x.item is

  fields_clear : first_field (unfit_fault w n.symbols) n ≡ None
  fields_clear = none_upto (fault_in (unfit_fault w n.symbols) n) (length n.sections) (λ k low. by k (slice_get n.sections k) low)
    where
      list_there : (k : ℕ) → k < length n.sections → slice_get n.relocs k ≡ Some (list_of n.relocs k)
      list_there k low =
          let c = fine.built.fields.counted in
          let xs = there_at n.relocs k (omega (arith, low, c)) in
          xs.1 ∙ ap Some (sym (get_or_from_slice_get n.relocs k xs.0 [] xs.1))

      by : (k : ℕ) (o : Option Section) → k < length n.sections → option_and_then (λ s. first_in (unfit_fault w n.symbols k s) (list_of n.relocs k)) o ≡ None
      by k None low = refl
      by k (Some s) low = none_first (unfit_fault w n.symbols k s) (list_of n.relocs k) (λ i x h. ap (fault_of w s x) (left_same_in k x (held n fine k (list_of n.relocs k) (list_there k low) i x h)))

  lists_same : lists_left w n.symbols n.relocs ≡ n.relocs
  lists_same = numbered_stay (λ (p : ℕ × List (Field Reloc)). filter_map (kept_field w n.symbols p.0) p.1) 0 n.relocs (λ k xs h.
      let e : 0 + k ≡ k = omega arith in
      ap (λ (j : ℕ). filter_map (kept_field w n.symbols j) xs) e ∙ filter_map_stays (kept_field w n.symbols k) xs (λ i x there. ap (field_of x) (left_same_in k x (held n fine k xs h i x there))))

  sections_same : sections_left w n.symbols n.relocs n.sections ≡ n.sections
  sections_same = numbered_stay (λ (p : ℕ × Section). fold (with_constant w n.symbols p.0) p.1 (list_of n.relocs p.0)) 0 n.sections (λ k s h.
      let e : 0 + k ≡ k = omega arith in
      ap (λ (j : ℕ). fold (with_constant w n.symbols j) s (list_of n.relocs j)) e
      ∙ fold_stays (with_constant w n.symbols k) s (list_of n.relocs k) (λ i x there.
      let xs = there_at n.relocs k (let c = fine.built.fields.counted in let l = slice_get_within n.sections k s h in omega (arith, l, c)) in
      let own : list_of n.relocs k ≡ xs.0 = get_or_from_slice_get n.relocs k xs.0 [] xs.1 in
      ap (section_of w s x) (left_same_in k x (held n fine k xs.0 xs.1 i x (ap (λ ys. slice_get ys i) (sym own) ∙ there)))))

  abbrev with_lists : List Section → List (List (Field Reloc)) → Object
  with_lists sections relocs = record { format = n.format; groups = n.groups; sections = sections; symbols = n.symbols; relocs = relocs }

  pub rebound_same : rebound_object [] n ≡ Ok n
  rebound_same =
      ap (then_by (after_relocs n)) fallbacks_same
      ∙ ap (λ o. unless o (normalized n n.symbols)) fields_clear
      ∙ ap (λ xs. Ok (with_lists xs (lists_left w n.symbols n.relocs))) sections_same
      ∙ ap (λ xs. Ok (with_lists n.sections xs)) lists_same

  -- ... no symbol gets another name

  module _ (to : Format) (few : length n.symbols ≤ 2 ^ 24) where
    named_same : (s : Symbol) → named [] n.format to s ≡ s
    named_same s = by (is_local s.binding)
      where
        by : (b : Bool) → cond b s s ≡ s
        by true = refl
        by false = refl

    all_named_same : all_named [] n.format to n.symbols ≡ n.symbols
    all_named_same = append-nil (map (named [] n.format to) n.symbols) ∙ map_stays (named [] n.format to) n.symbols (λ k s h. named_same s)

    groups_named_same : groups_named [] n.format to n.symbols n.groups ≡ n.groups
    groups_named_same = map_stays (edited_group [] n.format to n.symbols) n.groups (λ k g h. by g (has_name n.symbols g.key))
      where
        keyed : List ℕ → Group
        keyed key = record { key = key }

        by : (g : Group) (b : Bool) → keyed (cond b g.key g.key) ≡ g
        by g true = refl
        by g false = refl

    counted : count_fault (count_named [] n.symbols) ≡ None
    counted =
        let low : nat_lt 16777216 (length n.symbols + 0) ≡ false = grind (arith, nat_tests, few) in
        ap (λ b. cond b (Some (edit_fault LimitSymbols 0 (count_named [] n.symbols))) None) low

    no_clash : first_repeat (nonlocal_names n.symbols) ≡ None
    no_clash = no_repeat (nonlocal_names n.symbols) (λ r is.
        let x = named_at r.earlier is.name is.first in
        let y = named_at r.later is.name is.again in
        fine.built.distinct r.earlier r.later x.0 y.0 is.before x.1 y.1 x.2 y.2 (x.3 ∙ sym y.3))
      where
        by : (k : ℕ) (name : List ℕ) (o : Option Symbol) → slice_get n.symbols k ≡ o → option_flatten (option_map (λ (s : Symbol). nonlocal_name s.binding s.name) o) ≡ Some name
            → (s : Symbol) × (slice_get n.symbols k ≡ Some s) × (is_local s.binding ≡ false) × (s.name ≡ name)
        by k name None e h = absurd (none-some name h)
        by k name (Some s) e h = elim (is_local s.binding) as (λ b. is_local s.binding ≡ b → cond b None (Some s.name) ≡ Some name → (t : Symbol) × (slice_get n.symbols k ≡ Some t) × (is_local t.binding ≡ false) × (t.name ≡ name)) [
          | true ↦ λ t g. absurd (none-some name g)
          | false ↦ λ t g. (s, e, t, same_Some s.name name g)
        ] refl h

        named_at : (k : ℕ) (name : List ℕ) → name_at (nonlocal_names n.symbols) k ≡ Some name → (s : Symbol) × (slice_get n.symbols k ≡ Some s) × (is_local s.binding ≡ false) × (s.name ≡ name)
        named_at k name here =
            by k name (slice_get n.symbols k) refl
            (sym (ap option_flatten (slice_get-map (λ (s : Symbol). nonlocal_name s.binding s.name) n.symbols k)) ∙ here)

    name_clear : (k : ℕ) → k < length n.symbols → name_fault_at n.symbols k ≡ None
    name_clear k low =
        let s = there_at n.symbols k low in
        let long : length (nonlocal_names n.symbols) ≡ length n.symbols = length-map n.symbols (λ (t : Symbol). nonlocal_name t.binding t.name) in
        let alone : repeat_at (nonlocal_names n.symbols) k ≡ None = first_upto_none (repeat_at (nonlocal_names n.symbols)) (length (nonlocal_names n.symbols)) no_clash k (omega (arith, low, long)) in
        ap (λ o. or_else (option_and_then empty_fault o) (option_map (clash_fault n.symbols) (repeat_at (nonlocal_names n.symbols) k))) s.1
        ∙ ap (λ o. or_else o (option_map (clash_fault n.symbols) (repeat_at (nonlocal_names n.symbols) k))) (full s.0 (symbol_is n fine k s.0 s.1).named)
        ∙ ap (option_map (clash_fault n.symbols)) alone
      where
        empty : (name : List ℕ) → name ≢ [] → eqb (length name) 0 ≡ false
        empty [] some = absurd (some refl)
        empty (x ∷ name) some = ne_eqb (length (x ∷ name)) 0 (λ e. omega (arith, e))

        full : (s : Symbol) → s.name ≢ [] → empty_fault s ≡ None
        full s some =
            ap (λ b. cond (not (is_local s.binding) && b) (Some (symbol_fault EmptyName s)) None) (empty s.name some) ∙ never_and (is_local s.binding) (Some (symbol_fault EmptyName s))

    keys_clear : first_repeat (keys_of n.groups) ≡ None
    keys_clear = no_repeat (keys_of n.groups) (λ r is.
        let x = keyed_at r.earlier is.name is.first in
        let y = keyed_at r.later is.name is.again in
        fine.complete.keys.differ r.earlier r.later x.0 y.0 is.before x.1 y.1 (x.2 ∙ sym y.2))
      where
        by : (k : ℕ) (name : List ℕ) (o : Option Group) → slice_get n.groups k ≡ o → option_flatten (option_map (λ (g : Group). Some g.key) o) ≡ Some name
            → (g : Group) × (slice_get n.groups k ≡ Some g) × (g.key ≡ name)
        by k name None e h = absurd (none-some name h)
        by k name (Some g) e h = (g, e, same_Some g.key name h)

        keyed_at : (k : ℕ) (name : List ℕ) → name_at (keys_of n.groups) k ≡ Some name → (g : Group) × (slice_get n.groups k ≡ Some g) × (g.key ≡ name)
        keyed_at k name here = by k name (slice_get n.groups k) refl (sym (ap option_flatten (slice_get-map (λ (g : Group). Some g.key) n.groups k)) ∙ here)

    parts_clear : parts_fault [] n.format to n.sections n.groups n.symbols ≡ None
    parts_clear =
        ap (λ o. or_else o (or_else (names_fault (all_named [] n.format to n.symbols)) (keys_fault n.sections (groups_named [] n.format to n.symbols n.groups)))) counted
        ∙ ap (λ xs. or_else (names_fault xs) (keys_fault n.sections (groups_named [] n.format to n.symbols n.groups))) all_named_same
        ∙ ap (λ o. or_else o (keys_fault n.sections (groups_named [] n.format to n.symbols n.groups))) (none_upto (name_fault_at n.symbols) (length n.symbols) name_clear)
        ∙ ap (λ gs. keys_fault n.sections gs) groups_named_same
        ∙ ap (option_and_then (key_clash n.sections)) keys_clear

    pub named_object_same : named_object [] to n ≡ Ok n
    named_object_same =
        ap (λ o. unless o (with_names n (all_named [] n.format to n.symbols) (groups_named [] n.format to n.symbols n.groups))) parts_clear
        ∙ ap (λ xs. Ok (with_names n xs (groups_named [] n.format to n.symbols n.groups))) all_named_same
        ∙ ap (λ gs. Ok (with_names n n.symbols gs)) groups_named_same

pub no_items : {X : Type 0} (xs : List X) → length xs ≡ 0 → xs ≡ []
no_items [] e = refl
no_items (x ∷ xs) e = absurd (omega (arith, e))

pub nothing_edited : NothingIsEdited
nothing_edited wishes to n fine none kept few =
    let keep : Keep = keep_for wishes n.format to in
    ap (λ es. then_by (named_object es to) (then_by (rebound_object es) (dropped keep n))) none
    ∙ ap (λ r. then_by (named_object [] to) (then_by (rebound_object []) r)) (dropped_same n fine keep kept)
    ∙ ap (then_by (named_object [] to)) (rebound_same n fine)
    ∙ named_object_same n fine to few
