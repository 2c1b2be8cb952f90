-- Symbols that are named twice, and the further ones that the second edits give.
use Rattle.std.proofs.Common.{◌≡◌, ℕ, ◌+◌, Bool, true, false, cond, List, [], ◌∷◌, ◌++◌, append-nil, length, map, Option, Some, None, refl, sym, ◌∙◌, ap, arith}
use Rattle.std.specs.{Prelude.{◌-◌}, List.{AllByRecursion, filter_map, cons_option}, Option.{option_map}}
use Rattle.std.proofs.lemmas.{Bool.{true≢false}, List.{length-map}}
use Rattle.oc_base.specs.declared.format.Format.{Format}
use Rattle.oc_linking.specs.{Numbers.{or_else}, Parts.{is_local}}
use Rattle.oc_neutral.specs.declared.symbol.Symbol.{Symbol}
use Rattle.oc_neutral.proofs.Positions.{each_weaker}
use Rattle.oc_names.specs.{declared.edit.Edit.{Edit}, NewNames.{alias_by, renamed_by}, Matching.{is_alias}}
use Rattle.oc_names.specs.{Naming.{alias, alias_of, aliases, all_named, is_definition, count_named, named, with_name}, Turns.{is_about}}
use Rattle.oc_drop.specs.Steps.{first_in}
use Rattle.oc_names.proofs.TurnsNames.{ArePlain, IsApartSymbol, apart_one, apart_rest, leave_first, named_kept, named_local, named_new, named_twice}

-- ... lists of images

pub map_alike : {X Y Z : Type 0} (f : Y → Z) (h : X → Y) (g : X → Z) (xs : List X) → AllByRecursion (λ x. f (h x) ≡ g x) xs → map f (map h xs) ≡ map g xs
map_alike f h g [] all = refl
map_alike f h g (x ∷ xs) all = ap (λ y. y ∷ map f (map h xs)) all.0 ∙ ap (λ ys. g x ∷ ys) (map_alike f h g xs all.1)

pub first_alike : {X Y Z : Type 0} (f : Y → Option Z) (h : X → Y) (g : X → Option Z) (xs : List X) → AllByRecursion (λ x. f (h x) ≡ g x) xs → first_in f (map h xs) ≡ first_in g xs
first_alike f h g [] all = refl
first_alike f h g (x ∷ xs) all = ap (λ o. or_else o (first_in f (map h xs))) all.0 ∙ ap (or_else (g x)) (first_alike f h g xs all.1)

filter_alike : {X Y Z : Type 0} (f : Y → Option Z) (h : X → Y) (g : X → Option Z) (xs : List X) → AllByRecursion (λ x. f (h x) ≡ g x) xs → filter_map f (map h xs) ≡ filter_map g xs
filter_alike f h g [] all = refl
filter_alike f h g (x ∷ xs) all = ap (λ o. cons_option o (filter_map f (map h xs))) all.0 ∙ ap (cons_option (g x)) (filter_alike f h g xs all.1)

-- ... edits that give no further symbols

alias_off : (name : List ℕ) (edit : Edit) → is_about name edit ≡ false → alias_by name edit ≡ None
alias_off name edit off = grind arith

gives_none : (name : List ℕ) (edit : Edit) → is_alias edit ≡ false → alias_by name edit ≡ None
gives_none name edit not_one = grind arith

no_alias : (edit : Edit) (s : Symbol) → alias_by s.name edit ≡ None → alias_of edit s ≡ None
no_alias edit s none = ap (λ o. option_map (alias s) (cond (is_definition s.binding) o None)) none ∙ by (is_definition s.binding)
  where
    by : (b : Bool) → option_map (alias s) (cond b None None) ≡ None
    by true = refl
    by false = refl

no_aliases : (edit : Edit) (xs : List Symbol) → is_alias edit ≡ false → filter_map (alias_of edit) xs ≡ []
no_aliases edit [] not_one = refl
no_aliases edit (x ∷ xs) not_one = ap (λ o. cons_option o (filter_map (alias_of edit) xs)) (no_alias edit x (gives_none x.name edit not_one)) ∙ no_aliases edit xs not_one

-- edits that give none, before others
pub aliases_joined : (first second : List Edit) (xs : List Symbol) → AllByRecursion (λ edit. is_alias edit ≡ false) first → aliases (first ++ second) xs ≡ aliases second xs
aliases_joined [] second xs none = refl
aliases_joined (edit ∷ first) second xs none = ap (λ ys. ys ++ aliases (first ++ second) xs) (no_aliases edit xs none.0) ∙ aliases_joined first second xs none.1

-- where there are no others, there are no further symbols
pub no_further : (first : List Edit) (xs : List Symbol) → AllByRecursion (λ edit. is_alias edit ≡ false) first → aliases first xs ≡ []
no_further first xs none = ap (λ es. aliases es xs) (sym (append-nil first)) ∙ aliases_joined first [] xs none

-- ... symbols under their new names

module _ (from to : Format) (first : List Edit) (plain : ArePlain first) where
  abbrev name_of : Symbol → Symbol
  name_of s = named first from to s

  -- an edit gives a symbol the same further symbol under its new name
  alias_same : (edit : Edit) (s : Symbol) → IsApartSymbol first (edit ∷ []) s → alias_of edit (name_of s) ≡ alias_of edit s
  alias_same edit s apart = by (is_local s.binding) (first_in (renamed_by s.name) first) refl refl
    where
      by : (b : Bool) (o : Option (List ℕ)) → is_local s.binding ≡ b → first_in (renamed_by s.name) first ≡ o → alias_of edit (name_of s) ≡ alias_of edit s
      by true o e is = ap (alias_of edit) (named_local from to first s e)
      by false None e is = ap (alias_of edit) (named_kept from to first plain s is)
      by false (Some new) e is =
          let leave = apart e new is in
          ap (alias_of edit) (named_new from to first plain s new e is)
          ∙ no_alias edit (with_name s new) (alias_off new edit (leave_first edit [] new leave.1))
          ∙ sym (no_alias edit s (alias_off s.name edit (leave_first edit [] s.name leave.0)))

  aliases_same : (edits : List Edit) (xs : List Symbol) → AllByRecursion (IsApartSymbol first edits) xs → aliases edits (map name_of xs) ≡ aliases edits xs
  aliases_same [] xs apart = refl
  aliases_same (edit ∷ edits) xs apart =
      ap (λ ys. ys ++ aliases edits (map name_of xs)) (filter_alike (alias_of edit) name_of (alias_of edit) xs
      (each_weaker (IsApartSymbol first (edit ∷ edits)) (λ s. alias_of edit (name_of s) ≡ alias_of edit s) (λ s a. alias_same edit s (λ outer. apart_one first edit edits s.name (a outer))) xs apart))
      ∙ ap (λ ys. filter_map (alias_of edit) xs ++ ys)
      (aliases_same edits xs (each_weaker (IsApartSymbol first (edit ∷ edits)) (IsApartSymbol first edits) (λ s a outer. apart_rest first edit edits s.name (a outer)) xs apart))

  module _ (second : List Edit) (alone : AllByRecursion (λ edit. is_alias edit ≡ false) first) (xs : List Symbol) (apart : AllByRecursion (IsApartSymbol first second) xs) where
    aliases_twice : aliases (first ++ second) xs ≡ aliases second (map name_of xs)
    aliases_twice = aliases_joined first second xs alone ∙ sym (aliases_same second xs apart)

    symbols_twice : map (named (first ++ second) from to) xs ≡ map (named second from to) (map name_of xs)
    symbols_twice = sym (map_alike (named second from to) name_of (named (first ++ second) from to) xs
        (each_weaker (IsApartSymbol first second) (λ s. named second from to (name_of s) ≡ named (first ++ second) from to s) (λ s a. sym (named_twice from to first plain second s a)) xs apart))

    -- the symbols are those of the second edits after the first, and as many
    pub all_named_twice : all_named (first ++ second) from to xs ≡ all_named second from to (map name_of xs)
    all_named_twice = ap (λ ys. ys ++ aliases (first ++ second) xs) symbols_twice ∙ ap (λ ys. map (named second from to) (map name_of xs) ++ ys) aliases_twice

    pub count_twice : count_named (first ++ second) xs ≡ count_named second (map name_of xs)
    count_twice = ap (λ k. k + length (aliases (first ++ second) xs)) (sym (length-map xs name_of)) ∙ ap (λ (ys : List Symbol). length (map name_of xs) + length ys) aliases_twice
