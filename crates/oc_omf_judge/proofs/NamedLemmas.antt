-- What frames and targets name is what a reader keeps of it.
use Rattle.std.proofs.Common.{◌≡◌, ℕ, ◌-◌, Bool, true, false, cond, List, [], ◌∷◌, map, Option, None, Some, refl, sym, ◌∙◌, ap}
use Rattle.std.specs.{Prelude.{if◌then◌else◌, nat_eq, slice_get}, List.{enumerate_from, find}, Option.{option_and_then, option_map, option_map_or}}
use Rattle.std.proofs.lemmas.Option.{none-some, same_Some, slice_get-map}
use denote.Ref.{Bor}
use Rattle.oc_linking.specs.{declared.terms.Binding.TheVariants.{Undefined, Common}, Rules.{Symbolic, Sectional, Named as Shown}, Values.{numbered}}
use Rattle.oc_linking.specs.Targets.{Target, named_by, symbol_target}
use Rattle.oc_neutral.specs.Powers.{natural_align}
use Rattle.oc_omf_judge.specs.{declared.earlier.SeenExternal.{SeenExternal}, NameNumbers.{NameNumbers, value_at}, EarlierSymbols.{mention_of}}
use Rattle.oc_omf_judge.specs.{declared.whole.Whole.{Whole}, Locals.{AreLocals}, Named.{named_external, named_of, named_symbol, section_at, shown}}
use Rattle.oc_omf_judge.specs.Whole.{IsWhole, entries, meaning, tables}
use Rattle.oc_omf.specs.{declared.structures.Method.{Method}, Structures.{External, Public}, Tables.{Tables, indexed}}
use Rattle.oc_omf.specs.Symbols.{Mention, binding_of, communal_of, external_mention, mentions_in, number_of, public_binding, public_mention, public_of, same_symbol, symbol_of, symbols_in}
use Rattle.oc_omf.specs.Targets.{external_at, meaning_of, section_target, target_of}
use Rattle.oc_omf_judge.specs.declared.named.Referent.TheVariants as named
use Rattle.oc_omf_judge.proofs.MentionLemmas.{IsAmong, external_mentioned, numbered_among, same_is}

-- ... symbols

-- a definition that is found is of that symbol
found_is : (x : Mention) (ps : List Public) (p : Public) → find (λ q. same_symbol x (public_mention q)) ps ≡ Some p → x ≡ public_mention p
found_is x [] p e = absurd (none-some p e)
found_is x (q ∷ ps) p e = by (same_symbol x (public_mention q)) refl e (found_is x ps p)
  where
    by : (b : Bool) → same_symbol x (public_mention q) ≡ b → cond b (Some q) (find (λ q. same_symbol x (public_mention q)) ps) ≡ Some p
        → (find (λ q. same_symbol x (public_mention q)) ps ≡ Some p → x ≡ public_mention p) → x ≡ public_mention p
    by true i f rest = same_is x (public_mention q) i ∙ ap public_mention (same_Some q p f)
    by false i f rest = rest f

-- a communal, or a symbol that is defined nowhere
outside : (k : ℕ) (c : Option ℕ) → named_by k (option_map_or (λ size. Common size (natural_align size)) c Undefined) ≡ Some (Symbolic k)
outside k (Some size) = refl
outside k None = refl

-- what is shown of a symbol, by whether this module alone sees it
abbrev shown_symbol : List Mention → NameNumbers → Mention → Shown
shown_symbol ms locals x = if x.local then option_map_or (λ (s : ℕ). Sectional (s - 1)) (value_at locals x.name) (Symbolic (number_of ms x)) else Symbolic (number_of ms x)

shown_is : (ms : List Mention) (locals : NameNumbers) (local : Bool) (name : Bor (List ℕ)) → shown ms (named_symbol locals local name) ≡ shown_symbol ms locals (record { local = local; name = name.now })
shown_is ms locals false name = refl
shown_is ms locals true name = by (value_at locals name.now)
  where
    by : (o : Option ℕ) → shown ms (option_map_or section_at o (named.Symbol true name)) ≡ option_map_or (λ (s : ℕ). Sectional (s - 1)) o (Symbolic (number_of ms (record { local = true; name = name.now })))
    by (Some s) = refl
    by None = refl

-- what its binding names
named_binding : (t : Tables) (ms : List Mention) (locals : NameNumbers) (x : Mention) → AreLocals t.publics locals → named_by (number_of ms x) (binding_of t x) ≡ Some (shown_symbol ms locals x)
unfolding binding_of
named_binding t ms locals x are = by x.local refl (public_of t x) refl
  where
    k : ℕ
    k = number_of ms x

    shown_by : Bool → Option ℕ → Shown
    shown_by local o = if local then option_map_or (λ (s : ℕ). Sectional (s - 1)) o (Symbolic k) else Symbolic k

    own : x.local ≡ true → value_at locals x.name ≡ option_map (λ (p : Public). p.segment) (public_of t x)
    own l = are x.name ∙ ap (λ (b : Bool). option_map (λ (p : Public). p.segment) (find (λ p. same_symbol (record { local = b; name = x.name }) (public_mention p)) t.publics)) (sym l)

    by : (l : Bool) → x.local ≡ l → (o : Option Public) → public_of t x ≡ o
        → named_by k (option_map_or public_binding (public_of t x) (option_map_or (λ size. Common size (natural_align size)) (communal_of t x) Undefined)) ≡ Some (shown_by x.local (value_at locals x.name))
    by true l (Some p) e =
        ap (λ o. named_by k (option_map_or public_binding o (option_map_or (λ size. Common size (natural_align size)) (communal_of t x) Undefined))) e
        ∙ place true (sym (ap (λ (m : Mention). m.local) (found_is x t.publics p e)) ∙ l)
        ∙ ap (λ o. Some (shown_by true o)) (sym (own l ∙ ap (option_map (λ (p : Public). p.segment)) e)) ∙ ap (λ b. Some (shown_by b (value_at locals x.name))) (sym l)
      where
        place : (b : Bool) → p.local ≡ b → named_by k (public_binding p) ≡ Some (shown_by b (Some p.segment))
        place true f = rw f refl
        place false f = rw f refl
    by true l None e =
        ap (λ o. named_by k (option_map_or public_binding o (option_map_or (λ size. Common size (natural_align size)) (communal_of t x) Undefined))) e
        ∙ outside k (communal_of t x)
        ∙ ap (λ o. Some (shown_by true o)) (sym (own l ∙ ap (option_map (λ (p : Public). p.segment)) e)) ∙ ap (λ b. Some (shown_by b (value_at locals x.name))) (sym l)
    by false l (Some p) e =
        ap (λ o. named_by k (option_map_or public_binding o (option_map_or (λ size. Common size (natural_align size)) (communal_of t x) Undefined))) e
        ∙ place (sym (ap (λ (m : Mention). m.local) (found_is x t.publics p e)) ∙ l) ∙ ap (λ b. Some (shown_by b (value_at locals x.name))) (sym l)
      where
        place : p.local ≡ false → named_by k (public_binding p) ≡ Some (Symbolic k)
        place f = rw f refl
    by false l None e =
        ap (λ o. named_by k (option_map_or public_binding o (option_map_or (λ size. Common size (natural_align size)) (communal_of t x) Undefined))) e
        ∙ outside k (communal_of t x) ∙ ap (λ b. Some (shown_by b (value_at locals x.name))) (sym l)

-- ... methods

-- a thing of a list that is mapped
pub indexed-map : {X Y : Type 0} (f : X → Y) (xs : List X) (k : ℕ) → indexed (map f xs) k ≡ option_map f (indexed xs k)
indexed-map {X} f xs k = by (nat_eq k 0)
  where
    by : (b : Bool) → cond b None (slice_get (map f xs) (k - 1)) ≡ option_map f (cond b None (slice_get xs (k - 1)))
    by true = refl
    by false = slice_get-map f xs (k - 1)

-- each external that is there
pub external_there : (w : Whole) (k : ℕ) (y : External) → indexed (tables w).externals k ≡ Some y → IsAmong (mentions_in (entries w)) (external_mention y)
external_there w k y = by (nat_eq k 0)
  where
    by : (b : Bool) → cond b None (slice_get (tables w).externals (k - 1)) ≡ Some y → IsAmong (mentions_in (entries w)) (external_mention y)
    by true e = absurd (none-some y e)
    by false e = external_mentioned (entries w) (k - 1) y e

-- the target of an external, by its mention
external_aim : (w : Whole) → IsWhole w → (k : ℕ) → option_map (λ (t : Target). t.named) (option_and_then symbol_target (external_at (meaning w) k))
    ≡ option_map (λ y. shown_symbol (mentions_in (entries w)) w.locals (external_mention y)) (indexed (tables w).externals k)
unfolding meaning_of symbols_in
external_aim w is k = by (indexed (tables w).externals k) (external_there w k)
  where
    ms : List Mention
    ms = mentions_in (entries w)

    aim : (o : Option Shown) (f : Shown → Target) → ((n : Shown) → (f n).named ≡ n) → option_map (λ (t : Target). t.named) (option_map f o) ≡ o
    aim (Some n) f e = ap (λ (x : Shown). Some x) (e n)
    aim None f e = refl

    by : (o : Option External) → ((y : External) → o ≡ Some y → IsAmong ms (external_mention y))
        → option_map (λ (t : Target). t.named) (option_and_then symbol_target (option_and_then (λ (y : External). numbered (map (symbol_of (tables w)) (enumerate_from 0 ms)) (number_of ms (external_mention y))) o)) ≡ option_map (λ y. shown_symbol ms w.locals (external_mention y)) o
    by None there = refl
    by (Some y) there =
        ap (λ s. option_map (λ (t : Target). t.named) (option_and_then symbol_target s)) (numbered_among (tables w) ms (external_mention y) (there y refl))
        ∙ aim (named_by (number_of ms (external_mention y)) (binding_of (tables w) (external_mention y))) _ (λ n. refl)
        ∙ named_binding (tables w) ms w.locals (external_mention y) is.locals_are

-- what is kept of an external, by its mention
external_kept : (w : Whole) → IsWhole w → (k : ℕ) → option_map (shown (mentions_in (entries w))) (named_external w k)
    ≡ option_map (λ y. shown_symbol (mentions_in (entries w)) w.locals (external_mention y)) (indexed (tables w).externals k)
external_kept w is k =
    by (indexed w.front.seen.externals.items k)
    ∙ ap (option_map (shown_symbol ms w.locals)) (sym (indexed-map mention_of w.front.seen.externals.items k) ∙ ap (λ xs. indexed xs k) is.front_is.seen_is.externals_are ∙ indexed-map external_mention (tables w).externals k)
    ∙ twice (indexed (tables w).externals k)
  where
    ms : List Mention
    ms = mentions_in (entries w)

    by : (o : Option SeenExternal) → option_map (shown ms) (option_map (λ (x : SeenExternal). named_symbol w.locals x.local x.name) o) ≡ option_map (shown_symbol ms w.locals) (option_map mention_of o)
    by None = refl
    by (Some x) = ap (λ (n : Shown). Some n) (shown_is ms w.locals x.local x.name)

    twice : (o : Option External) → option_map (shown_symbol ms w.locals) (option_map external_mention o) ≡ option_map (λ y. shown_symbol ms w.locals (external_mention y)) o
    twice None = refl
    twice (Some y) = refl

-- what a method names
pub named_is : (w : Whole) → IsWhole w → (x : Method) → option_map (shown (mentions_in (entries w))) (named_of w x) ≡ option_map (λ (t : Target). t.named) (target_of (meaning w) x)
named_is w is x = by (nat_eq x.number 0) (nat_eq x.number 2)
  where
    by : (a b : Bool) → option_map (shown (mentions_in (entries w))) (cond a (Some (section_at x.index)) (cond b (named_external w x.index) None))
        ≡ option_map (λ (t : Target). t.named) (cond a (Some (section_target (x.index - 1))) (cond b (option_and_then symbol_target (external_at (meaning w) x.index)) None))
    by true b = refl
    by false true = external_kept w is x.index ∙ sym (external_aim w is x.index)
    by false false = refl
