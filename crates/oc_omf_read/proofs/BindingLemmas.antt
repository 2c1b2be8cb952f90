-- The symbols of a module are what is seen of its mentions.
use Rattle.std.proofs.Common.{◌≡◌, ℕ, Bool, true, false, cond, List, [], ◌∷◌, ◌++◌, map, Option, None, Some, refl, sym, ◌∙◌, ap, arith}
use Rattle.std.specs.{Prelude.{◌&&◌, find, flat_map, fold}, Option.{is_some, option_and_then, option_map, option_map_or}}
use Rattle.std.proofs.lemmas.{Bool.{true≢false}, List.{map-append}, Option.{none-some}}
use Rattle.oc_linking.specs.{declared.terms.Binding.TheVariants.{Undefined, Common}, Numbers.{or_else}}
use Rattle.oc_neutral.specs.Powers.{natural_align}
use Rattle.oc_omf.specs.{declared.structures.Communal.{Communal}, Structures.{External, Public}, Entries.{Entry, all_read}}
use Rattle.oc_omf.specs.Symbols.{Mention, binding_of, communal_of, entry_mentions, external_mention, mentions_in, public_binding, public_mention, public_of, same_symbol, with_new}
use Rattle.oc_omf.specs.Tables.{tables_of}
use Rattle.oc_omf_read.specs.declared.declarations.DeclarationKind.TheVariants as what
use Rattle.oc_omf_read.specs.Bindings.{binding_seen, place_binding}
use Rattle.oc_omf_read.specs.Declarations.{Declaration, of_communal, of_external, of_public, declarations_by, declarations_in}
use Rattle.oc_omf_read.specs.Mentioned.{length_by, length_in, length_said, mention_of, mentioned_symbols, place_by, place_in, place_said, seen_in}
use Rattle.oc_shelf.proofs.ReadingLaws.StageLemmas.{or_else-assoc}

-- ... mentions

map_publics : (ps : List Public) → map mention_of (map of_public ps) ≡ map public_mention ps
map_publics [] = refl
map_publics (p ∷ ps) = ap (λ (ms : List Mention). public_mention p ∷ ms) (map_publics ps)

map_externals : (ys : List External) → map mention_of (map of_external ys) ≡ map external_mention ys
map_externals [] = refl
map_externals (y ∷ ys) = ap (λ (ms : List Mention). external_mention y ∷ ms) (map_externals ys)

entry_mentioned : (e : Entry) → map mention_of (declarations_by e) ≡ entry_mentions e
entry_mentioned e =
    map-append mention_of (map of_public (all_read e.publics)) (map of_external (all_read e.externals))
    ∙ ap (λ (ms : List Mention). ms ++ map mention_of (map of_external (all_read e.externals))) (map_publics (all_read e.publics))
    ∙ ap (λ (ms : List Mention). map public_mention (all_read e.publics) ++ ms) (map_externals (all_read e.externals))

all_mentions : (es : List Entry) → map mention_of (flat_map declarations_by es) ≡ flat_map entry_mentions es
all_mentions [] = refl
all_mentions (e ∷ es) =
    map-append mention_of (declarations_by e) (flat_map declarations_by es) ∙ ap (λ (ms : List Mention). ms ++ map mention_of (flat_map declarations_by es)) (entry_mentioned e) ∙ ap (λ (ms : List Mention). entry_mentions e ++ ms) (all_mentions es)

pub mentions_are : (es : List Entry) → mentions_in es ≡ mentioned_symbols (declarations_in es)
unfolding mentions_in declarations_in
mentions_are es = ap (λ (ms : List Mention). fold with_new [] ms) (sym (all_mentions es))

-- ... definitions

place_append : (x : Mention) (ts us : List Declaration) → place_in x (ts ++ us) ≡ or_else (place_in x ts) (place_in x us)
place_append x [] us = refl
place_append x (t ∷ ts) us = ap (or_else (place_by x t)) (place_append x ts us) ∙ sym (or_else-assoc (place_by x t) (place_in x ts) (place_in x us))

length_append : (x : Mention) (ts us : List Declaration) → length_in x (ts ++ us) ≡ or_else (length_in x ts) (length_in x us)
length_append x [] us = refl
length_append x (t ∷ ts) us = ap (or_else (length_by x t)) (length_append x ts us) ∙ sym (or_else-assoc (length_by x t) (length_in x ts) (length_in x us))

find_append : {X : Type 0} (p : X → Bool) (xs ys : List X) → find p (xs ++ ys) ≡ or_else (find p xs) (find p ys)
find_append p [] ys = refl
find_append {X} p (x ∷ xs) ys = by (p x) (find_append p xs ys)
  where
    by : (b : Bool) → find p (xs ++ ys) ≡ or_else (find p xs) (find p ys) → cond b (Some x) (find p (xs ++ ys)) ≡ or_else (cond b (Some x) (find p xs)) (find p ys)
    by b e = grind arith

abbrev place_of : Public → ℕ × ℕ
place_of p = (p.segment, p.offset)

abbrev is_public : Mention → Public → Bool
is_public x p = same_symbol x (public_mention p)

map_or_else : {X Y : Type 0} (f : X → Y) (a b : Option X) → option_map f (or_else a b) ≡ or_else (option_map f a) (option_map f b)
map_or_else f a b = grind arith

place_publics : (x : Mention) (ps : List Public) → place_in x (map of_public ps) ≡ option_map place_of (find (is_public x) ps)
place_publics x [] = refl
place_publics x (p ∷ ps) = by (is_public x p) (place_publics x ps)
  where
    by : (b : Bool) → place_in x (map of_public ps) ≡ option_map place_of (find (is_public x) ps)
        → or_else (cond b (Some (place_of p)) None) (place_in x (map of_public ps)) ≡ option_map place_of (cond b (Some p) (find (is_public x) ps))
    by true e = refl
    by false e = e

place_externals : (x : Mention) (ys : List External) → place_in x (map of_external ys) ≡ None
place_externals x [] = refl
place_externals x (y ∷ ys) = by (same_symbol x (external_mention y)) y.communal ∙ place_externals x ys
  where
    by : (b : Bool) (c : Option Communal) → or_else (cond b (place_said (option_map_or of_communal c what.External)) None) (place_in x (map of_external ys)) ≡ place_in x (map of_external ys)
    by b c = grind arith

place_is : (x : Mention) (e : Entry) → place_in x (declarations_by e) ≡ option_map place_of (find (is_public x) (all_read e.publics))
place_is x e =
    place_append x (map of_public (all_read e.publics)) (map of_external (all_read e.externals))
    ∙ ap (or_else (place_in x (map of_public (all_read e.publics)))) (place_externals x (all_read e.externals)) ∙ last (place_in x (map of_public (all_read e.publics))) ∙ place_publics x (all_read e.publics)
  where
    last : {X : Type 0} (a : Option X) → or_else a None ≡ a
    last a = grind arith

place_all : (x : Mention) (es : List Entry) → place_in x (flat_map declarations_by es) ≡ option_map place_of (find (is_public x) (flat_map (λ (e : Entry). all_read e.publics) es))
place_all x [] = refl
place_all x (e ∷ es) =
    place_append x (declarations_by e) (flat_map declarations_by es) ∙ ap (λ (o : Option (ℕ × ℕ)). or_else o (place_in x (flat_map declarations_by es))) (place_is x e)
    ∙ ap (or_else (option_map place_of (find (is_public x) (all_read e.publics)))) (place_all x es)
    ∙ sym (map_or_else place_of (find (is_public x) (all_read e.publics)) (find (is_public x) (flat_map (λ (e : Entry). all_read e.publics) es)))
    ∙ sym (ap (option_map place_of) (find_append (is_public x) (all_read e.publics) (flat_map (λ (e : Entry). all_read e.publics) es)))

pub places_are : (x : Mention) (es : List Entry) → place_in x (declarations_in es) ≡ option_map place_of (public_of (tables_of es) x)
unfolding declarations_in tables_of
places_are x es = place_all x es

-- ... communals

abbrev is_communal : Mention → External → Bool
is_communal x y = same_symbol x (external_mention y) && is_some y.communal

abbrev size_of : External → Option ℕ
size_of y = option_map (λ (c : Communal). c.length) y.communal

length_publics : (x : Mention) (ps : List Public) → length_in x (map of_public ps) ≡ None
length_publics x [] = refl
length_publics x (p ∷ ps) = by (is_public x p) ∙ length_publics x ps
  where
    by : (b : Bool) → or_else (cond b None None) (length_in x (map of_public ps)) ≡ length_in x (map of_public ps)
    by b = grind arith

length_externals : (x : Mention) (ys : List External) → length_in x (map of_external ys) ≡ option_and_then size_of (find (is_communal x) ys)
length_externals x [] = refl
length_externals x (y ∷ ys) = by (same_symbol x (external_mention y)) y.communal refl (length_externals x ys)
  where
    by : (b : Bool) (c : Option Communal) → y.communal ≡ c → length_in x (map of_external ys) ≡ option_and_then size_of (find (is_communal x) ys)
        → or_else (cond b (length_said (option_map_or of_communal c what.External)) None) (length_in x (map of_external ys)) ≡ option_and_then size_of (cond (b && is_some c) (Some y) (find (is_communal x) ys))
    by true None is e = e
    by true (Some c) is e = sym (ap (option_map (λ (c : Communal). c.length)) is)
    by false None is e = e
    by false (Some c) is e = e

and_then_or_else : {X Y : Type 0} (f : X → Option Y) (a b : Option X) → ((x : X) → a ≡ Some x → is_some (f x) ≡ true) → option_and_then f (or_else a b) ≡ or_else (option_and_then f a) (option_and_then f b)
and_then_or_else f None b some = refl
and_then_or_else {X} {Y} f (Some x) b some = by (f x) (some x refl)
  where
    by : (o : Option Y) → is_some o ≡ true → o ≡ or_else o (option_and_then f b)
    by o e = grind arith

found_some : (x : Mention) (ys : List External) (y : External) → find (is_communal x) ys ≡ Some y → is_some (size_of y) ≡ true
found_some x [] y e = absurd (none-some y e)
found_some x (z ∷ zs) y e = by (same_symbol x (external_mention z)) z.communal refl e (found_some x zs y)
  where
    by : (b : Bool) (c : Option Communal) → z.communal ≡ c → cond (b && is_some c) (Some z) (find (is_communal x) zs) ≡ Some y → (find (is_communal x) zs ≡ Some y → is_some (size_of y) ≡ true) → is_some (size_of y) ≡ true
    by b c is e rest = grind arith

length_is : (x : Mention) (e : Entry) → length_in x (declarations_by e) ≡ option_and_then size_of (find (is_communal x) (all_read e.externals))
length_is x e =
    length_append x (map of_public (all_read e.publics)) (map of_external (all_read e.externals))
    ∙ ap (λ (o : Option ℕ). or_else o (length_in x (map of_external (all_read e.externals)))) (length_publics x (all_read e.publics)) ∙ length_externals x (all_read e.externals)

length_all : (x : Mention) (es : List Entry) → length_in x (flat_map declarations_by es) ≡ option_and_then size_of (find (is_communal x) (flat_map (λ (e : Entry). all_read e.externals) es))
length_all x [] = refl
length_all x (e ∷ es) =
    length_append x (declarations_by e) (flat_map declarations_by es) ∙ ap (λ (o : Option ℕ). or_else o (length_in x (flat_map declarations_by es))) (length_is x e)
    ∙ ap (or_else (option_and_then size_of (find (is_communal x) (all_read e.externals)))) (length_all x es)
    ∙ sym (and_then_or_else size_of (find (is_communal x) (all_read e.externals)) (find (is_communal x) (flat_map (λ (e : Entry). all_read e.externals) es)) (found_some x (all_read e.externals)))
    ∙ sym (ap (option_and_then size_of) (find_append (is_communal x) (all_read e.externals) (flat_map (λ (e : Entry). all_read e.externals) es)))

pub lengths_are : (x : Mention) (es : List Entry) → length_in x (declarations_in es) ≡ communal_of (tables_of es) x
unfolding declarations_in tables_of
lengths_are x es = length_all x es

-- ... bindings

found_public : (x : Mention) (ps : List Public) (p : Public) → find (is_public x) ps ≡ Some p → p.local ≡ x.local
found_public x [] p e = absurd (none-some p e)
found_public x (q ∷ qs) p e = by (is_public x q) refl e (found_public x qs p)
  where
    by : (b : Bool) → is_public x q ≡ b → cond b (Some q) (find (is_public x) qs) ≡ Some p → (find (is_public x) qs ≡ Some p → p.local ≡ x.local) → p.local ≡ x.local
    by b f e rest = grind arith

pub binding_is : (es : List Entry) (x : Mention) → binding_of (tables_of es) x ≡ binding_seen (seen_in (declarations_in es) x)
unfolding binding_of
binding_is es x =
    by (public_of (tables_of es) x) refl
    ∙ ap (λ (o : Option (ℕ × ℕ)). option_map_or (place_binding x.local) o (option_map_or (λ size. Common size (natural_align size)) (communal_of (tables_of es) x) Undefined)) (sym (places_are x es))
    ∙ ap (λ (o : Option ℕ). option_map_or (place_binding x.local) (place_in x (declarations_in es)) (option_map_or (λ size. Common size (natural_align size)) o Undefined)) (sym (lengths_are x es))
  where
    by : (o : Option Public) → public_of (tables_of es) x ≡ o
        → option_map_or public_binding o (option_map_or (λ size. Common size (natural_align size)) (communal_of (tables_of es) x) Undefined)
        ≡ option_map_or (place_binding x.local) (option_map place_of o) (option_map_or (λ size. Common size (natural_align size)) (communal_of (tables_of es) x) Undefined)
    by None e = refl
    by (Some p) e = ap (λ (b : Bool). place_binding b (place_of p)) (found_public x (tables_of es).publics p e)
