-- Names and tops that are held as slices.
use Rattle.std.proofs.Common.{◌≡◌, ℕ, ◌+◌, ◌<◌, List, [], ◌∷◌, ◌++◌, length, get_or, take, sym, ◌∙◌, ap, append_assoc}
use Rattle.std.proofs.lemmas.{List.{get_or-map, map_more, append-nil}, List.Concat.{flat_map-append}}
use denote.Ref.{Bor}
use Rattle.oc_base.specs.Strings.{text_of}
use Rattle.oc_strings.specs.Tables.{texts}

-- the text of the slice at a place
pub text_at : (names : List (Bor (List ℕ))) (i : ℕ) (d : Bor (List ℕ)) (e : List ℕ) → i < length names → get_or (texts names) i e ≡ (get_or names i d).now
text_at names i d e l = get_or-map (λ (n : Bor (List ℕ)). n.now) names i d e l

-- the same of the bytes, as they are written
pub text_push : (tops : List (Bor (List ℕ))) (i : ℕ) (d : Bor (List ℕ)) → i < length tops
    → (text_of (texts (take i tops)) ++ (get_or tops i d).now) ++ 0 ∷ [] ≡ text_of (texts (take (i + 1) tops))
unfolding text_of
text_push tops i d l =
    append_assoc (text_of (texts (take i tops))) (get_or tops i d).now (0 ∷ [])
    ∙ ap (λ t. text_of (texts (take i tops)) ++ t) (sym (append-nil ((get_or tops i d).now ++ 0 ∷ [])))
    ∙ sym (flat_map-append (λ (top : List ℕ). top ++ 0 ∷ []) (texts (take i tops)) ((get_or tops i d).now ∷ []))
    ∙ ap text_of (sym (map_more (λ (n : Bor (List ℕ)). n.now) tops i d l))
