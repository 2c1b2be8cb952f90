-- A walk along the structures of an entry, each judged behind those before it.
use Rattle.std.proofs.Common.{◌≡◌, ℕ, ◌+◌, ◌<◌, ◌≤◌, List, [], ◌∷◌, ◌++◌, length, Some, None, Ok, Err, refl, sym, ◌∙◌, ap, subst, append-nil, append_assoc}
use Rattle.oc_base.specs.{declared.stop.Stop.{Stop}, Stops.{IsStop}}
use Rattle.oc_base.specs.declared.stop.Stop.TheVariants as stop
use Rattle.oc_linking.specs.{Numbers.{or_else}, FirstFault.{Condition, first_broken}}
use Rattle.oc_omf.specs.{declared.constants.TheConstants.{ENTRY_HEAD}, declared.cut.Cut.{Cut}, Cursor.{Read, Reading}, Entries.{all_read, in_file}}
use Rattle.oc_omf.specs.SymbolFaults.{code_of, symbol_fault}
use Rattle.oc_omf_judge.specs.EarlierSymbols.{walked}
use Rattle.oc_omf.proofs.EachLemmas.{Goes, each_cut, each_end, each_from, each_more}

module _ {X S : Type 0} (holds : List X → S → Type 0) (conditions : List X → ℕ × ℕ → X → List Condition) (index place : ℕ) (read : List ℕ → ℕ → Reading X) (b : List ℕ) (start : List X) where
  -- the structures from a place on
  abbrev pub left_at : ℕ → List (Read X)
  left_at at = in_file place (each_from read b at)

  -- those before a place hold, and those from there on have the first fault of all
  abbrev pub Walk : ℕ → ℕ → S → Type 0
  Walk from at now =
      (before : List X) × holds before now × (walked conditions index start (left_at from) ≡ walked conditions index before (left_at at)) × (start ++ all_read (left_at from) ≡ before ++ all_read (left_at at))

  pub walk_begin : (at : ℕ) (now : S) → holds start now → Walk at at now
  walk_begin at now h = (start, h, refl, refl)

  module _ (goes : Goes read b) (from at : ℕ) (now : S) (w : Walk from at now) where
    here : (low : at < length b) (y : X) (q : ℕ) → read b at ≡ Ok (y, q) → left_at at ≡ record { at = place + ENTRY_HEAD + at; part = Ok y } ∷ left_at q
    here low y q e = ap (in_file place) (each_more read b goes at low y q e)

    behind : (y : X) (q : ℕ) → walked conditions index w.0 (record { at = place + ENTRY_HEAD + at; part = Ok y } ∷ left_at q)
        ≡ or_else (first_broken (conditions w.0 (index, place + ENTRY_HEAD + at) y)) (walked conditions index (w.0 ++ y ∷ []) (left_at q))
    behind y q = refl

    -- what is judged there is judged at its number and its place
    same_spot : (i p : ℕ) (y : X) → i ≡ index → p ≡ place + ENTRY_HEAD + at → first_broken (conditions w.0 (index, place + ENTRY_HEAD + at) y) ≡ first_broken (conditions w.0 (i, p) y)
    same_spot i p y e f = ap (λ (j : ℕ). first_broken (conditions w.0 (j, place + ENTRY_HEAD + at) y)) (sym e) ∙ ap (λ (q : ℕ). first_broken (conditions w.0 (i, q) y)) (sym f)

    pub walk_more : (new : S) (i p : ℕ) (y : X) (q : ℕ) → at < length b → read b at ≡ Ok (y, q) → i ≡ index → p ≡ place + ENTRY_HEAD + at → first_broken (conditions w.0 (i, p) y) ≡ None
        → holds (w.0 ++ y ∷ []) new → Walk from q new
    walk_more new i p y q low e f g clean h = (
      w.0 ++ y ∷ [],
      h,
      w.2 ∙ ap (walked conditions index w.0) (here low y q e) ∙ ap (λ o. or_else o (walked conditions index (w.0 ++ y ∷ []) (left_at q))) (same_spot i p y f g ∙ clean),
      w.3 ∙ ap (λ xs. w.0 ++ all_read xs) (here low y q e) ∙ sym (append_assoc w.0 (y ∷ []) (all_read (left_at q))),
    )

    pub walk_stop : (i p : ℕ) (y : X) (q : ℕ) (s : Stop) → at < length b → read b at ≡ Ok (y, q) → i ≡ index → p ≡ place + ENTRY_HEAD + at → IsStop (first_broken (conditions w.0 (i, p) y)) s
        → IsStop (walked conditions index start (left_at from)) s
    walk_stop i p y q s low e f g is =
        subst (λ o. IsStop o s) (sym (w.2 ∙ ap (walked conditions index w.0) (here low y q e))) (first s (subst (λ o. IsStop o s) (sym (same_spot i p y f g)) is))
      where
        first : (s : Stop) → IsStop (first_broken (conditions w.0 (index, place + ENTRY_HEAD + at) y)) s
            → IsStop (or_else (first_broken (conditions w.0 (index, place + ENTRY_HEAD + at) y)) (walked conditions index (w.0 ++ y ∷ []) (left_at q))) s
        first (stop.Refused f) i = ap (λ o. or_else o (walked conditions index (w.0 ++ y ∷ []) (left_at q))) i
        first stop.NoMemory i = tt

    pub walk_cut : (i p : ℕ) (c : Cut) → at < length b → read b at ≡ Err c → i ≡ index → p ≡ place + ENTRY_HEAD + at → walked conditions index start (left_at from) ≡ Some (symbol_fault (i, p) (code_of c))
    walk_cut i p c low e f g =
        w.2 ∙ ap (λ xs. walked conditions index w.0 (in_file place xs)) (each_cut read b goes at low c e)
        ∙ ap (λ (j : ℕ). Some (symbol_fault (j, place + ENTRY_HEAD + at) (code_of c))) (sym f) ∙ ap (λ (q : ℕ). Some (symbol_fault (i, q) (code_of c))) (sym g)

    pub walk_end : length b ≤ at → (walked conditions index start (left_at from) ≡ None) × holds (start ++ all_read (left_at from)) now
    walk_end high =
        let none = each_end read b at high in (
          w.2 ∙ ap (λ xs. walked conditions index w.0 (in_file place xs)) none,
          subst (λ xs. holds xs now) (sym (w.3 ∙ ap (λ xs. w.0 ++ all_read (in_file place xs)) none ∙ append-nil w.0)) w.1,
        )

    -- where what is left is cut, all are behind
    pub walk_over : (c : Cut) → at < length b → read b at ≡ Err c → holds (start ++ all_read (left_at from)) now
    walk_over c low e =
        let last = each_cut read b goes at low c e in
        subst (λ xs. holds xs now) (sym (w.3 ∙ ap (λ xs. w.0 ++ all_read (in_file place xs)) last ∙ append-nil w.0)) w.1
