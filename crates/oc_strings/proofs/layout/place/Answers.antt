use Rattle.std.proofs.Common.{◌≡◌, ◌<◌, ℕ, ◌+◌, [], ◌∷◌, ◌++◌, List, Option, None, false, length, arith, sym, ◌∙◌, ap, subst, get_or, rules}
use Rattle.std.proofs.lemmas.List.{length-map, map_push, with_items_is}
use denote.Ref.{Bor}
use Rattle.oc_base.specs.Strings.{text_of}
use Rattle.oc_strings.specs.{Tables.{texts, capped}, Order.{AreClosed, AreTailsPlaced, IsLaidOut, name_at}}
use Rattle.oc_strings.proofs.SliceLemmas.{text_at}
use Rattle.oc_strings.proofs.LayoutLemmas.{last_text, laid_closed, laid_more, laid_none, laid_same, offsets_all, placed_all, spot_test, tops_all}
use Rattle.oc_strings.proofs.layout.place.Goals.{then-spots-i+in_ok-push, else-spots-i}
use Rattle.oc_strings.proofs.layout.place.Goals as goal

pub loop-i-init : goal.loop-i-init
unfolding text_of
loop-i-init c =
    let none : texts c.in_ok-tops.tops.items ≡ [] = ap texts c.in_ok-tops.ensures.items in
    let empty = c.in_ok-offsets.ensures.items_if_clones_equal (λ y cloned. search rules) in
    record {
      laid = subst (λ (ts : List (List ℕ)). IsLaidOut c.args.head (texts c.args.names.now) 0 ts c.in_ok-offsets.offsets.items) (sym none)
          (subst (λ (os : List (Option ℕ)). IsLaidOut c.args.head (texts c.args.names.now) 0 [] os) (sym empty)
          (laid_none c.args.head (texts c.args.names.now) _ (sym (length-map c.args.names.now (λ (n : Bor (List ℕ)). n.now)))));
      at = omega (arith, ap (λ ts. length (text_of ts)) none);
    }

pub place_tails-requires-clause-closed : goal.place_tails-requires-clause-closed
place_tails-requires-clause-closed c =
    subst (AreClosed (texts c.args.names.now)) (sym c.deref_mut.ensures.value)
    (laid_closed c.args.head c.loop-i.i (texts c.args.names.now) (texts c.loop-i.tops.items) c.loop-i.offsets.items c.loop-i.invariant.laid)

pub loop-i-preserved : goal.loop-i-preserved
loop-i-preserved c =
    let names : List (List ℕ) = texts c.args.names.now in
    let i : ℕ = c.loop-i.i in
    let in' : i < length c.args.names.now = c.loop-i-test.true in
    let low : i < length names = omega (arith, in', length-map c.args.names.now (λ (n : Bor (List ℕ)). n.now)) in
    let tops : List (List ℕ) = texts c.loop-i.tops.items in
    let name : List ℕ = name_at names i in
    let test = spot_test names c.args.spots.now c.requires i low tops c.loop-i.invariant.laid.tops_are (record { is_top = false; tail = None }) in
    elim c.if-spots-i.branch [
      | then-spots-i+in_ok-push w ↦
          let new : List (Option ℕ) = w.place_tails.new.offsets in
          let kept : length new ≡ length c.loop-i.offsets.items = w.place_tails.auto.offsets ∙ ap length w.deref_mut.ensures.value in
          let here : (get_or c.args.names.now i (record { ref_ptr = (0, 0); now = [] })).now ≡ name = sym (text_at c.args.names.now i _ [] in') in
          let tops_are : texts c.if-spots-i.tops.items ≡ tops ++ name ∷ []
          = ap (λ v. texts v.items) w.tops-is ∙ ap texts w.in_ok-push.ensures.items
          ∙ map_push (λ (t : Bor (List ℕ)). t.now) c.loop-i.tops.items (get_or c.args.names.now i (record { ref_ptr = (0, 0); now = [] })) ∙ ap (λ n. tops ++ n ∷ []) here
          in
          let offsets_are : c.if-spots-i.offsets.items ≡ new = ap (λ v. v.items) w.offsets-is ∙ with_items_is c.loop-i.offsets new (kept ∙ sym c.loop-i.offsets.ok.0) in
          record {
            laid = subst (λ (ts : List (List ℕ)). IsLaidOut c.args.head names (i + 1) ts c.if-spots-i.offsets.items) (sym tops_are)
                (subst (λ (os : List (Option ℕ)). IsLaidOut c.args.head names (i + 1) (tops ++ name ∷ []) os) (sym offsets_are)
                (laid_more c.args.head i names low tops c.loop-i.offsets.items c.loop-i.invariant.laid (sym test ∙ w.if-spots-i.true) c.loop-i.at c.loop-i.invariant.at new kept
                (subst (λ (os : List (Option ℕ)). AreTailsPlaced names c.loop-i.at i os new) w.deref_mut.ensures.value w.place_tails.ensures)));
            at = omega (
              arith,
              w.at-is,
              w.saturating_add-at.ensures,
              w.saturating_add.ensures,
              c.loop-i.invariant.at,
              ap length here,
              ap (λ ts. length (text_of ts)) tops_are,
              last_text tops name,
            );
          }
      | else-spots-i w ↦
          record {
            laid = subst (λ (ts : List (List ℕ)). IsLaidOut c.args.head names (i + 1) ts c.if-spots-i.offsets.items) (sym (ap (λ v. texts v.items) w.tops-is))
                (subst (λ (os : List (Option ℕ)). IsLaidOut c.args.head names (i + 1) tops os) (sym (ap (λ v. v.items) w.offsets-is))
                (laid_same c.args.head i names low tops c.loop-i.offsets.items c.loop-i.invariant.laid (sym test ∙ w.if-spots-i.false)));
            at = w.at-is ∙ c.loop-i.invariant.at ∙ ap (λ v. capped (c.args.head + length (text_of (texts v.items)))) (sym w.tops-is);
          }
    ]

pub returns-clause-tops : goal.returns-clause-tops
returns-clause-tops c =
    tops_all c.args.head c.loop-i.i (texts c.args.names.now) (omega (arith, c.loop-i-test.false, length-map c.args.names.now (λ (n : Bor (List ℕ)). n.now)))
    (texts c.loop-i.tops.items) c.loop-i.offsets.items c.loop-i.invariant.laid

pub returns-clause-offsets : goal.returns-clause-offsets
returns-clause-offsets c =
    offsets_all c.args.head c.loop-i.i (texts c.args.names.now) (omega (arith, c.loop-i-test.false, length-map c.args.names.now (λ (n : Bor (List ℕ)). n.now)))
    (texts c.loop-i.tops.items) c.loop-i.offsets.items c.loop-i.invariant.laid

pub returns-clause-placed : goal.returns-clause-placed
returns-clause-placed c =
    placed_all c.args.head c.loop-i.i (texts c.args.names.now) (omega (arith, c.loop-i-test.false, length-map c.args.names.now (λ (n : Bor (List ℕ)). n.now)))
    (texts c.loop-i.tops.items) c.loop-i.offsets.items c.loop-i.invariant.laid
