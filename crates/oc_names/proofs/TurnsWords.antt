-- Symbols that become Weak or Local by a second list of edits: settling the fallbacks and naming in between changes nothing for it.
use Rattle.std.proofs.Common.{◌≡◌, ◌≢◌, ℕ, Bool, true, false, ◌&&◌, cond, List, [], ◌∷◌, ◌++◌, map, Option, Some, None, Ok, inl, inr, refl, sym, ◌∙◌, ap}
use Rattle.std.specs.List.{AllByRecursion}
use Rattle.std.proofs.lemmas.Bool.{true≢false}
use Rattle.oc_base.specs.{declared.code.Code.TheVariants.{PinnedWeak}, declared.fault.Fault.{Fault}, declared.format.Format.{Format}}
use Rattle.oc_linking.specs.declared.terms.Fallback.TheVariants as fallback
use Rattle.oc_linking.specs.{declared.terms.Binding.{Binding}, declared.terms.Binding.TheVariants.{Weak}, Numbers.{or_else}, Parts.{is_local}}
use Rattle.oc_neutral.specs.{declared.symbol.Symbol.{Symbol}, Without.{with_binding}}
use Rattle.oc_names.specs.{declared.edit.Edit.{Edit}, declared.edit.Edit.TheVariants.{MakeLocal}}
use Rattle.oc_names.specs.{Rebinding.{after_words, is_global, is_weakened, pinned_fault, rebound, rebound_by, settled, settled_binding}, NewNames.{renamed_by}}
use Rattle.oc_names.specs.{Naming.{named, with_name}, EditedFile.{after_all}, Turns.{is_about}}
use Rattle.oc_drop.specs.Steps.{first_in, symbol_fault, then_by, unless}
use Rattle.oc_neutral.proofs.{Positions.{each_weaker}, LeftObject.{all_map}}
use Rattle.oc_drop.proofs.DroppedSections.{map_twice}
use Rattle.oc_names.proofs.TurnsNames.{ArePlain, IsApartSymbol, apart_one, apart_rest, leave_first, named_kept, named_local, named_new}
use Rattle.oc_names.proofs.TurnsSymbols.{first_alike, map_alike}
use Rattle.oc_names.proofs.TurnsBindings.{StaysWeak, global_settled, local_by, local_settled, own_by, own_settled, rebound_off, settled_weak, stands_for, stands_or_not, weak_by, weakened_off}

-- ... all words at once

-- the first fault of words
abbrev pub words_fault : List Edit → List Symbol → Option Fault
words_fault [] xs = None
words_fault (edit ∷ edits) xs = or_else (first_in (pinned_fault edit) xs) (words_fault edits (map (rebound edit) xs))

map_all : (xs : List Symbol) → map (after_all []) xs ≡ xs
map_all [] = refl
map_all (x ∷ xs) = ap (λ ys. x ∷ ys) (map_all xs)

pub words_are : (edits : List Edit) (xs : List Symbol) → after_words edits xs ≡ unless (words_fault edits xs) (map (after_all edits) xs)
words_are [] xs = ap Ok (sym (map_all xs))
words_are (edit ∷ edits) xs = by (first_in (pinned_fault edit) xs) (words_are edits (map (rebound edit) xs) ∙ ap (unless (words_fault edits (map (rebound edit) xs))) (map_twice (after_all edits) (rebound edit) xs))
  where
    by : (o : Option Fault) → after_words edits (map (rebound edit) xs) ≡ unless (words_fault edits (map (rebound edit) xs)) (map (after_all (edit ∷ edits)) xs)
        → then_by (after_words edits) (unless o (map (rebound edit) xs)) ≡ unless (or_else o (words_fault edits (map (rebound edit) xs))) (map (after_all (edit ∷ edits)) xs)
    by None e = e
    by (Some f) e = refl

-- words after others
pub words_joined : (first second : List Edit) (xs : List Symbol) → after_words (first ++ second) xs ≡ then_by (after_words second) (after_words first xs)
words_joined [] second xs = refl
words_joined (edit ∷ first) second xs = by (first_in (pinned_fault edit) xs) (words_joined first second (map (rebound edit) xs))
  where
    by : (o : Option Fault) → after_words (first ++ second) (map (rebound edit) xs) ≡ then_by (after_words second) (after_words first (map (rebound edit) xs))
        → then_by (after_words (first ++ second)) (unless o (map (rebound edit) xs)) ≡ then_by (after_words second) (then_by (after_words first) (unless o (map (rebound edit) xs)))
    by None e = e
    by (Some f) e = refl

-- ... an edit of what was settled and named

-- it is that of the symbol, settled and named
pub record Passes (f : Symbol → Symbol) (edit : Edit) (s : Symbol) : Type 0 where
  pub fault : pinned_fault edit (f s) ≡ pinned_fault edit s
  pub rebinds : rebound edit (f s) ≡ f (rebound edit s)

settled_passes : (bindings : List Binding) (edit : Edit) (s : Symbol) → StaysWeak (edit ∷ []) s → Passes (settled bindings) edit s
settled_passes bindings edit s standing = record {
  fault = ap (λ b. cond (is_weakened edit s.name && b && s.pinned) (Some (symbol_fault PinnedWeak s)) None) (global_settled bindings s.binding);
  rebinds = ap (with_binding s) (elim (stands_or_not s.binding) [ inl named ↦ weak named.0 named.1 | inr own ↦ free own ]);
}
  where
    free : stands_for s.binding ≡ false → rebound_by edit s.name (settled_binding bindings s.binding) ≡ settled_binding bindings (rebound_by edit s.name s.binding)
    free own = ap (rebound_by edit s.name) (own_settled bindings s.binding own) ∙ sym (own_settled bindings (rebound_by edit s.name s.binding) (own_by edit s.name s.binding own))

    weak : (k : ℕ) → s.binding ≡ Weak (fallback.Name k) → rebound_by edit s.name (settled_binding bindings s.binding) ≡ settled_binding bindings (rebound_by edit s.name s.binding)
    weak k is =
        let other : edit ≢ MakeLocal s.name = (standing k is).0 in
        let w = settled_weak bindings k in
        ap (λ b. rebound_by edit s.name (settled_binding bindings b)) is ∙ ap (rebound_by edit s.name) w.1 ∙ weak_by edit s.name w.0 other
        ∙ sym (ap (λ b. settled_binding bindings (rebound_by edit s.name b)) is ∙ ap (settled_binding bindings) (weak_by edit s.name (fallback.Name k) other) ∙ w.1)

-- what holds of a symbol holds after an edit
outer_before : (edit : Edit) (of : List ℕ) (b : Binding) → is_local (rebound_by edit of b) ≡ false → is_local b ≡ false
outer_before edit of b outer = by (is_local b) refl
  where
    by : (c : Bool) → is_local b ≡ c → c ≡ false
    by true e = sym (ap is_local (local_by edit of b e) ∙ e) ∙ outer
    by false e = refl

stands_before : (edit : Edit) (of : List ℕ) (b : Binding) (k : ℕ) → rebound_by edit of b ≡ Weak (fallback.Name k) → (j : ℕ) × (b ≡ Weak (fallback.Name j))
stands_before edit of b k is = elim (stands_or_not b) [
  | inl named ↦ named
  | inr own ↦ absurd (true≢false (ap stands_for (sym is) ∙ own_by edit of b own))
]

-- what is asked of each symbol, so that the edits pass
pub record MayPass (first edits : List Edit) (s : Symbol) : Type 0 where
  pub apart : IsApartSymbol first edits s
  pub standing : StaysWeak edits s

free_rebound : (first : List Edit) (edit : Edit) (edits : List Edit) (s : Symbol) → MayPass first (edit ∷ edits) s → MayPass first edits (rebound edit s)
free_rebound first edit edits s free = record {
  apart = λ outer. apart_rest first edit edits s.name (free.apart (outer_before edit s.name s.binding outer));
  standing = λ k is. let j = stands_before edit s.name s.binding k is in (free.standing j.0 j.1).1;
}

module _ (from to : Format) (first : List Edit) (plain : ArePlain first) where
  abbrev name_of : Symbol → Symbol
  name_of s = named first from to s

  named_passes : (edit : Edit) (s : Symbol) → IsApartSymbol first (edit ∷ []) s → Passes name_of edit s
  named_passes edit s apart = by (is_local s.binding) (first_in (renamed_by s.name) first) refl refl
    where
      kept : name_of s ≡ s → name_of (rebound edit s) ≡ rebound edit s → Passes name_of edit s
      kept own next = record { fault = ap (pinned_fault edit) own; rebinds = ap (rebound edit) own ∙ sym next }

      no_fault : (t : Symbol) → is_about t.name edit ≡ false → pinned_fault edit t ≡ None
      no_fault t off = ap (λ b. cond (b && is_global t.binding && t.pinned) (Some (symbol_fault PinnedWeak t)) None) (weakened_off edit t.name off)

      stays : (t : Symbol) → is_about t.name edit ≡ false → rebound edit t ≡ t
      stays t off = ap (with_binding t) (rebound_off edit t.name t.binding off)

      by : (b : Bool) (o : Option (List ℕ)) → is_local s.binding ≡ b → first_in (renamed_by s.name) first ≡ o → Passes name_of edit s
      by true o e is = kept (named_local from to first s e) (named_local from to first (rebound edit s) (ap is_local (local_by edit s.name s.binding e) ∙ e))
      by false None e is = kept (named_kept from to first plain s is) (named_kept from to first plain (rebound edit s) is)
      by false (Some new) e is =
          let a = apart e new is in
          let off : is_about s.name edit ≡ false = leave_first edit [] s.name a.0 in
          let off' : is_about new edit ≡ false = leave_first edit [] new a.1 in
          let own : name_of s ≡ with_name s new = named_new from to first plain s new e is in
          record {
            fault = ap (pinned_fault edit) own ∙ no_fault (with_name s new) off' ∙ sym (no_fault s off);
            rebinds = ap (rebound edit) own ∙ stays (with_name s new) off' ∙ sym own ∙ ap name_of (sym (stays s off));
          }

  -- a symbol that was settled and then named
  abbrev pub both : List Binding → Symbol → Symbol
  both bindings s = name_of (settled bindings s)

  both_passes : (bindings : List Binding) (edit : Edit) (s : Symbol) → IsApartSymbol first (edit ∷ []) s → StaysWeak (edit ∷ []) s → Passes (both bindings) edit s
  both_passes bindings edit s apart standing =
      let one = settled_passes bindings edit s standing in
      let two = named_passes edit (settled bindings s) (λ outer. apart (sym (local_settled bindings s.binding) ∙ outer)) in
      record { fault = two.fault ∙ one.fault; rebinds = two.rebinds ∙ ap name_of one.rebinds }

  free_passes : (bindings : List Binding) (edit : Edit) (edits : List Edit) (s : Symbol) → MayPass first (edit ∷ edits) s → Passes (both bindings) edit s
  free_passes bindings edit edits s free = both_passes bindings edit s (λ outer. apart_one first edit edits s.name (free.apart outer)) (λ k is. ((free.standing k is).0, tt))

  module _ (bindings : List Binding) where
    abbrev settled_name : Symbol → Symbol
    settled_name s = both bindings s

    -- words of symbols that were settled and named are those of the symbols
    pub record PassAll (edits : List Edit) (xs : List Symbol) : Type 0 where
      pub fault : words_fault edits (map settled_name xs) ≡ words_fault edits xs
      pub symbols : map (after_all edits) (map settled_name xs) ≡ map settled_name (map (after_all edits) xs)

    pub words_pass : (edits : List Edit) (xs : List Symbol) → AllByRecursion (MayPass first edits) xs → PassAll edits xs
    words_pass [] xs free = record { fault = refl; symbols = map_all (map settled_name xs) ∙ ap (map settled_name) (sym (map_all xs)) }
    words_pass (edit ∷ edits) xs free =
        let pass : AllByRecursion (Passes settled_name edit) xs = each_weaker (MayPass first (edit ∷ edits)) (Passes settled_name edit) (free_passes bindings edit edits) xs free in
        let next = words_pass edits (map (rebound edit) xs) (all_map (MayPass first edits) (rebound edit) xs
        (each_weaker (MayPass first (edit ∷ edits)) (λ s. MayPass first edits (rebound edit s)) (free_rebound first edit edits) xs free)) in
        let fault = first_alike (pinned_fault edit) settled_name (pinned_fault edit) xs (each_weaker (Passes settled_name edit) (λ s. pinned_fault edit (settled_name s) ≡ pinned_fault edit s) (λ s p. p.fault) xs pass) in
        let same : map (rebound edit) (map settled_name xs) ≡ map settled_name (map (rebound edit) xs) =
        map_alike (rebound edit) settled_name (λ s. settled_name (rebound edit s)) xs
        (each_weaker (Passes settled_name edit) (λ s. rebound edit (settled_name s) ≡ settled_name (rebound edit s)) (λ s p. p.rebinds) xs pass)
        ∙ sym (map_twice settled_name (rebound edit) xs) in
        record {
          fault = ap (λ o. or_else o (words_fault edits (map (rebound edit) (map settled_name xs)))) fault
              ∙ ap (or_else (first_in (pinned_fault edit) xs)) (ap (words_fault edits) same ∙ next.fault);
          symbols = sym (map_twice (after_all edits) (rebound edit) (map settled_name xs)) ∙ ap (map (after_all edits)) same ∙ next.symbols
              ∙ ap (map settled_name) (map_twice (after_all edits) (rebound edit) xs);
        }
