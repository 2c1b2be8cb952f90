-- What is seen of an object that was written looks like the object: each relocation has its value, against a symbol at its new position, or against
-- the section of a Global.
use Rattle.std.proofs.Common.{◌≡◌, ℕ, ◌+◌, Bool, true, false, cond, List, Option, Some, None, refl, sym, ◌∙◌, ap, arith}
use Rattle.std.specs.{Prelude.{slice_get, ℤ}, Option.{option_map, option_and_then, unwrap_or}}
use Rattle.std.proofs.lemmas.Option.{none-some, same_Some}
use Rattle.std.proofs.Math.Nat.{mod-mod}
use Rattle.oc_base.specs.{declared.format.Word.{Word}, Formats.{word_for}}
use Rattle.oc_linking.specs.declared.terms.Fallback.TheVariants as fallback
use Rattle.oc_linking.specs.{declared.terms.Base.{Base}, declared.terms.Less.{Less}, declared.terms.Binding.{Binding}}
use Rattle.oc_linking.specs.{declared.terms.Binding.TheVariants.{Global, Weak}, Parts.{is_local}, Numbers.{modulus, minus, reduced}}
use Rattle.oc_linking.specs.{Placing.{Placement, Outside, nowhere}, Values.{Valued, worthless, numbered, place_site, site_of, values}}
use Rattle.oc_linking.specs.declared.terms.Base.TheVariants as base
use Rattle.oc_linking.specs.declared.terms.Less.TheVariants as less
use Rattle.oc_linking.specs.declared.terms.Value.TheVariants as value
use Rattle.oc_linking.proofs.Worth.{values-edited}
use Rattle.oc_algebra.specs.Residues.{residue_of, reduced_number}
use Rattle.oc_algebra.proofs.Laws.{residue_moved, minus-place}
use Rattle.oc_neutral.specs.{declared.section.Section.{Section}, declared.symbol.Symbol.{Symbol}, declared.reloc.Reloc.{Reloc}, declared.reloc.Target.{Target}}
use Rattle.oc_neutral.specs.{Objects.{Object, reloc_at}, Building.{is_zero}, Normal.{Place, at_section, moved_addend, takes_section}}
use Rattle.oc_neutral.specs.{Invariants.{AreDistinct, IsOriginal}, Faces.{key_of, shown_section, shown_binding, shown_symbol, shown_symbols}}
use Rattle.oc_neutral.specs.{Worth.{target_worth, base_of, less_of, residue_at}, KeySymbols.{global_place}}
use Rattle.oc_neutral.specs.declared.reloc.Target.TheVariants as target
use Rattle.oc_shows.specs.{Written.{LooksAlike}, Manners.{Manner}}
use Rattle.oc_shows.specs.Seen.{place_at, seen_with, seen_symbol, seen_target, seen_reloc, new_position, section_place, target_place}
use Rattle.oc_shows.specs.Reordered.{HasValueOf, IsReordered}
use Rattle.oc_shows.proofs.SeenLines.{IsShown}
use Rattle.oc_shows.proofs.SeenAlike.{IsNameable, global_is, numbers_differ, stands, comes_from, shapes_same, contents_same, relocs_same, alike}
use Rattle.oc_shows.proofs.Reordered.{member_map, original_found, HasLike, moved_target, moved_value, looks_alike}

-- a place in a section of no group is at the section, with its offset
module _ (w : Word) (p : Placement) (s at : ℕ) (place : Place) (slot : ℕ) where
  abbrev section_worth : Valued
  section_worth = record { site = p.site place.0; slot = 0 }

  abbrev global_worth : Valued
  global_worth = record { site = place_site w p place.0 place.1; slot = slot }

  less_same : (l : Less) → less_of p s at section_worth l ≡ less_of p s at global_worth l
  less_same l = grind arith

  pub section_value : (b : Base) → b ≡ base.Address → (a : ℤ) (l : Less) → minus w (base_of p section_worth b + residue_of w (reduced_number w (moved_addend b a place.1))) (less_of p s at section_worth l)
      ≡ minus w (base_of p global_worth b + residue_of w a) (less_of p s at global_worth l)
  section_value b address a l =
      rw (address, less_same l, residue_moved w a place.1)
      (minus-place w (p.site place.0).address (reduced w ((p.site place.0).address + place.1)) place.1 (residue_of w a) (less_of p s at global_worth l) (mod-mod ((p.site place.0).address + place.1) (modulus w)))

-- the Global that is read as the section of its place, which is not taken
module _ (n : Object) where
  place_left : (place : Place) (l : Less) (o : Option Place) → option_and_then (λ (q : Place). cond (takes_section q.0 l) None (Some q)) o ≡ Some place → (o ≡ Some place) × (takes_section place.0 l ≡ false)
  place_left place l None h = absurd (none-some place h)
  place_left place l (Some q) h = by (takes_section q.0 l) refl h
    where
      by : (b : Bool) → takes_section q.0 l ≡ b → cond b None (Some q) ≡ Some place → (Some q ≡ Some place) × (takes_section place.0 l ≡ false)
      by true e h = absurd (none-some place h)
      by false e h = (h, ap (λ (x : Place). takes_section x.0 l) (sym (same_Some q place h)) ∙ e)

  placed_target : (place : Place) (l : Less) (t : Target) → target_place n l t ≡ Some place → (k : ℕ) × (t ≡ target.Symbol k) × (place_at n k ≡ Some place) × (takes_section place.0 l ≡ false)
  placed_target place l (target.Section k) h = absurd (none-some place h)
  placed_target place l (target.Symbol k) h = let m = place_left place l (place_at n k) h in (k, refl, m.0, m.1)

  pub section_target : (b : Bool) (place : Place) (l : Less) (t : Target) → cond b (target_place n l t) None ≡ Some place
      → (k : ℕ) × (t ≡ target.Symbol k) × (place_at n k ≡ Some place) × (takes_section place.0 l ≡ false)
  section_target true place l t h = placed_target place l t h
  section_target false place l t h = absurd (none-some place h)

-- what a relocation is whose target, a Global, is read as the section of its place: an address in a section that is in no group
pub record IsSectional (n : Object) (r : Reloc) (place : Place) : Type 0 where
  pub base : r.form.base ≡ base.Address
  pub section : Section
  pub there : slice_get n.sections place.0 ≡ Some section
  pub alone : section.group ≡ None

module _ (m : Manner) (n : Object) (shown : List (ℕ × ℕ)) (is : IsShown n shown)
    (names : (k j : ℕ) (s : Symbol) → slice_get n.symbols k ≡ Some s → s.binding ≡ Weak (fallback.Name j) → IsNameable m n j)
    -- those are Zero that the format gives as Zero
    (kinds : (k : ℕ) (s : Section) → slice_get n.sections k ≡ Some s → is_zero (m.kind s) ≡ is_zero s.kind)
    -- addends are reduced, and targets are no Locals and no aliases
    (reduced : (s at : ℕ) (r : Reloc) → reloc_at n s at ≡ Some r → reduced_number (word_for n.format) r.addend ≡ r.addend)
    (targets : (s at : ℕ) (r : Reloc) (k : ℕ) → reloc_at n s at ≡ Some r → r.target ≡ target.Symbol k → (y : Symbol) × (slice_get n.symbols k ≡ Some y) × (is_local y.binding ≡ false) × IsOriginal n.symbols k)
    (sectional : (s at : ℕ) (r : Reloc) (place : Place) → reloc_at n s at ≡ Some r → section_place m n r ≡ Some place → IsSectional n r place) where
  -- a target has its like
  has_like : (s at : ℕ) (r : Reloc) → reloc_at n s at ≡ Some r → (t : Target) → r.target ≡ t → HasLike (seen_with m n shown) n (new_position shown) t
  has_like s at r here (target.Section k) e = tt
  has_like s at r here (target.Symbol k) e =
      let y = targets s at r k here e in
      let t = stands m n shown is k y.0 y.1 y.2 in
      (y.0, seen_symbol m n shown t.0 y.0, y.1, t.1, alike m n shown is names k t.0 y.0 y.1 y.2, y.3)

  target_seen : (t : Target) → seen_target shown t ≡ moved_target (new_position shown) t
  target_seen (target.Section k) = refl
  target_seen (target.Symbol k) = refl

  -- forms stay
  form_same : (r : Reloc) (o : Option Place) → (at_section (word_for n.format) r o).form ≡ r.form
  form_same r None = refl
  form_same r (Some place) = refl

  -- a relocation that stays against its symbol
  symbol_moved : (s at : ℕ) (r : Reloc) → reloc_at n s at ≡ Some r → section_place m n r ≡ None → HasValueOf (seen_with m n shown) n s at (seen_reloc m n shown r) r
  symbol_moved s at r here own =
      moved_value (seen_with m n shown) n (new_position shown) (numbers_differ m n shown is) s at (seen_reloc m n shown r) r
      (ap (λ o. seen_target shown (at_section (word_for n.format) r o).target) own ∙ target_seen r.target)
      (form_same r (section_place m n r))
      (ap (λ o. (at_section (word_for n.format) r o).addend) own ∙ reduced s at r here)
      (has_like s at r here r.target refl)

  -- one that is against the section of its Global
  section_moved : (s at : ℕ) (r : Reloc) (place : Place) → reloc_at n s at ≡ Some r → section_place m n r ≡ Some place → HasValueOf (seen_with m n shown) n s at (seen_reloc m n shown r) r
  unfolding residue_at
  section_moved s at r place here own p e groups =
      let w : Word = word_for n.format in
      let k = section_target n (m.by_section r.form.less) place r.form.less r.target own in
      let y = targets s at r k.0 here k.1 in
      let its = sectional s at r place here own in
      let binding : y.0.binding ≡ Global (value.Place place.0 place.1) = global_is y.0.binding place (sym (ap (option_and_then (λ (x : Symbol). global_place x.binding)) y.1) ∙ k.2) in
      let kept : p.discarded place.0 ≡ false = groups.alone place.0 (shown_section n.groups its.section) (member_map (shown_section n.groups) n.sections place.0 its.section its.there) (ap (option_and_then (key_of n.groups)) its.alone) in
      let displayed : slice_get (shown_symbols n) k.0 ≡ Some (shown_symbol n.symbols y.0) = member_map (shown_symbol n.symbols) n.symbols k.0 y.0 y.1 in
      let found : numbered (shown_symbols n) y.0.number ≡ Some (shown_symbol n.symbols y.0) = original_found n k.0 y.0 y.1 y.3 in
      let worth : target_worth n.symbols p (values w (shown_symbols n) (shown_symbols n) p e) r.target ≡ global_worth w p s at place (e.slot y.0.name)
      = ap (target_worth n.symbols p (values w (shown_symbols n) (shown_symbols n) p e)) k.1
      ∙ ap (λ q. unwrap_or (option_map (λ (x : Symbol). values w (shown_symbols n) (shown_symbols n) p e x.number) q) worthless) y.1
      ∙ values-edited w (shown_symbols n) (shown_symbols n) p e y.0.number (shown_symbol n.symbols y.0) found
      ∙ ap (λ b. own_worth w p e y.0.name (shown_binding n.symbols b)) binding
      ∙ ap (λ b. record { site = cond b (unwrap_or (e.site y.0.name) nowhere) (place_site w p place.0 place.1); slot = e.slot y.0.name }) kept in
      ap (λ o. valued w p s at (at_section w r o)) own
      ∙ section_value w p s at place (e.slot y.0.name) r.form.base its.base r.addend r.form.less
      ∙ sym (ap (λ x. minus w (base_of p x r.form.base + residue_of w r.addend) (less_of p s at x r.form.less)) worth)
    where
      own_worth : Word → Placement → Outside → List ℕ → Binding → Valued
      own_worth w p e name b = record { site = site_of w p e (shown_symbols n) name b; slot = cond (is_local b) 0 (e.slot name) }

      valued : Word → Placement → ℕ → ℕ → Reloc → ℕ
      valued w p s at q =
          let x : Valued = target_worth (seen_with m n shown).symbols p (values w (shown_symbols (seen_with m n shown)) (shown_symbols (seen_with m n shown)) p e) (seen_target shown q.target) in
          minus w (base_of p x q.form.base + residue_of w q.addend) (less_of p s at x q.form.less)

  -- each has its value
  moved : (s at : ℕ) (r : Reloc) → reloc_at n s at ≡ Some r → HasValueOf (seen_with m n shown) n s at (seen_reloc m n shown r) r
  moved s at r here = by (section_place m n r) refl
    where
      by : (o : Option Place) → section_place m n r ≡ o → HasValueOf (seen_with m n shown) n s at (seen_reloc m n shown r) r
      by None own = symbol_moved s at r here own
      by (Some place) own = section_moved s at r place here own

  pub seen_reordered : IsReordered (seen_with m n shown) n (new_position shown) (seen_reloc m n shown)
  seen_reordered = record {
    word = refl;
    shapes = shapes_same m n shown is 0 n.sections;
    contents = contents_same m n shown is 0 n.sections kinds;
    there = λ k s here outer. let t = stands m n shown is k s here outer in (seen_symbol m n shown t.0 s, t.1, alike m n shown is names k t.0 s here outer);
    from = comes_from m n shown is;
    relocs = λ s at. relocs_same m n shown is n.relocs s at;
    forms = λ r. form_same r (section_place m n r);
    moved = moved;
  }

  -- what is seen looks like the object
  pub seen_alike : AreDistinct n.symbols → LooksAlike (seen_with m n shown) n
  seen_alike distinct = looks_alike (seen_with m n shown) n (new_position shown) (seen_reloc m n shown) seen_reordered distinct
