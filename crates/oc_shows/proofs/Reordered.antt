-- An object whose symbols stand in another order, with other numbers and with other Locals, looks alike. This says nothing of any format.
use Rattle.std.proofs.Common.{◌≡◌, ℕ, zero, suc, ◌+◌, false, List, [], ◌∷◌, map, Option, Some, None, refl, sym, ◌∙◌, ap, inl, inr, arith}
use Rattle.std.specs.{Prelude.{slice_get, bytes_eq}, Option.{option_map, option_map_or, unwrap_or}}
use Rattle.std.proofs.lemmas.{Bool.{cases_lt}, Slice.Eq.{bytes_eq-Decides}, Option.{none-some, same_Some}}
use Rattle.oc_base.specs.{declared.format.Word.{Word}, Formats.{word_for}}
use Rattle.oc_linking.specs.{declared.terms.Binding.{Binding}, declared.terms.Patch.{Patch}, Parts.{is_local, by_name}}
use Rattle.oc_linking.specs.{Placing.{Placement, Outside, DiscardsGroups}, Values.{Valuation, Valued, worthless, numbered, values}}
use Rattle.oc_linking.specs.{Linking.{Export, export_at, export_of, exports, patch_of}, Numbers.{minus}, Faithful.{Sort, sort_of}, Shows.{object_patches}}
use Rattle.oc_linking.specs.Parts as parts
use Rattle.oc_linking.proofs.{Naming.{GivenIn, Single, by_name_same}, Worth.{numbered-first, values-edited}}
use Rattle.oc_algebra.specs.Residues.{residue_of}
use Rattle.oc_neutral.specs.{declared.symbol.Symbol.{Symbol}, declared.reloc.Reloc.{Reloc}, declared.reloc.Target.{Target}, Objects.{Object, reloc_at}}
use Rattle.oc_neutral.specs.{Invariants.{AreDistinct, IsOriginal}, Faces.{shown_binding, shown_symbol, shown_symbols, shown_sections, field_of, linked_object}}
use Rattle.oc_neutral.specs.Worth.{target_worth, base_of, less_of, residue_at}
use Rattle.oc_neutral.specs.declared.reloc.Target.TheVariants as target
use Rattle.oc_shows.specs.{Shows.{AreNumbered}, Written.{LooksAlike}, Reordered.{AreAlike, HasValueOf, IsReordered, ReorderedLooksAlike}}
use Rattle.oc_shows.proofs.Truth.{values-own}

-- members of a list that is mapped
pub member_map : {X Y : Type 0} (f : X → Y) (xs : List X) (k : ℕ) (x : X) → slice_get xs k ≡ Some x → slice_get (map f xs) k ≡ Some (f x)
member_map f [] k x here = absurd (none-some x here)
member_map f (y ∷ xs) zero x here = ap (λ z. Some (f z)) (same_Some y x here)
member_map f (y ∷ xs) (suc k) x here = member_map f xs k x here

pub of_map : {X Y : Type 0} (f : X → Y) (xs : List X) (k : ℕ) (y : Y) → slice_get (map f xs) k ≡ Some y → (x : X) × (slice_get xs k ≡ Some x) × (f x ≡ y)
of_map f [] k y here = absurd (none-some y here)
of_map f (x ∷ xs) zero y here = (x, refl, same_Some (f x) y here)
of_map f (x ∷ xs) (suc k) y here = of_map f xs k y here

pub shown_local : (symbols : List Symbol) (b : Binding) → is_local (shown_binding symbols b) ≡ is_local b
shown_local symbols b = grind arith

-- what gives something is no Local
sort_outer : (c : ℕ → ℕ → ℕ) (b : Binding) (x : Sort) → sort_of c b ≡ Some x → is_local b ≡ false
sort_outer c b x e = grind arith

export_outer : (w : Word) (p : Placement) (e : Outside) (symbols : List parts.Symbol) (name : List ℕ) (b : Binding) (x : Export) → export_at w p e symbols name b ≡ Some x → is_local b ≡ false
export_outer w p e symbols name b x h = grind arith

module _ (m n : Object) (position : ℕ → ℕ) (move : Reloc → Reloc) (is : IsReordered m n position move) (distinct : AreDistinct n.symbols) where
  abbrev xs : List parts.Symbol
  xs = shown_symbols m

  abbrev ys : List parts.Symbol
  ys = shown_symbols n

  -- what symbols give by name
  module _ {X : Type 0} (f g : parts.Symbol → Option X) (local : (s : parts.Symbol) (x : X) → f s ≡ Some x → is_local s.binding ≡ false)
      (local' : (s : parts.Symbol) (x : X) → g s ≡ Some x → is_local s.binding ≡ false)
      (same : (t s : Symbol) → AreAlike m n t s → f (shown_symbol m.symbols t) ≡ g (shown_symbol n.symbols s)) where
    given_there : GivenIn f g xs ys
    given_there i s x here gives =
        let t = of_map (shown_symbol m.symbols) m.symbols i s here in
        let out : is_local t.0.binding ≡ false = sym (shown_local m.symbols t.0.binding) ∙ ap (λ (u : parts.Symbol). is_local u.binding) t.2 ∙ local s x gives in
        let k = is.from i t.0 t.1 out in
        let u = is.there k.0 k.1 k.2 k.3 in
        let one : u.0 ≡ t.0 = same_Some u.0 t.0 (sym u.1 ∙ ap (slice_get m.symbols) k.4 ∙ t.1) in
        let back : shown_symbol m.symbols u.0 ≡ s = ap (shown_symbol m.symbols) one ∙ t.2 in (
          k.0,
          shown_symbol n.symbols k.1,
          member_map (shown_symbol n.symbols) n.symbols k.0 k.1 k.2,
          (λ name e. ap (λ q. bytes_eq q name) (sym u.2.name ∙ ap (λ (z : parts.Symbol). z.name) back) ∙ e),
          sym (same u.0 k.1 u.2) ∙ ap f back ∙ gives,
        )

    given_back : GivenIn g f ys xs
    given_back k s x here gives =
        let t = of_map (shown_symbol n.symbols) n.symbols k s here in
        let out : is_local t.0.binding ≡ false = sym (shown_local n.symbols t.0.binding) ∙ ap (λ (u : parts.Symbol). is_local u.binding) t.2 ∙ local' s x gives in
        let u = is.there k t.0 t.1 out in (
          position k,
          shown_symbol m.symbols u.0,
          member_map (shown_symbol m.symbols) m.symbols (position k) u.0 u.1,
          (λ name e. ap (λ q. bytes_eq q name) (u.2.name ∙ ap (λ (z : parts.Symbol). z.name) t.2) ∙ e),
          same u.0 t.0 u.2 ∙ ap g t.2 ∙ gives,
        )

    single : Single g ys
    single i j s t x y name here there first second gives gives' =
        let a = of_map (shown_symbol n.symbols) n.symbols i s here in
        let b = of_map (shown_symbol n.symbols) n.symbols j t there in
        let out : is_local a.0.binding ≡ false = sym (shown_local n.symbols a.0.binding) ∙ ap (λ (u : parts.Symbol). is_local u.binding) a.2 ∙ local' s x gives in
        let out' : is_local b.0.binding ≡ false = sym (shown_local n.symbols b.0.binding) ∙ ap (λ (u : parts.Symbol). is_local u.binding) b.2 ∙ local' t y gives' in
        let names : a.0.name ≡ b.0.name = ap (λ (u : parts.Symbol). u.name) a.2 ∙ (bytes_eq-Decides s.name name).0 first ∙ sym ((bytes_eq-Decides t.name name).0 second) ∙ sym (ap (λ (u : parts.Symbol). u.name) b.2) in
        elim (cases_lt i j) [
          | inl l ↦ absurd (distinct i j a.0 b.0 l a.1 b.1 out out' names)
          | inr ge ↦ elim (cases_lt j i) [
            | inl l ↦ absurd (distinct j i b.0 a.0 l b.1 a.1 out' out (sym names))
            | inr le ↦
                let e : i ≡ j = omega (arith, ge, le) in
                same_Some x y (sym gives ∙ ap g (same_Some s t (sym here ∙ ap (slice_get ys) e ∙ there)) ∙ gives')
          ]
        ]

    pub same_by_name : (name : List ℕ) → by_name f xs name ≡ by_name g ys name
    same_by_name name = ap (λ (q : List ℕ → Option X). q name) (by_name_same f g xs ys given_there given_back single)

  -- values
  module _ (p : Placement) (e : Outside) (groups : DiscardsGroups (shown_sections n) p) where
    abbrev given : Word → Valuation
    given w = values w xs xs p e

    abbrev patch_by : Object → Word → Valuation → ℕ → ℕ → Reloc → Patch
    patch_by o w v i at r = record { width = r.form.width; check = r.form.check; residue = residue_at w o.symbols p v i at r }

    patches_same : (i at : ℕ) → object_patches (linked_object m) p e i at ≡ object_patches (linked_object n) p e i at
    patches_same i at =
        ap (λ q. option_map (patch_of p (given (word_for m.format))) (option_map (field_of m i at) q)) (is.relocs i at)
        ∙ by (reloc_at n i at) refl
      where
        by : (o : Option Reloc) → reloc_at n i at ≡ o
            → option_map (patch_of p (given (word_for m.format))) (option_map (field_of m i at) (option_map move o))
            ≡ option_map (patch_of p (values (word_for n.format) ys ys p e)) (option_map (field_of n i at) o)
        by None h = refl
        by (Some r) h =
            ap (λ w. Some (patch_by m w (given w) i at (move r))) is.word
            ∙ ap (λ x. Some (record { width = (move r).form.width; check = (move r).form.check; residue = x })) (is.moved i at r h p e groups)
            ∙ ap (λ form. Some (record { width = form.width; check = form.check; residue = residue_at (word_for n.format) n.symbols p (values (word_for n.format) ys ys p e) i at r })) (is.forms r)

  -- so it looks alike
  pub looks_alike : LooksAlike m n
  looks_alike = record {
    word = is.word;
    shapes = is.shapes;
    contents = is.contents;
    names = same_by_name (λ s. sort_of (λ size align. align) s.binding) (λ s. sort_of (λ size align. align) s.binding) (λ s x e. sort_outer (λ size align. align) s.binding x e)
        (λ s x e. sort_outer (λ size align. align) s.binding x e) (λ t s alike. alike.sort);
    patches = patches_same;
    exports = λ p e groups name.
        ap (λ w. exports w p e xs name) is.word
        ∙ same_by_name (export_of (word_for n.format) p e xs) (export_of (word_for n.format) p e ys) (λ s x h. outer_of p e xs s x h) (λ s x h. outer_of p e ys s x h)
        (λ t s alike. alike.exported p e groups) name;
  }
    where
      outer_of : (p : Placement) (e : Outside) (symbols : List parts.Symbol) (s : parts.Symbol) (x : Export) → export_of (word_for n.format) p e symbols s ≡ Some x → is_local s.binding ≡ false
      outer_of p e symbols s x h = export_outer (word_for n.format) p e symbols s.name s.binding x h

pub reordered_looks_alike : ReorderedLooksAlike
reordered_looks_alike m n position move is distinct = looks_alike m n position move is distinct

-- a symbol that is no alias is found by its number
pub original_found : (n : Object) (k : ℕ) (s : Symbol) → slice_get n.symbols k ≡ Some s → IsOriginal n.symbols k → numbered (shown_symbols n) s.number ≡ Some (shown_symbol n.symbols s)
original_found n k s here original =
    numbered-first (shown_symbols n) k (shown_symbol n.symbols s) (member_map (shown_symbol n.symbols) n.symbols k s here) (λ j u before there same.
    let z = of_map (shown_symbol n.symbols) n.symbols j u there in
    original j before (
    ap (λ q. option_map_or (λ (y : Symbol). y.number) q 0) z.1 ∙ ap (λ (y : parts.Symbol). y.number) z.2 ∙ same
    ∙ sym (ap (λ q. option_map_or (λ (y : Symbol). y.number) q 0) here)))

-- a target where symbols have moved
abbrev pub moved_target : (ℕ → ℕ) → Target → Target
moved_target position (target.Section k) = target.Section k
moved_target position (target.Symbol k) = target.Symbol (position k)

-- a target that is no Local, and no alias, and its like in m
abbrev pub HasLike : (m n : Object) → (ℕ → ℕ) → Target → Type 0
HasLike m n position (target.Section k) = Unit {0}
HasLike m n position (target.Symbol k) = (s : Symbol) × (t : Symbol) × (slice_get n.symbols k ≡ Some s) × (slice_get m.symbols (position k) ≡ Some t) × AreAlike m n t s × IsOriginal n.symbols k

module _ (m n : Object) (position : ℕ → ℕ) (numbers : AreNumbered (shown_symbols m)) (p : Placement) (e : Outside) (groups : DiscardsGroups (shown_sections n) p) where
  -- a target is worth what its like is worth
  target_same : (t : Target) → HasLike m n position t → target_worth m.symbols p (values (word_for n.format) (shown_symbols m) (shown_symbols m) p e) (moved_target position t)
      ≡ target_worth n.symbols p (values (word_for n.format) (shown_symbols n) (shown_symbols n) p e) t
  target_same (target.Section k) has = refl
  target_same (target.Symbol k) has =
      let w : Word = word_for n.format in
      let s : Symbol = has.0 in
      let t : Symbol = has.1 in
      let found : numbered (shown_symbols n) s.number ≡ Some (shown_symbol n.symbols s) = original_found n k s has.2 has.5 in
      ap (λ q. unwrap_or (option_map (λ (y : Symbol). values w (shown_symbols m) (shown_symbols m) p e y.number) q) worthless) has.3
      ∙ values-own w (shown_symbols m) numbers p e (position k) (shown_symbol m.symbols t) (member_map (shown_symbol m.symbols) m.symbols (position k) t has.3)
      ∙ has.4.value p e groups
      ∙ sym (values-edited w (shown_symbols n) (shown_symbols n) p e s.number (shown_symbol n.symbols s) found)
      ∙ sym (ap (λ q. unwrap_or (option_map (λ (y : Symbol). values w (shown_symbols n) (shown_symbols n) p e y.number) q) worthless) has.2)

-- a relocation whose target has moved has its value
pub moved_value : (m n : Object) (position : ℕ → ℕ) → AreNumbered (shown_symbols m) → (s at : ℕ) (q r : Reloc) → q.target ≡ moved_target position r.target → q.form ≡ r.form → q.addend ≡ r.addend
    → HasLike m n position r.target → HasValueOf m n s at q r
unfolding residue_at
moved_value m n position numbers s at q r target form addend has p e groups =
    let w : Word = word_for n.format in
    let v : Valuation = values w (shown_symbols m) (shown_symbols m) p e in
    let u : Valued = target_worth n.symbols p (values w (shown_symbols n) (shown_symbols n) p e) r.target in
    ap (λ t. residue w (target_worth m.symbols p v t) q) target
    ∙ ap (λ x. residue w x q) (target_same m n position numbers p e groups r.target has)
    ∙ ap (λ f. residue w u (record { target = r.target; form = f; addend = q.addend; hint = r.hint })) form
    ∙ ap (λ a. residue w u (record { target = r.target; form = r.form; addend = a; hint = r.hint })) addend
  where
    residue : Word → Valued → Reloc → ℕ
    residue w x y = minus w (base_of p x y.form.base + residue_of w y.addend) (less_of p s at x y.form.less)
