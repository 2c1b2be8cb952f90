-- The values of an object's symbols and fields where it is placed.
use Rattle.std.proofs.Common.{◌≡◌, ℕ, ◌+◌, ◌<◌, Bool, true, false, cond, List, length, get_or, Option, Some, None, refl, sym, ◌∙◌, ap, subst, arith}
use Rattle.std.specs.{Prelude.{slice_get}, Option.{option_map, option_map_or, unwrap_or}}
use Rattle.std.proofs.lemmas.{Bool.{true≢false}, List.{length-map}, Option.{get_or_from_slice_get, same_Some, slice_get-map, slice_get_within}}
use Rattle.oc_base.specs.{Formats.{word_for}, declared.format.Word.{Word}}
use Rattle.oc_linking.specs.{declared.terms.Fallback.{Fallback}, declared.terms.Binding.{Binding}}
use Rattle.oc_linking.specs.{declared.terms.Binding.TheVariants.{Local, Global, Undefined, Common, Weak}, declared.terms.Less.{Less}}
use Rattle.oc_linking.specs.{declared.terms.Patch.{Patch}, Numbers.{minus, or_else}, Parts.{is_local}}
use Rattle.oc_linking.specs.Values.{Valued, fallback_site, global_site, numbered, strong_site, value_of, worthless}
use Rattle.oc_linking.specs.declared.terms.Fallback.TheVariants as fallback
use Rattle.oc_linking.specs.declared.terms.Less.TheVariants as less
use Rattle.oc_algebra.specs.Residues.{residue_of}
use Rattle.oc_chains.specs.declared.field.Field.{Field}
use Rattle.oc_neutral.specs.{declared.reloc.Reloc.{Reloc}, declared.section.Section.{Section}, declared.symbol.Symbol.{Symbol}, Objects.{Object}}
use Rattle.oc_neutral.specs.Faces.{number_of, shown_binding, shown_fallback, shown_symbol, shown_symbols}
use Rattle.oc_neutral.specs.{Invariants.{IsFallback, IsLessThere, IsObject, IsOriginal, is_strong}, Worth.{base_of, less_of, residue_at, target_worth}}
use Rattle.oc_linking.specs.Parts as parts
use Rattle.oc_linking.specs.Placing as placing
use Rattle.oc_linking.proofs.Worth.{numbered-first}
use Rattle.oc_neutral.specs.declared.reloc.Target.TheVariants as target
use Rattle.oc_strings.specs.Repeats.{name_at}
use Rattle.oc_neutral.proofs.Positions.{there_at}
use Rattle.oc_place.specs.{declared.spot.Spot.{Spot}, declared.spot.Outside.{Outside}, Placings.{Placing, as_site, is_dropped, nothing_given, outside_at}}
use Rattle.oc_place.specs.{Footprints.{footprint_of}, Written.{symbol_named}}
use Rattle.oc_place.proofs.{CheckLemmas.{group_is}, IndexLemmas.{name_here, names, one_name, place_only}}
use Rattle.oc_link.specs.{declared.target.TargetValue.{TargetValue}, Values.{IsLessIn, as_valued, given, laid, patch_at, site_in, value_in, valued}}
use Rattle.oc_shows.proofs.Reordered.{shown_local}

-- the binding is not Weak
abbrev pub not_weak : Binding → Bool
not_weak (Local v) = true
not_weak (Global v) = true
not_weak Undefined = true
not_weak (Common size align) = true
not_weak (Weak f) = false

module _ (n : Object) (fine : IsObject n) (x : Placing) where
  -- whether a section is discarded
  pub discarded_some : (k : ℕ) (s : Section) → slice_get n.sections k ≡ Some s → (g : ℕ) → s.group ≡ Some g → (r : Bool) → slice_get x.dropped g ≡ Some r → r ≡ (laid n x).discarded k
  discarded_some k s here g is r dropped =
      sym (ap (is_dropped x.dropped) (group_is n fine k s here ∙ is) ∙ get_or_from_slice_get x.dropped g r false dropped)

  pub discarded_none : (k : ℕ) (s : Section) → slice_get n.sections k ≡ Some s → s.group ≡ None → false ≡ (laid n x).discarded k
  discarded_none k s here is = sym (ap (is_dropped x.dropped) (group_is n fine k s here ∙ is))

  -- the position of a symbol by its name
  pub symbol_at : (k : ℕ) (s : Symbol) → slice_get n.symbols k ≡ Some s → is_local s.binding ≡ false → symbol_named (shown_symbols n) s.name ≡ Some k
  symbol_at k s here nonlocal =
      let l = slice_get_within n.symbols k s here in
      let e = length-map n.symbols (shown_symbol n.symbols) in
      let named : name_at (names n) k ≡ Some s.name = name_here n k s here ∙ ap (λ b. cond b None (Some s.name)) nonlocal in
      place_only (names n) (length (shown_symbols n)) s.name k (omega (arith, l, e)) named (λ j there. one_name n fine.built.distinct j k s.name there named)

  -- what the outside gives its name
  pub given_own : (k : ℕ) (s : Symbol) → slice_get n.symbols k ≡ Some s → is_local s.binding ≡ false → (o : Outside) → slice_get x.given k ≡ Some o → outside_at (footprint_of n) x s.name ≡ o
  given_own k s here nonlocal o gives =
      ap (λ p. option_map_or (λ j. get_or x.given j nothing_given) p nothing_given) (symbol_at k s here nonlocal) ∙ get_or_from_slice_get x.given k o nothing_given gives

  -- its site and its slot there
  site_own : (k : ℕ) (s : Symbol) → slice_get n.symbols k ≡ Some s → is_local s.binding ≡ false → (o : Outside) → slice_get x.given k ≡ Some o → (given n x).site s.name ≡ option_map as_site o.spot
  site_own k s here nonlocal o gives = ap (λ (y : Outside). option_map as_site y.spot) (given_own k s here nonlocal o gives)

  pub slot_own : (k : ℕ) (t : Symbol) → slice_get n.symbols k ≡ Some t → is_local t.binding ≡ false → (o : Outside) → slice_get x.given k ≡ Some o
      → (s : Symbol) → slice_get n.symbols k ≡ Some s → o.slot ≡ (value_in n x s).slot
  slot_own k t there nonlocal o gives s here =
      let same : t ≡ s = same_Some t s (sym there ∙ here) in
      let other : is_local s.binding ≡ false = subst (λ (y : Symbol). is_local y.binding ≡ false) same nonlocal in
      sym (ap (λ (b : Bool). cond b 0 ((given n x).slot s.name)) (shown_local n.symbols s.binding ∙ other) ∙ ap (λ (y : Outside). y.slot) (given_own k s here other o gives))

  pub slot_local : (k : ℕ) (t : Symbol) → slice_get n.symbols k ≡ Some t → is_local t.binding ≡ true → (s : Symbol) → slice_get n.symbols k ≡ Some s → 0 ≡ (value_in n x s).slot
  slot_local k t there local s here =
      let same : t ≡ s = same_Some t s (sym there ∙ here) in
      sym (ap (λ (b : Bool). cond b 0 ((given n x).slot s.name)) (shown_local n.symbols s.binding ∙ subst (λ (y : Symbol). is_local y.binding ≡ true) same local))

  -- where a symbol lies
  pub spot_own : (k : ℕ) (t : Symbol) → slice_get n.symbols k ≡ Some t → (o : Outside) → slice_get x.given k ≡ Some o → (r : Spot)
      → ((name : List ℕ) → (is_local t.binding ≡ false → (given n x).site name ≡ option_map as_site o.spot) → as_site r ≡ site_in n x name t.binding)
      → (s : Symbol) → slice_get n.symbols k ≡ Some s → as_site r ≡ site_in n x s.name s.binding
  spot_own k t there o gives r lies s here =
      let same : t ≡ s = same_Some t s (sym there ∙ here) in
      subst (λ (y : Symbol). as_site r ≡ site_in n x y.name y.binding) same (lies t.name (λ nonlocal. site_own k t there nonlocal o gives))

  -- an original is found by its number
  original : (k : ℕ) (s : Symbol) → slice_get n.symbols k ≡ Some s → IsOriginal n.symbols k → numbered (shown_symbols n) s.number ≡ Some (shown_symbol n.symbols s)
  original k s here first =
      numbered-first (shown_symbols n) k (shown_symbol n.symbols s) (slice_get-map (shown_symbol n.symbols) n.symbols k ∙ ap (option_map (shown_symbol n.symbols)) here)
      (λ j t l there same. by j t l there same)
    where
      number_at : (j : ℕ) (y : Symbol) → slice_get n.symbols j ≡ Some y → number_of n.symbols j ≡ y.number
      number_at j y e = ap (λ o. option_map_or (λ (z : Symbol). z.number) o 0) e

      by : (j : ℕ) (t : parts.Symbol) → j < k → slice_get (shown_symbols n) j ≡ Some t → t.number ≡ s.number → ⊥
      by j t l there same =
          let y = there_at n.symbols j (let m = slice_get_within n.symbols k s here in omega (arith, l, m)) in
          let is : shown_symbol n.symbols y.0 ≡ t
          = same_Some (shown_symbol n.symbols y.0) t (sym (slice_get-map (shown_symbol n.symbols) n.symbols j ∙ ap (option_map (shown_symbol n.symbols)) y.1) ∙ there) in
          first j l (number_at j y.0 y.1 ∙ ap (λ (z : parts.Symbol). z.number) is ∙ same ∙ sym (number_at k s here))

  -- the value of a symbol by its number
  value_own : (k : ℕ) (s : Symbol) → slice_get n.symbols k ≡ Some s → IsOriginal n.symbols k → valued n x s.number ≡ value_in n x s
  value_own k s here first =
      ap (λ o. unwrap_or (option_map (value_of (word_for n.format) (laid n x) (given n x) (shown_symbols n)) (or_else o o)) worthless) (original k s here first)

  -- the value of a symbol as a target
  pub target_is : (k : ℕ) → k < length n.symbols → IsOriginal n.symbols k → (w : TargetValue) → ((s : Symbol) → slice_get n.symbols k ≡ Some s → as_site w.spot ≡ site_in n x s.name s.binding)
      → ((s : Symbol) → slice_get n.symbols k ≡ Some s → w.slot ≡ (value_in n x s).slot) → as_valued w ≡ target_worth n.symbols (laid n x) (valued n x) (target.Symbol k)
  target_is k inside first w site slot =
      let y = there_at n.symbols k inside in
      let a : as_valued w ≡ value_in n x y.0
      = ap (λ z. let v : Valued = record { site = z; slot = w.slot } in v) (site y.0 y.1) ∙ ap (λ z. let v : Valued = record { site = site_in n x y.0.name y.0.binding; slot = z } in v) (slot y.0 y.1) in
      a ∙ sym (value_own k y.0 y.1 first) ∙ ap (λ o. unwrap_or (option_map (λ (s : Symbol). valued n x s.number) o) worthless) (sym y.1)

  -- where the symbol lies to which a fallback leads
  pub named_is : (k : ℕ) (t : Symbol) → slice_get n.symbols k ≡ Some t → IsFallback n (fallback.Name k) → (o : Outside) → slice_get x.given k ≡ Some o → (r : Spot)
      → as_site r ≡ strong_site (word_for n.format) (laid n x) (option_map as_site o.spot) (shown_binding n.symbols t.binding)
      → as_site r ≡ fallback_site (word_for n.format) (laid n x) (given n x) (shown_symbols n) (shown_fallback n.symbols (fallback.Name k))
  named_is k t there is o gives r lies =
      let nonlocal : is_local t.binding ≡ false = strong_nonlocal t.binding (subst (λ (y : Symbol). is_strong y.binding ≡ true) (same_Some is.0 t (sym is.1 ∙ there)) is.2) in
      let number : number_of n.symbols k ≡ t.number = ap (λ p. option_map_or (λ (z : Symbol). z.number) p 0) there in
      lies
      ∙ ap (λ z. strong_site (word_for n.format) (laid n x) z (shown_binding n.symbols t.binding)) (sym (site_own k t there nonlocal o gives))
      ∙ ap (λ p. unwrap_or (option_map (λ (s : parts.Symbol). strong_site (word_for n.format) (laid n x) ((given n x).site s.name) s.binding) p) placing.nowhere) (sym (original k t there is.3))
      ∙ ap (λ j. unwrap_or (option_map (λ (s : parts.Symbol). strong_site (word_for n.format) (laid n x) ((given n x).site s.name) s.binding) (numbered (shown_symbols n) j)) placing.nowhere) (sym number)
    where
      strong_nonlocal : (b : Binding) → is_strong b ≡ true → is_local b ≡ false
      strong_nonlocal (Local v) e = absurd (true≢false (sym e))
      strong_nonlocal (Global v) e = refl
      strong_nonlocal Undefined e = refl
      strong_nonlocal (Common size align) e = refl
      strong_nonlocal (Weak f) e = refl

module _ (n : Object) (x : Placing) where
  -- the site of a symbol that is not Weak
  pub strong_is : (name : List ℕ) (z : Option placing.Site) (b : Binding) → not_weak b ≡ true → (is_local b ≡ false → (given n x).site name ≡ z)
      → strong_site (word_for n.format) (laid n x) z (shown_binding n.symbols b) ≡ site_in n x name b
  strong_is name z (Local v) is gives = refl
  strong_is name z (Global v) is gives = ap (λ y. global_site (word_for n.format) (laid n x) y v) (sym (gives refl))
  strong_is name z Undefined is gives = ap (λ y. unwrap_or y placing.nowhere) (sym (gives refl))
  strong_is name z (Common size align) is gives = ap (λ y. unwrap_or y placing.nowhere) (sym (gives refl))
  strong_is name z (Weak f) is gives = absurd (true≢false (sym is))

  -- and of one that is
  pub weak_is : (name : List ℕ) (z : Option placing.Site) (b : Binding) (f : Fallback) → b ≡ Weak f → (is_local b ≡ false → (given n x).site name ≡ z)
      → unwrap_or z (fallback_site (word_for n.format) (laid n x) (given n x) (shown_symbols n) (shown_fallback n.symbols f)) ≡ site_in n x name b
  weak_is name z b f is gives =
      ap (λ y. unwrap_or y (fallback_site (word_for n.format) (laid n x) (given n x) (shown_symbols n) (shown_fallback n.symbols f))) (sym (gives (ap is_local is)))
      ∙ ap (site_in n x name) (sym is)

-- a field with its value
pub patch_is : (n : Object) (x : Placing) (s : ℕ) (f : Field Reloc) (t : TargetValue) (w : Word) (base addend taken r : ℕ) → w ≡ word_for n.format
    → as_valued t ≡ target_worth n.symbols (laid n x) (valued n x) f.item.target → base ≡ base_of (laid n x) (as_valued t) f.item.form.base → addend ≡ residue_of w f.item.addend
    → taken ≡ less_of (laid n x) s f.at (as_valued t) f.item.form.less → r ≡ minus w (base + addend) taken
    → record { width = f.item.form.width; check = f.item.form.check; residue = r } ≡ patch_at n x s f.at f.item
unfolding residue_at
patch_is n x s f t w base addend taken r word same a b l is =
    let patch : ℕ → Patch = λ z. record { width = f.item.form.width; check = f.item.form.check; residue = z } in
    ap patch (is
    ∙ ap (λ z. minus w (z + addend) taken) a ∙ ap (λ z. minus w (base_of (laid n x) (as_valued t) f.item.form.base + z) taken) b
    ∙ ap (λ z. minus w (base_of (laid n x) (as_valued t) f.item.form.base + residue_of w f.item.addend) z) l
    ∙ ap (λ (v : Valued). minus w (base_of (laid n x) v f.item.form.base + residue_of w f.item.addend) (less_of (laid n x) s f.at v f.item.form.less)) same
    ∙ ap (λ u. minus u (base_of (laid n x) (target_worth n.symbols (laid n x) (valued n x) f.item.target) f.item.form.base + residue_of u f.item.addend)
    (less_of (laid n x) s f.at (target_worth n.symbols (laid n x) (valued n x) f.item.target) f.item.form.less)) word)
