-- A file in which an object is read again shows it, also where what is taken of a field's own section is the section, and not the field's place.
use Rattle.std.proofs.Common.{◌≡◌, ℕ, Bool, false, cond, List, map, Option, Some, None, refl, ◌∙◌, ap, subst, arith}
use mathlib.Core.Path.{fun_ext}
use Rattle.std.specs.Option.{option_map, option_map_or}
use Rattle.oc_linking.specs.declared.terms.Base.TheVariants as base
use Rattle.oc_linking.specs.declared.terms.Less.TheVariants as less
use Rattle.oc_linking.specs.{Keeping.{all}, Images.{overlays}, Linking.{patch_of}, Placing.{Placement}, Rules.{Field}, Shows.{Apart, lives, unders}}
use Rattle.oc_linking.specs.Values.{Valuation}
use Rattle.oc_linking.specs.Parts as parts
use Rattle.oc_neutral.specs.declared.reloc.Target.TheVariants as target
use Rattle.oc_shows.specs.{Again.{IsReadAgain}, Shows.{Shows}}
use Rattle.oc_neutral.specs.Dialects.{Dialect, target_by, is_difference, is_kept, kept_fields, is_folded, look_of, less_in, looks_in, patches_in}
use Rattle.oc_neutral.specs.{Invariants.{IsObject}, Normal.{cancels, takes_section}, Objects.{Object}}
use Rattle.oc_shows.proofs.AgainLaws.{read_again_shows}

-- a field of section s, from which its own section is taken as its place
abbrev pub placed_field : ℕ → Field → Field
placed_field s f = record { width = f.width; check = f.check; base = f.base; less = less_in s f.less; residue = f.residue; target = f.target; hint = f.hint }

-- a dialect whose fields are so
abbrev pub placed_dialect : Dialect → Dialect
placed_dialect g = record {
  format = g.format;
  rules = record {
    word = g.rules.word;
    fault = g.rules.fault;
    sections = g.rules.sections;
    symbols = g.rules.symbols;
    fields = λ file keep s at. option_map (placed_field s) (g.rules.fields file keep s at);
    output_align = g.rules.output_align;
    common_align = g.rules.common_align;
  };
}

module _ (g : Dialect) (c : List ℕ) (n : Object) (fine : IsObject n) (is : IsReadAgain (placed_dialect g) c n)
    (varies : (s at : ℕ) (f : Field) → kept_fields g c all s at ≡ Some f → is_difference f ≡ false) where
  abbrev h : Dialect
  h = placed_dialect g

  kept_placed : (s at : ℕ) → kept_fields h c all s at ≡ option_map (placed_field s) (kept_fields g c all s at)
  kept_placed s at = by (is_kept g c all s)
    where
      by : (b : Bool) → cond b (option_map (placed_field s) (g.rules.fields c all s at)) None ≡ option_map (placed_field s) (cond b (g.rules.fields c all s at) None)
      by b = grind arith

  still_varies : (s : ℕ) (f : Field) → is_difference f ≡ false → is_difference (placed_field s f) ≡ false
  still_varies s f e = by (takes_section s f.less)
    where
      by : (b : Bool) → cancels f.base (target_by f.target) (cond b less.Place f.less) ≡ false
      by b = grind arith

  same_look : (s : ℕ) (f : Field) → look_of s (placed_field s f) ≡ look_of s f
  same_look s f = ap (λ l. record { base = f.base; less = l; width = f.width; check = f.check; target = f.target; hint = f.hint }) (by (takes_section s f.less) refl)
    where
      by : (b : Bool) → takes_section s f.less ≡ b → cond (takes_section s (cond b less.Place f.less)) less.Place (cond b less.Place f.less) ≡ cond b less.Place f.less
      by b e = grind arith

  same_folded : (s at : ℕ) → is_folded h c all s at ≡ is_folded g c all s at
  unfolding is_folded
  same_folded s at = ap (λ o. option_map_or is_difference o false) (kept_placed s at) ∙ by (kept_fields g c all s at) refl
    where
      by : (o : Option Field) → kept_fields g c all s at ≡ o → option_map_or is_difference (option_map (placed_field s) o) false ≡ option_map_or is_difference o false
      by o e = grind arith

  same_looks : (s at : ℕ) → looks_in h c all s at ≡ looks_in g c all s at
  unfolding looks_in
  same_looks s at =
      ap (λ b. cond b None (option_map (look_of s) (kept_fields h c all s at))) (same_folded s at)
      ∙ ap (λ o. cond (is_folded g c all s at) None (option_map (look_of s) o)) (kept_placed s at)
      ∙ ap (λ o. cond (is_folded g c all s at) None o) (by (kept_fields g c all s at))
    where
      by : (o : Option Field) → option_map (look_of s) (option_map (placed_field s) o) ≡ option_map (look_of s) o
      by o = grind arith

  same_patches : (p : Placement) (v : Valuation) (s at : ℕ) → patches_in h c all p v s at ≡ patches_in g c all p v s at
  unfolding patches_in
  same_patches p v s at = ap (option_map (patch_of p v)) (kept_placed s at) ∙ by (kept_fields g c all s at)
    where
      by : (o : Option Field) → option_map (patch_of p v) (option_map (placed_field s) o) ≡ option_map (patch_of p v) o
      by o = grind arith

  pub placed_shows : Shows g c all n
  placed_shows =
      let shows : Shows h c all n = read_again_shows h c n fine is in
      record {
        format = shows.format;
        sections = shows.sections;
        symbols = shows.symbols;
        numbered = shows.numbered;
        looks = λ s at. shows.looks s at ∙ same_looks s at;
        at = λ p v fixed.
            let x = shows.at p v fixed in
            let folds : is_folded h c all ≡ is_folded g c all = fun_ext (λ s. fun_ext (λ at. same_folded s at)) in
            let patches : patches_in h c all p v ≡ patches_in g c all p v = fun_ext (λ s. fun_ext (λ at. same_patches p v s at)) in
            record {
              apart = λ s. subst (λ ps. Apart (ps s)) patches (x.apart s);
              fit = λ s at q e f. x.fit s at q (same_folded s at ∙ e) (same_patches p v s at ∙ f);
              contents = x.contents
                  ∙ ap (λ b. overlays (unders b (patches_in h c all p v)) 0 (map (λ (s : parts.Section). s.contents) (g.rules.sections c))) folds
                  ∙ ap (λ ps. overlays (unders (is_folded g c all) ps) 0 (map (λ (s : parts.Section). s.contents) (g.rules.sections c))) patches;
              patches = λ s at. x.patches s at
                  ∙ ap (λ b. lives b (patches_in h c all p v) s at) folds
                  ∙ ap (λ ps. lives (is_folded g c all) ps s at) patches;
            };
      }
