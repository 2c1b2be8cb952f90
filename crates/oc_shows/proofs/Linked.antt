-- An object that shows a file shows what linking sees of it, where every section is kept.
use Rattle.std.proofs.Common.{◌≡◌, ℕ, Bool, true, cond, List, [], ◌∷◌, map, None, refl, sym, ◌∙◌, ap, subst, zero, suc}
use mathlib.Core.Path.{fun_ext}
use Rattle.std.specs.{Prelude.{slice_get}, Option.{option_map, unwrap_or}}
use Rattle.oc_base.specs.Formats.{word_for}
use Rattle.oc_linking.specs.{declared.terms.Keep.{Keep}, Placing.{Placement, Outside}, Values.{Valuation, values}, Images.{Patches, overlays}, Keeping.{all}}
use Rattle.oc_linking.specs.Shows.{Apart, unders, lives}
use Rattle.oc_linking.specs.Parts as parts
use Rattle.oc_linking.specs.Linking as linking
use Rattle.oc_linking.specs.Shows as shown
use Rattle.oc_linking.proofs.{Alike.{link_shown}, Whole.{contents-whole, exports-whole, flags-all, patches-whole}}
use Rattle.oc_neutral.specs.{Objects.{Object}, Faces.{shown_symbols, linked_object}, Dialects.{Dialect, is_kept, is_folded, patches_in, IsDialect}}
use Rattle.oc_shows.specs.Shows.{patches_of, Shows, ShowsAt}
use Rattle.oc_shows.proofs.Truth.{values_fixed}

-- every section counts as kept, where every flag is set
every_kept : (flags : List Bool) (s : ℕ) → unwrap_or (slice_get (map (λ b. true) flags) s) true ≡ true
every_kept [] s = refl
every_kept (b ∷ flags) zero = refl
every_kept (b ∷ flags) (suc s) = every_kept flags s

module _ (f : Dialect) (b : List ℕ) (keep : Keep) (whole : linking.flags_in f.rules b keep ≡ map (λ b. true) (linking.flags_in f.rules b keep)) where
  -- every section of the file is kept
  kept-whole : (s : ℕ) → is_kept f b keep s ≡ true
  kept-whole s = ap (λ flags. unwrap_or (slice_get flags s) true) whole ∙ every_kept (linking.flags_in f.rules b keep) s

  -- linking sees the fields with their residues
  patches-kept : (p : Placement) (e : Outside)
      → linking.patches_in f.rules b keep (f.rules.symbols b keep) p e ≡ patches_in f b keep p (values f.rules.word (f.rules.symbols b keep) (f.rules.symbols b keep) p e)
  unfolding patches_in
  patches-kept p e =
      let v : Valuation = values f.rules.word (f.rules.symbols b keep) (f.rules.symbols b keep) p e in
      patches-whole f.rules b keep whole (f.rules.symbols b keep) p e
      ∙ fun_ext (λ s. fun_ext (λ at. ap (λ t. option_map (linking.patch_of p v) (cond t (f.rules.fields b keep s at) None)) (sym (kept-whole s))))

module _ (f : Dialect) (b : List ℕ) (keep : Keep) (n : Object) (shows : Shows f b keep n) (word : f.rules.word ≡ word_for f.format) where
  -- the words are the same
  word-shown : word_for n.format ≡ f.rules.word
  word-shown = ap word_for shows.format ∙ sym word

  -- the object at a placement and an outside map
  at-values : (p : Placement) (e : Outside) → ShowsAt f b keep n p (values f.rules.word (f.rules.symbols b keep) (f.rules.symbols b keep) p e)
  at-values p e = shows.at p _ (values_fixed f.rules.word (f.rules.symbols b keep) shows.numbered p e)

  -- linking sees the fields of the object
  patches-object : (p : Placement) (e : Outside)
      → shown.object_patches (linked_object n) p e ≡ patches_of n p (values f.rules.word (f.rules.symbols b keep) (f.rules.symbols b keep) p e)
  patches-object p e =
      ap (λ w. patches_of n p (values w (shown_symbols n) (shown_symbols n) p e)) word-shown
      ∙ ap (λ symbols. patches_of n p (values f.rules.word symbols symbols p e)) shows.symbols

-- an object that shows a file of which nothing is dropped shows what linking sees of it
pub linked_shows : (f : Dialect) (b : List ℕ) (keep : Keep) (n : Object) → Shows f b keep n → f.rules.word ≡ word_for f.format
    → linking.flags_in f.rules b keep ≡ map (λ b. true) (linking.flags_in f.rules b keep)
    → shown.Shows f.rules b keep (f.rules.symbols b keep) (is_folded f b keep) (linked_object n)
linked_shows f b keep n shows word whole =
    let symbols : List parts.Symbol = f.rules.symbols b keep in
    let given : Placement → Outside → Valuation = λ p e. values f.rules.word symbols symbols p e in
    let same : (p : Placement) (e : Outside) → linking.patches_in f.rules b keep symbols p e ≡ patches_in f b keep p (given p e) = patches-kept f b keep whole in
    let at : (p : Placement) (e : Outside) → ShowsAt f b keep n p (given p e) = at-values f b keep n shows word in
    record {
      word = word-shown f b keep n shows word;
      apart = λ p e s. subst (λ (o : Patches). Apart (o s)) (sym (same p e)) ((at p e).apart s);
      fit = λ p e s at' q folded here. (at p e).fit s at' q folded (ap (λ (o : Patches). o s at') (sym (same p e)) ∙ here);
      contents = λ p e. (at p e).contents
          ∙ ap (λ (o : Patches). overlays (unders (is_folded f b keep) o) 0 (map (λ (s : parts.Section). s.contents) (f.rules.sections b))) (sym (same p e))
          ∙ ap (overlays (unders (is_folded f b keep) (linking.patches_in f.rules b keep symbols p e)) 0) (sym (contents-whole f.rules b keep whole));
      patches = λ p e s at'. ap (λ (o : Patches). o s at') (patches-object f b keep n shows word p e) ∙ (at p e).patches s at'
          ∙ ap (λ (o : Patches). lives (is_folded f b keep) o s at') (sym (same p e));
      exports = λ p e name. ap (λ w. linking.exports w p e (shown_symbols n) name) (word-shown f b keep n shows word)
          ∙ ap (λ xs. linking.exports f.rules.word p e xs name) shows.symbols
          ∙ ap (λ (o : linking.Exports). o name) (sym (exports-whole f.rules b keep whole symbols p e));
    }

-- linking a file, all of which is kept, is linking the object that it shows
pub link_of_file : (g : Dialect) (c : List ℕ) (n : Object) → IsDialect g → Shows g c all n → (p : Placement) (e : Outside)
    → shown.object_link (linked_object n) p e ≡ linking.link_whole g.rules c p e
link_of_file g c n is shows p e =
    link_shown g.rules c all (g.rules.symbols c all) (is_folded g c all) (linked_object n) (linked_shows g c all n shows is.word (flags-all (g.rules.sections c))) p e
