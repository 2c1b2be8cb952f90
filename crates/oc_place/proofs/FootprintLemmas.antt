-- The footprint of an object that shows a file is that of the file.
use Rattle.std.proofs.Common.{◌≡◌, ℕ, ◌+◌, List, [], ◌∷◌, length, map, refl, sym, ◌∙◌, ap}
use Rattle.std.specs.List.{enumerate_from}
use Rattle.std.proofs.lemmas.List.{length-map}
use Rattle.oc_base.specs.{declared.format.Word.{Word}, Formats.{word_for}}
use Rattle.oc_linking.specs.Parts as parts
use Rattle.oc_linking.specs.Keeping.{all}
use Rattle.oc_neutral.specs.{Objects.{Object}, Dialects.{Dialect}}
use Rattle.oc_shows.specs.Computed.{computed_section, keys_in, object_in}
use Rattle.oc_shows.proofs.ShownComputed.{shown_is_computed}
use Rattle.oc_place.specs.Footprints.{Plot, Footprint, plot_in, plot_of, FootprintsAgree}

-- a footprint of these parts
abbrev footprint_by : Word → List Plot → ℕ → List parts.Symbol → Footprint
footprint_by w xs g symbols = record { word = w; sections = xs; groups = g; symbols = symbols }

-- footprints with the same parts are one
same_parts : (w v : Word) (xs ys : List Plot) (g h : ℕ) (a b : List parts.Symbol) → w ≡ v → xs ≡ ys → g ≡ h → a ≡ b → footprint_by w xs g a ≡ footprint_by v ys h b
same_parts w v xs ys g h a b p q r s = ap (λ w. footprint_by w xs g a) p ∙ ap (λ xs. footprint_by v xs g a) q ∙ ap (λ g. footprint_by v ys g a) r ∙ ap (λ a. footprint_by v ys h a) s

-- the plots of the sections that are computed
plots : (f : Dialect) (b : List ℕ) (i : ℕ) (xs : List parts.Section) → map plot_of (map (computed_section f b all) (enumerate_from i xs)) ≡ map (plot_in (keys_in f b)) xs
plots f b i [] = refl
plots f b i (x ∷ xs) = ap (λ ys. plot_in (keys_in f b) x ∷ ys) (plots f b (i + 1) xs)

pub footprints_agree : FootprintsAgree
footprints_agree f b n is fine shows =
    let same : n ≡ object_in f b all = shown_is_computed f b all n fine shows in
    same_parts _ _ _ _ _ _ _ _
    (ap word_for shows.format ∙ sym is.word)
    (ap (λ (m : Object). map plot_of m.sections) same ∙ plots f b 0 (f.rules.sections b))
    (ap (λ (m : Object). length m.groups) same ∙ length-map (keys_in f b) (λ key. record { key = key }))
    shows.symbols
