-- The steps in which sections are dressed, from the last on, and commons aligned.
use Rattle.std.proofs.Common.{◌≡◌, ℕ, ◌+◌, ◌<◌, ◌≤◌, List, [], ◌∷◌, ◌++◌, length, map, set, take, get_or, Option, Some, slice_get, refl, sym, ◌∙◌, ap, subst, arith}
use Rattle.std.specs.List.{enumerate_from}
use Rattle.std.proofs.lemmas.{List.{length-append, length-take-le, set-get_or}, Option.{get_or_from_slice_get, slice_get-get_or}}
use Rattle.oc_base.specs.declared.format.Format.{Format}
use Rattle.oc_linking.specs.{declared.terms.Binding.{Binding}, declared.terms.Binding.TheVariants.{Common}}
use Rattle.oc_neutral.specs.{declared.section.Section.{Section}, declared.symbol.Symbol.{Symbol}, Alignments.{common_align, output_align}}
use Rattle.oc_neutral.specs.Dressing.{aligned_among, aligned_binding, aligned_symbol, dressed, dressed_among, dressed_section, realigned}
use Rattle.oc_neutral.specs.{HomeNames.{output_tag}, Invariants.{IsAlign, IsBinding, IsObject, IsSymbol}, Objects.{Object}}
use Rattle.oc_target.specs.{Fitted.{fitted_binding, fitted_symbol}, Dress.{dressed_at}}
use Rattle.oc_neutral.proofs.{FieldLists.{take_here}, Partly.{partly, partly_more, partly_next}, Positions.{each_at}}
use Rattle.oc_target.proofs.{Aligning.{common_is}, Lately.{lately, lately_before, lately_step, length-lately}}

-- lists of one length that end alike are alike
ends_same : {X : Type 0} (xs ws : List X) (y v : X) → length xs ≡ length ws → xs ++ y ∷ [] ≡ ws ++ v ∷ [] → (xs ≡ ws) × (y ≡ v)
ends_same [] [] y v long e = (refl, cc)
ends_same [] (w ∷ ws) y v long e = absurd (omega (arith, long))
ends_same (x ∷ xs) [] y v long e = absurd (omega (arith, long))
ends_same {X} (x ∷ xs) (w ∷ ws) y v long e =
    let rest : xs ++ y ∷ [] ≡ ws ++ v ∷ [] = cc in
    let same : x ≡ w = cc in
    let r = ends_same xs ws y v (omega (arith, long)) rest in
    (ap (λ z. z ∷ xs) same ∙ ap (λ zs. w ∷ zs) r.0, r.1)

-- the last of the first names
pub last_name : (names left : List (List ℕ)) (name : List ℕ) → left ++ name ∷ [] ≡ take (length (left ++ name ∷ [])) names → length (left ++ name ∷ []) ≡ length left + 1 → length left < length names
    → (left ≡ take (length left) names) × (name ≡ get_or names (length left) [])
last_name names left name are long inside =
    let k : ℕ = length left in
    let here : slice_get names k ≡ Some (get_or names k []) = slice_get-get_or names k [] inside in
    ends_same left (take k names) name (get_or names k []) (sym (length-take-le k names (omega (arith, inside)))) (are ∙ ap (λ j. take j names) long ∙ take_here names k (get_or names k []) here)

-- a turn of the loop, which takes the last name
pub name_taken : (names old left : List (List ℕ)) (name : List ℕ) (count : ℕ) → old ≡ left ++ name ∷ [] → old ≡ take (length old) names → length old ≤ count → length names ≡ count
    → (left ≡ take (length left) names) × (name ≡ get_or names (length left) []) × (length left < count) × (length old ≡ length left + 1)
name_taken names old left name count e are few long =
    let longer : length (left ++ name ∷ []) ≡ length left + 1 = length-append left (name ∷ []) in
    let same : length old ≡ length left + 1 = ap length e ∙ longer in
    let last = last_name names left name (sym e ∙ are ∙ ap (λ xs. take (length xs) names) e) longer (omega (arith, same, few, long)) in
    (last.0, last.1, omega (arith, same, few), same)

module _ (target : Format) (n : Object) (names : List (List ℕ)) where
  -- the object in which the sections from position k on are dressed
  abbrev pub from : ℕ → Object
  from k = record { format = n.format; groups = n.groups; sections = lately (dressed_at target n.format names) 0 k n.sections; symbols = n.symbols; relocs = n.relocs }

  pub from_long : (k : ℕ) → length (from k).sections ≡ length n.sections
  from_long k = length-lately (dressed_at target n.format names) 0 k n.sections

  module _ (k : ℕ) (x : Section) (here : slice_get (from (k + 1)).sections k ≡ Some x) where
    -- the section is as it was
    pub as_was : slice_get n.sections k ≡ Some x
    as_was = sym (lately_before (dressed_at target n.format names) k n.sections) ∙ here

    -- one more is dressed
    pub dressed_more : (name : List ℕ) → name ≡ get_or names k [] → (tag : ℕ) → tag ≡ output_tag target n.format x → (align : ℕ) → align ≡ output_align target x.align
        → dressed (from (k + 1)) k name tag align ≡ from k
    dressed_more name named tag tagged align aligned =
        ap (λ (o : Option Section). with_sections (dressed_among (from (k + 1)).sections k name tag align o)) here
        ∙ ap (λ m. with_sections (set (from (k + 1)).sections k (dressed_section m tag align x))) named
        ∙ ap (λ t. with_sections (set (from (k + 1)).sections k (dressed_section (get_or names k []) t align x))) tagged
        ∙ ap (λ a. with_sections (set (from (k + 1)).sections k (dressed_section (get_or names k []) (output_tag target n.format x) a x))) aligned
        ∙ ap with_sections (lately_step (dressed_at target n.format names) k n.sections x as_was)
      where
        with_sections : List Section → Object
        with_sections sections = record { format = n.format; groups = n.groups; sections = sections; symbols = n.symbols; relocs = n.relocs }

module _ (target : Format) (n : Object) where
  -- what becomes of a symbol, whatever its position
  abbrev pub aligned_at : ℕ × Symbol → Symbol
  aligned_at x = fitted_symbol target x.1

  -- the object in which the first k commons are aligned
  abbrev pub upto : ℕ → Object
  upto k = record { format = n.format; groups = n.groups; sections = n.sections; symbols = partly aligned_at 0 k n.symbols; relocs = n.relocs }

  abbrev with_symbols : List Symbol → Object
  with_symbols symbols = record { format = n.format; groups = n.groups; sections = n.sections; symbols = symbols; relocs = n.relocs }

  module _ (k : ℕ) (s : Symbol) (here : slice_get (upto k).symbols k ≡ Some s) where
    pub symbol_was : slice_get n.symbols k ≡ Some s
    symbol_was = sym (partly_next aligned_at 0 k n.symbols) ∙ here

    -- a common is aligned
    pub common_more : (size align : ℕ) → s.binding ≡ Common size align → (new : ℕ) → new ≡ common_align target size align → realigned (upto k) k new ≡ upto (k + 1)
    common_more size align is new becomes =
        ap (λ (o : Option Symbol). with_symbols (aligned_among (upto k).symbols k new o)) here
        ∙ ap (λ a. with_symbols (set (upto k).symbols k (aligned_symbol a s))) becomes
        ∙ ap (λ b. with_symbols (set (upto k).symbols k (bound b))) (aligned s.binding is)
        ∙ ap with_symbols (partly_more aligned_at k n.symbols s symbol_was)
      where
        bound : Binding → Symbol
        bound b = record { name = s.name; binding = b; mark = s.mark; vis = s.vis; size = s.size; pinned = s.pinned; number = s.number }

        aligned : (b : Binding) → b ≡ Common size align → aligned_binding (common_align target size align) b ≡ fitted_binding target b
        aligned b e = subst (λ c. aligned_binding (common_align target size align) c ≡ fitted_binding target c) (sym e) refl

    -- another symbol is as it was
    pub other_more : fitted_binding target s.binding ≡ s.binding → upto k ≡ upto (k + 1)
    other_more same =
        ap with_symbols
        (sym (set-get_or (upto k).symbols k s)
        ∙ ap (set (upto k).symbols k) (get_or_from_slice_get (upto k).symbols k s s here ∙ ap (λ b. record { name = s.name; binding = b; mark = s.mark; vis = s.vis; size = s.size; pinned = s.pinned; number = s.number }) (sym same))
        ∙ partly_more aligned_at k n.symbols s symbol_was)

-- a binding that is no common is its own in a target
pub other_binding : (target : Format) (b : Binding) → ((size align : ℕ) → b ≡ Common size align → ⊥) → fitted_binding target b ≡ b
other_binding target b other = grind arith

-- a map that does not look at positions
pub map_any : {X Y : Type 0} (f : X → Y) (i : ℕ) (xs : List X) → map (λ (x : ℕ × X). f x.1) (enumerate_from i xs) ≡ map f xs
map_any f i [] = refl
map_any f i (x ∷ xs) = ap (λ ys. f x ∷ ys) (map_any f (i + 1) xs)

module _ (target : Format) (n : Object) (fine : IsObject n) (k : ℕ) (s : Symbol) (here : slice_get (upto target n k).symbols k ≡ Some s) where
  -- the alignment of a common is one
  pub common_aligned : (size align : ℕ) → s.binding ≡ Common size align → IsAlign (common_align target size align)
  common_aligned size align is =
      let own : IsSymbol n s = each_at (IsSymbol n) n.symbols k s fine.complete.symbols (symbol_was target n k s here) in
      common_is target size align (of s.binding own.binding is)
    where
      of : (b : Binding) → IsBinding n b → b ≡ Common size align → IsAlign align
      of b bound e = (subst (λ c. IsBinding n c) e bound).1
