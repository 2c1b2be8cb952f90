-- The lines of an object: what they are, where they are found, and that they are those by which symbols are seen.
use Rattle.std.proofs.Common.{◌≡◌, ℕ, ◌+◌, Bool, true, false, ◌&&◌, List, [], ◌∷◌, ◌++◌, length, map, Some, refl, sym, ◌∙◌, ap, subst, inl, inr, arith, append_assoc}
use Rattle.std.specs.{Prelude.{slice_get}, List.{enumerate_from, filter}}
use Rattle.std.proofs.lemmas.{Bool.{true≢false, eq-eqb, and_parts}, Option.{none-some}}
use Rattle.oc_base.specs.{declared.format.Word.{Word}, declared.format.Word.TheVariants.{W32, W64}}
use Rattle.oc_linking.specs.{declared.terms.Binding.{Binding}, declared.terms.Binding.TheVariants.{Local, Global, Undefined, Common, Weak}, Parts.{is_local}}
use Rattle.oc_linking.specs.declared.terms.Fallback.TheVariants as fallback
use Rattle.oc_neutral.specs.{declared.symbol.Symbol.{Symbol}, Bindings.{is_zero}, Dressing.{is_common}, Mach.SectionSymbols.{needed_sections}, Objects.{Object}}
use Rattle.oc_neutral.specs.WrittenSymbols.{is_written}
use Rattle.oc_shows.specs.SymbolLines.{silent, one, is_defined, is_undefined, is_weak_with, mach_lines}
use Rattle.oc_shows.specs.SymbolLines as table
use Rattle.oc_shows.proofs.SeenFamilies.{mach_table}
use Rattle.oc_shelf.proofs.WritingLaws.GatheredLemmas.{found_ones}
use Rattle.oc_shelf.proofs.WritingLaws.MemberLemmas.{member_first, member_second, member_enumerated, member_map, map-map, map-alike, of_append, of_map, of_enumerated, of_filter, member_filter}
use Rattle.oc_macho_file.specs.Lines.{Line, OwnLine, LocalLine, OuterLine, own_lines, lines_where, local_lines, inner_lines, defined_lines, undefined_lines, lines_of, line_size, numbered_lines, is_own_line, is_symbol_line, own_number, symbol_number}

pub one_line : (x : Line) → line_size x ≡ 1
one_line x = refl

map_append : {X Y : Type 0} (f : X → Y) (xs ys : List X) → map f (xs ++ ys) ≡ map f xs ++ map f ys
map_append f [] ys = refl
map_append f (x ∷ xs) ys = ap (λ zs. f x ∷ zs) (map_append f xs ys)

-- what a line stands for is there
abbrev pub IsLine : Word → Object → Line → Type 0
IsLine w n (OwnLine k) = (w ≡ W64) × (i : ℕ) × (slice_get (needed_sections n) i ≡ Some k)
IsLine w n (LocalLine k s) = (slice_get n.symbols k ≡ Some s) × (is_local s.binding ≡ true) × (is_written n.format s ≡ true)
IsLine w n (OuterLine k s) = (slice_get n.symbols k ≡ Some s) × (is_local s.binding ≡ false)

-- a line as seeing counts it
abbrev pub counted_line : Line → table.Line
counted_line (OwnLine k) = silent 1
counted_line (LocalLine k s) = record { entries = 1; shows = Some k }
counted_line (OuterLine k s) = record { entries = 1; shows = Some k }

-- what is written behind the Locals is not Local
defined_outer : (b : Binding) → is_defined b ≡ true → is_local b ≡ false
defined_outer b e = grind arith

undefined_outer : (b : Binding) → is_undefined b ≡ true → is_local b ≡ false
undefined_outer b e = grind arith

common_outer : (b : Binding) → is_common b ≡ true → is_local b ≡ false
common_outer b e = grind arith

weak_outer : (b : Binding) → is_weak_with is_zero b ≡ true → is_local b ≡ false
weak_outer b e = grind arith

module _ (w : Word) (n : Object) where
  -- ... what lines are

  own_is : (w : Word) (i : ℕ) (x : Line) → slice_get (own_lines w n) i ≡ Some x → IsLine w n x
  own_is W32 i x here = absurd (none-some x here)
  own_is W64 i x here = let k = of_map OwnLine (needed_sections n) i x here in subst (IsLine W64 n) k.2 (refl, i, k.1)

  -- a line of those that pass a test
  where_is : (line : ℕ → Symbol → Line) (test : Symbol → Bool) → ((k : ℕ) (s : Symbol) → slice_get n.symbols k ≡ Some s → test s ≡ true → IsLine w n (line k s))
      → (i : ℕ) (x : Line) → slice_get (lines_where line test n) i ≡ Some x → IsLine w n x
  where_is line test each i x here =
      let y = of_map (λ (x : ℕ × Symbol). line x.0 x.1) (filter (λ (x : ℕ × Symbol). test x.1) (enumerate_from 0 n.symbols)) i x here in
      let z = of_filter (λ (x : ℕ × Symbol). test x.1) (enumerate_from 0 n.symbols) i y.0 y.1 in
      let s = of_enumerated 0 n.symbols z.0 y.0 z.1 in
      let e : z.0 ≡ y.0.0 = omega (arith, s.0) in
      subst (IsLine w n) y.2 (each y.0.0 y.0.1 (ap (slice_get n.symbols) (sym e) ∙ s.1) z.2)

  outer_is : (test : Binding → Bool) → ((b : Binding) → test b ≡ true → is_local b ≡ false) → (i : ℕ) (x : Line) → slice_get (lines_where OuterLine (λ s. test s.binding) n) i ≡ Some x → IsLine w n x
  outer_is test outer i x here = where_is OuterLine (λ s. test s.binding) (λ k s h t. (h, outer s.binding t)) i x here

  undefined_is : (i : ℕ) (x : Line) → slice_get (undefined_lines n) i ≡ Some x → IsLine w n x
  undefined_is i x here = elim (of_append (lines_where OuterLine (λ s. is_undefined s.binding) n) _ i x here) [
    | inl g ↦ outer_is is_undefined undefined_outer i x g
    | inr r ↦ elim (of_append (lines_where OuterLine (λ s. is_common s.binding) n) (lines_where OuterLine (λ s. is_weak_with is_zero s.binding) n) r.0 x r.2) [
      | inl g ↦ outer_is is_common common_outer r.0 x g
      | inr q ↦ outer_is (is_weak_with is_zero) weak_outer q.0 x q.2
    ]
  ]

  inner_is : (i : ℕ) (x : Line) → slice_get (inner_lines w n) i ≡ Some x → IsLine w n x
  inner_is i x here = elim (of_append (own_lines w n) (local_lines n) i x here) [
    | inl g ↦ own_is w i x g
    | inr r ↦ where_is LocalLine (λ s. is_local s.binding && is_written n.format s) (λ k s h t. let b = and_parts (is_local s.binding) (is_written n.format s) t in (h, b.0, b.1)) r.0 x r.2
  ]

  pub line_at : (i : ℕ) (x : Line) → slice_get (lines_of w n) i ≡ Some x → IsLine w n x
  unfolding lines_of
  line_at i x here = elim (of_append (inner_lines w n) (defined_lines n ++ undefined_lines n) i x here) [
    | inl g ↦ inner_is i x g
    | inr r ↦ elim (of_append (defined_lines n) (undefined_lines n) r.0 x r.2) [
      | inl g ↦ outer_is is_defined defined_outer r.0 x g
      | inr q ↦ undefined_is q.0 x q.2
    ]
  ]

  -- ... as seeing counts them

  counted_where : (line : ℕ → Symbol → Line) (test : Symbol → Bool) → ((k : ℕ) (s : Symbol) → counted_line (line k s) ≡ record { entries = 1; shows = Some k })
      → map counted_line (lines_where line test n) ≡ table.lines_where test one n.symbols
  counted_where line test same =
      let passed : List (ℕ × Symbol) = filter (λ (x : ℕ × Symbol). test x.1) (enumerate_from 0 n.symbols) in
      map-map counted_line (λ (x : ℕ × Symbol). line x.0 x.1) passed
      ∙ map-alike (λ (x : ℕ × Symbol). counted_line (line x.0 x.1)) (λ (x : ℕ × Symbol). record { entries = 1; shows = Some x.0 }) passed (λ k x h. same x.0 x.1)

  counted_own : (w : Word) → map counted_line (own_lines w n) ≡ table.own_lines w n
  counted_own W32 = refl
  counted_own W64 = map-map counted_line OwnLine (needed_sections n) ∙ map-alike (λ k. counted_line (OwnLine k)) (λ k. silent 1) (needed_sections n) (λ i k h. refl)

  counted_outer : (test : Binding → Bool) → map counted_line (lines_where OuterLine (λ s. test s.binding) n) ≡ table.lines_of test n
  counted_outer test = counted_where OuterLine (λ s. test s.binding) (λ k s. refl)

  counted_undefined : map counted_line (undefined_lines n) ≡ table.lines_of is_undefined n ++ (table.lines_of is_common n ++ table.lines_of (is_weak_with is_zero) n)
  counted_undefined =
      map_append counted_line (lines_where OuterLine (λ s. is_undefined s.binding) n) (lines_where OuterLine (λ s. is_common s.binding) n ++ lines_where OuterLine (λ s. is_weak_with is_zero s.binding) n)
      ∙ ap (λ ls. ls ++ map counted_line (lines_where OuterLine (λ s. is_common s.binding) n ++ lines_where OuterLine (λ s. is_weak_with is_zero s.binding) n)) (counted_outer is_undefined)
      ∙ ap (λ ls. table.lines_of is_undefined n ++ ls) (
      map_append counted_line (lines_where OuterLine (λ s. is_common s.binding) n) (lines_where OuterLine (λ s. is_weak_with is_zero s.binding) n)
      ∙ ap (λ ls. ls ++ map counted_line (lines_where OuterLine (λ s. is_weak_with is_zero s.binding) n)) (counted_outer is_common)
      ∙ ap (λ ls. table.lines_of is_common n ++ ls) (counted_outer (is_weak_with is_zero)))

  pub lines_counted : map counted_line (lines_of w n) ≡ mach_lines w n
  unfolding lines_of
  lines_counted =
      map_append counted_line (inner_lines w n) (defined_lines n ++ undefined_lines n)
      ∙ ap (λ ls. ls ++ map counted_line (defined_lines n ++ undefined_lines n)) (
      map_append counted_line (own_lines w n) (local_lines n)
      ∙ ap (λ ls. ls ++ map counted_line (local_lines n)) (counted_own w)
      ∙ ap (λ ls. table.own_lines w n ++ ls) (counted_where LocalLine (λ s. is_local s.binding && is_written n.format s) (λ k s. refl)))
      ∙ ap (λ ls. (table.own_lines w n ++ table.local_lines n) ++ ls) (
      map_append counted_line (defined_lines n) (undefined_lines n)
      ∙ ap (λ ls. ls ++ map counted_line (undefined_lines n)) (counted_outer is_defined)
      ∙ ap (λ ls. table.lines_of is_defined n ++ ls) counted_undefined)
      ∙ append_assoc (table.own_lines w n) (table.local_lines n) _

  -- ... lines that are there

  pub own_there : w ≡ W64 → (k i : ℕ) → slice_get (needed_sections n) i ≡ Some k → slice_get (lines_of w n) i ≡ Some (OwnLine k)
  unfolding lines_of
  own_there e k i here =
      member_first (inner_lines w n) (defined_lines n ++ undefined_lines n) i (OwnLine k)
      (member_first (own_lines w n) (local_lines n) i (OwnLine k) (ap (λ v. slice_get (own_lines v n) i) e ∙ member_map OwnLine (needed_sections n) i k here))

  -- the line of a symbol that passes a test
  where_there : (test : Binding → Bool) (k : ℕ) (s : Symbol) → slice_get n.symbols k ≡ Some s → test s.binding ≡ true
      → (i : ℕ) × (slice_get (lines_where OuterLine (λ s. test s.binding) n) i ≡ Some (OuterLine k s))
  where_there test k s here passes =
      let z : 0 + k ≡ k = omega arith in
      let m = member_filter (λ (x : ℕ × Symbol). test x.1.binding) (enumerate_from 0 n.symbols) k (0 + k, s) (member_enumerated 0 n.symbols k s here) passes in (
        m.0,
        member_map (λ (x : ℕ × Symbol). OuterLine x.0 x.1) (filter (λ (x : ℕ × Symbol). test x.1.binding) (enumerate_from 0 n.symbols)) m.0 (0 + k, s) m.1 ∙ ap (λ i. Some (OuterLine i s)) z,
      )

  behind_inner : (i : ℕ) (x : Line) → slice_get (defined_lines n ++ undefined_lines n) i ≡ Some x → (j : ℕ) × (slice_get (lines_of w n) j ≡ Some x)
  unfolding lines_of
  behind_inner i x here = (length (inner_lines w n) + i, member_second (inner_lines w n) (defined_lines n ++ undefined_lines n) i x here)

  behind_defined : (i : ℕ) (x : Line) → slice_get (undefined_lines n) i ≡ Some x → (j : ℕ) × (slice_get (lines_of w n) j ≡ Some x)
  behind_defined i x here = behind_inner (length (defined_lines n) + i) x (member_second (defined_lines n) (undefined_lines n) i x here)

  pub outer_there : (k : ℕ) (s : Symbol) → slice_get n.symbols k ≡ Some s → is_local s.binding ≡ false → (i : ℕ) × (slice_get (lines_of w n) i ≡ Some (OuterLine k s))
  outer_there k s here outer = by s.binding refl
    where
      defined : is_defined s.binding ≡ true → (i : ℕ) × (slice_get (lines_of w n) i ≡ Some (OuterLine k s))
      defined t = let m = where_there is_defined k s here t in behind_inner m.0 (OuterLine k s) (member_first (defined_lines n) (undefined_lines n) m.0 (OuterLine k s) m.1)

      undefined : is_undefined s.binding ≡ true → (i : ℕ) × (slice_get (lines_of w n) i ≡ Some (OuterLine k s))
      undefined t = let m = where_there is_undefined k s here t in behind_defined m.0 (OuterLine k s) (member_first (lines_where OuterLine (λ s. is_undefined s.binding) n) _ m.0 (OuterLine k s) m.1)

      third : (i : ℕ) → slice_get (lines_where OuterLine (λ s. is_common s.binding) n ++ lines_where OuterLine (λ s. is_weak_with is_zero s.binding) n) i ≡ Some (OuterLine k s)
          → (i : ℕ) × (slice_get (lines_of w n) i ≡ Some (OuterLine k s))
      third i h = behind_defined (length (lines_where OuterLine (λ s. is_undefined s.binding) n) + i) (OuterLine k s)
          (member_second (lines_where OuterLine (λ s. is_undefined s.binding) n) (lines_where OuterLine (λ s. is_common s.binding) n ++ lines_where OuterLine (λ s. is_weak_with is_zero s.binding) n) i (OuterLine k s) h)

      common : is_common s.binding ≡ true → (i : ℕ) × (slice_get (lines_of w n) i ≡ Some (OuterLine k s))
      common t = let m = where_there is_common k s here t in third m.0 (member_first (lines_where OuterLine (λ s. is_common s.binding) n) _ m.0 (OuterLine k s) m.1)

      weak : is_weak_with is_zero s.binding ≡ true → (i : ℕ) × (slice_get (lines_of w n) i ≡ Some (OuterLine k s))
      weak t =
          let m = where_there (is_weak_with is_zero) k s here t in
          third (length (lines_where OuterLine (λ s. is_common s.binding) n) + m.0)
          (member_second (lines_where OuterLine (λ s. is_common s.binding) n) (lines_where OuterLine (λ s. is_weak_with is_zero s.binding) n) m.0 (OuterLine k s) m.1)

      by : (b : Binding) → s.binding ≡ b → (i : ℕ) × (slice_get (lines_of w n) i ≡ Some (OuterLine k s))
      by (Local v) e = absurd (true≢false (sym (ap is_local e) ∙ outer))
      by (Global v) e = defined (ap is_defined e)
      by Undefined e = undefined (ap is_undefined e)
      by (Common size align) e = common (ap is_common e)
      by (Weak (fallback.Place j offset)) e = defined (ap is_defined e)
      by (Weak fallback.Zero) e = weak (ap (is_weak_with is_zero) e)
      by (Weak (fallback.Name j)) e = defined (ap is_defined e)

  -- ... what tests find

  own_only : (k : ℕ) (x : Line) → is_own_line k x ≡ true → x ≡ OwnLine k
  own_only k x e = grind arith

  symbol_only : (k : ℕ) (s : Symbol) → slice_get n.symbols k ≡ Some s → (x : Line) → IsLine w n x → is_symbol_line k x ≡ true → x ≡ OuterLine k s
  symbol_only k s here x is e = grind arith

  pub own_found : w ≡ W64 → (k i : ℕ) → slice_get (needed_sections n) i ≡ Some k → slice_get (lines_of w n) (own_number (numbered_lines w n) k) ≡ Some (OwnLine k)
  own_found e k i here =
      found_ones line_size (is_own_line k) (lines_of w n) one_line i (OwnLine k) (own_there e k i here) (eq-eqb k k refl) (λ j y h t. own_only k y t)

  pub symbol_found : (k : ℕ) (s : Symbol) → slice_get n.symbols k ≡ Some s → is_local s.binding ≡ false → slice_get (lines_of w n) (symbol_number (numbered_lines w n) k) ≡ Some (OuterLine k s)
  symbol_found k s here outer =
      let o = outer_there k s here outer in
      found_ones line_size (is_symbol_line k) (lines_of w n) one_line o.0 (OuterLine k s) o.1 (eq-eqb k k refl) (λ j y h e. symbol_only k s here y (line_at j y h) e)

  -- a symbol that is not Local has one line
  pub one_outer : (k i j : ℕ) (s t : Symbol) → slice_get (lines_of w n) i ≡ Some (OuterLine k s) → slice_get (lines_of w n) j ≡ Some (OuterLine k t) → i ≡ j
  one_outer k i j s t here there =
      let counted : (a : ℕ) (y : Symbol) → slice_get (lines_of w n) a ≡ Some (OuterLine k y) → slice_get (mach_lines w n) a ≡ Some (counted_line (OuterLine k y))
      = λ a y h. ap (λ ls. slice_get ls a) (sym lines_counted) ∙ member_map counted_line (lines_of w n) a (OuterLine k y) h in
      (mach_table n w).table.once i j (counted_line (OuterLine k s)) (counted_line (OuterLine k t)) k (counted i s here) (counted j t there) refl refl
