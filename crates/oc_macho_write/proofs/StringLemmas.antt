-- The names that are given to the string table have room.
use Rattle.std.proofs.Common.{◌≡◌, ℕ, zero, suc, ◌+◌, ◌*◌, ◌^◌, ◌<◌, ◌≤◌, Bool, true, false, ◌&&◌, cond, List, [], ◌∷◌, ◌++◌, length, map, Some, refl, sym, ap, subst, arith, length-append}
use Rattle.std.specs.{Prelude.{slice_get, codes, decimal}, List.{Contains, sum_by, enumerate_from, filter}}
use Rattle.std.proofs.lemmas.{Option.{none-some, same_Some}, Fmt.{length-decimal-le}, List.{length-map}, List.Sums.{sum_by-cons}}
use Rattle.oc_base.specs.{declared.format.Word.{Word}, declared.format.Word.TheVariants.{W32, W64}}
use Rattle.oc_linking.specs.Parts.{is_local}
use Rattle.oc_neutral.specs.{declared.symbol.Symbol.{Symbol}, Bindings.{is_zero}, Dressing.{is_common}, Mach.SectionSymbols.{needed_sections}, Objects.{Object}}
use Rattle.oc_neutral.specs.WrittenSymbols.{is_written}
use Rattle.oc_shows.specs.SymbolLines.{is_defined, is_undefined, is_weak_with}
use Rattle.oc_macho_file.specs.Lines.{Line, OwnLine, LocalLine, OuterLine, lines_of, line_name, lines_where, own_lines, local_lines, inner_lines, defined_lines, undefined_lines}
use Rattle.oc_macho_file.specs.Layout.{line_names}
use Rattle.oc_macho_file.proofs.{CodedLaws.{IsForMach}, CountLaws.{few_lines}, NameLaws.{needed_low}}

-- a name with its NUL
abbrev pub ended_size : List ℕ → ℕ
ended_size name = length name + 1

-- the names of lines
abbrev text_size : List Line → ℕ
text_size xs = sum_by ended_size (map line_name xs)

text_append : (xs ys : List Line) → text_size (xs ++ ys) ≡ text_size xs + text_size ys
text_append [] ys = omega arith
text_append (x ∷ xs) ys =
    let a = sum_by-cons ended_size (line_name x) (map line_name (xs ++ ys)) in
    let b = sum_by-cons ended_size (line_name x) (map line_name xs) in
    let c = text_append xs ys in
    omega (arith, a, b, c)

-- the names of symbols
abbrev symbols_size : List Symbol → ℕ
symbols_size xs = sum_by (λ (s : Symbol). length s.name) xs

-- those that pass a test, each with its NUL
passing_size : (line : ℕ → Symbol → Line) (test : Symbol → Bool) → ((k : ℕ) (s : Symbol) → line_name (line k s) ≡ s.name) → (i : ℕ) (xs : List Symbol)
    → text_size (map (λ (x : ℕ × Symbol). line x.0 x.1) (filter (λ (x : ℕ × Symbol). test x.1) (enumerate_from i xs))) ≤ symbols_size xs + length xs
passing_size line test named i [] = omega arith
passing_size line test named i (s ∷ xs) = by (test s) (passing_size line test named (i + 1) xs) (sum_by-cons (λ (s : Symbol). length s.name) s xs)
  where
    rest : List (ℕ × Symbol)
    rest = filter (λ (x : ℕ × Symbol). test x.1) (enumerate_from (i + 1) xs)

    given : List (ℕ × Symbol) → List Line
    given ys = map (λ (x : ℕ × Symbol). line x.0 x.1) ys

    by : (b : Bool) → text_size (given rest) ≤ symbols_size xs + length xs → symbols_size (s ∷ xs) ≡ length s.name + symbols_size xs
        → text_size (given (cond b ((i, s) ∷ rest) rest)) ≤ symbols_size (s ∷ xs) + length (s ∷ xs)
    by true low sum =
        let a = sum_by-cons ended_size (line_name (line i s)) (map line_name (given rest)) in
        let own : ended_size (line_name (line i s)) ≡ length s.name + 1 = ap ended_size (named i s) in
        omega (arith, low, sum, a, own)
    by false low sum = omega (arith, low, sum)

-- a section's symbol has a short name
owns_size : (ks : List ℕ) → ((i k : ℕ) → slice_get ks i ≡ Some k → k < 255) → text_size (map OwnLine ks) ≤ 14 * length ks
owns_size [] each = omega arith
owns_size (k ∷ ks) each =
    let low = each 0 k refl in
    let rest = owns_size ks (λ i j here. each (suc i) j here) in
    let sum = sum_by-cons ended_size (line_name (OwnLine k)) (map line_name (map OwnLine ks)) in
    let digits = length-decimal-le 3 (k + 1) (omega arith) (omega (arith, low)) (omega (arith, low)) in
    let all = length-append (codes "l_section_") (decimal (k + 1)) in
    omega (arith, rest, sum, digits, all)

module _ (w : Word) (n : Object) (is : IsForMach w n) where
  needed_size : (v : Word) → text_size (own_lines v n) ≤ 14 * length (own_lines v n)
  needed_size W32 = omega arith
  needed_size W64 =
      let few = is.meets.few in
      let a = owns_size (needed_sections n) (λ i k here. let low = needed_low n i k here in omega (arith, low, few)) in
      let b = length-map (needed_sections n) OwnLine in
      omega (arith, a, b)

  pub few_names : 1 + sum_by ended_size (line_names w n) < 2 ^ 32
  unfolding lines_of line_names
  few_names =
      let undefined : List Line = lines_where OuterLine (λ s. is_undefined s.binding) n in
      let commons : List Line = lines_where OuterLine (λ s. is_common s.binding) n in
      let weaks : List Line = lines_where OuterLine (λ s. is_weak_with is_zero s.binding) n in
      let a = text_append (inner_lines w n) (defined_lines n ++ undefined_lines n) in
      let b = text_append (own_lines w n) (local_lines n) in
      let c = text_append (defined_lines n) (undefined_lines n) in
      let d = text_append undefined (commons ++ weaks) in
      let e = text_append commons weaks in
      let own = needed_size w in
      let la = length-append (inner_lines w n) (defined_lines n ++ undefined_lines n) in
      let lb = length-append (own_lines w n) (local_lines n) in
      let f = passing_size LocalLine (λ s. is_local s.binding && is_written n.format s) (λ k s. refl) 0 n.symbols in
      let g = passing_size OuterLine (λ s. is_defined s.binding) (λ k s. refl) 0 n.symbols in
      let h = passing_size OuterLine (λ s. is_undefined s.binding) (λ k s. refl) 0 n.symbols in
      let i = passing_size OuterLine (λ s. is_common s.binding) (λ k s. refl) 0 n.symbols in
      let j = passing_size OuterLine (λ s. is_weak_with is_zero s.binding) (λ k s. refl) 0 n.symbols in
      let few = few_lines w n is in
      let bounds = is.meets.bounds in
      omega (arith, a, b, c, d, e, own, la, lb, f, g, h, i, j, few, bounds.symbols, bounds.texts)

-- the name of a line is one of them
pub named_among : (w : Word) (n : Object) (k : ℕ) (x : Line) (names : List (List ℕ)) → names ≡ line_names w n → slice_get (lines_of w n) k ≡ Some x → Contains names (line_name x)
unfolding line_names
named_among w n k x names are here = subst (λ (ns : List (List ℕ)). Contains ns (line_name x)) (sym are) (among (lines_of w n) k here)
  where
    among : (xs : List Line) (k : ℕ) → slice_get xs k ≡ Some x → Contains (map line_name xs) (line_name x)
    among [] k here = absurd (none-some x here)
    among (y ∷ ys) zero here = (0, omega arith, ap line_name (same_Some y x here))
    among (y ∷ ys) (suc k) here = let m = among ys k here in (suc m.0, omega (arith, m.1), m.2)
