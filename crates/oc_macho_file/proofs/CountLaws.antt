-- A canonical file has as many symbols as are counted.
use Rattle.std.proofs.Common.{◌≡◌, ℕ, ◌+◌, ◌^◌, ◌<◌, Bool, true, false, ◌&&◌, cond, List, [], ◌∷◌, ◌++◌, length, refl, ◌∙◌, ap, arith, length-append}
use Rattle.std.specs.List.{count_by, enumerate_from, filter}
use Rattle.std.proofs.lemmas.{Bool.{true≢false}, List.{length-map}, List.Sums.{sum_by-cons, length-filter}}
use Rattle.oc_base.specs.{declared.format.Word.{Word}, declared.format.Word.TheVariants.{W32, W64}}
use Rattle.oc_linking.specs.{declared.terms.Binding.{Binding}, declared.terms.Binding.TheVariants.{Local, Global, Undefined, Common, Weak}, Parts.{is_local}}
use Rattle.oc_linking.specs.declared.terms.Fallback.TheVariants as fallback
use Rattle.oc_neutral.specs.{declared.symbol.Symbol.{Symbol}, Bindings.{is_zero, is_written_by}, Mach.Family.{mach_writes, mach_needed, mach_symbol_count}}
use Rattle.oc_neutral.specs.{Mach.SectionSymbols.{needed_sections}, Objects.{Object}, Dressing.{is_common}, WrittenSymbols.{is_written}}
use Rattle.oc_shows.specs.SymbolLines.{is_defined, is_undefined, is_weak_with}
use Rattle.oc_macho.specs.MachHeader.{mach_format}
use Rattle.oc_macho_file.specs.Lines.{Line, OwnLine, LocalLine, OuterLine, lines_of, lines_where, own_lines, local_lines, inner_lines, defined_lines, undefined_lines}
use Rattle.oc_macho_file.proofs.CodedLaws.{IsForMach}
use Rattle.oc_shelf.proofs.WritingLaws.SizeLemmas.{sum_enumerated}

-- a symbol is counted once
five_tests : (writes : Bool) (b : Binding) (written : Bool) → (is_local b ≡ true → writes ≡ written) → (is_local b ≡ false → written ≡ true)
    → cond (is_local b && writes) 1 0 + (cond (is_defined b) 1 0 + (cond (is_undefined b) 1 0 + (cond (is_common b) 1 0 + cond (is_weak_with is_zero b) 1 0))) ≡ cond written 1 0
five_tests writes (Local v) written own outer = let e : cond {A = ℕ} writes 1 0 ≡ cond written 1 0 = ap (λ c. cond {A = ℕ} c 1 0) (own refl) in omega (arith, e)
five_tests writes (Global v) written own outer = let e : cond {A = ℕ} written 1 0 ≡ 1 = ap (λ c. cond {A = ℕ} c 1 0) (outer refl) in omega (arith, e)
five_tests writes Undefined written own outer = let e : cond {A = ℕ} written 1 0 ≡ 1 = ap (λ c. cond {A = ℕ} c 1 0) (outer refl) in omega (arith, e)
five_tests writes (Common size align) written own outer = let e : cond {A = ℕ} written 1 0 ≡ 1 = ap (λ c. cond {A = ℕ} c 1 0) (outer refl) in omega (arith, e)
five_tests writes (Weak (fallback.Place k o)) written own outer = let e : cond {A = ℕ} written 1 0 ≡ 1 = ap (λ c. cond {A = ℕ} c 1 0) (outer refl) in omega (arith, e)
five_tests writes (Weak fallback.Zero) written own outer = let e : cond {A = ℕ} written 1 0 ≡ 1 = ap (λ c. cond {A = ℕ} c 1 0) (outer refl) in omega (arith, e)
five_tests writes (Weak (fallback.Name k)) written own outer = let e : cond {A = ℕ} written 1 0 ≡ 1 = ap (λ c. cond {A = ℕ} c 1 0) (outer refl) in omega (arith, e)

five_counts : (a b c d e f : Symbol → Bool) (xs : List Symbol)
    → ((s : Symbol) → cond {A = ℕ} (a s) 1 0 + (cond (b s) 1 0 + (cond (c s) 1 0 + (cond (d s) 1 0 + cond (e s) 1 0))) ≡ cond (f s) 1 0)
    → count_by a xs + (count_by b xs + (count_by c xs + (count_by d xs + count_by e xs))) ≡ count_by f xs
five_counts a b c d e f [] each = refl
five_counts a b c d e f (s ∷ xs) each =
    let rest = five_counts a b c d e f xs each in
    let own = each s in
    let ha = sum_by-cons (λ s. cond {A = ℕ} (a s) 1 0) s xs in
    let hb = sum_by-cons (λ s. cond {A = ℕ} (b s) 1 0) s xs in
    let hc = sum_by-cons (λ s. cond {A = ℕ} (c s) 1 0) s xs in
    let hd = sum_by-cons (λ s. cond {A = ℕ} (d s) 1 0) s xs in
    let he = sum_by-cons (λ s. cond {A = ℕ} (e s) 1 0) s xs in
    let hf = sum_by-cons (λ s. cond {A = ℕ} (f s) 1 0) s xs in
    omega (arith, rest, own, ha, hb, hc, hd, he, hf)

module _ (w : Word) (n : Object) (is : IsForMach w n) where
  pub length-where : (line : ℕ → Symbol → Line) (test : Symbol → Bool) → length (lines_where line test n) ≡ count_by test n.symbols
  length-where line test =
      length-map (filter (λ (x : ℕ × Symbol). test x.1) (enumerate_from 0 n.symbols)) (λ (x : ℕ × Symbol). line x.0 x.1)
      ∙ length-filter (λ (x : ℕ × Symbol). test x.1) (enumerate_from 0 n.symbols)
      ∙ sum_enumerated (λ (s : Symbol). cond (test s) 1 0) 0 n.symbols

  written_as : (s : Symbol) → is_written n.format s ≡ is_written_by (mach_writes w) s.name s.binding
  written_as s = ap (λ f. is_written f s) is.format ∙ by w
    where
      by : (v : Word) → is_written (mach_format v) s ≡ is_written_by (mach_writes v) s.name s.binding
      by v = grind arith

  outer_written : (name : List ℕ) (b : Binding) → is_local b ≡ false → is_written_by (mach_writes w) name b ≡ true
  outer_written name b e = grind arith

  length-own : (v : Word) → length (own_lines v n) ≡ length (mach_needed v n)
  length-own W32 = refl
  length-own W64 = length-map (needed_sections n) OwnLine

  pub length-lines : length (lines_of w n) ≡ mach_symbol_count w n
  unfolding lines_of
  length-lines =
      let a = length-append (inner_lines w n) (defined_lines n ++ undefined_lines n) in
      let b = length-append (own_lines w n) (local_lines n) in
      let c = length-append (defined_lines n) (undefined_lines n) in
      let d = length-append (lines_where OuterLine (λ s. is_undefined s.binding) n) (lines_where OuterLine (λ s. is_common s.binding) n ++ lines_where OuterLine (λ s. is_weak_with is_zero s.binding) n) in
      let e = length-append (lines_where OuterLine (λ s. is_common s.binding) n) (lines_where OuterLine (λ s. is_weak_with is_zero s.binding) n) in
      let own = length-own w in
      let locals = length-where LocalLine (λ s. is_local s.binding && is_written n.format s) in
      let defined = length-where OuterLine (λ s. is_defined s.binding) in
      let undefined = length-where OuterLine (λ s. is_undefined s.binding) in
      let commons = length-where OuterLine (λ s. is_common s.binding) in
      let weaks = length-where OuterLine (λ s. is_weak_with is_zero s.binding) in
      let all = five_counts (λ s. is_local s.binding && is_written n.format s) (λ s. is_defined s.binding) (λ s. is_undefined s.binding) (λ s. is_common s.binding) (λ s. is_weak_with is_zero s.binding)
      (λ s. is_written_by (mach_writes w) s.name s.binding) n.symbols
      (λ s. five_tests (is_written n.format s) s.binding (is_written_by (mach_writes w) s.name s.binding) (λ local. written_as s) (λ outer. outer_written s.name s.binding outer)) in
      omega (arith, a, b, c, d, e, own, locals, defined, undefined, commons, weaks, all)

  pub few_lines : length (lines_of w n) < 2 ^ 24
  few_lines = let long = length-lines in let few = by w refl in omega (arith, long, few)
    where
      by : (v : Word) → w ≡ v → mach_symbol_count w n < 2 ^ 24
      by v e = grind arith
