-- A header more fills the buffer further.
use Rattle.std.proofs.Common.{◌≡◌, ℕ, ◌*◌, ◌/◌, ◌<◌, ◌≤◌, List, [], ◌++◌, length, map, take, drop, subst, sym, ◌∙◌, ap, arith, rules}
use Rattle.std.proofs.lemmas.List.{length-map}
use Rattle.oc_base.specs.{declared.format.Word.{Word}, declared.format.Word.TheVariants.{W32, W64}}
use Rattle.oc_shelf.specs.Writing.Parts.{table_of}
use Rattle.oc_outside.specs.Windows.{IsFilled}
use Rattle.oc_macho.specs.{SectionHeader.{section_header_size}, Structures.{section_bytes}}
use Rattle.oc_shelf.proofs.WritingLaws.TableLemmas.{rows_cut, rows_long, rows_more, table_long, times_quotient, times_rises}
use Rattle.oc_shelf.proofs.WritingLaws.WindowLemmas.{filled_full, filled_nothing}
use Rattle.oc_plans.proofs.PlacedLemmas.{mapped_at}
use Rattle.oc_macho_write.proofs.tables.headers_window.Goals as goal

-- sizes are those of the word, and never 0
some_size : (w : Word) → 1 ≤ section_header_size w
some_size W32 = omega arith
some_size W64 = omega arith

pub returns-then-first-count : goal.returns-then-first-count
returns-then-first-count c =
    let rows : List (List ℕ) = map (section_bytes c.args.word) c.args.headers.now in
    let w : ℕ = section_header_size c.args.word in
    let size = c.section_header_size-size.ensures in
    let long = length-map c.args.headers.now (section_bytes c.args.word) in
    let past : length c.args.headers.now ≤ c.args.from / c.section_header_size-size.result = search rules in
    let past' : length rows ≤ c.args.from / w = subst (λ (m : ℕ). length rows ≤ c.args.from / m) size (omega (arith, past, long)) in
    let up : w * length rows ≤ w * (c.args.from / w) = times_rises w (length rows) (c.args.from / w) past' in
    filled_nothing (table_of rows) c.args.out.now c.args.from (omega (arith, up, times_quotient w c.args.from (some_size c.args.word), table_long w rows c.requires.headed))

pub loop-k-init : goal.loop-k-init
loop-k-init c =
    let rows : List (List ℕ) = map (section_bytes c.args.word) c.args.headers.now in
    let w : ℕ = section_header_size c.args.word in
    let size = c.section_header_size-size.ensures in
    let long = length-map c.args.headers.now (section_bytes c.args.word) in
    let first : ℕ = c.args.from / c.section_header_size-size.result in
    let low : first < length c.args.headers.now = search rules in
    let under : w * first ≤ c.args.from = subst (λ (m : ℕ). w * (c.args.from / m) ≤ c.args.from) (sym size) (times_quotient w c.args.from (some_size c.args.word)) in
    filled_nothing (table_of (take first rows)) c.args.out.now c.args.from (omega (arith, under, rows_long w rows first c.requires.headed (omega (arith, low, long))))

pub returns-then-done-out : goal.returns-then-done-out
returns-then-done-out c =
    let rows : List (List ℕ) = map (section_bytes c.args.word) c.args.headers.now in
    let full : length c.args.out.now ≤ c.loop-k.done = search rules in
    subst (λ (zs : List ℕ). IsFilled zs c.args.from c.args.out.now c.loop-k.out c.loop-k.done) (sym (rows_cut rows c.loop-k.k))
    (filled_full (table_of (take c.loop-k.k rows)) (table_of (drop c.loop-k.k rows)) c.args.out.now c.loop-k.out c.args.from c.loop-k.done c.loop-k.invariant full)

pub fill_header-done-requires-clause-filled : goal.fill_header-done-requires-clause-filled
fill_header-done-requires-clause-filled c =
    let rows : List (List ℕ) = map (section_bytes c.args.word) c.args.headers.now in
    let w : ℕ = section_header_size c.args.word in
    let size = c.section_header_size-size.ensures in
    let long = length-map c.args.headers.now (section_bytes c.args.word) in
    let low : c.loop-k.k < length c.args.headers.now = search rules in
    let count = c.loop-k.invariant.count in
    let at : c.section_header_size-size.result * c.loop-k.k ≡ w * c.loop-k.k = ap (λ (m : ℕ). m * c.loop-k.k) size in
    omega (arith, count, at, rows_long w rows c.loop-k.k c.requires.headed (omega (arith, low, long)))

pub loop-k-preserved : goal.loop-k-preserved
loop-k-preserved c =
    let rows : List (List ℕ) = map (section_bytes c.args.word) c.args.headers.now in
    let w : ℕ = section_header_size c.args.word in
    let size = c.section_header_size-size.ensures in
    let long = length-map c.args.headers.now (section_bytes c.args.word) in
    let low : c.loop-k.k < length c.args.headers.now = search rules in
    let at : c.section_header_size-size.result * c.loop-k.k ≡ w * c.loop-k.k = ap (λ (m : ℕ). m * c.loop-k.k) size in
    let before : length (table_of (take c.loop-k.k rows)) ≡ c.section_header_size-size.result * c.loop-k.k = rows_long w rows c.loop-k.k c.requires.headed (omega (arith, low, long)) ∙ sym at in
    subst (λ (zs : List ℕ). IsFilled zs c.args.from c.args.out.now c.fill_header-done.new.out c.fill_header-done.result)
    (sym (rows_more rows c.loop-k.k (omega (arith, low, long)) ∙ ap (λ (xs : List ℕ). table_of (take c.loop-k.k rows) ++ xs) (mapped_at (section_bytes c.args.word) c.args.headers.now c.loop-k.k _ [] low)))
    (c.fill_header-done.ensures (table_of (take c.loop-k.k rows)) c.args.out.now before c.loop-k.invariant)
