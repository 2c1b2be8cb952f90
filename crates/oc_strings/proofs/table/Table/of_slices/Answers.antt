use Rattle.std.proofs.Common.{◌≡◌, ℕ, ◌<◌, List, [], length, get_or, sym, ◌∙◌, ap, subst, arith}
use Rattle.std.proofs.lemmas.List.{get_or_default, length-map}
use denote.Ref.{Bor}
use Rattle.oc_base.specs.Strings.{text_of, table_text}
use Rattle.oc_strings.specs.{Tables.{StringTable, texts}, Inside.{names_in, IsSearchable}, Parts.{ArePlaces}}
use Rattle.oc_strings.proofs.{EntryLemmas.{number_is, number_within}, SliceLemmas.{text_at}}
use Rattle.oc_strings.proofs.TableLemmas.{offsets_count, offsets_fit, lengths_fit, names_fit, names_are, is_table}
use Rattle.oc_strings.proofs.table.Table.of_slices.Goals as goal

pub places-requires-clause-offsets_fit : goal.places-requires-clause-offsets_fit
places-requires-clause-offsets_fit c k d l =
    let names : List (List ℕ) = texts c.args.names.now in
    let offsets : List ℕ = c.in_ok-layout.layout.offsets.items in
    let same = c.in_ok-layout.ensures.offsets in
    let in' : k < length offsets = omega (arith, ap length c.deref-2.ensures.value) in
    let fit = offsets_fit c.args.head names offsets c.requires same k (omega (arith, offsets_count c.args.head names offsets c.requires same)) in
    omega (arith, ap (λ os. get_or os k d) c.deref-2.ensures.value, get_or_default offsets k d 0 in', fit)

pub places-requires-clause-lengths_fit : goal.places-requires-clause-lengths_fit
places-requires-clause-lengths_fit c k d l =
    let names : List (List ℕ) = texts c.args.names.now in
    let offsets : List ℕ = c.in_ok-layout.layout.offsets.items in
    let in' : k < length names = omega (arith, length-map c.args.names.now (λ (n : Bor (List ℕ)). n.now)) in
    let fit = lengths_fit c.args.head names offsets c.requires c.in_ok-layout.ensures.offsets k in' in
    omega (arith, ap length (sym (text_at c.args.names.now k d [] l)), fit)

pub numbers-requires-clause-fit : goal.numbers-requires-clause-fit
numbers-requires-clause-fit c k d l =
    let names : List (List ℕ) = texts c.args.names.now in
    let o = c.in_ok-sorted.ensures in
    omega (arith, number_within names _ _ o k l, number_is c.in_ok-sorted.sorted.entries.items k d l, names_fit c.args.head names c.requires)

pub invariant_of-result : goal.invariant_of-result
unfolding table_text
invariant_of-result c =
    let names : List (List ℕ) = texts c.args.names.now in
    let offsets : List ℕ = c.in_ok-layout.layout.offsets.items in
    let p : ArePlaces names offsets c.in_ok-given.given.items
    = subst (λ (os : List ℕ). ArePlaces names os c.in_ok-given.given.items) c.deref-2.ensures.value c.in_ok-given.ensures
    in
    let bytes : c.in_ok-bytes.bytes.items ≡ table_text names
    = c.in_ok-bytes.ensures ∙ ap (λ ts. text_of (texts ts)) c.deref.ensures.value ∙ ap text_of c.in_ok-layout.ensures.tops
    in
    let s : IsSearchable names c.in_ok-order.order.items = c.in_ok-order.ensures names c.in_ok-sorted.ensures in
    is_table c.args.head names offsets c.requires c.in_ok-layout.ensures.offsets c.in_ok-given.given.items p c.in_ok-bytes.bytes.items c.in_ok-order.order.items bytes s

pub returns : goal.returns
unfolding table_text
returns c =
    let names : List (List ℕ) = texts c.args.names.now in
    let offsets : List ℕ = c.in_ok-layout.layout.offsets.items in
    let p : ArePlaces names offsets c.in_ok-given.given.items
    = subst (λ (os : List ℕ). ArePlaces names os c.in_ok-given.given.items) c.deref-2.ensures.value c.in_ok-given.ensures
    in
    let bytes : c.in_ok-bytes.bytes.items ≡ table_text names
    = c.in_ok-bytes.ensures ∙ ap (λ ts. text_of (texts ts)) c.deref.ensures.value ∙ ap text_of c.in_ok-layout.ensures.tops
    in
    let made : List (List ℕ) → StringTable = λ ns. record { head = c.args.head; names = ns } in
    ap made (ap (λ b. names_in c.args.head b c.in_ok-given.given.items) bytes ∙ names_are c.args.head names offsets c.requires c.in_ok-layout.ensures.offsets c.in_ok-given.given.items p)
