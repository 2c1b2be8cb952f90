use Rattle.std.proofs.Common.{rules, ◌≡◌, ℕ, ◌∙◌, Bool, ◌&&◌, nat_lt, List, Vec, Global, sym, ap, arith, take, subst, length}
use Rattle.oc_omf_records.specs.{declared.iterated.Iterated.{Iterated}, declared.seeking.Sought.{Sought}, declared.seeking.Sought.TheVariants.{Found}}
use Rattle.oc_omf_records.specs.{Blocks.{in_each, size_of, in_content}, Rows.{row_of, rows_of}, Seeking.{Finds, places_in, kept}}
use Rattle.oc_omf_records.proofs.RowLemmas.{blocks_in-item, blocks_in-inside}
use Rattle.oc_omf_records.proofs.SizedLemmas.{row_of-Content, row_of-Nested, kept_size, kept_blocks, are_sized-item}
use Rattle.oc_omf_records.proofs.SeekingLemmas.{live_inside, size_of-next, fits_behind, fits_repeated, Finds-in_next, Finds-beyond_next, Finds-in_copies, Finds-in_content, fits_low, in_each-low}
use Rattle.oc_omf_records.proofs.seeking.+seeking.Goals as goal

-- what is found in a block, of its own blocks
inside : (live now : Bool) (seen blocks : List Iterated) (at : ℕ) (sought : Sought) (places : Vec ℕ Global) → live ≡ now → seen ≡ blocks → sought ≡ Found places
    → Finds live (rows_of seen) at sought → Finds now (rows_of blocks) at (Found places)
inside live now seen blocks at sought places is_live same is finds = rw (sym is_live, sym same) (subst (Finds live (rows_of seen) at) is finds)

pub seek_block-seek_row-requires : goal.seek_block-seek_row-requires
seek_block-seek_row-requires t c =
    let size = ap (λ x. size_of (row_of x)) c.in-Nested.is ∙ ap size_of (row_of-Nested c.in-Nested.count c.in-Nested.size c.in-Nested.blocks) in
    let fewer = blocks_in-inside c.args.block.now c.in-Nested.count c.in-Nested.size c.in-Nested.blocks c.in-Nested.is in
    rw c.deref-in-Nested.ensures.value (omega (arith, c.decreases, fewer), (kept_blocks c.args.block.now c.in-Nested.count c.in-Nested.size c.in-Nested.blocks c.in-Nested.is c.requires.sized, live_inside c.args.live c.is_live.result c.in-Nested.count (size_of (rows_of c.in-Nested.blocks.items)) c.is_live.ensures (λ here. omega (arith, size, c.requires.small here))))

pub seek_block-in_each_row-requires : goal.seek_block-in_each_row-requires
seek_block-in_each_row-requires t c =
    let size = ap (λ x. size_of (row_of x)) c.in-Nested.is ∙ ap size_of (row_of-Nested c.in-Nested.count c.in-Nested.size c.in-Nested.blocks) in
    let one = inside c.is_live.result (c.args.live && nat_lt 0 c.in-Nested.count) c.deref-in-Nested.result.now c.in-Nested.blocks.items c.args.at c.in_ok-places-in-Nested.field-0 c.in-Found.places
    c.is_live.ensures c.deref-in-Nested.ensures.value c.in-Found.is c.in_ok-places-in-Nested.ensures in
    let cut = kept_size c.args.block.now c.in-Nested.count c.in-Nested.size c.in-Nested.blocks c.in-Nested.is c.requires.sized in
    fits_low c.args.live c.in-Nested.count (rows_of c.in-Nested.blocks.items) c.args.at c.in-Nested.size c.in-Found.places.items cut one
    (λ here. omega (arith, size, c.requires.small here))

pub seek_block-returns-in_ok-in_each-in-Some : goal.seek_block-returns-in_ok-in_each-in-Some
seek_block-returns-in_ok-in_each-in-Some t c =
    let length_is : c.len-size.result ≡ length c.in-Content.bytes.items = omega (arith, c.len-size.ensures, c.in-Content.bytes.ok.0) in
    let one = sym (ap places_in c.in-Some.is) ∙ c.in_ok-places-in-Content.ensures ∙ ap (λ size. kept c.args.live (in_content c.args.at c.in-Content.place size)) length_is in
    let copies = c.in_ok-in_each-in-Some.ensures ∙ ap (λ places. in_each c.in-Content.count c.len-size.result places) c.deref.ensures.value
    ∙ ap (λ size. in_each c.in-Content.count size c.in-Some.places.items) length_is in
    rw (c.in-Content.is, row_of-Content c.in-Content.count c.in-Content.place c.in-Content.bytes)
    (Finds-in_content c.args.live c.in-Content.count c.in-Content.place c.in-Content.bytes.items c.args.at c.in-Some.places c.in_ok-in_each-in-Some.field-0 one copies)

pub seek_block-returns-in_ok-in_each_row-in-Found : goal.seek_block-returns-in_ok-in_each_row-in-Found
seek_block-returns-in_ok-in_each_row-in-Found t c =
    let one = inside c.is_live.result (c.args.live && nat_lt 0 c.in-Nested.count) c.deref-in-Nested.result.now c.in-Nested.blocks.items c.args.at c.in_ok-places-in-Nested.field-0 c.in-Found.places
    c.is_live.ensures c.deref-in-Nested.ensures.value c.in-Found.is c.in_ok-places-in-Nested.ensures in
    let size = ap (λ x. size_of (row_of x)) c.in-Nested.is ∙ ap size_of (row_of-Nested c.in-Nested.count c.in-Nested.size c.in-Nested.blocks) in
    let cut = kept_size c.args.block.now c.in-Nested.count c.in-Nested.size c.in-Nested.blocks c.in-Nested.is c.requires.sized in
    let copies = c.in_ok-in_each_row-in-Found.ensures ∙ in_each-low c.in-Nested.count (size_of (rows_of c.in-Nested.blocks.items)) c.in-Nested.size c.in-Found.places.items cut
    (fits_repeated c.args.live c.in-Nested.count (rows_of c.in-Nested.blocks.items) c.args.at c.in-Found.places.items one (λ here. omega (arith, size, c.requires.small here))) in
    rw (c.in-Nested.is, row_of-Nested c.in-Nested.count c.in-Nested.size c.in-Nested.blocks)
    (Finds-in_copies c.args.live c.in-Nested.count (rows_of c.in-Nested.blocks.items) c.args.at c.in-Found.places c.in_ok-in_each_row-in-Found.field-0 one copies)

pub seek_row-seek_block-requires : goal.seek_row-seek_block-requires
seek_row-seek_block-requires t c =
    let fewer = blocks_in-item c.args.blocks.now c.loop-block.block-index c.block-item.result c.loop-block-test.true c.block-item.is in
    (omega (arith, c.decreases, fewer), (are_sized-item c.args.blocks.now c.loop-block.block-index c.block-item.result c.loop-block-test.true c.block-item.is c.requires.sized, λ here. omega (arith, c.requires.small here, size_of-next c.args.blocks.now c.loop-block.block-index c.block-item.result c.loop-block-test.true c.block-item.is)))

pub seek_row-moved_by-requires : goal.seek_row-moved_by-requires
seek_row-moved_by-requires t c =
    fits_behind c.args.live (row_of c.block-item.result) c.args.at (size_of (rows_of (take c.loop-block.block-index c.args.blocks.now))) c.loop-block.before c.in-Found.places.items
    (subst (Finds c.args.live (row_of c.block-item.result) c.args.at) c.in-Found.is c.in_ok-places.ensures) c.loop-block.invariant.1
    (λ here. omega (arith, c.requires.small here, size_of-next c.args.blocks.now c.loop-block.block-index c.block-item.result c.loop-block-test.true c.block-item.is))

pub seek_row-returns-in-Found : goal.seek_row-returns-in-Found
seek_row-returns-in-Found t c =
    Finds-in_next c.args.live c.args.blocks.now c.loop-block.block-index c.block-item.result c.args.at c.loop-block.before c.in-Found.places c.moved_by.result c.loop-block-test.true c.block-item.is
    c.loop-block.invariant (subst (Finds c.args.live (row_of c.block-item.result) c.args.at) c.in-Found.is c.in_ok-places.ensures) c.requires.small c.moved_by.ensures

pub seek_row-loop-block-preserved : goal.seek_row-loop-block-preserved
seek_row-loop-block-preserved t c =
    Finds-beyond_next c.args.live c.args.blocks.now c.loop-block.block-index c.block-item.result c.args.at c.loop-block.before c.in-Beyond.size c.min-before.result c.loop-block-test.true c.block-item.is
    c.loop-block.invariant (subst (Finds c.args.live (row_of c.block-item.result) c.args.at) c.in-Beyond.is c.in_ok-places.ensures) c.min-before.ensures

pub seek_block-returns-in-Beyond : goal.seek_block-returns-in-Beyond
seek_block-returns-in-Beyond t c =
    let own = subst (Finds c.is_live.result (rows_of c.deref-in-Nested.result.now) c.args.at) c.in-Beyond.is c.in_ok-places-in-Nested.ensures in
    rw (c.in-Nested.is, row_of-Nested c.in-Nested.count c.in-Nested.size c.in-Nested.blocks, sym c.deref-in-Nested.ensures.value) (search (rules, own))
