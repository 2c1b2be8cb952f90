-- A symbol without a fault has a name of its own, so it is added; with the last symbol all are added.
use Rattle.std.proofs.Common.{◌≡◌, ℕ, ◌+◌, ◌<◌, Bool, false, Some, length, refl, sym, ◌∙◌, ap, subst, arith}
use Rattle.std.specs.Prelude.{IsOk}
use Rattle.std.proofs.lemmas.List.{get_or_default}
use Rattle.oc_neutral.specs.Building.{Draft, symbol_added}
use Rattle.oc_shows.proofs.BuiltSteps.{added_is}
use Rattle.oc_shelf.specs.Reading.Slots.{AreSlots}
use Rattle.oc_shelf.proofs.ReadingLaws.SlotLemmas.{slots_pushed}
use Rattle.oc_macho.specs.Entries.{is_pinned}
use Rattle.oc_macho_read.specs.Built.{symbol_as, symbol_position, symboled}
use Rattle.oc_macho_read.proofs.BindingLemmas.{carried_sound, next_position, no_position, symbol_left, symbol_taken, symbols_few}
use Rattle.oc_macho_read.proofs.built_symbols.add_symbols.Goals as goal

pub loop-j-init : goal.loop-j-init
loop-j-init c = record { added = c.requires.before; placed = record { long = ap length c.in_ok-positions.ensures; each = λ j low. absurd (omega (arith, low)) } }

pub symbol_of-requires : goal.symbol_of-requires
symbol_of-requires c =
    carried_sound c.args.frame.now c.requires.sections c.requires.symbols c.loop-j.j c.symbol-s.result c.symbol-s.ensures (sym c.in_ok-carried.ensures ∙ c.if-not-carried.false)

pub add_new_symbol-requires-clause-room : goal.add_new_symbol-requires-clause-room
add_new_symbol-requires-clause-room c =
    let few = c.symbol_count-count.ensures.few in
    let count = c.symbol_count-count.ensures.count in
    let there : c.loop-j.j < length c.args.frame.now.symbols = omega (arith, c.loop-j-test.true, count) in
    subst (λ (d : Draft). length d.object.symbols < 2147483647) (sym c.loop-j.invariant.added)
    (symbols_few c.args.frame.now c.args.keep.now c.loop-j.j there (omega (arith, few, count)))

pub add_new_symbol-requires-clause-new : goal.add_new_symbol-requires-clause-new
add_new_symbol-requires-clause-new c =
    let there : c.loop-j.j < length c.args.frame.now.symbols = omega (arith, c.loop-j-test.true, c.symbol_count-count.ensures.count) in
    let long = c.in_ok-pins.ensures.long in
    let pin : c.index.result.now ≡ is_pinned c.args.frame.now c.args.keep.now c.loop-j.j
    = c.index.ensures ∙ get_or_default c.in_ok-pins.pins.items c.loop-j.j c.index.result.now false (omega (arith, there, long)) ∙ c.in_ok-pins.ensures.each c.loop-j.j there in
    subst (λ r. IsOk r)
    (sym (ap (λ (d : Draft). symbol_added d c.in_ok-symbol.symbol) c.loop-j.invariant.added
    ∙ ap (symbol_added (symboled c.args.frame.now c.args.keep.now c.loop-j.j)) (c.in_ok-symbol.ensures ∙ ap (λ (b : Bool). symbol_as c.args.frame.now b c.loop-j.j c.symbol-s.result) pin)
    ∙ symbol_taken c.args.frame.now c.args.keep.now c.requires.symbols c.loop-j.j c.symbol-s.result c.symbol-s.ensures (sym c.in_ok-carried.ensures ∙ c.if-not-carried.false)))
    refl

pub loop-j-preserved-then-not-carried : goal.loop-j-preserved-then-not-carried
loop-j-preserved-then-not-carried c = record {
  added =
      c.loop-j.invariant.added ∙ symbol_left c.args.frame.now c.args.keep.now c.loop-j.j c.symbol-s.result c.symbol-s.ensures (sym c.in_ok-carried.ensures ∙ c.if-not-carried.true);
  placed =
      subst (AreSlots (symbol_position c.args.frame.now c.args.keep.now) (c.loop-j.j + 1)) (sym c.in_ok-push.ensures.ok)
      (slots_pushed (symbol_position c.args.frame.now c.args.keep.now) c.loop-j.j _ c.loop-j.positions c.loop-j.invariant.placed
      (sym (no_position c.args.frame.now c.args.keep.now c.loop-j.j c.symbol-s.result c.symbol-s.ensures (sym c.in_ok-carried.ensures ∙ c.if-not-carried.true))));
}

pub loop-j-preserved : goal.loop-j-preserved
loop-j-preserved c =
    let there : c.loop-j.j < length c.args.frame.now.symbols = omega (arith, c.loop-j-test.true, c.symbol_count-count.ensures.count) in
    let long = c.in_ok-pins.ensures.long in
    let pin : c.index.result.now ≡ is_pinned c.args.frame.now c.args.keep.now c.loop-j.j
    = c.index.ensures ∙ get_or_default c.in_ok-pins.pins.items c.loop-j.j c.index.result.now false (omega (arith, there, long)) ∙ c.in_ok-pins.ensures.each c.loop-j.j there in
    record {
      added =
          added_is _ (symboled c.args.frame.now c.args.keep.now (c.loop-j.j + 1)) _
          (ap (λ (d : Draft). symbol_added d c.in_ok-symbol.symbol) c.loop-j.invariant.added
          ∙ ap (symbol_added (symboled c.args.frame.now c.args.keep.now c.loop-j.j)) (c.in_ok-symbol.ensures ∙ ap (λ (b : Bool). symbol_as c.args.frame.now b c.loop-j.j c.symbol-s.result) pin)
          ∙ symbol_taken c.args.frame.now c.args.keep.now c.requires.symbols c.loop-j.j c.symbol-s.result c.symbol-s.ensures (sym c.in_ok-carried.ensures ∙ c.if-not-carried.false))
          c.in_ok-position.ensures.added;
      placed =
          subst (AreSlots (symbol_position c.args.frame.now c.args.keep.now) (c.loop-j.j + 1)) (sym c.in_ok-push-2.ensures.ok)
          (slots_pushed (symbol_position c.args.frame.now c.args.keep.now) c.loop-j.j _ c.loop-j.positions c.loop-j.invariant.placed
          (ap (λ (n : ℕ). Some n) (c.in_ok-position.ensures.position ∙ ap (λ (d : Draft). length d.object.symbols) c.loop-j.invariant.added)
          ∙ sym (next_position c.args.frame.now c.args.keep.now c.requires.symbols c.loop-j.j c.symbol-s.result c.symbol-s.ensures (sym c.in_ok-carried.ensures ∙ c.if-not-carried.false))));
    }

pub returns-clause-added : goal.returns-clause-added
returns-clause-added c =
    let end : c.loop-j.j ≡ length c.args.frame.now.symbols = omega (arith, c.loop-j-test.false, c.symbol_count-count.ensures.count, c.loop-j.auto.j-end) in
    c.loop-j.invariant.added ∙ ap (symboled c.args.frame.now c.args.keep.now) end

pub returns-clause-placed : goal.returns-clause-placed
returns-clause-placed c =
    let end : c.loop-j.j ≡ length c.args.frame.now.symbols = omega (arith, c.loop-j-test.false, c.symbol_count-count.ensures.count, c.loop-j.auto.j-end) in
    subst (λ (n : ℕ). AreSlots (symbol_position c.args.frame.now c.args.keep.now) n c.loop-j.positions) end c.loop-j.invariant.placed
