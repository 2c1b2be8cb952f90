-- What is left is read from where the last thread or fixup ends.
use Rattle.std.proofs.Common.{◌<◌, ◌≤◌, Ok, length, refl, sym, ◌∙◌, ap, subst, arith}
use Rattle.oc_omf_read.specs.Fields.{AreLow}
use Rattle.oc_omf_read.proofs.{FieldLemmas.{walk_begins, walk_cut, walk_ends, walk_fixup, walk_thread}, GoesLemmas.{thread_low}}
use Rattle.oc_omf_read.proofs.fields.take_subrecords.Goals as goal
use Rattle.oc_omf_judge.proofs.SubrecordLemmas.{subrecord_goes}

pub loop-at-init : goal.loop-at-init
loop-at-init c = record {
  low = c.requires.low;
  walking = λ i has. walk_begins c.args.context.now i c.args.entry.now c.is_wide-wide.result c.is_wide-wide.ensures c.requires.class c.args.fields.now.items c.args.behind.now has;
}

pub take_up-requires : goal.take_up-requires
take_up-requires c =
    thread_low c.is_wide-wide.result c.args.entry.now.contents c.loop-at.at c.in-Ok-Thread-default.thread c.in-Ok-Thread-default.after
    (sym c.in-Ok-Thread-default.ensures ∙ ap (λ x. Ok (x, c.in-Ok-Thread-default.after)) c.in-Ok-Thread-default.field-0-0-is)

pub loop-at-smaller-in-Ok-Thread-default : goal.loop-at-smaller-in-Ok-Thread-default
loop-at-smaller-in-Ok-Thread-default c =
    let low : c.loop-at.at < length c.args.entry.now.contents = omega arith in
    let p = subrecord_goes c.is_wide-wide.result c.args.entry.now.contents c.loop-at.at _ c.in-Ok-Thread-default.after (sym c.in-Ok-Thread-default.ensures) in
    omega (arith, low, p.0, p.1)

pub loop-at-preserved-in-Ok-Thread-default : goal.loop-at-preserved-in-Ok-Thread-default
loop-at-preserved-in-Ok-Thread-default c =
    let low : c.loop-at.at < length c.args.entry.now.contents = omega arith in
    record {
      low = c.loop-at.invariant.low;
      walking = λ i has.
          walk_thread c.args.context.now i c.args.entry.now c.is_wide-wide.result c.loop-at.at c.loop-at.fields.items c.args.behind.now c.loop-at.behind (c.loop-at.invariant.walking i has)
          c.in-Ok-Thread-default.thread c.in-Ok-Thread-default.after (record { threads = c.take_up.new.self; piece = c.loop-at.behind.piece }) low
          (sym c.in-Ok-Thread-default.ensures ∙ ap (λ x. Ok (x, c.in-Ok-Thread-default.after)) c.in-Ok-Thread-default.field-0-0-is) c.take_up.ensures refl;
    }

pub loop-at-smaller-in-Ok-Fixup-default : goal.loop-at-smaller-in-Ok-Fixup-default
loop-at-smaller-in-Ok-Fixup-default c =
    let low : c.loop-at.at < length c.args.entry.now.contents = omega arith in
    let p = subrecord_goes c.is_wide-wide.result c.args.entry.now.contents c.loop-at.at _ c.in-Ok-Fixup-default.after (sym c.in-Ok-Fixup-default.ensures) in
    omega (arith, low, p.0, p.1)

pub loop-at-preserved-in-Ok-Fixup-default : goal.loop-at-preserved-in-Ok-Fixup-default
loop-at-preserved-in-Ok-Fixup-default c =
    let low : c.loop-at.at < length c.args.entry.now.contents = omega arith in
    let taken = c.in_ok-take_fixup-in-Ok-Fixup-default.ensures in
    record {
      low = subst AreLow (sym taken.piece) c.loop-at.invariant.low;
      walking = λ i has.
          walk_fixup c.args.context.now i c.args.entry.now c.is_wide-wide.result c.loop-at.at c.loop-at.fields.items c.args.behind.now c.loop-at.behind (c.loop-at.invariant.walking i has)
          c.in-Ok-Fixup-default.fixup c.in-Ok-Fixup-default.after c.take_fixup.new.fields.items c.take_fixup.new.behind low
          (sym c.in-Ok-Fixup-default.ensures ∙ ap (λ x. Ok (x, c.in-Ok-Fixup-default.after)) c.in-Ok-Fixup-default.field-0-0-is) taken.threads taken.piece taken.fields;
    }

pub loop-at-preserved : goal.loop-at-preserved
loop-at-preserved c =
    let low : c.loop-at.at < length c.args.entry.now.contents = omega arith in
    let past : length c.args.entry.now.contents ≤ c.len-at.result = omega arith in
    record {
      low = c.loop-at.invariant.low;
      walking = λ i has.
          walk_cut c.args.context.now i c.args.entry.now c.is_wide-wide.result c.loop-at.at c.loop-at.fields.items c.args.behind.now c.loop-at.behind (c.loop-at.invariant.walking i has)
          c.in-Err.field-0 c.len-at.result low past (sym c.in-Err.ensures);
    }

pub returns : goal.returns
returns c = λ i here has.
    let past : length c.args.entry.now.contents ≤ c.loop-at.at = omega arith in
    walk_ends c.args.context.now i c.args.entry.now c.is_wide-wide.result c.loop-at.at c.loop-at.fields.items c.args.behind.now c.loop-at.behind (c.loop-at.invariant.walking i has) past c.requires.class here
