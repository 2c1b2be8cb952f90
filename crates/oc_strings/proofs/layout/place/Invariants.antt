use Rattle.std.proofs.Common.{◌≡◌, ◌+◌, length}
use Rattle.oc_base.specs.Strings.{text_of}
use Rattle.oc_strings.specs.{Tables.{texts, capped}, Order.{IsLaidOut}}
use Rattle.oc_strings.proofs.layout.place.Given as goal

abbrev pub invariant-loop-i : goal.invariant-loop-i
invariant-loop-i l = record {
  laid : IsLaidOut l.head (texts l.names) l.i (texts l.tops.items) l.offsets.items;
  at : l.at ≡ capped (l.head + length (text_of (texts l.tops.items)));
}
