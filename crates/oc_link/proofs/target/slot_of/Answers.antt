use Rattle.std.proofs.Common.{ap}
use Rattle.oc_linking.specs.Parts.{is_local}
use Rattle.oc_link.proofs.ValueLemmas.{slot_local, slot_own}
use Rattle.oc_link.proofs.target.slot_of.Goals as goal

pub returns-in-Local : goal.returns-in-Local
returns-in-Local c = slot_local c.args.object.now c.is_object.ensures c.args.placed.now c.args.k c.symbol.result.now c.symbol.ensures (ap is_local c.in-Local.is)

pub returns-in-Global : goal.returns-in-Global
returns-in-Global c = slot_own c.args.object.now c.is_object.ensures c.args.placed.now c.args.k c.symbol.result.now c.symbol.ensures (ap is_local c.in-Global.is) c.outside.result c.outside.ensures

pub returns-in-Undefined : goal.returns-in-Undefined
returns-in-Undefined c = slot_own c.args.object.now c.is_object.ensures c.args.placed.now c.args.k c.symbol.result.now c.symbol.ensures (ap is_local c.in-Undefined.is) c.outside-in-Undefined.result c.outside-in-Undefined.ensures

pub returns-in-Common : goal.returns-in-Common
returns-in-Common c = slot_own c.args.object.now c.is_object.ensures c.args.placed.now c.args.k c.symbol.result.now c.symbol.ensures (ap is_local c.in-Common.is) c.outside-in-Common.result c.outside-in-Common.ensures

pub returns-in-Weak : goal.returns-in-Weak
returns-in-Weak c = slot_own c.args.object.now c.is_object.ensures c.args.placed.now c.args.k c.symbol.result.now c.symbol.ensures (ap is_local c.in-Weak.is) c.outside-in-Weak.result c.outside-in-Weak.ensures
