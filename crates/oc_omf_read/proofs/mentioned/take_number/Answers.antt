-- A map that is changed at one name.
use Rattle.std.proofs.lemmas.Map.Text.{btree_map_updates_str}
use Rattle.oc_omf_read.proofs.mentioned.take_number.Goals as goal

pub returns : goal.returns
returns c = btree_map_updates_str c.args.name.now c.args.numbers.now c.insert.new.self _ c.in_ok-insert.ensures.updates
