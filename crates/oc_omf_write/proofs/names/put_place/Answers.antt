-- A map that is changed at one text.
use Rattle.std.proofs.lemmas.Map.Text.{btree_map_updates_str}
use Rattle.oc_omf_write.proofs.names.put_place.Goals as goal

pub returns : goal.returns
returns c = btree_map_updates_str c.args.text.now c.args.places.now c.insert.new.self _ c.in_ok-insert.ensures.updates
