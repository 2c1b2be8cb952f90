-- A map that is changed at one key.
use Rattle.std.proofs.lemmas.Map.Text.{btree_map_updates_str}
use Rattle.oc_elf_judge.proofs.stood.take_up.Goals as goal

pub returns-clause-taken : goal.returns-clause-taken
returns-clause-taken c = btree_map_updates_str c.args.key.now c.args.stood.now c.insert.new.self _ c.in_ok-before.ensures.updates
