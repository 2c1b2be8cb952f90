use Rattle.std.proofs.Common.{◌≡◌, ◌++◌, take, map}
use Rattle.std.specs.Prelude.{flat_map}
use Rattle.oc_omf.specs.Bytes.{name_bytes}
use Rattle.oc_omf_write.specs.Names.{text_by}
use Rattle.oc_omf_write.proofs.tables.put_names.Given as goal

-- the names so far
abbrev pub invariant-loop-name : goal.invariant-loop-name
invariant-loop-name l = l.out ≡ l.fn.out ++ flat_map name_bytes (map (text_by l.sections) (take l.name-index l.names))
