use Rattle.std.proofs.Common.{◌≡◌, ◌++◌, take, string_bytes}
use Rattle.oc_dump.specs.Lines.{shown_name}
use Rattle.oc_dump.proofs.shown.put_name.Given as goal

-- the front of the name is put behind the text
abbrev pub invariant-loop-byte : goal.invariant-loop-byte
invariant-loop-byte l = string_bytes l.out ≡ string_bytes l.fn.out ++ shown_name (take l.byte-index l.name)
