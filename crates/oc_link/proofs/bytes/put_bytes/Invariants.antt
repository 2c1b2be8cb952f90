use Rattle.std.proofs.Common.{◌≡◌, ◌++◌, length, string_bytes, take}
use Rattle.std.specs.List.{enumerate_from, flat_map}
use Rattle.oc_link.specs.Texts.{byte_text}
use Rattle.oc_link.proofs.bytes.put_bytes.Given as goal

-- the bytes so far
abbrev pub invariant-loop-i : goal.invariant-loop-i
invariant-loop-i l = string_bytes l.out ≡ string_bytes l.fn.out ++ flat_map (byte_text (length l.bytes)) (take l.i (enumerate_from 0 l.bytes))
