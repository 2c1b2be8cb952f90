use Rattle.std.proofs.Common.{◌≡◌, ◌++◌, string_bytes, take}
use Rattle.oc_link.specs.Pieces.{names_text_of}
use Rattle.oc_link.proofs.exports.put_names.Given as goal

-- the names so far
abbrev pub invariant-loop-named : goal.invariant-loop-named
invariant-loop-named l = string_bytes l.out ≡ string_bytes l.fn.out ++ names_text_of l.object l.placed (take l.named-index l.names)
