use Rattle.std.proofs.Common.{◌≡◌, ◌++◌, drop}
use Rattle.std.specs.Option.{option_map}
use Rattle.oc_place.specs.{declared.name_text.Next.TheVariants.{Any}, NameTexts.{name_after}}
use Rattle.oc_place.proofs.name_text.unescape.Given as goal

-- with what the rest means the name is that of the text
abbrev pub invariant-loop-byte : goal.invariant-loop-byte
invariant-loop-byte l = option_map (λ rest. l.name.items ++ rest) (name_after l.next (drop l.byte-index l.text)) ≡ name_after Any l.text
