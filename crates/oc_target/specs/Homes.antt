-- Homes, as the definitions have them.
use Rattle.std.specs.{Prelude.{Option}, Option.{option_map}}
use Rattle.oc_neutral.specs.Family as family
use Rattle.oc_target.specs.{declared.homes.Home.{Home}, Found.{held}}

-- where a kind is at home
abbrev pub meant_home : Option Home → Option family.Home
meant_home home = option_map (λ (h : Home). record { name = held h.name; tag = h.tag }) home
