use Rattle.oc_macho_write.proofs.AddressLemmas.{IsLaying}
use Rattle.oc_macho_write.proofs.addresses.lay_sections.Given as goal

-- the sections so far are laid
abbrev pub invariant-loop-k : goal.invariant-loop-k
invariant-loop-k l = IsLaying l.blank l.neutral l.at l.initial.addresses l.k l.addresses l.end
