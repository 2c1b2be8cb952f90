-- The first fault of a module, by its stages.
use Rattle.std.proofs.Common.{◌≡◌, ℕ, List, None, sym, ◌∙◌, ap, subst}
use Rattle.oc_base.specs.{declared.stop.Stop.{Stop}, Stops.{IsStop}}
use Rattle.oc_base.specs.declared.stop.Stop.TheVariants as stop
use Rattle.oc_linking.specs.{declared.terms.Keep.{Keep}, Numbers.{or_else}, FirstFault.{first_fault}}
use Rattle.oc_shelf.proofs.ReadingLaws.StageLemmas.{first_fault-append}
use Rattle.oc_omf.specs.{Entries.{entries_in}, RelocationFaults.{relocation_stages}, Rules.{fault_of, stages_of}}
use Rattle.oc_omf_judge.specs.Judged.{front_stages}

-- of the stages before relocations, and then of these
pub fault_is : (file : List ℕ) (keep : Keep) → fault_of file keep ≡ or_else (first_fault (front_stages file)) (first_fault (relocation_stages (entries_in file) keep))
unfolding fault_of stages_of
fault_is file keep = first_fault-append (front_stages file) (relocation_stages (entries_in file) keep)

-- the front has none
pub fault_behind : (file : List ℕ) (keep : Keep) → first_fault (front_stages file) ≡ None → fault_of file keep ≡ first_fault (relocation_stages (entries_in file) keep)
fault_behind file keep clean = fault_is file keep ∙ ap (λ o. or_else o (first_fault (relocation_stages (entries_in file) keep))) clean

-- what stops the front
pub front_stops : (file : List ℕ) (keep : Keep) (s : Stop) → IsStop (first_fault (front_stages file)) s → IsStop (fault_of file keep) s
front_stops file keep s is = subst (λ o. IsStop o s) (sym (fault_is file keep)) (by s is)
  where
    by : (s : Stop) → IsStop (first_fault (front_stages file)) s → IsStop (or_else (first_fault (front_stages file)) (first_fault (relocation_stages (entries_in file) keep))) s
    by (stop.Refused f) e = ap (λ o. or_else o (first_fault (relocation_stages (entries_in file) keep))) e
    by stop.NoMemory e = tt
