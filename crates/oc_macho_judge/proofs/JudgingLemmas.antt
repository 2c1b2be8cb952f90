-- The stages of a file, one behind another.
use Rattle.std.proofs.Common.{◌≡◌, ℕ, ◌+◌, ◌*◌, ◌<◌, ◌≤◌, Bool, true, false, cond, List, ◌∷◌, length, Option, None, Some, refl, sym, ◌∙◌, ap, arith}
use Rattle.std.specs.{Prelude.{not, ◌&&◌, nat_lt}, Option.{option_map_or}}
use Rattle.std.proofs.lemmas.{Bool.{true≢false}, Bool.Decides.{nat_tests}, Option.{none-some}}
use Rattle.oc_base.specs.{declared.format.Word.{Word}, declared.fault.Fault.{Fault}}
use Rattle.oc_linking.specs.{declared.terms.Keep.{Keep}, FirstFault.{first_broken, first_fault, stage_fault, fault_of}, Numbers.{or_else}}
use Rattle.oc_linking.proofs.FirstFaultLaws.{first_upto_none}
use Rattle.oc_shelf.proofs.ReadingLaws.StageLemmas.{all_hold}
use Rattle.oc_macho.specs.{declared.section_header.SectionHeader.{SectionHeader}, Tables.{SectionTable, Tables, tables_of}, Sections.{is_kept, is_zerofill}}
use Rattle.oc_macho.specs.{Framed.{table_at}, HeaderFaults.{header_stage}, SectionFaults.{own_conditions, limit_conditions, section_stage}}
use Rattle.oc_macho.specs.RelocationFaults.{entry_stage, no_stage, relocation_stage}
use Rattle.oc_macho.specs.Rules as rules
use Rattle.oc_macho_judge.proofs.SectionLemmas.{section_broken, there}

-- what a section without a fault places lies in the file
pub record IsPlaced (t : Tables) (h : SectionHeader) : Type 0 where
  pub entries_lie : h.reloff + 8 * h.nreloc ≤ t.file_size
  pub bytes_lie : is_zerofill h ≡ false → h.offset + h.size ≤ t.file_size
  pub small : h.size ≤ 2147483647

placed : (t : Tables) (i : ℕ) (h : SectionHeader) → first_broken (own_conditions t i h) ≡ None → first_broken (limit_conditions t i h) ≡ None → IsPlaced t h
unfolding own_conditions limit_conditions
placed t i h own limits =
    let holds = all_hold (own_conditions t i h) own in
    let kept = all_hold (limit_conditions t i h) limits in
    record {
      entries_lie = within t.file_size (h.reloff + 8 * h.nreloc) holds.1.1.1.1.0;
      bytes_lie = λ stored. within t.file_size (h.offset + h.size) (bytes (is_zerofill h) (nat_lt t.file_size (h.offset + h.size)) stored holds.1.1.1.0);
      small = within 2147483647 h.size kept.0;
    }
  where
    within : (a b : ℕ) → nat_lt a b ≡ false → b ≤ a
    within a b e = grind (arith, nat_tests)

    bytes : (a b : Bool) → a ≡ false → (not a && b) ≡ false → b ≡ false
    bytes true b e f = absurd (true≢false e)
    bytes false b e f = f

both : (a b : Option Fault) → or_else a b ≡ None → (a ≡ None) × (b ≡ None)
both None b e = (refl, e)
both (Some f) b e = absurd (none-some f (sym e))

pub section_placed : (t : Tables) (i : ℕ) → i < length t.sections → stage_fault (section_stage t) ≡ None → IsPlaced t (table_at t i).header
section_placed t i low clean =
    let parts = both (first_broken (own_conditions t i (table_at t i).header)) (first_broken (limit_conditions t i (table_at t i).header))
    (sym (section_broken t i low) ∙ first_upto_none (fault_of (section_stage t)) (length t.sections) clean i low) in
    placed t i (table_at t i).header parts.0 parts.1

-- the stage of the relocations of a section, by whether it is kept
pub stage_is : (t : Tables) (keep : Keep) (i : ℕ) (b : Bool) → i < length t.sections → b ≡ is_kept keep (table_at t i) → relocation_stage t keep i ≡ cond b (entry_stage t i (table_at t i)) no_stage
stage_is t keep i b low is =
    ap (λ (o : Option SectionTable). option_map_or (λ x. cond (is_kept keep x) (entry_stage t i x) no_stage) o no_stage) (there t i low)
    ∙ ap (λ (c : Bool). cond c (entry_stage t i (table_at t i)) no_stage) (sym is)

-- the first fault of a file, stage by stage
pub fault_is : (w : Word) (file : List ℕ) (keep : Keep) → rules.fault_of w file keep ≡ first_fault (header_stage w file ∷ rules.rest_stages (tables_of w file) keep)
unfolding rules.fault_of
fault_is w file keep = refl

-- a fault of the header is the first of the file
pub header_stops : (w : Word) (file : List ℕ) (keep : Keep) (f : Fault) → stage_fault (header_stage w file) ≡ Some f → rules.fault_of w file keep ≡ Some f
header_stops w file keep f is = fault_is w file keep ∙ ap (λ (o : Option Fault). or_else o (first_fault (rules.rest_stages (tables_of w file) keep))) is

-- where it has none, that is the first of the rest
pub behind_header : (w : Word) (file : List ℕ) (keep : Keep) (t : Tables) → stage_fault (header_stage w file) ≡ None → t ≡ tables_of w file → rules.fault_of w file keep ≡ first_fault (rules.rest_stages t keep)
behind_header w file keep t clean is =
    fault_is w file keep ∙ ap (λ (o : Option Fault). or_else o (first_fault (rules.rest_stages (tables_of w file) keep))) clean
    ∙ ap (λ (t : Tables). first_fault (rules.rest_stages t keep)) (sym is)
