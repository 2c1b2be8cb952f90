-- The canonical file of an object that is ready for OMF is well formed and shows the object that is seen.
use Rattle.std.proofs.Common.{◌≡◌, ℕ, List, None, refl, sym, subst}
use Rattle.std.specs.List.{AllByRecursion}
use Rattle.oc_linking.specs.Keeping.{all}
use Rattle.oc_neutral.specs.Objects.{Object}
use Rattle.oc_shelf.proofs.ReadingLaws.StageLemmas.{IsUnbroken, no_first_fault}
use Rattle.oc_omf.specs.{Entries.{entries_in}, SymbolFaults.{symbol_stages}, RelocationFaults.{relocation_stages}, Rules.{OmfIsDialect, stages_of, fault_of}}
use Rattle.oc_omf_file.specs.{Canonical.{omf_file}, Writing.{OmfIsWritten}}
use Rattle.oc_omf_file.proofs.{ListLemmas.{all_both}, CodedLaws.{IsForOmf, for_omf}, FixedLaws.{entries}, ShowsLaw.{read, omf_shows}}
use Rattle.oc_omf_file.proofs.{HeaderClean.{header_clean}, SectionClean.{sections_clean}, SymbolClean.{symbols_clean}, RelocationClean.{relocations_clean}}

pub well_formed : (n : Object) → IsForOmf n → fault_of (omf_file n) all ≡ None
unfolding fault_of stages_of
well_formed n is =
    let file : List ℕ = omf_file n in
    no_first_fault (stages_of file (entries_in file) all)
    (subst (λ es. AllByRecursion IsUnbroken (stages_of file es all)) (sym (read n is))
    (header_clean n is, (sections_clean n is, all_both IsUnbroken (symbol_stages (entries n is)) (relocation_stages (entries n is) all) (symbols_clean n is) (relocations_clean n is))))

omf_is : OmfIsDialect
omf_is = record { word = refl; output_align = λ align. refl; common_align = λ size align. refl }

pub omf_is_written : OmfIsWritten
omf_is_written = record {
  dialect = omf_is;
  written = λ n fitted. let is = for_omf n fitted in record { well_formed = well_formed n is; shows = omf_shows n is fitted };
}
