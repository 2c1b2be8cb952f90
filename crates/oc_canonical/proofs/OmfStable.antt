-- Canonical OMF modules are read back.
use Rattle.oc_omf_file.proofs.CodedLaws.{for_omf}
use Rattle.oc_canonical.proofs.{OmfAgain.{omf_file_again}, OmfStays.{object, omf_seen_fitted}, OmfOwn.{omf_own}}
use Rattle.oc_canonical.specs.Stable.{OmfReadsBack}

pub omf_reads_back : OmfReadsBack
omf_reads_back = record {
  fitted = λ n fits. omf_seen_fitted n fits;
  file = λ n fits. omf_file_again n (for_omf n fits) (object n fits);
  own = λ n fits. omf_own n fits;
}
