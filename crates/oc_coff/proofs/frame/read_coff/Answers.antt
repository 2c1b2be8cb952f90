-- The header is there.
use Rattle.std.proofs.Common.{sym, ◌∙◌}
use Rattle.oc_coff.proofs.HeadLemmas.{has_tables}
use Rattle.oc_coff.proofs.frame.read_coff.Goals as goal

pub file_header_of-header-requires : goal.file_header_of-header-requires
file_header_of-header-requires c = (has_tables (record { shape = c.args.shape; bytes = c.args.file.now }) (sym c.header_fault.ensures ∙ c.in-None.is)).there
