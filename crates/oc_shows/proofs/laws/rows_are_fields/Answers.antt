use Rattle.oc_shows.proofs.RowFieldLaws as proven
use Rattle.oc_shows.proofs.laws.rows_are_fields.Goals as goal

pub returns-clause-symbols : goal.returns-clause-symbols
returns-clause-symbols c = proven.rows_are_fields

pub returns-clause-sections : goal.returns-clause-sections
returns-clause-sections c = proven.section_rows_are_fields
