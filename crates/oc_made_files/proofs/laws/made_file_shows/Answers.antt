-- A file that was made for an object shows it.
use Rattle.oc_made_files.proofs.MadeLaws as proven
use Rattle.oc_made_files.proofs.laws.made_file_shows.Goals as goal

pub returns : goal.returns
returns c = proven.made_file_shows
