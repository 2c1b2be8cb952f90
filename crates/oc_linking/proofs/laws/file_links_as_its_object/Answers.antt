use Rattle.oc_linking.proofs.Alike as proven
use Rattle.oc_linking.proofs.laws.file_links_as_its_object.Goals as goal

pub returns : goal.returns
returns c = proven.link_shown
