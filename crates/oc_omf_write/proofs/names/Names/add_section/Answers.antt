-- The name of a section, and its class.
use Rattle.std.proofs.Common.{List, [], ℕ, sym, ◌∙◌, ap, subst}
use Rattle.std.specs.Option.{option_map_or}
use Rattle.std.proofs.lemmas.Option.{slice_get_within}
use Rattle.oc_neutral.specs.declared.section.Section.{Section}
use Rattle.oc_omf_file.specs.Names.{class_of, with_name}
use Rattle.oc_omf_write.specs.Names.{AreNames}
use Rattle.oc_omf_write.proofs.NameLemmas.{upto_more}
use Rattle.oc_omf_write.proofs.names.Names.add_section.Goals as goal

pub returns : goal.returns
returns c = λ sections here u.
    let s = c.args.section.now in
    let low = slice_get_within sections c.args.k s here in
    let text = c.as_slice.ensures in
    let class = c.class_of.ensures in
    let first = c.in_ok-add.ensures sections u.done low (ap (λ o. option_map_or (λ (x : Section). x.name) o []) here ∙ sym text) u.are in
    let second = c.in_ok-add-2.ensures sections _ low (ap (λ o. option_map_or class_of o []) here ∙ sym class) first in
    let new = c.add-2.new.self in
    upto_more sections c.args.k s c.args.self.now new u here
    (subst (λ (t : List ℕ). AreNames sections (with_name (with_name u.done s.name) t) new) class (subst (λ (t : List ℕ). AreNames sections (with_name (with_name u.done t) c.class_of.result.now) new) text second))
