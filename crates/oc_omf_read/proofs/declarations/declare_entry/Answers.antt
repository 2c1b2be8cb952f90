-- What is taken up of an entry is what it mentions.
use Rattle.std.proofs.Common.{◌++◌, false, true, List, sym, ◌∙◌, ap, append-nil}
use Rattle.std.proofs.lemmas.Result.{on_ok_weaker}
use Rattle.oc_omf_read.specs.Declarations.{Declaration, all_declarations, public_declarations}
use Rattle.oc_omf_read.proofs.DeclarationLemmas.{communals_are, externals_are, local_externals_are, local_publics_are, no_declarations, publics_are}
use Rattle.oc_omf_read.proofs.declarations.declare_entry.Goals as goal

pub returns-in-Publics : goal.returns-in-Publics
returns-in-Publics c =
    let r = c.args.entry.now in
    on_ok_weaker c.declare_publics.result (λ h. h ∙ ap (λ (ts : List Declaration). all_declarations c.args.declarations.now.items ++ ts) (ap (λ w. public_declarations w false r.contents) c.is_wide-wide.ensures ∙ sym (publics_are r (sym c.in-Publics.ensures)))) c.declare_publics.ensures

pub returns-in-LocalPublics : goal.returns-in-LocalPublics
returns-in-LocalPublics c =
    let r = c.args.entry.now in
    on_ok_weaker c.declare_publics-in-LocalPublics.result (λ h. h ∙ ap (λ (ts : List Declaration). all_declarations c.args.declarations.now.items ++ ts) (ap (λ w. public_declarations w true r.contents) c.is_wide-wide.ensures ∙ sym (local_publics_are r (sym c.in-LocalPublics.ensures))))
    c.declare_publics-in-LocalPublics.ensures

pub returns-in-Externals : goal.returns-in-Externals
returns-in-Externals c = on_ok_weaker c.declare_externals.result (λ h. h ∙ ap (λ (ts : List Declaration). all_declarations c.args.declarations.now.items ++ ts) (sym (externals_are c.args.entry.now (sym c.in-Externals.ensures)))) c.declare_externals.ensures

pub returns-in-LocalExternals : goal.returns-in-LocalExternals
returns-in-LocalExternals c =
    on_ok_weaker c.declare_externals-in-LocalExternals.result (λ h. h ∙ ap (λ (ts : List Declaration). all_declarations c.args.declarations.now.items ++ ts) (sym (local_externals_are c.args.entry.now (sym c.in-LocalExternals.ensures)))) c.declare_externals-in-LocalExternals.ensures

pub returns-in-Communals : goal.returns-in-Communals
returns-in-Communals c = on_ok_weaker c.declare_communals.result (λ h. h ∙ ap (λ (ts : List Declaration). all_declarations c.args.declarations.now.items ++ ts) (sym (communals_are c.args.entry.now (sym c.in-Communals.ensures)))) c.declare_communals.ensures

pub returns-in-Names : goal.returns-in-Names
returns-in-Names c =
    sym (append-nil (all_declarations c.args.declarations.now.items)) ∙ ap (λ (ts : List Declaration). all_declarations c.args.declarations.now.items ++ ts) (sym (no_declarations c.args.entry.now c.class_of.result c.in-Names.is (sym c.class_of.ensures)))
