-- What is made is that of the object.
use Rattle.std.proofs.Common.{◌≡◌, sym, ◌∙◌, ap, subst}
use Rattle.oc_neutral.specs.Objects.{Object}
use Rattle.oc_coff_file.specs.Layout.{parts_of}
use Rattle.oc_coff_write.specs.{Bodies.{raws_in}, LaidParts.{AreLaid}}
use Rattle.oc_coff_write.proofs.planning.made_of.Goals as goal

pub returns-clause-made : goal.returns-clause-made
returns-clause-made c =
    let w = c.args.form in
    let same : c.neutral-neutral.result.now ≡ c.args.fitted = c.neutral-neutral.ensures in
    rw (← same) (record {
      shape = c.shape_of.ensures;
      header = c.file_header_of-header.ensures;
      headers = c.in_ok-layout.ensures.headers;
      raws = c.sections_of-sections.ensures ∙ ap (raws_in w) (c.into_neutral.ensures ∙ sym same);
      relocs = c.in_ok-relocs.ensures;
      entries = c.in_ok-made.ensures.rows;
      names = c.in_ok-made.ensures.names;
    })

pub returns-clause-laid : goal.returns-clause-laid
returns-clause-laid c =
    let same : c.neutral-neutral.result.now ≡ c.args.fitted = c.neutral-neutral.ensures in
    subst (λ (x : Object). AreLaid c.args.form x c.in_ok-layout.layout (parts_of x)) same c.in_ok-layout.ensures.layout
