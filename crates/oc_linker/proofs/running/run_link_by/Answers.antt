-- Two words are two names.
use Rattle.std.proofs.Common.{rules, ◌≡◌, length, refl}
use Rattle.oc_linker.proofs.RunLemmas.{not_two, two_words}
use Rattle.oc_linker.proofs.running.run_link_by.Goals as goal

pub returns-then-count-ne2 : goal.returns-then-count-ne2
returns-then-count-ne2 g c = record {
  link = not_two _ _ c.tell.result c.args.words.now (search rules) (record {
    named = search rules;
    told = search rules;
    held = refl;
    shown = search rules;
    reads = refl;
    writes = refl;
    outs = search rules;
    errs = search rules;
  });
  end = search rules;
  held = refl;
  writes = refl;
}

pub returns : goal.returns
returns g c =
    let two : length c.args.words.now ≡ 2 = search rules in
    record {
      link = two_words _ _ c.link_files.result c.args.words.now c.word.result.now c.word-2.result.now two c.word.ensures c.word-2.ensures c.link_files.ensures.link;
      end = c.link_files.ensures.end;
      held = c.link_files.ensures.same;
      writes = c.link_files.ensures.writes;
    }
