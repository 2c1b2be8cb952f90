-- A segment is kept by its kind.
use Rattle.std.proofs.Common.{◌≡◌, ◌+◌, ◌-◌, ◌<◌, length, sym, ◌∙◌, ap, arith}
use Rattle.oc_omf.specs.{Entries.{entries_in}, Tables.{tables_of}}
use Rattle.oc_omf_read.specs.Aims.{is_kept, meaning_seen}
use Rattle.oc_omf_read.proofs.AimLemmas.{kept_none, kept_seen, not_indexed, zero_indexed}
use Rattle.oc_omf_read.proofs.fixes.is_kept.Goals as goal

pub returns-then-index-eq0 : goal.returns-then-index-eq0
returns-then-index-eq0 c =
    let es = entries_in c.args.context.now.omf.now in
    sym (kept_none es c.args.context.now.keep c.args.segment (zero_indexed (tables_of es).segments c.args.segment (omega arith)))

pub returns-then-index-len : goal.returns-then-index-len
returns-then-index-len c =
    let es = entries_in c.args.context.now.omf.now in
    let many = ap length c.requires.knows.segments_are in
    let past : length c.args.context.now.known.now.segments.items < c.args.segment = omega arith in
    sym (kept_none es c.args.context.now.keep c.args.segment (not_indexed (tables_of es).segments c.args.segment (omega (arith, many, past))))

pub returns : goal.returns
returns c =
    let es = entries_in c.args.context.now.omf.now in
    let low : c.from-index.result - 1 < length c.args.context.now.known.now.segments.items = omega arith in
    let one : c.from-index.result - 1 + 1 ≡ c.args.segment = omega arith in
    c.keeps.ensures ∙ sym (kept_seen es c.args.context.now.known.now c.requires.knows c.args.context.now.keep (c.from-index.result - 1) c.kind_in.result low c.kind_in.ensures)
    ∙ ap (is_kept (meaning_seen c.args.context.now).tables c.args.context.now.keep) one
