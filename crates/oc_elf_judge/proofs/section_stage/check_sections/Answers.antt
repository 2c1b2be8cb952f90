-- A header that has no fault is taken up, and one that has one stops the stage.
use Rattle.std.proofs.Common.{◌≡◌, ◌<◌, ◌∙◌, length, cond, Some, None, sym, ap, arith, slice_index_or}
use Rattle.oc_linking.specs.{FirstFault.{first_broken, fault_of}, Numbers.{or_else}}
use Rattle.oc_linking.proofs.Upto.{first_upto_stop}
use Rattle.oc_elf.specs.{declared.constants.TheConstants.{SHT_SYMTAB}, declared.shdr.Shdr.{Shdr}, Sections.{is_type}, Frames.{header_at}}
use Rattle.oc_elf.specs.SectionRules.{section_conditions, section_stage}
use Rattle.oc_elf_judge.proofs.SectionLemmas.{step_at, checking_more}
use Rattle.oc_elf_judge.proofs.section_stage.check_sections.Goals as goal

pub judge_section-requires-clause-before : goal.judge_section-requires-clause-before
judge_section-requires-clause-before c inside =
    c.get-before.ensures ∙ ap (λ (s : Shdr). slice_index_or c.loop-k.relocs s.sh_info None) c.header-s.ensures ∙ c.loop-k.invariant.relocs_are.each (header_at c.args.frame.now.headers c.loop-k.k).sh_info inside

pub returns-in-Some-clause-stop : goal.returns-in-Some-clause-stop
returns-in-Some-clause-stop c =
    let low : c.loop-k.k < length c.args.frame.now.headers = omega (arith, c.loop-k-test.true, c.count-count.ensures.count) in
    first_upto_stop (fault_of (section_stage c.args.frame.now)) c.loop-k.k (length c.args.frame.now.headers) c.in-Some.fault c.loop-k.invariant.clean (sym c.judge_section.ensures.verdict ∙ c.in-Some.is) low

pub take_table-requires-clause-inside : goal.take_table-requires-clause-inside
take_table-requires-clause-inside c = (step_at c.args.frame.now c.loop-k.k c.is_frame.ensures (sym c.judge_section.ensures.verdict ∙ c.in-None.is)).inside

pub counted-sums-requires-clause-sizes : goal.counted-sums-requires-clause-sizes
counted-sums-requires-clause-sizes c =
    let step = step_at c.args.frame.now c.loop-k.k c.is_frame.ensures (sym c.judge_section.ensures.verdict ∙ c.in-None.is) in
    rw c.loop-k.invariant.sizes_are (step.sizes (rw (← c.loop-k.invariant.sizes_are) c.loop-k.invariant.sizes_small))

pub counted-sums-requires-clause-bytes : goal.counted-sums-requires-clause-bytes
counted-sums-requires-clause-bytes c =
    let step = step_at c.args.frame.now c.loop-k.k c.is_frame.ensures (sym c.judge_section.ensures.verdict ∙ c.in-None.is) in
    rw c.loop-k.invariant.bytes_are (step.bytes (rw (← c.loop-k.invariant.bytes_are) c.loop-k.invariant.bytes_small))

pub loop-k-preserved : goal.loop-k-preserved
loop-k-preserved c =
    let clean : first_broken (section_conditions c.args.frame.now c.loop-k.k) ≡ None = sym c.judge_section.ensures.verdict ∙ c.in-None.is in
    checking_more c.args.frame.now c.loop-k.k _ _ _ _ _ _ _ _ _ _ c.loop-k.invariant (step_at c.args.frame.now c.loop-k.k c.is_frame.ensures clean) clean
    (c.first_of-symtab.ensures ∙ ap (λ (s : Shdr). or_else c.loop-k.symtab (cond (is_type SHT_SYMTAB s) (Some c.loop-k.k) None)) c.header-s.ensures) c.take_table.ensures (c.in-None.ensures.taken) c.counted-sums.ensures.sizes c.counted-sums.ensures.bytes
