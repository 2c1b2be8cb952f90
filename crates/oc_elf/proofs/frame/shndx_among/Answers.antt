-- One header more.
use Rattle.std.proofs.Common.{ℕ, Option, Some, None, cond, sym, ◌∙◌, ap}
use Rattle.oc_linking.specs.Numbers.{or_else}
use Rattle.oc_shelf.proofs.ReadingLaws.FirstsLemmas.{first_more}
use Rattle.oc_elf.specs.{declared.constants.TheConstants.{SHT_SYMTAB_SHNDX}, declared.shdr.Shdr.{Shdr}, Frames.{header_at}, Sections.{is_type}}
use Rattle.oc_elf.proofs.frame.shndx_among.Goals as goal

pub loop-k-preserved : goal.loop-k-preserved
loop-k-preserved c =
    let k = c.loop-k.k in
    c.first_of-first.ensures
    ∙ ap (λ (s : Shdr). or_else c.loop-k.first (cond (is_type SHT_SYMTAB_SHNDX s) (Some k) None)) c.header_among-s.ensures
    ∙ ap (λ (o : Option ℕ). or_else o (cond (is_type SHT_SYMTAB_SHNDX (header_at c.args.headers.now k)) (Some k) None)) c.loop-k.invariant
    ∙ sym (first_more (λ j. cond (is_type SHT_SYMTAB_SHNDX (header_at c.args.headers.now j)) (Some j) None) k)
