-- Header 0 has the number of headers, and the last one where the file header has no room.
use Rattle.std.proofs.Common.{◌≡◌, ℕ, ◌-◌, true, cond, length, sym, ◌∙◌, ap, arith}
use Rattle.oc_elf.specs.{declared.shdr.Shdr.{Shdr}, Classes.{is_big}, Shdr.{null_shdr}}
use Rattle.oc_elf_file.specs.{Headers.{extended_names}, Heads.{heads_of, head_where, is_shstrtab_head}}
use Rattle.oc_elf_write.proofs.HeaderLemmas.{shstrtab_number}
use Rattle.oc_elf_write.proofs.headers.zero_header.Goals as goal

pub returns-then-is_big : goal.returns-then-is_big
returns-then-is_big c = λ n many.
    let class = c.args.class in
    let big : is_big class ≡ true = sym c.is_big.ensures ∙ c.if-is_big.true in
    let z : Shdr → ℕ → ℕ → Shdr = λ s a b. record s { sh_size = a; sh_link = b } in
    let place = shstrtab_number n in
    let last : c.args.heads - 1 ≡ head_where n is_shstrtab_head = omega (arith, place, many) in
    ap (λ s. z s c.from.result c.extended_names.result) c.null_shdr.ensures ∙ ap (λ a. z null_shdr a c.extended_names.result) (c.from.ensures ∙ sym many)
    ∙ ap (z null_shdr (length (heads_of n))) (c.extended_names.ensures ∙ ap extended_names last)
    ∙ ap (λ b. cond b (z null_shdr (length (heads_of n)) (extended_names (head_where n is_shstrtab_head))) null_shdr) (sym big)
