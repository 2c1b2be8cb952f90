-- A symbol that has a position is the target itself.
use Rattle.std.proofs.Common.{◌≡◌, ◌∙◌, ℕ, ℤ, Some, ap, of_z, rules, sym, to_z, w64}
use Rattle.oc_base.specs.declared.format.Word.{Word}
use Rattle.oc_neutral.specs.declared.reloc.Reloc.{Reloc}
use Rattle.oc_neutral.specs.declared.reloc.Target.TheVariants as target
use Rattle.oc_elf.specs.{declared.meaning.Meaning.{Meaning}, CarriedSymbols.{symbol_position}}
use Rattle.oc_elf_read.specs.Given.{addend_by}
use Rattle.oc_elf_read.proofs.CarriedLemmas.{placed_other}
use Rattle.oc_elf_read.proofs.built_relocs.reloc_with.Goals as goal

-- a relocation with that meaning against the symbol at a position
abbrev against : Meaning → ℕ → ℤ → Reloc
against m k a = record { target = target.Symbol k; form = m.form; addend = a; hint = m.hint }

pub returns-in-Some : goal.returns-in-Some
returns-in-Some c =
    let f = c.args.frame.now in
    let contents = c.args.contents.now in
    let r = c.args.r.now in
    let m = c.args.meaning in
    let k = c.in-Some.k in
    let at : symbol_position f r.r_sym ≡ Some k = sym (c.requires.aims.symbols_are.each r.r_sym c.requires.there) ∙ sym c.get.ensures ∙ c.in-Some.is in
    let same : to_z w64 (of_z w64 c.addend_of-addend.result) ≡ c.addend_of-addend.result = search rules in
    let addend = same ∙ c.addend_of-addend.ensures ∙ ap (λ (w : Word). addend_by w m.form.width contents r) c.word-word.ensures in
    let made = ap (λ (x : Reloc). Some x) c.reloc_by.ensures ∙ ap (λ (a : ℤ). Some (against m k a)) addend in
    rw (placed_other f r.r_sym k at, at) made
