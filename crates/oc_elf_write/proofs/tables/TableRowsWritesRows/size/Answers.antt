-- Each entry has the size of its structure.
use Rattle.std.proofs.Common.{ℕ, ◌∙◌, map, sym, ap, subst}
use Rattle.oc_base.specs.Numbers.{bytes_of_number}
use Rattle.oc_base.proofs.NumberLaws.{length-bytes_of_number}
use Rattle.oc_shelf.specs.Writing.Parts.{HaveSize}
use Rattle.oc_elf.specs.{Classes.{word_of}, Rel.{rel_size}, Shdr.{shdr_size}, Sym.{sym_size}, Structures.{index_bytes, rel_bytes, shdr_bytes, sym_bytes}}
use Rattle.oc_elf_file.proofs.StructureLaws.{length-index_bytes, length-rel_bytes, length-shdr_bytes, length-sym_bytes}
use Rattle.oc_elf_write.specs.{declared.tables.TableRows.{TableRows}, Tables.{rows_by}}
use Rattle.oc_elf_write.proofs.BodyLemmas.{rows_sized}
use Rattle.oc_elf_write.proofs.tables.TableRowsWritesRows.size.Goals as goal

pub returns-in-Headers-clause-same : goal.returns-in-Headers-clause-same
returns-in-Headers-clause-same c =
    let t = c.in-Headers in
    subst (λ (x : TableRows). HaveSize c.shdr_size.result (rows_by x)) (sym t.is)
    (subst (λ (m : ℕ). HaveSize m (map (shdr_bytes t.word) t.field-1.now)) (sym c.shdr_size.ensures) (rows_sized (shdr_bytes t.word) (shdr_size t.word) (length-shdr_bytes t.word) t.field-1.now))

pub returns-in-Relocs-clause-same : goal.returns-in-Relocs-clause-same
returns-in-Relocs-clause-same c =
    let t = c.in-Relocs in
    subst (λ (x : TableRows). HaveSize c.rel_size.result (rows_by x)) (sym t.is)
    (subst (λ (m : ℕ). HaveSize m (map (rel_bytes t.word) t.field-1.now)) (sym c.rel_size.ensures) (rows_sized (rel_bytes t.word) (rel_size t.word) (length-rel_bytes t.word) t.field-1.now))

pub returns-in-Symbols-clause-same : goal.returns-in-Symbols-clause-same
returns-in-Symbols-clause-same c =
    let t = c.in-Symbols in
    subst (λ (x : TableRows). HaveSize c.sym_size.result (rows_by x)) (sym t.is)
    (subst (λ (m : ℕ). HaveSize m (map (sym_bytes t.class) t.field-1.now)) (sym (c.sym_size.ensures ∙ ap sym_size c.word.ensures))
    (rows_sized (sym_bytes t.class) (sym_size (word_of t.class)) (length-sym_bytes t.class) t.field-1.now))

pub returns-in-Indexes-clause-same : goal.returns-in-Indexes-clause-same
returns-in-Indexes-clause-same c =
    let t = c.in-Indexes in
    subst (λ (x : TableRows). HaveSize 4 (rows_by x)) (sym t.is) (rows_sized index_bytes 4 length-index_bytes t.field-0.now)

pub returns-in-Words-clause-same : goal.returns-in-Words-clause-same
returns-in-Words-clause-same c =
    let t = c.in-Words in
    subst (λ (x : TableRows). HaveSize 4 (rows_by x)) (sym t.is) (rows_sized (bytes_of_number 4) 4 (length-bytes_of_number 4) t.field-0.now)
