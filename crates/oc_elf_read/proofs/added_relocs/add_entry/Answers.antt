-- An entry without a fault has a relocation, which nothing stands against.
use Rattle.std.proofs.Common.{ℕ, ◌+◌, ◌<◌, ◌≤◌, ◌∙◌, List, length, take, IsOk, ◌^◌, arith, refl, sym, ap, subst}
use Rattle.std.specs.Option.{IsSome}
use Rattle.std.proofs.lemmas.Result.{on_ok_weaker}
use Rattle.oc_neutral.specs.{Building.{Draft}, declared.elf.TheConstants.{SHT_NOBITS}}
use Rattle.oc_shows.specs.Built.{HasAdded}
use Rattle.oc_shows.proofs.BuiltSteps.{added_is}
use Rattle.oc_elf.specs.{declared.rel.Rel.{Rel}, declared.shdr.Shdr.{Shdr}, Fields.{width_of}, Frames.{header_at}, Sections.{contents_of, is_type}}
use Rattle.oc_elf.specs.Tables.{symbol_count}
use Rattle.oc_elf_read.specs.{Built.{symboled}, Given.{given_with, reloc_by}}
use Rattle.oc_elf_read.proofs.{AddedTables.{next_of, ready}, FoundFields.{stages_clean}, PlacedEntries.{placed_at}}
use Rattle.oc_elf_read.proofs.added_relocs.add_entry.Goals as goal

pub reloc_of-r-requires-clause-there : goal.reloc_of-r-requires-clause-there
reloc_of-r-requires-clause-there c =
    (placed_at c.args.frame.now c.args.place.now.number c.args.entries.now c.requires.entries c.args.j (record { place = 0; index = 0 }) c.requires.there).low

pub contents_of-requires-clause-lies : goal.contents_of-requires-clause-lies
contents_of-requires-clause-lies c = subst (λ (s : Shdr). s.sh_offset + s.sh_size ≤ length c.args.frame.now.file) (sym c.header-s.ensures)
    (next_of c.args.frame.now c.args.keep.now c.is_frame.ensures (stages_clean c.args.frame.now c.args.keep.now c.requires.clean) c.requires.started c.args.place.now.number c.args.place.now.position c.requires.low c.requires.kept c.requires.here
    c.args.entries.now c.requires.entries c.args.j (record { place = 0; index = 0 }) c.requires.there).lies

pub contents_of-requires-clause-stored : goal.contents_of-requires-clause-stored
contents_of-requires-clause-stored c = ap (is_type SHT_NOBITS) c.header-s.ensures
    ∙ (next_of c.args.frame.now c.args.keep.now c.is_frame.ensures (stages_clean c.args.frame.now c.args.keep.now c.requires.clean) c.requires.started c.args.place.now.number c.args.place.now.position c.requires.low c.requires.kept c.requires.here
    c.args.entries.now c.requires.entries c.args.j (record { place = 0; index = 0 }) c.requires.there).stored

pub reloc_for-requires-clause-there : goal.reloc_for-requires-clause-there
reloc_for-requires-clause-there c = subst (λ (r : Rel). r.r_sym < symbol_count c.args.frame.now) (sym c.reloc_of-r.ensures)
    (next_of c.args.frame.now c.args.keep.now c.is_frame.ensures (stages_clean c.args.frame.now c.args.keep.now c.requires.clean) c.requires.started c.args.place.now.number c.args.place.now.position c.requires.low c.requires.kept c.requires.here
    c.args.entries.now c.requires.entries c.args.j (record { place = 0; index = 0 }) c.requires.there).named

pub reloc_for-requires-clause-inside : goal.reloc_for-requires-clause-inside
reloc_for-requires-clause-inside c =
    subst (λ (xs : List ℕ). c.reloc_of-r.result.r_offset + width_of c.args.frame.now c.reloc_of-r.result ≤ length xs) (sym (c.contents_of.ensures ∙ ap (contents_of c.args.frame.now) c.header-s.ensures))
    (subst (λ (r : Rel). r.r_offset + width_of c.args.frame.now r ≤ length (contents_of c.args.frame.now (header_at c.args.frame.now.headers c.args.place.now.number))) (sym c.reloc_of-r.ensures)
    (next_of c.args.frame.now c.args.keep.now c.is_frame.ensures (stages_clean c.args.frame.now c.args.keep.now c.requires.clean) c.requires.started c.args.place.now.number c.args.place.now.position c.requires.low c.requires.kept c.requires.here
    c.args.entries.now c.requires.entries c.args.j (record { place = 0; index = 0 }) c.requires.there).inside)

pub unwrap-reloc-requires : goal.unwrap-reloc-requires
unwrap-reloc-requires c =
    subst (λ o. IsSome o)
    (sym (c.reloc_for.ensures ∙ ap (λ (xs : List ℕ). reloc_by c.args.frame.now xs c.reloc_of-r.result) (c.contents_of.ensures ∙ ap (contents_of c.args.frame.now) c.header-s.ensures)
    ∙ ap (reloc_by c.args.frame.now (contents_of c.args.frame.now (header_at c.args.frame.now.headers c.args.place.now.number))) c.reloc_of-r.ensures
    ∙ (next_of c.args.frame.now c.args.keep.now c.is_frame.ensures (stages_clean c.args.frame.now c.args.keep.now c.requires.clean) c.requires.started c.args.place.now.number c.args.place.now.position c.requires.low c.requires.kept c.requires.here
    c.args.entries.now c.requires.entries c.args.j (record { place = 0; index = 0 }) c.requires.there).is)) refl

pub overflow_cast-r : goal.overflow_cast-r
overflow_cast-r c =
    let small : c.reloc_of-r.result.r_offset < 2 ^ 32 = subst (λ (r : Rel). r.r_offset < 2 ^ 32) (sym c.reloc_of-r.ensures)
    (next_of c.args.frame.now c.args.keep.now c.is_frame.ensures (stages_clean c.args.frame.now c.args.keep.now c.requires.clean) c.requires.started c.args.place.now.number c.args.place.now.position c.requires.low c.requires.kept c.requires.here
    c.args.entries.now c.requires.entries c.args.j (record { place = 0; index = 0 }) c.requires.there).small in
    omega (arith, small)

pub add_clean_reloc-requires-clause-add : goal.add_clean_reloc-requires-clause-add
add_clean_reloc-requires-clause-add c =
    (ready c.args.frame.now c.args.keep.now c.is_frame.ensures (stages_clean c.args.frame.now c.args.keep.now c.requires.clean) c.requires.started c.args.place.now.number c.args.place.now.position c.requires.low c.requires.kept c.requires.here
    c.args.entries.now c.requires.entries c.args.j (record { place = 0; index = 0 }) c.requires.there c.args.builder.now c.requires.before c.reloc_of-r.result c.reloc_of-r.ensures c.unwrap-reloc.result
    (ap (λ (xs : List ℕ). reloc_by c.args.frame.now xs c.reloc_of-r.result) (sym (c.contents_of.ensures ∙ ap (contents_of c.args.frame.now) c.header-s.ensures)) ∙ sym c.reloc_for.ensures ∙ c.unwrap-reloc.ensures)).can

pub add_clean_reloc-requires-clause-clean : goal.add_clean_reloc-requires-clause-clean
add_clean_reloc-requires-clause-clean c = subst (λ r. IsOk r) (sym
    (ready c.args.frame.now c.args.keep.now c.is_frame.ensures (stages_clean c.args.frame.now c.args.keep.now c.requires.clean) c.requires.started c.args.place.now.number c.args.place.now.position c.requires.low c.requires.kept c.requires.here
    c.args.entries.now c.requires.entries c.args.j (record { place = 0; index = 0 }) c.requires.there c.args.builder.now c.requires.before c.reloc_of-r.result c.reloc_of-r.ensures c.unwrap-reloc.result
    (ap (λ (xs : List ℕ). reloc_by c.args.frame.now xs c.reloc_of-r.result) (sym (c.contents_of.ensures ∙ ap (contents_of c.args.frame.now) c.header-s.ensures)) ∙ sym c.reloc_for.ensures ∙ c.unwrap-reloc.ensures)).ok) refl

pub returns : goal.returns
returns c =
    on_ok_weaker c.add_clean_reloc.result (λ ok. subst (λ (d : Draft). HasAdded (symboled c.args.frame.now (symbol_count c.args.frame.now)) d (given_with c.args.frame.now c.args.keep.now c.args.place.now.number c.args.place.now.position (take (c.args.j + 1) c.args.entries.now)))
    (sym (added_is _ (ready c.args.frame.now c.args.keep.now c.is_frame.ensures (stages_clean c.args.frame.now c.args.keep.now c.requires.clean) c.requires.started c.args.place.now.number c.args.place.now.position c.requires.low c.requires.kept c.requires.here
    c.args.entries.now c.requires.entries c.args.j (record { place = 0; index = 0 }) c.requires.there c.args.builder.now c.requires.before c.reloc_of-r.result c.reloc_of-r.ensures c.unwrap-reloc.result
    (ap (λ (xs : List ℕ). reloc_by c.args.frame.now xs c.reloc_of-r.result) (sym (c.contents_of.ensures ∙ ap (contents_of c.args.frame.now) c.header-s.ensures)) ∙ sym c.reloc_for.ensures ∙ c.unwrap-reloc.ensures)).next c.add_clean_reloc.new.self (ready c.args.frame.now c.args.keep.now c.is_frame.ensures (stages_clean c.args.frame.now c.args.keep.now c.requires.clean) c.requires.started c.args.place.now.number c.args.place.now.position c.requires.low c.requires.kept c.requires.here
    c.args.entries.now c.requires.entries c.args.j (record { place = 0; index = 0 }) c.requires.there c.args.builder.now c.requires.before c.reloc_of-r.result c.reloc_of-r.ensures c.unwrap-reloc.result
    (ap (λ (xs : List ℕ). reloc_by c.args.frame.now xs c.reloc_of-r.result) (sym (c.contents_of.ensures ∙ ap (contents_of c.args.frame.now) c.header-s.ensures)) ∙ sym c.reloc_for.ensures ∙ c.unwrap-reloc.ensures)).ok ok)) (ready c.args.frame.now c.args.keep.now c.is_frame.ensures (stages_clean c.args.frame.now c.args.keep.now c.requires.clean) c.requires.started c.args.place.now.number c.args.place.now.position c.requires.low c.requires.kept c.requires.here
    c.args.entries.now c.requires.entries c.args.j (record { place = 0; index = 0 }) c.requires.there c.args.builder.now c.requires.before c.reloc_of-r.result c.reloc_of-r.ensures c.unwrap-reloc.result
    (ap (λ (xs : List ℕ). reloc_by c.args.frame.now xs c.reloc_of-r.result) (sym (c.contents_of.ensures ∙ ap (contents_of c.args.frame.now) c.header-s.ensures)) ∙ sym c.reloc_for.ensures ∙ c.unwrap-reloc.ensures)).added) c.add_clean_reloc.ensures.added
