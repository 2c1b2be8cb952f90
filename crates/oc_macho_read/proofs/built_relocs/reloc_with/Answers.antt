-- A field's number is that of its bytes.
use Rattle.std.proofs.Common.{◌≡◌, ℕ, ℤ, List, length, ◌∙◌, ap, arith, rules, w64, to_z, of_z}
use Rattle.oc_base.specs.declared.format.Word.{Word}
use Rattle.oc_macho.specs.Entries.{target_entry}
use Rattle.oc_macho_read.specs.Given.{aim_for, reloc_meant}
use Rattle.oc_macho_read.proofs.MeantLemmas.{header_long, item_made_of}
use Rattle.oc_macho_read.proofs.built_relocs.reloc_with.Goals as goal

pub number_in-requires : goal.number_in-requires
number_in-requires c =
    let long = header_long c.args.frame.now c.requires.read c.args.i c.args.h.now c.requires.table c.requires.stored in
    let raw = ap (λ (xs : List ℕ). length xs) c.raw.ensures in
    omega (arith, long, raw, c.requires.inside)

pub returns : goal.returns
returns c =
    let narrow : to_z w64 (of_z w64 c.number_in.result) ≡ c.number_in.result = search rules in
    c.reloc_as.ensures
    ∙ ap (λ (n : ℤ). reloc_meant c.word-word.result c.args.h.now.addr c.args.item.now.first.r_address n c.args.meaning.now c.aim_of-target.result c.taken_aim-taken.result) narrow
    ∙ item_made_of c.args.frame.now c.args.known.now.keep c.args.i c.args.h.now c.args.item.now c.args.meaning.now c.word-word.result c.number_in.result c.raw.result.now c.aim_of-target.result c.taken_aim-taken.result c.requires.table c.requires.stored
    c.word-word.ensures c.raw.ensures c.number_in.ensures
    (c.aim_of-target.ensures ∙ ap (aim_for c.args.frame.now c.args.known.now.keep) (c.target.ensures ∙ ap (λ (w : Word). (target_entry w c.args.item.now).refers) c.word-word.ensures)) c.taken_aim-taken.ensures
