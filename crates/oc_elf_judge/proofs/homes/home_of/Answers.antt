-- There is no position past the last section.
use Rattle.std.proofs.Common.{◌∙◌, cond, length, None, sym, ap}
use Rattle.std.proofs.lemmas.Bool.{lt-ltb}
use Rattle.oc_shelf.proofs.ReadingLaws.SlotLemmas.{slot_anywhere}
use Rattle.oc_elf.specs.{declared.constants.TheConstants.{SHN_LORESERVE}, CarriedSections.{position_of}}
use Rattle.oc_elf_judge.proofs.PlaceLemmas.{position_past}
use Rattle.oc_elf_judge.proofs.homes.home_of.Goals as goal

pub returns-then-s-lt-SHN_LORESERVE : goal.returns-then-s-lt-SHN_LORESERVE
returns-then-s-lt-SHN_LORESERVE c =
    c.get.ensures
    ∙ slot_anywhere (position_of c.args.frame.now) (length c.args.frame.now.headers) c.args.positions.now c.requires (position_past c.args.frame.now) c.args.s.now.st_shndx
    ∙ sym (ap (λ b. cond b (position_of c.args.frame.now c.args.s.now.st_shndx) None) (lt-ltb c.args.s.now.st_shndx SHN_LORESERVE c.if-s-lt-SHN_LORESERVE.true))
