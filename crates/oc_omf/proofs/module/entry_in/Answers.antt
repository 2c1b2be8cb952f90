use Rattle.std.proofs.Common.{◌≡◌, ◌+◌, ◌-◌, refl, arith}
use Rattle.oc_omf_records.specs.NextEntry.{end_of_entry}
use Rattle.oc_omf.proofs.module.entry_in.Goals as goal

pub returns : goal.returns
returns c =
    let e : c.args.at + 2 + c.from-length.result ≡ end_of_entry c.args.file.now c.args.at - 1 = omega (arith, c.from-length.ensures, c.u16_in.ensures) in
    rw (c.new.ensures, c.u8_in.ensures, e) refl
