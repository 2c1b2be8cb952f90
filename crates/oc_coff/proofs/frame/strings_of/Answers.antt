-- The string table lies in the file.
use Rattle.std.proofs.Common.{sym, ◌∙◌}
use Rattle.oc_coff.proofs.HeadLemmas.{strings_lie}
use Rattle.oc_coff.proofs.frame.strings_of.Goals as goal

pub u32_in-size-requires : goal.u32_in-size-requires
u32_in-size-requires c =
    rw c.strings_place-place.ensures.place (strings_lie (record { shape = c.args.shape; bytes = c.args.file.now }) c.requires.head c.args.h.now c.requires.header (sym c.has_strings.ensures ∙ c.if-not-has_strings.false)).0

pub bytes_at-requires : goal.bytes_at-requires
bytes_at-requires c =
    rw (c.u32_in-size.ensures, c.strings_place-place.ensures.place)
    (strings_lie (record { shape = c.args.shape; bytes = c.args.file.now }) c.requires.head c.args.h.now c.requires.header (sym c.has_strings.ensures ∙ c.if-not-has_strings.false)).1
