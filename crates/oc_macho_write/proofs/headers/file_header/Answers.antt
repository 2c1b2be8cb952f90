-- Field by field.
use Rattle.oc_macho_write.proofs.HeaderLemmas.{file_header_is}
use Rattle.oc_macho_write.proofs.headers.file_header.Goals as goal

pub returns : goal.returns
returns c = λ n sections. file_header_is c.args.word n c.magic_of.result c.cpu_type.result c.commands_length.result c.magic_of.ensures c.cpu_type.ensures (c.commands_length.ensures.length n sections)
