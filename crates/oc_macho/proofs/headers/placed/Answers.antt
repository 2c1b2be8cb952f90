-- What is held of the file is the file's.
use Rattle.std.proofs.Common.{ℕ, Option, sym, ◌∙◌, ap, arith}
use Rattle.std.specs.Option.{option_map_or}
use Rattle.oc_macho.specs.{SegmentCommand.{segment_command_at}, Tables.{headers_place}}
use Rattle.oc_macho.proofs.HeaderLemmas.{framed, segment_lies, strings_lie}
use Rattle.oc_macho.proofs.headers.placed.Goals as goal

pub headers_of-headers_at-requires : goal.headers_of-headers_at-requires
headers_of-headers_at-requires c at is =
    let lies = segment_lies c.args.word c.args.file.now at c.requires.commands (sym c.requires.found.segment ∙ is) in omega (arith, lies)

pub bytes_at-strings-requires : goal.bytes_at-strings-requires
bytes_at-strings-requires c = strings_lie c.args.word c.args.file.now c.args.c c.requires.symbols

pub invariant_of-result : goal.invariant_of-result
invariant_of-result c =
    framed c.args.word c.args.file.now c.headers_of-headers_at.result.0 c.headers_of-headers_at.result.1 c.args.c c.bytes_at-strings.result.now c.text_end.result c.requires.small c.requires.commands
    (c.headers_of-headers_at.ensures.place ∙ ap (λ (o : Option ℕ). option_map_or (headers_place c.args.word) o 0) c.requires.found.segment)
    (c.headers_of-headers_at.ensures.count ∙ ap (λ (o : Option ℕ). option_map_or (λ at. (segment_command_at c.args.word c.args.file.now at).nsects) o 0) c.requires.found.segment)
    c.requires.symtab c.requires.symbols c.bytes_at-strings.ensures c.text_end.ensures
