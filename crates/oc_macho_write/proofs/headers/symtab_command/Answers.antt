-- Field by field.
use Rattle.std.proofs.Common.{◌≡◌, ℕ, ◌^◌, ◌<◌, List, length, rules, sym, ◌∙◌, ap, subst, arith}
use Rattle.std.proofs.lemmas.List.{length-map}
use Rattle.oc_strings.specs.Tables.{StringTable}
use Rattle.oc_shelf.specs.Writing.Parts.{aligned}
use Rattle.oc_macho.specs.MachHeader.{address_size}
use Rattle.oc_macho_file.specs.{Layout.{strings_of}, Lines.{lines_of}, Symbols.{line_entry}}
use Rattle.oc_macho_file.proofs.{CodedLaws.{for_mach}, CountLaws.{few_lines}}
use Rattle.oc_macho_write.proofs.HeaderLemmas.{strings_low, symbols_low, symtab_is, table_long, table_low, text_low}
use Rattle.oc_macho_write.proofs.headers.symtab_command.Goals as goal

pub overflow_cast-result : goal.overflow_cast-result
overflow_cast-result c =
    let low = symbols_low c.args.output.now.word c.args.output.now.neutral.now (for_mach c.args.output.now.word c.args.output.now.neutral.now c.requires.fitted) in
    omega (arith, low, c.requires.places.symbols)

pub overflow_cast-result-2 : goal.overflow_cast-result-2
overflow_cast-result-2 c =
    let w = c.args.output.now.word in
    let n = c.args.output.now.neutral.now in
    let long : c.len.result ≡ length c.args.output.now.bodies.now.nlists.items = search rules in
    let all = ap length c.requires.bodies.nlists in
    let many = length-map (lines_of w n) (line_entry w n) in
    let few = few_lines w n (for_mach w n c.requires.fitted) in
    omega (arith, long, all, many, few)

pub overflow_cast-result-3 : goal.overflow_cast-result-3
overflow_cast-result-3 c =
    let low = strings_low c.args.output.now.word c.args.output.now.neutral.now (for_mach c.args.output.now.word c.args.output.now.neutral.now c.requires.fitted) in
    omega (arith, low, c.requires.places.strings)

pub strings_size-requires : goal.strings_size-requires
strings_size-requires c =
    let w = c.args.output.now.word in
    let n = c.args.output.now.neutral.now in
    let low = text_low w n (for_mach w n c.requires.fitted) in
    subst (λ (names : List (List ℕ)). length (strings_of names) < 2 ^ 63) (sym (ap (λ (t : StringTable). t.names) c.requires.bodies.strings)) (omega (arith, low))

pub overflow_cast-result-4 : goal.overflow_cast-result-4
overflow_cast-result-4 c =
    let w = c.args.output.now.word in
    let n = c.args.output.now.neutral.now in
    let size = c.strings_size.ensures ∙ ap (λ (t : StringTable). aligned (address_size w) (length (strings_of t.names))) c.requires.bodies.strings in
    let long = table_long w n (for_mach w n c.requires.fitted) in
    let low = table_low w n (for_mach w n c.requires.fitted) in
    omega (arith, size, long, low)

pub returns : goal.returns
returns c =
    let w = c.args.output.now.word in
    let n = c.args.output.now.neutral.now in
    let long : c.len.result ≡ length c.args.output.now.bodies.now.nlists.items = search rules in
    symtab_is w n c.args.output.now.places.now.symbols c.len.result c.args.output.now.places.now.strings c.strings_size.result c.requires.places.symbols
    (long ∙ ap length c.requires.bodies.nlists ∙ length-map (lines_of w n) (line_entry w n)) c.requires.places.strings
    (c.strings_size.ensures ∙ ap (λ (t : StringTable). aligned (address_size w) (length (strings_of t.names))) c.requires.bodies.strings ∙ sym (table_long w n (for_mach w n c.requires.fitted)))
