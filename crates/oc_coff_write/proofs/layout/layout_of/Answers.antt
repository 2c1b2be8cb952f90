-- Each part has the size that the canonical file gives it, and ends within 32 bits.
use Rattle.std.proofs.Common.{◌+◌, ◌*◌, List, [], ◌∷◌, ◌++◌, length, sym, ◌∙◌, ap, subst, arith, ◌≡◌}
use Rattle.oc_coff.specs.Forms.{header_size, shape_of, symbol_size}
use Rattle.oc_coff_file.specs.{Lines.{entry_count}, Layout.{Part, FileHead, SectionHeads, SymbolTable, StringTable, part_size}}
use Rattle.oc_neutral.specs.Objects.{Object}
use Rattle.oc_coff_file.proofs.CodedLaws.{for_coff}
use Rattle.oc_shelf.specs.Writing.Parts.{behind}
use Rattle.oc_plans.proofs.PlacedLemmas.{none_laid}
use Rattle.oc_coff_write.specs.LaidParts.{AreLaid}
use Rattle.oc_coff_write.proofs.LaidLemmas.{front, heads_room, table_room, strings_room, text_is, whole}
use Rattle.oc_coff_write.proofs.layout.layout_of.Goals as goal

pub lay-requires-2 : goal.lay-requires-2
lay-requires-2 c =
    let n : Object = c.args.neutral.now in
    let is = for_coff c.args.form n c.requires.fitted in
    let first = c.in_ok-lay.ensures c.args.form n [] FileHead (none_laid behind (part_size c.args.form n) c.new-layout.result c.new-layout.ensures.places c.new-layout.ensures.end) (ap (λ z. header_size z) (sym c.shape_of.ensures) ∙ sym c.header_size.ensures) in
    let ends = first.ends in
    let room = heads_room c.args.form n is in
    let count = c.section_count.ensures in
    omega (arith, ends, room, count)

pub lay_sections-requires-clause-before : goal.lay_sections-requires-clause-before
lay_sections-requires-clause-before c =
    let n : Object = c.args.neutral.now in
    let first = c.in_ok-lay.ensures c.args.form n [] FileHead (none_laid behind (part_size c.args.form n) c.new-layout.result c.new-layout.ensures.places c.new-layout.ensures.end) (ap (λ z. header_size z) (sym c.shape_of.ensures) ∙ sym c.header_size.ensures) in
    c.in_ok-lay-2.ensures c.args.form n (FileHead ∷ []) SectionHeads first (ap (λ m. 40 * m) (sym c.section_count.ensures))

pub overflow_mul-symbol_size : goal.overflow_mul-symbol_size
overflow_mul-symbol_size c =
    let room = table_room c.args.form c.args.neutral.now (for_coff c.args.form c.args.neutral.now c.requires.fitted) in
    let size : c.symbol_size.result ≡ symbol_size (shape_of c.args.form) = c.symbol_size.ensures ∙ ap (λ z. symbol_size z) c.shape_of-2.ensures in
    let same : c.symbol_size.result * c.args.entries ≡ symbol_size (shape_of c.args.form) * entry_count c.args.form c.args.neutral.now
    = ap (λ m. m * c.args.entries) size ∙ ap (λ m. symbol_size (shape_of c.args.form) * m) c.requires.entries in
    omega (arith, room, same)

pub lay-requires-3 : goal.lay-requires-3
lay-requires-3 c =
    let room = table_room c.args.form c.args.neutral.now (for_coff c.args.form c.args.neutral.now c.requires.fitted) in
    let size : c.symbol_size.result ≡ symbol_size (shape_of c.args.form) = c.symbol_size.ensures ∙ ap (λ z. symbol_size z) c.shape_of-2.ensures in
    let same : c.symbol_size.result * c.args.entries ≡ symbol_size (shape_of c.args.form) * entry_count c.args.form c.args.neutral.now
    = ap (λ m. m * c.args.entries) size ∙ ap (λ m. symbol_size (shape_of c.args.form) * m) c.requires.entries in
    let ends = c.in_ok-lay_sections.ensures.ends in
    omega (arith, room, same, ends)

pub lay-requires-4 : goal.lay-requires-4
lay-requires-4 c =
    let n : Object = c.args.neutral.now in
    let room = strings_room c.args.form n (for_coff c.args.form n c.requires.fitted) in
    let laid = c.in_ok-lay-3.ensures c.args.form n (front n) SymbolTable c.in_ok-lay_sections.ensures (ap (λ m. symbol_size (shape_of c.args.form) * m) (sym c.requires.entries) ∙ ap (λ z. symbol_size z * c.args.entries) (sym c.shape_of-2.ensures) ∙ ap (λ m. m * c.args.entries) (sym c.symbol_size.ensures)) in
    let ends = laid.ends in
    let text = ap length (c.bytes.ensures ∙ text_is c.args.form n c.args.names.now c.requires.names) in
    omega (arith, room, ends, text)

pub returns : goal.returns
returns c =
    let n : Object = c.args.neutral.now in
    let laid = c.in_ok-lay-3.ensures c.args.form n (front n) SymbolTable c.in_ok-lay_sections.ensures (ap (λ m. symbol_size (shape_of c.args.form) * m) (sym c.requires.entries) ∙ ap (λ z. symbol_size z * c.args.entries) (sym c.shape_of-2.ensures) ∙ ap (λ m. m * c.args.entries) (sym c.symbol_size.ensures)) in
    let text = ap length (c.bytes.ensures ∙ text_is c.args.form n c.args.names.now c.requires.names) in
    subst (λ (ps : List Part). AreLaid c.args.form n c.lay-4.new.layout ps) (whole n)
    (c.in_ok-lay-4.ensures c.args.form n (front n ++ SymbolTable ∷ []) StringTable laid (ap (λ m. 4 + m) (sym text)))
