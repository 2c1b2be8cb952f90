-- An entry that says something is judged by its own conditions, and then by the fields before.
use Rattle.oc_coff.specs.{Files.{CoffFile}, declared.relocation.Relocation.{Relocation}, Fields.{says_nothing}}
use Rattle.std.proofs.Common.{◌≡◌, ℕ, ◌+◌, ◌<◌, ◌∙◌, Bool, false, cond, None, Option, Some, refl, sym, ap, subst, arith}
use Rattle.std.specs.Option.{option_map_or}
use Rattle.oc_base.specs.{declared.code.Code.TheVariants.{Overlap}, declared.fault.Fault.{Fault}, declared.format.Word.{Word}}
use Rattle.oc_linking.specs.Numbers.{or_else}
use Rattle.oc_shelf.specs.{Reading.Firsts.{any_upto}, Reading.Spans.{meets}}
use Rattle.oc_shelf.proofs.ReadingLaws.BitmapLemmas.{met_in_upto}
use Rattle.oc_coff_judge.specs.{declared.relocs.RelocTable.{RelocTable}, Relocs.{bytes_for, meets_upto, reloc_fault, span_of, width_of}}
use Rattle.oc_coff_judge.proofs.{AimLemmas.{aim_anywhere}, JudgedRelocs.{busy_told, idle_entry, idle_span}}
use Rattle.oc_coff_judge.proofs.TakenBytes.{HasRow, field_in_room, has_row, span_is, taken_more, taken_same, wide_field}
use Rattle.oc_coff_judge.proofs.relocs.judge_entry.Goals as goal

pub returns-then-says_nothing-clause-clean : goal.returns-then-says_nothing-clause-clean
returns-then-says_nothing-clause-clean c =
    idle_entry c.args.aims.now.word c.args.coff.now c.args.i c.args.table.now c.requires.table c.args.k c.requires.there (ap says_nothing (sym c.reloc_of-r.ensures) ∙ sym c.says_nothing.ensures ∙ c.if-says_nothing.true)

pub returns-then-says_nothing-clause-taken : goal.returns-then-says_nothing-clause-taken
returns-then-says_nothing-clause-taken c =
    taken_same c.args.aims.now.word c.args.coff.now c.args.table.now c.args.k c.args.bytes.now c.requires.taken
    (idle_span c.args.aims.now.word c.args.coff.now c.args.i c.args.table.now c.requires.table c.args.k c.requires.there (ap says_nothing (sym c.reloc_of-r.ensures) ∙ sym c.says_nothing.ensures ∙ c.if-says_nothing.true))

pub returns-in-Some-clause-stop : goal.returns-in-Some-clause-stop
returns-in-Some-clause-stop c =
    let w = c.args.aims.now.word in
    let r = c.reloc_of-r.result in
    busy_told w c.args.coff.now c.args.i c.args.table.now c.requires.table c.args.k c.requires.there r c.reloc_place-place.result _ c.own_fault.result (meets_upto w c.args.coff.now c.args.table.now c.args.k r)
    c.reloc_of-r.ensures (sym c.says_nothing.ensures ∙ c.if-says_nothing.false) c.reloc_place-place.ensures
    (aim_anywhere c.args.coff.now c.is_headed.ensures w c.args.aims.now.symbols.now r.SymbolTableIndex c.requires.aims) c.own_fault.ensures refl
    ∙ ap (λ (o : Option Fault). or_else o (cond (meets_upto w c.args.coff.now c.args.table.now c.args.k r) (Some (reloc_fault Overlap c.args.i c.reloc_place-place.result)) None)) c.in-Some.is

pub take-requires : goal.take-requires
take-requires c =
    let w = c.args.aims.now.word in
    let inside = field_in_room w c.args.coff.now c.args.i c.reloc_place-place.result c.args.k c.args.table.now c.args.bytes.now c.reloc_of-r.result _ c.requires.taken (sym c.own_fault.ensures ∙ c.in-None.is) in
    let width : c.from.result ≡ width_of w c.reloc_of-r.result = c.from.ensures ∙ c.width_of.ensures.width in
    omega (arith, inside, width, c.from-begin.ensures)

-- whether a field is met is whether it meets one of the entries before
met : (w : Word) (file : CoffFile) (table : RelocTable) (k begin width : ℕ) (r : Relocation) (b : Bool) → begin ≡ r.VirtualAddress → width ≡ width_of w r
    → b ≡ any_upto (λ j. option_map_or (meets (begin, begin + width)) (span_of w file table j) false) k → b ≡ meets_upto w file table k r
met w file table k begin width r b begins wide e =
    e ∙ ap (λ (n : ℕ). any_upto (λ j. option_map_or (meets (n, n + width)) (span_of w file table j) false) k) begins
    ∙ ap (λ (n : ℕ). any_upto (λ j. option_map_or (meets (r.VirtualAddress, r.VirtualAddress + n)) (span_of w file table j) false) k) wide

pub returns-then-is_met-clause-stop : goal.returns-then-is_met-clause-stop
returns-then-is_met-clause-stop c =
    let w = c.args.aims.now.word in
    let file = c.args.coff.now in
    let table = c.args.table.now in
    let r = c.reloc_of-r.result in
    let has : HasRow w r = has_row w c.args.i table c.reloc_place-place.result r _ (sym c.own_fault.ensures ∙ c.in-None.is) in
    let width : c.from.result ≡ width_of w r = c.from.ensures ∙ c.width_of.ensures.width in
    let some = wide_field w r has in
    let wide : c.from-begin.result < c.from-begin.result + c.from.result = omega (arith, some, width) in
    let upto : c.is_met.result ≡ meets_upto w file table c.args.k r
    = met w file table c.args.k c.from-begin.result c.from.result r c.is_met.result c.from-begin.ensures (c.from.ensures ∙ c.width_of.ensures.width)
    (met_in_upto (span_of w file table) c.args.k c.from-begin.result (c.from-begin.result + c.from.result) c.args.bytes.now c.is_met.result c.requires.taken.fields wide c.is_met.ensures.met c.is_met.ensures.free) in
    busy_told w file c.args.i table c.requires.table c.args.k c.requires.there r c.reloc_place-place.result _ c.own_fault.result c.is_met.result
    c.reloc_of-r.ensures (sym c.says_nothing.ensures ∙ c.if-says_nothing.false) c.reloc_place-place.ensures
    (aim_anywhere file c.is_headed.ensures w c.args.aims.now.symbols.now r.SymbolTableIndex c.requires.aims) c.own_fault.ensures upto
    ∙ ap (λ (o : Option Fault). or_else o (cond c.is_met.result (Some (reloc_fault Overlap c.args.i c.reloc_place-place.result)) None)) c.in-None.is
    ∙ ap (λ b. cond b (Some (reloc_fault Overlap c.args.i c.reloc_place-place.result)) None) c.if-is_met.true
    ∙ ap (λ (f : Fault). Some f) (sym c.reloc_fault.ensures)

pub returns-clause-clean : goal.returns-clause-clean
returns-clause-clean c =
    let w = c.args.aims.now.word in
    let file = c.args.coff.now in
    let table = c.args.table.now in
    let r = c.reloc_of-r.result in
    let has : HasRow w r = has_row w c.args.i table c.reloc_place-place.result r _ (sym c.own_fault.ensures ∙ c.in-None.is) in
    let width : c.from.result ≡ width_of w r = c.from.ensures ∙ c.width_of.ensures.width in
    let some = wide_field w r has in
    let wide : c.from-begin.result < c.from-begin.result + c.from.result = omega (arith, some, width) in
    let upto : c.is_met.result ≡ meets_upto w file table c.args.k r
    = met w file table c.args.k c.from-begin.result c.from.result r c.is_met.result c.from-begin.ensures (c.from.ensures ∙ c.width_of.ensures.width)
    (met_in_upto (span_of w file table) c.args.k c.from-begin.result (c.from-begin.result + c.from.result) c.args.bytes.now c.is_met.result c.requires.taken.fields wide c.is_met.ensures.met c.is_met.ensures.free) in
    busy_told w file c.args.i table c.requires.table c.args.k c.requires.there r c.reloc_place-place.result _ c.own_fault.result c.is_met.result
    c.reloc_of-r.ensures (sym c.says_nothing.ensures ∙ c.if-says_nothing.false) c.reloc_place-place.ensures
    (aim_anywhere file c.is_headed.ensures w c.args.aims.now.symbols.now r.SymbolTableIndex c.requires.aims) c.own_fault.ensures upto
    ∙ ap (λ (o : Option Fault). or_else o (cond c.is_met.result (Some (reloc_fault Overlap c.args.i c.reloc_place-place.result)) None)) c.in-None.is
    ∙ ap (λ b. cond b (Some (reloc_fault Overlap c.args.i c.reloc_place-place.result)) None) c.if-is_met.false

pub returns-clause-taken : goal.returns-clause-taken
returns-clause-taken c =
    let w = c.args.aims.now.word in
    let file = c.args.coff.now in
    let table = c.args.table.now in
    let r = c.reloc_of-r.result in
    let has : HasRow w r = has_row w c.args.i table c.reloc_place-place.result r _ (sym c.own_fault.ensures ∙ c.in-None.is) in
    let width : c.from.result ≡ width_of w r = c.from.ensures ∙ c.width_of.ensures.width in
    let some = wide_field w r has in
    let wide : c.from-begin.result < c.from-begin.result + c.from.result = omega (arith, some, width) in
    taken_more w file table c.args.k c.from-begin.result (c.from-begin.result + c.from.result) c.args.bytes.now c.take.new.self c.requires.taken
    (span_is w file table c.args.k (subst (HasRow w) c.reloc_of-r.ensures has) ∙ ap (λ (q : Relocation). Some (bytes_for w q)) (sym c.reloc_of-r.ensures)
    ∙ ap (λ (n : ℕ). Some (n, n + width_of w r)) (sym c.from-begin.ensures) ∙ ap (λ (n : ℕ). Some (c.from-begin.result, c.from-begin.result + n)) (sym width))
    wide c.take.ensures.room c.take.ensures.taken
