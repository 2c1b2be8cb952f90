-- Each part by its number.
use Rattle.std.proofs.Common.{◌≡◌, ℕ, ◌-◌, ◌/◌, ◌<◌, ◌≤◌, ◌^◌, List, [], length, map, get_or, rules, sym, ◌∙◌, ap, subst, arith, Vec, Global}
use Rattle.oc_neutral.specs.declared.section.Section.{Section}
use Rattle.oc_outside.specs.Windows.{IsFilled}
use Rattle.oc_shelf.specs.Writing.Parts.{table_of}
use Rattle.oc_coff.specs.{SectionHeader.{section_header_bytes}, declared.section_header.SectionHeader.{SectionHeader}}
use Rattle.oc_coff.specs.declared.relocation.Relocation.{Relocation}
use Rattle.oc_coff_write.specs.{declared.entries.Entry.{Entry}, Entries.{entry_bytes}, Plans.{relocation_rows}}
use Rattle.oc_coff_write.proofs.PlanLemmas.{entries_are, length-strings, raw_is, relocs_are, section_low, strings_are}
use Rattle.oc_coff_write.proofs.plan.CoffPartsParts.part_window.Goals as goal

-- where part k is these bytes, it is filled from them, and 32 bits are enough for them
abbrev filled : (part xs : List ℕ) → part ≡ xs → (from : ℕ) (old new : List ℕ) (n : ℕ) → IsFilled xs from old new n → IsFilled part from old new n
filled part xs e from old new n = subst (λ (ys : List ℕ). IsFilled ys from old new n) (sym e)

abbrev small : (part xs : List ℕ) → part ≡ xs → length part < 2 ^ 32 → length xs < 2 ^ 32
small part xs e = subst (λ (ys : List ℕ). length ys < 2 ^ 32) e

pub headers_window-requires-clause-small : goal.headers_window-requires-clause-small
headers_window-requires-clause-small c =
    subst (λ (hs : List SectionHeader). length (table_of (map section_header_bytes hs)) < 2 ^ 32) (sym c.deref.ensures.value) (c.requires.sound.small 1)

pub entries_window-requires-clause-small : goal.entries_window-requires-clause-small
entries_window-requires-clause-small c =
    let p = c.args.self.now in
    let long : c.len.result ≡ length p.sections.items = search rules in
    let some : 2 ≤ c.args.k = omega (arith, c.if-k-eq0.false, c.if-k-eq1.false) in
    subst (λ (es : List Entry). length (table_of (map (entry_bytes p.shape) es)) < 2 ^ 32) (sym c.deref-then-part-eq0.ensures.value)
    (small _ _ (entries_are p c.args.k some (c.if-section-len.true ∙ long) c.if-part-eq0.true) (c.requires.sound.small c.args.k))

pub returns-then-part-eq0 : goal.returns-then-part-eq0
returns-then-part-eq0 c =
    let p = c.args.self.now in
    let long : c.len.result ≡ length p.sections.items = search rules in
    let some : 2 ≤ c.args.k = omega (arith, c.if-k-eq0.false, c.if-k-eq1.false) in
    filled _ _ (entries_are p c.args.k some (c.if-section-len.true ∙ long) c.if-part-eq0.true) c.args.from c.args.out.now c.entries_window.new.out c.entries_window.result
    (subst (λ (es : List Entry). IsFilled (table_of (map (entry_bytes p.shape) es)) c.args.from c.args.out.now c.entries_window.new.out c.entries_window.result) c.deref-then-part-eq0.ensures.value c.entries_window.ensures)

pub strings_window-requires : goal.strings_window-requires
strings_window-requires c =
    let p = c.args.self.now in
    let long : c.len.result ≡ length p.sections.items = search rules in
    let some : 2 ≤ c.args.k = omega (arith, c.if-k-eq0.false, c.if-k-eq1.false) in
    let low = small _ _ (strings_are p c.args.k some (c.if-section-len.true ∙ long) c.if-part-eq0.false) (c.requires.sound.small c.args.k) in
    omega (arith, low, length-strings p.names)

pub returns-then-section-len : goal.returns-then-section-len
returns-then-section-len c =
    let p = c.args.self.now in
    let long : c.len.result ≡ length p.sections.items = search rules in
    let some : 2 ≤ c.args.k = omega (arith, c.if-k-eq0.false, c.if-k-eq1.false) in
    filled _ _ (strings_are p c.args.k some (c.if-section-len.true ∙ long) c.if-part-eq0.false) c.args.from c.args.out.now c.strings_window.new.out c.strings_window.result c.strings_window.ensures

pub raw_window-requires : goal.raw_window-requires
raw_window-requires c =
    let long : c.len.result ≡ length c.args.self.now.sections.items = search rules in
    let some : 2 ≤ c.args.k = omega (arith, c.if-k-eq0.false, c.if-k-eq1.false) in
    let low = section_low c.args.self.now c.args.k some c.requires.there (λ e. c.if-section-len.false (e ∙ sym long)) in
    let same = ap length c.deref-then-part-eq0-2.ensures.value in
    omega (arith, low, same)

pub returns-then-part-eq0-2 : goal.returns-then-part-eq0-2
returns-then-part-eq0-2 c =
    let p = c.args.self.now in
    let long : c.len.result ≡ length p.sections.items = search rules in
    let some : 2 ≤ c.args.k = omega (arith, c.if-k-eq0.false, c.if-k-eq1.false) in
    let low = section_low p c.args.k some c.requires.there (λ e. c.if-section-len.false (e ∙ sym long)) in
    filled _ _ (raw_is p c.args.k some low c.if-part-eq0-2.true) c.args.from c.args.out.now c.raw_window.new.out c.raw_window.result
    (subst (λ (ss : List Section). IsFilled (get_or (map (λ (s : Section). s.bytes) ss) ((c.args.k - 2) / 2) []) c.args.from c.args.out.now c.raw_window.new.out c.raw_window.result) c.deref-then-part-eq0-2.ensures.value c.raw_window.ensures)

pub table_window-requires-clause-there : goal.table_window-requires-clause-there
table_window-requires-clause-there c =
    let long : c.len.result ≡ length c.args.self.now.sections.items = search rules in
    let some : 2 ≤ c.args.k = omega (arith, c.if-k-eq0.false, c.if-k-eq1.false) in
    let low = section_low c.args.self.now c.args.k some c.requires.there (λ e. c.if-section-len.false (e ∙ sym long)) in
    let same = ap length c.deref-2.ensures.value in
    let paired = c.requires.sound.paired in
    omega (arith, low, same, paired)

pub table_window-requires-clause-small : goal.table_window-requires-clause-small
table_window-requires-clause-small c =
    let p = c.args.self.now in
    let long : c.len.result ≡ length p.sections.items = search rules in
    let some : 2 ≤ c.args.k = omega (arith, c.if-k-eq0.false, c.if-k-eq1.false) in
    let low = section_low p c.args.k some c.requires.there (λ e. c.if-section-len.false (e ∙ sym long)) in
    subst (λ (vs : List (Vec Relocation Global)). length (table_of (relocation_rows (get_or (map (λ (v : Vec Relocation Global). v.items) vs) ((c.args.k - 2) / 2) []))) < 2 ^ 32) (sym c.deref-2.ensures.value)
    (small _ _ (relocs_are p c.args.k some low c.if-part-eq0-2.false c.requires.sound.paired) (c.requires.sound.small c.args.k))

pub returns : goal.returns
returns c =
    let p = c.args.self.now in
    let long : c.len.result ≡ length p.sections.items = search rules in
    let some : 2 ≤ c.args.k = omega (arith, c.if-k-eq0.false, c.if-k-eq1.false) in
    let low = section_low p c.args.k some c.requires.there (λ e. c.if-section-len.false (e ∙ sym long)) in
    filled _ _ (relocs_are p c.args.k some low c.if-part-eq0-2.false c.requires.sound.paired) c.args.from c.args.out.now c.table_window.new.out c.table_window.result
    (subst (λ (vs : List (Vec Relocation Global)). IsFilled (table_of (relocation_rows (get_or (map (λ (v : Vec Relocation Global). v.items) vs) ((c.args.k - 2) / 2) []))) c.args.from c.args.out.now c.table_window.new.out c.table_window.result)
    c.deref-2.ensures.value c.table_window.ensures)
