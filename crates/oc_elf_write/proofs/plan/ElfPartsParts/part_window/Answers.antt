-- Each part by its number.
use Rattle.std.proofs.Common.{◌≡◌, ◌≤◌, ◌<◌, ◌^◌, ◌-◌, ℕ, List, [], length, map, get_or, rules, sym, ◌∙◌, ap, subst, arith}
use Rattle.oc_outside.specs.Windows.{IsFilled}
use Rattle.oc_neutral.specs.declared.section.Section.{Section}
use Rattle.oc_shelf.specs.Writing.Parts.{table_of}
use Rattle.oc_elf.specs.{declared.shdr.Shdr.{Shdr}, Structures.{ehdr_bytes, shdr_bytes}, Classes.{word_of}}
use Rattle.oc_elf_write.specs.{declared.heads.Head.{Head}, Bodies.{body_by, HasBody}, Plans.{parts_by}}
use Rattle.oc_elf_write.proofs.PlanLemmas.{body_here, body_there, table_here}
use Rattle.oc_elf_write.proofs.plan.ElfPartsParts.part_window.Goals as goal

pub returns-then-k-eq0 : goal.returns-then-k-eq0
returns-then-k-eq0 c =
    let p = c.args.self.now in
    subst (λ (xs : List ℕ). IsFilled xs c.args.from c.args.out.now c.copy_window.new.out c.copy_window.result)
    (c.as_slice.ensures ∙ c.pack_ehdr.ensures ∙ ap (λ w. ehdr_bytes w p.ehdr) c.word-word.ensures ∙ sym (ap (λ k. get_or (parts_by p) k []) c.if-k-eq0.true)) c.copy_window.ensures

pub rows_window-requires : goal.rows_window-requires
rows_window-requires c =
    let p = c.args.self.now in
    let long : c.len.result ≡ length p.heads.items = search rules in
    let past : length p.heads.items < c.args.k = omega (arith, long, c.if-k-len.true) in
    rw c.word-word.ensures (subst (λ (hs : List Shdr). length (table_of (map (shdr_bytes (word_of p.class)) hs)) < 2 ^ 64) (sym c.deref.ensures.value)
    (subst (λ (xs : List ℕ). length xs < 2 ^ 64) (table_here p c.args.k c.requires.there past) (c.requires.sound.small c.args.k)))

pub returns-then-k-len : goal.returns-then-k-len
returns-then-k-len c =
    let p = c.args.self.now in
    let long : c.len.result ≡ length p.heads.items = search rules in
    let past : length p.heads.items < c.args.k = omega (arith, long, c.if-k-len.true) in
    subst (λ (xs : List ℕ). IsFilled xs c.args.from c.args.out.now c.rows_window.new.out c.rows_window.result) (sym (table_here p c.args.k c.requires.there past))
    (subst (λ (hs : List Shdr). IsFilled (table_of (map (shdr_bytes (word_of p.class)) hs)) c.args.from c.args.out.now c.rows_window.new.out c.rows_window.result) c.deref.ensures.value (rw c.word-word.ensures at c.rows_window.ensures))

pub body_window-requires-clause-there : goal.body_window-requires-clause-there
body_window-requires-clause-there c =
    let p = c.args.self.now in
    let long : c.len.result ≡ length p.heads.items = search rules in
    let within : c.args.k ≤ length p.heads.items = omega (arith, long, c.if-k-len.false) in
    let is : c.index-head.result.now ≡ get_or p.heads.items (c.args.k - 1) c.index-head.result.now = c.index-head.ensures in
    subst (λ (h : Head). HasBody c.deref-2.result.now p.bodies h) (sym is) (subst (λ (ss : List Section). HasBody ss p.bodies (get_or p.heads.items (c.args.k - 1) c.index-head.result.now)) (sym c.deref-2.ensures.value)
    (body_there p c.args.k c.requires.there c.if-k-eq0.false within c.index-head.result.now c.requires.sound))

pub body_window-requires-clause-small : goal.body_window-requires-clause-small
body_window-requires-clause-small c =
    let p = c.args.self.now in
    let long : c.len.result ≡ length p.heads.items = search rules in
    let within : c.args.k ≤ length p.heads.items = omega (arith, long, c.if-k-len.false) in
    let is : c.index-head.result.now ≡ get_or p.heads.items (c.args.k - 1) c.index-head.result.now = c.index-head.ensures in
    subst (λ (h : Head). length (body_by p.class c.deref-2.result.now p.bodies h) < 2 ^ 64) (sym is) (subst (λ (ss : List Section). length (body_by p.class ss p.bodies (get_or p.heads.items (c.args.k - 1) c.index-head.result.now)) < 2 ^ 64) (sym c.deref-2.ensures.value)
    (subst (λ (xs : List ℕ). length xs < 2 ^ 64) (body_here p c.args.k c.requires.there c.if-k-eq0.false within c.index-head.result.now) (c.requires.sound.small c.args.k)))

pub returns : goal.returns
returns c =
    let p = c.args.self.now in
    let long : c.len.result ≡ length p.heads.items = search rules in
    let within : c.args.k ≤ length p.heads.items = omega (arith, long, c.if-k-len.false) in
    let is : c.index-head.result.now ≡ get_or p.heads.items (c.args.k - 1) c.index-head.result.now = c.index-head.ensures in
    subst (λ (xs : List ℕ). IsFilled xs c.args.from c.args.out.now c.body_window.new.out c.body_window.result) (sym (body_here p c.args.k c.requires.there c.if-k-eq0.false within c.index-head.result.now))
    (subst (λ (h : Head). IsFilled (body_by p.class p.sections.items p.bodies h) c.args.from c.args.out.now c.body_window.new.out c.body_window.result) is
    (subst (λ (ss : List Section). IsFilled (body_by p.class ss p.bodies c.index-head.result.now) c.args.from c.args.out.now c.body_window.new.out c.body_window.result) c.deref-2.ensures.value c.body_window.ensures))
