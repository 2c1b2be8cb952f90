-- Each part by its number.
use Rattle.std.proofs.Common.{◌≡◌, ◌<◌, ◌^◌, ℕ, List, length, get_or, sym, subst}
use Rattle.oc_outside.specs.Windows.{IsFilled}
use Rattle.oc_neutral.specs.declared.section.Section.{Section}
use Rattle.oc_macho_write.specs.{declared.parts.Part.{Part}, Bodies.{body_by, HasBody}}
use Rattle.oc_macho_write.proofs.PlanLemmas.{body_here, body_there}
use Rattle.oc_macho_write.proofs.plan.MachPartsParts.part_window.Goals as goal

pub body_window-requires-clause-there : goal.body_window-requires-clause-there
body_window-requires-clause-there c =
    let p = c.args.self.now in
    let is : c.index-part.result.now ≡ get_or p.parts.items c.args.k c.index-part.result.now = c.index-part.ensures in
    subst (λ (x : Part). HasBody c.deref.result.now p.bodies x) (sym is) (subst (λ (ss : List Section). HasBody ss p.bodies (get_or p.parts.items c.args.k c.index-part.result.now)) (sym c.deref.ensures.value)
    (body_there p c.args.k c.requires.there c.index-part.result.now c.requires.sound))

pub body_window-requires-clause-headed : goal.body_window-requires-clause-headed
body_window-requires-clause-headed c = c.requires.sound.headed

pub body_window-requires-clause-small : goal.body_window-requires-clause-small
body_window-requires-clause-small c =
    let p = c.args.self.now in
    let is : c.index-part.result.now ≡ get_or p.parts.items c.args.k c.index-part.result.now = c.index-part.ensures in
    subst (λ (x : Part). length (body_by p.word p.heads c.deref.result.now p.bodies x) < 2 ^ 63) (sym is)
    (subst (λ (ss : List Section). length (body_by p.word p.heads ss p.bodies (get_or p.parts.items c.args.k c.index-part.result.now)) < 2 ^ 63) (sym c.deref.ensures.value)
    (subst (λ (xs : List ℕ). length xs < 2 ^ 63) (body_here p c.args.k c.requires.there c.index-part.result.now) (c.requires.sound.small c.args.k)))

pub returns : goal.returns
returns c =
    let p = c.args.self.now in
    let is : c.index-part.result.now ≡ get_or p.parts.items c.args.k c.index-part.result.now = c.index-part.ensures in
    subst (λ (xs : List ℕ). IsFilled xs c.args.from c.args.out.now c.body_window.new.out c.body_window.result) (sym (body_here p c.args.k c.requires.there c.index-part.result.now))
    (subst (λ (x : Part). IsFilled (body_by p.word p.heads p.sections.items p.bodies x) c.args.from c.args.out.now c.body_window.new.out c.body_window.result) is
    (subst (λ (ss : List Section). IsFilled (body_by p.word p.heads ss p.bodies c.index-part.result.now) c.args.from c.args.out.now c.body_window.new.out c.body_window.result) c.deref.ensures.value c.body_window.ensures))
