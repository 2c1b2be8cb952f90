-- What is wrong with the members of a group, one after another.
use Rattle.std.proofs.Common.{◌≡◌, ℕ, Bool, true, false, ◌||◌, not, nat_eq, nat_lt, List, ◌∷◌, Ok, refl, ◌∙◌, ap}
use Rattle.std.proofs.Math.Bool.{or-false}
use Rattle.oc_omf.specs.{declared.constants.TheConstants.{SEGMENT_INDEX}, Cursor.{Read}}
use Rattle.oc_omf_judge.specs.{declared.groups.Members.{Members}, Members.{members_in}}
use Rattle.std.proofs.Math.Bool.{or_assoc}

-- what is wrong with one or another
abbrev pub both : Members → Members → Members
both x y = record { cut = x.cut || y.cut; marked_else = x.marked_else || y.marked_else; missing = x.missing || y.missing }

or_all : (a : Bool) → (a || true) ≡ true
or_all true = refl
or_all false = refl

-- one member more
pub member_more : (segments : ℕ) (m : Members) (mark segment at : ℕ) (left : List (Read (ℕ × ℕ)))
    → both (record { cut = m.cut; marked_else = m.marked_else || not (nat_eq mark SEGMENT_INDEX); missing = m.missing || (nat_eq segment 0 || nat_lt segments segment) }) (members_in segments left)
    ≡ both m (members_in segments (record { at = at; part = Ok (mark, segment) } ∷ left))
member_more segments m mark segment at left =
    let rest = members_in segments left in
    let marked = not (nat_eq mark SEGMENT_INDEX) in
    let gone = nat_eq segment 0 || nat_lt segments segment in
    ap (λ b. record { cut = m.cut || rest.cut; marked_else = b; missing = (m.missing || gone) || rest.missing }) (or_assoc m.marked_else marked rest.marked_else)
    ∙ ap (λ b. record { cut = m.cut || rest.cut; marked_else = m.marked_else || (marked || rest.marked_else); missing = b }) (or_assoc m.missing gone rest.missing)

-- the last one is cut
pub member_cut : (m : Members) → both m (record { cut = true; marked_else = false; missing = false }) ≡ record { cut = true; marked_else = m.marked_else; missing = m.missing }
member_cut m =
    ap (λ b. record { cut = b; marked_else = m.marked_else || false; missing = m.missing || false }) (or_all m.cut)
    ∙ ap (λ b. record { cut = true; marked_else = b; missing = m.missing || false }) (or-false m.marked_else)
    ∙ ap (λ b. record { cut = true; marked_else = m.marked_else; missing = b }) (or-false m.missing)

-- there is none
pub member_none : (m : Members) → both m (record { cut = false; marked_else = false; missing = false }) ≡ m
member_none m =
    ap (λ b. record { cut = b; marked_else = m.marked_else || false; missing = m.missing || false }) (or-false m.cut)
    ∙ ap (λ b. record { cut = m.cut; marked_else = b; missing = m.missing || false }) (or-false m.marked_else)
    ∙ ap (λ b. record { cut = m.cut; marked_else = m.marked_else; missing = b }) (or-false m.missing)
