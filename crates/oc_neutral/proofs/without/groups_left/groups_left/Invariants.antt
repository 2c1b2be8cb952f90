use Rattle.std.proofs.Common.{◌≡◌, ◌≤◌, drop, length}
use Rattle.std.specs.List.{AllByRecursion, filter_map}
use Rattle.oc_linking.specs.Keeping.{kept_of}
use Rattle.oc_neutral.specs.{declared.section.Section.{Section}, Invariants.{IsMember, groups_of}, Without.{begun_by, groups_left, ArePlaces}}
use Rattle.oc_neutral.proofs.without.groups_left.groups_left.Given as goal

-- the groups so far, and those of the sections that are left, are all
abbrev pub invariant-loop-at : goal.invariant-loop-at
invariant-loop-at l =
    record {
      all : begun_by l.left.groups.items (filter_map (λ (s : Section). s.group) (kept_of (drop l.at l.stay) (drop l.at l.sections))) ≡ groups_left (kept_of l.stay l.sections);
      places : ArePlaces l.left.groups.items l.left.places.items;
      counted : length l.left.places.items ≡ l.count;
      few : length l.left.groups.items ≤ l.at;
      members : AllByRecursion (IsMember l.count) (groups_of (drop l.at l.sections));
    }
