use Rattle.std.proofs.Common.{◌≡◌, ◌≤◌, length, take, vec_len}
use Rattle.oc_target.specs.Dress.{dressed_at}
use Rattle.oc_target.proofs.Lately.{lately}
use Rattle.oc_target.proofs.dress.dress_sections.Given as goal

-- the names that are left are the first, and the sections behind are dressed
abbrev pub invariant-loop-name : goal.invariant-loop-name
invariant-loop-name l = record {
  names : l.names.items ≡ take (length l.names.items) l.initial.names.items;
  few : length l.names.items ≤ length l.initial.neutral.sections;
  object : l.neutral ≡ record {
    format = l.initial.neutral.format;
    groups = l.initial.neutral.groups;
    sections = lately (dressed_at l.target l.initial.neutral.format l.initial.names.items) 0 (length l.names.items) l.initial.neutral.sections;
    symbols = l.initial.neutral.symbols;
    relocs = l.initial.neutral.relocs;
  };
}

abbrev pub decreases-loop-name : goal.decreases-loop-name
decreases-loop-name l = vec_len l.names
