use Rattle.std.proofs.Common.{◌≡◌, ◌+◌, ◌-◌, ◌<◌, ◌≤◌, length, take, vec_len}
use Rattle.std.specs.{Prelude.{IsSomeAnd}, Option.{ForSome}}
use Rattle.oc_outside.specs.{Held.{file_of}, declared.reading.TheConstants.{BUFFER}}
use Rattle.oc_outside.proofs.reading.read_file.Given as goal

-- before the first read nobody knows whether the file is there
abbrev pub invariant-reads : goal.invariant-reads
invariant-reads g l = record {
  room : length l.buffer ≡ BUFFER;
  bounded : vec_len l.bytes ≤ l.limit + BUFFER;
  front :
      ForSome (g.F.Files.held l.initial.files) (λ m. 0 < length l.bytes.items →
      IsSomeAnd (file_of l.name m) (λ file. l.bytes.items ≡ take (length l.bytes.items) file));
  same : g.F.Files.held l.files ≡ g.F.Files.held l.initial.files;
  reads : g.F.Files.read_faults l.files ≡ g.F.Files.read_faults l.initial.files;
  writes : g.F.Files.write_faults l.files ≡ g.F.Files.write_faults l.initial.files;
}

abbrev pub decreases-reads : goal.decreases-reads
decreases-reads g l = l.limit + 1 - vec_len l.bytes
