-- Fields of an entry's contents, read one after another (TIS OMF 1.1, "Record Format", "Indexed References").
use Rattle.std.specs.Prelude.{ℕ, zero, suc, ◌+◌, nat_lt, nat_le, if◌then◌else◌, List, [], ◌∷◌, length, slice_range, Result, Ok, Err}
use Rattle.oc_base.specs.Numbers.{number_at}
use Rattle.oc_omf_records.specs.Indexes.{index_at}
use Rattle.oc_omf.specs.declared.cut.Cut.{Cut}
use Rattle.oc_omf.specs.declared.cut.Cut.TheVariants as cut

-- what is read and the place after it, or the field that the end cuts
abbrev pub Reading : Type 0 → Type 0
Reading X = Result (X × ℕ) Cut

-- what is read next, by what was read and from the place after it
abbrev pub next : {X Y : Type 0} → Reading X → (X → ℕ → Reading Y) → Reading Y
next (Ok r) read = read r.0 r.1
next (Err c) read = Err c

-- a number of k bytes
unfoldable pub number_read : ℕ → List ℕ → ℕ → Reading ℕ
number_read k b at = if nat_le (at + k) (length b) then Ok (number_at b at k, at + k) else Err cut.Field

-- an index of one or two bytes
unfoldable pub index_read : List ℕ → ℕ → Reading ℕ
index_read b at = if nat_le (index_at b at).1 (length b) then Ok (index_at b at) else Err cut.Index

-- the place after a name: a length byte and so many bytes
abbrev pub name_end : List ℕ → ℕ → ℕ
name_end b at = at + 1 + number_at b at 1

-- a name
unfoldable pub name_read : List ℕ → ℕ → Reading (List ℕ)
name_read b at = if nat_le (name_end b at) (length b) then Ok (slice_range b (at + 1) (name_end b at), name_end b at) else Err cut.Name

-- a structure with its place, or the field of it that is cut
pub record Read (X : Type 0) : Type 0 where
  pub at : ℕ
  pub part : Result X Cut

-- a structure at a place, and those that are read from the place after it
abbrev pub and_more : {X : Type 0} → ℕ → Reading X → (ℕ → List (Read X)) → List (Read X)
and_more at (Ok r) rest = record { at = at; part = Ok r.0 } ∷ rest r.1
and_more at (Err c) rest = record { at = at; part = Err c } ∷ []

-- at most n structures from a place to the end of the contents; one that is cut is the last
abbrev pub each_upto : {X : Type 0} → ℕ → (List ℕ → ℕ → Reading X) → List ℕ → ℕ → List (Read X)
each_upto zero read b at = []
each_upto (suc n) read b at = if nat_lt at (length b) then and_more at (read b at) (each_upto n read b) else []

-- the structures from a place to the end of the contents, each of at least one byte
unfoldable pub each_read : {X : Type 0} → (List ℕ → ℕ → Reading X) → List ℕ → ℕ → List (Read X)
each_read read b at = each_upto (length b) read b at
