-- What the entries of outputs define and mention, whatever their places are.
use Rattle.std.proofs.Common.{◌≡◌, ℕ, zero, suc, ◌+◌, false, List, [], ◌∷◌, ◌++◌, length, map, take, Option, Some, None, Ok, refl, ◌∙◌, ap, arith}
use Rattle.std.specs.{Prelude.{flat_map, slice_get, slice_range}, Option.{option_map_or}}
use Rattle.std.proofs.lemmas.Option.{none-some, same_Some}
use Rattle.oc_neutral.specs.{KeySymbols.{global_place}, Normal.{Place}, Objects.{Object}}
use Rattle.oc_omf_records.specs.Blocks.{none, content}
use Rattle.oc_omf.specs.declared.structures.Segment as read
use Rattle.oc_omf.specs.{Structures.{Group, Public, External, Piece}, Entries.{Entry, says_nothing, in_file, all_read}, Tables.{Tables, tables_of}}
use Rattle.oc_omf.specs.{Symbols.{Mention, entry_mentions}, Bytes.{name_bytes}}
use Rattle.oc_omf_file.specs.{Outputs.{Output}, Fixups.{raw_of}, Canonical.{segment_of, size_by, output_bytes}}
use Rattle.oc_omf_file.specs.Outputs as output
use Rattle.oc_omf_file.proofs.{CursorLaws.{placed}, SaidLaws.{near_communal}, MadeLaw.{made_public, made, made_from}}

-- structures that are read, without their places
all_read-placed : {X Y : Type 0} (bytes : X → List ℕ) (value : X → Y) (place at : ℕ) (xs : List X) → all_read (in_file place (placed bytes value at xs)) ≡ map value xs
all_read-placed bytes value place at [] = refl
all_read-placed bytes value place at (x ∷ xs) = ap (λ ys. value x ∷ ys) (all_read-placed bytes value place (at + length (bytes x)) xs)

-- what the entries of outputs give, where it does not depend on their places
flat_made : {X : Type 0} (n : Object) (f : Entry → List X) (g : Output → List X) → ((at : ℕ) (o : Output) → f (made n at o) ≡ g o)
    → (at : ℕ) (os : List Output) → flat_map f (made_from n at os) ≡ flat_map g os
flat_made n f g same at [] = refl
flat_made n f g same at (o ∷ os) =
    ap (λ xs. xs ++ flat_map f (made_from n (at + length (output_bytes n o)) os)) (same at o) ∙ ap (λ xs. g o ++ xs) (flat_made n f g same (at + length (output_bytes n o)) os)

-- ... what each output gives

-- a piece of a section's bytes
abbrev pub window_piece : ℕ → List ℕ → ℕ × ℕ → Piece
window_piece k raw x = record { segment = k + 1; offset = x.0; blocks = Ok (content 1 0 (slice_range raw x.0 x.1) none) }

-- a definition, and what is mentioned
abbrev pub public_of : List ℕ → Place → List Public
public_of name x = record { local = false; name = name; segment = x.0 + 1; offset = x.1 } ∷ []

abbrev pub mention_of : List ℕ → Mention
mention_of name = record { local = false; name = name }

abbrev pub mention_at : List ℕ → Place → List Mention
mention_at name x = mention_of name ∷ []

abbrev pub names_by : Output → List (List ℕ)
names_by output.Header = []
names_by (output.Names names) = names
names_by (output.Segment k s) = []
names_by output.Group = []
names_by (output.External k s) = []
names_by (output.Communal k s) = []
names_by (output.Public k s) = []
names_by (output.Data k s from to) = []
names_by (output.Fixups k s from to) = []
names_by output.End = []

abbrev pub segments_by : Object → Output → List read.Segment
segments_by n output.Header = []
segments_by n (output.Names names) = []
segments_by n (output.Segment k s) = segment_of n s ∷ []
segments_by n output.Group = []
segments_by n (output.External k s) = []
segments_by n (output.Communal k s) = []
segments_by n (output.Public k s) = []
segments_by n (output.Data k s from to) = []
segments_by n (output.Fixups k s from to) = []
segments_by n output.End = []

abbrev pub groups_by : Output → List Group
groups_by output.Header = []
groups_by (output.Names names) = []
groups_by (output.Segment k s) = []
groups_by output.Group = record { name = 2; members = [] } ∷ []
groups_by (output.External k s) = []
groups_by (output.Communal k s) = []
groups_by (output.Public k s) = []
groups_by (output.Data k s from to) = []
groups_by (output.Fixups k s from to) = []
groups_by output.End = []

abbrev pub publics_by : Output → List Public
publics_by output.Header = []
publics_by (output.Names names) = []
publics_by (output.Segment k s) = []
publics_by output.Group = []
publics_by (output.External k s) = []
publics_by (output.Communal k s) = []
publics_by (output.Public k s) = option_map_or (public_of s.name) (global_place s.binding) []
publics_by (output.Data k s from to) = []
publics_by (output.Fixups k s from to) = []
publics_by output.End = []

abbrev pub externals_by : Output → List External
externals_by output.Header = []
externals_by (output.Names names) = []
externals_by (output.Segment k s) = []
externals_by output.Group = []
externals_by (output.External k s) = record { local = false; name = s.name; communal = None } ∷ []
externals_by (output.Communal k s) = near_communal s.name (size_by s.binding) ∷ []
externals_by (output.Public k s) = []
externals_by (output.Data k s from to) = []
externals_by (output.Fixups k s from to) = []
externals_by output.End = []

abbrev pub pieces_by : Object → Output → List Piece
pieces_by n output.Header = []
pieces_by n (output.Names names) = []
pieces_by n (output.Segment k s) = []
pieces_by n output.Group = []
pieces_by n (output.External k s) = []
pieces_by n (output.Communal k s) = []
pieces_by n (output.Public k s) = []
pieces_by n (output.Data k s from to) = window_piece k (raw_of n k s) (from, to) ∷ []
pieces_by n (output.Fixups k s from to) = []
pieces_by n output.End = []

abbrev pub mentions_by : Output → List Mention
mentions_by output.Header = []
mentions_by (output.Names names) = []
mentions_by (output.Segment k s) = []
mentions_by output.Group = []
mentions_by (output.External k s) = mention_of s.name ∷ []
mentions_by (output.Communal k s) = mention_of s.name ∷ []
mentions_by (output.Public k s) = option_map_or (mention_at s.name) (global_place s.binding) []
mentions_by (output.Data k s from to) = []
mentions_by (output.Fixups k s from to) = []
mentions_by output.End = []

-- ... an entry of a defined symbol, by where it is defined
public_names : (at : ℕ) (name : List ℕ) (place : Option Place) → all_read (option_map_or (made_public at name) place (says_nothing at)).names ≡ []
public_names at name place = grind arith

public_segments : (at : ℕ) (name : List ℕ) (place : Option Place) → all_read (option_map_or (made_public at name) place (says_nothing at)).segments ≡ []
public_segments at name place = grind arith

public_groups : (at : ℕ) (name : List ℕ) (place : Option Place) → all_read (option_map_or (made_public at name) place (says_nothing at)).groups ≡ []
public_groups at name place = grind arith

public_publics : (at : ℕ) (name : List ℕ) (place : Option Place) → all_read (option_map_or (made_public at name) place (says_nothing at)).publics ≡ option_map_or (public_of name) place []
public_publics at name place = grind arith

public_externals : (at : ℕ) (name : List ℕ) (place : Option Place) → all_read (option_map_or (made_public at name) place (says_nothing at)).externals ≡ []
public_externals at name place = grind arith

public_pieces : (at : ℕ) (name : List ℕ) (place : Option Place) → all_read (option_map_or (made_public at name) place (says_nothing at)).pieces ≡ []
public_pieces at name place = grind arith

public_mentions : (at : ℕ) (name : List ℕ) (place : Option Place) → entry_mentions (option_map_or (made_public at name) place (says_nothing at)) ≡ option_map_or (mention_at name) place []
public_mentions at name place = grind arith

-- ... each output gives what its entry defines and mentions
names_given : (n : Object) (at : ℕ) (o : Output) → all_read (made n at o).names ≡ names_by o
names_given n at output.Header = refl
names_given n at (output.Names names) = all_read-placed name_bytes (λ name. name) at 0 names ∙ same names
  where
    same : (xs : List (List ℕ)) → map (λ name. name) xs ≡ xs
    same [] = refl
    same (x ∷ xs) = ap (λ ys. x ∷ ys) (same xs)
names_given n at (output.Segment k s) = refl
names_given n at output.Group = refl
names_given n at (output.External k s) = refl
names_given n at (output.Communal k s) = refl
names_given n at (output.Public k s) = public_names at s.name (global_place s.binding)
names_given n at (output.Data k s from to) = refl
names_given n at (output.Fixups k s from to) = refl
names_given n at output.End = refl

segments_given : (n : Object) (at : ℕ) (o : Output) → all_read (made n at o).segments ≡ segments_by n o
segments_given n at o = grind arith

groups_given : (n : Object) (at : ℕ) (o : Output) → all_read (made n at o).groups ≡ groups_by o
groups_given n at o = grind arith

publics_given : (n : Object) (at : ℕ) (o : Output) → all_read (made n at o).publics ≡ publics_by o
publics_given n at o = grind arith

externals_given : (n : Object) (at : ℕ) (o : Output) → all_read (made n at o).externals ≡ externals_by o
externals_given n at o = grind arith

pieces_given : (n : Object) (at : ℕ) (o : Output) → all_read (made n at o).pieces ≡ pieces_by n o
pieces_given n at o = grind arith

mentions_given : (n : Object) (at : ℕ) (o : Output) → entry_mentions (made n at o) ≡ mentions_by o
mentions_given n at o = grind arith

-- what outputs define
abbrev pub given : Object → List Output → Tables
given n os = record {
  names = flat_map names_by os;
  segments = flat_map (segments_by n) os;
  groups = flat_map groups_by os;
  publics = flat_map publics_by os;
  externals = flat_map externals_by os;
  pieces = flat_map (pieces_by n) os;
}

pub tables_made : (n : Object) (at : ℕ) (os : List Output) → tables_of (made_from n at os) ≡ given n os
unfolding tables_of
tables_made n at os =
    rw (
      flat_made n (λ e. all_read e.names) names_by (names_given n) at os,
      flat_made n (λ e. all_read e.segments) (segments_by n) (segments_given n) at os,
      flat_made n (λ e. all_read e.groups) groups_by (groups_given n) at os,
      flat_made n (λ e. all_read e.publics) publics_by (publics_given n) at os,
      flat_made n (λ e. all_read e.externals) externals_by (externals_given n) at os,
      flat_made n (λ e. all_read e.pieces) (pieces_by n) (pieces_given n) at os,
    ) refl

pub mentions_made : (n : Object) (at : ℕ) (os : List Output) → flat_map entry_mentions (made_from n at os) ≡ flat_map mentions_by os
mentions_made n at os = flat_made n entry_mentions mentions_by (mentions_given n) at os

-- the first entries are those of the first outputs
pub take_made : (n : Object) (at i : ℕ) (os : List Output) → take i (made_from n at os) ≡ made_from n at (take i os)
take_made n at zero os = refl
take_made n at (suc i) [] = refl
take_made n at (suc i) (o ∷ os) = ap (λ es. made n at o ∷ es) (take_made n (at + length (output_bytes n o)) i os)

pub tables_before : (n : Object) (i : ℕ) (os : List Output) → tables_of (take i (made_from n 0 os)) ≡ given n (take i os)
tables_before n i os = ap tables_of (take_made n 0 i os) ∙ tables_made n 0 (take i os)

-- the entry of a number
pub entry_made : (n : Object) (at i : ℕ) (os : List Output) (e : Entry) → slice_get (made_from n at os) i ≡ Some e → (o : Output) × (place : ℕ) × (slice_get os i ≡ Some o) × (made n place o ≡ e)
entry_made n at i [] e h = absurd (none-some e h)
entry_made n at zero (o ∷ os) e h = (o, at, refl, same_Some (made n at o) e h)
entry_made n at (suc i) (o ∷ os) e h = entry_made n (at + length (output_bytes n o)) i os e h
