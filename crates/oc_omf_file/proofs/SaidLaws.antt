-- What each entry of an output says.
use Rattle.std.proofs.Common.{◌≡◌, ℕ, suc, ◌+◌, ◌^◌, ◌<◌, ◌≤◌, Bool, true, false, nat_lt, nat_le, nat_eq, if◌then◌else◌, List, [], ◌∷◌, ◌++◌, length, drop, Some, None, Ok, refl, sym, ◌∙◌, ap, subst, arith, append-nil, append_assoc, length-append}
use Rattle.std.specs.Prelude.{flat_map, slice_get}
use Rattle.std.proofs.lemmas.Bool.Decides.{nat_tests}
use Rattle.std.proofs.Math.Seq.{drop-append-add}
use Rattle.oc_base.specs.Numbers.{number_at, bytes_of_number}
use Rattle.oc_omf_records.specs.Blocks.{none, content}
use Rattle.oc_shelf.specs.Writing.Parts.{Stands}
use Rattle.oc_shelf.proofs.WritingLaws.StandingLemmas.{stands_front, stands_back, stands_whole, stands_inside, stands_first}
use Rattle.oc_omf.specs.declared.constants.TheConstants.{THEADR, LNAMES, SEGDEF, GRPDEF, EXTDEF, COMDEF, PUBDEF, LEDATA, MODEND, NEAR}
use Rattle.oc_omf.specs.{declared.structures.Segment.{Segment}, Cursor.{Reading, next, number_read, index_read, name_read, each_read}}
use Rattle.oc_omf.specs.Structures.{External, segment_read, member_read, group_read, base_read, public_read, external_read, communal_width, communal_length, communal_read, piece_read}
use Rattle.oc_omf.specs.{Entries.{says_nothing, in_file, whole, publics_of, said_by}, Bytes.{wide, index_bytes, name_bytes, length_bytes}}
use Rattle.oc_omf_file.proofs.CursorLaws.{Reads, stands_byte, reads_number, reads_name, reads_index, reads_next, placed, structures_read}

-- a number of one byte
pub reads_byte : (x : ℕ) → Reads (number_read 1) (x ∷ []) x
unfolding number_read
reads_byte x b at s =
    let whole : at + length (x ∷ []) ≤ length b = stands_inside b (x ∷ []) at s in
    let inside : nat_le (at + 1) (length b) ≡ true = grind (arith, nat_tests) in
    rw (inside, stands_byte b at x [] s) refl

-- the last that is read
pub reads_last : {X Y : Type 0} (first : List ℕ → ℕ → Reading X) (value : X → Y) (xs : List ℕ) (x : X) → Reads first xs x
    → Reads (λ b at. next (first b at) (λ z p. Ok (value z, p))) xs (value x)
reads_last first value xs x f b at s = ap (λ r. next r (λ z p. Ok (value z, p))) (f b at s)

-- what stands first
pub reads_first : {X : Type 0} (read : List ℕ → ℕ → Reading X) (xs ys : List ℕ) (x : X) → Reads read xs x → read (xs ++ ys) 0 ≡ Ok (x, length xs)
reads_first read xs ys x f = let e : 0 + length xs ≡ length xs = omega arith in f (xs ++ ys) 0 (stands_first xs ys) ∙ ap (λ k. Ok (x, k)) e

-- ... names

-- no name is longer than its length byte can say, and each has that byte
names_some : (names : List (List ℕ)) (k : ℕ) (name : List ℕ) → slice_get names k ≡ Some name → 1 ≤ length (name_bytes name)
names_some names k name h = omega arith

pub names_said : (at : ℕ) (names : List (List ℕ))
    → said_by at LNAMES (flat_map name_bytes names) ≡ record (says_nothing at) { names = in_file at (placed name_bytes (λ name. name) 0 names) }
unfolding said_by
names_said at names =
    ap (λ xs. record (says_nothing at) { names = in_file at xs })
    (structures_read name_read name_bytes (λ name. name) (flat_map name_bytes names) 0 names (λ k name h. reads_name name) (names_some names)
    (stands_whole (flat_map name_bytes names)) (omega arith))

-- ... segments

-- a segment of wide fields
abbrev pub wide_segment : ℕ → ℕ → ℕ → ℕ → ℕ → Segment
wide_segment attributes size name class overlay = record { wide = true; attributes = attributes; length = size; name = name; class = class; overlay = overlay }

-- its bytes
abbrev pub wide_segment_bytes : ℕ → ℕ → ℕ → ℕ → ℕ → List ℕ
wide_segment_bytes attributes size name class overlay = (attributes ∷ []) ++ (bytes_of_number 4 size ++ (index_bytes name ++ (index_bytes class ++ index_bytes overlay)))

pub reads_segment : (attributes size name class overlay : ℕ) → size < 2 ^ 32 → name < 32768 → class < 32768 → overlay < 32768
    → Reads (segment_read true) (wide_segment_bytes attributes size name class overlay) (wide_segment attributes size name class overlay)
unfolding segment_read
reads_segment attributes size name class overlay s n c o =
    reads_next (number_read 1) _ (attributes ∷ []) _ attributes _ (reads_byte attributes)
    (reads_next (number_read 4) _ (bytes_of_number 4 size) _ size _ (reads_number 4 size s)
    (reads_next index_read _ (index_bytes name) _ name _ (reads_index name n)
    (reads_next index_read _ (index_bytes class) _ class _ (reads_index class c)
    (reads_last index_read (wide_segment attributes size name class) (index_bytes overlay) overlay (reads_index overlay o)))))

pub segment_said : (at attributes size name class overlay : ℕ) → size < 2 ^ 32 → name < 32768 → class < 32768 → overlay < 32768
    → said_by at (wide SEGDEF) (wide_segment_bytes attributes size name class overlay)
    ≡ record (says_nothing at) { segments = record { at = at; part = Ok (wide_segment attributes size name class overlay) } ∷ [] }
unfolding said_by
segment_said at attributes size name class overlay s n c o =
    ap (λ r. record (says_nothing at) { segments = whole at r })
    (reads_segment attributes size name class overlay s n c o (wide_segment_bytes attributes size name class overlay) 0 (stands_whole (wide_segment_bytes attributes size name class overlay)))

-- ... the header, the group FLAT, the end

pub header_said : (at : ℕ) (contents : List ℕ) → said_by at THEADR contents ≡ says_nothing at
unfolding said_by
header_said at contents = refl

pub group_said : (at : ℕ) → said_by at GRPDEF (index_bytes 2) ≡ record (says_nothing at) { groups = record { at = at; part = Ok (record { name = 2; members = [] }) } ∷ [] }
unfolding said_by group_read index_read each_read member_read number_at
group_said at = refl

pub end_said : (at : ℕ) (contents : List ℕ) → said_by at MODEND contents ≡ record (says_nothing at) { ends = true }
unfolding said_by
end_said at contents = refl

-- ... externals

pub reads_external : (local : Bool) (name : List ℕ) → Reads (external_read local) (name_bytes name ++ 0 ∷ []) (record { local = local; name = name; communal = None })
unfolding external_read
reads_external local name =
    reads_next name_read _ (name_bytes name) _ name _ (reads_name name)
    (reads_last index_read (λ k. record { local = local; name = name; communal = None }) (0 ∷ []) 0 (reads_index 0 (omega arith)))

-- one structure that is read up to the end
pub one_read : {Y : Type 0} (read : List ℕ → ℕ → Reading Y) (bytes : List ℕ) (y : Y) → Reads read bytes y → 1 ≤ length bytes → each_read read bytes 0 ≡ record { at = 0; part = Ok y } ∷ []
one_read read bytes y reads some =
    let all : flat_map (λ (x : List ℕ). x) (bytes ∷ []) ≡ bytes = append-nil bytes in
    structures_read read (λ (x : List ℕ). x) (λ x. y) bytes 0 (bytes ∷ [])
    (λ k x h. subst (λ z. Reads read z y) (only k x h) reads) (λ k x h. subst (λ (z : List ℕ). 1 ≤ length z) (only k x h) some)
    (subst (Stands bytes 0) (sym all) (stands_whole bytes)) (omega (arith, ap length all))
  where
    only : (k : ℕ) (x : List ℕ) → slice_get (bytes ∷ []) k ≡ Some x → bytes ≡ x
    only k x h = grind arith

pub external_said : (at : ℕ) (name : List ℕ)
    → said_by at EXTDEF (name_bytes name ++ 0 ∷ []) ≡ record (says_nothing at) { externals = record { at = at + 3 + 0; part = Ok (record { local = false; name = name; communal = None }) } ∷ [] }
unfolding said_by
external_said at name =
    ap (λ xs. record (says_nothing at) { externals = in_file at xs })
    (one_read (external_read false) (name_bytes name ++ 0 ∷ []) _ (reads_external false name) (omega (arith, length-append (name_bytes name) (0 ∷ []))))

-- ... communals

-- the first byte of a communal's length
abbrev pub communal_form : ℕ → ℕ
communal_form size = if nat_le size 0x80 then size else if nat_lt size (2 ^ 16) then 0x81 else if nat_lt size (2 ^ 24) then 0x84 else 0x88

-- a length of more than one byte
long_size : (form size : ℕ) → nat_eq (communal_width form) 0 ≡ false → size < 256 ^ communal_width form
    → Reads communal_length (form ∷ [] ++ bytes_of_number (communal_width form) size) (form, size)
unfolding communal_length
long_size form size long small b at s =
    let first : number_read 1 b at ≡ Ok (form, at + 1) = reads_byte form b at (stands_front b (form ∷ []) (bytes_of_number (communal_width form) size) at s) in
    let rest : number_read (communal_width form) b (at + 1) ≡ Ok (size, at + 1 + length (bytes_of_number (communal_width form) size))
    = reads_number (communal_width form) size small b (at + 1) (stands_back b (form ∷ []) (bytes_of_number (communal_width form) size) at (at + 1) s (omega arith)) in
    let end : at + 1 + length (bytes_of_number (communal_width form) size) ≡ at + suc (length (bytes_of_number (communal_width form) size)) = omega arith in
    rw (first, long, rest, end) refl

-- a length of one byte
short_size : (size : ℕ) → nat_eq (communal_width size) 0 ≡ true → Reads communal_length (size ∷ []) (size, size)
unfolding communal_length
short_size size short b at s = rw (reads_byte size b at s, short) refl

size_by_tests : (size : ℕ) (one two three : Bool) → nat_le size 0x80 ≡ one → nat_lt size (2 ^ 16) ≡ two → nat_lt size (2 ^ 24) ≡ three → size < 2 ^ 32
    → Reads communal_length (length_bytes size) (communal_form size, size)
unfolding length_bytes
size_by_tests size true two three e f g small =
    let below : size ≤ 128 = grind (arith, nat_tests) in
    let a : nat_eq size 0x81 ≡ false = grind (arith, nat_tests) in
    let b : nat_eq size 0x84 ≡ false = grind (arith, nat_tests) in
    let c : nat_eq size 0x88 ≡ false = grind (arith, nat_tests) in
    rw e (short_size size (rw (a, b, c) refl))
size_by_tests size false true three e f g small = let below : size < 256 ^ 2 = grind (arith, nat_tests) in rw (e, f) (long_size 0x81 size refl below)
size_by_tests size false false true e f g small = let below : size < 256 ^ 3 = grind (arith, nat_tests) in rw (e, f, g) (long_size 0x84 size refl below)
size_by_tests size false false false e f g small = let below : size < 256 ^ 4 = omega (arith, small) in rw (e, f, g) (long_size 0x88 size refl below)

pub reads_size : (size : ℕ) → size < 2 ^ 32 → Reads communal_length (length_bytes size) (communal_form size, size)
reads_size size small = size_by_tests size (nat_le size 0x80) (nat_lt size (2 ^ 16)) (nat_lt size (2 ^ 24)) refl refl refl small

-- a near communal
abbrev pub near_communal : List ℕ → ℕ → External
near_communal name size = record { local = false; name = name; communal = Some (record { kind = NEAR; form = communal_form size; length = size }) }

pub reads_communal : (name : List ℕ) (size : ℕ) → size < 2 ^ 32 → Reads communal_read (name_bytes name ++ (0 ∷ [] ++ (NEAR ∷ [] ++ length_bytes size))) (near_communal name size)
unfolding communal_read
reads_communal name size small =
    reads_next name_read _ (name_bytes name) _ name _ (reads_name name)
    (reads_next index_read _ (0 ∷ []) _ 0 _ (reads_index 0 (omega arith))
    (reads_next (number_read 1) _ (NEAR ∷ []) _ NEAR _ (reads_byte NEAR)
    (reads_last communal_length (λ (z : ℕ × ℕ). record { local = false; name = name; communal = Some (record { kind = NEAR; form = z.0; length = z.1 }) })
    (length_bytes size) (communal_form size, size) (reads_size size small))))

pub communal_said : (at : ℕ) (name : List ℕ) (size : ℕ) → size < 2 ^ 32
    → said_by at COMDEF (name_bytes name ++ 0 ∷ NEAR ∷ length_bytes size) ≡ record (says_nothing at) { externals = record { at = at + 3 + 0; part = Ok (near_communal name size) } ∷ [] }
unfolding said_by
communal_said at name size small =
    ap (λ xs. record (says_nothing at) { externals = in_file at xs })
    (one_read communal_read (name_bytes name ++ 0 ∷ NEAR ∷ length_bytes size) _ (reads_communal name size small)
    (omega (arith, length-append (name_bytes name) (0 ∷ NEAR ∷ length_bytes size))))

-- ... symbols that are defined

pub reads_base : (group segment : ℕ) → group < 32768 → segment < 32768 → Reads base_read (index_bytes group ++ index_bytes segment) (record { group = group; segment = segment })
unfolding base_read
reads_base group segment g s =
    reads_next index_read _ (index_bytes group) _ group _ (reads_index group g)
    (reads_last index_read (λ k. record { group = group; segment = k }) (index_bytes segment) segment (reads_index segment s))

-- a symbol's bytes behind its base
abbrev pub symbol_bytes : List ℕ → ℕ → List ℕ
symbol_bytes name offset = name_bytes name ++ (bytes_of_number 4 offset ++ 0 ∷ [])

pub reads_public : (segment : ℕ) (name : List ℕ) (offset : ℕ) → offset < 2 ^ 32
    → Reads (public_read true false segment) (symbol_bytes name offset) (record { local = false; name = name; segment = segment; offset = offset })
unfolding public_read
reads_public segment name offset small =
    reads_next name_read _ (name_bytes name) _ name _ (reads_name name)
    (reads_next (number_read 4) _ (bytes_of_number 4 offset) _ offset _ (reads_number 4 offset small)
    (reads_last index_read (λ k. record { local = false; name = name; segment = segment; offset = offset }) (0 ∷ []) 0 (reads_index 0 (omega arith))))

-- one structure that stands at the end
pub last_one : {Y : Type 0} (read : List ℕ → ℕ → Reading Y) (front bytes : List ℕ) (y : Y) → Reads read bytes y → 1 ≤ length bytes
    → each_read read (front ++ bytes) (length front) ≡ record { at = length front; part = Ok y } ∷ []
last_one read front bytes y reads some =
    let all : flat_map (λ (x : List ℕ). x) (bytes ∷ []) ≡ bytes = append-nil bytes in
    let there : Stands (front ++ bytes) (length front) bytes = stands_back (front ++ bytes) front bytes 0 (length front) (stands_whole (front ++ bytes)) (omega arith) in
    structures_read read (λ (x : List ℕ). x) (λ x. y) (front ++ bytes) (length front) (bytes ∷ [])
    (λ k x h. subst (λ z. Reads read z y) (only k x h) reads) (λ k x h. subst (λ (z : List ℕ). 1 ≤ length z) (only k x h) some)
    (subst (Stands (front ++ bytes) (length front)) (sym all) there) (omega (arith, ap length all, length-append front bytes))
  where
    only : (k : ℕ) (x : List ℕ) → slice_get (bytes ∷ []) k ≡ Some x → bytes ≡ x
    only k x h = grind arith

pub public_said : (at segment : ℕ) (name : List ℕ) (offset : ℕ) → segment < 32768 → offset < 2 ^ 32
    → said_by at (wide PUBDEF) ((index_bytes 1 ++ index_bytes segment) ++ symbol_bytes name offset) ≡ record (says_nothing at) {
      bases = record { at = at; part = Ok (record { group = 1; segment = segment }) } ∷ [];
      publics = record { at = at + 3 + length (index_bytes 1 ++ index_bytes segment); part = Ok (record { local = false; name = name; segment = segment; offset = offset }) } ∷ [];
    }
unfolding said_by
public_said at segment name offset s o =
    let b = (index_bytes 1 ++ index_bytes segment) ++ symbol_bytes name offset in
    let base : base_read b 0 ≡ Ok (record { group = 1; segment = segment }, length (index_bytes 1 ++ index_bytes segment))
    = reads_first base_read (index_bytes 1 ++ index_bytes segment) (symbol_bytes name offset) _ (reads_base 1 segment (omega arith) s) in
    let symbols : each_read (public_read true false segment) b (length (index_bytes 1 ++ index_bytes segment))
    ≡ record { at = length (index_bytes 1 ++ index_bytes segment); part = Ok (record { local = false; name = name; segment = segment; offset = offset }) } ∷ []
    = last_one (public_read true false segment) (index_bytes 1 ++ index_bytes segment) (symbol_bytes name offset) _ (reads_public segment name offset o)
    (omega (arith, length-append (name_bytes name) (bytes_of_number 4 offset ++ 0 ∷ []))) in
    ap (λ r. record (says_nothing at) { bases = whole at r; publics = publics_of (wide PUBDEF) at b r }) base
    ∙ ap (λ xs. record (says_nothing at) { bases = record { at = at; part = Ok (record { group = 1; segment = segment }) } ∷ []; publics = in_file at xs }) symbols

-- ... data

pub piece_said : (at segment offset : ℕ) (bytes : List ℕ) → segment < 32768 → offset < 2 ^ 32
    → said_by at (wide LEDATA) (index_bytes segment ++ (bytes_of_number 4 offset ++ bytes)) ≡ record (says_nothing at) {
      pieces = record { at = at; part = Ok (record { segment = segment; offset = offset; blocks = Ok (content 1 0 bytes none) }) } ∷ [];
    }
unfolding said_by piece_read
piece_said at segment offset bytes s o =
    let b = index_bytes segment ++ (bytes_of_number 4 offset ++ bytes) in
    let p = length (index_bytes segment) in
    let q = p + length (bytes_of_number 4 offset) in
    let first : index_read b 0 ≡ Ok (segment, p) = reads_first index_read (index_bytes segment) (bytes_of_number 4 offset ++ bytes) segment (reads_index segment s) in
    let behind : Stands b p (bytes_of_number 4 offset ++ bytes) = stands_back b (index_bytes segment) (bytes_of_number 4 offset ++ bytes) 0 p (stands_whole b) (omega arith) in
    let second : number_read 4 b p ≡ Ok (offset, q) = reads_number 4 offset o b p (stands_front b (bytes_of_number 4 offset) bytes p behind) in
    let rest : drop q b ≡ bytes
    = ap (λ k. drop k b) (sym (length-append (index_bytes segment) (bytes_of_number 4 offset)))
    ∙ ap (drop (length (index_bytes segment ++ bytes_of_number 4 offset))) (sym (append_assoc (index_bytes segment) (bytes_of_number 4 offset) bytes))
    ∙ past (index_bytes segment ++ bytes_of_number 4 offset) bytes in
    rw (first, second, rest) refl
  where
    past : (xs ys : List ℕ) → drop (length xs) (xs ++ ys) ≡ ys
    past xs ys = let e : length xs ≡ length xs + 0 = omega arith in ap (λ k. drop k (xs ++ ys)) e ∙ drop-append-add xs ys 0
