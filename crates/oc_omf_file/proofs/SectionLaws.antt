-- The sections of the canonical file are those of the object.
use Rattle.std.proofs.Common.{◌≡◌, ℕ, zero, suc, ◌+◌, ◌-◌, ◌<◌, Bool, true, false, cond, nat_eq, nat_lt, if◌then◌else◌, List, [], ◌∷◌, ◌++◌, length, map, filter, replicate, Some, None, refl, sym, ◌∙◌, ap, subst, arith, append-nil}
use Rattle.std.specs.{Prelude.{flat_map, slice_get, fold, ◌≢◌}, List.{enumerate_from, list_any}, Option.{option_map_or, option_and_then, unwrap_or}}
use Rattle.std.proofs.lemmas.{Bool.Decides.{nat_tests}, Grind.{flat_map-append}, List.Elements.{filter-append}, Option.{none-some, same_Some}}
use Rattle.oc_linking.specs.{declared.terms.Kind.{Kind}, declared.terms.Kind.TheVariants.{Zero}}
use Rattle.oc_linking.specs.Parts as parts
use Rattle.oc_neutral.specs.{declared.section.Section.{Section}, Building.{is_zero}, Faces.{key_of}, Invariants.{HasItsBytes}, Objects.{Object}}
use Rattle.oc_neutral.specs.{Omf.Family.{omf_aligns}, Omf.Kinds.{omf_kind, omf_tag}}
use Rattle.oc_target.specs.OmfMeets.{OmfSection}
use Rattle.oc_neutral.proofs.Positions.{each_at}
use Rattle.oc_omf.specs.{Structures.{Piece}, Entries.{entries_in}, Tables.{Tables, tables_of, indexed, name_at}}
use Rattle.oc_omf.specs.Sections.{align_code, align_of, combination, is_use32, segment_size, size_at, piece_size, laid_over, contents_of, is_covered, segment_kind, section_of, sections_in}
use Rattle.oc_omf.specs.Sections as read
use Rattle.oc_omf_file.specs.{Names.{class_of}, Pieces.{offsets_of, pieces_of, pieces_upto, fields_between}, Outputs.{piece_outputs, data_outputs, outputs_of}}
use Rattle.oc_omf_file.specs.{Fixups.{raw_of}, Canonical.{segment_of, omf_file}}
use Rattle.oc_shelf.proofs.WritingLaws.MemberLemmas.{member_map}
use Rattle.oc_omf_file.specs.Outputs as output
use Rattle.oc_omf_file.proofs.{MadeLaw.{entries_made}, GivenLaws.{window_piece, pieces_by, tables_made}, NameLaws.{name_made, section_named, section_classed}}
use Rattle.oc_omf_file.proofs.{PieceLaws.{Follow, pieces_follow, pieces_are}, BehindLaws.{made_tables}, OutputLaws.{tables_given}}
use Rattle.oc_omf_file.proofs.{CodedLaws.{IsForOmf, section_is, short_names, fields_apart}, SmallLaws.{length-raw, all_small}}

-- ... what the attributes of a segment say

pub record IsFramed (n : Object) (s : Section) : Type 0 where
  pub align : align_of (segment_of n s) ≡ s.align
  pub some : nat_eq (align_code (segment_of n s)) 0 ≡ false
  pub known : nat_lt 5 (align_code (segment_of n s)) ≡ false
  pub combined : combination (segment_of n s) ≡ 2
  pub use32 : is_use32 (segment_of n s) ≡ true
  pub size : segment_size (segment_of n s) ≡ s.size

framed_by : (n : Object) (s : Section) (exponent : ℕ) → slice_get omf_aligns exponent ≡ Some s.align → IsFramed n s
framed_by n s exponent e = grind arith

-- ... the pieces of a segment

-- the pieces that outputs of a section give
pieces_given : (n : Object) (k : ℕ) (s : Section) (xs : List (ℕ × ℕ)) → flat_map (pieces_by n) (flat_map (piece_outputs n k s) xs) ≡ map (window_piece k (raw_of n k s)) xs
pieces_given n k s [] = refl
pieces_given n k s (x ∷ xs) = by_fields (nat_eq (length (fields_between n k x.0 x.1)) 0) (pieces_given n k s xs)
  where
    by_fields : (empty : Bool) → flat_map (pieces_by n) (flat_map (piece_outputs n k s) xs) ≡ map (window_piece k (raw_of n k s)) xs
        → flat_map (pieces_by n) ((output.Data k s x.0 x.1 ∷ (if empty then [] else output.Fixups k s x.0 x.1 ∷ [])) ++ flat_map (piece_outputs n k s) xs)
        ≡ window_piece k (raw_of n k s) x ∷ map (window_piece k (raw_of n k s)) xs
    by_fields true rest = ap (λ ys. window_piece k (raw_of n k s) x ∷ ys) rest
    by_fields false rest = ap (λ ys. window_piece k (raw_of n k s) x ∷ ys) rest

-- those of a segment among those of one section
filter_own : (k : ℕ) (raw : List ℕ) (xs : List (ℕ × ℕ)) → filter (λ (d : Piece). nat_eq d.segment (k + 1)) (map (window_piece k raw) xs) ≡ map (window_piece k raw) xs
filter_own k raw [] = refl
filter_own k raw (x ∷ xs) = let own : nat_eq (k + 1) (k + 1) ≡ true = grind (arith, nat_tests) in rw own (ap (λ ys. window_piece k raw x ∷ ys) (filter_own k raw xs))

filter_other : (j k : ℕ) (raw : List ℕ) (xs : List (ℕ × ℕ)) → k ≢ j → filter (λ (d : Piece). nat_eq d.segment (j + 1)) (map (window_piece k raw) xs) ≡ []
filter_other j k raw [] apart = refl
filter_other j k raw (x ∷ xs) apart = let other : nat_eq (k + 1) (j + 1) ≡ false = grind (arith, nat_tests, apart) in rw other (filter_other j k raw xs apart)

-- the pieces of sections from a position on
abbrev all_pieces : Object → ℕ → List Section → List Piece
all_pieces n a ss = flat_map (pieces_by n) (flat_map (data_outputs n) (enumerate_from a ss))

-- those of the first, and of the others
all_are : (n : Object) (a : ℕ) (s : Section) (ss : List Section) → all_pieces n a (s ∷ ss) ≡ map (window_piece a (raw_of n a s)) (pieces_of n a s) ++ all_pieces n (a + 1) ss
all_are n a s ss =
    flat_map-append (pieces_by n) (data_outputs n (a, s)) (flat_map (data_outputs n) (enumerate_from (a + 1) ss))
    ∙ ap (λ ds. ds ++ all_pieces n (a + 1) ss) (pieces_given n a s (pieces_of n a s))

-- none is of a section before
none_before : (n : Object) (j a : ℕ) (ss : List Section) → j < a → filter (λ (d : Piece). nat_eq d.segment (j + 1)) (all_pieces n a ss) ≡ []
none_before n j a [] l = refl
none_before n j a (s ∷ ss) l =
    let apart : a ≢ j = λ e. omega (arith, l, e) in
    ap (filter (λ (d : Piece). nat_eq d.segment (j + 1))) (all_are n a s ss)
    ∙ filter-append (λ (d : Piece). nat_eq d.segment (j + 1)) (map (window_piece a (raw_of n a s)) (pieces_of n a s)) (all_pieces n (a + 1) ss)
    ∙ rw (filter_other j a (raw_of n a s) (pieces_of n a s) apart) (none_before n j (a + 1) ss (omega (arith, l)))

-- the pieces of a segment are those of its section
segment_pieces : (n : Object) (a k : ℕ) (ss : List Section) (s : Section) → slice_get ss k ≡ Some s
    → filter (λ (d : Piece). nat_eq d.segment (a + k + 1)) (all_pieces n a ss) ≡ map (window_piece (a + k) (raw_of n (a + k) s)) (pieces_of n (a + k) s)
segment_pieces n a k [] s h = absurd (none-some s h)
segment_pieces n a zero (t ∷ ss) s h =
    let here : a + 0 ≡ a = omega arith in
    let own : filter (λ (d : Piece). nat_eq d.segment (a + 1)) (all_pieces n a (t ∷ ss)) ≡ map (window_piece a (raw_of n a t)) (pieces_of n a t)
    = ap (filter (λ (d : Piece). nat_eq d.segment (a + 1))) (all_are n a t ss)
    ∙ filter-append (λ (d : Piece). nat_eq d.segment (a + 1)) (map (window_piece a (raw_of n a t)) (pieces_of n a t)) (all_pieces n (a + 1) ss)
    ∙ rw (filter_own a (raw_of n a t) (pieces_of n a t), none_before n a (a + 1) ss (omega arith)) (append-nil (map (window_piece a (raw_of n a t)) (pieces_of n a t))) in
    subst (λ j. filter (λ (d : Piece). nat_eq d.segment (j + 1)) (all_pieces n a (t ∷ ss)) ≡ map (window_piece j (raw_of n j s)) (pieces_of n j s)) (sym here)
    (subst (λ z. filter (λ (d : Piece). nat_eq d.segment (a + 1)) (all_pieces n a (t ∷ ss)) ≡ map (window_piece a (raw_of n a z)) (pieces_of n a z)) (same_Some t s h) own)
segment_pieces n a (suc k) (t ∷ ss) s h =
    let there : a + 1 + k ≡ a + suc k = omega arith in
    let apart : a ≢ a + suc k = λ e. omega (arith, e) in
    ap (filter (λ (d : Piece). nat_eq d.segment (a + suc k + 1))) (all_are n a t ss)
    ∙ filter-append (λ (d : Piece). nat_eq d.segment (a + suc k + 1)) (map (window_piece a (raw_of n a t)) (pieces_of n a t)) (all_pieces n (a + 1) ss)
    ∙ rw (filter_other (a + suc k) a (raw_of n a t) (pieces_of n a t) apart)
    (subst (λ j. filter (λ (d : Piece). nat_eq d.segment (j + 1)) (all_pieces n (a + 1) ss) ≡ map (window_piece j (raw_of n j s)) (pieces_of n j s)) there (segment_pieces n (a + 1) k ss s h))

pub pieces_made : (n : Object) (k : ℕ) (s : Section) → slice_get n.sections k ≡ Some s → read.pieces_of (made_tables n) (k + 1) ≡ map (window_piece k (raw_of n k s)) (pieces_of n k s)
pieces_made n k s here =
    let front : 0 + k ≡ k = omega arith in
    subst (λ j. filter (λ (d : Piece). nat_eq d.segment (j + 1)) (all_pieces n 0 n.sections) ≡ map (window_piece j (raw_of n j s)) (pieces_of n j s)) front (segment_pieces n 0 k n.sections s here)

-- a section without bytes has no pieces
pub no_pieces : (n : Object) (k : ℕ) (s : Section) → length s.bytes ≡ 0 → pieces_of n k s ≡ []
unfolding pieces_of
no_pieces n k s none = ap (λ m. pieces_upto m (offsets_of n k) m 0) none

-- ... sections

-- the contents that the file has of the section at a position
abbrev pub made_contents : Object → ℕ × Section → List ℕ
made_contents n x = cond (is_zero x.1.kind) (replicate x.1.size 0) (raw_of n x.0 x.1)

-- the section at a position, as it is read
abbrev pub made_section : Object → ℕ × Section → parts.Section
made_section n x = record {
  name = x.1.name;
  kind = x.1.kind;
  align = x.1.align;
  size = x.1.size;
  contents = made_contents n x;
  tag = x.1.tag;
  number = 1 + x.0;
  group = option_and_then (key_of n.groups) x.1.group;
}

sections_from : (n : Object) (t : Tables) (a : ℕ) (ss : List Section) → ((j : ℕ) (s : Section) → slice_get ss j ≡ Some s → section_of t (a + j + 1, segment_of n s) ≡ made_section n (a + j, s))
    → map (section_of t) (enumerate_from (a + 1) (map (segment_of n) ss)) ≡ map (made_section n) (enumerate_from a ss)
sections_from n t a [] each = refl
sections_from n t a (s ∷ ss) each =
    let z : a + 0 ≡ a = omega arith in
    ap (λ x. x ∷ map (section_of t) (enumerate_from (a + 1 + 1) (map (segment_of n) ss)))
    (subst (λ i. section_of t (i + 1, segment_of n s) ≡ made_section n (i, s)) z (each 0 s refl))
    ∙ ap (λ xs. made_section n (a, s) ∷ xs)
    (sections_from n t (a + 1) ss (λ j x h. let e : a + suc j ≡ a + 1 + j = omega arith in subst (λ i. section_of t (i + 1, segment_of n x) ≡ made_section n (i, x)) e (each (suc j) x h)))

module _ (n : Object) (is : IsForOmf n) where
  pub frame_is : (k : ℕ) (s : Section) → slice_get n.sections k ≡ Some s → IsFramed n s
  frame_is k s here = let m = section_is n is k s here in framed_by n s m.exponent m.align

  pub has_bytes : (k : ℕ) (s : Section) → slice_get n.sections k ≡ Some s → HasItsBytes s
  has_bytes k s here = each_at HasItsBytes n.sections k s is.object.built.bytes here

  pub contents_made : (k : ℕ) (s : Section) → slice_get n.sections k ≡ Some s → contents_of (made_tables n) (k + 1) s.size ≡ made_contents n (k, s)
  unfolding contents_of pieces_of
  contents_made k s here =
      ap (fold laid_over (replicate s.size 0)) (pieces_made n k s here)
      ∙ by (is_zero s.kind) (has_bytes k s here)
    where
      by : (b : Bool) → length s.bytes ≡ cond b 0 s.size → fold laid_over (replicate s.size 0) (map (window_piece k (raw_of n k s)) (pieces_of n k s)) ≡ cond b (replicate s.size 0) (raw_of n k s)
      by true e = ap (λ xs. fold laid_over (replicate s.size 0) (map (window_piece k (raw_of n k s)) xs)) (no_pieces n k s e)
      by false e =
          let long = length-raw n k s in
          pieces_are k (offsets_of n k) (raw_of n k s) s.size (pieces_of n k s)
          (subst (λ m. Follow (offsets_of n k) 0 m (pieces_of n k s)) (sym long)
          (pieces_follow (length s.bytes) (offsets_of n k) (length s.bytes) 0 (fields_apart n is k s here) (omega arith) (omega arith)))
          (omega (arith, e, long))

  -- a Zero section is covered nowhere
  pub zero_bare : (k : ℕ) (s : Section) → slice_get n.sections k ≡ Some s → s.kind ≡ Zero → is_covered (made_tables n) (k + 1) ≡ false
  zero_bare k s here e =
      let none : length s.bytes ≡ 0 = has_bytes k s here ∙ ap (λ kind. cond (is_zero kind) 0 s.size) e in
      ap (list_any (λ d. nat_lt 0 (piece_size d))) (pieces_made n k s here ∙ ap (map (window_piece k (raw_of n k s))) (no_pieces n k s none))

  -- a table with these names and pieces gives a segment its section's kind
  pub kind_made : (k : ℕ) (s : Section) → slice_get n.sections k ≡ Some s → segment_kind (made_tables n) (k + 1) (segment_of n s) ≡ s.kind
  kind_made k s here =
      let m : OmfSection s = section_is n is k s here in
      let class : class_of s ≡ m.class = ap (λ o. unwrap_or o []) m.classed in
      ap (λ c. omf_kind c (is_covered (made_tables n) (k + 1))) (name_made n (made_tables n) (class_of s) refl (section_classed n k s here) ∙ class)
      ∙ m.kind (is_covered (made_tables n) (k + 1)) (zero_bare k s here)

  pub section_made : (k : ℕ) (s : Section) → slice_get n.sections k ≡ Some s → section_of (made_tables n) (k + 1, segment_of n s) ≡ made_section n (k, s)
  section_made k s here =
      let m : OmfSection s = section_is n is k s here in
      let f = frame_is k s here in
      let contents : contents_of (made_tables n) (k + 1) (segment_size (segment_of n s)) ≡ made_contents n (k, s) = ap (contents_of (made_tables n) (k + 1)) f.size ∙ contents_made k s here in
      let number : k + 1 ≡ 1 + k = omega arith in
      let made : List ℕ → Kind → ℕ → ℕ → List ℕ → ℕ → parts.Section
      = λ name kind align size contents number. record { name = name; kind = kind; align = align; size = size; contents = contents; tag = omf_tag; number = number; group = None } in
      let t : Tables = made_tables n in
      let name : name_at t (segment_of n s).name ≡ s.name = name_made n t s.name refl (section_named n k s here) in
      ap (λ x. made x (segment_kind t (k + 1) (segment_of n s)) (align_of (segment_of n s)) (segment_size (segment_of n s)) (contents_of t (k + 1) (segment_size (segment_of n s))) (k + 1)) name
      ∙ ap (λ x. made s.name x (align_of (segment_of n s)) (segment_size (segment_of n s)) (contents_of t (k + 1) (segment_size (segment_of n s))) (k + 1)) (kind_made k s here)
      ∙ ap (λ x. made s.name s.kind x (segment_size (segment_of n s)) (contents_of t (k + 1) (segment_size (segment_of n s))) (k + 1)) f.align
      ∙ ap (λ x. made s.name s.kind s.align x (contents_of t (k + 1) (segment_size (segment_of n s))) (k + 1)) f.size
      ∙ ap (λ x. made s.name s.kind s.align s.size x (k + 1)) contents
      ∙ ap (made s.name s.kind s.align s.size (made_contents n (k, s))) number
      ∙ ap (λ x. record { name = s.name; kind = s.kind; align = s.align; size = s.size; contents = made_contents n (k, s); tag = x; number = 1 + k; group = None }) (sym m.tag)
      ∙ ap (λ x. record { name = s.name; kind = s.kind; align = s.align; size = s.size; contents = made_contents n (k, s); tag = s.tag; number = 1 + k; group = option_and_then (key_of n.groups) x }) (sym m.alone)

  abbrev pub made_sections : List (parts.Section)
  made_sections = map (made_section n) (enumerate_from 0 n.sections)

  pub sections_made : sections_in (made_tables n) ≡ made_sections
  unfolding sections_in
  sections_made =
      sections_from n (made_tables n) 0 n.sections
      (λ j s h. let e : j ≡ 0 + j = omega arith in subst (λ i. section_of (made_tables n) (i + 1, segment_of n s) ≡ made_section n (i, s)) e (section_made j s h))

  -- what the file defines
  pub tables_read : tables_of (entries_in (omf_file n)) ≡ made_tables n
  tables_read = ap tables_of (entries_made n (all_small n is)) ∙ tables_made n 0 (outputs_of n) ∙ tables_given n (short_names n is) (fields_apart n is)

  -- the size of a segment
  pub size_made : (t : Tables) → t.segments ≡ map (segment_of n) n.sections → (k : ℕ) (s : Section) → slice_get n.sections k ≡ Some s → size_at t (k + 1) ≡ s.size
  size_made t segments k s here =
      let some : nat_eq (k + 1) 0 ≡ false = grind (arith, nat_tests) in
      let back : k + 1 - 1 ≡ k = omega arith in
      ap (λ xs. option_map_or segment_size (indexed xs (k + 1)) 0) segments
      ∙ ap (λ b. option_map_or segment_size (if b then None else slice_get (map (segment_of n) n.sections) (k + 1 - 1)) 0) some
      ∙ ap (λ i. option_map_or segment_size (slice_get (map (segment_of n) n.sections) i) 0) back
      ∙ ap (λ o. option_map_or segment_size o 0) (member_map (segment_of n) n.sections k s here)
      ∙ (frame_is k s here).size
