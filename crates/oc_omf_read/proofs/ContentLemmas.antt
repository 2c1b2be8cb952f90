-- The bytes of segments, data by data.
use Rattle.std.proofs.Common.{◌≡◌, ℕ, zero, suc, ◌+◌, ◌-◌, ◌^◌, ◌<◌, ◌≤◌, inl, inr, Bool, true, false, cond, List, [], ◌∷◌, ◌++◌, length, take, drop, replicate, get_or, Option, None, Some, refl, sym, ◌∙◌, ap, arith, length-append, length-take, length-drop}
use Rattle.std.specs.{Prelude.{◌||◌, ◌&&◌, filter, flat_map, fold, nat_eq, nat_le, nat_lt, slice_get, Vec}, Global.{Global}, List.{AllByRecursion, sum_by}}
use Rattle.std.specs.Option.{option_map, option_map_or, unwrap_or}
use Rattle.std.proofs.lemmas.{Bool.{eqb-true, ne_eqb, true≢false, cases_eq}, Bool.Decides.{nat_tests}, List.{length-replicate, take-append-drop}}
use Rattle.std.proofs.lemmas.{List.Elements.{filter-append}, Grind.{flat_map-append, fold-append}, Option.{slice_get_within}}
use Rattle.oc_linking.specs.{declared.terms.Kind.{Kind}, FirstFault.{first_broken, stage_fault}}
use Rattle.oc_neutral.specs.{Building.{is_zero}, Omf.Kinds.{omf_kind}}
use Rattle.oc_neutral.proofs.Positions.{each_at}
use Rattle.oc_shelf.proofs.ReadingLaws.CollectedLemmas.{front_at, last_at}
use Rattle.oc_omf_records.specs.Blocks.{Blocks, denotation, size_of}
use Rattle.oc_omf_records.proofs.CopyLaws.{length-denotation}
use Rattle.oc_omf.specs.{declared.structures.Segment.{Segment}, Structures.{Piece}, Entries.{Entry, all_read, entries_in}}
use Rattle.oc_omf.specs.Sections.{blocks_in, contents_of, laid_over, piece_size, pieces_of, segment_kind, segment_size, size_at}
use Rattle.oc_omf.specs.{SectionFaults.{piece_conditions, section_stage, segment_conditions}, Tables.{indexed, is_indexed, name_at, tables_of}}
use Rattle.oc_omf.specs.Tables as all
use Rattle.oc_omf_judge.proofs.StateLaws.{tables_more}
use Rattle.oc_omf_judge.specs.{declared.defined.Defined.{Defined}, Defined.{IsDefined}}
use Rattle.oc_omf_read.specs.{Contents.{AreStored, items_at, laid_all, laid_by, size_in, stored, stored_size}, Sections.{kind_in, name_in}}
use Rattle.oc_omf_read.proofs.{DefinedLemmas.{tables_upto}, SoundEntries.{IsSoundPiece, IsSoundSegment, entry_sound, piece_sound, segment_sound}}

-- ... vectors

-- ... one piece of data

-- nothing is laid over no bytes
pub laid_none : (offset : ℕ) (row : Blocks) → laid_by offset row [] ≡ []
laid_none offset row = by (nat_eq (size_of row) 0) (nat_lt 0 (offset + size_of row)) refl refl
  where
    past : (a b : ℕ) → nat_eq a 0 ≡ false → nat_lt 0 (b + a) ≡ true
    past a b e = grind (arith, nat_tests)

    or_true : (a : Bool) → (a || true) ≡ true
    or_true a = grind arith

    by : (a b : Bool) → nat_eq (size_of row) 0 ≡ a → nat_lt 0 (offset + size_of row) ≡ b → cond (a || (nat_le (2 ^ 31) (size_of row) || b)) [] (take offset [] ++ (denotation row ++ drop (offset + size_of row) [])) ≡ []
    by a b e f = grind arith

-- where it fits, it is laid over them
laid_fits : (d : Piece) (bytes : List ℕ) → d.offset + piece_size d ≤ length bytes → piece_size d < 2 ^ 31 → laid_by d.offset (blocks_in d.blocks) bytes ≡ laid_over bytes d
laid_fits d bytes inside small = by (nat_eq (piece_size d) 0) refl
  where
    row : Blocks
    row = blocks_in d.blocks

    not_big : (a : ℕ) → a < 2 ^ 31 → nat_le (2 ^ 31) a ≡ false
    not_big a low = grind (arith, nat_tests)

    not_past : (a b : ℕ) → a ≤ b → nat_lt b a ≡ false
    not_past a b low = grind (arith, nat_tests)

    none_of : (xs : List ℕ) → length xs ≡ 0 → xs ≡ []
    none_of [] e = refl
    none_of (x ∷ xs) e = absurd (omega (arith, e))

    by : (a : Bool) → nat_eq (size_of row) 0 ≡ a → cond (a || (nat_le (2 ^ 31) (size_of row) || nat_lt (length bytes) (d.offset + size_of row))) bytes (take d.offset bytes ++ (denotation row ++ drop (d.offset + size_of row) bytes)) ≡ laid_over bytes d
    by true e =
        let zero_of : size_of row ≡ 0 = eqb-true (size_of row) 0 e in
        sym (ap (λ (xs : List ℕ). take d.offset bytes ++ (xs ++ drop (d.offset + size_of row) bytes)) (none_of (denotation row) (length-denotation row ∙ zero_of))
        ∙ ap (λ (n : ℕ). take d.offset bytes ++ drop n bytes) (let same : d.offset + size_of row ≡ d.offset = omega (arith, zero_of) in same)
        ∙ take-append-drop d.offset bytes)
    by false e =
        ap (λ c. cond (c || nat_lt (length bytes) (d.offset + size_of row)) bytes (take d.offset bytes ++ (denotation row ++ drop (d.offset + size_of row) bytes))) (not_big (size_of row) small)
        ∙ ap (λ c. cond c bytes (take d.offset bytes ++ (denotation row ++ drop (d.offset + size_of row) bytes))) (not_past (d.offset + size_of row) (length bytes) inside)

length-laid_over : (d : Piece) (bytes : List ℕ) → d.offset + piece_size d ≤ length bytes → length (laid_over bytes d) ≡ length bytes
length-laid_over d bytes inside =
    let row : Blocks = blocks_in d.blocks in
    let size = length-denotation row in
    let front : length (take d.offset bytes) ≡ d.offset = omega (arith, inside, length-take d.offset bytes) in
    let behind = length-drop (d.offset + size_of row) bytes in
    length-append (take d.offset bytes) (denotation row ++ drop (d.offset + size_of row) bytes)
    ∙ ap (λ (n : ℕ). length (take d.offset bytes) + n) (length-append (denotation row) (drop (d.offset + size_of row) bytes))
    ∙ (let sum : length (take d.offset bytes) + (length (denotation row) + length (drop (d.offset + size_of row) bytes)) ≡ length bytes = omega (arith, inside, size, front, behind) in sum)

-- ... data in a row

-- data of segment k lie in so many bytes
abbrev pub Fits : ℕ → ℕ → Piece → Type 0
Fits n k d = nat_eq d.segment (k + 1) ≡ true → (d.offset + piece_size d ≤ n) × (piece_size d < 2 ^ 31)

pub laid_folds : (n k : ℕ) (ds : List Piece) (bytes : List ℕ) → length bytes ≡ n → AllByRecursion (Fits n k) ds
    → (laid_all ds k bytes ≡ fold laid_over bytes (filter (λ (d : Piece). nat_eq d.segment (k + 1)) ds)) × (length (laid_all ds k bytes) ≡ n)
laid_folds n k [] bytes long fits = (refl, long)
laid_folds n k (d ∷ ds) bytes long fits = by (nat_eq d.segment (k + 1)) refl (λ bytes long. laid_folds n k ds bytes long fits.1)
  where
    by : (b : Bool) → nat_eq d.segment (k + 1) ≡ b → ((bytes : List ℕ) → length bytes ≡ n → (laid_all ds k bytes ≡ fold laid_over bytes (filter (λ (d : Piece). nat_eq d.segment (k + 1)) ds)) × (length (laid_all ds k bytes) ≡ n))
        → (laid_all ds k (cond b (laid_by d.offset (blocks_in d.blocks) bytes) bytes) ≡ fold laid_over bytes (cond b (d ∷ filter (λ (d : Piece). nat_eq d.segment (k + 1)) ds) (filter (λ (d : Piece). nat_eq d.segment (k + 1)) ds)))
        × (length (laid_all ds k (cond b (laid_by d.offset (blocks_in d.blocks) bytes) bytes)) ≡ n)
    by false e rest = rest bytes long
    by true e rest =
        let fit = fits.0 e in
        let inside : d.offset + piece_size d ≤ length bytes = (let low = fit.0 in omega (arith, low, long)) in
        let is = laid_fits d bytes inside fit.1 in
        let more = rest (laid_over bytes d) (length-laid_over d bytes inside ∙ long) in
        (ap (laid_all ds k) is ∙ more.0, ap (λ (xs : List ℕ). length (laid_all ds k xs)) is ∙ more.1)

pub laid_over_none : (k : ℕ) (ds : List Piece) → laid_all ds k [] ≡ []
laid_over_none k [] = refl
laid_over_none k (d ∷ ds) = ap (laid_all ds k) (by (nat_eq d.segment (k + 1))) ∙ laid_over_none k ds
  where
    by : (b : Bool) → cond b (laid_by d.offset (blocks_in d.blocks) []) [] ≡ []
    by b = grind arith

-- ... tables that grow

pub before_is : {X : Type 0} (xs ys : List X) (k : ℕ) → k < length xs → slice_get (xs ++ ys) k ≡ slice_get xs k
before_is [] ys k low = absurd (omega (arith, low))
before_is (x ∷ xs) ys zero low = refl
before_is (x ∷ xs) ys (suc k) low = before_is xs ys k (omega (arith, low))

-- the segments of the first entries come first
pub segments_front : (file : List ℕ) (i : ℕ) → (later : List Segment) × ((tables_of (entries_in file)).segments ≡ (tables_upto file i).segments ++ later)
unfolding tables_of
segments_front file i =
    let f : Entry → List Segment = λ (e : Entry). all_read e.segments in
    (flat_map f (drop i (entries_in file)), ap (flat_map f) (sym (take-append-drop i (entries_in file))) ∙ flat_map-append f (take i (entries_in file)) (drop i (entries_in file)))

pub all_append : {X : Type 0} (P : X → Type 0) (xs ys : List X) → AllByRecursion P xs → AllByRecursion P ys → AllByRecursion P (xs ++ ys)
all_append P [] ys a b = b
all_append P (x ∷ xs) ys a b = (a.0, all_append P xs ys a.1 b)

pub all_weaker : {X : Type 0} (P Q : X → Type 0) (xs : List X) → ((x : X) → P x → Q x) → AllByRecursion P xs → AllByRecursion Q xs
all_weaker P Q [] f all_of = tt
all_weaker P Q (x ∷ xs) f all_of = (f x all_of.0, all_weaker P Q xs f all_of.1)

-- what holds of what each entry defines holds of all that is defined
pub all_flat : {X : Type 0} (P : X → Type 0) (f : Entry → List X) (es : List Entry) → ((i : ℕ) (e : Entry) → slice_get es i ≡ Some e → AllByRecursion P (f e)) → AllByRecursion P (flat_map f es)
all_flat P f [] each = tt
all_flat P f (e ∷ es) each = all_append P (f e) (flat_map f es) (each 0 e refl) (all_flat P f es (λ i. each (suc i)))

-- the segment of an index
pub indexed_is : {X : Type 0} (xs : List X) (k : ℕ) → indexed xs (k + 1) ≡ slice_get xs k
indexed_is xs k =
    let some_of : nat_eq (k + 1) 0 ≡ false = ne_eqb (k + 1) 0 (λ e. omega (arith, e)) in
    let same : k + 1 - 1 ≡ k = omega arith in
    ap (λ b. cond b None (slice_get xs (k + 1 - 1))) some_of ∙ ap (slice_get xs) same

module _ (file : List ℕ) (clean : stage_fault (section_stage (entries_in file)) ≡ None) where
  abbrev t : all.Tables
  t = tables_of (entries_in file)

  -- a segment that is defined has no fault, whatever is summed
  abbrev IsGoodSegment : Segment → Type 0
  IsGoodSegment s = (sizes : ℕ) × IsSoundSegment s sizes

  good_all : AllByRecursion IsGoodSegment t.segments
  unfolding tables_of
  good_all = all_flat IsGoodSegment (λ (e : Entry). all_read e.segments) (entries_in file) (λ i e here.
      all_weaker (λ (s : Segment). first_broken (segment_conditions (tables_upto file i) (i, e.place) s) ≡ None) IsGoodSegment (all_read e.segments)
      (λ s good. (sum_by segment_size (tables_upto file i).segments, segment_sound (tables_upto file i) (i, e.place) s good)) (entry_sound file clean i e here).segments)

  pub good_segment : (k : ℕ) (s : Segment) → slice_get t.segments k ≡ Some s → IsGoodSegment s
  good_segment k s there = each_at IsGoodSegment t.segments k s good_all there

  module _ (i : ℕ) (e : Entry) (here : slice_get (entries_in file) i ≡ Some e) where
    abbrev ds : List Piece
    ds = all_read e.pieces

    pub size_before : (k : ℕ) (s : Segment) → slice_get t.segments k ≡ Some s → is_indexed (tables_upto file i).segments (k + 1) ≡ true → size_at (tables_upto file i) (k + 1) ≡ segment_size s
    size_before k s there is =
        let front = segments_front file i in
        let low : k < length (tables_upto file i).segments = within k (length (tables_upto file i).segments) is in
        ap (λ (o : Option Segment). option_map_or segment_size o 0)
        (indexed_is (tables_upto file i).segments k ∙ sym (before_is (tables_upto file i).segments front.0 k low) ∙ sym (ap (λ (xs : List Segment). slice_get xs k) front.1) ∙ there)
      where
        within : (k n : ℕ) → (nat_le 1 (k + 1) && nat_le (k + 1) n) ≡ true → k < n
        within k n e = grind (arith, nat_tests)

    pub piece_fits : (k : ℕ) (s : Segment) → slice_get t.segments k ≡ Some s → AllByRecursion (Fits (segment_size s) k) ds
    piece_fits k s there =
        all_weaker (λ (d : Piece). first_broken (piece_conditions (tables_upto file i) (i, e.place) d) ≡ None) (Fits (segment_size s) k) ds (λ d good same. by d (piece_sound (tables_upto file i) (i, e.place) d good) same)
        (entry_sound file clean i e here).pieces
      where
        by : (d : Piece) → IsSoundPiece (tables_upto file i) d → nat_eq d.segment (k + 1) ≡ true → (d.offset + piece_size d ≤ segment_size s) × (piece_size d < 2 ^ 31)
        by d sound same =
            let index : d.segment ≡ k + 1 = eqb-true d.segment (k + 1) same in
            let size : size_at (tables_upto file i) d.segment ≡ segment_size s
            = ap (size_at (tables_upto file i)) index ∙ size_before k s there (sym (ap (is_indexed (tables_upto file i).segments) index) ∙ sound.there) in
            let inside = sound.inside in
            let small = (good_segment k s there).1.small in
            (omega (arith, inside, size), omega (arith, inside, size, small))

    contents_more : (k n : ℕ) → contents_of (tables_upto file (i + 1)) (k + 1) n ≡ fold laid_over (contents_of (tables_upto file i) (k + 1) n) (filter (λ (d : Piece). nat_eq d.segment (k + 1)) ds)
    unfolding contents_of
    contents_more k n =
        ap (λ (u : all.Tables). fold laid_over (replicate n 0) (pieces_of u (k + 1))) (tables_more (entries_in file) i e here)
        ∙ ap (fold laid_over (replicate n 0)) (filter-append (λ (d : Piece). nat_eq d.segment (k + 1)) (tables_upto file i).pieces ds)
        ∙ fold-append laid_over (replicate n 0) (pieces_of (tables_upto file i) (k + 1)) (filter (λ (d : Piece). nat_eq d.segment (k + 1)) ds)

    -- an entry's data laid over what is stored
    stored_with : (k : ℕ) (s : Segment) → slice_get t.segments k ≡ Some s → (bytes : List ℕ) → bytes ≡ stored t (tables_upto file i) k s → length bytes ≡ stored_size t k s
        → (laid_all ds k bytes ≡ stored t (tables_upto file (i + 1)) k s) × (length (laid_all ds k bytes) ≡ stored_size t k s)
    stored_with k s there bytes is long = by (is_zero (segment_kind t (k + 1) s)) is long
      where
        by : (z : Bool) → bytes ≡ cond z [] (contents_of (tables_upto file i) (k + 1) (segment_size s)) → length bytes ≡ cond z 0 (segment_size s)
            → (laid_all ds k bytes ≡ cond z [] (contents_of (tables_upto file (i + 1)) (k + 1) (segment_size s))) × (length (laid_all ds k bytes) ≡ cond z 0 (segment_size s))
        by true is long = let none = ap (laid_all ds k) is ∙ laid_over_none k ds in (none, ap length none)
        by false is long =
            let more = laid_folds (segment_size s) k ds bytes long (piece_fits k s there) in
            (more.0 ∙ ap (λ (xs : List ℕ). fold laid_over xs (filter (λ (d : Piece). nat_eq d.segment (k + 1)) ds)) is ∙ sym (contents_more k (segment_size s)), more.1)

    pub stored_more : (old new : List (Vec ℕ Global)) → AreStored t (tables_upto file i) old → length new ≡ length old → ((k : ℕ) → k < length old → items_at new k ≡ laid_all ds k (items_at old k))
        → AreStored t (tables_upto file (i + 1)) new
    stored_more old new before long each = record {
      long = long ∙ before.long;
      each = λ k s there. each k (low k s there) ∙ (stored_with k s there (items_at old k) (before.each k s there) (before.sizes k s there)).0;
      sizes = λ k s there. ap length (each k (low k s there)) ∙ (stored_with k s there (items_at old k) (before.each k s there) (before.sizes k s there)).1;
    }
      where
        low : (k : ℕ) (s : Segment) → slice_get t.segments k ≡ Some s → k < length old
        low k s there = let inside = slice_get_within t.segments k s there in let many = before.long in omega (arith, inside, many)

-- ... what is known

pub known_name : (u : all.Tables) (known : Defined) → IsDefined u known → (index : ℕ) → name_in known index ≡ name_at u index
known_name u known knows index = ap (λ (xs : List (List ℕ)). unwrap_or (indexed xs index) []) knows.names_are

pub known_kind : (u : all.Tables) (known : Defined) → IsDefined u known → (k : ℕ) (s : Segment) → slice_get u.segments k ≡ Some s → kind_in known k ≡ Some (segment_kind u (k + 1) s)
known_kind u known knows k s there =
    ap (λ (o : Option Segment). option_map (λ (s : Segment). omf_kind (name_in known s.class) (get_or known.covered.items k false)) o) (ap (λ (xs : List Segment). slice_get xs k) knows.segments_are ∙ there)
    ∙ ap (λ (name : List ℕ). Some (omf_kind name (get_or known.covered.items k false))) (known_name u known knows s.class)
    ∙ ap (λ (b : Bool). Some (omf_kind (name_at u s.class) b)) (knows.covered_are k (slice_get_within u.segments k s there))

pub known_size : (u : all.Tables) (known : Defined) → IsDefined u known → (k : ℕ) (s : Segment) → slice_get u.segments k ≡ Some s → size_in known k ≡ stored_size u k s
known_size u known knows k s there =
    ap (λ (o : Option Segment). option_map_or (λ (s : Segment). cond (option_map_or is_zero (kind_in known k) false) 0 (segment_size s)) o 0) (ap (λ (xs : List Segment). slice_get xs k) knows.segments_are ∙ there)
    ∙ ap (λ (o : Option Kind). cond (option_map_or is_zero o false) 0 (segment_size s)) (known_kind u known knows k s there)

-- zeros are what is stored before all data
pub stored_none : (u : all.Tables) (known : Defined) → IsDefined u known → (vectors : List (Vec ℕ Global)) → length vectors ≡ length known.segments.items
    → ((k : ℕ) → k < length known.segments.items → items_at vectors k ≡ replicate (size_in known k) 0) → AreStored u (tables_of []) vectors
unfolding tables_of contents_of
stored_none u known knows vectors long each = record {
  long = long ∙ ap length knows.segments_are;
  each = λ k s there. each k (low k s there) ∙ ap (λ (n : ℕ). replicate {A = ℕ} n 0) (known_size u known knows k s there) ∙ by (is_zero (segment_kind u (k + 1) s)) (segment_size s);
  sizes = λ k s there. ap length (each k (low k s there)) ∙ length-replicate (size_in known k) 0 ∙ known_size u known knows k s there;
}
  where
    low : (k : ℕ) (s : Segment) → slice_get u.segments k ≡ Some s → k < length known.segments.items
    low k s there = let inside = slice_get_within u.segments k s there in let many = ap length knows.segments_are in omega (arith, inside, many)

    by : (z : Bool) (n : ℕ) → replicate {A = ℕ} (cond z 0 n) 0 ≡ cond z [] (replicate n 0)
    by z n = grind arith

-- ... as it is computed

pub laid_made : (offset : ℕ) (row : Blocks) (bytes piece new : List ℕ) → piece ≡ denotation row → 0 < size_of row → size_of row < 2 ^ 31 → offset + size_of row ≤ length bytes
    → new ≡ take offset bytes ++ (piece ++ drop (offset + length piece) bytes) → new ≡ laid_by offset row bytes
laid_made offset row bytes piece new is some_of small inside made =
    let size : length piece ≡ size_of row = ap length is ∙ length-denotation row in
    made ∙ ap (λ (n : ℕ). take offset bytes ++ (piece ++ drop (offset + n) bytes)) size ∙ ap (λ (xs : List ℕ). take offset bytes ++ (xs ++ drop (offset + size_of row) bytes)) is
    ∙ sym (ap (λ b. cond (b || (nat_le (2 ^ 31) (size_of row) || nat_lt (length bytes) (offset + size_of row))) bytes (take offset bytes ++ (denotation row ++ drop (offset + size_of row) bytes))) (not_none (size_of row) some_of)
    ∙ ap (λ b. cond (b || nat_lt (length bytes) (offset + size_of row)) bytes (take offset bytes ++ (denotation row ++ drop (offset + size_of row) bytes))) (not_big (size_of row) small)
    ∙ ap (λ b. cond b bytes (take offset bytes ++ (denotation row ++ drop (offset + size_of row) bytes))) (not_past (offset + size_of row) (length bytes) inside))
  where
    not_none : (a : ℕ) → 0 < a → nat_eq a 0 ≡ false
    not_none a low = grind (arith, nat_tests)

    not_big : (a : ℕ) → a < 2 ^ 31 → nat_le (2 ^ 31) a ≡ false
    not_big a low = grind (arith, nat_tests)

    not_past : (a b : ℕ) → a ≤ b → nat_lt b a ≡ false
    not_past a b low = grind (arith, nat_tests)

-- zeros, one vector more
pub vectors_more : (size : ℕ → ℕ) (vs : List (Vec ℕ Global)) (v : Vec ℕ Global) (n : ℕ) → length vs ≡ n → ((j : ℕ) → j < n → items_at vs j ≡ replicate (size j) 0) → v.items ≡ replicate (size n) 0
    → (j : ℕ) → j < n + 1 → items_at (vs ++ v ∷ []) j ≡ replicate (size j) 0
vectors_more size vs v n long each is j low = elim (cases_eq j n) [
  | inl same ↦ ap (items_at (vs ++ v ∷ [])) (same ∙ sym long) ∙ ap (λ (o : Option (Vec ℕ Global)). option_map_or (λ (v : Vec ℕ Global). v.items) o []) (last_at vs v) ∙ is ∙ ap (λ (k : ℕ). replicate (size k) 0) (sym same)
  | inr other ↦ ap (λ (o : Option (Vec ℕ Global)). option_map_or (λ (v : Vec ℕ Global). v.items) o []) (front_at vs v j (omega (arith, low, other, long))) ∙ each j (omega (arith, low, other))
]
