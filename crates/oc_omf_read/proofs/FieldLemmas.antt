-- Fields, fixup by fixup and entry by entry.
use Rattle.std.proofs.Common.{◌≡◌, ℕ, ◌+◌, ◌<◌, ◌≤◌, ◌⊎◌, inl, inr, Bool, true, false, List, [], ◌∷◌, ◌++◌, length, map, take, Option, None, Some, Result, Ok, Err, refl, sym, ◌∙◌, ap, subst, arith, append-nil}
use Rattle.std.specs.{Prelude.{slice_get}, List.{AllByRecursion}, Option.{option_map_or}}
use Rattle.std.proofs.lemmas.{Bool.{true≢false}, Grind.{flat_map-append}, List.{append_assoc}}
use Rattle.oc_linking.specs.{declared.terms.Keep.{Keep}, Numbers.{or_else}, FirstFault.{stage_fault}}
use Rattle.oc_omf_records.specs.{Blocks.{size_of}, declared.records.Entry.{Entry as Record}}
use Rattle.oc_omf.specs.{declared.cut.Cut.{Cut}, declared.structures.Fixup.{Fixup}, declared.structures.Subrecord.{Subrecord}}
use Rattle.oc_omf.specs.{declared.structures.Thread.{Thread}, declared.threads.Threads.{Threads}, Cursor.{Read, each_read}}
use Rattle.oc_omf.specs.{Entries.{Entry, all_read, entries_in, in_file, is_wide}, Fields.{fixups_in}, SectionFaults.{section_stage}}
use Rattle.oc_omf.specs.Fixups.{Fixed, PlacedSubrecord, fixed_from, fixed_in, fixed_of, last_of, method_of, subrecords_by, subrecords_upto}
use Rattle.oc_omf.specs.{Known.{AreInForce, IsThreadTaken}, Sections.{blocks_in}, Structures.{subrecord_read}, Tables.{tables_of}, Targets.{Meaning}}
use Rattle.oc_omf.specs.declared.constants.TheConstants.{ENTRY_HEAD}
use Rattle.oc_omf.specs.declared.structures.Subrecord.TheVariants as subrecord
use Rattle.oc_omf.specs.Structures as structures
use Rattle.oc_omf.specs.Tables as all
use Rattle.oc_omf.proofs.EachLemmas.{each_behind, each_cut, each_end, each_from, each_more}
use Rattle.oc_omf_judge.specs.Threads.{method_by}
use Rattle.oc_omf_judge.proofs.{ReachedLemmas.{method_is}, StateLaws.{force_stays, force_thread, tables_more}, SubrecordLemmas.{subrecord_goes}}
use Rattle.oc_omf_judge.proofs.EntryLemmas.{last_push}
use Rattle.oc_omf_read.specs.{declared.class.EntryClass.{EntryClass}, declared.fields.Behind.{Behind}, declared.fields.FixupField.{FixupField}}
use Rattle.oc_omf_read.specs.{declared.fixes.FixupContext.{FixupContext}, declared.pieces.FoundPiece.{FoundPiece}, Aims.{meaning_seen}, Classes.{class_of}}
use Rattle.oc_omf_read.specs.{Defined.{said}, Fields.{AreLow, HasData, HasFields, IsLast, fields_behind, fields_by, fields_for, fields_of, held}}
use Rattle.oc_omf_read.specs.Pieces.{ArePieces, IsPiece, row_in}
use Rattle.oc_omf_read.specs.declared.class.EntryClass.TheVariants as class
use Rattle.oc_omf_read.proofs.{CleanFixups.{fixed_behind, none_placed, placed_more}, DefinedLemmas.{said_by_class}, SoundPieces.{IsPlacedPiece, pieces_placed}}

-- ... one fixup

module _ (m : Meaning) (keep : Keep) where
  -- a fixup's fields are those behind what is held
  pub fields_same : (earlier : List PlacedSubrecord) (before : all.Tables) (b : Behind) (f : Fixup) → AreInForce earlier b.threads → IsLast (held b) (last_of before.pieces) → fields_behind m keep b f ≡ fields_for m keep (fixed_of earlier before f)
  fields_same earlier before b f are last = by (held b) (last_of before.pieces) last
    where
      by : (p : Option FoundPiece) (o : Option structures.Piece) → IsLast p o
          → option_map_or (λ (p : FoundPiece). fields_by m keep p.segment p.offset (row_in p.data) f (method_by b.threads true f.frame) (method_by b.threads false f.target)) p []
          ≡ option_map_or (λ (d : structures.Piece). fields_by m keep d.segment d.offset (blocks_in d.blocks) f (method_of earlier true f.frame) (method_of earlier false f.target)) o []
      by None o is = ap (λ o. option_map_or (λ (d : structures.Piece). fields_by m keep d.segment d.offset (blocks_in d.blocks) f (method_of earlier true f.frame) (method_of earlier false f.target)) o []) (sym is)
      by (Some p) o is =
          let d = is.0 in
          rw (is.1, method_is earlier b.threads true f.frame are, method_is earlier b.threads false f.target are, is.2.segment, is.2.offset, is.2.row) refl

  pub fields_more : (xs ys : List Fixed) → fields_of m keep (xs ++ ys) ≡ fields_of m keep xs ++ fields_of m keep ys
  unfolding fields_of
  fields_more xs ys = flat_map-append (fields_for m keep) xs ys

  fields_one : (x : Fixed) → fields_of m keep (x ∷ []) ≡ fields_for m keep x
  unfolding fields_of
  fields_one x = append-nil (fields_for m keep x)

  -- one fixup more
  pub with_fixup : (earlier : List PlacedSubrecord) (index at : ℕ) (before : all.Tables) (b : Behind) (f : Fixup) (old new : List FixupField) → AreInForce earlier b.threads → IsLast (held b) (last_of before.pieces)
      → old ≡ fields_of m keep (fixed_in earlier) → new ≡ old ++ fields_behind m keep b f
      → new ≡ fields_of m keep (fixed_in (earlier ++ record { index = index; at = at; part = Ok (subrecord.Fixup f); before = before } ∷ []))
  unfolding fixed_in
  with_fixup earlier index at before b f old new are last was is =
      is ∙ ap (λ (xs : List FixupField). xs ++ fields_behind m keep b f) was
      ∙ ap (λ (xs : List FixupField). fields_of m keep (fixed_in earlier) ++ xs) (fields_same earlier before b f are last ∙ sym (fields_one (fixed_of earlier before f)))
      ∙ sym (fields_more (fixed_in earlier) (fixed_of earlier before f ∷ []))
      ∙ ap (fields_of m keep) (sym (fixed_behind [] earlier (record { index = index; at = at; part = Ok (subrecord.Fixup f); before = before } ∷ [])))

-- what is no fixup changes no fields
without_fixup : (earlier : List PlacedSubrecord) (x : PlacedSubrecord) → fixed_from earlier (x ∷ []) ≡ [] → fixed_in (earlier ++ x ∷ []) ≡ fixed_in earlier
unfolding fixed_in
without_fixup earlier x none = fixed_behind [] earlier (x ∷ []) ∙ ap (λ (xs : List Fixed). fixed_from [] earlier ++ xs) none ∙ append-nil (fixed_from [] earlier)

-- ... one entry

-- threads and fixups of entry i, at a place
abbrev pub placed_in : List Entry → ℕ → ℕ → List (Read Subrecord) → List PlacedSubrecord
placed_in es i place ss = map (λ (s : Read Subrecord). record { index = i; at = s.at; part = s.part; before = tables_of (take i es) }) (in_file place ss)

-- those of an entry before a place in its contents are taken up
pub record IsWalking (s : FixupContext) (i : ℕ) (r : Record) (wide : Bool) (at : ℕ) (fields : List FixupField) (old b : Behind) : Type 0 where
  pub done : List PlacedSubrecord
  pub all : done ++ placed_in (entries_in s.omf.now) i r.place (each_from (subrecord_read wide) r.contents at) ≡ subrecords_by (entries_in s.omf.now) (i, said r)
  pub made : fields ≡ fields_of (meaning_seen s) s.keep (fixed_in (subrecords_upto (entries_in s.omf.now) i ++ done))
  pub threads : AreInForce (subrecords_upto (entries_in s.omf.now) i ++ done) b.threads
  pub piece : held b ≡ held old
  pub last : IsLast (held b) (last_of (tables_of (take i (entries_in s.omf.now))).pieces)
  pub low : AreLow (held b)

module _ (s : FixupContext) (i : ℕ) (r : Record) where
  abbrev es : List Entry
  es = entries_in s.omf.now

  abbrev b : List ℕ
  b = r.contents

  abbrev earlier : List PlacedSubrecord
  earlier = subrecords_upto es i

  abbrev part : ℕ → Result Subrecord Cut → PlacedSubrecord
  part at x = record { index = i; at = r.place + ENTRY_HEAD + at; part = x; before = tables_of (take i es) }

  parts_said : class_of r.kind ≡ class.Fixups → subrecords_by es (i, said r) ≡ placed_in es i r.place (each_read (subrecord_read (is_wide r.kind)) b 0)
  parts_said is = ap (λ (e : Entry). subrecords_by es (i, e)) (said_by_class r class.Fixups is)

  pub walk_begins : (wide : Bool) → wide ≡ is_wide r.kind → class_of r.kind ≡ class.Fixups → (fields : List FixupField) (held : Behind) → HasFields s i fields held → IsWalking s i r wide 0 fields held held
  walk_begins wide is fixups fields held has = record {
    done = [];
    all = ap (placed_in es i r.place) (sym (each_behind (subrecord_read wide) b 0 (subrecord_goes wide b)) ∙ ap (λ w. each_read (subrecord_read w) b 0) is) ∙ sym (parts_said fixups);
    made = has.made ∙ ap (λ (xs : List PlacedSubrecord). fields_of (meaning_seen s) s.keep (fixed_in xs)) (sym (append-nil earlier));
    threads = subst (λ (xs : List PlacedSubrecord). AreInForce xs held.threads) (sym (append-nil earlier)) has.threads;
    piece = refl;
    last = has.last;
    low = has.low;
  }

  module _ (wide : Bool) (at : ℕ) (fields : List FixupField) (old now : Behind) (w : IsWalking s i r wide at fields old now) where
    next_all : (x : Result Subrecord Cut) (rest : List (Read Subrecord)) → each_from (subrecord_read wide) b at ≡ record { at = at; part = x } ∷ rest
        → (w.done ++ part at x ∷ []) ++ placed_in es i r.place rest ≡ subrecords_by es (i, said r)
    next_all x rest is = append_assoc w.done (part at x ∷ []) (placed_in es i r.place rest) ∙ ap (λ (xs : List (Read Subrecord)). w.done ++ placed_in es i r.place xs) (sym is) ∙ w.all

    pub walk_thread : (t : Thread) (after : ℕ) (new : Behind) → at < length b → subrecord_read wide b at ≡ Ok (subrecord.Thread t, after)
        → IsThreadTaken now.threads t new.threads → held new ≡ held now → IsWalking s i r wide after fields old new
    walk_thread t after new low is taken piece =
        let x : Result Subrecord Cut = Ok (subrecord.Thread t) in
        let here = sym (append_assoc earlier w.done (part at x ∷ [])) in
        record {
          done = w.done ++ part at x ∷ [];
          all = next_all x (each_from (subrecord_read wide) b after) (each_more (subrecord_read wide) b (subrecord_goes wide b) at low (subrecord.Thread t) after is);
          made = w.made ∙ ap (fields_of (meaning_seen s) s.keep) (sym (without_fixup (earlier ++ w.done) (part at x) refl)) ∙ ap (λ (xs : List PlacedSubrecord). fields_of (meaning_seen s) s.keep (fixed_in xs)) (sym here);
          threads = subst (λ (xs : List PlacedSubrecord). AreInForce xs new.threads) (sym here) (force_thread (earlier ++ w.done) (part at x) t now.threads new.threads refl w.threads taken);
          piece = piece ∙ w.piece;
          last = subst (λ (p : Option FoundPiece). IsLast p (last_of (tables_of (take i es)).pieces)) (sym piece) w.last;
          low = subst AreLow (sym piece) w.low;
        }

    pub walk_fixup : (f : Fixup) (after : ℕ) (new : List FixupField) (next : Behind) → at < length b → subrecord_read wide b at ≡ Ok (subrecord.Fixup f, after)
        → next.threads ≡ now.threads → held next ≡ held now → new ≡ fields ++ fields_behind (meaning_seen s) s.keep now f → IsWalking s i r wide after new old next
    walk_fixup f after new next low is threads piece made =
        let x : Result Subrecord Cut = Ok (subrecord.Fixup f) in
        let here = sym (append_assoc earlier w.done (part at x ∷ [])) in
        record {
          done = w.done ++ part at x ∷ [];
          all = next_all x (each_from (subrecord_read wide) b after) (each_more (subrecord_read wide) b (subrecord_goes wide b) at low (subrecord.Fixup f) after is);
          made = with_fixup (meaning_seen s) s.keep (earlier ++ w.done) i _ (tables_of (take i es)) now f fields new w.threads w.last w.made made
              ∙ ap (λ (xs : List PlacedSubrecord). fields_of (meaning_seen s) s.keep (fixed_in xs)) (sym here);
          threads = subst (λ (ts : Threads). AreInForce (earlier ++ (w.done ++ part at x ∷ [])) ts) (sym threads) (subst (λ (xs : List PlacedSubrecord). AreInForce xs now.threads) (sym here) (force_stays (earlier ++ w.done) (part at x) now.threads (λ frame number. refl) w.threads));
          piece = piece ∙ w.piece;
          last = subst (λ (p : Option FoundPiece). IsLast p (last_of (tables_of (take i es)).pieces)) (sym piece) w.last;
          low = subst AreLow (sym piece) w.low;
        }

    pub walk_cut : (c : Cut) (after : ℕ) → at < length b → length b ≤ after → subrecord_read wide b at ≡ Err c → IsWalking s i r wide after fields old now
    walk_cut c after low past is =
        let x : Result Subrecord Cut = Err c in
        let here = sym (append_assoc earlier w.done (part at x ∷ [])) in
        record {
          done = w.done ++ part at x ∷ [];
          all = ap (λ (xs : List (Read Subrecord)). (w.done ++ part at x ∷ []) ++ placed_in es i r.place xs) (each_end (subrecord_read wide) b after past)
              ∙ next_all x [] (each_cut (subrecord_read wide) b (subrecord_goes wide b) at low c is);
          made = w.made ∙ ap (fields_of (meaning_seen s) s.keep) (sym (without_fixup (earlier ++ w.done) (part at x) refl)) ∙ ap (λ (xs : List PlacedSubrecord). fields_of (meaning_seen s) s.keep (fixed_in xs)) (sym here);
          threads = subst (λ (xs : List PlacedSubrecord). AreInForce xs now.threads) (sym here) (force_stays (earlier ++ w.done) (part at x) now.threads (λ frame number. refl) w.threads);
          piece = w.piece;
          last = w.last;
          low = w.low;
        }

    pieces_same : slice_get es i ≡ Some (said r) → all_read (said r).pieces ≡ [] → (tables_of (take (i + 1) es)).pieces ≡ (tables_of (take i es)).pieces
    pieces_same here none =
        ap (λ (t : all.Tables). t.pieces) (tables_more es i (said r) here) ∙ ap (λ (ds : List structures.Piece). (tables_of (take i es)).pieces ++ ds) none ∙ append-nil (tables_of (take i es)).pieces

    pub walk_ends : length b ≤ at → class_of r.kind ≡ class.Fixups → slice_get es i ≡ Some (said r) → HasFields s (i + 1) fields now
    walk_ends past fixups here =
        let all_done : w.done ≡ subrecords_by es (i, said r) =
        sym (append-nil w.done) ∙ ap (λ (xs : List (Read Subrecord)). w.done ++ placed_in es i r.place xs) (sym (each_end (subrecord_read wide) b at past)) ∙ w.all in
        let upto : earlier ++ w.done ≡ subrecords_upto es (i + 1) = ap (λ (xs : List PlacedSubrecord). earlier ++ xs) all_done ∙ sym (placed_more es i (said r) here) in
        let none : all_read (said r).pieces ≡ [] = ap (λ (e : Entry). all_read e.pieces) (said_by_class r class.Fixups fixups) in
        record {
          made = w.made ∙ ap (λ (xs : List PlacedSubrecord). fields_of (meaning_seen s) s.keep (fixed_in xs)) upto;
          threads = subst (λ (xs : List PlacedSubrecord). AreInForce xs now.threads) upto w.threads;
          last = subst (λ (ds : List structures.Piece). IsLast (held now) (last_of ds)) (sym (pieces_same here none)) w.last;
          low = w.low;
        }

-- ... entries of data, and others

-- no threads and fixups
abbrev pub has_no_fixups : EntryClass → Bool
has_no_fixups class.Names = true
has_no_fixups class.Segment = true
has_no_fixups class.Group = true
has_no_fixups class.Publics = true
has_no_fixups class.LocalPublics = true
has_no_fixups class.Externals = true
has_no_fixups class.LocalExternals = true
has_no_fixups class.Communals = true
has_no_fixups class.Plain = true
has_no_fixups class.Iterated = true
has_no_fixups class.Fixups = false
has_no_fixups class.Nothing = true

no_subrecords : (r : Record) (k : EntryClass) → class_of r.kind ≡ k → has_no_fixups k ≡ true → (said r).subrecords ≡ []
no_subrecords r class.Names is e = ap (λ (e : Entry). e.subrecords) (said_by_class r class.Names is)
no_subrecords r class.Segment is e = ap (λ (e : Entry). e.subrecords) (said_by_class r class.Segment is)
no_subrecords r class.Group is e = ap (λ (e : Entry). e.subrecords) (said_by_class r class.Group is)
no_subrecords r class.Publics is e = ap (λ (e : Entry). e.subrecords) (said_by_class r class.Publics is)
no_subrecords r class.LocalPublics is e = ap (λ (e : Entry). e.subrecords) (said_by_class r class.LocalPublics is)
no_subrecords r class.Externals is e = ap (λ (e : Entry). e.subrecords) (said_by_class r class.Externals is)
no_subrecords r class.LocalExternals is e = ap (λ (e : Entry). e.subrecords) (said_by_class r class.LocalExternals is)
no_subrecords r class.Communals is e = ap (λ (e : Entry). e.subrecords) (said_by_class r class.Communals is)
no_subrecords r class.Plain is e = ap (λ (e : Entry). e.subrecords) (said_by_class r class.Plain is)
no_subrecords r class.Iterated is e = ap (λ (e : Entry). e.subrecords) (said_by_class r class.Iterated is)
no_subrecords r class.Fixups is e = absurd (true≢false (sym e))
no_subrecords r class.Nothing is e = ap (λ (e : Entry). e.subrecords) (said_by_class r class.Nothing is)

-- as matches leave it
pub not_fixups : (k : EntryClass) → (k ≡ class.Names) ⊎ ((k ≡ class.Segment) ⊎ ((k ≡ class.Group) ⊎ ((k ≡ class.Publics) ⊎ ((k ≡ class.LocalPublics) ⊎ ((k ≡ class.Externals) ⊎ ((k ≡ class.LocalExternals) ⊎ ((k ≡ class.Communals) ⊎ ((k ≡ class.Plain) ⊎ ((k ≡ class.Iterated) ⊎ (k ≡ class.Nothing)))))))))) → has_no_fixups k ≡ true
not_fixups k h = elim h [ inl e ↦ ap has_no_fixups e | inr h ↦ elim h [ inl e ↦ ap has_no_fixups e | inr h ↦ elim h [ inl e ↦ ap has_no_fixups e | inr h ↦ elim h [ inl e ↦ ap has_no_fixups e | inr h ↦ elim h [ inl e ↦ ap has_no_fixups e | inr h ↦ elim h [ inl e ↦ ap has_no_fixups e | inr h ↦ elim h [ inl e ↦ ap has_no_fixups e | inr h ↦ elim h [ inl e ↦ ap has_no_fixups e | inr h ↦ elim h [ inl e ↦ ap has_no_fixups e | inr h ↦ elim h [ inl e ↦ ap has_no_fixups e | inr e ↦ ap has_no_fixups e ] ] ] ] ] ] ] ] ] ]

module _ (s : FixupContext) (i : ℕ) (r : Record) (clean : stage_fault (section_stage (entries_in s.omf.now)) ≡ None) (here : slice_get (entries_in s.omf.now) i ≡ Some (said r)) where
  more_pieces : (tables_of (take (i + 1) (entries_in s.omf.now))).pieces ≡ (tables_of (take i (entries_in s.omf.now))).pieces ++ all_read (said r).pieces
  more_pieces = ap (λ (t : all.Tables). t.pieces) (tables_more (entries_in s.omf.now) i (said r) here)

  piece_low : (p : FoundPiece) (d : structures.Piece) → all_read (said r).pieces ≡ d ∷ [] → IsPiece p d → AreLow (Some p)
  piece_low p d one is =
      let m = (subst (AllByRecursion (IsPlacedPiece (tables_of (entries_in s.omf.now)))) one (pieces_placed s.omf.now clean i (said r) here)).0 in
      let inside = m.inside in
      let small = m.small in
      let size = ap size_of is.row in
      let offset = is.offset in
      omega (arith, inside, small, size, offset)

  -- an entry that has no threads and fixups
  pub with_data : (k : EntryClass) → class_of r.kind ≡ k → has_no_fixups k ≡ true → (fields : List FixupField) (old new : Behind) → HasFields s i fields old → HasData (all_read (said r).pieces) old new → HasFields s (i + 1) fields new
  with_data k is none fields old new has data_ =
      let es : List Entry = entries_in s.omf.now in
      let upto : subrecords_upto es i ≡ subrecords_upto es (i + 1) =
      sym (append-nil (subrecords_upto es i))
      ∙ ap (λ (ss : List (Read Subrecord)). subrecords_upto es i ++ map (λ (x : Read Subrecord). record { index = i; at = x.at; part = x.part; before = tables_of (take i es) }) ss) (sym (no_subrecords r k is none))
      ∙ sym (placed_more es i (said r) here) in
      let both = by data_.found data_.are in
      record {
        made = has.made ∙ ap (λ (xs : List PlacedSubrecord). fields_of (meaning_seen s) s.keep (fixed_in xs)) upto;
        threads = subst (λ (xs : List PlacedSubrecord). AreInForce xs new.threads) upto (subst (λ (ts : Threads). AreInForce (subrecords_upto es i) ts) (sym data_.threads) has.threads);
        last = subst (λ (p : Option FoundPiece). IsLast p (last_of (tables_of (take (i + 1) es)).pieces)) (sym data_.piece) both.0;
        low = subst AreLow (sym data_.piece) both.1;
      }
    where
      by : (found : Option FoundPiece) → ArePieces found (all_read (said r).pieces)
          → IsLast (or_else found (held old)) (last_of (tables_of (take (i + 1) (entries_in s.omf.now))).pieces) × AreLow (or_else found (held old))
      by None are = (
        subst (λ (ds : List structures.Piece). IsLast (held old) (last_of ds))
            (sym (more_pieces ∙ ap (λ (ds : List structures.Piece). (tables_of (take i (entries_in s.omf.now))).pieces ++ ds) are ∙ append-nil (tables_of (take i (entries_in s.omf.now))).pieces)) has.last,
        has.low,
      )
      by (Some p) are = (
        (
          are.0,
          ap last_of (more_pieces ∙ ap (λ (ds : List structures.Piece). (tables_of (take i (entries_in s.omf.now))).pieces ++ ds) are.1) ∙ last_push (tables_of (take i (entries_in s.omf.now))).pieces are.0,
          are.2,
        ),
        piece_low p are.0 are.1 are.2,
      )

-- before the first entry
pub fields_none : (s : FixupContext) (fields : List FixupField) (threads : Threads) → fields ≡ [] → AreInForce [] threads → HasFields s 0 fields (record { threads = threads; piece = None })
unfolding fields_of fixed_in tables_of
fields_none s fields threads none are = record {
  made = none ∙ ap (λ (xs : List PlacedSubrecord). fields_of (meaning_seen s) s.keep (fixed_in xs)) (sym (none_placed (entries_in s.omf.now)));
  threads = subst (λ (xs : List PlacedSubrecord). AreInForce xs threads) (sym (none_placed (entries_in s.omf.now))) are;
  last = refl;
  low = tt;
}

-- behind the last
pub fields_all : (s : FixupContext) (i : ℕ) (fields : List FixupField) (b : Behind) → i ≡ length (entries_in s.omf.now) → HasFields s i fields b → fields ≡ fields_of (meaning_seen s) s.keep (fixups_in (entries_in s.omf.now))
fields_all s i fields b end has = has.made ∙ ap (λ (n : ℕ). fields_of (meaning_seen s) s.keep (fixed_in (subrecords_upto (entries_in s.omf.now) n))) end
