-- What stands before each entry of the canonical file.
use Rattle.std.proofs.Common.{◌≡◌, ℕ, zero, suc, ◌+◌, ◌<◌, ◌≤◌, ◌⊎◌, inl, inr, Bool, true, false, List, [], ◌∷◌, ◌++◌, length, map, take, Some, refl, sym, ◌∙◌, ap, subst, arith, append-nil, append_assoc, length-append}
use Rattle.std.specs.{Prelude.{flat_map, slice_get, nat_eq, if◌then◌else◌}, List.{enumerate_from}}
use Rattle.std.proofs.lemmas.{Grind.{flat_map-append}, List.{map-append}, Option.{none-some, same_Some}}
use Rattle.oc_linking.specs.{declared.terms.Value.{Value}, declared.terms.Binding.{Binding}}
use Rattle.oc_linking.specs.declared.terms.Binding.TheVariants.{Local, Global, Undefined, Common, Weak}
use Rattle.oc_neutral.specs.{declared.section.Section.{Section}, declared.symbol.Symbol.{Symbol}, Objects.{Object}}
use Rattle.oc_shelf.proofs.WritingLaws.MemberLemmas.{each_append, each_filter_map, each_enumerated}
use Rattle.oc_omf.specs.declared.structures.Segment as read
use Rattle.oc_omf.specs.{Structures.{Group, Public, External}, Tables.{Tables}}
use Rattle.oc_omf_file.specs.{Names.{names_of, names_size}, Pieces.{offsets_of, pieces_of, fields_between}}
use Rattle.oc_omf_file.specs.Outputs.{Output, external_by, communal_by, public_by, external_output, communal_output, public_output, indexed_outputs, symbol_outputs, piece_outputs, data_outputs, segment_output}
use Rattle.oc_omf_file.specs.Canonical.{segment_of}
use Rattle.oc_omf_file.specs.Outputs as output
use Rattle.oc_omf_file.proofs.GivenLaws.{names_by, segments_by, groups_by, publics_by, externals_by, pieces_by, given}
use Rattle.oc_omf_file.proofs.PieceLaws.{IsWhole, Follow, AreApart, pieces_follow}

-- each element stands behind those before it
abbrev pub AllBehind : (List Output → Output → Type 0) → List Output → List Output → Type 0
AllBehind P front [] = Unit {0}
AllBehind P front (o ∷ os) = P front o × AllBehind P (front ++ o ∷ []) os

pub all_append : (P : List Output → Output → Type 0) (front xs ys : List Output) → AllBehind P front xs → AllBehind P (front ++ xs) ys → AllBehind P front (xs ++ ys)
all_append P front [] ys a b = subst (λ zs. AllBehind P zs ys) (append-nil front) b
all_append P front (x ∷ xs) ys a b = (a.0, all_append P (front ++ x ∷ []) xs ys a.1 (subst (λ zs. AllBehind P zs ys) (sym (append_assoc front (x ∷ []) xs)) b))

pub behind_at : (P : List Output → Output → Type 0) (front os : List Output) (i : ℕ) (o : Output) → AllBehind P front os → slice_get os i ≡ Some o → P (front ++ take i os) o
behind_at P front [] i o all h = absurd (none-some o h)
behind_at P front (x ∷ os) zero o all h = subst (P (front ++ [])) (same_Some x o h) (subst (λ zs. P zs x) (sym (append-nil front)) all.0)
behind_at P front (x ∷ os) (suc i) o all h = subst (λ zs. P zs o) (append_assoc front (x ∷ []) (take i os)) (behind_at P (front ++ x ∷ []) os i o all.1 h)

-- ... what is defined

abbrev pub flat : List Group
flat = record { name = 2; members = [] } ∷ []

-- what some outputs define, but for data
pub record Defines (n : Object) (front : List Output) (segments : List read.Segment) (groups : List Group) (publics : List Public) (externals : List External) : Type 0 where
  pub names : flat_map names_by front ≡ names_of n
  pub segments_are : flat_map (segments_by n) front ≡ segments
  pub groups_are : flat_map groups_by front ≡ groups
  pub publics_are : flat_map publics_by front ≡ publics
  pub externals_are : flat_map externals_by front ≡ externals

-- the segments of all sections
abbrev pub all_segments : Object → List read.Segment
all_segments n = map (segment_of n) n.sections

-- all but data are defined
abbrev pub IsReady : Object → List Output → Type 0
IsReady n front = Defines n front (all_segments n) flat (flat_map publics_by (symbol_outputs n)) (flat_map externals_by (symbol_outputs n))

-- ... what an output is, behind some

-- a segment behind those of the sections before it
pub record IsSegmentAt (n : Object) (front : List Output) (k : ℕ) (s : Section) : Type 0 where
  pub done : List Section
  pub rest : List Section
  pub sections : n.sections ≡ done ++ s ∷ rest
  pub position : k ≡ length done
  pub defines : Defines n front (map (segment_of n) done) [] [] []

-- the symbol of an output
abbrev pub OfSymbol : Object → Output → Type 0
OfSymbol n output.Header = ⊥
OfSymbol n (output.Names names) = ⊥
OfSymbol n (output.Segment k s) = ⊥
OfSymbol n output.Group = ⊥
OfSymbol n (output.External k s) = (slice_get n.symbols k ≡ Some s) × (s.binding ≡ Undefined)
OfSymbol n (output.Communal k s) = (slice_get n.symbols k ≡ Some s) × (size : ℕ) × (align : ℕ) × (s.binding ≡ Common size align)
OfSymbol n (output.Public k s) = (slice_get n.symbols k ≡ Some s) × (v : Value) × (s.binding ≡ Global v)
OfSymbol n (output.Data k s from to) = ⊥
OfSymbol n (output.Fixups k s from to) = ⊥
OfSymbol n output.End = ⊥

-- one behind those of the symbols before it
pub record IsSymbolAt (n : Object) (front : List Output) (o : Output) : Type 0 where
  pub done : List Output
  pub rest : List Output
  pub outputs : symbol_outputs n ≡ done ++ o ∷ rest
  pub of_symbol : OfSymbol n o
  pub defines : Defines n front (all_segments n) flat (flat_map publics_by done) (flat_map externals_by done)

-- an output's data, if it has any, are of an earlier section, or end up to a place of section k
abbrev pub EndsBy : ℕ → ℕ → Output → Type 0
EndsBy k from output.Header = Unit {0}
EndsBy k from (output.Names names) = Unit {0}
EndsBy k from (output.Segment j s) = Unit {0}
EndsBy k from output.Group = Unit {0}
EndsBy k from (output.External j s) = Unit {0}
EndsBy k from (output.Communal j s) = Unit {0}
EndsBy k from (output.Public j s) = Unit {0}
EndsBy k from (output.Data j s a b) = (j < k) ⊎ ((j ≡ k) × (b ≤ from))
EndsBy k from (output.Fixups j s a b) = (j < k) ⊎ ((j ≡ k) × (b ≤ from))
EndsBy k from output.End = Unit {0}

-- a piece of a section behind those before it
pub record IsDataAt (n : Object) (front : List Output) (k : ℕ) (s : Section) (from to : ℕ) : Type 0 where
  pub ready : IsReady n front
  pub section : slice_get n.sections k ≡ Some s
  pub some : from < to
  pub inside : to ≤ length s.bytes
  pub whole : IsWhole (offsets_of n k) (from, to)
  pub earlier : (i : ℕ) (o : Output) → slice_get front i ≡ Some o → EndsBy k from o

-- all that is defined
abbrev pub made_tables : Object → Tables
made_tables n = record {
  names = names_of n;
  segments = all_segments n;
  groups = flat;
  publics = flat_map publics_by (symbol_outputs n);
  externals = flat_map externals_by (symbol_outputs n);
  pieces = flat_map (pieces_by n) (flat_map (data_outputs n) (enumerate_from 0 n.sections));
}

abbrev pub Behind : Object → List Output → Output → Type 0
Behind n front output.Header = front ≡ []
Behind n front (output.Names names) = names_size names ≤ 1024
Behind n front (output.Segment k s) = IsSegmentAt n front k s
Behind n front output.Group = Defines n front (all_segments n) [] [] []
Behind n front (output.External k s) = IsSymbolAt n front (output.External k s)
Behind n front (output.Communal k s) = IsSymbolAt n front (output.Communal k s)
Behind n front (output.Public k s) = IsSymbolAt n front (output.Public k s)
Behind n front (output.Data k s from to) = IsDataAt n front k s from to
Behind n front (output.Fixups k s from to) = (before : List Output) × (front ≡ before ++ output.Data k s from to ∷ []) × IsDataAt n before k s from to
Behind n front output.End = given n front ≡ made_tables n

-- ... steps

pub more : {X : Type 0} (g : Output → List X) (front : List Output) (o : Output) → flat_map g (front ++ o ∷ []) ≡ flat_map g front ++ g o
more g front o = flat_map-append g front (o ∷ []) ∙ ap (λ ys. flat_map g front ++ ys) (append-nil (g o))

-- what outputs give that give nothing
pub still : {X : Type 0} (g : Output → List X) (front os : List Output) → flat_map g os ≡ [] → flat_map g (front ++ os) ≡ flat_map g front
still g front os none = flat_map-append g front os ∙ ap (λ ys. flat_map g front ++ ys) none ∙ append-nil (flat_map g front)

-- ... symbols

external_of : (n : Object) (k : ℕ) (s : Symbol) → slice_get n.symbols k ≡ Some s → (b : Binding) → s.binding ≡ b → (o : Output) → external_by b k s ≡ Some o → OfSymbol n o
external_of n k s here Undefined e o f = subst (OfSymbol n) (same_Some (output.External k s) o f) (here, e)
external_of n k s here (Local v) e o f = absurd (none-some o f)
external_of n k s here (Global v) e o f = absurd (none-some o f)
external_of n k s here (Common size align) e o f = absurd (none-some o f)
external_of n k s here (Weak w) e o f = absurd (none-some o f)

communal_of : (n : Object) (k : ℕ) (s : Symbol) → slice_get n.symbols k ≡ Some s → (b : Binding) → s.binding ≡ b → (o : Output) → communal_by b k s ≡ Some o → OfSymbol n o
communal_of n k s here (Common size align) e o f = subst (OfSymbol n) (same_Some (output.Communal k s) o f) (here, size, align, e)
communal_of n k s here (Local v) e o f = absurd (none-some o f)
communal_of n k s here (Global v) e o f = absurd (none-some o f)
communal_of n k s here Undefined e o f = absurd (none-some o f)
communal_of n k s here (Weak w) e o f = absurd (none-some o f)

public_is : (n : Object) (k : ℕ) (s : Symbol) → slice_get n.symbols k ≡ Some s → (b : Binding) → s.binding ≡ b → (o : Output) → public_by b k s ≡ Some o → OfSymbol n o
public_is n k s here (Global v) e o f = subst (OfSymbol n) (same_Some (output.Public k s) o f) (here, v, e)
public_is n k s here (Local v) e o f = absurd (none-some o f)
public_is n k s here Undefined e o f = absurd (none-some o f)
public_is n k s here (Common size align) e o f = absurd (none-some o f)
public_is n k s here (Weak w) e o f = absurd (none-some o f)

-- a symbol with its position
numbered_symbols : (n : Object) (j : ℕ) (x : ℕ × Symbol) → slice_get (enumerate_from 0 n.symbols) j ≡ Some x → slice_get n.symbols x.0 ≡ Some x.1
numbered_symbols n = each_enumerated (λ (x : ℕ × Symbol). slice_get n.symbols x.0 ≡ Some x.1) 0 n.symbols (λ j s h. let e : 0 + j ≡ j = omega arith in ap (slice_get n.symbols) e ∙ h)

pub symbols_are : (n : Object) (i : ℕ) (o : Output) → slice_get (symbol_outputs n) i ≡ Some o → OfSymbol n o
unfolding symbol_outputs
symbols_are n =
    each_append (OfSymbol n) (indexed_outputs n) _
    (each_append (OfSymbol n) _ _
    (each_filter_map (OfSymbol n) external_output (enumerate_from 0 n.symbols) (λ j x h o f. external_of n x.0 x.1 (numbered_symbols n j x h) x.1.binding refl o f))
    (each_filter_map (OfSymbol n) communal_output (enumerate_from 0 n.symbols) (λ j x h o f. communal_of n x.0 x.1 (numbered_symbols n j x h) x.1.binding refl o f)))
    (each_filter_map (OfSymbol n) public_output (enumerate_from 0 n.symbols) (λ j x h o f. public_is n x.0 x.1 (numbered_symbols n j x h) x.1.binding refl o f))

-- an output of a symbol defines no segment and no group, and has no data
pub symbol_silent : (n : Object) (o : Output) → OfSymbol n o → (names_by o ≡ []) × (segments_by n o ≡ []) × (groups_by o ≡ []) × (pieces_by n o ≡ [])
symbol_silent n o e = grind arith

symbol_behind : (n : Object) (front : List Output) (o : Output) → OfSymbol n o → IsSymbolAt n front o → Behind n front o
symbol_behind n front output.Header e at = absurd e
symbol_behind n front (output.Names names) e at = absurd e
symbol_behind n front (output.Segment k s) e at = absurd e
symbol_behind n front output.Group e at = absurd e
symbol_behind n front (output.External k s) e at = at
symbol_behind n front (output.Communal k s) e at = at
symbol_behind n front (output.Public k s) e at = at
symbol_behind n front (output.Data k s from to) e at = absurd e
symbol_behind n front (output.Fixups k s from to) e at = absurd e
symbol_behind n front output.End e at = absurd e

pub symbol_ends : (n : Object) (k from : ℕ) (o : Output) → OfSymbol n o → EndsBy k from o
symbol_ends n k from output.Header e = absurd e
symbol_ends n k from (output.Names names) e = absurd e
symbol_ends n k from (output.Segment j s) e = absurd e
symbol_ends n k from output.Group e = absurd e
symbol_ends n k from (output.External j s) e = tt
symbol_ends n k from (output.Communal j s) e = tt
symbol_ends n k from (output.Public j s) e = tt
symbol_ends n k from (output.Data j s a b) e = absurd e
symbol_ends n k from (output.Fixups j s a b) e = absurd e
symbol_ends n k from output.End e = absurd e

-- ... walks

pub names_walk : (n : Object) (front : List Output) (xs : List (List (List ℕ))) → ((k : ℕ) (x : List (List ℕ)) → slice_get xs k ≡ Some x → names_size x ≤ 1024)
    → AllBehind (Behind n) front (map output.Names xs)
names_walk n front [] small = tt
names_walk n front (x ∷ xs) small = (small 0 x refl, names_walk n (front ++ output.Names x ∷ []) xs (λ k y h. small (suc k) y h))

pub segments_walk : (n : Object) (front : List Output) (done todo : List Section) (k : ℕ) → n.sections ≡ done ++ todo → k ≡ length done → Defines n front (map (segment_of n) done) [] [] []
    → AllBehind (Behind n) front (map segment_output (enumerate_from k todo))
segments_walk n front done [] k all at d = tt
segments_walk n front done (s ∷ todo) k all at d = (
  record { done = done; rest = todo; sections = all; position = at; defines = d },
  segments_walk n (front ++ output.Segment k s ∷ []) (done ++ s ∷ []) todo (k + 1) (all ∙ sym (append_assoc done (s ∷ []) todo)) (omega (arith, at, length-append done (s ∷ [])))
      (record {
        names = still names_by front (output.Segment k s ∷ []) refl ∙ d.names;
        segments_are = more (segments_by n) front (output.Segment k s) ∙ ap (λ ys. ys ++ segment_of n s ∷ []) d.segments_are ∙ sym (map-append (segment_of n) done (s ∷ []));
        groups_are = still groups_by front (output.Segment k s ∷ []) refl ∙ d.groups_are;
        publics_are = still publics_by front (output.Segment k s ∷ []) refl ∙ d.publics_are;
        externals_are = still externals_by front (output.Segment k s ∷ []) refl ∙ d.externals_are;
      }),
)

pub symbols_walk : (n : Object) (front done todo : List Output) → symbol_outputs n ≡ done ++ todo → ((i : ℕ) (o : Output) → slice_get todo i ≡ Some o → OfSymbol n o)
    → Defines n front (all_segments n) flat (flat_map publics_by done) (flat_map externals_by done) → AllBehind (Behind n) front todo
symbols_walk n front done [] all are d = tt
symbols_walk n front done (o ∷ todo) all are d =
    let own : OfSymbol n o = are 0 o refl in
    let none = symbol_silent n o own in (
      symbol_behind n front o own (record { done = done; rest = todo; outputs = all; of_symbol = own; defines = d }),
      symbols_walk n (front ++ o ∷ []) (done ++ o ∷ []) todo (all ∙ sym (append_assoc done (o ∷ []) todo)) (λ i p h. are (suc i) p h)
          (record {
            names = more names_by front o ∙ ap (λ ys. flat_map names_by front ++ ys) none.0 ∙ append-nil (flat_map names_by front) ∙ d.names;
            segments_are = more (segments_by n) front o ∙ ap (λ ys. flat_map (segments_by n) front ++ ys) none.1 ∙ append-nil (flat_map (segments_by n) front) ∙ d.segments_are;
            groups_are = more groups_by front o ∙ ap (λ ys. flat_map groups_by front ++ ys) none.2 ∙ append-nil (flat_map groups_by front) ∙ d.groups_are;
            publics_are = more publics_by front o ∙ ap (λ ys. ys ++ publics_by o) d.publics_are ∙ sym (more publics_by done o);
            externals_are = more externals_by front o ∙ ap (λ ys. ys ++ externals_by o) d.externals_are ∙ sym (more externals_by done o);
          }),
    )

-- data define nothing else
ready_more : (n : Object) (front : List Output) (k : ℕ) (s : Section) (x : ℕ × ℕ) (empty : Bool) → IsReady n front
    → IsReady n (front ++ (output.Data k s x.0 x.1 ∷ (if empty then [] else output.Fixups k s x.0 x.1 ∷ [])))
ready_more n front k s x true r = record {
  names = still names_by front _ refl ∙ r.names;
  segments_are = still (segments_by n) front _ refl ∙ r.segments_are;
  groups_are = still groups_by front _ refl ∙ r.groups_are;
  publics_are = still publics_by front _ refl ∙ r.publics_are;
  externals_are = still externals_by front _ refl ∙ r.externals_are;
}
ready_more n front k s x false r = record {
  names = still names_by front _ refl ∙ r.names;
  segments_are = still (segments_by n) front _ refl ∙ r.segments_are;
  groups_are = still groups_by front _ refl ∙ r.groups_are;
  publics_are = still publics_by front _ refl ∙ r.publics_are;
  externals_are = still externals_by front _ refl ∙ r.externals_are;
}

-- later places
ends_later : (k from to : ℕ) (o : Output) → from ≤ to → EndsBy k from o → EndsBy k to o
ends_later k from to output.Header l e = tt
ends_later k from to (output.Names names) l e = tt
ends_later k from to (output.Segment j s) l e = tt
ends_later k from to output.Group l e = tt
ends_later k from to (output.External j s) l e = tt
ends_later k from to (output.Communal j s) l e = tt
ends_later k from to (output.Public j s) l e = tt
ends_later k from to (output.Data j s a b) l (inl e) = inl e
ends_later k from to (output.Data j s a b) l (inr e) = inr (e.0, omega (arith, e.1, l))
ends_later k from to (output.Fixups j s a b) l (inl e) = inl e
ends_later k from to (output.Fixups j s a b) l (inr e) = inr (e.0, omega (arith, e.1, l))
ends_later k from to output.End l e = tt

ends_next : (k from : ℕ) (o : Output) → EndsBy k from o → EndsBy (k + 1) 0 o
ends_next k from output.Header e = tt
ends_next k from (output.Names names) e = tt
ends_next k from (output.Segment j s) e = tt
ends_next k from output.Group e = tt
ends_next k from (output.External j s) e = tt
ends_next k from (output.Communal j s) e = tt
ends_next k from (output.Public j s) e = tt
ends_next k from (output.Data j s a b) (inl e) = inl (omega (arith, e))
ends_next k from (output.Data j s a b) (inr e) = inl (omega (arith, e.0))
ends_next k from (output.Fixups j s a b) (inl e) = inl (omega (arith, e))
ends_next k from (output.Fixups j s a b) (inr e) = inl (omega (arith, e.0))
ends_next k from output.End e = tt

-- those of a piece end where it ends
piece_ends : (k : ℕ) (s : Section) (x : ℕ × ℕ) (empty : Bool) (i : ℕ) (o : Output)
    → slice_get (output.Data k s x.0 x.1 ∷ (if empty then [] else output.Fixups k s x.0 x.1 ∷ [])) i ≡ Some o → EndsBy k x.1 o
piece_ends k s x empty zero o h = subst (EndsBy k x.1) (same_Some (output.Data k s x.0 x.1) o h) (inr (refl, omega arith))
piece_ends k s x true (suc i) o h = absurd (none-some o h)
piece_ends k s x false (suc zero) o h = subst (EndsBy k x.1) (same_Some (output.Fixups k s x.0 x.1) o h) (inr (refl, omega arith))
piece_ends k s x false (suc (suc i)) o h = absurd (none-some o h)

-- what a walk over data leaves
record IsWalked (n : Object) (k : ℕ) (front os : List Output) : Type 0 where
  all : AllBehind (Behind n) front os
  ready : IsReady n (front ++ os)
  ended : (i : ℕ) (o : Output) → slice_get (front ++ os) i ≡ Some o → EndsBy (k + 1) 0 o

pieces_walk : (n : Object) (k : ℕ) (s : Section) (from : ℕ) (xs : List (ℕ × ℕ)) (front : List Output) → slice_get n.sections k ≡ Some s
    → Follow (offsets_of n k) from (length s.bytes) xs → IsReady n front
    → ((i : ℕ) (o : Output) → slice_get front i ≡ Some o → EndsBy k from o) → IsWalked n k front (flat_map (piece_outputs n k s) xs)
pieces_walk n k s from [] front here f ready ended = record {
  all = tt;
  ready = subst (IsReady n) (sym (append-nil front)) ready;
  ended = λ i o h. ends_next k from o (ended i o (ap (λ ys. slice_get ys i) (sym (append-nil front)) ∙ h));
}
pieces_walk n k s from (x ∷ xs) front here f ready ended =
    by (nat_eq (length (fields_between n k x.0 x.1)) 0)
    (λ empty. pieces_walk n k s x.1 xs (front ++ (output.Data k s x.0 x.1 ∷ (if empty then [] else output.Fixups k s x.0 x.1 ∷ []))) here f.4 (ready_more n front k s x empty ready)
    (each_append (EndsBy k x.1) front _ (λ i o h. ends_later k from x.1 o (omega (arith, f.1)) (ended i o h)) (piece_ends k s x empty)))
  where
    data_at : IsDataAt n front k s x.0 x.1
    data_at = record {
      ready = ready;
      section = here;
      some = omega (arith, f.0, f.1);
      inside = f.2;
      whole = f.3;
      earlier = λ i o h. ends_later k from x.0 o (omega (arith, f.0)) (ended i o h);
    }

    first : (empty : Bool) → AllBehind (Behind n) front (output.Data k s x.0 x.1 ∷ (if empty then [] else output.Fixups k s x.0 x.1 ∷ []))
    first true = (data_at, tt)
    first false = (data_at, ((front, refl, data_at), tt))

    by : (empty : Bool) → ((empty : Bool) → IsWalked n k (front ++ (output.Data k s x.0 x.1 ∷ (if empty then [] else output.Fixups k s x.0 x.1 ∷ []))) (flat_map (piece_outputs n k s) xs))
        → IsWalked n k front ((output.Data k s x.0 x.1 ∷ (if empty then [] else output.Fixups k s x.0 x.1 ∷ [])) ++ flat_map (piece_outputs n k s) xs)
    by empty later =
        let own : List Output = output.Data k s x.0 x.1 ∷ (if empty then [] else output.Fixups k s x.0 x.1 ∷ []) in
        let rest : List Output = flat_map (piece_outputs n k s) xs in
        let r : IsWalked n k (front ++ own) rest = later empty in
        let e : (front ++ own) ++ rest ≡ front ++ (own ++ rest) = append_assoc front own rest in
        record {
          all = all_append (Behind n) front own rest (first empty) r.all;
          ready = subst (IsReady n) e r.ready;
          ended = λ i o h. r.ended i o (ap (λ ys. slice_get ys i) e ∙ h);
        }

-- what sections are to have for their data
abbrev pub HasApart : Object → ℕ → Section → Type 0
HasApart n k s = AreApart (offsets_of n k) (length s.bytes)

pub sections_walk : (n : Object) (front : List Output) (k : ℕ) (ss : List Section) → ((j : ℕ) (s : Section) → slice_get ss j ≡ Some s → slice_get n.sections (k + j) ≡ Some s)
    → ((j : ℕ) (s : Section) → slice_get n.sections j ≡ Some s → HasApart n j s) → IsReady n front → ((i : ℕ) (o : Output) → slice_get front i ≡ Some o → EndsBy k 0 o)
    → AllBehind (Behind n) front (flat_map (data_outputs n) (enumerate_from k ss))
unfolding pieces_of
sections_walk n front k [] are apart ready ended = tt
sections_walk n front k (s ∷ ss) are apart ready ended =
    let z : k + 0 ≡ k = omega arith in
    let here : slice_get n.sections k ≡ Some s = ap (slice_get n.sections) (sym z) ∙ are 0 s refl in
    let w : IsWalked n k front (data_outputs n (k, s))
    = pieces_walk n k s 0 (pieces_of n k s) front here (pieces_follow (length s.bytes) (offsets_of n k) (length s.bytes) 0 (apart k s here) (omega arith) (omega arith)) ready ended in
    all_append (Behind n) front (data_outputs n (k, s)) (flat_map (data_outputs n) (enumerate_from (k + 1) ss)) w.all
    (sections_walk n (front ++ data_outputs n (k, s)) (k + 1) ss (λ j t h. let e : k + 1 + j ≡ k + suc j = omega arith in ap (slice_get n.sections) e ∙ are (suc j) t h) apart w.ready w.ended)
