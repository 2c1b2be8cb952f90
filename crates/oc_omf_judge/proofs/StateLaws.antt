-- What is defined and in force grows by one entry, or by one thread or fixup.
use Rattle.std.proofs.Common.{◌≡◌, ℕ, ◌+◌, Bool, true, false, cond, List, [], ◌∷◌, ◌++◌, take, Option, Some, None, Result, Ok, refl, sym, ◌∙◌, ap, append-nil}
use Rattle.std.specs.Prelude.{◌&&◌, nat_eq, flat_map, slice_get}
use Rattle.std.proofs.lemmas.Grind.{flat_map-append, fold-append}
use Rattle.oc_linking.specs.Numbers.{or_else}
use Rattle.oc_neutral.proofs.FieldLists.{take_here}
use Rattle.oc_omf.specs.{declared.cut.Cut.{Cut}, declared.structures.Method.{Method}, declared.structures.Subrecord.{Subrecord}}
use Rattle.oc_omf.specs.{declared.structures.Thread.{Thread}, declared.threads.Threads.{Threads}, Entries.{Entry, all_read}, Tables.{Tables, tables_of}}
use Rattle.oc_omf.specs.{Fixups.{PlacedSubrecord, thread_by, thread_after}, Known.{AreInForce, IsThreadTaken, thread_in}, Symbols.{agree}}
use Rattle.oc_omf.specs.declared.structures.Subrecord.TheVariants as subrecord

-- what a list of structures of each entry gives, with one entry more
listed_more : {X : Type 0} (of : Entry → List X) (entries : List Entry) (i : ℕ) (e : Entry) → slice_get entries i ≡ Some e
    → flat_map of (take (i + 1) entries) ≡ flat_map of (take i entries) ++ of e
listed_more of entries i e here =
    ap (flat_map of) (take_here entries i e here) ∙ flat_map-append of (take i entries) (e ∷ []) ∙ ap (λ xs. flat_map of (take i entries) ++ xs) (append-nil (of e))

-- what is defined, and what an entry defines behind it
abbrev pub with_entry : Tables → Entry → Tables
with_entry t e = record {
  names = t.names ++ all_read e.names;
  segments = t.segments ++ all_read e.segments;
  groups = t.groups ++ all_read e.groups;
  publics = t.publics ++ all_read e.publics;
  externals = t.externals ++ all_read e.externals;
  pieces = t.pieces ++ all_read e.pieces;
}

-- one entry more
pub tables_more : (entries : List Entry) (i : ℕ) (e : Entry) → slice_get entries i ≡ Some e → tables_of (take (i + 1) entries) ≡ with_entry (tables_of (take i entries)) e
unfolding tables_of
tables_more entries i e here = rw (
  listed_more (λ (x : Entry). all_read x.names) entries i e here,
  listed_more (λ (x : Entry). all_read x.segments) entries i e here,
  listed_more (λ (x : Entry). all_read x.groups) entries i e here,
  listed_more (λ (x : Entry). all_read x.publics) entries i e here,
  listed_more (λ (x : Entry). all_read x.externals) entries i e here,
  listed_more (λ (x : Entry). all_read x.pieces) entries i e here,
) refl

-- the thread in force, behind one subrecord more
pub thread_more : (earlier : List PlacedSubrecord) (x : PlacedSubrecord) (frame : Bool) (number : ℕ)
    → thread_after (earlier ++ x ∷ []) frame number ≡ or_else (thread_by frame number x.part) (thread_after earlier frame number)
thread_more earlier x frame number = fold-append (λ (told : Option Method) (y : PlacedSubrecord). or_else (thread_by frame number y.part) told) None earlier (x ∷ [])

-- a thread is in force behind it
pub force_thread : (earlier : List PlacedSubrecord) (x : PlacedSubrecord) (t : Thread) (old new : Threads) → x.part ≡ Ok (subrecord.Thread t) → AreInForce earlier old → IsThreadTaken old t new → AreInForce (earlier ++ x ∷ []) new
force_thread earlier x t old new is are taken frame number =
    taken frame number ∙ by (agree frame t.frame && nat_eq t.number number)
    ∙ ap (λ (part : Result Subrecord Cut). or_else (thread_by frame number part) (thread_after earlier frame number)) (sym is)
    ∙ sym (thread_more earlier x frame number)
  where
    by : (b : Bool) → cond b (Some t.method) (thread_in old frame number) ≡ or_else (cond b (Some t.method) None) (thread_after earlier frame number)
    by true = refl
    by false = are frame number

-- what sets no thread changes none
pub force_stays : (earlier : List PlacedSubrecord) (x : PlacedSubrecord) (threads : Threads) → ((frame : Bool) (number : ℕ) → thread_by frame number x.part ≡ None) → AreInForce earlier threads → AreInForce (earlier ++ x ∷ []) threads
force_stays earlier x threads none are frame number =
    are frame number ∙ ap (λ (o : Option Method). or_else o (thread_after earlier frame number)) (sym (none frame number)) ∙ sym (thread_more earlier x frame number)
