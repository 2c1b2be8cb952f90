-- What an entry is judged by at the stage of sections, by what it is about.
use Rattle.std.proofs.Common.{◌≡◌, ℕ, ◌+◌, ◌≤◌, Bool, false, List, [], ◌∷◌, ◌++◌, Option, Some, None, Ok, Err, refl, sym, ◌∙◌, ap, append-nil}
use Rattle.std.specs.{Prelude.{flat_map, length, slice_get}, List.{cons_option}, Option.{option_map}}
use Rattle.std.proofs.lemmas.{List.{length-map, take_all}, Option.{slice_get-map}}
use Rattle.oc_base.specs.{declared.code.Code.TheVariants.{BadName, BadTable}, declared.fault.Fault.{Fault}}
use Rattle.oc_linking.specs.{Numbers.{or_else}, FirstFault.{Condition, fault_of, first_broken}}
use Rattle.oc_shelf.proofs.ReadingLaws.StageLemmas.{first_broken-append}
use Rattle.oc_omf_records.specs.{declared.records.Entry.{Entry as Record}, NextEntry.{entry_of}}
use Rattle.oc_omf.specs.{declared.topics.Topic.{Topic}, Cursor.{Reading, Read, each_read, name_read}, Structures.{group_read, piece_read, segment_read}}
use Rattle.oc_omf.specs.{Entries.{Entry, all_read, entries_in, in_file, is_wide, places_in, read_of, said_at, whole}, Tables.{Tables, tables_of}}
use Rattle.oc_omf.specs.SectionFaults.{conditions_by, conditions_on, end_conditions, group_conditions, name_conditions, own_fault, piece_conditions, section_stage, segment_conditions, whole_conditions}
use Rattle.oc_omf.specs.Topics.{said_on, topic_of}
use Rattle.oc_omf.specs.declared.topics.Topic.TheVariants as topic
use Rattle.oc_omf_judge.specs.Defined.{and_entry, before_in, part_of}
use Rattle.oc_omf.proofs.EntryLemmas.{conditions_at}
use Rattle.oc_omf_judge.proofs.{StateLaws.{tables_more}, TopicLemmas.{said_topic}}

-- ... structures with their places in the file

pub read_in_file : {X : Type 0} (place : ℕ) (xs : List (Read X)) → all_read (in_file place xs) ≡ all_read xs
read_in_file place [] = refl
read_in_file place (x ∷ xs) = ap (cons_option (read_of x)) (read_in_file place xs)

pub names_in_file : (place : ℕ) (x : ℕ × ℕ) (names : List (Read (List ℕ))) → name_conditions x (in_file place names) ≡ name_conditions x names
names_in_file place x [] = refl
names_in_file place x (n ∷ names) = ap (λ cs. whole_conditions (own_fault x BadName) (λ name. []) n ++ cs) (names_in_file place x names)

-- what is read of the one structure of an entry
pub whole_read : {X : Type 0} (place : ℕ) (r : Reading X) (x : X) → part_of r ≡ Some x → all_read (whole place r) ≡ x ∷ []
whole_read place (Ok r) x e = ap (λ o. cons_option o []) e
whole_read {X} place (Err c) x e = ap (λ o. cons_option {X = X} o []) e

-- ... the conditions that are left

or_none : (a : Option Fault) → or_else a None ≡ a
or_none None = refl
or_none (Some x) = refl

-- those of one structure, where nothing stands behind it
alone : (cs : List Condition) (t : Tables) (x : ℕ × ℕ) → first_broken ((cs ++ []) ++ end_conditions t x false) ≡ first_broken cs
alone cs t x = first_broken-append (cs ++ []) (end_conditions t x false) ∙ or_none (first_broken (cs ++ [])) ∙ ap first_broken (append-nil cs)

-- the conditions on the one structure of an entry
one_whole : {X : Type 0} (place : ℕ) (t : Tables) (x : ℕ × ℕ) (cut : Fault) (conditions : X → List Condition) (r : Reading X)
    → first_broken (flat_map (whole_conditions cut conditions) (whole place r) ++ end_conditions t x false) ≡ first_broken (conditions_by cut conditions r)
one_whole place t x cut conditions (Ok r) = alone (conditions r.0) t x
one_whole place t x cut conditions (Err c) = refl

pub names_judged : (t : Tables) (x : ℕ × ℕ) (place : ℕ) (wide : Bool) (b : List ℕ)
    → first_broken (conditions_on t x (said_on topic.Names place wide b)) ≡ first_broken (name_conditions x (each_read name_read b 0))
unfolding conditions_on
names_judged t x place wide b =
    first_broken-append (name_conditions x (in_file place (each_read name_read b 0))) (end_conditions t x false)
    ∙ or_none (first_broken (name_conditions x (in_file place (each_read name_read b 0))))
    ∙ ap first_broken (names_in_file place x (each_read name_read b 0))

pub segment_judged : (t : Tables) (x : ℕ × ℕ) (place : ℕ) (wide : Bool) (b : List ℕ)
    → first_broken (conditions_on t x (said_on topic.Segment place wide b)) ≡ first_broken (conditions_by (own_fault x BadTable) (segment_conditions t x) (segment_read wide b 0))
unfolding conditions_on
segment_judged t x place wide b = one_whole place t x (own_fault x BadTable) (segment_conditions t x) (segment_read wide b 0)

pub group_judged : (t : Tables) (x : ℕ × ℕ) (place : ℕ) (wide : Bool) (b : List ℕ)
    → first_broken (conditions_on t x (said_on topic.Group place wide b))
    ≡ first_broken (conditions_by (own_fault x BadTable) (group_conditions (length t.names) (length t.segments) x) (group_read b 0))
unfolding conditions_on
group_judged t x place wide b = one_whole place t x (own_fault x BadTable) (group_conditions (length t.names) (length t.segments) x) (group_read b 0)

pub data_judged : (t : Tables) (x : ℕ × ℕ) (iterated : Bool) (place : ℕ) (wide : Bool) (b : List ℕ)
    → first_broken (conditions_on t x (said_on (topic.Data iterated) place wide b)) ≡ first_broken (conditions_by (own_fault x BadTable) (piece_conditions t x) (piece_read wide iterated b 0))
unfolding conditions_on
data_judged t x iterated place wide b = one_whole place t x (own_fault x BadTable) (piece_conditions t x) (piece_read wide iterated b 0)

pub others_judged : (t : Tables) (x : ℕ × ℕ) (ends : Bool) (place : ℕ) (wide : Bool) (b : List ℕ)
    → first_broken (conditions_on t x (said_on (topic.Others ends) place wide b)) ≡ first_broken (end_conditions t x ends)
unfolding conditions_on
others_judged t x ends place wide b = refl

-- symbols, threads and fixups are judged later
pub later_judged : (t : Tables) (x : ℕ × ℕ) (e : Entry) → e.names ≡ [] → e.segments ≡ [] → e.groups ≡ [] → e.pieces ≡ [] → e.ends ≡ false → first_broken (conditions_on t x e) ≡ None
unfolding conditions_on
later_judged t x e n s g p f = rw (n, s, g, p, f) refl

-- ... the loop

-- entry i of a file
pub entry_there : (file : List ℕ) (i at : ℕ) → slice_get (places_in file) i ≡ Some at
    → slice_get (entries_in file) i ≡ Some (said_on (topic_of (entry_of file at).kind) at (is_wide (entry_of file at).kind) (entry_of file at).contents)
unfolding entries_in
entry_there file i at here =
    slice_get-map (said_at file) (places_in file) i ∙ ap (option_map (said_at file)) here
    ∙ ap (λ e. Some e) (said_topic at (entry_of file at).kind (entry_of file at).contents)

-- its fault
pub section_here : (file : List ℕ) (i place : ℕ) (e : Entry) → slice_get (entries_in file) i ≡ Some e → e.place ≡ place
    → fault_of (section_stage (entries_in file)) i ≡ first_broken (conditions_on (before_in file i) (i, place) e)
section_here file i place e here at =
    conditions_at (λ (x : ℕ × Entry). conditions_on (before_in file i) (x.0, x.1.place) x.1) (entries_in file) i e here
    ∙ ap (λ (p : ℕ). first_broken (conditions_on (before_in file i) (i, p) e)) at

-- the same, by what a reader knows of it
pub entry_here : (file : List ℕ) (i : ℕ) (r : Record) (about : Topic) (wide : Bool) → slice_get (places_in file) i ≡ Some r.place → r ≡ entry_of file r.place
    → about ≡ topic_of r.kind → wide ≡ is_wide r.kind → slice_get (entries_in file) i ≡ Some (said_on about r.place wide r.contents)
entry_here file i r about wide here is a w =
    entry_there file i r.place here
    ∙ ap (λ (q : Record). Some (said_on (topic_of q.kind) r.place (is_wide q.kind) q.contents)) (sym is)
    ∙ ap (λ (x : Topic). Some (said_on x r.place (is_wide r.kind) r.contents)) (sym a)
    ∙ ap (λ (x : Bool). Some (said_on about r.place x r.contents)) (sym w)

-- what is defined behind it
pub defined_behind : (file : List ℕ) (i : ℕ) (e : Entry) → slice_get (entries_in file) i ≡ Some e → before_in file (i + 1) ≡ and_entry (before_in file i) e
defined_behind file i e here = tables_more (entries_in file) i e here

-- there are as many entries as places
pub entry_count : (file : List ℕ) → length (entries_in file) ≡ length (places_in file)
unfolding entries_in
entry_count file = length-map (places_in file) (said_at file)

-- behind the last, all is defined
pub all_behind : (file : List ℕ) (i : ℕ) → length (entries_in file) ≤ i → before_in file i ≡ tables_of (entries_in file)
all_behind file i last = ap tables_of (take_all i (entries_in file) last)
