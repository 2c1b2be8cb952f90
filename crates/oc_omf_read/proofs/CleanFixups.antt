-- Fixups of a module without a fault of relocations: each that is judged has a row, and meets none before it.
use Rattle.std.proofs.Common.{◌≡◌, ℕ, zero, suc, ◌+◌, ◌<◌, ◌≤◌, Bool, true, false, cond, List, [], ◌∷◌, ◌++◌, length, take, Option, None, Some, Result, Ok, Err, refl, sym, ◌∙◌, ap, subst, arith, append-nil, drop, length-append}
use Rattle.std.specs.{Prelude.{◌&&◌, not, nat_eq, nat_le, flat_map, slice_get}, List.{AllByRecursion, enumerate_from, list_any}, Option.{option_map_or}}
use Rattle.std.proofs.lemmas.{Bool.Decides.{nat_tests}, Grind.{flat_map-append}, List.{append_assoc, take-append-drop}}
use Rattle.std.proofs.lemmas.{Option.{none-some, same_Some, slice_get_within}, Bool.{not-false}}
use Rattle.oc_linking.specs.{declared.terms.Keep.{Keep}, Numbers.{or_else}, FirstFault.{fault_of, first_broken, first_fault}}
use Rattle.oc_base.specs.declared.code.Code.TheVariants.{BadTarget}
use Rattle.oc_neutral.proofs.{FieldLists.{take_here}, Mapped.{all_from}}
use Rattle.oc_shelf.proofs.{WritingLaws.MemberLemmas.{each_enumerated, each_flat_map, each_map}, ReadingLaws.StageLemmas.{all_hold, clean_at}}
use Rattle.oc_omf.specs.{declared.constants.TheConstants.{OFFSET_32}, declared.cut.Cut.{Cut}, declared.structures.Datum.{Datum}}
use Rattle.oc_omf.specs.{declared.structures.Fixup.{Fixup}, declared.structures.Method.{Method}, declared.structures.Thread.{Thread}}
use Rattle.oc_omf.specs.{declared.structures.Subrecord.{Subrecord}, Cursor.{Read}, Entries.{Entry, all_read}, Symbols.{agree}}
use Rattle.oc_omf.specs.{Tables.{Tables, is_there, tables_of}, Fields.{aim_of, fixups_in}}
use Rattle.oc_omf.specs.Fixups.{Fixed, PlacedSubrecord, fixed_from, fixed_in, fixed_of, is_inside, meet, method_of, subrecords_by, subrecords_upto, thread_after, thread_by, with_fixed}
use Rattle.oc_omf.specs.RelocationFaults.{fixup_conditions, has_row, is_datum_there, is_judged, relocation_conditions, relocation_fault, relocation_stage, relocation_stages}
use Rattle.oc_omf.specs.Targets.{Meaning, meaning_of}
use Rattle.oc_omf.specs.declared.structures.Datum.TheVariants as datum
use Rattle.oc_omf.specs.declared.structures.Subrecord.TheVariants as subrecord
use Rattle.oc_omf.proofs.EntryLemmas.{numbered_at}
use Rattle.oc_omf_judge.proofs.StateLaws.{thread_more}
use Rattle.oc_omf_read.proofs.LocalLemmas.{stage_clean}

-- ... lists of threads and fixups

-- fixups in two lists, one behind the other
pub fixed_behind : (earlier xs ys : List PlacedSubrecord) → fixed_from earlier (xs ++ ys) ≡ fixed_from earlier xs ++ fixed_from (earlier ++ xs) ys
fixed_behind earlier [] ys = ap (λ (zs : List PlacedSubrecord). fixed_from zs ys) (sym (append-nil earlier))
fixed_behind earlier (x ∷ xs) ys =
    by x.part (fixed_from (earlier ++ x ∷ []) (xs ++ ys)) (fixed_from (earlier ++ x ∷ []) xs) (fixed_from (earlier ++ x ∷ xs) ys)
    (fixed_behind (earlier ++ x ∷ []) xs ys ∙ ap (λ (zs : List PlacedSubrecord). fixed_from (earlier ++ x ∷ []) xs ++ fixed_from zs ys) (append_assoc earlier (x ∷ []) xs))
  where
    by : (r : Result Subrecord Cut) (all front back : List Fixed) → all ≡ front ++ back
        → with_fixed earlier (record { index = x.index; at = x.at; part = r; before = x.before }) all ≡ with_fixed earlier (record { index = x.index; at = x.at; part = r; before = x.before }) front ++ back
    by (Ok (subrecord.Fixup f)) all front back e = ap (λ (zs : List Fixed). fixed_of earlier x.before f ∷ zs) e
    by (Ok (subrecord.Thread t)) all front back e = e
    by (Err c) all front back e = e

-- of one entry more
pub placed_more : (es : List Entry) (i : ℕ) (e : Entry) → slice_get es i ≡ Some e → subrecords_upto es (i + 1) ≡ subrecords_upto es i ++ subrecords_by es (i, e)
unfolding subrecords_upto
placed_more es i e here =
    let xs = enumerate_from 0 es in
    ap (flat_map (subrecords_by es)) (take_here xs i (i, e) (numbered_at es i e here)) ∙ flat_map-append (subrecords_by es) (take i xs) ((i, e) ∷ [])
    ∙ ap (λ ys. subrecords_upto es i ++ ys) (append-nil (subrecords_by es (i, e)))

pub none_placed : (es : List Entry) → subrecords_upto es 0 ≡ []
unfolding subrecords_upto
none_placed es = refl

entry_there : (es : List Entry) (i : ℕ) → i < length es → (e : Entry) × (slice_get es i ≡ Some e)
entry_there [] i low = absurd (omega (arith, low))
entry_there (e ∷ es) zero low = (e, refl)
entry_there (e ∷ es) (suc i) low = entry_there es i (omega (arith, low))

module _ (m : Meaning) (keep : Keep) where
  -- subrecords behind others, each without a fault
  abbrev pub AreClean : List PlacedSubrecord → List PlacedSubrecord → Type 0
  AreClean earlier [] = Unit {0}
  AreClean earlier (x ∷ xs) = (first_broken (relocation_conditions m keep earlier x) ≡ None) × AreClean (earlier ++ x ∷ []) xs

  clean_by : (earlier xs : List PlacedSubrecord) → ((j : ℕ) (x : PlacedSubrecord) → slice_get xs j ≡ Some x → first_broken (relocation_conditions m keep (earlier ++ take j xs) x) ≡ None) → AreClean earlier xs
  clean_by earlier [] each = tt
  clean_by earlier (x ∷ xs) each = (
    ap (λ (ys : List PlacedSubrecord). first_broken (relocation_conditions m keep ys x)) (sym (append-nil earlier)) ∙ each 0 x refl,
    clean_by (earlier ++ x ∷ []) xs (λ j y here. ap (λ (ys : List PlacedSubrecord). first_broken (relocation_conditions m keep ys y)) (append_assoc earlier (x ∷ []) (take j xs)) ∙ each (suc j) y here),
  )

  clean_append : (earlier xs ys : List PlacedSubrecord) → AreClean earlier xs → AreClean (earlier ++ xs) ys → AreClean earlier (xs ++ ys)
  clean_append earlier [] ys first second = subst (λ (zs : List PlacedSubrecord). AreClean zs ys) (append-nil earlier) second
  clean_append earlier (x ∷ xs) ys first second =
      (first.0, clean_append (earlier ++ x ∷ []) xs ys first.1 (subst (λ (zs : List PlacedSubrecord). AreClean zs ys) (sym (append_assoc earlier (x ∷ []) xs)) second))

  -- what a method names is there
  abbrev pub AreThere : Option Method → Type 0
  AreThere o = (method : Method) → o ≡ Some method → is_there m.tables method ≡ true

  -- so it is where it is told by an index, or by a thread that is in force
  abbrev IsKnown : Datum → Tables → Option Method → Type 0
  IsKnown d before found = is_datum_there before d found ≡ true → AreThere found

  -- what is there stays there
  abbrev pub Grows : PlacedSubrecord → Type 0
  Grows x = (method : Method) → is_there x.before method ≡ true → is_there m.tables method ≡ true

  -- a fixup behind others that is without a fault
  pub record IsGood (before : List Fixed) (f : Fixed) : Type 0 where
    pub location : nat_eq f.fixup.location OFFSET_32 ≡ true
    pub inside : is_inside f ≡ true
    pub known : AreThere f.target
    pub row : has_row m f (aim_of m f) ≡ true
    pub apart : list_any (meet f) before ≡ false

  good_by : (before : List Fixed) (x : PlacedSubrecord) (f : Fixed) → IsKnown f.fixup.target x.before f.target → first_broken (fixup_conditions m before x f) ≡ None → IsGood before f
  unfolding fixup_conditions
  good_by before x f known clean =
      let holds = all_hold (fixup_conditions m before x f) clean in
      record {
        location = not-false (nat_eq f.fixup.location OFFSET_32) holds.0;
        inside = not-false (is_inside f) holds.1.0;
        known = known (not-false (is_datum_there x.before f.fixup.target f.target) holds.1.1.0);
        row = not-false (has_row m f (aim_of m f)) holds.1.1.1.1.0;
        apart = holds.1.1.1.1.1.0;
      }

  -- fixups behind others, of which each that is judged is without a fault
  abbrev pub AreGood : List Fixed → List Fixed → Type 0
  AreGood before [] = Unit {0}
  AreGood before (f ∷ fs) = (is_judged m.tables keep f ≡ true → IsGood before f) × AreGood (before ++ f ∷ []) fs

  fixed_more : (earlier : List PlacedSubrecord) (x : PlacedSubrecord) → fixed_in (earlier ++ x ∷ []) ≡ fixed_in earlier ++ with_fixed earlier x []
  unfolding fixed_in
  fixed_more earlier x = fixed_behind [] earlier (x ∷ [])

  -- the threads of targets in force name what is there
  abbrev Threaded : List PlacedSubrecord → Type 0
  Threaded earlier = (number : ℕ) → AreThere (thread_after earlier false number)

  threaded_more : (earlier : List PlacedSubrecord) (x : PlacedSubrecord) → Threaded earlier → Grows x → first_broken (relocation_conditions m keep earlier x) ≡ None → Threaded (earlier ++ x ∷ [])
  unfolding relocation_conditions
  threaded_more earlier x threaded grows clean number method is = by x.part clean (sym (thread_more earlier x false number) ∙ is)
    where
      of : (t : Thread) (b : Bool) → is_there x.before t.method ≡ true → or_else (cond b (Some t.method) None) (thread_after earlier false number) ≡ Some method → is_there m.tables method ≡ true
      of t b there e = grind arith

      by : (r : Result Subrecord Cut) → first_broken (relocation_conditions m keep earlier (record { index = x.index; at = x.at; part = r; before = x.before })) ≡ None
          → or_else (thread_by false number r) (thread_after earlier false number) ≡ Some method → is_there m.tables method ≡ true
      by (Ok (subrecord.Thread t)) clean e =
          of t (agree false t.frame && nat_eq t.number number)
          (not-false (is_there x.before t.method) (all_hold ((not (is_there x.before t.method), relocation_fault (record { index = x.index; at = x.at; part = Ok (subrecord.Thread t); before = x.before }) BadTarget) ∷ []) clean).0) e
      by (Ok (subrecord.Fixup f)) clean e = threaded number method e
      by (Err c) clean e = threaded number method e

  known_by : (earlier : List PlacedSubrecord) (x : PlacedSubrecord) (f : Fixup) → Threaded earlier → Grows x → IsKnown f.target x.before (method_of earlier false f.target)
  known_by earlier x f threaded grows = by f.target
    where
      by : (d : Datum) → IsKnown d x.before (method_of earlier false d)
      by d there other e = grind arith

  good_from : (earlier xs : List PlacedSubrecord) → AllByRecursion Grows xs → Threaded earlier → AreClean earlier xs → AreGood (fixed_in earlier) (fixed_from earlier xs)
  unfolding relocation_conditions fixed_in
  good_from earlier [] grow threaded clean = tt
  good_from earlier (x ∷ xs) grow threaded clean =
      by x.part clean.0 (subst (λ (zs : List Fixed). AreGood zs (fixed_from (earlier ++ x ∷ []) xs)) (fixed_more earlier x) (good_from (earlier ++ x ∷ []) xs grow.1 (threaded_more earlier x threaded grow.0 clean.0) clean.1))
    where
      judged : (y : PlacedSubrecord) (f : Fixed) → IsKnown f.fixup.target y.before f.target → first_broken (cond (is_judged m.tables keep f) (fixup_conditions m (fixed_in earlier) y f) []) ≡ None → is_judged m.tables keep f ≡ true
          → IsGood (fixed_in earlier) f
      judged y f known clean is = good_by (fixed_in earlier) y f known (ap (λ b. first_broken (cond b (fixup_conditions m (fixed_in earlier) y f) [])) (sym is) ∙ clean)

      by : (r : Result Subrecord Cut) → first_broken (relocation_conditions m keep earlier (record { index = x.index; at = x.at; part = r; before = x.before })) ≡ None
          → AreGood (fixed_in earlier ++ with_fixed earlier (record { index = x.index; at = x.at; part = r; before = x.before }) []) (fixed_from (earlier ++ x ∷ []) xs)
          → AreGood (fixed_in earlier) (with_fixed earlier (record { index = x.index; at = x.at; part = r; before = x.before }) (fixed_from (earlier ++ x ∷ []) xs))
      by (Ok (subrecord.Fixup f)) clean rest =
          (judged (record { index = x.index; at = x.at; part = Ok (subrecord.Fixup f); before = x.before }) (fixed_of earlier x.before f) (known_by earlier x f threaded grow.0) clean, rest)
      by (Ok (subrecord.Thread t)) clean rest = subst (λ (zs : List Fixed). AreGood zs (fixed_from (earlier ++ x ∷ []) xs)) (append-nil (fixed_in earlier)) rest
      by (Err c) clean rest = subst (λ (zs : List Fixed). AreGood zs (fixed_from (earlier ++ x ∷ []) xs)) (append-nil (fixed_in earlier)) rest

  good_at : (before fs : List Fixed) → AreGood before fs → (p : ℕ) (f : Fixed) → slice_get fs p ≡ Some f → is_judged m.tables keep f ≡ true → IsGood (before ++ take p fs) f
  good_at before [] good p f here is = absurd (none-some f here)
  good_at before (g ∷ gs) good zero f here is =
      subst (λ (zs : List Fixed). IsGood zs f) (sym (append-nil before)) (subst (λ (h : Fixed). is_judged m.tables keep h ≡ true → IsGood before h) (same_Some g f here) good.0 is)
  good_at before (g ∷ gs) good (suc p) f here is =
      subst (λ (zs : List Fixed). IsGood zs f) (append_assoc before (g ∷ []) (take p gs)) (good_at (before ++ g ∷ []) gs good.1 p f here is)

-- what holds of each thread and fixup of a module
pub each_placed : (es : List Entry) (P : PlacedSubrecord → Type 0) → ((i : ℕ) (e : Entry) (s : Read Subrecord) → slice_get es i ≡ Some e → P (record { index = i; at = s.at; part = s.part; before = tables_of (take i es) }))
    → AllByRecursion P (subrecords_upto es (length es))
unfolding subrecords_upto
each_placed es P each = all_from P (flat_map (subrecords_by es) (take (length es) (enumerate_from 0 es)))
    (each_flat_map P (subrecords_by es) (take (length es) (enumerate_from 0 es)) (λ j x at_j. each_map P (λ (s : Read Subrecord). record { index = x.0; at = s.at; part = s.part; before = tables_of (take x.0 es) }) x.1.subrecords (λ k s at_k.
    each x.0 x.1 s (numbered_there es j x (front (length es) (enumerate_from 0 es) j x at_j)))))
  where
    front : (n : ℕ) (xs : List (ℕ × Entry)) (j : ℕ) (x : ℕ × Entry) → slice_get (take n xs) j ≡ Some x → slice_get xs j ≡ Some x
    front zero xs j x e = absurd (none-some x e)
    front (suc n) [] j x e = absurd (none-some x e)
    front (suc n) (y ∷ ys) zero x e = e
    front (suc n) (y ∷ ys) (suc j) x e = front n ys j x e

    numbered_there : (es : List Entry) (j : ℕ) (x : ℕ × Entry) → slice_get (enumerate_from 0 es) j ≡ Some x → slice_get es x.0 ≡ Some x.1
    numbered_there es = each_enumerated (λ (x : ℕ × Entry). slice_get es x.0 ≡ Some x.1) 0 es (λ j e h. let same : 0 + j ≡ j = omega arith in ap (slice_get es) same ∙ h)

-- what is defined in the first entries is defined in all
longer : {X : Type 0} (f : Entry → List X) (i : ℕ) (es : List Entry) → length (flat_map f (take i es)) ≤ length (flat_map f es)
longer f i es =
    let same = ap (λ xs. length (flat_map f xs)) (take-append-drop i es) in
    let both = ap length (flat_map-append f (take i es) (drop i es)) in
    let sum = length-append (flat_map f (take i es)) (flat_map f (drop i es)) in
    omega (arith, same, both, sum)

there_grows : (es : List Entry) (i : ℕ) (x : Method) → is_there (tables_of (take i es)) x ≡ true → is_there (tables_of es) x ≡ true
unfolding tables_of
there_grows es i x there =
    by (nat_eq x.number 0) (nat_eq x.number 1) (nat_eq x.number 2) there
  where
    more : (a n k : ℕ) → n ≤ k → (nat_le 1 a && nat_le a n) ≡ true → (nat_le 1 a && nat_le a k) ≡ true
    more a n k low e = grind (arith, nat_tests)

    by : (a b c : Bool)
        → cond a (nat_le 1 x.index && nat_le x.index (length (flat_map (λ (e : Entry). all_read e.segments) (take i es)))) (cond b (nat_le 1 x.index && nat_le x.index (length (flat_map (λ (e : Entry). all_read e.groups) (take i es)))) (cond c (nat_le 1 x.index && nat_le x.index (length (flat_map (λ (e : Entry). all_read e.externals) (take i es)))) true)) ≡ true
        → cond a (nat_le 1 x.index && nat_le x.index (length (flat_map (λ (e : Entry). all_read e.segments) es))) (cond b (nat_le 1 x.index && nat_le x.index (length (flat_map (λ (e : Entry). all_read e.groups) es))) (cond c (nat_le 1 x.index && nat_le x.index (length (flat_map (λ (e : Entry). all_read e.externals) es))) true)) ≡ true
    by true b c e = more x.index _ _ (longer (λ (e : Entry). all_read e.segments) i es) e
    by false true c e = more x.index _ _ (longer (λ (e : Entry). all_read e.groups) i es) e
    by false false true e = more x.index _ _ (longer (λ (e : Entry). all_read e.externals) i es) e
    by false false false e = refl

module _ (es : List Entry) (keep : Keep) (clean : first_fault (relocation_stages es keep) ≡ None) where
  clean_entry : (i : ℕ) (e : Entry) → slice_get es i ≡ Some e → AreClean (meaning_of es) keep (subrecords_upto es i) (subrecords_by es (i, e))
  clean_entry i e here =
      let stage = stage_clean (relocation_stage es keep) (enumerate_from 0 es) i (i, e) clean (numbered_at es i e here) in
      let xs : List PlacedSubrecord = subrecords_by es (i, e) in
      clean_by (meaning_of es) keep (subrecords_upto es i) xs (λ j x there.
      ap (λ (o : Option PlacedSubrecord). first_broken (option_map_or (relocation_conditions (meaning_of es) keep (subrecords_upto es i ++ take j xs)) o [])) (sym there)
      ∙ clean_at (fault_of (relocation_stage es keep (i, e))) (length xs) j stage (slice_get_within xs j x there))

  clean_upto : (i : ℕ) → i ≤ length es → AreClean (meaning_of es) keep [] (subrecords_upto es i)
  clean_upto zero low = subst (AreClean (meaning_of es) keep []) (sym (none_placed es)) tt
  clean_upto (suc i) low =
      let e = entry_there es i (omega (arith, low)) in
      let one : i + 1 ≡ suc i = omega arith in
      subst (AreClean (meaning_of es) keep []) (sym (placed_more es i e.0 e.1) ∙ ap (subrecords_upto es) one)
      (clean_append (meaning_of es) keep [] (subrecords_upto es i) (subrecords_by es (i, e.0)) (clean_upto i (omega (arith, low))) (clean_entry i e.0 e.1))

  all_good : AreGood (meaning_of es) keep [] (fixups_in es)
  unfolding fixed_in meaning_of
  all_good =
      good_from (meaning_of es) keep [] (subrecords_upto es (length es)) (each_placed es (Grows (meaning_of es) keep) (λ i e s here method. there_grows es i method)) (λ number method e. absurd (none-some method e))
      (clean_upto (length es) (omega arith))

  -- each fixup that is judged is without a fault, behind those before it
  pub good_fixup : (p : ℕ) (f : Fixed) → slice_get (fixups_in es) p ≡ Some f → is_judged (meaning_of es).tables keep f ≡ true → IsGood (meaning_of es) keep (take p (fixups_in es)) f
  good_fixup p f here is = good_at (meaning_of es) keep [] (fixups_in es) all_good p f here is
