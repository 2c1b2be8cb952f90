-- The limits that segments without a fault keep.
use Rattle.std.proofs.Common.{◌≡◌, ℕ, zero, suc, ◌+◌, ◌<◌, ◌≤◌, ◌⊎◌, inl, inr, Bool, true, false, cond, List, [], ◌∷◌, ◌++◌, length, map, Option, None, Some, refl, sym, ◌∙◌, ap, subst, arith, append-nil, length-append}
use Rattle.std.specs.{Prelude.{◌&&◌, ◌||◌, not, flat_map, nat_eq, nat_lt, slice_get}, List.{AllByRecursion, sum_by}}
use Rattle.std.specs.Option.{option_map, option_map_or, unwrap_or}
use Rattle.std.proofs.lemmas.{Bool.{eqb-true, true≢false}, Bool.Decides.{nat_tests}, List.Sums.{sum_by-append}, Option.{slice_get-map}}
use Rattle.std.proofs.Math.Seq.{take-length}
use Rattle.oc_linking.specs.FirstFault.{first_broken, stage_fault}
use Rattle.oc_shelf.proofs.ReadingLaws.StageLemmas.{all_hold}
use Rattle.oc_omf_records.specs.{declared.records.Entry.{Entry as Record}, NextEntry.{entry_of, end_of_entry, is_whole}}
use Rattle.oc_omf.specs.declared.constants.TheConstants.{EXTDEF, PUBDEF, LNAMES, SEGDEF, GRPDEF, FIXUPP, LEDATA, LIDATA, COMDEF, LEXTDEF, LPUBDEF, MODEND}
use Rattle.oc_omf.specs.{declared.structures.Segment.{Segment}, Cursor.{Reading}, Structures.{segment_read}}
use Rattle.oc_omf.specs.Entries.{Entry, all_read, entries_in, even_of, is_kind, is_wide, next_place, places_in, places_upto, said_at, says_nothing}
use Rattle.oc_omf.specs.{HeaderFaults.{IsModule}, Sections.{segment_size}, SectionFaults.{all_bytes, end_conditions, section_stage, segment_conditions}}
use Rattle.oc_omf.specs.Tables.{tables_of}
use Rattle.oc_omf.specs.Tables as all
use Rattle.oc_omf.proofs.PlaceLemmas.{few_entries, next_inside, whole_at}
use Rattle.oc_omf_judge.proofs.{StateLaws.{with_entry, tables_more}, StageLaws.{entry_count}}
use Rattle.oc_omf_read.specs.{declared.class.EntryClass.{EntryClass}, Classes.{class_of}, Defined.{read_in, said}}
use Rattle.oc_omf_read.specs.declared.class.EntryClass.TheVariants as class
use Rattle.oc_omf_read.proofs.{ClassLemmas.{read_whole}, DefinedLemmas.{entry_here, said_by_class, tables_upto}, SoundEntries.{entry_sound, segment_sound}}

-- ... an entry has one segment at most

one_at_most : {X : Type 0} (r : Reading X) → (read_in r ≡ []) ⊎ ((x : X) × (read_in r ≡ x ∷ []))
one_at_most r = grind arith

segments_of : (r : Record) (k : EntryClass) → class_of r.kind ≡ k → (all_read (said r).segments ≡ []) ⊎ ((s : Segment) × (all_read (said r).segments ≡ s ∷ []))
segments_of r class.Segment is = elim (one_at_most (segment_read (is_wide r.kind) r.contents 0)) [
  | inl none ↦ inl (ap (λ (e : Entry). all_read e.segments) (said_by_class r class.Segment is) ∙ read_whole r.place (segment_read (is_wide r.kind) r.contents 0) ∙ none)
  | inr one ↦ inr (one.0, ap (λ (e : Entry). all_read e.segments) (said_by_class r class.Segment is) ∙ read_whole r.place (segment_read (is_wide r.kind) r.contents 0) ∙ one.1)
]
segments_of r class.Names is = inl (ap (λ (e : Entry). all_read e.segments) (said_by_class r class.Names is))
segments_of r class.Group is = inl (ap (λ (e : Entry). all_read e.segments) (said_by_class r class.Group is))
segments_of r class.Publics is = inl (ap (λ (e : Entry). all_read e.segments) (said_by_class r class.Publics is))
segments_of r class.LocalPublics is = inl (ap (λ (e : Entry). all_read e.segments) (said_by_class r class.LocalPublics is))
segments_of r class.Externals is = inl (ap (λ (e : Entry). all_read e.segments) (said_by_class r class.Externals is))
segments_of r class.LocalExternals is = inl (ap (λ (e : Entry). all_read e.segments) (said_by_class r class.LocalExternals is))
segments_of r class.Communals is = inl (ap (λ (e : Entry). all_read e.segments) (said_by_class r class.Communals is))
segments_of r class.Plain is = inl (ap (λ (e : Entry). all_read e.segments) (said_by_class r class.Plain is))
segments_of r class.Iterated is = inl (ap (λ (e : Entry). all_read e.segments) (said_by_class r class.Iterated is))
segments_of r class.Fixups is = inl (ap (λ (e : Entry). all_read e.segments) (said_by_class r class.Fixups is))
segments_of r class.Nothing is = inl (ap (λ (e : Entry). all_read e.segments) (said_by_class r class.Nothing is))

-- an entry of a file is said at a place
pub record IsSaid (file : List ℕ) (i : ℕ) (e : Entry) : Type 0 where
  pub at : ℕ
  pub there : slice_get (places_in file) i ≡ Some at
  pub is : e ≡ said (entry_of file at)

pub said_here : (file : List ℕ) (i : ℕ) (e : Entry) → slice_get (entries_in file) i ≡ Some e → IsSaid file i e
unfolding entries_in
said_here file i e here = by (slice_get (places_in file) i) refl (sym (slice_get-map (said_at file) (places_in file) i) ∙ here)
  where
    by : (o : Option ℕ) → slice_get (places_in file) i ≡ o → option_map (said_at file) o ≡ Some e → IsSaid file i e
    by o h g = grind arith

module _ (file : List ℕ) (clean : stage_fault (section_stage (entries_in file)) ≡ None) where
  abbrev es : List Entry
  es = entries_in file

  sum_step : (i : ℕ) (e : Entry) → slice_get es i ≡ Some e → sum_by segment_size (tables_upto file i).segments ≤ 2147483648 → sum_by segment_size (tables_upto file (i + 1)).segments ≤ 2147483648
  sum_step i e here before =
      let m = said_here file i e here in
      let grown : (tables_upto file (i + 1)).segments ≡ (tables_upto file i).segments ++ all_read e.segments = ap (λ (t : all.Tables). t.segments) (tables_more es i e here) in
      let sum : sum_by segment_size (tables_upto file (i + 1)).segments ≡ sum_by segment_size (tables_upto file i).segments + sum_by segment_size (all_read e.segments)
      = ap (sum_by segment_size) grown ∙ sum_by-append segment_size (tables_upto file i).segments (all_read e.segments) in
      let same : all_read e.segments ≡ all_read (said (entry_of file m.at)).segments = ap (λ (x : Entry). all_read x.segments) m.is in
      elim (segments_of (entry_of file m.at) (class_of (entry_of file m.at).kind) refl) [
        | inl none ↦ let zero_of : sum_by segment_size (all_read e.segments) ≡ 0 = ap (sum_by segment_size) (same ∙ none) in omega (arith, sum, zero_of, before)
        | inr one ↦
            let is : all_read e.segments ≡ one.0 ∷ [] = same ∙ one.1 in
            let one_of : sum_by segment_size (all_read e.segments) ≡ segment_size one.0 = ap (sum_by segment_size) is ∙ (let plus : 0 + segment_size one.0 ≡ segment_size one.0 = omega arith in plus) in
            let good = subst (AllByRecursion (λ (s : Segment). first_broken (segment_conditions (tables_upto file i) (i, e.place) s) ≡ None)) is (entry_sound file clean i e here).segments in
            let few = (segment_sound (tables_upto file i) (i, e.place) one.0 good.0).few in
            omega (arith, sum, one_of, few)
      ]

  entry_at : (xs : List Entry) (i : ℕ) → i < length xs → (e : Entry) × (slice_get xs i ≡ Some e)
  entry_at [] i low = absurd (omega (arith, low))
  entry_at (x ∷ xs) zero low = (x, refl)
  entry_at (x ∷ xs) (suc i) low = entry_at xs i (omega (arith, low))

  sum_upto_few : (i : ℕ) → i ≤ length es → sum_by segment_size (tables_upto file i).segments ≤ 2147483648
  unfolding tables_of
  sum_upto_few zero low = omega arith
  sum_upto_few (suc i) low =
      let here = entry_at es i (omega (arith, low)) in
      let next : i + 1 ≡ suc i = omega arith in
      subst (λ (n : ℕ). sum_by segment_size (tables_upto file n).segments ≤ 2147483648) next (sum_step i here.0 here.1 (sum_upto_few i (omega (arith, low))))

  pub sizes_few : sum_by segment_size (tables_of es).segments ≤ 2147483648
  sizes_few = subst (λ (xs : List Entry). sum_by segment_size (tables_of xs).segments ≤ 2147483648) (take-length es) (sum_upto_few (length es) (omega arith))

-- ... how many there are

counted_step : (r : Record) → length (all_read (said r).segments) ≤ 1
counted_step r = elim (segments_of r (class_of r.kind) refl) [
  | inl none ↦ let zero_of = ap length none in omega (arith, zero_of)
  | inr one ↦ let one_of = ap length one.1 in omega (arith, one_of)
]

segments_counted : (file places : List ℕ) → length (flat_map (λ (e : Entry). all_read e.segments) (map (said_at file) places)) ≤ length places
segments_counted file [] = omega arith
segments_counted file (at ∷ places) =
    let one = counted_step (entry_of file at) in
    let rest = segments_counted file places in
    let sum = length-append (all_read (said_at file at).segments) (flat_map (λ (e : Entry). all_read e.segments) (map (said_at file) places)) in
    omega (arith, one, rest, sum)

pub few_segments : (file : List ℕ) → length (tables_of (entries_in file)).segments ≤ length file + 1
unfolding tables_of entries_in
few_segments file = let few = few_entries file in let counted = segments_counted file (places_in file) in omega (arith, few, counted)

-- ... the last entry

pub record IsEnd (file places : List ℕ) : Type 0 where
  pub j : ℕ
  pub at : ℕ
  pub there : slice_get places j ≡ Some at
  pub last : length places ≡ j + 1
  pub none : next_place file at ≡ None

places_end : (n : ℕ) (file : List ℕ) (at : ℕ) → at ≤ length file → length file < n + at → IsEnd file (places_upto n file at)
places_end zero file at low many = absurd (omega (arith, low, many))
places_end (suc n) file at low many = elim (next_place file at) as (λ o. next_place file at ≡ o → IsEnd file (at ∷ option_map_or (places_upto n file) o [])) [
  | None ↦ λ e. record { j = 0; at = at; there = refl; last = omega arith; none = e }
  | Some q ↦ λ e.
      let p = next_inside file at q e in
      let m = places_end n file q p.1 (omega (arith, many, p.0)) in
      record { j = suc m.j; at = m.at; there = m.there; last = (let long = m.last in omega (arith, long)); none = m.none }
] refl

last_place : (file : List ℕ) → IsEnd file (places_in file)
unfolding places_in
last_place file = places_end (length file + 1) file 0 (omega arith) (omega arith)

-- of an end nothing is said but that it is one
end_class : (kind : ℕ) → is_kind MODEND kind ≡ true → class_of kind ≡ class.Nothing
end_class kind is = ap (λ (n : ℕ).
    cond (nat_eq n LNAMES) class.Names (cond (nat_eq n SEGDEF) class.Segment (cond (nat_eq n GRPDEF) class.Group (unwrap_or
    (cond (nat_eq n PUBDEF) (Some class.Publics) (cond (nat_eq n LPUBDEF) (Some class.LocalPublics) (cond (nat_eq n EXTDEF) (Some class.Externals) (cond (nat_eq n LEXTDEF) (Some class.LocalExternals) (cond (nat_eq n COMDEF) (Some class.Communals) None)))))
    (cond (nat_eq n LEDATA) class.Plain (cond (nat_eq n LIDATA) class.Iterated (cond (nat_eq n FIXUPP) class.Fixups class.Nothing))))))) (eqb-true (even_of kind) MODEND is)

module _ (file : List ℕ) (head : IsModule file) (clean : stage_fault (section_stage (entries_in file)) ≡ None) where
  ends_here : (m : IsEnd file (places_in file)) → is_kind MODEND (entry_of file m.at).kind ≡ true
  ends_here m = by (is_whole file m.at) (is_kind MODEND (entry_of file m.at).kind) (whole_at file m.j m.at head.clean m.there) refl m.none
    where
      by : (w k : Bool) → w ≡ true → is_kind MODEND (entry_of file m.at).kind ≡ k → cond (not w || k) None (Some (end_of_entry file m.at)) ≡ None → k ≡ true
      by w k e f g = grind arith

  -- an entry that defines nothing changes nothing
  nothing_more : (t : all.Tables) (place : ℕ) (ends : Bool) → with_entry t (record (says_nothing place) { ends = ends }) ≡ t
  nothing_more t place ends = simp append-nil

  pub bytes_few : all_bytes (tables_of (entries_in file)) ≤ 67108864
  bytes_few = of (last_place file)
    where
      of : IsEnd file (places_in file) → all_bytes (tables_of (entries_in file)) ≤ 67108864
      of m =
          let r : Record = entry_of file m.at in
          let ends : is_kind MODEND r.kind ≡ true = ends_here m in
          let is = said_by_class r class.Nothing (end_class r.kind ends) in
          let here : slice_get (entries_in file) m.j ≡ Some (said r) = entry_here file m.j m.at r m.there refl in
          let broken = (entry_sound file clean m.j (said r) here).ends in
          let over : (true && nat_lt 67108864 (all_bytes (tables_upto file m.j))) ≡ false
          = (all_hold (end_conditions (tables_upto file m.j) (m.j, m.at) true)
          (sym (ap (λ (b : Bool). first_broken (end_conditions (tables_upto file m.j) (m.j, m.at) b)) (ap (λ (e : Entry). e.ends) is ∙ ends))
          ∙ subst (λ (p : ℕ). first_broken (end_conditions (tables_upto file m.j) (m.j, p) (said r).ends) ≡ None) (ap (λ (e : Entry). e.place) is) broken)).0 in
          let all_of : length (entries_in file) ≡ m.j + 1 = entry_count file ∙ m.last in
          let same : tables_of (entries_in file) ≡ tables_upto file m.j
          = sym (ap tables_of (take-length (entries_in file))) ∙ ap (λ (n : ℕ). tables_upto file n) all_of ∙ tables_more (entries_in file) m.j (said r) here
          ∙ ap (with_entry (tables_upto file m.j)) is ∙ nothing_more (tables_upto file m.j) m.at (is_kind MODEND r.kind) in
          ap_le same (at_most 67108864 (all_bytes (tables_upto file m.j)) over)
        where
          at_most : (a b : ℕ) → (true && nat_lt a b) ≡ false → b ≤ a
          at_most a b e = grind (arith, nat_tests)

          ap_le : {t u : all.Tables} → t ≡ u → all_bytes u ≤ 67108864 → all_bytes t ≤ 67108864
          ap_le same low = subst (λ (t : all.Tables). all_bytes t ≤ 67108864) (sym same) low
