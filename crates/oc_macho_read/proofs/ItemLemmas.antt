-- The fields of a section without faults.
use Rattle.std.proofs.Common.{Bool, List, None, Option, Some, [], ap, cond, false, find, length, nat_eq, not, refl, slice_get, subst, sym, true, true≢false, ℕ, ◌&&◌, ◌++◌, ◌+◌, ◌<◌, ◌^◌, ◌||◌, ◌∙◌, ◌∷◌, ◌≡◌, arith}
use Rattle.std.proofs.lemmas.{Bool.{eqb-true, or_parts}, Option.{none-some, same_Some, slice_get_within}}
use Rattle.std.specs.{Option.{option_and_then, option_map, option_map_or}, Prelude.{is_none, is_some}}
use Rattle.oc_base.specs.{declared.format.Word.TheVariants.{W32, W64}, declared.format.Word.{Word}}
use Rattle.oc_linking.specs.{FirstFault.{fault_of, first_broken, first_fault, stage_fault}, Fits.{bytes_of}, declared.terms.Hint.TheVariants.{Call}}
use Rattle.oc_linking.specs.{declared.terms.Keep.{Keep}, declared.terms.Width.TheVariants.{Four}, declared.terms.Width.{Width}}
use Rattle.oc_macho.specs.Aims.{aim_in, target_in}
use Rattle.oc_macho.specs.Entries.{begins, can_refer, is_first, item_at, item_with, row_for, taken_entry, taken_reference, target_entry}
use Rattle.oc_macho.specs.{Fields.{FieldParts, field_parts_by}, Sections.{is_kept}, Tables.{SectionTable, Tables}, declared.entries.Item.{Item}}
use Rattle.oc_macho.specs.{declared.relocation_info.Reference.{Reference}, declared.relocation_info.RelocationInfo.{RelocationInfo}}
use Rattle.oc_macho_read.proofs.SymbolLemmas.{number}
use Rattle.oc_macho_read.specs.Given.{AreAimed, IsTakeable}
use Rattle.oc_neutral.specs.{Mach.Relocs.{MachRow, entry_among, is_entry, length_of, mach_entries}, Normal.{Place}}
use Rattle.oc_neutral.specs.Rows.{Taken, TakesPlace, TakesSection, same_taken}
use Rattle.oc_shelf.proofs.{ReadingLaws.FirstsLemmas.{any_false}, ReadingLaws.StageLemmas.{all_hold, clean_at, clean_both, first_fault-range}}
use Rattle.oc_shelf.specs.Reading.Spans.{meets}
use Rattle.oc_macho.specs.RelocationFaults as rules
use Rattle.oc_macho.specs.Aims as aims
use Rattle.oc_macho.specs.Referents as referents
use Rattle.oc_linking.specs.declared.terms.Base.TheVariants as base

-- ... rows

-- what holds of each row of a table
abbrev AllRows : (MachRow → Type 0) → List MachRow → Type 0
AllRows P [] = Unit {0}
AllRows P (x ∷ xs) = P x × AllRows P xs

row_among : (P : MachRow → Type 0) (number pcrel len : ℕ) (m : MachRow) (xs : List MachRow) → AllRows P xs → entry_among xs number pcrel len ≡ Some m → P m × (is_entry number pcrel len m ≡ true)
row_among P number pcrel len m [] all e = absurd (none-some m e)
row_among P number pcrel len m (x ∷ xs) all e = by (is_entry number pcrel len x) refl e (row_among P number pcrel len m xs all.1)
  where
    by : (b : Bool) → is_entry number pcrel len x ≡ b → cond b (Some x) (find (is_entry number pcrel len) xs) ≡ Some m
        → (find (is_entry number pcrel len) xs ≡ Some m → P m × (is_entry number pcrel len m ≡ true)) → P m × (is_entry number pcrel len m ≡ true)
    by true f g rest = subst (λ (y : MachRow). P y × (is_entry number pcrel len y ≡ true)) (same_Some x m g) (all.0, f)
    by false f g rest = rest g

-- holds of the row of an entry
pub row_is : (P : MachRow → Type 0) (w : Word) (e : RelocationInfo) (m : MachRow) → AllRows P (mach_entries w) → row_for w e ≡ Some m → P m × (is_entry e.r_type e.r_pcrel e.r_length m ≡ true)
unfolding row_for
row_is P w e m all is = by (entry_among (mach_entries w) e.r_type e.r_pcrel e.r_length) refl is
  where
    by : (o : Option MachRow) → entry_among (mach_entries w) e.r_type e.r_pcrel e.r_length ≡ o → option_and_then (λ m. cond (can_refer m e.refers) (Some m) None) o ≡ Some m
        → P m × (is_entry e.r_type e.r_pcrel e.r_length m ≡ true)
    by None f g = absurd (none-some m g)
    by (Some n) f g = kept (can_refer n e.refers) g
      where
        kept : (b : Bool) → cond b (Some n) None ≡ Some m → P m × (is_entry e.r_type e.r_pcrel e.r_length m ≡ true)
        kept true h = subst (λ (y : MachRow). P y × (is_entry e.r_type e.r_pcrel e.r_length y ≡ true)) (same_Some n m h) (row_among P e.r_type e.r_pcrel e.r_length n (mach_entries w) all f)
        kept false h = absurd (none-some m h)

-- a field has 2 to its r_length bytes
last_of : (a b c : Bool) → (a && b && c) ≡ true → c ≡ true
last_of a b c e = grind arith

length_is : (width : Width) → bytes_of width ≡ 2 ^ length_of width
length_is width = grind arith

nothing_more : (w : Word) → AllRows (λ m. Unit {0}) (mach_entries w)
nothing_more W32 = (tt, (tt, (tt, (tt, tt))))
nothing_more W64 = (tt, (tt, (tt, (tt, (tt, (tt, (tt, (tt, (tt, (tt, (tt, tt)))))))))))

pub row_width : (w : Word) (e : RelocationInfo) (m : MachRow) → row_for w e ≡ Some m → bytes_of m.row.width ≡ 2 ^ e.r_length
row_width w e m is =
    let entry = (row_is (λ m. Unit {0}) w e m (nothing_more w) is).1 in
    length_is m.row.width
    ∙ ap (λ (n : ℕ). 2 ^ n) (eqb-true (length_of m.row.width) e.r_length (last_of (nat_eq m.row.number e.r_type) (nat_eq m.pcrel e.r_pcrel) (nat_eq (length_of m.row.width) e.r_length) entry))

-- a call takes the place of a field of four bytes
abbrev pub IsCallRow : MachRow → Type 0
IsCallRow m = m.row.hint ≡ Call → (m.row.base ≡ base.Address) × (m.row.taken ≡ TakesPlace) × (m.row.width ≡ Four)

calls : (w : Word) → AllRows IsCallRow (mach_entries w)
calls W32 = (λ e. absurd (cc), (λ e. absurd (cc), (λ e. absurd (cc), (λ e. absurd (cc), tt))))
calls W64 = (
  λ e. absurd (cc),
  (
    λ e. absurd (cc),
    (
      λ e. absurd (cc),
      (
        λ e. absurd (cc),
        (
          λ e. absurd (cc),
          (
            λ e. absurd (cc),
            (
              λ e. (refl, refl, refl),
              (λ e. absurd (cc), (λ e. absurd (cc), (λ e. absurd (cc), (λ e. absurd (cc), tt)))),
            ),
          ),
        ),
      ),
    ),
  ),
)

pub call_row : (w : Word) (e : RelocationInfo) (m : MachRow) → row_for w e ≡ Some m → IsCallRow m
call_row w e m is = (row_is IsCallRow w e m (calls w) is).0

-- ... what the field of entries has that has no fault

pub record IsGoodItem (t : Tables) (i : ℕ) (x : SectionTable) (k : ℕ) (item : Item) : Type 0 where
  pub row : MachRow
  pub listed : row_for t.word item.first ≡ Some row
  pub outside : rules.is_outside x.header item ≡ false
  pub aim : aims.Aim
  pub aimed : aim_in t (target_entry t.word item).refers ≡ Some (Some aim)
  pub taken : (r : Reference) → taken_reference t.word item ≡ Some r → IsTakeable t r
  -- a type that takes a section is that of the first of a pair
  pub paired : is_first t.word item.first ≡ true → is_some item.second ≡ true
  pub met : rules.meets_upto t x k item ≡ false
  pub wide : rules.is_too_wide t i x item ≡ false

row_there : (w : Word) (item : Item) → rules.is_unknown w item ≡ false → rules.is_no_pair w item ≡ false → (m : MachRow) × (row_for w item.first ≡ Some m)
unfolding rules.is_unknown rules.is_no_pair
row_there w item known paired = by (row_for w item.first) refl
  where
    lone : rules.is_lone_second w item.first ≡ false
    lone = (or_parts (rules.is_lone_second w item.first) (is_first w item.first && not (option_map_or (rules.are_pair w item.first) item.second false)) paired).0

    by : (o : Option MachRow) → row_for w item.first ≡ o → (m : MachRow) × (row_for w item.first ≡ Some m)
    by (Some m) e = (m, e)
    by None e =
        let first = (or_parts (is_none (row_for w item.first) && not (rules.is_lone_second w item.first)) (option_map_or (rules.is_odd_second w) item.second false) known).0 in
        absurd (true≢false (sym (ap (λ (o : Option MachRow). is_none o && not (rules.is_lone_second w item.first)) e ∙ ap (λ b. true && not b) lone) ∙ first))

-- what is not nothing, and to which a field can refer
fit_there : (slot : Bool) (o : Option (Option aims.Aim)) → referents.is_nothing (referents.referent_by o) ≡ false → referents.cannot_be_target slot (referents.referent_by o) ≡ false
    → (a : aims.Aim) × (o ≡ Some (Some a))
fit_there slot None e f = absurd (true≢false e)
fit_there slot (Some None) e f = absurd (true≢false f)
fit_there slot (Some (Some a)) e f = (a, refl)

takeable_there : (t : Tables) (r : Reference) → referents.is_nothing (referents.referent_in t r) ≡ false → referents.cannot_be_taken (referents.referent_in t r) ≡ false → IsTakeable t r
takeable_there t r e f = by (aim_in t r) refl e f
  where
    placed : (a : aims.Aim) → aim_in t r ≡ Some (Some a) → (o : Option Place) → a.place ≡ o → not (is_some o) ≡ false → IsTakeable t r
    placed a g None h i = absurd (true≢false i)
    placed a g (Some p) h i = record { aim = a; is = g; place = p; placed = h }

    by : (o : Option (Option aims.Aim)) → aim_in t r ≡ o → referents.is_nothing (referents.referent_by o) ≡ false → referents.cannot_be_taken (referents.referent_by o) ≡ false → IsTakeable t r
    by o g e f = grind arith

second_there : (w : Word) (item : Item) → rules.is_no_pair w item ≡ false → is_first w item.first ≡ true → is_some item.second ≡ true
unfolding rules.is_no_pair
second_there w item paired first =
    let both = or_parts (rules.is_lone_second w item.first) (is_first w item.first && not (option_map_or (rules.are_pair w item.first) item.second false)) paired in
    by item.second (ap (λ b. b && not (option_map_or (rules.are_pair w item.first) item.second false)) (sym first) ∙ both.1)
  where
    by : (o : Option RelocationInfo) → (true && not (option_map_or (rules.are_pair w item.first) o false)) ≡ false → is_some o ≡ true
    by o e = grind arith

good_by : (t : Tables) (i : ℕ) (x : SectionTable) (k : ℕ) (item : Item) → first_broken (rules.item_conditions t i x k item) ≡ None → IsGoodItem t i x k item
unfolding rules.form_conditions rules.target_conditions rules.refers_to_nothing rules.refers_wrongly
good_by t i x k item clean =
    let one = clean_both (rules.form_conditions t i x k item) (rules.target_conditions t i x k item ++ rules.last_conditions t i x k item) clean in
    let two = clean_both (rules.target_conditions t i x k item) (rules.last_conditions t i x k item) one.1 in
    let forms = all_hold (rules.form_conditions t i x k item) one.0 in
    let targets = all_hold (rules.target_conditions t i x k item) two.0 in
    let lasts = all_hold (rules.last_conditions t i x k item) two.1 in
    let row = row_there t.word item forms.0 forms.1.0 in
    let there = or_parts (referents.is_nothing (referents.referent_in t (target_entry t.word item).refers)) (option_map_or (λ r. referents.is_nothing (referents.referent_in t r)) (taken_reference t.word item) false) targets.0 in
    let right = or_parts (referents.cannot_be_target (referents.reads_slot (row_for t.word item.first)) (referents.referent_in t (target_entry t.word item).refers))
    (option_map_or (λ r. referents.cannot_be_taken (referents.referent_in t r)) (taken_reference t.word item) false) targets.1.0 in
    let aim = fit_there (referents.reads_slot (row_for t.word item.first)) (aim_in t (target_entry t.word item).refers) there.0 right.0 in
    record {
      row = row.0;
      listed = row.1;
      outside = forms.1.1.0;
      aim = aim.0;
      aimed = aim.1;
      taken = λ r is. takeable_there t r
          (ap (λ (o : Option Reference). option_map_or (λ r. referents.is_nothing (referents.referent_in t r)) o false) (sym is) ∙ there.1)
          (ap (λ (o : Option Reference). option_map_or (λ r. referents.cannot_be_taken (referents.referent_in t r)) o false) (sym is) ∙ right.1);
      paired = second_there t.word item forms.1.0;
      met = lasts.0;
      wide = lasts.1.0;
    }

-- of a kept section without faults
module _ (t : Tables) (keep : Keep) (clean : first_fault (rules.relocation_stages t keep) ≡ None) (i : ℕ) (x : SectionTable) (here : slice_get t.sections i ≡ Some x) (kept : is_kept keep x ≡ true) where
  stage_clean : stage_fault (rules.entry_stage t i x) ≡ None
  stage_clean =
      sym (ap stage_fault (ap (λ (o : Option SectionTable). option_map_or (λ x. cond (is_kept keep x) (rules.entry_stage t i x) rules.no_stage) o rules.no_stage) here
      ∙ ap (λ b. cond b (rules.entry_stage t i x) rules.no_stage) kept))
      ∙ clean_at (λ i. stage_fault (rules.relocation_stage t keep i)) (length t.sections) i
      (sym (first_fault-range (rules.relocation_stage t keep) (length t.sections)) ∙ clean) (slice_get_within t.sections i x here)

  pub good_item : (k : ℕ) (item : Item) → k < length x.relocs → item_at t.word x.relocs k ≡ Some item → IsGoodItem t i x k item
  unfolding rules.entry_conditions
  good_item k item low is =
      good_by t i x k item
      (sym (ap (λ (o : Option Item). first_broken (option_map_or (rules.item_conditions t i x k) o [])) is) ∙ clean_at (fault_of (rules.entry_stage t i x)) (length x.relocs) k stage_clean low)

-- what is asked before a relocation is made
pub are_aimed : (t : Tables) (i : ℕ) (x : SectionTable) (k : ℕ) (item : Item) → IsGoodItem t i x k item → AreAimed t item
are_aimed t i x k item good = record { target = record { aim = good.aim; is = good.aimed }; taken = good.taken }

-- ... what is found

abbrev pub found_as : (t : Tables) (i : ℕ) (x : SectionTable) (k : ℕ) (item : Item) → IsGoodItem t i x k item → FieldParts
found_as t i x k item good = record { row = good.row; target = good.aim; taken = option_and_then (target_in t) (taken_entry t.word item) }

pub found_is : (t : Tables) (i : ℕ) (x : SectionTable) (k : ℕ) (item : Item) (good : IsGoodItem t i x k item) → field_parts_by t item ≡ Some (found_as t i x k item good)
unfolding field_parts_by
found_is t i x k item good =
    ap (option_and_then (λ m. option_map (λ target. record { row = m; target = target; taken = option_and_then (target_in t) (taken_entry t.word item) }) (target_in t (target_entry t.word item)))) good.listed
    ∙ ap (λ (o : Option (Option aims.Aim)). option_map (λ target. record { row = good.row; target = target; taken = option_and_then (target_in t) (taken_entry t.word item) }) (option_and_then (λ aim. aim) o)) good.aimed

-- what a pair takes
pub data IsTaken (t : Tables) (item : Item) (o : Option aims.Aim) : Type 0 where
  Nothing : o ≡ None → taken_reference t.word item ≡ None → IsTaken t item o
  Something : (r : Reference) → taken_reference t.word item ≡ Some r → (m : IsTakeable t r) → o ≡ Some m.aim → IsTaken t item o

pub taken_is : (t : Tables) (i : ℕ) (x : SectionTable) (k : ℕ) (item : Item) → IsGoodItem t i x k item → IsTaken t item (option_and_then (target_in t) (taken_entry t.word item))
taken_is t i x k item good = by (taken_entry t.word item) refl
  where
    by : (o : Option RelocationInfo) → taken_entry t.word item ≡ o → IsTaken t item (option_and_then (target_in t) (taken_entry t.word item))
    by None e = Nothing (ap (option_and_then (target_in t)) e) (ap (option_map (λ (e : RelocationInfo). e.refers)) e)
    by (Some y) e =
        let refers = ap (option_map (λ (e : RelocationInfo). e.refers)) e in
        let m = good.taken y.refers refers in
        Something y.refers refers m (ap (option_and_then (target_in t)) e ∙ ap (option_and_then (λ aim. aim)) m.is)

-- fields of one section are apart
pub items_apart : (t : Tables) (i : ℕ) (x : SectionTable) (k l : ℕ) (item other : Item) → IsGoodItem t i x l other → item_at t.word x.relocs k ≡ Some item → k < l → meets (rules.span_of other) (rules.span_of item) ≡ false
items_apart t i x k l item other good is less =
    sym (ap (λ (o : Option Item). option_map_or (meets (rules.span_of other)) (option_map rules.span_of o) false) is)
    ∙ any_false (λ k. option_map_or (meets (rules.span_of other)) (rules.span_at t x k) false) l k good.met less

-- ... pairs

-- the second of a pair stands only behind its first
pub second_first : (w : Word) (relocs : List RelocationInfo) (k : ℕ) (item : Item) (y : RelocationInfo) → item_at w relocs k ≡ Some item → item.second ≡ Some y → is_first w item.first ≡ true
unfolding item_at
second_first w relocs k item y is second = by (begins w relocs k) (slice_get relocs k) is
  where
    of : (e : RelocationInfo) (b : Bool) → is_first w e ≡ b → record { first = e; second = cond b (slice_get relocs (k + 1)) None } ≡ item → is_first w item.first ≡ true
    of e b f g = grind arith

    by : (b : Bool) (o : Option RelocationInfo) → cond b (option_map (item_with w relocs k) o) None ≡ Some item → is_first w item.first ≡ true
    by b o e = grind arith

takes_by : (x : Taken) → same_taken x TakesSection ≡ true → x ≡ TakesSection
takes_by x e = grind arith

pub first_takes : (w : Word) (e : RelocationInfo) (m : MachRow) → row_for w e ≡ Some m → is_first w e ≡ true → m.row.taken ≡ TakesSection
first_takes w e m is first = takes_by m.row.taken (sym (ap (λ (o : Option MachRow). option_map_or (λ (m : MachRow). same_taken m.row.taken TakesSection) o false) is) ∙ first)

pub takes_first : (w : Word) (e : RelocationInfo) (m : MachRow) → row_for w e ≡ Some m → m.row.taken ≡ TakesSection → is_first w e ≡ true
takes_first w e m is takes = ap (λ (o : Option MachRow). option_map_or (λ (m : MachRow). same_taken m.row.taken TakesSection) o false) is ∙ ap (λ (x : Taken). same_taken x TakesSection) takes

pub reference_second : (w : Word) (item : Item) (r : Reference) → taken_reference w item ≡ Some r → (y : RelocationInfo) × (item.second ≡ Some y)
reference_second W32 item r e = by item.second refl e
  where
    by : (o : Option RelocationInfo) → item.second ≡ o → option_map (λ (e : RelocationInfo). e.refers) o ≡ Some r → (y : RelocationInfo) × (item.second ≡ Some y)
    by o g h = grind arith
reference_second W64 item r e = by item.second refl e
  where
    by : (o : Option RelocationInfo) → item.second ≡ o → option_map (λ (e : RelocationInfo). e.refers) (option_map (λ e. item.first) o) ≡ Some r → (y : RelocationInfo) × (item.second ≡ Some y)
    by o g h = grind arith

pub second_reference : (w : Word) (item : Item) → is_some item.second ≡ true → is_some (taken_reference w item) ≡ true
second_reference W32 item e = by item.second e
  where
    by : (o : Option RelocationInfo) → is_some o ≡ true → is_some (option_map (λ (e : RelocationInfo). e.refers) o) ≡ true
    by o e = grind arith
second_reference W64 item e = by item.second e
  where
    by : (o : Option RelocationInfo) → is_some o ≡ true → is_some (option_map (λ (e : RelocationInfo). e.refers) (option_map (λ e. item.first) o)) ≡ true
    by o e = grind arith

-- a difference is counted from its place
abbrev pub IsPairRow : MachRow → Type 0
IsPairRow m = m.row.taken ≡ TakesSection → m.row.behind ≡ 0

pairs : (w : Word) → AllRows IsPairRow (mach_entries w)
pairs W32 = (λ e. refl, (λ e. refl, (λ e. refl, (λ e. refl, tt))))
pairs W64 = (
  λ e. refl,
  (
    λ e. refl,
    (
      λ e. absurd (cc),
      (
        λ e. absurd (cc),
        (
          λ e. absurd (cc),
          (
            λ e. absurd (cc),
            (
              λ e. absurd (cc),
              (λ e. absurd (cc), (λ e. absurd (cc), (λ e. refl, (λ e. refl, tt)))),
            ),
          ),
        ),
      ),
    ),
  ),
)

pub pair_row : (w : Word) (e : RelocationInfo) (m : MachRow) → row_for w e ≡ Some m → IsPairRow m
pair_row w e m is = (row_is IsPairRow w e m (pairs w) is).0
