-- Where every section is kept, nothing is dropped.
use Rattle.std.proofs.Common.{◌≡◌, ℕ, zero, suc, ◌+◌, ◌<◌, ◌≤◌, Bool, true, false, cond, not, ◌&&◌, ◌||◌, eqb, List, [], ◌∷◌, ◌++◌, length, map, Option, Some, None, Ok, inl, inr, refl, sym, ◌∙◌, ap, subst, arith}
use Rattle.std.specs.{Prelude.{slice_get, nat_eq, filter_map}, List.{AllByRecursion, list_all, range_with_len, position_from, cons_option}}
use Rattle.std.specs.Option.{option_map, option_map_or, option_and_then, is_some}
use Rattle.std.proofs.lemmas.{Bool.{true≢false, cases_lt, eq-eqb, eqb-true, ne_eqb}, Bool.Decides.{nat_tests}, List.{length-map}}
use Rattle.std.proofs.lemmas.Option.{none-some, same_Some, slice_get-map, slice_get_within, get_or_from_slice_get}
use Rattle.oc_linking.specs.{declared.terms.Value.{Value}, declared.terms.Fallback.{Fallback}, declared.terms.Binding.{Binding}}
use Rattle.oc_linking.specs.{declared.terms.Binding.TheVariants.{Local, Global, Undefined, Common, Weak}, declared.terms.Less.{Less}}
use Rattle.oc_linking.specs.{declared.terms.Keep.{Keep}, Keeping.{keeps, kept_of}, Numbers.{or_else}, Parts.{is_local}}
use Rattle.oc_linking.specs.declared.terms.Value.TheVariants as value
use Rattle.oc_linking.specs.declared.terms.Fallback.TheVariants as fallback
use Rattle.oc_linking.specs.declared.terms.Less.TheVariants as less
use Rattle.oc_chains.specs.{declared.field.Field.{Field}, Lists.{list_of}}
use Rattle.oc_neutral.specs.{declared.group.Group.{Group}, declared.section.Section.{Section}, declared.symbol.Symbol.{Symbol}, declared.reloc.Reloc.{Reloc}}
use Rattle.oc_neutral.specs.{declared.reloc.Target.{Target}, Objects.{Object}}
use Rattle.oc_neutral.specs.Invariants.{HasOffset, IsValue, IsFallback, IsBinding, IsSymbol, IsThere, IsLessThere, IsNormal, IsHeld, IsObject, IsMember, IsNext, AreBegun, begun_with, groups_of}
use Rattle.oc_neutral.specs.Without.{is_dropped, binding_section, lies_in_dropped, symbols_stay, refers_to_dropped, targets_dropped, takes_dropped, new_position, moved_value, moved_fallback, moved_binding, with_binding, moved_symbol, moved_target, moved_less, moved_field, place_in, begun_by, groups_left, regrouped, left_of}
use Rattle.oc_neutral.specs.declared.reloc.Target.TheVariants as target
use Rattle.oc_neutral.proofs.Positions.{each_at, there_at}
use Rattle.oc_drop.specs.{Steps.{first_in, unless, symbol_fault, field_fault, fault_in, first_field}, Laws.{AllAreKept, NothingIsDropped}}
use Rattle.oc_drop.specs.Dropping.{stays, sections_stay, dropped_symbol, dropped_reference, dropping_fault, dropped}
use Rattle.oc_base.specs.declared.code.Code.TheVariants.{SymbolInDropped, RelocToDropped}
use Rattle.oc_drop.proofs.FirstLaws.{none_upto}

-- ... lists

-- all flags are set
abbrev AllSet : List Bool → Type 0
AllSet flags = AllByRecursion (λ b. b ≡ true) flags

kept_all : {X : Type 0} (flags : List Bool) (xs : List X) → AllSet flags → kept_of flags xs ≡ xs
kept_all [] [] set = refl
kept_all [] (x ∷ xs) set = refl
kept_all (b ∷ flags) [] set = refl
kept_all (true ∷ flags) (x ∷ xs) set = ap (λ ys. x ∷ ys) (kept_all flags xs set.1)
kept_all (false ∷ flags) (x ∷ xs) set = absurd (true≢false (sym set.0))

position_same : (flags : List Bool) (k : ℕ) → AllSet flags → k ≤ length flags → new_position flags k ≡ k
position_same flags zero set low = refl
position_same [] (suc k) set low = absurd (omega (arith, low))
position_same (true ∷ flags) (suc k) set low = ap suc (position_same flags k set.1 (omega (arith, low)))
position_same (false ∷ flags) (suc k) set low = absurd (true≢false (sym set.0))

flag_set : (flags : List Bool) (k : ℕ) → AllSet flags → is_dropped flags k ≡ false
flag_set [] k set = refl
flag_set (b ∷ flags) zero set = ap not set.0
flag_set (b ∷ flags) (suc k) set = flag_set flags k set.1

all_mapped : {X : Type 0} (f : X → Bool) (xs : List X) → ((k : ℕ) (x : X) → slice_get xs k ≡ Some x → f x ≡ true) → AllSet (map f xs)
all_mapped f [] each = tt
all_mapped f (x ∷ xs) each = (each 0 x refl, all_mapped f xs (λ k y h. each (suc k) y h))

-- where each item gives nothing, there is no first
pub none_first : {X Y : Type 0} (f : X → Option Y) (xs : List X) → ((k : ℕ) (x : X) → slice_get xs k ≡ Some x → f x ≡ None) → first_in f xs ≡ None
none_first f [] none = refl
none_first f (x ∷ xs) none = ap (λ o. or_else o (first_in f xs)) (none 0 x refl) ∙ none_first f xs (λ k y h. none (suc k) y h)

-- a list of which each item stays
pub map_stays : {X : Type 0} (f : X → X) (xs : List X) → ((k : ℕ) (x : X) → slice_get xs k ≡ Some x → f x ≡ x) → map f xs ≡ xs
map_stays f [] same = refl
map_stays f (x ∷ xs) same = ap (λ y. y ∷ map f xs) (same 0 x refl) ∙ ap (λ ys. x ∷ ys) (map_stays f xs (λ k y h. same (suc k) y h))

pub never_and : {X : Type 0} (b : Bool) (o : Option X) → cond (not b && false) o None ≡ None
never_and true o = refl
never_and false o = refl

-- ... groups, which begin in their order

range_more : (a m : ℕ) → range_with_len a (suc m) ≡ range_with_len a m ++ (a + m) ∷ []
range_more a zero = let e : a ≡ a + 0 = omega arith in ap (λ (k : ℕ). k ∷ []) e
range_more a (suc m) = ap (λ ys. a ∷ ys) (range_more (a + 1) m ∙ (let e : a + 1 + m ≡ a + suc m = omega arith in ap (λ (k : ℕ). range_with_len (a + 1) m ++ k ∷ []) e))

place_range : (g i m : ℕ) → i ≤ g → g < i + m → position_from (nat_eq g) i (range_with_len i m) ≡ Some g
place_range g i zero low high = absurd (omega (arith, low, high))
place_range g i (suc m) low high = elim (eqb g i) as (λ b. eqb g i ≡ b → cond b (Some i) (position_from (nat_eq g) (i + 1) (range_with_len (i + 1) m)) ≡ Some g) [
  | true ↦ λ e. let same : i ≡ g = sym (eqb-true g i e) in ap Some same
  | false ↦ λ e. let further : i + 1 ≤ g = grind (arith, nat_tests, e, low) in place_range g (i + 1) m further (omega (arith, high))
] refl

place_beyond : (g i m : ℕ) → i + m ≤ g → position_from (nat_eq g) i (range_with_len i m) ≡ None
place_beyond g i zero past = refl
place_beyond g i (suc m) past =
    ap (λ b. cond b (Some i) (position_from (nat_eq g) (i + 1) (range_with_len (i + 1) m))) (ne_eqb g i (λ e. omega (arith, e, past)))
    ∙ place_beyond g (i + 1) m (omega (arith, past))

begun_all : (sections : List Section) (b count : ℕ) → AreBegun count b (groups_of sections)
    → begun_by (range_with_len 0 b) (filter_map (λ (s : Section). s.group) sections) ≡ range_with_len 0 count
begun_all [] b count begun = ap (range_with_len 0) begun
begun_all (s ∷ sections) b count begun = by s.group begun.0 begun.1 (λ c rest. begun_all sections c count rest)
  where
    by : (o : Option ℕ) → IsNext b o → AreBegun count (begun_with b o) (groups_of sections)
        → ((c : ℕ) → AreBegun count c (groups_of sections) → begun_by (range_with_len 0 c) (filter_map (λ (t : Section). t.group) sections) ≡ range_with_len 0 count)
        → begun_by (range_with_len 0 b) (cons_option o (filter_map (λ (t : Section). t.group) sections)) ≡ range_with_len 0 count
    by None next rest more = more b rest
    by (Some g) next rest more = elim (cases_lt g b) [
      | inl l ↦
          let there : place_in (range_with_len 0 b) g ≡ Some g = place_range g 0 b (omega arith) (omega (arith, l)) in
          let other : eqb g b ≡ false = ne_eqb g b (λ e. omega (arith, e, l)) in
          ap (λ o. begun_by (cond (is_some o) (range_with_len 0 b) (range_with_len 0 b ++ g ∷ [])) (filter_map (λ (t : Section). t.group) sections)) there
          ∙ more b (subst (λ c. AreBegun count (cond c (b + 1) b) (groups_of sections)) other rest)
      | inr ge ↦
          let same : g ≡ b = omega (arith, ge, next) in
          let none : place_in (range_with_len 0 b) g ≡ None = place_beyond g 0 b (omega (arith, ge)) in
          let own : eqb g b ≡ true = eq-eqb g b same in
          let z : g ≡ 0 + b = omega (arith, same) in
          let n : suc b ≡ b + 1 = omega arith in
          ap (λ o. begun_by (cond (is_some o) (range_with_len 0 b) (range_with_len 0 b ++ g ∷ [])) (filter_map (λ (t : Section). t.group) sections)) none
          ∙ ap (λ xs. begun_by xs (filter_map (λ (t : Section). t.group) sections)) (ap (λ (k : ℕ). range_with_len 0 b ++ k ∷ []) z ∙ sym (range_more 0 b) ∙ ap (range_with_len 0) n)
          ∙ more (b + 1) (subst (λ c. AreBegun count (cond c (b + 1) b) (groups_of sections)) own rest)
    ]

picked_all : {X : Type 0} (f : ℕ → Option X) (i : ℕ) (ys : List X) → ((k : ℕ) (y : X) → slice_get ys k ≡ Some y → f (i + k) ≡ Some y) → filter_map f (range_with_len i (length ys)) ≡ ys
picked_all f i [] each = refl
picked_all f i (y ∷ ys) each =
    let z : i ≡ i + 0 = omega arith in
    ap (λ o. cons_option o (filter_map f (range_with_len (i + 1) (length ys)))) (ap f z ∙ each 0 y refl)
    ∙ ap (λ xs. y ∷ xs) (picked_all f (i + 1) ys (λ k x h. let e : i + 1 + k ≡ i + suc k = omega arith in ap f e ∙ each (suc k) x h))

-- ... objects

module _ (n : Object) (fine : IsObject n) where
  -- each symbol is one of the object
  pub symbol_is : (k : ℕ) (s : Symbol) → slice_get n.symbols k ≡ Some s → IsSymbol n s
  symbol_is k s here = each_at (IsSymbol n) n.symbols k s fine.complete.symbols here

  -- what holds of the fields of the section at a position
  pub held : (k : ℕ) (xs : List (Field Reloc)) → slice_get n.relocs k ≡ Some xs → (i : ℕ) (x : Field Reloc) → slice_get xs i ≡ Some x → IsNormal n k x.item
  held k xs here i x there =
      let inside : k < length n.sections = (let l = slice_get_within n.relocs k xs here in let c = fine.built.fields.counted in omega (arith, l, c)) in
      let s = there_at n.sections k inside in
      let own : list_of n.relocs k ≡ xs = get_or_from_slice_get n.relocs k xs [] here in
      (each_at (IsHeld n k s.0.bytes) (list_of n.relocs k) i x (fine.built.fields.each k s.0 s.1) (ap (λ ys. slice_get ys i) own ∙ there)).normal

  module _ (keep : Keep) (keeps_all : AllAreKept keep n) where
    abbrev stay : List Bool
    stay = stays keep n

    all_stay : AllSet stay
    all_stay = all_mapped (λ (s : Section). keeps keep s.kind) n.sections keeps_all

    none_dropped : (k : ℕ) → is_dropped stay k ≡ false
    none_dropped k = flag_set stay k all_stay

    lies_nowhere : (s : Symbol) → lies_in_dropped stay s ≡ false
    lies_nowhere s = by (binding_section s.binding)
      where
        by : (o : Option ℕ) → option_map_or (is_dropped stay) o false ≡ false
        by None = refl
        by (Some k) = none_dropped k

    abbrev flags : List Bool
    flags = symbols_stay stay n.symbols

    all_left : AllSet flags
    all_left = all_mapped (λ s. not (lies_in_dropped stay s)) n.symbols (λ k s here. ap not (lies_nowhere s))

    refers_nowhere : (r : Reloc) → refers_to_dropped stay r ≡ false
    refers_nowhere r = ap (λ b. b || takes_dropped stay r.form.less) (of_target r.target) ∙ of_less r.form.less
      where
        of_target : (t : Target) → targets_dropped stay t ≡ false
        of_target (target.Section k) = none_dropped k
        of_target (target.Symbol k) = refl

        of_less : (l : Less) → takes_dropped stay l ≡ false
        of_less (less.Section k) = none_dropped k
        of_less less.Zero = refl
        of_less less.Place = refl
        of_less less.GotBase = refl
        of_less less.ImageBase = refl
        of_less less.Home = refl

    symbol_clear : (s : Symbol) → dropped_symbol stay s ≡ None
    symbol_clear s =
        ap (λ b. cond (not (is_local s.binding) && b) (Some (symbol_fault SymbolInDropped s)) None) (lies_nowhere s) ∙ never_and (is_local s.binding) (Some (symbol_fault SymbolInDropped s))

    field_clear : (k : ℕ) (s : Section) (x : Field Reloc) → dropped_reference stay k s x ≡ None
    field_clear k s x =
        ap (λ b. cond (not (is_dropped stay k) && b) (Some (field_fault RelocToDropped s x)) None) (refers_nowhere x.item) ∙ never_and (is_dropped stay k) (Some (field_fault RelocToDropped s x))

    section_clear : (k : ℕ) → fault_in (dropped_reference stay) n k ≡ None
    section_clear k = by (slice_get n.sections k)
      where
        by : (o : Option Section) → option_and_then (λ s. first_in (dropped_reference stay k s) (list_of n.relocs k)) o ≡ None
        by None = refl
        by (Some s) = none_first (dropped_reference stay k s) (list_of n.relocs k) (λ i x h. field_clear k s x)

    clear : dropping_fault stay n ≡ None
    clear =
        ap (λ o. or_else o (first_field (dropped_reference stay) n)) (none_first (dropped_symbol stay) n.symbols (λ k s h. symbol_clear s))
        ∙ none_upto (fault_in (dropped_reference stay) n) (length n.sections) (λ k low. section_clear k)

    section_same : (k : ℕ) → k < length n.sections → new_position stay k ≡ k
    section_same k low = position_same stay k all_stay (let l = length-map n.sections (λ (s : Section). keeps keep s.kind) in omega (arith, low, l))

    symbol_same : (k : ℕ) → k < length n.symbols → new_position flags k ≡ k
    symbol_same k low = position_same flags k all_left (let l = length-map n.symbols (λ s. not (lies_in_dropped stay s)) in omega (arith, low, l))

    at_section_same : (k offset : ℕ) → HasOffset n.sections k offset → new_position stay k ≡ k
    at_section_same k offset there = section_same k (slice_get_within n.sections k there.0 there.1)

    value_same : (v : Value) → IsValue n v → moved_value stay v ≡ v
    value_same (value.Place k offset) there = ap (λ j. value.Place j offset) (at_section_same k offset there)
    value_same (value.Absolute x) there = refl

    fallback_same : (f : Fallback) → IsFallback n f → moved_fallback stay flags f ≡ f
    fallback_same (fallback.Place k offset) there = ap (λ j. fallback.Place j offset) (at_section_same k offset there)
    fallback_same fallback.Zero there = refl
    fallback_same (fallback.Name k) there = ap fallback.Name (symbol_same k (slice_get_within n.symbols k there.0 there.1))

    binding_same : (b : Binding) → IsBinding n b → moved_binding stay flags b ≡ b
    binding_same (Local v) there = ap Local (value_same v there)
    binding_same (Global v) there = ap Global (value_same v there)
    binding_same Undefined there = refl
    binding_same (Common size align) there = refl
    binding_same (Weak f) there = ap Weak (fallback_same f there)

    target_same : (t : Target) → IsThere n t → moved_target stay flags t ≡ t
    target_same (target.Section k) there = ap target.Section (section_same k there)
    target_same (target.Symbol k) there = ap target.Symbol (symbol_same k there)

    less_same : (l : Less) → IsLessThere n l → moved_less stay l ≡ l
    less_same (less.Section k) there = ap less.Section (section_same k there)
    less_same less.Zero there = refl
    less_same less.Place there = refl
    less_same less.GotBase there = refl
    less_same less.ImageBase there = refl
    less_same less.Home there = refl

    abbrev reloc_as : Reloc → Target → Less → Reloc
    reloc_as r t l = record { target = t; form = record { base = r.form.base; less = l; width = r.form.width; check = r.form.check }; addend = r.addend; hint = r.hint }

    field_same : (k : ℕ) (x : Field Reloc) → IsNormal n k x.item → moved_field stay flags x ≡ x
    field_same k x normal =
        ap (λ t. field x (reloc_as x.item t (moved_less stay x.item.form.less))) (target_same x.item.target normal.target)
        ∙ ap (λ l. field x (reloc_as x.item x.item.target l)) (less_same x.item.form.less normal.less)
      where
        field : Field Reloc → Reloc → Field Reloc
        field x r = record { at = x.at; width = x.width; item = r }

    groups_same : groups_left n.sections ≡ range_with_len 0 (length n.groups)
    groups_same = begun_all n.sections 0 (length n.groups) fine.complete.begun

    member_same : (g : Option ℕ) → IsMember (length n.groups) g → option_and_then (place_in (range_with_len 0 (length n.groups))) g ≡ g
    member_same None there = refl
    member_same (Some g) there = place_range g 0 (length n.groups) (omega arith) (omega (arith, there))

    abbrev grouped : Section → Option ℕ → Section
    grouped s g = record { name = s.name; kind = s.kind; align = s.align; size = s.size; bytes = s.bytes; tag = s.tag; number = s.number; group = g }

    regrouped_same : (k : ℕ) (s : Section) → slice_get n.sections k ≡ Some s → regrouped (groups_left n.sections) s ≡ s
    regrouped_same k s here =
        ap (λ left. grouped s (option_and_then (place_in left) s.group)) groups_same
        ∙ ap (grouped s) (member_same s.group (each_at (IsMember (length n.groups)) (groups_of n.sections) k s.group fine.built.members
        (slice_get-map (λ (t : Section). t.group) n.sections k ∙ ap (option_map (λ (t : Section). t.group)) here)))

    abbrev object_as : List Group → List Section → List Symbol → List (List (Field Reloc)) → Object
    object_as groups sections symbols relocs = record { format = n.format; groups = groups; sections = sections; symbols = symbols; relocs = relocs }

    left_same : left_of stay flags n ≡ n
    left_same =
        ap (λ xs. object_as (filter_map (slice_get n.groups) (groups_left xs)) (map (regrouped (groups_left xs)) xs) (map (moved_symbol stay flags) (kept_of flags n.symbols)) (map (map (moved_field stay flags)) (kept_of stay n.relocs)))
        (kept_all stay n.sections all_stay)
        ∙ ap (λ gs. object_as gs (map (regrouped (groups_left n.sections)) n.sections) (map (moved_symbol stay flags) (kept_of flags n.symbols)) (map (map (moved_field stay flags)) (kept_of stay n.relocs)))
        (ap (filter_map (slice_get n.groups)) groups_same ∙ picked_all (slice_get n.groups) 0 n.groups (λ k y h. let e : 0 + k ≡ k = omega arith in ap (slice_get n.groups) e ∙ h))
        ∙ ap (λ xs. object_as n.groups xs (map (moved_symbol stay flags) (kept_of flags n.symbols)) (map (map (moved_field stay flags)) (kept_of stay n.relocs)))
        (map_stays (regrouped (groups_left n.sections)) n.sections regrouped_same)
        ∙ ap (λ xs. object_as n.groups n.sections xs (map (map (moved_field stay flags)) (kept_of stay n.relocs)))
        (ap (map (moved_symbol stay flags)) (kept_all flags n.symbols all_left) ∙ map_stays (moved_symbol stay flags) n.symbols (λ k s h. ap (with_binding s) (binding_same s.binding (symbol_is k s h).binding)))
        ∙ ap (λ xs. object_as n.groups n.sections n.symbols xs)
        (ap (map (map (moved_field stay flags))) (kept_all stay n.relocs all_stay)
        ∙ map_stays (map (moved_field stay flags)) n.relocs (λ k xs h. map_stays (moved_field stay flags) xs (λ i x there. field_same k x (held k xs h i x there))))

    pub dropped_same : dropped keep n ≡ Ok n
    dropped_same = ap (λ o. unless o (left_of stay flags n)) clear ∙ ap Ok left_same

-- where every flag is set, every section is kept
pub all_keep : (keep : Keep) (xs : List Section) → list_all (λ b. b) (sections_stay keep xs) ≡ true → (k : ℕ) (s : Section) → slice_get xs k ≡ Some s → keeps keep s.kind ≡ true
all_keep keep [] all k s here = absurd (none-some s here)
all_keep keep (x ∷ xs) all zero s here = ap (λ (y : Section). keeps keep y.kind) (sym (same_Some x s here)) ∙ first (keeps keep x.kind) (list_all (λ b. b) (sections_stay keep xs)) all
  where
    first : (a b : Bool) → a && b ≡ true → a ≡ true
    first true b e = refl
    first false b e = absurd (true≢false (sym e))
all_keep keep (x ∷ xs) all (suc k) s here = all_keep keep xs (second (keeps keep x.kind) (list_all (λ b. b) (sections_stay keep xs)) all) k s here
  where
    second : (a b : Bool) → a && b ≡ true → b ≡ true
    second true b e = e
    second false b e = absurd (true≢false (sym e))

pub nothing_dropped : NothingIsDropped
nothing_dropped keep n is all = dropped_same n is keep all
