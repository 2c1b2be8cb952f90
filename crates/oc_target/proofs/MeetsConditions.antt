-- An object that is ready to be written breaks no condition of its target: each section, symbol and relocation meets each.
use Rattle.std.proofs.Common.{◌≡◌, ℕ, zero, suc, ◌+◌, ◌<◌, ◌≤◌, Bool, true, false, cond, ◌&&◌, ◌||◌, eqb, List, [], ◌∷◌, ◌++◌, length, map, get_or, Some, None, refl, sym, ◌∙◌, ap, subst, arith}
use Rattle.std.specs.{Prelude.{slice_get, nat_lt}, List.{AllByRecursion}, Option.{option_map, option_map_or}}
use Rattle.std.proofs.lemmas.{Bool.{eqb-true, eq-eqb}, Bool.Decides.{nat_tests}, Option.{none-some, same_Some, slice_get-map, get_or_from_slice_get}}
use Rattle.oc_base.specs.{declared.format.Format.{Format}, declared.format.Word.{Word}, declared.format.Word.TheVariants.{W32, W64}}
use Rattle.oc_base.specs.declared.fault.Fault.{Fault}
use Rattle.oc_linking.specs.FirstFault.{Condition, Stage, first_fault}
use Rattle.oc_linking.proofs.FirstFaultLaws.{no_fault_none_broken}
use Rattle.oc_chains.specs.{declared.field.Field.{Field}, Lists.{Lists, list_of}}
use Rattle.oc_neutral.specs.{declared.section.Section.{Section}, declared.symbol.Symbol.{Symbol}, declared.reloc.Reloc.{Reloc}, Family.{container_number}}
use Rattle.oc_neutral.specs.{Families.{family_of, container_of, same_word, same_format}, HomeNames.{output_names, names_across}}
use Rattle.oc_neutral.specs.Objects.{Object, reloc_among, reloc_at}
use Rattle.oc_neutral.specs.TargetSections.{each_of, section_count, section_conditions, conditions_at, section_stages}
use Rattle.oc_neutral.specs.TargetSymbols.{symbol_count, symbol_conditions, symbol_stages}
use Rattle.oc_neutral.specs.TargetRelocations.{PlacedReloc, placed_relocs_in, placed_relocs_from, placed_relocs, spot_of, reloc_conditions, standing_conditions, relocation_stages}
use Rattle.oc_target.specs.Fitted.{first_unfit, IsFitted}

-- no condition is broken
abbrev pub AreMet : List Condition → Type 0
AreMet conditions = AllByRecursion (λ (c : Condition). c.0 ≡ false) conditions

-- conditions none of which is known to be broken are met
all_met : (conditions : List Condition) → ((j : ℕ) (fault : Fault) → slice_get conditions j ≡ Some (true, fault) → ⊥) → AreMet conditions
all_met [] none = tt
all_met (c ∷ conditions) none = (by c.0 refl, all_met conditions (λ j f h. none (suc j) f h))
  where
    by : (b : Bool) → c.0 ≡ b → c.0 ≡ false
    by true e = absurd (none 0 c.1 (ap (λ t. Some (t, c.1)) e))
    by false e = e

-- where there is no fault, the conditions of each stage are met
pub stage_met : (stages : List Stage) (k : ℕ) (stage : Stage) → first_fault stages ≡ None → slice_get stages k ≡ Some stage → (i : ℕ) → i < stage.count → AreMet (stage.conditions i)
stage_met stages k stage none here i l = all_met (stage.conditions i) (λ j fault broken.
    no_fault_none_broken stages none k i j fault (record { stage = stage; here = here; among = l; condition = broken }))

-- what stands at a position stands inside the list
pub below_length : {X : Type 0} (xs : List X) (k : ℕ) (x : X) → slice_get xs k ≡ Some x → k < length xs
below_length [] k x h = absurd (none-some x h)
below_length (y ∷ xs) zero x h = omega arith
below_length (y ∷ xs) (suc k) x h = let l = below_length xs k x h in omega (arith, l)

-- the thing at a position meets its conditions
pub each_met : {X : Type 0} (conditions : X → List Condition) (xs : List X) (k : ℕ) (x : X) → slice_get xs k ≡ Some x → AreMet (each_of conditions xs k) → AreMet (conditions x)
each_met conditions xs k x here met = subst (λ o. AreMet (option_map_or conditions o [])) here met

-- a field of a section is one of those of the object
stands_among : (s : ℕ) (lists : Lists Reloc) (k i : ℕ) (x : Field Reloc) → slice_get (list_of lists k) i ≡ Some x
    → (j : ℕ) × (slice_get (placed_relocs_from s lists) j ≡ Some (record { section = s + k; at = x.at; reloc = x.item }))
stands_among s [] k i x here = absurd (none-some x here)
stands_among s (fields ∷ lists) zero i x here = (i, first (placed_relocs_in s fields) (placed_relocs_from (s + 1) lists) i z own)
  where
    z : PlacedReloc
    z = record { section = s + 0; at = x.at; reloc = x.item }

    own : slice_get (placed_relocs_in s fields) i ≡ Some z
    own =
        let e : s ≡ s + 0 = omega arith in
        slice_get-map (λ (y : Field Reloc). record { section = s; at = y.at; reloc = y.item }) fields i
        ∙ ap (option_map (λ (y : Field Reloc). record { section = s; at = y.at; reloc = y.item })) here
        ∙ ap (λ m. Some (record { section = m; at = x.at; reloc = x.item })) e

    first : (xs ys : List PlacedReloc) (j : ℕ) (y : PlacedReloc) → slice_get xs j ≡ Some y → slice_get (xs ++ ys) j ≡ Some y
    first [] ys j y h = absurd (none-some y h)
    first (w ∷ xs) ys zero y h = h
    first (w ∷ xs) ys (suc j) y h = first xs ys j y h
stands_among s (fields ∷ lists) (suc k) i x here =
    let r = stands_among (s + 1) lists k i x here in
    let e : s + 1 + k ≡ s + suc k = omega arith in (
      length (placed_relocs_in s fields) + r.0,
      second (placed_relocs_in s fields) (placed_relocs_from (s + 1) lists) r.0 (record { section = s + 1 + k; at = x.at; reloc = x.item }) r.1
          ∙ ap (λ m. Some (record { section = m; at = x.at; reloc = x.item })) e,
    )
  where
    second : (xs ys : List PlacedReloc) (j : ℕ) (y : PlacedReloc) → slice_get ys j ≡ Some y → slice_get (xs ++ ys) (length xs + j) ≡ Some y
    second [] ys j y h = let e : j ≡ 0 + j = omega arith in ap (slice_get ys) (sym e) ∙ h
    second (w ∷ xs) ys j y h =
        let e : suc (length xs) + j ≡ suc (length xs + j) = omega arith in
        ap (slice_get (w ∷ (xs ++ ys))) e ∙ second xs ys j y h

-- a relocation that is found at an offset is that of a field there
pub field_found : (xs : List (Field Reloc)) (at : ℕ) (r : Reloc) → reloc_among xs at ≡ Some r → (i : ℕ) × (x : Field Reloc) × (slice_get xs i ≡ Some x) × (x.item ≡ r) × (x.at ≡ at)
field_found [] at r here = absurd (none-some r here)
field_found (x ∷ xs) at r here = by (eqb x.at at) refl (λ h. field_found xs at r h) here
  where
    by : (b : Bool) → eqb x.at at ≡ b → (reloc_among xs at ≡ Some r → (i : ℕ) × (y : Field Reloc) × (slice_get xs i ≡ Some y) × (y.item ≡ r) × (y.at ≡ at))
        → cond b (Some x.item) (reloc_among xs at) ≡ Some r → (i : ℕ) × (y : Field Reloc) × (slice_get (x ∷ xs) i ≡ Some y) × (y.item ≡ r) × (y.at ≡ at)
    by true e rest h = (0, x, refl, same_Some x.item r h, eqb-true x.at at e)
    by false e rest h = let m = rest h in (suc m.0, m.1, m.2, m.3, m.4)

-- a word is the same as itself
same_word-self : (w : Word) → same_word w w ≡ true
same_word-self W32 = refl
same_word-self W64 = refl

-- a format is the same as itself
pub same_format-self : (f : Format) → same_format f f ≡ true
same_format-self f =
    ap (λ b. b && same_word (family_of f).word (family_of f).word) (eq-eqb (container_number (container_of f)) (container_number (container_of f)) refl) ∙ same_word-self (family_of f).word

-- the names of the output are those of the sections
pub own_names : (target : Format) (n : Object) → n.format ≡ target → output_names target n ≡ map (λ (s : Section). s.name) n.sections
unfolding output_names
own_names target n own =
    let same : same_format target n.format ≡ true = ap (same_format target) own ∙ same_format-self target in
    ap (λ b. cond b (map (λ (s : Section). s.name) n.sections) (names_across target n)) same

module _ (target : Format) (n : Object) (fits : IsFitted target n) where
  -- the stages that are judged
  abbrev stages : List Stage
  stages = section_stages target n ++ (symbol_stages target n ++ relocation_stages target n)

  none : first_fault stages ≡ None
  unfolding first_unfit
  none = fits.expressible

  -- the number of sections
  pub section_count_met : AreMet (section_count target n)
  unfolding section_stages symbol_stages
  section_count_met = stage_met stages 0 (record { count = 1; conditions = λ i. section_count target n }) none refl 0 (omega arith)

  -- each section, which keeps its name
  pub section_met : (k : ℕ) (s : Section) → slice_get n.sections k ≡ Some s → AreMet (section_conditions target n s.name s)
  unfolding section_stages symbol_stages
  section_met k s here =
      let name : get_or (output_names target n) k [] ≡ s.name
      = get_or_from_slice_get (output_names target n) k s.name []
      (ap (λ names. slice_get names k) (own_names target n fits.format) ∙ slice_get-map (λ (x : Section). x.name) n.sections k ∙ ap (option_map (λ (x : Section). x.name)) here) in
      subst (λ name. AreMet (section_conditions target n name s)) name
      (each_met (section_conditions target n (get_or (output_names target n) k [])) n.sections k s here
      (stage_met stages 1 (record { count = length n.sections; conditions = conditions_at target n }) none refl k (below_length n.sections k s here)))

  -- the number of symbols, and the lengths of names
  pub symbol_count_met : AreMet (symbol_count target n)
  unfolding section_stages symbol_stages
  symbol_count_met = stage_met stages 2 (record { count = 1; conditions = λ i. symbol_count target n }) none refl 0 (omega arith)

  -- each symbol
  pub symbol_met : (k : ℕ) (s : Symbol) → slice_get n.symbols k ≡ Some s → AreMet (symbol_conditions target n s)
  unfolding section_stages symbol_stages
  symbol_met k s here =
      each_met (symbol_conditions target n) n.symbols k s here
      (stage_met stages 3 (record { count = length n.symbols; conditions = each_of (symbol_conditions target n) n.symbols }) none refl k (below_length n.symbols k s here))

  -- each relocation
  pub reloc_met : (s at : ℕ) (r : Reloc) → reloc_at n s at ≡ Some r → AreMet (reloc_conditions target n at r (spot_of n s at))
  unfolding section_stages symbol_stages
  reloc_met s at r here =
      let m = field_found (list_of n.relocs s) at r here in
      let j = stands_among 0 n.relocs s m.0 m.1 m.2 in
      let e : 0 + s ≡ s = omega arith in
      let z : PlacedReloc = record { section = s; at = at; reloc = r } in
      let own : slice_get (placed_relocs n) j.0 ≡ Some z
      = j.1 ∙ ap (λ q. Some (record { section = q; at = m.1.at; reloc = m.1.item })) e ∙ ap (λ q. Some (record { section = s; at = q; reloc = m.1.item })) m.4
      ∙ ap (λ q. Some (record { section = s; at = at; reloc = q })) m.3 in
      let met : AreMet (standing_conditions target n z)
      = each_met (standing_conditions target n) (placed_relocs n) j.0 z own
      (stage_met stages 4 (record { count = length (placed_relocs n); conditions = λ i. option_map_or (standing_conditions target n) (slice_get (placed_relocs n) i) [] }) none refl j.0 (below_length (placed_relocs n) j.0 z own)) in
      subst (λ b. AreMet (cond b [] (reloc_conditions target n at r (spot_of n s at)))) (fits.stored s at r here) met
