-- Relocation entries, section by section, and judged one after the other.
use Rattle.oc_coff.specs.{Files.{CoffFile, tables_in}, declared.relocation.Relocation.{Relocation}, Relocation.{relocation_at}, Tables.{Tables}}
use Rattle.oc_coff.specs.{Sections.{Carried, carried_in}, Targets.{Aim, aim_in}, Forms.{coff_format}, Fields.{says_nothing}}
use Rattle.oc_coff.specs.RelocationFaults.{Judged, is_wrong_aim, judged_from, judged_in, meets_field, needs_home, relocation_conditions, relocation_stage, row_conditions}
use Rattle.std.proofs.Common.{◌≡◌, ℕ, zero, suc, ◌+◌, ◌*◌, ◌<◌, ◌≤◌, Bool, true, false, not, cond, ◌&&◌, ◌||◌, List, [], ◌∷◌, ◌++◌, length, take, append_assoc, Option, None, Some, refl, sym, ◌∙◌, ap, arith}
use Rattle.std.specs.{Prelude.{filter, flat_map, is_none, nat_lt, slice_get}, List.{list_any}, Option.{option_and_then, option_map, option_map_or}}
use Rattle.std.proofs.lemmas.{Bool.{eqb-true}, List.Folds.{list_any_more}, Option.{get_or_from_slice_get}}
use Rattle.oc_base.specs.{declared.format.Word.{Word}, declared.format.Word.TheVariants.{W32, W64}, declared.code.Code.{Code}}
use Rattle.oc_base.specs.{declared.code.Code.TheVariants.{RelocKind, BadOffset, BadTarget, TargetKind, Overlap}, declared.fault.Fault.{Fault}}
use Rattle.oc_base.specs.declared.fault.Phase.TheVariants as phase
use Rattle.oc_linking.specs.{declared.terms.Keep.{Keep}, Keeping.{keeps}, Fits.{bytes_of}, Numbers.{first_upto, or_else}}
use Rattle.oc_linking.specs.FirstFault.{Condition, first_broken, stage_fault}
use Rattle.oc_neutral.specs.{RelocTables.{row_of}, Rows.{Row}, TargetSections.{each_of}}
use Rattle.oc_shelf.specs.{Reading.Collected.{collected, with_option}, Reading.Firsts.{any_upto}, Reading.Spans.{meets}}
use Rattle.oc_shelf.proofs.{ReadingLaws.RowLemmas.{length-rows, row_at}, ReadingLaws.StageLemmas.{first_upto-head, first_upto-same}}
use Rattle.oc_coff_judge.specs.declared.aims.AimKind as aims
use Rattle.oc_coff_judge.specs.{declared.relocs.RelocTable.{RelocTable}, Aimed.{face_of}, Led.{carried_at}}
use Rattle.oc_coff_judge.specs.Relocs.{IsTable, bytes_for, entry_fault, fault_in, faults_in, is_wrong, meets_upto, own_conditions, passes_bytes, reloc_fault, reloc_of, reloc_place, relocs_fault, row_for, span_of, takes_home, width_of}
use Rattle.oc_coff_judge.proofs.CollectLemmas.{carried_are}

-- ... the first fault of a list

abbrev first_of : {X : Type 0} → (X → Option Fault) → List X → Option Fault
first_of fault [] = None
first_of fault (x ∷ xs) = or_else (fault x) (first_of fault xs)

or_assoc : (a b c : Option Fault) → or_else (or_else a b) c ≡ or_else a (or_else b c)
or_assoc None b c = refl
or_assoc (Some x) b c = refl

or_none : (a : Option Fault) → or_else a None ≡ a
or_none None = refl
or_none (Some x) = refl

-- entry by entry
listed : {X : Type 0} (conditions : X → List Condition) (xs : List X) → first_upto (λ i. first_broken (each_of conditions xs i)) (length xs) ≡ first_of (λ x. first_broken (conditions x)) xs
listed conditions [] = refl
listed conditions (x ∷ xs) =
    first_upto-head (λ i. first_broken (each_of conditions (x ∷ xs) i)) (length xs) ∙ ap (or_else (first_broken (conditions x))) (listed conditions xs)

first_append : {X : Type 0} (fault : X → Option Fault) (xs ys : List X) → first_of fault (xs ++ ys) ≡ or_else (first_of fault xs) (first_of fault ys)
first_append fault [] ys = refl
first_append fault (x ∷ xs) ys = ap (or_else (fault x)) (first_append fault xs ys) ∙ sym (or_assoc (fault x) (first_of fault xs) (first_of fault ys))

first_flat : {X Y : Type 0} (fault : Y → Option Fault) (f : X → List Y) (xs : List X) → first_of fault (flat_map f xs) ≡ first_of (λ x. first_of fault (f x)) xs
first_flat fault f [] = refl
first_flat fault f (x ∷ xs) = first_append fault (f x) (flat_map f xs) ∙ ap (or_else (first_of fault (f x))) (first_flat fault f xs)

first_filter : {X : Type 0} (fault : X → Option Fault) (p : X → Bool) (xs : List X) → first_of fault (filter p xs) ≡ first_of (λ x. cond (p x) (fault x) None) xs
first_filter fault p [] = refl
first_filter fault p (x ∷ xs) = elim (p x) as (λ b. first_of fault (cond b (x ∷ filter p xs) (filter p xs)) ≡ or_else (cond b (fault x) None) (first_of (λ x. cond (p x) (fault x) None) xs)) [
  | true ↦ ap (or_else (fault x)) (first_filter fault p xs)
  | false ↦ first_filter fault p xs
]

first_collected : {X : Type 0} (fault : X → Option Fault) (item : ℕ → Option X) (n : ℕ) → first_of fault (collected item n) ≡ first_upto (λ i. option_and_then fault (item i)) n
first_collected fault item zero = refl
first_collected {X} fault item (suc n) = by (collected item n) (item n) ∙ ap (λ o. or_else o (option_and_then fault (item n))) (first_collected fault item n)
  where
    by : (xs : List X) (o : Option X) → first_of fault (with_option xs o) ≡ or_else (first_of fault xs) (option_and_then fault o)
    by xs None = sym (or_none (first_of fault xs))
    by xs (Some x) = first_append fault xs (x ∷ []) ∙ ap (or_else (first_of fault xs)) (or_none (fault x))

-- ... the entries of a section

no_more : {X : Type 0} (xs : List X) → xs ++ [] ≡ xs
no_more [] = refl
no_more (x ∷ xs) = ap (λ ys. x ∷ ys) (no_more xs)

judged_long : (c : Carried) (at : ℕ) (earlier relocs : List Relocation) → length (judged_from c at earlier relocs) ≡ length relocs
judged_long c at earlier [] = refl
judged_long c at earlier (r ∷ relocs) = omega (arith, judged_long c (at + 10) (earlier ++ r ∷ []) relocs)

-- entry k of them
judged_at : (c : Carried) (at : ℕ) (earlier relocs : List Relocation) (k : ℕ)
    → slice_get (judged_from c at earlier relocs) k ≡ option_map {U = Judged} (λ r. record { of = c; at = at + 10 * k; earlier = earlier ++ take k relocs; entry = r }) (slice_get relocs k)
judged_at c at earlier [] k = refl
judged_at c at earlier (r ∷ relocs) zero =
    let place : at ≡ at + 10 * 0 = omega arith in
    ap {B = Option Judged} (λ (n : ℕ). Some (record { of = c; at = n; earlier = earlier; entry = r })) place
    ∙ ap {B = Option Judged} (λ (rs : List Relocation). Some (record { of = c; at = at + 10 * 0; earlier = rs; entry = r })) (sym (no_more earlier))
judged_at c at earlier (r ∷ relocs) (suc k) =
    let place : at + 10 + 10 * k ≡ at + 10 * suc k = omega arith in
    judged_at c (at + 10) (earlier ++ r ∷ []) relocs k
    ∙ ap (λ (n : ℕ). option_map {U = Judged} (λ x. record { of = c; at = n; earlier = (earlier ++ r ∷ []) ++ take k relocs; entry = x }) (slice_get relocs k)) place
    ∙ ap (λ (rs : List Relocation). option_map {U = Judged} (λ x. record { of = c; at = at + 10 * suc k; earlier = rs; entry = x }) (slice_get relocs k)) (append_assoc earlier (r ∷ []) (take k relocs))

-- ... section by section

pub relocations_are : (w : Word) (t : Tables) (keep : Keep) → stage_fault (relocation_stage w t keep) ≡ first_upto (relocs_fault w t keep) (length t.sections)
unfolding judged_in
relocations_are w t keep =
    listed (relocation_conditions w t) (judged_in t keep)
    ∙ first_flat entry (λ (c : Carried). judged_from c c.relocs_at [] c.relocs) (filter (λ (c : Carried). keeps keep c.section.kind) (carried_in t))
    ∙ first_filter table (λ (c : Carried). keeps keep c.section.kind) (carried_in t)
    ∙ ap (first_of (λ (c : Carried). cond (keeps keep c.section.kind) (table c) None)) (carried_are t)
    ∙ first_collected (λ (c : Carried). cond (keeps keep c.section.kind) (table c) None) (carried_at t) (length t.sections)
    ∙ first_upto-same (λ i. option_and_then (λ (c : Carried). cond (keeps keep c.section.kind) (table c) None) (carried_at t i)) (relocs_fault w t keep) (length t.sections) (λ i low. each (carried_at t i))
  where
    entry : Judged → Option Fault
    entry x = first_broken (relocation_conditions w t x)

    table : Carried → Option Fault
    table c = first_of entry (judged_from c c.relocs_at [] c.relocs)

    table_is : (c : Carried) → table c ≡ first_upto (λ k. fault_in w t k c) (length c.relocs)
    table_is c =
        sym (listed (relocation_conditions w t) (judged_from c c.relocs_at [] c.relocs)) ∙ ap (first_upto (λ k. fault_in w t k c)) (judged_long c c.relocs_at [] c.relocs)

    each : (o : Option Carried) → option_and_then (λ (c : Carried). cond (keeps keep c.section.kind) (table c) None) o ≡ option_and_then (faults_in w t keep) o
    each None = refl
    each (Some c) = ap (λ o. cond (keeps keep c.section.kind) o None) (table_is c)

-- ... one entry

-- four conditions behind one that holds, of which the last stands apart
four : (a b c d : Bool) (z f g h k : Fault)
    → first_broken ((a, f) ∷ (b, g) ∷ (c, h) ∷ (d, k) ∷ []) ≡ or_else (first_broken ((false, z) ∷ (a, f) ∷ (b, g) ∷ (c, h) ∷ [])) (cond d (Some k) None)
four true b c d z f g h k = refl
four false true c d z f g h k = refl
four false false true d z f g h k = refl
four false false false d z f g h k = refl

-- what a symbol stands for is wrong for a row
wrong_same : (row : Row) (aim : Option (Option Aim)) → option_map_or (is_wrong (needs_home row)) (option_map face_of aim) false ≡ is_wrong_aim row aim
wrong_same row None = refl
wrong_same row (Some None) = refl
wrong_same row (Some (Some a)) = by (needs_home row) a.homeless
  where
    by : (h o : Bool) → is_wrong h (face_of (Some (record a { homeless = o }))) ≡ (h && o)
    by true true = refl
    by true false = refl
    by false true = refl
    by false false = refl

none_same : (aim : Option (Option Aim)) → is_none (option_map face_of aim) ≡ is_none aim
none_same None = refl
none_same (Some a) = refl

-- the fault of an entry that says nothing, and what that of another is made of
module _ (w : Word) (t : Tables) (i place : ℕ) (c : Carried) (table : RelocTable) (earlier : List Relocation) (r : Relocation) where
  abbrev entry : Judged
  entry = record { of = c; at = place; earlier = earlier; entry = r }

  pub idle_fault : says_nothing r ≡ true → first_broken (relocation_conditions w t entry) ≡ None
  unfolding relocation_conditions
  idle_fault idle = rw idle refl

  abbrev again : Option Fault
  again = cond (list_any (meets_field w r.VirtualAddress (width_of w r)) earlier) (Some (reloc_fault Overlap i place)) None

  abbrev own : Option Fault
  own = first_broken (own_conditions w i table place r (option_map face_of (aim_in w t r.SymbolTableIndex)))

  -- a fault of the entry, where its section has that number
  abbrev fault : ℕ → Code → Fault
  fault n code = record { phase = phase.Relocation; index = n; code = code; place = place }

  -- what is told by five tests
  abbrev told : Bool → Bool → Bool → Bool → Bool → ℕ → Option Fault
  told p a b d e n = or_else (first_broken ((p, fault n RelocKind) ∷ (a, fault n BadOffset) ∷ (b, fault n BadTarget) ∷ (d, fault n TargetKind) ∷ [])) (cond e (Some (fault n Overlap)) None)

  abbrev aim : Option (Option Aim)
  aim = aim_in w t r.SymbolTableIndex

  busy_by : c.section.number ≡ i + 1 → table.size ≡ c.section.size → table.stored ≡ c.stored → (o : Option Row) → row_for w r ≡ o
      → first_broken ((is_none o, fault c.section.number RelocKind) ∷ option_map_or (row_conditions w entry r aim) o []) ≡ or_else own again
  unfolding own_conditions
  busy_by number size stored None e =
      ap (λ (n : ℕ). Some (fault n RelocKind)) number
      ∙ sym (ap (λ b. told b (passes_bytes w table r) (is_none (option_map face_of aim)) (option_map_or (is_wrong (takes_home w r)) (option_map face_of aim) false) (list_any (meets_field w r.VirtualAddress (width_of w r)) earlier) (i + 1)) (ap is_none e))
  busy_by number size stored (Some row) e =
      let wide : width_of w r ≡ bytes_of row.width = ap (λ (o : Option Row). option_map_or (λ (row : Row). bytes_of row.width) o 0) e in
      let home : takes_home w r ≡ needs_home row = ap (λ (o : Option Row). option_map_or needs_home o false) e in
      let at : ℕ = r.VirtualAddress in
      let n : ℕ = c.section.number in
      let bytes : Bool = not c.stored || nat_lt c.section.size (at + bytes_of row.width) in
      let met : Bool = list_any (meets_field w at (bytes_of row.width)) earlier in
      let passes : bytes ≡ passes_bytes w table r
      = ap (λ b. not b || nat_lt c.section.size (at + bytes_of row.width)) (sym stored) ∙ ap (λ (m : ℕ). not table.stored || nat_lt m (at + bytes_of row.width)) (sym size)
      ∙ ap (λ (m : ℕ). not table.stored || nat_lt table.size (at + m)) (sym wide) in
      let wrong : is_wrong_aim row aim ≡ option_map_or (is_wrong (takes_home w r)) (option_map face_of aim) false
      = sym (wrong_same row aim) ∙ ap (λ b. option_map_or (is_wrong b) (option_map face_of aim) false) (sym home) in
      four bytes (is_none aim) (is_wrong_aim row aim) met (fault n RelocKind) (fault n BadOffset) (fault n BadTarget) (fault n TargetKind) (fault n Overlap)
      ∙ ap (λ b. told b bytes (is_none aim) (is_wrong_aim row aim) met n) (sym (ap is_none e))
      ∙ ap (λ b. told (is_none (row_for w r)) b (is_none aim) (is_wrong_aim row aim) met n) passes
      ∙ ap (λ b. told (is_none (row_for w r)) (passes_bytes w table r) b (is_wrong_aim row aim) met n) (sym (none_same aim))
      ∙ ap (λ b. told (is_none (row_for w r)) (passes_bytes w table r) (is_none (option_map face_of aim)) b met n) wrong
      ∙ ap (λ (m : ℕ). told (is_none (row_for w r)) (passes_bytes w table r) (is_none (option_map face_of aim)) (option_map_or (is_wrong (takes_home w r)) (option_map face_of aim) false)
      (list_any (meets_field w at m) earlier) n) (sym wide)
      ∙ ap (told (is_none (row_for w r)) (passes_bytes w table r) (is_none (option_map face_of aim)) (option_map_or (is_wrong (takes_home w r)) (option_map face_of aim) false)
      (list_any (meets_field w at (width_of w r)) earlier)) number

  pub busy_fault : says_nothing r ≡ false → c.section.number ≡ i + 1 → table.size ≡ c.section.size → table.stored ≡ c.stored → first_broken (relocation_conditions w t entry) ≡ or_else own again
  unfolding relocation_conditions
  busy_fault busy number size stored =
      ap (λ b. first_broken (cond b [] ((is_none (row_for w r), fault c.section.number RelocKind) ∷ option_map_or (row_conditions w entry r aim) (row_for w r) []))) busy
      ∙ busy_by number size stored (row_for w r) refl

-- ... by the table of a section

-- an entry of the table is that of the section
reloc_there : (file : CoffFile) (i : ℕ) (table : RelocTable) (is : IsTable file i table) (k : ℕ) → k < table.count → slice_get is.of.relocs k ≡ Some (reloc_of file table k)
unfolding reloc_of
reloc_there file i table is k low = ap (λ (rs : List Relocation). slice_get rs k) is.entries ∙ row_at relocation_at 10 file.bytes table.place table.count k low

long_table : (file : CoffFile) (i : ℕ) (table : RelocTable) (is : IsTable file i table) → length is.of.relocs ≡ table.count
long_table file i table is = ap length is.entries ∙ length-rows relocation_at 10 file.bytes table.place table.count

-- its fault, by the rules
by_rules : (w : Word) (file : CoffFile) (i : ℕ) (table : RelocTable) (is : IsTable file i table) (k : ℕ) → k < table.count
    → entry_fault w (tables_in file) i k
    ≡ first_broken (relocation_conditions w (tables_in file) (entry w (tables_in file) i (reloc_place table k) is.of table (take k is.of.relocs) (reloc_of file table k)))
by_rules w file i table is k low =
    ap (option_and_then (fault_in w (tables_in file) k)) is.here
    ∙ ap (λ (o : Option Judged). first_broken (option_map_or (relocation_conditions w (tables_in file)) o []))
    (judged_at is.of is.of.relocs_at [] is.of.relocs k
    ∙ ap (option_map {U = Judged} (λ r. record { of = is.of; at = is.of.relocs_at + 10 * k; earlier = take k is.of.relocs; entry = r })) (reloc_there file i table is k low)
    ∙ ap {B = Option Judged} (λ (n : ℕ). Some (record { of = is.of; at = n + 10 * k; earlier = take k is.of.relocs; entry = reloc_of file table k })) (sym is.place))

-- the fields before are those of the entries before
met_before : (w : Word) (file : CoffFile) (i : ℕ) (table : RelocTable) (is : IsTable file i table) (at width n : ℕ) → n ≤ table.count
    → list_any (meets_field w at width) (take n is.of.relocs) ≡ any_upto (λ j. option_map_or (meets (at, at + width)) (span_of w file table j) false) n
met_before w file i table is at width zero low = none is.of.relocs
  where
    none : (rs : List Relocation) → list_any (meets_field w at width) (take 0 rs) ≡ false
    none [] = refl
    none (r ∷ rs) = refl
met_before w file i table is at width (suc n) low =
    let next : suc n ≡ n + 1 = omega arith in
    let long = long_table file i table is in
    let inside : n < table.count = omega (arith, low) in
    ap (λ (m : ℕ). list_any (meets_field w at width) (take m is.of.relocs)) next
    ∙ list_any_more (meets_field w at width) is.of.relocs n r (omega (arith, inside, long))
    ∙ ap (λ (x : Relocation). list_any (meets_field w at width) (take n is.of.relocs) || meets_field w at width x) (get_or_from_slice_get is.of.relocs n r r (reloc_there file i table is n inside))
    ∙ ap (λ b. b || meets_field w at width r) (met_before w file i table is at width n (omega (arith, low)))
    ∙ ap (λ b. any_upto (λ j. option_map_or (meets (at, at + width)) (span_of w file table j) false) n || b) (by (row_for w r) refl)
  where
    r : Relocation
    r = reloc_of file table n

    by : (o : Option Row) → row_for w r ≡ o
        → option_map_or (λ (row : Row). nat_lt at (r.VirtualAddress + bytes_of row.width) && nat_lt r.VirtualAddress (at + width)) o false
        ≡ option_map_or (meets (at, at + width)) (option_map (λ (row : Row). bytes_for w r) o) false
    by None e = refl
    by (Some row) e =
        let wide : width_of w r ≡ bytes_of row.width = ap (λ (o : Option Row). option_map_or (λ (row : Row). bytes_of row.width) o 0) e in
        ap (λ (m : ℕ). nat_lt at (r.VirtualAddress + m) && nat_lt r.VirtualAddress (at + width)) (sym wide)

-- an entry that says nothing has no fault, and no field
no_row : (w : Word) → row_of (coff_format w) 0 ≡ None
no_row W32 = refl
no_row W64 = refl

module _ (w : Word) (file : CoffFile) (i : ℕ) (table : RelocTable) (is : IsTable file i table) (k : ℕ) (low : k < table.count) where
  pub idle_entry : says_nothing (reloc_of file table k) ≡ true → entry_fault w (tables_in file) i k ≡ None
  idle_entry idle = by_rules w file i table is k low ∙ idle_fault w (tables_in file) i (reloc_place table k) is.of table (take k is.of.relocs) (reloc_of file table k) idle

  pub idle_span : says_nothing (reloc_of file table k) ≡ true → span_of w file table k ≡ None
  idle_span idle =
      ap (option_map (λ (row : Row). bytes_for w (reloc_of file table k))) (ap (row_of (coff_format w)) (eqb-true (reloc_of file table k).Type 0 idle) ∙ no_row w)

  -- another has that of its own conditions, or else meets a field before
  pub busy_entry : says_nothing (reloc_of file table k) ≡ false
      → entry_fault w (tables_in file) i k
      ≡ or_else (first_broken (own_conditions w i table (reloc_place table k) (reloc_of file table k) (option_map face_of (aim_in w (tables_in file) (reloc_of file table k).SymbolTableIndex))))
      (cond (meets_upto w file table k (reloc_of file table k)) (Some (reloc_fault Overlap i (reloc_place table k))) None)
  busy_entry busy =
      let r = reloc_of file table k in
      by_rules w file i table is k low
      ∙ busy_fault w (tables_in file) i (reloc_place table k) is.of table (take k is.of.relocs) r busy is.number is.size is.stored
      ∙ ap (λ b. or_else (own w (tables_in file) i (reloc_place table k) is.of table (take k is.of.relocs) r) (cond b (Some (reloc_fault Overlap i (reloc_place table k))) None))
      (met_before w file i table is r.VirtualAddress (width_of w r) k (omega (arith, low)))

  -- the same of any entry at a place
  abbrev with : Relocation → ℕ → Option aims.AimKind → Option Fault
  with q p a = or_else (first_broken (own_conditions w i table p q a)) (cond (meets_upto w file table k q) (Some (reloc_fault Overlap i p)) None)

  -- the same, as it is computed
  pub busy_told : (r : Relocation) (place : ℕ) (stands : Option aims.AimKind) (first : Option Fault) (met : Bool) → r ≡ reloc_of file table k → says_nothing r ≡ false → place ≡ reloc_place table k
      → stands ≡ option_map face_of (aim_in w (tables_in file) r.SymbolTableIndex) → first ≡ first_broken (own_conditions w i table place r stands) → met ≡ meets_upto w file table k r
      → entry_fault w (tables_in file) i k ≡ or_else first (cond met (Some (reloc_fault Overlap i place)) None)
  busy_told r place stands first met r_is busy place_is stands_is first_is met_is =
      busy_entry (sym (ap says_nothing r_is) ∙ busy)
      ∙ ap (λ (q : Relocation). with q (reloc_place table k) (option_map face_of (aim_in w (tables_in file) q.SymbolTableIndex))) (sym r_is)
      ∙ ap (λ (p : ℕ). with r p (option_map face_of (aim_in w (tables_in file) r.SymbolTableIndex))) (sym place_is)
      ∙ ap (with r place) (sym stands_is)
      ∙ ap (λ (o : Option Fault). or_else o (cond (meets_upto w file table k r) (Some (reloc_fault Overlap i place)) None)) (sym first_is)
      ∙ ap (λ b. or_else first (cond b (Some (reloc_fault Overlap i place)) None)) (sym met_is)

-- the faults of a table are those of its section
pub table_faults : (w : Word) (file : CoffFile) (keep : Keep) (i : ℕ) (table : RelocTable) (is : IsTable file i table) → keeps keep is.of.section.kind ≡ true
    → relocs_fault w (tables_in file) keep i ≡ first_upto (entry_fault w (tables_in file) i) table.count
table_faults w file keep i table is kept =
    ap (option_and_then (faults_in w (tables_in file) keep)) is.here
    ∙ ap (λ b. cond b (first_upto (λ k. fault_in w (tables_in file) k is.of) (length is.of.relocs)) None) kept
    ∙ ap (first_upto (λ k. fault_in w (tables_in file) k is.of)) (long_table file i table is)
    ∙ first_upto-same (λ k. fault_in w (tables_in file) k is.of) (entry_fault w (tables_in file) i) table.count (λ k low. sym (ap (option_and_then (fault_in w (tables_in file) k)) is.here))
