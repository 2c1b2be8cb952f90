-- What is seen of an object that is ready for Mach-O is ready for Mach-O.
use Rattle.std.proofs.Common.{◌≡◌, ℕ, zero, suc, ◌+◌, ◌^◌, ◌<◌, ◌≤◌, ◌⊎◌, Bool, true, false, cond, not, ◌&&◌, ◌||◌, nat_lt, nat_le, List, [], ◌∷◌, ◌++◌, length, map, is_none, is_err, Option, Some, None, ℤ, refl, sym, ◌∙◌, ap, subst, arith}
use Rattle.std.specs.{Prelude.{slice_get, nat_eq}, List.{enumerate_from, list_any}, Option.{option_map, option_map_or, option_and_then}}
use Rattle.std.proofs.lemmas.Bool.{eq-eqb, lt-ltb, or_parts, or_from}
use Rattle.oc_base.specs.{declared.format.Word.{Word}, declared.format.Word.TheVariants.{W32, W64}, declared.format.Format.{Format}, declared.fault.Spot.{Spot}}
use Rattle.oc_base.specs.Formats.{word_for}
use Rattle.oc_linking.specs.{declared.terms.Kind.{Kind}, declared.terms.Kind.TheVariants.{Debug}, declared.terms.Fallback.{Fallback}}
use Rattle.oc_linking.specs.{declared.terms.Binding.{Binding}, declared.terms.Binding.TheVariants.{Weak}}
use Rattle.oc_linking.specs.declared.terms.Value.TheVariants as value
use Rattle.oc_linking.specs.declared.terms.Fallback.TheVariants as fallback
use Rattle.oc_algebra.specs.{declared.form.Form.{Form}, Fields.{to_field_of}}
use Rattle.oc_neutral.specs.{declared.section.Section.{Section}, declared.symbol.Symbol.{Symbol}, declared.reloc.Reloc.{Reloc}, declared.reloc.Target.{Target}}
use Rattle.oc_neutral.specs.{Objects.{Object, reloc_at}, Bindings.{is_written_by}, Families.{family_of, Range, upto, section_range}, Family.{Family}}
use Rattle.oc_neutral.specs.{HomeNames.{output_names}, Invariants.{IsObject}, KeySymbols.{global_place}, KindRules.{same_kind}}
use Rattle.oc_neutral.specs.Mach.Family.{mach_family, mach_gives, mach_writes, mach_needed, mach_symbol_count}
use Rattle.oc_neutral.specs.{Mach.Kinds.{is_comma, segment_of, section_of, mach_kind, mach_tag, is_read_type}, Mach.SelfReferences.{is_self_reference}}
use Rattle.oc_neutral.specs.{Normal.{Place, at_section}, Relocated.{is_relocated}, Rows.{Row}, Shifts.{field_shift, written_shift}}
use Rattle.oc_neutral.specs.{Spelling.{numbers_in, spelling_of, written_row}, Stored.{is_stored}, TargetSections.{section_count, section_conditions}}
use Rattle.oc_neutral.specs.TargetSymbols.{bounded}
use Rattle.oc_neutral.specs.TargetRelocations.{reloc_conditions, is_too_wide, taken_end, lacks_difference, fixed_end, global_section, has_empty_end, is_empty, is_symbol}
use Rattle.oc_neutral.specs.declared.reloc.Target.TheVariants as aim
use Rattle.oc_target.specs.Fitted.{IsFitted}
use Rattle.oc_shows.specs.Manners.{Manner, mach_manner}
use Rattle.oc_shows.specs.Seen.{place_at, section_place, seen, seen_section, seen_symbol, seen_binding, seen_fallback, seen_reloc, seen_target}
use Rattle.oc_neutral.specs.TargetSections as sections_of_target
use Rattle.oc_target.proofs.{MeetsConditions.{AreMet, section_met, reloc_met}, SeenLaws.{seen_is_object_law}}
use Rattle.oc_shows.proofs.{SeenAlike.{stands}, SeenLines.{IsShown}}
use Rattle.oc_macho.specs.MachHeader.{mach_format}
use Rattle.oc_macho_file.proofs.{CodedLaws.{IsForMach, IsPlaced, for_mach, fallback_is}, SeenLaws.{shown, again, again_is, are_shown}}
use Rattle.oc_macho_file.proofs.StructureLaws.{high_test}
use Rattle.oc_canonical.proofs.MachAgain.{row_same, is_moved, written_same, ready, form_same, hint_same, target_same, long_place, needed_again, addend_same}
use Rattle.oc_canonical.proofs.{SeenSums.{seen_count}, SeenFitted.{FamilyStays, seen_fitted}, StaysLemmas.{sections_long, target_stays}}
use Rattle.oc_elf_file.proofs.{TableClean.{none_right}, HeaderClean.{within_file}}
use Rattle.oc_neutral.proofs.GivenLaws.{same_kind-self}

family_whole : (w : Word) → family_of (mach_format w) ≡ mach_family w
family_whole w = grind arith

range_whole : (w : Word) → section_range (mach_format w) ≡ upto 255
range_whole w = grind arith

comma_in : (xs ys : List ℕ) → list_any is_comma (xs ++ 44 ∷ ys) ≡ true
comma_in [] ys = refl
comma_in (x ∷ xs) ys = by (is_comma x) (comma_in xs ys)
  where
    by : (b : Bool) → list_any is_comma (xs ++ 44 ∷ ys) ≡ true → (b || list_any is_comma (xs ++ 44 ∷ ys)) ≡ true
    by b e = grind arith

section_of_place : (b : Binding) (p : Place) → global_place b ≡ Some p → global_section b ≡ Some p.0
section_of_place b p h = grind arith

module _ (w : Word) (n : Object) (fits : IsFitted (mach_format w) n) where
  is : IsForMach w n
  is = for_mach w n fits

  abbrev m : Manner
  m = mach_manner w

  abbrev sh : List (ℕ × ℕ)
  sh = shown w n

  abbrev target : Format
  target = mach_format w

  whole : family_of target ≡ mach_family w
  whole = family_whole w

  shows : IsShown n sh
  shows = are_shown w n

  abbrev a : Object
  a = again w n

  -- ... sections

  counted : AreMet (section_count target a)
  counted =
      let long = sections_long m n sh shows in
      let low = is.meets.few in
      let count : ℕ = length a.sections in
      subst (λ (f : Family). AreMet (sections_of_target.bounded (section_range target) (f.sections (is_relocated target a) a))) (sym whole)
      (subst (λ (range : Range). AreMet (sections_of_target.bounded range count)) (sym (range_whole w)) (within_file count 0 (omega arith), (within_file 255 count (omega (arith, long, low)), tt)))

  abbrev kind_of : Section → Kind
  kind_of s = mach_kind (segment_of s.name) (section_of s.name) s.tag

  gives : (k : ℕ) (s : Section) → slice_get n.sections k ≡ Some s → (family_of target).gives (kind_of s) s.name s.tag ≡ true
  unfolding mach_gives
  gives k s here =
      let x = is.meets.sections k s here in
      let comma : list_any is_comma s.name ≡ true = ap (list_any is_comma) x.name ∙ comma_in (segment_of s.name) (section_of s.name) in
      let rest : Bool = nat_le (length (section_of s.name)) 16 in
      ap (λ (f : Family). f.gives (kind_of s) s.name s.tag) whole
      ∙ ap (λ b. not b && ((list_any is_comma s.name && nat_le (length (segment_of s.name)) 16 && nat_le (length (section_of s.name)) 16) && nat_lt s.tag (2 ^ 32) && nat_eq (mach_tag s.tag) s.tag && is_read_type s.tag && same_kind (kind_of s) (kind_of s))) x.uncut
      ∙ ap (λ b. (b && nat_le (length (segment_of s.name)) 16 && nat_le (length (section_of s.name)) 16) && nat_lt s.tag (2 ^ 32) && nat_eq (mach_tag s.tag) s.tag && is_read_type s.tag && same_kind (kind_of s) (kind_of s)) comma
      ∙ ap (λ b. (b && nat_le (length (section_of s.name)) 16) && nat_lt s.tag (2 ^ 32) && nat_eq (mach_tag s.tag) s.tag && is_read_type s.tag && same_kind (kind_of s) (kind_of s)) (high_test (length (segment_of s.name)) 16 x.segment)
      ∙ ap (λ b. b && nat_lt s.tag (2 ^ 32) && nat_eq (mach_tag s.tag) s.tag && is_read_type s.tag && same_kind (kind_of s) (kind_of s)) (high_test (length (section_of s.name)) 16 x.section)
      ∙ ap (λ b. b && nat_eq (mach_tag s.tag) s.tag && is_read_type s.tag && same_kind (kind_of s) (kind_of s)) (lt-ltb s.tag (2 ^ 32) x.small)
      ∙ ap (λ b. b && is_read_type s.tag && same_kind (kind_of s) (kind_of s)) (eq-eqb (mach_tag s.tag) s.tag x.tag)
      ∙ ap (λ b. b && same_kind (kind_of s) (kind_of s)) x.type
      ∙ same_kind-self (kind_of s)

  name : (k : ℕ) (s : Section) → slice_get n.sections k ≡ Some s → (family_of target).lacks_name (output_names target a) a s.name (seen_section m n (k, s)) ≡ false
  unfolding section_conditions
  name k s here =
      ap (λ (f : Family). f.lacks_name (output_names target a) a s.name (seen_section m n (k, s))) whole
      ∙ sym (ap (λ (f : Family). f.lacks_name (output_names target n) n s.name s) whole)
      ∙ (section_met target n fits k s here).1.1.1.1.0

  -- ... symbols

  needed_long : (v : Word) → w ≡ v → length (mach_needed v a) ≡ length (mach_needed v n)
  needed_long W32 e = refl
  needed_long W64 e = ap length (needed_again w n is e)

  table : (v : Word) → w ≡ v → mach_symbol_count v n < 2 ^ 24
  table W32 e = is.meets.table_32 (ap mach_format e)
  table W64 e = is.meets.table_64 (ap mach_format e)

  few : AreMet (option_map_or bounded ((family_of target).symbols a) [])
  few =
      let low = table w refl in
      let long = needed_long w refl in
      let le = seen_count m n sh shows (λ s. is_written_by (mach_writes w) s.name s.binding) (λ s. is_written_by (mach_writes w) s.name s.binding) (λ k number s h. written_same w n sh (mach_writes w) s.name s.binding) in
      subst (λ (f : Family). AreMet (option_map_or bounded (f.symbols a) [])) (sym whole)
      (within_file 0xFFFFFF (mach_symbol_count w a) (omega (arith, low, long, le)), tt)

  weak : (k : ℕ) (s : Symbol) (f : Fallback) → slice_get n.symbols k ≡ Some s → s.binding ≡ Weak f → (family_of target).lacks_weak a (seen_fallback m n sh f) ≡ false
  weak k s f here own = ap (λ (g : Family). g.lacks_weak a (seen_fallback m n sh f)) whole ∙ by (fallback_is w n is k s here f own)
    where
      by : (f ≡ fallback.Zero) ⊎ IsPlaced w n f → (mach_family w).lacks_weak a (seen_fallback m n sh f) ≡ false
      by x = grind arith

  -- ... relocations

  empty_again : (k : ℕ) → is_empty a k ≡ is_empty n k
  empty_again k = by 0 n.sections k
    where
      by : (i : ℕ) (xs : List Section) (k : ℕ) → option_map_or (λ (s : Section). nat_eq s.size 0) (slice_get (map (seen_section m n) (enumerate_from i xs)) k) false ≡ option_map_or (λ (s : Section). nat_eq s.size 0) (slice_get xs k) false
      by i [] k = refl
      by i (x ∷ xs) zero = refl
      by i (x ∷ xs) (suc k) = by (i + 1) xs k

  section_same : (b : Binding) → global_section (seen_binding m n sh b) ≡ global_section b
  section_same b = grind arith

  symbol_same : (t : Target) → is_symbol (seen_target sh t) ≡ is_symbol t
  symbol_same t = grind arith

  placed_end : (j : ℕ) (p : Place) → place_at n j ≡ Some p → fixed_end n (aim.Symbol j) ≡ Some p.0
  placed_end j p h = by (slice_get n.symbols j) h
    where
      by : (o : Option Symbol) → option_and_then (λ (s : Symbol). global_place s.binding) o ≡ Some p → option_and_then (λ (s : Symbol). global_section s.binding) o ≡ Some p.0
      by o h = grind arith

  module _ (s at : ℕ) (r : Reloc) (here : reloc_at n s at ≡ Some r) where
    abbrev q : Reloc
    q = seen_reloc m n sh r

    abbrev place : Option Place
    place = section_place m n r

    row_again : written_row target q.form q.hint ≡ written_row target r.form r.hint
    row_again = ap (λ f. written_row target f q.hint) (form_same w n is r) ∙ ap (written_row target r.form) (hint_same w n is r) ∙ row_same w r.form r.hint

    end_again : (t : Target) → r.target ≡ t → fixed_end a (seen_target sh t) ≡ fixed_end n t
    end_again (aim.Section k) e = refl
    end_again (aim.Symbol j) e =
        let y = (ready w n is).targets s at r j here e in
        let z = stands m n sh shows j y.0 y.1 y.2 in
        ap (option_and_then (λ (x : Symbol). global_section x.binding)) z.1 ∙ section_same y.0.binding ∙ sym (ap (option_and_then (λ (x : Symbol). global_section x.binding)) y.1)

    -- the target lies in the same section
    end_same : fixed_end a q.target ≡ fixed_end n r.target
    end_same = by place refl
      where
        by : (o : Option Place) → place ≡ o → fixed_end a q.target ≡ fixed_end n r.target
        by None e = ap (fixed_end a) (target_same w n is r e) ∙ end_again r.target refl
        by (Some p) e =
            let t = is_moved w n r p e in
            ap (λ o. fixed_end a (seen_target sh (at_section (word_for n.format) r o).target)) e ∙ sym (ap (fixed_end n) t.target ∙ placed_end t.number p t.place)

    lacks_again : (k : ℕ) → lacks_difference r.target (fixed_end n r.target) k ≡ false → lacks_difference q.target (fixed_end a q.target) k ≡ false
    lacks_again k none =
        let parts = or_parts (is_none (fixed_end n r.target)) (is_symbol r.target && option_map_or (λ (e : ℕ). nat_eq e k) (fixed_end n r.target) false) none in
        or_from (is_none (fixed_end a q.target)) (is_symbol q.target && option_map_or (λ (e : ℕ). nat_eq e k) (fixed_end a q.target) false) (ap is_none end_same ∙ parts.0) (by place refl parts.1)
      where
        by : (o : Option Place) → place ≡ o → (is_symbol r.target && option_map_or (λ (e : ℕ). nat_eq e k) (fixed_end n r.target) false) ≡ false
            → (is_symbol q.target && option_map_or (λ (e : ℕ). nat_eq e k) (fixed_end a q.target) false) ≡ false
        by None e rest =
            ap (λ t. is_symbol t && option_map_or (λ (e : ℕ). nat_eq e k) (fixed_end a q.target) false) (target_same w n is r e)
            ∙ ap (λ b. b && option_map_or (λ (e : ℕ). nat_eq e k) (fixed_end a q.target) false) (symbol_same r.target)
            ∙ ap (λ o. is_symbol r.target && option_map_or (λ (e : ℕ). nat_eq e k) o false) end_same
            ∙ rest
        by (Some p) e rest = ap (λ o. is_symbol (seen_target sh (at_section (word_for n.format) r o).target) && option_map_or (λ (e : ℕ). nat_eq e k) (fixed_end a q.target) false) e

    differs : (o : Option ℕ) → option_map_or (lacks_difference r.target (fixed_end n r.target)) o false ≡ false → option_map_or (lacks_difference q.target (fixed_end a q.target)) o false ≡ false
    differs None e = refl
    differs (Some k) e = lacks_again k e

    ends_again : (o : Option ℕ) → option_map_or (has_empty_end a q.target) o false ≡ option_map_or (has_empty_end n r.target) o false
    ends_again None = refl
    ends_again (Some k) =
        ap (λ b. b || option_map_or (is_empty a) (fixed_end a q.target) false) (empty_again k)
        ∙ ap (λ o. is_empty n k || option_map_or (is_empty a) o false) end_same
        ∙ ap (λ b. is_empty n k || b) (by (fixed_end n r.target))
      where
        by : (o : Option ℕ) → option_map_or (is_empty a) o false ≡ option_map_or (is_empty n) o false
        by None = refl
        by (Some j) = empty_again j

    wide : (v : Word) → w ≡ v → is_too_wide target at r ≡ false → is_too_wide target at q ≡ false
    unfolding field_shift
    wide W32 e fine = ap (λ v. is_too_wide (mach_format v) at q) e
    wide W64 e fine =
        ap (λ (f : Form). wide_by f (written_row target q.form q.hint) q.addend) (form_same w n is r)
        ∙ ap (λ o. wide_by r.form o q.addend) row_again
        ∙ ap (wide_by r.form (written_row target r.form r.hint)) (addend_same w n is s at r here (long_place w n is e r))
        ∙ fine
      where
        wide_by : Form → Option Row → ℤ → Bool
        wide_by f o addend = option_map_or (λ (shift : ℤ). is_err (to_field_of (word_for target) f.width shift addend)) (cond (family_of target).holds_all_addends None (option_map (written_shift at f.less) o)) false

    reloc : (spot : Spot) → AreMet (reloc_conditions target a at q spot)
    unfolding reloc_conditions
    reloc spot =
        let met = reloc_met target n fits s at r here in
        let taken : taken_end target q.form.less ≡ taken_end target r.form.less = ap (λ (f : Form). taken_end target f.less) (form_same w n is r) in
        let no_form = or_parts (is_none (spelling_of target r.form r.hint)) (option_map_or (lacks_difference r.target (fixed_end n r.target)) (taken_end target r.form.less) false) met.1.0 in (
          target_stays m n sh shows (ready w n is) s at r here met.0,
          (
            or_from (is_none (spelling_of target q.form q.hint)) (option_map_or (lacks_difference q.target (fixed_end a q.target)) (taken_end target q.form.less) false)
                (ap (λ o. is_none (option_map (λ (x : Row). numbers_in x.number x.second) o)) row_again ∙ no_form.0)
                (ap (λ o. option_map_or (lacks_difference q.target (fixed_end a q.target)) o false) taken ∙ differs (taken_end target r.form.less) no_form.1),
            (
              ap (λ o. option_map_or (λ (k : ℕ). nat_le (2 ^ 24) at) o false) taken ∙ met.1.1.0,
              (
                ap (λ o. option_map_or (has_empty_end a q.target) o false) taken ∙ ends_again (taken_end target r.form.less) ∙ met.1.1.1.0,
                (wide w refl met.1.1.1.1.0, tt),
              ),
            ),
          ),
        )

  stored : (s : ℕ) (r : Reloc) → is_stored target s r ≡ false → is_stored target s (seen_reloc m n sh r) ≡ false
  stored s r e = ap (λ (f : Family). f.stores_own_start && is_self_reference s (seen_reloc m n sh r)) whole ∙ by w refl
    where
      by : (v : Word) → w ≡ v → ((mach_family v).stores_own_start && is_self_reference s (seen_reloc m n sh r)) ≡ false
      by v f = grind arith

  mach_stays : FamilyStays target m n sh
  mach_stays = record {
    counted = counted;
    debug = λ k s here. ap (λ (f : Family). same_kind (kind_of s) Debug && not f.keeps_debug) whole ∙ none_right (same_kind (kind_of s) Debug);
    kind = λ k s here. ap (λ (f : Family). f.lacks_kind (kind_of s)) whole;
    gives = gives;
    name = name;
    member = λ k s here. ap (λ o. option_map_or ((family_of target).lacks_member a) o false) (is.meets.sections k s here).alone;
    few = few;
    symbol = λ k number s here. ap (λ (f : Family). f.lacks_symbol (seen_symbol m n sh number s)) whole ∙ (is.meets.symbols k s here).name;
    weak = weak;
    reloc = λ s at r spot here. reloc s at r here spot;
    stored = stored;
  }

  pub mach_seen_fitted : IsFitted target (seen n)
  mach_seen_fitted =
      subst (IsFitted target) (sym (again_is w n is.format))
      (seen_fitted target m n sh fits shows (subst IsObject (again_is w n is.format) (seen_is_object_law target n fits)) mach_stays)
