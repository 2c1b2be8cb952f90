-- What is seen of an object that is ready for COFF is ready for COFF.
use Rattle.std.proofs.Common.{◌≡◌, ℕ, ◌^◌, true, false, cond, not, ◌&&◌, ◌||◌, eqb, nat_lt, nat_le, [], length, is_none, is_err, Option, Some, None, ℤ, refl, sym, ◌∙◌, ap, subst, arith}
use Rattle.std.specs.{Prelude.{slice_get, bytes_eq, nat_eq}, Option.{option_map, option_map_or, unwrap_or}}
use Rattle.std.proofs.lemmas.{Bool.{eq-eqb, lt-ltb, or_parts, or_from}, Slice.Eq.{bytes_eq-Decides}, Map.Keys.{any_passes_from_place}}
use Rattle.oc_base.specs.{declared.format.Format.{Format}, declared.fault.Spot.{Spot}, Formats.{word_for}}
use Rattle.oc_linking.specs.{declared.terms.Kind.{Kind}, declared.terms.Kind.TheVariants.{Debug}, declared.terms.Hint.TheVariants.{Plain}}
use Rattle.oc_algebra.specs.Fields.{to_field_of}
use Rattle.oc_neutral.specs.{declared.section.Section.{Section}, declared.symbol.Symbol.{Symbol}, declared.reloc.Reloc.{Reloc}, Objects.{Object, reloc_at}}
use Rattle.oc_neutral.specs.{Coff.Family.{coff_gives, coff_family, is_far}, Coff.Kinds.{coff_kind, coff_tag}, Coff.Strings.{is_tabled, string_offset}}
use Rattle.oc_neutral.specs.{Families.{family_of, section_range}, Family.{Family}, HomeNames.{output_names}, Invariants.{IsObject}}
use Rattle.oc_neutral.specs.{KeySymbols.{group_at, is_key_name, lies_in, has_key_symbol}, KindRules.{same_kind}, Mach.SelfReferences.{is_self_reference}}
use Rattle.oc_neutral.specs.{Normal.{Place}, Relocated.{is_relocated}, Rows.{Row}, Shifts.{field_shift, written_shift}}
use Rattle.oc_neutral.specs.{Spelling.{numbers_in, spelling_of, written_row}, TargetSections.{section_count, section_conditions}, TargetSymbols.{bounded}}
use Rattle.oc_neutral.specs.TargetRelocations.{reloc_conditions, is_too_wide, section_taken, taken_end, lacks_difference, fixed_end, has_empty_end}
use Rattle.oc_neutral.specs.Tests.{is_cut}
use Rattle.oc_target.specs.{Fitted.{IsFitted}, Meets.{HasKeySymbol}}
use Rattle.oc_shows.specs.{Manners.{coff_manner}, Seen.{seen, seen_section, seen_symbol, seen_fallback, seen_reloc}}
use Rattle.oc_neutral.specs.TargetSections as sections_of_target
use Rattle.oc_target.proofs.{MeetsConditions.{AreMet, section_met, reloc_met}, MeetsRelocs.{normal_of}, SeenLaws.{seen_is_object_law}}
use Rattle.oc_target.proofs.SeenReady.{IsReady, coff_ready}
use Rattle.oc_shows.proofs.SeenLines.{IsShown}
use Rattle.oc_coff.specs.{declared.form.CoffForm.{CoffForm}, Forms.{format_of, word_of}}
use Rattle.oc_coff_file.proofs.{CodedLaws.{IsForCoff, for_coff}, SeenLaws.{shown, again, again_is, are_shown}}
use Rattle.oc_canonical.proofs.{CoffAgain.{plain_rows, offset_same, key_again}, SeenFitted.{FamilyStays, seen_fitted}}
use Rattle.oc_canonical.proofs.StaysLemmas.{sections_long, target_stays, plain_row}
use Rattle.oc_elf_file.proofs.{TableClean.{none_right}, HeaderClean.{within_file}}
use Rattle.oc_neutral.proofs.GivenLaws.{same_kind-self}

family_whole : (w : CoffForm) → family_of (format_of w) ≡ coff_family (word_of w)
family_whole w = grind arith

least_none : (w : CoffForm) → (section_range (format_of w)).least ≡ 0
least_none w = grind arith

-- a group with a key symbol has one
key_told : (n : Object) (g : ℕ) → HasKeySymbol n g → has_key_symbol n g ≡ true
key_told n g has =
    let own : (lies_in n g has.symbol && is_key_name n has.symbol.name g) ≡ true
    = ap (λ o. option_map_or (λ (place : Place). option_map_or (nat_eq g) (group_at n place.0) false) o false && is_key_name n has.symbol.name g) has.placed
    ∙ ap (λ o. option_map_or (nat_eq g) o false && is_key_name n has.symbol.name g) has.member
    ∙ ap (λ b. b && is_key_name n has.symbol.name g) (eq-eqb g g refl)
    ∙ ap (λ o. option_map_or (bytes_eq has.symbol.name) o false) has.key
    ∙ (bytes_eq-Decides has.symbol.name has.symbol.name).1 refl in
    any_passes_from_place (λ (s : Symbol). lies_in n g s && is_key_name n s.name g) n.symbols has.position has.symbol has.there own

module _ (w : CoffForm) (n : Object) (fits : IsFitted (format_of w) n) where
  is : IsForCoff w n
  is = for_coff w n fits

  abbrev target : Format
  target = format_of w

  whole : family_of target ≡ coff_family (word_of w)
  whole = family_whole w

  shows : IsShown n (shown n)
  shows = are_shown w n is.format

  abbrev a : Object
  a = again n

  ready : IsReady coff_manner n
  ready = coff_ready target n is.object is.meets

  -- ... sections

  counted : AreMet (section_count target a)
  counted =
      let long = sections_long coff_manner n (shown n) shows in
      let low = is.meets.few in
      let none = least_none w in
      subst (λ (f : Family). AreMet (sections_of_target.bounded (section_range target) (f.sections (is_relocated target a) a))) (sym whole)
      (within_file (length a.sections) (section_range target).least (omega (arith, none)), (within_file (section_range target).most (length a.sections) (omega (arith, long, low)), tt))

  abbrev kind_of : Section → Kind
  kind_of s = unwrap_or (coff_kind s.name s.tag) s.kind

  gives : (k : ℕ) (s : Section) → slice_get n.sections k ≡ Some s → (family_of target).gives (kind_of s) s.name s.tag ≡ true
  unfolding coff_gives
  gives k s here =
      let meets = is.meets.sections k s here in
      ap (λ (f : Family). f.gives (kind_of s) s.name s.tag) whole
      ∙ ap (λ b. not b && (nat_lt s.tag (2 ^ 32) && eqb (coff_tag s.tag) s.tag && option_map_or (same_kind (kind_of s)) (coff_kind s.name s.tag) false)) meets.uncut.name
      ∙ ap (λ b. b && eqb (coff_tag s.tag) s.tag && option_map_or (same_kind (kind_of s)) (coff_kind s.name s.tag) false) (lt-ltb s.tag (2 ^ 32) meets.small)
      ∙ ap (λ b. b && option_map_or (same_kind (kind_of s)) (coff_kind s.name s.tag) false) (eq-eqb (coff_tag s.tag) s.tag meets.tag)
      ∙ ap (λ o. option_map_or (same_kind (unwrap_or o s.kind)) o false) meets.carried
      ∙ same_kind-self meets.read

  name : (k : ℕ) (s : Section) → slice_get n.sections k ≡ Some s → (family_of target).lacks_name (output_names target a) a s.name (seen_section coff_manner n (k, s)) ≡ false
  unfolding section_conditions
  name k s here =
      let offset : string_offset (coff_family (word_of w)).writes_local (output_names target a) a s.name ≡ string_offset (coff_family (word_of w)).writes_local (output_names target n) n s.name
      = sym (ap (λ (f : Family). string_offset f.writes_local (output_names target a) a s.name) whole)
      ∙ offset_same w n is s.name
      ∙ ap (λ (f : Family). string_offset f.writes_local (output_names target n) n s.name) whole in
      ap (λ (f : Family). f.lacks_name (output_names target a) a s.name (seen_section coff_manner n (k, s))) whole
      ∙ ap (λ x. is_cut n s.name s || (is_tabled s.name && is_far x)) offset
      ∙ sym (ap (λ (f : Family). f.lacks_name (output_names target n) n s.name s) whole)
      ∙ (section_met target n fits k s here).1.1.1.1.0

  member : (k : ℕ) (s : Section) → slice_get n.sections k ≡ Some s → option_map_or ((family_of target).lacks_member a) s.group false ≡ false
  member k s here = ap (λ (f : Family). option_map_or (f.lacks_member a) s.group false) whole ∙ by s.group refl
    where
      by : (o : Option ℕ) → s.group ≡ o → option_map_or (λ (g : ℕ). not (has_key_symbol a g)) o false ≡ false
      by None e = refl
      by (Some g) e = ap not (key_told a g (key_again w n is g ((is.meets.sections k s here).led g e)))

  -- ... relocations

  reloc : (s at : ℕ) (r : Reloc) (spot : Spot) → reloc_at n s at ≡ Some r → AreMet (reloc_conditions target a at (seen_reloc coff_manner n (shown n) r) spot)
  unfolding reloc_conditions field_shift
  reloc s at r spot here =
      let q : Reloc = seen_reloc coff_manner n (shown n) r in
      let met = reloc_met target n fits s at r here in
      let row : written_row target r.form Plain ≡ written_row target r.form r.hint = plain_row target (plain_rows w) r.form r.hint in
      let end : taken_end target r.form.less ≡ None = ap (λ (f : Family). cond f.scatters (section_taken r.form.less) None) whole in
      let formed : is_none (spelling_of target r.form Plain) ≡ false
      = ap (λ o. is_none (option_map (λ (x : Row). numbers_in x.number x.second) o)) row ∙ (or_parts (is_none (spelling_of target r.form r.hint)) _ met.1.0).0 in
      let wide : is_too_wide target at q ≡ is_too_wide target at r
      = ap (λ (x : ℤ). option_map_or (λ shift. is_err (to_field_of (word_for target) r.form.width shift x)) (cond (family_of target).holds_all_addends None (option_map (written_shift at r.form.less) (written_row target r.form Plain))) false)
      (normal_of n is.object s at r here).reduced
      ∙ ap (λ o. option_map_or (λ shift. is_err (to_field_of (word_for target) r.form.width shift r.addend)) (cond (family_of target).holds_all_addends None (option_map (written_shift at r.form.less) o)) false) row in (
        target_stays coff_manner n (shown n) shows ready s at r here met.0,
        (
          or_from (is_none (spelling_of target r.form Plain)) (option_map_or (lacks_difference q.target (fixed_end a q.target)) (taken_end target r.form.less) false) formed
              (ap (λ o. option_map_or (lacks_difference q.target (fixed_end a q.target)) o false) end),
          (
            ap (λ o. option_map_or (λ (k : ℕ). nat_le (2 ^ 24) at) o false) end,
            (
              ap (λ o. option_map_or (has_empty_end a q.target) o false) end,
              (wide ∙ met.1.1.1.1.0, tt),
            ),
          ),
        ),
      )

  coff_stays : FamilyStays target coff_manner n (shown n)
  coff_stays = record {
    counted = counted;
    debug = λ k s here. ap (λ (f : Family). same_kind (kind_of s) Debug && not f.keeps_debug) whole ∙ none_right (same_kind (kind_of s) Debug);
    kind = λ k s here. ap (λ (f : Family). f.lacks_kind (kind_of s)) whole;
    gives = gives;
    name = name;
    member = member;
    few = subst (λ (f : Family). AreMet (option_map_or bounded (f.symbols a) [])) (sym whole) tt;
    symbol = λ k number s here. ap (λ (f : Family). f.lacks_symbol (seen_symbol coff_manner n (shown n) number s)) whole ∙ (is.meets.symbols k s here).name;
    weak = λ k s f here own. ap (λ (g : Family). g.lacks_weak a (seen_fallback coff_manner n (shown n) f)) whole;
    reloc = reloc;
    stored = λ s r e. ap (λ (f : Family). f.stores_own_start && is_self_reference s (seen_reloc coff_manner n (shown n) r)) whole;
  }

  pub coff_seen_fitted : IsFitted target (seen n)
  coff_seen_fitted =
      subst (IsFitted target) (sym (again_is w n is.format))
      (seen_fitted target coff_manner n (shown n) fits shows (subst IsObject (again_is w n is.format) (seen_is_object_law target n fits)) coff_stays)
