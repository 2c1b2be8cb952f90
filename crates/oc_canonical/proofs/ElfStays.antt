-- What is seen of an object that is ready for ELF is ready for ELF.
use Rattle.std.proofs.Common.{◌≡◌, ℕ, ◌+◌, ◌-◌, ◌^◌, ◌<◌, ◌≤◌, Bool, true, false, cond, not, ◌&&◌, ◌||◌, nat_le, [], length, count_by, is_none, is_err, Some, None, ℤ, refl, sym, ◌∙◌, ap, subst, arith}
use Rattle.std.proofs.lemmas.Bool.{or_parts, or_from}
use mathlib.Core.Path.{fun_ext}
use Rattle.std.specs.{Prelude.{slice_get}, List.{range_with_len}, Option.{option_map_or, option_and_then}}
use Rattle.oc_base.specs.{declared.format.Format.{Format}, declared.format.Word.TheVariants.{W32}, declared.fault.Spot.{Spot}, Formats.{word_for}}
use Rattle.oc_linking.specs.{declared.terms.Kind.{Kind}, declared.terms.Kind.TheVariants.{Debug}, declared.terms.Fallback.{Fallback}}
use Rattle.oc_linking.specs.declared.terms.Binding.TheVariants.{Weak}
use Rattle.oc_linking.specs.declared.terms.Fallback.TheVariants as fallback
use Rattle.oc_algebra.specs.Fields.{to_field_of}
use Rattle.oc_neutral.specs.{declared.section.Section.{Section}, declared.symbol.Symbol.{Symbol}, declared.reloc.Reloc.{Reloc}, Objects.{Object, reloc_at}}
use Rattle.oc_neutral.specs.Elf.Family.{elf_gives, elf_family, header_count, signature_count, elf_symbol_count, elf_symbols}
use Rattle.oc_neutral.specs.Elf.Kinds.{elf_kind, elf_tag_type, elf_tag_flags, is_nobits_tag, is_carried_type}
use Rattle.oc_neutral.specs.{Families.{family_of, is_many, Range, section_range}, Family.{Family}, HomeNames.{output_names}, Invariants.{IsObject}}
use Rattle.oc_neutral.specs.{KeySymbols.{global_place}, KindRules.{same_kind, has}, Mach.SelfReferences.{is_self_reference}}
use Rattle.oc_neutral.specs.{declared.elf.TheConstants.{SHF_ALLOC}, Normal.{Place}, Relocated.{is_relocated}, Shifts.{field_shift}, Stored.{is_stored}}
use Rattle.oc_neutral.specs.{TargetSections.{section_count, section_conditions}, TargetSymbols.{bounded}}
use Rattle.oc_neutral.specs.TargetRelocations.{reloc_conditions, is_too_wide, section_taken, taken_end, lacks_difference, fixed_end, has_empty_end}
use Rattle.oc_neutral.specs.Spelling.{spelling_of}
use Rattle.oc_target.specs.{Fitted.{IsFitted}, Meets.{IsSteadyAt}}
use Rattle.oc_shows.specs.{Manners.{elf_manner}, Seen.{place_at, new_position, seen, seen_section, seen_symbol, seen_fallback, seen_reloc}}
use Rattle.oc_neutral.specs.TargetSections as sections_of_target
use Rattle.oc_target.proofs.{MeetsConditions.{AreMet, section_met, reloc_met}, MeetsRelocs.{normal_of}, SeenLaws.{seen_is_object_law}}
use Rattle.oc_target.proofs.SeenReady.{IsReady, elf_ready}
use Rattle.oc_shows.proofs.SeenLines.{IsShown}
use Rattle.oc_elf.specs.{declared.class.ElfClass.{ElfClass}, declared.class.ElfClass.TheVariants.{Class32, Class64, Big32, Big64}, Classes.{word_of, format_of}}
use Rattle.oc_elf_file.proofs.{CodedLaws.{IsForElf, for_elf}, SeenLaws.{shown, again, again_is, are_shown}, TableClean.{none_right}, HeaderClean.{within_file}}
use Rattle.oc_canonical.proofs.{ElfAgain.{signature_same}, SeenSums.{seen_few}, SeenFitted.{FamilyStays, seen_fitted}}
use Rattle.oc_canonical.proofs.StaysLemmas.{none_member, sections_long, relocated_same, target_stays}
use Rattle.oc_neutral.proofs.GivenLaws.{same_kind-self}

family_whole : (class : ElfClass) → family_of (format_of class) ≡ elf_family (is_many (format_of class)) (word_of class)
family_whole class = grind arith

module _ (class : ElfClass) (n : Object) (fits : IsFitted (format_of class) n) where
  is : IsForElf class n
  is = for_elf class n fits

  abbrev target : Format
  target = format_of class

  abbrev many : Bool
  many = is_many target

  whole : family_of target ≡ elf_family many (word_of class)
  whole = family_whole class

  shows : IsShown n (shown n)
  shows = are_shown class n is.format

  abbrev a : Object
  a = again n

  ready : IsReady elf_manner n
  ready = elf_ready target n is.object is.meets

  stored_same : (s : ℕ) (r : Reloc) → is_stored target s (seen_reloc elf_manner n (shown n) r) ≡ is_stored target s r
  stored_same s r =
      ap (λ (f : Family). f.stores_own_start && is_self_reference s (seen_reloc elf_manner n (shown n) r)) whole ∙ sym (ap (λ (f : Family). f.stores_own_start && is_self_reference s r) whole)

  -- ... sections

  headers_same : header_count many (is_relocated target a) a ≡ header_count many (is_relocated target n) n
  headers_same =
      ap (λ f. header_count many f a) (fun_ext (λ k. relocated_same elf_manner n (shown n) shows target stored_same k))
      ∙ ap (λ (k : ℕ). cond many 5 4 + length n.groups + k + count_by (is_relocated target n) (range_with_len 0 k)) (sections_long elf_manner n (shown n) shows)

  counted : AreMet (section_count target a)
  counted =
      let range : Range = section_range target in
      let count : ℕ = header_count many (is_relocated target a) a in
      subst (λ (f : Family). AreMet (sections_of_target.bounded range (f.sections (is_relocated target a) a))) (sym whole) (
        within_file count range.least (subst (λ (k : ℕ). range.least ≤ k) (sym headers_same) is.meets.least),
        (within_file range.most count (subst (λ (k : ℕ). k ≤ range.most) (sym headers_same) is.meets.headers), tt),
      )

  abbrev kind_of : Section → Kind
  kind_of s = elf_kind s.name (elf_tag_type s.tag) (elf_tag_flags s.tag)

  gives : (k : ℕ) (s : Section) → slice_get n.sections k ≡ Some s → (family_of target).gives (kind_of s) s.name s.tag ≡ true
  unfolding elf_gives
  gives k s here =
      let meets = is.meets.sections k s here in
      ap (λ (f : Family). f.gives (kind_of s) s.name s.tag) whole
      ∙ ap (λ b. not b && (is_carried_type (elf_tag_type s.tag) && (not (is_nobits_tag s.tag) || has (elf_tag_flags s.tag) SHF_ALLOC) && same_kind (kind_of s) (kind_of s))) meets.uncut.name
      ∙ ap (λ b. b && (not (is_nobits_tag s.tag) || has (elf_tag_flags s.tag) SHF_ALLOC) && same_kind (kind_of s) (kind_of s)) meets.carried
      ∙ ap (λ b. b && same_kind (kind_of s) (kind_of s)) (allocated (is_nobits_tag s.tag) (has (elf_tag_flags s.tag) SHF_ALLOC) meets.allocated)
      ∙ same_kind-self (kind_of s)
    where
      allocated : (b c : Bool) → (b ≡ true → c ≡ true) → (not b || c) ≡ true
      allocated b c e = grind arith

  name : (k : ℕ) (s : Section) → slice_get n.sections k ≡ Some s → (family_of target).lacks_name (output_names target a) a s.name (seen_section elf_manner n (k, s)) ≡ false
  unfolding section_conditions
  name k s here =
      ap (λ (f : Family). f.lacks_name (output_names target a) a s.name (seen_section elf_manner n (k, s))) whole
      ∙ sym (ap (λ (f : Family). f.lacks_name (output_names target n) n s.name s) whole)
      ∙ (section_met target n fits k s here).1.1.1.1.0

  -- ... symbols

  signatures : signature_count a ≡ signature_count n
  signatures = ap (λ f. count_by f n.groups) (fun_ext (λ g. signature_same class n is g))

  short : elf_symbol_count n < 2 ^ 24 → AreMet (option_map_or bounded (elf_symbols W32 a) [])
  short low =
      let long = sections_long elf_manner n (shown n) shows in
      let fewer = seen_few elf_manner n (shown n) shows in
      let signs = signatures in
      (within_file 0xFFFFFF (elf_symbol_count a) (omega (arith, low, long, fewer, signs)), tt)

  few : AreMet (option_map_or bounded ((family_of target).symbols a) [])
  few = subst (λ (f : Family). AreMet (option_map_or bounded (f.symbols a) [])) (sym whole) (by class is.meets.table)
    where
      by : (c : ElfClass) → (word_for (format_of c) ≡ W32 → elf_symbol_count n < 2 ^ 24) → AreMet (option_map_or bounded (elf_symbols (word_of c) a) [])
      by Class32 table = short (table refl)
      by Class64 table = tt
      by Big32 table = short (table refl)
      by Big64 table = tt

  weak : (k : ℕ) (s : Symbol) (f : Fallback) → slice_get n.symbols k ≡ Some s → s.binding ≡ Weak f → (family_of target).lacks_weak a (seen_fallback elf_manner n (shown n) f) ≡ false
  weak k s f here own = ap (λ (g : Family). g.lacks_weak a (seen_fallback elf_manner n (shown n) f)) whole ∙ by f own
    where
      by : (f : Fallback) → s.binding ≡ Weak f → (elf_family many (word_of class)).lacks_weak a (seen_fallback elf_manner n (shown n) f) ≡ false
      by (fallback.Place j offset) own = refl
      by fallback.Zero own = refl
      by (fallback.Name j) own =
          let st : IsSteadyAt n j = (is.meets.symbols k s here).steady j own in
          let at : place_at n j ≡ Some st.place = ap (option_and_then (λ (x : Symbol). global_place x.binding)) st.there ∙ st.placed in
          ap (λ o. (elf_family many (word_of class)).lacks_weak a (option_map_or (λ (place : Place). fallback.Place place.0 place.1) o (fallback.Name (new_position (shown n) j)))) at

  -- ... relocations

  reloc : (s at : ℕ) (r : Reloc) (spot : Spot) → reloc_at n s at ≡ Some r → AreMet (reloc_conditions target a at (seen_reloc elf_manner n (shown n) r) spot)
  unfolding reloc_conditions field_shift
  reloc s at r spot here =
      let q : Reloc = seen_reloc elf_manner n (shown n) r in
      let met = reloc_met target n fits s at r here in
      let end : taken_end target r.form.less ≡ None = ap (λ (f : Family). cond f.scatters (section_taken r.form.less) None) whole in
      let formed : is_none (spelling_of target r.form r.hint) ≡ false = (or_parts _ _ met.1.0).0 in
      let wide : is_too_wide target at q ≡ is_too_wide target at r
      = ap (λ (x : ℤ). option_map_or (λ shift. is_err (to_field_of (word_for target) r.form.width shift x)) (field_shift target at r) false) (normal_of n is.object s at r here).reduced in (
        target_stays elf_manner n (shown n) shows ready s at r here met.0,
        (
          or_from (is_none (spelling_of target r.form r.hint)) (option_map_or (lacks_difference q.target (fixed_end a q.target)) (taken_end target r.form.less) false) formed
              (ap (λ o. option_map_or (lacks_difference q.target (fixed_end a q.target)) o false) end),
          (
            ap (λ o. option_map_or (λ (k : ℕ). nat_le (2 ^ 24) at) o false) end,
            (
              ap (λ o. option_map_or (has_empty_end a q.target) o false) end,
              (wide ∙ met.1.1.1.1.0, tt),
            ),
          ),
        ),
      )

  elf_stays : FamilyStays target elf_manner n (shown n)
  elf_stays = record {
    counted = counted;
    debug = λ k s here. ap (λ (f : Family). same_kind (kind_of s) Debug && not f.keeps_debug) whole ∙ none_right (same_kind (kind_of s) Debug);
    kind = λ k s here. ap (λ (f : Family). f.lacks_kind (kind_of s)) whole;
    gives = gives;
    name = name;
    member = λ k s here. ap (λ (f : Family). option_map_or (f.lacks_member a) s.group false) whole ∙ none_member s.group;
    few = few;
    symbol = λ k number s here. ap (λ (f : Family). f.lacks_symbol (seen_symbol elf_manner n (shown n) number s)) whole ∙ (is.meets.symbols k s here).name;
    weak = weak;
    reloc = reloc;
    stored = λ s r e. stored_same s r ∙ e;
  }

  pub elf_seen_fitted : IsFitted target (seen n)
  elf_seen_fitted =
      subst (IsFitted target) (sym (again_is class n is.format))
      (seen_fitted target elf_manner n (shown n) fits shows (subst IsObject (again_is class n is.format) (seen_is_object_law target n fits)) elf_stays)
