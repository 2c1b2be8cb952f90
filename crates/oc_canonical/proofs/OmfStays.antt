-- What is seen of an object that is ready for OMF is ready for OMF.
use Rattle.std.proofs.Common.{◌≡◌, ℕ, Bool, true, false, not, ◌&&◌, ◌||◌, nat_lt, List, length, is_none, Some, refl, sym, ◌∙◌, ap, subst, arith}
use Rattle.std.specs.{Prelude.{slice_get, count_by}, Option.{option_map, option_map_or}}
use Rattle.std.proofs.lemmas.Bool.{eq-eqb, or_parts, or_from}
use Rattle.oc_base.specs.{declared.format.Format.TheVariants.{Omf}, declared.fault.Spot.{Spot}}
use Rattle.oc_linking.specs.{declared.terms.Kind.{Kind}, declared.terms.Kind.TheVariants.{Init, Fini, Debug}, declared.terms.Binding.{Binding}}
use Rattle.oc_linking.specs.{declared.terms.Hint.TheVariants.{Plain}, Parts.{is_local}}
use Rattle.oc_algebra.specs.declared.form.Form.{Form}
use Rattle.oc_neutral.specs.{declared.section.Section.{Section}, declared.symbol.Symbol.{Symbol}, declared.reloc.Reloc.{Reloc}, Objects.{Object, reloc_at}}
use Rattle.oc_neutral.specs.{Bindings.{is_external}, Invariants.{IsObject}, KindRules.{same_kind}, Omf.Family.{omf_gives, is_too_long}, Omf.Kinds.{omf_class}}
use Rattle.oc_neutral.specs.{Rows.{Row}, Shifts.{field_shift}, Spelling.{numbers_in, spelling_of}, TargetRelocations.{reloc_conditions}}
use Rattle.oc_target.specs.Fitted.{IsFitted}
use Rattle.oc_shows.specs.{Manners.{omf_manner}, Seen.{seen, seen_symbol, seen_binding, seen_reloc}}
use Rattle.oc_target.proofs.{MeetsConditions.{AreMet, reloc_met}, SeenLaws.{seen_is_object_law}, SeenReady.{IsReady, omf_ready}}
use Rattle.oc_shows.proofs.{SeenLines.{IsShown}, SeenAlike.{seen_local}}
use Rattle.oc_omf_file.proofs.{CodedLaws.{IsForOmf, for_omf}, SeenLaws.{shown, again, again_is, are_shown}}
use Rattle.oc_canonical.proofs.{OmfAgain.{plain_rows, form_same}, SeenSums.{seen_count}, SeenFitted.{FamilyStays, seen_fitted}}
use Rattle.oc_canonical.proofs.StaysLemmas.{sections_long, target_stays, plain_row}
use Rattle.oc_elf_file.proofs.HeaderClean.{within_file}

-- a kind that has a class
pub record IsClassed (kind : Kind) : Type 0 where
  pub debug : same_kind kind Debug ≡ false
  pub there : (same_kind kind Init || same_kind kind Fini) ≡ false
  pub given : omf_gives kind ≡ true

pub classed : (kind : Kind) (class : List ℕ) → omf_class kind ≡ Some class → IsClassed kind
classed kind class e = grind arith

external_same : (n : Object) (shown : List (ℕ × ℕ)) (b : Binding) → is_external (seen_binding omf_manner n shown b) ≡ is_external b
external_same n shown b = grind arith

module _ (n : Object) (fits : IsFitted Omf n) where
  is : IsForOmf n
  is = for_omf n fits

  shows : IsShown n (shown n)
  shows = are_shown n is

  abbrev a : Object
  a = again n

  ready : IsReady omf_manner n
  ready = omf_ready n is.object is.meets

  pub object : IsObject a
  object = subst IsObject (again_is n is.format) (seen_is_object_law Omf n fits)

  kind_of : (k : ℕ) (s : Section) → slice_get n.sections k ≡ Some s → IsClassed s.kind
  kind_of k s here = let m = is.meets.sections k s here in classed s.kind m.class m.classed

  few : nat_lt 32767 (count_by (λ (s : Symbol). is_external s.binding) a.symbols) ≡ false
  few =
      let low = is.meets.externals in
      let le = seen_count omf_manner n (shown n) shows (λ s. is_external s.binding) (λ s. is_external s.binding) (λ k number s h. external_same n (shown n) s.binding) in
      within_file 32767 _ (omega (arith, low, le))

  symbol : (k number : ℕ) (s : Symbol) → slice_get n.symbols k ≡ Some s → (not (is_local (seen_symbol omf_manner n (shown n) number s).binding) && is_too_long s.name) ≡ false
  symbol k number s here = ap (λ b. not b && is_too_long s.name) (seen_local omf_manner n (shown n) shows s.binding) ∙ by (is_local s.binding) refl
    where
      by : (b : Bool) → is_local s.binding ≡ b → (not b && is_too_long s.name) ≡ false
      by true e = refl
      by false e = within_file 255 (length s.name) ((is.meets.symbols k s here).name e)

  reloc : (s at : ℕ) (r : Reloc) (spot : Spot) → reloc_at n s at ≡ Some r → AreMet (reloc_conditions Omf a at (seen_reloc omf_manner n (shown n) r) spot)
  unfolding reloc_conditions field_shift
  reloc s at r spot here =
      let q : Reloc = seen_reloc omf_manner n (shown n) r in
      let met = reloc_met Omf n fits s at r here in
      let formed : is_none (spelling_of Omf q.form Plain) ≡ false
      = ap (λ (f : Form). is_none (spelling_of Omf f Plain)) (form_same n is object s at r here)
      ∙ ap (λ o. is_none (option_map (λ (x : Row). numbers_in x.number x.second) o)) (plain_row Omf plain_rows r.form r.hint)
      ∙ (or_parts (is_none (spelling_of Omf r.form r.hint)) _ met.1.0).0 in (
        target_stays omf_manner n (shown n) shows ready s at r here met.0,
        (or_from (is_none (spelling_of Omf q.form Plain)) false formed refl, (refl, (refl, (refl, tt)))),
      )

  omf_stays : FamilyStays Omf omf_manner n (shown n)
  omf_stays = record {
    counted = (let long = sections_long omf_manner n (shown n) shows in let low = is.meets.few in (within_file (length a.sections) 0 (omega arith), (within_file 30000 (length a.sections) (omega (arith, long, low)), tt)));
    debug = λ k s here. ap (λ b. b && true) (kind_of k s here).debug;
    kind = λ k s here. (kind_of k s here).there;
    gives = λ k s here. ap (λ b. b && omf_gives s.kind) (eq-eqb s.tag 0 (is.meets.sections k s here).tag) ∙ (kind_of k s here).given;
    name = λ k s here. within_file 255 (length s.name) (is.meets.sections k s here).name;
    member = λ k s here. ap (λ o. option_map_or (λ (g : ℕ). true) o false) (is.meets.sections k s here).alone;
    few = (few, tt);
    symbol = symbol;
    weak = λ k s f here own. absurd ((is.meets.symbols k s here).strong f own);
    reloc = reloc;
    stored = λ s r e. refl;
  }

  pub omf_seen_fitted : IsFitted Omf (seen n)
  omf_seen_fitted = subst (IsFitted Omf) (sym (again_is n is.format)) (seen_fitted Omf omf_manner n (shown n) fits shows object omf_stays)
