-- A file without faults shows what is built of it.
use Rattle.std.proofs.Common.{Bool, List, None, Option, Some, [], ap, bytes_eq, codes, cond, map, nat_eq, refl, replicate, slice_get, subst, sym, true, true≢false, ℕ, ◌&&◌, ◌||◌, ◌∙◌, ◌∷◌, ◌≡◌, arith}
use Rattle.std.specs.List.{enumerate_from}
use Rattle.oc_base.specs.{Formats.{word_for}, declared.fault.Fault.{Fault}, declared.format.Word.{Word}}
use Rattle.oc_linking.specs.{FirstFault.{first_fault, stage_fault}, Numbers.{or_else}, declared.terms.Binding.TheVariants.{Weak}, declared.terms.Keep.{Keep}}
use Rattle.oc_linking.specs.declared.terms.Kind.TheVariants.{Code, Data, Debug, Exception, Fini, Init, ReadOnly, Zero}
use Rattle.oc_macho_judge.proofs.SectionLemmas.{there}
use Rattle.oc_macho.specs.{HeaderFaults.{header_stage}, MachHeader.{mach_format}, Rules.{mach_dialect, symbols_in}}
use Rattle.oc_macho.specs.{Sections.{contents_of, is_zerofill, kind_of, section_name, section_of, sections_in, segment_name}, Symbols.{binding_of}}
use Rattle.oc_macho.specs.{Tables.{SectionTable, Tables, tables_of}, declared.nlist.Nlist.{Nlist}, declared.section_header.SectionHeader.{SectionHeader}}
use Rattle.oc_macho_read.proofs.{SectionedLemmas.{section_from}, StandingLemmas.{free_or_given}}
use Rattle.oc_macho_read.proofs.SymbolLemmas.{each_binding, each_outer, from_number, number, stands_at, symbols_are, symbols_numbered}
use Rattle.oc_macho_read.specs.{Adding.{IsClean}, Built.{started}, Given.{given_at}, Shown.{CleanIsShown}}
use Rattle.oc_shows.proofs.{BuiltLaws.{built_shows}, StartedLaws.{start_is_started}}
use Rattle.oc_neutral.specs.{Building.{Draft, is_zero}, Invariants.{IsDraft}, KindRules.{first_rule, has}, Mach.Kinds.{mach_kind, type_of}}
use Rattle.oc_neutral.specs.declared.mach.TheConstants.{S_ATTR_PURE_INSTRUCTIONS, S_ATTR_SOME_INSTRUCTIONS, S_MOD_INIT_FUNC_POINTERS, S_MOD_TERM_FUNC_POINTERS, S_ZEROFILL}
use Rattle.oc_shows.specs.{Built.{HasAdded, IsStarted}, Computed.{computed_symbol, keys_after, keys_in}, Shows.{Shows}}
use Rattle.oc_shows.specs.Started.{AreShowable, groups_by, plain_draft, start_of, stored_section}
use Rattle.oc_linking.specs.Parts as parts
use Rattle.oc_linking.specs.declared.terms.Fallback.TheVariants as fallback
use Rattle.oc_macho.specs.Rules as own
use Rattle.oc_macho.specs.SectionFaults as sections
use Rattle.oc_macho.specs.SymbolFaults as symbols
use Rattle.oc_macho.specs.RelocationFaults as faults

-- ... stages

none_of : (a b : Option Fault) → or_else a b ≡ None → (a ≡ None) × (b ≡ None)
none_of a b e = grind arith

pub stages_clean : (t : Tables) (keep : Keep) → first_fault (own.rest_stages t keep) ≡ None → IsClean t keep
stages_clean t keep none =
    let a = none_of (stage_fault (sections.section_stage t)) (first_fault (symbols.symbol_stage t ∷ faults.relocation_stages t keep)) none in
    let b = none_of (stage_fault (symbols.symbol_stage t)) (first_fault (faults.relocation_stages t keep)) a.1 in
    record { sections = a.0; symbols = b.0; relocs = b.1 }

-- ... the start

keys_none : (xs : List (ℕ × SectionTable)) → keys_after [] (map (λ (s : parts.Section). s.group) (map section_of xs)) ≡ []
unfolding section_of
keys_none [] = refl
keys_none (x ∷ xs) = keys_none xs

keys_are : (w : Word) (b : List ℕ) → keys_in (mach_dialect w) b ≡ []
unfolding sections_in
keys_are w b = keys_none (enumerate_from 1 (tables_of w b).sections)

-- a section of zeros holds zeros
zero_by : (a b c d e f g h i : Bool) → is_zero (first_rule ((a, Debug) ∷ (b, Exception) ∷ (c, Exception) ∷ (d, Exception) ∷ (e, Init) ∷ (f, Fini) ∷ (g, Zero) ∷ (h, Code) ∷ (i, ReadOnly) ∷ []) Data) ≡ true → g ≡ true
zero_by a b c d e f g h i x = grind arith

pub zero_kind : (h : SectionHeader) → is_zero (kind_of h) ≡ true → is_zerofill h ≡ true
unfolding kind_of mach_kind
zero_kind h e =
    zero_by (bytes_eq (segment_name h) (codes "__DWARF")) (bytes_eq (segment_name h) (codes "__LD")) (bytes_eq (section_name h) (codes "__eh_frame")) (bytes_eq (section_name h) (codes "__gcc_except_tab"))
    (nat_eq (type_of h.flags) S_MOD_INIT_FUNC_POINTERS) (nat_eq (type_of h.flags) S_MOD_TERM_FUNC_POINTERS) (nat_eq (type_of h.flags) S_ZEROFILL)
    (bytes_eq (segment_name h) (codes "__TEXT") && (has h.flags S_ATTR_PURE_INSTRUCTIONS || has h.flags S_ATTR_SOME_INSTRUCTIONS)) (bytes_eq (segment_name h) (codes "__TEXT")) e

zeros_in : (t : Tables) (k : ℕ) (s : parts.Section) → slice_get (sections_in t) k ≡ Some s → is_zero s.kind ≡ true → s.contents ≡ replicate s.size 0
unfolding section_of contents_of
zeros_in t k s there zero_kinded =
    let m = section_from t k s there in
    let zerofill = zero_kind m.0.header (ap (λ (y : parts.Section). is_zero y.kind) m.2 ∙ zero_kinded) in
    subst (λ (y : parts.Section). y.contents ≡ replicate y.size 0) m.2 (ap (λ b. cond b (replicate m.0.header.size 0) m.0.raw) zerofill)

word_is : (w : Word) → w ≡ word_for (mach_format w)
word_is w = grind arith

-- no symbol names another
names_none : (t : Tables) (keep : Keep) (k number : ℕ) (s : parts.Symbol) → slice_get (symbols_in t keep) k ≡ Some s → s.binding ≡ Weak (fallback.Name number) → ⊥
names_none t keep k number s there is =
    let from = from_number t keep k s there in
    let m = stands_at t keep from.k s from.is in
    of m.nlist (ap (λ (y : parts.Symbol). y.binding) m.is ∙ is)
  where
    of : (y : Nlist) → binding_of t y ≡ Weak (fallback.Name number) → ⊥
    of y e = each_binding t y (λ b. b ≡ Weak (fallback.Name number) → ⊥) (λ a f. cc) (λ a c. each_outer y (λ b. b ≡ Weak (fallback.Name number) → ⊥) (λ f. cc) (λ f. cc) (λ f. cc)) (λ a c f. cc) (λ a c f. cc) e

module _ (w : Word) (b : List ℕ) (keep : Keep) where
  abbrev t : Tables
  t = tables_of w b

  pub start_is : start_of (mach_dialect w) b keep ≡ started t keep
  unfolding tables_of
  start_is =
      ap (λ (keys : List (List ℕ)). plain_draft (mach_format w) (groups_by keys) (map (stored_section keys) (sections_in t)) (map (computed_symbol (symbols_in t keep)) (symbols_in t keep))) (keys_are w b)
      ∙ ap (λ (ys : List parts.Symbol). plain_draft (mach_format w) [] (map (stored_section []) (sections_in t)) (map (computed_symbol (symbols_in t keep)) ys)) (symbols_are t keep)

  showable : AreShowable (mach_dialect w) b keep
  showable = record { word = word_is w; zeros = zeros_in t; names = λ k number s there is. absurd (names_none t keep k number s there is); numbered = symbols_numbered t keep }

  pub is_started : IsDraft (started t keep) → IsStarted (mach_dialect w) b keep (started t keep)
  is_started draft = subst (IsStarted (mach_dialect w) b keep) start_is (start_is_started (mach_dialect w) b keep showable (subst IsDraft (sym start_is) draft))

  pub built_is_shown : first_fault (faults.relocation_stages t keep) ≡ None → (d : Draft) → IsStarted (mach_dialect w) b keep (started t keep) → HasAdded (started t keep) d (given_at t keep) → Shows (mach_dialect w) b keep d.object
  built_is_shown clean d start added =
      built_shows (mach_dialect w) b keep (started t keep) d (given_at t keep) start added (free_or_given w b keep (started t keep).object start.symbols clean)

pub clean_is_shown : CleanIsShown
unfolding own.fault_of
clean_is_shown w file keep d none start added =
    let rest = none_of (stage_fault (header_stage w file)) (first_fault (own.rest_stages (tables_of w file) keep)) none in
    built_is_shown w file keep (stages_clean (tables_of w file) keep rest.1).relocs d start added
