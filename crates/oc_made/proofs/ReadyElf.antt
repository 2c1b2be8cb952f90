-- What is made is ready for ELF.
use Rattle.std.proofs.Common.{◌≡◌, ℕ, zero, suc, ◌+◌, ◌*◌, ◌%◌, ◌≤◌, Bool, false, cond, ◌||◌, [], ◌∷◌, length, Option, Some, None, refl, ◌∙◌, ap, subst, arith}
use Rattle.std.specs.{Prelude.{slice_get}, Fmt.{decimal}, List.{AllByRecursion, range_with_len}, Option.{option_map_or}}
use Rattle.std.proofs.lemmas.{Bool.{le-ltb}, List.Sums.{count_by-le-length}, Option.{none-some, same_Some}}
use Rattle.oc_base.specs.{declared.format.Word.{Word}, declared.format.Word.TheVariants.{W32, W64}, declared.format.Format.{Format}}
use Rattle.oc_base.specs.declared.fault.Fault.{Fault}
use Rattle.oc_linking.specs.{FirstFault.{first_broken}, Numbers.{or_else, first_upto}}
use Rattle.oc_algebra.specs.{Fields.{to_field_of, field_for}, Residues.{reduced_number, residue_of}}
use Rattle.oc_chains.specs.declared.field.Field.{Field}
use Rattle.oc_neutral.specs.{declared.reloc.Reloc.{Reloc}, declared.section.Section.{Section}, declared.symbol.Symbol.{Symbol}, Alignments.{output_align}}
use Rattle.oc_neutral.specs.{Elf.Family.{elf_symbol_count, header_count}, HomeNames.{is_home, output_names}, KindRules.{has_nul}, Objects.{Object}}
use Rattle.oc_neutral.specs.{Relocated.{is_relocated}, Shifts.{field_shift}, Spelling.{written_row}, Stored.{is_stored}}
use Rattle.oc_neutral.specs.TargetRelocations.{is_local_number, is_target, is_wrong_target, reloc_conditions, placed_relocs, standing_conditions, placed_relocs_in, PlacedReloc}
use Rattle.oc_neutral.specs.TargetSections.{conditions_at, each_of, section_conditions, section_count, section_stages}
use Rattle.oc_neutral.specs.TargetSymbols.{names_length, symbol_conditions, symbol_count, symbol_stages}
use Rattle.oc_neutral.specs.declared.reloc.Target.TheVariants as target
use Rattle.oc_target.specs.Fitted.{first_unfit, fitted_binding, IsFitted, IsNamed}
use Rattle.oc_shows.specs.Readable.{IsBlankWhereTyped}
use Rattle.oc_made.specs.Functions.{call, calls_of, elf_format, made_object, symbols_of, text_section}
use Rattle.oc_made.proofs.{CallLemmas.{all_calls}, Lists.{all_joined, none_broken, none_upto}, NameLemmas.{number_uncut}}
use Rattle.oc_made.proofs.{SymbolLemmas.{all_symbols, at_symbol, length-symbols_of, names_short}, WholeObject.{made_is_object}}
use Rattle.oc_neutral.proofs.LeftObject.{all_map}

-- a condition that is not broken
met : (b : Bool) (f : Fault) → b ≡ false → cond b (Some f) None ≡ None
met b f e = ap (λ c. cond c (Some f) None) e

-- and two of them
pub both_met : (b c : Bool) (f g : Fault) → b ≡ false → c ≡ false → cond b (Some f) (cond c (Some g) None) ≡ None
both_met b c f g d e = ap (λ x. cond x (Some f) (cond c (Some g) None)) d ∙ met c g e

-- where none of five is there, none is first
pub five_none : (a b c d e : Option Fault) → a ≡ None → b ≡ None → c ≡ None → d ≡ None → e ≡ None → or_else a (or_else b (or_else c (or_else d (or_else e None)))) ≡ None
five_none a b c d e p q r s t =
    ap (λ o. or_else o (or_else b (or_else c (or_else d (or_else e None))))) p
    ∙ ap (λ o. or_else o (or_else c (or_else d (or_else e None)))) q
    ∙ ap (λ o. or_else o (or_else d (or_else e None))) r
    ∙ ap (λ o. or_else o (or_else e None)) s
    ∙ ap (λ o. or_else o None) t

module _ (count : ℕ) (few : count ≤ 100000) where
  -- the object, part by part
  abbrev n : Word → Object
  n w = record {
    format = elf_format w;
    groups = [];
    sections = text_section count ∷ [];
    symbols = symbols_of count;
    relocs = calls_of w count ∷ [];
  }

  -- its format
  abbrev to : Word → Format
  to w = elf_format w

  -- ... sections

  -- the section headers are few
  headers_few : (w : Word) → first_broken (section_count (to w) (n w)) ≡ None
  headers_few W32 =
      let c = count_by-le-length (is_relocated (to W32) (n W32)) (range_with_len 0 1) in
      let counted = header_count false (is_relocated (to W32) (n W32)) (n W32) in
      both_met _ _ _ _ (le-ltb counted 0 (omega arith)) (le-ltb 65279 counted (omega (arith, c)))
  headers_few W64 =
      let c = count_by-le-length (is_relocated (to W64) (n W64)) (range_with_len 0 1) in
      let counted = header_count false (is_relocated (to W64) (n W64)) (n W64) in
      both_met _ _ _ _ (le-ltb counted 0 (omega arith)) (le-ltb 65279 counted (omega (arith, c)))

  -- the section meets its conditions
  section_met : (w : Word) (i : ℕ) → first_broken (conditions_at (to w) (n w) i) ≡ None
  unfolding section_conditions output_names
  section_met W32 zero = refl
  section_met W32 (suc i) = refl
  section_met W64 zero = refl
  section_met W64 (suc i) = refl

  -- ... symbols

  -- they are few, and their names are short
  names_few : (w : Word) → names_length (to w) (n w) ≤ 268435456
  unfolding output_names
  names_few W32 = let e = names_short count few in omega (arith, e)
  names_few W64 = let e = names_short count few in omega (arith, e)

  symbols_few : (w : Word) → first_broken (symbol_count (to w) (n w)) ≡ None
  symbols_few W32 =
      let e = length-symbols_of count in
      both_met _ _ _ _ (le-ltb 0xFFFFFF (elf_symbol_count (n W32)) (omega (arith, e, few))) (le-ltb 268435456 (names_length (to W32) (n W32)) (names_few W32))
  symbols_few W64 = met _ _ (le-ltb 268435456 (names_length (to W64) (n W64)) (names_few W64))

  -- each meets its conditions
  symbols_met : (w : Word) → AllByRecursion (λ (s : Symbol). first_broken (symbol_conditions (to w) (n w) s) ≡ None) (symbols_of count)
  unfolding symbol_conditions
  symbols_met W32 =
      all_symbols count (λ (s : Symbol). first_broken (symbol_conditions (to W32) (n W32) s) ≡ None)
      (λ i l. met (has_nul (decimal i)) _ (number_uncut i (omega (arith, l, few))))
      (λ k l. met (has_nul (decimal k)) _ (number_uncut k (omega (arith, l))))
  symbols_met W64 =
      all_symbols count (λ (s : Symbol). first_broken (symbol_conditions (to W64) (n W64) s) ≡ None)
      (λ i l. met (has_nul (decimal i)) _ (number_uncut i (omega (arith, l, few))))
      (λ k l. met (has_nul (decimal k)) _ (number_uncut k (omega (arith, l))))

  -- ... relocations

  -- no symbol is a Local
  no_number : (w : Word) (k : ℕ) → is_target (n w) is_local_number (target.Symbol k) ≡ false
  no_number w k = by (slice_get (symbols_of count) k) refl
    where
      by : (o : Option Symbol) → slice_get (symbols_of count) k ≡ o → option_map_or (λ (s : Symbol). is_local_number s.binding) o false ≡ false
      by None e = refl
      by (Some s) e = at_symbol count (λ i (t : Symbol). is_local_number t.binding ≡ false) (λ i l. refl) (λ j l. refl) k s e

  -- a call meets its conditions
  call_met : (w : Word) (k at : ℕ) → first_broken (standing_conditions (to w) (n w) (record { section = 0; at = at; reloc = call w k })) ≡ None
  unfolding reloc_conditions field_shift written_row to_field_of field_for reduced_number residue_of
  call_met W32 k at = met (is_wrong_target (n W32) (call W32 k)) _ (ap (λ b. b || false || false) (no_number W32 k))
  call_met W64 k at = met (is_wrong_target (n W64) (call W64 k)) _ (ap (λ b. b || false || false) (no_number W64 k))

  -- all of them do
  calls_met : (w : Word) → AllByRecursion (λ (x : PlacedReloc). first_broken (standing_conditions (to w) (n w) x) ≡ None) (placed_relocs (n w))
  calls_met w =
      all_joined (λ (x : PlacedReloc). first_broken (standing_conditions (to w) (n w) x) ≡ None) (placed_relocs_in 0 (calls_of w count)) []
      (all_map (λ (x : PlacedReloc). first_broken (standing_conditions (to w) (n w) x) ≡ None) (λ (x : Field Reloc). record { section = 0; at = x.at; reloc = x.item }) (calls_of w count)
      (all_calls w count (λ (x : Field Reloc). first_broken (standing_conditions (to w) (n w) (record { section = 0; at = x.at; reloc = x.item })) ≡ None)
      (λ i l. (call_met w ((5 * i + 1) % count) (16 * i + 1), call_met w (count + i % 10) (16 * i + 6)))))
      tt

  -- ... all together

  expressible : (w : Word) → first_unfit (to w) (n w) ≡ None
  unfolding first_unfit section_stages symbol_stages
  expressible w =
      five_none
      (first_broken (section_count (to w) (n w)))
      (first_upto (λ i. first_broken (conditions_at (to w) (n w) i)) 1)
      (first_broken (symbol_count (to w) (n w)))
      (first_upto (λ i. first_broken (each_of (symbol_conditions (to w) (n w)) (symbols_of count) i)) (length (symbols_of count)))
      (first_upto (λ i. first_broken (option_map_or (standing_conditions (to w) (n w)) (slice_get (placed_relocs (n w)) i) [])) (length (placed_relocs (n w))))
      (headers_few w)
      (none_upto (λ i. first_broken (conditions_at (to w) (n w) i)) 1 (section_met w))
      (symbols_few w)
      (none_upto (λ i. first_broken (each_of (symbol_conditions (to w) (n w)) (symbols_of count) i)) (length (symbols_of count)) (none_broken (symbol_conditions (to w) (n w)) (symbols_of count) (symbols_met w)))
      (none_upto (λ i. first_broken (option_map_or (standing_conditions (to w) (n w)) (slice_get (placed_relocs (n w)) i) [])) (length (placed_relocs (n w)))
      (none_broken (standing_conditions (to w) (n w)) (placed_relocs (n w)) (calls_met w)))

  -- the section is named as its kind is
  text_named : (w : Word) → IsNamed (to w) 0 (text_section count)
  unfolding is_home
  text_named W32 = refl
  text_named W64 = refl

  names_fit : (w : Word) (k : ℕ) (s : Section) → slice_get (n w).sections k ≡ Some s → IsNamed (to w) k s
  names_fit w zero s here = subst (IsNamed (to w) 0) (same_Some (text_section count) s here) (text_named w)
  names_fit w (suc k) s here = absurd (none-some s here)

  -- its type has bytes
  text_full : (w : Word) → IsBlankWhereTyped (n w) 0 (text_section count)
  text_full W32 blank = absurd (cc blank)
  text_full W64 blank = absurd (cc blank)

  blanks : (w : Word) (k : ℕ) (s : Section) → slice_get (n w).sections k ≡ Some s → IsBlankWhereTyped (n w) k s
  blanks w zero s here = subst (IsBlankWhereTyped (n w) 0) (same_Some (text_section count) s here) (text_full w)
  blanks w (suc k) s here = absurd (none-some s here)

  -- its alignment is one of ELF
  align_fits : (w : Word) → output_align (to w) 16 ≡ 16
  unfolding output_align
  align_fits W32 = refl
  align_fits W64 = refl

  -- nothing is stored as a constant
  none_stored : (w : Word) (s : ℕ) (r : Reloc) → is_stored (to w) s r ≡ false
  none_stored W32 s r = refl
  none_stored W64 s r = refl

  -- it is ready
  pub made_is_fitted : (w : Word) → IsFitted (elf_format w) (made_object count w)
  unfolding made_object
  made_is_fitted w = record {
    object = made_is_object count w few;
    format = refl;
    expressible = expressible w;
    few_symbols = let e = length-symbols_of count in omega (arith, e, few);
    names = names_fit w;
    blanks = blanks w;
    aligns = (align_fits w, tt);
    commons = all_symbols count (λ (s : Symbol). fitted_binding (to w) s.binding ≡ s.binding) (λ i l. refl) (λ k l. refl);
    stored = λ s at r here. none_stored w s r;
  }
