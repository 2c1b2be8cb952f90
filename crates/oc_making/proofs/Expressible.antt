-- What is made can be written in every format but ELF for many sections.
use Rattle.std.proofs.Common.{◌≡◌, ◌≢◌, ℕ, zero, suc, ◌+◌, ◌*◌, ◌%◌, ◌≤◌, Bool, false, cond, ◌||◌, [], ◌∷◌, ◌++◌, length, map, min, Option, Some, None, refl, ◌∙◌, ap, arith}
use Rattle.std.specs.{Fmt.{decimal}, List.{AllByRecursion, range_with_len}, Option.{option_map_or}, Prelude.{slice_get, codes, sum_by, count_by}}
use Rattle.std.proofs.lemmas.{Bool.{true≢false, le-ltb}, List.Sums.{count_by-le-length, sum_by-append, sum_by-cons}}
use Rattle.oc_base.specs.{declared.format.Word.{Word}, declared.format.Word.TheVariants.{W32, W64}, declared.format.Format.{Format}}
use Rattle.oc_base.specs.declared.format.Format.TheVariants.{Elf32, Elf64, Coff32, Coff64, Mac32, Mac64, Omf, BigElf32, BigElf64, BigCoff32, BigCoff64}
use Rattle.oc_base.specs.{Formats.{word_for}, declared.fault.Fault.{Fault}}
use Rattle.oc_linking.specs.{FirstFault.{first_broken}, Numbers.{first_upto}}
use Rattle.oc_algebra.specs.{Fields.{to_field_of, field_for}, Residues.{reduced_number, residue_of}}
use Rattle.oc_chains.specs.declared.field.Field.{Field}
use Rattle.oc_neutral.specs.{declared.reloc.Reloc.{Reloc}, declared.symbol.Symbol.{Symbol}, Families.{container_of}, Family.{IsElf}}
use Rattle.oc_neutral.specs.{HomeNames.{output_names, wanted_names}, KindRules.{has_nul}, Objects.{Object}, Shifts.{field_shift}, Spelling.{written_row}}
use Rattle.oc_neutral.specs.TargetRelocations.{is_local_number, is_target, is_wrong_target, reloc_conditions, placed_relocs, standing_conditions, placed_relocs_in, PlacedReloc}
use Rattle.oc_neutral.specs.TargetSections.{conditions_at, each_of, section_conditions, section_count, section_stages}
use Rattle.oc_neutral.specs.{TargetSymbols.{names_length, symbol_conditions, symbol_count, symbol_stages}, Mach.Family.{mach_symbol_count, mach_writes}}
use Rattle.oc_neutral.specs.{Mach.SectionSymbols.{needed_sections, needs_section_symbol}, Bindings.{is_external, is_written_by}, Omf.Family.{is_too_long}}
use Rattle.oc_neutral.specs.declared.reloc.Target.TheVariants as target
use Rattle.oc_target.specs.Fitted.{first_unfit}
use Rattle.oc_made.specs.Functions.{call, calls_of, elf_format, function_symbol, made_object, outside_symbol, symbols_of, text_section}
use Rattle.oc_made.proofs.{CallLemmas.{all_calls}, Lists.{all_joined, none_broken, none_upto, sum_range}, NameLemmas.{number_short, number_uncut}}
use Rattle.oc_made.proofs.{SymbolLemmas.{all_symbols, at_symbol, length-symbols_of, names_short}, ReadyElf.{made_is_fitted, five_none, both_met}}
use Rattle.oc_making.specs.Making.{MadeIsExpressible}
use Rattle.oc_neutral.proofs.LeftObject.{all_map}

-- a condition that is not broken
met : (b : Bool) (f : Fault) → b ≡ false → cond b (Some f) None ≡ None
met b f e = ap (λ c. cond c (Some f) None) e

one_filter : (b : Bool) → length {A = ℕ} (cond b (0 ∷ []) []) ≤ 1
one_filter b = grind arith

none_range : {X : Type 0} (g : X → ℕ) (f : ℕ → X) (a n : ℕ) → ((i : ℕ) → g (f i) ≡ 0) → sum_by g (map f (range_with_len a n)) ≡ 0
none_range g f a zero each = refl
none_range g f a (suc n) each =
    let one : g (f a) ≡ 0 = each a in
    let rest : sum_by g (map f (range_with_len (a + 1) n)) ≡ 0 = none_range g f (a + 1) n each in
    let both : sum_by g (f a ∷ map f (range_with_len (a + 1) n)) ≡ g (f a) + sum_by g (map f (range_with_len (a + 1) n)) = sum_by-cons g (f a) (map f (range_with_len (a + 1) n)) in
    omega (arith, one, rest, both)

module _ (count : ℕ) (few : count ≤ 100000) where
  -- the object, part by part
  abbrev n : Word → Object
  n w = record {
    format = elf_format w;
    groups = [];
    sections = text_section count ∷ [];
    symbols = symbols_of count;
    relocs = calls_of w count ∷ [];
  }

  -- ... sections

  sections_few : (to : Format) → container_of to ≢ IsElf → first_broken (section_count to (n (word_for to))) ≡ None
  sections_few to a = grind arith

  section_met : (to : Format) → container_of to ≢ IsElf → (i : ℕ) → first_broken (conditions_at to (n (word_for to)) i) ≡ None
  unfolding section_conditions output_names wanted_names
  section_met to a i = grind arith

  -- ... symbols

  names_few : (to : Format) → container_of to ≢ IsElf → names_length to (n (word_for to)) ≤ 268435456
  unfolding output_names wanted_names
  names_few Elf32 a = absurd (a refl)
  names_few Elf64 a = absurd (a refl)
  names_few BigElf32 a = absurd (a refl)
  names_few BigElf64 a = absurd (a refl)
  names_few Coff32 a = let e = names_short count few in omega (arith, e)
  names_few Coff64 a = let e = names_short count few in omega (arith, e)
  names_few Mac32 a = let e = names_short count few in omega (arith, e)
  names_few Mac64 a = let e = names_short count few in omega (arith, e)
  names_few Omf a = let e = names_short count few in omega (arith, e)
  names_few BigCoff32 a = let e = names_short count few in omega (arith, e)
  names_few BigCoff64 a = let e = names_short count few in omega (arith, e)

  mach_few : (w : Word) → length (needed_sections (n w)) ≤ 1 → mach_symbol_count w (n w) ≤ 0xFFFFFF
  mach_few W32 low =
      let e = length-symbols_of count in
      let c = count_by-le-length (λ (s : Symbol). is_written_by (mach_writes W32) s.name s.binding) (symbols_of count) in
      omega (arith, c, e, few)
  mach_few W64 low =
      let e = length-symbols_of count in
      let c = count_by-le-length (λ (s : Symbol). is_written_by (mach_writes W64) s.name s.binding) (symbols_of count) in
      omega (arith, c, e, few, low)

  needed_low : (w : Word) → length (needed_sections (n w)) ≤ 1
  unfolding needed_sections
  needed_low w = one_filter (needs_section_symbol (n w) 0)

  externals : count_by (λ (s : Symbol). is_external s.binding) (symbols_of count) ≤ 32767
  unfolding symbols_of
  externals =
      let g : Symbol → ℕ = λ s. cond (is_external s.binding) 1 0 in
      let a = sum_by-append g (map function_symbol (range_with_len 0 count)) (map (outside_symbol count) (range_with_len 0 (min count 10))) in
      let b = none_range g function_symbol 0 count (λ i. refl) in
      let c = sum_range g (outside_symbol count) 0 (min count 10) (λ i l. omega arith) in
      omega (arith, a, b, c)

  symbols_few : (to : Format) → container_of to ≢ IsElf → first_broken (symbol_count to (n (word_for to))) ≡ None
  symbols_few Elf32 a = absurd (a refl)
  symbols_few Elf64 a = absurd (a refl)
  symbols_few BigElf32 a = absurd (a refl)
  symbols_few BigElf64 a = absurd (a refl)
  symbols_few Coff32 a = met _ _ (le-ltb 268435456 (names_length Coff32 (n W32)) (names_few Coff32 a))
  symbols_few Coff64 a = met _ _ (le-ltb 268435456 (names_length Coff64 (n W64)) (names_few Coff64 a))
  symbols_few Mac32 a =
      both_met _ _ _ _ (le-ltb 0xFFFFFF (mach_symbol_count W32 (n W32)) (mach_few W32 (needed_low W32))) (le-ltb 268435456 (names_length Mac32 (n W32)) (names_few Mac32 a))
  symbols_few Mac64 a =
      both_met _ _ _ _ (le-ltb 0xFFFFFF (mach_symbol_count W64 (n W64)) (mach_few W64 (needed_low W64))) (le-ltb 268435456 (names_length Mac64 (n W64)) (names_few Mac64 a))
  symbols_few Omf a =
      both_met _ _ _ _ (le-ltb 32767 (count_by (λ (s : Symbol). is_external s.binding) (symbols_of count)) externals) (le-ltb 268435456 (names_length Omf (n W32)) (names_few Omf a))
  symbols_few BigCoff32 a = met _ _ (le-ltb 268435456 (names_length BigCoff32 (n W32)) (names_few BigCoff32 a))
  symbols_few BigCoff64 a = met _ _ (le-ltb 268435456 (names_length BigCoff64 (n W64)) (names_few BigCoff64 a))

  -- each meets its conditions
  abbrev AreMet : Format → Type 0
  AreMet to = AllByRecursion (λ (s : Symbol). first_broken (symbol_conditions to (n (word_for to)) s) ≡ None) (symbols_of count)

  symbols_met : (to : Format) → container_of to ≢ IsElf → AreMet to
  unfolding symbol_conditions
  symbols_met Elf32 a = absurd (a refl)
  symbols_met Elf64 a = absurd (a refl)
  symbols_met BigElf32 a = absurd (a refl)
  symbols_met BigElf64 a = absurd (a refl)
  symbols_met Coff32 a =
      all_symbols count (λ (s : Symbol). first_broken (symbol_conditions Coff32 (n W32) s) ≡ None)
      (λ i l. met (has_nul (decimal i)) _ (number_uncut i (omega (arith, l, few))))
      (λ k l. met (has_nul (decimal k)) _ (number_uncut k (omega (arith, l))))
  symbols_met Coff64 a =
      all_symbols count (λ (s : Symbol). first_broken (symbol_conditions Coff64 (n W64) s) ≡ None)
      (λ i l. met (has_nul (decimal i)) _ (number_uncut i (omega (arith, l, few))))
      (λ k l. met (has_nul (decimal k)) _ (number_uncut k (omega (arith, l))))
  symbols_met Mac32 a =
      all_symbols count (λ (s : Symbol). first_broken (symbol_conditions Mac32 (n W32) s) ≡ None)
      (λ i l. met (has_nul (decimal i)) _ (number_uncut i (omega (arith, l, few))))
      (λ k l. met (has_nul (decimal k)) _ (number_uncut k (omega (arith, l))))
  symbols_met Mac64 a =
      all_symbols count (λ (s : Symbol). first_broken (symbol_conditions Mac64 (n W64) s) ≡ None)
      (λ i l. met (has_nul (decimal i)) _ (number_uncut i (omega (arith, l, few))))
      (λ k l. met (has_nul (decimal k)) _ (number_uncut k (omega (arith, l))))
  symbols_met Omf a =
      all_symbols count (λ (s : Symbol). first_broken (symbol_conditions Omf (n W32) s) ≡ None)
      (λ i l. met (is_too_long (codes "f_" ++ decimal i)) _ (let e = number_short i (omega (arith, l, few)) in le-ltb 255 (length (codes "f_" ++ decimal i)) (omega (arith, e))))
      (λ k l. met (is_too_long (codes "x_" ++ decimal k)) _ (let e = number_short k (omega (arith, l)) in le-ltb 255 (length (codes "x_" ++ decimal k)) (omega (arith, e))))
  symbols_met BigCoff32 a =
      all_symbols count (λ (s : Symbol). first_broken (symbol_conditions BigCoff32 (n W32) s) ≡ None)
      (λ i l. met (has_nul (decimal i)) _ (number_uncut i (omega (arith, l, few))))
      (λ k l. met (has_nul (decimal k)) _ (number_uncut k (omega (arith, l))))
  symbols_met BigCoff64 a =
      all_symbols count (λ (s : Symbol). first_broken (symbol_conditions BigCoff64 (n W64) s) ≡ None)
      (λ i l. met (has_nul (decimal i)) _ (number_uncut i (omega (arith, l, few))))
      (λ k l. met (has_nul (decimal k)) _ (number_uncut k (omega (arith, l))))

  -- ... relocations

  no_number : (w : Word) (k : ℕ) → is_target (n w) is_local_number (target.Symbol k) ≡ false
  no_number w k = by (slice_get (symbols_of count) k) refl
    where
      by : (o : Option Symbol) → slice_get (symbols_of count) k ≡ o → option_map_or (λ (s : Symbol). is_local_number s.binding) o false ≡ false
      by None e = refl
      by (Some s) e = at_symbol count (λ i (t : Symbol). is_local_number t.binding ≡ false) (λ i l. refl) (λ j l. refl) k s e

  call_met : (to : Format) → container_of to ≢ IsElf → (k at : ℕ) → first_broken (standing_conditions to (n (word_for to)) (record { section = 0; at = at; reloc = call (word_for to) k })) ≡ None
  unfolding reloc_conditions field_shift written_row to_field_of field_for reduced_number residue_of
  call_met Elf32 a k at = absurd (a refl)
  call_met Elf64 a k at = absurd (a refl)
  call_met BigElf32 a k at = absurd (a refl)
  call_met BigElf64 a k at = absurd (a refl)
  call_met Coff32 a k at = met (is_wrong_target (n W32) (call W32 k)) _ (ap (λ b. b || false || false) (no_number W32 k))
  call_met Coff64 a k at = met (is_wrong_target (n W64) (call W64 k)) _ (ap (λ b. b || false || false) (no_number W64 k))
  call_met Mac32 a k at = met (is_wrong_target (n W32) (call W32 k)) _ (ap (λ b. b || false || false) (no_number W32 k))
  call_met Mac64 a k at = met (is_wrong_target (n W64) (call W64 k)) _ (ap (λ b. b || false || false) (no_number W64 k))
  call_met Omf a k at = met (is_wrong_target (n W32) (call W32 k)) _ (ap (λ b. b || false || false) (no_number W32 k))
  call_met BigCoff32 a k at = met (is_wrong_target (n W32) (call W32 k)) _ (ap (λ b. b || false || false) (no_number W32 k))
  call_met BigCoff64 a k at = met (is_wrong_target (n W64) (call W64 k)) _ (ap (λ b. b || false || false) (no_number W64 k))

  calls_met : (to : Format) → container_of to ≢ IsElf → AllByRecursion (λ (x : PlacedReloc). first_broken (standing_conditions to (n (word_for to)) x) ≡ None) (placed_relocs (n (word_for to)))
  calls_met to a =
      let w : Word = word_for to in
      all_joined (λ (x : PlacedReloc). first_broken (standing_conditions to (n w) x) ≡ None) (placed_relocs_in 0 (calls_of w count)) []
      (all_map (λ (x : PlacedReloc). first_broken (standing_conditions to (n w) x) ≡ None) (λ (x : Field Reloc). record { section = 0; at = x.at; reloc = x.item }) (calls_of w count)
      (all_calls w count (λ (x : Field Reloc). first_broken (standing_conditions to (n w) (record { section = 0; at = x.at; reloc = x.item })) ≡ None)
      (λ i l. (call_met to a ((5 * i + 1) % count) (16 * i + 1), call_met to a (count + i % 10) (16 * i + 6)))))
      tt

  -- ... all together

  expressible : (to : Format) → container_of to ≢ IsElf → first_unfit to (n (word_for to)) ≡ None
  unfolding first_unfit section_stages symbol_stages
  expressible to a =
      let w : Word = word_for to in
      five_none
      (first_broken (section_count to (n w)))
      (first_upto (λ i. first_broken (conditions_at to (n w) i)) 1)
      (first_broken (symbol_count to (n w)))
      (first_upto (λ i. first_broken (each_of (symbol_conditions to (n w)) (symbols_of count) i)) (length (symbols_of count)))
      (first_upto (λ i. first_broken (option_map_or (standing_conditions to (n w)) (slice_get (placed_relocs (n w)) i) [])) (length (placed_relocs (n w))))
      (sections_few to a)
      (none_upto (λ i. first_broken (conditions_at to (n w) i)) 1 (section_met to a))
      (symbols_few to a)
      (none_upto (λ i. first_broken (each_of (symbol_conditions to (n w)) (symbols_of count) i)) (length (symbols_of count)) (none_broken (symbol_conditions to (n w)) (symbols_of count) (symbols_met to a)))
      (none_upto (λ i. first_broken (option_map_or (standing_conditions to (n w)) (slice_get (placed_relocs (n w)) i) [])) (length (placed_relocs (n w)))
      (none_broken (standing_conditions to (n w)) (placed_relocs (n w)) (calls_met to a)))

pub made_is_expressible : MadeIsExpressible
unfolding made_object
made_is_expressible Elf32 count many few = (made_is_fitted count few W32).expressible
made_is_expressible Elf64 count many few = (made_is_fitted count few W64).expressible
made_is_expressible Coff32 count many few = expressible count few Coff32 (λ e. absurd (cc e))
made_is_expressible Coff64 count many few = expressible count few Coff64 (λ e. absurd (cc e))
made_is_expressible Mac32 count many few = expressible count few Mac32 (λ e. absurd (cc e))
made_is_expressible Mac64 count many few = expressible count few Mac64 (λ e. absurd (cc e))
made_is_expressible Omf count many few = expressible count few Omf (λ e. absurd (cc e))
made_is_expressible BigElf32 count many few = absurd (true≢false many)
made_is_expressible BigElf64 count many few = absurd (true≢false many)
made_is_expressible BigCoff32 count many few = expressible count few BigCoff32 (λ e. absurd (cc e))
made_is_expressible BigCoff64 count many few = expressible count few BigCoff64 (λ e. absurd (cc e))
