-- What the laws of what is seen use of a fitted object, for each family.
use Rattle.oc_neutral.proofs.{Formats.{most_sections}, Positions.{each_at, there_at}, SortedFields.{found_held}}
use Rattle.std.proofs.Common.{◌≡◌, ℕ, ◌+◌, ◌^◌, ◌<◌, ◌≤◌, true, false, cond, length, Option, Some, None, refl, sym, ◌∙◌, ap, subst, arith}
use Rattle.std.specs.{Prelude.{slice_get}, List.{AllByRecursion}, Option.{option_and_then, unwrap_or}}
use Rattle.std.proofs.lemmas.{Bool.{true≢false}, Option.{none-some, same_Some}}
use Rattle.oc_base.specs.{declared.format.Format.{Format}, declared.format.Format.TheVariants.{Omf}, declared.format.Word.{Word}}
use Rattle.oc_base.specs.{declared.format.Word.TheVariants.{W32, W64}, Formats.{word_for}}
use Rattle.oc_linking.specs.{declared.terms.Hint.{Hint}, declared.terms.Hint.TheVariants.{Call}, declared.terms.Base.TheVariants.{Address}}
use Rattle.oc_linking.specs.{declared.terms.Less.{Less}, declared.terms.Fallback.{Fallback}, declared.terms.Binding.{Binding}}
use Rattle.oc_linking.specs.{declared.terms.Binding.TheVariants.{Weak}, Numbers.{modulus}, Parts.{is_local}}
use Rattle.oc_linking.specs.declared.terms.Fallback.TheVariants as fallback
use Rattle.oc_chains.specs.{declared.field.Field.{Field}, Lists.{list_of}}
use Rattle.oc_neutral.specs.{declared.section.Section.{Section}, declared.symbol.Symbol.{Symbol}, declared.reloc.Reloc.{Reloc}, Objects.{Object, reloc_at}}
use Rattle.oc_neutral.specs.{Building.{is_zero}, Normal.{Place}}
use Rattle.oc_neutral.specs.Invariants.{HasOffset, IsBinding, is_strong, IsOriginal, IsSymbol, IsObject, IsThere, NamesOriginal}
use Rattle.oc_neutral.specs.{KeySymbols.{global_place, group_at}, Rows.{Row}, RelocTables.{rows_of}}
use Rattle.oc_neutral.specs.declared.reloc.Target.TheVariants as target
use Rattle.oc_target.specs.{Meets.{IsSteadyAt, MeetsReloc}, ElfMeets.{MeetsElf}, CoffMeets.{MeetsCoff}, MachMeets.{MeetsMach}, OmfMeets.{MeetsOmf}}
use Rattle.oc_shows.specs.{SymbolLines.{is_weak_with}, Manners.{Manner, elf_size, elf_manner, coff_manner, mach_manner, omf_manner}}
use Rattle.oc_shows.specs.Seen.{place_at, section_place, target_place}
use Rattle.oc_target.proofs.{MeetsRelocs.{normal_of}, SeenMoved.{IsSectional, section_target}}
use Rattle.oc_shows.proofs.{SeenLines.{IsTable}, SeenTables.{shown_count, entry_count}, SeenFamilies.{elf_table, coff_table, mach_table, omf_table}}
use Rattle.oc_shows.proofs.SeenAlike.{IsNameable, global_is}

-- what the laws use
pub record IsReady (m : Manner) (n : Object) : Type 0 where
  pub fine : IsObject n
  pub table : IsTable n (m.lines n)
  pub count : shown_count (m.lines n) < 2 ^ 31
  pub entries : entry_count (m.lines n) < 2 ^ 32
  pub headers : m.first_section n + length n.sections ≤ 2 ^ 32
  -- those are Zero that the format gives as Zero
  pub kinds : (k : ℕ) (s : Section) → slice_get n.sections k ≡ Some s → is_zero (m.kind s) ≡ is_zero s.kind
  pub sizes : (b : Binding) (size : ℕ) → IsBinding n b → size < modulus (word_for n.format) → m.size b size < modulus (word_for n.format)
  pub calls : (h : Hint) → m.hint h ≡ Call → h ≡ Call
  pub names : (k j : ℕ) (s : Symbol) → slice_get n.symbols k ≡ Some s → s.binding ≡ Weak (fallback.Name j) → IsNameable m n j
  pub targets : (s at : ℕ) (r : Reloc) (k : ℕ) → reloc_at n s at ≡ Some r → r.target ≡ target.Symbol k → (y : Symbol) × (slice_get n.symbols k ≡ Some y) × (is_local y.binding ≡ false) × IsOriginal n.symbols k
  pub sectional : (s at : ℕ) (r : Reloc) (place : Place) → reloc_at n s at ≡ Some r → section_place m n r ≡ Some place → IsSectional n r place

small : (w : Word) → 0 < modulus w
small W32 = omega arith
small W64 = omega arith

module _ (n : Object) (fine : IsObject n) where
  symbol_is : (k : ℕ) (s : Symbol) → slice_get n.symbols k ≡ Some s → IsSymbol n s
  symbol_is k s here = each_at (IsSymbol n) n.symbols k s fine.complete.symbols here

  -- a Global's place is in a section that is there
  offset_of : (k : ℕ) (s : Symbol) (place : Place) → slice_get n.symbols k ≡ Some s → global_place s.binding ≡ Some place → HasOffset n.sections place.0 place.1
  offset_of k s place here at = subst (IsBinding n) (global_is s.binding place at) (symbol_is k s here).binding

  not_weak : (b : Binding) → is_strong b ≡ true → (f : Fallback) → b ≡ Weak f → ⊥
  not_weak b strong f e = true≢false (sym strong ∙ ap is_strong e)

  not_local : (b : Binding) → is_strong b ≡ true → is_local b ≡ false
  not_local b e = grind arith

  -- a fallback Name can be said, where a Global whose place is said is in no group
  nameable : (m : Manner) → (m.places ≡ true → (k j : ℕ) (s : Symbol) → slice_get n.symbols k ≡ Some s → s.binding ≡ Weak (fallback.Name j) → IsSteadyAt n j)
      → (k j : ℕ) (s : Symbol) → slice_get n.symbols k ≡ Some s → s.binding ≡ Weak (fallback.Name j) → IsNameable m n j
  nameable m steady k j s here own =
      let named = subst (IsBinding n) own (symbol_is k s here).binding in
      record {
        symbol = named.0;
        there = named.1;
        outer = not_local named.0.binding named.2;
        strong = not_weak named.0.binding named.2;
        original = named.3;
        alone = λ places section offset is.
            let x = subst (IsBinding n) is (symbol_is j named.0 named.1).binding in
            let at = steady places k j s here own in
            let same : at.place ≡ (section, offset)
            = same_Some at.place (section, offset) (sym at.placed ∙ ap (λ (y : Symbol). global_place y.binding) (same_Some at.symbol named.0 (sym at.there ∙ named.1)) ∙ ap global_place is) in
            (x.0, x.1, sym (ap (option_and_then (λ (y : Section). y.group)) x.1) ∙ ap (λ (place : Place). group_at n place.0) (sym same) ∙ at.alone);
      }

  -- a target is no Local and no alias
  module _ (outer : (s at : ℕ) (r : Reloc) → reloc_at n s at ≡ Some r → (k : ℕ) (x : Symbol) → r.target ≡ target.Symbol k → slice_get n.symbols k ≡ Some x → is_local x.binding ≡ false) where
    outer_target : (s at : ℕ) (r : Reloc) (k : ℕ) → reloc_at n s at ≡ Some r → r.target ≡ target.Symbol k → (y : Symbol) × (slice_get n.symbols k ≡ Some y) × (is_local y.binding ≡ false) × IsOriginal n.symbols k
    outer_target s at r k here own =
        let inside : k < length n.symbols = subst (λ t. IsThere n t) own (normal_of n fine s at r here).target in
        let y = there_at n.symbols k inside in
        let named = found_held (λ (z : Field Reloc). NamesOriginal n.symbols z.item.target) (list_of n.relocs s) at r (fine.complete.originals s) here in
        (y.0, y.1, outer s at r here k y.0 own y.1, subst (NamesOriginal n.symbols) (ap (λ (q : Reloc). q.target) named.1 ∙ own) named.2)

  -- an address in a section of a family that has no groups
  sectional_of : (m : Manner) → ((k : ℕ) (x : Section) → slice_get n.sections k ≡ Some x → x.group ≡ None) → (r : Reloc) (place : Place) → section_place m n r ≡ Some place → r.form.base ≡ Address → IsSectional n r place
  sectional_of m alone r place own address =
      let k = section_target n (m.by_section r.form.less) place r.form.less r.target own in
      let y = placed k.0 place k.2 in
      record { base = address; section = y.0; there = y.1; alone = alone place.0 y.0 y.1 }
    where
      of_symbol : (k : ℕ) (place : Place) (o : Option Symbol) → slice_get n.symbols k ≡ o → option_and_then (λ (s : Symbol). global_place s.binding) o ≡ Some place → (x : Section) × (slice_get n.sections place.0 ≡ Some x)
      of_symbol k place None here at = absurd (none-some place at)
      of_symbol k place (Some s) here at = let x = offset_of k s place here at in (x.0, x.1)

      placed : (k : ℕ) (place : Place) → place_at n k ≡ Some place → (x : Section) × (slice_get n.sections place.0 ≡ Some x)
      placed k place at = of_symbol k place (slice_get n.symbols k) refl at

  -- where no Global is read as a section
  never_sectional : (m : Manner) → ((l : Less) → m.by_section l ≡ false) → (s at : ℕ) (r : Reloc) (place : Place) → reloc_at n s at ≡ Some r → section_place m n r ≡ Some place → IsSectional n r place
  never_sectional m never s at r place here own = absurd (none-some place (sym (ap (λ b. cond b (target_place n r.form.less r.target) None) (never r.form.less)) ∙ own))

-- ... ELF

elf_small : (n : Object) (b : Binding) (size : ℕ) → IsBinding n b → size < modulus (word_for n.format) → elf_size b size < modulus (word_for n.format)
elf_small n b size there l = grind arith

pub elf_ready : (format : Format) (n : Object) → IsObject n → MeetsElf format n → IsReady elf_manner n
elf_ready format n fine meets =
    let is = elf_table n in
    let headers = meets.headers in
    let most = most_sections format in
    let symbols = meets.bounds.symbols in
    record {
      fine = fine;
      table = is.table;
      count = let c = is.count in omega (arith, c, symbols);
      entries = let e = is.sum in omega (arith, e, headers, most, symbols);
      headers = omega (arith, headers, most);
      kinds = λ k s here. (meets.sections k s here).kind.zero;
      sizes = elf_small n;
      calls = λ h e. e;
      names = nameable n fine elf_manner (λ places k j s here own. (meets.symbols k s here).steady j own);
      targets = outer_target n fine (λ s at r here. (meets.relocs s at r here).meets.outer);
      sectional = never_sectional n fine elf_manner (λ l. refl);
    }

-- ... COFF

pub coff_ready : (format : Format) (n : Object) → IsObject n → MeetsCoff format n → IsReady coff_manner n
coff_ready format n fine meets =
    let is = coff_table n in
    let few = meets.few in
    let most = most_sections format in
    let symbols = meets.bounds.symbols in
    record {
      fine = fine;
      table = is.table;
      count = let c = is.count in omega (arith, c, symbols);
      entries = let e = is.sum in omega (arith, e, few, most, symbols);
      headers = omega (arith, few, most);
      kinds = λ k s here. let x = meets.sections k s here in ap (λ o. is_zero (unwrap_or o s.kind)) x.carried ∙ x.kind.zero;
      sizes = λ b size there l. small (word_for n.format);
      calls = λ h e. absurd (cc);
      names = nameable n fine coff_manner (λ places. absurd (true≢false (sym places)));
      targets = outer_target n fine (λ s at r here. (meets.relocs s at r here).meets.outer);
      sectional = never_sectional n fine coff_manner (λ l. refl);
    }

-- ... Mach-O and OMF

-- all rows of these formats are of addresses
abbrev AreAddresses : Format → Type 0
AreAddresses format = AllByRecursion (λ (r : Row). r.base ≡ Address) (rows_of format)

address_base : (format : Format) → AreAddresses format → (n : Object) (s at : ℕ) (r : Reloc) → MeetsReloc format n s at r → r.form.base ≡ Address
address_base format all n s at r meets = sym meets.is.base ∙ each_at (λ (q : Row). q.base ≡ Address) (rows_of format) meets.is.position meets.row all meets.is.there

pub omf_ready : (n : Object) → IsObject n → MeetsOmf n → IsReady omf_manner n
omf_ready n fine meets =
    let is = omf_table n (λ k s here. strong s.binding (λ f own. (meets.symbols k s here).strong f own)) in
    let few = meets.few in
    let symbols = meets.bounds.symbols in
    record {
      fine = fine;
      table = is.table;
      count = let c = is.count in omega (arith, c, symbols);
      entries = let e = is.sum in omega (arith, e, few, symbols);
      headers = omega (arith, few);
      kinds = λ k s here. refl;
      sizes = λ b size there l. small (word_for n.format);
      calls = λ h e. absurd (cc);
      names = λ k j s here own. absurd ((meets.symbols k s here).strong (fallback.Name j) own);
      targets = outer_target n fine (λ s at r here. (meets.relocs s at r here).meets.outer);
      sectional = λ s at r place here own.
          sectional_of n fine omf_manner (λ k x there. (meets.sections k x there).alone) r place own (address_base Omf (refl, (refl, (refl, tt))) n s at r (meets.relocs s at r here).meets);
    }
  where
    strong : (b : Binding) → ((f : Fallback) → b ≡ Weak f → ⊥) → is_weak_with (λ f. true) b ≡ false
    strong b never = grind arith

mach_sectional : (format : Format) (w : Word) (n : Object) (fine : IsObject n) (meets : MeetsMach format n) → (w ≡ W32 → AreAddresses format)
    → (s at : ℕ) (r : Reloc) (place : Place) → reloc_at n s at ≡ Some r → section_place (mach_manner w) n r ≡ Some place → IsSectional n r place
mach_sectional format W32 n fine meets all s at r place here own =
    sectional_of n fine (mach_manner W32) (λ k x there. (meets.sections k x there).alone) r place own (address_base format (all refl) n s at r (meets.relocs s at r here).meets)
mach_sectional format W64 n fine meets all s at r place here own = absurd (none-some place own)

mach_calls : (w : Word) (h : Hint) → (mach_manner w).hint h ≡ Call → h ≡ Call
mach_calls W32 h e = absurd (cc)
mach_calls W64 h e = e

pub mach_ready : (format : Format) (w : Word) (n : Object) → IsObject n → MeetsMach format n → (w ≡ W32 → AreAddresses format) → IsReady (mach_manner w) n
mach_ready format w n fine meets all =
    let is = mach_table n w in
    let few = meets.few in
    let symbols = meets.bounds.symbols in
    record {
      fine = fine;
      table = is.table;
      count = let c = is.count in omega (arith, c, symbols);
      entries = let e = is.sum in omega (arith, e, few, symbols);
      headers = omega (arith, few);
      kinds = λ k s here. (meets.sections k s here).kind.zero;
      sizes = λ b size there l. small (word_for n.format);
      calls = mach_calls w;
      names = nameable n fine (mach_manner w) (λ places k j s here own. (meets.symbols k s here).steady j own);
      targets = outer_target n fine (λ s at r here. (meets.relocs s at r here).meets.outer);
      sectional = mach_sectional format w n fine meets all;
    }
