-- The relocation table of a section lies in the file, where no section has a fault.
use Rattle.oc_coff.specs.{Files.{CoffFile, tables_in}, declared.section_header.SectionHeader.{SectionHeader}}
use Rattle.oc_coff.specs.Tables.{SectionTable, is_overflowed, reloc_count, relocs_place, section_table}
use Rattle.oc_coff.specs.{Sections.{Carried, carried_of, is_stored, kind_in, section_of}, HeaderFaults.{passes_end}}
use Rattle.oc_coff.specs.{SectionFaults.{header_place, raw_conditions, section_fault, section_stage, table_conditions}, Relocation.{relocation_at}}
use Rattle.oc_coff.specs.Head.{IsHeaded}
use Rattle.std.proofs.Common.{◌≡◌, ℕ, ◌+◌, ◌-◌, ◌*◌, ◌≤◌, Bool, true, false, cond, eqb, [], ◌∷◌, length, Option, None, Some, refl, sym, ◌∙◌, ap, subst, arith}
use Rattle.std.specs.{Prelude.{nat_lt, slice_get}, Option.{option_and_then, option_map}}
use Rattle.std.proofs.lemmas.{Bool.{true≢false}, Bool.Decides.{nat_tests}, Option.{none-some, same_Some, slice_get_within}}
use Rattle.oc_base.specs.{declared.fault.Fault.{Fault}, Numbers.{number_at}, declared.format.Word.{Word}, declared.code.Code.TheVariants.{BadTable, Short}}
use Rattle.oc_linking.specs.{declared.terms.Kind.{Kind}, FirstFault.{first_broken, stage_fault}, declared.terms.Keep.{Keep}, Keeping.{keeps}}
use Rattle.oc_linking.specs.Numbers.{first_upto, or_else}
use Rattle.oc_shelf.proofs.ReadingLaws.StageLemmas.{all_hold, clean_at}
use Rattle.oc_shelf.specs.Reading.Rows.{rows}
use Rattle.oc_coff_judge.specs.{Led.{carried_at}, Judged.{copies_of, forms_of, section_fault_of}, declared.relocs.RelocTable.{RelocTable}}
use Rattle.oc_coff_judge.specs.Relocs.{IsTable, entry_fault, fault_in, faults_in, relocs_fault}
use Rattle.oc_coff_judge.proofs.{JudgedRelocs.{table_faults}, SectionLemmas.{at, limit_part, name_part, section_broken}}

later : (a b : Option Fault) → or_else a b ≡ None → b ≡ None
later None b e = e
later (Some x) b e = absurd (none-some x (sym e))

first : (a b : Option Fault) → or_else a b ≡ None → a ≡ None
first None b e = refl
first (Some x) b e = absurd (none-some x (sym e))

-- where the entries lie, by the header of a section
pub record IsLying (file : CoffFile) (h : SectionHeader) : Type 0 where
  pub lies : relocs_place h + 10 * reloc_count file.bytes h ≤ length file.bytes
  pub counted : is_overflowed h ≡ true → (h.PointerToRelocations + 10 ≤ length file.bytes) × (1 ≤ number_at file.bytes h.PointerToRelocations 4)

module _ (file : CoffFile) (clean : stage_fault (section_stage file.bytes (tables_in file)) ≡ None) (i : ℕ) (h : SectionHeader) (here : slice_get (tables_in file).sections i ≡ Some (section_table file.bytes h)) where
  -- the conditions on the table hold
  table_clean : first_broken (table_conditions file.bytes (tables_in file) (at file i h) h) ≡ None
  table_clean =
      let all = sym (section_broken file i h here) ∙ clean_at (section_fault_of file) (length (tables_in file).sections) i clean (slice_get_within (tables_in file).sections i (section_table file.bytes h) here) in
      let copies = later (first_broken (name_part file i h)) _ all in
      let forms = later (first_broken (copies_of (tables_in file) (at file i h) h)) _ copies in
      let raw = later (first_broken (forms_of (tables_in file) (at file i h) h)) _ forms in
      let table = later (first_broken (raw_conditions file.bytes (tables_in file) (at file i h) h)) _ raw in
      first (first_broken (table_conditions file.bytes (tables_in file) (at file i h) h)) (first_broken (limit_part file i h)) table

  -- the faults of these
  abbrev short : Fault
  short = section_fault (at file i h) h.PointerToRelocations Short

  abbrev bad : Fault
  bad = section_fault (at file i h) (header_place (tables_in file) (at file i h)) BadTable

  within : (a b : ℕ) → nat_lt a b ≡ false → b ≤ a
  within a b e = grind (arith, nat_tests)

  some : (n : ℕ) → eqb n 0 ≡ false → 1 ≤ n
  some n e = grind (arith, nat_tests)

  -- by whether the count stands in the first entry
  lying_by : (b : Bool) → is_overflowed h ≡ b
      → first_broken (cond b
      ((passes_end file.bytes h.PointerToRelocations 10, short) ∷ (eqb (number_at file.bytes h.PointerToRelocations 4) 0, bad) ∷ (passes_end file.bytes h.PointerToRelocations (10 * number_at file.bytes h.PointerToRelocations 4), short) ∷ [])
      ((passes_end file.bytes h.PointerToRelocations (10 * h.NumberOfRelocations), short) ∷ [])) ≡ None
      → IsLying file h
  lying_by true e none =
      let p : ℕ = h.PointerToRelocations in
      let n : ℕ = number_at file.bytes p 4 in
      let holds = all_hold ((passes_end file.bytes p 10, short) ∷ (eqb n 0, bad) ∷ (passes_end file.bytes p (10 * n), short) ∷ []) none in
      let head = within (length file.bytes) (p + 10) holds.0 in
      let one = some n holds.1.0 in
      let all = within (length file.bytes) (p + 10 * n) holds.1.1.0 in
      let most : p + 10 + 10 * (n - 1) ≤ length file.bytes = omega (arith, one, all) in
      record {
        lies = subst (λ (m : ℕ). m ≤ length file.bytes) (ap (λ b. cond b (p + 10) p + 10 * cond b (n - 1) h.NumberOfRelocations) (sym e)) most;
        counted = λ is. (head, one);
      }
  lying_by false e none =
      let p : ℕ = h.PointerToRelocations in
      let holds = all_hold ((passes_end file.bytes p (10 * h.NumberOfRelocations), short) ∷ []) none in
      record {
        lies = subst (λ (m : ℕ). m ≤ length file.bytes) (ap (λ b. cond b (p + 10) p + 10 * cond b (number_at file.bytes p 4 - 1) h.NumberOfRelocations) (sym e)) (within (length file.bytes) (p + 10 * h.NumberOfRelocations) holds.0);
        counted = λ is. absurd (true≢false (sym is ∙ e));
      }

  pub lying : IsLying file h
  lying = lying_by (is_overflowed h) refl table_clean

  -- section i, where it is carried
  abbrev made : Kind → Carried
  made kind = record { section = section_of (tables_in file) (i + 1) (section_table file.bytes h) kind; stored = is_stored (Some kind) h; relocs_at = relocs_place h; relocs = (section_table file.bytes h).relocs }

  carried_here : (o : Option Kind) → kind_in (tables_in file).strings h ≡ o → carried_at (tables_in file) i ≡ option_map made o
  unfolding carried_at carried_of section_table
  carried_here o is = ap (option_and_then (λ (x : SectionTable). carried_of (tables_in file) (i + 1, x))) here ∙ ap (option_map made) is

  -- its table
  pub table_is : IsHeaded file → (kind : Kind) → kind_in (tables_in file).strings h ≡ Some kind → (table : RelocTable)
      → table.size ≡ h.SizeOfRawData → table.stored ≡ is_stored (Some kind) h → table.place ≡ relocs_place h → table.count ≡ reloc_count file.bytes h → IsTable file i table
  unfolding section_table
  table_is head kind is table size stored place count = record {
    of = made kind;
    here = carried_here (Some kind) is;
    number = refl;
    size = size;
    stored = stored;
    place = place;
    entries = ap (rows relocation_at 10 file.bytes (relocs_place h)) (sym count) ∙ ap (λ (p : ℕ). rows relocation_at 10 file.bytes p table.count) (sym place);
    lies = subst (λ (n : ℕ). n ≤ length file.bytes) (ap (λ (n : ℕ). relocs_place h + 10 * n) (sym count) ∙ ap (λ (p : ℕ). p + 10 * table.count) (sym place)) lying.lies;
    small = head.small;
  }

  -- the faults of a section that is carried and kept are those of its table
  pub kept_faults : (w : Word) (keep : Keep) (kind : Kind) → kind_in (tables_in file).strings h ≡ Some kind → keeps keep kind ≡ true → (table : RelocTable) → IsTable file i table
      → relocs_fault w (tables_in file) keep i ≡ first_upto (entry_fault w (tables_in file) i) table.count
  kept_faults w keep kind is kept table of =
      let one : made kind ≡ of.of = same_Some (made kind) of.of (sym (carried_here (Some kind) is) ∙ of.here) in
      table_faults w file keep i table of (ap (λ (c : Carried). keeps keep c.section.kind) (sym one) ∙ kept)

  -- another has none
  pub dropped_faults : (w : Word) (keep : Keep) (kind : Kind) → kind_in (tables_in file).strings h ≡ Some kind → keeps keep kind ≡ false → relocs_fault w (tables_in file) keep i ≡ None
  dropped_faults w keep kind is dropped =
      ap (option_and_then (faults_in w (tables_in file) keep)) (carried_here (Some kind) is)
      ∙ ap (λ b. cond b (first_upto (λ k. fault_in w (tables_in file) k (made kind)) (length (made kind).relocs)) None) dropped

  pub no_faults : (w : Word) (keep : Keep) → kind_in (tables_in file).strings h ≡ None → relocs_fault w (tables_in file) keep i ≡ None
  no_faults w keep is = ap (option_and_then (faults_in w (tables_in file) keep)) (carried_here None is)
