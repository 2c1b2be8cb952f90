-- Sections that are carried, by their kinds.
use Rattle.std.proofs.Common.{◌≡◌, ℕ, ◌+◌, Option, None, Some, refl, sym, ◌∙◌, ap}
use Rattle.std.specs.{Prelude.{is_some, slice_get}, Option.{option_map, option_and_then}}
use Rattle.oc_linking.specs.declared.terms.Kind.{Kind}
use Rattle.oc_coff.specs.{declared.section_header.SectionHeader.{SectionHeader}, Tables.{SectionTable, Tables, section_table}}
use Rattle.oc_coff.specs.{Sections.{Carried, carried_of, is_stored, kind_in, section_of}, Files.{CoffFile, tables_in}}
use Rattle.oc_coff_judge.specs.Led.{carried_at, section_at}

-- section i, where its header is that and its kind that
pub section_is : (t : Tables) (i : ℕ) (x : SectionTable) (o : Option Kind) → slice_get t.sections i ≡ Some x → kind_in t.strings x.header ≡ o → section_at t i ≡ option_map (section_of t (i + 1) x) o
unfolding carried_at carried_of
section_is t i x o here kind =
    ap (λ (y : Option SectionTable). option_map (λ (c : Carried). c.section) (option_and_then (λ (x : SectionTable). carried_of t (i + 1, x)) y)) here
    ∙ ap (λ (k : Option Kind). option_map (λ (c : Carried). c.section) (option_map (λ kind. record { section = section_of t (i + 1) x kind; stored = is_stored (Some kind) x.header; relocs_at = x.relocs_at; relocs = x.relocs }) k)) kind
    ∙ by o
  where
    by : (o : Option Kind) → option_map (λ (c : Carried). c.section) (option_map (λ kind. record { section = section_of t (i + 1) x kind; stored = is_stored (Some kind) x.header; relocs_at = x.relocs_at; relocs = x.relocs }) o) ≡ option_map (section_of t (i + 1) x) o
    by None = refl
    by (Some k) = refl

-- it is carried exactly where it has a kind
pub carried_by : (file : CoffFile) (i : ℕ) (h : SectionHeader) → slice_get (tables_in file).sections i ≡ Some (section_table file.bytes h) → is_some (kind_in (tables_in file).strings h) ≡ is_some (section_at (tables_in file) i)
unfolding section_table
carried_by file i h here = by (kind_in (tables_in file).strings h) ∙ sym (ap is_some (section_is (tables_in file) i (section_table file.bytes h) (kind_in (tables_in file).strings h) here refl))
  where
    by : (o : Option Kind) → is_some o ≡ is_some (option_map (section_of (tables_in file) (i + 1) (section_table file.bytes h)) o)
    by None = refl
    by (Some k) = refl
