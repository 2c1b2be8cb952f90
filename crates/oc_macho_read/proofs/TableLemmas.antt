-- What the tables of a file have of its bytes.
use Rattle.std.proofs.Common.{Bool, List, None, Option, Some, [], ap, arith, cond, drop, false, length, length-drop, length-take, map, refl, replicate, slice_get, subst, suc, sym, take, true, zero, ℕ, ◌+◌, ◌<◌, ◌∙◌, ◌≡◌, ◌≤◌}
use Rattle.std.proofs.lemmas.Option.{none-some, same_Some, slice_get-map}
use Rattle.std.specs.Option.{option_map, option_map_or}
use Rattle.oc_base.specs.declared.format.Word.{Word}
use Rattle.oc_linking.specs.FirstFault.{stage_fault}
use Rattle.oc_macho.proofs.FrameLemmas.{size_is}
use Rattle.oc_macho_judge.proofs.{JudgingLemmas.{IsPlaced, section_placed}, SectionLemmas.{there}}
use Rattle.oc_macho.specs.{Framed.{IsTable, table_at}, SectionHeader.{section_header_at, section_header_size}}
use Rattle.oc_macho.specs.{Sections.{contents_of, is_zerofill, kind_of, section_of}, SegmentCommand.{segment_command_at}}
use Rattle.oc_macho.specs.Tables.{SectionTable, Tables, headers_place, section_table, sections_by, segment_place, tables_of}
use Rattle.oc_macho.specs.declared.section_header.SectionHeader.{SectionHeader}
use Rattle.oc_macho_read.proofs.SectionedLemmas.{stored_at}
use Rattle.oc_macho_read.specs.Built.{AreRead}
use Rattle.oc_neutral.specs.{Building.{is_zero}, Invariants.{HasItsBytes}}
use Rattle.oc_shelf.specs.Reading.Rows.{rows}
use Rattle.oc_macho.specs.SectionFaults as rules

-- ... sections

made_from : (file : List ℕ) (hs : List SectionHeader) (i : ℕ) (x : SectionTable) → slice_get (map (section_table file) hs) i ≡ Some x → x ≡ section_table file x.header
unfolding section_table
made_from file hs i x e = by (slice_get hs i) (sym (slice_get-map (section_table file) hs i) ∙ e)
  where
    by : (o : Option SectionHeader) → option_map (section_table file) o ≡ Some x → x ≡ section_table file x.header
    by None h = absurd (none-some x h)
    by (Some y) h =
        let same = same_Some (section_table file y) x h in
        sym same ∙ ap (λ (z : SectionTable). section_table file z.header) same

pub table_made : (w : Word) (file : List ℕ) (i : ℕ) (x : SectionTable) → slice_get (tables_of w file).sections i ≡ Some x → x ≡ section_table file x.header
unfolding tables_of
table_made w file i x e = by (segment_place w file) e
  where
    by : (o : Option ℕ) → slice_get (option_map_or (sections_by w file) o []) i ≡ Some x → x ≡ section_table file x.header
    by None h = absurd (none-some x h)
    by (Some at) h = made_from file (rows (section_header_at w) (section_header_size w) file (headers_place w at) (segment_command_at w file at).nsects) i x h

module _ (t : Tables) (read : AreRead t) where
  pub made : (i : ℕ) (x : SectionTable) → slice_get t.sections i ≡ Some x → x ≡ section_table read.file x.header
  made i x here = table_made read.word read.file i x (ap (λ (u : Tables). slice_get u.sections i) (sym read.are) ∙ here)

  file_long : t.file_size ≡ length read.file
  file_long = ap (λ (u : Tables). u.file_size) read.are ∙ sym (size_is read.word read.file)

  -- the bytes of a section are as many as it says
  pub raw_long : (i : ℕ) (x : SectionTable) → slice_get t.sections i ≡ Some x → is_zerofill x.header ≡ false → x.header.offset + x.header.size ≤ t.file_size → length x.raw ≡ x.header.size
  unfolding section_table
  raw_long i x here stored lies =
      let size = file_long in
      let raw : x.raw ≡ take x.header.size (drop x.header.offset read.file)
      = ap (λ (y : SectionTable). y.raw) (made i x here) ∙ ap (λ b. cond b [] (take x.header.size (drop x.header.offset read.file))) stored in
      let taken = ap length raw in
      omega (arith, taken, lies, size, length-take x.header.size (drop x.header.offset read.file), length-drop x.header.offset read.file)

  length-zeros : (n : ℕ) → length (replicate {A = ℕ} n 0) ≡ n
  length-zeros zero = refl
  length-zeros (suc n) = omega (arith, length-zeros n)

  pub contents_long : (i : ℕ) (x : SectionTable) → slice_get t.sections i ≡ Some x → (is_zerofill x.header ≡ false → x.header.offset + x.header.size ≤ t.file_size) → length (contents_of x) ≡ x.header.size
  unfolding contents_of
  contents_long i x here lies = by (is_zerofill x.header) refl
    where
      by : (b : Bool) → is_zerofill x.header ≡ b → length (cond b (replicate x.header.size 0) x.raw) ≡ x.header.size
      by true e = length-zeros x.header.size
      by false e = raw_long i x here e (lies e)

  pub bytes_long : (i : ℕ) → i < length t.sections → IsTable t i (table_at t i).header → HasItsBytes (stored_at t i)
  unfolding section_of
  bytes_long i low table = by (is_zero (kind_of (table_at t i).header))
    where
      by : (z : Bool) → length (cond z [] (contents_of (table_at t i))) ≡ cond z 0 (table_at t i).header.size
      by true = refl
      by false = contents_long i (table_at t i) (there t i low) table.bytes_lie

-- a section without a fault has a table
pub table_of : (t : Tables) (i : ℕ) (h : SectionHeader) → i < length t.sections → stage_fault (rules.section_stage t) ≡ None → h ≡ (table_at t i).header → length (table_at t i).relocs ≡ h.nreloc → IsTable t i h
table_of t i h low clean is long =
    let placed : IsPlaced t h = subst (IsPlaced t) (sym is) (section_placed t i low clean) in
    record { there = low; is = is; entries_lie = placed.entries_lie; bytes_lie = placed.bytes_lie; small = placed.small; long = long }
