-- The fields of relocation entries, taken one after the other.
use Rattle.oc_coff.specs.{Files.{CoffFile, tables_in}, declared.relocation.Relocation.{Relocation}}
use Rattle.std.proofs.Common.{◌≡◌, ℕ, ◌+◌, ◌*◌, ◌<◌, ◌≤◌, Bool, true, false, cond, List, Option, None, Some, refl, sym, ap, subst, arith}
use Rattle.std.specs.{Prelude.{◌||◌, is_none, length, nat_lt, not}, Option.{option_map, option_map_or}}
use Rattle.std.proofs.lemmas.{Bool.{true≢false}, Bool.Decides.{nat_tests}}
use Rattle.oc_base.specs.declared.format.Word.{Word}
use Rattle.oc_linking.specs.{declared.terms.Width.{Width}, declared.terms.Width.TheVariants.{One, Two, Four, Eight}, Fits.{bytes_of}, FirstFault.{first_broken}}
use Rattle.oc_linking.specs.Numbers.{first_upto}
use Rattle.oc_neutral.specs.Rows.{Row}
use Rattle.oc_shelf.specs.Reading.Bitmaps.{has, is_between, room}
use Rattle.oc_shelf.proofs.{ReadingLaws.BitmapLemmas.{bytes_more, bytes_same}, ReadingLaws.StageLemmas.{all_hold}}
use Rattle.oc_coff_judge.specs.{declared.aims.AimKind.{AimKind}, declared.relocs.RelocTable.{RelocTable}}
use Rattle.oc_coff_judge.specs.Relocs.{AreTaken, bytes_for, entry_fault, own_conditions, reloc_of, row_for, span_of, stored_size, width_of}

-- the entries so far have no fault, and the bytes taken are those of their fields
pub record IsJudging (w : Word) (file : CoffFile) (i : ℕ) (table : RelocTable) (k : ℕ) (words : List ℕ) : Type 0 where
  pub clean : first_upto (entry_fault w (tables_in file) i) k ≡ None
  pub taken : AreTaken w file table k words

-- an entry that meets its own conditions has a row
pub record HasRow (w : Word) (r : Relocation) : Type 0 where
  pub row : Row
  pub is : row_for w r ≡ Some row

pub has_row : (w : Word) (i : ℕ) (table : RelocTable) (place : ℕ) (r : Relocation) (aim : Option AimKind) → first_broken (own_conditions w i table place r aim) ≡ None → HasRow w r
unfolding own_conditions
has_row w i table place r aim clean = by (row_for w r) refl (all_hold (own_conditions w i table place r aim) clean).0
  where
    by : (o : Option Row) → row_for w r ≡ o → is_none o ≡ false → HasRow w r
    by None e h = absurd (true≢false h)
    by (Some row) e h = record { row = row; is = e }

-- so its field has a byte, and is taken
pub wide_field : (w : Word) (r : Relocation) → HasRow w r → 1 ≤ width_of w r
wide_field w r has = subst (λ (o : Option Row). 1 ≤ option_map_or (λ (row : Row). bytes_of row.width) o 0) (sym has.is) (by has.row.width)
  where
    by : (b : Width) → 1 ≤ bytes_of b
    by One = omega arith
    by Two = omega arith
    by Four = omega arith
    by Eight = omega arith

pub span_is : (w : Word) (file : CoffFile) (table : RelocTable) (k : ℕ) → HasRow w (reloc_of file table k) → span_of w file table k ≡ Some (bytes_for w (reloc_of file table k))
span_is w file table k has = ap (option_map (λ (row : Row). bytes_for w (reloc_of file table k))) has.is

pub taken_same : (w : Word) (file : CoffFile) (table : RelocTable) (k : ℕ) (words : List ℕ) → AreTaken w file table k words → span_of w file table k ≡ None → AreTaken w file table (k + 1) words
taken_same w file table k words are none = record { fields = bytes_same (span_of w file table) k words are.fields none; room = are.room }

pub taken_more : (w : Word) (file : CoffFile) (table : RelocTable) (k begin end : ℕ) (old new : List ℕ) → AreTaken w file table k old → span_of w file table k ≡ Some (begin, end) → begin < end
    → length new ≡ length old → ((q : ℕ) → has new q ≡ (is_between begin end q || has old q)) → AreTaken w file table (k + 1) new
taken_more w file table k begin end old new are is some long taken = record {
  fields = bytes_more (span_of w file table) k begin end old new are.fields is some taken;
  room = subst (λ n. stored_size table ≤ 64 * n) (sym long) are.room;
}

-- and its field ends in the room
pub field_in_room : (w : Word) (file : CoffFile) (i place k : ℕ) (table : RelocTable) (words : List ℕ) (r : Relocation) (aim : Option AimKind) → AreTaken w file table k words
    → first_broken (own_conditions w i table place r aim) ≡ None → r.VirtualAddress + width_of w r ≤ room words
unfolding own_conditions
field_in_room w file i place k table words r aim are clean = by table.stored refl (all_hold (own_conditions w i table place r aim) clean).1.0
  where
    by : (b : Bool) → table.stored ≡ b → (not b || nat_lt table.size (r.VirtualAddress + width_of w r)) ≡ false → r.VirtualAddress + width_of w r ≤ room words
    by true e h =
        let size : stored_size table ≡ table.size = ap (λ b. cond b table.size 0) e in
        let enough = are.room in
        let inside : r.VirtualAddress + width_of w r ≤ table.size = grind (arith, nat_tests) in
        omega (arith, inside, size, enough)
    by false e h = absurd (true≢false h)
