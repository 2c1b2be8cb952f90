-- What is given, table by table and entry by entry.
use Rattle.oc_coff.specs.{Files.{CoffFile, tables_in}, declared.relocation.Relocation.{Relocation}, Relocation.{relocation_at}}
use Rattle.oc_coff.specs.{declared.section_header.SectionHeader.{SectionHeader}, SectionFaults.{section_stage}, Tables.{SectionTable, Tables, section_table}}
use Rattle.oc_coff.specs.{Fields.{says_nothing}, Sections.{Carried, carried_in, carried_of, is_stored, kind_in, section_of}, Head.{IsHeaded}}
use Rattle.std.proofs.Common.{◌≡◌, ℕ, ◌+◌, ◌<◌, ◌≤◌, inl, inr, true, false, cond, List, length, take, drop, replicate, Option, None, Some, sym, ◌∙◌, ap, subst, arith, get_or, length-take, length-drop}
use Rattle.std.specs.{Prelude.{nat_lt, slice_get}, List.Sorted.{IsPermutation}, Option.{option_and_then, option_map, option_map_or}}
use Rattle.std.proofs.lemmas.{Bool.{cases_eq, cases_lt}, Option.{same_Some, slice_get_past, slice_get_within}}
use Rattle.oc_base.specs.declared.format.Word.{Word}
use Rattle.oc_linking.specs.{declared.terms.Keep.{Keep}, declared.terms.Kind.{Kind}, FirstFault.{stage_fault}, Fits.{bytes_of}, Keeping.{keeps}}
use Rattle.oc_neutral.specs.{declared.reloc.Reloc.{Reloc}, Building.{Draft}, Invariants.{AreBytes}, Rows.{Row}}
use Rattle.oc_shows.specs.Built.{HasAdded}
use Rattle.oc_shelf.specs.{declared.reading.order.PlacedEntry.{PlacedEntry}, Reading.Collected.{collected}, Reading.Order.{is_among}}
use Rattle.oc_shelf.proofs.{ReadingLaws.CollectedLemmas.{collected-at, collected-none, collected-same}, ReadingLaws.RowLemmas.{length-rows, row_at}}
use Rattle.oc_shelf.proofs.ReadingLaws.PlacedLemmas.{not_among}
use Rattle.oc_coff_judge.specs.{declared.relocs.RelocTable.{RelocTable}, Led.{carried_at}, Relocs.{IsTable, reloc_of, width_of}}
use Rattle.oc_coff_read.specs.Adding.{HasBefore, IsPlace, IsReady, started}
use Rattle.oc_coff_read.specs.Given.{IsAimed, entry_in, given_at, given_before, given_with, placed, placed_as, placed_at, reloc_by, reloc_in}
use Rattle.oc_coff_read.proofs.{BuildLemmas.{header_kind, header_lies, raw_is}, FoundEntries.{IsGood, differ_at, good_entry}}
use Rattle.oc_coff_read.proofs.PlacedEntries.{Differ, IsPlacedEntry, differ_placed, entry_at, entry_is, offset_among, placed_at as entry_placed}
use Rattle.oc_coff_read.proofs.{StandingFields.{IsStanding, entry_given, given_standing}, AddedRelocs.{addable}}
use Rattle.oc_coff_judge.proofs.CollectLemmas.{carried_are}
use Rattle.oc_shows.proofs.AddedLaws.{IsTaken, entry_taken, given_all as all_given, given_passed, lt_next, lt_self, lt_stays, table_done as all_done}

-- ... sections

module _ (w : Word) (t : Tables) (keep : Keep) where
  -- past the last section nothing is given
  past_none : (s at : ℕ) → length (carried_in t) ≤ s → given_at w t keep s at ≡ None
  unfolding given_at
  past_none s at past = ap (option_and_then (λ (c : Carried). cond (keeps keep c.section.kind) (reloc_in w t s at c) None)) (slice_get_past (carried_in t) s past)

  -- for all sections all is given
  pub given_all : (p : ℕ) → length (carried_in t) ≤ p → (s at : ℕ) → given_before w t keep p s at ≡ given_at w t keep s at
  given_all p all = all_given (given_at w t keep) p (λ s at past. past_none s at (omega (arith, past, all)))

  -- a section that is left out is given nothing
  pub given_left : (p : ℕ) (c : Carried) → slice_get (carried_in t) p ≡ Some c → keeps keep c.section.kind ≡ false → (s at : ℕ) → given_before w t keep p s at ≡ given_before w t keep (p + 1) s at
  unfolding given_at
  given_left p c there left =
      given_passed (given_at w t keep) (λ s. nat_lt s p) (λ s. nat_lt s (p + 1)) p (λ s other. lt_stays s p other)
      (λ at. ap (option_and_then (λ (c : Carried). cond (keeps keep c.section.kind) (reloc_in w t p at c) None)) there ∙ ap (λ b. cond b (reloc_in w t p at c) None) left)

-- ... entries of a table

module _ (file : CoffFile) (i : ℕ) (table : RelocTable) (is : IsTable file i table) where
  pub table_long : length is.of.relocs ≡ table.count
  table_long = ap length is.entries ∙ length-rows relocation_at 10 file.bytes table.place table.count

  -- an entry where it stands in the file
  pub entry_read : (k : ℕ) → k < table.count → slice_get is.of.relocs k ≡ Some (reloc_of file table k)
  unfolding reloc_of
  entry_read k low = ap (λ (rs : List Relocation). slice_get rs k) is.entries ∙ row_at relocation_at 10 file.bytes table.place table.count k low

  read_is : (k : ℕ) → k < table.count → entry_in is.of.relocs k ≡ reloc_of file table k
  read_is k low = entry_is is.of.relocs k (reloc_of file table k) (entry_read k low)

  pub placed_same : collected (placed_at file table) table.count ≡ collected (placed is.of.relocs) (length is.of.relocs)
  placed_same =
      collected-same (placed_at file table) (placed is.of.relocs) table.count (λ k low. ap (λ (r : Relocation). placed_as r k) (sym (read_is k low)))
      ∙ ap (collected (placed is.of.relocs)) (sym table_long)

-- ... sections by their headers

module _ (file : CoffFile) (i : ℕ) (h : SectionHeader) (here : slice_get (tables_in file).sections i ≡ Some (section_table file.bytes h)) (kind : Kind) (is : kind_in (tables_in file).strings h ≡ Some kind) where
  abbrev made : Carried
  made = record {
    section = section_of (tables_in file) (i + 1) (section_table file.bytes h) kind;
    stored = is_stored (Some kind) (section_table file.bytes h).header;
    relocs_at = (section_table file.bytes h).relocs_at;
    relocs = (section_table file.bytes h).relocs;
  }

  carried_is : carried_at (tables_in file) i ≡ Some made
  unfolding carried_at carried_of
  carried_is =
      ap (option_and_then (λ (x : SectionTable). carried_of (tables_in file) (i + 1, x))) here
      ∙ ap (option_map (λ kind. record { section = section_of (tables_in file) (i + 1) (section_table file.bytes h) kind; stored = is_stored (Some kind) (section_table file.bytes h).header; relocs_at = (section_table file.bytes h).relocs_at; relocs = (section_table file.bytes h).relocs }))
      (header_kind file h (tables_in file).strings (Some kind) is)

  module _ (table : RelocTable) (m : IsTable file i table) where
    same : m.of ≡ made
    same = same_Some m.of made (sym m.here ∙ carried_is)

    pub stored_is : table.stored ≡ true → is_stored (Some kind) h ≡ true
    unfolding section_table
    stored_is stored = sym (ap (λ (c : Carried). c.stored) same) ∙ sym m.stored ∙ stored

    pub place_is : (clean : stage_fault (section_stage file.bytes (tables_in file)) ≡ None) (p : ℕ) (contents : List ℕ) → p ≡ length (collected (carried_at (tables_in file)) i)
        → (table.stored ≡ true → contents ≡ take h.SizeOfRawData (drop h.PointerToRawData file.bytes)) → IsPlace file i p kind table contents
    unfolding section_table
    place_is clean p contents position bytes = record {
      table_is = m;
      kind_is = sym (ap (λ (c : Carried). c.section.kind) same);
      there = ap (λ (xs : List Carried). slice_get xs p) (carried_are (tables_in file)) ∙ ap (slice_get (collected (carried_at (tables_in file)) (length (tables_in file).sections))) position
          ∙ collected-at (carried_at (tables_in file)) i (length (tables_in file).sections) m.of m.here (slice_get_within (tables_in file).sections i (section_table file.bytes h) here);
      bytes_are = λ stored.
          let has = stored_is (m.stored ∙ stored) in
          bytes (m.stored ∙ stored) ∙ sym (raw_is file h kind has)
          ∙ sym (ap (λ b. cond b (section_table file.bytes h).raw (replicate h.SizeOfRawData 0)) has)
          ∙ sym (ap (λ (c : Carried). c.section.contents) same);
      long = λ stored.
          let lies = header_lies file h (tables_in file) clean i here kind is (stored_is (m.stored ∙ stored)) in
          let size : m.of.section.size ≡ h.SizeOfRawData = ap (λ (c : Carried). c.section.size) same in
          let taken : length contents ≡ length (take h.SizeOfRawData (drop h.PointerToRawData file.bytes)) = ap length (bytes (m.stored ∙ stored)) in
          omega (arith, lies, size, taken, length-take h.SizeOfRawData (drop h.PointerToRawData file.bytes), length-drop h.PointerToRawData file.bytes);
    }

-- a section that is not carried leaves all as it was
pub before_same : (w : Word) (file : CoffFile) (keep : Keep) (i p : ℕ) (d : Draft) (h : SectionHeader) → slice_get (tables_in file).sections i ≡ Some (section_table file.bytes h) → kind_in (tables_in file).strings h ≡ None
    → HasBefore w file keep i p d → HasBefore w file keep (i + 1) p d
unfolding carried_at carried_of
before_same w file keep i p d h here none before =
    let left : carried_at (tables_in file) i ≡ None
    = ap (option_and_then (λ (x : SectionTable). carried_of (tables_in file) (i + 1, x))) here
    ∙ ap (option_map (λ kind. record { section = section_of (tables_in file) (i + 1) (section_table file.bytes h) kind; stored = is_stored (Some kind) (section_table file.bytes h).header; relocs_at = (section_table file.bytes h).relocs_at; relocs = (section_table file.bytes h).relocs }))
    (header_kind file h (tables_in file).strings None none) in
    record { position = before.position ∙ sym (ap length (collected-none (carried_at (tables_in file)) i left)); added = before.added }

-- ... entries, added

module _ (w : Word) (file : CoffFile) (head : IsHeaded file) (bytes : AreBytes file.bytes) (keep : Keep) (sections symbols : List (Option ℕ)) (ready : IsReady w file keep sections symbols)
    (i p : ℕ) (kind : Kind) (table : RelocTable) (contents : List ℕ) (place : IsPlace file i p kind table contents) (kept : keeps keep kind ≡ true) where
  abbrev t : Tables
  t = tables_in file

  abbrev c : Carried
  c = place.table_is.of

  kept_it : keeps keep c.section.kind ≡ true
  kept_it = ap (keeps keep) (sym place.kind_is) ∙ kept

  good_at : (k : ℕ) (r : Relocation) → slice_get c.relocs k ≡ Some r → says_nothing r ≡ false → IsGood w t c k r
  good_at = good_entry w t keep ready.relocs_clean p c place.there kept_it

  differ : Differ c.relocs
  differ a b less low first second same =
      let here = entry_at c.relocs a (omega (arith, less, low)) in
      differ_at w t keep ready.relocs_clean p c place.there kept_it a b (entry_in c.relocs a) (entry_in c.relocs b) (good_at a (entry_in c.relocs a) here first) (good_at b (entry_in c.relocs b) (entry_at c.relocs b low) second) less here same

  module _ (entries : List PlacedEntry) (are : IsPermutation (collected (placed_at file table) table.count) entries) where
    listed : IsPermutation (collected (placed c.relocs) (length c.relocs)) entries
    listed = subst (λ (xs : List PlacedEntry). IsPermutation xs entries) (placed_same file i table place.table_is) are

    -- entry j, as it is read
    pub record IsEntry (j : ℕ) (e : PlacedEntry) : Type 0 where
      pub low : (get_or entries j e).index < table.count
      pub busy : says_nothing (reloc_of file table (get_or entries j e).index) ≡ false
      pub offset : (reloc_of file table (get_or entries j e).index).VirtualAddress ≡ (get_or entries j e).place
      pub there : slice_get c.relocs (get_or entries j e).index ≡ Some (reloc_of file table (get_or entries j e).index)

    pub entry_of : (j : ℕ) (e : PlacedEntry) → j < length entries → IsEntry j e
    entry_of j e below = by (entry_placed c.relocs entries listed j e below)
      where
        by : IsPlacedEntry c.relocs (get_or entries j e) → IsEntry j e
        by m =
            let long = table_long file i table place.table_is in
            let inside = m.low in
            let low : (get_or entries j e).index < table.count = omega (arith, long, inside) in
            let there = entry_read file i table place.table_is (get_or entries j e).index low in
            let same = entry_is c.relocs (get_or entries j e).index (reloc_of file table (get_or entries j e).index) there in
            record {
              low = low;
              busy = ap says_nothing (sym same) ∙ m.busy;
              offset = ap (λ (r : Relocation). r.VirtualAddress) (sym same) ∙ m.place;
              there = there;
            }

    -- what is asked before its relocation is made
    pub entry_aimed : (j : ℕ) (e : PlacedEntry) → j < length entries → IsAimed w t (reloc_of file table (get_or entries j e).index).SymbolTableIndex
    entry_aimed j e below =
        let m = entry_of j e below in
        let good = good_at (get_or entries j e).index (reloc_of file table (get_or entries j e).index) m.there m.busy in
        record { aim = good.aim; is = good.aimed }

    pub entry_inside : (j : ℕ) (e : PlacedEntry) → j < length entries
        → (reloc_of file table (get_or entries j e).index).VirtualAddress + width_of w (reloc_of file table (get_or entries j e).index) ≤ length contents
    entry_inside j e below =
        let m = entry_of j e below in
        let good = good_at (get_or entries j e).index (reloc_of file table (get_or entries j e).index) m.there m.busy in
        let inside = good.inside in
        let width : width_of w (reloc_of file table (get_or entries j e).index) ≡ bytes_of good.row.width = ap (λ (o : Option Row). option_map_or (λ (row : Row). bytes_of row.width) o 0) good.listed in
        let long = place.long good.stored in
        omega (arith, inside, width, long)

    -- it is given, and made of the contents
    pub record IsNext (j : ℕ) (e : PlacedEntry) : Type 0 where
      pub reloc : Reloc
      pub given : given_at w t keep p (reloc_of file table (get_or entries j e).index).VirtualAddress ≡ Some reloc
      pub made : reloc_by w t p contents (reloc_of file table (get_or entries j e).index) ≡ Some reloc

    pub next_of : (j : ℕ) (e : PlacedEntry) → j < length entries → IsNext j e
    next_of j e below = by (entry_given w file head keep (started w file).object ready.start.symbols ready.relocs_clean p c place.there kept_it (get_or entries j e).index r m.there m.busy)
      where
        r : Relocation
        r = reloc_of file table (get_or entries j e).index

        m : IsEntry j e
        m = entry_of j e below

        good : IsGood w t c (get_or entries j e).index r
        good = good_at (get_or entries j e).index r m.there m.busy

        by : (o : Reloc) × (given_at w t keep p r.VirtualAddress ≡ Some o) → IsNext j e
        by g = of (given_standing w file head keep (started w file).object ready.start.symbols ready.relocs_clean p r.VirtualAddress g.0 g.1)
          where
            of : IsStanding w file head keep (started w file).object ready.start.symbols ready.relocs_clean p r.VirtualAddress g.0 → IsNext j e
            of n =
                let one : n.c ≡ c = same_Some n.c c (sym n.there ∙ place.there) in
                let here : slice_get c.relocs n.k ≡ Some n.entry = subst (λ (x : Carried). slice_get x.relocs n.k ≡ Some n.entry) one n.here in
                let same : n.entry ≡ r = entry_same n.k n.entry here n.busy n.offset in
                record {
                  reloc = g.0;
                  given = g.1;
                  made = ap (λ (xs : List ℕ). reloc_by w t p xs r) (place.bytes_are good.stored)
                      ∙ sym (ap (λ (x : Carried). reloc_by w t p x.section.contents r) one)
                      ∙ sym (ap (reloc_by w t p n.c.section.contents) same) ∙ n.by;
                }
              where
                entry_same : (k : ℕ) (x : Relocation) → slice_get c.relocs k ≡ Some x → says_nothing x ≡ false → x.VirtualAddress ≡ r.VirtualAddress → x ≡ r
                entry_same k x here busy offset = elim (cases_eq k (get_or entries j e).index) [
                  | inl same ↦ same_Some x r (sym here ∙ ap (slice_get c.relocs) same ∙ m.there)
                  | inr other ↦ elim (cases_lt k (get_or entries j e).index) [
                    | inl before ↦ absurd (differ_at w t keep ready.relocs_clean p c place.there kept_it k (get_or entries j e).index x r (good_at k x here busy) good before here offset)
                    | inr later ↦ absurd (differ_at w t keep ready.relocs_clean p c place.there kept_it (get_or entries j e).index k r x good (good_at k x here busy) (omega (arith, later, other)) m.there (sym offset))
                  ]
                ]

    -- its relocation, as it was read, is added
    pub ready_next : (j : ℕ) (e : PlacedEntry) → j < length entries → (d : Draft) → HasAdded (started w file) d (given_with w t keep p (take j entries)) → (r : Relocation) → r ≡ reloc_of file table (get_or entries j e).index
        → (o : Reloc) → reloc_by w t p contents r ≡ Some o → IsTaken (started w file) d p r.VirtualAddress o (given_with w t keep p (take (j + 1) entries))
    ready_next j e below d has r read o made =
        let m = entry_of j e below in
        let n = next_of j e below in
        let same : n.reloc ≡ o = same_Some n.reloc o (sym n.made ∙ ap (reloc_by w t p contents) (sym read) ∙ made) in
        entry_taken (started w file) (given_at w t keep) (addable w file head bytes keep ready.symbols_clean ready.relocs_clean ready.start) (λ s. nat_lt s p) p (lt_self p) entries j e below
        (not_among (placed c.relocs) (length c.relocs) entries listed (differ_placed c.relocs differ) j e below) d has r.VirtualAddress (ap (λ (x : Relocation). x.VirtualAddress) read ∙ m.offset) o
        (ap (λ (x : Relocation). given_at w t keep p x.VirtualAddress) read ∙ n.given ∙ ap Some same)

    -- with all entries the section is done
    pub table_done : (s at : ℕ) → given_with w t keep p (take (length entries) entries) s at ≡ given_before w t keep (p + 1) s at
    table_done = all_done (given_at w t keep) (λ s. nat_lt s p) (λ s. nat_lt s (p + 1)) p (λ s other. lt_stays s p other) (lt_next p) entries among
      where
        among : (at : ℕ) (r : Reloc) → given_at w t keep p at ≡ Some r → is_among entries at ≡ true
        among at r e = by (given_standing w file head keep (started w file).object ready.start.symbols ready.relocs_clean p at r e)
          where
            by : IsStanding w file head keep (started w file).object ready.start.symbols ready.relocs_clean p at r → is_among entries at ≡ true
            by n =
                let one : n.c ≡ c = same_Some n.c c (sym n.there ∙ place.there) in
                let here : slice_get c.relocs n.k ≡ Some n.entry = subst (λ (x : Carried). slice_get x.relocs n.k ≡ Some n.entry) one n.here in
                sym (ap (is_among entries) n.offset) ∙ offset_among c.relocs entries listed n.k n.entry here n.busy
