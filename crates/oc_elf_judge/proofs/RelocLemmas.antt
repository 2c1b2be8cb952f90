-- The entries of a relocation table, judged one after the other.
use Rattle.std.proofs.Common.{◌≡◌, ℕ, ◌+◌, ◌*◌, ◌<◌, ◌≤◌, Bool, true, false, cond, eqb, List, [], ◌∷◌, Option, None, Some, refl, sym, ◌∙◌, ap, subst, arith}
use Rattle.std.specs.{Prelude.{not, ◌&&◌, ◌||◌, nat_lt, nat_le, is_some, is_none, length}, Option.{option_map, option_map_or}}
use Rattle.std.proofs.lemmas.{Option.{none-some, same_Some}, Bool.{true≢false, and_parts, not-false}, Bool.Decides.{nat_tests}}
use Rattle.oc_base.specs.{declared.fault.Fault.{Fault}, declared.code.Code.TheVariants.{BadOffset, BadTarget, Overlap, RelocKind, TargetKind}}
use Rattle.oc_linking.specs.{Numbers.{first_upto, or_else}, FirstFault.{first_broken}, Fits.{bytes_of}, declared.terms.Base.{Base}}
use Rattle.oc_linking.specs.{declared.terms.Base.TheVariants.{Address}, declared.terms.Width.{Width}, declared.terms.Width.TheVariants.{One, Two, Four, Eight}}
use Rattle.oc_neutral.specs.{declared.elf.TheConstants.{SHT_NOBITS}, Rows.{Row, same_base}}
use Rattle.oc_elf.specs.{Sections.{is_type}, declared.class.ElfClass.{ElfClass}, declared.meaning.Meaning.{Meaning}, declared.rel.Rel.{Rel}}
use Rattle.oc_elf.specs.{declared.shdr.Shdr.{Shdr}, Frames.{FileFrame, header_at}, Fields.{is_idle, row_for, width_of}, Meanings.{meaning_of, meant_by}}
use Rattle.oc_elf.specs.RelocRules.{entry_fault, is_nameable, is_target_for, lies_within, meets_upto, own_conditions, rel_conditions, reloc_conditions, reloc_fault, span_of, stored_size, takes_address}
use Rattle.oc_elf.specs.{CarriedSymbols.{home_of, symbol_of}, Entries.{is_local_entry, is_section_symbol}}
use Rattle.oc_elf.specs.Tables.{entry_of, reloc_of, reloc_place, symbol_count}
use Rattle.oc_elf_judge.specs.Known.{AreTaken, can_be_target}
use Rattle.oc_shelf.specs.Reading.Bitmaps.{has, is_between, room}
use Rattle.oc_shelf.proofs.{ReadingLaws.BitmapLemmas.{bytes_more, bytes_same}, ReadingLaws.StageLemmas.{all_hold, first_broken-append}}

-- the entries so far have no fault, and the bytes taken are those of their fields
pub record IsJudging (f : FileFrame) (i k : ℕ) (words : List ℕ) : Type 0 where
  pub clean : first_upto (entry_fault f i) k ≡ None
  pub taken : AreTaken f i k words

-- an entry that says nothing has no fault
pub idle_clean : (f : FileFrame) (i k : ℕ) → is_idle (reloc_of f i k) ≡ true → entry_fault f i k ≡ None
unfolding reloc_conditions
idle_clean f i k idle = ap (λ b. first_broken (cond b [] (rel_conditions f i k (reloc_place f i k) (reloc_of f i k)))) idle

-- what the fault of another is made of
pub busy_fault : (f : FileFrame) (i k : ℕ) → is_idle (reloc_of f i k) ≡ false
    → entry_fault f i k ≡ or_else (first_broken (own_conditions f i (reloc_place f i k) (reloc_of f i k))) (first_broken ((meets_upto f i k (reloc_of f i k), reloc_fault Overlap i (reloc_place f i k)) ∷ []))
unfolding reloc_conditions rel_conditions
busy_fault f i k busy =
    ap (λ b. first_broken (cond b [] (rel_conditions f i k (reloc_place f i k) (reloc_of f i k)))) busy
    ∙ first_broken-append (own_conditions f i (reloc_place f i k) (reloc_of f i k)) ((meets_upto f i k (reloc_of f i k), reloc_fault Overlap i (reloc_place f i k)) ∷ [])

-- an entry that meets its own conditions
pub record IsGood (f : FileFrame) (i : ℕ) (r : Rel) : Type 0 where
  pub row : Row
  pub listed : row_for f r ≡ Some row
  pub stored : is_type SHT_NOBITS (header_at f.headers i) ≡ false
  pub inside : r.r_offset + bytes_of row.width ≤ (header_at f.headers i).sh_size
  pub nameable : is_nameable f r.r_sym ≡ true
  pub target : is_target_for f r ≡ true

pub good_entry : (f : FileFrame) (i place : ℕ) (r : Rel) → first_broken (own_conditions f i place r) ≡ None → IsGood f i r
unfolding own_conditions
good_entry f i place r clean =
    let holds = all_hold (own_conditions f i place r) clean in
    by (row_for f r) refl holds.0 (not-false _ holds.1.0) (not-false _ holds.1.1.0) (not-false _ holds.1.1.1.0)
  where
    by : (o : Option Row) → row_for f r ≡ o → is_none o ≡ false → lies_within f (header_at f.headers i) r ≡ true → is_nameable f r.r_sym ≡ true → is_target_for f r ≡ true → IsGood f i r
    by None e n lies named aimed = absurd (true≢false n)
    by (Some row) e n lies named aimed =
        let parts = and_parts _ _ lies in
        let wide : width_of f r ≡ bytes_of row.width = ap (λ (o : Option Row). option_map_or (λ (x : Row). bytes_of x.width) o 0) e in
        let bits : not (is_type SHT_NOBITS (header_at f.headers i)) ≡ true = parts.0 in
        let low = parts.1 in
        record { row = row; listed = e; stored = filled (is_type SHT_NOBITS (header_at f.headers i)) bits; inside = fits (r.r_offset + width_of f r) (header_at f.headers i).sh_size low wide; nameable = named; target = aimed }
      where
        filled : (b : Bool) → not b ≡ true → b ≡ false
        filled true h = absurd (true≢false (sym h))
        filled false h = refl

        fits : (a size : ℕ) → nat_le (r.r_offset + width_of f r) size ≡ true → width_of f r ≡ bytes_of row.width → r.r_offset + bytes_of row.width ≤ size
        fits a size h w = grind (arith, nat_tests)

-- what the meaning of an entry's type says of its row
pub record IsMeant (f : FileFrame) (r : Rel) (m : Meaning) : Type 0 where
  pub listed : is_none (row_for f r) ≡ false
  pub width : width_of f r ≡ bytes_of m.form.width
  pub address : takes_address f r ≡ same_base m.form.base Address

pub meant : (f : FileFrame) (r : Rel) (m : Meaning) (class : ElfClass) (o : Option Meaning) → class ≡ f.class → o ≡ meaning_of class r.r_type → o ≡ Some m → IsMeant f r m
meant f r m class o same is some = by (row_for f r) refl (ap (λ (w : ElfClass). meaning_of w r.r_type) (sym same) ∙ sym is ∙ some)
  where
    by : (o : Option Row) → row_for f r ≡ o → option_map meant_by o ≡ Some m → IsMeant f r m
    by None is g = absurd (none-some m g)
    by (Some row) is g =
        let e : meant_by row ≡ m = same_Some (meant_by row) m g in
        record {
          listed = ap is_none is;
          width = ap (λ (o : Option Row). option_map_or (λ (x : Row). bytes_of x.width) o 0) is ∙ ap (λ (x : Meaning). bytes_of x.form.width) e;
          address = ap (λ (o : Option Row). option_map_or (λ (x : Row). same_base x.base Address) o false) is ∙ ap (λ (x : Meaning). same_base x.form.base Address) e;
        }

pub not_meant : (f : FileFrame) (r : Rel) (class : ElfClass) (o : Option Meaning) → class ≡ f.class → o ≡ meaning_of class r.r_type → o ≡ None → is_none (row_for f r) ≡ true
not_meant f r class o same is none = by (row_for f r) (ap (λ (w : ElfClass). meaning_of w r.r_type) (sym same) ∙ sym is ∙ none)
  where
    by : (o : Option Row) → option_map meant_by o ≡ None → is_none o ≡ true
    by None g = refl
    by (Some row) g = absurd (none-some (meant_by row) (sym g))

-- the tests of an entry, by what was looked up
pub lies_by : (f : FileFrame) (i : ℕ) (r : Rel) (s : Shdr) (width : ℕ) (b : Bool) → s ≡ header_at f.headers i → width ≡ width_of f r
    → b ≡ (not (is_type SHT_NOBITS s) && nat_le (r.r_offset + width) s.sh_size) → lies_within f (header_at f.headers i) r ≡ b
lies_by f i r s width b same wide is =
    sym (is ∙ ap (λ (w : ℕ). not (is_type SHT_NOBITS s) && nat_le (r.r_offset + w) s.sh_size) wide ∙ ap (λ (x : Shdr). lies_within f x r) same)

pub aimed_by : (f : FileFrame) (r : Rel) (base : Base) (b : Bool) → takes_address f r ≡ same_base base Address → b ≡ can_be_target f r.r_sym base → is_target_for f r ≡ b
unfolding is_target_for
aimed_by f r base b address is =
    sym (is ∙ ap (λ (t : Bool). not (eqb r.r_sym 0) && (not (is_local_entry (entry_of f r.r_sym)) || is_some (home_of f (entry_of f r.r_sym)) && t)) (sym address))

-- the first of its own conditions that an entry breaks, by the four tests
pub own_by : (f : FileFrame) (i place : ℕ) (r : Rel) (a b c d : Bool) → is_none (row_for f r) ≡ a → lies_within f (header_at f.headers i) r ≡ b → is_nameable f r.r_sym ≡ c → is_target_for f r ≡ d
    → first_broken (own_conditions f i place r)
    ≡ cond a (Some (reloc_fault RelocKind i place)) (cond (not b) (Some (reloc_fault BadOffset i place)) (cond (not c) (Some (reloc_fault BadTarget i place)) (cond (not d) (Some (reloc_fault TargetKind i place)) None)))
unfolding own_conditions
own_by f i place r a b c d listed lies named aimed = rw (listed, lies, named, aimed) refl

-- a field has a byte
pub wide_field : (f : FileFrame) (i : ℕ) (r : Rel) → IsGood f i r → 1 ≤ width_of f r
wide_field f i r good = subst (λ (o : Option Row). 1 ≤ option_map_or (λ (x : Row). bytes_of x.width) o 0) (sym good.listed) (by good.row.width)
  where
    by : (w : Width) → 1 ≤ bytes_of w
    by One = omega arith
    by Two = omega arith
    by Four = omega arith
    by Eight = omega arith

-- and ends in its section
pub field_inside : (f : FileFrame) (i : ℕ) (r : Rel) → IsGood f i r → r.r_offset + width_of f r ≤ (header_at f.headers i).sh_size
field_inside f i r good = subst (λ (o : Option Row). r.r_offset + option_map_or (λ (x : Row). bytes_of x.width) o 0 ≤ (header_at f.headers i).sh_size) (sym good.listed) good.inside

-- a symbol that can be named is there
pub nameable_there : (f : FileFrame) (j : ℕ) → is_nameable f j ≡ true → j < symbol_count f
unfolding is_nameable
nameable_there f j is =
    let low : nat_lt j (symbol_count f) ≡ true = (and_parts (nat_lt j (symbol_count f)) (eqb j 0 || is_some (symbol_of f j) || is_section_symbol (entry_of f j)) is).0 in
    grind (arith, nat_tests)

-- where the field meets none before, the entry has no fault but its own
pub met_fault : (f : FileFrame) (i k : ℕ) → is_idle (reloc_of f i k) ≡ false → first_broken (own_conditions f i (reloc_place f i k) (reloc_of f i k)) ≡ None
    → entry_fault f i k ≡ cond (meets_upto f i k (reloc_of f i k)) (Some (reloc_fault Overlap i (reloc_place f i k))) None
met_fault f i k busy own =
    busy_fault f i k busy ∙ ap (λ (o : Option Fault). or_else o (first_broken ((meets_upto f i k (reloc_of f i k), reloc_fault Overlap i (reloc_place f i k)) ∷ []))) own

pub own_stops : (f : FileFrame) (i k : ℕ) (fault : Fault) → is_idle (reloc_of f i k) ≡ false → first_broken (own_conditions f i (reloc_place f i k) (reloc_of f i k)) ≡ Some fault → entry_fault f i k ≡ Some fault
own_stops f i k fault busy own =
    busy_fault f i k busy ∙ ap (λ (o : Option Fault). or_else o (first_broken ((meets_upto f i k (reloc_of f i k), reloc_fault Overlap i (reloc_place f i k)) ∷ []))) own

-- ... the bytes of fields

pub taken_same : (f : FileFrame) (i k : ℕ) (words : List ℕ) → AreTaken f i k words → span_of f i k ≡ None → AreTaken f i (k + 1) words
taken_same f i k words are none = record { fields = bytes_same (span_of f i) k words are.fields none; room = are.room }

pub taken_more : (f : FileFrame) (i k begin end : ℕ) (old new : List ℕ) → AreTaken f i k old → span_of f i k ≡ Some (begin, end) → begin < end → length new ≡ length old
    → ((q : ℕ) → has new q ≡ (is_between begin end q || has old q)) → AreTaken f i (k + 1) new
taken_more f i k begin end old new are is some long taken = record {
  fields = bytes_more (span_of f i) k begin end old new are.fields is some taken;
  room = subst (λ n. stored_size (header_at f.headers i) ≤ 64 * n) (sym long) are.room;
}

-- where it is good, its field ends in the room
pub field_in_room : (f : FileFrame) (i k : ℕ) (words : List ℕ) (r : Rel) → AreTaken f i k words → IsGood f i r → r.r_offset + width_of f r ≤ room words
field_in_room f i k words r are good =
    let inside = field_inside f i r good in
    let size : stored_size (header_at f.headers i) ≡ (header_at f.headers i).sh_size = ap (λ b. cond b 0 (header_at f.headers i).sh_size) good.stored in
    let enough = are.room in
    omega (arith, inside, size, enough)
