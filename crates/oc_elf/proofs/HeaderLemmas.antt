-- What a file has whose header has no fault.
use Rattle.std.proofs.Common.{◌≡◌, ℕ, Bool, sym, ◌+◌, ◌*◌, ◌≤◌, true, false, cond, eqb, List, [], ◌∷◌, length, map, None, refl, arith}
use Rattle.std.specs.{Prelude.{not, ◌&&◌, ◌||◌, nat_lt}, List.{AllByRecursion, range_with_len}}
use Rattle.std.proofs.lemmas.{Bool.{eqb-true, true≢false}, Bool.Decides.{nat_tests}}
use Rattle.oc_base.specs.{declared.format.Word.{Word}, declared.code.Code.TheVariants.{BadHeader, Short}}
use Rattle.oc_elf.specs.{declared.class.ElfClass.{ElfClass}, declared.ehdr.Ehdr.{Ehdr}, declared.shdr.Shdr.{Shdr}, Shdr.{shdr_size}}
use Rattle.oc_elf.specs.{Frames.{headers_of, header_of, header_at, framed, count_by, big_count, shdr_count, names_number}, Classes.{is_big, word_of}}
use Rattle.oc_elf.specs.{Laid.{HasHeader}, Headers.{header_conditions, header_fault, plain_conditions, big_conditions, table_conditions, is_wrongly_extended}}
use Rattle.oc_linking.specs.FirstFault.{Condition, first_broken}
use Rattle.oc_shelf.proofs.ReadingLaws.StageLemmas.{all_hold}

-- a table of a file header that is not extended, by cases on whether there is one
plain_lies : (w : Word) (size : ℕ) (h : Ehdr) → (eqb h.e_shnum 0 && not (eqb h.e_shoff 0) || eqb h.e_shstrndx 65535) ≡ false → AllByRecursion (λ (c : Condition). c.0 ≡ false) (plain_conditions w size h) → h.e_shoff + shdr_size w * h.e_shnum ≤ size
plain_lies w size h plain holds = elim (eqb h.e_shnum 0) as (λ a. eqb h.e_shnum 0 ≡ a → (a && not (eqb h.e_shoff 0) || eqb h.e_shstrndx 65535) ≡ false
    → AllByRecursion (λ (c : Condition). c.0 ≡ false) (cond (not a) ((not (eqb h.e_shentsize (shdr_size w)), header_fault BadHeader 0) ∷ (nat_lt size (h.e_shoff + shdr_size w * h.e_shnum), header_fault Short h.e_shoff) ∷ []) [])
    → h.e_shoff + shdr_size w * h.e_shnum ≤ size) [
      | true ↦ λ e plain holds. let none : h.e_shnum ≡ 0 = eqb-true h.e_shnum 0 e in
          elim (eqb h.e_shoff 0) as (λ b. eqb h.e_shoff 0 ≡ b → (not b || eqb h.e_shstrndx 65535) ≡ false → h.e_shoff + shdr_size w * h.e_shnum ≤ size) [
            | true ↦ λ f plain. let start : h.e_shoff ≡ 0 = eqb-true h.e_shoff 0 f in rw (start, none) (omega arith)
            | false ↦ λ f plain. absurd (true≢false plain)
          ] refl plain
      | false ↦ λ e plain holds. let inside = holds.1.0 in grind (arith, nat_tests)
    ] refl plain holds

-- by the class
table_lies : (w : ElfClass) (size : ℕ) (h : Ehdr) (zero : Shdr) → is_wrongly_extended w h ≡ false → AllByRecursion (λ (c : Condition). c.0 ≡ false) (table_conditions w size h zero) → h.e_shoff + shdr_size (word_of w) * count_by w h zero ≤ size
table_lies w size h zero = by (is_big w)
  where
    by : (b : Bool) → (not b && (eqb h.e_shnum 0 && not (eqb h.e_shoff 0) || eqb h.e_shstrndx 65535)) ≡ false
        → AllByRecursion (λ (c : Condition). c.0 ≡ false) (cond b (big_conditions (word_of w) size h zero) (plain_conditions (word_of w) size h)) → h.e_shoff + shdr_size (word_of w) * cond b (big_count h zero) h.e_shnum ≤ size
    by true plain holds = let inside = holds.1.1.1.0 in grind (arith, nat_tests)
    by false plain holds = plain_lies (word_of w) size h plain holds

first_lies : (w : ElfClass) (size : ℕ) (h : Ehdr) (zero : Shdr) → AllByRecursion (λ (c : Condition). c.0 ≡ false) (table_conditions w size h zero) → is_big w ≡ true → h.e_shoff + shdr_size (word_of w) ≤ size
first_lies w size h zero = by (is_big w)
  where
    by : (b : Bool) → AllByRecursion (λ (c : Condition). c.0 ≡ false) (cond b (big_conditions (word_of w) size h zero) (plain_conditions (word_of w) size h)) → b ≡ true → h.e_shoff + shdr_size (word_of w) ≤ size
    by true holds e = let inside = holds.1.0 in grind (arith, nat_tests)
    by false holds e = absurd (true≢false (sym e))

pub has_header : (w : ElfClass) (size : ℕ) (h : Ehdr) (zero : Shdr) → first_broken (header_conditions w size h zero) ≡ None → HasHeader w size h zero
unfolding header_conditions
has_header w size h zero clean =
    let holds = all_hold (header_conditions w size h zero) clean in
    record {
      there = let e = holds.0 in grind (arith, nat_tests);
      first = first_lies w size h zero holds.1.1.1.1;
      lies = table_lies w size h zero holds.1.1.1.0 holds.1.1.1.1;
    }

-- a file with its section headers, from its parts
pub framed_is : (w : ElfClass) (file : List ℕ) (hs : List Shdr) (names : Shdr) (count number : ℕ) → count ≡ shdr_count w file → number ≡ names_number w file → hs ≡ map (header_of (word_of w) file) (range_with_len 0 count) → names ≡ header_at hs number
    → record { class = w; file = file; headers = hs; names = names } ≡ framed w file
unfolding framed headers_of
framed_is w file hs names count number counted numbered are at = rw (at, are, counted, numbered) refl

pub frame_lies : (w : ElfClass) (file : List ℕ) (hs : List Shdr) (start count : ℕ) → start + shdr_size (word_of w) * count ≤ length file → length hs ≡ count → start + shdr_size (word_of w) * length hs ≤ length file
frame_lies w file hs start count lies long = rw long lies
