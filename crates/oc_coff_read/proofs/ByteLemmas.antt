-- Numbers and names that are read from bytes.
use Rattle.oc_coff.specs.{declared.form.Shape.{Shape}, declared.form.Shape.TheVariants.{Usual, Big}, SymbolEntry.{signed_number, symbol_at}}
use Rattle.oc_coff.specs.{Files.{CoffFile, tables_in}, Forms.{header_size}, declared.symbol.SymbolEntry.{SymbolEntry}, FileHeader.{file_header_of}}
use Rattle.oc_coff.specs.{Names.{string_at, symbol_name}, SectionHeader.{section_header_at}}
use Rattle.oc_coff.specs.{Tables.{SectionTable, has_strings, section_table, slot_at, strings_of, strings_place, strings_size, tables_of}, Entries.{name_of}}
use Rattle.std.proofs.Common.{◌≡◌, ℕ, ◌+◌, ◌*◌, ◌<◌, ◌^◌, Bool, true, false, cond, List, [], drop, take, Option, None, Some, refl, sym, ◌∙◌, subst, arith}
use Rattle.std.specs.{Prelude.{nat_eq, nat_le, nat_lt, slice_get}, List.{AllByRecursion, before_first, position_or_len}, Option.{unwrap_or}}
use Rattle.std.proofs.lemmas.Option.{same_Some, slice_get_within}
use Rattle.oc_base.specs.Numbers.{number_at}
use Rattle.oc_neutral.specs.Invariants.{AreBytes}
use Rattle.oc_shelf.specs.Reading.Texts.{text_at}
use Rattle.oc_coff_judge.specs.Numbered.{entry_by, entry_place}
use Rattle.oc_coff.proofs.HeadLemmas.{section_there}
use Rattle.oc_shelf.proofs.ReadingLaws.ByteLemmas.{all_drop, all_take, all_text, number_small}

-- ... numbers

-- the numbers of a symbol are small
pub record IsSmall (s : SymbolEntry) : Type 0 where
  pub value : s.Value < 4294967296
  pub section : s.SectionNumber < 4294967296

-- a section number of 16 bits with its sign has 32 bits
signed_small : (n : ℕ) → n < 65536 → signed_number n < 4294967296
signed_small n low = by (nat_lt n 65280)
  where
    by : (b : Bool) → cond b n (n + 0xFFFF0000) < 4294967296
    by b = grind arith

symbol_small : (z : Shape) (file : List ℕ) → AreBytes file → (at : ℕ) → IsSmall (symbol_at z file at)
unfolding symbol_at
symbol_small Usual file bytes at = record { value = number_small file bytes (at + 8) 4; section = signed_small (number_at file (at + 12) 2) (number_small file bytes (at + 12) 2) }
symbol_small Big file bytes at = record { value = number_small file bytes (at + 8) 4; section = number_small file bytes (at + 12) 4 }

pub entry_small : (file : CoffFile) → AreBytes file.bytes → (j : ℕ) → IsSmall (entry_by file j).symbol
unfolding entry_by slot_at
entry_small file bytes j = symbol_small file.shape file.bytes bytes (entry_place file j)

-- ... names

all_before : (P : ℕ → Type 0) (xs : List ℕ) → AllByRecursion P xs → AllByRecursion P (before_first (λ c. nat_eq c 0) xs)
all_before P xs all = all_take P (position_or_len (λ c. nat_eq c 0) xs) xs all

string_bytes : (strings : List ℕ) (offset : ℕ) → AreBytes strings → AreBytes (unwrap_or (string_at strings offset) [])
unfolding string_at
string_bytes strings offset bytes = by (nat_le 4 offset) (text_at strings offset) refl
  where
    by : (b : Bool) (o : Option (List ℕ)) → text_at strings offset ≡ o → AreBytes (unwrap_or (cond b o None) [])
    by false o e = tt
    by true None e = tt
    by true (Some text) e = all_text (λ x. x < 2 ^ 8) (drop offset strings) text (all_drop (λ x. x < 2 ^ 8) offset strings bytes) e

name_bytes : (strings field : List ℕ) → AreBytes strings → AreBytes field → AreBytes (unwrap_or (symbol_name strings field) [])
unfolding symbol_name
name_bytes strings field table bytes = by (nat_eq (number_at field 0 4) 0) (nat_eq (number_at field 4 4) 0)
  where
    by : (a b : Bool) → AreBytes (unwrap_or (cond a (cond b (Some []) (string_at strings (number_at field 4 4))) (Some (before_first (λ c. nat_eq c 0) field))) [])
    by true true = tt
    by true false = string_bytes strings (number_at field 4 4) table
    by false b = all_before (λ x. x < 2 ^ 8) field bytes

strings_bytes : (file : CoffFile) → AreBytes file.bytes → AreBytes (tables_in file).strings
unfolding tables_of strings_of
strings_bytes file bytes = by (has_strings file.shape file.bytes (file_header_of file.shape file.bytes))
  where
    by : (b : Bool) → AreBytes (cond b (take (strings_size file.shape file.bytes (file_header_of file.shape file.bytes)) (drop (strings_place file.shape (file_header_of file.shape file.bytes)) file.bytes)) [])
    by true = all_take (λ x. x < 2 ^ 8) (strings_size file.shape file.bytes (file_header_of file.shape file.bytes)) (drop (strings_place file.shape (file_header_of file.shape file.bytes)) file.bytes) (all_drop (λ x. x < 2 ^ 8) (strings_place file.shape (file_header_of file.shape file.bytes)) file.bytes bytes)
    by false = tt

field_bytes : (file : CoffFile) → AreBytes file.bytes → (j : ℕ) → AreBytes (entry_by file j).symbol.Name
unfolding entry_by slot_at symbol_at
field_bytes file bytes j = by file.shape
  where
    by : (z : Shape) → AreBytes (symbol_at z file.bytes (entry_place file j)).Name
    by Usual = all_take (λ x. x < 2 ^ 8) 8 (drop (entry_place file j) file.bytes) (all_drop (λ x. x < 2 ^ 8) (entry_place file j) file.bytes bytes)
    by Big = all_take (λ x. x < 2 ^ 8) 8 (drop (entry_place file j) file.bytes) (all_drop (λ x. x < 2 ^ 8) (entry_place file j) file.bytes bytes)

pub entry_name_bytes : (file : CoffFile) → AreBytes file.bytes → (j : ℕ) → AreBytes (name_of (tables_in file).strings (entry_by file j))
entry_name_bytes file bytes j = name_bytes (tables_in file).strings (entry_by file j).symbol.Name (strings_bytes file bytes) (field_bytes file bytes j)

-- ... flags

flags_small : (file : CoffFile) → AreBytes file.bytes → (at : ℕ) → (section_header_at file.bytes at).Characteristics < 4294967296
unfolding section_header_at
flags_small file bytes at = number_small file.bytes bytes (at + 36) 4

pub header_small : (file : CoffFile) → AreBytes file.bytes → (i : ℕ) (x : SectionTable) → slice_get (tables_in file).sections i ≡ Some x → x.header.Characteristics < 4294967296
unfolding section_table
header_small file bytes i x here =
    let low = slice_get_within (tables_in file).sections i x here in
    subst (λ (y : SectionTable). y.header.Characteristics < 4294967296) (same_Some (section_table file.bytes (section_header_at file.bytes (header_size file.shape + 40 * i))) x (sym (section_there file i low) ∙ here)) (flags_small file bytes (header_size file.shape + 40 * i))
