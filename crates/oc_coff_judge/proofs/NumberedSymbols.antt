-- No two carried symbols have one number, so each stands where its number says.
use Rattle.oc_coff.specs.{Files.{CoffFile, tables_in}, Tables.{Tables}, Entries.{Entry, entries_in, name_of}, Sections.{sections_in}}
use Rattle.oc_coff.specs.{Symbols.{binding_of, symbol_of, symbol_with, symbols_in}, Head.{IsHeaded}}
use Rattle.std.proofs.Common.{◌≡◌, ℕ, List, length, Option, None, Some, refl, sym, ◌∙◌, ap, arith}
use Rattle.std.specs.{Prelude.{slice_get}, Option.{option_and_then, option_map}}
use Rattle.std.proofs.lemmas.Option.{none-some, same_Some}
use Rattle.oc_linking.specs.declared.terms.Binding.{Binding}
use Rattle.oc_linking.specs.Parts as parts
use Rattle.oc_shows.specs.{Computed.{position_of}, Shows.{AreNumbered}}
use Rattle.oc_shelf.proofs.{ReadingLaws.CollectedLemmas.{IsFrom, collected-from, collected-ordered}, WritingLaws.MemberLemmas.{member_filter_map}}
use Rattle.oc_shelf.proofs.ReadingLaws.NumberedLemmas.{stands_numbered}
use Rattle.oc_coff_judge.specs.Led.{symbol_at}
use Rattle.oc_coff_judge.proofs.{CollectLemmas.{symbols_are}, EntryLemmas.{entries_rise, rise_apart}}

-- what a carried symbol has of its entry
pub record IsCarried (t : Tables) (e : Entry) (s : parts.Symbol) : Type 0 where
  pub binding : Binding
  pub bound : binding_of (sections_in t) (entries_in t) (name_of t.strings e) e ≡ Some binding
  pub is : symbol_with (name_of t.strings e) e binding ≡ s

pub carried_symbol : (t : Tables) (e : Entry) (s : parts.Symbol) → symbol_of t.strings (sections_in t) (entries_in t) e ≡ Some s → IsCarried t e s
unfolding symbol_of
carried_symbol t e s is = by (binding_of (sections_in t) (entries_in t) (name_of t.strings e) e) refl is
  where
    by : (o : Option Binding) → binding_of (sections_in t) (entries_in t) (name_of t.strings e) e ≡ o → option_map (symbol_with (name_of t.strings e) e) o ≡ Some s → IsCarried t e s
    by None g h = absurd (none-some s h)
    by (Some b) g h = record { binding = b; bound = g; is = same_Some (symbol_with (name_of t.strings e) e b) s h }

-- the entry of the symbol at a position of all
pub record IsAt (t : Tables) (k : ℕ) (s : parts.Symbol) : Type 0 where
  pub entry : Entry
  pub there : slice_get (entries_in t) k ≡ Some entry
  pub carried : IsCarried t entry s

pub stands_at : (t : Tables) (k : ℕ) (s : parts.Symbol) → symbol_at t k ≡ Some s → IsAt t k s
unfolding symbol_at
stands_at t k s is = by (slice_get (entries_in t) k) refl is
  where
    by : (o : Option Entry) → slice_get (entries_in t) k ≡ o → option_and_then (symbol_of t.strings (sections_in t) (entries_in t)) o ≡ Some s → IsAt t k s
    by None g h = absurd (none-some s h)
    by (Some e) g h = record { entry = e; there = g; carried = carried_symbol t e s h }

number_of : (t : Tables) (k : ℕ) (s : parts.Symbol) (m : IsAt t k s) → m.entry.number ≡ s.number
number_of t k s m = ap (λ (x : parts.Symbol). x.number) m.carried.is

pub symbols_numbered : (file : CoffFile) → IsHeaded file → AreNumbered (symbols_in (tables_in file))
symbols_numbered file head i j s u less at_i at_j same =
    let t = tables_in file in
    let n = length (entries_in t) in
    let a : IsFrom (symbol_at t) n i s = collected-from (symbol_at t) n i s (sym (ap (λ (xs : List parts.Symbol). slice_get xs i) (symbols_are t)) ∙ at_i) in
    let b : IsFrom (symbol_at t) n j u = collected-from (symbol_at t) n j u (sym (ap (λ (xs : List parts.Symbol). slice_get xs j) (symbols_are t)) ∙ at_j) in
    let before = collected-ordered (symbol_at t) n i j s u a b less in
    let m = stands_at t a.k s a.is in
    let o = stands_at t b.k u b.is in
    let apart = rise_apart 0 (entries_in t) a.k b.k m.entry o.entry (entries_rise file head) before m.there o.there in
    let first = number_of t a.k s m in
    let second = number_of t b.k u o in
    omega (arith, apart, first, second, same)

-- a carried symbol of a file does
pub symbol_stands : (file : CoffFile) → IsHeaded file → (k : ℕ) (e : Entry) (x : parts.Symbol) → slice_get (entries_in (tables_in file)) k ≡ Some e
    → symbol_of (tables_in file).strings (sections_in (tables_in file)) (entries_in (tables_in file)) e ≡ Some x
    → slice_get (symbols_in (tables_in file)) (position_of (symbols_in (tables_in file)) x.number) ≡ Some x
unfolding symbols_in
symbol_stands file head k e x there is =
    let t = tables_in file in
    let m = member_filter_map (symbol_of t.strings (sections_in t) (entries_in t)) (entries_in t) k e x there is in
    stands_numbered (symbols_in t) (symbols_numbered file head) m.0 x m.1
