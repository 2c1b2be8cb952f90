-- What is built of a file before its relocations is what the file starts with.
use Rattle.oc_shelf.specs.Reading.Collected.{collected}
use Rattle.oc_coff.specs.{Tables.{tables_of, SectionTable, Tables}, declared.form.Shape.{Shape}, Files.{CoffFile, tables_in}, Entries.{entries_in}}
use Rattle.oc_coff.specs.{Forms.{format_by}, Rules.{dialect_by}, Sections.{Carried, carried_of, is_stored, kind_in, section_of, sections_in}}
use Rattle.oc_coff.specs.{Symbols.{symbols_in}, Head.{IsHeaded}}
use Rattle.std.proofs.Common.{◌≡◌, ℕ, ◌+◌, Bool, true, false, cond, List, [], length, map, replicate, Option, None, Some, refl, sym, ◌∙◌, ap, subst, arith}
use Rattle.std.specs.{Prelude.{not, ◌&&◌, nat_eq, is_some, slice_get}, Option.{option_and_then, option_map}}
use Rattle.std.proofs.lemmas.{Bool.{true≢false}, Option.{none-some, same_Some}}
use Rattle.oc_base.specs.{declared.format.Word.{Word}, Formats.{word_for}}
use Rattle.oc_linking.specs.{declared.terms.Binding.TheVariants.{Weak}, declared.terms.Keep.{Keep}, declared.terms.Kind.{Kind}}
use Rattle.oc_linking.specs.{declared.terms.Kind.TheVariants.{Code, ReadOnly, Data, Zero, Init, Fini, Debug, Exception, Note}, Values.{numbered}}
use Rattle.oc_linking.specs.declared.terms.Fallback.TheVariants as fallback
use Rattle.oc_linking.specs.Parts as parts
use Rattle.oc_neutral.specs.{Building.{Draft, is_zero}, Invariants.{IsDraft}}
use Rattle.oc_shows.specs.{Built.{HasAdded, IsStarted}, Computed.{computed_symbol, keys_after}, Shows.{Shows}}
use Rattle.oc_shows.specs.Started.{AreShowable, groups_by, plain_draft, start_of, stored_section}
use Rattle.oc_shows.proofs.{BuiltLaws.{built_shows}, StartedLaws.{start_is_started}}
use Rattle.oc_shelf.proofs.ReadingLaws.CollectedLemmas.{IsFrom, collected-from}
use Rattle.oc_coff_judge.specs.Led.{carried_at, section_at, symbol_at}
use Rattle.oc_coff_read.specs.{Built.{keys_of, symboled}, Given.{given_at}}
use Rattle.oc_coff_judge.proofs.{CollectLemmas.{sections_are, symbols_are}, NumberedSymbols.{symbols_numbered}}
use Rattle.oc_coff_read.proofs.GivenFields.{free_or_given}

-- a section of zeros holds zeros
zeros_by : (t : Tables) (k : ℕ) (x : SectionTable) (kind : Kind) → is_zero kind ≡ true → (section_of t k x kind).contents ≡ replicate (section_of t k x kind).size 0
zeros_by t k x Zero is = ap (λ b. cond b x.raw (replicate x.header.SizeOfRawData 0)) (never (not (nat_eq x.header.PointerToRawData 0)))
  where
    never : (b : Bool) → (b && false) ≡ false
    never b = grind arith
zeros_by t k x Code is = absurd (true≢false (sym is))
zeros_by t k x ReadOnly is = absurd (true≢false (sym is))
zeros_by t k x Data is = absurd (true≢false (sym is))
zeros_by t k x Init is = absurd (true≢false (sym is))
zeros_by t k x Fini is = absurd (true≢false (sym is))
zeros_by t k x Debug is = absurd (true≢false (sym is))
zeros_by t k x Exception is = absurd (true≢false (sym is))
zeros_by t k x Note is = absurd (true≢false (sym is))

zeros_at : (t : Tables) (i : ℕ) (s : parts.Section) → section_at t i ≡ Some s → is_zero s.kind ≡ true → s.contents ≡ replicate s.size 0
unfolding carried_at carried_of
zeros_at t i s is = by (slice_get t.sections i) is
  where
    by : (o : Option SectionTable) → option_map (λ (c : Carried). c.section) (option_and_then (λ (x : SectionTable). carried_of t (i + 1, x)) o) ≡ Some s → is_zero s.kind ≡ true → s.contents ≡ replicate s.size 0
    by None e = absurd (none-some s e)
    by (Some x) e = kind (kind_in t.strings x.header) e
      where
        kind : (k : Option Kind)
            → option_map (λ (c : Carried). c.section) (option_map (λ kind. record { section = section_of t (i + 1) x kind; stored = is_stored (Some kind) x.header; relocs_at = x.relocs_at; relocs = x.relocs }) k) ≡ Some s
            → is_zero s.kind ≡ true → s.contents ≡ replicate s.size 0
        kind None e = absurd (none-some s e)
        kind (Some k) e = subst (λ (y : parts.Section). is_zero y.kind ≡ true → y.contents ≡ replicate y.size 0) (same_Some (section_of t (i + 1) x k) s e) (zeros_by t (i + 1) x k)

zeros_in : (t : Tables) (k : ℕ) (s : parts.Section) → slice_get (sections_in t) k ≡ Some s → is_zero s.kind ≡ true → s.contents ≡ replicate s.size 0
zeros_in t k s there = by (collected-from (section_at t) (length t.sections) k s (sym (ap (λ (xs : List parts.Section). slice_get xs k) (sections_are t)) ∙ there))
  where
    by : IsFrom (section_at t) (length t.sections) k s → is_zero s.kind ≡ true → s.contents ≡ replicate s.size 0
    by m = zeros_at t m.k s m.is

word_is : (w : Word) (z : Shape) → w ≡ word_for (format_by w z)
word_is w z = grind arith

-- each default that is named is there
abbrev pub AreNamed : Tables → Type 0
AreNamed t = (k number : ℕ) (s : parts.Symbol) → slice_get (symbols_in t) k ≡ Some s → s.binding ≡ Weak (fallback.Name number) → is_some (numbered (symbols_in t) number) ≡ true

pub shape_is : (b : CoffFile) → (tables_in b).shape ≡ b.shape
unfolding tables_of
shape_is b = refl

module _ (w : Word) (b : CoffFile) (head : IsHeaded b) (keep : Keep) where
  -- what is built before the relocations is what the file starts with
  pub start_is : start_of (dialect_by w b.shape) b.bytes keep ≡ symboled w (tables_in b) (length (entries_in (tables_in b)))
  start_is =
      ap
      (λ (xs : List parts.Section). plain_draft (format_by w b.shape) (groups_by (keys_after [] (map (λ (s : parts.Section). s.group) xs)))
      (map (stored_section (keys_after [] (map (λ (s : parts.Section). s.group) xs))) (sections_in (tables_in b))) (map (computed_symbol (symbols_in (tables_in b))) (symbols_in (tables_in b))))
      (sections_are (tables_in b))
      ∙ ap (λ (ys : List parts.Symbol). plain_draft (format_by w b.shape) (groups_by (keys_of (tables_in b))) (map (stored_section (keys_of (tables_in b))) (sections_in (tables_in b))) (map (computed_symbol (symbols_in (tables_in b))) ys))
      (symbols_are (tables_in b))
      ∙ ap (λ z. plain_draft (format_by w z) (groups_by (keys_of (tables_in b))) (map (stored_section (keys_of (tables_in b))) (sections_in (tables_in b)))
      (map (computed_symbol (symbols_in (tables_in b))) (collected (symbol_at (tables_in b)) (length (entries_in (tables_in b)))))) (sym (shape_is b))

  module _ (named : AreNamed (tables_in b)) where
    showable : AreShowable (dialect_by w b.shape) b.bytes keep
    showable = record { word = word_is w b.shape; zeros = zeros_in (tables_in b); names = named; numbered = symbols_numbered b head }

    pub is_started : IsDraft (symboled w (tables_in b) (length (entries_in (tables_in b)))) → IsStarted (dialect_by w b.shape) b.bytes keep (symboled w (tables_in b) (length (entries_in (tables_in b))))
    is_started draft =
        subst (IsStarted (dialect_by w b.shape) b.bytes keep) start_is
        (start_is_started (dialect_by w b.shape) b.bytes keep showable (subst IsDraft (sym start_is) draft))

  -- what is built of it, with the relocations of its entries, shows the file
  pub built_is_shown : (d : Draft) → IsStarted (dialect_by w b.shape) b.bytes keep (symboled w (tables_in b) (length (entries_in (tables_in b))))
      → HasAdded (symboled w (tables_in b) (length (entries_in (tables_in b)))) d (given_at w (tables_in b) keep) → Shows (dialect_by w b.shape) b.bytes keep d.object
  built_is_shown d started has =
      built_shows (dialect_by w b.shape) b.bytes keep (symboled w (tables_in b) (length (entries_in (tables_in b)))) d (given_at w (tables_in b) keep) started has
      (free_or_given w b head keep (symboled w (tables_in b) (length (entries_in (tables_in b)))).object started.symbols)
