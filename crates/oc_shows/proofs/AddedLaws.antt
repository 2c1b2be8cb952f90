-- The relocations of a file without faults, added entry by entry.
use Rattle.std.proofs.Common.{◌≡◌, ℕ, ◌+◌, ◌<◌, ◌≤◌, Bool, true, false, cond, List, length, take, get_or, Option, None, Some, Ok, refl, sym, ◌∙◌, ap, arith, inl, inr}
use Rattle.std.specs.Prelude.{◌&&◌, ◌||◌, nat_eq, nat_lt}
use Rattle.std.proofs.Math.Seq.{take-length}
use Rattle.std.proofs.lemmas.{Bool.{cases_eq, eq-eqb, eqb-true, ne_eqb, true≢false}, Bool.Decides.{nat_tests}, List.Folds.{list_any_more}}
use Rattle.oc_linking.specs.{declared.terms.Keep.{Keep}, Rules.{Field}}
use Rattle.oc_neutral.specs.{declared.reloc.Reloc.{Reloc}, Building.{Draft, reloc_added}, Dialects.{Dialect, kept_fields}, Invariants.{CanAdd}}
use Rattle.oc_shows.specs.Built.{AreApart, AreOfFile, DifferencesFit, RelocMap, HasAdded, IsField, IsStarted, and_one}
use Rattle.oc_shows.proofs.{BuiltSteps.{added_more, added_same, can_still}, CleanLaws.{clean_is_added}}
use Rattle.oc_shelf.specs.{declared.reading.order.PlacedEntry.{PlacedEntry}, Reading.Order.{is_among}}

-- what is given for some places alone
abbrev pub given_where : RelocMap → (ℕ → ℕ → Bool) → RelocMap
given_where given done s at = cond (done s at) (given s at) None

one_more : (given : RelocMap) (done more : ℕ → ℕ → Bool) (s at : ℕ) (r : Reloc) → given s at ≡ Some r → ((t x : ℕ) → more t x ≡ (done t x || nat_eq t s && nat_eq at x))
    → (t x : ℕ) → and_one (given_where given done) s at r t x ≡ given_where given more t x
one_more given done more s at r is grown t x = by (nat_eq t s) (nat_eq at x) refl refl ∙ ap (λ b. cond b (given t x) None) (sym (grown t x))
  where
    by : (a b : Bool) → nat_eq t s ≡ a → nat_eq at x ≡ b → cond (a && b) (Some r) (cond (done t x) (given t x) None) ≡ cond (done t x || a && b) (given t x) None
    by true true e g =
        let here : given t x ≡ Some r = ap (λ (i : ℕ). given i x) (eqb-true t s e) ∙ ap (λ (i : ℕ). given s i) (sym (eqb-true at x g)) ∙ is in
        of (done t x) here
      where
        of : (d : Bool) → given t x ≡ Some r → Some r ≡ cond (d || true) (given t x) None
        of d here = grind arith
    by true false e g = of (done t x)
      where
        of : (d : Bool) → cond d (given t x) None ≡ cond (d || false) (given t x) None
        of d = grind arith
    by false b e g = of (done t x)
      where
        of : (d : Bool) → cond d (given t x) None ≡ cond (d || false) (given t x) None
        of d = grind arith

-- each relocation that is given for a file can be added to what was built of it
pub record AreAddable (base : Draft) (given : RelocMap) : Type 0 where
  pub dialect : Dialect
  pub file : List ℕ
  pub keep : Keep
  pub start : IsStarted dialect file keep base
  pub apart : AreApart dialect file keep
  pub fit : DifferencesFit dialect file keep
  pub of_file : AreOfFile dialect file keep base.object given
  pub can : (s at : ℕ) (r : Reloc) → given s at ≡ Some r → CanAdd base.object s at r

-- a relocation is added, and then these are
pub record IsTaken (base d : Draft) (s at : ℕ) (r : Reloc) (given : RelocMap) : Type 0 where
  pub can : CanAdd d.object s at r
  pub next : Draft
  pub ok : reloc_added d s at r ≡ Ok next
  pub added : HasAdded base next given

-- it is, at a place where none is yet
pub taken : (base : Draft) (given : RelocMap) → AreAddable base given → (done more : ℕ → ℕ → Bool) (d : Draft) (s at : ℕ) (r : Reloc) → given s at ≡ Some r → HasAdded base d (given_where given done) → done s at ≡ false
    → ((t x : ℕ) → more t x ≡ (done t x || nat_eq t s && nat_eq at x)) → IsTaken base d s at r (given_where given more)
taken base given a done more d s at r is has new grown = record {
  can = can;
  next = step.0;
  ok = step.1;
  added = added_same base step.0 (and_one (given_where given done) s at r) (given_where given more) (added_more base d step.0 (given_where given done) s at r has can step.1) (one_more given done more s at r is grown);
}
  where
    can : CanAdd d.object s at r
    can = can_still base d (given_where given done) a.start.draft a.start.relocs a.start.folded has s at r (a.can s at r is)

    part : AreOfFile a.dialect a.file a.keep base.object (given_where given done)
    part t x q e = by (done t x) e
      where
        by : (b : Bool) → cond b (given t x) None ≡ Some q → (y : Field) × (kept_fields a.dialect a.file a.keep t x ≡ Some y) × IsField a.dialect a.file a.keep base.object t x q y
        by b e = grind arith

    field : (x : Field) × (kept_fields a.dialect a.file a.keep s at ≡ Some x) × IsField a.dialect a.file a.keep base.object s at r x
    field = a.of_file s at r is

    step : (e : Draft) × (reloc_added d s at r ≡ Ok e)
    step = clean_is_added a.dialect a.file a.keep base d (given_where given done) a.start a.apart a.fit has part s at r field.0 field.1 field.2 (ap (λ b. cond b (given s at) None) new)

-- ... a table whose entries are added in the order of their places

-- places in the sections before, and those of the first j entries of the section at position p
abbrev pub done_upto : (ℕ → Bool) → ℕ → List PlacedEntry → ℕ → ℕ → ℕ → Bool
done_upto before p entries j s at = before s || nat_eq s p && is_among (take j entries) at

-- entry j is added, where none before it is at its place
pub entry_taken : (base : Draft) (given : RelocMap) → AreAddable base given → (before : ℕ → Bool) (p : ℕ) → before p ≡ false
    → (entries : List PlacedEntry) (j : ℕ) (e : PlacedEntry) → j < length entries → is_among (take j entries) (get_or entries j e).place ≡ false
    → (d : Draft) → HasAdded base d (given_where given (done_upto before p entries j)) → (at : ℕ) → at ≡ (get_or entries j e).place → (r : Reloc) → given p at ≡ Some r
    → IsTaken base d p at r (given_where given (done_upto before p entries (j + 1)))
entry_taken base given a before p none entries j e below free d has at place r is =
    taken base given a (done_upto before p entries j) (done_upto before p entries (j + 1)) d p at r is has
    (new (before p) (nat_eq p p) (is_among (take j entries) at) none (ap (is_among (take j entries)) place ∙ free)) grown
  where
    new : (a b c : Bool) → a ≡ false → c ≡ false → (a || b && c) ≡ false
    new a b c e g = grind arith

    grown : (s x : ℕ) → done_upto before p entries (j + 1) s x ≡ (done_upto before p entries j s x || nat_eq s p && nat_eq at x)
    grown s x =
        ap (λ b. before s || nat_eq s p && b) (list_any_more (λ (y : PlacedEntry). nat_eq y.place x) entries j e below)
        ∙ by (before s) (nat_eq s p) (is_among (take j entries) x) (nat_eq (get_or entries j e).place x)
        ∙ ap (λ (q : ℕ). done_upto before p entries j s x || nat_eq s p && nat_eq q x) (sym place)
      where
        by : (a b c f : Bool) → (a || b && (c || f)) ≡ (a || b && c || b && f)
        by a b c f = grind arith

module _ (given : RelocMap) (before after : ℕ → Bool) (p : ℕ) (alike : (s : ℕ) → (s ≡ p → ⊥) → after s ≡ before s) where
  -- a section for which nothing is given is passed
  pub given_passed : ((at : ℕ) → given p at ≡ None) → (s at : ℕ) → cond (before s) (given s at) None ≡ cond (after s) (given s at) None
  given_passed none s at = elim (cases_eq s p) [
    | inl same ↦ both (before s) (after s) (ap (λ (q : ℕ). given q at) same ∙ none at)
    | inr other ↦ ap (λ b. cond b (given s at) None) (sym (alike s other))
  ]
    where
      both : (a b : Bool) → given s at ≡ None → cond a (given s at) None ≡ cond b (given s at) None
      both a b e = grind arith

  -- with all entries the section is done
  pub table_done : after p ≡ true → (entries : List PlacedEntry) → ((at : ℕ) (r : Reloc) → given p at ≡ Some r → is_among entries at ≡ true)
      → (s at : ℕ) → cond (done_upto before p entries (length entries) s at) (given s at) None ≡ cond (after s) (given s at) None
  table_done done entries among s at = elim (cases_eq s p) [
    | inl same ↦ here same (before s) (after s) (ap after same ∙ done) (nat_eq s p) (eq-eqb s p same) (is_among (take (length entries) entries) at) refl
    | inr other ↦ there (before s) (after s) (nat_eq s p) (ne_eqb s p other) (alike s other)
  ]
    where
      there : (a b q : Bool) → q ≡ false → b ≡ a → cond (a || q && is_among (take (length entries) entries) at) (given s at) None ≡ cond b (given s at) None
      there a b q h k = grind arith

      none_left : s ≡ p → is_among (take (length entries) entries) at ≡ false → (o : Option Reloc) → given s at ≡ o → None ≡ o
      none_left same free None e = refl
      none_left same free (Some r) e =
          absurd (true≢false (sym (among at r (ap (λ (q : ℕ). given q at) (sym same) ∙ e)) ∙ ap (λ (es : List PlacedEntry). is_among es at) (sym (take-length entries)) ∙ free))

      here : s ≡ p → (a b : Bool) → b ≡ true → (q : Bool) → q ≡ true → (c : Bool) → is_among (take (length entries) entries) at ≡ c → cond (a || q && c) (given s at) None ≡ cond b (given s at) None
      here same true true h true k c g = refl
      here same false true h true k true g = refl
      here same false true h true k false g = none_left same g (given s at) refl
      here same a false h q k c g = absurd (true≢false (sym h))
      here same a b h false k c g = absurd (true≢false (sym k))

-- ... sections in order

pub lt_self : (p : ℕ) → nat_lt p p ≡ false
lt_self p = grind (arith, nat_tests)

pub lt_next : (p : ℕ) → nat_lt p (p + 1) ≡ true
lt_next p = grind (arith, nat_tests)

pub lt_stays : (s p : ℕ) → (s ≡ p → ⊥) → nat_lt s (p + 1) ≡ nat_lt s p
lt_stays s p other = by (nat_lt s p) refl
  where
    by : (b : Bool) → nat_lt s p ≡ b → nat_lt s (p + 1) ≡ b
    by b e = grind arith

-- for all sections all is given
pub given_all : (given : RelocMap) (p : ℕ) → ((s at : ℕ) → p ≤ s → given s at ≡ None) → (s at : ℕ) → cond (nat_lt s p) (given s at) None ≡ given s at
given_all given p none s at = by (nat_lt s p) refl
  where
    past : nat_lt s p ≡ false → p ≤ s
    past e = grind (arith, nat_tests)

    by : (b : Bool) → nat_lt s p ≡ b → cond b (given s at) None ≡ given s at
    by b e = grind arith
