-- What sections, symbols and relocations make of small objects, and that these can be finished.
use Rattle.std.proofs.Common.{◌≡◌, ℕ, zero, suc, ◌^◌, ◌<◌, ◌≤◌, Bool, true, false, cond, List, [], ◌∷◌, ◌++◌, length, Option, Some, None, Result, Ok, Err, OnOk, OnErr, refl, sym, ◌∙◌, ap, subst, arith}
use Rattle.std.specs.{Prelude.{slice_get}, List.{AllByRecursion}}
use Rattle.std.proofs.lemmas.{List.{get_or_past}, Option.{none-some}}
use Rattle.oc_base.specs.{declared.format.Format.{Format}, declared.format.Word.{Word}, declared.format.Word.TheVariants.{W32, W64}, Formats.{word_for}}
use Rattle.oc_linking.specs.{declared.terms.Binding.{Binding}, declared.terms.Binding.TheVariants.{Local, Global, Undefined, Common, Weak}}
use Rattle.oc_linking.specs.{declared.terms.Fallback.{Fallback}, declared.terms.Value.{Value}, Fits.{bytes_of}, Numbers.{modulus}}
use Rattle.oc_linking.specs.declared.terms.Fallback.TheVariants as fallback
use Rattle.oc_linking.specs.declared.terms.Value.TheVariants as value
use Rattle.oc_chains.specs.{declared.field.Field.{Field}, Fields.{field}, Lists.{Lists, list_of}}
use Rattle.oc_neutral.specs.{declared.fault.BuildFault.{BuildFault}, declared.section.Section.{Section}, declared.symbol.Symbol.{Symbol}}
use Rattle.oc_neutral.specs.{declared.reloc.Reloc.{Reloc}, declared.reloc.Target.{Target}}
use Rattle.oc_neutral.specs.Building.{Draft, empty_draft, limit_passed, numbered_in, reloc_added, section_added, section_by, symbol_added, with_number}
use Rattle.oc_neutral.specs.Invariants.{AreBegun, HasOffset, HaveKeys, IsAlign, IsBinding, IsBuilt, IsComplete, IsDraft, IsFallback, IsHeld, IsHinted, IsSymbol, IsThere, IsValue, NamesOriginal, groups_of, is_strong}
use Rattle.oc_neutral.specs.Objects.{Object}
use Rattle.oc_neutral.specs.declared.fault.BuildFault.TheVariants as build
use Rattle.oc_neutral.specs.declared.reloc.Target.TheVariants as target
use Rattle.oc_neutral.proofs.{DraftAdded.{IsOne, kept, constant, one}, MoreRelocs.{all_placed, by_list}, MoreSections.{sectioned}, MoreSymbols.{symboled}}
use Rattle.oc_neutral.proofs.{NormalLemmas.{kept_hinted}, Positions.{each_weaker}}
use Rattle.tests_object.specs.Small.{FallsBack, IsAlone, IsBare, IsCalling, IsNear, IsPlain, IsSmall, IsStrongFirst, Speaks}

-- ... what is added

-- a section that was added
section_got : (d e : Draft) (x : Section) → section_added d x ≡ Ok e → e ≡ sectioned d x
unfolding section_added
section_got d e x added = by (limit_passed d.object.sections x) added
  where
    by : (o : Option BuildFault) → section_by d x o ≡ Ok e → e ≡ sectioned d x
    by None added = cc added
    by (Some f) added = absurd (cc added)

-- a symbol that was added
symbol_got : (d e : Draft) (y : Symbol) → symbol_added d y ≡ Ok e → e ≡ symboled d y
unfolding symbol_added
symbol_got d e y added = by _ added
  where
    by : (b : Bool) → cond b (Err build.DuplicateName) (Ok (symboled d y)) ≡ Ok e → e ≡ symboled d y
    by true added = absurd (cc added)
    by false added = cc added

-- no section has a field
abbrev none_held : Lists Reloc
none_held = [] ∷ []

none_at : (s : ℕ) → list_of none_held s ≡ []
none_at zero = refl
none_at (suc s) = refl

-- a section makes the object
pub begun_bare : (format : Format) (start d : Draft) (x : Section) → start ≡ empty_draft format → section_added start x ≡ Ok d → IsAlone x → IsBare false d.object
begun_bare format start d x begun added alone = subst (λ (z : Draft). IsBare false z.object) (sym (section_got start d x added ∙ ap (λ z. sectioned z x) begun)) (record {
  small = record { groups = refl; section = x; only = refl; alone = alone; symbols = tt; first = λ e. absurd (cc e) };
  bare = refl;
})

-- which is in the format, and has this section alone
pub begun_is : (format : Format) (start d : Draft) (x : Section) → start ≡ empty_draft format → section_added start x ≡ Ok d → d.object ≡ (sectioned (empty_draft format) x).object
begun_is format start d x begun added = ap (λ (d : Draft). d.object) (section_got start d x added ∙ ap (λ d. sectioned d x) begun)

-- ... symbols

-- what speaks of no strong symbol is as good with one
any_speaks : (strong : Bool) (b : Binding) → Speaks false b → Speaks strong b
any_speaks strong (Local v) speaks = speaks
any_speaks strong (Global v) speaks = speaks
any_speaks strong Undefined speaks = tt
any_speaks strong (Common size align) speaks = speaks
any_speaks strong (Weak (fallback.Place k offset)) speaks = speaks
any_speaks strong (Weak fallback.Zero) speaks = tt
any_speaks strong (Weak (fallback.Name k)) speaks = absurd (cc (speaks.1))

any_plain : (strong : Bool) (y : Symbol) → IsPlain false y → IsPlain strong y
any_plain strong y plain = record { named = plain.named; name = plain.name; binding = any_speaks strong y.binding plain.binding; size = plain.size; number = plain.number }

-- one more
all_more : {X : Type 0} (P : X → Type 0) (xs : List X) (x : X) → AllByRecursion P xs → P x → AllByRecursion P (xs ++ x ∷ [])
all_more P [] x all is = (is, tt)
all_more P (y ∷ ys) x all is = (all.0, all_more P ys x all.1 is)

-- the first stays
first_more : (symbols : List Symbol) (y : Symbol) → IsStrongFirst symbols → IsStrongFirst (symbols ++ y ∷ [])
first_more [] y first = absurd (none-some first.0 first.1)
first_more (s ∷ symbols) y first = first

-- a symbol more
pub symbol_bare : (strong : Bool) (d e : Draft) (y : Symbol) → IsBare strong d.object → symbol_added d y ≡ Ok e → IsPlain strong y → IsBare strong e.object
symbol_bare strong d e y bare added plain = subst (λ (z : Draft). IsBare strong z.object) (sym (symbol_got d e y added)) (record {
  small = record {
    groups = bare.small.groups;
    section = bare.small.section;
    only = bare.small.only;
    alone = bare.small.alone;
    symbols = all_more (IsPlain strong) d.object.symbols y bare.small.symbols plain;
    first = λ is. first_more d.object.symbols y (bare.small.first is);
  };
  bare = bare.bare;
})

-- the first symbol
pub first_bare : (d e : Draft) (y : Symbol) → IsBare false d.object → d.object.symbols ≡ [] → symbol_added d y ≡ Ok e → IsPlain false y → IsBare (is_strong y.binding) e.object
first_bare d e y bare none added plain = subst (λ (z : Draft). IsBare (is_strong y.binding) z.object) (sym (symbol_got d e y added)) (record {
  small = record {
    groups = bare.small.groups;
    section = bare.small.section;
    only = bare.small.only;
    alone = bare.small.alone;
    symbols = subst (λ symbols. AllByRecursion (IsPlain (is_strong y.binding)) (symbols ++ y ∷ [])) (sym none) (any_plain (is_strong y.binding) y plain, tt);
    first = λ is. subst (λ symbols. IsStrongFirst (symbols ++ y ∷ [])) (sym none) (y, refl, is);
  };
  bare = bare.bare;
})

-- it is all that is new
pub symbol_is : (d e : Draft) (y : Symbol) → symbol_added d y ≡ Ok e → e.object ≡ (symboled d y).object
symbol_is d e y added = ap (λ (d : Draft). d.object) (symbol_got d e y added)

-- ... the whole

-- every word has room for a number of 32 bits
fits : (w : Word) (x : ℕ) → x < 2 ^ 32 → x < modulus w
fits W32 x low = omega (arith, low)
fits W64 x low = omega (arith, low)

module _ (strong : Bool) (n : Object) (small : IsSmall strong n) where
  here : slice_get n.sections 0 ≡ Some small.section
  here = ap (λ ss. slice_get ss 0) small.only

  reaches : (k offset : ℕ) → k ≡ 0 → offset ≤ 4 → HasOffset n.sections k offset
  reaches k offset is low = (small.section, subst (λ j. slice_get n.sections j ≡ Some small.section) (sym is) here, omega (arith, low, small.alone.long))

  near_value : (v : Value) → IsNear v → IsValue n v
  near_value (value.Place k offset) near = reaches k offset near.0 near.1
  near_value (value.Absolute x) near = fits (word_for n.format) x near

  falls : (f : Fallback) → FallsBack strong f → IsFallback n f
  falls (fallback.Place k offset) near = reaches k offset near.0 near.1
  falls fallback.Zero near = tt
  falls (fallback.Name k) near =
      let first = small.first near.1 in
      (first.0, subst (λ j. slice_get n.symbols j ≡ Some first.0) (sym near.0) first.1, first.2, λ j low same. omega (arith, low, near.0))

  binding : (b : Binding) → Speaks strong b → IsBinding n b
  binding (Local v) speaks = near_value v speaks
  binding (Global v) speaks = near_value v speaks
  binding Undefined speaks = tt
  binding (Common size align) speaks = absurd speaks
  binding (Weak f) speaks = falls f speaks

  symbol : (s : Symbol) → IsPlain strong s → IsSymbol n s
  symbol s plain = record {
    named = plain.named;
    name = plain.name;
    binding = binding s.binding plain.binding;
    size = subst (λ k. k < modulus (word_for n.format)) (sym plain.size) (fits (word_for n.format) 0 (omega arith));
    number = plain.number;
  }

  complete : ((s : ℕ) → AllByRecursion (λ (x : Field Reloc). IsHinted x.item) (list_of n.relocs s))
      → ((s : ℕ) → AllByRecursion (λ (x : Field Reloc). NamesOriginal n.symbols x.item.target) (list_of n.relocs s)) → IsComplete n
  complete hints originals = record {
    keys = subst HaveKeys (sym small.groups) (record { differ = λ i j g h l a b. absurd (none-some g a); full = tt });
    begun = subst (λ gs. AreBegun (length gs) 0 (groups_of n.sections)) (sym small.groups)
        (subst (λ ss. AreBegun 0 0 (groups_of ss)) (sym small.only) (subst (λ g. AreBegun 0 0 (g ∷ [])) (sym small.alone.group) (tt, refl)));
    aligns = subst (λ ss. AllByRecursion (λ (s : Section). IsAlign s.align) ss) (sym small.only) (small.alone.align, tt);
    symbols = each_weaker (IsPlain strong) (IsSymbol n) symbol n.symbols small.symbols;
    hints = hints;
    originals = originals;
  }

-- without relocations
module _ (strong : Bool) (n : Object) (bare : IsBare strong n) where
  none_of : (P : List (Field Reloc) → Type 0) → P [] → (s : ℕ) → P (list_of n.relocs s)
  none_of P none s = subst P (sym (ap (λ lists. list_of lists s) bare.bare ∙ none_at s)) none

  pub bare_complete : IsComplete n
  bare_complete = complete strong n bare.small (none_of (λ xs. AllByRecursion (λ (x : Field Reloc). IsHinted x.item) xs) tt) (none_of (λ xs. AllByRecursion (λ (x : Field Reloc). NamesOriginal n.symbols x.item.target) xs) tt)

  -- with one symbol it can get relocations
  pub bare_calling : length n.symbols ≡ 1 → IsCalling n
  bare_calling one = record {
    strong = strong;
    small = bare.small;
    few = omega (arith, one);
    hints = none_of (λ xs. AllByRecursion (λ (x : Field Reloc). IsHinted x.item) xs) tt;
  }

-- ... relocations

module _ (d e : Draft) (at : ℕ) (r : Reloc) (calling : IsCalling d.object) (draft : IsDraft d) (hinted : IsHinted r) where
  -- the section with a number in its bytes
  abbrev numbered : ℕ → ℕ → Section
  numbered k number = with_number k number at calling.small.section

  still : (k number : ℕ) → IsAlone (numbered k number)
  still k number = record { align = calling.small.alone.align; group = calling.small.alone.group; long = calling.small.alone.long }

  only_one : (k number : ℕ) → numbered_in d.object.sections 0 at k number (slice_get d.object.sections 0) ≡ numbered k number ∷ []
  only_one k number = ap (λ ss. numbered_in ss 0 at k number (slice_get ss 0)) calling.small.only

  one_low : 0 < length d.object.relocs
  one_low = let counted = draft.built.fields.counted in omega (arith, counted, ap length calling.small.only)

  by : IsOne d 0 at r e → IsCalling e.object
  by (kept q is same) = subst (λ (z : Draft). IsCalling z.object) (sym same) (record {
    strong = calling.strong;
    small = record {
      groups = calling.small.groups;
      section = numbered (bytes_of q.form.width) 0;
      only = only_one (bytes_of q.form.width) 0;
      alone = still (bytes_of q.form.width) 0;
      symbols = calling.small.symbols;
      first = calling.small.first;
    };
    few = calling.few;
    hints = by_list d.object.relocs 0 at (bytes_of q.form.width) q one_low (λ t fields. AllByRecursion (λ (y : Field Reloc). IsHinted y.item) fields) calling.hints
        (all_placed (λ (y : Field Reloc). IsHinted y.item) (field at (bytes_of q.form.width) q) (list_of d.object.relocs 0) (kept_hinted (word_for d.object.format) d.object.symbols 0 at r q hinted is) (calling.hints 0));
  })
  by (constant number same) = subst (λ (z : Draft). IsCalling z.object) (sym same) (record {
    strong = calling.strong;
    small = record {
      groups = calling.small.groups;
      section = numbered (bytes_of r.form.width) number;
      only = only_one (bytes_of r.form.width) number;
      alone = still (bytes_of r.form.width) number;
      symbols = calling.small.symbols;
      first = calling.small.first;
    };
    few = calling.few;
    hints = calling.hints;
  })

  pub reloc_calling : reloc_added d 0 at r ≡ Ok e → IsCalling e.object
  reloc_calling added = by (one d 0 at r e added)

  -- with either answer
  pub either_calling : {A : Type 0} (answer : Result A BuildFault) → OnOk answer (reloc_added d 0 at r ≡ Ok e) → OnErr answer (e ≡ d) → IsCalling e.object
  either_calling (Ok x) added same = reloc_calling added
  either_calling (Err f) added same = subst (λ (z : Draft). IsCalling z.object) (sym same) calling

module _ (n : Object) (calling : IsCalling n) (fine : IsBuilt n) where
  section_here : slice_get n.sections 0 ≡ Some calling.small.section
  section_here = ap (λ ss. slice_get ss 0) calling.small.only

  -- the one symbol is the first that has its number
  original : (t : Target) → IsThere n t → NamesOriginal n.symbols t
  original (target.Section k) there = tt
  original (target.Symbol k) there = λ j low same. omega (arith, low, there, calling.few)

  originals : (s : ℕ) → AllByRecursion (λ (x : Field Reloc). NamesOriginal n.symbols x.item.target) (list_of n.relocs s)
  originals zero = each_weaker (IsHeld n 0 calling.small.section.bytes) (λ (x : Field Reloc). NamesOriginal n.symbols x.item.target) (λ x is. original x.item.target is.normal.target) (list_of n.relocs 0) (fine.fields.each 0 calling.small.section section_here)
  originals (suc s) = subst (λ xs. AllByRecursion (λ (x : Field Reloc). NamesOriginal n.symbols x.item.target) xs)
      (sym (get_or_past n.relocs (suc s) [] (let counted = fine.fields.counted in omega (arith, counted, ap length calling.small.only)))) tt

  pub calling_complete : IsComplete n
  calling_complete = complete calling.strong n calling.small calling.hints originals
