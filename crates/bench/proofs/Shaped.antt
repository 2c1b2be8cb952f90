-- What adding symbols and relocations makes of the object, and that it can be finished and fitted.
use Rattle.std.proofs.Common.{◌≡◌, ◌≢◌, ℕ, zero, suc, ◌+◌, ◌<◌, ◌≤◌, Bool, true, false, true≢false, cond, List, [], ◌∷◌, ◌++◌, length, Option, Some, None, Ok, Err, refl, sym, ◌∙◌, ap, subst, arith, codes}
use Rattle.std.specs.{Prelude.{slice_get}, List.{AllByRecursion}}
use Rattle.std.proofs.lemmas.{List.{get_or_past}, Option.{none-some, same_Some}}
use Rattle.oc_base.specs.{declared.format.Format.{Format}, declared.format.Word.{Word}, declared.format.Word.TheVariants.{W32, W64}, Formats.{word_for}}
use Rattle.oc_linking.specs.{declared.terms.Kind.{Kind}, declared.terms.Kind.TheVariants.{Code, Note}, Numbers.{modulus}, Fits.{bytes_of}}
use Rattle.oc_chains.specs.{declared.field.Field.{Field}, Fields.{field}, Lists.{Lists, list_of}}
use Rattle.oc_neutral.specs.{declared.fault.BuildFault.{BuildFault}, declared.section.Section.{Section}, declared.symbol.Symbol.{Symbol}}
use Rattle.oc_neutral.specs.{declared.reloc.Reloc.{Reloc}, declared.reloc.Target.{Target}}
use Rattle.oc_neutral.specs.Building.{Draft, empty_draft, limit_passed, numbered_in, reloc_added, section_added, section_by, symbol_added, with_number}
use Rattle.oc_neutral.specs.{Elf.Family.{elf_gives}, Elf.Kinds.{elf_kind}, Faces.{number_of}, GivenTags.{can_have, is_blank_type}}
use Rattle.oc_neutral.specs.Invariants.{AreBegun, HaveKeys, IsAlign, IsBinding, IsBuilt, IsComplete, IsDraft, IsHeld, IsHinted, IsSymbol, IsThere, NamesOriginal, groups_of}
use Rattle.oc_neutral.specs.Objects.{Object}
use Rattle.oc_neutral.specs.declared.fault.BuildFault.TheVariants as build
use Rattle.oc_neutral.specs.declared.reloc.Target.TheVariants as target
use Rattle.oc_target.specs.Fitted.{CanFit}
use Rattle.oc_shows.specs.Readable.{IsReadable}
use Rattle.oc_neutral.proofs.{DraftAdded.{IsOne, kept, constant, one}, MoreRelocs.{all_placed, by_list}, MoreSections.{sectioned}, MoreSymbols.{symboled}}
use Rattle.oc_neutral.proofs.{NormalLemmas.{kept_hinted}, Positions.{each_weaker}}
use Rattle.bench.specs.Shape.{AreNumbered, IsCode, IsElf, IsPlain, elf_of}

-- ... lists

-- one more
all_more : {X : Type 0} (P : X → Type 0) (xs : List X) (x : X) → AllByRecursion P xs → P x → AllByRecursion P (xs ++ x ∷ [])
all_more P [] x all is = (is, tt)
all_more P (y ∷ ys) x all is = (all.0, all_more P ys x all.1 is)

-- the next symbol has the next number
numbered_more : (k : ℕ) (symbols : List Symbol) (y : Symbol) → AreNumbered k symbols → y.number ≡ k + length symbols → AreNumbered k (symbols ++ y ∷ [])
numbered_more k [] y are is = (omega (arith, is), tt)
numbered_more k (s ∷ symbols) y are is = (are.0, numbered_more (k + 1) symbols y are.1 (omega (arith, is)))

-- each has its number
number_at : (k : ℕ) (symbols : List Symbol) (j : ℕ) → AreNumbered k symbols → j < length symbols → number_of symbols j ≡ k + j
number_at k [] j are low = absurd (omega (arith, low))
number_at k (s ∷ symbols) zero are low = omega (arith, are.0)
number_at k (s ∷ symbols) (suc j) are low = let e = number_at (k + 1) symbols j are.1 (omega (arith, low)) in omega (arith, e)

-- ... what is added

-- a section that was added
section_got : (d e : Draft) (x : Section) → section_added d x ≡ Ok e → e ≡ sectioned d x
unfolding section_added
section_got d e x added = by (limit_passed d.object.sections x) added
  where
    by : (o : Option BuildFault) → section_by d x o ≡ Ok e → e ≡ sectioned d x
    by None added = cc added
    by (Some f) added = absurd (cc added)

-- a symbol that was added
symbol_got : (d e : Draft) (y : Symbol) → symbol_added d y ≡ Ok e → e ≡ symboled d y
unfolding symbol_added
symbol_got d e y added = by _ added
  where
    by : (b : Bool) → cond b (Err build.DuplicateName) (Ok (symboled d y)) ≡ Ok e → e ≡ symboled d y
    by true added = absurd (cc added)
    by false added = cc added

-- no section has a field
abbrev none_held : Lists Reloc
none_held = [] ∷ []

none_at : (s : ℕ) → list_of none_held s ≡ []
none_at zero = refl
none_at (suc s) = refl

-- a section makes the object
pub begun_elf : (w : Word) (start d : Draft) (x : Section) → start ≡ empty_draft (elf_of w) → section_added start x ≡ Ok d → IsCode x → IsElf d.object
begun_elf w start d x begun added code = subst (λ (z : Draft). IsElf z.object) (sym (section_got start d x added ∙ ap (λ z. sectioned z x) begun)) (record {
  word = w;
  format = refl;
  groups = refl;
  section = x;
  only = refl;
  code = code;
  symbols = tt;
  numbered = tt;
  hints = λ s. subst (AllByRecursion (λ (f : Field Reloc). IsHinted f.item)) (sym (none_at s)) tt;
})

-- a symbol more
pub symbol_elf : (d e : Draft) (y : Symbol) → IsElf d.object → symbol_added d y ≡ Ok e → IsPlain y → y.number ≡ length d.object.symbols → IsElf e.object
symbol_elf d e y elf added plain number = subst (λ (z : Draft). IsElf z.object) (sym (symbol_got d e y added)) (record {
  word = elf.word;
  format = elf.format;
  groups = elf.groups;
  section = elf.section;
  only = elf.only;
  code = elf.code;
  symbols = all_more IsPlain d.object.symbols y elf.symbols plain;
  numbered = numbered_more 0 d.object.symbols y elf.numbered (omega (arith, number));
  hints = elf.hints;
})

-- a relocation more
module _ (d e : Draft) (at : ℕ) (r : Reloc) (elf : IsElf d.object) (draft : IsDraft d) (hinted : IsHinted r) where
  -- with a number in its bytes the section stays code
  abbrev numbered : ℕ → ℕ → Section
  numbered k number = with_number k number at elf.section

  still : (k number : ℕ) → IsCode (numbered k number)
  still k number = record { kind = elf.code.kind; name = elf.code.name; tag = elf.code.tag; align = elf.code.align; alone = elf.code.alone }

  only_one : (k number : ℕ) → numbered_in d.object.sections 0 at k number (slice_get d.object.sections 0) ≡ numbered k number ∷ []
  only_one k number = ap (λ ss. numbered_in ss 0 at k number (slice_get ss 0)) elf.only

  one_low : 0 < length d.object.relocs
  one_low = let counted = draft.built.fields.counted in omega (arith, counted, ap length elf.only)

  by : IsOne d 0 at r e → IsElf e.object
  by (kept q is same) = subst (λ (z : Draft). IsElf z.object) (sym same) (record {
    word = elf.word;
    format = elf.format;
    groups = elf.groups;
    section = numbered (bytes_of q.form.width) 0;
    only = only_one (bytes_of q.form.width) 0;
    code = still (bytes_of q.form.width) 0;
    symbols = elf.symbols;
    numbered = elf.numbered;
    hints = by_list d.object.relocs 0 at (bytes_of q.form.width) q one_low (λ t fields. AllByRecursion (λ (y : Field Reloc). IsHinted y.item) fields) elf.hints
        (all_placed (λ (y : Field Reloc). IsHinted y.item) (field at (bytes_of q.form.width) q) (list_of d.object.relocs 0) (kept_hinted (word_for d.object.format) d.object.symbols 0 at r q hinted is) (elf.hints 0));
  })
  by (constant number same) = subst (λ (z : Draft). IsElf z.object) (sym same) (record {
    word = elf.word;
    format = elf.format;
    groups = elf.groups;
    section = numbered (bytes_of r.form.width) number;
    only = only_one (bytes_of r.form.width) number;
    code = still (bytes_of r.form.width) number;
    symbols = elf.symbols;
    numbered = elf.numbered;
    hints = elf.hints;
  })

  pub reloc_elf : reloc_added d 0 at r ≡ Ok e → IsElf e.object
  reloc_elf added = by (one d 0 at r e added)

-- ... the whole

-- each word has numbers
some : (w : Word) → 0 < modulus (word_for (elf_of w))
some W32 = omega arith
some W64 = omega arith

module _ (n : Object) (elf : IsElf n) (fine : IsBuilt n) where
  here : slice_get n.sections 0 ≡ Some elf.section
  here = ap (λ ss. slice_get ss 0) elf.only

  symbol : (s : Symbol) → IsPlain s → IsSymbol n s
  symbol s is = record {
    named = λ e. absurd (omega (arith, is.named, ap length e));
    name = is.name;
    binding = subst (IsBinding n) (sym is.binding) (elf.section, here, omega arith);
    size = subst (λ k. k < modulus (word_for n.format)) (sym is.size) (subst (λ f. 0 < modulus (word_for f)) (sym elf.format) (some elf.word));
    number = is.number;
  }

  original : (t : Target) → IsThere n t → NamesOriginal n.symbols t
  original (target.Section k) there = tt
  original (target.Symbol k) there = λ j low same.
      omega (arith, number_at 0 n.symbols j elf.numbered (omega (arith, low, there)), number_at 0 n.symbols k elf.numbered there, same, low)

  originals : (s : ℕ) → AllByRecursion (λ (x : Field Reloc). NamesOriginal n.symbols x.item.target) (list_of n.relocs s)
  originals zero = each_weaker (IsHeld n 0 elf.section.bytes) (λ (x : Field Reloc). NamesOriginal n.symbols x.item.target) (λ x is. original x.item.target is.normal.target) (list_of n.relocs 0) (fine.fields.each 0 elf.section here)
  originals (suc s) = subst (λ xs. AllByRecursion (λ (x : Field Reloc). NamesOriginal n.symbols x.item.target) xs)
      (sym (get_or_past n.relocs (suc s) [] (let counted = fine.fields.counted in omega (arith, counted, ap length elf.only)))) tt

  pub complete : IsComplete n
  complete = record {
    keys = subst HaveKeys (sym elf.groups) (record { differ = λ i j g h l a b. absurd (none-some g a); full = tt });
    begun = subst (λ gs. AreBegun (length gs) 0 (groups_of n.sections)) (sym elf.groups)
        (subst (λ ss. AreBegun 0 0 (groups_of ss)) (sym elf.only) (subst (λ g. AreBegun 0 0 (g ∷ [])) (sym elf.code.alone) (tt, refl)));
    aligns = subst (λ ss. AllByRecursion (λ (s : Section). IsAlign s.align) ss) (sym elf.only) ((4, omega arith, elf.code.align), tt);
    symbols = each_weaker IsPlain (IsSymbol n) symbol n.symbols elf.symbols;
    hints = elf.hints;
    originals = originals;
  }

  -- such a section has bytes, and its name and tag are those of code
  blank : (w : Word) → is_blank_type (elf_of w) 14 ≡ false
  blank W32 = refl
  blank W64 = refl

  tagged : (w : Word) → can_have (elf_of w) Code (codes ".text") 14 ≡ true
  unfolding elf_gives elf_kind
  tagged W32 = refl
  tagged W64 = refl

  alone_at : (k : ℕ) (s : Section) → slice_get n.sections k ≡ Some s → s ≡ elf.section
  alone_at k s at = by k (sym (ap (λ ss. slice_get ss k) elf.only) ∙ at)
    where
      by : (k : ℕ) → slice_get (elf.section ∷ []) k ≡ Some s → s ≡ elf.section
      by zero at = sym (same_Some elf.section s at)
      by (suc k) at = absurd (none-some s at)

  readable : IsReadable n
  readable = record {
    tags = subst (λ ss. AllByRecursion (λ (s : Section). can_have n.format s.kind s.name s.tag ≡ true) ss) (sym elf.only) (
      ap (λ f. can_have f elf.section.kind elf.section.name elf.section.tag) elf.format
          ∙ ap (λ k. can_have (elf_of elf.word) k elf.section.name elf.section.tag) elf.code.kind
          ∙ ap (λ name. can_have (elf_of elf.word) Code name elf.section.tag) elf.code.name
          ∙ ap (can_have (elf_of elf.word) Code (codes ".text")) elf.code.tag
          ∙ tagged elf.word,
      tt,
    );
    blanks = λ k s at typed. absurd (true≢false (sym typed ∙ ap (λ f. is_blank_type f s.tag) elf.format ∙ ap (is_blank_type (elf_of elf.word)) (ap (λ (x : Section). x.tag) (alone_at k s at) ∙ elf.code.tag) ∙ blank elf.word));
  }

  not_note : (k : Kind) → k ≡ Code → k ≢ Note
  not_note k is e = absurd (cc (is, e))

  -- it can be fitted to a target of its word
  pub can_fit : (to : Format) → word_for to ≡ word_for n.format → length n.symbols ≤ 16000000 → CanFit to n
  can_fit to word few = record {
    word = word;
    few_symbols = omega (arith, few);
    notes = λ k s at note. absurd (not_note s.kind (ap (λ (x : Section). x.kind) (alone_at k s at) ∙ elf.code.kind) note);
    readable = readable;
  }
