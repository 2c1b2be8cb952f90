-- What COFF can say of an object that is ready for it: of its sections, and of the symbols of its lines.
use Rattle.oc_coff_file.proofs.{StructureLaws.{IsNumber, IsOther, IsCounted}, LineLaws.{IsLineOf, line_is_of}}
use Rattle.std.proofs.Common.{◌+◌, ◌≡◌, ℕ, ◌^◌, ◌<◌, ◌≤◌, ◌≢◌, Bool, true, false, cond, not, List, [], ◌∷◌, length, Some, refl, sym, ◌∙◌, ap, subst, arith}
use Rattle.std.specs.{Prelude.{slice_get, nat_lt}, Option.{unwrap_or}}
use Rattle.std.proofs.lemmas.Bool.{true≢false}
use Rattle.oc_coff.specs.{declared.form.CoffForm.{CoffForm}, declared.form.CoffForm.TheVariants.{Usual32, Usual64, Big32, Big64}, Forms.{format_of, shape_of}}
use Rattle.oc_coff.specs.Values.{class_by}
use Rattle.oc_base.specs.{Formats.{word_for}, Strings.{is_given}}
use Rattle.oc_linking.specs.{Numbers.{modulus}, declared.terms.Kind.{Kind}, declared.terms.Kind.TheVariants.{Zero}, declared.terms.Value.{Value}}
use Rattle.oc_linking.specs.{declared.terms.Fallback.{Fallback}, declared.terms.Binding.{Binding}}
use Rattle.oc_linking.specs.{declared.terms.Binding.TheVariants.{Local, Global, Undefined, Common, Weak}, Parts.{is_local}}
use Rattle.oc_linking.specs.declared.terms.Value.TheVariants as value
use Rattle.oc_linking.specs.declared.terms.Fallback.TheVariants as fallback
use Rattle.oc_neutral.specs.{declared.section.Section.{Section}, declared.symbol.Symbol.{Symbol}}
use Rattle.oc_neutral.specs.{declared.coff.TheConstants.{IMAGE_SCN_CNT_UNINITIALIZED_DATA, MOST_NAME_OFFSET}, Objects.{Object}, Building.{is_zero}}
use Rattle.oc_neutral.specs.{Invariants.{IsObject, IsBinding, IsFallback, IsSymbol, HasItsBytes, is_strong}, Powers.{natural_align}}
use Rattle.oc_neutral.specs.{KindRules.{has, has_nul, same_kind}, Family.{IsCoff}, Families.{container_of}, Coff.Kinds.{coff_kind, coff_tag}}
use Rattle.oc_neutral.specs.{Coff.Strings.{is_long, is_tabled, has_default, default_name}, WrittenSymbols.{is_written, is_written_as}}
use Rattle.oc_target.specs.{CoffMeets.{strings_of, offset_of, MeetsCoff, CoffSection, CoffSymbol}, Fitted.{IsFitted}}
use Rattle.oc_shows.specs.{Manners.{coff_manner}, SymbolLines.{needs_default, is_weak_with}}
use Rattle.oc_target.proofs.MeetsCoff.{meets_coff}
use Rattle.oc_neutral.proofs.Positions.{each_at}
use Rattle.oc_coff_file.specs.Lines.{Line, SectionLine, LocalLine, DefaultLine, OuterLine, lines_of}

-- an object that is ready for COFF, and what it meets
pub record IsForCoff (w : CoffForm) (n : Object) : Type 0 where
  pub object : IsObject n
  pub format : n.format ≡ format_of w
  pub meets : MeetsCoff (format_of w) n

pub for_coff : (w : CoffForm) (n : Object) → IsFitted (format_of w) n → IsForCoff w n
for_coff w n fits = record { object = fits.object; format = fits.format; meets = meets_coff (format_of w) n (family w) fits }
  where
    family : (w : CoffForm) → container_of (format_of w) ≡ IsCoff
    family w = grind arith

-- ... how many sections there are

-- no form is for more
pub fewest : (w : CoffForm) (n : Object) → IsForCoff w n → length n.sections ≤ 4194304
fewest w n is = grind arith

-- the number of a section has room
pub number_room : (w : CoffForm) (n : Object) → IsForCoff w n → (k : ℕ) → k < length n.sections → IsNumber (shape_of w) (k + 1)
number_room w n is k low = grind arith

-- so has that of another section
pub other_room : (w : CoffForm) (n : Object) → IsForCoff w n → (k : ℕ) → k < length n.sections → IsOther (shape_of w) (k + 1)
other_room w n is k low = grind arith

-- and their count
pub counted_room : (w : CoffForm) (n : Object) → IsForCoff w n → IsCounted (shape_of w) (length n.sections)
counted_room w n is = grind arith

-- ... sections

-- the kind that COFF gives to a section
abbrev pub seen_kind : Section → Kind
seen_kind s = coff_manner.kind s

-- what COFF can say of a section
pub record IsCodedSection (w : CoffForm) (n : Object) (s : Section) : Type 0 where
  pub name : has_nul s.name ≡ false
  pub tabled : is_tabled s.name ≡ true → is_given (strings_of (format_of w) n) s.name ≡ true
  pub near : is_tabled s.name ≡ true → offset_of (format_of w) n s.name ≤ MOST_NAME_OFFSET
  pub kind : coff_kind s.name s.tag ≡ Some (seen_kind s)
  pub tag : coff_tag s.tag ≡ s.tag
  pub small : s.tag < 2 ^ 32
  pub exponent : ℕ
  pub exponent_small : exponent ≤ 13
  pub power : s.align ≡ 2 ^ exponent
  -- a Zero section has no bytes, and another has them all
  pub zeros : same_kind Zero (seen_kind s) ≡ is_zero s.kind
  pub bytes : length s.bytes ≡ cond (is_zero s.kind) 0 s.size
  pub unset : is_zero s.kind ≡ true → has s.tag IMAGE_SCN_CNT_UNINITIALIZED_DATA ≡ true
  pub size : s.size ≤ 2147483647

pub zero_kind : (k : Kind) → same_kind Zero k ≡ is_zero k
zero_kind k = grind arith

zero_is : (k : Kind) → is_zero k ≡ true → k ≡ Zero
zero_is k e = grind arith

-- ... symbols

-- a value: a place in a section that is there, or a number of 32 bits
abbrev pub IsCodedValue : Object → Value → Type 0
IsCodedValue n (value.Place k offset) = (s : Section) × (slice_get n.sections k ≡ Some s) × (offset ≤ s.size)
IsCodedValue n (value.Absolute x) = x < 2 ^ 32

-- a fallback: a place in a section that is there, 0, or a symbol that is neither Local nor Weak
abbrev pub IsCodedFallback : Object → Fallback → Type 0
IsCodedFallback n (fallback.Place k offset) = (s : Section) × (slice_get n.sections k ≡ Some s) × (offset ≤ s.size)
IsCodedFallback n fallback.Zero = Unit {0}
IsCodedFallback n (fallback.Name j) = (t : Symbol) × (slice_get n.symbols j ≡ Some t) × (is_local t.binding ≡ false) × (class_by t.binding ≡ 2)

-- a binding; a Common has the alignment that COFF gives to its size
abbrev pub IsCodedBinding : Object → Binding → Type 0
IsCodedBinding n (Local v) = IsCodedValue n v
IsCodedBinding n (Global v) = IsCodedValue n v
IsCodedBinding n Undefined = Unit {0}
IsCodedBinding n (Common size align) = (0 < size) × (size < 2 ^ 32) × (natural_align size ≡ align)
IsCodedBinding n (Weak f) = IsCodedFallback n f

-- the symbol of a line
pub record IsCodedSymbol (w : CoffForm) (n : Object) (s : Symbol) : Type 0 where
  pub some : 1 ≤ length s.name
  pub plain : has_nul s.name ≡ false
  pub given : is_long s.name ≡ true → is_given (strings_of (format_of w) n) s.name ≡ true
  pub binding : IsCodedBinding n s.binding

-- a line
abbrev pub IsCodedLine : CoffForm → Object → Line → Type 0
IsCodedLine w n (SectionLine k s) = IsCodedSection w n s
IsCodedLine w n (LocalLine k s) = IsCodedSymbol w n s
IsCodedLine w n (DefaultLine k s) = IsCodedSymbol w n s × (is_given (strings_of (format_of w) n) (default_name s.name) ≡ true)
IsCodedLine w n (OuterLine k s) = IsCodedSymbol w n s

some_bytes : (name : List ℕ) → name ≢ [] → 1 ≤ length name
some_bytes [] some = absurd (some refl)
some_bytes (c ∷ name) some = omega arith

not_weak : (b : Binding) → is_strong b ≡ true → (is_local b ≡ false) × (class_by b ≡ 2)
not_weak b e = grind arith

short_number : (b : Bool) (x : ℕ) → nat_lt x (2 ^ 32) ≡ b → not (not b) ≡ true → x < 2 ^ 32
short_number b x h e = grind arith

module _ (w : CoffForm) (n : Object) (is : IsForCoff w n) where
  pub coded_section : (k : ℕ) (s : Section) → slice_get n.sections k ≡ Some s → IsCodedSection w n s
  coded_section k s here =
      let x : CoffSection (format_of w) n s = is.meets.sections k s here in
      let read : seen_kind s ≡ x.read = ap (λ o. unwrap_or o s.kind) x.carried in
      record {
        name = x.uncut.name;
        tabled = x.given;
        near = x.near;
        kind = x.carried ∙ ap Some (sym read);
        tag = x.tag;
        small = x.small;
        exponent = x.align.exponent;
        exponent_small = x.align.low;
        power = x.align.is;
        zeros = zero_kind (seen_kind s) ∙ ap is_zero read ∙ x.kind.zero;
        bytes = each_at HasItsBytes n.sections k s is.object.built.bytes here;
        unset = λ e. x.zero (zero_is s.kind e);
        size = each_at (λ (y : Section). y.size ≤ 2147483647) n.sections k s is.object.built.limits.each here;
      }

  symbol_is : (k : ℕ) (s : Symbol) → slice_get n.symbols k ≡ Some s → IsSymbol n s
  symbol_is k s here = each_at (IsSymbol n) n.symbols k s is.object.complete.symbols here

  meets_symbol : (k : ℕ) (s : Symbol) → slice_get n.symbols k ≡ Some s → CoffSymbol (format_of w) n s
  meets_symbol k s here = is.meets.symbols k s here

  coded_fallback : (f : Fallback) → IsFallback n f → IsCodedFallback n f
  coded_fallback f own = grind arith

  -- a Local that is written has 32 bits
  short_local : (w : CoffForm) → n.format ≡ format_of w → (name : List ℕ) (x : ℕ) → IsBinding n (Local (value.Absolute x))
      → is_written_as (format_of w) name (Local (value.Absolute x)) ≡ true → x < 2 ^ 32
  short_local Usual32 format name x own e = subst (λ f. x < modulus (word_for f)) format own
  short_local Usual64 format name x own e = short_number (nat_lt x (2 ^ 32)) x refl e
  short_local Big32 format name x own e = subst (λ f. x < modulus (word_for f)) format own
  short_local Big64 format name x own e = short_number (nat_lt x (2 ^ 32)) x refl e

  coded_local : (name : List ℕ) (b : Binding) → is_local b ≡ true → IsBinding n b → is_written_as (format_of w) name b ≡ true → IsCodedBinding n b
  coded_local name b e own written = grind arith

  coded_outer : (k : ℕ) (s : Symbol) → slice_get n.symbols k ≡ Some s → (b : Binding) → s.binding ≡ b → is_local b ≡ false → IsBinding n b → IsCodedBinding n b
  coded_outer k s here (Local v) e outer own = absurd (true≢false outer)
  coded_outer k s here (Global (value.Place j offset)) e outer own = own
  coded_outer k s here (Global (value.Absolute x)) e outer own = (meets_symbol k s here).absolute x e
  coded_outer k s here Undefined e outer own = tt
  coded_outer k s here (Common size align) e outer own = let c = (meets_symbol k s here).common size align e in (c.some, c.small, sym c.natural)
  coded_outer k s here (Weak f) e outer own = coded_fallback f own

  coded_symbol : (k : ℕ) (s : Symbol) → slice_get n.symbols k ≡ Some s → is_written (format_of w) s ≡ true → IsCodedBinding n s.binding → IsCodedSymbol w n s
  coded_symbol k s here written binding =
      let m = meets_symbol k s here in
      record { some = some_bytes s.name (symbol_is k s here).named; plain = m.name; given = m.given written; binding = binding }

  outer_written : (w : CoffForm) (name : List ℕ) (b : Binding) → is_local b ≡ false → is_written_as (format_of w) name b ≡ true
  outer_written w name b e = grind arith

  pub outer_coded : (k : ℕ) (s : Symbol) → slice_get n.symbols k ≡ Some s → is_local s.binding ≡ false → IsCodedSymbol w n s
  outer_coded k s here outer = coded_symbol k s here (outer_written w s.name s.binding outer) (coded_outer k s here s.binding refl outer (symbol_is k s here).binding)

  -- a symbol with a default is a Weak
  pub weak_default : (s : Symbol) → needs_default s ≡ true → (f : Fallback) × (s.binding ≡ Weak f) × (has_default f ≡ true)
  weak_default s e = by s.binding refl e
    where
      by : (b : Binding) → s.binding ≡ b → is_weak_with has_default b ≡ true → (f : Fallback) × (s.binding ≡ Weak f) × (has_default f ≡ true)
      by b h e = grind arith

  pub coded_line : (k : ℕ) (line : Line) → slice_get (lines_of w n) k ≡ Some line → IsCodedLine w n line
  coded_line k line here = by line (line_is_of w n k line here)
    where
      by : (line : Line) → IsLineOf w n line → IsCodedLine w n line
      by (SectionLine j s) o = coded_section j s o
      by (LocalLine j s) o = coded_symbol j s o.0 o.2 (coded_local s.name s.binding o.1 (symbol_is j s o.0).binding o.2)
      by (DefaultLine j s) o =
          let f = weak_default s o.1 in
          (outer_coded j s o.0 (ap is_local f.1), (meets_symbol j s o.0).default f.0 f.1 f.2)
      by (OuterLine j s) o = outer_coded j s o.0 o.1
