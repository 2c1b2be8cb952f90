-- The sections of a file have names and tags that reading can give.
use Rattle.oc_coff.specs.{declared.form.Shape.{Shape}, Files.{CoffFile, tables_in}, Tables.{Tables}, Forms.{format_by}}
use Rattle.oc_coff.specs.{Names.{decimal_of, is_digit, is_nothing, name_for, section_name, string_at, until_nul}, Sections.{kind_in, sections_in}}
use Rattle.std.proofs.Common.{◌≡◌, ℕ, suc, ◌+◌, ◌/◌, ◌%◌, ◌^◌, ◌<◌, ◌≤◌, Bool, true, false, cond, eqb, List, [], ◌∷◌, drop, take, Option, None, Some, refl, sym, ◌∙◌, ap, subst, arith, length}
use Rattle.std.specs.{Prelude.{not, ◌&&◌, ◌||◌, nat_eq, nat_le, nat_lt, codes, slice_get}, List.{before_first, list_all, position_or_len}}
use Rattle.std.specs.Option.{option_and_then, option_map, option_map_or, unwrap_or}
use Rattle.std.proofs.lemmas.{Bool.{eq-eqb, ne_eqb, true≢false}, Bool.Decides.{nat_tests}, Option.{none-some, same_Some}}
use Rattle.oc_base.specs.declared.format.Word.{Word}
use Rattle.oc_linking.specs.{declared.terms.Kind.{Kind}, declared.terms.Kind.TheVariants.{Code, ReadOnly, Data, Zero, Init, Fini, Debug, Exception, Note}}
use Rattle.oc_linking.specs.Parts as parts
use Rattle.oc_neutral.specs.{declared.section.Section.{Section}, Coff.Family.{coff_gives}, Coff.Kinds.{coff_kind, coff_tag, is_unwind_name}}
use Rattle.oc_neutral.specs.{GivenTags.{can_have, is_blank_type}, Invariants.{AreBytes}, KindRules.{begins, first_rule, has_nul, same_kind}}
use Rattle.oc_shows.specs.{Readable.{IsReadable}, Started.{stored_section}}
use Rattle.oc_shelf.specs.Reading.Texts.{text_at, text_within}
use Rattle.oc_shelf.proofs.ReadingLaws.CollectedLemmas.{IsFrom, all_mapped}
use Rattle.oc_coff_read.specs.{Adding.{started}, Built.{keys_of}}
use Rattle.oc_coff_judge.specs.Led.{section_at}
use Rattle.oc_coff_read.proofs.{ByteLemmas.{header_small}, WholeSymbols.{IsOf, section_by}}
use Rattle.oc_coff_judge.proofs.PlacedLemmas.{section_from}
use Rattle.oc_neutral.proofs.GivenLaws.{same_kind-self, coff_kind-tag}

-- ... names

apart : (a : ℕ) → eqb a 0 ≡ false → nat_eq 0 a ≡ false
apart a h = ne_eqb 0 a (λ e. true≢false (sym (eq-eqb a 0 (sym e)) ∙ h))

-- a text has no NUL
text_plain : (xs text : List ℕ) → text_within xs ≡ Some text → has_nul text ≡ false
text_plain [] text e = absurd (none-some text e)
text_plain (x ∷ xs) text e = by (eqb x 0) refl (text_within xs) (text_plain xs) e
  where
    by : (b : Bool) → eqb x 0 ≡ b → (o : Option (List ℕ)) → ((rest : List ℕ) → o ≡ Some rest → has_nul rest ≡ false) → cond b (Some []) (option_map (λ text. x ∷ text) o) ≡ Some text
        → has_nul text ≡ false
    by true h o rest g = ap has_nul (sym (same_Some [] text g))
    by false h None rest g = absurd (none-some text g)
    by false h (Some r) rest g = ap has_nul (sym (same_Some (x ∷ r) text g)) ∙ ap (λ b. b || has_nul r) (apart x h) ∙ rest r refl

until_plain : (xs : List ℕ) → has_nul (before_first (λ c. nat_eq c 0) xs) ≡ false
until_plain [] = refl
until_plain (x ∷ xs) = by (nat_eq x 0) refl (until_plain xs)
  where
    n : ℕ
    n = position_or_len (λ c. nat_eq c 0) xs

    by : (b : Bool) → nat_eq x 0 ≡ b → has_nul (take n xs) ≡ false → has_nul (take (cond (not b) (1 + n) 0) (x ∷ xs)) ≡ false
    by true e rest = refl
    by false e rest =
        let one : 1 + n ≡ suc n = omega arith in
        ap (λ (k : ℕ). has_nul (take k (x ∷ xs))) one ∙ ap (λ b. b || has_nul (take n xs)) (apart x e) ∙ rest

string_plain : (strings : List ℕ) (offset : ℕ) (text : List ℕ) → string_at strings offset ≡ Some text → has_nul text ≡ false
unfolding string_at
string_plain strings offset text e = by (nat_le 4 offset) e
  where
    by : (b : Bool) → cond b (text_at strings offset) None ≡ Some text → has_nul text ≡ false
    by true h = text_plain (drop offset strings) text h
    by false h = absurd (none-some text h)

for_plain : (strings field name : List ℕ) → has_nul field ≡ false → name_for strings field ≡ Some name → has_nul name ≡ false
for_plain strings [] name plain e = ap has_nul (sym (same_Some [] name e))
for_plain strings (c ∷ rest) name plain e = by (nat_eq c 47) (not (is_nothing rest) && list_all is_digit rest) e
  where
    by : (a b : Bool) → cond a (cond b (string_at strings (decimal_of rest)) None) (Some (c ∷ rest)) ≡ Some name → has_nul name ≡ false
    by true true h = string_plain strings (decimal_of rest) name h
    by true false h = absurd (none-some name h)
    by false b h = ap has_nul (sym (same_Some (c ∷ rest) name h)) ∙ plain

name_plain : (strings field name : List ℕ) → section_name strings field ≡ Some name → has_nul name ≡ false
unfolding section_name
name_plain strings field name e = for_plain strings (until_nul field) name (until_plain field) e

-- ... tags

abbrev rules_for : Bool → Bool → Bool → Bool → Bool → Bool → Bool → Bool → Bool → Option Kind
rules_for debug unwind info remove init fini zeros code data_ = first_rule (
    (debug, Some Debug)
    ∷ (unwind, Some Exception)
    ∷ (info, Some Note)
    ∷ (remove, None)
    ∷ (init, Some Init)
    ∷ (fini, Some Fini)
    ∷ (zeros, Some Zero)
    ∷ (code, Some Code)
    ∷ (data_, Some Data)
    ∷ []) (Some ReadOnly)

abbrev kind_for : List ℕ → ℕ → ℕ → ℕ → ℕ → ℕ → ℕ → Option Kind
kind_for name info remove zeros code execute write =
    rules_for (begins name (codes ".debug")) (is_unwind_name name) (nat_eq info 1) (nat_eq remove 1) (begins name (codes ".CRT$XC")) (begins name (codes ".CRT$XT")) (nat_eq zeros 1) (nat_eq code 1 || nat_eq execute 1) (nat_eq write 1)

-- the flags that a tag has are those by which the kind is told
pub record IsCut (flags : ℕ) : Type 0 where
  pub info : coff_tag flags / 0x200 % 2 ≡ flags / 0x200 % 2
  pub remove : coff_tag flags / 0x800 % 2 ≡ flags / 0x800 % 2
  pub zeros : coff_tag flags / 0x80 % 2 ≡ flags / 0x80 % 2
  pub code : coff_tag flags / 0x20 % 2 ≡ flags / 0x20 % 2
  pub execute : coff_tag flags / 0x20000000 % 2 ≡ flags / 0x20000000 % 2
  pub write : coff_tag flags / 0x80000000 % 2 ≡ flags / 0x80000000 % 2
  pub own : coff_tag (coff_tag flags) ≡ coff_tag flags
  pub small : coff_tag flags ≤ flags

cut : (flags : ℕ) → IsCut flags
unfolding coff_tag
cut flags = record {
  info = omega arith;
  remove = omega arith;
  zeros = omega arith;
  code = omega arith;
  execute = omega arith;
  write = omega arith;
  own = omega arith;
  small = omega arith;
}

gives_at : (name : List ℕ) (flags : ℕ) (kind : Kind) → flags < 2 ^ 32 → coff_kind name flags ≡ Some kind → coff_gives kind name (coff_tag flags) ≡ true
unfolding coff_gives
gives_at name flags kind low is =
    let c : IsCut flags = cut flags in
    let small = c.small in
    all_three (nat_lt (coff_tag flags) (2 ^ 32)) (nat_eq (coff_tag (coff_tag flags)) (coff_tag flags)) (option_map_or (same_kind kind) (coff_kind name (coff_tag flags)) false)
    (below (coff_tag flags) flags (2 ^ 32) small low) (eq-eqb (coff_tag (coff_tag flags)) (coff_tag flags) c.own)
    (ap (λ (o : Option Kind). option_map_or (same_kind kind) o false) (coff_kind-tag name flags ∙ is) ∙ same_kind-self kind)
  where
    below : (a b c : ℕ) → a ≤ b → b < c → nat_lt a c ≡ true
    below a b c l m = grind (arith, nat_tests)

    all_three : (a b c : Bool) → a ≡ true → b ≡ true → c ≡ true → (a && b && c) ≡ true
    all_three a b c d e g = grind arith

gives_is : (w : Word) (z : Shape) (kind : Kind) (name : List ℕ) (tag : ℕ) → can_have (format_by w z) kind name tag ≡ (not (has_nul name) && coff_gives kind name tag)
gives_is w z kind name tag = grind arith

pub blank_is : (w : Word) (z : Shape) (tag : ℕ) → is_blank_type (format_by w z) tag ≡ false
blank_is w z tag = grind arith

-- ... all

module _ (w : Word) (file : CoffFile) (bytes : AreBytes file.bytes) where
  abbrev t : Tables
  t = tables_in file

  abbrev IsGivable : Section → Type 0
  IsGivable x = can_have (format_by w t.shape) x.kind x.name x.tag ≡ true

  -- a kind comes of a name
  pub record IsNamed (o : Option (List ℕ)) (flags : ℕ) (kind : Kind) : Type 0 where
    pub name : List ℕ
    pub is : o ≡ Some name
    pub kind_is : coff_kind name flags ≡ Some kind

  named_by : (o : Option (List ℕ)) (flags : ℕ) (kind : Kind) → option_and_then (λ name. coff_kind name flags) o ≡ Some kind → IsNamed o flags kind
  named_by o flags kind e = grind arith

  givable : (k : ℕ) (s : parts.Section) → slice_get (sections_in t) k ≡ Some s → IsGivable (stored_section (keys_of t) s)
  unfolding kind_in
  givable k s there = of (section_from t k s there)
    where
      of : IsFrom (section_at t) (length t.sections) k s → IsGivable (stored_section (keys_of t) s)
      of from = by (section_by t from.k s from.is)
        where
          by : IsOf t from.k s → IsGivable (stored_section (keys_of t) s)
          by o =
              let m : IsNamed (section_name t.strings o.table.header.Name) o.table.header.Characteristics o.kind = named_by (section_name t.strings o.table.header.Name) o.table.header.Characteristics o.kind o.kind_is in
              let low : o.table.header.Characteristics < 2 ^ 32 = (let small = header_small file bytes from.k o.table o.here in omega (arith, small)) in
              subst (λ (x : parts.Section). IsGivable (stored_section (keys_of t) x)) o.is
              (ap (λ (o2 : Option (List ℕ)). can_have (format_by w t.shape) o.kind (unwrap_or o2 []) (coff_tag o.table.header.Characteristics)) m.is
              ∙ gives_is w t.shape o.kind m.name (coff_tag o.table.header.Characteristics)
              ∙ ap (λ b. not b && coff_gives o.kind m.name (coff_tag o.table.header.Characteristics)) (name_plain t.strings o.table.header.Name m.name m.is)
              ∙ gives_at m.name o.table.header.Characteristics o.kind low m.kind_is)

  pub readable : IsReadable (started w file).object
  readable = record {
    tags = all_mapped IsGivable (stored_section (keys_of t)) (sections_in t) givable;
    blanks = λ s x there blank. absurd (true≢false (sym blank ∙ blank_is w t.shape x.tag));
  }
