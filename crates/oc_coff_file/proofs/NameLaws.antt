-- Names of a canonical file are read back.
use Rattle.std.proofs.Common.{◌≡◌, ℕ, ◌+◌, ◌-◌, ◌*◌, ◌/◌, ◌%◌, ◌^◌, ◌<◌, ◌≤◌, ◌≢◌, Bool, true, false, cond, eqb, List, [], ◌∷◌, ◌++◌, length, Some, None, refl, sym, ◌∙◌, ap, arith, append-nil, length-append}
use Rattle.std.specs.{Prelude.{nat_eq, nat_le, ◌&&◌, ◌||◌, All, decimal, codes}, List.{list_all}, Option.{unwrap_or}}
use Rattle.std.proofs.lemmas.{Bool.{true≢false, eqb-false, ne_eqb, le-leb, or_parts}, List.Folds.{list_all-append, list_any-append}, List.Sums.{fold-append}}
use Rattle.std.proofs.lemmas.{List.Elements.{All-cons}, Fmt.{decimal_by_steps, length-decimal-le}}
use Rattle.oc_coff.specs.declared.form.CoffForm.{CoffForm}
use Rattle.oc_coff.specs.{Names.{padded, until_nul, decimal_of, is_nothing, is_digit, name_for, section_name, symbol_name, string_at}, Forms.{format_of}}
use Rattle.oc_base.specs.{Numbers.{number_at, bytes_of_number}, Strings.{is_given, table_place, table_text}}
use Rattle.oc_base.proofs.NumberLaws.{length-bytes_of_number, number_at-shift, number_at-bytes}
use Rattle.oc_neutral.specs.{declared.coff.TheConstants.{MOST_NAME_OFFSET}, Objects.{Object}, KindRules.{begins, has_nul}}
use Rattle.oc_neutral.specs.Coff.Strings.{is_long, is_tabled, string_offset}
use Rattle.oc_coff_file.proofs.PaddedLemmas.{until_nul-padded, padded-long}
use Rattle.oc_shelf.proofs.{WritingLaws.StandingLemmas.{stands_inside}, WritingLaws.StringLemmas.{name_in_table, name_read}}
use Rattle.oc_shelf.specs.Reading.Texts.{text_at}
use Rattle.oc_coff_file.specs.{Layout.{text_of}, Canonical.{symbol_field, section_field, string_table}}
use Rattle.oc_target.specs.CoffMeets.{offset_of, strings_of}
use Rattle.oc_linking.proofs.Testing.{not_below}

-- a name without NUL
pub no_nul : (name : List ℕ) → has_nul name ≡ false → All (λ c. c ≢ 0) name
no_nul [] e = λ k d l. absurd (omega (arith, l))
no_nul (c ∷ name) e =
    elim (eqb 0 c) as (λ t. eqb 0 c ≡ t → (t || has_nul name) ≡ false → All (λ c. c ≢ 0) (c ∷ name)) [
      | true ↦ λ t e. absurd (true≢false e)
      | false ↦ λ t e. All-cons (λ c. c ≢ 0) c name (λ same. eqb-false 0 c t (sym same)) (no_nul name e)
    ] refl e

-- the digits of a number are digits, and say it
record AreDigits (n : ℕ) (ds : List ℕ) : Type 0 where
  digits : list_all is_digit ds ≡ true
  value : decimal_of ds ≡ n
  some : is_nothing ds ≡ false
  plain : has_nul ds ≡ false

one_digit : (n : ℕ) → n < 10 → AreDigits n ((48 + n) ∷ [])
one_digit n low = record {
  digits = let a : nat_le 48 (48 + n) ≡ true = le-leb _ _ (omega arith) in let b : nat_le (48 + n) 57 ≡ true = le-leb _ _ (omega (arith, low)) in rw (a, b) refl;
  value = omega arith;
  some = refl;
  plain = rw (ne_eqb 0 (48 + n) (omega arith)) refl;
}

not_nothing : (xs : List ℕ) (x : ℕ) → is_nothing (xs ++ x ∷ []) ≡ false
not_nothing [] x = refl
not_nothing (y ∷ xs) x = refl

more_digits : (n : ℕ) (ds : List ℕ) → 10 ≤ n → AreDigits (n / 10) ds → AreDigits n (ds ++ ((48 + n % 10) ∷ []))
more_digits n ds high is =
    let low : n % 10 < 10 = omega arith in
    let a : nat_le 48 (48 + n % 10) ≡ true = le-leb _ _ (omega arith) in
    let b : nat_le (48 + n % 10) 57 ≡ true = le-leb _ _ (omega (arith, low)) in
    let value = is.value in
    record {
      digits = list_all-append is_digit ds ((48 + n % 10) ∷ []) ∙ rw (is.digits, a, b) refl;
      value = fold-append (λ n c. n * 10 + (c - 48)) 0 ds ((48 + n % 10) ∷ []) ∙ rw value (omega arith);
      some = not_nothing ds (48 + n % 10);
      plain = list_any-append (nat_eq 0) ds ((48 + n % 10) ∷ []) ∙ rw (is.plain, ne_eqb 0 (48 + n % 10) (omega arith)) refl;
    }

decimal_digits : (n : ℕ) → n < 2 ^ 64 → AreDigits n (decimal n)
decimal_digits n small = decimal_by_steps AreDigits one_digit more_digits n small

-- a name that does not begin with `/`
no_slash : (c : ℕ) (rest : List ℕ) → begins (c ∷ rest) (codes "/") ≡ false → eqb c 47 ≡ false
no_slash c rest e = elim (eqb 47 c) as (λ b. eqb 47 c ≡ b → (b && true) ≡ false → eqb c 47 ≡ false) [ true ↦ λ t h. absurd (true≢false h) | false ↦ λ t h. ne_eqb c 47 (λ same. eqb-false 47 c t (sym same)) ] refl e

module _ (w : CoffForm) (n : Object) (small : length (string_table w n) < 2 ^ 32) where
  abbrev given : List (List ℕ)
  given = strings_of (format_of w) n

  abbrev offset : List ℕ → ℕ
  offset name = offset_of (format_of w) n name

  -- where a given name stands in the string table
  pub record IsPlacedName (name : List ℕ) : Type 0 where
    pub low : 4 ≤ offset name
    pub high : offset name < 2 ^ 32
    pub text : string_at (string_table w n) (offset name) ≡ Some name

  pub name_placed : (name : List ℕ) → is_given given name ≡ true → has_nul name ≡ false → IsPlacedName name
  unfolding string_offset text_of string_at
  name_placed name g none =
      let size : List ℕ = bytes_of_number 4 (4 + length (table_text given)) in
      let long : length size ≡ 4 = length-bytes_of_number 4 (4 + length (table_text given)) in
      let t = name_in_table 4 given name g in
      let off : ℕ = unwrap_or (table_place 4 given name) 0 in
      let inside = stands_inside (table_text given) (name ++ 0 ∷ []) (off - 4) t.there in
      let whole : length (string_table w n) ≡ length size + length (table_text given) = length-append size (table_text given) in
      let some : length (name ++ 0 ∷ []) ≡ length name + 1 = length-append name (0 ∷ []) in
      let read : text_at (string_table w n) (unwrap_or (table_place (length size) given name) 0) ≡ Some name = name_read size (string_table w n) given name refl g none in
      record {
        low = t.above;
        high = omega (arith, inside, whole, long, some, small, t.above);
        text = ap (λ b. cond b (text_at (string_table w n) off) None) (le-leb 4 off t.above)
            ∙ ap (λ m. text_at (string_table w n) (unwrap_or (table_place m given name) 0)) (sym long) ∙ read;
      }

  -- the name of a symbol
  empty_named : symbol_name (string_table w n) (padded []) ≡ Some []
  unfolding symbol_name number_at
  empty_named = refl

  some_named : (name : List ℕ) → 1 ≤ length name → has_nul name ≡ false → (is_long name ≡ true → is_given given name ≡ true)
      → symbol_name (string_table w n) (symbol_field w n name) ≡ Some name
  unfolding symbol_name symbol_field
  some_named name some none long = by (is_long name) refl
    where
      by : (b : Bool) → is_long name ≡ b → symbol_name (string_table w n) (symbol_field w n name) ≡ Some name
      by true e =
          let p = name_placed name (long e) none in
          let off : ℕ = offset name in
          let zeros : number_at (bytes_of_number 4 0 ++ bytes_of_number 4 off) 0 4 ≡ 0 = number_at-bytes 4 0 (bytes_of_number 4 off) (omega arith) in
          let four : 4 ≡ length (bytes_of_number 4 0) + 0 = omega (arith, length-bytes_of_number 4 0) in
          let number : number_at (bytes_of_number 4 0 ++ bytes_of_number 4 off) 4 4 ≡ off
          = number_at-shift (bytes_of_number 4 0) (bytes_of_number 4 off) 4 0 4 four ∙ ap (λ zs. number_at zs 0 4) (sym (simp append-nil)) ∙ number_at-bytes 4 off [] (omega (arith, p.high)) in
          let other : eqb off 0 ≡ false = ne_eqb off 0 (omega (arith, p.low)) in
          rw (e, zeros, number, other) p.text
      by false e =
          let short : length name ≤ 8 = not_below 8 (length name) e in
          rw (e, padded-long name some (no_nul name none)) (ap Some (until_nul-padded name short (no_nul name none)))

  pub symbol_named : (name : List ℕ) → has_nul name ≡ false → (is_long name ≡ true → is_given given name ≡ true)
      → symbol_name (string_table w n) (symbol_field w n name) ≡ Some name
  unfolding symbol_field
  symbol_named [] none long = empty_named
  symbol_named (c ∷ rest) none long = some_named (c ∷ rest) (omega arith) none long

  -- the name of a section
  pub section_named : (name : List ℕ) → has_nul name ≡ false → (is_tabled name ≡ true → is_given given name ≡ true) → (is_tabled name ≡ true → offset name ≤ MOST_NAME_OFFSET)
      → section_name (string_table w n) (section_field w n name) ≡ Some name
  unfolding section_name section_field
  section_named name none tabled near = by (is_tabled name) refl
    where
      plain : (name : List ℕ) → (is_long name || begins name (codes "/")) ≡ false → name_for (string_table w n) name ≡ Some name
      plain name e = grind arith

      by : (b : Bool) → is_tabled name ≡ b → section_name (string_table w n) (section_field w n name) ≡ Some name
      by true e =
          let p = name_placed name (tabled e) none in
          let off : ℕ = offset name in
          let short : off ≤ MOST_NAME_OFFSET = near e in
          let d = decimal_digits off (omega (arith, short)) in
          let long : length (decimal off) ≤ 7 = length-decimal-le 7 off (omega arith) (omega (arith, short)) (omega (arith, short)) in
          let field : until_nul (padded (47 ∷ decimal off)) ≡ 47 ∷ decimal off
          = until_nul-padded (47 ∷ decimal off) (omega (arith, long)) (no_nul (47 ∷ decimal off) d.plain) in
          rw (e, field, d.some, d.digits, d.value) p.text
      by false e =
          let short : length name ≤ 8 = not_below 8 (length name) (or_parts (is_long name) (begins name (codes "/")) e).0 in
          rw (e, until_nul-padded name short (no_nul name none)) (plain name e)
