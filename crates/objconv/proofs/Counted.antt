-- The words ask for few functions, and for a format for few sections.
use Rattle.std.proofs.Common.{◌≡◌, ℕ, ◌≤◌, Bool, true, false, ◌&&◌, cond, List, [], ◌∷◌, Option, Some, None, Result, Ok, Err, refl, sym, ◌∙◌, ap, subst, arith}
use Rattle.std.specs.{Prelude.{bytes_eq, codes, length, nat_le}, List.{AllByRecursion}, Option.{option_map_or}, Str.Parse.{digits_value}}
use Rattle.std.proofs.lemmas.{Bool.{and_parts, leb-true}, Option.{none-some, same_Some}}
use Rattle.oc_base.specs.declared.format.Format.{Format}
use Rattle.oc_linking.specs.Numbers.{first_upto}
use Rattle.oc_neutral.specs.Families.{is_many}
use Rattle.oc_names.specs.Wishes.{Wishes}
use Rattle.oc_words.specs.{declared.fault.WordCode.TheVariants.{BadNumber, BadTarget}, declared.job.Job.{Job}, declared.job.Job.TheVariants.{Make}}
use Rattle.oc_words.specs.{Faults.{BadWord, bad}, Formats.{plain_names, plain_named}}
use Rattle.oc_words.specs.Jobs.{bad_at, conversion_of, converted, job_of, listing_of, made, made_for, making_of, operands, targets, wishes_of}
use Rattle.oc_words.specs.Texts.{behind, is_decimal, looked_up}

-- an object of few functions, in a format for few sections
abbrev pub IsSmall : ℕ → Format → Type 0
IsSmall count to = (count ≤ 100000) × (is_many to ≡ false)

-- where an object is to be made, it is such
abbrev IsLow : Result Job BadWord → Type 0
IsLow asked = (count : ℕ) (to : Format) (output : List ℕ) → asked ≡ Ok (Make count to output) → IsSmall count to

-- what a table says is as all its rows say
looked_up_is : {X : Type 0} (P : X → Type 0) (rows : List (List ℕ × X)) → AllByRecursion (λ (row : List ℕ × X). P row.1) rows → (text : List ℕ) (x : X) → looked_up rows text ≡ Some x → P x
looked_up_is P [] all text x found = absurd (none-some x found)
looked_up_is P (row ∷ rows) all text x found = by (bytes_eq text row.0) (looked_up_is P rows all.1 text x) found
  where
    by : (b : Bool) → (looked_up rows text ≡ Some x → P x) → cond b (Some row.1) (looked_up rows text) ≡ Some x → P x
    by true rest e = subst P (same_Some row.1 x e) all.0
    by false rest e = rest e

-- the target of an object that is made is for few sections
plain_few : (name : List ℕ) (to : Format) → plain_named name ≡ Some to → is_many to ≡ false
plain_few = looked_up_is (λ to. is_many to ≡ false) plain_names (refl, (refl, (refl, (refl, (refl, (refl, (refl, tt)))))))

low_converted : (count : ℕ) (wishes : Wishes) (to : List Format) (names : List (List ℕ)) → IsLow (converted count wishes to names)
low_converted count wishes [] names n f o e = absurd (cc e)
low_converted count wishes (t ∷ more) [] n f o e = absurd (cc e)
low_converted count wishes (t ∷ more) (input ∷ []) n f o e = absurd (cc e)
low_converted count wishes (t ∷ more) (input ∷ output ∷ names) n f o e = absurd (cc e)

low_conversion : (words : List (List ℕ)) → IsLow (conversion_of words)
unfolding conversion_of
low_conversion words = by (first_upto (bad_at words) (length words))
  where
    by : (o : Option BadWord) → IsLow (option_map_or (λ fault. Err fault) o (converted (length words) (wishes_of words) (targets words) (operands words)))
    by None n f o e = low_converted (length words) (wishes_of words) (targets words) (operands words) n f o e
    by (Some fault) n f o e = absurd (cc e)

low_listing : (words : List (List ℕ)) → IsLow (listing_of words)
low_listing [] n f o e = absurd (cc e)
low_listing (input ∷ []) n f o e = absurd (cc e)
low_listing (input ∷ extra ∷ more) n f o e = absurd (cc e)

low_made_for : (count : ℕ) → count ≤ 100000 → (to : Format) → is_many to ≡ false → (words : List (List ℕ)) → IsLow (made_for count to words)
low_made_for count low to plain [] n f o e = absurd (cc e)
low_made_for count low to plain (output ∷ []) n f o e =
    let same : count ≡ n = cc e in
    let own : to ≡ f = cc e in
    (omega (arith, low, same), ap is_many (sym own) ∙ plain)
low_made_for count low to plain (output ∷ extra ∷ more) n f o e = absurd (cc e)

low_made : (count : ℕ) → count ≤ 100000 → (words : List (List ℕ)) → IsLow (made count words)
low_made count low [] n f o e = absurd (cc e)
low_made count low (target ∷ more) n f o e = by (plain_named target) refl n f o e
  where
    by : (t : Option Format) → plain_named target ≡ t → IsLow (option_map_or (λ to. made_for count to more) t (bad 1 BadTarget))
    by None named n f o e = absurd (cc e)
    by (Some to) named n f o e = low_made_for count low to (plain_few target to named) more n f o e

low_making : (number : List ℕ) (words : List (List ℕ)) → IsLow (making_of number words)
low_making number words = by (is_decimal number && nat_le (digits_value 10 number) 100000) refl
  where
    by : (b : Bool) → (is_decimal number && nat_le (digits_value 10 number) 100000) ≡ b
        → IsLow (option_map_or (λ count. made count words) (cond b (Some (digits_value 10 number)) None) (bad 0 BadNumber))
    by true is n f o e = low_made (digits_value 10 number) (leb-true (digits_value 10 number) 100000 (and_parts (is_decimal number) (nat_le (digits_value 10 number) 100000) is).1) words n f o e
    by false is n f o e = absurd (cc e)

-- whatever the words are
pub low_job : (words : List (List ℕ)) (count : ℕ) (to : Format) (output : List ℕ) → job_of words ≡ Ok (Make count to output) → IsSmall count to
unfolding job_of
low_job [] = low_conversion []
low_job (first ∷ words) = by (bytes_eq first (codes "-ds")) (behind (codes "--make=") first)
  where
    by : (b : Bool) (o : Option (List ℕ)) → IsLow (cond b (listing_of words) (option_map_or (λ number. making_of number words) o (conversion_of (first ∷ words))))
    by true o = low_listing words
    by false None = low_conversion (first ∷ words)
    by false (Some number) = low_making number words
