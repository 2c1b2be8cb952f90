-- Words with IN and OUT behind them are those of a conversion, or at fault; and how many words a block has.
use Rattle.std.proofs.Common.{ℕ, ◌+◌, ◌≤◌, Bool, true, false, cond, List, [], ◌∷◌, ◌++◌, length, Option, Some, None, Result, Ok, Err, arith, ◌-◌, take, length-take}
use Rattle.std.specs.{Prelude.{bytes_eq, codes, nat_eq}, List.{slice_split, onto_first}, Option.{option_map_or}}
use Rattle.oc_base.specs.declared.format.Format.{Format}
use Rattle.oc_linking.specs.Numbers.{first_upto}
use Rattle.oc_names.specs.Wishes.{Wishes}
use Rattle.oc_words.specs.{declared.fault.WordCode.TheVariants.{BadTarget, BadNumber}, declared.job.Job.{Job}, declared.job.Job.TheVariants.{Convert, Symbols, Make}, Faults.{BadWord, bad}}
use Rattle.oc_words.specs.{Formats.{plain_named}, Texts.{behind, count_of}}
use Rattle.oc_words.specs.Jobs.{job_of, conversion_of, converted, listing_of, made_for, made, making_of, bad_at, wishes_of, targets, operands}
use Rattle.oc_embed.specs.Words.{command, is_ended, words_in}

-- the job is a conversion
abbrev IsConvert : Job → Type 0
IsConvert (Convert to wishes input output) = Unit {0}
IsConvert (Symbols input) = ⊥
IsConvert (Make count to output) = ⊥

-- what is asked for is a conversion, or is at fault
abbrev pub Converts : Result Job BadWord → Type 0
Converts (Ok job) = IsConvert job
Converts (Err fault) = Unit {0}

-- IN and OUT
abbrev names : List (List ℕ)
names = codes "IN" ∷ codes "OUT" ∷ []

whole : (count : ℕ) (wishes : Wishes) (to : List Format) (operands : List (List ℕ)) → Converts (converted count wishes to operands)
whole count wishes [] operands = tt
whole count wishes (to ∷ more) [] = tt
whole count wishes (to ∷ more) (input ∷ []) = tt
whole count wishes (to ∷ more) (input ∷ output ∷ others) = tt

conversion : (words : List (List ℕ)) → Converts (conversion_of words)
unfolding conversion_of
conversion words = by (first_upto (bad_at words) (length words))
  where
    by : (o : Option BadWord) → Converts (option_map_or (λ fault. Err fault) o (converted (length words) (wishes_of words) (targets words) (operands words)))
    by None = whole (length words) (wishes_of words) (targets words) (operands words)
    by (Some fault) = tt

listing : (words : List (List ℕ)) → Converts (listing_of (words ++ names))
listing [] = tt
listing (word ∷ []) = tt
listing (word ∷ other ∷ words) = tt

made_behind : (count : ℕ) (to : Format) (words : List (List ℕ)) → Converts (made_for count to (words ++ names))
made_behind count to [] = tt
made_behind count to (word ∷ []) = tt
made_behind count to (word ∷ other ∷ words) = tt

making : (count : ℕ) (words : List (List ℕ)) → Converts (made count (words ++ names))
making count [] = tt
making count (word ∷ words) = by (plain_named word)
  where
    by : (o : Option Format) → Converts (option_map_or (λ to. made_for count to (words ++ names)) o (bad 1 BadTarget))
    by None = tt
    by (Some to) = made_behind count to words

numbered : (number : List ℕ) (words : List (List ℕ)) → Converts (making_of number (words ++ names))
numbered number words = by (count_of number)
  where
    by : (o : Option ℕ) → Converts (option_map_or (λ count. made count (words ++ names)) o (bad 0 BadNumber))
    by None = tt
    by (Some count) = making count words

-- whatever the words are
all : (words : List (List ℕ)) → Converts (job_of (words ++ names))
unfolding job_of
all [] = conversion names
all (first ∷ words) = by (bytes_eq first (codes "-ds")) (behind (codes "--make=") first)
  where
    by : (b : Bool) (o : Option (List ℕ)) → Converts (cond b (listing_of (words ++ names)) (option_map_or (λ number. making_of number (words ++ names)) o (conversion_of (first ∷ words ++ names))))
    by true o = listing words
    by false None = conversion (first ∷ words ++ names)
    by false (Some number) = numbered number words

-- whatever the block is
pub command_converts : (block : List ℕ) → Converts (job_of (command block))
unfolding command
command_converts block = all (words_in block)

-- there is at most one piece more than bytes
pub few_pieces : (p : ℕ → Bool) (text : List ℕ) → length (slice_split p text) ≤ length text + 1
few_pieces p [] = omega arith
few_pieces p (x ∷ xs) = by (p x) (slice_split p xs) (few_pieces p xs)
  where
    by : (b : Bool) (pieces : List (List ℕ)) → length pieces ≤ length xs + 1 → length (cond b ([] ∷ pieces) (onto_first x pieces)) ≤ length (x ∷ xs) + 1
    by true pieces h = omega (arith, h)
    by false [] h = omega arith
    by false (piece ∷ pieces) h = omega (arith, h)

-- there is at most one word more than bytes
pub few_words : (block : List ℕ) → length (words_in block) ≤ length block + 1
few_words block = by (nat_eq (length block) 0) (is_ended block)
  where
    by : (b e : Bool) → length (cond b [] (slice_split (λ x. nat_eq x 0) (cond e (take (length block - 1) block) block))) ≤ length block + 1
    by true e = omega arith
    by false true = omega (arith, few_pieces (λ x. nat_eq x 0) (take (length block - 1) block), length-take (length block - 1) block)
    by false false = few_pieces (λ x. nat_eq x 0) block
