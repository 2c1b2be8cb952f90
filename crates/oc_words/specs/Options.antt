-- What one word of a conversion means by itself (our profile).
use Rattle.std.specs.Prelude.{ℕ, Bool, true, false, not, ◌&&◌, ◌||◌, nat_eq, if◌then◌else◌, List, [], ◌∷◌, length, codes, Option}
use Rattle.std.specs.Option.{option_map, option_and_then, option_map_or, unwrap_or}
use Rattle.oc_base.specs.declared.format.Format.{Format}
use Rattle.oc_linking.specs.Numbers.{or_else}
use Rattle.oc_names.specs.{declared.edit.Choice.TheVariants.{Strip, Keep}, declared.edit.Edit.{Edit}}
use Rattle.oc_names.specs.declared.edit.Edit.TheVariants as edit
use Rattle.oc_words.specs.{declared.fault.WordCode.TheVariants.{UnknownOption, BadPair}, declared.naming.OptionHead.{OptionHead}}
use Rattle.oc_words.specs.{declared.naming.OptionHead.TheVariants.{OfPair, OfName}, declared.naming.PairHead.{PairHead}}
use Rattle.oc_words.specs.{declared.naming.PairHead.TheVariants.{Rename, Prefix, Suffix, Alias, AliasPrefix, AliasSuffix}, declared.naming.NameHead.{NameHead}}
use Rattle.oc_words.specs.{declared.naming.NameHead.TheVariants.{Weaken, MakeLocal}, declared.option.Argument.{Argument}}
use Rattle.oc_words.specs.{declared.option.Argument.TheVariants.{Operand, Target, Asks, Debug, Exceptions, Faulty}, Texts.{Cut, looked_up, behind, cut}}
use Rattle.oc_words.specs.Formats.{format_named}

-- ... options without names

-- the words that are fixed
abbrev pub fixed_words : List (List ℕ × Argument)
fixed_words =
    (codes "-nu", Asks edit.Underscore) ∷ (codes "--strip-debug", Debug Strip) ∷ (codes "--keep-debug", Debug Keep)
    ∷ (codes "--strip-exceptions", Exceptions Strip) ∷ (codes "--keep-exceptions", Exceptions Keep) ∷ []

-- what a fixed word means
abbrev pub fixed_word : List ℕ → Option Argument
fixed_word word = looked_up fixed_words word

-- the target of `-fTARGET`
abbrev pub target_word : List ℕ → Option Format
target_word word = option_and_then format_named (behind (codes "-f") word)

-- ... options with names: `HEAD:OLD:NEW` and `HEAD:NAME`

-- the heads
abbrev pub heads : List (List ℕ × OptionHead)
heads =
    (codes "-nr", OfPair Rename) ∷ (codes "-np", OfPair Prefix) ∷ (codes "-ns", OfPair Suffix)
    ∷ (codes "-ar", OfPair Alias) ∷ (codes "-ap", OfPair AliasPrefix) ∷ (codes "-as", OfPair AliasSuffix)
    ∷ (codes "-nw", OfName Weaken) ∷ (codes "-nl", OfName MakeLocal) ∷ []

-- the NEW of a prefix or of a suffix may be empty
abbrev pub takes_empty : PairHead → Bool
takes_empty Rename = false
takes_empty Prefix = true
takes_empty Suffix = true
takes_empty Alias = false
takes_empty AliasPrefix = true
takes_empty AliasSuffix = true

-- the edit of a pair
abbrev pub pair_edit : PairHead → List ℕ → List ℕ → Edit
pair_edit Rename from to = edit.Rename from to
pair_edit Prefix from to = edit.Prefix from to
pair_edit Suffix from to = edit.Suffix from to
pair_edit Alias from to = edit.Alias from to
pair_edit AliasPrefix from to = edit.AliasPrefix from to
pair_edit AliasSuffix from to = edit.AliasSuffix from to

-- the edit of a name
abbrev pub name_edit : NameHead → List ℕ → Edit
name_edit Weaken name = edit.Weaken name
name_edit MakeLocal name = edit.MakeLocal name

-- the text is empty
abbrev pub is_empty : List ℕ → Bool
is_empty text = nat_eq (length text) 0

-- what OLD and NEW say
abbrev pub said_pair : PairHead → Cut → Argument
said_pair head pair =
    if is_empty pair.before || (is_empty pair.after && not (takes_empty head)) then Faulty BadPair else Asks (pair_edit head pair.before pair.after)

-- what NAME means
abbrev pub said_name : NameHead → List ℕ → Argument
said_name head name = if is_empty name then Faulty BadPair else Asks (name_edit head name)

-- what a head means with the text after its colon: OLD ends at the first colon of the text, NAME goes to its end
abbrev pub said_with : OptionHead → List ℕ → Argument
said_with (OfPair head) text = option_map_or (said_pair head) (cut text) (Faulty BadPair)
said_with (OfName head) text = said_name head text

-- what an option that is cut at its first colon means
abbrev pub said_cut : Cut → Argument
said_cut word = option_map_or (λ head. said_with head word.after) (looked_up heads word.before) (Faulty UnknownOption)

-- what an option that has no colon means: the head alone is no pair and no name
abbrev pub said_bare : List ℕ → Argument
said_bare word = option_map_or (λ _. Faulty BadPair) (looked_up heads word) (Faulty UnknownOption)

-- what an option with a head means
abbrev pub headed_word : List ℕ → Argument
headed_word word = option_map_or said_cut (cut word) (said_bare word)

-- ... all words

-- the word begins with `-`
abbrev pub is_option : List ℕ → Bool
is_option [] = false
is_option (x ∷ xs) = nat_eq x 45

-- what an option means
abbrev pub option_word : List ℕ → Argument
option_word word = unwrap_or (or_else (fixed_word word) (option_map (λ to. Target to) (target_word word))) (headed_word word)

-- what a word means: it is an option, or else the name of a file
unfoldable pub said_by : List ℕ → Argument
said_by word = if is_option word then option_word word else Operand
