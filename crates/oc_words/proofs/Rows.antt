-- Commands' words, with what they ask for or the first word at fault: all by hand from the description of the command.
use Rattle.std.proofs.Common.{◌≡◌, [], ◌∷◌, refl}
use Rattle.std.specs.Prelude.{Ok, codes}
use Rattle.oc_base.specs.declared.format.Format.TheVariants.{Elf32, Coff32, Mac64, Omf}
use Rattle.oc_names.specs.declared.edit.Choice.TheVariants.{Auto, Strip, Keep}
use Rattle.oc_names.specs.declared.edit.Edit.TheVariants.{Rename, Prefix, Suffix, Alias, AliasPrefix, AliasSuffix, Weaken, MakeLocal, Underscore}
use Rattle.oc_words.specs.declared.fault.WordCode.TheVariants as code
use Rattle.oc_words.specs.{declared.job.Job.TheVariants.{Convert, Symbols, Make}, Faults.{bad}, Options.{said_by}, Jobs.{conversion_of, job_of}}

-- ... the worked cases

no_word : job_of [] ≡ bad 0 code.MissingTarget
unfolding said_by conversion_of job_of
no_word = refl

same_file : job_of (codes "-fcoff32" ∷ codes "a" ∷ codes "a" ∷ []) ≡ bad 2 code.SameFile
unfolding said_by conversion_of job_of
same_file = refl

unknown_option : job_of (codes "-fcoff32" ∷ codes "-zz" ∷ codes "a" ∷ codes "b" ∷ []) ≡ bad 1 code.UnknownOption
unfolding said_by conversion_of job_of
unknown_option = refl

symbols_listed : job_of (codes "-ds" ∷ codes "a" ∷ []) ≡ Ok (Symbols (codes "a"))
unfolding job_of
symbols_listed = refl

make_two_functions : job_of (codes "--make=2" ∷ codes "coff32" ∷ codes "b" ∷ []) ≡ Ok (Make 2 Coff32 (codes "b"))
unfolding job_of
make_two_functions = refl

underscores_prefix_and_alias : job_of (codes "-fmac64" ∷ codes "-nu" ∷ codes "-np:my_:your_" ∷ codes "-ar:my_f:start" ∷ codes "a" ∷ codes "b" ∷ [])
    ≡ Ok (Convert Mac64 (record {
      edits = Underscore ∷ Prefix (codes "my_") (codes "your_") ∷ Alias (codes "my_f") (codes "start") ∷ [];
      debug = Auto;
      exceptions = Auto;
    }) (codes "a") (codes "b"))
unfolding said_by conversion_of job_of
underscores_prefix_and_alias = refl

-- ... options

-- options stand anywhere; names are cut at the first colon that ends them; an empty word is the name of a file
options_anywhere : job_of ([] ∷ codes "--keep-debug" ∷ codes "-nr:a:b:c" ∷ codes "b" ∷ codes "-nw:a:b" ∷ codes "-felf32" ∷ codes "--keep-debug" ∷ [])
    ≡ Ok (Convert Elf32 (record { edits = Rename (codes "a") (codes "b:c") ∷ Weaken (codes "a:b") ∷ []; debug = Keep; exceptions = Auto }) [] (codes "b"))
unfolding said_by conversion_of job_of
options_anywhere = refl

-- the new part of a prefix or a suffix may be empty
empty_parts : job_of (codes "-fomf" ∷ codes "-np:x:" ∷ codes "-ns:y:" ∷ codes "-ap:x:" ∷ codes "-as:y:" ∷ codes "-nl:z" ∷ codes "--strip-exceptions" ∷ codes "a" ∷ codes "b" ∷ [])
    ≡ Ok (Convert Omf (record {
      edits = Prefix (codes "x") [] ∷ Suffix (codes "y") [] ∷ AliasPrefix (codes "x") [] ∷ AliasSuffix (codes "y") [] ∷ MakeLocal (codes "z") ∷ [];
      debug = Auto;
      exceptions = Strip;
    }) (codes "a") (codes "b"))
unfolding said_by conversion_of job_of
empty_parts = refl

-- ... faults of a conversion, where the words before are good

second_target : job_of (codes "-felf32" ∷ codes "a" ∷ codes "-felf32" ∷ []) ≡ bad 2 code.SecondTarget
unfolding said_by conversion_of job_of
second_target = refl

-- a target that is no format is an unknown option, also as a second one
no_format : job_of (codes "-felf32" ∷ codes "-felf" ∷ []) ≡ bad 1 code.UnknownOption
unfolding said_by conversion_of job_of
no_format = refl

head_without_colon : job_of (codes "-nr" ∷ []) ≡ bad 0 code.BadPair
unfolding said_by conversion_of job_of
head_without_colon = refl

one_colon : job_of (codes "-nr:a" ∷ []) ≡ bad 0 code.BadPair
unfolding said_by conversion_of job_of
one_colon = refl

empty_new : job_of (codes "-ar:a:" ∷ []) ≡ bad 0 code.BadPair
unfolding said_by conversion_of job_of
empty_new = refl

empty_old : job_of (codes "-np::a" ∷ []) ≡ bad 0 code.BadPair
unfolding said_by conversion_of job_of
empty_old = refl

empty_name : job_of (codes "-nw:" ∷ []) ≡ bad 0 code.BadPair
unfolding said_by conversion_of job_of
empty_name = refl

colon_behind_a_fixed_word : job_of (codes "-nu:a" ∷ []) ≡ bad 0 code.UnknownOption
unfolding said_by conversion_of job_of
colon_behind_a_fixed_word = refl

conflict : job_of (codes "--strip-debug" ∷ codes "--keep-exceptions" ∷ codes "--keep-debug" ∷ []) ≡ bad 2 code.Conflict
unfolding said_by conversion_of job_of
conflict = refl

third_name : job_of (codes "a" ∷ codes "b" ∷ codes "a" ∷ []) ≡ bad 2 code.ExtraName
unfolding said_by conversion_of job_of
third_name = refl

no_output : job_of (codes "a" ∷ codes "-felf32" ∷ []) ≡ bad 2 code.MissingName
unfolding said_by conversion_of job_of
no_output = refl

-- the first word chooses the command; elsewhere its word is an option
listing_later : job_of (codes "-felf32" ∷ codes "-ds" ∷ codes "a" ∷ codes "b" ∷ []) ≡ bad 1 code.UnknownOption
unfolding said_by conversion_of job_of
listing_later = refl

-- ... faults of the other commands

nothing_to_list : job_of (codes "-ds" ∷ []) ≡ bad 1 code.MissingName
unfolding job_of
nothing_to_list = refl

-- behind `-ds` a word that begins with `-` is a name
two_to_list : job_of (codes "-ds" ∷ codes "-x" ∷ codes "a" ∷ []) ≡ bad 2 code.ExtraName
unfolding job_of
two_to_list = refl

leading_zero : job_of (codes "--make=02" ∷ codes "coff32" ∷ codes "b" ∷ []) ≡ bad 0 code.BadNumber
unfolding job_of
leading_zero = refl

sign_before : job_of (codes "--make=+2" ∷ []) ≡ bad 0 code.BadNumber
unfolding job_of
sign_before = refl

most : job_of (codes "--make=100000" ∷ codes "omf" ∷ codes "-x" ∷ []) ≡ Ok (Make 100000 Omf (codes "-x"))
unfolding job_of
most = refl

one_too_many : job_of (codes "--make=100001" ∷ codes "elf" ∷ []) ≡ bad 0 code.BadNumber
unfolding job_of
one_too_many = refl

no_target : job_of (codes "--make=1" ∷ []) ≡ bad 1 code.MissingTarget
unfolding job_of
no_target = refl

bad_target : job_of (codes "--make=1" ∷ codes "-felf32" ∷ codes "b" ∷ codes "c" ∷ []) ≡ bad 1 code.BadTarget
unfolding job_of
bad_target = refl

nothing_to_make : job_of (codes "--make=1" ∷ codes "elf32" ∷ []) ≡ bad 2 code.MissingName
unfolding job_of
nothing_to_make = refl

two_to_make : job_of (codes "--make=1" ∷ codes "elf32" ∷ codes "b" ∷ codes "b" ∷ []) ≡ bad 3 code.ExtraName
unfolding job_of
two_to_make = refl
