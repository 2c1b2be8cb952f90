-- Which kinds of sections are kept, computed.
use Rattle.std.proofs.Common.{◌≡◌, true, false, Bool, refl}
use Rattle.oc_base.specs.declared.format.Format.TheVariants.{Elf64, Coff32, Coff64, Omf}
use Rattle.oc_linking.specs.declared.terms.Keep.{Keep}
use Rattle.oc_names.specs.{declared.edit.Choice.TheVariants.{Strip, Keep as KeepAll}, Wishes.{no_wishes, with_debug, with_exceptions}, Kept.{keep_for}}

-- what is kept of debug, exceptions and notes
abbrev keep : Bool → Bool → Bool → Keep
keep debug exceptions notes = record { debug = debug; exceptions = exceptions; notes = notes }

-- without a choice all stays within a format, and nothing across formats; debugging information not within OMF
kept-within : keep_for no_wishes Elf64 Elf64 ≡ keep true true true
kept-within = refl

kept-across : keep_for no_wishes Coff32 Coff64 ≡ keep false false false
kept-across = refl

kept-omf : keep_for no_wishes Omf Omf ≡ keep false true true
kept-omf = refl

-- a choice decides for its kind alone, and none for notes
kept-by_choice : keep_for (with_debug (with_exceptions no_wishes KeepAll) Strip) Coff64 Elf64 ≡ keep false true false
kept-by_choice = refl

kept-debug : keep_for (with_debug no_wishes KeepAll) Omf Omf ≡ keep true true true
kept-debug = refl
