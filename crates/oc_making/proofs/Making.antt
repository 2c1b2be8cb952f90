-- What is made is refused by no conversion.
use Rattle.std.proofs.Common.{◌≡◌, ℕ, ◌≤◌, true, false, cond, List, [], ◌∷◌, length, Some, None, Ok, refl, sym, ◌∙◌, ap, subst, arith}
use Rattle.std.proofs.lemmas.{Bool.{true≢false}, List.Sums.{sum_by-cons}}
use Rattle.oc_base.specs.{declared.code.Code.TheVariants.{WordSize}, declared.format.Word.{Word}, declared.format.Format.{Format}}
use Rattle.oc_base.specs.declared.format.Format.TheVariants.{Elf32, Elf64, Coff32, Coff64, Mac32, Mac64, Omf, BigElf32, BigElf64, BigCoff32, BigCoff64}
use Rattle.oc_base.specs.Formats.{word_for}
use Rattle.oc_linking.specs.{declared.terms.Keep.{Keep}, Keeping.{keeps}, Numbers.{or_else}}
use Rattle.oc_neutral.specs.{declared.section.Section.{Section}, Dialects.{Dialect}, Families.{is_many, same_word}, Objects.{Object}}
use Rattle.oc_neutral.specs.{declared.reloc.Reloc.{Reloc}, Building.{stored_size, stored_sum}}
use Rattle.oc_shows.specs.{Computed.{object_in}, Seen.{seen}}
use Rattle.oc_target.specs.Fitted.{IsFitted}
use Rattle.oc_names.specs.{Wishes.{no_wishes}, Edited.{edited}, Kept.{keep_for}}
use Rattle.oc_equations.specs.Edited.{refusal_after_reading}
use Rattle.oc_equations.proofs.LawProofs.{refusal_is_least}
use Rattle.oc_convert.specs.Refusals.{first_refusal, kept_of_file}
use Rattle.oc_convert.specs.Dispatched.{dispatch_refusal, refusal_from, header_refusal}
use Rattle.oc_built.specs.Built.{built, reader_of}
use Rattle.oc_canonical.proofs.FirstBytes.{elf_known}
use Rattle.oc_elf.specs.{declared.class.ElfClass.{ElfClass}, declared.class.ElfClass.TheVariants.{Class32, Class64}, Classes.{format_of}, Elf.{elf_dialect}}
use Rattle.oc_elf_file.specs.Canonical.{elf_file}
use Rattle.oc_made.specs.{Files.{class_for, made_bytes}, Functions.{calls_of, elf_format, made_object, symbols_of, text_section}}
use Rattle.oc_made.proofs.{ReadyElf.{made_is_fitted}, CallLemmas.{length-calls_of}, SymbolLemmas.{length-symbols_of, names_short}}
use Rattle.oc_names.proofs.Unedited.{nothing_edited}
use Rattle.std.specs.Prelude.{slice_get, sum_by}
use Rattle.oc_chains.specs.declared.field.Field.{Field}
use Rattle.oc_elf_file.proofs.{CodedLaws.{for_elf}, FileSize.{file_size}}
use Rattle.oc_making.specs.Making.{MadeIsAccepted, MadeIsShort}
use Rattle.oc_making.proofs.{Expressible.{made_is_expressible}, ElfOwn.{elf_good, elf_object}, SeenMade.{seen_made}}

module _ (to : Format) (count : ℕ) (many : is_many to ≡ false) (few : count ≤ 100000) (class : ElfClass) (same : made_bytes count (word_for to) ≡ elf_file class (made_object count (word_for to))) (own : elf_format (word_for to) ≡ format_of class)
    (reader : reader_of (format_of class) ≡ elf_dialect class) (words : same_word (word_for (format_of class)) (word_for to) ≡ true) (code : keeps (kept_of_file no_wishes (elf_dialect class) to) (text_section count).kind ≡ true) where
  abbrev n : Object
  n = made_object count (word_for to)

  abbrev b : List ℕ
  b = elf_file class n

  abbrev keep : Keep
  keep = kept_of_file no_wishes (elf_dialect class) to

  fits : IsFitted (format_of class) n
  fits = subst (λ f. IsFitted f n) own (made_is_fitted count few (word_for to))

  kept : (k : ℕ) (s : Section) → slice_get n.sections k ≡ Some s → keeps keep s.kind ≡ true
  unfolding made_object
  kept k s here = grind arith

  kept_seen : (k : ℕ) (s : Section) → slice_get (seen n).sections k ≡ Some s → keeps keep s.kind ≡ true
  kept_seen k s here = kept k s (sym (ap (λ (m : Object). slice_get m.sections k) (seen_made count (word_for to) few)) ∙ here)

  unedited : edited no_wishes to n ≡ Ok n
  unedited = nothing_edited no_wishes to n fits.object refl (λ k s here. ap (λ f. keeps (keep_for no_wishes f to) s.kind) fits.format ∙ kept k s here) fits.few_symbols

  object : object_in (elf_dialect class) b keep ≡ n
  object = elf_object class n fits keep kept_seen ∙ seen_made count (word_for to) few

  accepted : first_refusal no_wishes (elf_dialect class) to b ≡ None
  accepted =
      ap (λ o. or_else o (refusal_after_reading no_wishes to (object_in (elf_dialect class) b keep))) (elf_good class n fits keep kept_seen)
      ∙ ap (refusal_after_reading no_wishes to) object
      ∙ (refusal_is_least no_wishes to n fits.object).target n unedited
      ∙ made_is_expressible to count many few

  all_accepted : dispatch_refusal built no_wishes to (made_bytes count (word_for to)) ≡ None
  unfolding built
  all_accepted =
      ap (dispatch_refusal built no_wishes to) same
      ∙ ap (refusal_from built no_wishes to b) (elf_known class n (for_elf class n fits))
      ∙ ap (λ t. or_else (cond t None (Some (header_refusal WordSize))) (first_refusal no_wishes (reader_of (format_of class)) to b)) words
      ∙ ap (λ (f : Dialect). first_refusal no_wishes f to b) reader
      ∙ accepted

pub made_is_accepted : MadeIsAccepted
made_is_accepted Elf32 count many few = all_accepted Elf32 count refl few Class32 refl refl refl refl refl
made_is_accepted Elf64 count many few = all_accepted Elf64 count refl few Class64 refl refl refl refl refl
made_is_accepted Coff32 count many few = all_accepted Coff32 count refl few Class32 refl refl refl refl refl
made_is_accepted Coff64 count many few = all_accepted Coff64 count refl few Class64 refl refl refl refl refl
made_is_accepted Mac32 count many few = all_accepted Mac32 count refl few Class32 refl refl refl refl refl
made_is_accepted Mac64 count many few = all_accepted Mac64 count refl few Class64 refl refl refl refl refl
made_is_accepted Omf count many few = all_accepted Omf count refl few Class32 refl refl refl refl refl
made_is_accepted BigElf32 count many few = absurd (true≢false many)
made_is_accepted BigElf64 count many few = absurd (true≢false many)
made_is_accepted BigCoff32 count many few = all_accepted BigCoff32 count refl few Class32 refl refl refl refl refl
made_is_accepted BigCoff64 count many few = all_accepted BigCoff64 count refl few Class64 refl refl refl refl refl

class_is : (v : Word) → format_of (class_for v) ≡ elf_format v
class_is v = grind arith

module _ (w : Word) (count : ℕ) (few : count ≤ 100000) where
  abbrev made : Object
  made = record { format = elf_format w; groups = []; sections = text_section count ∷ []; symbols = symbols_of count; relocs = calls_of w count ∷ [] }

  fitted : IsFitted (format_of (class_for w)) made
  unfolding made_object
  fitted = subst (λ f. IsFitted f made) (sym (class_is w)) (made_is_fitted count few w)

  stored_few : stored_sum (text_section count ∷ []) ≤ 1600000
  stored_few = let a = sum_by-cons stored_size (text_section count) [] in omega (arith, a, few)

  calls_few : sum_by length (calls_of w count ∷ []) ≤ 200000
  calls_few = let a = sum_by-cons {X = List (Field Reloc)} length (calls_of w count) [] in let b = length-calls_of w count in omega (arith, a, b, few)

  symbols_few : length (symbols_of count) ≤ 100010
  symbols_few = let s = length-symbols_of count in omega (arith, s, few)

  short : length (elf_file (class_for w) made) ≤ 67108864
  short =
      let size = file_size (class_for w) made (for_elf (class_for w) made fitted) in
      omega (arith, size, stored_few, symbols_few, names_short count few, calls_few)

pub made_is_short : MadeIsShort
unfolding made_object
made_is_short w count few = short w count few
