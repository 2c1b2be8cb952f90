-- What is made is an object.
use Rattle.std.proofs.Common.{◌≡◌, ℕ, zero, suc, ◌+◌, ◌*◌, ◌%◌, ◌<◌, ◌≤◌, min, List, [], ◌∷◌, length, Some, refl, subst, arith}
use Rattle.std.specs.{Prelude.{negsuc, slice_get}, List.{AllByRecursion}}
use Rattle.std.proofs.lemmas.Option.{none-some, same_Some}
use Rattle.oc_base.specs.{declared.format.Word.{Word}, declared.format.Word.TheVariants.{W32, W64}, Formats.{word_for}}
use Rattle.oc_linking.specs.Numbers.{modulus}
use Rattle.oc_algebra.specs.Residues.{reduced_number, residue_of}
use Rattle.oc_chains.specs.{declared.field.Field.{Field}, Fields.{FollowFrom}, Lists.{list_of}}
use Rattle.oc_neutral.specs.{declared.reloc.Reloc.{Reloc}, declared.section.Section.{Section}}
use Rattle.oc_neutral.specs.Invariants.{IsBuilt, IsComplete, IsHeld, IsHinted, IsNormal, IsObject, IsSection, IsSymbol, HoldsFields, NamesOriginal}
use Rattle.oc_neutral.specs.Objects.{Object}
use Rattle.oc_made.specs.Functions.{call, calls_of, elf_format, code_of, function_symbol, made_object, outside_symbol, symbols_of, text_section}
use Rattle.oc_made.proofs.CallLemmas.{all_calls, callee_low, calls_follow, length-calls_of, outsider_low}
use Rattle.oc_made.proofs.{CodeLemmas.{code_bytes, first_blank, length-code_of, second_blank}, NameLemmas.{number_bytes}}
use Rattle.oc_made.proofs.SymbolLemmas.{all_symbols, length-symbols_of, names_differ, no_place, original_at}

-- the list of the one section
pub one_list : (P : List (Field Reloc) → Type 0) (fields : List (Field Reloc)) → P fields → P [] → (s : ℕ) → P (list_of (fields ∷ []) s)
one_list P fields p q zero = p
one_list P fields p q (suc s) = q

module _ (count : ℕ) (w : Word) (few : count ≤ 100000) where
  -- the object, part by part
  abbrev n : Object
  n = record {
    format = elf_format w;
    groups = [];
    sections = text_section count ∷ [];
    symbols = symbols_of count;
    relocs = calls_of w count ∷ [];
  }

  -- the section is one
  section_is : IsSection (text_section count)
  section_is = record {
    name = (omega arith, (omega arith, (omega arith, (omega arith, (omega arith, tt)))));
    bytes = code_bytes count;
    tag = omega arith;
    number = omega arith;
  }

  -- every word has room for 0
  zero_fits : (v : Word) → 0 < modulus v
  zero_fits W32 = omega arith
  zero_fits W64 = omega arith

  -- the symbols of functions are symbols
  function_is : (i : ℕ) → i < count → IsSymbol n (function_symbol i)
  function_is i low = record {
    named = λ e. absurd (cc e);
    name = (omega arith, (omega arith, number_bytes i (omega (arith, low, few))));
    binding = (text_section count, refl, omega (arith, low));
    size = zero_fits (word_for n.format);
    number = omega (arith, low, few);
  }

  -- and those outside
  outside_is : (k : ℕ) → k < min count 10 → IsSymbol n (outside_symbol count k)
  outside_is k low = record {
    named = λ e. absurd (cc e);
    name = (omega arith, (omega arith, number_bytes k (omega (arith, low))));
    binding = tt;
    size = zero_fits (word_for n.format);
    number = omega (arith, low, few);
  }

  -- what is called is there
  first_there : (i : ℕ) → i < count → (5 * i + 1) % count < length (symbols_of count)
  first_there i low = let l = callee_low count i low in let e = length-symbols_of count in omega (arith, l, e)

  second_there : (i : ℕ) → i < count → count + i % 10 < length (symbols_of count)
  second_there i low = let l = outsider_low count i low in let e = length-symbols_of count in omega (arith, l, e)

  -- the addend is reduced
  reduced : (v : Word) → reduced_number (word_for (elf_format v)) (negsuc 3) ≡ negsuc 3
  unfolding reduced_number residue_of
  reduced W32 = refl
  reduced W64 = refl

  -- a call is in normal form
  call_is : (k : ℕ) → k < length (symbols_of count) → IsNormal n 0 (call w k)
  call_is k there = record {
    target = there;
    less = tt;
    reduced = reduced w;
    against = no_place count k;
    varies = refl;
    placed = refl;
  }

  -- each call is held
  calls_held : AllByRecursion (IsHeld n 0 (code_of count)) (calls_of w count)
  calls_held = all_calls w count (IsHeld n 0 (code_of count)) (λ i low. let size = length-code_of count in (
    record {
      width = refl;
      inside = omega (arith, size, low);
      blank = λ j few. first_blank count i j low few;
      normal = call_is ((5 * i + 1) % count) (first_there i low);
    },
    record {
      width = refl;
      inside = omega (arith, size, low);
      blank = λ j few. second_blank count i j low few;
      normal = call_is (count + i % 10) (second_there i low);
    },
  ))

  fields_held : HoldsFields n
  fields_held = record {
    counted = refl;
    each = by;
    apart = one_list (FollowFrom 0) (calls_of w count) (calls_follow w count few) (omega arith);
  }
    where
      by : (s : ℕ) (x : Section) → slice_get n.sections s ≡ Some x → AllByRecursion (IsHeld n s x.bytes) (list_of n.relocs s)
      by zero x here = subst (λ (y : Section). AllByRecursion (IsHeld n 0 y.bytes) (calls_of w count)) (same_Some (text_section count) x here) calls_held
      by (suc s) x here = absurd (none-some x here)

  built : IsBuilt n
  built = record {
    bytes = (length-code_of count, tt);
    groups = tt;
    sections = (section_is, tt);
    members = (tt, tt);
    limits = record { each = (omega (arith, few), tt); sum = omega (arith, few); bytes = omega (arith, few) };
    distinct = names_differ count few;
    fields = fields_held;
    few = record {
      groups = omega arith;
      sections = omega arith;
      symbols = let e = length-symbols_of count in omega (arith, e, few);
      relocs = let e = length-calls_of w count in omega (arith, e, few);
    };
  }

  complete : IsComplete n
  complete = record {
    keys = record { differ = λ i j g h l a b. absurd (none-some g a); full = tt };
    begun = (tt, refl);
    aligns = ((4, omega arith, refl), tt);
    symbols = all_symbols count (IsSymbol n) function_is outside_is;
    hints = one_list (AllByRecursion (λ (x : Field Reloc). IsHinted x.item)) (calls_of w count)
        (all_calls w count (λ (x : Field Reloc). IsHinted x.item) (λ i low. (λ e. absurd (cc e), λ e. absurd (cc e)))) tt;
    originals = one_list (AllByRecursion (λ (x : Field Reloc). NamesOriginal (symbols_of count) x.item.target)) (calls_of w count)
        (all_calls w count (λ (x : Field Reloc). NamesOriginal (symbols_of count) x.item.target)
        (λ i low. (original_at count ((5 * i + 1) % count) (first_there i low), original_at count (count + i % 10) (second_there i low)))) tt;
  }

  -- it is one
  pub made_is_object : IsObject (made_object count w)
  unfolding made_object
  made_is_object = record { built = built; complete = complete }
