-- A small object of ELF can be fitted to every format of its word.
use Rattle.std.proofs.Common.{◌≡◌, ◌≢◌, refl, ℕ, zero, suc, true, false, true≢false, List, [], ◌∷◌, length, Some, Result, Ok, Err, IfOk, sym, subst, ◌∙◌, ap, arith, codes}
use Rattle.std.specs.{Prelude.{slice_get}, List.{AllByRecursion}}
use Rattle.std.proofs.lemmas.Option.{none-some, same_Some}
use Rattle.oc_base.specs.{declared.format.Format.{Format}, declared.format.Word.{Word}, declared.format.Word.TheVariants.{W32, W64}, Formats.{word_for}}
use Rattle.oc_linking.specs.{declared.terms.Kind.{Kind}, declared.terms.Kind.TheVariants.{Code, Init, Exception, Note}}
use Rattle.oc_neutral.specs.{declared.section.Section.{Section}, Elf.Family.{elf_gives}, Elf.Kinds.{elf_kind}, GivenTags.{can_have, is_blank_type}}
use Rattle.oc_neutral.specs.Objects.{Object}
use Rattle.oc_target.specs.Fitted.{CanFit}
use Rattle.oc_shows.specs.Readable.{IsReadable}
use Rattle.tests_object.specs.Elf.{IsGiven, elf_of}

-- a section of a name, a kind and a tag that reading can give
given_by : {E : Type 0} (made : Result Section E) (name : List ℕ) (kind : Kind) (tag : ℕ) → ((w : Word) → can_have (elf_of w) kind name tag ≡ true) → ((w : Word) → is_blank_type (elf_of w) tag ≡ false) → kind ≢ Note
    → IfOk made (λ s. s.name ≡ name) → IfOk made (λ s. s.kind ≡ kind) → IfOk made (λ s. s.tag ≡ tag) → IfOk made IsGiven
given_by (Err e) name kind tag gives full kept is_name is_kind is_tag = tt
given_by (Ok s) name kind tag gives full kept is_name is_kind is_tag = record {
  gives = λ w. ap (λ k. can_have (elf_of w) k s.name s.tag) is_kind ∙ ap (λ n. can_have (elf_of w) kind n s.tag) is_name ∙ ap (can_have (elf_of w) kind name) is_tag ∙ gives w;
  full = λ w. ap (is_blank_type (elf_of w)) is_tag ∙ full w;
  kept = λ e. kept (sym is_kind ∙ e);
}

module _ {E : Type 0} (made : Result Section E) where
  pub code_given : IfOk made (λ s. s.name ≡ codes ".text.long") → IfOk made (λ s. s.kind ≡ Code) → IfOk made (λ s. s.tag ≡ 14) → IfOk made IsGiven
  unfolding elf_gives elf_kind
  code_given = given_by made (codes ".text.long") Code 14 gives full (λ e. kept e)
    where
      gives : (w : Word) → can_have (elf_of w) Code (codes ".text.long") 14 ≡ true
      gives W32 = refl
      gives W64 = refl

      full : (w : Word) → is_blank_type (elf_of w) 14 ≡ false
      full W32 = refl
      full W64 = refl

      kept : Code ≢ Note
      kept e = cc

  pub init_given : IfOk made (λ s. s.name ≡ codes ".init_array") → IfOk made (λ s. s.kind ≡ Init) → IfOk made (λ s. s.tag ≡ 115) → IfOk made IsGiven
  unfolding elf_gives elf_kind
  init_given = given_by made (codes ".init_array") Init 115 gives full (λ e. kept e)
    where
      gives : (w : Word) → can_have (elf_of w) Init (codes ".init_array") 115 ≡ true
      gives W32 = refl
      gives W64 = refl

      full : (w : Word) → is_blank_type (elf_of w) 115 ≡ false
      full W32 = refl
      full W64 = refl

      kept : Init ≢ Note
      kept e = cc

  pub exception_given : IfOk made (λ s. s.name ≡ codes ".eh_frame") → IfOk made (λ s. s.kind ≡ Exception) → IfOk made (λ s. s.tag ≡ 10) → IfOk made IsGiven
  unfolding elf_gives elf_kind
  exception_given = given_by made (codes ".eh_frame") Exception 10 gives full (λ e. kept e)
    where
      gives : (w : Word) → can_have (elf_of w) Exception (codes ".eh_frame") 10 ≡ true
      gives W32 = refl
      gives W64 = refl

      full : (w : Word) → is_blank_type (elf_of w) 10 ≡ false
      full W32 = refl
      full W64 = refl

      kept : Exception ≢ Note
      kept e = cc

module _ (w : Word) (n : Object) (x : Section) (format : n.format ≡ elf_of w) (only : n.sections ≡ x ∷ []) (given : IsGiven x) where
  alone_at : (k : ℕ) (s : Section) → slice_get n.sections k ≡ Some s → s ≡ x
  alone_at k s at = by k (sym (ap (λ ss. slice_get ss k) only) ∙ at)
    where
      by : (k : ℕ) → slice_get (x ∷ []) k ≡ Some s → s ≡ x
      by zero at = sym (same_Some x s at)
      by (suc k) at = absurd (none-some s at)

  readable : IsReadable n
  readable = record {
    tags = subst (λ ss. AllByRecursion (λ (s : Section). can_have n.format s.kind s.name s.tag ≡ true) ss) (sym only) (ap (λ f. can_have f x.kind x.name x.tag) format ∙ given.gives w, tt);
    blanks = λ k s at typed. absurd (true≢false (sym typed ∙ ap (λ f. is_blank_type f s.tag) format ∙ ap (λ (s : Section). is_blank_type (elf_of w) s.tag) (alone_at k s at) ∙ given.full w));
  }

  word_is : (w : Word) → w ≡ word_for (elf_of w)
  word_is W32 = refl
  word_is W64 = refl

  pub can_fit : (target : Format) → word_for target ≡ w → length n.symbols ≡ 1 → CanFit target n
  can_fit target same one = record {
    word = same ∙ word_is w ∙ ap word_for (sym format);
    few_symbols = omega (arith, one);
    notes = λ k s at note. absurd (given.kept (sym (ap (λ (s : Section). s.kind) (alone_at k s at)) ∙ note));
    readable = readable;
  }
