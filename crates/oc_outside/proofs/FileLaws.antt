-- What an append does to the bytes of its file, and what it leaves beside them.
use Rattle.std.proofs.Common.{◌≡◌, refl, sym, ap, subst, ◌∙◌, ℕ, List, [], take, Option, None, Some, Result, Ok, Err, unwrap_or}
use Rattle.std.specs.{Prelude.{IfOk, OnErr, IsSome}, Option.{option_map, ForSome}, FinMap.{get}}
use Rattle.std.proofs.lemmas.{Option.{same_Some, none-some}, Result.{IfOk-weaker}}
use Rattle.oc_outside.specs.{Held.{Held, file_of, extended, bytes_of, beside_of}, Texts.{grown}}
use Rattle.oc_outside.proofs.{NameLaws.{get_put_same, put_over}, TextLaws.{grown_told, grown_untold}}

-- the file is held, where files are told
abbrev pub IsThere : List ℕ → Option Held → Type 0
IsThere name files = ForSome files (λ m. IsSome (file_of name m))

some_there : (o : Option (List ℕ)) → IsSome o → Some (unwrap_or o []) ≡ o
some_there None h = cc
some_there (Some b) h = refl

pub there_extended : (name piece : List ℕ) (files now : Option Held) → now ≡ option_map (extended name piece) files → IsThere name now
there_extended name piece None now e = λ m told. absurd (none-some m (sym e ∙ told))
there_extended name piece (Some m) now e =
    λ n told.
    subst IsSome (sym (ap (λ x. get x name) (sym (same_Some _ _ (sym e ∙ told))) ∙ get_put_same (Some _) name m)) refl

pub bytes_of_extended :
    (name piece : List ℕ) (files : Option Held)
    → IsThere name files
    → bytes_of name (option_map (extended name piece) files) ≡ grown piece (bytes_of name files)
bytes_of_extended name piece None there = sym (grown_untold piece)
bytes_of_extended name piece (Some m) there =
    get_put_same (Some _) name m
    ∙ sym (grown_told piece (unwrap_or (get m name) []))
    ∙ ap (grown piece) (some_there (get m name) (there m refl))

pub beside_of_extended :
    (name piece : List ℕ) (count : ℕ) (files : Option Held)
    → beside_of name count (option_map (extended name piece) files) ≡ beside_of name count files
beside_of_extended name piece count None = refl
beside_of_extended name piece count (Some m) =
    ap (λ x. record { name = name; count = count; files = Some x; text = None }) (put_over None (Some _) name m)

-- what an `append` gave: the front of the piece stands at the end, or nothing changed
module _ {E : Type 0} (r : Result ℕ E) (name piece : List ℕ) (files now : Option Held)
    (ok : IfOk r (λ n. now ≡ option_map (extended name (take n piece)) files)) (err : OnErr r (now ≡ files)) where
  pub there_after : IsThere name files → IsThere name now
  there_after there =
      elim r as (λ x. IfOk x (λ n. now ≡ option_map (extended name (take n piece)) files) → OnErr x (now ≡ files) → IsThere name now) [
        | Ok n ↦ λ e _. there_extended name (take n piece) files now e
        | Err _ ↦ λ _ e. subst (IsThere name) (sym e) there
      ] ok err

  pub beside_after : (count count_now : ℕ) → count_now ≡ count → beside_of name count_now now ≡ beside_of name count files
  beside_after count count_now same =
      ap (λ c. beside_of name c now) same
      ∙ (elim r as (λ x. IfOk x (λ n. now ≡ option_map (extended name (take n piece)) files) → OnErr x (now ≡ files) → beside_of name count now ≡ beside_of name count files) [
        | Ok n ↦ λ e _. ap (beside_of name count) e ∙ beside_of_extended name (take n piece) count files
        | Err _ ↦ λ _ e. ap (beside_of name count) e
      ] ok err)

  pub taken_after : IsThere name files → IfOk r (λ n. bytes_of name now ≡ grown (take n piece) (bytes_of name files))
  taken_after there =
      IfOk-weaker r _ _ (λ n e. ap (bytes_of name) e ∙ bytes_of_extended name (take n piece) files there) ok
