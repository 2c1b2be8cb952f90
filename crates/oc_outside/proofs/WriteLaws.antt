-- A file that is created and then written through a sink holds what the sink took.
use Rattle.std.proofs.Common.{◌≡◌, refl, sym, ap, subst, ◌∙◌, inr, ℕ, List, [], take, Option, None, Some, Result}
use Rattle.std.specs.{Prelude.{OnOk, OnErr, IsSome}, FinMap.{get}, Option.{option_map}}
use Rattle.std.proofs.lemmas.{Option.{same_Some, none-some}, Result.{on_ok_weaker, on_err_weaker}}
use Rattle.oc_outside.specs.{Held.{Held, emptied, with_file, without_file, bytes_of, beside_of, HasPart}, Texts.{grown, TakesPrefix}}
use Rattle.oc_outside.proofs.{NameLaws.{get_put_same, put_over, put_joined}, TextLaws.{grown_told}, FileLaws.{IsThere}}

pub there_emptied : (name : List ℕ) (files now : Option Held) → now ≡ option_map (emptied name) files → IsThere name now
there_emptied name None now e = λ m told. absurd (none-some m (sym e ∙ told))
there_emptied name (Some m) now e =
    λ n told. subst IsSome (sym (ap (λ x. get x name) (sym (same_Some _ _ (sym e ∙ told))) ∙ get_put_same (Some []) name m)) refl

written_at :
    (name part : List ℕ) (before now : Option Held)
    → option_map (without_file name) now ≡ option_map (without_file name) (option_map (emptied name) before)
    → bytes_of name now ≡ grown part (bytes_of name (option_map (emptied name) before))
    → now ≡ option_map (with_file name part) before
written_at name part None None rest bytes = refl
written_at name part None (Some n) rest bytes = cc
written_at name part (Some m) None rest bytes = cc
written_at name part (Some m) (Some n) rest bytes =
    ap Some (put_joined (Some part) name m n
    (bytes ∙ ap (grown part) (get_put_same (Some []) name m) ∙ grown_told part [])
    (same_Some _ _ rest ∙ put_over None (Some []) name m))

-- the files as they were, as created, as the sink leaves them and as they are at the end;
-- the name as it was given, as the sink has it and as it leaves it
module _ {E : Type 0} (r : Result (Unit {0}) E) (before made now at_end : Option Held) (name n1 n2 bytes : List ℕ) (c1 c2 : ℕ)
    (end : at_end ≡ now) (created : made ≡ option_map (emptied name) before) (named : n1 ≡ name)
    (beside : beside_of n2 c2 now ≡ beside_of n1 c1 made) where
  name_stays : n2 ≡ name
  name_stays = ap (λ b. b.name) beside ∙ named

  written : (part : List ℕ) → bytes_of n2 now ≡ grown part (bytes_of n1 made) → at_end ≡ option_map (with_file name part) before
  written part took =
      end
      ∙ written_at name part before now
      (ap (λ q. option_map (without_file q) now) (sym name_stays)
      ∙ ap (λ b. b.files) beside
      ∙ ap (λ q. option_map (without_file q) made) named
      ∙ ap (option_map (without_file name)) created)
      (ap (λ q. bytes_of q now) (sym name_stays)
      ∙ took
      ∙ ap (λ q. grown part (bytes_of q made)) named
      ∙ ap (λ h. grown part (bytes_of name h)) created)

  pub wrote_all :
      OnOk r (bytes_of n2 now ≡ grown bytes (bytes_of n1 made))
      → OnOk r (at_end ≡ option_map (with_file name bytes) before)
  wrote_all took = on_ok_weaker r (written bytes) took

  pub wrote_part :
      OnErr r (TakesPrefix bytes (bytes_of n1 made) (bytes_of n2 now))
      → OnErr r (HasPart name bytes before at_end)
  wrote_part took = on_err_weaker r (λ h. inr (h.0, h.1, written (take h.0 bytes) h.2)) took
