-- Names and keys that are edited twice: the second edits leave what the first renamed.
use Rattle.std.proofs.Common.{◌≡◌, ℕ, Bool, true, false, ◌||◌, cond, List, [], ◌∷◌, ◌++◌, append-nil, Option, Some, None, refl, sym, ◌∙◌, ap, arith}
use Rattle.std.specs.{Prelude.{◌-◌}, List.{AllByRecursion, list_any}, Option.{unwrap_or}}
use Rattle.std.proofs.lemmas.Bool.{true≢false}
use Rattle.oc_base.specs.declared.format.Format.{Format}
use Rattle.oc_linking.specs.{Numbers.{or_else}, Parts.{is_local}}
use Rattle.oc_neutral.specs.declared.symbol.Symbol.{Symbol}
use Rattle.oc_names.specs.{declared.edit.Edit.{Edit}, NewNames.{final_name, has_underscores, in_habit, is_underscore, renamed, renamed_by}}
use Rattle.oc_names.specs.{Naming.{named, with_name}, Turns.{is_about, Leave, IsApart}}
use Rattle.oc_drop.specs.Steps.{first_in}

-- ... an edit that is not about a name

or_first : (a b : Bool) → a || b ≡ false → a ≡ false
or_first true b e = e
or_first false b e = refl

or_second : (a b : Bool) → a || b ≡ false → b ≡ false
or_second true b e = absurd (true≢false e)
or_second false b e = e

pub leave_first : (edit : Edit) (edits : List Edit) (name : List ℕ) → Leave (edit ∷ edits) name → is_about name edit ≡ false
leave_first edit edits name leave = or_first (is_about name edit) (list_any (is_about name) edits) leave

pub leave_rest : (edit : Edit) (edits : List Edit) (name : List ℕ) → Leave (edit ∷ edits) name → Leave edits name
leave_rest edit edits name leave = or_second (is_about name edit) (list_any (is_about name) edits) leave

-- a nonlocal symbol is apart by its name
abbrev pub IsApartSymbol : List Edit → List Edit → Symbol → Type 0
IsApartSymbol first second s = is_local s.binding ≡ false → IsApart first second s.name

-- one edit of several
pub leave_one : (edit : Edit) (edits : List Edit) (name : List ℕ) → Leave (edit ∷ edits) name → Leave (edit ∷ []) name
leave_one edit edits name leave = ap (λ b. b || false) (leave_first edit edits name leave)

pub apart_one : (first : List Edit) (edit : Edit) (edits : List Edit) (name : List ℕ) → IsApart first (edit ∷ edits) name → IsApart first (edit ∷ []) name
apart_one first edit edits name apart new is = let a = apart new is in (leave_one edit edits name a.0, leave_one edit edits new a.1)

pub apart_rest : (first : List Edit) (edit : Edit) (edits : List Edit) (name : List ℕ) → IsApart first (edit ∷ edits) name → IsApart first edits name
apart_rest first edit edits name apart new is = let a = apart new is in (leave_rest edit edits name a.0, leave_rest edit edits new a.1)

renamed_off : (name : List ℕ) (edit : Edit) → is_about name edit ≡ false → renamed_by name edit ≡ None
renamed_off name edit off = grind arith

underscore_off : (name : List ℕ) (edit : Edit) → is_about name edit ≡ false → is_underscore edit ≡ false
underscore_off name edit off = grind arith

none_renames : (edits : List Edit) (name : List ℕ) → Leave edits name → first_in (renamed_by name) edits ≡ None
none_renames [] name leave = refl
none_renames (edit ∷ edits) name leave =
    ap (λ o. or_else o (first_in (renamed_by name) edits)) (renamed_off name edit (leave_first edit edits name leave)) ∙ none_renames edits name (leave_rest edit edits name leave)

no_underscore : (edits : List Edit) (name : List ℕ) → Leave edits name → list_any is_underscore edits ≡ false
no_underscore [] name leave = refl
no_underscore (edit ∷ edits) name leave =
    ap (λ b. b || list_any is_underscore edits) (underscore_off name edit (leave_first edit edits name leave)) ∙ no_underscore edits name (leave_rest edit edits name leave)

-- ... all edits together

pub first_joined : {X Y : Type 0} (of : X → Option Y) (xs ys : List X) → first_in of (xs ++ ys) ≡ or_else (first_in of xs) (first_in of ys)
first_joined of [] ys = refl
first_joined {Y} of (x ∷ xs) ys = ap (or_else (of x)) (first_joined of xs ys) ∙ by (of x)
  where
    by : (o : Option Y) → or_else o (or_else (first_in of xs) (first_in of ys)) ≡ or_else (or_else o (first_in of xs)) (first_in of ys)
    by None = refl
    by (Some y) = refl

-- edits that leave underscores
abbrev pub ArePlain : List Edit → Type 0
ArePlain edits = AllByRecursion (λ edit. is_underscore edit ≡ false) edits

any_joined : (first second : List Edit) → ArePlain first → list_any is_underscore (first ++ second) ≡ list_any is_underscore second
any_joined [] second plain = refl
any_joined (edit ∷ first) second plain = ap (λ b. b || list_any is_underscore (first ++ second)) plain.0 ∙ any_joined first second plain.1

none_plain : (first : List Edit) → ArePlain first → list_any is_underscore first ≡ false
none_plain first plain = ap (list_any is_underscore) (sym (append-nil first)) ∙ any_joined first [] plain

module _ (from to : Format) where
  -- the name in the target's habit, where that is asked for
  abbrev habit : Bool → List ℕ → List ℕ
  habit asked name = cond asked (in_habit (has_underscores from) (has_underscores to) name) name

  -- where no edit is about a name, it is final
  pub final_same : (edits : List Edit) (name : List ℕ) → Leave edits name → final_name edits from to name ≡ name
  final_same edits name leave = ap (λ b. habit b (renamed edits name)) (no_underscore edits name leave) ∙ ap (λ o. unwrap_or o name) (none_renames edits name leave)

  -- a nonlocal symbol gets its final name, and a Local keeps its own
  pub named_local : (edits : List Edit) (s : Symbol) → is_local s.binding ≡ true → named edits from to s ≡ s
  named_local edits s local = ap (λ b. cond b s (with_name s (final_name edits from to s.name))) local

  pub named_outer : (edits : List Edit) (s : Symbol) → is_local s.binding ≡ false → named edits from to s ≡ with_name s (final_name edits from to s.name)
  named_outer edits s outer = ap (λ b. cond b s (with_name s (final_name edits from to s.name))) outer

  module _ (first : List Edit) (plain : ArePlain first) where
    final_first : (name : List ℕ) → final_name first from to name ≡ renamed first name
    final_first name = ap (λ b. habit b (renamed first name)) (none_plain first plain)

    -- the first edits leave a name, or give a new one
    pub kept_first : (name : List ℕ) → first_in (renamed_by name) first ≡ None → final_name first from to name ≡ name
    kept_first name none = final_first name ∙ ap (λ o. unwrap_or o name) none

    pub new_first : (name new : List ℕ) → first_in (renamed_by name) first ≡ Some new → final_name first from to name ≡ new
    new_first name new is = final_first name ∙ ap (λ o. unwrap_or o name) is

    -- so of a symbol
    pub named_kept : (s : Symbol) → first_in (renamed_by s.name) first ≡ None → named first from to s ≡ s
    named_kept s none = ap (λ name. cond (is_local s.binding) s (with_name s name)) (kept_first s.name none) ∙ by (is_local s.binding)
      where
        by : (b : Bool) → cond b s (with_name s s.name) ≡ s
        by true = refl
        by false = refl

    pub named_new : (s : Symbol) (new : List ℕ) → is_local s.binding ≡ false → first_in (renamed_by s.name) first ≡ Some new → named first from to s ≡ with_name s new
    named_new s new outer is = named_outer first s outer ∙ ap (with_name s) (new_first s.name new is)

    -- all edits together

    module _ (second : List Edit) where
      both_by : (name : List ℕ) (o : Option (List ℕ)) → first_in (renamed_by name) first ≡ o
          → final_name (first ++ second) from to name ≡ habit (list_any is_underscore second) (unwrap_or (or_else o (first_in (renamed_by name) second)) name)
      both_by name o is =
          ap (λ b. habit b (renamed (first ++ second) name)) (any_joined first second plain)
          ∙ ap (λ p. habit (list_any is_underscore second) (unwrap_or p name)) (first_joined (renamed_by name) first second ∙ ap (λ p. or_else p (first_in (renamed_by name) second)) is)

      pub kept_both : (name : List ℕ) → first_in (renamed_by name) first ≡ None → final_name (first ++ second) from to name ≡ final_name second from to name
      kept_both name none = both_by name None none

      pub new_both : (name new : List ℕ) → first_in (renamed_by name) first ≡ Some new → Leave second name → final_name (first ++ second) from to name ≡ new
      new_both name new is leave = both_by name (Some new) is ∙ ap (λ b. habit b new) (no_underscore second name leave)

      final_twice : (name : List ℕ) → IsApart first second name → final_name (first ++ second) from to name ≡ final_name second from to (final_name first from to name)
      final_twice name apart = by (first_in (renamed_by name) first) refl
        where
          by : (o : Option (List ℕ)) → first_in (renamed_by name) first ≡ o → final_name (first ++ second) from to name ≡ final_name second from to (final_name first from to name)
          by None is = kept_both name is ∙ ap (final_name second from to) (sym (kept_first name is))
          by (Some new) is =
              let leave = apart new is in
              new_both name new is leave.0 ∙ sym (final_same second new leave.1) ∙ ap (final_name second from to) (sym (new_first name new is))

      pub named_twice : (s : Symbol) → IsApartSymbol first second s → named (first ++ second) from to s ≡ named second from to (named first from to s)
      named_twice s apart = by (is_local s.binding) refl
        where
          by : (b : Bool) → is_local s.binding ≡ b → named (first ++ second) from to s ≡ named second from to (named first from to s)
          by true e = named_local (first ++ second) s e ∙ sym (named_local second s e) ∙ ap (named second from to) (sym (named_local first s e))
          by false e =
              named_outer (first ++ second) s e
              ∙ ap (with_name s) (final_twice s.name (apart e))
              ∙ sym (named_outer second (with_name s (final_name first from to s.name)) e)
              ∙ ap (named second from to) (sym (named_outer first s e))
