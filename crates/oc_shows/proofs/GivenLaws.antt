-- What is given for a file are its fields, each free or given.
use Rattle.std.proofs.Common.{◌≡◌, ℕ, ◌⊎◌, true, List, Some, ◌∙◌, arith}
use Rattle.std.proofs.lemmas.Bool.{true≢false}
use Rattle.oc_linking.specs.{declared.terms.Base.{Base}, declared.terms.Keep.{Keep}, declared.terms.Less.{Less}, Rules.{Field}}
use Rattle.oc_linking.specs.declared.terms.Base.TheVariants as base
use Rattle.oc_linking.specs.declared.terms.Less.TheVariants as less
use Rattle.oc_neutral.specs.{declared.reloc.Reloc.{Reloc}, declared.reloc.Target.{Target}, Dialects.{Dialect, kept_fields, target_by}, Normal.{cancels}}
use Rattle.oc_neutral.specs.Objects.{Object}
use Rattle.oc_neutral.specs.declared.reloc.Target.TheVariants as target
use Rattle.oc_shows.specs.Built.{AreOfFile, DifferencesFit, RelocMap, IsField, IsFree, IsGiven}

-- what takes no section is no difference
pub no_difference : (b : Base) (t : Target) (l : Less) → ((k : ℕ) → l ≡ less.Section k → ⊥) → cancels b t l ≡ true → ⊥
no_difference b t l none e = grind arith

module _ (f : Dialect) (b : List ℕ) (keep : Keep) (n : Object) (given : RelocMap) (each : (s at : ℕ) → IsFree f b keep given s at ⊎ IsGiven f b keep n given s at) where
  -- what is given is a field
  pub are_of_file : AreOfFile f b keep n given
  are_of_file s at r e = by (each s at)
    where
      by : IsFree f b keep given s at ⊎ IsGiven f b keep n given s at → (x : Field) × (kept_fields f b keep s at ≡ Some x) × IsField f b keep n s at r x
      by x = grind arith

  -- each field is given
  pub field_given : (s at : ℕ) (x : Field) → kept_fields f b keep s at ≡ Some x → (r : Reloc) × (given s at ≡ Some r) × IsField f b keep n s at r x
  field_given s at x e = by (each s at)
    where
      by : IsFree f b keep given s at ⊎ IsGiven f b keep n given s at → (r : Reloc) × (given s at ≡ Some r) × IsField f b keep n s at r x
      by x = grind arith

  -- where none takes a section, none is a difference
  pub differences_fit : ((s at : ℕ) (r : Reloc) → given s at ≡ Some r → (k : ℕ) → r.form.less ≡ less.Section k → ⊥) → DifferencesFit f b keep
  differences_fit takes_none s at x e difference =
      let p = field_given s at x e in absurd (no_difference x.base (target_by x.target) x.less (λ k same. takes_none s at p.0 p.1 k (p.2.less ∙ same)) difference)
