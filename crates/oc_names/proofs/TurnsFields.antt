-- Relocations that are brought to normal form twice: under some symbols, and then under others that keep the places of Locals.
use Rattle.std.proofs.Common.{◌≡◌, ℕ, zero, suc, ◌+◌, ◌/◌, ◌%◌, ◌<◌, ◌≤◌, Bool, true, false, cond, List, [], ◌∷◌, set, Option, Some, None, Result, Ok, Err, refl, sym, ◌∙◌, ap, arith}
use Rattle.std.specs.{Prelude.{ℤ}, List.{AllByRecursion, filter_map, cons_option}}
use Rattle.std.proofs.lemmas.List.{set_comm}
use Rattle.oc_base.specs.{declared.code.Code.TheVariants.{FoldTooWide}, declared.format.Word.{Word}, Formats.{word_for}}
use Rattle.oc_linking.specs.{Fits.{bytes_of}, Numbers.{or_else}}
use Rattle.oc_algebra.specs.{declared.fields.AddendTooWide.{AddendTooWide}, Residues.{reduced_number}}
use Rattle.oc_algebra.proofs.Laws.{reduced_reduced}
use Rattle.oc_chains.specs.{declared.field.Field.{Field}, Fields.{FollowFrom, end_of}}
use Rattle.oc_neutral.specs.{declared.section.Section.{Section}, declared.symbol.Symbol.{Symbol}, declared.reloc.Target.{Target}, declared.reloc.Reloc.{Reloc}}
use Rattle.oc_neutral.specs.{declared.normal.Normal.{Normal}, Objects.{Object}}
use Rattle.oc_neutral.specs.{Normal.{Place, at_section, by_section, cancels, folded, normal_of, place_among, takes_section, by_place}, Building.{written}}
use Rattle.oc_neutral.specs.Invariants.{IsNormal}
use Rattle.oc_neutral.specs.declared.reloc.Target.TheVariants as target
use Rattle.oc_neutral.specs.declared.normal.Normal.TheVariants as normal
use Rattle.oc_drop.specs.Steps.{edit_fault, first_in}
use Rattle.oc_names.specs.Rebinding.{fault_of, field_of, kept_field, left_in, section_of, stored_fault, stored_number, unfit_fault, with_constant, with_stored}
use Rattle.oc_neutral.proofs.LeftParts.{section_free}
use Rattle.oc_names.proofs.NormalFields.{IsWide, folded_in}

-- ... one relocation

-- each place of a Local stays
abbrev pub KeepsPlaces : List Symbol → List Symbol → Type 0
KeepsPlaces xs zs = (t : Target) (p : Place) → place_among xs t ≡ Some p → place_among zs t ≡ Some p

-- what the first symbols leave of a field: the field itself, or what the second leave, which is then left by them of that too
pub data IsLeftTwice (w : Word) (xs zs : List Symbol) (k : ℕ) (x : Field Reloc) : Type 0 where
  LeftSame : left_in w xs k x ≡ normal.Kept x.item → IsLeftTwice w xs zs k x
  LeftConstant : (c : ℤ) → left_in w xs k x ≡ normal.Constant c → left_in w zs k x ≡ normal.Constant c → IsLeftTwice w xs zs k x
  LeftMoved : (q : Reloc) → left_in w xs k x ≡ normal.Kept q → left_in w zs k x ≡ normal.Kept q → normal_of w zs k x.at q ≡ normal.Kept q → IsLeftTwice w xs zs k x

module _ (w : Word) (xs zs : List Symbol) (keeps : KeepsPlaces xs zs) (n : Object) (word : word_for n.format ≡ w) (k : ℕ) where
  -- a relocation from which its own section is not taken
  unplaced : (at : ℕ) (r : Reloc) → takes_section k r.form.less ≡ false → folded w k at r ≡ cond (cancels r.form.base r.target r.form.less) (normal.Constant r.addend) (normal.Kept r)
  unfolding folded
  unplaced at r free = ap (λ b. cond (cancels r.form.base r.target r.form.less) (normal.Constant r.addend) (cond b (normal.Kept (by_place w at r)) (normal.Kept r))) free

  -- one in normal form that names no Local with a place
  stays : (r : Reloc) → IsNormal n k r → place_among xs r.target ≡ None → by_section w xs r ≡ r
  unfolding by_section
  stays r is none =
      ap (at_section w r) none
      ∙ ap (λ a. record { target = r.target; form = r.form; addend = a; hint = r.hint }) (ap (λ v. reduced_number v r.addend) (sym word) ∙ is.reduced)

  -- one against the section of a Local's place
  sectioned : (ys : List Symbol) (r : Reloc) (p : Place) → place_among ys r.target ≡ Some p → by_section w ys r ≡ at_section w r (Some p)
  unfolding by_section
  sectioned ys r p is = ap (at_section w r) is

  again : (ys : List Symbol) (r : Reloc) (p : Place) → by_section w ys (at_section w r (Some p)) ≡ at_section w r (Some p)
  unfolding by_section
  again ys r p =
      ap (at_section w (at_section w r (Some p))) (section_free ys p.0)
      ∙ ap (λ a. record { target = target.Section p.0; form = r.form; addend = a; hint = r.hint }) (reduced_reduced w _)

  module _ (x : Field Reloc) (is : IsNormal n k x.item) where
    -- what is left of a relocation against that section
    pub left_twice : IsLeftTwice w xs zs k x
    left_twice = by (place_among xs x.item.target) refl
      where
        by : (o : Option Place) → place_among xs x.item.target ≡ o → IsLeftTwice w xs zs k x
        by None none = LeftSame (
            ap (folded w k x.at) (stays x.item is none)
            ∙ unplaced x.at x.item is.placed
            ∙ ap (λ b. cond b (normal.Constant x.item.addend) (normal.Kept x.item)) is.varies)
        by (Some p) here = left (cancels r.form.base r.target r.form.less) refl
          where
            r : Reloc
            r = at_section w x.item (Some p)

            one : left_in w xs k x ≡ folded w k x.at r
            one = ap (folded w k x.at) (sectioned xs x.item p here)

            two : left_in w zs k x ≡ folded w k x.at r
            two = ap (folded w k x.at) (sectioned zs x.item p (keeps x.item.target p here))

            left : (b : Bool) → cancels r.form.base r.target r.form.less ≡ b → IsLeftTwice w xs zs k x
            left true e =
                let is_constant : folded w k x.at r ≡ normal.Constant r.addend = unplaced x.at r is.placed ∙ ap (λ b. cond b (normal.Constant r.addend) (normal.Kept r)) e in
                LeftConstant r.addend (one ∙ is_constant) (two ∙ is_constant)
            left false e =
                let is_kept : folded w k x.at r ≡ normal.Kept r = unplaced x.at r is.placed ∙ ap (λ b. cond b (normal.Constant r.addend) (normal.Kept r)) e in
                LeftMoved r (one ∙ is_kept) (two ∙ is_kept) (ap (folded w k x.at) (again zs x.item p) ∙ is_kept)

-- ... the fields of a section

module _ (w : Word) (xs zs : List Symbol) (k : ℕ) where
  abbrev IsTwice : Field Reloc → Type 0
  IsTwice x = IsLeftTwice w xs zs k x

  pub fields_twice : (l : List (Field Reloc)) → AllByRecursion IsTwice l → filter_map (kept_field w zs k) (filter_map (kept_field w xs k) l) ≡ filter_map (kept_field w zs k) l
  fields_twice [] all = refl
  fields_twice (x ∷ l) all = by all.0 (fields_twice l all.1)
    where
      rest : List (Field Reloc)
      rest = filter_map (kept_field w xs k) l

      by : IsTwice x → filter_map (kept_field w zs k) rest ≡ filter_map (kept_field w zs k) l
          → filter_map (kept_field w zs k) (cons_option (kept_field w xs k x) rest) ≡ cons_option (kept_field w zs k x) (filter_map (kept_field w zs k) l)
      by (LeftSame e) next = ap (λ m. filter_map (kept_field w zs k) (cons_option (field_of x m) rest)) e ∙ ap (cons_option (kept_field w zs k x)) next
      by (LeftConstant c e f) next = ap (λ m. filter_map (kept_field w zs k) (cons_option (field_of x m) rest)) e ∙ next ∙ ap (λ m. cons_option (field_of x m) (filter_map (kept_field w zs k) l)) (sym f)
      by (LeftMoved q e f g) next =
          ap (λ m. filter_map (kept_field w zs k) (cons_option (field_of x m) rest)) e
          ∙ ap (λ m. cons_option (field_of (record { at = x.at; width = x.width; item = q }) m) (filter_map (kept_field w zs k) rest)) g
          ∙ ap (λ ys. record { at = x.at; width = x.width; item = q } ∷ ys) next
          ∙ ap (λ m. cons_option (field_of x m) (filter_map (kept_field w zs k) l)) (sym f)

  -- the first fault, of the section in which the constants stand, where there was none before
  pub faults_twice : (s t : Section) → t.number ≡ s.number → (l : List (Field Reloc)) → AllByRecursion IsTwice l → AllByRecursion (λ x. unfit_fault w xs k s x ≡ None) l
      → first_in (unfit_fault w zs k t) (filter_map (kept_field w xs k) l) ≡ first_in (unfit_fault w zs k s) l
  faults_twice s t number [] all clean = refl
  faults_twice s t number (x ∷ l) all clean = by all.0 (faults_twice s t number l all.1 clean.1)
    where
      rest : List (Field Reloc)
      rest = filter_map (kept_field w xs k) l

      stored : (r : Result ℕ AddendTooWide) → stored_fault t x r ≡ stored_fault s x r
      stored (Ok number) = refl
      stored (Err e) = ap (λ index. Some (edit_fault FoldTooWide index x.at)) number

      moved_fault : (m : Normal) → fault_of w t x m ≡ fault_of w s x m
      moved_fault (normal.Constant c) = stored (stored_number w x c)
      moved_fault (normal.Kept r) = refl

      by : IsTwice x → first_in (unfit_fault w zs k t) rest ≡ first_in (unfit_fault w zs k s) l
          → first_in (unfit_fault w zs k t) (cons_option (kept_field w xs k x) rest) ≡ or_else (unfit_fault w zs k s x) (first_in (unfit_fault w zs k s) l)
      by (LeftSame e) next =
          ap (λ m. first_in (unfit_fault w zs k t) (cons_option (field_of x m) rest)) e
          ∙ ap (λ o. or_else o (first_in (unfit_fault w zs k t) rest)) (moved_fault (left_in w zs k x))
          ∙ ap (or_else (unfit_fault w zs k s x)) next
      by (LeftConstant c e f) next =
          let none : unfit_fault w zs k s x ≡ None = ap (fault_of w s x) f ∙ sym (ap (fault_of w s x) e) ∙ clean.0 in
          ap (λ m. first_in (unfit_fault w zs k t) (cons_option (field_of x m) rest)) e ∙ next ∙ sym (ap (λ o. or_else o (first_in (unfit_fault w zs k s) l)) none)
      by (LeftMoved q e f g) next =
          ap (λ m. first_in (unfit_fault w zs k t) (cons_option (field_of x m) rest)) e
          ∙ ap (λ m. or_else (fault_of w t (record { at = x.at; width = x.width; item = q }) m) (first_in (unfit_fault w zs k t) rest)) g
          ∙ next ∙ sym (ap (λ m. or_else (fault_of w s x m) (first_in (unfit_fault w zs k s) l)) f)

-- ... constants that are stored in the bytes of a section, in any order

-- a byte before a number
byte_apart : (i a k number at : ℕ) (xs : List ℕ) → i < at → set (written k number at xs) i a ≡ written k number at (set xs i a)
byte_apart i a zero number at xs lt = refl
byte_apart i a (suc k) number at xs lt =
    byte_apart i a k (number / 256) (at + 1) (set xs at (number % 256)) (omega (arith, lt))
    ∙ ap (written k (number / 256) (at + 1)) (set_comm xs at i (number % 256) a (λ e. omega (arith, e, lt)))

-- a number before another one
written_apart : (j other i k number at : ℕ) (xs : List ℕ) → i + j ≤ at → written j other i (written k number at xs) ≡ written k number at (written j other i xs)
written_apart zero other i k number at xs le = refl
written_apart (suc j) other i k number at xs le =
    ap (written j (other / 256) (i + 1)) (byte_apart i (other % 256) k number at xs (omega (arith, le)))
    ∙ written_apart j (other / 256) (i + 1) k number at (set xs i (other % 256)) (omega (arith, le))

module _ (w : Word) (xs zs : List Symbol) (k : ℕ) where
  -- two constants in fields of which one ends before the other begins
  constants_apart : (s : Section) (x y : Field Reloc) (m o : Normal) → x.at + bytes_of x.item.form.width ≤ y.at → section_of w (section_of w s y o) x m ≡ section_of w (section_of w s x m) y o
  constants_apart s x y (normal.Kept r) o le = refl
  constants_apart s x y (normal.Constant c) (normal.Kept r) le = refl
  constants_apart s x y (normal.Constant c) (normal.Constant d) le = by (stored_number w x c) (stored_number w y d)
    where
      bytes_as : List ℕ → Section
      bytes_as bytes = record { name = s.name; kind = s.kind; align = s.align; size = s.size; bytes = bytes; tag = s.tag; number = s.number; group = s.group }

      by : (a b : Result ℕ AddendTooWide) → with_stored (with_stored s y b) x a ≡ with_stored (with_stored s x a) y b
      by (Err e) b = refl
      by (Ok a) (Err e) = refl
      by (Ok a) (Ok b) = ap bytes_as (written_apart (bytes_of x.item.form.width) a x.at (bytes_of y.item.form.width) b y.at s.bytes le)

  -- a constant before all others
  constant_first : (s : Section) (x : Field Reloc) (m : Normal) (p : ℕ) (l : List (Field Reloc)) → x.at + bytes_of x.item.form.width ≤ p → FollowFrom p l
      → section_of w (folded_in w xs k s l) x m ≡ folded_in w xs k (section_of w s x m) l
  constant_first s x m p [] le follow = refl
  constant_first s x m p (y ∷ l) le follow =
      constant_first (with_constant w xs k s y) x m (end_of y) l (let f = follow.0 in omega (arith, le, f)) follow.2
      ∙ ap (λ t. folded_in w xs k t l) (constants_apart s x y m (left_in w xs k y) (let f = follow.0 in omega (arith, le, f)))

  -- the constants of both times are those of once
  pub constants_twice : (p : ℕ) (l : List (Field Reloc)) (s : Section) → FollowFrom p l → AllByRecursion IsWide l → AllByRecursion (IsLeftTwice w xs zs k) l
      → folded_in w zs k (folded_in w xs k s l) (filter_map (kept_field w xs k) l) ≡ folded_in w zs k s l
  constants_twice p [] s follow wide all = refl
  constants_twice p (x ∷ l) s follow wide all = by all.0 (λ t. constants_twice (end_of x) l t follow.2 wide.1 all.1)
    where
      rest : List (Field Reloc)
      rest = filter_map (kept_field w xs k) l

      -- the first field of both lists, and what is stored of it
      twice : Section → Option (Field Reloc) → Section
      twice t o = folded_in w zs k (folded_in w xs k t l) (cons_option o rest)

      by : IsLeftTwice w xs zs k x → ((t : Section) → folded_in w zs k (folded_in w xs k t l) rest ≡ folded_in w zs k t l)
          → twice (with_constant w xs k s x) (kept_field w xs k x) ≡ folded_in w zs k (with_constant w zs k s x) l
      by (LeftSame e) next =
          ap (λ m. twice (section_of w s x m) (field_of x m)) e
          ∙ ap (λ t. folded_in w zs k t rest) (constant_first s x (left_in w zs k x) (end_of x) l (let v = wide.0 in omega (arith, v)) follow.2)
          ∙ next (with_constant w zs k s x)
      by (LeftConstant c e f) next =
          ap (λ m. twice (section_of w s x m) (field_of x m)) e
          ∙ next (section_of w s x (normal.Constant c))
          ∙ ap (λ m. folded_in w zs k (section_of w s x m) l) (sym f)
      by (LeftMoved q e f g) next =
          ap (λ m. twice (section_of w s x m) (field_of x m)) e
          ∙ ap (λ m. folded_in w zs k (section_of w (folded_in w xs k s l) (record { at = x.at; width = x.width; item = q }) m) rest) g
          ∙ next s
          ∙ ap (λ m. folded_in w zs k (section_of w s x m) l) (sym f)
