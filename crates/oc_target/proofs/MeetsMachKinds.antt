-- What names and tags that go with a kind say in Mach-O and in OMF: the format's own rule gives the kind back.
use Rattle.std.proofs.Common.{◌≡◌, ℕ, suc, ◌+◌, ◌^◌, ◌<◌, ◌≤◌, Bool, true, false, cond, not, ◌&&◌, ◌||◌, List, [], ◌∷◌, ◌++◌, length, Some, refl, sym, ◌∙◌, ap, subst, arith, bytes_eq}
use Rattle.std.specs.{Prelude.{codes, decimal, nat_eq, take, drop}, List.{list_any, before_first, after_first, position_or_len}}
use Rattle.std.proofs.lemmas.{Bool.{true≢false, and_parts, eqb-true, leb-true, ltb-true}, Fmt.{length-decimal-le}, Slice.Eq.{bytes_eq-Decides}}
use Rattle.oc_base.specs.{declared.format.Format.TheVariants.{Mac32, Omf}, declared.format.Word.TheVariants.{W32}}
use Rattle.oc_linking.specs.{declared.terms.Kind.{Kind}, declared.terms.Kind.TheVariants.{Code, ReadOnly, Data, Zero, Init, Fini, Debug, Exception, Note}}
use Rattle.oc_neutral.specs.{Mach.Family.{mach_gives, mach_family, numbered_name}, Omf.Family.{omf_family}}
use Rattle.oc_neutral.specs.declared.mach.TheConstants.{S_MOD_INIT_FUNC_POINTERS, S_MOD_TERM_FUNC_POINTERS, S_ATTR_SOME_INSTRUCTIONS, S_ATTR_PURE_INSTRUCTIONS}
use Rattle.oc_neutral.specs.KindRules.{has, same_kind}
use Rattle.oc_neutral.specs.Mach.Kinds.{is_comma, mach_name, segment_of, section_of, type_of, is_read_type, mach_kind, mach_tag, is_zerofill_tag}
use Rattle.oc_neutral.specs.{Omf.Kinds.{omf_kind, omf_class, omf_tag}, HomeNames.{home_of, is_at, is_home}}
use Rattle.oc_target.specs.Meets.{IsReadAs}
use Rattle.oc_target.proofs.MeetsKinds.{once, kind_is, one_of, rule_told, told_alone, read_same}

-- ... Mach-O

-- what is known of a name and a tag that go with a kind in Mach-O
pub record IsMachTag (kind : Kind) (name : List ℕ) (tag : ℕ) : Type 0 where
  pub parted : name ≡ mach_name (segment_of name) (section_of name)
  pub segment : length (segment_of name) ≤ 16
  pub section : length (section_of name) ≤ 16
  pub small : tag < 2 ^ 32
  pub own : mach_tag tag ≡ tag
  pub type : is_read_type tag ≡ true
  pub read : IsReadAs ReadOnly kind (mach_kind (segment_of name) (section_of name) tag)

-- zeros are told by the type ZEROFILL
pub mach_zero : (segment section : List ℕ) (tag : ℕ) → mach_kind segment section tag ≡ Zero → is_zerofill_tag tag ≡ true
unfolding mach_kind
mach_zero segment section tag told = told_alone (is_zerofill_tag tag) (rule_told (same_kind Zero) (
    (bytes_eq segment (codes "__DWARF"), Debug)
    ∷ (bytes_eq segment (codes "__LD"), Exception)
    ∷ (bytes_eq section (codes "__eh_frame"), Exception)
    ∷ (bytes_eq section (codes "__gcc_except_tab"), Exception)
    ∷ (nat_eq (type_of tag) S_MOD_INIT_FUNC_POINTERS, Init)
    ∷ (nat_eq (type_of tag) S_MOD_TERM_FUNC_POINTERS, Fini)
    ∷ (is_zerofill_tag tag, Zero)
    ∷ (bytes_eq segment (codes "__TEXT") && (has tag S_ATTR_PURE_INSTRUCTIONS || has tag S_ATTR_SOME_INSTRUCTIONS), Code)
    ∷ (bytes_eq segment (codes "__TEXT"), ReadOnly)
    ∷ []) Data (ap (same_kind Zero) told))

-- a name with a comma is what stands before the first, the comma, and what stands after it
parted_by : (name : List ℕ) → list_any is_comma name ≡ true → name ≡ before_first is_comma name ++ 44 ∷ after_first is_comma name
parted_by [] e = absurd (true≢false (sym e))
parted_by (c ∷ name) e = by (is_comma c) refl (parted_by name) e
  where
    by : (b : Bool) → is_comma c ≡ b → (list_any is_comma name ≡ true → name ≡ before_first is_comma name ++ 44 ∷ after_first is_comma name)
        → (b || list_any is_comma name) ≡ true → c ∷ name ≡ before_first is_comma (c ∷ name) ++ 44 ∷ after_first is_comma (c ∷ name)
    by true h rest e = rw h (ap (λ x. x ∷ name) (eqb-true c 44 h))
    by false h rest e =
        let at : ℕ = position_or_len is_comma name in
        let cut : ℕ → ℕ → List ℕ = λ i j. take i (c ∷ name) ++ 44 ∷ drop j (c ∷ name) in
        let more : 1 + at ≡ suc at = omega arith in
        let first : position_or_len is_comma (c ∷ name) ≡ suc at = ap (λ b. cond (not b) (1 + at) 0) h ∙ more in
        let second : position_or_len is_comma (c ∷ name) + 1 ≡ suc (at + 1) = omega (arith, first) in
        ap (λ xs. c ∷ xs) (rest e) ∙ sym (ap (λ i. cut i (position_or_len is_comma (c ∷ name) + 1)) first ∙ ap (cut (suc at)) second)

-- what is known of a kind under a name at its home, and under that name with the section's number
pub record IsMachHome (kind : Kind) (k : ℕ) (home : List ℕ) (tag : ℕ) : Type 0 where
  pub named : IsMachTag kind home tag
  pub numbered : IsMachTag kind (numbered_name k home) tag

-- a name that is one of the two
mach_at : (kind : Kind) (k : ℕ) (name home : List ℕ) (at : ℕ) → IsMachHome kind k home at → (bytes_eq name home || bytes_eq name (numbered_name k home)) ≡ true → IsMachTag kind name at
mach_at kind k name home at is e =
    one_of (bytes_eq name home) (bytes_eq name (numbered_name k home)) e
    (λ h. subst (λ x. IsMachTag kind x at) (sym ((bytes_eq-Decides name home).0 h)) is.named)
    (λ h. subst (λ x. IsMachTag kind x at) (sym ((bytes_eq-Decides name (numbered_name k home)).0 h)) is.numbered)

-- with the tag of the home
mach_tagged : (kind : Kind) (k : ℕ) (name home : List ℕ) (tag at : ℕ) → IsMachHome kind k home at
    → (nat_eq tag at && (bytes_eq name home || bytes_eq name (numbered_name k home))) ≡ true → IsMachTag kind name tag
mach_tagged kind k name home tag at is e =
    let parts = and_parts _ _ e in
    subst (λ t. IsMachTag kind name t) (sym (eqb-true tag at parts.0)) (mach_at kind k name home at is parts.1)

-- nothing else
nothing : {P : Type 0} → false ≡ true → P
nothing e = absurd (true≢false (sym e))

module _ (k : ℕ) (low : k < 1000) where
  -- a number has at most three digits
  few : length (decimal k) ≤ 3
  few = length-decimal-le 3 k (omega arith) (omega (arith, low)) (omega (arith, low))

  code_home : IsMachHome Code k (codes "__TEXT,__text") 0x80000400
  unfolding mach_kind mach_tag
  code_home = let l = few in record {
    named = record { parted = refl; segment = omega arith; section = omega arith; small = omega arith; own = refl; type = refl; read = record { same = λ other. refl; zero = refl } };
    numbered = record { parted = refl; segment = omega arith; section = omega (arith, l); small = omega arith; own = refl; type = refl; read = record { same = λ other. refl; zero = refl } };
  }

  data_home : IsMachHome Data k (codes "__DATA,__data") 0
  unfolding mach_kind mach_tag
  data_home = let l = few in record {
    named = record { parted = refl; segment = omega arith; section = omega arith; small = omega arith; own = refl; type = refl; read = record { same = λ other. refl; zero = refl } };
    numbered = record { parted = refl; segment = omega arith; section = omega (arith, l); small = omega arith; own = refl; type = refl; read = record { same = λ other. refl; zero = refl } };
  }

  zero_home : IsMachHome Zero k (codes "__DATA,__bss") 1
  unfolding mach_kind mach_tag
  zero_home = let l = few in record {
    named = record { parted = refl; segment = omega arith; section = omega arith; small = omega arith; own = refl; type = refl; read = record { same = λ other. refl; zero = refl } };
    numbered = record { parted = refl; segment = omega arith; section = omega (arith, l); small = omega arith; own = refl; type = refl; read = record { same = λ other. refl; zero = refl } };
  }

  init_home : IsMachHome Init k (codes "__DATA,__mod_init_func") 9
  unfolding mach_kind mach_tag
  init_home = let l = few in record {
    named = record { parted = refl; segment = omega arith; section = omega arith; small = omega arith; own = refl; type = refl; read = record { same = λ other. refl; zero = refl } };
    numbered = record { parted = refl; segment = omega arith; section = omega (arith, l); small = omega arith; own = refl; type = refl; read = record { same = λ other. refl; zero = refl } };
  }

  fini_home : IsMachHome Fini k (codes "__DATA,__mod_term_func") 10
  unfolding mach_kind mach_tag
  fini_home = let l = few in record {
    named = record { parted = refl; segment = omega arith; section = omega arith; small = omega arith; own = refl; type = refl; read = record { same = λ other. refl; zero = refl } };
    numbered = record { parted = refl; segment = omega arith; section = omega (arith, l); small = omega arith; own = refl; type = refl; read = record { same = λ other. refl; zero = refl } };
  }

  text_home : IsMachHome ReadOnly k (codes "__TEXT,__const") 0
  unfolding mach_kind mach_tag
  text_home = let l = few in record {
    named = record { parted = refl; segment = omega arith; section = omega arith; small = omega arith; own = refl; type = refl; read = record { same = λ other. refl; zero = refl } };
    numbered = record { parted = refl; segment = omega arith; section = omega (arith, l); small = omega arith; own = refl; type = refl; read = record { same = λ other. refl; zero = refl } };
  }

  const_home : IsMachHome ReadOnly k (codes "__DATA,__const") 0
  unfolding mach_kind mach_tag
  const_home = let l = few in record {
    named = record { parted = refl; segment = omega arith; section = omega arith; small = omega arith; own = refl; type = refl; read = record { same = λ other. absurd (other refl); zero = refl } };
    numbered = record { parted = refl; segment = omega arith; section = omega (arith, l); small = omega arith; own = refl; type = refl; read = record { same = λ other. absurd (other refl); zero = refl } };
  }

  mach_home : (kind : Kind) (name : List ℕ) (tag : ℕ) → is_home Mac32 k kind name tag ≡ true → IsMachTag kind name tag
  unfolding is_home
  mach_home Code name tag e = mach_tagged Code k name (codes "__TEXT,__text") tag 0x80000400 code_home (once _ e)
  mach_home Data name tag e = mach_tagged Data k name (codes "__DATA,__data") tag 0 data_home (once _ e)
  mach_home Zero name tag e = mach_tagged Zero k name (codes "__DATA,__bss") tag 1 zero_home (once _ e)
  mach_home Init name tag e = mach_tagged Init k name (codes "__DATA,__mod_init_func") tag 9 init_home (once _ e)
  mach_home Fini name tag e = mach_tagged Fini k name (codes "__DATA,__mod_term_func") tag 10 fini_home (once _ e)
  mach_home ReadOnly name tag e =
      one_of (is_at Mac32 k name tag (home_of Mac32 false ReadOnly)) (is_at Mac32 k name tag (home_of Mac32 true ReadOnly)) e
      (mach_tagged ReadOnly k name (codes "__TEXT,__const") tag 0 text_home) (mach_tagged ReadOnly k name (codes "__DATA,__const") tag 0 const_home)
  mach_home Exception name tag e = nothing e
  mach_home Debug name tag e = nothing e
  mach_home Note name tag e = nothing e

mach_given : (kind : Kind) (name : List ℕ) (tag : ℕ) → (mach_family W32).gives kind name tag ≡ true → IsMachTag kind name tag
unfolding mach_gives
mach_given kind name tag e =
    let a = and_parts _ _ (and_parts _ _ e).1 in
    let b = and_parts _ _ a.0 in
    let c = and_parts _ _ b.0 in
    let d = and_parts _ _ c.0 in
    let n = and_parts _ _ d.0 in
    let m = and_parts _ _ n.0 in
    record {
      parted = parted_by name m.0;
      segment = leb-true (length (segment_of name)) 16 m.1;
      section = leb-true (length (section_of name)) 16 n.1;
      small = ltb-true tag (2 ^ 32) d.1;
      own = eqb-true (mach_tag tag) tag c.1;
      type = b.1;
      read = read_same ReadOnly kind (mach_kind (segment_of name) (section_of name) tag) (kind_is (mach_kind (segment_of name) (section_of name) tag) kind a.1);
    }

pub mach_named : (k : ℕ) → k < 1000 → (kind : Kind) (name : List ℕ) (tag : ℕ) → (is_home Mac32 k kind name tag || (mach_family W32).gives kind name tag) ≡ true → IsMachTag kind name tag
mach_named k low kind name tag e = one_of (is_home Mac32 k kind name tag) ((mach_family W32).gives kind name tag) e (mach_home k low kind name tag) (mach_given kind name tag)

-- ... OMF

-- what is known of a kind and a tag that OMF can have
pub record IsOmfTag (kind : Kind) (tag : ℕ) : Type 0 where
  pub own : tag ≡ omf_tag
  pub class : List ℕ
  pub classed : omf_class kind ≡ Some class
  pub read : (covered : Bool) → (kind ≡ Zero → covered ≡ false) → omf_kind class covered ≡ kind

-- of each kind that has a class
omf_kinds : (kind : Kind) (tag : ℕ) → tag ≡ 0 → (class : List ℕ) → omf_class kind ≡ Some class
    → ((covered : Bool) → (kind ≡ Zero → covered ≡ false) → omf_kind class covered ≡ kind) → IsOmfTag kind tag
omf_kinds kind tag e class classed read = record { own = e; class = class; classed = classed; read = read }

-- at home or given, a tag is 0
tag_is : (tag : ℕ) (x y : Bool) → (((nat_eq tag 0 && x) || (nat_eq tag 0 && x)) || (nat_eq tag 0 && y)) ≡ true → tag ≡ 0
tag_is tag x y e =
    one_of ((nat_eq tag 0 && x) || (nat_eq tag 0 && x)) (nat_eq tag 0 && y) e (λ h. eqb-true tag 0 (and_parts _ _ (once _ h)).0) (λ h. eqb-true tag 0 (and_parts _ _ h).0)

-- what is not given
not_given : {P : Type 0} (tag : ℕ) → (nat_eq tag 0 && false) ≡ true → P
not_given tag e = absurd (true≢false (sym (and_parts (nat_eq tag 0) false e).1))

pub omf_named : (k : ℕ) (kind : Kind) (name : List ℕ) (tag : ℕ) → (is_home Omf k kind name tag || omf_family.gives kind name tag) ≡ true → (kind ≡ Debug → ⊥) → IsOmfTag kind tag
unfolding is_home omf_kind
omf_named k Code name tag e kept = omf_kinds Code tag (tag_is tag _ _ e) (codes "CODE") refl (λ covered zero. refl)
omf_named k ReadOnly name tag e kept = omf_kinds ReadOnly tag (tag_is tag _ _ e) (codes "CONST") refl (λ covered zero. refl)
omf_named k Data name tag e kept = omf_kinds Data tag (tag_is tag _ _ e) (codes "DATA") refl (λ covered zero. refl)
omf_named k Zero name tag e kept = omf_kinds Zero tag (tag_is tag _ _ e) (codes "BSS") refl (λ covered zero. rw (zero refl) refl)
omf_named k Debug name tag e kept = absurd (kept refl)
omf_named k Init name tag e kept = not_given tag e
omf_named k Fini name tag e kept = not_given tag e
omf_named k Exception name tag e kept = not_given tag e
omf_named k Note name tag e kept = not_given tag e
