-- What names and tags that go with a kind say: the format's own rule gives the kind back.
use Rattle.std.proofs.Common.{◌≡◌, ℕ, ◌^◌, ◌<◌, Bool, true, false, cond, not, ◌&&◌, ◌||◌, List, [], ◌∷◌, get_or, Option, Some, None, refl, sym, ◌∙◌, ap, subst, arith, bytes_eq}
use Rattle.std.specs.{Prelude.{codes, nat_eq}, List.{AllByRecursion, list_any}, Option.{option_map_or}}
use Rattle.std.proofs.lemmas.{Bool.{true≢false, and_parts, eqb-true, ltb-true}, Slice.Eq.{bytes_eq-Decides}}
use Rattle.oc_base.specs.{declared.format.Format.TheVariants.{Elf32, Coff32}, declared.format.Word.TheVariants.{W32}}
use Rattle.oc_linking.specs.{declared.terms.Kind.{Kind}, declared.terms.Kind.TheVariants.{Code, ReadOnly, Data, Zero, Init, Fini, Debug, Exception, Note}}
use Rattle.oc_neutral.specs.{Coff.Family.{coff_gives, coff_family}, Elf.Family.{elf_gives, elf_family}, Building.{is_zero}}
use Rattle.oc_neutral.specs.declared.elf.TheConstants.{SHT_NOTE, SHT_INIT_ARRAY, SHT_FINI_ARRAY, SHT_X86_64_UNWIND, SHF_WRITE, SHF_ALLOC, SHF_EXECINSTR}
use Rattle.oc_neutral.specs.declared.coff.TheConstants.{IMAGE_SCN_CNT_CODE, IMAGE_SCN_CNT_UNINITIALIZED_DATA, IMAGE_SCN_LNK_INFO, IMAGE_SCN_LNK_REMOVE, IMAGE_SCN_MEM_EXECUTE, IMAGE_SCN_MEM_WRITE}
use Rattle.oc_neutral.specs.KindRules.{first_rule, begins, has, kind_number, same_kind}
use Rattle.oc_neutral.specs.Elf.Kinds.{carried_types, is_carried_type, is_unwind_name, is_debug_name, elf_kind, elf_tag_type, elf_tag_flags, is_nobits_tag}
use Rattle.oc_neutral.specs.{Coff.Kinds.{coff_kind, coff_tag}, HomeNames.{is_home}}
use Rattle.oc_neutral.specs.Coff.Kinds as coff
use Rattle.oc_target.specs.Meets.{IsReadAs}
use Rattle.oc_linking.proofs.Testing.{any_passes}
use Rattle.oc_neutral.proofs.Positions.{each_at}

-- ... tests

-- a kind by its number
abbrev kind_by : ℕ → Kind
kind_by n = get_or (Code ∷ ReadOnly ∷ Data ∷ Zero ∷ Init ∷ Fini ∷ Debug ∷ Exception ∷ []) n Note

kind_back : (k : Kind) → kind_by (kind_number k) ≡ k
kind_back k = grind arith

-- kinds that are the same are one
pub kind_is : (k l : Kind) → same_kind k l ≡ true → k ≡ l
kind_is k l e = sym (kind_back k) ∙ ap kind_by (eqb-true (kind_number k) (kind_number l) e) ∙ kind_back l

-- one of two
pub one_of : {P : Type 0} (x y : Bool) → (x || y) ≡ true → (x ≡ true → P) → (y ≡ true → P) → P
one_of true y e left right = left refl
one_of false y e left right = right e

-- one that is said twice
pub once : (b : Bool) → (b || b) ≡ true → b ≡ true
once true e = refl
once false e = e

-- a name at home
pub name_is : (a b : List ℕ) → (bytes_eq a b || false) ≡ true → a ≡ b
name_is a b e = one_of (bytes_eq a b) false e (λ h. (bytes_eq-Decides a b).0 h) (λ h. absurd (true≢false (sym h)))

-- where what the first rule says passes a test, so does what some rule says that holds, or what is said otherwise
pub rule_told : {X : Type 0} (test : X → Bool) (rules : List (Bool × X)) (otherwise : X) → test (first_rule rules otherwise) ≡ true
    → (list_any (λ (r : Bool × X). cond (test r.1) r.0 false) rules || test otherwise) ≡ true
rule_told test [] otherwise e = e
rule_told {X} test (rule ∷ rules) otherwise e = by rule.0 refl (rule_told test rules otherwise) e
  where
    neither_way : (b : Bool) → cond b false false ≡ false
    neither_way true = refl
    neither_way false = refl

    by : (b : Bool) → rule.0 ≡ b → (test (first_rule rules otherwise) ≡ true → (list_any (λ (r : Bool × X). cond (test r.1) r.0 false) rules || test otherwise) ≡ true)
        → test (cond b rule.1 (first_rule rules otherwise)) ≡ true → ((cond (test rule.1) b false || list_any (λ (r : Bool × X). cond (test r.1) r.0 false) rules) || test otherwise) ≡ true
    by true h rest e = rw e refl
    by false h rest e = rw (neither_way (test rule.1)) (rest e)

-- the one rule that can have said it holds
pub told_alone : (b : Bool) → ((b || false) || false) ≡ true → b ≡ true
told_alone true e = refl
told_alone false e = absurd (true≢false (sym e))

-- a kind that is read back as itself
pub read_same : (but kind read : Kind) → read ≡ kind → IsReadAs but kind read
read_same but kind read e = record { same = λ other. e; zero = ap is_zero e }

-- ... ELF

-- what is known of a tag that goes with a kind in ELF
pub record IsElfTag (kind : Kind) (name : List ℕ) (tag : ℕ) : Type 0 where
  pub carried : is_carried_type (elf_tag_type tag) ≡ true
  pub allocated : is_nobits_tag tag ≡ true → has (elf_tag_flags tag) SHF_ALLOC ≡ true
  pub kind_read : IsReadAs Exception kind (elf_kind name (elf_tag_type tag) (elf_tag_flags tag))

-- the types that are carried have 32 bits
pub carried_small : (t : ℕ) → is_carried_type t ≡ true → t < 2 ^ 32
carried_small t e =
    let c = any_passes (nat_eq t) carried_types e in
    let small : AllByRecursion (λ x. x < 2 ^ 32) carried_types = (omega arith, (omega arith, (omega arith, (omega arith, (omega arith, (omega arith, tt)))))) in
    subst (λ x. x < 2 ^ 32) (sym (eqb-true t c.1 c.3)) (each_at (λ x. x < 2 ^ 32) carried_types c.0 c.1 small c.2)

-- zeros are told by the type NOBITS
pub elf_zero : (name : List ℕ) (tag : ℕ) → elf_kind name (elf_tag_type tag) (elf_tag_flags tag) ≡ Zero → is_nobits_tag tag ≡ true
unfolding elf_kind
elf_zero name tag told = told_alone (is_nobits_tag tag) (rule_told (same_kind Zero) (
    (is_unwind_name name || nat_eq (elf_tag_type tag) SHT_X86_64_UNWIND, Exception)
    ∷ (not (has (elf_tag_flags tag) SHF_ALLOC) && is_debug_name name, Debug)
    ∷ (not (has (elf_tag_flags tag) SHF_ALLOC), Note)
    ∷ (nat_eq (elf_tag_type tag) SHT_NOTE, Note)
    ∷ (nat_eq (elf_tag_type tag) SHT_INIT_ARRAY, Init)
    ∷ (nat_eq (elf_tag_type tag) SHT_FINI_ARRAY, Fini)
    ∷ (is_nobits_tag tag, Zero)
    ∷ (has (elf_tag_flags tag) SHF_EXECINSTR, Code)
    ∷ (has (elf_tag_flags tag) SHF_WRITE, Data)
    ∷ []) ReadOnly (ap (same_kind Zero) told))

-- at the home of a kind
elf_at : (kind : Kind) (name home : List ℕ) (tag at : ℕ) → (nat_eq tag at && (bytes_eq name home || false)) ≡ true → IsElfTag kind home at → IsElfTag kind name tag
elf_at kind name home tag at e is =
    let parts = and_parts _ _ e in
    subst (λ t. IsElfTag kind name t) (sym (eqb-true tag at parts.0)) (subst (λ x. IsElfTag kind x at) (sym (name_is name home parts.1)) is)

-- an Exception section that keeps its name is one, or is read only
exception_elf : (name : List ℕ) → IsElfTag Exception name 10
unfolding elf_kind
exception_elf name = record {
  carried = refl;
  allocated = λ e. absurd (true≢false (sym e));
  kind_read = record { same = λ other. absurd (other refl); zero = by (is_unwind_name name || nat_eq 1 SHT_X86_64_UNWIND) };
}
  where
    by : (b : Bool) → is_zero (cond b Exception ReadOnly) ≡ false
    by true = refl
    by false = refl

elf_home : (k : ℕ) (kind : Kind) (name : List ℕ) (tag : ℕ) → is_home Elf32 k kind name tag ≡ true → IsElfTag kind name tag
unfolding is_home elf_kind
elf_home k Code name tag e = elf_at Code name (codes ".text") tag 14 (once _ e) (record { carried = refl; allocated = λ h. refl; kind_read = record { same = λ other. refl; zero = refl } })
elf_home k ReadOnly name tag e = elf_at ReadOnly name (codes ".rodata") tag 10 (once _ e) (record { carried = refl; allocated = λ h. refl; kind_read = record { same = λ other. refl; zero = refl } })
elf_home k Data name tag e = elf_at Data name (codes ".data") tag 11 (once _ e) (record { carried = refl; allocated = λ h. refl; kind_read = record { same = λ other. refl; zero = refl } })
elf_home k Zero name tag e = elf_at Zero name (codes ".bss") tag 67 (once _ e) (record { carried = refl; allocated = λ h. refl; kind_read = record { same = λ other. refl; zero = refl } })
elf_home k Init name tag e = elf_at Init name (codes ".init_array") tag 115 (once _ e) (record { carried = refl; allocated = λ h. refl; kind_read = record { same = λ other. refl; zero = refl } })
elf_home k Fini name tag e = elf_at Fini name (codes ".fini_array") tag 123 (once _ e) (record { carried = refl; allocated = λ h. refl; kind_read = record { same = λ other. refl; zero = refl } })
elf_home k Exception name tag e = subst (λ t. IsElfTag Exception name t) (sym (eqb-true tag 10 (and_parts _ _ (once _ e)).0)) (exception_elf name)
elf_home k Debug name tag e = absurd (true≢false (sym e))
elf_home k Note name tag e = absurd (true≢false (sym e))

elf_given : (kind : Kind) (name : List ℕ) (tag : ℕ) → (elf_family false W32).gives kind name tag ≡ true → IsElfTag kind name tag
unfolding elf_gives
elf_given kind name tag e =
    let a = and_parts _ _ (and_parts _ _ e).1 in
    let b = and_parts _ _ a.0 in
    record {
      carried = b.0;
      allocated = λ h. by (is_nobits_tag tag) h b.1;
      kind_read = read_same Exception kind (elf_kind name (elf_tag_type tag) (elf_tag_flags tag)) (kind_is (elf_kind name (elf_tag_type tag) (elf_tag_flags tag)) kind a.1);
    }
  where
    by : (b : Bool) → b ≡ true → (not b || has (elf_tag_flags tag) SHF_ALLOC) ≡ true → has (elf_tag_flags tag) SHF_ALLOC ≡ true
    by true h e = e
    by false h e = absurd (true≢false (sym h))

-- a tag that goes with a kind by either rule
pub elf_named : (k : ℕ) (kind : Kind) (name : List ℕ) (tag : ℕ) → (is_home Elf32 k kind name tag || (elf_family false W32).gives kind name tag) ≡ true → IsElfTag kind name tag
elf_named k kind name tag e = one_of (is_home Elf32 k kind name tag) ((elf_family false W32).gives kind name tag) e (elf_home k kind name tag) (elf_given kind name tag)

-- ... COFF

-- what is known of a tag that goes with a kind in COFF
pub record IsCoffTag (kind : Kind) (name : List ℕ) (tag : ℕ) : Type 0 where
  pub small : tag < 2 ^ 32
  pub own : coff_tag tag ≡ tag
  pub read : Kind
  pub carried : coff_kind name tag ≡ Some read
  pub kind_read : IsReadAs Exception kind read
  pub zeros : kind ≡ Zero → has tag IMAGE_SCN_CNT_UNINITIALIZED_DATA ≡ true

coff_at : (kind : Kind) (name home : List ℕ) (tag at : ℕ) → (nat_eq tag at && (bytes_eq name home || false)) ≡ true → IsCoffTag kind home at → IsCoffTag kind name tag
coff_at kind name home tag at e is =
    let parts = and_parts _ _ e in
    subst (λ t. IsCoffTag kind name t) (sym (eqb-true tag at parts.0)) (subst (λ x. IsCoffTag kind x at) (sym (name_is name home parts.1)) is)

-- an Exception section that keeps its name is carried, and has bytes
exception_coff : (name : List ℕ) → IsCoffTag Exception name 0x40000040
unfolding coff_kind coff_tag
exception_coff name =
    let r = by (begins name (codes ".debug")) (coff.is_unwind_name name) (begins name (codes ".CRT$XC")) (begins name (codes ".CRT$XT")) in
    record {
      small = omega arith;
      own = refl;
      read = r.0;
      carried = r.1;
      kind_read = record { same = λ other. absurd (other refl); zero = r.2 };
      zeros = λ e. absurd (cc);
    }
  where
    by : (a b c d : Bool) → (read : Kind) × (cond a (Some Debug) (cond b (Some Exception) (cond c (Some Init) (cond d (Some Fini) (Some ReadOnly)))) ≡ Some read) × (is_zero read ≡ false)
    by true b c d = (Debug, refl, refl)
    by false true c d = (Exception, refl, refl)
    by false false true d = (Init, refl, refl)
    by false false false true = (Fini, refl, refl)
    by false false false false = (ReadOnly, refl, refl)

-- zeros are told by their flag
coff_zero : (name : List ℕ) (tag : ℕ) → coff_kind name tag ≡ Some Zero → has tag IMAGE_SCN_CNT_UNINITIALIZED_DATA ≡ true
unfolding coff_kind
coff_zero name tag told =
    told_alone (has tag IMAGE_SCN_CNT_UNINITIALIZED_DATA)
    (rule_told (λ o. option_map_or (same_kind Zero) o false) (
    (begins name (codes ".debug"), Some Debug)
    ∷ (coff.is_unwind_name name, Some Exception)
    ∷ (has tag IMAGE_SCN_LNK_INFO, Some Note)
    ∷ (has tag IMAGE_SCN_LNK_REMOVE, None)
    ∷ (begins name (codes ".CRT$XC"), Some Init)
    ∷ (begins name (codes ".CRT$XT"), Some Fini)
    ∷ (has tag IMAGE_SCN_CNT_UNINITIALIZED_DATA, Some Zero)
    ∷ (has tag IMAGE_SCN_CNT_CODE || has tag IMAGE_SCN_MEM_EXECUTE, Some Code)
    ∷ (has tag IMAGE_SCN_MEM_WRITE, Some Data)
    ∷ []) (Some ReadOnly) (ap (λ o. option_map_or (same_kind Zero) o false) told))

coff_home : (k : ℕ) (kind : Kind) (name : List ℕ) (tag : ℕ) → is_home Coff32 k kind name tag ≡ true → IsCoffTag kind name tag
unfolding is_home coff_kind coff_tag
coff_home k Code name tag e = coff_at Code name (codes ".text") tag 0x60000020 (once _ e) (record { small = omega arith; own = refl; read = Code; carried = refl; kind_read = record { same = λ other. refl; zero = refl }; zeros = λ e. absurd (cc) })
coff_home k ReadOnly name tag e = coff_at ReadOnly name (codes ".rdata") tag 0x40000040 (once _ e) (record { small = omega arith; own = refl; read = ReadOnly; carried = refl; kind_read = record { same = λ other. refl; zero = refl }; zeros = λ e. absurd (cc) })
coff_home k Data name tag e = coff_at Data name (codes ".data") tag 0xC0000040 (once _ e) (record { small = omega arith; own = refl; read = Data; carried = refl; kind_read = record { same = λ other. refl; zero = refl }; zeros = λ e. absurd (cc) })
coff_home k Zero name tag e = coff_at Zero name (codes ".bss") tag 0xC0000080 (once _ e) (record { small = omega arith; own = refl; read = Zero; carried = refl; kind_read = record { same = λ other. refl; zero = refl }; zeros = λ e. refl })
coff_home k Init name tag e = coff_at Init name (codes ".CRT$XCU") tag 0x40000040 (once _ e) (record { small = omega arith; own = refl; read = Init; carried = refl; kind_read = record { same = λ other. refl; zero = refl }; zeros = λ e. absurd (cc) })
coff_home k Fini name tag e = coff_at Fini name (codes ".CRT$XTU") tag 0x40000040 (once _ e) (record { small = omega arith; own = refl; read = Fini; carried = refl; kind_read = record { same = λ other. refl; zero = refl }; zeros = λ e. absurd (cc) })
coff_home k Exception name tag e = subst (λ t. IsCoffTag Exception name t) (sym (eqb-true tag 0x40000040 (and_parts _ _ (once _ e)).0)) (exception_coff name)
coff_home k Debug name tag e = absurd (true≢false (sym e))
coff_home k Note name tag e = absurd (true≢false (sym e))

coff_given : (kind : Kind) (name : List ℕ) (tag : ℕ) → (coff_family W32).gives kind name tag ≡ true → IsCoffTag kind name tag
unfolding coff_gives
coff_given kind name tag e =
    let a = and_parts _ _ (and_parts _ _ e).1 in
    let b = and_parts _ _ a.0 in
    let told = by (coff_kind name tag) a.1 in
    record {
      small = ltb-true tag (2 ^ 32) b.0;
      own = eqb-true (coff_tag tag) tag b.1;
      read = kind;
      carried = told;
      kind_read = read_same Exception kind kind refl;
      zeros = λ zero. coff_zero name tag (told ∙ ap Some zero);
    }
  where
    by : (o : Option Kind) → option_map_or (same_kind kind) o false ≡ true → o ≡ Some kind
    by None h = absurd (true≢false (sym h))
    by (Some l) h = ap Some (sym (kind_is kind l h))

pub coff_named : (k : ℕ) (kind : Kind) (name : List ℕ) (tag : ℕ) → (is_home Coff32 k kind name tag || (coff_family W32).gives kind name tag) ≡ true → IsCoffTag kind name tag
coff_named k kind name tag e = one_of (is_home Coff32 k kind name tag) ((coff_family W32).gives kind name tag) e (coff_home k kind name tag) (coff_given kind name tag)
