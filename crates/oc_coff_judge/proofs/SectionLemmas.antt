-- Sections, judged one after the other, with the sums that they are worth.
use Rattle.oc_coff.specs.{Files.{CoffFile, tables_in}, declared.section_header.SectionHeader.{SectionHeader}, Tables.{SectionTable, section_table}}
use Rattle.oc_coff.specs.Sections.{kind_in}
use Rattle.oc_coff.specs.SectionFaults.{Numbered, carried_bytes, carried_size, header_place, limit_conditions, raw_conditions, section_conditions, section_fault, table_conditions, worth_by}
use Rattle.std.proofs.Common.{◌≡◌, ℕ, zero, suc, ◌+◌, ◌≤◌, false, cond, List, [], ◌∷◌, ◌++◌, Option, None, Some, refl, sym, ◌∙◌, ap, subst, arith}
use Rattle.std.specs.{Prelude.{is_none, nat_lt, slice_get}, List.{enumerate_from}, Option.{is_some, option_map, option_map_or}}
use Rattle.std.proofs.lemmas.{Bool.Decides.{nat_tests}, Option.{none-some}}
use Rattle.oc_base.specs.{declared.code.Code.TheVariants.{BadName, LimitBytes, LimitSection, LimitSum}, declared.fault.Fault.{Fault}}
use Rattle.oc_linking.specs.{declared.terms.Kind.{Kind}, FirstFault.{Condition, first_broken}, Numbers.{first_upto, or_else}}
use Rattle.oc_shelf.specs.Reading.Sums.{sum_upto}
use Rattle.oc_shelf.proofs.ReadingLaws.StageLemmas.{all_hold, first_broken-append, sum_more}
use Rattle.oc_coff_judge.specs.Judged.{AreSums, copies_of, forms_of, limits_by, name_of_header, section_fault_of, size_by, stored_by}

enumerated : {X : Type 0} (n : ℕ) (xs : List X) (i : ℕ) → slice_get (enumerate_from n xs) i ≡ option_map (λ (x : X). (n + i, x)) (slice_get xs i)
enumerated n [] i = refl
enumerated n (x ∷ xs) zero = let e : n ≡ n + 0 = omega arith in ap (λ (k : ℕ). Some (k, x)) e
enumerated {X} n (x ∷ xs) (suc i) =
    let e : n + 1 + i ≡ n + suc i = omega arith in
    enumerated (n + 1) xs i ∙ ap (λ (k : ℕ). option_map (λ (y : X). (k, y)) (slice_get xs i)) e

-- a section with its number
abbrev pub at : CoffFile → ℕ → SectionHeader → Numbered
at file i h = (i + 1, section_table file.bytes h)

-- the conditions on a section, part by part
abbrev pub name_part : CoffFile → ℕ → SectionHeader → List Condition
name_part file i h = (is_none (name_of_header (tables_in file) h), section_fault (at file i h) (header_place (tables_in file) (at file i h)) BadName) ∷ []

abbrev pub limit_part : CoffFile → ℕ → SectionHeader → List Condition
limit_part file i h = cond (is_some (kind_in (tables_in file).strings h)) (limit_conditions (tables_in file) i (at file i h)) []

abbrev pub parts_fault : CoffFile → ℕ → SectionHeader → Option Fault
parts_fault file i h =
    or_else (first_broken (name_part file i h))
    (or_else (first_broken (copies_of (tables_in file) (at file i h) h))
    (or_else (first_broken (forms_of (tables_in file) (at file i h) h))
    (or_else (first_broken (raw_conditions file.bytes (tables_in file) (at file i h) h))
    (or_else (first_broken (table_conditions file.bytes (tables_in file) (at file i h) h)) (first_broken (limit_part file i h))))))

conditions_are : (file : CoffFile) (i : ℕ) (h : SectionHeader)
    → section_conditions file.bytes (tables_in file) i (at file i h)
    ≡ name_part file i h
    ++ (copies_of (tables_in file) (at file i h) h
    ++ (forms_of (tables_in file) (at file i h) h
    ++ (raw_conditions file.bytes (tables_in file) (at file i h) h ++ (table_conditions file.bytes (tables_in file) (at file i h) h ++ limit_part file i h))))
unfolding section_conditions section_table
conditions_are file i h = refl

five : (a b c d e f : List Condition) → first_broken (a ++ (b ++ (c ++ (d ++ (e ++ f)))))
    ≡ or_else (first_broken a) (or_else (first_broken b) (or_else (first_broken c) (or_else (first_broken d) (or_else (first_broken e) (first_broken f)))))
five a b c d e f =
    first_broken-append a (b ++ (c ++ (d ++ (e ++ f))))
    ∙ ap (or_else (first_broken a))
    (first_broken-append b (c ++ (d ++ (e ++ f)))
    ∙ ap (or_else (first_broken b))
    (first_broken-append c (d ++ (e ++ f)) ∙ ap (or_else (first_broken c)) (first_broken-append d (e ++ f) ∙ ap (or_else (first_broken d)) (first_broken-append e f))))

pub section_broken : (file : CoffFile) (i : ℕ) (h : SectionHeader) → slice_get (tables_in file).sections i ≡ Some (section_table file.bytes h) → section_fault_of file i ≡ parts_fault file i h
section_broken file i h here =
    ap (λ (o : Option Numbered). first_broken (option_map_or (section_conditions file.bytes (tables_in file) i) o []))
    (enumerated 1 (tables_in file).sections i ∙ ap (option_map (λ (x : SectionTable). (1 + i, x))) here
    ∙ (let e : 1 + i ≡ i + 1 = omega arith in ap (λ (k : ℕ). Some (k, section_table file.bytes h)) e))
    ∙ ap first_broken (conditions_are file i h)
    ∙ five (name_part file i h) (copies_of (tables_in file) (at file i h) h) (forms_of (tables_in file) (at file i h) h) (raw_conditions file.bytes (tables_in file) (at file i h) h)
    (table_conditions file.bytes (tables_in file) (at file i h) h) (limit_part file i h)

-- ... limits

-- what section i is worth
size_is : (file : CoffFile) (i : ℕ) (h : SectionHeader) → slice_get (tables_in file).sections i ≡ Some (section_table file.bytes h)
    → worth_by (carried_size (tables_in file)) (tables_in file) i ≡ size_by (kind_in (tables_in file).strings h) h
unfolding section_table
size_is file i h here = ap (λ (o : Option SectionTable). option_map_or (carried_size (tables_in file)) o 0) here

bytes_is : (file : CoffFile) (i : ℕ) (h : SectionHeader) → slice_get (tables_in file).sections i ≡ Some (section_table file.bytes h)
    → worth_by (carried_bytes (tables_in file)) (tables_in file) i ≡ stored_by (kind_in (tables_in file).strings h) h
unfolding section_table
bytes_is file i h here = ap (λ (o : Option SectionTable). option_map_or (carried_bytes (tables_in file)) o 0) here

-- the sums with a section more
pub record AreMore (file : CoffFile) (i sizes bytes : ℕ) : Type 0 where
  pub sizes_are : sizes ≡ sum_upto (worth_by (carried_size (tables_in file)) (tables_in file)) (i + 1)
  pub bytes_are : bytes ≡ sum_upto (worth_by (carried_bytes (tables_in file)) (tables_in file)) (i + 1)

pub sums_more : (file : CoffFile) (i sizes bytes : ℕ) (h : SectionHeader) → slice_get (tables_in file).sections i ≡ Some (section_table file.bytes h) → AreSums (tables_in file) i sizes bytes
    → AreMore file i (sizes + size_by (kind_in (tables_in file).strings h) h) (bytes + stored_by (kind_in (tables_in file).strings h) h)
sums_more file i sizes bytes h here sums = record {
  sizes_are = ap (λ (n : ℕ). n + size_by (kind_in (tables_in file).strings h) h) sums.sizes_are
      ∙ ap (λ (n : ℕ). sum_upto (worth_by (carried_size (tables_in file)) (tables_in file)) i + n) (sym (size_is file i h here))
      ∙ sym (sum_more (worth_by (carried_size (tables_in file)) (tables_in file)) i);
  bytes_are = ap (λ (n : ℕ). n + stored_by (kind_in (tables_in file).strings h) h) sums.bytes_are
      ∙ ap (λ (n : ℕ). sum_upto (worth_by (carried_bytes (tables_in file)) (tables_in file)) i + n) (sym (bytes_is file i h here))
      ∙ sym (sum_more (worth_by (carried_bytes (tables_in file)) (tables_in file)) i);
}

-- the limits, by any numbers
abbrev limits_for : CoffFile → ℕ → SectionHeader → ℕ → ℕ → ℕ → ℕ → ℕ → List Condition
limits_for file i h size sizes sizes_at bytes bytes_at =
    (nat_lt 2147483647 size, section_fault (at file i h) size LimitSection)
    ∷ (nat_lt 2147483648 sizes, section_fault (at file i h) sizes_at LimitSum)
    ∷ (nat_lt 67108864 bytes, section_fault (at file i h) bytes_at LimitBytes)
    ∷ []

sized : (file : CoffFile) (h : SectionHeader) → carried_size (tables_in file) (section_table file.bytes h) ≡ size_by (kind_in (tables_in file).strings h) h
unfolding section_table
sized file h = refl

limits_are : (file : CoffFile) (i : ℕ) (h : SectionHeader) (size sizes bytes : ℕ) → slice_get (tables_in file).sections i ≡ Some (section_table file.bytes h)
    → size ≡ size_by (kind_in (tables_in file).strings h) h → AreMore file i sizes bytes → limit_conditions (tables_in file) i (at file i h) ≡ limits_by i size sizes bytes
limits_are file i h size sizes bytes here is more =
    let w = worth_by (carried_size (tables_in file)) (tables_in file) in
    let v = worth_by (carried_bytes (tables_in file)) (tables_in file) in
    let own : carried_size (tables_in file) (section_table file.bytes h) ≡ size = sized file h ∙ sym is in
    let a : sum_upto w (i + 1) ≡ sizes = sym more.sizes_are in
    let b : sum_upto v (i + 1) ≡ bytes = sym more.bytes_are in
    let p : sum_upto w i + w i ≡ sizes = sym (sum_more w i) ∙ a in
    let q : sum_upto v i + v i ≡ bytes = sym (sum_more v i) ∙ b in
    ap (λ (n : ℕ). limits_for file i h n (sum_upto w i + w i) (sum_upto w (i + 1)) (sum_upto v i + v i) (sum_upto v (i + 1))) own
    ∙ ap (λ (n : ℕ). limits_for file i h size n (sum_upto w (i + 1)) (sum_upto v i + v i) (sum_upto v (i + 1))) p
    ∙ ap (λ (n : ℕ). limits_for file i h size sizes n (sum_upto v i + v i) (sum_upto v (i + 1))) a
    ∙ ap (λ (n : ℕ). limits_for file i h size sizes sizes n (sum_upto v (i + 1))) q
    ∙ ap (λ (n : ℕ). limits_for file i h size sizes sizes bytes n) b

-- the limits on a section, which are none where it is not carried
pub limits_broken : (file : CoffFile) (i sizes bytes : ℕ) (h : SectionHeader) → slice_get (tables_in file).sections i ≡ Some (section_table file.bytes h) → AreSums (tables_in file) i sizes bytes
    → first_broken (limits_by i (size_by (kind_in (tables_in file).strings h) h) (sizes + size_by (kind_in (tables_in file).strings h) h) (bytes + stored_by (kind_in (tables_in file).strings h) h))
    ≡ first_broken (limit_part file i h)
limits_broken file i sizes bytes h here sums = by (kind_in (tables_in file).strings h) refl
  where
    kept : (n m : ℕ) → n ≤ m → nat_lt m (n + 0) ≡ false
    kept n m le = grind (arith, nat_tests)

    by : (kind : Option Kind) → kind_in (tables_in file).strings h ≡ kind
        → first_broken (limits_by i (size_by kind h) (sizes + size_by kind h) (bytes + stored_by kind h)) ≡ first_broken (cond (is_some kind) (limit_conditions (tables_in file) i (at file i h)) [])
    by None e = rw (kept sizes 2147483648 sums.sizes_few, kept bytes 67108864 sums.bytes_few) refl
    by (Some kind) e =
        sym (ap first_broken (limits_are file i h (size_by (Some kind) h) (sizes + size_by (Some kind) h) (bytes + stored_by (Some kind) h) here (ap (λ (k : Option Kind). size_by k h) (sym e))
        (subst (λ (k : Option Kind). AreMore file i (sizes + size_by k h) (bytes + stored_by k h)) e (sums_more file i sizes bytes h here sums))))

-- where the limits are kept, the sums are those with the section
pub sums_kept : (file : CoffFile) (i sizes bytes : ℕ) (h : SectionHeader) → slice_get (tables_in file).sections i ≡ Some (section_table file.bytes h) → AreSums (tables_in file) i sizes bytes
    → first_broken (limits_by i (size_by (kind_in (tables_in file).strings h) h) (sizes + size_by (kind_in (tables_in file).strings h) h) (bytes + stored_by (kind_in (tables_in file).strings h) h)) ≡ None
    → AreSums (tables_in file) (i + 1) (sizes + size_by (kind_in (tables_in file).strings h) h) (bytes + stored_by (kind_in (tables_in file).strings h) h)
sums_kept file i sizes bytes h here sums clean =
    let more = sums_more file i sizes bytes h here sums in
    let holds = all_hold (limits_by i (size_by (kind_in (tables_in file).strings h) h) (sizes + size_by (kind_in (tables_in file).strings h) h) (bytes + stored_by (kind_in (tables_in file).strings h) h)) clean in
    record {
      sizes_are = more.sizes_are;
      bytes_are = more.bytes_are;
      sizes_few = within 2147483648 (sizes + size_by (kind_in (tables_in file).strings h) h) holds.1.0;
      bytes_few = within 67108864 (bytes + stored_by (kind_in (tables_in file).strings h) h) holds.1.1.0;
    }
  where
    within : (a b : ℕ) → nat_lt a b ≡ false → b ≤ a
    within a b e = grind (arith, nat_tests)

-- ... a section that is judged part by part

both : (x y a b : Option Fault) → x ≡ a → y ≡ b → or_else x y ≡ or_else a b
both x y a b e f = ap (λ (o : Option Fault). or_else o y) e ∙ ap (or_else a) f

later : (a b : Option Fault) → or_else a b ≡ None → b ≡ None
later None b e = e
later (Some x) b e = absurd (none-some x (sym e))

-- the first of six faults
pub record AreFaults (n c f r t l all : Option Fault) : Type 0 where
  pub tables : Option Fault
  pub raw : Option Fault
  pub forms : Option Fault
  pub copies : Option Fault
  pub tables_is : tables ≡ or_else t l
  pub raw_is : raw ≡ or_else r tables
  pub forms_is : forms ≡ or_else f raw
  pub copies_is : copies ≡ or_else c forms
  pub all_is : all ≡ or_else n copies

pub faults_are : (n c f r t l all : Option Fault) → AreFaults n c f r t l all → (n1 c1 f1 r1 t1 l1 : Option Fault) → n ≡ n1 → c ≡ c1 → f ≡ f1 → r ≡ r1 → t ≡ t1 → l ≡ l1
    → all ≡ or_else n1 (or_else c1 (or_else f1 (or_else r1 (or_else t1 l1))))
faults_are n c f r t l all are n1 c1 f1 r1 t1 l1 en ec ef er et el =
    are.all_is
    ∙ both n are.copies n1 (or_else c1 (or_else f1 (or_else r1 (or_else t1 l1)))) en
    (are.copies_is
    ∙ both c are.forms c1 (or_else f1 (or_else r1 (or_else t1 l1))) ec
    (are.forms_is
    ∙ both f are.raw f1 (or_else r1 (or_else t1 l1)) ef (are.raw_is ∙ both r are.tables r1 (or_else t1 l1) er (are.tables_is ∙ both t l t1 l1 et el))))

pub last_none : (n c f r t l all : Option Fault) → AreFaults n c f r t l all → all ≡ None → l ≡ None
last_none n c f r t l all are none =
    later t l (sym are.tables_is ∙ later r are.tables (sym are.raw_is ∙ later f are.raw (sym are.forms_is ∙ later c are.forms (sym are.copies_is ∙ later n are.copies (sym are.all_is ∙ none)))))

-- what a section is worth, as it was computed
pub record IsWorth (file : CoffFile) (i sizes bytes size stored : ℕ) (h : SectionHeader) (kind : Option Kind) : Type 0 where
  pub here : slice_get (tables_in file).sections i ≡ Some (section_table file.bytes h)
  pub sums : AreSums (tables_in file) i sizes bytes
  pub kind_is : kind ≡ kind_in (tables_in file).strings h
  pub size_is : size ≡ size_by kind h
  pub stored_is : stored ≡ stored_by kind h

worth_same : (file : CoffFile) (i sizes bytes size stored : ℕ) (h : SectionHeader) (kind : Option Kind) → IsWorth file i sizes bytes size stored h kind
    → first_broken (limits_by i size (sizes + size) (bytes + stored))
    ≡ first_broken (limits_by i (size_by (kind_in (tables_in file).strings h) h) (sizes + size_by (kind_in (tables_in file).strings h) h) (bytes + stored_by (kind_in (tables_in file).strings h) h))
worth_same file i sizes bytes size stored h kind worth =
    ap (λ (n : ℕ). first_broken (limits_by i n (sizes + n) (bytes + stored))) (worth.size_is ∙ ap (λ (k : Option Kind). size_by k h) worth.kind_is)
    ∙ ap (λ (n : ℕ). first_broken (limits_by i (size_by (kind_in (tables_in file).strings h) h) (sizes + size_by (kind_in (tables_in file).strings h) h) (bytes + n))) (worth.stored_is ∙ ap (λ (k : Option Kind). stored_by k h) worth.kind_is)

pub worth_limits : (file : CoffFile) (i sizes bytes size stored : ℕ) (h : SectionHeader) (kind : Option Kind) → IsWorth file i sizes bytes size stored h kind
    → first_broken (limits_by i size (sizes + size) (bytes + stored)) ≡ first_broken (limit_part file i h)
worth_limits file i sizes bytes size stored h kind worth = worth_same file i sizes bytes size stored h kind worth ∙ limits_broken file i sizes bytes h worth.here worth.sums

pub worth_sums : (file : CoffFile) (i sizes bytes size stored : ℕ) (h : SectionHeader) (kind : Option Kind) → IsWorth file i sizes bytes size stored h kind
    → first_broken (limits_by i size (sizes + size) (bytes + stored)) ≡ None → AreSums (tables_in file) (i + 1) (sizes + size) (bytes + stored)
worth_sums file i sizes bytes size stored h kind worth clean =
    subst (λ (n : ℕ). AreSums (tables_in file) (i + 1) (sizes + n) (bytes + stored)) (sym (worth.size_is ∙ ap (λ (k : Option Kind). size_by k h) worth.kind_is))
    (subst (λ (n : ℕ). AreSums (tables_in file) (i + 1) (sizes + size_by (kind_in (tables_in file).strings h) h) (bytes + n)) (sym (worth.stored_is ∙ ap (λ (k : Option Kind). stored_by k h) worth.kind_is))
    (sums_kept file i sizes bytes h worth.here worth.sums (sym (worth_same file i sizes bytes size stored h kind worth) ∙ clean)))

-- the sections so far have no fault, and the sums are theirs
pub record IsChecking (file : CoffFile) (i sizes bytes : ℕ) : Type 0 where
  pub clean : first_upto (section_fault_of file) i ≡ None
  pub sums : AreSums (tables_in file) i sizes bytes

pub checking_none : (file : CoffFile) → IsChecking file 0 0 0
checking_none file = record { clean = refl; sums = record { sizes_are = refl; bytes_are = refl; sizes_few = omega arith; bytes_few = omega arith } }
