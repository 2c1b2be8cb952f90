-- What a section header has that has no fault, and the loop over all.
use Rattle.std.proofs.Common.{◌≡◌, ℕ, zero, suc, ◌+◌, ◌<◌, ◌≤◌, ◌^◌, ◌⊎◌, inl, inr, Bool, true, false, cond, eqb, List, [], ◌∷◌, ◌++◌, length, map, set, Option, None, Some, refl, sym, ◌∙◌, ap, subst, arith}
use Rattle.std.specs.{Prelude.{not, ◌&&◌, ◌||◌, nat_lt, is_some, if◌then◌else◌}, List.{range_with_len}}
use Rattle.std.proofs.lemmas.{Bool.{eqb-true, true≢false, and_parts, not-false}, Bool.Decides.{nat_tests}}
use Rattle.oc_base.specs.{declared.code.Code.TheVariants.{BadAlign, AlignRange, BadTable, Group}, declared.fault.Fault.{Fault}, declared.format.Word.{Word}}
use Rattle.oc_base.specs.declared.format.Word.TheVariants.{W32, W64}
use Rattle.oc_linking.specs.{Numbers.{first_upto, or_else}, FirstFault.{Condition, first_broken, fault_of}}
use Rattle.oc_neutral.specs.Building.{is_zero}
use Rattle.oc_shelf.specs.{Reading.Sums.{sum_upto}, Reading.Slots.{AreSlots}, Reading.Firsts.{any_upto}}
use Rattle.oc_shelf.proofs.ReadingLaws.StageLemmas.{all_hold, implied, clean_both, clean_more, broken_of_three, first_broken-append, sum_more}
use Rattle.oc_shelf.proofs.{ReadingLaws.FirstsLemmas.{first_more, keyed_more, keyed_none}, ReadingLaws.SlotLemmas.{slots_same, slots_filled}}
use Rattle.oc_elf.specs.{declared.constants.TheConstants.{SHT_SYMTAB, SHT_SYMTAB_SHNDX, SHT_GROUP, GRP_COMDAT}, declared.shdr.Shdr.{Shdr}, Shdr.{null_shdr}}
use Rattle.oc_elf.specs.{Names.{name_in}, Frames.{FileFrame, shdr_count, header_at, header_place, framed, headers_of, header_of}, Laid.{IsFrame}}
use Rattle.oc_elf.specs.{Classes.{reloc_type, word_of}, Groups.{owner_among, member_count, group_word}}
use Rattle.oc_elf.specs.Sections.{is_type, is_carried, kind_of, relocated_by, table_among, symtab_among}
use Rattle.oc_elf.specs.SectionRules.{has_bytes, is_left_out, form_conditions, is_good_shndx, is_good_symtab, is_good_table, table_conditions, is_alignment, size_counted, bytes_counted, sum_with, section_fault, limits_by, is_good_group, is_bad_member, group_conditions, carried_conditions, conditions_on, section_conditions, section_stage}

-- a carried section is aligned, and passes no limit
pub record IsCounted (f : FileFrame) (k : ℕ) (s : Shdr) : Type 0 where
  pub aligned : is_alignment s.sh_addralign ≡ true
  pub range : s.sh_addralign ≤ 2 ^ 20
  pub size : s.sh_size ≤ 2147483647
  pub sizes : sum_with (size_counted f) k ≤ 2147483648
  pub bytes : sum_with (bytes_counted f) k ≤ 67108864

-- what a group has that has no fault
pub record IsSoundGroup (f : FileFrame) (k : ℕ) (s : Shdr) : Type 0 where
  pub good : is_good_group f s ≡ true
  pub members : any_upto (is_bad_member f k s) (member_count s) ≡ false
  pub flags : (eqb (group_word f s 0) 0 || eqb (group_word f s 0) GRP_COMDAT) ≡ true

-- what section k has whose header has no fault
pub record IsSound (f : FileFrame) (k : ℕ) (s : Shdr) : Type 0 where
  pub lies : has_bytes s ≡ true → s.sh_offset + s.sh_size ≤ length f.file
  pub named : is_some (name_in f.file f.names s.sh_name) ≡ true
  pub group : is_type SHT_GROUP s ≡ true → IsSoundGroup f k s
  pub plain : is_left_out f s ≡ false
  pub symtab : is_type SHT_SYMTAB s ≡ true → is_good_symtab f k s ≡ true
  pub table : is_type (reloc_type (word_of f.class)) s ≡ true → is_good_table f k s ≡ true
  pub shndx : is_type SHT_SYMTAB_SHNDX s ≡ true → is_good_shndx f k s ≡ true
  pub carried : is_carried s ≡ true → IsCounted f k s

at_most : (a b : ℕ) → nat_lt a b ≡ false → b ≤ a
at_most a b e = grind (arith, nat_tests)

abbrev aligned_conditions : ℕ → ℕ → Shdr → List Condition
aligned_conditions k place s = (not (is_alignment s.sh_addralign), section_fault BadAlign k place) ∷ (nat_lt (2 ^ 20) s.sh_addralign, section_fault AlignRange k place) ∷ []

-- section header k
abbrev pub here : FileFrame → ℕ → Shdr
here f k = header_at f.headers k

counted_is : (f : FileFrame) (k place : ℕ) (s : Shdr) → first_broken (carried_conditions f k place s) ≡ None → is_carried s ≡ true → IsCounted f k s
unfolding carried_conditions
counted_is f k place s clean is =
    let holds = all_hold (aligned_conditions k place s ++ limits_by k s.sh_size (sum_with (size_counted f) k) (sum_with (bytes_counted f) k)) (sym (ap (λ b. first_broken (cond b (aligned_conditions k place s ++ limits_by k s.sh_size (sum_with (size_counted f) k) (sum_with (bytes_counted f) k)) [])) is) ∙ clean) in
    record {
      aligned = not-false _ holds.0;
      range = at_most (2 ^ 20) s.sh_addralign holds.1.0;
      size = at_most 2147483647 s.sh_size holds.1.1.0;
      sizes = at_most 2147483648 (sum_with (size_counted f) k) holds.1.1.1.0;
      bytes = at_most 67108864 (sum_with (bytes_counted f) k) holds.1.1.1.1.0;
    }

abbrev group_list : FileFrame → ℕ → ℕ → Shdr → List Condition
group_list f k place s =
    (not (is_good_group f s), section_fault BadTable k place)
    ∷ (any_upto (is_bad_member f k s) (member_count s), section_fault BadTable k place)
    ∷ (not (eqb (group_word f s 0) 0 || eqb (group_word f s 0) GRP_COMDAT), section_fault Group k place)
    ∷ []

sound_group : (f : FileFrame) (k place : ℕ) (s : Shdr) → first_broken (group_conditions f k place s) ≡ None → is_type SHT_GROUP s ≡ true → IsSoundGroup f k s
unfolding group_conditions
sound_group f k place s clean is =
    let holds = all_hold (group_list f k place s) (sym (ap (λ b. first_broken (cond b (group_list f k place s) [])) is) ∙ clean) in
    record { good = not-false _ holds.0; members = holds.1.0; flags = not-false _ holds.1.1.0 }

-- the bytes of a header without a fault of its own lie in the file
pub form_lies : (f : FileFrame) (k place : ℕ) (s : Shdr) → first_broken (form_conditions f k place s) ≡ None → has_bytes s ≡ true → s.sh_offset + s.sh_size ≤ length f.file
unfolding form_conditions
form_lies f k place s clean has =
    let forms = all_hold (form_conditions f k place s) clean in
    at_most (length f.file) (s.sh_offset + s.sh_size) (unmet (has_bytes s) _ forms.0 has)
  where
    unmet : (a b : Bool) → (a && b) ≡ false → a ≡ true → b ≡ false
    unmet true b e h = e
    unmet false b e h = absurd (true≢false (sym h))

-- none of the four lists of conditions on a section is broken
pub record AreClean (f : FileFrame) (k place : ℕ) (s : Shdr) : Type 0 where
  pub form : first_broken (form_conditions f k place s) ≡ None
  pub group : first_broken (group_conditions f k place s) ≡ None
  pub table : first_broken (table_conditions f k place s) ≡ None
  pub carried : first_broken (carried_conditions f k place s) ≡ None

pub all_clean : (f : FileFrame) (k place : ℕ) (s : Shdr) → first_broken (conditions_on f k place s) ≡ None → AreClean f k place s
unfolding conditions_on
all_clean f k place s clean =
    let a = clean_both (form_conditions f k place s) (group_conditions f k place s ++ (table_conditions f k place s ++ carried_conditions f k place s)) clean in
    let b = clean_both (group_conditions f k place s) (table_conditions f k place s ++ carried_conditions f k place s) a.1 in
    let c = clean_both (table_conditions f k place s) (carried_conditions f k place s) b.1 in
    record { form = a.0; group = b.0; table = c.0; carried = c.1 }

pub sound : (f : FileFrame) (k place : ℕ) (s : Shdr) → first_broken (conditions_on f k place s) ≡ None → IsSound f k s
unfolding form_conditions table_conditions
sound f k place s clean =
    let are = all_clean f k place s clean in
    let forms = all_hold (form_conditions f k place s) are.form in
    let tables = all_hold (table_conditions f k place s) are.table in
    record {
      lies = form_lies f k place s are.form;
      named = not-false _ forms.1.0;
      group = sound_group f k place s are.group;
      plain = tables.0;
      symtab = implied _ _ tables.1.0;
      table = implied _ _ tables.1.1.0;
      shndx = implied _ _ tables.1.1.1.0;
      carried = counted_is f k place s are.carried;
    }

-- while headers are checked: those so far have no fault, and the tables and the sums are theirs
pub record IsChecking (f : FileFrame) (k : ℕ) (symtab : Option ℕ) (relocs owners : List (Option ℕ)) (sizes bytes : ℕ) : Type 0 where
  pub clean : first_upto (fault_of (section_stage f)) k ≡ None
  pub symtab_is : symtab ≡ symtab_among f k
  pub relocs_are : AreSlots (table_among f k) (length f.headers) relocs
  pub owners_are : AreSlots (owner_among f k) (length f.headers) owners
  pub sizes_are : sizes ≡ sum_upto (size_counted f) k
  pub sizes_small : sizes ≤ 2147483648
  pub bytes_are : bytes ≡ sum_upto (bytes_counted f) k
  pub bytes_small : bytes ≤ 67108864

-- header 0 is that of no section
pub null_first : (f : FileFrame) → IsFrame f → header_at f.headers 0 ≡ null_shdr
unfolding framed headers_of header_of
null_first f is = ap (λ (g : FileFrame). header_at g.headers 0) is.is ∙ by (shdr_count f.class f.file)
  where
    by : (n : ℕ) → header_at (map (header_of (word_of f.class) f.file) (range_with_len 0 n)) 0 ≡ null_shdr
    by zero = refl
    by (suc n) = refl

pub section_broken : (f : FileFrame) (k : ℕ) → eqb k 0 ≡ false → first_broken (section_conditions f k) ≡ first_broken (conditions_on f k (header_place (word_of f.class) f.file k) (header_at f.headers k))
unfolding section_conditions
section_broken f k some = rw some refl

-- where neither the form nor the group is at fault, the rest is
pub rest_broken : (f : FileFrame) (k place : ℕ) (s : Shdr) → first_broken (form_conditions f k place s) ≡ None → first_broken (group_conditions f k place s) ≡ None
    → first_broken (conditions_on f k place s) ≡ or_else (first_broken (table_conditions f k place s)) (first_broken (carried_conditions f k place s))
unfolding conditions_on
rest_broken f k place s form group =
    broken_of_three (form_conditions f k place s) (group_conditions f k place s) (table_conditions f k place s ++ carried_conditions f k place s)
    ∙ ap (λ (o : Option Fault). or_else o (or_else (first_broken (group_conditions f k place s)) (first_broken (table_conditions f k place s ++ carried_conditions f k place s)))) form
    ∙ ap (λ (o : Option Fault). or_else o (first_broken (table_conditions f k place s ++ carried_conditions f k place s))) group
    ∙ first_broken-append (table_conditions f k place s) (carried_conditions f k place s)

-- a fault of the form is the fault, and so is one of the group where the form has none
pub form_broken : (f : FileFrame) (k place : ℕ) (s : Shdr) (fault : Fault) → first_broken (form_conditions f k place s) ≡ Some fault → first_broken (conditions_on f k place s) ≡ Some fault
unfolding conditions_on
form_broken f k place s fault e =
    first_broken-append (form_conditions f k place s) (group_conditions f k place s ++ (table_conditions f k place s ++ carried_conditions f k place s))
    ∙ ap (λ (o : Option Fault). or_else o (first_broken (group_conditions f k place s ++ (table_conditions f k place s ++ carried_conditions f k place s)))) e

pub group_broken : (f : FileFrame) (k place : ℕ) (s : Shdr) (fault : Fault) → first_broken (form_conditions f k place s) ≡ None → first_broken (group_conditions f k place s) ≡ Some fault
    → first_broken (conditions_on f k place s) ≡ Some fault
unfolding conditions_on
group_broken f k place s fault form e =
    broken_of_three (form_conditions f k place s) (group_conditions f k place s) (table_conditions f k place s ++ carried_conditions f k place s)
    ∙ ap (λ (o : Option Fault). or_else o (or_else (first_broken (group_conditions f k place s)) (first_broken (table_conditions f k place s ++ carried_conditions f k place s)))) form
    ∙ ap (λ (o : Option Fault). or_else o (first_broken (table_conditions f k place s ++ carried_conditions f k place s))) e

-- a section header without a fault is that of no section, or sound
pub sound_at : (f : FileFrame) (k : ℕ) → first_broken (section_conditions f k) ≡ None → (k ≡ 0) ⊎ IsSound f k (header_at f.headers k)
sound_at f k clean = elim (eqb k 0) as (λ b. eqb k 0 ≡ b → (k ≡ 0) ⊎ IsSound f k (header_at f.headers k)) [
  | true ↦ λ e. inl (eqb-true k 0 e)
  | false ↦ λ e. inr (sound f k (header_place (word_of f.class) f.file k) (header_at f.headers k) (sym (section_broken f k e) ∙ clean))
] refl

-- what the loop makes of a header without a fault
pub record IsStep (f : FileFrame) (k : ℕ) : Type 0 where
  pub inside : is_type (reloc_type (word_of f.class)) (header_at f.headers k) ≡ true → (header_at f.headers k).sh_info < length f.headers
  pub new : is_type (reloc_type (word_of f.class)) (header_at f.headers k) ≡ true → table_among f k (header_at f.headers k).sh_info ≡ None
  pub sizes : sum_upto (size_counted f) k ≤ 2147483648 → sum_with (size_counted f) k ≤ 2147483648
  pub bytes : sum_upto (bytes_counted f) k ≤ 67108864 → sum_with (bytes_counted f) k ≤ 67108864

none_is : {X : Type 0} (o : Option X) → not (is_some o) ≡ true → o ≡ None
none_is None e = refl
none_is (Some x) e = absurd (true≢false (sym e))

no_table : (w : Word) → is_type (reloc_type w) null_shdr ≡ false
no_table W32 = refl
no_table W64 = refl

step_first : (f : FileFrame) → header_at f.headers 0 ≡ null_shdr → IsStep f 0
step_first f null = record {
  inside = λ is. absurd (true≢false (sym is ∙ ap (is_type (reloc_type (word_of f.class))) null ∙ no_table (word_of f.class)));
  new = λ is. absurd (true≢false (sym is ∙ ap (is_type (reloc_type (word_of f.class))) null ∙ no_table (word_of f.class)));
  sizes = λ before. let none : size_counted f 0 ≡ 0 = ap (λ (s : Shdr). cond (is_carried s) s.sh_size 0) null in omega (arith, none);
  bytes = λ before. let none : bytes_counted f 0 ≡ 0 = ap (λ (s : Shdr). cond (is_carried s && not (is_zero (kind_of f s))) s.sh_size 0) null in omega (arith, none);
}

step_sound : (f : FileFrame) (k : ℕ) → IsSound f k (header_at f.headers k) → IsStep f k
unfolding is_good_table
step_sound f k is = record {
  inside = λ t. let good = and_parts _ _ (is.table t) in let inner = and_parts _ _ good.0 in below inner.1;
  new = λ t. let good = and_parts _ _ (is.table t) in none_is (table_among f k (here f k).sh_info) good.1;
  sizes = λ before. elim (is_carried (here f k)) as (λ b. is_carried (here f k) ≡ b → sum_upto (size_counted f) k + cond b (here f k).sh_size 0 ≤ 2147483648) [
    | true ↦ λ e. let most = (is.carried e).sizes in subst (λ b. sum_upto (size_counted f) k + cond b (here f k).sh_size 0 ≤ 2147483648) e most
    | false ↦ λ e. omega arith
  ] refl;
  bytes = λ before. elim (is_carried (here f k)) as (λ b. is_carried (here f k) ≡ b → sum_upto (bytes_counted f) k + cond (b && not (is_zero (kind_of f (here f k)))) (here f k).sh_size 0 ≤ 67108864) [
    | true ↦ λ e. let most = (is.carried e).bytes in subst (λ b. sum_upto (bytes_counted f) k + cond (b && not (is_zero (kind_of f (here f k)))) (here f k).sh_size 0 ≤ 67108864) e most
    | false ↦ λ e. omega arith
  ] refl;
}
  where
    below : nat_lt (here f k).sh_info (length f.headers) ≡ true → (here f k).sh_info < length f.headers
    below e = grind (arith, nat_tests)

pub step_at : (f : FileFrame) (k : ℕ) → IsFrame f → first_broken (section_conditions f k) ≡ None → IsStep f k
step_at f k frame clean = elim (sound_at f k clean) as (λ _. IsStep f k) [
  | inl none ↦ subst (λ (j : ℕ). IsStep f j) (sym none) (step_first f (null_first f frame))
  | inr is ↦ step_sound f k is
]

-- one header more
pub checking_more : (f : FileFrame) (k : ℕ) (symtab symtab' : Option ℕ) (relocs relocs' owners owners' : List (Option ℕ)) (sizes sizes' bytes bytes' : ℕ) → IsChecking f k symtab relocs owners sizes bytes → IsStep f k
    → first_broken (section_conditions f k) ≡ None
    → symtab' ≡ or_else symtab (if is_type SHT_SYMTAB (header_at f.headers k) then Some k else None)
    → relocs' ≡ (if is_type (reloc_type (word_of f.class)) (header_at f.headers k) then set relocs (header_at f.headers k).sh_info (Some k) else relocs)
    → AreSlots (owner_among f (k + 1)) (length f.headers) owners'
    → sizes' ≡ sizes + size_counted f k → bytes' ≡ bytes + bytes_counted f k
    → IsChecking f (k + 1) symtab' relocs' owners' sizes' bytes'
checking_more f k symtab symtab' relocs relocs' owners owners' sizes sizes' bytes bytes' inv step clean symtab_new relocs_new owners_new sizes_new bytes_new = record {
  clean = clean_more (fault_of (section_stage f)) k inv.clean clean;
  symtab_is = symtab_new ∙ ap (λ (o : Option ℕ). or_else o (cond (is_type SHT_SYMTAB (here f k)) (Some k) None)) inv.symtab_is ∙ sym (first_more (λ j. cond (is_type SHT_SYMTAB (header_at f.headers j)) (Some j) None) k);
  relocs_are = subst (AreSlots (table_among f (k + 1)) (length f.headers)) (sym relocs_new) (by (is_type (reloc_type (word_of f.class)) (here f k)) refl);
  owners_are = owners_new;
  sizes_are = let e = sum_more (size_counted f) k in let b = inv.sizes_are in omega (arith, e, b, sizes_new);
  sizes_small = let b = inv.sizes_are in let l = inv.sizes_small in let most = step.sizes (rw (← inv.sizes_are) inv.sizes_small) in omega (arith, b, sizes_new, most);
  bytes_are = let e = sum_more (bytes_counted f) k in let b = inv.bytes_are in omega (arith, e, b, bytes_new);
  bytes_small = let b = inv.bytes_are in let most = step.bytes (rw (← inv.bytes_are) inv.bytes_small) in omega (arith, b, bytes_new, most);
}
  where
    by : (b : Bool) → is_type (reloc_type (word_of f.class)) (here f k) ≡ b → AreSlots (table_among f (k + 1)) (length f.headers) (cond b (set relocs (here f k).sh_info (Some k)) relocs)
    by true e = slots_filled (table_among f k) (table_among f (k + 1)) (length f.headers) (here f k).sh_info k relocs inv.relocs_are (step.inside e)
        (keyed_more (relocated_by f) k (here f k).sh_info (ap (λ b. cond b (Some (here f k).sh_info) None) e) (step.new e))
    by false e = slots_same (table_among f k) (table_among f (k + 1)) (length f.headers) relocs inv.relocs_are (keyed_none (relocated_by f) k (ap (λ b. cond b (Some (here f k).sh_info) None) e))
