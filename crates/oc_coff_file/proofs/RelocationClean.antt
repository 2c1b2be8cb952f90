-- The relocation entries of a canonical file break no condition.
use Rattle.std.proofs.Common.{◌≡◌, ℕ, zero, suc, ◌+◌, ◌≤◌, Bool, true, false, ◌&&◌, ◌||◌, List, [], ◌∷◌, ◌++◌, map, Option, Some, None, refl, sym, ◌∙◌, ap, subst, arith}
use Rattle.std.specs.{Prelude.{slice_get, filter, nat_lt}, List.{AllByRecursion, enumerate_from, list_any}, Option.{option_map_or}}
use Rattle.std.proofs.lemmas.Option.{none-some, same_Some}
use Rattle.oc_coff.specs.{declared.form.CoffForm.{CoffForm}, Entries.{entries_in}, Sections.{Carried, carried_in, sections_in}, Targets.{Aim, aim_in}}
use Rattle.oc_coff.specs.{Forms.{coff_format, word_of}, RelocationFaults.{Judged, judged_from, judged_in, meets_field, relocation_conditions, relocation_stage}}
use Rattle.oc_linking.specs.{declared.terms.Base.TheVariants.{HomeNumber}, Keeping.{all, keeps}, Fits.{bytes_of}, Rules.{Symbolic}}
use Rattle.oc_chains.specs.declared.field.Field as chains
use Rattle.oc_chains.specs.{Lists.{list_of}, Fields.{FollowFrom, end_of}}
use Rattle.oc_neutral.specs.{declared.section.Section.{Section}, declared.symbol.Symbol.{Symbol}, declared.reloc.Reloc.{Reloc}, declared.reloc.Target.{Target}}
use Rattle.oc_neutral.specs.{Objects.{Object, reloc_at}, Invariants.{IsHeld, IsThere}, Rows.{Row, TakesHome, same_base, same_taken}, RelocTables.{row_of}}
use Rattle.oc_neutral.specs.TargetRelocations.{is_homeless, needs_home}
use Rattle.oc_neutral.specs.declared.reloc.Target.TheVariants as target
use Rattle.oc_shows.specs.RowFields.{place_target}
use Rattle.oc_neutral.proofs.{Positions.{there_at, each_at}, Adding.{wide_enough}}
use Rattle.oc_shelf.specs.Writing.Parts.{Laid}
use Rattle.oc_shelf.proofs.{WritingLaws.MemberLemmas.{each_flat_map, each_map, each_enumerated, all_members}, ReadingLaws.StageLemmas.{Unbroken, IsUnbroken}}
use Rattle.oc_coff.specs.RelocationFaults as faults
use Rattle.oc_coff_file.specs.{Lines.{Line, numbered_lines, outer_number}, Bodies.{type_of, relocation_of, relocs_of, target_number}}
use Rattle.oc_coff_file.proofs.{TableLaws.{made_tables}, CodedLaws.{IsForCoff, coded_section}, SectionLaws.{made_carried, stored_read}, SymbolLaws.{S, E}}
use Rattle.oc_coff_file.proofs.{TargetLaws.{section_aim, symbol_aim}, FieldLaws.{coff_reloc, has_bytes, inside, meets, row, row_found, says_something}}
use Rattle.oc_coff_file.proofs.{LineLaws.{each_filter}, CodableLaws.{HasNumbers}, HeaderClean.{within_file}, SectionClean.{and_false}}
use Rattle.oc_shows.proofs.FoundLaws.{found_in}

-- fields that have ended by a place
abbrev EndBy : ℕ → List (chains.Field Reloc) → Type 0
EndBy p ys = AllByRecursion (λ (y : chains.Field Reloc). end_of y ≤ p) ys

end_later : (p q : ℕ) (ys : List (chains.Field Reloc)) → p ≤ q → EndBy p ys → EndBy q ys
end_later p q [] le ends = tt
end_later p q (y ∷ ys) le ends = let l = ends.0 in (omega (arith, l, le), end_later p q ys le ends.1)

end_more : (p : ℕ) (ys : List (chains.Field Reloc)) (x : chains.Field Reloc) → EndBy p ys → end_of x ≤ p → EndBy p (ys ++ x ∷ [])
end_more p [] x ends l = (l, tt)
end_more p (y ∷ ys) x ends l = (ends.0, end_more p ys x ends.1 l)

map_more : {X Y : Type 0} (f : X → Y) (xs : List X) (x : X) → map f xs ++ f x ∷ [] ≡ map f (xs ++ x ∷ [])
map_more f [] x = refl
map_more f (y ∷ xs) x = ap (λ zs. f y ∷ zs) (map_more f xs x)

module _ (w : CoffForm) (n : Object) (is : IsForCoff w n) (numbers : HasNumbers w n) (sections : sections_in (made_tables w n) ≡ S w n is) (entries : entries_in (made_tables w n) ≡ E w n is)
    (carried : carried_in (made_tables w n) ≡ map (made_carried w n) (enumerate_from 0 n.sections)) where
  abbrev lines : List (Laid Line)
  lines = numbered_lines w n

  -- an entry that was before meets no field behind it
  apart_from : (at width : ℕ) (ys : List (chains.Field Reloc)) → EndBy at ys → AllByRecursion (λ (y : chains.Field Reloc). (row : Row) → row_of (coff_format (word_of w)) (type_of w y.item) ≡ Some row → bytes_of row.width ≤ y.width) ys
      → list_any (meets_field (word_of w) at width) (map (relocation_of w lines) ys) ≡ false
  apart_from at width [] end wide = refl
  apart_from at width (y ∷ ys) end wide =
      rw (by (row_of (coff_format (word_of w)) (type_of w y.item)) refl) (apart_from at width ys end.1 wide.1)
    where
      by : (o : Option Row) → row_of (coff_format (word_of w)) (type_of w y.item) ≡ o
          → option_map_or (λ (row : Row). nat_lt at (y.at + bytes_of row.width) && nat_lt y.at (at + width)) o false ≡ false
      by None e = refl
      by (Some row) e =
          let l = end.0 in
          let u = wide.0 row e in
          ap (λ b. b && nat_lt y.at (at + width)) (within_file at (y.at + bytes_of row.width) (omega (arith, l, u)))

  module _ (k : ℕ) (s : Section) (here : slice_get n.sections k ≡ Some s) where
    abbrev c : Carried
    c = made_carried w n (k, s)

    -- the row of a relocation with a home needs one
    needs_same : (at : ℕ) (r : Reloc) (there : reloc_at n k at ≡ Some r) → faults.needs_home (row w n is k at r there) ≡ needs_home r.form
    needs_same at r there =
        ap (λ b. same_base b HomeNumber || same_taken (row w n is k at r there).taken TakesHome) (meets w n is k at r there).is.base
        ∙ ap (λ t. same_base r.form.base HomeNumber || same_taken t TakesHome) (coff_reloc w n is k at r there).taken

    -- what the symbol of a relocation stands for
    pub record IsAimed (at : ℕ) (r : Reloc) (there : reloc_at n k at ≡ Some r) : Type 0 where
      pub aim : Aim
      pub found : aim_in (word_of w) (made_tables w n) (target_number lines r.target) ≡ Some (Some aim)
      pub home : (faults.needs_home (row w n is k at r there) && aim.homeless) ≡ false

    home_by : (at : ℕ) (r : Reloc) (there : reloc_at n k at ≡ Some r) (j : ℕ) (z : Symbol) → r.target ≡ target.Symbol j → slice_get n.symbols j ≡ Some z
        → (b : Bool) → needs_home r.form ≡ b → (b && is_homeless z.binding) ≡ false
    home_by at r there j z e here true own = (meets w n is k at r there).home j z own e here
    home_by at r there j z e here false own = refl

    aimed : (at : ℕ) (r : Reloc) (there : reloc_at n k at ≡ Some r) → IsAimed at r there
    aimed at r there = by r.target refl
      where
        by : (t : Target) → r.target ≡ t → IsAimed at r there
        by (target.Section j) e =
            let y = there_at n.sections j (subst (λ t. IsThere n t) e (meets w n is k at r there).normal.target) in
            record {
              aim = record { target = place_target (word_of w) j 0; homeless = false };
              found = ap (λ t. aim_in (word_of w) (made_tables w n) (target_number lines t)) e ∙ section_aim w n is numbers.tags numbers.small sections entries j y.0 y.1;
              home = and_false (faults.needs_home (row w n is k at r there));
            }
        by (target.Symbol j) e =
            let z = there_at n.symbols j (subst (λ t. IsThere n t) e (meets w n is k at r there).normal.target) in
            record {
              aim = record { target = record { named = Symbolic (outer_number lines j); worth = λ p v. v (outer_number lines j) }; homeless = is_homeless z.0.binding };
              found = ap (λ t. aim_in (word_of w) (made_tables w n) (target_number lines t)) e ∙ symbol_aim w n is numbers.tags numbers.small sections entries j z.0 z.1 ((meets w n is k at r there).outer j z.0 e z.1);
              home = ap (λ b. b && is_homeless z.0.binding) (needs_same at r there) ∙ home_by at r there j z.0 e z.1 (needs_home r.form) refl;
            }

    -- the conditions on the entry of a field
    entry_clean : (at : ℕ) (ys : List (chains.Field Reloc)) (x : chains.Field Reloc) → reloc_at n k x.at ≡ Some x.item
        → EndBy x.at ys → AllByRecursion (λ (y : chains.Field Reloc). (row : Row) → row_of (coff_format (word_of w)) (type_of w y.item) ≡ Some row → bytes_of row.width ≤ y.width) ys
        → Unbroken (relocation_conditions (word_of w) (made_tables w n) (record { of = c; at = at; earlier = map (relocation_of w lines) ys; entry = relocation_of w lines x }))
    unfolding relocation_conditions
    entry_clean at ys x there end wide =
        let own = inside w n is k x.at x.item there s here in
        let many = wide_enough x.item.form.width in
        let b = has_bytes w n is k s here x.at x.item there in
        let size = b.1 in
        let same : bytes_of (row w n is k x.at x.item there).width ≡ bytes_of x.item.form.width = ap bytes_of (meets w n is k x.at x.item there).is.width in
        let stored : c.stored ≡ true = stored_read w n numbers.small k s here (coded_section w n is k s here) ((coded_section w n is k s here).zeros ∙ b.0) (omega (arith, own, many)) in
        let a = aimed x.at x.item there in
        let aim = a.found in
        let home = a.home in
        let found = row_found w n is k x.at x.item there in
        let says = says_something w n is k x.at x.item there in
        rw (says, found, aim, stored) (
          refl,
          (
            within_file s.size (x.at + bytes_of (row w n is k x.at x.item there).width) (omega (arith, own, size, same)),
            (
              refl,
              (
                home,
                (apart_from x.at (bytes_of (row w n is k x.at x.item there).width) ys end wide, tt),
              ),
            ),
          ),
        )

    -- the row of a field is as wide as the field
    abbrev IsWide : chains.Field Reloc → Type 0
    IsWide y = (row : Row) → row_of (coff_format (word_of w)) (type_of w y.item) ≡ Some row → bytes_of row.width ≤ y.width

    wide_field : (x : chains.Field Reloc) → reloc_at n k x.at ≡ Some x.item → x.width ≡ bytes_of x.item.form.width → IsWide x
    wide_field x there own z e =
        let same : z ≡ row w n is k x.at x.item there = same_Some z (row w n is k x.at x.item there) (sym e ∙ row_found w n is k x.at x.item there) in
        let width : bytes_of z.width ≡ bytes_of x.item.form.width = ap (λ (q : Row). bytes_of q.width) same ∙ ap bytes_of (meets w n is k x.at x.item there).is.width in
        omega (arith, width, own)

    judged_clean : (p at : ℕ) (ys xs : List (chains.Field Reloc)) → FollowFrom p xs → EndBy p ys → AllByRecursion IsWide ys → AllByRecursion IsWide xs
        → ((i : ℕ) (x : chains.Field Reloc) → slice_get xs i ≡ Some x → reloc_at n k x.at ≡ Some x.item)
        → (j : ℕ) (z : Judged) → slice_get (judged_from c at (map (relocation_of w lines) ys) (map (relocation_of w lines) xs)) j ≡ Some z → Unbroken (relocation_conditions (word_of w) (made_tables w n) z)
    judged_clean p at ys [] follow end wide wide' there j z h = absurd (none-some z h)
    judged_clean p at ys (x ∷ xs) follow end wide wide' there zero z h =
        subst (λ (q : Judged). Unbroken (relocation_conditions (word_of w) (made_tables w n) q)) (same_Some _ z h) (entry_clean at ys x (there 0 x refl) (end_later p x.at ys follow.0 end) wide)
    judged_clean p at ys (x ∷ xs) follow end wide wide' there (suc j) z h =
        let l = follow.0 in
        judged_clean (end_of x) (at + 10) (ys ++ x ∷ []) xs follow.2 (end_more (end_of x) ys x (end_later p (end_of x) ys (omega (arith, l)) end) (omega arith)) (wide_more ys x wide wide'.0) wide'.1
        (λ i y e. there (suc i) y e) j z
        (ap (λ earlier. slice_get (judged_from c (at + 10) earlier (map (relocation_of w lines) xs)) j) (sym (map_more (relocation_of w lines) ys x)) ∙ h)
      where
        wide_more : (ys : List (chains.Field Reloc)) (x : chains.Field Reloc) → AllByRecursion IsWide ys → IsWide x → AllByRecursion IsWide (ys ++ x ∷ [])
        wide_more [] x each own = (own, tt)
        wide_more (y ∷ ys) x each own = (each.0, wide_more ys x each.1 own)

    section_clean : (j : ℕ) (z : Judged) → slice_get (judged_from c c.relocs_at [] c.relocs) j ≡ Some z → Unbroken (relocation_conditions (word_of w) (made_tables w n) z)
    unfolding relocs_of
    section_clean =
        let follow : FollowFrom 0 (list_of n.relocs k) = is.object.built.fields.apart k in
        let there : (i : ℕ) (x : chains.Field Reloc) → slice_get (list_of n.relocs k) i ≡ Some x → reloc_at n k x.at ≡ Some x.item = λ i x h. (found_in 0 (list_of n.relocs k) follow i x h).1 in
        judged_clean 0 c.relocs_at [] (list_of n.relocs k) follow tt tt
        (all_members IsWide (list_of n.relocs k) (λ i x h. wide_field x (there i x h) (each_at (IsHeld n k s.bytes) (list_of n.relocs k) i x (is.object.built.fields.each k s here) h).width)) there

  -- the relocations
  pub relocations_clean : IsUnbroken (relocation_stage (word_of w) (made_tables w n) all)
  unfolding judged_in
  relocations_clean i low =
      let x = there_at (judged_in (made_tables w n) all) i low in
      subst (λ o. Unbroken (option_map_or (relocation_conditions (word_of w) (made_tables w n)) o [])) (sym x.1)
      (each_flat_map (λ (z : Judged). Unbroken (relocation_conditions (word_of w) (made_tables w n) z)) (λ (q : Carried). judged_from q q.relocs_at [] q.relocs) (filter (λ (q : Carried). keeps all q.section.kind) (carried_in (made_tables w n)))
      (each_filter (λ (q : Carried). (j : ℕ) (z : Judged) → slice_get (judged_from q q.relocs_at [] q.relocs) j ≡ Some z → Unbroken (relocation_conditions (word_of w) (made_tables w n) z)) (λ (q : Carried). keeps all q.section.kind) (carried_in (made_tables w n))
      (λ a q h passes. each_map (λ (q : Carried). (j : ℕ) (z : Judged) → slice_get (judged_from q q.relocs_at [] q.relocs) j ≡ Some z → Unbroken (relocation_conditions (word_of w) (made_tables w n) z)) (made_carried w n) (enumerate_from 0 n.sections)
      (each_enumerated (λ y. (j : ℕ) (z : Judged) → slice_get (judged_from (made_carried w n y) (made_carried w n y).relocs_at [] (made_carried w n y).relocs) j ≡ Some z → Unbroken (relocation_conditions (word_of w) (made_tables w n) z)) 0 n.sections (λ j s there.
      let e : j ≡ 0 + j = omega arith in
      subst (λ k. (b : ℕ) (z : Judged) → slice_get (judged_from (made_carried w n (k, s)) (made_carried w n (k, s)).relocs_at [] (made_carried w n (k, s)).relocs) b ≡ Some z → Unbroken (relocation_conditions (word_of w) (made_tables w n) z)) e (section_clean j s there)))
      a q (ap (λ xs. slice_get xs a) (sym carried) ∙ h)))
      i x.0 x.1)
