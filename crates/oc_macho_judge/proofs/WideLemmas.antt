-- Differences of one section whose constants do not fit their fields.
use Rattle.std.proofs.Common.{◌≡◌, ℕ, ◌-◌, Bool, true, false, cond, List, [], ◌∷◌, Option, None, Some, refl, sym, ◌∙◌, ap, subst}
use Rattle.std.specs.{Prelude.{not, ◌&&◌, ◌||◌, nat_eq, find, is_some, slice_get, ℤ, pos, ◌+ℤ◌, ◌-ℤ◌}, Option.{option_map, option_map_or, option_and_then}}
use Rattle.std.specs.Cmp.{second_so}
use Rattle.std.proofs.lemmas.{Bool.{eqb-true, true≢false}, Option.{none-some, same_Some}}
use Rattle.oc_base.specs.{Numbers.{number_at}, declared.format.Word.{Word}, declared.format.Word.TheVariants.{W32, W64}}
use Rattle.oc_linking.specs.{declared.terms.Width.{Width}, declared.terms.Width.TheVariants.{Four}, declared.terms.Check.{Check}}
use Rattle.oc_linking.specs.{declared.terms.Check.TheVariants.{Wrap, Signed, Unsigned, Either}, declared.terms.Hint.TheVariants.{Plain}}
use Rattle.oc_linking.specs.{declared.terms.Base.{Base}, declared.terms.Base.TheVariants.{Address, Slot, GotBase, HomeNumber}, declared.terms.Binding.{Binding}}
use Rattle.oc_linking.specs.{declared.terms.Binding.TheVariants.{Local, Global, Undefined, Common, Weak}, Fits.{fits}, Parts.{Symbol}}
use Rattle.oc_linking.specs.Rules.{Named, Symbolic, Sectional}
use Rattle.oc_linking.specs.declared.terms.Less.TheVariants as less
use Rattle.oc_linking.specs.declared.terms.Value.TheVariants as value
use Rattle.oc_linking.specs.Targets as file
use Rattle.oc_algebra.specs.{Fields.{extended}, Residues.{residue_of}}
use Rattle.oc_neutral.specs.{declared.mach.TheConstants.{X86_64_RELOC_UNSIGNED, X86_64_RELOC_SUBTRACTOR}, declared.reloc.Target.{Target}, Dialects.{target_by}}
use Rattle.oc_neutral.specs.Normal.{Place, cancels}
use Rattle.oc_neutral.specs.Rows.{Taken, TakesZero, TakesPlace, TakesGotBase, TakesImageBase, TakesHome, TakesSection, before, less_of, row, same_check, same_taken}
use Rattle.oc_neutral.specs.Mach.Relocs.{MachRow, entry_among, is_entry, mach_entries, of_symbol}
use Rattle.oc_neutral.specs.declared.reloc.Target.TheVariants as target
use Rattle.oc_macho_judge.specs.{declared.anchors.Anchor.{Anchor}, Anchors.{anchor_in, anchor_of, is_narrow, is_wide}}
use Rattle.oc_macho.specs.{declared.entries.Item.{Item}, declared.nlist.Nlist.{Nlist}, declared.relocation_info.RelocationInfo.{RelocationInfo}}
use Rattle.oc_macho.specs.{declared.relocation_info.Reference.{Reference}, declared.section_header.SectionHeader.{SectionHeader}, Tables.{SectionTable, Tables}}
use Rattle.oc_macho.specs.{Sections.{address_of, contents_of, header_numbered, holder_of}, Symbols.{is_own, symbol_of}}
use Rattle.oc_macho.specs.Entries.{can_refer, row_for, target_entry, taken_entry, taken_reference}
use Rattle.oc_macho.specs.Aims.{Aim, aim_in, aim_of, fixed_place, numbered_aim, section_aim, symbol_aim, target_in}
use Rattle.oc_macho.specs.Fields.{FieldParts, added_by, counted_of, field_of, field_parts_by}
use Rattle.oc_macho.specs.Referents.{cannot_be_taken, is_symbolic, referent_by, referent_in}
use Rattle.oc_macho.specs.RelocationFaults.{constant_of, folds_too_wide, is_too_wide, refers_wrongly}
use Rattle.oc_macho.specs.declared.relocation_info.Reference.TheVariants as reference

-- ... the one type whose constants may not fit

-- a SUBTRACTOR of four bytes
abbrev narrow : MachRow
narrow = of_symbol 0 (before X86_64_RELOC_UNSIGNED (row X86_64_RELOC_SUBTRACTOR Four Signed Address TakesSection Plain))

abbrev passes : MachRow → Bool
passes m = same_taken m.row.taken TakesSection && not (same_check m.row.check Wrap)

-- a row of a table that passes is that one
abbrev AreNarrow : List MachRow → Type 0
AreNarrow [] = Unit {0}
AreNarrow (x ∷ xs) = (passes x ≡ true → x ≡ narrow) × AreNarrow xs

never : (x : MachRow) → passes x ≡ false → passes x ≡ true → x ≡ narrow
never x fails is = absurd (true≢false (sym is ∙ fails))

narrow_rows : (w : Word) → AreNarrow (mach_entries w)
narrow_rows W32 = (never _ refl, (never _ refl, (never _ refl, (never _ refl, tt))))
narrow_rows W64 =
    (never _ refl, (never _ refl, (never _ refl, (never _ refl, (never _ refl, (never _ refl, (never _ refl, (never _ refl, (never _ refl, (never _ refl, ((λ is. refl), tt)))))))))))

narrow_among : (number pcrel len : ℕ) (m : MachRow) (xs : List MachRow) → AreNarrow xs → find (is_entry number pcrel len) xs ≡ Some m → passes m ≡ true → (m ≡ narrow) × (is_entry number pcrel len m ≡ true)
narrow_among number pcrel len m [] all e is = absurd (none-some m e)
narrow_among number pcrel len m (x ∷ xs) all e is = by (is_entry number pcrel len x) refl e (narrow_among number pcrel len m xs all.1)
  where
    by : (b : Bool) → is_entry number pcrel len x ≡ b → cond b (Some x) (find (is_entry number pcrel len) xs) ≡ Some m
        → (find (is_entry number pcrel len) xs ≡ Some m → passes m ≡ true → (m ≡ narrow) × (is_entry number pcrel len m ≡ true)) → (m ≡ narrow) × (is_entry number pcrel len m ≡ true)
    by true f g rest =
        let same = same_Some x m g in
        (sym same ∙ all.0 (ap passes same ∙ is), sym (ap (is_entry number pcrel len) same) ∙ f)
    by false f g rest = rest g is

-- the type of a narrow entry, and that its field has four bytes
pub record IsNarrow (w : Word) (e : RelocationInfo) : Type 0 where
  pub row_is : row_for w e ≡ Some narrow
  pub length : e.r_length ≡ 2

pub narrow_is : (w : Word) (e : RelocationInfo) → is_narrow (row_for w e) ≡ true → IsNarrow w e
unfolding row_for
narrow_is w e is = by (entry_among (mach_entries w) e.r_type e.r_pcrel e.r_length) refl is
  where
    by : (o : Option MachRow) → entry_among (mach_entries w) e.r_type e.r_pcrel e.r_length ≡ o
        → is_narrow (option_and_then (λ m. cond (can_refer m e.refers) (Some m) None) o) ≡ true → IsNarrow w e
    by None f g = absurd (true≢false (sym g))
    by (Some m) f g = kept (can_refer m e.refers) refl g
      where
        kept : (b : Bool) → can_refer m e.refers ≡ b → is_narrow (cond b (Some m) None) ≡ true → IsNarrow w e
        kept false h g = absurd (true≢false (sym g))
        kept true h g =
            let both = narrow_among e.r_type e.r_pcrel e.r_length m (mach_entries w) (narrow_rows w) f g in
            let len : nat_eq 2 e.r_length ≡ true = second_so _ _ (sym (ap (is_entry e.r_type e.r_pcrel e.r_length) both.0) ∙ both.1) in
            record {
              row_is = ap (option_and_then (λ m. cond (can_refer m e.refers) (Some m) None)) f ∙ ap (λ (b : Bool). cond b (Some m) None) h ∙ ap (λ (x : MachRow). Some x) both.0;
              length = sym (eqb-true 2 e.r_length len);
            }

-- ... other types

no_difference : (b : Base) (t : Target) (taken : Taken) (k : ℕ) → same_taken taken TakesSection ≡ false → cancels b t (less_of taken k) ≡ false
no_difference Address (target.Section j) TakesZero k fails = refl
no_difference Address (target.Section j) TakesPlace k fails = refl
no_difference Address (target.Section j) TakesGotBase k fails = refl
no_difference Address (target.Section j) TakesImageBase k fails = refl
no_difference Address (target.Section j) TakesHome k fails = refl
no_difference Address (target.Section j) TakesSection k fails = absurd (true≢false fails)
no_difference Address (target.Symbol j) taken k fails = refl
no_difference Slot t taken k fails = refl
no_difference GotBase t taken k fails = refl
no_difference HomeNumber t taken k fails = refl

always_fits : (w : Word) (width : Width) (check : Check) (r : ℕ) → not (same_check check Wrap) ≡ false → fits w width check r ≡ true
always_fits w width Wrap r fails = refl
always_fits w width Signed r fails = absurd (true≢false fails)
always_fits w width Unsigned r fails = absurd (true≢false fails)
always_fits w width Either r fails = absurd (true≢false fails)

never_last : (a : Bool) → (a && false) ≡ false
never_last true = refl
never_last false = refl

-- the field of an entry that is not narrow does not fold too wide
plain_row : (w : Word) (m : MachRow) (t : Target) (k : ℕ) (n : Aim → ℕ) (taken : Option Aim) → passes m ≡ false
    → (cancels m.row.base t (less_of m.row.taken k) && option_map_or (λ a. not (fits w m.row.width m.row.check (n a))) taken false) ≡ false
plain_row w m t k n taken fails = by (same_taken m.row.taken TakesSection) refl fails
  where
    by : (b : Bool) → same_taken m.row.taken TakesSection ≡ b → (b && not (same_check m.row.check Wrap)) ≡ false
        → (cancels m.row.base t (less_of m.row.taken k) && option_map_or (λ a. not (fits w m.row.width m.row.check (n a))) taken false) ≡ false
    by false e f = ap (λ (b : Bool). b && option_map_or (λ a. not (fits w m.row.width m.row.check (n a))) taken false) (no_difference m.row.base t m.row.taken k e)
    by true e f = fine taken
      where
        fine : (o : Option Aim) → (cancels m.row.base t (less_of m.row.taken k) && option_map_or (λ a. not (fits w m.row.width m.row.check (n a))) o false) ≡ false
        fine None = never_last (cancels m.row.base t (less_of m.row.taken k))
        fine (Some a) =
            ap (λ (b : Bool). cancels m.row.base t (less_of m.row.taken k) && not b) (always_fits w m.row.width m.row.check (n a) f) ∙ never_last (cancels m.row.base t (less_of m.row.taken k))

pub not_narrow : (t : Tables) (i : ℕ) (x : SectionTable) (item : Item) → is_narrow (row_for t.word item.first) ≡ false → is_too_wide t i x item ≡ false
unfolding is_too_wide field_parts_by field_of
not_narrow t i x item fails = by (row_for t.word item.first) fails (target_in t (target_entry t.word item))
  where
    by : (o : Option MachRow) → is_narrow o ≡ false → (a : Option Aim)
        → option_map_or (folds_too_wide t i x item.first.r_address)
        (option_and_then (λ m. option_map (λ target. record { row = m; target = target; taken = option_and_then (target_in t) (taken_entry t.word item) }) a) o) false ≡ false
    by None e a = refl
    by (Some m) e None = refl
    by (Some m) e (Some target) =
        let f : FieldParts = record { row = m; target = target; taken = option_and_then (target_in t) (taken_entry t.word item) } in
        plain_row t.word m (target_by target.target.named) _ (λ a. residue_of t.word (constant_of t i x item.first.r_address f a)) f.taken e

-- ... where things stand

-- where something is named by its section, it stands there
pub record IsAnchored (a : Aim) : Type 0 where
  pub inside : (k : ℕ) → a.target.named ≡ Sectional k → (offset : ℕ) × (a.place ≡ Some (k, offset))

own_anchored : (t : Tables) (s : ℕ) (counted : Option ℕ) → IsAnchored (section_aim t s counted)
own_anchored t s counted = record { inside = λ k e. (0, let same : s ≡ k = cc in ap (λ (n : ℕ). Some (n, 0)) same) }

symbol_anchored : (s : Symbol) (a : Aim) → symbol_aim s ≡ Some a → IsAnchored a
symbol_anchored s a e = by s.binding e
  where
    by : (b : Binding)
        → option_map (λ (target : file.Target). record { target = target; counted = None; place = fixed_place b })
        (option_map (λ (named : Named). record { named = named; worth = λ p v. v s.number }) (file.named_by s.number b)) ≡ Some a → IsAnchored a
    by (Local (value.Place k offset)) e = subst IsAnchored (same_Some _ a e) (record { inside = λ j f. (offset, let same : k ≡ j = cc in ap (λ (n : ℕ). Some (n, offset)) same) })
    by (Local (value.Absolute n)) e = absurd (none-some a e)
    by (Global v) e = subst IsAnchored (same_Some _ a e) (record { inside = λ j f. absurd (cc) })
    by Undefined e = subst IsAnchored (same_Some _ a e) (record { inside = λ j f. absurd (cc) })
    by (Common size align) e = subst IsAnchored (same_Some _ a e) (record { inside = λ j f. absurd (cc) })
    by (Weak f) e = subst IsAnchored (same_Some _ a e) (record { inside = λ j f. absurd (cc) })

numbered_anchored : (t : Tables) (k : ℕ) (a : Aim) → option_and_then (λ aim. aim) (numbered_aim t k) ≡ Some a → IsAnchored a
numbered_anchored t k a e = by (nat_eq k 0) (header_numbered t k) e
  where
    by : (b : Bool) (o : Option SectionHeader) → option_and_then (λ aim. aim) (cond b (Some None) (option_map (λ h. Some (section_aim t (k - 1) (Some (address_of t k)))) o)) ≡ Some a → IsAnchored a
    by true o e = absurd (none-some a e)
    by false None e = absurd (none-some a e)
    by false (Some h) e = subst IsAnchored (same_Some _ a e) (own_anchored t (k - 1) (Some (address_of t k)))

aim_anchored : (t : Tables) (r : Reference) (a : Aim) → option_and_then (λ aim. aim) (aim_in t r) ≡ Some a → IsAnchored a
unfolding aim_in
aim_anchored t (reference.Symbol j) a e = by (slice_get t.symbols j) e
  where
    by : (o : Option Nlist) → option_and_then (λ aim. aim) (option_and_then (aim_of t j) o) ≡ Some a → IsAnchored a
    by None e = absurd (none-some a e)
    by (Some s) e = own (is_own t s) (symbol_of t false j s) e
      where
        own : (b : Bool) (o : Option Symbol) → option_and_then (λ aim. aim) (cond b (Some (Some (section_aim t (s.n_sect - 1) None))) (option_map symbol_aim o)) ≡ Some a → IsAnchored a
        own true o e = subst IsAnchored (same_Some _ a e) (own_anchored t (s.n_sect - 1) None)
        own false None e = absurd (none-some a e)
        own false (Some x) e = symbol_anchored x a e
aim_anchored t (reference.Section k) a e = numbered_anchored t k a e
aim_anchored t (reference.Address v) a e = by (holder_of t v) e
  where
    by : (o : Option ℕ) → option_and_then (λ aim. aim) (option_and_then (numbered_aim t) o) ≡ Some a → IsAnchored a
    by None e = absurd (none-some a e)
    by (Some k) e = numbered_anchored t k a e

-- what can be taken has a place
placed : (t : Tables) (o : Option RelocationInfo) → option_map_or (λ r. cannot_be_taken (referent_in t r)) (option_map (λ (e : RelocationInfo). e.refers) o) false ≡ false
    → (b : Aim) → option_and_then (target_in t) o ≡ Some b → is_some b.place ≡ true
placed t None fails b is = absurd (none-some b is)
placed t (Some e) fails b is = by (aim_in t e.refers) fails is
  where
    twice : (c : Bool) → not c ≡ false → c ≡ true
    twice true e = refl
    twice false e = absurd (true≢false e)

    by : (r : Option (Option Aim)) → cannot_be_taken (referent_by r) ≡ false → option_and_then (λ aim. aim) r ≡ Some b → is_some b.place ≡ true
    by None fails is = absurd (none-some b is)
    by (Some None) fails is = absurd (none-some b is)
    by (Some (Some a)) fails is = subst (λ (x : Aim). is_some x.place ≡ true) (same_Some a b is) (twice (is_some a.place) fails)

-- ... differences

-- the constant does not fit, where both are there
abbrev pub wide_by : Word → ℤ → Option Anchor → Option Anchor → Bool
wide_by w F None taken = false
wide_by w F (Some target) None = false
wide_by w F (Some target) (Some taken) = is_wide w F target taken

sides : (w : Word) (F : ℤ) (ca cb : ℕ) (nb n : Named) (p q : Option Place) → ((k : ℕ) → n ≡ Sectional k → (offset : ℕ) × (p ≡ Some (k, offset))) → is_some q ≡ true
    → (cancels Address (target_by n) (less.Section (option_map_or (λ (place : Place). place.0) q 0))
    && not (fits w Four Signed (residue_of w (F -ℤ pos ca +ℤ pos cb +ℤ (pos (option_map_or (λ (place : Place). place.1) p 0) -ℤ pos (option_map_or (λ (place : Place). place.1) q 0))))))
    ≡ wide_by w F (option_map (λ (place : Place). record { external = is_symbolic n; section = place.0; offset = place.1; counted = ca }) p)
    (option_map (λ (place : Place). record { external = is_symbolic nb; section = place.0; offset = place.1; counted = cb }) q)
sides w F ca cb nb n p None anchored there = absurd (true≢false (sym there))
sides w F ca cb nb (Symbolic j) None (Some q) anchored there = refl
sides w F ca cb nb (Symbolic j) (Some p) (Some q) anchored there = refl
sides w F ca cb nb (Sectional k) None (Some q) anchored there = absurd (none-some _ (anchored k refl).1)
sides w F ca cb nb (Sectional k) (Some p) (Some q) anchored there =
    let same : k ≡ p.0 = sym (ap (λ (place : Place). place.0) (same_Some p _ (anchored k refl).1)) in
    ap (λ (s : ℕ). nat_eq s q.0 && not (fits w Four Signed (residue_of w (F -ℤ pos ca +ℤ pos cb +ℤ (pos p.1 -ℤ pos q.1))))) same

-- whether a field folds too wide, by where its target stands and what is taken
pub wide_is : (t : Tables) (i : ℕ) (x : SectionTable) (item : Item) (target taken : Option Anchor) → is_narrow (row_for t.word item.first) ≡ true → refers_wrongly t item ≡ false
    → target ≡ anchor_in t (target_entry t.word item).refers → taken ≡ option_and_then (anchor_in t) (taken_reference t.word item)
    → wide_by t.word (extended Four (number_at (contents_of x) item.first.r_address 4)) target taken ≡ is_too_wide t i x item
unfolding is_too_wide field_parts_by field_of added_by refers_wrongly
wide_is t i x item target taken is kinds targets takes =
    ap (λ (o : Option Anchor). wide_by t.word F o taken) targets ∙ ap (wide_by t.word F (anchor_in t (target_entry t.word item).refers)) (takes ∙ by_entry (taken_entry t.word item))
    ∙ core (target_in t (target_entry t.word item)) (aim_anchored t (target_entry t.word item).refers) (option_and_then (target_in t) (taken_entry t.word item))
    (placed t (taken_entry t.word item) (last_false _ _ kinds))
    ∙ sym (ap (λ (o : Option MachRow). option_map_or (folds_too_wide t i x item.first.r_address)
    (option_and_then (λ m. option_map (λ target. record { row = m; target = target; taken = option_and_then (target_in t) (taken_entry t.word item) }) (target_in t (target_entry t.word item))) o) false) (narrow_is t.word item.first is).row_is)
  where
    F : ℤ
    F = extended Four (number_at (contents_of x) item.first.r_address 4)

    last_false : (a b : Bool) → (a || b) ≡ false → b ≡ false
    last_false true b e = absurd (true≢false e)
    last_false false b e = e

    by_entry : (o : Option RelocationInfo) → option_and_then (anchor_in t) (option_map (λ (e : RelocationInfo). e.refers) o) ≡ option_and_then anchor_of (option_and_then (target_in t) o)
    by_entry None = refl
    by_entry (Some e) = refl

    core : (T : Option Aim) → ((a : Aim) → T ≡ Some a → IsAnchored a) → (K : Option Aim) → ((b : Aim) → K ≡ Some b → is_some b.place ≡ true)
        → wide_by t.word (extended Four (number_at (contents_of x) item.first.r_address 4)) (option_and_then anchor_of T) (option_and_then anchor_of K)
        ≡ option_map_or (folds_too_wide t i x item.first.r_address) (option_map (λ target. record { row = narrow; target = target; taken = K }) T) false
    core None anchored K there = refl
    core (Some a) anchored None there = none a.place
      where
        none : (p : Option Place) → wide_by t.word (extended Four (number_at (contents_of x) item.first.r_address 4))
            (option_map (λ (place : Place). record { external = is_symbolic a.target.named; section = place.0; offset = place.1; counted = counted_of a }) p) None
            ≡ option_map_or (folds_too_wide t i x item.first.r_address) (Some (record { row = narrow; target = a; taken = None })) false
        none None = sym (never_last _)
        none (Some p) = sym (never_last _)
    core (Some a) anchored (Some b) there =
        sym (sides t.word (extended Four (number_at (contents_of x) item.first.r_address 4)) (counted_of a) (counted_of b) b.target.named a.target.named a.place b.place (anchored a refl).inside (there b refl))
