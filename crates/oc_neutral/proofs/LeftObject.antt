-- What is left of an object is an object.
use Rattle.std.proofs.Common.{◌≡◌, false, not, ◌&&◌, ℕ, ◌+◌, ◌<◌, ◌≤◌, Bool, true, false, List, [], ◌∷◌, length, map, Some, inl, inr, refl, sym, ◌∙◌, ap, subst, arith}
use Rattle.std.specs.{Prelude.{slice_get}, List.{AllByRecursion, sum_by}}
use Rattle.std.proofs.lemmas.{Bool.{cases_lt}, List.{length-map, get_or_past}, List.Sums.{sum_by-cons}, Option.{get_or_from_slice_get, slice_get_within}}
use Rattle.oc_linking.specs.Keeping.{kept_of}
use Rattle.oc_chains.specs.{declared.field.Field.{Field}, Fields.{FollowFrom, end_of}, Lists.{list_of}}
use Rattle.oc_neutral.specs.{declared.group.Group.{Group}, declared.section.Section.{Section}, declared.reloc.Reloc.{Reloc}, Objects.{Object}}
use Rattle.oc_neutral.specs.Building.{stored_size}
use Rattle.oc_neutral.specs.Invariants.{AreBytes, HasItsBytes, IsAlign, IsSection, IsMember, WithinLimits, HoldsFields, AreFew, IsHeld, IsHinted, NamesOriginal, AreBegun, groups_of, IsBuilt, IsComplete, IsObject}
use Rattle.oc_neutral.specs.Without.{IsDetached, is_dropped, refers_to_dropped, new_position, moved_field, groups_left, regrouped}
use Rattle.oc_neutral.proofs.{Positions.{each_weaker, there_at}, Mapped.{list_map, held_map}}
use Rattle.oc_neutral.proofs.KeptLists.{Stays, kept_there, all_kept, kept_few, kept_long, sum_kept}
use Rattle.oc_neutral.proofs.LeftParts.{flags, moved_symbol, left_object, section_from, symbols_fine, distinct, held_still, hinted_still, original_still}
use Rattle.oc_neutral.proofs.Regrouping.{regroup_begun, regroup_members, left_single, left_low, left_few, picked_long, all_picked, picked_keys}

-- what holds of each image
pub all_map : {X Y : Type 0} (P : Y → Type 0) (f : X → Y) (xs : List X) → AllByRecursion (λ x. P (f x)) xs → AllByRecursion P (map f xs)
all_map P f [] all = tt
all_map P f (x ∷ xs) all = (all.0, all_map P f xs all.1)

-- two things that hold of each
pub all_both : {X : Type 0} (P Q : X → Type 0) (xs : List X) → AllByRecursion P xs → AllByRecursion Q xs → AllByRecursion (λ x. P x × Q x) xs
all_both P Q [] all also = tt
all_both P Q (x ∷ xs) all also = ((all.0, also.0), all_both P Q xs all.1 also.1)

pub sum_map : {X Y : Type 0} (g : Y → ℕ) (f : X → Y) (xs : List X) → sum_by g (map f xs) ≡ sum_by (λ x. g (f x)) xs
sum_map g f [] = refl
sum_map g f (x ∷ xs) = sum_by-cons g (f x) (map f xs) ∙ ap (λ k. g (f x) + k) (sum_map g f xs) ∙ sym (sum_by-cons (λ x. g (f x)) x xs)

-- fields that move to other positions stay where they are
pub follow_moved : (stay names : List Bool) (p : ℕ) (xs : List (Field Reloc)) → FollowFrom p xs → FollowFrom p (map (moved_field stay names) xs)
follow_moved stay names p [] follow = follow
follow_moved stay names p (x ∷ xs) follow = (follow.0, follow.1, follow_moved stay names (end_of x) xs follow.2)

-- the sections that stay are in groups that are there
pub members_kept : (count : ℕ) (stay : List Bool) (xs : List Section) → AllByRecursion (IsMember count) (groups_of xs) → AllByRecursion (IsMember count) (groups_of (kept_of stay xs))
members_kept count stay [] all = tt
members_kept count [] (x ∷ xs) all = all
members_kept count (true ∷ stay) (x ∷ xs) all = (all.0, members_kept count stay xs all.1)
members_kept count (false ∷ stay) (x ∷ xs) all = members_kept count stay xs all.1

module _ (stay : List Bool) (n : Object) (fine : IsObject n) (long : length n.sections ≡ length stay) (none : IsDetached stay n) where
  abbrev m : Object
  m = left_object stay n long none

  abbrev symbols : List Bool
  symbols = flags stay n long none

  abbrev kept : List Section
  kept = kept_of stay n.sections

  abbrev own : List ℕ
  own = groups_left kept

  -- what holds of sections, wherever their groups stand
  each_section : (P : Section → Type 0) → ((x : Section) → P x → P (regrouped own x)) → AllByRecursion P n.sections → AllByRecursion P m.sections
  each_section P still all = all_map P (regrouped own) kept (each_weaker P (λ x. P (regrouped own x)) still kept (all_kept P stay n.sections all))

  groups_kept : AllByRecursion (IsMember (length n.groups)) (groups_of kept)
  groups_kept = members_kept (length n.groups) stay n.sections fine.built.members

  own_low : AllByRecursion (λ h. h < length n.groups) own
  own_low = left_low (length n.groups) kept groups_kept

  groups_long : length m.groups ≡ length own
  groups_long = picked_long n.groups own own_low

  -- ... relocations

  relocs_long : length n.relocs ≡ length stay
  relocs_long = let c = fine.built.fields.counted in c ∙ long

  -- the fields of a section that stays are those that it had
  pub list_there : (k : ℕ) → k < length n.sections → Stays stay k → list_of m.relocs (new_position stay k) ≡ map (moved_field stay symbols) (list_of n.relocs k)
  list_there k low is =
      let c = fine.built.fields.counted in
      let xs = there_at n.relocs k (omega (arith, low, c)) in
      list_map (moved_field stay symbols) (kept_of stay n.relocs) (new_position stay k)
      ∙ ap (map (moved_field stay symbols))
      (get_or_from_slice_get (kept_of stay n.relocs) (new_position stay k) xs.0 [] (kept_there stay n.relocs k xs.0 relocs_long is xs.1) ∙ sym (get_or_from_slice_get n.relocs k xs.0 [] xs.1))

  counted : length m.relocs ≡ length m.sections
  counted = length-map (kept_of stay n.relocs) (map (moved_field stay symbols)) ∙ kept_long stay n.relocs n.sections fine.built.fields.counted ∙ sym (length-map kept (regrouped own))

  -- what holds of the fields of each section
  by_section : (P : ℕ → List (Field Reloc) → Type 0) → ((s : ℕ) → P s [])
      → ((k : ℕ) (x : Section) → slice_get n.sections k ≡ Some x → Stays stay k → P (new_position stay k) (map (moved_field stay symbols) (list_of n.relocs k)))
      → (s : ℕ) → P s (list_of m.relocs s)
  by_section P empty each s = elim (cases_lt s (length m.sections)) [
    | inl low ↦
        let y = there_at m.sections s low in
        let u = section_from stay n long none s y.0 y.1 in
        subst (λ j. P j (list_of m.relocs j)) u.4 (subst (λ xs. P (new_position stay u.0) xs) (sym (list_there u.0 (slice_get_within n.sections u.0 u.1 u.2) u.3)) (each u.0 u.1 u.2 u.3))
    | inr past ↦ subst (λ xs. P s xs) (sym (get_or_past m.relocs s [] (let c = counted in omega (arith, past, c)))) (empty s)
  ]

  references : (k : ℕ) (x : Section) → slice_get n.sections k ≡ Some x → AllByRecursion (λ (f : Field Reloc). (not (is_dropped stay k) && refers_to_dropped stay f.item) ≡ false) (list_of n.relocs k)
  references k x here = none.fields k x here

  held_each : (k : ℕ) (x : Section) → slice_get n.sections k ≡ Some x → Stays stay k
      → AllByRecursion (IsHeld m (new_position stay k) x.bytes) (map (moved_field stay symbols) (list_of n.relocs k))
  held_each k x here is = all_map (IsHeld m (new_position stay k) x.bytes) (moved_field stay symbols) (list_of n.relocs k)
      (each_weaker (λ (f : Field Reloc). ((not (is_dropped stay k) && refers_to_dropped stay f.item) ≡ false) × IsHeld n k x.bytes f) (λ (f : Field Reloc). IsHeld m (new_position stay k) x.bytes (moved_field stay symbols f))
      (λ f h. held_still stay n long none k x f here is h.0 h.1) (list_of n.relocs k)
      (all_both (λ (f : Field Reloc). (not (is_dropped stay k) && refers_to_dropped stay f.item) ≡ false) (IsHeld n k x.bytes) (list_of n.relocs k) (references k x here) (fine.built.fields.each k x here)))

  fields : HoldsFields m
  fields = record {
    counted = counted;
    each = λ s y here.
        let u = section_from stay n long none s y here in
        subst (λ (z : Section). AllByRecursion (IsHeld m s z.bytes) (list_of m.relocs s)) u.5
        (subst (λ j. AllByRecursion (IsHeld m j u.1.bytes) (list_of m.relocs j)) u.4
        (subst (λ xs. AllByRecursion (IsHeld m (new_position stay u.0) u.1.bytes) xs) (sym (list_there u.0 (slice_get_within n.sections u.0 u.1 u.2) u.3)) (held_each u.0 u.1 u.2 u.3)));
    apart = by_section (λ s xs. FollowFrom 0 xs) (λ s. omega arith) (λ k x here is. follow_moved stay symbols 0 (list_of n.relocs k) (fine.built.fields.apart k));
  }

  hints : (s : ℕ) → AllByRecursion (λ (f : Field Reloc). IsHinted f.item) (list_of m.relocs s)
  hints = by_section (λ s xs. AllByRecursion (λ (f : Field Reloc). IsHinted f.item) xs) (λ s. tt)
      (λ k x here is. all_map (λ (f : Field Reloc). IsHinted f.item) (moved_field stay symbols) (list_of n.relocs k)
      (each_weaker (λ (f : Field Reloc). IsHinted f.item) (λ (f : Field Reloc). IsHinted (moved_field stay symbols f).item)
      (λ f h. hinted_still stay n long none f.item h) (list_of n.relocs k) (fine.complete.hints k)))

  originals : (s : ℕ) → AllByRecursion (λ (f : Field Reloc). NamesOriginal m.symbols f.item.target) (list_of m.relocs s)
  originals = by_section (λ s xs. AllByRecursion (λ (f : Field Reloc). NamesOriginal m.symbols f.item.target) xs) (λ s. tt)
      (λ k x here is. all_map (λ (f : Field Reloc). NamesOriginal m.symbols f.item.target) (moved_field stay symbols) (list_of n.relocs k)
      (each_weaker (λ (f : Field Reloc). IsHeld n k x.bytes f × NamesOriginal n.symbols f.item.target) (λ (f : Field Reloc). NamesOriginal m.symbols (moved_field stay symbols f).item.target)
      (λ f h. original_still stay n long none k f.item h.0.normal h.1) (list_of n.relocs k)
      (all_both (IsHeld n k x.bytes) (λ (f : Field Reloc). NamesOriginal n.symbols f.item.target) (list_of n.relocs k) (fine.built.fields.each k x here) (fine.complete.originals k))))

  -- ... the object

  few : AreFew m
  few = record {
    groups = let l = left_few kept in let k = kept_few stay n.sections in let e = groups_long in let f = fine.built.few.sections in omega (arith, e, f, l, k);
    sections = let l = kept_few stay n.sections in let e = length-map kept (regrouped own) in let f = fine.built.few.sections in omega (arith, l, e, f);
    symbols = let l = kept_few symbols n.symbols in let e = length-map (kept_of symbols n.symbols) (moved_symbol stay n long none) in let f = fine.built.few.symbols in omega (arith, l, e, f);
    relocs = let e = held_map (moved_field stay symbols) (kept_of stay n.relocs) in let l = sum_kept (λ (xs : List (Field Reloc)). length xs) stay n.relocs in let f = fine.built.few.relocs in omega (arith, e, l, f);
  }

  limits : WithinLimits m.sections
  limits = record {
    each = each_section (λ (s : Section). s.size ≤ 2147483647) (λ x is. is) fine.built.limits.each;
    sum = let e = sum_map (λ (s : Section). s.size) (regrouped own) kept in let l = sum_kept (λ (s : Section). s.size) stay n.sections in let f = fine.built.limits.sum in omega (arith, e, l, f);
    bytes = let e = sum_map stored_size (regrouped own) kept in let l = sum_kept stored_size stay n.sections in let f = fine.built.limits.bytes in omega (arith, e, l, f);
  }

  built : IsBuilt m
  built = record {
    bytes = each_section HasItsBytes (λ x is. is) fine.built.bytes;
    groups = all_picked n.groups (λ (g : Group). AreBytes g.key) fine.built.groups own;
    sections = each_section IsSection (λ x is. record { name = is.name; bytes = is.bytes; tag = is.tag; number = is.number }) fine.built.sections;
    members = subst (λ k. AllByRecursion (IsMember k) (groups_of m.sections)) (sym groups_long) (regroup_members kept own);
    limits = limits;
    distinct = distinct stay n long none fine.built.distinct;
    fields = fields;
    few = few;
  }

  complete : IsComplete m
  complete = record {
    keys = picked_keys n.groups own (left_single kept) own_low fine.complete.keys;
    begun = subst (λ k. AreBegun k 0 (groups_of m.sections)) (sym groups_long) (regroup_begun kept [] own refl);
    aligns = each_section (λ (s : Section). IsAlign s.align) (λ x is. is) fine.complete.aligns;
    symbols = symbols_fine stay n long none fine.complete.symbols;
    hints = hints;
    originals = originals;
  }

  pub left_is_object : IsObject m
  left_is_object = record { built = built; complete = complete }
