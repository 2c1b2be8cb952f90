-- The fault of keys is the condition on final groups.
use Rattle.std.proofs.Common.{◌≡◌, ℕ, zero, suc, ◌<◌, Bool, true, false, cond, List, [], ◌∷◌, length, bytes_eq, Option, Some, None, refl, sym, ◌∙◌, ap, arith}
use Rattle.std.specs.{Prelude.{slice_get, filter}, List.{enumerate_from}, Option.{is_some, option_flatten, option_map, option_map_or, option_and_then}}
use Rattle.std.proofs.lemmas.{List.{length-map}, Option.{slice_get-map}}
use Rattle.oc_base.specs.{declared.code.Code.TheVariants.{NameClash}, declared.fault.Fault.{Fault}, declared.format.Format.{Format}}
use Rattle.oc_linking.specs.{Numbers.{or_else, first_upto}, FirstFault.{first_broken, stage_fault}}
use Rattle.oc_linking.proofs.Upto.{first_upto_from}
use Rattle.oc_neutral.specs.{declared.group.Group.{Group}, declared.section.Section.{Section}, Objects.{Object}}
use Rattle.oc_neutral.specs.{Invariants.{IsObject}, Without.{IsDetached}}
use Rattle.oc_strings.specs.{declared.repeats.Repeat.{Repeat}, Repeats.{NameList, name_at, place_of, repeat_at}}
use Rattle.oc_drop.specs.Steps.{edit_fault}
use Rattle.oc_names.specs.{Wishes.{Wishes}, Naming.{first_member as member_of, key_clash, keys_fault, keys_of}}
use Rattle.oc_names.proofs.NamedParts.{member_to_begin, repeat_places}
use Rattle.oc_equations.specs.{Symbols.{kept}, Sections.{final_groups, final_sections}}
use Rattle.oc_equations.specs.Faults.{each_of, fault_about, first_keyed, first_member, has_used_key, is_in_group, is_keyed}
use Rattle.oc_equations.proofs.Firsts.{stage_in, upto_numbered, upto_position}
use Rattle.oc_equations.proofs.FinalParts.{begun-final}

-- a search that gives a thing for each item that is there
upto_given : {X Y : Type 0} (item : ℕ → Option X) (f : X → Option Y) (g : X → Y) (n : ℕ) → ((k : ℕ) (x : X) → k < n → item k ≡ Some x → f x ≡ Some (g x))
    → option_and_then f (first_upto item n) ≡ first_upto (λ k. option_map g (item k)) n
upto_given item f g zero each = refl
upto_given {X} {Y} item f g (suc n) each = by (first_upto item n) refl (upto_given item f g n (λ k x lt here. each k x (omega (arith, lt)) here))
  where
    last : (o : Option X) → item n ≡ o → option_and_then f o ≡ option_map g o
    last None e = refl
    last (Some x) e = each n x (omega arith) e

    by : (o : Option X) → first_upto item n ≡ o → option_and_then f o ≡ first_upto (λ k. option_map g (item k)) n
        → option_and_then f (or_else o (item n)) ≡ or_else (first_upto (λ k. option_map g (item k)) n) (option_map g (item n))
    by None is e = last (item n) refl ∙ ap (λ o. or_else o (option_map g (item n))) e
    by (Some x) is e =
        let m = first_upto_from item n x is in
        let own : f x ≡ Some (g x) = each m.0 x (let l = m.1 in omega (arith, l)) m.2 in
        own ∙ sym (ap (λ o. or_else o (option_map g (item n))) (sym e ∙ own))

-- the first section of a group
member-told : (g : ℕ) (xs : List Section) → member_of xs g ≡ option_map (λ (s : Section). s.number) (slice_get (filter (is_in_group g) xs) 0)
member-told g [] = refl
member-told g (s ∷ xs) = by (is_in_group g s) (member-told g xs)
  where
    by : (b : Bool) → member_of xs g ≡ option_map (λ (s : Section). s.number) (slice_get (filter (is_in_group g) xs) 0)
        → or_else (cond b (Some s.number) None) (member_of xs g) ≡ option_map (λ (s : Section). s.number) (slice_get (cond b (s ∷ filter (is_in_group g) xs) (filter (is_in_group g) xs)) 0)
    by true e = refl
    by false e = e

module _ (wishes : Wishes) (to : Format) (n : Object) (fine : IsObject n) (none : IsDetached (kept wishes to n) n) where
  abbrev groups : List Group
  groups = final_groups wishes to n

  abbrev sections : List Section
  sections = final_sections wishes to n

  abbrev keys : NameList
  keys = keys_of groups

  -- each group has a section
  has-member : (g : ℕ) → g < length groups → member_of sections g ≡ Some (first_member wishes to n g)
  has-member g low =
      let m = member_to_begin (length groups) 0 g sections (begun-final wishes to n fine none) (omega arith) low in
      m.1 ∙ ap Some (sym (ap (λ o. unwrap o) (sym (member-told g sections) ∙ m.1) ∙ refl) ∙ number (slice_get (filter (is_in_group g) sections) 0))
    where
      unwrap : Option ℕ → ℕ
      unwrap None = 0
      unwrap (Some k) = k

      number : (o : Option Section) → unwrap (option_map (λ (s : Section). s.number) o) ≡ option_map_or (λ (s : Section). s.number) o 0
      number None = refl
      number (Some s) = refl

  key_there : (i : ℕ) → name_at keys i ≡ option_map (λ (g : Group). g.key) (slice_get groups i)
  key_there i = ap option_flatten (slice_get-map (λ (g : Group). Some g.key) groups i) ∙ by (slice_get groups i)
    where
      by : (o : Option Group) → option_flatten (option_map (λ (g : Group). Some g.key) o) ≡ option_map (λ (g : Group). g.key) o
      by None = refl
      by (Some g) = refl

  keyed-told : (i : ℕ) (key : List ℕ) → option_map_or (bytes_eq key) (name_at keys i) false ≡ option_map_or (is_keyed key) (slice_get groups i) false
  keyed-told i key = ap (λ o. option_map_or (bytes_eq key) o false) (key_there i) ∙ by (slice_get groups i)
    where
      by : (o : Option Group) → option_map_or (bytes_eq key) (option_map (λ (g : Group). g.key) o) false ≡ option_map_or (is_keyed key) o false
      by None = refl
      by (Some g) = refl

  place-told : (k : ℕ) (key : List ℕ) → place_of keys k key ≡ first_keyed wishes to n k key
  place-told k key = upto_position (is_keyed key) 0 groups k (λ j. cond (option_map_or (bytes_eq key) (name_at keys j) false) (Some j) None) (λ i j e.
      let same : i ≡ j = omega (arith, e) in
      ap (λ b. cond b (Some i) None) (keyed-told i key) ∙ ap (λ (k : ℕ). cond (option_map_or (is_keyed key) (slice_get groups i) false) (Some k) None) same)

  -- the fault of a repeat
  abbrev clash : Repeat → Fault
  clash r = fault_about (first_member wishes to n r.later) NameClash (first_member wishes to n r.earlier)

  repeat-low : (k : ℕ) (r : Repeat) → k < length keys → repeat_at keys k ≡ Some r → key_clash sections r ≡ Some (clash r)
  repeat-low k r low here =
      let p = repeat_places keys k r here in
      let long = length-map groups (λ (g : Group). Some g.key) in
      ap (λ o. option_and_then (λ later. option_map (λ earlier. edit_fault NameClash later earlier) (member_of sections r.earlier)) o)
      (has-member r.later (let e = p.0 in omega (arith, low, long, e)))
      ∙ ap (option_map (λ earlier. edit_fault NameClash (first_member wishes to n r.later) earlier)) (has-member r.earlier (let l = p.1 in omega (arith, low, long, l)))

  told : (i : ℕ) → option_map clash (repeat_at keys i) ≡ option_and_then (λ (g : Group). first_broken (has_used_key wishes to n (i, g) ∷ [])) (slice_get groups i)
  told i = ap (λ o. option_map clash (option_map (λ place. record { earlier = place; later = i }) (option_and_then (place_of keys i) o))) (key_there i) ∙ by (slice_get groups i)
    where
      one : (o : Option ℕ) → option_map clash (option_map (λ place. record { earlier = place; later = i }) o)
          ≡ cond (is_some o) (Some (fault_about (first_member wishes to n i) NameClash (option_map_or (first_member wishes to n) o 0))) None
      one None = refl
      one (Some p) = refl

      by : (o : Option Group) → option_map clash (option_map (λ place. record { earlier = place; later = i }) (option_and_then (place_of keys i) (option_map (λ (g : Group). g.key) o)))
          ≡ option_and_then (λ (g : Group). first_broken (has_used_key wishes to n (i, g) ∷ [])) o
      by None = refl
      by (Some g) = ap (λ o. option_map clash (option_map (λ place. record { earlier = place; later = i }) o)) (place-told i g.key) ∙ one (first_keyed wishes to n i g.key)

  pub keys-told : keys_fault sections groups ≡ stage_fault (each_of (λ (x : ℕ × Group). has_used_key wishes to n x ∷ []) (enumerate_from 0 groups))
  keys-told =
      upto_given (repeat_at keys) (key_clash sections) clash (length keys) repeat-low
      ∙ ap (first_upto (λ k. option_map clash (repeat_at keys k))) (length-map groups (λ (g : Group). Some g.key))
      ∙ upto_numbered (λ j (g : Group). first_broken (has_used_key wishes to n (j, g) ∷ [])) 0 groups (λ k. option_map clash (repeat_at keys k)) (λ i j e.
      let same : i ≡ j = omega (arith, e) in
      told i ∙ ap (λ k. option_and_then (λ (g : Group). first_broken (has_used_key wishes to n (k, g) ∷ [])) (slice_get groups i)) same)
      ∙ sym (stage_in (λ (x : ℕ × Group). has_used_key wishes to n x ∷ []) (enumerate_from 0 groups))
