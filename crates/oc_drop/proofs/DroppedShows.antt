-- What is left of an object shows the kept fields of the file that the object showed.
use Rattle.std.proofs.Common.{◌≡◌, ℕ, zero, suc, ◌+◌, ◌<◌, Bool, true, false, not, ◌&&◌, ◌||◌, cond, eqb, List, [], ◌∷◌, length, map, get_or, Option, Some, None, inl, inr, refl, sym, ◌∙◌, ap, subst, arith}
use mathlib.Core.Path.{fun_ext}
use Rattle.std.specs.{Prelude.{slice_get}, Option.{option_map, option_map_or, unwrap_or}}
use Rattle.std.proofs.lemmas.{Bool.{cases_lt, true≢false, or_parts, not-false}, List.{length-map, get_or_past}, Option.{none-some}}
use Rattle.oc_base.specs.{declared.format.Word.{Word}, Formats.{word_for}}
use Rattle.oc_linking.specs.{declared.terms.Keep.{Keep}, declared.terms.Patch.{Patch}, declared.terms.Binding.{Binding}}
use Rattle.oc_linking.specs.{declared.terms.Binding.TheVariants.{Local, Global, Undefined, Common, Weak}, declared.terms.Less.{Less}}
use Rattle.oc_linking.specs.{Keeping.{carried_of, kept_of, kept_flags}, Numbers.{minus}, Parts.{is_local}}
use Rattle.oc_linking.specs.{Placing.{Site, Placement, nowhere, spread, spread_over}, Values.{Valued, Valuation, worthless}}
use Rattle.oc_linking.specs.{Images.{Patches, overlay, overlays}, Linking.{patch_of, flags_in, spread_in}, Shows.{Apart, live_of, under_of, unders}}
use Rattle.oc_linking.specs.declared.terms.Value.TheVariants as value
use Rattle.oc_linking.specs.declared.terms.Less.TheVariants as less
use Rattle.oc_linking.specs.Parts as parts
use Rattle.oc_linking.proofs.Dropping.{spread-carried}
use Rattle.oc_algebra.specs.Residues.{residue_of}
use Rattle.oc_chains.specs.{declared.field.Field.{Field}, Lists.{list_of}}
use Rattle.oc_neutral.specs.{declared.symbol.Symbol.{Symbol}, declared.reloc.Target.{Target}, declared.reloc.Reloc.{Reloc}}
use Rattle.oc_neutral.specs.{Objects.{Object, reloc_among, reloc_at}, Invariants.{IsThere, IsLessThere, IsNormal, IsHeld, IsObject}}
use Rattle.oc_neutral.specs.{Faces.{contents_of, field_of}, Normal.{local_place, place_among}, Worth.{target_worth, base_of, less_of, residue_at}}
use Rattle.oc_neutral.specs.Dialects.{Dialect, is_folded, patches_in}
use Rattle.oc_neutral.specs.Without.{symbols_stay, is_dropped, binding_section, lies_in_dropped, targets_dropped, takes_dropped, refers_to_dropped, new_position, moved_target, moved_less, moved_reloc, moved_field, groups_left, regrouped, IsDetached}
use Rattle.oc_neutral.specs.declared.reloc.Target.TheVariants as target
use Rattle.oc_shows.specs.Shows.{patches_of, IsTrueToFixed, Shows}
use Rattle.oc_shows.proofs.Blank.{found_field}
use Rattle.oc_neutral.proofs.{NormalLemmas.{place_among-there}, Positions.{there_at}, Mapped.{list_map}, KeptLists.{Stays}, LeftObject.{all_both}}
use Rattle.oc_neutral.proofs.LeftParts.{symbol_there}
use Rattle.oc_drop.specs.{Dropping.{dropping_fault, stays, left}, KeptShows.{kept_patches, ShowsKept, DroppedShowsKept}}
use Rattle.oc_drop.proofs.{DroppedSymbols.{carried_back, nonlocal-clear}, DroppedSections.{kept_map, map_twice, flags-framed, stay-shown}, StepLaws.{unless_ok}}
use Rattle.oc_drop.proofs.Detached.{detached}

-- ... lists

-- an item that stays is the one at its position among all
kept_list : {X : Type 0} (stay : List Bool) (xs : List X) (s : ℕ) (d : X) → get_or (kept_of stay xs) s d ≡ get_or xs (carried_of stay s) d
kept_list stay [] s d = refl
kept_list [] (x ∷ xs) s d = refl
kept_list (true ∷ stay) (x ∷ xs) zero d = refl
kept_list (true ∷ stay) (x ∷ xs) (suc s) d = kept_list stay xs s d
kept_list (false ∷ stay) (x ∷ xs) s d = kept_list stay xs s d

-- it stays
carried_stays : (stay : List Bool) (s : ℕ) → Stays stay (carried_of stay s)
carried_stays [] s = refl
carried_stays (true ∷ stay) zero = refl
carried_stays (true ∷ stay) (suc s) = carried_stays stay s
carried_stays (false ∷ stay) s = carried_stays stay s

carried_kept : (flags : List Bool) (s : ℕ) → unwrap_or (slice_get flags (carried_of flags s)) true ≡ true
carried_kept [] s = refl
carried_kept (true ∷ flags) zero = refl
carried_kept (true ∷ flags) (suc s) = carried_kept flags s
carried_kept (false ∷ flags) s = carried_kept flags s

-- contents that are filled, of which some stay
filled_same : (o r : Patches) (i j : ℕ) (xs : List (List ℕ)) → ((s : ℕ) → o (i + s) ≡ r (j + s)) → overlays o i xs ≡ overlays r j xs
filled_same o r i j [] same = refl
filled_same o r i j (x ∷ xs) same =
    let a : i + 0 ≡ i = omega arith in
    let c : j + 0 ≡ j = omega arith in
    ap (λ u. overlay u 0 x ∷ overlays o (i + 1) xs) (ap o (sym a) ∙ same 0 ∙ ap r c)
    ∙ ap (λ ys. overlay (r j) 0 x ∷ ys) (filled_same o r (i + 1) (j + 1) xs (λ s.
    let d : i + 1 + s ≡ i + suc s = omega arith in let e : j + suc s ≡ j + 1 + s = omega arith in ap o d ∙ same (suc s) ∙ ap r e))

kept_filled : (o r : Patches) (stay : List Bool) (i j : ℕ) (xs : List (List ℕ)) → ((s : ℕ) → o (i + carried_of stay s) ≡ r (j + s)) → kept_of stay (overlays o i xs) ≡ overlays r j (kept_of stay xs)
kept_filled o r stay i j [] same = refl
kept_filled o r [] i j (x ∷ xs) same = filled_same o r i j (x ∷ xs) same
kept_filled o r (true ∷ stay) i j (x ∷ xs) same =
    let a : i + 0 ≡ i = omega arith in
    let c : j + 0 ≡ j = omega arith in
    ap (λ u. overlay u 0 x ∷ kept_of stay (overlays o (i + 1) xs)) (ap o (sym a) ∙ same 0 ∙ ap r c)
    ∙ ap (λ ys. overlay (r j) 0 x ∷ ys) (kept_filled o r stay (i + 1) (j + 1) xs (λ s.
    let d : i + 1 + carried_of stay s ≡ i + suc (carried_of stay s) = omega arith in let e : j + suc s ≡ j + 1 + s = omega arith in ap o d ∙ same (suc s) ∙ ap r e))
kept_filled o r (false ∷ stay) i j (x ∷ xs) same =
    kept_filled o r stay (i + 1) j xs (λ s. let d : i + 1 + carried_of stay s ≡ i + suc (carried_of stay s) = omega arith in ap o d ∙ same s)

-- fields that move are found where they were
found_moved : (stay flags : List Bool) (xs : List (Field Reloc)) (at : ℕ) → reloc_among (map (moved_field stay flags) xs) at ≡ option_map (moved_reloc stay flags) (reloc_among xs at)
found_moved stay flags [] at = refl
found_moved stay flags (x ∷ xs) at =
    elim (eqb x.at at) as (λ b. cond b (Some (moved_reloc stay flags x.item)) (reloc_among (map (moved_field stay flags) xs) at) ≡ option_map (moved_reloc stay flags) (cond b (Some x.item) (reloc_among xs at))) [
      | true ↦ refl
      | false ↦ found_moved stay flags xs at
    ]

module _ (keep : Keep) (n : Object) (is : IsObject n) (none : IsDetached (stays keep n) n) (p : Placement) (v : Valuation) where
  abbrev stay : List Bool
  stay = stays keep n

  abbrev syms : List Bool
  syms = symbols_stay stay n.symbols

  abbrev m : Object
  m = left keep n

  -- a placement of the sections that are left, as one of all
  abbrev q : Placement
  q = spread stay p

  pub long : length n.sections ≡ length stay
  long = sym (length-map n.sections _)

  -- a symbol that is no Local with a place stays
  pub free-clear : (k : ℕ) (s : Symbol) → slice_get n.symbols k ≡ Some s → local_place s.binding ≡ None → lies_in_dropped stay s ≡ false
  free-clear k s here free = by s.binding refl free
    where
      outer : (b : Binding) → s.binding ≡ b → is_local b ≡ false → option_map_or (is_dropped stay) (binding_section b) false ≡ false
      outer b e out = sym (ap (λ b. option_map_or (is_dropped stay) (binding_section b) false) e) ∙ nonlocal-clear stay n long none k s here (ap is_local e ∙ out)

      by : (b : Binding) → s.binding ≡ b → local_place b ≡ None → option_map_or (is_dropped stay) (binding_section b) false ≡ false
      by (Local (value.Place i offset)) e free = absurd (none-some (i, offset) (sym free))
      by (Local (value.Absolute x)) e free = refl
      by (Global v) e free = outer (Global v) e refl
      by Undefined e free = refl
      by (Common size align) e free = refl
      by (Weak f) e free = outer (Weak f) e refl

  -- a section that stays lies where it is placed
  site-moved : (k : ℕ) → k < length n.sections → is_dropped stay k ≡ false → p.site (new_position stay k) ≡ q.site k
  site-moved k low clear =
      sym (spread-carried nowhere stay p.site (new_position stay k))
      ∙ ap (spread_over nowhere stay p.site) (carried_back stay k (omega (arith, low, long)) (not-false (get_or stay k true) clear))

  -- a target is worth what it was
  target-moved : (t : Target) → IsThere n t → place_among n.symbols t ≡ None → targets_dropped stay t ≡ false → target_worth m.symbols p v (moved_target stay syms t) ≡ target_worth n.symbols q v t
  target-moved (target.Section k) there free clear = ap valued (site-moved k there clear)
    where
      valued : Site → Valued
      valued site = record { site = site; slot = 0 }
  target-moved (target.Symbol k) there free clear =
      let s = there_at n.symbols k there in
      let stands = symbol_there stay n long none k s.0 s.1 (free-clear k s.0 s.1 (sym (place_among-there n.symbols k s.0 s.1) ∙ free)) in
      ap (λ o. unwrap_or (option_map (λ (s : Symbol). v s.number) o) worthless) stands ∙ sym (ap (λ o. unwrap_or (option_map (λ (s : Symbol). v s.number) o) worthless) s.1)

  -- so is what is taken
  less-moved : (s at : ℕ) (t : Valued) (l : Less) → IsLessThere n l → takes_dropped stay l ≡ false → less_of p s at t (moved_less stay l) ≡ less_of q (carried_of stay s) at t l
  less-moved s at t (less.Section k) there clear = ap (λ (x : Site). x.address) (site-moved k there clear)
  less-moved s at t less.Zero there clear = refl
  less-moved s at t less.Place there clear = ap (λ (x : Site). x.address + at) (sym (spread-carried nowhere stay p.site s))
  less-moved s at t less.GotBase there clear = refl
  less-moved s at t less.ImageBase there clear = refl
  less-moved s at t less.Home there clear = refl

  residue-moved : (w : Word) (s at : ℕ) (r : Reloc) → IsNormal n (carried_of stay s) r → refers_to_dropped stay r ≡ false
      → residue_at w m.symbols p v s at (moved_reloc stay syms r) ≡ residue_at w n.symbols q v (carried_of stay s) at r
  unfolding residue_at
  residue-moved w s at r normal clear =
      let both = or_parts (targets_dropped stay r.target) (takes_dropped stay r.form.less) clear in
      let t : Valued = target_worth m.symbols p v (moved_target stay syms r.target) in
      ap (λ l. minus w (base_of p t r.form.base + residue_of w r.addend) l) (less-moved s at t r.form.less normal.less both.1)
      ∙ ap (λ t. minus w (base_of q t r.form.base + residue_of w r.addend) (less_of q (carried_of stay s) at t r.form.less)) (target-moved r.target normal.target normal.against both.0)

  -- a field of a section that stays is in normal form, and refers to none that goes
  pub clear-field : (s at : ℕ) (r : Reloc) → reloc_at n (carried_of stay s) at ≡ Some r → IsNormal n (carried_of stay s) r × (refers_to_dropped stay r ≡ false)
  clear-field s at r here = elim (cases_lt (carried_of stay s) (length n.sections)) [
    | inl low ↦
        let x = there_at n.sections (carried_of stay s) low in
        let f = found_field (λ (f : Field Reloc). IsHeld n (carried_of stay s) x.0.bytes f × ((not (is_dropped stay (carried_of stay s)) && refers_to_dropped stay f.item) ≡ false)) (list_of n.relocs (carried_of stay s)) at r
        (all_both (IsHeld n (carried_of stay s) x.0.bytes) (λ (f : Field Reloc). (not (is_dropped stay (carried_of stay s)) && refers_to_dropped stay f.item) ≡ false) (list_of n.relocs (carried_of stay s))
        (is.built.fields.each (carried_of stay s) x.0 x.1) (none.fields (carried_of stay s) x.0 x.1)) here in
        (subst (λ (r : Reloc). IsNormal n (carried_of stay s) r) f.2 f.3.0.normal, subst (λ (r : Reloc). refers_to_dropped stay r ≡ false) f.2 (refers (get_or stay (carried_of stay s) true) (refers_to_dropped stay f.0.item) (carried_stays stay s) f.3.1))
    | inr past ↦ absurd (none-some r (sym (ap (λ xs. reloc_among xs at) (get_or_past n.relocs (carried_of stay s) [] (let c = is.built.fields.counted in omega (arith, past, c)))) ∙ here))
  ]
    where
      refers : (a b : Bool) → a ≡ true → (not (not a) && b) ≡ false → b ≡ false
      refers false b is e = absurd (true≢false (sym is))
      refers true true is e = absurd (true≢false e)
      refers true false is e = refl

  -- the relocations of what is left
  pub reloc-left : (s at : ℕ) → reloc_at m s at ≡ option_map (moved_reloc stay syms) (reloc_at n (carried_of stay s) at)
  reloc-left s at =
      ap (λ xs. reloc_among xs at) (list_map (moved_field stay syms) (kept_of stay n.relocs) s)
      ∙ found_moved stay syms (list_of (kept_of stay n.relocs) s) at
      ∙ ap (λ xs. option_map (moved_reloc stay syms) (reloc_among xs at)) (kept_list stay n.relocs s [])

  -- the fields of what is left have the values that they had
  pub patches-left : (s at : ℕ) → patches_of m p v s at ≡ patches_of n q v (carried_of stay s) at
  patches-left s at =
      ap (λ o. option_map (patch_of p v) (option_map (field_of m s at) o)) (reloc-left s at)
      ∙ by (reloc_at n (carried_of stay s) at) refl
    where
      made : Reloc → ℕ → Patch
      made r x = record { width = r.form.width; check = r.form.check; residue = x }

      by : (o : Option Reloc) → reloc_at n (carried_of stay s) at ≡ o
          → option_map (patch_of p v) (option_map (field_of m s at) (option_map (moved_reloc stay syms) o)) ≡ option_map (patch_of q v) (option_map (field_of n (carried_of stay s) at) o)
      by None e = refl
      by (Some r) e = let c = clear-field s at r e in ap (λ x. Some (made r x)) (residue-moved (word_for n.format) s at r c.0 c.1)

  -- its contents are those of the sections that stay
  pub contents-left : map contents_of m.sections ≡ kept_of stay (map contents_of n.sections)
  contents-left = map_twice contents_of (regrouped (groups_left (kept_of stay n.sections))) (kept_of stay n.sections) ∙ kept_map contents_of stay n.sections

module _ (f : Dialect) (b : List ℕ) (keep : Keep) (n : Object) (is : IsObject n) (shows : Shows f b keep n) (none : IsDetached (stays keep n) n) (same : flags_in f.rules b keep ≡ stays keep n) where
  abbrev flags : List Bool
  flags = flags_in f.rules b keep

  -- the kept fields are those of the kept sections
  kept-fields : (p : Placement) (v : Valuation) (s : ℕ) → kept_patches f b keep p v s ≡ patches_in f b keep (spread_in f.rules b keep p) v (carried_of flags s)
  unfolding patches_in
  kept-fields p v s = fun_ext (λ at.
      ap (λ t. option_map (patch_of (spread_in f.rules b keep p) v) (cond t (f.rules.fields b keep (carried_of flags s) at) None)) (sym (carried_kept flags s)))

  -- the fields that the reader folded
  abbrev pub folded_before : ℕ → ℕ → Bool
  folded_before s at = is_folded f b keep (carried_of flags s) at

  under-kept : (p : Placement) (v : Valuation) (s : ℕ) → unders (is_folded f b keep) (patches_in f b keep (spread_in f.rules b keep p) v) (carried_of flags s) ≡ unders folded_before (kept_patches f b keep p v) s
  under-kept p v s = fun_ext (λ at. ap (λ (o : ℕ → Option Patch). under_of (folded_before s at) (o at)) (sym (kept-fields p v s)))

  -- what is left of the object shows the kept fields of the file
  pub dropped_shows : (p : Placement) (v : Valuation) → IsTrueToFixed f.rules.word (f.rules.symbols b keep) (spread_in f.rules b keep p) v → ShowsKept f b keep folded_before (left keep n) p v
  dropped_shows p v true_to =
      let q : Placement = spread_in f.rules b keep p in
      let shown = shows.at q v true_to in
      record {
        apart = λ s. subst (λ (o : ℕ → Option Patch). Apart o) (sym (kept-fields p v s)) (shown.apart (carried_of flags s));
        fit = λ s at x folded here. shown.fit (carried_of flags s) at x folded (ap (λ (o : ℕ → Option Patch). o at) (sym (kept-fields p v s)) ∙ here);
        contents =
            contents-left keep n is none p v
            ∙ ap (λ bs. kept_of bs (map contents_of n.sections)) (sym same)
            ∙ ap (kept_of flags) shown.contents
            ∙ kept_filled (unders (is_folded f b keep) (patches_in f b keep q v)) (unders folded_before (kept_patches f b keep p v)) flags 0 0 (map (λ (s : parts.Section). s.contents) (f.rules.sections b)) (λ s.
            let before : 0 + carried_of flags s ≡ carried_of flags s = omega arith in
            let now : s ≡ 0 + s = omega arith in
            ap (unders (is_folded f b keep) (patches_in f b keep q v)) before ∙ under-kept p v s ∙ ap (unders folded_before (kept_patches f b keep p v)) now)
            ∙ ap (overlays (unders folded_before (kept_patches f b keep p v)) 0) (sym (kept_map (λ (s : parts.Section). s.contents) flags (f.rules.sections b)));
        patches = λ s at.
            patches-left keep n is none p v s at
            ∙ ap (λ bs. patches_of n (spread bs p) v (carried_of bs s) at) (sym same)
            ∙ shown.patches (carried_of flags s) at
            ∙ ap (λ (o : ℕ → Option Patch). live_of (folded_before s at) (o at)) (sym (kept-fields p v s));
      }

pub dropped_shows_law : DroppedShowsKept
dropped_shows_law f b keep n m is shows made p v true_to =
    let clean = unless_ok (dropping_fault (stays keep n) n) (left keep n) m made in
    let same : flags_in f.rules b keep ≡ stays keep n = sym (flags-framed keep (f.rules.sections b)) ∙ ap (kept_flags keep) (sym shows.sections) ∙ sym (stay-shown keep n.groups n.sections) in
    subst (λ (m : Object). ShowsKept f b keep (λ s at. is_folded f b keep (carried_of (flags_in f.rules b keep) s) at) m p v) clean.1
    (dropped_shows f b keep n is shows (detached (stays keep n) n clean.0) same p v true_to)
