-- What is left of an object, part by part: what is there stays there, at its new position.
use Rattle.std.proofs.Common.{◌≡◌, ℕ, ◌<◌, Bool, true, false, not, ◌&&◌, eqb, List, length, get_or, Some, None, refl, sym, ◌∙◌, ap, subst, arith}
use Rattle.std.specs.{Prelude.{slice_get}, List.{AllByRecursion}, Option.{option_map, option_map_or}}
use Rattle.std.proofs.lemmas.{Bool.{eq-eqb, ne_eqb, true≢false, not-false}, List.{length-map}}
use Rattle.std.proofs.lemmas.Option.{none-some, get_or_from_slice_get, slice_get-map, slice_get_within}
use Rattle.oc_linking.specs.{declared.terms.Value.{Value}, declared.terms.Fallback.{Fallback}, declared.terms.Binding.{Binding}}
use Rattle.oc_linking.specs.{declared.terms.Binding.TheVariants.{Local, Global, Undefined, Common, Weak}, declared.terms.Base.{Base}}
use Rattle.oc_linking.specs.{declared.terms.Less.{Less}, Keeping.{kept_of}, Parts.{is_local}}
use Rattle.oc_linking.specs.declared.terms.Value.TheVariants as value
use Rattle.oc_linking.specs.declared.terms.Fallback.TheVariants as fallback
use Rattle.oc_linking.specs.declared.terms.Base.TheVariants as base
use Rattle.oc_linking.specs.declared.terms.Less.TheVariants as less
use Rattle.oc_chains.specs.declared.field.Field.{Field}
use Rattle.oc_neutral.specs.{declared.section.Section.{Section}, declared.symbol.Symbol.{Symbol}, declared.reloc.Target.{Target}, declared.reloc.Reloc.{Reloc}}
use Rattle.oc_neutral.specs.{Objects.{Object}, Faces.{number_of}, Normal.{local_place, place_among, cancels, takes_section}}
use Rattle.oc_neutral.specs.Invariants.{HasOffset, IsValue, is_strong, IsOriginal, IsFallback, IsBinding, IsSymbol, AreDistinct, IsThere, IsLessThere, IsNormal, IsHeld, IsHinted, NamesOriginal}
use Rattle.oc_neutral.specs.Without.{is_dropped, value_section, binding_section, lies_in_dropped, symbols_stay, targets_dropped, takes_dropped, refers_to_dropped, IsDetached, new_position, moved_value, moved_fallback, moved_binding, with_binding, moved_target, moved_less, moved_reloc, moved_field, groups_left, regrouped, left_of}
use Rattle.oc_neutral.specs.declared.reloc.Target.TheVariants as target
use Rattle.oc_neutral.proofs.{Adding.{or_left, or_right}, Mapped.{from_mapped, all_from}, NormalLemmas.{place_among-there}, Positions.{each_at, there_at}}
use Rattle.oc_neutral.proofs.KeptLists.{Stays, kept_there, kept_from, old_order, one_position}
use Rattle.oc_linking.proofs.LawProofs.{not-true}

-- a section is no Local with a place
pub section_free : (symbols : List Symbol) (k : ℕ) → place_among symbols (target.Section k) ≡ None
unfolding place_among
section_free symbols k = refl

-- what is strong is no Local
pub strong_outer : (b : Binding) → is_strong b ≡ true → is_local b ≡ false
strong_outer b e = grind arith

module _ (stay : List Bool) (n : Object) (long : length n.sections ≡ length stay) (none : IsDetached stay n) where
  abbrev pub flags : List Bool
  flags = symbols_stay stay n.symbols

  abbrev pub sections : List Section
  sections = kept_of stay n.sections

  abbrev pub left : List ℕ
  left = groups_left sections

  abbrev pub moved_symbol : Symbol → Symbol
  moved_symbol s = with_binding s (moved_binding stay flags s.binding)

  abbrev pub left_object : Object
  left_object = left_of stay flags n

  -- ... which symbols stay

  flags_long : length n.symbols ≡ length flags
  flags_long = sym (length-map n.symbols (λ (s : Symbol). not (lies_in_dropped stay s)))

  flag_at : (k : ℕ) (s : Symbol) → slice_get n.symbols k ≡ Some s → get_or flags k true ≡ not (lies_in_dropped stay s)
  flag_at k s here =
      get_or_from_slice_get flags k (not (lies_in_dropped stay s)) true
      (slice_get-map (λ (s : Symbol). not (lies_in_dropped stay s)) n.symbols k ∙ ap (option_map (λ (s : Symbol). not (lies_in_dropped stay s))) here)

  symbol_lies : (k : ℕ) (s : Symbol) → slice_get n.symbols k ≡ Some s → Stays flags k → lies_in_dropped stay s ≡ false
  symbol_lies k s here is = not-true (lies_in_dropped stay s) (sym (flag_at k s here) ∙ is)

  nonlocal_stays : (k : ℕ) (s : Symbol) → slice_get n.symbols k ≡ Some s → is_local s.binding ≡ false → lies_in_dropped stay s ≡ false
  nonlocal_stays k s here out =
      by (is_local s.binding) (lies_in_dropped stay s) out
      (each_at (λ (s : Symbol). (not (is_local s.binding) && lies_in_dropped stay s) ≡ false) n.symbols k s none.symbols here)
    where
      by : (a b : Bool) → a ≡ false → (not a && b) ≡ false → b ≡ false
      by a b out e = grind arith

  -- a symbol that is no Local with a place stays
  symbol_clear : (k : ℕ) (s : Symbol) → slice_get n.symbols k ≡ Some s → local_place s.binding ≡ None → lies_in_dropped stay s ≡ false
  symbol_clear k s here free = by s.binding refl free
    where
      outer : (b : Binding) → s.binding ≡ b → is_local b ≡ false → option_map_or (is_dropped stay) (binding_section b) false ≡ false
      outer b e out = sym (ap (λ b. option_map_or (is_dropped stay) (binding_section b) false) e) ∙ nonlocal_stays k s here (ap is_local e ∙ out)

      by : (b : Binding) → s.binding ≡ b → local_place b ≡ None → option_map_or (is_dropped stay) (binding_section b) false ≡ false
      by (Local (value.Place i offset)) e free = absurd (none-some (i, offset) (sym free))
      by (Local (value.Absolute x)) e free = refl
      by (Global v) e free = outer (Global v) e refl
      by Undefined e free = refl
      by (Common size align) e free = refl
      by (Weak f) e free = outer (Weak f) e refl

  -- ... sections and symbols at their new positions

  pub section_there : (k : ℕ) (x : Section) → slice_get n.sections k ≡ Some x → Stays stay k → slice_get left_object.sections (new_position stay k) ≡ Some (regrouped left x)
  section_there k x here is = slice_get-map (regrouped left) sections (new_position stay k) ∙ ap (option_map (regrouped left)) (kept_there stay n.sections k x long is here)

  pub section_from : (j : ℕ) (y : Section) → slice_get left_object.sections j ≡ Some y
      → (k : ℕ) × (x : Section) × (slice_get n.sections k ≡ Some x) × Stays stay k × (new_position stay k ≡ j) × (regrouped left x ≡ y)
  section_from j y here =
      let x = from_mapped (regrouped left) (slice_get sections j) y (sym (slice_get-map (regrouped left) sections j) ∙ here) in
      let k = kept_from stay n.sections j x.0 long x.1 in
      (k.0, x.0, k.1, k.2, k.3, x.2)

  pub symbol_there : (k : ℕ) (s : Symbol) → slice_get n.symbols k ≡ Some s → lies_in_dropped stay s ≡ false → slice_get left_object.symbols (new_position flags k) ≡ Some (moved_symbol s)
  symbol_there k s here e =
      slice_get-map moved_symbol (kept_of flags n.symbols) (new_position flags k)
      ∙ ap (option_map moved_symbol) (kept_there flags n.symbols k s flags_long (flag_at k s here ∙ ap not e) here)

  pub symbol_from : (j : ℕ) (t : Symbol) → slice_get left_object.symbols j ≡ Some t
      → (k : ℕ) × (s : Symbol) × (slice_get n.symbols k ≡ Some s) × Stays flags k × (new_position flags k ≡ j) × (moved_symbol s ≡ t)
  symbol_from j t here =
      let x = from_mapped moved_symbol (slice_get (kept_of flags n.symbols) j) t (sym (slice_get-map moved_symbol (kept_of flags n.symbols) j) ∙ here) in
      let k = kept_from flags n.symbols j x.0 flags_long x.1 in
      (k.0, x.0, k.1, k.2, k.3, x.2)

  offset_there : (k offset : ℕ) → HasOffset n.sections k offset → is_dropped stay k ≡ false → HasOffset left_object.sections (new_position stay k) offset
  offset_there k offset there e = (regrouped left there.0, section_there k there.0 there.1 (not-false (get_or stay k true) e), there.2)

  number_there : (k : ℕ) (s : Symbol) → slice_get n.symbols k ≡ Some s → lies_in_dropped stay s ≡ false → number_of left_object.symbols (new_position flags k) ≡ number_of n.symbols k
  number_there k s here e =
      ap (λ o. option_map_or (λ (s : Symbol). s.number) o 0) (symbol_there k s here e) ∙ sym (ap (λ o. option_map_or (λ (s : Symbol). s.number) o 0) here)

  original_there : (k : ℕ) (s : Symbol) → slice_get n.symbols k ≡ Some s → lies_in_dropped stay s ≡ false → IsOriginal n.symbols k → IsOriginal left_object.symbols (new_position flags k)
  original_there k s here e is j before same =
      let low = slice_get_within left_object.symbols (new_position flags k) (moved_symbol s) (symbol_there k s here e) in
      let t = there_at left_object.symbols j (omega (arith, before, low)) in
      let u = symbol_from j t.0 t.1 in
      is u.0 (old_order flags u.0 k (let f = u.4 in omega (arith, f, before)))
      (sym (number_there u.0 u.1 u.2 (symbol_lies u.0 u.1 u.2 u.3)) ∙ ap (number_of left_object.symbols) u.4 ∙ same ∙ number_there k s here e)

  -- ... bindings

  value_there : (v : Value) → IsValue n v → option_map_or (is_dropped stay) (value_section v) false ≡ false → IsValue left_object (moved_value stay v)
  value_there (value.Place k offset) there e = offset_there k offset there e
  value_there (value.Absolute x) there e = there

  strong_same : (b : Binding) → is_strong (moved_binding stay flags b) ≡ is_strong b
  strong_same b = grind arith

  fallback_there : (f : Fallback) → IsFallback n f → option_map_or (is_dropped stay) (binding_section (Weak f)) false ≡ false → IsFallback left_object (moved_fallback stay flags f)
  fallback_there (fallback.Place k offset) there e = offset_there k offset there e
  fallback_there fallback.Zero there e = tt
  fallback_there (fallback.Name k) there e =
      let clear = nonlocal_stays k there.0 there.1 (strong_outer there.0.binding there.2) in
      (moved_symbol there.0, symbol_there k there.0 there.1 clear, strong_same there.0.binding ∙ there.2, original_there k there.0 there.1 clear there.3)

  binding_there : (b : Binding) → IsBinding n b → option_map_or (is_dropped stay) (binding_section b) false ≡ false → IsBinding left_object (moved_binding stay flags b)
  binding_there (Local v) there e = value_there v there e
  binding_there (Global v) there e = value_there v there e
  binding_there Undefined there e = tt
  binding_there (Common size align) there e = there
  binding_there (Weak f) there e = fallback_there f there e

  pub symbols_fine : AllByRecursion (IsSymbol n) n.symbols → AllByRecursion (IsSymbol left_object) left_object.symbols
  symbols_fine fine = all_from (IsSymbol left_object) left_object.symbols (λ j t here.
      let u = symbol_from j t here in
      let s = each_at (IsSymbol n) n.symbols u.0 u.1 fine u.2 in
      subst (IsSymbol left_object) u.5 (record {
        named = s.named;
        name = s.name;
        binding = binding_there u.1.binding s.binding (symbol_lies u.0 u.1 u.2 u.3);
        size = s.size;
        number = s.number;
      }))

  local_same : (b : Binding) → is_local (moved_binding stay flags b) ≡ is_local b
  local_same b = grind arith

  pub distinct : AreDistinct n.symbols → AreDistinct left_object.symbols
  distinct fine i j s t lt here there first second same =
      let x = symbol_from i s here in
      let y = symbol_from j t there in
      fine x.0 y.0 x.1 y.1 (old_order flags x.0 y.0 (let a = x.4 in let b = y.4 in omega (arith, a, b, lt))) x.2 y.2
      (sym (local_same x.1.binding) ∙ ap (λ (z : Symbol). is_local z.binding) x.5 ∙ first)
      (sym (local_same y.1.binding) ∙ ap (λ (z : Symbol). is_local z.binding) y.5 ∙ second)
      (ap (λ (z : Symbol). z.name) x.5 ∙ same ∙ sym (ap (λ (z : Symbol). z.name) y.5))

  -- ... relocations

  target_clear : (t : Target) → IsThere n t → place_among n.symbols t ≡ None → targets_dropped stay t ≡ false → IsThere left_object (moved_target stay flags t)
  target_clear (target.Section k) there free e =
      let x = there_at n.sections k there in
      slice_get_within left_object.sections (new_position stay k) (regrouped left x.0) (section_there k x.0 x.1 (not-false (get_or stay k true) e))
  target_clear (target.Symbol k) there free e =
      let s = there_at n.symbols k there in
      slice_get_within left_object.symbols (new_position flags k) (moved_symbol s.0)
      (symbol_there k s.0 s.1 (symbol_clear k s.0 s.1 (sym (place_among-there n.symbols k s.0 s.1) ∙ free)))

  less_clear : (l : Less) → IsLessThere n l → takes_dropped stay l ≡ false → IsLessThere left_object (moved_less stay l)
  less_clear (less.Section k) there e = target_clear (target.Section k) there (section_free n.symbols k) e
  less_clear less.Zero there e = tt
  less_clear less.Place there e = tt
  less_clear less.GotBase there e = tt
  less_clear less.ImageBase there e = tt
  less_clear less.Home there e = tt

  local_free : (b : Binding) → local_place b ≡ None → local_place (moved_binding stay flags b) ≡ None
  local_free b free = grind arith

  against_none : (t : Target) → IsThere n t → place_among n.symbols t ≡ None → place_among left_object.symbols (moved_target stay flags t) ≡ None
  against_none (target.Section k) there free = section_free left_object.symbols (new_position stay k)
  against_none (target.Symbol k) there free =
      let s = there_at n.symbols k there in
      let at : local_place s.0.binding ≡ None = sym (place_among-there n.symbols k s.0 s.1) ∙ free in
      place_among-there left_object.symbols (new_position flags k) (moved_symbol s.0) (symbol_there k s.0 s.1 (symbol_clear k s.0 s.1 at)) ∙ local_free s.0.binding at

  -- different sections have different positions
  other_position : (j k : ℕ) → j < length n.sections → k < length n.sections → Stays stay j → Stays stay k → eqb j k ≡ false → eqb (new_position stay j) (new_position stay k) ≡ false
  other_position j k low low' is is' e =
      ne_eqb (new_position stay j) (new_position stay k) (λ same.
      true≢false (sym (eq-eqb j k (one_position stay j k (omega (arith, low, long)) (omega (arith, low', long)) is is' same)) ∙ e))

  varies_still : (b : Base) (t : Target) (l : Less) → IsThere n t → IsLessThere n l → targets_dropped stay t ≡ false → takes_dropped stay l ≡ false → cancels b t l ≡ false
      → cancels b (moved_target stay flags t) (moved_less stay l) ≡ false
  varies_still base.Address (target.Section j) (less.Section k) there there' clear clear' e =
      other_position j k there there' (not-false (get_or stay j true) clear) (not-false (get_or stay k true) clear') e
  varies_still base.Address (target.Section j) less.Zero there there' clear clear' e = refl
  varies_still base.Address (target.Section j) less.Place there there' clear clear' e = refl
  varies_still base.Address (target.Section j) less.GotBase there there' clear clear' e = refl
  varies_still base.Address (target.Section j) less.ImageBase there there' clear clear' e = refl
  varies_still base.Address (target.Section j) less.Home there there' clear clear' e = refl
  varies_still base.Address (target.Symbol j) l there there' clear clear' e = refl
  varies_still base.Slot t l there there' clear clear' e = refl
  varies_still base.GotBase t l there there' clear clear' e = refl
  varies_still base.HomeNumber t l there there' clear clear' e = refl

  placed_still : (s : ℕ) (l : Less) → s < length n.sections → Stays stay s → IsLessThere n l → takes_dropped stay l ≡ false → takes_section s l ≡ false
      → takes_section (new_position stay s) (moved_less stay l) ≡ false
  placed_still s (less.Section k) low is there clear e = other_position k s there low (not-false (get_or stay k true) clear) is e
  placed_still s less.Zero low is there clear e = refl
  placed_still s less.Place low is there clear e = refl
  placed_still s less.GotBase low is there clear e = refl
  placed_still s less.ImageBase low is there clear e = refl
  placed_still s less.Home low is there clear e = refl

  -- a field of a section that stays refers to none that goes
  refers_clear : (s : ℕ) (x : Section) (f : Field Reloc) → Stays stay s → (not (is_dropped stay s) && refers_to_dropped stay f.item) ≡ false → refers_to_dropped stay f.item ≡ false
  refers_clear s x f is e = by (get_or stay s true) (refers_to_dropped stay f.item) is e
    where
      by : (a b : Bool) → a ≡ true → (not (not a) && b) ≡ false → b ≡ false
      by a b is e = grind arith

  normal_still : (s : ℕ) (r : Reloc) → s < length n.sections → Stays stay s → refers_to_dropped stay r ≡ false → IsNormal n s r → IsNormal left_object (new_position stay s) (moved_reloc stay flags r)
  normal_still s r low is e normal =
      let clear : targets_dropped stay r.target ≡ false = or_left (targets_dropped stay r.target) (takes_dropped stay r.form.less) e in
      let clear' : takes_dropped stay r.form.less ≡ false = or_right (targets_dropped stay r.target) (takes_dropped stay r.form.less) e in
      record {
        target = target_clear r.target normal.target normal.against clear;
        less = less_clear r.form.less normal.less clear';
        reduced = normal.reduced;
        against = against_none r.target normal.target normal.against;
        varies = varies_still r.form.base r.target r.form.less normal.target normal.less clear clear' normal.varies;
        placed = placed_still s r.form.less low is normal.less clear' normal.placed;
      }

  pub held_still : (s : ℕ) (x : Section) (f : Field Reloc) → slice_get n.sections s ≡ Some x → Stays stay s → (not (is_dropped stay s) && refers_to_dropped stay f.item) ≡ false → IsHeld n s x.bytes f
      → IsHeld left_object (new_position stay s) x.bytes (moved_field stay flags f)
  held_still s x f here is e held = record {
    width = held.width;
    inside = held.inside;
    blank = held.blank;
    normal = normal_still s f.item (slice_get_within n.sections s x here) is (refers_clear s x f is e) held.normal;
  }

  pub hinted_still : (r : Reloc) → IsHinted r → IsHinted (moved_reloc stay flags r)
  hinted_still r hinted call = let h = hinted call in (h.0, ap (moved_less stay) h.1, h.2)

  pub original_still : (s : ℕ) (r : Reloc) → IsNormal n s r → NamesOriginal n.symbols r.target → NamesOriginal left_object.symbols (moved_target stay flags r.target)
  original_still s r normal is = by r.target normal.target normal.against is
    where
      by : (t : Target) → IsThere n t → place_among n.symbols t ≡ None → NamesOriginal n.symbols t → NamesOriginal left_object.symbols (moved_target stay flags t)
      by (target.Section k) there free is = tt
      by (target.Symbol k) there free is =
          let s = there_at n.symbols k there in
          original_there k s.0 s.1 (symbol_clear k s.0 s.1 (sym (place_among-there n.symbols k s.0 s.1) ∙ free)) is
