-- Parts of what families meet: names, symbols that are placed, and rows that take no section.
use Rattle.std.proofs.Common.{◌≡◌, ℕ, zero, suc, ◌+◌, ◌^◌, ◌<◌, ◌≤◌, Bool, true, false, cond, ◌&&◌, ◌||◌, List, [], ◌∷◌, length, Option, Some, None, inl, inr, refl, sym, ◌∙◌, ap, arith, bytes_eq}
use Rattle.std.specs.{Prelude.{slice_get, nat_eq, pos, is_none}, List.{list_any}, Option.{option_map_or, option_and_then}}
use Rattle.std.proofs.lemmas.{Bool.{true≢false, and_parts, eqb-true, cases_lt, or_parts, not-false}, Slice.Eq.{bytes_eq-Decides}}
use Rattle.std.proofs.Math.Pow.{pow_mono}
use Rattle.oc_base.specs.{declared.format.Format.{Format}, declared.format.Format.TheVariants.{Mac64}}
use Rattle.oc_linking.specs.{declared.terms.Kind.{Kind}, declared.terms.Kind.TheVariants.{Zero}, declared.terms.Less.{Less}, declared.terms.Base.{Base}}
use Rattle.oc_linking.specs.declared.terms.Base.TheVariants.{Address, Slot, GotBase, HomeNumber}
use Rattle.oc_linking.specs.declared.terms.Fallback.TheVariants as fallback
use Rattle.oc_linking.proofs.Testing.{any_passes}
use Rattle.oc_algebra.specs.declared.form.Form.{Form}
use Rattle.oc_neutral.specs.{Tests.{is_cut, is_steady, is_unsteady_name}, KindRules.{has_nul}, declared.section.Section.{Section}}
use Rattle.oc_neutral.specs.{declared.symbol.Symbol.{Symbol}, Building.{is_zero}, Faces.{key_of}, Invariants.{HasItsBytes, IsAlign}}
use Rattle.oc_neutral.specs.{KeySymbols.{global_place, group_at, is_key_name, lies_in, has_key_symbol}, Normal.{Place}, Objects.{Object}}
use Rattle.oc_neutral.specs.{Rows.{Row, Taken, TakesPlace, TakesSection, taken_of, same_taken, same_base, shift_of}, Shifts.{written_shift}}
use Rattle.oc_neutral.specs.TargetRelocations.{needs_slot}
use Rattle.oc_target.specs.Meets.{IsUncut, HasKeySymbol, IsSteadyAt, IsPower, IsTakenBy}

-- a number that is not 0
pub positive : (n : ℕ) → nat_eq n 0 ≡ false → 0 < n
positive zero e = absurd (true≢false e)
positive (suc n) e = omega arith

-- a test that something passes
pub some_passes : {X : Type 0} (test : X → Bool) (o : Option X) → option_map_or test o false ≡ true → (x : X) × (o ≡ Some x) × (test x ≡ true)
some_passes test None e = absurd (true≢false (sym e))
some_passes test (Some x) e = (x, refl, e)

-- nothing
pub is_nothing : {X : Type 0} (o : Option X) → is_none o ≡ true → o ≡ None
is_nothing None e = refl
is_nothing (Some x) e = absurd (true≢false (sym e))

-- something
pub is_something : {X : Type 0} (o : Option X) → is_none o ≡ false → (x : X) × (o ≡ Some x)
is_something None e = absurd (true≢false e)
is_something (Some x) e = (x, refl)

-- a section that is not cut
pub uncut : (n : Object) (s : Section) → is_cut n s.name s ≡ false → IsUncut n s
uncut n s e =
    let parts = or_parts (has_nul s.name) (option_map_or has_nul (option_and_then (key_of n.groups) s.group) false) e in
    record {
      name = parts.0;
      key = λ g key here there.
          sym (ap (λ o. option_map_or has_nul o false) (ap (option_and_then (key_of n.groups)) here ∙ there)) ∙ parts.1;
    }

-- a group that has its key symbol
pub led : (n : Object) (g : ℕ) → has_key_symbol n g ≡ true → HasKeySymbol n g
led n g e =
    let found = any_passes (λ (s : Symbol). lies_in n g s && is_key_name n s.name g) n.symbols e in
    let parts = and_parts _ _ found.3 in
    let place = some_passes (λ (p : Place). option_map_or (nat_eq g) (group_at n p.0) false) (global_place found.1.binding) parts.0 in
    let group = some_passes (nat_eq g) (group_at n place.0.0) place.2 in
    let key = some_passes (bytes_eq found.1.name) (key_of n.groups g) parts.1 in
    record {
      position = found.0;
      symbol = found.1;
      there = found.2;
      place = place.0;
      placed = place.1;
      member = group.1 ∙ ap Some (sym (eqb-true g group.0 group.2));
      key = key.1 ∙ ap Some (sym ((bytes_eq-Decides found.1.name key.0).0 key.2));
    }

-- a fallback Name that is steady
pub steady : (n : Object) (k : ℕ) → is_unsteady_name n (fallback.Name k) ≡ false → IsSteadyAt n k
steady n k e =
    let found = some_passes (is_steady n) (slice_get n.symbols k) (not-false _ e) in
    let place = some_passes (λ (p : Place). is_none (group_at n p.0)) (global_place found.0.binding) found.2 in
    record { symbol = found.0; there = found.1; place = place.0; placed = place.1; alone = is_nothing (group_at n place.0.0) place.2 }

-- an alignment that is not above a power of two
pub power : (most align : ℕ) → 2 ^ most < 2 ^ (most + 1) → IsAlign align → align ≤ 2 ^ most → IsPower most align
power most align rises is low = elim (cases_lt most is.0) [
  | inl l ↦ absurd (let more : 2 ^ (most + 1) ≤ 2 ^ is.0 = pow_mono (omega (arith, l)) in let own = is.2 in omega (arith, rises, more, own, low))
  | inr l ↦ record { exponent = is.0; low = l; is = is.2 }
]

-- a section whose kind is Zero
pub zero_kind : (kind : Kind) → is_zero kind ≡ true → kind ≡ Zero
zero_kind kind e = grind arith

-- a section has all its bytes, where its kind is not Zero
pub all_bytes : (s : Section) → HasItsBytes s → (s.kind ≡ Zero → ⊥) → length s.bytes ≡ s.size
all_bytes s own other = by (is_zero s.kind) refl
  where
    by : (b : Bool) → is_zero s.kind ≡ b → length s.bytes ≡ s.size
    by true e = absurd (other (zero_kind s.kind e))
    by false e = own ∙ ap (λ b. cond b 0 s.size) e

-- what is taken, in another format than mac64
pub taken_alike : (format : Format) (l : Less) (t : Taken) → (format ≡ Mac64 → ⊥) → IsTakenBy format l t → t ≡ taken_of l
taken_alike format l t other taken = elim taken [ inl e ↦ e | inr e ↦ absurd (other e.0) ]

-- the shift of a row that takes no section
pub plain_shift : (at : ℕ) (l : Less) (row : Row) → same_taken row.taken TakesSection ≡ false → written_shift at l row ≡ shift_of row
plain_shift at l row e = ap (λ b. cond (b && same_taken (taken_of l) TakesPlace) (pos at) (shift_of row)) e

-- a base that is no slot and no home number
pub only_address : (form : Form) → needs_slot form ≡ false → same_base form.base HomeNumber ≡ false → form.base ≡ Address
only_address form slot home = by form.base (or_parts _ _ slot).0 (or_parts _ _ slot).1 home
  where
    by : (b : Base) → same_base b Slot ≡ false → same_base b GotBase ≡ false → same_base b HomeNumber ≡ false → b ≡ Address
    by b x y z = grind arith
