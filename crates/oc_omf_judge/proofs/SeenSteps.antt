-- One definition, external or communal more.
use Rattle.std.proofs.Common.{◌≡◌, ℕ, Bool, true, false, cond, ◌&&◌, ◌||◌, not, nat_eq, nat_lt, List, [], ◌∷◌, ◌++◌, length, map, Option, Some, None, refl, sym, ◌∙◌, ap, subst, arith}
use Rattle.std.specs.{Prelude.{bytes_eq, is_some}, List.{list_any}, Map.{update}, Option.{option_map_or}}
use Rattle.std.proofs.lemmas.{Bool.Decides.{nat_tests}, List.{map-append}, List.Folds.{list_any-append}, Slice.Eq.{bytes_eq-Decides}}
use Rattle.std.proofs.Math.Bool.{or-false}
use Rattle.oc_omf_judge.specs.{declared.earlier.SeenExternal.{SeenExternal}, declared.earlier.EarlierSymbols.{EarlierSymbols}, NameNumbers.{NameNumbers, value_at}}
use Rattle.oc_omf_judge.specs.EarlierSymbols.{AreCommunal, AreNamed, AreEarlierSymbols, external_behind, external_with, mention_of, public_behind}
use Rattle.oc_omf.specs.{declared.structures.Communal.{Communal}, Structures.{Public, External}, Tables.{Tables}}
use Rattle.oc_omf.specs.Symbols.{agree, external_mention, public_mention, same_symbol}
use Rattle.oc_omf.specs.{SymbolFaults.{communal_conditions, is_empty, is_other_length, is_undefined, same_public, symbol_fault}, Sections.{size_at}}
use Rattle.oc_base.specs.declared.code.Code.TheVariants.{BadSymbol, DuplicateName, SymbolKind}
use Rattle.oc_linking.specs.{Numbers.{or_else}, FirstFault.{first_broken}}
use Rattle.oc_shelf.proofs.ReadingLaws.StageLemmas.{first_broken-append}
use Rattle.oc_omf_judge.proofs.MentionLemmas.{agree_self}

-- the same bytes, either way
pub same_way : (xs ys : List ℕ) → bytes_eq xs ys ≡ bytes_eq ys xs
same_way xs ys = by (bytes_eq xs ys) (bytes_eq ys xs) refl refl
  where
    by : (a b : Bool) → bytes_eq xs ys ≡ a → bytes_eq ys xs ≡ b → a ≡ b
    by true b e h = sym ((bytes_eq-Decides ys xs).1 (sym ((bytes_eq-Decides xs ys).0 e))) ∙ h
    by false true e h = sym e ∙ (bytes_eq-Decides xs ys).1 (sym ((bytes_eq-Decides ys xs).0 h))
    by false false e h = refl

-- whether a name of that kind is among one definition more
one_more : (local : Bool) (publics : List Public) (p : Public) (name : List ℕ)
    → list_any (λ q. same_symbol (record { local = local; name = name }) (public_mention q)) (publics ++ p ∷ [])
    ≡ (list_any (λ q. same_symbol (record { local = local; name = name }) (public_mention q)) publics || (agree local p.local && bytes_eq name p.name))
one_more local publics p name =
    list_any-append (λ q. same_symbol (record { local = local; name = name }) (public_mention q)) publics (p ∷ [])
    ∙ ap (λ b. list_any (λ q. same_symbol (record { local = local; name = name }) (public_mention q)) publics || b) (or-false (agree local p.local && bytes_eq name p.name))

agree_other : (b : Bool) → agree b (not b) ≡ false
agree_other true = refl
agree_other false = refl

-- a name more among those of its kind
pub named_more : (local : Bool) (publics : List Public) (old new : NameNumbers) (p : Public) (number : ℕ) → AreNamed local publics old → p.local ≡ local
    → ((other : List ℕ) → value_at new other ≡ update bytes_eq (value_at old) p.name (Some number) other) → AreNamed local (publics ++ p ∷ []) new
named_more local publics old new p number are same taken name =
    ap is_some (taken name)
    ∙ by (bytes_eq p.name name) (value_at old name) (list_any (λ q. same_symbol (record { local = local; name = name }) (public_mention q)) publics) (are name)
    ∙ ap (λ b. list_any (λ q. same_symbol (record { local = local; name = name }) (public_mention q)) publics || b) (same_way p.name name ∙ sym (ap (λ b. b && bytes_eq name p.name) (ap (agree local) same ∙ agree_self local)))
    ∙ sym (one_more local publics p name)
  where
    by : (c : Bool) (o : Option ℕ) (s : Bool) → is_some o ≡ s → is_some (cond c (Some number) o) ≡ (s || c)
    by true o true e = refl
    by true o false e = refl
    by false o true e = e
    by false o false e = e

-- one of the other kind
pub named_other : (local : Bool) (publics : List Public) (held : NameNumbers) (p : Public) → AreNamed local publics held → p.local ≡ not local → AreNamed local (publics ++ p ∷ []) held
named_other local publics held p are other name =
    are name ∙ sym (one_more local publics p name ∙ ap (λ b. list_any (λ q. same_symbol (record { local = local; name = name }) (public_mention q)) publics || (b && bytes_eq name p.name)) (ap (agree local) other ∙ agree_other local)
    ∙ or-false (list_any (λ q. same_symbol (record { local = local; name = name }) (public_mention q)) publics))

-- a definition of this module alone, and one that others see
pub local_seen : (t : Tables) (old new : EarlierSymbols) (p : Public) (number : ℕ) → AreEarlierSymbols t old → p.local ≡ true
    → ((other : List ℕ) → value_at new.locals other ≡ update bytes_eq (value_at old.locals) p.name (Some number) other)
    → new.segments ≡ old.segments → new.groups ≡ old.groups → new.globals ≡ old.globals → new.communals ≡ old.communals → new.externals ≡ old.externals
    → AreEarlierSymbols (record t { publics = t.publics ++ p ∷ [] }) new
local_seen t old new p number is local taken s g o c e = record {
  segments_are = ap (λ v. v.items) s ∙ is.segments_are;
  groups_are = ap (λ v. v.items) g ∙ is.groups_are;
  locals_are = named_more true t.publics old.locals new.locals p number is.locals_are local taken;
  globals_are = subst (λ h. AreNamed false (t.publics ++ p ∷ []) h) (sym o) (named_other false t.publics old.globals p is.globals_are local);
  communals_are = subst (λ h. AreCommunal t.externals h) (sym c) is.communals_are;
  externals_are = ap (λ v. map mention_of v.items) e ∙ is.externals_are;
}

pub global_seen : (t : Tables) (old new : EarlierSymbols) (p : Public) (number : ℕ) → AreEarlierSymbols t old → p.local ≡ false
    → ((other : List ℕ) → value_at new.globals other ≡ update bytes_eq (value_at old.globals) p.name (Some number) other)
    → new.segments ≡ old.segments → new.groups ≡ old.groups → new.locals ≡ old.locals → new.communals ≡ old.communals → new.externals ≡ old.externals
    → AreEarlierSymbols (record t { publics = t.publics ++ p ∷ [] }) new
global_seen t old new p number is local taken s g o c e = record {
  segments_are = ap (λ v. v.items) s ∙ is.segments_are;
  groups_are = ap (λ v. v.items) g ∙ is.groups_are;
  locals_are = subst (λ h. AreNamed true (t.publics ++ p ∷ []) h) (sym o) (named_other true t.publics old.locals p is.locals_are local);
  globals_are = named_more false t.publics old.globals new.globals p number is.globals_are local taken;
  communals_are = subst (λ h. AreCommunal t.externals h) (sym c) is.communals_are;
  externals_are = ap (λ v. map mention_of v.items) e ∙ is.externals_are;
}

-- a definition stood before where its name is held
pub stood_before : (t : Tables) (local : Bool) (held : NameNumbers) (p : Public) → AreNamed local t.publics held → p.local ≡ local → is_some (value_at held p.name) ≡ list_any (same_public p) t.publics
stood_before t local held p are same = are p.name ∙ ap (λ l. list_any (λ q. same_symbol (record { local = l; name = p.name }) (public_mention q)) t.publics) (sym same)

-- a definition that meets its conditions
pub clean_public : (t : Tables) (at : ℕ × ℕ) (p : Public) → nat_lt (size_at t p.segment) p.offset ≡ false → nat_eq (length p.name) 0 ≡ false → list_any (same_public p) t.publics ≡ false
    → first_broken (public_behind t t.publics at p) ≡ None
clean_public t at p inside named new = rw (inside, named, new) refl

-- ... externals

-- the conditions on an external that is no communal, and that meets them
pub clean_external : (all : Tables) (before : List External) (at : ℕ × ℕ) (y : External) → y.communal ≡ None → is_undefined all y ≡ false → nat_eq (length y.name) 0 ≡ false
    → first_broken (external_behind all before at y) ≡ None
clean_external all before at y none found named = rw (none, found, named) refl

-- of this module alone, but not defined in it
pub undefined_is : (all : Tables) (known : NameNumbers) (y : External) → AreNamed true all.publics known → is_undefined all y ≡ (y.local && not (is_some (value_at known y.name)))
undefined_is all known y names = by y.local refl
  where
    by : (b : Bool) → y.local ≡ b → (y.local && not (list_any (λ p. same_symbol (external_mention y) (public_mention p)) all.publics)) ≡ (y.local && not (is_some (value_at known y.name)))
    by true e = ap (λ b. y.local && not (list_any (λ p. same_symbol (record { local = b; name = y.name }) (public_mention p)) all.publics)) e ∙ ap (λ b. y.local && not b) (sym (names y.name))
    by false e = rw e refl

-- an external more
pub external_seen : (t : Tables) (old new : EarlierSymbols) (x : SeenExternal) (y : External) → AreEarlierSymbols t old → mention_of x ≡ external_mention y → y.communal ≡ None → new.externals.items ≡ old.externals.items ++ x ∷ []
    → new.segments ≡ old.segments → new.groups ≡ old.groups → new.locals ≡ old.locals → new.globals ≡ old.globals → new.communals ≡ old.communals
    → AreEarlierSymbols (record t { externals = t.externals ++ y ∷ [] }) new
external_seen t old new x y is same none e s g l o c = record {
  segments_are = ap (λ v. v.items) s ∙ is.segments_are;
  groups_are = ap (λ v. v.items) g ∙ is.groups_are;
  locals_are = subst (λ h. AreNamed true t.publics h) (sym l) is.locals_are;
  globals_are = subst (λ h. AreNamed false t.publics h) (sym o) is.globals_are;
  communals_are = λ name d.
      list_any-append (is_other_length name d) t.externals (y ∷ [])
      ∙ ap (λ b. list_any (is_other_length name d) t.externals || ((bytes_eq name y.name && b) || false)) (ap (λ o. option_map_or (λ (k : Communal). not (nat_eq d.length k.length)) o false) none)
      ∙ nothing (list_any (is_other_length name d) t.externals) (bytes_eq name y.name)
      ∙ is.communals_are name d ∙ ap (λ h. option_map_or (λ l. not (nat_eq d.length l)) (value_at h name) false) (sym c);
  externals_are = ap (map mention_of) e ∙ map-append mention_of old.externals.items (x ∷ []) ∙ ap (λ xs. xs ++ mention_of x ∷ []) is.externals_are
      ∙ ap (λ m. map external_mention t.externals ++ m ∷ []) same ∙ sym (map-append external_mention t.externals (y ∷ []));
}
  where
    nothing : (a b : Bool) → (a || ((b && false) || false)) ≡ a
    nothing true b = refl
    nothing false true = refl
    nothing false false = refl

-- a communal more, whose length is held
pub communal_seen : (t : Tables) (old new : EarlierSymbols) (x : SeenExternal) (y : External) (d : Communal) → AreEarlierSymbols t old → mention_of x ≡ external_mention y → y.communal ≡ Some d
    → option_map_or (λ l. not (nat_eq d.length l)) (value_at old.communals y.name) false ≡ false
    → ((other : List ℕ) → value_at new.communals other ≡ update bytes_eq (value_at old.communals) y.name (Some d.length) other) → new.externals.items ≡ old.externals.items ++ x ∷ []
    → new.segments ≡ old.segments → new.groups ≡ old.groups → new.locals ≡ old.locals → new.globals ≡ old.globals → AreEarlierSymbols (record t { externals = t.externals ++ y ∷ [] }) new
communal_seen t old new x y d is same one alike taken e s g l o = record {
  segments_are = ap (λ v. v.items) s ∙ is.segments_are;
  groups_are = ap (λ v. v.items) g ∙ is.groups_are;
  locals_are = subst (λ h. AreNamed true t.publics h) (sym l) is.locals_are;
  globals_are = subst (λ h. AreNamed false t.publics h) (sym o) is.globals_are;
  communals_are = λ name k.
      list_any-append (is_other_length name k) t.externals (y ∷ [])
      ∙ ap (λ b. list_any (is_other_length name k) t.externals || ((bytes_eq name y.name && b) || false)) (ap (λ o. option_map_or (λ (f : Communal). not (nat_eq k.length f.length)) o false) one)
      ∙ ap (λ b. b || ((bytes_eq name y.name && not (nat_eq k.length d.length)) || false)) (is.communals_are name k)
      ∙ behind name k (bytes_eq y.name name) refl
      ∙ ap (λ o. option_map_or (λ l. not (nat_eq k.length l)) o false) (sym (taken name));
  externals_are = ap (map mention_of) e ∙ map-append mention_of old.externals.items (x ∷ []) ∙ ap (λ xs. xs ++ mention_of x ∷ []) is.externals_are
      ∙ ap (λ m. map external_mention t.externals ++ m ∷ []) same ∙ sym (map-append external_mention t.externals (y ∷ []));
}
  where
    held : (o : Option ℕ) (k : Communal) → option_map_or (λ l. not (nat_eq d.length l)) o false ≡ false → (option_map_or (λ l. not (nat_eq k.length l)) o false || (not (nat_eq k.length d.length) || false)) ≡ not (nat_eq k.length d.length)
    held None k e = or-false (not (nat_eq k.length d.length))
    held (Some l) k e =
        let tie : d.length ≡ l = grind (arith, nat_tests) in
        ap (λ (n : ℕ). not (nat_eq k.length n) || (not (nat_eq k.length d.length) || false)) (sym tie) ∙ twice (not (nat_eq k.length d.length))
      where
        twice : (b : Bool) → (b || (b || false)) ≡ b
        twice true = refl
        twice false = refl

    behind : (name : List ℕ) (k : Communal) (b : Bool) → bytes_eq y.name name ≡ b
        → (option_map_or (λ l. not (nat_eq k.length l)) (value_at old.communals name) false || ((bytes_eq name y.name && not (nat_eq k.length d.length)) || false))
        ≡ option_map_or (λ l. not (nat_eq k.length l)) (cond (bytes_eq y.name name) (Some d.length) (value_at old.communals name)) false
    behind name k true i =
        let named : y.name ≡ name = (bytes_eq-Decides y.name name).0 i in
        ap (λ b. option_map_or (λ l. not (nat_eq k.length l)) (value_at old.communals name) false || ((b && not (nat_eq k.length d.length)) || false)) (same_way name y.name ∙ i)
        ∙ held (value_at old.communals name) k (subst (λ (n : List ℕ). option_map_or (λ l. not (nat_eq d.length l)) (value_at old.communals n) false ≡ false) named alike)
        ∙ ap (λ b. option_map_or (λ l. not (nat_eq k.length l)) (cond b (Some d.length) (value_at old.communals name)) false) (sym i)
    behind name k false i =
        ap (λ b. option_map_or (λ l. not (nat_eq k.length l)) (value_at old.communals name) false || ((b && not (nat_eq k.length d.length)) || false)) (same_way name y.name ∙ i)
        ∙ or-false (option_map_or (λ l. not (nat_eq k.length l)) (value_at old.communals name) false)
        ∙ ap (λ b. option_map_or (λ l. not (nat_eq k.length l)) (cond b (Some d.length) (value_at old.communals name)) false) (sym i)

-- the first fault of a communal
pub communal_verdict : (all : Tables) (before : List External) (at : ℕ × ℕ) (name : List ℕ) (d : Communal)
    → first_broken (external_behind all before at (external_with false name (Some d)))
    ≡ or_else (first_broken (communal_conditions at d)) (cond (is_empty name) (Some (symbol_fault at SymbolKind)) (cond (list_any (is_other_length name d) before) (Some (symbol_fault at DuplicateName)) None))
communal_verdict all before at name d =
    first_broken-append (communal_conditions at d) ((false, symbol_fault at BadSymbol) ∷ (is_empty name, symbol_fault at SymbolKind) ∷ (list_any (is_other_length name d) before, symbol_fault at DuplicateName) ∷ [])
