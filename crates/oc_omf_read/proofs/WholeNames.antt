-- Names that are mentioned are bytes, and lengths of communals are small.
use Rattle.std.proofs.Common.{◌≡◌, ℕ, zero, suc, ◌+◌, ◌-◌, ◌^◌, ◌<◌, ◌≤◌, Bool, true, false, cond, List, [], ◌∷◌, drop, length, map, Option, Some, Ok, Err, refl, sym, ◌∙◌, ap, subst, arith}
use Rattle.std.specs.{Prelude.{nat_eq, nat_le, nat_lt, slice_range}, List.{AllByRecursion}}
use Rattle.oc_base.specs.Numbers.{number_at}
use Rattle.oc_neutral.specs.Invariants.{AreBytes}
use Rattle.oc_omf_records.specs.{declared.records.Entry.{Entry as Record}, NextEntry.{end_of_entry, entry_of}}
use Rattle.oc_omf.specs.{declared.cut.Cut.{Cut}, declared.structures.PublicBase.{PublicBase}, declared.structures.Communal.{Communal}}
use Rattle.oc_omf.specs.Cursor.{Reading, and_more, each_read, each_upto, index_read, name_read, name_end, next, number_read}
use Rattle.oc_omf.specs.Structures.{External, Public, base_read, communal_length, communal_read, communal_width, external_read, long_size, public_read}
use Rattle.oc_omf.specs.Entries.{Entry, all_read, entries_in, is_wide}
use Rattle.oc_omf.proofs.EachLemmas.{next_goes}
use Rattle.oc_omf_read.specs.{declared.class.EntryClass.{EntryClass}, Classes.{class_of}, Defined.{said}}
use Rattle.oc_omf_read.specs.Declarations.{Declaration, of_external, of_public, publics_behind, public_declarations, declarations_by, declarations_in}
use Rattle.oc_omf_read.specs.Mentioned.{length_said}
use Rattle.oc_omf_read.specs.declared.class.EntryClass.TheVariants as class
use Rattle.oc_omf_read.proofs.{ContentLemmas.{all_flat}, DefinedLemmas.{said_by_class}}
use Rattle.oc_omf_read.proofs.{DeclarationLemmas.{communals_are, externals_are, local_externals_are, local_publics_are, publics_are}, SumLemmas.{said_here}}
use Rattle.oc_omf.specs.declared.cut.Cut.TheVariants as cut
use Rattle.std.proofs.lemmas.Option.{none-some, same_Some}
use Rattle.oc_shelf.proofs.ReadingLaws.ByteLemmas.{room, number_small, all_drop, all_take}

-- ... bytes

range_bytes : (b : List ℕ) (from to : ℕ) → AreBytes b → AreBytes (slice_range b from to)
range_bytes b from to bytes = all_take (λ x. x < 2 ^ 8) (to - from) (drop from b) (all_drop (λ x. x < 2 ^ 8) from b bytes)

-- ... structures

abbrev value_of : {X : Type 0} → X → Reading X → X
value_of d r = elim r as (λ _. _) [ Ok s ↦ s.0 | Err _ ↦ d ]

name_bytes : (b : List ℕ) → AreBytes b → (at : ℕ) (x : List ℕ) (q : ℕ) → name_read b at ≡ Ok (x, q) → AreBytes x
unfolding name_read
name_bytes b bytes at x q e = by (nat_le (name_end b at) (length b)) e
  where
    no_ok : (c : Cut) → (let r : Reading (List ℕ) = Err c in r ≡ Ok (x, q)) → ⊥
    no_ok c e = cc

    by : (t : Bool) → cond {A = Reading (List ℕ)} t (Ok (slice_range b (at + 1) (name_end b at), name_end b at)) (Err cut.Name) ≡ Ok (x, q) → AreBytes x
    by true e = subst AreBytes (ap (value_of {X = List ℕ} []) e) (range_bytes b (at + 1) (name_end b at) bytes)
    by false e = absurd (no_ok cut.Name e)

number_room : (k : ℕ) (b : List ℕ) → AreBytes b → (at x q : ℕ) → number_read k b at ≡ Ok (x, q) → x < room k
unfolding number_read
number_room k b bytes at x q e = by (nat_le (at + k) (length b)) e
  where
    no_ok : (c : Cut) → (let r : Reading ℕ = Err c in r ≡ Ok (x, q)) → ⊥
    no_ok c e = cc

    by : (t : Bool) → cond {A = Reading ℕ} t (Ok (number_at b at k, at + k)) (Err cut.Field) ≡ Ok (x, q) → x < room k
    by true e = subst (λ (n : ℕ). n < room k) (ap (value_of {X = ℕ} 0) e) (number_small b bytes at k)
    by false e = absurd (no_ok cut.Field e)

-- what each structure that is read has, all have
pub each_has : {X : Type 0} (P : X → Type 0) (read : List ℕ → ℕ → Reading X) (b : List ℕ) → ((at : ℕ) (x : X) (q : ℕ) → read b at ≡ Ok (x, q) → P x) → (n at : ℕ) → AllByRecursion P (all_read (each_upto n read b at))
each_has P read b one zero at = tt
each_has {X} P read b one (suc n) at = by (nat_lt at (length b)) (read b at) refl (each_has P read b one n)
  where
    by : (t : Bool) (r : Reading X) → read b at ≡ r → ((p : ℕ) → AllByRecursion P (all_read (each_upto n read b p))) → AllByRecursion P (all_read (cond t (and_more at r (each_upto n read b)) []))
    by false r e rest = tt
    by true (Ok r) e rest = (one at r.0 r.1 e, rest r.1)
    by true (Err c) e rest = tt

pub all_has : {X : Type 0} (P : X → Type 0) (read : List ℕ → ℕ → Reading X) (b : List ℕ) → ((at : ℕ) (x : X) (q : ℕ) → read b at ≡ Ok (x, q) → P x) → (at : ℕ) → AllByRecursion P (all_read (each_read read b at))
unfolding each_read
all_has P read b one at = each_has P read b one (length b) at

public_bytes : (wide local : Bool) (segment : ℕ) (b : List ℕ) → AreBytes b → (at : ℕ) (x : Public) (q : ℕ) → public_read wide local segment b at ≡ Ok (x, q) → AreBytes x.name
unfolding public_read
public_bytes wide local segment b bytes at x q e =
    let first = next_goes (name_read b at) _ x q e in
    let second = next_goes (number_read (long_size wide) b first.1) _ x q first.3 in
    let third = next_goes (index_read b second.1) _ x q second.3 in
    subst AreBytes (ap (λ (r : Reading Public). (value_of x r).name) third.3) (name_bytes b bytes at first.0 first.1 first.2)

external_bytes : (local : Bool) (b : List ℕ) → AreBytes b → (at : ℕ) (x : External) (q : ℕ) → external_read local b at ≡ Ok (x, q) → AreBytes x.name × ((c : Communal) → x.communal ≡ Some c → c.length < 4294967296)
unfolding external_read
external_bytes local b bytes at x q e =
    let first = next_goes (name_read b at) _ x q e in
    let second = next_goes (index_read b first.1) _ x q first.3 in
    let is = ap (value_of x) second.3 in (
      subst AreBytes (ap (λ (y : External). y.name) is) (name_bytes b bytes at first.0 first.1 first.2),
      λ c some. absurd (none-some c (ap (λ (y : External). y.communal) is ∙ some)),
    )

width_room : (form : ℕ) → room (communal_width form) ≤ 4294967296
width_room form = by (nat_eq form 0x81) (nat_eq form 0x84) (nat_eq form 0x88)
  where
    by : (a b c : Bool) → room (cond a 2 (cond b 3 (cond c 4 0))) ≤ 4294967296
    by a b c = grind arith

length_small : (b : List ℕ) → AreBytes b → (at : ℕ) (x : ℕ × ℕ) (q : ℕ) → communal_length b at ≡ Ok (x, q) → x.1 < 4294967296
unfolding communal_length
length_small b bytes at x q e =
    let first = next_goes (number_read 1 b at) _ x q e in
    by first.0 first.1 (number_room 1 b bytes at first.0 first.1 first.2) (nat_eq (communal_width first.0) 0) first.3
  where
    by : (form p : ℕ) → form < room 1 → (t : Bool) → cond {A = Reading (ℕ × ℕ)} t (Ok ((form, form), p)) (next (number_read (communal_width form) b p) (λ size at. Ok ((form, size), at))) ≡ Ok (x, q) → x.1 < 4294967296
    by form p low true f = let is : form ≡ x.1 = ap (λ (r : Reading (ℕ × ℕ)). (value_of x r).1) f in omega (arith, low, is)
    by form p low false f =
        let second = next_goes (number_read (communal_width form) b p) (λ size at. Ok ((form, size), at)) x q f in
        let is : second.0 ≡ x.1 = ap (λ (r : Reading (ℕ × ℕ)). (value_of x r).1) second.3 in
        let few = number_room (communal_width form) b bytes p second.0 second.1 second.2 in
        let most = width_room form in
        omega (arith, is, few, most)

communal_bytes : (b : List ℕ) → AreBytes b → (at : ℕ) (x : External) (q : ℕ) → communal_read b at ≡ Ok (x, q) → AreBytes x.name × ((c : Communal) → x.communal ≡ Some c → c.length < 4294967296)
unfolding communal_read
communal_bytes b bytes at x q e =
    let first = next_goes (name_read b at) _ x q e in
    let second = next_goes (index_read b first.1) _ x q first.3 in
    let third = next_goes (number_read 1 b second.1) _ x q second.3 in
    let fourth = next_goes (communal_length b third.1) _ x q third.3 in
    let is = ap (value_of x) fourth.3 in (
      subst AreBytes (ap (λ (y : External). y.name) is) (name_bytes b bytes at first.0 first.1 first.2),
      λ c some.
          let same = same_Some _ c (ap (λ (y : External). y.communal) is ∙ some) in
          let few = length_small b bytes third.1 fourth.0 fourth.1 fourth.2 in
          let long = ap (λ (c : Communal). c.length) same in
          omega (arith, few, long),
    )

-- ... mentions

-- a mention by bytes
pub record IsOfBytes (t : Declaration) : Type 0 where
  pub name : AreBytes t.name
  pub length : (n : ℕ) → length_said t.says ≡ Some n → n < 4294967296

mapped : {X : Type 0} (f : X → Declaration) (Q : X → Type 0) (xs : List X) → ((x : X) → Q x → IsOfBytes (f x)) → AllByRecursion Q xs → AllByRecursion IsOfBytes (map f xs)
mapped f Q [] one all = tt
mapped f Q (x ∷ xs) one all = (one x all.0, mapped f Q xs one all.1)

publics_bytes : (wide local : Bool) (b : List ℕ) → AreBytes b → AllByRecursion IsOfBytes (public_declarations wide local b)
publics_bytes wide local b bytes = by (base_read b 0)
  where
    by : (r : Reading PublicBase) → AllByRecursion IsOfBytes (map of_public (all_read (publics_behind wide local b r)))
    by (Ok r) =
        mapped of_public (λ (p : Public). AreBytes p.name) (all_read (each_read (public_read wide local r.0.segment) b r.1)) (λ p name. record { name = name; length = λ n e. absurd (none-some n e) })
        (all_has (λ (p : Public). AreBytes p.name) (public_read wide local r.0.segment) b (public_bytes wide local r.0.segment b bytes) r.1)
    by (Err c) = tt

external_of : (y : External) → AreBytes y.name × ((c : Communal) → y.communal ≡ Some c → c.length < 4294967296) → IsOfBytes (of_external y)
external_of y has = record { name = has.0; length = by y.communal has.1 }
  where
    by : (o : Option Communal) → ((c : Communal) → o ≡ Some c → c.length < 4294967296) → (n : ℕ) → length_said (of_external (record { local = y.local; name = y.name; communal = o })).says ≡ Some n → n < 4294967296
    by o few n e = grind arith

externals_bytes : (read : List ℕ → ℕ → Reading External) (b : List ℕ) → ((at : ℕ) (x : External) (q : ℕ) → read b at ≡ Ok (x, q) → AreBytes x.name × ((c : Communal) → x.communal ≡ Some c → c.length < 4294967296))
    → AllByRecursion IsOfBytes (map of_external (all_read (each_read read b 0)))
externals_bytes read b one =
    mapped of_external (λ (y : External). AreBytes y.name × ((c : Communal) → y.communal ≡ Some c → c.length < 4294967296)) (all_read (each_read read b 0)) external_of
    (all_has (λ (y : External). AreBytes y.name × ((c : Communal) → y.communal ≡ Some c → c.length < 4294967296)) read b one 0)

entry_bytes : (r : Record) → AreBytes r.contents → AllByRecursion IsOfBytes (declarations_by (said r))
entry_bytes r bytes = by (class_of r.kind) refl
  where
    nothing : (k : EntryClass) → class_of r.kind ≡ k → declarations_by (said r) ≡ [] → AllByRecursion IsOfBytes (declarations_by (said r))
    nothing k is none = subst (AllByRecursion IsOfBytes) (sym none) tt

    by : (k : EntryClass) → class_of r.kind ≡ k → AllByRecursion IsOfBytes (declarations_by (said r))
    by class.Publics is = subst (AllByRecursion IsOfBytes) (sym (publics_are r is)) (publics_bytes (is_wide r.kind) false r.contents bytes)
    by class.LocalPublics is = subst (AllByRecursion IsOfBytes) (sym (local_publics_are r is)) (publics_bytes (is_wide r.kind) true r.contents bytes)
    by class.Externals is = subst (AllByRecursion IsOfBytes) (sym (externals_are r is)) (externals_bytes (external_read false) r.contents (external_bytes false r.contents bytes))
    by class.LocalExternals is = subst (AllByRecursion IsOfBytes) (sym (local_externals_are r is)) (externals_bytes (external_read true) r.contents (external_bytes true r.contents bytes))
    by class.Communals is = subst (AllByRecursion IsOfBytes) (sym (communals_are r is)) (externals_bytes communal_read r.contents (communal_bytes r.contents bytes))
    by class.Names is = nothing class.Names is (ap declarations_by (said_by_class r class.Names is))
    by class.Segment is = nothing class.Segment is (ap declarations_by (said_by_class r class.Segment is))
    by class.Group is = nothing class.Group is (ap declarations_by (said_by_class r class.Group is))
    by class.Plain is = nothing class.Plain is (ap declarations_by (said_by_class r class.Plain is))
    by class.Iterated is = nothing class.Iterated is (ap declarations_by (said_by_class r class.Iterated is))
    by class.Fixups is = nothing class.Fixups is (ap declarations_by (said_by_class r class.Fixups is))
    by class.Nothing is = nothing class.Nothing is (ap declarations_by (said_by_class r class.Nothing is))

-- each mention of a module
pub declarations_bytes : (file : List ℕ) → AreBytes file → AllByRecursion IsOfBytes (declarations_in (entries_in file))
unfolding declarations_in
declarations_bytes file bytes = all_flat IsOfBytes declarations_by (entries_in file) (λ i e here.
    let m = said_here file i e here in
    subst (λ (x : Entry). AllByRecursion IsOfBytes (declarations_by x)) (sym m.is) (entry_bytes (entry_of file m.at) (range_bytes file (m.at + 3) (end_of_entry file m.at - 1) bytes)))
