-- The names of the canonical file: an index means its name, names are few, and they fill entries.
use Rattle.std.proofs.Common.{◌≡◌, ℕ, zero, suc, ◌+◌, ◌-◌, ◌≤◌, Bool, true, false, ◌||◌, nat_eq, nat_lt, cond, if◌then◌else◌, List, [], ◌∷◌, ◌++◌, length, map, Some, refl, sym, ◌∙◌, ap, subst, arith, bytes_eq, true≢false, append_assoc, append-nil, length-append}
use Rattle.std.specs.{Prelude.{slice_get, fold, flat_map, codes}, List.{list_any, position_or_len}, Option.{unwrap_or}}
use Rattle.std.proofs.lemmas.{Bool.Decides.{nat_tests}, List.Sums.{sum_by-cons, sum_by-append}, Option.{none-some, same_Some, slice_get_within}}
use Rattle.std.proofs.lemmas.Slice.Eq.{bytes_eq-Decides}
use Rattle.oc_linking.specs.{declared.terms.Kind.{Kind}, declared.terms.Kind.TheVariants.{Code, ReadOnly, Data, Zero, Init, Fini, Debug, Exception, Note}}
use Rattle.oc_neutral.specs.{declared.section.Section.{Section}, Objects.{Object}, Omf.Kinds.{omf_class}}
use Rattle.oc_shelf.proofs.WritingLaws.MemberLemmas.{member_flat_map, each_append, each_flat_map}
use Rattle.oc_omf.specs.{Tables.{Tables, indexed, name_at}, declared.constants.TheConstants.{MOST_ENTRY_BYTES}, Bytes.{name_bytes}}
use Rattle.oc_omf_file.specs.Names.{class_of, with_name, names_of, name_index, names_size, filled_from}
use Rattle.oc_omf_file.specs.Outputs as output
use Rattle.oc_omf_file.proofs.GivenLaws.{names_by}

-- a name is itself
pub same_name : (name : List ℕ) → bytes_eq name name ≡ true
same_name name = (bytes_eq-Decides name name).1 refl

-- what is among some names stands where it is found first
pub name_found : (name : List ℕ) (xs : List (List ℕ)) → list_any (bytes_eq name) xs ≡ true → slice_get xs (position_or_len (bytes_eq name) xs) ≡ Some name
name_found name [] among = absurd (true≢false (sym among))
name_found name (x ∷ xs) among = by_test (name_found name xs) (bytes_eq name x) refl among
  where
    by_test : (list_any (bytes_eq name) xs ≡ true → slice_get xs (position_or_len (bytes_eq name) xs) ≡ Some name)
        → (test : Bool) → bytes_eq name x ≡ test → (test || list_any (bytes_eq name) xs) ≡ true → slice_get (x ∷ xs) (position_or_len (bytes_eq name) (x ∷ xs)) ≡ Some name
    by_test later true e among = rw e (ap Some (sym ((bytes_eq-Decides name x).0 e)))
    by_test later false e among =
        let more : 1 + position_or_len (bytes_eq name) xs ≡ suc (position_or_len (bytes_eq name) xs) = omega arith in
        rw (e, more) (later among)

-- names stay
any_append : (test : List ℕ → Bool) (xs : List (List ℕ)) (y : List ℕ) → list_any test xs ≡ true → list_any test (xs ++ y ∷ []) ≡ true
any_append test [] y among = absurd (true≢false (sym among))
any_append test (x ∷ xs) y among = by_test (any_append test xs y) (test x) among
  where
    by_test : (list_any test xs ≡ true → list_any test (xs ++ y ∷ []) ≡ true) → (t : Bool) → (t || list_any test xs) ≡ true → (t || list_any test (xs ++ y ∷ [])) ≡ true
    by_test later t among = grind arith

any_last : (test : List ℕ → Bool) (xs : List (List ℕ)) (y : List ℕ) → test y ≡ true → list_any test (xs ++ y ∷ []) ≡ true
any_last test [] y passes = rw passes refl
any_last test (x ∷ xs) y passes = by_test (test x) (any_last test xs y passes)
  where
    by_test : (t : Bool) → list_any test (xs ++ y ∷ []) ≡ true → (t || list_any test (xs ++ y ∷ [])) ≡ true
    by_test t later = grind arith

with_name-keeps : (test : List ℕ → Bool) (xs : List (List ℕ)) (y : List ℕ) → list_any test xs ≡ true → list_any test (with_name xs y) ≡ true
with_name-keeps test xs y among = by_test (list_any (bytes_eq y) xs)
  where
    by_test : (t : Bool) → list_any test (if t then xs else xs ++ y ∷ []) ≡ true
    by_test true = among
    by_test false = any_append test xs y among

with_name-has : (xs : List (List ℕ)) (y : List ℕ) → list_any (bytes_eq y) (with_name xs y) ≡ true
with_name-has xs y = by_test (list_any (bytes_eq y) xs) refl
  where
    by_test : (t : Bool) → list_any (bytes_eq y) xs ≡ t → list_any (bytes_eq y) (if t then xs else xs ++ y ∷ []) ≡ true
    by_test true e = e
    by_test false e = any_last (bytes_eq y) xs y (same_name y)

fold-keeps : (test : List ℕ → Bool) (xs ys : List (List ℕ)) → list_any test xs ≡ true → list_any test (fold with_name xs ys) ≡ true
fold-keeps test xs [] among = among
fold-keeps test xs (y ∷ ys) among = fold-keeps test (with_name xs y) ys (with_name-keeps test xs y among)

pub fold-has : (xs ys : List (List ℕ)) (k : ℕ) (y : List ℕ) → slice_get ys k ≡ Some y → list_any (bytes_eq y) (fold with_name xs ys) ≡ true
fold-has xs [] k y here = absurd (none-some y here)
fold-has xs (z ∷ ys) zero y here =
    subst (λ w. list_any (bytes_eq w) (fold with_name (with_name xs z) ys) ≡ true) (same_Some z y here) (fold-keeps (bytes_eq z) (with_name xs z) ys (with_name-has xs z))
fold-has xs (z ∷ ys) (suc k) y here = fold-has (with_name xs z) ys k y here

-- ... the index of a name

-- a name of a table has its index there
pub name_made : (n : Object) (t : Tables) (name : List ℕ) → t.names ≡ names_of n → list_any (bytes_eq name) (names_of n) ≡ true → name_at t (name_index n name) ≡ name
name_made n t name names among =
    let place = position_or_len (bytes_eq name) (names_of n) in
    let some : nat_eq (place + 1) 0 ≡ false = grind (arith, nat_tests) in
    let back : place + 1 - 1 ≡ place = omega arith in
    ap (λ xs. unwrap_or (indexed xs (place + 1)) []) names ∙ rw (some, back, name_found name (names_of n) among) refl

-- and is there
pub name_within : (n : Object) (name : List ℕ) → list_any (bytes_eq name) (names_of n) ≡ true → name_index n name ≤ length (names_of n)
name_within n name among = let low = slice_get_within (names_of n) (position_or_len (bytes_eq name) (names_of n)) name (name_found name (names_of n) among) in omega (arith, low)

-- the names that are given
abbrev given_names : Object → List (List ℕ)
given_names n = [] ∷ codes "FLAT" ∷ flat_map (λ (s : Section). s.name ∷ class_of s ∷ []) n.sections

given_member : (n : Object) (k : ℕ) (name : List ℕ) → slice_get (given_names n) k ≡ Some name → list_any (bytes_eq name) (names_of n) ≡ true
unfolding names_of
given_member n k name here = fold-has [] (given_names n) k name here

pub section_named : (n : Object) (k : ℕ) (s : Section) → slice_get n.sections k ≡ Some s → list_any (bytes_eq s.name) (names_of n) ≡ true
section_named n k s here =
    let m = member_flat_map (λ (x : Section). x.name ∷ class_of x ∷ []) n.sections k 0 s s.name here refl in
    given_member n (suc (suc m.0)) s.name m.1

pub section_classed : (n : Object) (k : ℕ) (s : Section) → slice_get n.sections k ≡ Some s → list_any (bytes_eq (class_of s)) (names_of n) ≡ true
section_classed n k s here =
    let m = member_flat_map (λ (x : Section). x.name ∷ class_of x ∷ []) n.sections k 1 s (class_of s) here refl in
    given_member n (suc (suc m.0)) (class_of s) m.1

-- the first two are the empty one and FLAT
fold-front : (xs ys : List (List ℕ)) → (zs : List (List ℕ)) × (fold with_name xs ys ≡ xs ++ zs)
fold-front xs [] = ([], sym (append-nil xs))
fold-front xs (y ∷ ys) = by_test (fold-front xs ys) (fold-front (xs ++ y ∷ []) ys) (list_any (bytes_eq y) xs)
  where
    by_test : (zs : List (List ℕ)) × (fold with_name xs ys ≡ xs ++ zs) → (zs : List (List ℕ)) × (fold with_name (xs ++ y ∷ []) ys ≡ (xs ++ y ∷ []) ++ zs)
        → (t : Bool) → (zs : List (List ℕ)) × (fold with_name (if t then xs else xs ++ y ∷ []) ys ≡ xs ++ zs)
    by_test old new true = old
    by_test old new false = (y ∷ new.0, new.1 ∙ append_assoc xs (y ∷ []) new.0)

pub names_begin : (n : Object) → (zs : List (List ℕ)) × (names_of n ≡ [] ∷ codes "FLAT" ∷ zs)
unfolding names_of
names_begin n = fold-front ([] ∷ codes "FLAT" ∷ []) (flat_map (λ (s : Section). s.name ∷ class_of s ∷ []) n.sections)

-- ... names are few: each section has a name of its own at most, and there are four classes

-- a class that is not yet among the names
abbrev missing : List ℕ → List (List ℕ) → ℕ
missing class xs = cond (list_any (bytes_eq class) xs) 0 1

-- all of them
abbrev absent : List (List ℕ) → ℕ
absent xs = missing (codes "CODE") xs + missing (codes "CONST") xs + missing (codes "DATA") xs + missing (codes "BSS") xs

missing_less : (class : List ℕ) (xs : List (List ℕ)) (y : List ℕ) → missing class (xs ++ y ∷ []) ≤ missing class xs
missing_less class xs y = by_test (list_any (bytes_eq class) xs) refl
  where
    small : (t : Bool) → cond t 0 1 ≤ 1
    small t = grind arith

    by_test : (t : Bool) → list_any (bytes_eq class) xs ≡ t → missing class (xs ++ y ∷ []) ≤ cond t 0 1
    by_test true e = let still : missing class (xs ++ y ∷ []) ≡ 0 = ap (λ b. cond b 0 1) (any_append (bytes_eq class) xs y e) in omega (arith, still)
    by_test false e = small (list_any (bytes_eq class) (xs ++ y ∷ []))

-- a class that comes in is missing no more
missing_found : (class : List ℕ) (xs : List (List ℕ)) → list_any (bytes_eq class) xs ≡ false → missing class (xs ++ class ∷ []) + 1 ≤ missing class xs
missing_found class xs e =
    let now : missing class (xs ++ class ∷ []) ≡ 0 = ap (λ b. cond b 0 1) (any_last (bytes_eq class) xs class (same_name class)) in
    let old : missing class xs ≡ 1 = ap (λ b. cond b 0 1) e in
    omega (arith, now, old)

-- one name more
with_any : (xs : List (List ℕ)) (y : List ℕ) → length (with_name xs y) + absent (with_name xs y) ≤ length xs + absent xs + 1
with_any xs y = by_test (list_any (bytes_eq y) xs)
  where
    by_test : (t : Bool) → length (if t then xs else xs ++ y ∷ []) + absent (if t then xs else xs ++ y ∷ []) ≤ length xs + absent xs + 1
    by_test true = omega arith
    by_test false =
        omega (arith, length-append xs (y ∷ []), missing_less (codes "CODE") xs y, missing_less (codes "CONST") xs y, missing_less (codes "DATA") xs y, missing_less (codes "BSS") xs y)

-- one class more
with_class : (xs : List (List ℕ)) (kind : Kind) (class : List ℕ) → omf_class kind ≡ Some class → length (with_name xs class) + absent (with_name xs class) ≤ length xs + absent xs
with_class xs kind class e = by_test (list_any (bytes_eq class) xs) refl
  where
    less : (kind : Kind) → omf_class kind ≡ Some class → list_any (bytes_eq class) xs ≡ false → absent (xs ++ class ∷ []) + 1 ≤ absent xs
    less Code e f =
        let own = same_Some (codes "CODE") class e in
        let a = subst (λ c. missing (codes "CODE") (xs ++ c ∷ []) + 1 ≤ missing (codes "CODE") xs) own (missing_found (codes "CODE") xs (ap (λ c. list_any (bytes_eq c) xs) own ∙ f)) in
        omega (arith, a, missing_less (codes "CONST") xs class, missing_less (codes "DATA") xs class, missing_less (codes "BSS") xs class)
    less ReadOnly e f =
        let own = same_Some (codes "CONST") class e in
        let a = subst (λ c. missing (codes "CONST") (xs ++ c ∷ []) + 1 ≤ missing (codes "CONST") xs) own (missing_found (codes "CONST") xs (ap (λ c. list_any (bytes_eq c) xs) own ∙ f)) in
        omega (arith, a, missing_less (codes "CODE") xs class, missing_less (codes "DATA") xs class, missing_less (codes "BSS") xs class)
    less Data e f =
        let own = same_Some (codes "DATA") class e in
        let a = subst (λ c. missing (codes "DATA") (xs ++ c ∷ []) + 1 ≤ missing (codes "DATA") xs) own (missing_found (codes "DATA") xs (ap (λ c. list_any (bytes_eq c) xs) own ∙ f)) in
        omega (arith, a, missing_less (codes "CODE") xs class, missing_less (codes "CONST") xs class, missing_less (codes "BSS") xs class)
    less Zero e f =
        let own = same_Some (codes "BSS") class e in
        let a = subst (λ c. missing (codes "BSS") (xs ++ c ∷ []) + 1 ≤ missing (codes "BSS") xs) own (missing_found (codes "BSS") xs (ap (λ c. list_any (bytes_eq c) xs) own ∙ f)) in
        omega (arith, a, missing_less (codes "CODE") xs class, missing_less (codes "CONST") xs class, missing_less (codes "DATA") xs class)
    less Init e f = absurd (none-some class e)
    less Fini e f = absurd (none-some class e)
    less Debug e f = absurd (none-some class e)
    less Exception e f = absurd (none-some class e)
    less Note e f = absurd (none-some class e)

    by_test : (t : Bool) → list_any (bytes_eq class) xs ≡ t → length (if t then xs else xs ++ class ∷ []) + absent (if t then xs else xs ++ class ∷ []) ≤ length xs + absent xs
    by_test true f = omega arith
    by_test false f = omega (arith, length-append xs (class ∷ []), less kind e f)

-- a section has a class
abbrev pub IsClassed : Section → Type 0
IsClassed s = (class : List ℕ) × (omf_class s.kind ≡ Some class)

names_few : (xs : List (List ℕ)) (ss : List Section) → ((k : ℕ) (s : Section) → slice_get ss k ≡ Some s → IsClassed s)
    → length (fold with_name xs (flat_map (λ (s : Section). s.name ∷ class_of s ∷ []) ss)) ≤ length xs + absent xs + length ss
names_few xs [] classed = omega arith
names_few xs (s ∷ ss) classed =
    let c = classed 0 s refl in
    let ys : List (List ℕ) = with_name xs s.name in
    let own : class_of s ≡ c.0 = ap (λ o. unwrap_or o []) c.1 in
    let a = with_any xs s.name in
    let b = subst (λ d. length (with_name ys d) + absent (with_name ys d) ≤ length ys + absent ys) (sym own) (with_class ys s.kind c.0 c.1) in
    let rest = names_few (with_name ys (class_of s)) ss (λ k t h. classed (suc k) t h) in
    omega (arith, a, b, rest)

pub names_bounded : (n : Object) → ((k : ℕ) (s : Section) → slice_get n.sections k ≡ Some s → IsClassed s) → length (names_of n) ≤ 6 + length n.sections
unfolding names_of
names_bounded n classed = let few = names_few ([] ∷ codes "FLAT" ∷ []) n.sections classed in omega (arith, few)

-- ... names are short

-- what holds of the given names holds of those that are kept
fold-each : (P : List ℕ → Type 0) (xs ys : List (List ℕ)) → ((k : ℕ) (x : List ℕ) → slice_get xs k ≡ Some x → P x) → ((k : ℕ) (y : List ℕ) → slice_get ys k ≡ Some y → P y)
    → (k : ℕ) (x : List ℕ) → slice_get (fold with_name xs ys) k ≡ Some x → P x
fold-each P xs [] held new = held
fold-each P xs (y ∷ ys) held new =
    by_test (fold-each P xs ys held (λ k z h. new (suc k) z h)) (fold-each P (xs ++ y ∷ []) ys (each_append P xs (y ∷ []) held last) (λ k z h. new (suc k) z h)) (list_any (bytes_eq y) xs)
  where
    last : (k : ℕ) (x : List ℕ) → slice_get (y ∷ []) k ≡ Some x → P x
    last zero x h = subst P (same_Some y x h) (new 0 y refl)
    last (suc k) x h = absurd (none-some x h)

    by_test : ((k : ℕ) (x : List ℕ) → slice_get (fold with_name xs ys) k ≡ Some x → P x) → ((k : ℕ) (x : List ℕ) → slice_get (fold with_name (xs ++ y ∷ []) ys) k ≡ Some x → P x)
        → (t : Bool) → (k : ℕ) (x : List ℕ) → slice_get (fold with_name (if t then xs else xs ++ y ∷ []) ys) k ≡ Some x → P x
    by_test old more true = old
    by_test old more false = more

abbrev pub IsShort : List ℕ → Type 0
IsShort name = length name ≤ 255

class_short : (kind : Kind) (class : List ℕ) → omf_class kind ≡ Some class → length class ≤ 5
class_short kind class e = grind arith

pub names_short : (n : Object) → ((k : ℕ) (s : Section) → slice_get n.sections k ≡ Some s → IsClassed s × IsShort s.name)
    → (k : ℕ) (name : List ℕ) → slice_get (names_of n) k ≡ Some name → IsShort name
unfolding names_of
names_short n classed = fold-each IsShort [] (given_names n) (λ k x h. absurd (none-some x h)) front
  where
    of_section : (s : Section) → IsClassed s × IsShort s.name → (k : ℕ) (name : List ℕ) → slice_get (s.name ∷ class_of s ∷ []) k ≡ Some name → IsShort name
    of_section s c zero name h = subst IsShort (same_Some s.name name h) c.1
    of_section s c (suc zero) name h =
        let own : class_of s ≡ c.0.0 = ap (λ o. unwrap_or o []) c.0.1 in
        let low = class_short s.kind c.0.0 c.0.1 in
        let e : c.0.0 ≡ name = sym own ∙ same_Some (class_of s) name h in
        subst IsShort e (omega (arith, low))
    of_section s c (suc (suc k)) name h = absurd (none-some name h)

    front : (k : ℕ) (name : List ℕ) → slice_get (given_names n) k ≡ Some name → IsShort name
    front zero name h = subst IsShort (same_Some [] name h) (omega arith)
    front (suc zero) name h = subst IsShort (same_Some (codes "FLAT") name h) (omega arith)
    front (suc (suc k)) name h = each_flat_map IsShort (λ (s : Section). s.name ∷ class_of s ∷ []) n.sections (λ j s g. of_section s (classed j s g)) k name h

-- ... entries of names

-- filling entries leaves the names as they are
pub filled_names : (held names : List (List ℕ)) → flat_map names_by (map output.Names (filled_from held names)) ≡ held ++ names
filled_names held [] = refl
filled_names held (name ∷ names) = by_test (filled_names (name ∷ []) names) (filled_names (held ++ name ∷ []) names) (nat_lt MOST_ENTRY_BYTES (names_size held + 1 + length name))
  where
    by_test : flat_map names_by (map output.Names (filled_from (name ∷ []) names)) ≡ name ∷ names
        → flat_map names_by (map output.Names (filled_from (held ++ name ∷ []) names)) ≡ (held ++ name ∷ []) ++ names
        → (test : Bool) → flat_map names_by (map output.Names (if test then held ∷ filled_from (name ∷ []) names else filled_from (held ++ name ∷ []) names)) ≡ held ++ name ∷ names
    by_test new more true = ap (λ xs. held ++ xs) new
    by_test new more false = more ∙ append_assoc held (name ∷ []) names

names_size-append : (xs ys : List (List ℕ)) → names_size (xs ++ ys) ≡ names_size xs + names_size ys
names_size-append xs ys = sum_by-append (λ (name : List ℕ). 1 + length name) xs ys

-- no entry is too long
pub filled_small : (held names : List (List ℕ)) → names_size held ≤ 1024 → ((k : ℕ) (name : List ℕ) → slice_get names k ≡ Some name → IsShort name)
    → (k : ℕ) (xs : List (List ℕ)) → slice_get (filled_from held names) k ≡ Some xs → names_size xs ≤ 1024
filled_small held [] low short zero xs h = subst (λ (ys : List (List ℕ)). names_size ys ≤ 1024) (same_Some held xs h) low
filled_small held [] low short (suc k) xs h = absurd (none-some xs h)
filled_small held (name ∷ names) low short k xs h =
    by_test (λ fits j g. filled_small (name ∷ []) names fits (λ i x f. short (suc i) x f) j xs g) (λ fits. filled_small (held ++ name ∷ []) names fits (λ i x f. short (suc i) x f) k xs)
    (nat_lt MOST_ENTRY_BYTES (names_size held + 1 + length name)) refl k refl h
  where
    own : length name ≤ 255
    own = short 0 name refl

    size : names_size (name ∷ []) ≡ 1 + length name
    size = omega arith

    by_test : (names_size (name ∷ []) ≤ 1024 → (j : ℕ) → slice_get (filled_from (name ∷ []) names) j ≡ Some xs → names_size xs ≤ 1024)
        → (names_size (held ++ name ∷ []) ≤ 1024 → slice_get (filled_from (held ++ name ∷ []) names) k ≡ Some xs → names_size xs ≤ 1024)
        → (test : Bool) → nat_lt 1024 (names_size held + 1 + length name) ≡ test → (j : ℕ) → j ≡ k
        → slice_get (if test then held ∷ filled_from (name ∷ []) names else filled_from (held ++ name ∷ []) names) j ≡ Some xs → names_size xs ≤ 1024
    by_test new more true e zero same h = subst (λ (ys : List (List ℕ)). names_size ys ≤ 1024) (same_Some held xs h) low
    by_test new more true e (suc j) same h = new (omega (arith, own, size)) j h
    by_test new more false e j same h =
        let fits : names_size held + 1 + length name ≤ 1024 = grind (arith, nat_tests) in
        more (omega (arith, fits, size, names_size-append held (name ∷ []))) (ap (slice_get (filled_from (held ++ name ∷ []) names)) (sym same) ∙ h)

-- the bytes of names
pub length-names : (names : List (List ℕ)) → length (flat_map name_bytes names) ≡ names_size names
length-names [] = refl
length-names (x ∷ xs) = omega (arith, length-append (name_bytes x) (flat_map name_bytes xs), length-names xs, sum_by-cons (λ (name : List ℕ). 1 + length name) x xs)
