-- How long the contents of entries are.
use Rattle.std.proofs.Common.{◌≡◌, ℕ, zero, suc, ◌+◌, ◌-◌, ◌*◌, ◌/◌, ◌%◌, ◌≤◌, Bool, true, false, nat_le, cond, List, [], ◌∷◌, length, take, drop, map, Some, refl, sym, ◌∙◌, ap, subst, arith, length-append}
use Rattle.std.specs.{Prelude.{flat_map, slice_get, slice_range}, List.{AllByRecursion}}
use Rattle.std.proofs.lemmas.{Option.{none-some, same_Some}, List.Sums.{sum_by-cons}}
use Rattle.oc_neutral.specs.declared.section.Section.{Section}
use Rattle.oc_omf.specs.{declared.structures.Method.{Method}, Bytes.{index_bytes, frame_bytes, name_bytes}}
use Rattle.oc_omf_file.specs.Names.{names_size}
use Rattle.oc_omf_write.specs.{declared.fixups.Fixup.{Fixup}, declared.names.Name.{Name}, Names.{text_by, AreShort}, Written.{fixup_bytes_of}}
use Rattle.oc_omf_file.proofs.SmallLaws.{length-index}

frame_long : (m : Method) → length (frame_bytes m) ≤ 2
frame_long m = by (nat_le m.number 2)
  where
    by : (b : Bool) → length (cond b (index_bytes m.index) []) ≤ 2
    by true = length-index m.index
    by false = omega arith

fixup_long : (from : ℕ) (f : Fixup) → length (fixup_bytes_of from f) ≤ 7
fixup_long from f = omega (arith, length-append (frame_bytes f.frame) (index_bytes f.target.index), frame_long f.frame, length-index f.target.index)

-- fixups take at most seven bytes each
pub fixups_long : (from i : ℕ) (xs : List Fixup) → length (flat_map (fixup_bytes_of from) (take i xs)) ≤ 7 * i
fixups_long from zero xs = omega arith
fixups_long from (suc i) [] = omega arith
fixups_long from (suc i) (x ∷ xs) = omega (arith, length-append (fixup_bytes_of from x) (flat_map (fixup_bytes_of from) (take i xs)), fixup_long from x, fixups_long from i xs)

-- names so far and the next take no more than all
pub names_long : (i : ℕ) (xs : List (List ℕ)) (x : List ℕ) → slice_get xs i ≡ Some x → length (flat_map name_bytes (take i xs)) + 1 + length x ≤ names_size xs
names_long i [] x here = absurd (none-some x here)
names_long zero (y ∷ xs) x here =
    let same = ap length (same_Some y x here) in
    omega (arith, same, sum_by-cons (λ (name : List ℕ). 1 + length name) y xs)
names_long (suc i) (y ∷ xs) x here =
    let rest = names_long i xs x here in
    omega (arith, rest, length-append (name_bytes y) (flat_map name_bytes (take i xs)), sum_by-cons (λ (name : List ℕ). 1 + length name) y xs)

pub map_take : {X Y : Type 0} (f : X → Y) (n : ℕ) (xs : List X) → map f (take n xs) ≡ take n (map f xs)
map_take f zero xs = refl
map_take f (suc n) [] = refl
map_take f (suc n) (x ∷ xs) = ap (λ ys. f x ∷ ys) (map_take f n xs)

-- a range of items that are mapped
pub map_range : {X Y : Type 0} (f : X → Y) (xs : List X) (from to : ℕ) → map f (slice_range xs from to) ≡ slice_range (map f xs) from to
map_range f xs from to = map_take f (to - from) (drop from xs) ∙ ap (take (to - from)) (map_drop f from xs)
  where
    map_drop : {X Y : Type 0} (f : X → Y) (n : ℕ) (xs : List X) → map f (drop n xs) ≡ drop n (map f xs)
    map_drop f zero xs = refl
    map_drop f (suc n) [] = refl
    map_drop f (suc n) (x ∷ xs) = map_drop f n xs

-- what holds of all holds of a range
pub all_in_range : {X : Type 0} (P : X → Type 0) (xs : List X) (from to : ℕ) → AllByRecursion P xs → AllByRecursion P (slice_range xs from to)
all_in_range P xs from to all = all_take P (to - from) (drop from xs) (all_drop P from xs all)
  where
    all_take : {X : Type 0} (P : X → Type 0) (n : ℕ) (xs : List X) → AllByRecursion P xs → AllByRecursion P (take n xs)
    all_take P zero xs all = tt
    all_take P (suc n) [] all = tt
    all_take P (suc n) (x ∷ xs) all = (all.0, all_take P n xs all.1)

    all_drop : {X : Type 0} (P : X → Type 0) (n : ℕ) (xs : List X) → AllByRecursion P xs → AllByRecursion P (drop n xs)
    all_drop P zero xs all = all
    all_drop P (suc n) [] all = tt
    all_drop P (suc n) (x ∷ xs) all = all_drop P n xs all.1

-- ... the names of a range

-- the texts of a range of the names
pub texts_same : (ss sections : List Section) (ns names range : List Name) (from to : ℕ) → ss ≡ sections → ns ≡ names → range ≡ slice_range ns from to
    → map (text_by ss) range ≡ slice_range (map (text_by sections) names) from to
texts_same ss sections ns names range from to a b e = rw (e, b, a) (map_range (text_by sections) names from to)

module _ (ss sections : List Section) (ns names range : List Name) (from to : ℕ) (a : ss ≡ sections) (b : ns ≡ names) (e : range ≡ slice_range ns from to) where
  -- and short
  pub range_short : AreShort (map (text_by sections) names) → AreShort (map (text_by ss) range)
  range_short all = subst AreShort (sym (texts_same ss sections ns names range from to a b e)) (all_in_range (λ text. length text ≤ 255) (map (text_by sections) names) from to all)
