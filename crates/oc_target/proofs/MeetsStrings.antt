-- The names that have no room in a COFF output's entries are given to its string table.
use Rattle.std.proofs.Common.{◌≡◌, ℕ, zero, suc, ◌+◌, ◌<◌, Bool, true, false, cond, not, ◌&&◌, List, [], ◌∷◌, ◌++◌, length, map, Option, Some, None, refl, sym, ◌∙◌, ap, subst, arith, length-append}
use Rattle.std.specs.{Prelude.{slice_get, nat_eq, codes, filter, flat_map}, List.{enumerate_from, range_with_len}, Cmp.Lexicographic.{pointwise}}
use Rattle.std.specs.Option.{option_map, option_and_then}
use Rattle.std.proofs.lemmas.{Bool.{and_parts, lt-ltb}, Map.Keys.{any_passes_from_place}, Option.{none-some, same_Some, slice_get-map, slice_get_within}}
use Rattle.oc_base.specs.{Strings.{is_given}, declared.format.Format.{Format}}
use Rattle.oc_linking.specs.{declared.terms.Fallback.{Fallback}, declared.terms.Binding.TheVariants.{Weak}, Parts.{is_local}}
use Rattle.oc_neutral.specs.{declared.section.Section.{Section}, declared.symbol.Symbol.{Symbol}}
use Rattle.oc_neutral.specs.Coff.Strings.{is_long, is_tabled, has_default, default_name, defaults_of, names_where, key_strings, symbol_names, coff_strings}
use Rattle.oc_neutral.specs.{Families.{family_of}, HomeNames.{output_names}, KeySymbols.{global_place, group_at, is_key_name, is_key_at, is_key}}
use Rattle.oc_neutral.specs.{Normal.{Place}, Objects.{Object}, WrittenSymbols.{is_written}}
use Rattle.oc_target.specs.CoffMeets.{strings_of}
use Rattle.oc_target.proofs.{MeetsConditions.{own_names}, MeetsParts.{some_passes}}
use Rattle.oc_strings.proofs.GivenLemmas.{name_itself}

-- ... members of lists

-- it stands in the list
abbrev pub Stands : {X : Type 0} → List X → X → Type 0
Stands xs x = (k : ℕ) × (slice_get xs k ≡ Some x)

stands_first : {X : Type 0} (xs ys : List X) (k : ℕ) (x : X) → slice_get xs k ≡ Some x → Stands (xs ++ ys) x
stands_first [] ys k x h = absurd (none-some x h)
stands_first (y ∷ xs) ys zero x h = (0, h)
stands_first (y ∷ xs) ys (suc k) x h = let r = stands_first xs ys k x h in (suc r.0, r.1)

stands_second : {X : Type 0} (xs ys : List X) (x : X) → Stands ys x → Stands (xs ++ ys) x
stands_second [] ys x h = h
stands_second (y ∷ xs) ys x h = let r = stands_second xs ys x h in (suc r.0, r.1)

pub stands_filter : {X : Type 0} (test : X → Bool) (xs : List X) (k : ℕ) (x : X) → slice_get xs k ≡ Some x → test x ≡ true → Stands (filter test xs) x
stands_filter test [] k x h passes = absurd (none-some x h)
stands_filter test (y ∷ xs) zero x h passes = let own : test y ≡ true = ap test (same_Some y x h) ∙ passes in rw own (0, h)
stands_filter {X} test (y ∷ xs) (suc k) x h passes = by (test y) (stands_filter test xs k x h passes)
  where
    by : (b : Bool) → Stands (filter test xs) x → Stands (cond b (y ∷ filter test xs) (filter test xs)) x
    by true r = (suc r.0, r.1)
    by false r = r

stands_map : {X Y : Type 0} (f : X → Y) (xs : List X) (x : X) → Stands xs x → Stands (map f xs) (f x)
stands_map f xs x h = (h.0, slice_get-map f xs h.0 ∙ ap (option_map f) h.1)

stands_flat : {X Y : Type 0} (f : X → List Y) (xs : List X) (k : ℕ) (x : X) (y : Y) → slice_get xs k ≡ Some x → Stands (f x) y → Stands (flat_map f xs) y
stands_flat f [] k x y h s = absurd (none-some x h)
stands_flat f (z ∷ xs) zero x y h s =
    let own : Stands (f z) y = subst (λ u. Stands (f u) y) (sym (same_Some z x h)) s in
    stands_first (f z) (flat_map f xs) own.0 y own.1
stands_flat f (z ∷ xs) (suc k) x y h s = stands_second (f z) (flat_map f xs) y (stands_flat f xs k x y h s)

pub stands_enumerated : {X : Type 0} (i : ℕ) (xs : List X) (k : ℕ) (x : X) → slice_get xs k ≡ Some x → slice_get (enumerate_from i xs) k ≡ Some (i + k, x)
stands_enumerated i [] k x h = absurd (none-some x h)
stands_enumerated i (y ∷ xs) zero x h = let e : i ≡ i + 0 = omega arith in ap (λ u. Some (i, u)) (same_Some y x h) ∙ ap (λ m. Some (m, x)) e
stands_enumerated i (y ∷ xs) (suc k) x h = let e : i + 1 + k ≡ i + suc k = omega arith in stands_enumerated (i + 1) xs k x h ∙ ap (λ m. Some (m, x)) e

-- positions stand at their places
stands_range : (i count k : ℕ) → k < count → slice_get (range_with_len i count) k ≡ Some (i + k)
stands_range i zero k low = absurd (omega (arith, low))
stands_range i (suc count) zero low = let e : i ≡ i + 0 = omega arith in ap Some e
stands_range i (suc count) (suc k) low =
    let rest = stands_range (i + 1) count k (omega (arith, low)) in
    let e : i + 1 + k ≡ i + suc k = omega arith in
    rest ∙ ap Some e

given : (names : List (List ℕ)) (name : List ℕ) → Stands names name → is_given names name ≡ true
given names name h = any_passes_from_place (pointwise nat_eq name) names h.0 name h.1 (name_itself name)

-- ... the names of an output

-- the name for a fallback is long
long_default : (name : List ℕ) → is_long (default_name name) ≡ true
long_default name =
    let all : length (codes ".weak." ++ (name ++ codes ".default")) ≡ length (codes ".weak.") + length (name ++ codes ".default") = length-append (codes ".weak.") (name ++ codes ".default") in
    let rest : length (name ++ codes ".default") ≡ length name + length (codes ".default") = length-append name (codes ".default") in
    lt-ltb 8 (length (default_name name)) (omega (arith, all, rest))

module _ (format : Format) (n : Object) (own : n.format ≡ format) where
  -- what is given for the key symbols
  abbrev key_names : List (List ℕ)
  key_names = flat_map (key_strings n) (range_with_len 0 (length n.sections))

  -- and for the other symbols
  abbrev long_names : List (List ℕ)
  long_names = filter is_long (symbol_names (family_of format).writes_local n)

  -- a name of a section that has no room
  pub section_given : (k : ℕ) (s : Section) → slice_get n.sections k ≡ Some s → is_tabled s.name ≡ true → is_given (strings_of format n) s.name ≡ true
  unfolding coff_strings
  section_given k s here tabled =
      let named : slice_get (output_names format n) k ≡ Some s.name
      = ap (λ names. slice_get names k) (own_names format n own) ∙ slice_get-map (λ (x : Section). x.name) n.sections k ∙ ap (option_map (λ (x : Section). x.name)) here in
      let first = stands_filter is_tabled (output_names format n) k s.name named tabled in
      given (strings_of format n) s.name (stands_first (filter is_tabled (output_names format n)) (key_names ++ long_names) first.0 s.name first.1)

  -- a name that is given for the section at a position
  key_piece : (k : ℕ) (s : Section) (name : List ℕ) → slice_get n.sections k ≡ Some s → Stands (key_strings n k) name → is_given (strings_of format n) name ≡ true
  unfolding coff_strings
  key_piece k s name here stands =
      let below = slice_get_within n.sections k s here in
      let e : 0 + k ≡ k = omega arith in
      let row : slice_get (range_with_len 0 (length n.sections)) k ≡ Some k = stands_range 0 (length n.sections) k below ∙ ap Some e in
      let piece = stands_flat (key_strings n) (range_with_len 0 (length n.sections)) k k name row stands in
      given (strings_of format n) name
      (stands_second (filter is_tabled (output_names format n)) (key_names ++ long_names) name (stands_first key_names long_names piece.0 name piece.1))

  -- a name among those of the other symbols
  other_given : (name : List ℕ) → Stands (symbol_names (family_of format).writes_local n) name → is_long name ≡ true → is_given (strings_of format n) name ≡ true
  unfolding coff_strings
  other_given name stands long =
      let kept = stands_filter is_long (symbol_names (family_of format).writes_local n) stands.0 name stands.1 long in
      given (strings_of format n) name
      (stands_second (filter is_tabled (output_names format n)) (key_names ++ long_names) name (stands_second key_names long_names name kept))

  -- the name of a symbol that passes
  named_where : (test : Symbol → Bool) (k : ℕ) (s : Symbol) → slice_get n.symbols k ≡ Some s → test s ≡ true → Stands (names_where test n) s.name
  named_where test k s here passes = stands_map (λ (x : Symbol). x.name) (filter test n.symbols) s (stands_filter test n.symbols k s here passes)

  abbrev locals : List (List ℕ)
  locals = names_where (λ (s : Symbol). is_local s.binding && is_written format s) n

  abbrev fallbacks : List (List ℕ)
  fallbacks = flat_map (λ (s : Symbol). defaults_of s.name s.binding) n.symbols

  abbrev others : List (List ℕ)
  others = names_where (λ (s : Symbol). not (is_local s.binding) && not (is_key n s)) n

  -- the key symbol's name is given for the section in which it lies
  key_given : (k : ℕ) (s : Symbol) → slice_get n.symbols k ≡ Some s → is_key n s ≡ true → is_long s.name ≡ true → is_given (strings_of format n) s.name ≡ true
  key_given k s here key long =
      let place = some_passes (λ (p : Place). is_key_at n p.0 s) (global_place s.binding) key in
      let group = some_passes (is_key_name n s.name) (group_at n place.0.0) (and_parts _ _ place.2).1 in
      by place.0.0 (slice_get n.sections place.0.0) refl group.0 group.1 place.2
    where
      by : (i : ℕ) (o : Option Section) → slice_get n.sections i ≡ o → (g : ℕ) → option_and_then (λ (x : Section). x.group) o ≡ Some g → is_key_at n i s ≡ true
          → is_given (strings_of format n) s.name ≡ true
      by i None there g grouped at = absurd (none-some g grouped)
      by i (Some x) there g grouped at =
          let name = named_where (is_key_at n i) k s here at in
          key_piece i x s.name there (stands_filter is_long (names_where (is_key_at n i) n) name.0 s.name name.1 long)

  -- the long name of a symbol that is written
  pub symbol_given : (k : ℕ) (s : Symbol) → slice_get n.symbols k ≡ Some s → is_written format s ≡ true → is_long s.name ≡ true → is_given (strings_of format n) s.name ≡ true
  symbol_given k s here written long = by (is_local s.binding) refl (is_key n s) refl
    where
      by : (a : Bool) → is_local s.binding ≡ a → (b : Bool) → is_key n s ≡ b → is_given (strings_of format n) s.name ≡ true
      by true local b key =
          let name = named_where (λ (x : Symbol). is_local x.binding && is_written format x) k s here (rw (local, written) refl) in
          let first = stands_first locals fallbacks name.0 s.name name.1 in
          other_given s.name (stands_first (locals ++ fallbacks) others first.0 s.name first.1) long
      by false outer true key = key_given k s here key long
      by false outer false key =
          other_given s.name (stands_second (locals ++ fallbacks) others s.name (named_where (λ (x : Symbol). not (is_local x.binding) && not (is_key n x)) k s here (rw (outer, key) refl))) long

  -- the name of the symbol for a fallback
  pub default_given : (k : ℕ) (s : Symbol) (f : Fallback) → slice_get n.symbols k ≡ Some s → s.binding ≡ Weak f → has_default f ≡ true
      → is_given (strings_of format n) (default_name s.name) ≡ true
  default_given k s f here weak has =
      let own : defaults_of s.name s.binding ≡ default_name s.name ∷ []
      = ap (defaults_of s.name) weak ∙ ap (λ b. cond b (default_name s.name ∷ []) []) has in
      let stands = stands_flat (λ (x : Symbol). defaults_of x.name x.binding) n.symbols k s (default_name s.name) here (0, ap (λ xs. slice_get xs 0) own) in
      let second = stands_second locals fallbacks (default_name s.name) stands in
      other_given (default_name s.name) (stands_first (locals ++ fallbacks) others second.0 (default_name s.name) second.1) (long_default s.name)
