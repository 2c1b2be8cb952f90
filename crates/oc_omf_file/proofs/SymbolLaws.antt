-- The symbols of the canonical file are those that are seen.
use Rattle.std.proofs.Common.{◌≡◌, ℕ, zero, suc, ◌+◌, ◌-◌, Bool, true, false, ◌&&◌, List, [], ◌∷◌, ◌++◌, map, take, Option, Some, None, refl, sym, ◌∙◌, ap, arith, append_assoc, append-nil}
use Rattle.std.specs.{Prelude.{flat_map, slice_get, fold, filter_map, if◌then◌else◌, ◌≢◌}, List.{list_any, enumerate_from, cons_option}}
use Rattle.std.specs.Option.{option_map, option_map_or, option_and_then, is_some}
use Rattle.std.proofs.lemmas.{Bool.{true≢false}, Option.{none-some, same_Some}, Slice.Eq.{bytes_eq-Decides}}
use Rattle.oc_linking.specs.{declared.terms.Value.{Value}, declared.terms.Binding.TheVariants.{Global, Undefined, Common}}
use Rattle.oc_linking.specs.declared.terms.Value.TheVariants as value
use Rattle.oc_neutral.specs.{declared.symbol.Symbol.{Symbol}, Faces.{shown_symbol, shown_symbols, shown_binding}, KeySymbols.{global_place}, Normal.{Place}}
use Rattle.oc_neutral.specs.{Objects.{Object}, Powers.{natural_align}}
use Rattle.oc_shows.specs.{Manners.{omf_manner}, Seen.{seen_symbol, seen_symbols, seen_binding}}
use Rattle.oc_shelf.proofs.WritingLaws.MemberLemmas.{each_flat_map, member_flat_map, member_map, of_map, none_passes, position_first}
use Rattle.oc_omf.specs.{Structures.{Public, External}, Entries.{entries_in}, Tables.{Tables, tables_of}}
use Rattle.oc_omf.specs.Symbols.{Mention, same_symbol, public_mention, external_mention, entry_mentions, with_new, mentions_in, number_of, public_of, public_binding, communal_of, binding_of, symbol_of, symbols_in}
use Rattle.oc_made_files.proofs.ShownLines.{seen_one}
use Rattle.oc_omf_file.specs.{Outputs.{Output, symbol_outputs, outputs_of}, Canonical.{size_by, omf_file}}
use Rattle.oc_omf_file.specs.Outputs as output
use Rattle.oc_omf_file.proofs.{ListLemmas.{find_fails, find_only, of_take}, SaidLaws.{near_communal}, MadeLaw.{entries_made}}
use Rattle.oc_omf_file.proofs.GivenLaws.{mention_of, mentions_by, publics_by, externals_by, public_of as publics_at, mentions_made}
use Rattle.oc_omf_file.proofs.{BehindLaws.{OfSymbol, symbols_are, made_tables}, OutputLaws.{mentions_by_symbols}}
use Rattle.oc_omf_file.proofs.{CodedLaws.{IsForOmf, short_names, fields_apart}, LineLaws.{key_of, name_by, listed_at, names_once}, SmallLaws.{all_small}}
use Rattle.oc_omf_file.proofs.{SectionLaws.{tables_read}, SeenLaws.{shown, again, syms, shown_are, shown_outputs}}

-- ... what is found

-- mentions that are all new
all_new : (xs ys : List Mention) → ((j : ℕ) (y : Mention) → slice_get ys j ≡ Some y → list_any (same_symbol y) (xs ++ take j ys) ≡ false) → fold with_new xs ys ≡ xs ++ ys
all_new xs [] new = sym (append-nil xs)
all_new xs (y ∷ ys) new =
    let first : list_any (same_symbol y) xs ≡ false = ap (list_any (same_symbol y)) (sym (append-nil xs)) ∙ new 0 y refl in
    ap (λ b. fold with_new (if b then xs else xs ++ y ∷ []) ys) first
    ∙ all_new (xs ++ y ∷ []) ys (λ j z h. ap (list_any (same_symbol z)) (append_assoc xs (y ∷ []) (take j ys)) ∙ new (suc j) z h)
    ∙ append_assoc xs (y ∷ []) ys

-- the mention of an output
abbrev pub mentioned : Output → Mention
mentioned o = mention_of (name_by o)

mentions_mapped : (os : List Output) → ((i : ℕ) (o : Output) → slice_get os i ≡ Some o → mentions_by o ≡ mentioned o ∷ []) → flat_map mentions_by os ≡ map mentioned os
mentions_mapped [] each = refl
mentions_mapped (o ∷ os) each = ap (λ xs. xs ++ flat_map mentions_by os) (each 0 o refl) ∙ ap (λ xs. mentioned o ∷ xs) (mentions_mapped os (λ i p h. each (suc i) p h))

pub same_mention : (name : List ℕ) → same_symbol (mention_of name) (mention_of name) ≡ true
same_mention name = (bytes_eq-Decides name name).1 refl

module _ (n : Object) (is : IsForOmf n) where
  abbrev outs : List Output
  outs = symbol_outputs n

  abbrev t : Tables
  t = made_tables n

  -- two outputs with one name are one
  pub one_name : (i j : ℕ) (o p : Output) → slice_get outs i ≡ Some o → slice_get outs j ≡ Some p → same_symbol (mentioned o) (mentioned p) ≡ true → (i ≡ j) × (o ≡ p)
  one_name i j o p here there same =
      let e = names_once n is i j o p here there ((bytes_eq-Decides (name_by o) (name_by p)).0 same) in
      (e, same_Some o p (sym here ∙ ap (slice_get outs) e ∙ there))

  pub differ : (i j : ℕ) (o p : Output) → slice_get outs i ≡ Some o → slice_get outs j ≡ Some p → i ≢ j → same_symbol (mentioned o) (mentioned p) ≡ false
  differ i j o p here there apart = by (same_symbol (mentioned o) (mentioned p)) refl
    where
      by : (b : Bool) → same_symbol (mentioned o) (mentioned p) ≡ b → b ≡ false
      by true e = absurd (apart (one_name i j o p here there e).0)
      by false e = refl

  -- ... mentions

  pub mentions_are : fold with_new [] (map mentioned outs) ≡ map mentioned outs
  mentions_are =
      all_new [] (map mentioned outs) (λ j y h.
      let p = of_map mentioned outs j y h in
      none_passes (same_symbol y) (take j (map mentioned outs)) (λ i x g.
      let m = of_take j (map mentioned outs) i x g in
      let o = of_map mentioned outs i x m.1 in
      let l = m.0 in
      ap (λ z. same_symbol z x) (sym p.2) ∙ ap (same_symbol (mentioned p.0)) (sym o.2) ∙ differ j i p.0 o.0 p.1 o.1 (λ e. omega (arith, e, l))))

  pub mentions_read : mentions_in (entries_in (omf_file n)) ≡ map mentioned outs
  unfolding mentions_in
  mentions_read =
      ap (λ es. fold with_new [] (flat_map entry_mentions es)) (entries_made n (all_small n is))
      ∙ ap (fold with_new []) (mentions_made n 0 (outputs_of n) ∙ mentions_by_symbols n (short_names n is) (fields_apart n is) ∙ mentions_mapped outs (λ i o h. (listed_at n is i o h).mentions))
      ∙ mentions_are

  -- the number of a mention
  pub mention_number : (i : ℕ) (o : Output) → slice_get outs i ≡ Some o → number_of (map mentioned outs) (mentioned o) ≡ i
  mention_number i o here =
      position_first (same_symbol (mentioned o)) (map mentioned outs) i (mentioned o) (member_map mentioned outs i o here) (same_mention (name_by o))
      (λ j y l h. let p = of_map mentioned outs j y h in ap (same_symbol (mentioned o)) (sym p.2) ∙ differ i j o p.0 here p.1 (λ e. omega (arith, e, l)))

  -- ... bindings

  -- a definition is that of an output
  record IsPublic (p : Public) : Type 0 where
    index : ℕ
    out : Output
    here : slice_get outs index ≡ Some out
    k : ℕ
    s : Symbol
    is_output : out ≡ output.Public k s
    place : Place
    placed : global_place s.binding ≡ Some place
    is_public : p ≡ record { local = false; name = s.name; segment = place.0 + 1; offset = place.1 }

  publics : (j : ℕ) (p : Public) → slice_get t.publics j ≡ Some p → IsPublic p
  publics = each_flat_map IsPublic publics_by outs (λ i o h m p g. by i o h m p g)
    where
      at : (i k : ℕ) (s : Symbol) → slice_get outs i ≡ Some (output.Public k s) → (place : Option Place) → global_place s.binding ≡ place → (m : ℕ) (p : Public)
          → slice_get (option_map_or (publics_at s.name) place []) m ≡ Some p → IsPublic p
      at i k s h None e m p g = absurd (none-some p g)
      at i k s h (Some place) e zero p g = record { index = i; out = output.Public k s; here = h; k = k; s = s; is_output = refl; place = place; placed = e; is_public = sym (same_Some _ p g) }
      at i k s h (Some place) e (suc m) p g = absurd (none-some p g)

      by : (i : ℕ) (o : Output) → slice_get outs i ≡ Some o → (m : ℕ) (p : Public) → slice_get (publics_by o) m ≡ Some p → IsPublic p
      by i o h m p g = grind arith

  -- one that has the name of an output is that output's
  public_same : (i : ℕ) (o : Output) → slice_get outs i ≡ Some o → (p : Public) (f : IsPublic p) → same_symbol (mentioned o) (public_mention p) ≡ true → o ≡ output.Public f.k f.s
  public_same i o here p f same =
      let name : public_mention p ≡ mentioned f.out = ap public_mention f.is_public ∙ ap mentioned (sym f.is_output) in
      (one_name i f.index o f.out here f.here (ap (same_symbol (mentioned o)) (sym name) ∙ same)).1 ∙ f.is_output

  no_public : (i : ℕ) (o : Output) → slice_get outs i ≡ Some o → ((k : ℕ) (s : Symbol) → o ≡ output.Public k s → ⊥) → public_of t (mentioned o) ≡ None
  no_public i o here other =
      find_fails (λ p. same_symbol (mentioned o) (public_mention p)) t.publics (λ j p h. by j p h (same_symbol (mentioned o) (public_mention p)) refl)
    where
      by : (j : ℕ) (p : Public) → slice_get t.publics j ≡ Some p → (b : Bool) → same_symbol (mentioned o) (public_mention p) ≡ b → b ≡ false
      by j p h true e = let f = publics j p h in absurd (other f.k f.s (public_same i o here p f e))
      by j p h false e = refl

  the_public : (i k : ℕ) (s : Symbol) (place : Place) → slice_get outs i ≡ Some (output.Public k s) → global_place s.binding ≡ Some place
      → public_of t (mentioned (output.Public k s)) ≡ Some (record { local = false; name = s.name; segment = place.0 + 1; offset = place.1 })
  the_public i k s place here placed =
      let p : Public = record { local = false; name = s.name; segment = place.0 + 1; offset = place.1 } in
      let m = member_flat_map publics_by outs i 0 (output.Public k s) p here (ap (λ o. slice_get (option_map_or (publics_at s.name) o []) 0) placed) in
      find_only (λ q. same_symbol (mentioned (output.Public k s)) (public_mention q)) t.publics m.0 p m.1 (same_mention s.name) (λ j q h e.
      let f = publics j q h in
      let same : output.Public k s ≡ output.Public f.k f.s = public_same i (output.Public k s) here q f e in
      let symbol : s ≡ f.s = public_injective same in
      let at : place ≡ f.place = same_Some place f.place (sym placed ∙ ap (λ (x : Symbol). global_place x.binding) symbol ∙ f.placed) in
      f.is_public ∙ ap (λ (x : Symbol). record { local = false; name = x.name; segment = f.place.0 + 1; offset = f.place.1 }) (sym symbol)
      ∙ ap (λ (x : Place). record { local = false; name = s.name; segment = x.0 + 1; offset = x.1 }) (sym at))
    where
      symbol_or : Symbol → Output → Symbol
      symbol_or d output.Header = d
      symbol_or d (output.Names names) = d
      symbol_or d (output.Segment j x) = d
      symbol_or d output.Group = d
      symbol_or d (output.External j x) = d
      symbol_or d (output.Communal j x) = d
      symbol_or d (output.Public j x) = x
      symbol_or d (output.Data j x from to) = d
      symbol_or d (output.Fixups j x from to) = d
      symbol_or d output.End = d

      public_injective : {j l : ℕ} {a b : Symbol} → output.Public j a ≡ output.Public l b → a ≡ b
      public_injective {j} {l} {a} {b} e = ap (symbol_or a) e

  -- an external is that of an output
  record IsExternal (y : External) : Type 0 where
    index : ℕ
    out : Output
    here : slice_get outs index ≡ Some out
    mention : external_mention y ≡ mentioned out
    only : externals_by out ≡ y ∷ []
    bare : (k : ℕ) (s : Symbol) → out ≡ output.External k s → y.communal ≡ None

  externals : (j : ℕ) (y : External) → slice_get t.externals j ≡ Some y → IsExternal y
  externals = each_flat_map IsExternal externals_by outs (λ i o h m y g. by i o h m y g)
    where
      is_communal : Output → Bool
      is_communal output.Header = false
      is_communal (output.Names names) = false
      is_communal (output.Segment j x) = false
      is_communal output.Group = false
      is_communal (output.External j x) = false
      is_communal (output.Communal j x) = true
      is_communal (output.Public j x) = false
      is_communal (output.Data j x from to) = false
      is_communal (output.Fixups j x from to) = false
      is_communal output.End = false

      by : (i : ℕ) (o : Output) → slice_get outs i ≡ Some o → (m : ℕ) (y : External) → slice_get (externals_by o) m ≡ Some y → IsExternal y
      by i output.Header h m y g = absurd (none-some y g)
      by i (output.Names names) h m y g = absurd (none-some y g)
      by i (output.Segment k s) h m y g = absurd (none-some y g)
      by i output.Group h m y g = absurd (none-some y g)
      by i (output.External k s) h zero y g =
          let e = same_Some _ y g in
          record { index = i; out = output.External k s; here = h; mention = ap external_mention (sym e); only = ap (λ z. z ∷ []) e; bare = λ j x f. ap (λ (z : External). z.communal) (sym e) }
      by i (output.External k s) h (suc m) y g = absurd (none-some y g)
      by i (output.Communal k s) h zero y g =
          let e = same_Some _ y g in
          record {
            index = i;
            out = output.Communal k s;
            here = h;
            mention = ap external_mention (sym e);
            only = ap (λ z. z ∷ []) e;
            bare = λ j x f. absurd (true≢false (ap is_communal f));
          }
      by i (output.Communal k s) h (suc m) y g = absurd (none-some y g)
      by i (output.Public k s) h m y g = absurd (none-some y g)
      by i (output.Data k s from to) h m y g = absurd (none-some y g)
      by i (output.Fixups k s from to) h m y g = absurd (none-some y g)
      by i output.End h m y g = absurd (none-some y g)

  external_same : (i : ℕ) (o : Output) → slice_get outs i ≡ Some o → (y : External) (f : IsExternal y) → same_symbol (mentioned o) (external_mention y) ≡ true → f.out ≡ o
  external_same i o here y f same = sym (one_name i f.index o f.out here f.here (ap (same_symbol (mentioned o)) (sym f.mention) ∙ same)).1

  no_communal : (i k : ℕ) (s : Symbol) → slice_get outs i ≡ Some (output.External k s) → communal_of t (mention_of s.name) ≡ None
  no_communal i k s here =
      ap (option_and_then (λ (y : External). option_map (λ c. c.length) y.communal))
      (find_fails (λ y. same_symbol (mention_of s.name) (external_mention y) && is_some y.communal) t.externals (λ j y h. by j y h (same_symbol (mention_of s.name) (external_mention y)) refl))
    where
      by : (j : ℕ) (y : External) → slice_get t.externals j ≡ Some y → (b : Bool) → same_symbol (mention_of s.name) (external_mention y) ≡ b → (b && is_some y.communal) ≡ false
      by j y h true e = let f = externals j y h in ap is_some (f.bare k s (external_same i (output.External k s) here y f e))
      by j y h false e = refl

  the_communal : (i k : ℕ) (s : Symbol) → slice_get outs i ≡ Some (output.Communal k s) → communal_of t (mention_of s.name) ≡ Some (size_by s.binding)
  the_communal i k s here =
      let y : External = near_communal s.name (size_by s.binding) in
      let m = member_flat_map externals_by outs i 0 (output.Communal k s) y here refl in
      ap (option_and_then (λ (y : External). option_map (λ c. c.length) y.communal))
      (find_only (λ z. same_symbol (mention_of s.name) (external_mention z) && is_some z.communal) t.externals m.0 y m.1 (ap (λ b. b && true) (same_mention s.name)) (λ j z h e.
      let f = externals j z h in
      let same : f.out ≡ output.Communal k s = external_same i (output.Communal k s) here z f (first (same_symbol (mention_of s.name) (external_mention z)) (is_some z.communal) e) in
      same_head z y (sym f.only ∙ ap externals_by same)))
    where
      first : (a b : Bool) → (a && b) ≡ true → a ≡ true
      first a b e = grind arith

      same_head : (a b : External) → a ∷ [] ≡ b ∷ [] → a ≡ b
      same_head a b e = same_Some a b (ap (λ xs. slice_get xs 0) e)

  -- the binding of each
  binding_read : (i : ℕ) (o : Output) (s : Symbol) → slice_get outs i ≡ Some o → OfSymbol n o → slice_get n.symbols (key_of o) ≡ Some s
      → binding_of t (mentioned o) ≡ shown_binding (syms n) (seen_binding omf_manner n (shown n) s.binding)
  unfolding binding_of
  binding_read i output.Header s here e there = absurd e
  binding_read i (output.Names names) s here e there = absurd e
  binding_read i (output.Segment k x) s here e there = absurd e
  binding_read i output.Group s here e there = absurd e
  binding_read i (output.External k x) s here e there =
      let same : x ≡ s = same_Some x s (sym e.0 ∙ there) in
      ap (λ o. option_map_or public_binding o (option_map_or (λ size. Common size (natural_align size)) (communal_of t (mention_of x.name)) Undefined)) (no_public i (output.External k x) here (λ j y f. absurd (cc)))
      ∙ ap (λ o. option_map_or (λ size. Common size (natural_align size)) o Undefined) (no_communal i k x here)
      ∙ ap (λ b. shown_binding (syms n) (seen_binding omf_manner n (shown n) b)) (sym e.1 ∙ ap (λ (y : Symbol). y.binding) same)
  binding_read i (output.Communal k x) s here e there =
      let same : x ≡ s = same_Some x s (sym e.0 ∙ there) in
      let natural = (is.meets.symbols k x e.0).common e.1 e.2 e.3 in
      ap (λ o. option_map_or public_binding o (option_map_or (λ size. Common size (natural_align size)) (communal_of t (mention_of x.name)) Undefined)) (no_public i (output.Communal k x) here (λ j y f. absurd (cc)))
      ∙ ap (λ o. option_map_or (λ size. Common size (natural_align size)) o Undefined) (the_communal i k x here)
      ∙ ap (λ b. Common (size_by b) (natural_align (size_by b))) e.3
      ∙ ap (Common e.1) (sym natural.natural)
      ∙ ap (λ b. shown_binding (syms n) (seen_binding omf_manner n (shown n) b)) (sym e.3 ∙ ap (λ (y : Symbol). y.binding) same)
  binding_read i (output.Public k x) s here e there =
      let same : x ≡ s = same_Some x s (sym e.0 ∙ there) in
      by e.1 e.2
      ∙ ap (λ b. shown_binding (syms n) (seen_binding omf_manner n (shown n) b)) (sym e.2 ∙ ap (λ (y : Symbol). y.binding) same)
    where
      by : (v : Value) → x.binding ≡ Global v
          → option_map_or public_binding (public_of t (mention_of x.name)) (option_map_or (λ size. Common size (natural_align size)) (communal_of t (mention_of x.name)) Undefined) ≡ Global v
      by (value.Absolute z) f = absurd ((is.meets.symbols k x e.0).placed z f)
      by (value.Place a offset) f =
          let back : a + 1 - 1 ≡ a = omega arith in
          ap (λ o. option_map_or public_binding o (option_map_or (λ size. Common size (natural_align size)) (communal_of t (mention_of x.name)) Undefined))
          (the_public i k x (a, offset) here (ap global_place f))
          ∙ ap (λ j. Global (value.Place j offset)) back
  binding_read i (output.Data k x from to) s here e there = absurd e
  binding_read i (output.Fixups k x from to) s here e there = absurd e
  binding_read i output.End s here e there = absurd e

  -- ... symbols

  pub symbol_read : (i : ℕ) (o : Output) (s : Symbol) → slice_get outs i ≡ Some o → slice_get n.symbols (key_of o) ≡ Some s
      → symbol_of t (i, mentioned o) ≡ shown_symbol (syms n) (seen_symbol omf_manner n (shown n) i s)
  symbol_read i o s here there =
      let l = listed_at n is i o here in
      let name : name_by o ≡ s.name = l.named ∙ ap (λ (x : Symbol). x.name) (same_Some l.symbol s (sym l.there ∙ there)) in
      rw (binding_read i o s here (symbols_are n i o here) there, name) refl

  symbols_from : (at : ℕ) (os : List Output) → ((i : ℕ) (o : Output) → slice_get os i ≡ Some o → slice_get outs (at + i) ≡ Some o)
      → map (symbol_of t) (enumerate_from at (map mentioned os)) ≡ map (shown_symbol (syms n)) (filter_map (seen_one omf_manner n) (shown_outputs at os))
  symbols_from at [] are = refl
  symbols_from at (o ∷ os) are =
      let z : at + 0 ≡ at = omega arith in
      let here : slice_get outs at ≡ Some o = ap (slice_get outs) (sym z) ∙ are 0 o refl in
      let l = listed_at n is at o here in
      let own : seen_one omf_manner n (key_of o, at) ≡ Some (seen_symbol omf_manner n (shown n) at l.symbol) = ap (option_map (seen_symbol omf_manner n (shown n) at)) l.there in
      ap (λ x. x ∷ map (symbol_of t) (enumerate_from (at + 1) (map mentioned os))) (symbol_read at o l.symbol here l.there)
      ∙ ap (λ xs. shown_symbol (syms n) (seen_symbol omf_manner n (shown n) at l.symbol) ∷ xs)
      (symbols_from (at + 1) os (λ i p h. let e : at + 1 + i ≡ at + suc i = omega arith in ap (slice_get outs) e ∙ are (suc i) p h))
      ∙ ap (λ x. map (shown_symbol (syms n)) (cons_option x (filter_map (seen_one omf_manner n) (shown_outputs (at + 1) os)))) (sym own)

  pub symbols_made : map (symbol_of t) (enumerate_from 0 (map mentioned outs)) ≡ shown_symbols (again n)
  unfolding seen_symbols
  symbols_made =
      symbols_from 0 outs (λ i o h. let e : 0 + i ≡ i = omega arith in ap (slice_get outs) e ∙ h)
      ∙ ap (λ xs. map (shown_symbol (syms n)) (filter_map (seen_one omf_manner n) xs)) (sym (shown_are n))

  pub symbols_read : symbols_in (entries_in (omf_file n)) ≡ shown_symbols (again n)
  unfolding symbols_in
  symbols_read =
      ap (λ ms. map (symbol_of (tables_of (entries_in (omf_file n)))) (enumerate_from 0 ms)) mentions_read
      ∙ ap (λ u. map (symbol_of u) (enumerate_from 0 (map mentioned outs))) (tables_read n is)
      ∙ symbols_made
