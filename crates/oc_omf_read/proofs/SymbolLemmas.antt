-- The symbols of a module without faults, added one after the other.
use Rattle.std.proofs.Common.{◌≡◌, ℕ, zero, suc, ◌+◌, ◌<◌, ◌≤◌, Bool, true, false, List, [], ◌∷◌, length, map, take, Option, None, Some, Ok, refl, sym, ◌∙◌, ap, arith, length-take}
use Rattle.std.specs.{Prelude.{◌||◌, slice_get}, List.{enumerate_from, list_any}, Option.{is_some, option_map, option_map_or}}
use Rattle.std.proofs.lemmas.{Bool.{true≢false}, List.{length-map, map-append}, List.FromFn.{length-enumerate_from}}
use Rattle.std.proofs.lemmas.Option.{none-some, same_Some, slice_get-map, slice_get_within}
use Rattle.oc_base.specs.declared.format.Format.TheVariants.{Omf}
use Rattle.oc_linking.specs.{declared.terms.Binding.{Binding}, declared.terms.Binding.TheVariants.{Undefined, Common}, FirstFault.{first_fault}}
use Rattle.oc_linking.specs.Parts.{is_local}
use Rattle.oc_linking.specs.Parts as parts
use Rattle.oc_neutral.specs.{declared.symbol.Symbol.{Symbol}, Building.{symbol_added}, Keeping.{is_again}, Powers.{natural_align}}
use Rattle.oc_shows.specs.{Computed.{computed_symbol, placed_binding}, Started.{plain_draft, stored_section}}
use Rattle.oc_shows.proofs.{BuiltSteps.{name_is_new}, StartedLaws.{symbol_more}}
use Rattle.oc_neutral.proofs.FieldLists.{take_here}
use Rattle.oc_omf.specs.{Entries.{Entry}, Sections.{sections_in}, SymbolFaults.{symbol_stages}}
use Rattle.oc_omf.specs.{Symbols.{Mention, binding_of, mentions_in, same_symbol, symbol_of, symbols_in}, Tables.{tables_of}}
use Rattle.oc_omf.proofs.EntryLemmas.{numbered_at}
use Rattle.oc_omf_read.specs.{declared.mentioned.Mentioned.{Mentioned}, declared.mentioned.Mentions.{Mentions}}
use Rattle.oc_omf_read.specs.{Bindings.{binding_seen, place_binding, symbol_seen}, Built.{symboled}, Declarations.{declarations_in}}
use Rattle.oc_omf_read.specs.Mentioned.{HasDeclarations, ModuleSymbol, mentioned_symbols, seen_in, seen_of}
use Rattle.oc_omf_read.proofs.{BindingLemmas.{binding_is, mentions_are}, LocalLemmas.{local_placed}, MentionLemmas.{AreApart, symbols_apart}}
use Rattle.oc_omf_judge.proofs.MentionLemmas.{same_self}

-- ... bindings

plain_place : (ss : List parts.Symbol) (local : Bool) (place : ℕ × ℕ) → placed_binding ss (place_binding local place) ≡ place_binding local place
plain_place ss local place = grind arith

plain_binding : (ss : List parts.Symbol) (s : ModuleSymbol) → placed_binding ss (binding_seen s) ≡ binding_seen s
plain_binding ss s = by s.place s.length
  where
    by : (p : Option (ℕ × ℕ)) (n : Option ℕ) → placed_binding ss (option_map_or (place_binding s.local) p (option_map_or (λ size. Common size (natural_align size)) n Undefined))
        ≡ option_map_or (place_binding s.local) p (option_map_or (λ size. Common size (natural_align size)) n Undefined)
    by (Some place) n = plain_place ss s.local place
    by None (Some size) = refl
    by None None = refl

local_place : (local : Bool) (place : ℕ × ℕ) → is_local (place_binding local place) ≡ local
local_place local place = grind arith

local_seen : (s : ModuleSymbol) → is_some s.place ≡ true → is_local (binding_seen s) ≡ s.local
local_seen s some = by s.place some
  where
    by : (p : Option (ℕ × ℕ)) → is_some p ≡ true → is_local (option_map_or (place_binding s.local) p (option_map_or (λ size. Common size (natural_align size)) s.length Undefined)) ≡ s.local
    by p e = grind arith

apart_at : (ms : List Mention) (j k : ℕ) (x y : Mention) → AreApart ms → j < k → slice_get ms j ≡ Some x → slice_get ms k ≡ Some y → x ≡ y → ⊥
apart_at [] j k x y apart low at_j at_k same = none-some x at_j
apart_at (m ∷ ms) zero zero x y apart low at_j at_k same = absurd (omega (arith, low))
apart_at (m ∷ ms) zero (suc k) x y apart low at_j at_k same =
    true≢false (sym (there ms k at_k) ∙ ap (λ (z : Mention). list_any (same_symbol z) ms) (sym (same_Some m x at_j ∙ same)) ∙ apart.0)
  where
    or_true : (a : Bool) → (a || true) ≡ true
    or_true a = grind arith

    there : (xs : List Mention) (k : ℕ) → slice_get xs k ≡ Some y → list_any (same_symbol y) xs ≡ true
    there [] k here = absurd (none-some y here)
    there (z ∷ zs) zero here = ap (λ b. b || list_any (same_symbol y) zs) (ap (same_symbol y) (same_Some z y here) ∙ same_self y)
    there (z ∷ zs) (suc k) here = ap (λ b. same_symbol y z || b) (there zs k here) ∙ or_true (same_symbol y z)
apart_at (m ∷ ms) (suc j) zero x y apart low at_j at_k same = absurd (omega (arith, low))
apart_at (m ∷ ms) (suc j) (suc k) x y apart low at_j at_k same = apart_at ms j k x y apart.1 (omega (arith, low)) at_j at_k same

module _ (es : List Entry) (clean : first_fault (symbol_stages es) ≡ None) where
  abbrev ms : List Mention
  ms = mentioned_symbols (declarations_in es)

  abbrev ss : List parts.Symbol
  ss = symbols_in es

  abbrev made : ℕ → Mention → parts.Symbol
  made k x = symbol_of (tables_of es) (k, x)

  -- the symbol of a mention
  pub symbol_here : (k : ℕ) (x : Mention) → slice_get ms k ≡ Some x → slice_get ss k ≡ Some (made k x)
  unfolding symbols_in
  symbol_here k x here =
      slice_get-map (symbol_of (tables_of es)) (enumerate_from 0 (mentions_in es)) k
      ∙ ap (option_map (symbol_of (tables_of es))) (numbered_at (mentions_in es) k x (ap (λ (xs : List Mention). slice_get xs k) (mentions_are es) ∙ here))

  pub as_many : length ss ≡ length ms
  unfolding symbols_in
  as_many = length-map (enumerate_from 0 (mentions_in es)) (symbol_of (tables_of es)) ∙ length-enumerate_from 0 (mentions_in es) ∙ ap length (mentions_are es)

  -- in the object it is what is seen of it
  pub symbol_is : (k : ℕ) (x : Mention) → computed_symbol ss (made k x) ≡ symbol_seen k (seen_in (declarations_in es) x)
  symbol_is k x =
      ap (λ (b : Binding). record (symbol_seen k (seen_in (declarations_in es) x)) { binding = b }) (ap (placed_binding ss) (binding_is es x) ∙ plain_binding ss (seen_in (declarations_in es) x))

  -- one that other modules see is not of this module alone
  seen_by_all : (k : ℕ) (x : Mention) → slice_get ms k ≡ Some x → is_local (binding_of (tables_of es) x) ≡ false → x.local ≡ false
  seen_by_all k x here other = by x.local refl
    where
      by : (b : Bool) → x.local ≡ b → b ≡ false
      by false e = refl
      by true e = absurd (true≢false (sym e ∙ sym (local_seen (seen_in (declarations_in es) x) (local_placed es clean k x here e)) ∙ ap is_local (sym (binding_is es x)) ∙ other))

  mention_there : (xs : List Mention) (k : ℕ) → k < length xs → (x : Mention) × (slice_get xs k ≡ Some x)
  mention_there [] k low = absurd (omega (arith, low))
  mention_there (x ∷ xs) zero low = (x, refl)
  mention_there (x ∷ xs) (suc k) low = mention_there xs k (omega (arith, low))

  taken_at : {X : Type 0} (xs : List X) (k j : ℕ) (x : X) → slice_get (take k xs) j ≡ Some x → (j < k) × (slice_get xs j ≡ Some x)
  taken_at xs zero j x here = absurd (none-some x here)
  taken_at [] (suc k) j x here = absurd (none-some x here)
  taken_at (y ∷ ys) (suc k) zero x here = (omega arith, here)
  taken_at (y ∷ ys) (suc k) (suc j) x here = let m = taken_at ys k j x here in let low = m.0 in (omega (arith, low), m.1)

  -- its name is new among those that other modules see
  new_name : (k : ℕ) (x : Mention) → slice_get ms k ≡ Some x → is_again (map (computed_symbol ss) (take k ss)) (computed_symbol ss (made k x)) ≡ false
  new_name k x here = name_is_new ss (take k ss) (made k x) (λ j y at_j other_j other name.
      let m = taken_at ss k j y at_j in
      let low = slice_get_within ss j y m.1 in
      let many = as_many in
      let z = mention_there ms j (omega (arith, low, many)) in
      let is : made j z.0 ≡ y = same_Some (made j z.0) y (sym (symbol_here j z.0 z.1) ∙ m.1) in
      let first : z.0.local ≡ false = seen_by_all j z.0 z.1 (ap (λ (s : parts.Symbol). is_local s.binding) is ∙ other_j) in
      let second : x.local ≡ false = seen_by_all k x here other in
      let same : z.0 ≡ x = ap (λ (l : Bool). record { local = l; name = z.0.name }) (first ∙ sym second) ∙ ap (λ (n : List ℕ). record { local = x.local; name = n }) (ap (λ (s : parts.Symbol). s.name) is ∙ name) in
      apart_at ms j k z.0 x (symbols_apart (declarations_in es)) m.0 z.1 here same)

  -- it is added
  pub symbol_next : (k : ℕ) (x : Mention) → slice_get ms k ≡ Some x → symbol_added (symboled es k) (symbol_seen k (seen_in (declarations_in es) x)) ≡ Ok (symboled es (k + 1))
  symbol_next k x here =
      ap (symbol_added (symboled es k)) (sym (symbol_is k x))
      ∙ symbol_more Omf [] (map (stored_section []) (sections_in (tables_of es))) (map (computed_symbol ss) (take k ss)) (computed_symbol ss (made k x)) (new_name k x here)
      ∙ ap (λ (ys : List Symbol). Ok (plain_draft Omf [] (map (stored_section []) (sections_in (tables_of es))) ys))
      (sym (map-append (computed_symbol ss) (take k ss) (made k x ∷ [])) ∙ sym (ap (map (computed_symbol ss)) (take_here ss k (made k x) (symbol_here k x here))))

  -- what is held of a symbol is what is seen of it
  held_at : (m : Mentions) → HasDeclarations (declarations_in es) m → (k : ℕ) (s : Mentioned) → slice_get m.symbols.items k ≡ Some s → (x : Mention) × (slice_get ms k ≡ Some x) × (seen_of s ≡ seen_in (declarations_in es) x)
  held_at m has k s here =
      by (slice_get ms k) refl (sym (slice_get-map (seen_in (declarations_in es)) ms k) ∙ ap (λ (xs : List ModuleSymbol). slice_get xs k) (sym has.symbols) ∙ slice_get-map seen_of m.symbols.items k ∙ ap (option_map seen_of) here)
    where
      by : (o : Option Mention) → slice_get ms k ≡ o → option_map (seen_in (declarations_in es)) o ≡ Some (seen_of s) → (x : Mention) × (slice_get ms k ≡ Some x) × (seen_of s ≡ seen_in (declarations_in es) x)
      by o e h = grind arith

  -- so that is added
  pub symbol_ready : (m : Mentions) → HasDeclarations (declarations_in es) m → (k : ℕ) (s : Mentioned) → slice_get m.symbols.items k ≡ Some s → symbol_added (symboled es k) (symbol_seen k (seen_of s)) ≡ Ok (symboled es (k + 1))
  symbol_ready m has k s here =
      let x = held_at m has k s here in
      ap (λ (seen : ModuleSymbol). symbol_added (symboled es k) (symbol_seen k seen)) x.2 ∙ symbol_next k x.0 x.1

  pub symbols_room : (k : ℕ) → length (symboled es k).object.symbols ≤ k
  symbols_room k =
      let same = length-map (take k ss) (computed_symbol ss) in
      let long = length-take k ss in
      omega (arith, same, long)

  pub all_symbols : (m : Mentions) → HasDeclarations (declarations_in es) m → length m.symbols.items ≡ length ss
  all_symbols m has =
      sym (length-map m.symbols.items seen_of) ∙ ap length has.symbols ∙ length-map ms (seen_in (declarations_in es)) ∙ sym as_many
