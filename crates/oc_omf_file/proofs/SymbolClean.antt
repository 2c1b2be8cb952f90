-- No entry of the canonical file has a fault in its symbols.
use Rattle.std.proofs.Common.{◌≡◌, ℕ, zero, suc, ◌+◌, ◌^◌, Bool, false, not, ◌&&◌, ◌||◌, nat_le, nat_lt, nat_eq, if◌then◌else◌, bytes_eq, List, [], ◌∷◌, ◌++◌, length, take, get_or, Option, Some, refl, sym, ◌∙◌, ap, subst, arith, append-nil}
use Rattle.std.specs.{Prelude.{flat_map, slice_get, ◌≢◌}, List.{enumerate_from, list_any, AllByRecursion}, Option.{option_map_or}}
use Rattle.std.proofs.lemmas.{Bool.{ne_eqb}, Bool.Decides.{nat_tests}, List.{length-map}, Option.{none-some, slice_get_within}}
use Rattle.oc_linking.specs.{declared.terms.Value.{Value}, declared.terms.Binding.TheVariants.{Global}, FirstFault.{Condition}}
use Rattle.oc_linking.specs.declared.terms.Value.TheVariants as value
use Rattle.oc_neutral.specs.{declared.symbol.Symbol.{Symbol}, Invariants.{IsBinding}, KeySymbols.{global_place}, Normal.{Place}, Objects.{Object}}
use Rattle.oc_shelf.proofs.ReadingLaws.StageLemmas.{Unbroken, IsUnbroken}
use Rattle.oc_shelf.proofs.WritingLaws.MemberLemmas.{each_flat_map, member_first, none_passes, of_map, of_enumerated, all_members}
use Rattle.oc_omf.specs.{declared.structures.Communal.{Communal}, Structures.{Public, External}, Entries.{Entry, says_nothing}, Tables.{tables_of}}
use Rattle.oc_omf.specs.{Symbols.{Mention, same_symbol, public_mention, external_mention}, Sections.{size_at}}
use Rattle.oc_omf.specs.SymbolFaults.{EntryContext, is_empty, base_conditions, same_public, public_conditions, is_no_form, is_other_length, communal_conditions, external_conditions, symbol_table, symbol_stage, entry_context, symbol_stages}
use Rattle.oc_omf_file.specs.{Outputs.{Output, symbol_outputs, outputs_of}, Canonical.{segment_of, size_by}}
use Rattle.oc_omf_file.specs.Outputs as output
use Rattle.oc_omf_file.proofs.{SaidLaws.{communal_form}, MadeLaw.{made, made_public}}
use Rattle.oc_omf_file.proofs.GivenLaws.{mention_of, publics_by, externals_by, public_of as publics_at, given, tables_made, tables_before, entry_made}
use Rattle.oc_omf_file.proofs.{BehindLaws.{Behind, IsSymbolAt, made_tables}, OutputLaws.{tables_given}, CodedLaws.{IsForOmf, short_names, fields_apart}}
use Rattle.oc_omf_file.proofs.{LineLaws.{name_by}, AimLaws.{symbol_is}, SmallLaws.{behind}, SectionLaws.{size_made}, SymbolLaws.{mentioned, differ}}
use Rattle.oc_omf_file.proofs.FixedLaws.{entries}

-- ... lists

unbroken_at : (tables : List (List Condition)) (j : ℕ) → AllByRecursion Unbroken tables → Unbroken (get_or tables j [])
unbroken_at [] j all = tt
unbroken_at (t ∷ tables) zero all = all.0
unbroken_at (t ∷ tables) (suc j) all = unbroken_at tables j all.1

-- ... what earlier outputs mention

public_from : (q : Output) (m : ℕ) (p : Public) → slice_get (publics_by q) m ≡ Some p → public_mention p ≡ mentioned q
public_from output.Header m p h = absurd (none-some p h)
public_from (output.Names names) m p h = absurd (none-some p h)
public_from (output.Segment k s) m p h = absurd (none-some p h)
public_from output.Group m p h = absurd (none-some p h)
public_from (output.External k s) m p h = absurd (none-some p h)
public_from (output.Communal k s) m p h = absurd (none-some p h)
public_from (output.Public k s) m p h = by (global_place s.binding) m h
  where
    by : (place : Option Place) (m : ℕ) → slice_get (option_map_or (publics_at s.name) place []) m ≡ Some p → public_mention p ≡ mention_of s.name
    by place m h = grind arith
public_from (output.Data k s from to) m p h = absurd (none-some p h)
public_from (output.Fixups k s from to) m p h = absurd (none-some p h)
public_from output.End m p h = absurd (none-some p h)

external_from : (q : Output) (m : ℕ) (y : External) → slice_get (externals_by q) m ≡ Some y → external_mention y ≡ mentioned q
external_from q m y h = grind arith

-- ... communals

-- the first byte of a length is of a form
formed : (size : ℕ) → is_no_form (communal_form size) ≡ false
formed size = by (nat_le size 0x80) refl (nat_lt size (2 ^ 16)) (nat_lt size (2 ^ 24))
  where
    by : (a : Bool) → nat_le size 0x80 ≡ a → (b c : Bool) → is_no_form (if a then size else if b then 0x81 else if c then 0x84 else 0x88) ≡ false
    by a e b c = grind arith

module _ (n : Object) (is : IsForOmf n) where
  -- a symbol's name
  named : (k : ℕ) (s : Symbol) → slice_get n.symbols k ≡ Some s → is_empty s.name ≡ false
  named k s here = by s.name (symbol_is n is k s here).named
    where
      by : (name : List ℕ) → name ≢ [] → is_empty name ≡ false
      by [] some = absurd (some refl)
      by (c ∷ name) some = ne_eqb (length (c ∷ name)) 0 (λ e. omega (arith, e))

  -- an output differs from those before it
  module _ (front : List Output) (o : Output) (b : IsSymbolAt n front o) where
    own_place : slice_get (symbol_outputs n) (length b.done) ≡ Some o
    own_place = ap (λ xs. slice_get xs (length b.done)) b.outputs ∙ at b.done
      where
        at : (xs : List Output) → slice_get (xs ++ o ∷ b.rest) (length xs) ≡ Some o
        at [] = refl
        at (x ∷ xs) = at xs

    others : (j : ℕ) (q : Output) → slice_get b.done j ≡ Some q → same_symbol (mentioned o) (mentioned q) ≡ false
    others j q h =
        let low = slice_get_within b.done j q h in
        let there : slice_get (symbol_outputs n) j ≡ Some q = ap (λ xs. slice_get xs j) b.outputs ∙ member_first b.done (o ∷ b.rest) j q h in
        differ n is (length b.done) j o q own_place there (λ e. omega (arith, e, low))

    publics_differ : (p : Public) → public_mention p ≡ mentioned o → list_any (same_public p) ((given n front).publics ++ []) ≡ false
    publics_differ p mention =
        ap (list_any (same_public p)) (append-nil (given n front).publics ∙ b.defines.publics_are)
        ∙ none_passes (same_public p) (flat_map publics_by b.done)
        (each_flat_map (λ (q : Public). same_public p q ≡ false) publics_by b.done (λ j q h m y g.
        ap (λ z. same_symbol z (public_mention y)) mention ∙ ap (same_symbol (mentioned o)) (public_from q m y g) ∙ others j q h))

    externals_differ : (c : Communal) → list_any (is_other_length (name_by o) c) ((given n front).externals ++ []) ≡ false
    externals_differ c =
        ap (list_any (is_other_length (name_by o) c)) (append-nil (given n front).externals ∙ b.defines.externals_are)
        ∙ none_passes (is_other_length (name_by o) c) (flat_map externals_by b.done)
        (each_flat_map (λ (y : External). is_other_length (name_by o) c y ≡ false) externals_by b.done (λ j q h m y g.
        let name : bytes_eq (name_by o) y.name ≡ false = ap (λ (z : Mention). bytes_eq (name_by o) z.name) (external_from q m y g) ∙ others j q h in
        ap (λ t. t && option_map_or (λ (d : Communal). not (nat_eq c.length d.length)) y.communal false) name))

  -- an entry with what is defined before it
  abbrev of : ℕ → List Output → Entry → EntryContext
  of i front e = record { index = i; before = given n front; all = made_tables n; entry = e }

  external_clean : (i place : ℕ) (front : List Output) (k : ℕ) (s : Symbol) → IsSymbolAt n front (output.External k s)
      → AllByRecursion Unbroken (symbol_table (of i front (made n place (output.External k s))))
  unfolding symbol_table external_conditions
  external_clean i place front k s b = ((refl, (named k s b.of_symbol.0, (refl, tt))), tt)

  communal_clean : (i place : ℕ) (front : List Output) (k : ℕ) (s : Symbol) → IsSymbolAt n front (output.Communal k s)
      → AllByRecursion Unbroken (symbol_table (of i front (made n place (output.Communal k s))))
  unfolding symbol_table external_conditions communal_conditions
  communal_clean i place front k s b =
      let common = (is.meets.symbols k s b.of_symbol.0).common b.of_symbol.1 b.of_symbol.2 b.of_symbol.3 in
      let size : size_by s.binding ≡ b.of_symbol.1 = ap size_by b.of_symbol.3 in
      let positive = common.some in
      let some : nat_eq (size_by s.binding) 0 ≡ false = grind (arith, nat_tests) in
      let form : (is_no_form (communal_form (size_by s.binding)) || nat_eq (size_by s.binding) 0) ≡ false = rw (formed (size_by s.binding), some) refl in
      ((refl, (form, (refl, (named k s b.of_symbol.0, (externals_differ front (output.Communal k s) b (record { kind = 0x62; form = communal_form (size_by s.binding); length = size_by s.binding }), tt))))), tt)

  public_clean : (i place : ℕ) (front : List Output) (k : ℕ) (s : Symbol) → IsSymbolAt n front (output.Public k s) → (v : Value) → s.binding ≡ Global v
      → AllByRecursion Unbroken (symbol_table (of i front (made n place (output.Public k s))))
  unfolding symbol_table base_conditions public_conditions
  public_clean i place front k s b (value.Absolute x) e = absurd ((is.meets.symbols k s b.of_symbol.0).placed x e)
  public_clean i place front k s b (value.Place a offset) e =
      let here = b.of_symbol.0 in
      let held = subst (IsBinding n) e (symbol_is n is k s here).binding in
      let low = slice_get_within n.sections a held.0 held.1 in
      let groups : length (given n front).groups ≡ 1 = ap length b.defines.groups_are in
      let many : length (given n front).segments ≡ length n.sections = ap length b.defines.segments_are ∙ length-map n.sections (segment_of n) in
      let size = size_made n is (given n front) b.defines.segments_are a held.0 held.1 in
      let within = held.2 in
      let group : nat_lt (length (given n front).groups) 1 ≡ false = grind (arith, nat_tests) in
      let segment : nat_lt (length (given n front).segments) (a + 1) ≡ false = grind (arith, nat_tests) in
      let base : (nat_lt (length (given n front).groups) 1 || nat_lt (length (given n front).segments) (a + 1)) ≡ false = rw (group, segment) refl in
      let some : nat_eq (a + 1) 0 ≡ false = grind (arith, nat_tests) in
      let inside : nat_lt (size_at (given n front) (a + 1)) offset ≡ false = grind (arith, nat_tests) in
      let p : Public = record { local = false; name = s.name; segment = a + 1; offset = offset } in
      subst (λ o. AllByRecursion Unbroken (symbol_table (of i front (option_map_or (made_public place s.name) o (says_nothing place))))) (sym (ap global_place e))
      ((base, (some, tt)), ((inside, (named k s here, (publics_differ front (output.Public k s) b p refl, tt))), tt))

  entry_clean : (i place : ℕ) (front : List Output) (o : Output) → Behind n front o → AllByRecursion Unbroken (symbol_table (of i front (made n place o)))
  unfolding symbol_table
  entry_clean i place front output.Header b = tt
  entry_clean i place front (output.Names names) b = tt
  entry_clean i place front (output.Segment k s) b = tt
  entry_clean i place front output.Group b = tt
  entry_clean i place front (output.External k s) b = external_clean i place front k s b
  entry_clean i place front (output.Communal k s) b = communal_clean i place front k s b
  entry_clean i place front (output.Public k s) b = public_clean i place front k s b b.of_symbol.1 b.of_symbol.2
  entry_clean i place front (output.Data k s from to) b = tt
  entry_clean i place front (output.Fixups k s from to) b = tt
  entry_clean i place front output.End b = tt

  pub tables_are : tables_of (entries n is) ≡ made_tables n
  tables_are = tables_made n 0 (outputs_of n) ∙ tables_given n (short_names n is) (fields_apart n is)

  stage_clean : (i : ℕ) (e : Entry) → slice_get (entries n is) i ≡ Some e → IsUnbroken (symbol_stage (entry_context (entries n is) (i, e)))
  stage_clean i e here j low =
      let o = entry_made n 0 i (outputs_of n) e here in
      let same : of i (take i (outputs_of n)) (made n o.1 o.0) ≡ entry_context (entries n is) (i, e)
      = ap (λ t. record { index = i; before = t; all = made_tables n; entry = made n o.1 o.0 }) (sym (tables_before n i (outputs_of n)))
      ∙ ap (λ t. record { index = i; before = tables_of (take i (entries n is)); all = t; entry = made n o.1 o.0 }) (sym tables_are)
      ∙ ap (λ (y : Entry). record { index = i; before = tables_of (take i (entries n is)); all = tables_of (entries n is); entry = y }) o.3 in
      unbroken_at (symbol_table (entry_context (entries n is) (i, e))) j
      (subst (λ x. AllByRecursion Unbroken (symbol_table x)) same (entry_clean i o.1 (take i (outputs_of n)) o.0 (behind n is i o.0 o.2)))

  pub symbols_clean : AllByRecursion IsUnbroken (symbol_stages (entries n is))
  symbols_clean =
      all_members IsUnbroken (symbol_stages (entries n is)) (λ j stage h.
      let x = of_map (λ x. symbol_stage (entry_context (entries n is) x)) (enumerate_from 0 (entries n is)) j stage h in
      let e = of_enumerated 0 (entries n is) j x.0 x.1 in
      let i : x.0.0 ≡ j = e.0 ∙ omega arith in
      subst IsUnbroken x.2 (stage_clean x.0.0 x.0.1 (ap (slice_get (entries n is)) i ∙ e.1)))
