-- The targets and the rows of the canonical file's fixups are those of its object's relocations.
use Rattle.std.proofs.Common.{◌≡◌, ℕ, zero, suc, ◌+◌, ◌-◌, inl, inr, nat_le, true, false, not, ◌&&◌, cond, nat_eq, if◌then◌else◌, bytes_eq, List, [], ◌∷◌, ◌++◌, length, map, Some, None, refl, sym, ◌∙◌, ap, subst, arith}
use Rattle.std.specs.{Prelude.{slice_get, flat_map, filter_map, codes}, List.{enumerate_from}, Option.{option_map, option_map_or, option_and_then, unwrap_or}}
use Rattle.std.proofs.lemmas.{Bool.{eq-eqb, ne_eqb}, Bool.Decides.{nat_tests}, Grind.{flat_map-append}, List.{length-map}}
use Rattle.std.proofs.lemmas.Option.{none-some, same_Some, slice_get_within}
use Rattle.oc_linking.specs.{declared.terms.Binding.{Binding}, declared.terms.Binding.TheVariants.{Local, Global, Undefined, Common, Weak}, Rules.{Symbolic}}
use Rattle.oc_linking.specs.{Parts.{is_local}, Targets.{Target, symbol_target}, Values.{numbered}}
use Rattle.oc_neutral.specs.{declared.symbol.Symbol.{Symbol}, declared.reloc.Reloc.{Reloc}, Bindings.{is_external}, Faces.{shown_symbol, shown_symbols}}
use Rattle.oc_neutral.specs.{Objects.{Object, reloc_at}, Omf.Relocs.{FixupFrame, ByFlat, ByTarget, BySelf, fixup_row}}
use Rattle.oc_neutral.specs.declared.reloc.Target.TheVariants as target
use Rattle.oc_shows.specs.{Manners.{omf_manner}, Seen.{seen_symbol}}
use Rattle.oc_shelf.proofs.WritingLaws.MemberLemmas.{each_append, each_filter_map, member_map}
use Rattle.oc_omf.specs.{declared.structures.Method.{Method}, Structures.{External}, Tables.{Tables, indexed, is_there}}
use Rattle.oc_omf.specs.{Symbols.{Mention, external_mention, number_of, symbol_of}, Fixups.{Fixed}}
use Rattle.oc_omf.specs.{Targets.{Meaning, section_target, target_of, is_flat, is_home}, Fields.{framed_row, row_of}}
use Rattle.oc_made_files.proofs.MadeLaws.{named_by_symbol}
use Rattle.oc_omf_file.specs.Outputs.{Output, external_by, communal_by, external_output, communal_output, public_output, indexed_outputs, symbol_outputs, symbol_number}
use Rattle.oc_omf_file.specs.{Fixups.{is_row, written_reloc, target_method}, Canonical.{segment_of}}
use Rattle.oc_omf_file.specs.Outputs as output
use Rattle.oc_omf_file.proofs.{FixupLaws.{frame_by}, MadeLaw.{is_row_of}, GivenLaws.{externals_by}, NameLaws.{names_begin}, BehindLaws.{made_tables}}
use Rattle.oc_omf_file.proofs.{CodedLaws.{IsForOmf, framed, row_is}, LineLaws.{key_of, number_is, indexed_there, symbol_there}, AimLaws.{aimed}}
use Rattle.oc_omf_file.proofs.{SeenLaws.{shown, again, syms}, SymbolLaws.{mentioned, mention_number, symbol_read, symbols_made}, FixedLaws.{IsFixed, reloc_of}}

-- what indexes mean in the file
abbrev pub meant : Object → Meaning
meant n = record { tables = made_tables n; mentions = map mentioned (symbol_outputs n); symbols = shown_symbols (again n) }

-- an external is no Local
pub is_outer : (b : Binding) → is_external b ≡ true → is_local b ≡ false
is_outer b e = grind arith

-- where each gives one thing, the thing of a position is that of its output
one_each : {X Y : Type 0} (f : X → List Y) (xs : List X) (rest : List Y) → ((j : ℕ) (x : X) → slice_get xs j ≡ Some x → (y : Y) × (f x ≡ y ∷ []))
    → (i : ℕ) (x : X) (y : Y) → slice_get xs i ≡ Some x → f x ≡ y ∷ []
    → slice_get (flat_map f xs ++ rest) i ≡ Some y
one_each f [] rest each i x y h e = absurd (none-some x h)
one_each f (z ∷ xs) rest each zero x y h e = ap (λ u. slice_get ((f u ++ flat_map f xs) ++ rest) 0) (same_Some z x h) ∙ ap (λ ys. slice_get ((ys ++ flat_map f xs) ++ rest) 0) e
one_each f (z ∷ xs) rest each (suc i) x y h e =
    let own = each 0 z refl in
    ap (λ ys. slice_get ((ys ++ flat_map f xs) ++ rest) (suc i)) own.1 ∙ one_each f xs rest (λ j u g. each (suc j) u g) i x y h e

-- what an indexed output gives
pub record GivesOne (o : Output) : Type 0 where
  pub external : External
  pub is : externals_by o ≡ external ∷ []
  pub mention : external_mention external ≡ mentioned o

external_one : (x : ℕ × Symbol) (b : Binding) (o : Output) → external_by b x.0 x.1 ≡ Some o → GivesOne o
external_one x Undefined o e = subst GivesOne (same_Some (output.External x.0 x.1) o e) (record { external = _; is = refl; mention = refl })
external_one x (Local v) o e = absurd (none-some o e)
external_one x (Global v) o e = absurd (none-some o e)
external_one x (Common size align) o e = absurd (none-some o e)
external_one x (Weak f) o e = absurd (none-some o e)

communal_one : (x : ℕ × Symbol) (b : Binding) (o : Output) → communal_by b x.0 x.1 ≡ Some o → GivesOne o
communal_one x (Common size align) o e = subst GivesOne (same_Some (output.Communal x.0 x.1) o e) (record { external = _; is = refl; mention = refl })
communal_one x (Local v) o e = absurd (none-some o e)
communal_one x (Global v) o e = absurd (none-some o e)
communal_one x Undefined o e = absurd (none-some o e)
communal_one x (Weak f) o e = absurd (none-some o e)

pub gives_one : (n : Object) (i : ℕ) (o : Output) → slice_get (indexed_outputs n) i ≡ Some o → GivesOne o
gives_one n =
    each_append GivesOne _ _
    (each_filter_map GivesOne external_output (enumerate_from 0 n.symbols) (λ j x h o e. external_one x x.1.binding o e))
    (each_filter_map GivesOne communal_output (enumerate_from 0 n.symbols) (λ j x h o e. communal_one x x.1.binding o e))

-- the symbol of a number
numbered_at : (t : Tables) (at : ℕ) (xs : List Mention) (i : ℕ) (x : Mention) → slice_get xs i ≡ Some x → numbered (map (symbol_of t) (enumerate_from at xs)) (at + i) ≡ Some (symbol_of t (at + i, x))
numbered_at t at [] i x h = absurd (none-some x h)
numbered_at t at (y ∷ xs) zero x h =
    let e : at ≡ at + 0 = omega arith in
    ap (λ b. cond b (Some (symbol_of t (at, y))) (numbered (map (symbol_of t) (enumerate_from (at + 1) xs)) (at + 0))) (eq-eqb at (at + 0) e)
    ∙ ap (λ z. Some (symbol_of t (at, z))) (same_Some y x h) ∙ ap (λ k. Some (symbol_of t (k, x))) e
numbered_at t at (y ∷ xs) (suc i) x h =
    let e : at + 1 + i ≡ at + suc i = omega arith in
    ap (λ b. cond b (Some (symbol_of t (at, y))) (numbered (map (symbol_of t) (enumerate_from (at + 1) xs)) (at + suc i))) (ne_eqb at (at + suc i) (λ f. omega (arith, f)))
    ∙ ap (numbered (map (symbol_of t) (enumerate_from (at + 1) xs))) (sym e)
    ∙ numbered_at t (at + 1) xs i x h ∙ ap (λ k. Some (symbol_of t (k, x))) e

module _ (n : Object) (is : IsForOmf n) where
  -- ... externals

  pub externals_at : (es : List External) → es ≡ flat_map externals_by (symbol_outputs n) → (i : ℕ) (o : Output) → slice_get (indexed_outputs n) i ≡ Some o
      → (g : GivesOne o) → slice_get es i ≡ Some g.external
  unfolding symbol_outputs
  externals_at es same i o h g =
      ap (λ xs. slice_get xs i) (same ∙ flat_map-append externals_by (indexed_outputs n) (filter_map public_output (enumerate_from 0 n.symbols)))
      ∙ one_each externals_by (indexed_outputs n) _ (λ j x f. let one = gives_one n j x f in (one.external, one.is)) i o g.external h g.is

  -- the index of an external symbol
  pub record IsNumbered (k : ℕ) : Type 0 where
    pub index : ℕ
    pub out : Output
    pub here : slice_get (indexed_outputs n) index ≡ Some out
    pub there : slice_get (symbol_outputs n) index ≡ Some out
    pub key : key_of out ≡ k
    pub number : symbol_number n k ≡ index
    pub one : GivesOne out

  pub numbered_symbol : (k : ℕ) (s : Symbol) → slice_get n.symbols k ≡ Some s → is_external s.binding ≡ true → IsNumbered k
  numbered_symbol k s here external =
      let m = indexed_there n is k s here external in
      let there = symbol_there n is m.index m.output m.here in
      record {
        index = m.index;
        out = m.output;
        here = m.here;
        there = there;
        key = m.key;
        number = ap (symbol_number n) (sym m.key) ∙ number_is n is m.index m.output there;
        one = gives_one n m.index m.output m.here;
      }

  -- a symbol as a target
  abbrev pub outer_target : ℕ → Target
  outer_target number = record { named = Symbolic number; worth = λ p v. v number }

  indexed_at : {X : Type 0} (xs : List X) (i : ℕ) → indexed xs (i + 1) ≡ slice_get xs i
  indexed_at xs i =
      let some : nat_eq (i + 1) 0 ≡ false = grind (arith, nat_tests) in
      let back : i + 1 - 1 ≡ i = omega arith in
      ap (λ b. if b then None else slice_get xs (i + 1 - 1)) some ∙ ap (slice_get xs) back

  pub symbol_target_read : (k : ℕ) (s : Symbol) → slice_get n.symbols k ≡ Some s → is_external s.binding ≡ true
      → target_of (meant n) (target_method n (target.Symbol k)) ≡ Some (outer_target (symbol_number n k))
  symbol_target_read k s here external =
      let m = numbered_symbol k s here external in
      let at : slice_get n.symbols (key_of m.out) ≡ Some s = ap (slice_get n.symbols) m.key ∙ here in
      let e : 0 + m.index ≡ m.index = omega arith in
      let mention = member_map mentioned (symbol_outputs n) m.index m.out m.there in
      let found : numbered (shown_symbols (again n)) m.index ≡ Some (symbol_of (made_tables n) (m.index, mentioned m.out))
      = ap (λ xs. numbered xs m.index) (sym (symbols_made n is)) ∙ ap (numbered (map (symbol_of (made_tables n)) (enumerate_from 0 (map mentioned (symbol_outputs n))))) (sym e)
      ∙ numbered_at (made_tables n) 0 (map mentioned (symbol_outputs n)) m.index (mentioned m.out) mention ∙ ap (λ i. Some (symbol_of (made_tables n) (i, mentioned m.out))) e in
      let symbol : symbol_of (made_tables n) (m.index, mentioned m.out) ≡ shown_symbol (syms n) (seen_symbol omf_manner n (shown n) m.index s) = symbol_read n is m.index m.out s m.there at in
      ap (λ o. option_and_then symbol_target (option_and_then (λ x. numbered (shown_symbols (again n)) (number_of (map mentioned (symbol_outputs n)) (external_mention x))) o))
      (indexed_at (made_tables n).externals (symbol_number n k) ∙ ap (slice_get (made_tables n).externals) m.number ∙ externals_at (made_tables n).externals refl m.index m.out m.here m.one)
      ∙ ap (λ y. option_and_then symbol_target (numbered (shown_symbols (again n)) (number_of (map mentioned (symbol_outputs n)) y))) m.one.mention
      ∙ ap (λ j. option_and_then symbol_target (numbered (shown_symbols (again n)) j)) (mention_number n is m.index m.out m.there)
      ∙ ap (option_and_then symbol_target) found
      ∙ ap symbol_target symbol
      ∙ ap (option_map (λ named. record { named = named; worth = λ p v. v m.index })) (named_by_symbol omf_manner n m.index s.binding (is_outer s.binding external))
      ∙ ap (λ j. Some (outer_target j)) (sym m.number)

  pub section_target_read : (k : ℕ) → target_of (meant n) (target_method n (target.Section k)) ≡ Some (section_target k)
  section_target_read k = let back : k + 1 - 1 ≡ k = omega arith in ap (λ j. Some (section_target j)) back

  -- ... rows

  pub is_flat_group : is_flat (meant n) (record { number = 1; index = 1 }) ≡ true
  is_flat_group = let names = names_begin n in ap (λ xs. bytes_eq (unwrap_or (indexed xs 2) []) (codes "FLAT")) names.1

  row_by_frame : (f : FixupFrame) (x : Fixed) (t : Target) → x.fixup.segment_relative ≡ not (is_row BySelf (fixup_row f))
      → x.frame ≡ Some (frame_by (is_row ByTarget (fixup_row f))) → row_of (meant n) x t ≡ Some (fixup_row f)
  row_by_frame ByFlat x t relative frame =
      ap (λ b. if b then option_and_then (framed_row (meant n) x t) x.frame else Some (fixup_row BySelf)) relative
      ∙ ap (option_and_then (framed_row (meant n) x t)) frame
      ∙ ap (λ b. if b then Some (fixup_row ByFlat) else if is_home (meant n) x.piece (record { number = 1; index = 1 }) t then Some (fixup_row ByTarget) else None) is_flat_group
  row_by_frame ByTarget x t relative frame =
      ap (λ b. if b then option_and_then (framed_row (meant n) x t) x.frame else Some (fixup_row BySelf)) relative
      ∙ ap (option_and_then (framed_row (meant n) x t)) frame
  row_by_frame BySelf x t relative frame = ap (λ b. if b then option_and_then (framed_row (meant n) x t) x.frame else Some (fixup_row BySelf)) relative

  -- the row of a fixup
  pub row_read : (q : ℕ) (f : Fixed) (g : IsFixed n is q f) (t : Target) → row_of (meant n) f t ≡ Some (fixup_row (framed n is g.k g.x.at g.x.item (reloc_of n is q f g)))
  row_read q f g t =
      let own : (a : FixupFrame) → is_row_of a g.x.item ≡ is_row a (fixup_row (framed n is g.k g.x.at g.x.item (reloc_of n is q f g)))
      = λ a. ap (λ o. option_map_or (is_row a) o false) (row_is n is g.k g.x.at g.x.item (reloc_of n is q f g)) in
      row_by_frame (framed n is g.k g.x.at g.x.item (reloc_of n is q f g)) f t
      (ap (λ (h : Fixed). h.fixup.segment_relative) g.is_made ∙ ap not (own BySelf))
      (ap (λ (h : Fixed). h.frame) g.is_made ∙ ap (λ b. Some (frame_by b)) (own ByTarget))

  -- what a fixup is against
  pub record IsAimed (r : Reloc) : Type 0 where
    pub aim : Target
    pub is_aim : target_of (meant n) (target_method n (written_reloc n r).target) ≡ Some aim
    pub there : (method : Method) → method ≡ target_method n (written_reloc n r).target → (t : Tables) → t.segments ≡ (made_tables n).segments → t.externals ≡ (made_tables n).externals → is_there t method ≡ true

  pub aim_read : (k at : ℕ) (r : Reloc) → reloc_at n k at ≡ Some r → IsAimed r
  aim_read k at r there = elim (aimed n is k at r there) [
    | inl a ↦ record {
      aim = section_target a.position;
      is_aim = ap (λ t. target_of (meant n) (target_method n t)) a.aim ∙ section_target_read a.position;
      there = λ method e t segments externals.
          let low = slice_get_within n.sections a.position a.section a.here in
          let many : length t.segments ≡ length n.sections = ap length segments ∙ length-map n.sections (segment_of n) in
          let inside : (nat_le 1 (a.position + 1) && nat_le (a.position + 1) (length t.segments)) ≡ true = grind (arith, nat_tests) in
          ap (is_there t) (e ∙ ap (target_method n) a.aim) ∙ inside;
    }
    | inr a ↦ record {
      aim = outer_target (symbol_number n a.position);
      is_aim = ap (λ t. target_of (meant n) (target_method n t)) a.aim ∙ symbol_target_read a.position a.symbol a.here a.external;
      there = λ method e t segments externals.
          let m = numbered_symbol a.position a.symbol a.here a.external in
          let number = m.number in
          let low = slice_get_within t.externals m.index m.one.external (externals_at t.externals externals m.index m.out m.here m.one) in
          let inside : (nat_le 1 (symbol_number n a.position + 1) && nat_le (symbol_number n a.position + 1) (length t.externals)) ≡ true = grind (arith, nat_tests) in
          ap (is_there t) (e ∙ ap (target_method n) a.aim) ∙ inside;
    }
  ]
