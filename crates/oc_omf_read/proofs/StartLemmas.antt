-- What is built before the relocations is what the module starts with.
use Rattle.std.proofs.Common.{◌≡◌, ℕ, zero, suc, ◌+◌, Bool, true, false, cond, List, [], ◌∷◌, ◌++◌, length, map, take, drop, replicate, Option, None, Some, refl, sym, ◌∙◌, ap, subst, arith}
use Rattle.std.specs.{Prelude.{◌&&◌, ◌||◌, not, bytes_eq, codes, fold, nat_lt, slice_get}, List.{enumerate_from, list_any}, Option.{option_map, option_map_or}}
use Rattle.std.proofs.lemmas.{Bool.{true≢false}, Bool.Decides.{nat_tests}, List.{take-append-drop}, Option.{none-some, same_Some, slice_get-map}}
use Rattle.std.proofs.Math.Seq.{take-length}
use Rattle.oc_base.specs.{declared.format.Format.TheVariants.{Omf}, Strings.{ends}}
use Rattle.oc_linking.specs.{declared.terms.Binding.TheVariants.{Undefined, Common, Weak}, declared.terms.Fallback.{Fallback}, declared.terms.Keep.{Keep}}
use Rattle.oc_linking.specs.declared.terms.Kind.TheVariants.{Code, ReadOnly, Data, Zero, Debug}
use Rattle.oc_linking.specs.declared.terms.Fallback.TheVariants as fallback
use Rattle.oc_linking.specs.Parts as parts
use Rattle.oc_neutral.specs.{Building.{is_zero}, Invariants.{IsDraft}, KindRules.{begins}, Omf.Kinds.{omf_kind}, Powers.{natural_align}}
use Rattle.oc_shows.specs.{Built.{IsStarted}, Computed.{computed_symbol, keys_after, keys_in}, Shows.{AreNumbered}}
use Rattle.oc_shows.specs.Started.{groups_by, plain_draft, start_of, stored_section}
use Rattle.oc_shows.proofs.StartedLaws.{start_is_started}
use Rattle.oc_omf_records.specs.Blocks.{denotation}
use Rattle.oc_omf_records.proofs.CopyLaws.{length-denotation}
use Rattle.oc_omf.specs.{declared.structures.Segment.{Segment}, Structures.{Piece}, Entries.{Entry, entries_in}, Rules.{omf_dialect}}
use Rattle.oc_omf.specs.Sections.{blocks_in, contents_of, is_covered, laid_over, piece_size, pieces_of, section_of, sections_in, segment_kind, segment_size}
use Rattle.oc_omf.specs.{Symbols.{Mention, mentions_in, symbol_of, symbols_in}, Tables.{name_at, tables_of}}
use Rattle.oc_omf.specs.Tables as all
use Rattle.oc_omf_read.specs.{Bindings.{binding_seen, place_binding}, Built.{started}, Declarations.{declarations_in}, Mentioned.{ModuleSymbol, seen_in}}
use Rattle.oc_omf_read.proofs.BindingLemmas.{binding_is}

-- ... no section is in a group

no_groups : (t : all.Tables) (xs : List (ℕ × Segment)) → keys_after [] (map (λ (s : parts.Section). s.group) (map (section_of t) xs)) ≡ []
no_groups t [] = refl
no_groups t (x ∷ xs) = no_groups t xs

no_keys : (b : List ℕ) → keys_in omf_dialect b ≡ []
unfolding sections_in
no_keys b = no_groups (tables_of (entries_in b)) (enumerate_from 1 (tables_of (entries_in b)).segments)

pub start_same : (b : List ℕ) (keep : Keep) → start_of omf_dialect b keep ≡ started b
start_same b keep =
    ap (λ (keys : List (List ℕ)). plain_draft Omf (groups_by keys) (map (stored_section keys) (sections_in (tables_of (entries_in b)))) (map (computed_symbol (symbols_in (entries_in b))) (symbols_in (entries_in b)))) (no_keys b)
    ∙ ap (λ (ys : List parts.Symbol). plain_draft Omf [] (map (stored_section []) (sections_in (tables_of (entries_in b)))) (map (computed_symbol (symbols_in (entries_in b))) ys)) (sym (take-length (symbols_in (entries_in b))))

-- ... a section of zeros holds zeros

pub zero_uncovered : (class : List ℕ) (covered : Bool) → is_zero (omf_kind class covered) ≡ true → covered ≡ false
unfolding omf_kind
zero_uncovered class covered is = by (ends (codes "CODE") class) (begins class (codes "DEB")) (bytes_eq class (codes "CONST")) (bytes_eq class (codes "BSS")) covered is
  where
    by : (a b c d e : Bool) → is_zero (cond a Code (cond b Debug (cond c ReadOnly (cond (d && not e) Zero Data)))) ≡ true → e ≡ false
    by a b c d e h = grind arith

empty_laid : (d : Piece) (bytes : List ℕ) → nat_lt 0 (piece_size d) ≡ false → laid_over bytes d ≡ bytes
empty_laid d bytes none =
    let zero_of : piece_size d ≡ 0 = none_left (piece_size d) none in
    let long = length-denotation (blocks_in d.blocks) in
    ap (λ (xs : List ℕ). take d.offset bytes ++ (xs ++ drop (d.offset + piece_size d) bytes)) (none_of (denotation (blocks_in d.blocks)) (omega (arith, zero_of, long)))
    ∙ ap (λ (n : ℕ). take d.offset bytes ++ drop n bytes) (let same : d.offset + piece_size d ≡ d.offset = omega (arith, zero_of) in same) ∙ take-append-drop d.offset bytes
  where
    none_left : (n : ℕ) → nat_lt 0 n ≡ false → n ≡ 0
    none_left n e = grind (arith, nat_tests)

    none_of : (xs : List ℕ) → length xs ≡ 0 → xs ≡ []
    none_of [] e = refl
    none_of (x ∷ xs) e = absurd (omega (arith, e))

empty_all : (ds : List Piece) (bytes : List ℕ) → list_any (λ d. nat_lt 0 (piece_size d)) ds ≡ false → fold laid_over bytes ds ≡ bytes
empty_all [] bytes none = refl
empty_all (d ∷ ds) bytes none =
    let both = neither (nat_lt 0 (piece_size d)) (list_any (λ d. nat_lt 0 (piece_size d)) ds) none in
    ap (λ (xs : List ℕ). fold laid_over xs ds) (empty_laid d bytes both.0) ∙ empty_all ds bytes both.1
  where
    neither : (a b : Bool) → (a || b) ≡ false → (a ≡ false) × (b ≡ false)
    neither a b e = grind arith

zeros_at : (t : all.Tables) (x : ℕ × Segment) → is_zero (segment_kind t x.0 x.1) ≡ true → contents_of t x.0 (segment_size x.1) ≡ replicate (segment_size x.1) 0
unfolding contents_of
zeros_at t x is = empty_all (pieces_of t x.0) (replicate (segment_size x.1) 0) (zero_uncovered (name_at t x.1.class) (is_covered t x.0) is)

zeros_in : (t : all.Tables) (k : ℕ) (s : parts.Section) → slice_get (sections_in t) k ≡ Some s → is_zero s.kind ≡ true → s.contents ≡ replicate s.size 0
unfolding sections_in
zeros_in t k s there = by (slice_get (enumerate_from 1 t.segments) k) (sym (slice_get-map (section_of t) (enumerate_from 1 t.segments) k) ∙ there)
  where
    by : (o : Option (ℕ × Segment)) → option_map (section_of t) o ≡ Some s → is_zero s.kind ≡ true → s.contents ≡ replicate s.size 0
    by None e = absurd (none-some s e)
    by (Some x) e = subst (λ (y : parts.Section). is_zero y.kind ≡ true → y.contents ≡ replicate y.size 0) (same_Some (section_of t x) s e) (zeros_at t x)

-- ... symbols

numbered_place : {X : Type 0} (n : ℕ) (xs : List X) (i : ℕ) (y : ℕ × X) → slice_get (enumerate_from n xs) i ≡ Some y → y.0 ≡ i + n
numbered_place n [] i y e = absurd (none-some y e)
numbered_place {X} n (x ∷ xs) zero y e = ap (λ (z : ℕ × X). z.0) (sym (same_Some (n, x) y e)) ∙ (let none : n ≡ 0 + n = omega arith in none)
numbered_place n (x ∷ xs) (suc i) y e = let rest = numbered_place (n + 1) xs i y e in omega (arith, rest)

pub symbol_number : (es : List Entry) (i : ℕ) (s : parts.Symbol) → slice_get (symbols_in es) i ≡ Some s → s.number ≡ i
unfolding symbols_in
symbol_number es i s there = by (slice_get (enumerate_from 0 (mentions_in es)) i) refl (sym (slice_get-map (symbol_of (tables_of es)) (enumerate_from 0 (mentions_in es)) i) ∙ there)
  where
    by : (o : Option (ℕ × Mention)) → slice_get (enumerate_from 0 (mentions_in es)) i ≡ o → option_map (symbol_of (tables_of es)) o ≡ Some s → s.number ≡ i
    by None h e = absurd (none-some s e)
    by (Some x) h e = ap (λ (y : parts.Symbol). y.number) (sym (same_Some (symbol_of (tables_of es) x) s e)) ∙ (let place = numbered_place 0 (mentions_in es) i x h in let same : x.0 ≡ i = omega (arith, place) in same)

pub are_numbered : (es : List Entry) → AreNumbered (symbols_in es)
are_numbered es i j s t low at_i at_j same = let a = symbol_number es i s at_i in let b = symbol_number es j t at_j in omega (arith, low, a, b, same)

not_weak : (s : ModuleSymbol) (g : Fallback) → binding_seen s ≡ Weak g → ⊥
not_weak s g e = by s.place s.length e
  where
    placed : (local : Bool) (place : ℕ × ℕ) → place_binding local place ≡ Weak g → ⊥
    placed local place e = grind arith

    by : (p : Option (ℕ × ℕ)) (n : Option ℕ) → option_map_or (place_binding s.local) p (option_map_or (λ size. Common size (natural_align size)) n Undefined) ≡ Weak g → ⊥
    by p n e = grind arith

no_weak : (es : List Entry) (k : ℕ) (s : parts.Symbol) (g : Fallback) → slice_get (symbols_in es) k ≡ Some s → s.binding ≡ Weak g → ⊥
unfolding symbols_in
no_weak es k s g there is = by (slice_get (enumerate_from 0 (mentions_in es)) k) (sym (slice_get-map (symbol_of (tables_of es)) (enumerate_from 0 (mentions_in es)) k) ∙ there)
  where
    by : (o : Option (ℕ × Mention)) → option_map (symbol_of (tables_of es)) o ≡ Some s → ⊥
    by None e = none-some s e
    by (Some x) e = not_weak (seen_in (declarations_in es) x.1) g (sym (binding_is es x.1) ∙ ap (λ (y : parts.Symbol). y.binding) (same_Some (symbol_of (tables_of es) x) s e) ∙ is)

pub is_started : (b : List ℕ) (keep : Keep) → IsDraft (started b) → IsStarted omf_dialect b keep (started b)
is_started b keep draft =
    subst (IsStarted omf_dialect b keep) (start_same b keep)
    (start_is_started omf_dialect b keep
    (record { word = refl; zeros = zeros_in (tables_of (entries_in b)); names = λ k number s there is. absurd (no_weak (entries_in b) k s (fallback.Name number) there is); numbered = are_numbered (entries_in b) })
    (subst IsDraft (sym (start_same b keep)) draft))
