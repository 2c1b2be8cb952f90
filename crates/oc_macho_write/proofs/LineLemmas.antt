-- Lines that are added in their order.
use Rattle.std.proofs.Common.{◌≡◌, ℕ, suc, ◌+◌, ◌-◌, ◌<◌, Bool, true, false, cond, List, [], ◌∷◌, ◌++◌, length, map, Some, refl, sym, ◌∙◌, ap, append_assoc, arith}
use Rattle.std.specs.{Prelude.{slice_get}, List.{filter, range_with_len}}
use Rattle.std.proofs.lemmas.List.{length-map}
use Rattle.oc_base.specs.declared.format.Word.{Word}
use Rattle.oc_shelf.proofs.WritingLaws.MemberLemmas.{of_map, member_map}
use Rattle.oc_neutral.specs.Objects.{Object}
use Rattle.oc_macho_file.specs.Lines as lines
use Rattle.oc_macho_file.specs.Lines.{lines_of, inner_lines, own_lines, local_lines, defined_lines, lines_where}
use Rattle.oc_macho_write.specs.{declared.lines.Line.{Line}, declared.lines.Outer.{Outer}}
use Rattle.oc_macho_write.specs.{declared.lines.Outer.TheVariants.{Defined, Undefined, Common, Optional}, Lines.{line_in, lines_in, AreLines, is_outer}}
use Rattle.oc_plans.proofs.Turns.{map_append}

-- the next position, and those behind it
pub range_more : (test : ℕ → Bool) (k m : ℕ) → k < m
    → map lines.OwnLine (filter test (range_with_len k (m - k))) ≡ cond (test k) (lines.OwnLine k ∷ []) [] ++ map lines.OwnLine (filter test (range_with_len (k + 1) (m - (k + 1))))
range_more test k m low =
    let e : m - k ≡ suc (m - (k + 1)) = omega (arith, low) in
    ap (λ i. map lines.OwnLine (filter test (range_with_len k i))) e ∙ by (test k) (m - (k + 1))
  where
    by : (b : Bool) (i : ℕ) → map lines.OwnLine (cond b (k ∷ filter test (range_with_len (k + 1) i)) (filter test (range_with_len (k + 1) i))) ≡ cond b (lines.OwnLine k ∷ []) [] ++ map lines.OwnLine (filter test (range_with_len (k + 1) i))
    by true i = refl
    by false i = refl

-- those that pass, of one kind
abbrev pub outer_lines : Object → Outer → List lines.Line
outer_lines n outer = lines_where lines.OuterLine (λ s. is_outer outer s.binding) n

-- the lines that this file alone knows
pub all_inner : (w : Word) (n : Object) (none owns locals : List Line) → none ≡ [] → lines_in n owns ≡ lines_in n none ++ map Some (own_lines w n)
    → lines_in n locals ≡ lines_in n owns ++ map Some (local_lines n) → lines_in n locals ≡ map Some (inner_lines w n)
all_inner w n none owns locals e f g =
    g ∙ ap (λ ls. ls ++ map Some (local_lines n)) (f ∙ ap (λ ls. lines_in n ls ++ map Some (own_lines w n)) e) ∙ sym (map_append Some (own_lines w n) (local_lines n))

pub as_long : (n : Object) (these : List Line) (xs : List lines.Line) → lines_in n these ≡ map Some xs → length these ≡ length xs
as_long n these xs are = sym (length-map these (line_in n)) ∙ ap length are ∙ length-map xs Some

-- with those that are defined here
pub with_defined : (w : Word) (n : Object) (inner defined : List Line) → lines_in n inner ≡ map Some (inner_lines w n)
    → lines_in n defined ≡ lines_in n inner ++ map Some (outer_lines n Defined) → lines_in n defined ≡ map Some (inner_lines w n ++ defined_lines n)
with_defined w n inner defined e f = f ∙ ap (λ ls. ls ++ map Some (defined_lines n)) e ∙ sym (map_append Some (inner_lines w n) (defined_lines n))

-- with the others they are all
pub all_lines : (w : Word) (n : Object) (defined a b all : List Line) → lines_in n defined ≡ map Some (inner_lines w n ++ defined_lines n)
    → lines_in n a ≡ lines_in n defined ++ map Some (outer_lines n Undefined)
    → lines_in n b ≡ lines_in n a ++ map Some (outer_lines n Common)
    → lines_in n all ≡ lines_in n b ++ map Some (outer_lines n Optional) → AreLines w n all
unfolding lines_of
all_lines w n defined a b all e f g h =
    let us : List lines.Line = outer_lines n Undefined in
    let cs : List lines.Line = outer_lines n Common in
    let zs : List lines.Line = outer_lines n Optional in
    let ds : List lines.Line = inner_lines w n ++ defined_lines n in
    h ∙ ap (λ ls. ls ++ map Some zs) (g ∙ ap (λ ls. ls ++ map Some cs) (f ∙ ap (λ ls. ls ++ map Some us) e))
    ∙ ap (λ ls. (ls ++ map Some cs) ++ map Some zs) (sym (map_append Some ds us))
    ∙ ap (λ ls. ls ++ map Some zs) (sym (map_append Some (ds ++ us) cs))
    ∙ sym (map_append Some ((ds ++ us) ++ cs) zs)
    ∙ ap (map Some) (append_assoc (ds ++ us) cs zs ∙ append_assoc ds us (cs ++ zs) ∙ append_assoc (inner_lines w n) (defined_lines n) (us ++ (cs ++ zs)))

-- ... one of the lines

pub line_listed : (w : Word) (n : Object) (these : List Line) (k : ℕ) (this : Line) → AreLines w n these → slice_get these k ≡ Some this
    → (x : lines.Line) × (slice_get (lines_of w n) k ≡ Some x) × (line_in n this ≡ Some x)
line_listed w n these k this are here =
    let m = of_map Some (lines_of w n) k (line_in n this) (ap (λ ls. slice_get ls k) (sym are) ∙ member_map (line_in n) these k this here) in
    (m.0, m.1, sym m.2)

pub as_many_lines : (w : Word) (n : Object) (these : List Line) → AreLines w n these → length these ≡ length (lines_of w n)
as_many_lines w n these are = as_long n these (lines_of w n) are
