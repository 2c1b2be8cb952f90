-- The rows of the tables of Mach-O: what is written by them is read by them.
use Rattle.std.proofs.Common.{◌≡◌, ℕ, suc, Bool, true, false, ◌&&◌, cond, List, [], ◌∷◌, Some, None, refl, sym, ◌∙◌, ap, inl, inr, arith}
use Rattle.std.specs.{Prelude.{◌⊎◌, slice_get, nat_eq, is_some, find}, List.{AllByRecursion}}
use Rattle.std.proofs.lemmas.{Bool.{true≢false}, Option.{none-some}}
use Rattle.oc_base.specs.{declared.format.Word.{Word}, declared.format.Word.TheVariants.{W32, W64}, declared.format.Format.TheVariants.{Mac64}}
use Rattle.oc_linking.specs.declared.terms.Base.TheVariants as base
use Rattle.oc_linking.specs.{declared.terms.Check.TheVariants.{Signed}, declared.terms.Hint.{Hint}, declared.terms.Width.TheVariants.{Four, Eight}}
use Rattle.oc_linking.specs.declared.terms.Less.TheVariants as less
use Rattle.oc_algebra.specs.declared.form.Form.{Form}
use Rattle.oc_neutral.specs.Mach.SelfReferences.{is_address, is_place, is_eight, is_long_distance}
use Rattle.oc_neutral.specs.Mach.Relocs.{MachRow, length_of, mach_entries, entry_among, is_entry}
use Rattle.oc_neutral.specs.{Rows.{Row, Taken, TakesZero, TakesPlace, TakesSection, same_taken}, Spelling.{written_row}}
use Rattle.oc_neutral.proofs.Positions.{each_at}
use Rattle.oc_macho.specs.declared.relocation_info.Reference.TheVariants as reference
use Rattle.oc_macho.specs.Entries.{row_for}

-- the types take nothing, the place or a section
pub data IsPlain (k : Taken) : Type 0 where
  PlainZero : k ≡ TakesZero → IsPlain k
  PlainPlace : k ≡ TakesPlace → IsPlain k
  PlainSection : k ≡ TakesSection → IsPlain k

-- an entry that stands alone may name a symbol, and in i386 a section
abbrev pub IsAloneRow : Word → MachRow → Type 0
IsAloneRow W32 m = (m.by_symbol ≡ true) × (m.by_section ≡ true)
IsAloneRow W64 m = m.by_symbol ≡ true

-- the second of a pair: a PAIR, both scattered; or an UNSIGNED, which could stand alone
abbrev pub IsPairRow : Word → MachRow → Type 0
IsPairRow W32 m = (m.row.second ≡ Some 1) × (length_of m.row.width ≡ 2) × (nat_eq m.row.number 1 ≡ false) × (m.by_address ≡ true)
IsPairRow W64 m =
    (m.row.second ≡ Some 0) × (m.by_symbol ≡ true)
    × ((at j : ℕ) → is_some (row_for W64 (record { r_address = at; r_pcrel = 0; r_length = length_of m.row.width; r_type = 0; refers = reference.Symbol j })) ≡ true)

-- differences of addresses; x86-64 has them in eight bytes, and in four that are signed
abbrev pub IsDifferenceRow : Word → MachRow → Type 0
IsDifferenceRow W32 m = m.row.base ≡ base.Address
IsDifferenceRow W64 m = (m.row.base ≡ base.Address) × ((m.row.width ≡ Eight) ⊎ ((m.row.width ≡ Four) × (m.row.check ≡ Signed)))

pub data IsKnown (w : Word) (m : MachRow) : Type 0 where
  KnownAlone : m.row.second ≡ None → IsAloneRow w m → same_taken m.row.taken TakesSection ≡ false → IsKnown w m
  KnownPair : IsPairRow w m → m.row.taken ≡ TakesSection → IsDifferenceRow w m → IsKnown w m

-- what is taken of a self-relative field that names a symbol
abbrev pub moves_own : Word → MachRow → Bool
moves_own W32 m = same_taken m.row.taken TakesPlace
moves_own W64 m = false

-- only a self-relative value of x86-64 is counted from behind the place
abbrev pub counted_behind : Word → MachRow → ℕ
counted_behind W32 m = m.row.behind
counted_behind W64 m = cond (same_taken m.row.taken TakesPlace) 0 m.row.behind

-- a row of the table
pub record IsMachRow (w : Word) (m : MachRow) : Type 0 where
  pub pcrel : m.pcrel ≡ cond (same_taken m.row.taken TakesPlace) 1 0
  pub moves : m.by_move ≡ moves_own w m
  pub behind : counted_behind w m ≡ 0
  pub plain : IsPlain m.row.taken
  pub known : IsKnown w m

abbrev lone_zero : {w : Word} {m : MachRow} → m.row.taken ≡ TakesZero → m.pcrel ≡ cond (same_taken m.row.taken TakesPlace) 1 0 → m.by_move ≡ moves_own w m → counted_behind w m ≡ 0
    → m.row.second ≡ None → IsAloneRow w m → same_taken m.row.taken TakesSection ≡ false → IsMachRow w m
lone_zero t a b c d e f = record { pcrel = a; moves = b; behind = c; plain = PlainZero t; known = KnownAlone d e f }

abbrev lone_place : {w : Word} {m : MachRow} → m.row.taken ≡ TakesPlace → m.pcrel ≡ cond (same_taken m.row.taken TakesPlace) 1 0 → m.by_move ≡ moves_own w m → counted_behind w m ≡ 0
    → m.row.second ≡ None → IsAloneRow w m → same_taken m.row.taken TakesSection ≡ false → IsMachRow w m
lone_place t a b c d e f = record { pcrel = a; moves = b; behind = c; plain = PlainPlace t; known = KnownAlone d e f }

abbrev paired : {w : Word} {m : MachRow} → m.row.taken ≡ TakesSection → m.pcrel ≡ cond (same_taken m.row.taken TakesPlace) 1 0 → m.by_move ≡ moves_own w m → counted_behind w m ≡ 0
    → IsPairRow w m → IsDifferenceRow w m → IsMachRow w m
paired t a b c p d = record { pcrel = a; moves = b; behind = c; plain = PlainSection t; known = KnownPair p t d }

pub mach_rows_known : (w : Word) → AllByRecursion (IsMachRow w) (mach_entries w)
unfolding row_for
mach_rows_known W32 = (
  lone_zero refl refl refl refl refl (refl, refl) refl,
  (
    lone_place refl refl refl refl refl (refl, refl) refl,
    (
      paired refl refl refl refl (refl, refl, refl, refl) refl,
      (paired refl refl refl refl (refl, refl, refl, refl) refl, tt),
    ),
  ),
)
mach_rows_known W64 = (
  lone_zero refl refl refl refl refl refl refl,
  (
    lone_zero refl refl refl refl refl refl refl,
    (
      lone_place refl refl refl refl refl refl refl,
      (
        lone_place refl refl refl refl refl refl refl,
        (
          lone_place refl refl refl refl refl refl refl,
          (
            lone_place refl refl refl refl refl refl refl,
            (
              lone_place refl refl refl refl refl refl refl,
              (
                lone_place refl refl refl refl refl refl refl,
                (
                  lone_place refl refl refl refl refl refl refl,
                  (
                    paired refl refl refl refl (refl, refl, λ at j. refl) (refl, inl refl),
                    (paired refl refl refl refl (refl, refl, λ at j. refl) (refl, inr (refl, refl)), tt),
                  ),
                ),
              ),
            ),
          ),
        ),
      ),
    ),
  ),
)

-- what a search finds is there, and passes
find_from : {X : Type 0} (test : X → Bool) (xs : List X) (x : X) → find test xs ≡ Some x → (k : ℕ) × (slice_get xs k ≡ Some x)
find_from test [] x e = absurd (none-some x e)
find_from {X} test (y ∷ xs) x e = by (test y) (λ h. find_from test xs x h) e
  where
    by : (b : Bool) → (find test xs ≡ Some x → (k : ℕ) × (slice_get xs k ≡ Some x)) → cond b (Some y) (find test xs) ≡ Some x → (k : ℕ) × (slice_get (y ∷ xs) k ≡ Some x)
    by true rest h = (0, h)
    by false rest h = let r = rest h in (suc r.0, r.1)

-- so what is found for an entry is known
pub known_entry : (w : Word) (number pcrel len : ℕ) (m : MachRow) → entry_among (mach_entries w) number pcrel len ≡ Some m → IsMachRow w m
known_entry w number pcrel len m e =
    let f = find_from (is_entry number pcrel len) (mach_entries w) m e in
    each_at (IsMachRow w) (mach_entries w) f.0 m (mach_rows_known w) f.1

-- four signed bytes less the place of the field are self-relative, and no pair
short_row : (hint : Hint) (row : Row) → written_row Mac64 (record { base = base.Address; less = less.Place; width = Four; check = Signed }) hint ≡ Some row → same_taken row.taken TakesSection ≡ false
unfolding written_row
short_row hint row e = grind arith

-- so a pair that is written for a field less its place has eight bytes
pub long_only : (form : Form) (hint : Hint) (row : Row) → written_row Mac64 form hint ≡ Some row → form.less ≡ less.Place → row.base ≡ form.base → row.width ≡ form.width → row.check ≡ form.check
    → row.taken ≡ TakesSection → row.base ≡ base.Address → (row.width ≡ Eight) ⊎ ((row.width ≡ Four) × (row.check ≡ Signed)) → is_long_distance form ≡ true
long_only form hint row written place b wide check taken address (inl eight) =
    ap (λ x. is_address x && is_place form.less && is_eight form.width) (sym b ∙ address) ∙ ap (λ x. is_place x && is_eight form.width) place ∙ ap is_eight (sym wide ∙ eight)
long_only form hint row written place b wide check taken address (inr four) =
    let same : form ≡ record { base = base.Address; less = less.Place; width = Four; check = Signed }
    = ap (λ x. record { base = x; less = form.less; width = form.width; check = form.check }) (sym b ∙ address)
    ∙ ap (λ x. record { base = base.Address; less = x; width = form.width; check = form.check }) place
    ∙ ap (λ x. record { base = base.Address; less = less.Place; width = x; check = form.check }) (sym wide ∙ four.0)
    ∙ ap (λ x. record { base = base.Address; less = less.Place; width = Four; check = x }) (sym check ∙ four.1) in
    absurd (true≢false (ap (λ t. same_taken t TakesSection) (sym taken) ∙ short_row hint row (ap (λ f. written_row Mac64 f hint) (sym same) ∙ written)))
