-- The entries of a table, in the order of their places.
use Rattle.std.proofs.Common.{◌≡◌, ℕ, ◌<◌, Bool, true, false, cond, List, length, None, Some, refl, sym, ◌∙◌, ap, subst, get_or}
use Rattle.std.specs.{Prelude.{slice_get}, List.Sorted.{IsPermutation}}
use Rattle.std.proofs.lemmas.Option.{none-some, same_Some, get_or_from_slice_get, slice_get-get_or, slice_get_within}
use Rattle.oc_shelf.specs.{declared.reading.order.PlacedEntry.{PlacedEntry}, Reading.Collected.{collected}, Reading.Order.{is_among}}
use Rattle.oc_shelf.proofs.ReadingLaws.PlacedLemmas.{among_all, each_placed}
use Rattle.oc_coff.specs.{declared.relocation.Relocation.{Relocation}, Fields.{says_nothing}}
use Rattle.oc_coff_read.specs.Given.{entry_in, placed, placed_as}

-- entry k of a table stands there
pub entry_at : (relocs : List Relocation) (k : ℕ) → k < length relocs → slice_get relocs k ≡ Some (entry_in relocs k)
entry_at relocs k low = slice_get-get_or relocs k (record { VirtualAddress = 0; SymbolTableIndex = 0; «Type» = 0 }) low

pub entry_is : (relocs : List Relocation) (k : ℕ) (r : Relocation) → slice_get relocs k ≡ Some r → entry_in relocs k ≡ r
entry_is relocs k r here = get_or_from_slice_get relocs k r (record { VirtualAddress = 0; SymbolTableIndex = 0; «Type» = 0 }) here

-- entries of a table that differ in their offsets, where they say something
abbrev pub Differ : List Relocation → Type 0
Differ relocs = (a b : ℕ) → a < b → b < length relocs → says_nothing (entry_in relocs a) ≡ false → says_nothing (entry_in relocs b) ≡ false → (entry_in relocs a).VirtualAddress ≡ (entry_in relocs b).VirtualAddress → ⊥

-- an entry that says something, with the offset of its field
pub record IsPlacedEntry (relocs : List Relocation) (x : PlacedEntry) : Type 0 where
  pub low : x.index < length relocs
  pub busy : says_nothing (entry_in relocs x.index) ≡ false
  pub place : (entry_in relocs x.index).VirtualAddress ≡ x.place

placed_is : (relocs : List Relocation) (k : ℕ) (x : PlacedEntry) → placed relocs k ≡ Some x → (says_nothing (entry_in relocs k) ≡ false) × (record { place = (entry_in relocs k).VirtualAddress; index = k } ≡ x)
placed_is relocs k x e = by (says_nothing (entry_in relocs k)) refl e
  where
    by : (b : Bool) → says_nothing (entry_in relocs k) ≡ b → cond b None (Some (record { place = (entry_in relocs k).VirtualAddress; index = k })) ≡ Some x
        → (says_nothing (entry_in relocs k) ≡ false) × (record { place = (entry_in relocs k).VirtualAddress; index = k } ≡ x)
    by true h g = absurd (none-some x g)
    by false h g = (h, same_Some (record { place = (entry_in relocs k).VirtualAddress; index = k }) x g)

placed_entry : (relocs : List Relocation) (k : ℕ) (x : PlacedEntry) → k < length relocs → placed relocs k ≡ Some x → IsPlacedEntry relocs x
placed_entry relocs k x low e = let is = placed_is relocs k x e in subst (IsPlacedEntry relocs) is.1 (record { low = low; busy = is.0; place = refl })

-- no two are at one place
pub differ_placed : (relocs : List Relocation) → Differ relocs → (j k : ℕ) (x y : PlacedEntry) → j < k → k < length relocs → placed relocs j ≡ Some x → placed relocs k ≡ Some y → x.place ≡ y.place → ⊥
differ_placed relocs differ j k x y less low at_j at_k same =
    let a = placed_is relocs j x at_j in
    let b = placed_is relocs k y at_k in
    differ j k less low a.0 b.0 (ap (λ (p : PlacedEntry). p.place) a.1 ∙ same ∙ sym (ap (λ (p : PlacedEntry). p.place) b.1))

module _ (relocs : List Relocation) (entries : List PlacedEntry) (are : IsPermutation (collected (placed relocs) (length relocs)) entries) where
  -- each is an entry
  pub placed_at : (j : ℕ) (d : PlacedEntry) → j < length entries → IsPlacedEntry relocs (get_or entries j d)
  placed_at = each_placed (placed relocs) (length relocs) entries are (IsPlacedEntry relocs) (λ k x low e. placed_entry relocs k x low e)

  -- the offset of each that says something is among them
  pub offset_among : (k : ℕ) (r : Relocation) → slice_get relocs k ≡ Some r → says_nothing r ≡ false → is_among entries r.VirtualAddress ≡ true
  offset_among k r there idle =
      let same : entry_in relocs k ≡ r = entry_is relocs k r there in
      let x : PlacedEntry = record { place = r.VirtualAddress; index = k } in
      let some : placed relocs k ≡ Some x = ap (λ (q : Relocation). placed_as q k) same ∙ ap (λ b. cond b None (Some x)) idle in
      among_all (placed relocs) (length relocs) entries are k x (slice_get_within relocs k r there) some
