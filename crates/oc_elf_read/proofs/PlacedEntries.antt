-- The entries of a table, in the order of their places.
use Rattle.std.proofs.Common.{◌≡◌, ℕ, ◌<◌, Bool, true, false, cond, List, length, None, Some, refl, sym, ◌∙◌, ap, subst, get_or}
use Rattle.std.specs.List.Sorted.{IsPermutation}
use Rattle.std.proofs.lemmas.Option.{none-some, same_Some}
use Rattle.oc_linking.specs.Numbers.{first_upto}
use Rattle.oc_shelf.specs.{declared.reading.order.PlacedEntry.{PlacedEntry}, Reading.Collected.{collected}}
use Rattle.oc_shelf.proofs.ReadingLaws.PlacedLemmas.{each_placed}
use Rattle.oc_elf.specs.{Fields.{is_idle}, Frames.{FileFrame}, RelocRules.{entry_fault}, Tables.{reloc_count, reloc_of}}
use Rattle.oc_elf_read.specs.Given.{placed}
use Rattle.oc_elf_read.proofs.ApartEntries.{differ_at}

-- an entry that says something, with the offset of its field
pub record IsPlacedEntry (f : FileFrame) (i : ℕ) (x : PlacedEntry) : Type 0 where
  pub low : x.index < reloc_count f i
  pub busy : is_idle (reloc_of f i x.index) ≡ false
  pub place : (reloc_of f i x.index).r_offset ≡ x.place

placed_is : (f : FileFrame) (i k : ℕ) (x : PlacedEntry) → placed f i k ≡ Some x → (is_idle (reloc_of f i k) ≡ false) × (record { place = (reloc_of f i k).r_offset; index = k } ≡ x)
placed_is f i k x e = by (is_idle (reloc_of f i k)) refl e
  where
    by : (b : Bool) → is_idle (reloc_of f i k) ≡ b → cond b None (Some (record { place = (reloc_of f i k).r_offset; index = k })) ≡ Some x
        → (is_idle (reloc_of f i k) ≡ false) × (record { place = (reloc_of f i k).r_offset; index = k } ≡ x)
    by true h g = absurd (none-some x g)
    by false h g = (h, same_Some (record { place = (reloc_of f i k).r_offset; index = k }) x g)

placed_entry : (f : FileFrame) (i k : ℕ) (x : PlacedEntry) → k < reloc_count f i → placed f i k ≡ Some x → IsPlacedEntry f i x
placed_entry f i k x low e = let is = placed_is f i k x e in subst (IsPlacedEntry f i) is.1 (record { low = low; busy = is.0; place = refl })

pub placed_some : (f : FileFrame) (i k : ℕ) → is_idle (reloc_of f i k) ≡ false → placed f i k ≡ Some (record { place = (reloc_of f i k).r_offset; index = k })
placed_some f i k busy = ap (λ b. cond b None (Some (record { place = (reloc_of f i k).r_offset; index = k }))) busy

-- each that is collected is one
pub placed_at : (f : FileFrame) (i : ℕ) (entries : List PlacedEntry) → IsPermutation (collected (placed f i) (reloc_count f i)) entries → (j : ℕ) (d : PlacedEntry) → j < length entries → IsPlacedEntry f i (get_or entries j d)
placed_at f i entries are = each_placed (placed f i) (reloc_count f i) entries are (IsPlacedEntry f i) (λ k x low e. placed_entry f i k x low e)

-- no two are at one place
pub differ : (f : FileFrame) (i : ℕ) → first_upto (entry_fault f i) (reloc_count f i) ≡ None → (j k : ℕ) (x y : PlacedEntry) → j < k → k < reloc_count f i → placed f i j ≡ Some x → placed f i k ≡ Some y → x.place ≡ y.place → ⊥
differ f i clean j k x y less low at_j at_k same =
    let a = placed_is f i j x at_j in
    let b = placed_is f i k y at_k in
    differ_at f i clean j k less low a.0 b.0 (ap (λ (p : PlacedEntry). p.place) a.1 ∙ same ∙ sym (ap (λ (p : PlacedEntry). p.place) b.1))
