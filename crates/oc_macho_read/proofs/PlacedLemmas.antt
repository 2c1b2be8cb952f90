-- The fields of a section, in the order of their places.
use Rattle.std.proofs.Common.{Bool, List, None, Option, Some, ap, cond, false, get_or, length, refl, slice_get, subst, sym, true, ℕ, ◌<◌, ◌∙◌, ◌≡◌, arith}
use Rattle.std.specs.{List.Sorted.{IsPermutation}, Option.{option_map}}
use Rattle.oc_base.specs.declared.format.Word.{Word}
use Rattle.oc_macho.specs.{Entries.{begins, item_at, item_with}, Tables.{SectionTable, Tables}, declared.entries.Item.{Item}}
use Rattle.oc_macho.specs.declared.relocation_info.RelocationInfo.{RelocationInfo}
use Rattle.oc_macho_read.specs.Given.{placed}
use Rattle.oc_shelf.proofs.ReadingLaws.PlacedLemmas.{among_all, each_placed}
use Rattle.oc_shelf.specs.{Reading.Collected.{collected}, Reading.Order.{is_among}, declared.reading.order.PlacedEntry.{PlacedEntry}}

-- where no field begins, none is placed
pub placed_none : (t : Tables) (c : SectionTable) (k : ℕ) → begins t.word c.relocs k ≡ false → placed t c k ≡ None
unfolding item_at
placed_none t c k idle =
    ap (λ (b : Bool). option_map (λ (i : Item). record { place = i.first.r_address; index = k }) (cond b (option_map (item_with t.word c.relocs k) (slice_get c.relocs k)) None)) idle

-- a field by its place and its first entry
pub record IsPlacedItem (t : Tables) (c : SectionTable) (x : PlacedEntry) : Type 0 where
  pub low : x.index < length c.relocs
  pub item : Item
  pub is : item_at t.word c.relocs x.index ≡ Some item
  pub place : item.first.r_address ≡ x.place

-- an entry with which a field begins is the first of it
pub item_begins : (w : Word) (relocs : List RelocationInfo) (k : ℕ) (item : Item) → item_at w relocs k ≡ Some item → begins w relocs k ≡ true
unfolding item_at
item_begins w relocs k item e = by (begins w relocs k) e
  where
    by : (b : Bool) → cond b (option_map (item_with w relocs k) (slice_get relocs k)) None ≡ Some item → b ≡ true
    by b e = grind arith

-- what is placed for an entry
record IsPlaced (t : Tables) (c : SectionTable) (k : ℕ) (x : PlacedEntry) : Type 0 where
  pub item : Item
  pub is : item_at t.word c.relocs k ≡ Some item
  pub same : record { place = item.first.r_address; index = k } ≡ x

placed_is : (t : Tables) (c : SectionTable) (k : ℕ) (x : PlacedEntry) → placed t c k ≡ Some x → IsPlaced t c k x
placed_is t c k x e = by (item_at t.word c.relocs k) refl e
  where
    by : (o : Option Item) → item_at t.word c.relocs k ≡ o → option_map (λ (i : Item). record { place = i.first.r_address; index = k }) o ≡ Some x → IsPlaced t c k x
    by o h g = grind arith

placed_item : (t : Tables) (c : SectionTable) (k : ℕ) (x : PlacedEntry) → k < length c.relocs → placed t c k ≡ Some x → IsPlacedItem t c x
placed_item t c k x low e = let m = placed_is t c k x e in subst (IsPlacedItem t c) m.same (record { low = low; item = m.item; is = m.is; place = refl })

-- fields of a section differ in their places
abbrev pub Differ : Tables → SectionTable → Type 0
Differ t c = (a b : ℕ) (x y : Item) → a < b → b < length c.relocs → item_at t.word c.relocs a ≡ Some x → item_at t.word c.relocs b ≡ Some y → x.first.r_address ≡ y.first.r_address → ⊥

-- so no two are at one place
pub differ_placed : (t : Tables) (c : SectionTable) → Differ t c → (j k : ℕ) (x y : PlacedEntry) → j < k → k < length c.relocs → placed t c j ≡ Some x → placed t c k ≡ Some y → x.place ≡ y.place → ⊥
differ_placed t c differ j k x y less low at_j at_k same =
    let a = placed_is t c j x at_j in
    let b = placed_is t c k y at_k in
    differ j k a.item b.item less low a.is b.is (ap (λ (p : PlacedEntry). p.place) a.same ∙ same ∙ sym (ap (λ (p : PlacedEntry). p.place) b.same))

module _ (t : Tables) (c : SectionTable) (entries : List PlacedEntry) (are : IsPermutation (collected (placed t c) (length c.relocs)) entries) where
  -- each is a field
  pub entry_placed : (j : ℕ) (d : PlacedEntry) → j < length entries → IsPlacedItem t c (get_or entries j d)
  entry_placed = each_placed (placed t c) (length c.relocs) entries are (IsPlacedItem t c) (λ k x low e. placed_item t c k x low e)

  -- the offset of each field is among them
  pub offset_among : (k : ℕ) (item : Item) → k < length c.relocs → item_at t.word c.relocs k ≡ Some item → is_among entries item.first.r_address ≡ true
  offset_among k item low is =
      let x : PlacedEntry = record { place = item.first.r_address; index = k } in
      among_all (placed t c) (length c.relocs) entries are k x low (ap (option_map (λ (i : Item). record { place = i.first.r_address; index = k })) is)
