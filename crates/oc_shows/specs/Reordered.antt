-- An object whose symbols come in another order looks alike (our profile). It may have other Locals and other numbers, and its relocations may have
-- other targets, as long as they have the same values.
use Rattle.std.specs.{Prelude.{◌≡◌, ℕ, false, map, slice_get, Some}, Option.{option_map}}
use Rattle.oc_base.specs.Formats.{word_for}
use Rattle.oc_linking.specs.{Faithful.{sort_of, shape_of}, Linking.{export_of}, Parts.{is_local}, Placing.{Placement, Outside, DiscardsGroups}}
use Rattle.oc_linking.specs.Values.{values, value_of}
use Rattle.oc_neutral.specs.{declared.symbol.Symbol.{Symbol}, declared.reloc.Reloc.{Reloc}, Objects.{Object, reloc_at}, Invariants.{AreDistinct}}
use Rattle.oc_neutral.specs.{Faces.{contents_of, shown_binding, shown_sections, shown_symbol, shown_symbols}, Worth.{residue_at}}
use Rattle.oc_shows.specs.Written.{LooksAlike}

-- two symbols are alike for linking: they are the same thing, have the same value, and export the same wherever groups are discarded
pub record AreAlike (m n : Object) (t s : Symbol) : Type 0 where
  pub name : t.name ≡ s.name
  pub sort : sort_of (λ size align. align) (shown_binding m.symbols t.binding) ≡ sort_of (λ size align. align) (shown_binding n.symbols s.binding)
  pub value : (p : Placement) (e : Outside) → DiscardsGroups (shown_sections n) p
      → value_of (word_for n.format) p e (shown_symbols m) (shown_symbol m.symbols t) ≡ value_of (word_for n.format) p e (shown_symbols n) (shown_symbol n.symbols s)
  pub exported : (p : Placement) (e : Outside) → DiscardsGroups (shown_sections n) p
      → export_of (word_for n.format) p e (shown_symbols m) (shown_symbol m.symbols t) ≡ export_of (word_for n.format) p e (shown_symbols n) (shown_symbol n.symbols s)

-- a relocation has the value of another
abbrev pub HasValueOf : (m n : Object) → ℕ → ℕ → Reloc → Reloc → Type 0
HasValueOf m n s at q r = (p : Placement) (e : Outside) → DiscardsGroups (shown_sections n) p
    → residue_at (word_for n.format) m.symbols p (values (word_for n.format) (shown_symbols m) (shown_symbols m) p e) s at q
    ≡ residue_at (word_for n.format) n.symbols p (values (word_for n.format) (shown_symbols n) (shown_symbols n) p e) s at r

-- m is n with its symbols at other positions
pub record IsReordered (m n : Object) (position : ℕ → ℕ) (move : Reloc → Reloc) : Type 0 where
  pub word : word_for m.format ≡ word_for n.format
  pub shapes : map (shape_of (λ align. align) (λ key. key)) (shown_sections m) ≡ map (shape_of (λ align. align) (λ key. key)) (shown_sections n)
  pub contents : map contents_of m.sections ≡ map contents_of n.sections
  -- each symbol that is not Local has its like
  pub there : (k : ℕ) (s : Symbol) → slice_get n.symbols k ≡ Some s → is_local s.binding ≡ false
      → (t : Symbol) × (slice_get m.symbols (position k) ≡ Some t) × AreAlike m n t s
  -- and there are no others
  pub from : (i : ℕ) (t : Symbol) → slice_get m.symbols i ≡ Some t → is_local t.binding ≡ false
      → (k : ℕ) × (s : Symbol) × (slice_get n.symbols k ≡ Some s) × (is_local s.binding ≡ false) × (position k ≡ i)
  -- the relocations have the same forms and values
  pub relocs : (s at : ℕ) → reloc_at m s at ≡ option_map move (reloc_at n s at)
  pub forms : (r : Reloc) → (move r).form ≡ r.form
  pub moved : (s at : ℕ) (r : Reloc) → reloc_at n s at ≡ Some r → HasValueOf m n s at (move r) r

-- so it looks like n
abbrev pub ReorderedLooksAlike : Type 0
ReorderedLooksAlike = (m n : Object) (position : ℕ → ℕ) (move : Reloc → Reloc) → IsReordered m n position move → AreDistinct n.symbols → LooksAlike m n
