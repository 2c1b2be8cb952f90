-- What a written file has of its object (our profile).
use Rattle.std.specs.Prelude.{◌≡◌, ℕ, List, map, None}
use Rattle.oc_base.specs.Formats.{word_for}
use Rattle.oc_linking.specs.{Placing.{Placement, Outside, DiscardsGroups}, Faithful.{names_of, shape_of}, Keeping.{all}, Linking.{exports}}
use Rattle.oc_linking.specs.Shows as linking
use Rattle.oc_neutral.specs.{Objects.{Object}, Faces.{contents_of, linked_object, shown_sections, shown_symbols}, Dialects.{Dialect}}
use Rattle.oc_shows.specs.{Shows.{Shows}, Seen.{seen}}

-- linking sees the same of two objects wherever a linker may discard groups, though their symbols may come in another order and have other numbers
pub record LooksAlike (m n : Object) : Type 0 where
  pub word : word_for m.format ≡ word_for n.format
  pub shapes : map (shape_of (λ align. align) (λ key. key)) (shown_sections m) ≡ map (shape_of (λ align. align) (λ key. key)) (shown_sections n)
  pub contents : map contents_of m.sections ≡ map contents_of n.sections
  pub names : (name : List ℕ) → names_of (λ size align. align) (shown_symbols m) name ≡ names_of (λ size align. align) (shown_symbols n) name
  -- the same fields, with the same widths, checks and residues
  pub patches : (p : Placement) (e : Outside) → DiscardsGroups (shown_sections n) p → (s at : ℕ) → linking.object_patches (linked_object m) p e s at ≡ linking.object_patches (linked_object n) p e s at
  pub exports : (p : Placement) (e : Outside) → DiscardsGroups (shown_sections n) p → (name : List ℕ)
      → exports (word_for m.format) p e (shown_symbols m) name ≡ exports (word_for n.format) p e (shown_symbols n) name

-- the file c is well formed, and shows what a reader of the format shows of n
pub record IsWritten (g : Dialect) (n : Object) (c : List ℕ) : Type 0 where
  pub well_formed : g.rules.fault c all ≡ None
  pub shows : Shows g c all (seen n)
