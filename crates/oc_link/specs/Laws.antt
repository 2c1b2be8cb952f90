-- The law on texts of linked objects (our profile).
use Rattle.std.specs.Prelude.{◌≡◌, ℕ, List}
use Rattle.oc_linking.specs.Keeping.{all}
use Rattle.oc_neutral.specs.{Objects.{Object}, Dialects.{Dialect, IsDialect}, Invariants.{IsObject}}
use Rattle.oc_shows.specs.Shows.{Shows}
use Rattle.oc_place.specs.Placings.{Placing}
use Rattle.oc_link.specs.Linked.{link_text_in, link_text_of}

-- the text of an object that shows a file is that of the file
abbrev pub TextsAgree : Type 0
TextsAgree = (f : Dialect) (b : List ℕ) (n : Object) → IsDialect f → IsObject n → Shows f b all n
    → (x : Placing) → link_text_of n x ≡ link_text_in f b x
