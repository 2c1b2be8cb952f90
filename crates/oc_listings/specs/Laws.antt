-- The law on listings (our profile).
use Rattle.std.specs.Prelude.{◌≡◌, ℕ, List, length}
use Rattle.oc_linking.specs.Keeping.{all}
use Rattle.oc_neutral.specs.{Objects.{Object}, Dialects.{Dialect, IsDialect}, Invariants.{IsObject}}
use Rattle.oc_shows.specs.Shows.{Shows}
use Rattle.oc_listings.specs.{declared.listing.Listing.{Listing}, Listings.{listing_of}, ObjectListings.{object_listing}}

-- the listings of an object that shows a file are those of the file
abbrev pub ListingsAgree : Type 0
ListingsAgree = (f : Dialect) (b : List ℕ) (n : Object) → IsDialect f → IsObject n → Shows f b all n → (listing : Listing) → listing_of f b listing ≡ object_listing n (length b) listing
