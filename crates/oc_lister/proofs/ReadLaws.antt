-- What is read of a file is listed as the file is.
use Rattle.std.proofs.Common.{ℕ, List, length, sym}
use Rattle.oc_linking.specs.Keeping.{all}
use Rattle.oc_neutral.specs.{Invariants.{IsObject}, Objects.{Object}}
use Rattle.oc_built.specs.Built.{IsRead, built}
use Rattle.oc_listings.specs.{declared.listing.Listing.{Listing}, Laws.{ListingsAgree}, ObjectListings.{object_listing}}
use Rattle.oc_lister.specs.Runs.{IsListed}

-- the listing of the object is that of the file
pub read_listed : ListingsAgree → (b : List ℕ) (n : Object) → IsObject n → IsRead all b n → (listing : Listing) → IsListed listing b (object_listing n (length b) listing)
read_listed agree b n fine read listing = record {
  from = read.from;
  identified = read.identified;
  lines = sym (agree (built.reader read.from) b n read.dialect fine read.shows listing);
}
