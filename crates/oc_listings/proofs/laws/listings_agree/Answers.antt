use Rattle.oc_listings.proofs.ListingLaws.{listings-same}
use Rattle.oc_listings.proofs.laws.listings_agree.Goals as goal

pub returns : goal.returns
returns c = λ f b n is fine shows listing. listings-same f b n fine shows is.word listing
