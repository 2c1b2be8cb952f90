-- What the words of the command ask for (our profile).
use Rattle.std.specs.{Prelude.{ℕ, List, [], ◌∷◌, codes, Option, None}, Option.{option_map}}
use Rattle.oc_words.specs.Texts.{looked_up}
use Rattle.oc_listings.specs.{declared.listing.Listing.{Listing}, declared.listing.Listing.TheVariants.{Header, Sections, Relocations}}

-- the listings by their words
abbrev pub listings : List (List ℕ × Listing)
listings = (codes "-dh", Header) ∷ (codes "-dn", Sections) ∷ (codes "-dr", Relocations) ∷ []

-- the listing that a word names
abbrev pub listing_named : List ℕ → Option Listing
listing_named word = looked_up listings word

-- a listing and the name of a file, where the words are these two
abbrev pub asked_by : List (List ℕ) → Option (Listing × List ℕ)
asked_by [] = None
asked_by (word ∷ []) = None
asked_by (word ∷ input ∷ []) = option_map (λ listing. (listing, input)) (listing_named word)
asked_by (word ∷ input ∷ other ∷ more) = None
