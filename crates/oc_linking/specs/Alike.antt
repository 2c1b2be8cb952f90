-- When two files link alike without an object between them (our profile).
use Rattle.std.specs.Prelude.{◌≡◌, ℕ, ◌+◌, ◌<◌, ◌≤◌, List, length, slice_get, get_or, Option, Some}
use Rattle.oc_linking.specs.{declared.terms.Keep.{Keep}, declared.terms.Patch.{Patch}, Fits.{bytes_of}, Parts.{Symbol}, Keeping.{all}}
use Rattle.oc_linking.specs.{Placing.{Placement, Outside}, Rules.{Rules}, Linking.{contents_in, patches_in, exports_in}}

-- the byte is in no field
abbrev pub IsFree : (ℕ → Option Patch) → ℕ → Type 0
IsFree patches i = (at : ℕ) (q : Patch) → patches at ≡ Some q → at ≤ i → i < at + bytes_of q.width → ⊥

-- two contents are as long, and have the same bytes wherever no field is
pub record SameOutsideFields (patches : ℕ → Option Patch) (xs ys : List ℕ) : Type 0 where
  pub lengths : length xs ≡ length ys
  pub bytes : (i : ℕ) → i < length xs → IsFree patches i → get_or xs i 0 ≡ get_or ys i 0

-- at one placement and outside map the output c has the words, the fields, the exports, and outside the fields the bytes, of the edited input b
pub record LinkAlike (f : Rules) (b : List ℕ) (keep : Keep) (edited : List Symbol) (g : Rules) (c : List ℕ) (p : Placement) (e : Outside) : Type 0 where
  pub word : g.word ≡ f.word
  pub count : length (contents_in g c all) ≡ length (contents_in f b keep)
  pub contents : (s : ℕ) (xs ys : List ℕ) → slice_get (contents_in g c all) s ≡ Some xs → slice_get (contents_in f b keep) s ≡ Some ys
      → SameOutsideFields (patches_in f b keep edited p e s) xs ys
  pub patches : (s at : ℕ) → s < length (contents_in g c all) → patches_in g c all (g.symbols c all) p e s at ≡ patches_in f b keep edited p e s at
  pub exports : (name : List ℕ) → exports_in g c all (g.symbols c all) p e name ≡ exports_in f b keep edited p e name
