-- An entry in three parts: its head, its contents and its checksum.
use Rattle.std.proofs.Common.{◌≡◌, ℕ, ◌+◌, List, [], ◌∷◌, ◌++◌, length, sum, sym, ◌∙◌, ap}
use Rattle.oc_base.specs.Numbers.{bytes_of_number}
use Rattle.oc_base.proofs.NumberLaws.{length-bytes_of_number}
use Rattle.oc_omf.specs.Bytes.{checksum, entry_bytes}
use Rattle.oc_omf_file.proofs.EntryLaws.{entry_is}

-- a head has three bytes
pub head_long : (type : ℕ) (contents head : List ℕ) → head ≡ type ∷ bytes_of_number 2 (length contents + 1) → length head ≡ 3
unfolding bytes_of_number
head_long type contents head is = ap length is ∙ ap (λ k. k + 1) (length-bytes_of_number 2 (length contents + 1))

-- the three parts are the entry
pub parts_are : (type : ℕ) (contents head : List ℕ) (sum : ℕ) → head ≡ type ∷ bytes_of_number 2 (length contents + 1) → sum ≡ checksum (head ++ contents)
    → (head ++ contents) ++ sum ∷ [] ≡ entry_bytes type contents
parts_are type contents head sum is e =
    ap (λ s. (head ++ contents) ++ s ∷ []) e
    ∙ ap (λ h. (h ++ contents) ++ checksum (h ++ contents) ∷ []) is
    ∙ sym (entry_is type contents)
