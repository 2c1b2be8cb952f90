-- The definitions, computed on bytes that were put together by hand from the standard.
use Rattle.std.proofs.Common.{◌≡◌, ℕ, List, [], ◌∷◌, take, Some, None, Ok, Err, refl, true}
use Rattle.oc_omf_records.specs.{declared.faults.BlockFault.TheVariants.{BadBlock}, declared.records.RecordFault.TheVariants.{Truncated, BadChecksum}}
use Rattle.oc_omf_records.specs.{Entries.{Reached}, NextEntry.{next_entry, after_next}, Indexes.{index_at}}
use Rattle.oc_omf_records.specs.{Blocks.{Blocks, none, content, nested, denotation, size_of, copies_of}, BlockReading.{blocks_of}}
use Rattle.oc_omf_records.specs.Encoding.{encoded, levels_of}

-- a module named `a`: THEADR with this checksum, and MODEND
abbrev module_with : ℕ → List ℕ
module_with checksum = 128 ∷ 3 ∷ 0 ∷ 1 ∷ 97 ∷ checksum ∷ 138 ∷ 2 ∷ 0 ∷ 0 ∷ 116 ∷ []

abbrev at_front : List ℕ → Reached
at_front bytes = record { bytes = bytes; place = 0 }

first_of-true : next_entry (at_front (module_with 27)) ≡ Ok (Some (record { kind = 128; place = 0; contents = 1 ∷ 97 ∷ [] }))
unfolding Rattle.oc_base.specs.Numbers.number_at
first_of-true = refl

first_of-zero : next_entry (at_front (module_with 0)) ≡ Ok (Some (record { kind = 128; place = 0; contents = 1 ∷ 97 ∷ [] }))
unfolding Rattle.oc_base.specs.Numbers.number_at
first_of-zero = refl

first_of-wrong : next_entry (at_front (module_with 28)) ≡ Err BadChecksum
unfolding Rattle.oc_base.specs.Numbers.number_at
first_of-wrong = refl

first_of-cut : next_entry (at_front (take 5 (module_with 27))) ≡ Err Truncated
unfolding Rattle.oc_base.specs.Numbers.number_at
first_of-cut = refl

second_follows : after_next (at_front (module_with 27)) ≡ record { bytes = module_with 27; place = 6 }
unfolding Rattle.oc_base.specs.Numbers.number_at
second_follows = refl

none_at-end : next_entry (record { bytes = module_with 27; place = 11 }) ≡ Ok None
none_at-end = refl

-- the index 5 in two bytes
index_at-two : index_at (128 ∷ 5 ∷ []) 0 ≡ (5, 2)
unfolding Rattle.oc_base.specs.Numbers.number_at
index_at-two = refl

-- three times twice four bytes of 0, with repeat counts of four bytes
abbrev three_of_two : List ℕ
three_of_two = 3 ∷ 0 ∷ 0 ∷ 0 ∷ 1 ∷ 0 ∷ 2 ∷ 0 ∷ 0 ∷ 0 ∷ 0 ∷ 0 ∷ 4 ∷ 0 ∷ 0 ∷ 0 ∷ 0 ∷ []

abbrev three_of_two_tree : Blocks
three_of_two_tree = nested 3 (content 2 13 (0 ∷ 0 ∷ 0 ∷ 0 ∷ []) none) none

blocks_of-three_of_two : blocks_of true three_of_two ≡ Ok three_of_two_tree
unfolding Rattle.oc_base.specs.Numbers.number_at
blocks_of-three_of_two = refl

blocks_of-cut : blocks_of true (take 16 three_of_two) ≡ Err BadBlock
unfolding Rattle.oc_base.specs.Numbers.number_at
blocks_of-cut = refl

encoded-three_of_two : encoded true three_of_two_tree ≡ three_of_two
unfolding Rattle.oc_base.specs.Numbers.bytes_of_number
encoded-three_of_two = refl

levels_of-three_of_two : levels_of three_of_two_tree ≡ 2
levels_of-three_of_two = refl

size_of-three_of_two : size_of three_of_two_tree ≡ 24
size_of-three_of_two = refl

copies_of-three_of_two : copies_of three_of_two_tree 13 ≡ Some (0 ∷ 4 ∷ 8 ∷ 12 ∷ 16 ∷ 20 ∷ [])
copies_of-three_of_two = refl

no_copies_of-three_of_two : copies_of three_of_two_tree 12 ≡ None
no_copies_of-three_of_two = refl

-- 0xFFFFFFFF times one byte
blocks_of-lying : blocks_of true (255 ∷ 255 ∷ 255 ∷ 255 ∷ 0 ∷ 0 ∷ 1 ∷ 0 ∷ []) ≡ Ok (content 4294967295 7 (0 ∷ []) none)
unfolding Rattle.oc_base.specs.Numbers.number_at
blocks_of-lying = refl

size_of-lying : size_of (content 4294967295 7 (0 ∷ []) none) ≡ 4294967295
size_of-lying = refl

-- twice a row of `ab` and three times `c`, and behind it `d`
denotation-rows : denotation (nested 2 (content 1 9 (97 ∷ 98 ∷ []) (content 3 16 (99 ∷ []) none)) (content 1 22 (100 ∷ []) none))
    ≡ 97 ∷ 98 ∷ 99 ∷ 99 ∷ 99 ∷ 97 ∷ 98 ∷ 99 ∷ 99 ∷ 99 ∷ 100 ∷ []
denotation-rows = refl
