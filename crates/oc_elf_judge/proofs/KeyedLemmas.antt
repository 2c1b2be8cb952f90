-- The keys of headers, by their numbers.
use Rattle.std.proofs.Common.{◌≡◌, ℕ, ◌<◌, ◌∙◌, length, None, ap, arith}
use Rattle.std.specs.Option.{option_flatten}
use Rattle.std.proofs.lemmas.{List.FromFn.{length-map-range_with_len, get_or-map-range_with_len}, Option.{slice_get-get_or}}
use Rattle.oc_strings.specs.Repeats.{name_at}
use Rattle.oc_elf.specs.{Frames.{FileFrame}, Groups.{comdat_key, comdat_keys}}

pub keyed_at : (f : FileFrame) (g : ℕ) → g < length f.headers → name_at (comdat_keys f) g ≡ comdat_key f g
keyed_at f g low =
    let long = length-map-range_with_len (comdat_key f) 0 (length f.headers) in
    ap option_flatten (slice_get-get_or (comdat_keys f) g None (omega (arith, long, low)))
    ∙ get_or-map-range_with_len (comdat_key f) 0 (length f.headers) g g None low (omega arith)
