-- Structures as bytes: numbers that lie one after another, without padding (our profile: little endian).
use Rattle.std.specs.Prelude.{ℕ, List, flat_map}
use Rattle.oc_base.specs.Numbers.{bytes_of_number}

-- numbers one after another, each given after its width in bytes
abbrev pub packed : List (ℕ × ℕ) → List ℕ
packed numbers = flat_map (λ n. bytes_of_number n.0 n.1) numbers
