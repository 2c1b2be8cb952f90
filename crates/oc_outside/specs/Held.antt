-- Our profile: what files hold, as a finite map from names to bytes.
use Rattle.std.specs.{Prelude.{◌≡◌, ℕ, ◌≤◌, ◌⊎◌, List, [], ◌++◌, length, take, Option, None, Some, unwrap_or}, Option.{option_map, option_and_then}}
use Rattle.std.specs.{Ordering.{nat_cmp}, Cmp.Lexicographic.{slice_cmp}, FinMap.{FinMap, get, insert, remove}}

-- a finite map from names, as bytes
abbrev pub NameMap : Type 0 → Type 0
NameMap X = FinMap (slice_cmp nat_cmp) X

-- what each file holds, by its name
abbrev pub Held : Type 0
Held = NameMap (List ℕ)

-- the map with this value at the name, or with none
abbrev pub put : {X : Type 0} → Option X → List ℕ → NameMap X → NameMap X
put None name m = remove m name
put (Some x) name m = insert m name x

-- the bytes of the file, if it is held
abbrev pub file_of : List ℕ → Held → Option (List ℕ)
file_of name m = get m name

-- the file holds these bytes, and all others stay
abbrev pub with_file : List ℕ → List ℕ → Held → Held
with_file name bytes m = insert m name bytes

-- the file is not held, and all others stay
abbrev pub without_file : List ℕ → Held → Held
without_file name m = remove m name

-- the file exists and is empty, and all others stay
abbrev pub emptied : List ℕ → Held → Held
emptied name m = insert m name []

-- the piece is at the file's end, and all others stay
abbrev pub extended : List ℕ → List ℕ → Held → Held
extended name piece m = insert m name (unwrap_or (get m name) [] ++ piece)

-- the bytes of the file, where contracts see the files and it is held
abbrev pub bytes_of : List ℕ → Option Held → Option (List ℕ)
bytes_of name files = option_and_then (file_of name) files

-- what lies beside the bytes of a sink: the name of its file, the count that is not its own, all other files, and the other text
pub record Beside : Type 0 where
  pub name : List ℕ
  pub count : ℕ
  pub files : Option Held
  pub text : Option (List ℕ)

-- beside the bytes of a file lie its name, the other count and the files without it
abbrev pub beside_of : List ℕ → ℕ → Option Held → Beside
beside_of name count files = record {
  name = name;
  count = count;
  files = option_map (without_file name) files;
  text = None;
}

-- beside a stream of a console lie the other text and its count
abbrev pub beside_stream : Option (List ℕ) → ℕ → Beside
beside_stream text count = record {
  name = [];
  count = count;
  files = None;
  text = text;
}

-- the files are as they were, or the file holds some prefix of these bytes and all others stay
abbrev pub HasPart : List ℕ → List ℕ → Option Held → Option Held → Type 0
HasPart name bytes before now =
    (now ≡ before)
    ⊎ ((k : ℕ) × (k ≤ length bytes) × (now ≡ option_map (with_file name (take k bytes)) before))
