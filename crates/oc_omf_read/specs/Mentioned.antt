-- Symbols with what their mentions say, and their numbers by their names (TIS OMF 1.1; our profile).
use Rattle.std.specs.{Prelude.{◌≡◌, ℕ, Bool, List, [], ◌∷◌, map, fold, filter_map, if◌then◌else◌, Option, Some, None}, BTreeMap.{BTreeMap, get_by}}
use Rattle.std.specs.{Cmp.Lexicographic.{slice_cmp}, List.{list_any}, Ordering.{nat_cmp}}
use denote.Ref.{Bor}
use Rattle.oc_linking.specs.Numbers.{or_else}
use Rattle.oc_omf.specs.Symbols.{Mention, number_of, same_symbol, with_new}
use Rattle.oc_omf_read.specs.{declared.declarations.DeclarationKind.{DeclarationKind}, declared.mentioned.Mentioned.{Mentioned}}
use Rattle.oc_omf_read.specs.{declared.mentioned.Mentions.{Mentions}, Declarations.{Declaration}}
use Rattle.oc_omf_read.specs.declared.declarations.DeclarationKind.TheVariants as what

-- the symbol of a mention
abbrev pub mention_of : Declaration → Mention
mention_of t = record { local = t.local; name = t.name }

-- the symbols that are mentioned, once each, in the order of first mention
abbrev pub mentioned_symbols : List Declaration → List Mention
mentioned_symbols ts = fold with_new [] (map mention_of ts)

-- where a mention defines a symbol, by the index of the segment and the offset; and where the first of some mentions does
abbrev pub place_said : DeclarationKind → Option (ℕ × ℕ)
place_said (what.Defined segment offset) = Some (segment, offset)
place_said what.External = None
place_said (what.Communal length) = None

abbrev pub place_by : Mention → Declaration → Option (ℕ × ℕ)
place_by x t = if same_symbol x (mention_of t) then place_said t.says else None

abbrev pub place_in : Mention → List Declaration → Option (ℕ × ℕ)
place_in x [] = None
place_in x (t ∷ ts) = or_else (place_by x t) (place_in x ts)

-- the length that a mention gives a symbol as a communal, and that of the first of some mentions
abbrev pub length_said : DeclarationKind → Option ℕ
length_said (what.Defined segment offset) = None
length_said what.External = None
length_said (what.Communal length) = Some length

abbrev pub length_by : Mention → Declaration → Option ℕ
length_by x t = if same_symbol x (mention_of t) then length_said t.says else None

abbrev pub length_in : Mention → List Declaration → Option ℕ
length_in x [] = None
length_in x (t ∷ ts) = or_else (length_by x t) (length_in x ts)

-- a symbol with what mentions say of it
pub record ModuleSymbol : Type 0 where
  pub local : Bool
  pub name : List ℕ
  pub place : Option (ℕ × ℕ)
  pub length : Option ℕ

abbrev pub seen_in : List Declaration → Mention → ModuleSymbol
seen_in ts x = record { local = x.local; name = x.name; place = place_in x ts; length = length_in x ts }

-- a symbol that is new, before any mention says anything of it
abbrev pub blank : Mention → ModuleSymbol
blank x = record { local = x.local; name = x.name; place = None; length = None }

-- what a mention says of its symbol, after what earlier ones said
abbrev pub seen_more : DeclarationKind → ModuleSymbol → ModuleSymbol
seen_more says s = record { local = s.local; name = s.name; place = or_else s.place (place_said says); length = or_else s.length (length_said says) }

-- what the program holds of it
abbrev pub seen_of : Mentioned → ModuleSymbol
seen_of m = record { local = m.local; name = m.name.now; place = m.place; length = m.length }

-- the same of all symbols
abbrev pub all_seen : Mentions → List ModuleSymbol
all_seen m = map seen_of m.symbols.items

abbrev pub symbol_of : ModuleSymbol → Mention
symbol_of s = record { local = s.local; name = s.name }

-- the symbols that are held
abbrev pub held : Mentions → List Mention
held m = map (λ (s : Mentioned). symbol_of (seen_of s)) m.symbols.items

-- the number of a symbol, where it is one of these
abbrev pub number_among : List Mention → Mention → Option ℕ
number_among symbols x = if list_any (same_symbol x) symbols then Some (number_of symbols x) else None

-- what a map has for a name
abbrev pub value_at : BTreeMap (Bor (List ℕ)) ℕ → List ℕ → Option ℕ
value_at numbers name = get_by (λ k. slice_cmp nat_cmp name k.now) numbers

-- the number that is held for a symbol
abbrev pub number_held : Mentions → Mention → Option ℕ
number_held m x = value_at (if x.local then m.locals else m.others) x.name

-- the number of a symbol is recorded, and others have the number that they had
abbrev pub IsNumberTaken : Mentions → Mention → ℕ → Mentions → Type 0
IsNumberTaken old x number new = (y : Mention) → number_held new y ≡ if same_symbol x y then Some number else number_held old y

-- the numbers that are held are those of the symbols
abbrev pub AreNumbered : Mentions → Type 0
AreNumbered m = (x : Mention) → number_held m x ≡ number_among (held m) x

-- the number of the symbol of an external, among these
abbrev pub external_said : ℕ → DeclarationKind → Option ℕ
external_said number (what.Defined segment offset) = None
external_said number what.External = Some number
external_said number (what.Communal length) = Some number

abbrev pub external_number : List Mention → Declaration → Option ℕ
external_number symbols t = external_said (number_of symbols (mention_of t)) t.says

-- what is held of some mentions
pub record HasDeclarations (ts : List Declaration) (m : Mentions) : Type 0 where
  pub symbols : all_seen m ≡ map (seen_in ts) (mentioned_symbols ts)
  pub numbered : AreNumbered m
  pub externals : m.externals.items ≡ filter_map (external_number (mentioned_symbols ts)) ts
