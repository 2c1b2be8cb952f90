-- What a reader keeps of the entries before one, as long as it judges symbols (our profile).
use Rattle.std.specs.{Prelude.{◌≡◌, ℕ, Bool, true, false, not, nat_eq, nat_lt, List, [], ◌∷◌, ◌++◌, map, is_some, Option, Some, None, Ok, Err}, List.{list_any}}
use Rattle.std.specs.Option.{option_map_or}
use Rattle.oc_base.specs.{declared.code.Code.TheVariants.{SymbolPastEnd, SymbolKind, DuplicateName, BadSymbol}, declared.fault.Fault.{Fault}}
use Rattle.oc_base.specs.{declared.stop.Stop.{Stop}, Stops.{IsStop}}
use Rattle.oc_linking.specs.{Numbers.{or_else}, FirstFault.{Condition, first_broken, stage_fault}}
use Rattle.oc_omf_judge.specs.{declared.earlier.SeenExternal.{SeenExternal}, declared.earlier.EarlierSymbols.{EarlierSymbols}}
use Rattle.oc_omf_judge.specs.{declared.section_stage.EntryPlace.{EntryPlace}, Defined.{and_entry}, NameNumbers.{NameNumbers, value_at}}
use Rattle.oc_omf.specs.{declared.structures.Communal.{Communal}, declared.topics.Topic.{Topic}, Cursor.{Read, each_read}}
use Rattle.oc_omf.specs.{Structures.{Group, Public, External, communal_read, external_read, public_read}, Entries.{Entry, all_read, in_file}, Tables.{Tables}}
use Rattle.oc_omf.specs.{Sections.{size_at}, Symbols.{Mention, external_mention, public_mention, same_symbol}}
use Rattle.oc_omf.specs.SymbolFaults.{code_of, communal_conditions, is_empty, is_other_length, is_undefined, same_public, symbol_fault, symbol_stage}
use Rattle.oc_omf.specs.Topics.{said_on}
use Rattle.oc_omf.specs.declared.symbols.Public as read

-- the names that are held are those of definitions, of this module alone or not
abbrev pub AreNamed : Bool → List Public → NameNumbers → Type 0
AreNamed local publics held = (name : List ℕ) → is_some (value_at held name) ≡ list_any (λ p. same_symbol (record { local = local; name = name }) (public_mention p)) publics

-- communals of a name that is held have the length that is held with it
abbrev pub AreCommunal : List External → NameNumbers → Type 0
AreCommunal externals held = (name : List ℕ) (c : Communal) → list_any (is_other_length name c) externals ≡ option_map_or (λ l. not (nat_eq c.length l)) (value_at held name) false

-- what an external mentions
abbrev pub mention_of : SeenExternal → Mention
mention_of x = record { local = x.local; name = x.name.now }

-- what is kept is what came before
pub record AreEarlierSymbols (t : Tables) (s : EarlierSymbols) : Type 0 where
  pub segments_are : s.segments.items ≡ t.segments
  pub groups_are : s.groups.items ≡ map (λ (g : Group). g.name) t.groups
  pub locals_are : AreNamed true t.publics s.locals
  pub globals_are : AreNamed false t.publics s.globals
  pub communals_are : AreCommunal t.externals s.communals
  pub externals_are : map mention_of s.externals.items ≡ map external_mention t.externals

-- ... the first fault of structures that follow one another

-- that of structures in an entry of a number, where each must meet conditions that depend on those before it
abbrev pub walked : {X : Type 0} → (List X → ℕ × ℕ → X → List Condition) → ℕ → List X → List (Read X) → Option Fault
walked conditions index before [] = None
walked {X} conditions index before (r ∷ rs) = elim r.part [
  | Ok y ↦ or_else (first_broken (conditions before (index, r.at) y)) (walked conditions index (before ++ y ∷ []) rs)
  | Err c ↦ Some (symbol_fault (index, r.at) (code_of c))
]

-- the conditions on a definition after others, where that is defined before its entry
abbrev pub public_behind : Tables → List Public → ℕ × ℕ → Public → List Condition
public_behind t before at p =
    (nat_lt (size_at t p.segment) p.offset, symbol_fault at SymbolPastEnd)
    ∷ (is_empty p.name, symbol_fault at SymbolKind)
    ∷ (list_any (same_public p) before, symbol_fault at DuplicateName)
    ∷ []

-- the conditions on an external after others, where that is defined in all
abbrev pub external_behind : Tables → List External → ℕ × ℕ → External → List Condition
external_behind all before at y =
    option_map_or (communal_conditions at) y.communal []
    ++ ((is_undefined all y, symbol_fault at BadSymbol)
    ∷ (is_empty y.name, symbol_fault at SymbolKind)
    ∷ (option_map_or (λ c. list_any (is_other_length y.name c) before) y.communal false, symbol_fault at DuplicateName)
    ∷ [])

-- ... an entry

-- the name of a definition is recorded, and it is returned whether it was recorded before
abbrev pub IsNameTaken : EarlierSymbols → Bool → List ℕ → Bool → EarlierSymbols → Type 0
IsNameTaken old local name again new =
    (t : Tables) (p : Public) → AreEarlierSymbols t old → p.local ≡ local → p.name ≡ name
    → (again ≡ list_any (same_public p) t.publics) × AreEarlierSymbols (record t { publics = t.publics ++ p ∷ [] }) new

-- a definition of a segment, as it is read in an entry
abbrev pub public_with : Bool → ℕ → read.Public → Public
public_with local segment p = record { local = local; name = p.name.now; segment = segment; offset = p.offset }

-- a definition after what is kept has no fault, and is recorded
abbrev pub IsPublicTaken : EarlierSymbols → ℕ × ℕ → Public → EarlierSymbols → Type 0
IsPublicTaken old at p new = (t : Tables) → AreEarlierSymbols t old → (first_broken (public_behind t t.publics at p) ≡ None) × AreEarlierSymbols (record t { publics = t.publics ++ p ∷ [] }) new

-- it has a fault, which is reported
abbrev pub IsPublicStopped : EarlierSymbols → ℕ × ℕ → Public → Stop → Type 0
IsPublicStopped old at p s = (t : Tables) → AreEarlierSymbols t old → IsStop (first_broken (public_behind t t.publics at p)) s

-- an external, as it is read in an entry
abbrev pub external_with : Bool → List ℕ → Option Communal → External
external_with local name communal = record { local = local; name = name; communal = communal }

-- the same of an external
abbrev pub IsExternalTaken : NameNumbers → EarlierSymbols → ℕ × ℕ → External → EarlierSymbols → Type 0
IsExternalTaken known old at y new =
    (all t : Tables) → AreNamed true all.publics known → AreEarlierSymbols t old
    → (first_broken (external_behind all t.externals at y) ≡ None) × AreEarlierSymbols (record t { externals = t.externals ++ y ∷ [] }) new

abbrev pub IsExternalStopped : NameNumbers → EarlierSymbols → ℕ × ℕ → External → Stop → Type 0
IsExternalStopped known old at y s = (all t : Tables) → AreNamed true all.publics known → AreEarlierSymbols t old → IsStop (first_broken (external_behind all t.externals at y)) s

-- the same of a communal, whatever names this module alone sees
abbrev pub IsCommunalTaken : EarlierSymbols → ℕ × ℕ → List ℕ → Communal → EarlierSymbols → Type 0
IsCommunalTaken old at name c new = (known : NameNumbers) → IsExternalTaken known old at (external_with false name (Some c)) new

abbrev pub IsCommunalStopped : EarlierSymbols → ℕ × ℕ → List ℕ → Communal → Stop → Type 0
IsCommunalStopped old at name c s = (known : NameNumbers) → IsExternalStopped known old at (external_with false name (Some c)) s

-- definitions after what is kept have no fault, and are recorded
abbrev pub ArePublicsTaken : EarlierSymbols → ℕ → List (Read Public) → EarlierSymbols → Type 0
ArePublicsTaken old index reads new =
    (t : Tables) → AreEarlierSymbols t old → (walked (public_behind t) index t.publics reads ≡ None) × AreEarlierSymbols (record t { publics = t.publics ++ all_read reads }) new

-- one has a fault, which is reported
abbrev pub ArePublicsStopped : EarlierSymbols → ℕ → List (Read Public) → Stop → Type 0
ArePublicsStopped old index reads s = (t : Tables) → AreEarlierSymbols t old → IsStop (walked (public_behind t) index t.publics reads) s

-- the same of externals, where the names of all definitions of this module alone are held
abbrev pub AreExternalsTaken : NameNumbers → EarlierSymbols → ℕ → List (Read External) → EarlierSymbols → Type 0
AreExternalsTaken known old index reads new =
    (all t : Tables) → AreNamed true all.publics known → AreEarlierSymbols t old
    → (walked (external_behind all) index t.externals reads ≡ None) × AreEarlierSymbols (record t { externals = t.externals ++ all_read reads }) new

abbrev pub AreExternalsStopped : NameNumbers → EarlierSymbols → ℕ → List (Read External) → Stop → Type 0
AreExternalsStopped known old index reads s = (all t : Tables) → AreNamed true all.publics known → AreEarlierSymbols t old → IsStop (walked (external_behind all) index t.externals reads) s

-- the definitions of a segment from there on in the contents of the entry at a place of the file
abbrev pub definitions_at : ℕ → Bool → Bool → ℕ → List ℕ → ℕ → List (Read Public)
definitions_at place wide local segment contents at = in_file place (each_read (public_read wide local segment) contents at)

-- the externals in the contents of the entry at a place of the file, and the communals
abbrev pub externals_at : ℕ → Bool → List ℕ → List (Read External)
externals_at place local contents = in_file place (each_read (external_read local) contents 0)

abbrev pub communals_at : ℕ → List ℕ → List (Read External)
communals_at place contents = in_file place (each_read communal_read contents 0)

-- an entry has no fault, and is recorded
abbrev pub IsEntrySeen : NameNumbers → EarlierSymbols → ℕ → Entry → EarlierSymbols → Type 0
IsEntrySeen known old index e new =
    (all t : Tables) → AreNamed true all.publics known → AreEarlierSymbols t old
    → (stage_fault (symbol_stage (record { index = index; before = t; all = all; entry = e })) ≡ None) × AreEarlierSymbols (and_entry t e) new

abbrev pub IsEntryStopped : NameNumbers → EarlierSymbols → ℕ → Entry → Stop → Type 0
IsEntryStopped known old index e s =
    (all t : Tables) → AreNamed true all.publics known → AreEarlierSymbols t old → IsStop (stage_fault (symbol_stage (record { index = index; before = t; all = all; entry = e }))) s

-- the entry there, on that topic and with these contents, has no fault, and is recorded
abbrev pub IsSeenThere : NameNumbers → EarlierSymbols → EntryPlace → Topic → Bool → List ℕ → EarlierSymbols → Type 0
IsSeenThere known old spot topic wide contents new = IsEntrySeen known old spot.index (said_on topic spot.place wide contents) new

-- it has a fault, which is reported
abbrev pub IsStoppedThere : NameNumbers → EarlierSymbols → EntryPlace → Topic → Bool → List ℕ → Stop → Type 0
IsStoppedThere known old spot topic wide contents s = IsEntryStopped known old spot.index (said_on topic spot.place wide contents) s

-- an entry on that topic, with these contents, has no fault, and is recorded, wherever it is and whatever names are known
abbrev pub IsSeenAnywhere : EarlierSymbols → Topic → Bool → List ℕ → EarlierSymbols → Type 0
IsSeenAnywhere old topic wide contents new = (known : NameNumbers) (index place : ℕ) → IsEntrySeen known old index (said_on topic place wide contents) new

-- it has a fault, which is reported
abbrev pub IsStoppedAnywhere : EarlierSymbols → Topic → Bool → List ℕ → Stop → Type 0
IsStoppedAnywhere old topic wide contents s = (known : NameNumbers) (index place : ℕ) → IsEntryStopped known old index (said_on topic place wide contents) s
