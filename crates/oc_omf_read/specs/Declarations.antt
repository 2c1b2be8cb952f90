-- Declarations of symbols, one after the other, with what each says (TIS OMF 1.1, "EXTDEF", "LEXTDEF", "PUBDEF", "LPUBDEF" and "COMDEF"; our profile).
use Rattle.std.specs.{Prelude.{◌≡◌, ℕ, Bool, List, [], ◌++◌, map, flat_map, Ok, Err}, Option.{option_map_or}}
use Rattle.oc_omf.specs.{declared.structures.PublicBase.{PublicBase}, declared.structures.Communal.{Communal}, Cursor.{Reading, Read, each_read}}
use Rattle.oc_omf.specs.{Structures.{External, Public, base_read, public_read}, Entries.{Entry, all_read}}
use Rattle.oc_omf_read.specs.{declared.declarations.DeclarationKind.{DeclarationKind}, declared.declarations.DeclarationRef.{DeclarationRef}}
use Rattle.oc_omf_read.specs.declared.declarations.DeclarationKind.TheVariants as what

-- a declaration, with its name as bytes
pub record Declaration : Type 0 where
  pub local : Bool
  pub name : List ℕ
  pub says : DeclarationKind

-- what the program holds of it
abbrev pub declaration_of : DeclarationRef → Declaration
declaration_of h = record { local = h.local; name = h.name.now; says = h.says }

abbrev pub all_declarations : List DeclarationRef → List Declaration
all_declarations declarations = map declaration_of declarations

-- a definition
abbrev pub of_public : Public → Declaration
of_public p = record { local = p.local; name = p.name; says = what.Defined p.segment p.offset }

-- what an external says as a communal, if it is one
abbrev pub of_communal : Communal → DeclarationKind
of_communal c = what.Communal c.length

-- an external
abbrev pub of_external : External → Declaration
of_external y = record { local = y.local; name = y.name; says = option_map_or of_communal y.communal what.External }

-- some declarations are recorded after those that were
abbrev pub AreDeclared : List DeclarationRef → List Declaration → List DeclarationRef → Type 0
AreDeclared old more new = all_declarations new ≡ all_declarations old ++ more

-- the definitions that are read, and the externals
abbrev pub of_publics : List (Read Public) → List Declaration
of_publics reads = map of_public (all_read reads)

abbrev pub of_externals : List (Read External) → List Declaration
of_externals reads = map of_external (all_read reads)

-- the symbols after a base, where that is read
abbrev pub publics_behind : Bool → Bool → List ℕ → Reading PublicBase → List (Read Public)
publics_behind wide local b (Ok r) = each_read (public_read wide local r.0.segment) b r.1
publics_behind wide local b (Err c) = []

-- the definitions in the contents of an entry
abbrev pub public_declarations : Bool → Bool → List ℕ → List Declaration
public_declarations wide local b = of_publics (publics_behind wide local b (base_read b 0))

-- the declarations of an entry
abbrev pub declarations_by : Entry → List Declaration
declarations_by e = of_publics e.publics ++ of_externals e.externals

-- the declarations of a module
unfoldable pub declarations_in : List Entry → List Declaration
declarations_in entries = flat_map declarations_by entries
