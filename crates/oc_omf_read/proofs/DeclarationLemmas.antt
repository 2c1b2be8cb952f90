-- The mentions of symbols, entry by entry.
use Rattle.std.proofs.Common.{◌≡◌, ℕ, ◌+◌, ◌⊎◌, inl, inr, Bool, true, false, List, [], ◌∷◌, ◌++◌, length, map, take, Some, Ok, Err, refl, sym, ◌∙◌, ap, append-nil, append_assoc}
use Rattle.std.specs.Prelude.{flat_map, slice_get}
use Rattle.std.proofs.lemmas.{List.{map-append}, Grind.{flat_map-append}}
use Rattle.std.proofs.Math.Seq.{take-length}
use Rattle.oc_neutral.proofs.FieldLists.{take_here}
use Rattle.oc_omf_records.specs.declared.records.Entry.{Entry as Record}
use Rattle.oc_omf.specs.{declared.structures.PublicBase.{PublicBase}, Cursor.{Reading, each_read}}
use Rattle.oc_omf.specs.{Structures.{base_read, communal_read, external_read, public_read}, Entries.{Entry, all_read, entries_in, is_wide, places_in}}
use Rattle.oc_omf_read.specs.{declared.class.EntryClass.{EntryClass}, declared.declarations.DeclarationRef.{DeclarationRef}, Classes.{class_of}, Defined.{said}}
use Rattle.oc_omf_read.specs.Declarations.{Declaration, all_declarations, of_external, of_public, publics_behind, public_declarations, declarations_by, declarations_in, declaration_of}
use Rattle.oc_omf_read.specs.declared.class.EntryClass.TheVariants as class
use Rattle.oc_omf_read.proofs.{ClassLemmas.{publics_by}, DefinedLemmas.{said_by_class}}
use Rattle.oc_omf_judge.proofs.StageLaws.{entry_count, read_in_file}

-- one mention more, and those that are left
pub declarations_more : {X : Type 0} (f : X → Declaration) (old new : List DeclarationRef) (h : DeclarationRef) (x : X) (left : List X) → new ≡ old ++ h ∷ [] → declaration_of h ≡ f x → all_declarations new ++ map f left ≡ all_declarations old ++ map f (x ∷ left)
declarations_more f old new h x left grown is =
    ap (λ (hs : List DeclarationRef). all_declarations hs ++ map f left) grown ∙ ap (λ (ts : List Declaration). ts ++ map f left) (map-append declaration_of old (h ∷ []))
    ∙ append_assoc (all_declarations old) (declaration_of h ∷ []) (map f left) ∙ ap (λ (t : Declaration). all_declarations old ++ t ∷ map f left) is

-- ... an entry

behind_same : (wide local : Bool) (place : ℕ) (b : List ℕ) (r : Reading PublicBase) → all_read (publics_by wide local place b r) ≡ all_read (publics_behind wide local b r)
behind_same wide local place b (Ok r) = read_in_file place (each_read (public_read wide local r.0.segment) b r.1)
behind_same wide local place b (Err c) = refl

pub publics_are : (r : Record) → class_of r.kind ≡ class.Publics → declarations_by (said r) ≡ public_declarations (is_wide r.kind) false r.contents
publics_are r is =
    ap declarations_by (said_by_class r class.Publics is) ∙ append-nil (map of_public (all_read (publics_by (is_wide r.kind) false r.place r.contents (base_read r.contents 0))))
    ∙ ap (map of_public) (behind_same (is_wide r.kind) false r.place r.contents (base_read r.contents 0))

pub local_publics_are : (r : Record) → class_of r.kind ≡ class.LocalPublics → declarations_by (said r) ≡ public_declarations (is_wide r.kind) true r.contents
local_publics_are r is =
    ap declarations_by (said_by_class r class.LocalPublics is) ∙ append-nil (map of_public (all_read (publics_by (is_wide r.kind) true r.place r.contents (base_read r.contents 0))))
    ∙ ap (map of_public) (behind_same (is_wide r.kind) true r.place r.contents (base_read r.contents 0))

pub externals_are : (r : Record) → class_of r.kind ≡ class.Externals → declarations_by (said r) ≡ map of_external (all_read (each_read (external_read false) r.contents 0))
externals_are r is = ap declarations_by (said_by_class r class.Externals is) ∙ ap (map of_external) (read_in_file r.place (each_read (external_read false) r.contents 0))

pub local_externals_are : (r : Record) → class_of r.kind ≡ class.LocalExternals → declarations_by (said r) ≡ map of_external (all_read (each_read (external_read true) r.contents 0))
local_externals_are r is = ap declarations_by (said_by_class r class.LocalExternals is) ∙ ap (map of_external) (read_in_file r.place (each_read (external_read true) r.contents 0))

pub communals_are : (r : Record) → class_of r.kind ≡ class.Communals → declarations_by (said r) ≡ map of_external (all_read (each_read communal_read r.contents 0))
communals_are r is = ap declarations_by (said_by_class r class.Communals is) ∙ ap (map of_external) (read_in_file r.place (each_read communal_read r.contents 0))

pub no_declarations : (r : Record) (k : EntryClass)
    → (k ≡ class.Names) ⊎ ((k ≡ class.Segment) ⊎ ((k ≡ class.Group) ⊎ ((k ≡ class.Plain) ⊎ ((k ≡ class.Iterated) ⊎ ((k ≡ class.Fixups) ⊎ (k ≡ class.Nothing)))))) → class_of r.kind ≡ k → declarations_by (said r) ≡ []
no_declarations r k h is = elim h [
  | inl e ↦ ap declarations_by (said_by_class r class.Names (is ∙ e))
  | inr h ↦ elim h [
    | inl e ↦ ap declarations_by (said_by_class r class.Segment (is ∙ e))
    | inr h ↦ elim h [
      | inl e ↦ ap declarations_by (said_by_class r class.Group (is ∙ e))
      | inr h ↦ elim h [
        | inl e ↦ ap declarations_by (said_by_class r class.Plain (is ∙ e))
        | inr h ↦ elim h [
          | inl e ↦ ap declarations_by (said_by_class r class.Iterated (is ∙ e))
          | inr h ↦ elim h [ inl e ↦ ap declarations_by (said_by_class r class.Fixups (is ∙ e)) | inr e ↦ ap declarations_by (said_by_class r class.Nothing (is ∙ e)) ]
        ]
      ]
    ]
  ]
]

-- ... all entries

abbrev pub declarations_upto : List ℕ → ℕ → List Declaration
declarations_upto file i = declarations_in (take i (entries_in file))

pub declarations_step : (file : List ℕ) (i : ℕ) (e : Entry) → slice_get (entries_in file) i ≡ Some e → declarations_upto file (i + 1) ≡ declarations_upto file i ++ declarations_by e
unfolding declarations_in
declarations_step file i e here =
    ap (flat_map declarations_by) (take_here (entries_in file) i e here) ∙ flat_map-append declarations_by (take i (entries_in file)) (e ∷ []) ∙ ap (λ (xs : List Declaration). flat_map declarations_by (take i (entries_in file)) ++ xs) (append-nil (declarations_by e))

pub declarations_none : (file : List ℕ) → [] ≡ declarations_upto file 0
unfolding declarations_in
declarations_none file = refl

pub declarations_end : (file : List ℕ) (i : ℕ) → i ≡ length (places_in file) → declarations_upto file i ≡ declarations_in (entries_in file)
declarations_end file i all_of = ap (λ (n : ℕ). declarations_in (take n (entries_in file))) (all_of ∙ sym (entry_count file)) ∙ ap declarations_in (take-length (entries_in file))
