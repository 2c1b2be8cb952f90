-- What an entry says, by what it speaks of.
use Rattle.std.proofs.Common.{◌≡◌, ℕ, ◌⊎◌, inl, inr, Bool, true, false, cond, List, [], ◌∷◌, Some, None, Ok, Err, refl, ap, arith}
use Rattle.std.specs.{Prelude.{◌||◌, ◌+◌, nat_eq}, Option.{unwrap_or}}
use Rattle.std.proofs.lemmas.Bool.{eqb-true}
use Rattle.oc_omf.specs.declared.constants.TheConstants.{EXTDEF, PUBDEF, LNAMES, SEGDEF, GRPDEF, FIXUPP, LEDATA, LIDATA, COMDEF, LEXTDEF, LPUBDEF, MODEND}
use Rattle.oc_omf.specs.{declared.structures.PublicBase.{PublicBase}, Cursor.{Reading, Read, each_read, name_read}}
use Rattle.oc_omf.specs.Structures.{Public, segment_read, group_read, base_read, public_read, external_read, communal_read, piece_read, subrecord_read}
use Rattle.oc_omf.specs.Entries.{Entry, all_read, even_of, is_kind, is_wide, says_nothing, in_file, whole, publics_of, said_by}
use Rattle.oc_omf_read.specs.{declared.class.EntryClass.{EntryClass}, Classes.{class_of}, Defined.{read_in}}
use Rattle.oc_omf_read.specs.declared.class.EntryClass.TheVariants as class

-- the symbols of an entry, behind its base
abbrev pub publics_by : Bool → Bool → ℕ → List ℕ → Reading PublicBase → List (Read Public)
publics_by wide local place b (Ok r) = in_file place (each_read (public_read wide local r.0.segment) b r.1)
publics_by wide local place b (Err c) = []

-- what an entry says by its contents, by what it speaks of
abbrev pub said_as : ℕ → Bool → Bool → List ℕ → EntryClass → Entry
said_as place wide ends b class.Names = record (says_nothing place) { names = in_file place (each_read name_read b 0) }
said_as place wide ends b class.Segment = record (says_nothing place) { segments = whole place (segment_read wide b 0) }
said_as place wide ends b class.Group = record (says_nothing place) { groups = whole place (group_read b 0) }
said_as place wide ends b class.Publics = record (says_nothing place) { bases = whole place (base_read b 0); publics = publics_by wide false place b (base_read b 0) }
said_as place wide ends b class.LocalPublics = record (says_nothing place) { bases = whole place (base_read b 0); publics = publics_by wide true place b (base_read b 0) }
said_as place wide ends b class.Externals = record (says_nothing place) { externals = in_file place (each_read (external_read false) b 0) }
said_as place wide ends b class.LocalExternals = record (says_nothing place) { externals = in_file place (each_read (external_read true) b 0) }
said_as place wide ends b class.Communals = record (says_nothing place) { externals = in_file place (each_read communal_read b 0) }
said_as place wide ends b class.Plain = record (says_nothing place) { pieces = whole place (piece_read wide false b 0) }
said_as place wide ends b class.Iterated = record (says_nothing place) { pieces = whole place (piece_read wide true b 0) }
said_as place wide ends b class.Fixups = record (says_nothing place) { subrecords = in_file place (each_read (subrecord_read wide) b 0) }
said_as place wide ends b class.Nothing = record (says_nothing place) { ends = ends }

publics_same : (kind place : ℕ) (b : List ℕ) (local : Bool) (r : Reading PublicBase) → is_kind LPUBDEF kind ≡ local → publics_of kind place b r ≡ publics_by (is_wide kind) local place b r
publics_same kind place b local r is = grind arith

-- the types of two records differ
publics_apart : (kind : ℕ) → is_kind PUBDEF kind ≡ true → is_kind LPUBDEF kind ≡ false
publics_apart kind is = ap (λ (n : ℕ). nat_eq n LPUBDEF) (eqb-true (even_of kind) PUBDEF is)

externals_apart : (kind : ℕ) → is_kind EXTDEF kind ≡ true → is_kind LEXTDEF kind ≡ false
externals_apart kind is = ap (λ (n : ℕ). nat_eq n LEXTDEF) (eqb-true (even_of kind) EXTDEF is)

data_apart : (kind : ℕ) → is_kind LEDATA kind ≡ true → is_kind LIDATA kind ≡ false
data_apart kind is = ap (λ (n : ℕ). nat_eq n LIDATA) (eqb-true (even_of kind) LEDATA is)

module _ (place kind : ℕ) (b : List ℕ) where
  abbrev chained : Bool → Bool → Bool → Bool → Bool → Bool → Bool → Bool → Bool → Bool → Bool → Entry
  chained n s g p l x y c d i f =
      cond n (record (says_nothing place) { names = in_file place (each_read name_read b 0) })
      (cond s (record (says_nothing place) { segments = whole place (segment_read (is_wide kind) b 0) })
      (cond g (record (says_nothing place) { groups = whole place (group_read b 0) })
      (cond (p || l) (record (says_nothing place) { bases = whole place (base_read b 0); publics = publics_of kind place b (base_read b 0) })
      (cond (x || y) (record (says_nothing place) { externals = in_file place (each_read (external_read (is_kind LEXTDEF kind)) b 0) })
      (cond c (record (says_nothing place) { externals = in_file place (each_read communal_read b 0) })
      (cond (d || i) (record (says_nothing place) { pieces = whole place (piece_read (is_wide kind) (is_kind LIDATA kind) b 0) })
      (cond f (record (says_nothing place) { subrecords = in_file place (each_read (subrecord_read (is_wide kind)) b 0) })
      (record (says_nothing place) { ends = is_kind MODEND kind }))))))))

  abbrev classed : Bool → Bool → Bool → Bool → Bool → Bool → Bool → Bool → Bool → Bool → Bool → EntryClass
  classed n s g p l x y c d i f =
      cond n class.Names (cond s class.Segment (cond g class.Group (unwrap_or
      (cond p (Some class.Publics) (cond l (Some class.LocalPublics) (cond x (Some class.Externals) (cond y (Some class.LocalExternals) (cond c (Some class.Communals) None)))))
      (cond d class.Plain (cond i class.Iterated (cond f class.Fixups class.Nothing))))))

  abbrev Same : Bool → Bool → Bool → Bool → Bool → Bool → Bool → Bool → Bool → Bool → Bool → Type 0
  Same n s g p l x y c d i f = chained n s g p l x y c d i f ≡ said_as place (is_wide kind) (is_kind MODEND kind) b (classed n s g p l x y c d i f)

  by_publics : (local : Bool) → is_kind LPUBDEF kind ≡ local → record (says_nothing place) { bases = whole place (base_read b 0); publics = publics_of kind place b (base_read b 0) }
      ≡ record (says_nothing place) { bases = whole place (base_read b 0); publics = publics_by (is_wide kind) local place b (base_read b 0) }
  by_publics local is = ap (λ (xs : List (Read Public)). record (says_nothing place) { bases = whole place (base_read b 0); publics = xs }) (publics_same kind place b local (base_read b 0) is)

  by_externals : (local : Bool) → is_kind LEXTDEF kind ≡ local → record (says_nothing place) { externals = in_file place (each_read (external_read (is_kind LEXTDEF kind)) b 0) }
      ≡ record (says_nothing place) { externals = in_file place (each_read (external_read local) b 0) }
  by_externals local is = ap (λ (l : Bool). record (says_nothing place) { externals = in_file place (each_read (external_read l) b 0) }) is

  by_data : (iterated : Bool) → is_kind LIDATA kind ≡ iterated → record (says_nothing place) { pieces = whole place (piece_read (is_wide kind) (is_kind LIDATA kind) b 0) }
      ≡ record (says_nothing place) { pieces = whole place (piece_read (is_wide kind) iterated b 0) }
  by_data iterated is = ap (λ (l : Bool). record (says_nothing place) { pieces = whole place (piece_read (is_wide kind) l b 0) }) is

  by : (n s g p l x y c d i f : Bool) → is_kind PUBDEF kind ≡ p → is_kind LPUBDEF kind ≡ l → is_kind EXTDEF kind ≡ x → is_kind LEXTDEF kind ≡ y → is_kind LEDATA kind ≡ d → is_kind LIDATA kind ≡ i
      → Same n s g p l x y c d i f
  by true s g p l x y c d i f ep el ex ey ed ei = refl
  by false true g p l x y c d i f ep el ex ey ed ei = refl
  by false false true p l x y c d i f ep el ex ey ed ei = refl
  by false false false true l x y c d i f ep el ex ey ed ei = by_publics false (publics_apart kind ep)
  by false false false false true x y c d i f ep el ex ey ed ei = by_publics true el
  by false false false false false true y c d i f ep el ex ey ed ei = by_externals false (externals_apart kind ex)
  by false false false false false false true c d i f ep el ex ey ed ei = by_externals true ey
  by false false false false false false false true d i f ep el ex ey ed ei = refl
  by false false false false false false false false true i f ep el ex ey ed ei = by_data false (data_apart kind ed)
  by false false false false false false false false false true f ep el ex ey ed ei = by_data true ei
  by false false false false false false false false false false true ep el ex ey ed ei = refl
  by false false false false false false false false false false false ep el ex ey ed ei = refl

  pub said_is : said_by place kind b ≡ said_as place (is_wide kind) (is_kind MODEND kind) b (class_of kind)
  unfolding said_by
  said_is = by (is_kind LNAMES kind) (is_kind SEGDEF kind) (is_kind GRPDEF kind) (is_kind PUBDEF kind) (is_kind LPUBDEF kind) (is_kind EXTDEF kind) (is_kind LEXTDEF kind) (is_kind COMDEF kind) (is_kind LEDATA kind)
      (is_kind LIDATA kind) (is_kind FIXUPP kind) refl refl refl refl refl refl

-- ... what is read of it

pub read_whole : {X : Type 0} (place : ℕ) (r : Reading X) → all_read (whole place r) ≡ read_in r
read_whole place r = grind arith

-- ... classes that define nothing of some sort

-- no data
abbrev pub has_no_data : EntryClass → Bool
has_no_data class.Names = true
has_no_data class.Segment = true
has_no_data class.Group = true
has_no_data class.Publics = true
has_no_data class.LocalPublics = true
has_no_data class.Externals = true
has_no_data class.LocalExternals = true
has_no_data class.Communals = true
has_no_data class.Plain = false
has_no_data class.Iterated = false
has_no_data class.Fixups = true
has_no_data class.Nothing = true

-- as matches leave it
pub no_data : (k : EntryClass) → (k ≡ class.Names) ⊎ ((k ≡ class.Segment) ⊎ ((k ≡ class.Group) ⊎ ((k ≡ class.Publics) ⊎ ((k ≡ class.LocalPublics) ⊎ ((k ≡ class.Externals) ⊎ ((k ≡ class.LocalExternals) ⊎ ((k ≡ class.Communals) ⊎ ((k ≡ class.Fixups) ⊎ (k ≡ class.Nothing))))))))) → has_no_data k ≡ true
no_data k h = elim h [ inl e ↦ ap has_no_data e | inr h ↦ elim h [ inl e ↦ ap has_no_data e | inr h ↦ elim h [ inl e ↦ ap has_no_data e | inr h ↦ elim h [ inl e ↦ ap has_no_data e | inr h ↦ elim h [ inl e ↦ ap has_no_data e | inr h ↦ elim h [ inl e ↦ ap has_no_data e | inr h ↦ elim h [ inl e ↦ ap has_no_data e | inr h ↦ elim h [ inl e ↦ ap has_no_data e | inr h ↦ elim h [ inl e ↦ ap has_no_data e | inr e ↦ ap has_no_data e ] ] ] ] ] ] ] ] ]
