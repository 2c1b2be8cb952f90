-- What is built before the relocations can be read.
use Rattle.std.proofs.Common.{◌≡◌, ℕ, Bool, true, cond, List, [], ◌∷◌, map, sym, arith}
use Rattle.std.specs.{Prelude.{◌&&◌, not, bytes_eq, codes}, List.{AllByRecursion, enumerate_from}}
use Rattle.std.proofs.lemmas.Bool.{true≢false}
use Rattle.oc_base.specs.{declared.format.Format.TheVariants.{Omf}, Strings.{ends}}
use Rattle.oc_linking.specs.declared.terms.Kind.TheVariants.{Code, ReadOnly, Data, Zero, Debug}
use Rattle.oc_neutral.specs.{declared.section.Section.{Section}, GivenTags.{can_have}, KindRules.{begins}, Omf.Kinds.{omf_kind, omf_tag}}
use Rattle.oc_shows.specs.{Readable.{IsReadable}, Started.{stored_section}}
use Rattle.oc_omf.specs.{declared.structures.Segment.{Segment}, Entries.{entries_in}, Sections.{is_covered, section_of, sections_in}}
use Rattle.oc_omf.specs.Tables.{name_at, tables_of}
use Rattle.oc_omf.specs.Tables as all
use Rattle.oc_omf_read.specs.Built.{started}

-- each kind of a class can have each name
kind_given : (class : List ℕ) (covered : Bool) (name : List ℕ) → can_have Omf (omf_kind class covered) name omf_tag ≡ true
unfolding omf_kind
kind_given class covered name = by (ends (codes "CODE") class) (begins class (codes "DEB")) (bytes_eq class (codes "CONST")) (bytes_eq class (codes "BSS") && not covered)
  where
    by : (a b c d : Bool) → can_have Omf (cond a Code (cond b Debug (cond c ReadOnly (cond d Zero Data)))) name omf_tag ≡ true
    by a b c d = grind arith

all_given : (t : all.Tables) (xs : List (ℕ × Segment)) → AllByRecursion (λ (s : Section). can_have Omf s.kind s.name s.tag ≡ true) (map (stored_section []) (map (section_of t) xs))
all_given t [] = tt
all_given t (x ∷ xs) = (kind_given (name_at t x.1.class) (is_covered t x.0) (name_at t x.1.name), all_given t xs)

pub readable : (b : List ℕ) → IsReadable (started b).object
unfolding sections_in
readable b = record {
  tags = all_given (tables_of (entries_in b)) (enumerate_from 1 (tables_of (entries_in b)).segments);
  blanks = λ s x there blank. absurd (true≢false (sym blank));
}
