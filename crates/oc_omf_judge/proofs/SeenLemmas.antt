-- Symbols that follow one another in an entry.
use Rattle.std.proofs.Common.{◌≡◌, ℕ, ◌+◌, Bool, List, [], ◌∷◌, ◌++◌, length, map, take, Option, Some, None, Result, Ok, Err, refl, sym, ◌∙◌, ap, append-nil, append_assoc}
use Rattle.std.specs.{Prelude.{get_or}, List.{enumerate_from}}
use Rattle.std.proofs.Math.Seq.{take-append_seam}
use Rattle.std.proofs.lemmas.{List.{length-append}, List.Elements.{filter_map-append}}
use Rattle.oc_base.specs.declared.fault.Fault.{Fault}
use Rattle.oc_linking.specs.{Numbers.{or_else}, FirstFault.{Condition, first_broken, stage_fault}}
use Rattle.oc_shelf.proofs.ReadingLaws.StageLemmas.{first_upto-head}
use Rattle.oc_omf.specs.{declared.cut.Cut.{Cut}, declared.structures.PublicBase.{PublicBase}, Cursor.{Read, Reading}, Structures.{Public, External, base_read}}
use Rattle.oc_omf.specs.{Entries.{Entry, all_read, read_of, whole}, Tables.{Tables}}
use Rattle.oc_omf.specs.SymbolFaults.{EntryContext, base_conditions, code_of, external_conditions, public_conditions, symbol_fault, symbol_stage, symbol_table, read_conditions}
use Rattle.oc_omf.specs.Topics.{publics_on, said_on}
use Rattle.oc_omf.specs.declared.topics.Topic.TheVariants as topic
use Rattle.oc_omf_judge.specs.EarlierSymbols.{external_behind, public_behind, walked}

-- the first fault of lists of conditions
abbrev pub first_among : List (List Condition) → Option Fault
first_among [] = None
first_among (cs ∷ table) = or_else (first_broken cs) (first_among table)

-- a table as a stage
pub stage_among : (table : List (List Condition)) → stage_fault (record { count = length table; conditions = λ j. get_or table j [] }) ≡ first_among table
stage_among [] = refl
stage_among (cs ∷ table) = first_upto-head (λ j. first_broken (get_or (cs ∷ table) j [])) (length table) ∙ ap (or_else (first_broken cs)) (stage_among table)

assoc : (a b c : Option Fault) → or_else (or_else a b) c ≡ or_else a (or_else b c)
assoc None b c = refl
assoc (Some x) b c = refl

pub among_append : (xs ys : List (List Condition)) → first_among (xs ++ ys) ≡ or_else (first_among xs) (first_among ys)
among_append [] ys = refl
among_append (x ∷ xs) ys = ap (or_else (first_broken x)) (among_append xs ys) ∙ sym (assoc (first_broken x) (first_among xs) (first_among ys))

-- structures that follow one another, each behind those before it
module _ {X : Type 0} (conditions : List X → ℕ × ℕ → X → List Condition) (index : ℕ) (base : List X) where
  -- the conditions on the one at a position among all
  abbrev pub at_position : List (Read X) → ℕ → ℕ × ℕ → X → List Condition
  at_position all j at y = conditions (base ++ all_read (take j all)) at y

  -- by what the first is
  by_part : (front rs : List (Read X)) (at : ℕ) (part : Result X Cut) → ((front : List (Read X)) → first_among (map (λ (y : ℕ × Read X). read_conditions index (at_position (front ++ rs) y.0) y.1) (enumerate_from (length front) rs))
      ≡ walked conditions index (base ++ all_read front) rs)
      → first_among (map (λ (y : ℕ × Read X). read_conditions index (at_position (front ++ record { at = at; part = part } ∷ rs) y.0) y.1) (enumerate_from (length front) (record { at = at; part = part } ∷ rs)))
      ≡ walked conditions index (base ++ all_read front) (record { at = at; part = part } ∷ rs)
  by_part front rs at (Ok y) rest =
      let r : Read X = record { at = at; part = Ok y } in
      let all : front ++ r ∷ rs ≡ (front ++ r ∷ []) ++ rs = sym (append_assoc front (r ∷ []) rs) in
      let long : length (front ++ r ∷ []) ≡ length front + 1 = length-append front (r ∷ []) in
      ap (λ xs. or_else (first_broken (conditions (base ++ all_read xs) (index, at) y)) (first_among (map (λ (y : ℕ × Read X). read_conditions index (at_position (front ++ r ∷ rs) y.0) y.1) (enumerate_from (length front + 1) rs))))
      (take-append_seam front (r ∷ rs))
      ∙ ap (or_else (first_broken (conditions (base ++ all_read front) (index, at) y)))
      (ap (λ xs. first_among (map (λ (y : ℕ × Read X). read_conditions index (at_position xs y.0) y.1) (enumerate_from (length front + 1) rs))) all
      ∙ ap (λ (n : ℕ). first_among (map (λ (y : ℕ × Read X). read_conditions index (at_position ((front ++ r ∷ []) ++ rs) y.0) y.1) (enumerate_from n rs))) (sym long)
      ∙ rest (front ++ r ∷ [])
      ∙ ap (λ xs. walked conditions index xs rs) (ap (λ xs. base ++ xs) (filter_map-append read_of front (r ∷ [])) ∙ sym (append_assoc base (all_read front) (y ∷ []))))
  by_part front rs at (Err c) rest = refl

  pub walk_is : (rs front : List (Read X)) → first_among (map (λ (y : ℕ × Read X). read_conditions index (at_position (front ++ rs) y.0) y.1) (enumerate_from (length front) rs))
      ≡ walked conditions index (base ++ all_read front) rs
  walk_is [] front = refl
  walk_is (r ∷ rs) front = by_part front rs r.at r.part (walk_is rs)

-- ... the stage of an entry

right : (a : Option Fault) → or_else a None ≡ a
right None = refl
right (Some x) = refl

-- what is judged of the base of definitions, and then of these
abbrev pub base_verdict : Tables → ℕ × ℕ → Reading PublicBase → Option Fault → Option Fault
base_verdict t x (Ok r) rest = or_else (first_broken (base_conditions (length t.groups) (length t.segments) x r.0)) rest
base_verdict t x (Err c) rest = Some (symbol_fault x (code_of c))

publics_table : (all t : Tables) (index : ℕ) (e : Entry)
    → first_among (map (λ (p : ℕ × Read Public). read_conditions index (public_conditions (record { index = index; before = t; all = all; entry = e }) p.0) p.1) (enumerate_from 0 e.publics))
    ≡ walked (public_behind t) index t.publics e.publics
unfolding public_conditions
publics_table all t index e = walk_is (public_behind t) index t.publics e.publics [] ∙ ap (λ xs. walked (public_behind t) index xs e.publics) (append-nil t.publics)

externals_table : (all t : Tables) (index : ℕ) (e : Entry)
    → first_among (map (λ (y : ℕ × Read External). read_conditions index (external_conditions (record { index = index; before = t; all = all; entry = e }) y.0) y.1) (enumerate_from 0 e.externals))
    ≡ walked (external_behind all) index t.externals e.externals
unfolding external_conditions
externals_table all t index e = walk_is (external_behind all) index t.externals e.externals [] ∙ ap (λ xs. walked (external_behind all) index xs e.externals) (append-nil t.externals)

-- the first fault of an entry: of its bases, its definitions, and its externals
pub symbols_judged : (all t : Tables) (index : ℕ) (e : Entry)
    → stage_fault (symbol_stage (record { index = index; before = t; all = all; entry = e }))
    ≡ or_else (first_among (map (read_conditions index (base_conditions (length t.groups) (length t.segments))) e.bases))
    (or_else (walked (public_behind t) index t.publics e.publics) (walked (external_behind all) index t.externals e.externals))
unfolding symbol_table
symbols_judged all t index e =
    let x : EntryContext = record { index = index; before = t; all = all; entry = e } in
    let bases = map (read_conditions index (base_conditions (length t.groups) (length t.segments))) e.bases in
    let publics = map (λ (p : ℕ × Read Public). read_conditions index (public_conditions x p.0) p.1) (enumerate_from 0 e.publics) in
    let externals = map (λ (y : ℕ × Read External). read_conditions index (external_conditions x y.0) y.1) (enumerate_from 0 e.externals) in
    stage_among (symbol_table x) ∙ among_append bases (publics ++ externals) ∙ ap (or_else (first_among bases)) (among_append publics externals)
    ∙ ap (λ o. or_else (first_among bases) (or_else o (first_among externals))) (publics_table all t index e)
    ∙ ap (λ o. or_else (first_among bases) (or_else (walked (public_behind t) index t.publics e.publics) o)) (externals_table all t index e)

pub publics_judged : (all t : Tables) (index : ℕ) (local : Bool) (place : ℕ) (wide : Bool) (b : List ℕ)
    → stage_fault (symbol_stage (record { index = index; before = t; all = all; entry = said_on (topic.Publics local) place wide b }))
    ≡ base_verdict t (index, place) (base_read b 0) (walked (public_behind t) index t.publics (publics_on local place wide b (base_read b 0)))
publics_judged all t index local place wide b = symbols_judged all t index (said_on (topic.Publics local) place wide b) ∙ by (base_read b 0)
  where
    by : (r : Reading PublicBase) → or_else (first_among (map (read_conditions index (base_conditions (length t.groups) (length t.segments))) (whole place r)))
        (or_else (walked (public_behind t) index t.publics (publics_on local place wide b r)) None) ≡ base_verdict t (index, place) r (walked (public_behind t) index t.publics (publics_on local place wide b r))
    by (Ok r) = ap (λ o. or_else o (or_else (walked (public_behind t) index t.publics (publics_on local place wide b (Ok r))) None)) (right (first_broken (base_conditions (length t.groups) (length t.segments) (index, place) r.0)))
        ∙ ap (or_else (first_broken (base_conditions (length t.groups) (length t.segments) (index, place) r.0))) (right (walked (public_behind t) index t.publics (publics_on local place wide b (Ok r))))
    by (Err c) = refl
