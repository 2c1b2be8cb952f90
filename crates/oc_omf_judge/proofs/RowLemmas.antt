-- A fixup has a row exactly where it has one by what a reader keeps.
use Rattle.std.proofs.Common.{◌≡◌, ℕ, ◌-◌, Bool, true, false, cond, List, [], Option, None, Some, refl, sym, ◌∙◌, ap, subst}
use Rattle.std.specs.{Prelude.{◌&&◌, ◌||◌, bytes_eq, codes, nat_eq}, Option.{is_some, option_and_then, option_map, option_map_or, unwrap_or}}
use Rattle.std.proofs.lemmas.Option.{none-some}
use denote.Ref.{Bor}
use Rattle.oc_linking.specs.{Rules.{Sectional, Named as Shown}, Targets.{Target}}
use Rattle.oc_neutral.specs.Omf.Relocs.{ByFlat, ByTarget, BySelf, fixup_row}
use Rattle.oc_omf_judge.specs.{declared.earlier.SeenExternal.{SeenExternal}, NameNumbers.{NameNumbers, value_at}, EarlierSymbols.{mention_of}}
use Rattle.oc_omf_judge.specs.{declared.named.Referent.{Referent}, declared.whole.Whole.{Whole}}
use Rattle.oc_omf_judge.specs.Named.{named_external, named_of, named_symbol, same, section_at, shown}
use Rattle.oc_omf_judge.specs.Whole.{IsWhole, entries, is_flat_group, meaning, tables}
use Rattle.oc_omf.specs.{declared.structures.Method.{Method}, Structures.{External, Group, Piece}, Tables.{indexed, name_at}}
use Rattle.oc_omf.specs.{Symbols.{Mention, external_mention, mentions_in}, Fixups.{Fixed}, Fields.{aim_of, framed_row, row_of}}
use Rattle.oc_omf.specs.Targets.{frame_of, is_flat, is_named_by, meaning_of, same_named, target_of}
use Rattle.oc_omf.specs.RelocationFaults as faults
use Rattle.oc_omf_judge.specs.declared.named.Referent.TheVariants as named
use Rattle.oc_omf_judge.specs.Rows as rows
use Rattle.oc_omf_judge.proofs.{MentionLemmas.{IsAmong, same_number}, NamedLemmas.{external_there, indexed-map, named_is}}

-- ... two that are one

-- a symbol that is kept is mentioned
abbrev pub IsMentioned : List Mention → Referent → Type 0
IsMentioned ms (named.Section k) = Unit {0}
IsMentioned ms (named.Symbol local name) = IsAmong ms (record { local = local; name = name.now })

abbrev AllMentioned : List Mention → Option Referent → Type 0
AllMentioned ms o = (n : Referent) → o ≡ Some n → IsMentioned ms n

same_shown : (ms : List Mention) (a b : Referent) → IsMentioned ms a → IsMentioned ms b → same a b ≡ same_named (shown ms a) (shown ms b)
same_shown ms (named.Section j) (named.Section k) here there = refl
same_shown ms (named.Section j) (named.Symbol local name) here there = refl
same_shown ms (named.Symbol local name) (named.Section k) here there = refl
same_shown ms (named.Symbol local name) (named.Symbol other_local other_name) here there =
    sym (same_number ms (record { local = local; name = name.now }) (record { local = other_local; name = other_name.now }) here there)

symbol_mentioned : (ms : List Mention) (locals : NameNumbers) (local : Bool) (name : Bor (List ℕ)) → IsAmong ms (record { local = local; name = name.now }) → IsMentioned ms (named_symbol locals local name)
symbol_mentioned ms locals false name there = there
symbol_mentioned ms locals true name there = by (value_at locals name.now)
  where
    by : (o : Option ℕ) → IsMentioned ms (option_map_or section_at o (named.Symbol true name))
    by (Some s) = tt
    by None = there

-- an external that is kept is that of its mention
kept_external : (w : Whole) → IsWhole w → (k : ℕ) (x : SeenExternal) → indexed w.front.seen.externals.items k ≡ Some x → IsAmong (mentions_in (entries w)) (mention_of x)
kept_external w is k x here =
    by (indexed (tables w).externals k) refl
    (sym (ap (option_map mention_of) here) ∙ sym (indexed-map mention_of w.front.seen.externals.items k) ∙ ap (λ xs. indexed xs k) is.front_is.seen_is.externals_are ∙ indexed-map external_mention (tables w).externals k)
  where
    unwrapped : Option Mention → Mention
    unwrapped (Some m) = m
    unwrapped None = mention_of x

    by : (o : Option External) → indexed (tables w).externals k ≡ o → Some (mention_of x) ≡ option_map external_mention o → IsAmong (mentions_in (entries w)) (mention_of x)
    by None e f = absurd (none-some (mention_of x) (sym f))
    by (Some y) e f = subst (λ (m : Mention). IsAmong (mentions_in (entries w)) m) (sym (ap unwrapped f)) (external_there w k y e)

external_kept_mentioned : (w : Whole) → IsWhole w → (k : ℕ) → AllMentioned (mentions_in (entries w)) (named_external w k)
external_kept_mentioned w is k = by (indexed w.front.seen.externals.items k) (kept_external w is k)
  where
    held : Option Referent → Referent → Referent
    held (Some n) m = n
    held None m = m

    by : (o : Option SeenExternal) → ((x : SeenExternal) → o ≡ Some x → IsAmong (mentions_in (entries w)) (mention_of x))
        → (n : Referent) → option_map (λ (x : SeenExternal). named_symbol w.locals x.local x.name) o ≡ Some n → IsMentioned (mentions_in (entries w)) n
    by None there n e = absurd (none-some n e)
    by (Some x) there n e = subst (λ (m : Referent). IsMentioned (mentions_in (entries w)) m) (ap (λ o. held o n) e) (symbol_mentioned (mentions_in (entries w)) w.locals x.local x.name (there x refl))

section_mentioned : (ms : List Mention) (k : ℕ) → AllMentioned ms (Some (section_at k))
section_mentioned ms k n e = subst (λ (m : Referent). IsMentioned ms m) (ap held e) tt
  where
    held : Option Referent → Referent
    held (Some m) = m
    held None = n

-- what a method names is mentioned
named_mentioned : (w : Whole) → IsWhole w → (x : Method) → AllMentioned (mentions_in (entries w)) (named_of w x)
named_mentioned w is x = by (nat_eq x.number 0) (nat_eq x.number 2)
  where
    by : (a b : Bool) → AllMentioned (mentions_in (entries w)) (cond a (Some (section_at x.index)) (cond b (named_external w x.index) None))
    by true b = section_mentioned (mentions_in (entries w)) x.index
    by false true = external_kept_mentioned w is x.index
    by false false = λ n e. absurd (none-some n e)

-- ... frames

abbrev segment_in : Option Piece → Option ℕ
segment_in piece = option_map (λ (d : Piece). d.segment) piece

-- what a frame names
frame_is : (w : Whole) → IsWhole w → (piece : Option Piece) (x : Method) → option_map (shown (mentions_in (entries w))) (rows.named_frame w (segment_in piece) x) ≡ frame_of (meaning w) piece x
frame_is w is piece x = by (nat_eq x.number 4)
  where
    own : (piece : Option Piece) → option_map (shown (mentions_in (entries w))) (option_map section_at (segment_in piece)) ≡ option_map (λ (d : Piece). Sectional (d.segment - 1)) piece
    own None = refl
    own (Some d) = refl

    by : (b : Bool) → option_map (shown (mentions_in (entries w))) (cond b (option_map section_at (segment_in piece)) (named_of w x))
        ≡ cond b (option_map (λ (d : Piece). Sectional (d.segment - 1)) piece) (option_map (λ (t : Target). t.named) (target_of (meaning w) x))
    by true = own piece
    by false = named_is w is x

frame_mentioned : (w : Whole) → IsWhole w → (piece : Option Piece) (x : Method) → AllMentioned (mentions_in (entries w)) (rows.named_frame w (segment_in piece) x)
frame_mentioned w is piece x = by (nat_eq x.number 4) piece
  where
    by : (b : Bool) (piece : Option Piece) → AllMentioned (mentions_in (entries w)) (cond b (option_map section_at (segment_in piece)) (named_of w x))
    by true None = λ n e. absurd (none-some n e)
    by true (Some d) = section_mentioned (mentions_in (entries w)) d.segment
    by false piece = named_mentioned w is x

-- the frame is what the target names
named_by_is : (w : Whole) → IsWhole w → (piece : Option Piece) (frame : Method) (target : Referent) (t : Target) → shown (mentions_in (entries w)) target ≡ t.named → IsMentioned (mentions_in (entries w)) target
    → rows.is_named_by w (segment_in piece) frame target ≡ is_named_by (meaning w) piece frame t
named_by_is w is piece frame target t e here =
    by (rows.named_frame w (segment_in piece) frame) (frame_mentioned w is piece frame) ∙ ap (λ o. option_map_or (same_named t.named) o false) (frame_is w is piece frame)
  where
    by : (o : Option Referent) → AllMentioned (mentions_in (entries w)) o → option_map_or (same target) o false ≡ option_map_or (same_named t.named) (option_map (shown (mentions_in (entries w))) o) false
    by None there = refl
    by (Some n) there = same_shown (mentions_in (entries w)) target n here (there n refl) ∙ ap (λ (s : Shown). same_named s (shown (mentions_in (entries w)) n)) e

-- the frame is the group FLAT
flat_is : (w : Whole) → IsWhole w → (x : Method) → is_flat_group w x ≡ is_flat (meaning w) x
unfolding meaning_of
flat_is w is x =
    ap (λ names. nat_eq x.number 1 && option_map_or (λ (g : ℕ). bytes_eq (unwrap_or (indexed names g) []) (codes "FLAT")) (indexed w.front.defined.groups.items x.index) false) is.front_is.defined_is.names_are
    ∙ ap (λ gs. nat_eq x.number 1 && option_map_or (λ (g : ℕ). bytes_eq (name_at (tables w) g) (codes "FLAT")) (indexed gs x.index) false) is.front_is.defined_is.groups_are
    ∙ ap (λ o. nat_eq x.number 1 && option_map_or (λ (g : ℕ). bytes_eq (name_at (tables w) g) (codes "FLAT")) o false) (indexed-map (λ (g : Group). g.name) (tables w).groups x.index)
    ∙ ap (λ b. nat_eq x.number 1 && b) (by (indexed (tables w).groups x.index))
  where
    by : (o : Option Group) → option_map_or (λ (g : ℕ). bytes_eq (name_at (tables w) g) (codes "FLAT")) (option_map (λ (g : Group). g.name) o) false
        ≡ option_map_or (λ (g : Group). bytes_eq (name_at (tables w) g.name) (codes "FLAT")) o false
    by None = refl
    by (Some g) = refl

-- ... rows

framed_is : (w : Whole) → IsWhole w → (x : Fixed) (frame : Method) (target : Referent) (t : Target) → shown (mentions_in (entries w)) target ≡ t.named → IsMentioned (mentions_in (entries w)) target
    → rows.is_framed w (segment_in x.piece) frame target ≡ is_some (framed_row (meaning w) x t frame)
framed_is w is x frame target t e here =
    ap (λ b. (b || nat_eq frame.number 5) || rows.is_named_by w (segment_in x.piece) frame target) (flat_is w is frame)
    ∙ ap (λ b. (is_flat (meaning w) frame || nat_eq frame.number 5) || b) (named_by_is w is x.piece frame target t e here)
    ∙ by (is_flat (meaning w) frame) (nat_eq frame.number 5) (is_named_by (meaning w) x.piece frame t)
  where
    by : (a b c : Bool) → ((a || b) || c) ≡ is_some (cond a (Some (fixup_row ByFlat)) (cond (b || c) (Some (fixup_row ByTarget)) None))
    by true b c = refl
    by false true c = refl
    by false false true = refl
    by false false false = refl

written_is : (w : Whole) → IsWhole w → (x : Fixed) (target : Referent) (t : Target) → shown (mentions_in (entries w)) target ≡ t.named → IsMentioned (mentions_in (entries w)) target
    → rows.is_written w (segment_in x.piece) x.fixup.segment_relative x.frame target ≡ is_some (row_of (meaning w) x t)
written_is w is x target t e here = by x.fixup.segment_relative x.frame
  where
    by : (b : Bool) (o : Option Method) → rows.is_written w (segment_in x.piece) b o target ≡ is_some (cond b (option_and_then (framed_row (meaning w) x t) o) (Some (fixup_row BySelf)))
    by false o = refl
    by true None = refl
    by true (Some frame) = framed_is w is x frame target t e here

-- a fixup has a row
pub row_is : (w : Whole) → IsWhole w → (x : Fixed) → rows.has_row w (segment_in x.piece) x.fixup.segment_relative x.target x.frame ≡ faults.has_row (meaning w) x (aim_of (meaning w) x)
row_is w is x = by x.target
  where
    both : (o : Option Referent) (p : Option Target) → option_map (shown (mentions_in (entries w))) o ≡ option_map (λ (t : Target). t.named) p → AllMentioned (mentions_in (entries w)) o
        → option_map_or (rows.is_written w (segment_in x.piece) x.fixup.segment_relative x.frame) o false ≡ option_map_or (λ t. is_some (row_of (meaning w) x t)) p false
    both None None e there = refl
    both None (Some t) e there = absurd (none-some t.named e)
    both (Some n) None e there = absurd (none-some (shown (mentions_in (entries w)) n) (sym e))
    both (Some n) (Some t) e there = written_is w is x n t (ap held e) (there n refl)
      where
        held : Option Shown → Shown
        held (Some s) = s
        held None = t.named

    by : (o : Option Method) → option_map_or (rows.is_written w (segment_in x.piece) x.fixup.segment_relative x.frame) (rows.named_target w o) false
        ≡ faults.has_row (meaning w) x (option_and_then (target_of (meaning w)) o)
    by None = refl
    by (Some m) = both (named_of w m) (target_of (meaning w) m) (named_is w is m) (named_mentioned w is m)
