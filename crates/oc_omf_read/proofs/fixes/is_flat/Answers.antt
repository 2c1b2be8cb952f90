-- A group is told by its name.
use Rattle.std.proofs.Common.{◌≡◌, ◌-◌, ◌<◌, ◌≢◌, true, List, ℕ, length, Some, refl, sym, ◌∙◌, ap, arith, rules}
use Rattle.std.specs.Prelude.{nat_eq, bytes_eq, codes, slice_get}
use Rattle.std.proofs.lemmas.Option.{slice_get_read}
use Rattle.oc_omf.specs.{Entries.{entries_in}, Tables.{name_at, tables_of}}
use Rattle.oc_omf_read.proofs.{AimLemmas.{as_many_groups, flat_by, flat_none, group_is, not_indexed, some_indexed, zero_indexed}, ContentLemmas.{known_name}}
use Rattle.oc_omf_read.proofs.fixes.is_flat.Goals as goal

pub returns-then-index-eq0 : goal.returns-then-index-eq0
returns-then-index-eq0 c =
    let es = entries_in c.args.context.now.omf.now in
    sym (flat_none es c.args.frame (zero_indexed (tables_of es).groups c.args.frame.index (omega arith)))

pub returns-then-index-len : goal.returns-then-index-len
returns-then-index-len c =
    let es = entries_in c.args.context.now.omf.now in
    let known = c.args.context.now.known.now in
    let many = as_many_groups (tables_of es) known c.requires.knows in
    let past : length known.groups.items < c.args.frame.index = omega arith in
    sym (flat_none es c.args.frame (not_indexed (tables_of es).groups c.args.frame.index (omega (arith, many, past))))

pub returns : goal.returns
returns c =
    let es = entries_in c.args.context.now.omf.now in
    let known = c.args.context.now.known.now in
    let names = known.groups.items in
    let some : c.args.frame.index ≢ 0 = λ e. omega (arith, e) in
    let low : c.from-index.result - 1 < length names = omega arith in
    let same : c.args.frame.index - 1 ≡ c.from-index.result - 1 = omega arith in
    let one : nat_eq c.args.frame.number 1 ≡ true = search rules in
    let here : slice_get names (c.from-index.result - 1) ≡ Some c.index.result.now = slice_get_read names (length names) (c.from-index.result - 1) c.index.result.now refl low c.index.ensures in
    let g = group_is (tables_of es) known c.requires.knows (c.from-index.result - 1) c.index.result.now here in
    c.eq.ensures ∙ ap (bytes_eq c.name_in.result.now) c.as_slice.ensures ∙ ap (λ (name : List ℕ). bytes_eq name (codes "FLAT")) (c.name_in.ensures ∙ known_name (tables_of es) known c.requires.knows c.index.result.now ∙ ap (name_at (tables_of es)) (sym g.2))
    ∙ sym (flat_by es c.args.frame g.0 one (some_indexed (tables_of es).groups c.args.frame.index some ∙ ap (slice_get (tables_of es).groups) same ∙ g.1))
