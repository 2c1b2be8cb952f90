-- An external is the symbol that is held for it.
use Rattle.std.proofs.Common.{◌≡◌, ◌+◌, ◌-◌, ◌<◌, length, Some, refl, sym, ◌∙◌, ap, arith}
use Rattle.std.specs.Prelude.{slice_get}
use Rattle.std.proofs.lemmas.Option.{slice_get_read}
use Rattle.oc_neutral.specs.declared.reloc.Target.TheVariants as target
use Rattle.oc_omf.specs.{Entries.{entries_in}, Tables.{tables_of}}
use Rattle.oc_omf_read.specs.Aims.{external_aim, meaning_seen}
use Rattle.oc_omf_read.proofs.AimLemmas.{as_many_externals, external_named, external_none, not_indexed, number_there, zero_indexed}
use Rattle.oc_omf_read.proofs.fixes.external_of.Goals as goal

pub returns-then-index-eq0 : goal.returns-then-index-eq0
returns-then-index-eq0 c =
    let es = entries_in c.args.context.now.omf.now in
    sym (external_none es c.args.context.now.mentions.now c.requires.declarations c.args.index (zero_indexed (tables_of es).externals c.args.index (omega arith)))

pub returns-then-index-len : goal.returns-then-index-len
returns-then-index-len c =
    let es = entries_in c.args.context.now.omf.now in
    let many = as_many_externals es c.args.context.now.mentions.now c.requires.declarations in
    let past : length c.args.context.now.mentions.now.externals.items < c.args.index = omega arith in
    sym (external_none es c.args.context.now.mentions.now c.requires.declarations c.args.index (not_indexed (tables_of es).externals c.args.index (omega (arith, many, past))))

pub index-requires : goal.index-requires
index-requires c =
    let es = entries_in c.args.context.now.omf.now in
    let numbers = c.args.context.now.mentions.now.externals.items in
    let low : c.from-index.result - 1 < length numbers = omega arith in
    let here : slice_get numbers (c.from-index.result - 1) ≡ Some c.index-number.result.now = slice_get_read numbers (length numbers) (c.from-index.result - 1) c.index-number.result.now refl low c.index-number.ensures in
    let inside = number_there es c.args.context.now.mentions.now c.requires.declarations (c.from-index.result - 1) c.index-number.result.now here in
    let long = c.args.context.now.mentions.now.symbols.ok.0 in
    omega (arith, inside, long)

pub returns : goal.returns
returns c =
    let es = entries_in c.args.context.now.omf.now in
    let numbers = c.args.context.now.mentions.now.externals.items in
    let symbols = c.args.context.now.mentions.now.symbols.items in
    let low : c.from-index.result - 1 < length numbers = omega arith in
    let here : slice_get numbers (c.from-index.result - 1) ≡ Some c.index-number.result.now = slice_get_read numbers (length numbers) (c.from-index.result - 1) c.index-number.result.now refl low c.index-number.ensures in
    let inside = number_there es c.args.context.now.mentions.now c.requires.declarations (c.from-index.result - 1) c.index-number.result.now here in
    let stands : slice_get symbols c.index-number.result.now ≡ Some c.index.result.now = slice_get_read symbols (length symbols) c.index-number.result.now c.index.result.now refl inside c.index.ensures in
    let one : c.from-index.result - 1 + 1 ≡ c.args.index = omega arith in
    ap (λ named. Some (target.Symbol c.index-number.result.now, named)) c.named_by-named.ensures
    ∙ sym (external_named es c.args.context.now.mentions.now c.requires.declarations (c.from-index.result - 1) c.index-number.result.now c.index.result.now here stands)
    ∙ ap (external_aim (meaning_seen c.args.context.now)) one
