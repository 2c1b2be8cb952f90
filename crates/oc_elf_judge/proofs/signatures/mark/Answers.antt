-- One header more.
use Rattle.std.proofs.Common.{◌≡◌, ℕ, ◌+◌, ◌<◌, ◌∙◌, ◌||◌, Bool, false, List, Option, Some, length, set, sym, ap, subst, arith, is_some, bytes_eq, []}
use Rattle.std.proofs.lemmas.{List.{length-map}, List.FromFn.{length-map-range_with_len}}
use Rattle.std.specs.Option.{option_copied, option_map_or}
use Rattle.oc_strings.specs.Repeats.{NameList, name_at, names_of, repeat_at}
use Rattle.oc_elf.specs.{declared.shdr.Shdr.{Shdr}, Frames.{FileFrame}, Groups.{comdat_key, comdat_keys}, SymbolRules.{is_bad_key}}
use Rattle.oc_elf_judge.specs.Marks.{AreMarks}
use Rattle.oc_elf_judge.proofs.{KeyedLemmas.{keyed_at}, MarkLemmas.{good_key, marks_kept, marks_more, other_group}}
use Rattle.oc_elf_judge.proofs.signatures.mark.Goals as goal

pub is_bad_key-requires-clause-there : goal.is_bad_key-requires-clause-there
is_bad_key-requires-clause-there c =
    let long : length (names_of c.args.keys.now) ≡ length c.args.frame.now.headers = ap length c.requires.keys ∙ length-map-range_with_len (comdat_key c.args.frame.now) 0 (length c.args.frame.now.headers) in
    omega (arith, long, length-map c.args.keys.now option_copied, c.requires.there)

-- what is asked of the keys is asked of the header
bad : (f : FileFrame) (names : NameList) (g : ℕ) (b : Bool) → names ≡ comdat_keys f → g < length f.headers
    → b ≡ (option_map_or (λ key. bytes_eq key []) (name_at names g) false || is_some (repeat_at names g)) → b ≡ is_bad_key f g
bad f names g b are low is =
    is ∙ ap (λ (ns : NameList). option_map_or (λ key. bytes_eq key []) (name_at ns g) false || is_some (repeat_at ns g)) are
    ∙ ap (λ (o : Option (List ℕ)). option_map_or (λ key. bytes_eq key []) o false || is_some (repeat_at (comdat_keys f) g)) (keyed_at f g low)

pub returns-then-not-is_comdat : goal.returns-then-not-is_comdat
returns-then-not-is_comdat c =
    marks_kept c.args.frame.now c.args.g c.args.marks.now c.requires.marks (other_group c.args.frame.now c.args.g (sym c.is_comdat.ensures ∙ c.if-not-is_comdat.true))

pub returns-then-not-is_bad_key : goal.returns-then-not-is_bad_key
returns-then-not-is_bad_key c =
    marks_kept c.args.frame.now c.args.g c.args.marks.now c.requires.marks
    (good_key c.args.frame.now c.args.g (sym (bad c.args.frame.now (names_of c.args.keys.now) c.args.g c.is_bad_key.result c.requires.keys c.requires.there c.is_bad_key.ensures) ∙ c.if-not-is_bad_key.true))

pub returns : goal.returns
returns c =
    subst (AreMarks c.args.frame.now (c.args.g + 1)) (sym (c.fill.ensures ∙ ap (λ (s : Shdr). set c.args.marks.now s.sh_info (Some c.args.g)) c.header.ensures))
    (marks_more c.args.frame.now c.args.g c.args.marks.now c.requires.marks (sym c.is_comdat.ensures ∙ c.if-not-is_comdat.false)
    (sym (bad c.args.frame.now (names_of c.args.keys.now) c.args.g c.is_bad_key.result c.requires.keys c.requires.there c.is_bad_key.ensures) ∙ c.if-not-is_bad_key.false))
