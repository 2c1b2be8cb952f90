-- What is made of an object is planned.
use Rattle.std.proofs.Common.{◌≡◌, ◌^◌, ◌<◌, ◌≤◌, List, length, ap, arith}
use Rattle.std.specs.List.{AllByRecursion}
use Rattle.std.proofs.lemmas.List.{length-map}
use Rattle.oc_neutral.specs.Objects.{Object}
use Rattle.oc_omf_file.proofs.CodedLaws.{IsForOmf, few_names}
use Rattle.oc_omf_write.specs.{declared.entries.Entry.{Entry}, declared.tables.WrittenTables.{WrittenTables}, Made.{IsMadeWith}, Names.{text_by}, Pieces.{AreInSections}}
use Rattle.oc_omf_write.specs.{Plans.{AreEntries, parts_by, omf_parts}, Tables.{AreSound, fixups_of, CanPut}}
use Rattle.oc_omf_write.proofs.{FinalLemmas.{entries_put, entries_same}, ReadyLemmas.{sections_counted, sound, in_sections, few}}

module _ (n : Object) (is : IsForOmf n) (t : WrittenTables) (symbols : List Entry) (with : IsMadeWith n t symbols) where
  pub made_sound : AreSound t
  made_sound = sound n is t with.numbers with.made with.named

  pub made_inside : AreInSections t.sections.items (fixups_of t)
  made_inside = in_sections n is t with.numbers with.made

  pub few_sections : length t.sections.items < 2 ^ 31
  few_sections = let count = sections_counted n is t with.numbers with.made in let low = is.meets.few in omega (arith, count, low)

  pub few_texts : length t.names.items < 2 ^ 32
  few_texts =
      let texts = ap length with.made.texts in
      let mapped = length-map t.names.items (text_by t.sections.items) in
      let low = few_names n is in
      omega (arith, texts, mapped, low)

  pub made_few : (entries : List Entry) → length n.symbols ≤ 2 ^ 24 → AreEntries t symbols entries → length entries < 2 ^ 50
  made_few entries low are = few n is t with.numbers with.made symbols entries with.of low are

  pub made_put : (entries : List Entry) → AreEntries t symbols entries → AllByRecursion (CanPut t) entries
  made_put entries are = entries_put n is t with.numbers with.made symbols entries with.of are

  pub made_same : (entries : List Entry) → AreEntries t symbols entries → parts_by t entries ≡ omf_parts n
  made_same entries are = entries_same n is t with.numbers with.made symbols entries with.of are
