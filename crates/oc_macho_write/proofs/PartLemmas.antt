-- The parts of a file, those in front, those of sections and those behind.
use Rattle.std.proofs.Common.{◌≡◌, List, [], ◌∷◌, ◌++◌, length, map, Some, sym, ◌∙◌, ap, append_assoc}
use Rattle.std.specs.List.{enumerate_from}
use Rattle.std.proofs.lemmas.List.{length-map}
use Rattle.oc_neutral.specs.Objects.{Object}
use Rattle.oc_macho_file.specs.{Addresses.{stored_sections}, Layout.{head_parts, table_parts, raw_part, relocs_part, parts_of}}
use Rattle.oc_macho_file.specs.Layout as layout
use Rattle.oc_macho_write.specs.{declared.parts.Part.{Part}, Parts.{AreParts, part_in, parts_in}}
use Rattle.oc_macho_write.specs.declared.parts.Part.TheVariants as part
use Rattle.oc_plans.proofs.Turns.{map_append}

pub parts_whole : (n : Object) (heads raws relocs all : List Part) → heads ≡ part.FileHead ∷ part.SegmentHead ∷ part.SectionHeads ∷ part.SymtabHead ∷ part.DysymtabHead ∷ []
    → parts_in n raws ≡ parts_in n heads ++ map Some (map raw_part (stored_sections n)) → parts_in n relocs ≡ parts_in n raws ++ map Some (map relocs_part (enumerate_from 0 n.sections))
    → all ≡ (relocs ++ part.SymbolTable ∷ []) ++ part.StringTable ∷ [] → AreParts n all
unfolding parts_of
parts_whole n heads raws relocs all front first second behind =
    let a = map Some (map raw_part (stored_sections n)) in
    let b = map Some (map relocs_part (enumerate_from 0 n.sections)) in
    let c = map Some table_parts in
    ap (parts_in n) behind
    ∙ map_append (part_in n) (relocs ++ part.SymbolTable ∷ []) (part.StringTable ∷ [])
    ∙ ap (λ xs. xs ++ Some layout.StringTable ∷ []) (map_append (part_in n) relocs (part.SymbolTable ∷ []))
    ∙ append_assoc (parts_in n relocs) (Some layout.SymbolTable ∷ []) (Some layout.StringTable ∷ [])
    ∙ ap (λ xs. xs ++ c) (second ∙ ap (λ xs. xs ++ b) (first ∙ ap (λ xs. parts_in n xs ++ a) front))
    ∙ append_assoc (map Some head_parts ++ a) b c
    ∙ append_assoc (map Some head_parts) a (b ++ c)
    ∙ sym (
    map_append Some head_parts (map raw_part (stored_sections n) ++ (map relocs_part (enumerate_from 0 n.sections) ++ table_parts))
    ∙ ap (λ xs. map Some head_parts ++ xs) (
    map_append Some (map raw_part (stored_sections n)) (map relocs_part (enumerate_from 0 n.sections) ++ table_parts)
    ∙ ap (λ xs. a ++ xs) (map_append Some (map relocs_part (enumerate_from 0 n.sections)) table_parts)))

-- there are as many parts
pub as_many_parts : (n : Object) (these : List Part) → AreParts n these → length these ≡ length (parts_of n)
as_many_parts n these are = sym (length-map these (part_in n)) ∙ ap length are ∙ length-map (parts_of n) Some
