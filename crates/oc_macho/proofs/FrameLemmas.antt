-- What the reader holds of a file is the file's.
use Rattle.std.proofs.Common.{◌≡◌, ℕ, ◌+◌, ◌*◌, ◌<◌, ◌≤◌, Bool, false, cond, List, [], length, take, drop, Some, refl, sym, ◌∙◌, ap, arith, length-drop}
use Rattle.std.specs.{Prelude.{slice_get}, Option.{option_map}}
use Rattle.std.proofs.lemmas.{List.{length-map, length-take-le}, Option.{get_or_from_slice_get, slice_get-map}}
use Rattle.oc_base.specs.declared.format.Word.{Word}
use Rattle.oc_shelf.specs.Reading.Rows.{rows}
use Rattle.oc_shelf.proofs.ReadingLaws.RowLemmas.{length-rows, row_at, row_inside}
use Rattle.oc_macho.specs.{declared.section_header.SectionHeader.{SectionHeader}, declared.nlist.Nlist.{Nlist}}
use Rattle.oc_macho.specs.{declared.relocation_info.RelocationInfo.{RelocationInfo}, RelocationInfo.{relocation_info_at}, Sections.{is_zerofill}}
use Rattle.oc_macho.specs.{SectionHeader.{section_header_size, section_header_at}, Nlist.{nlist_size, nlist_at}}
use Rattle.oc_macho.specs.{Tables.{SectionTable, section_table, tables_of}, Framed.{IsFrame, no_header, table_at}}

pub word_is : (w : Word) (file : List ℕ) → w ≡ (tables_of w file).word
unfolding tables_of
word_is w file = refl

pub size_is : (w : Word) (file : List ℕ) → length file ≡ (tables_of w file).file_size
unfolding tables_of
size_is w file = refl

-- ... sections

pub length-sections : {w : Word} {file : List ℕ} {at n symoff nsyms : ℕ} {strings : List ℕ} {text_end : ℕ} → IsFrame w file at n symoff nsyms strings text_end → length (tables_of w file).sections ≡ n
length-sections {w} {file} {at} {n} {symoff} {nsyms} {strings} {text_end} is =
    ap (λ (xs : List SectionTable). length xs) is.sections_are
    ∙ length-map (rows (section_header_at w) (section_header_size w) file at n) (section_table file) ∙ length-rows (section_header_at w) (section_header_size w) file at n

section_there : {w : Word} {file : List ℕ} {at n symoff nsyms : ℕ} {strings : List ℕ} {text_end : ℕ} → IsFrame w file at n symoff nsyms strings text_end → (i : ℕ) → i < n
    → slice_get (tables_of w file).sections i ≡ Some (section_table file (section_header_at w file (at + section_header_size w * i)))
section_there {w} {file} {at} {n} {symoff} {nsyms} {strings} {text_end} is i low =
    ap (λ (xs : List SectionTable). slice_get xs i) is.sections_are
    ∙ slice_get-map (section_table file) (rows (section_header_at w) (section_header_size w) file at n) i
    ∙ ap (option_map (section_table file)) (row_at (section_header_at w) (section_header_size w) file at n i low)

pub table_is : {w : Word} {file : List ℕ} {at n symoff nsyms : ℕ} {strings : List ℕ} {text_end : ℕ} → IsFrame w file at n symoff nsyms strings text_end → (i : ℕ) → i < n
    → table_at (tables_of w file) i ≡ section_table file (section_header_at w file (at + section_header_size w * i))
table_is {w} {file} {at} {n} {symoff} {nsyms} {strings} {text_end} is i low =
    get_or_from_slice_get (tables_of w file).sections i (section_table file (section_header_at w file (at + section_header_size w * i)))
    (record { header = no_header; raw = []; relocs = [] }) (section_there is i low)

pub header_is : {w : Word} {file : List ℕ} {at n symoff nsyms : ℕ} {strings : List ℕ} {text_end : ℕ} → IsFrame w file at n symoff nsyms strings text_end → (i : ℕ) → i < n
    → section_header_at w file (at + section_header_size w * i) ≡ (table_at (tables_of w file) i).header
unfolding section_table
header_is {w} {file} {at} {n} {symoff} {nsyms} {strings} {text_end} is i low = ap (λ (x : SectionTable). x.header) (sym (table_is is i low))

-- where header i stands, and that it lies in the file
pub header_at : {w : Word} {file : List ℕ} {at n symoff nsyms : ℕ} {strings : List ℕ} {text_end : ℕ} → IsFrame w file at n symoff nsyms strings text_end → (i : ℕ)
    → at + section_header_size w * i ≡ (tables_of w file).headers_at + section_header_size (tables_of w file).word * i
unfolding tables_of
header_at {w} {file} {at} {n} {symoff} {nsyms} {strings} {text_end} is i = ap (λ (p : ℕ). p + section_header_size w * i) (sym is.headers_are_at)

pub header_lies : {w : Word} {file : List ℕ} {at n symoff nsyms : ℕ} {strings : List ℕ} {text_end : ℕ} → IsFrame w file at n symoff nsyms strings text_end → (i : ℕ) → i < n
    → at + section_header_size w * i + section_header_size w ≤ length file
header_lies {w} {file} {at} {n} {symoff} {nsyms} {strings} {text_end} is i low = let lies = is.headers_lie in let inside = row_inside (section_header_size w) at n i low in omega (arith, lies, inside)

-- ... symbols

pub length-symbols : {w : Word} {file : List ℕ} {at n symoff nsyms : ℕ} {strings : List ℕ} {text_end : ℕ} → IsFrame w file at n symoff nsyms strings text_end → length (tables_of w file).symbols ≡ nsyms
length-symbols {w} {file} {at} {n} {symoff} {nsyms} {strings} {text_end} is = ap (λ (xs : List Nlist). length xs) is.symbols_are ∙ length-rows (nlist_at w) (nlist_size w) file symoff nsyms

pub symbol_there : {w : Word} {file : List ℕ} {at n symoff nsyms : ℕ} {strings : List ℕ} {text_end : ℕ} → IsFrame w file at n symoff nsyms strings text_end → (j : ℕ) → j < nsyms
    → slice_get (tables_of w file).symbols j ≡ Some (nlist_at w file (symoff + nlist_size w * j))
symbol_there {w} {file} {at} {n} {symoff} {nsyms} {strings} {text_end} is j low =
    ap (λ (xs : List Nlist). slice_get xs j) is.symbols_are ∙ row_at (nlist_at w) (nlist_size w) file symoff nsyms j low

pub symbol_at : {w : Word} {file : List ℕ} {at n symoff nsyms : ℕ} {strings : List ℕ} {text_end : ℕ} → IsFrame w file at n symoff nsyms strings text_end → (j : ℕ)
    → symoff + nlist_size w * j ≡ (tables_of w file).symbols_at + nlist_size (tables_of w file).word * j
unfolding tables_of
symbol_at {w} {file} {at} {n} {symoff} {nsyms} {strings} {text_end} is j = ap (λ (p : ℕ). p + nlist_size w * j) (sym is.symbols_are_at)

pub symbol_lies : {w : Word} {file : List ℕ} {at n symoff nsyms : ℕ} {strings : List ℕ} {text_end : ℕ} → IsFrame w file at n symoff nsyms strings text_end → (j : ℕ) → j < nsyms
    → symoff + nlist_size w * j + nlist_size w ≤ length file
symbol_lies {w} {file} {at} {n} {symoff} {nsyms} {strings} {text_end} is j low = let lies = is.symbols_lie in let inside = row_inside (nlist_size w) symoff nsyms j low in omega (arith, lies, inside)

-- ... what sections place

-- the relocation entries and the bytes of section i, by its header
pub relocs_are : {w : Word} {file : List ℕ} {at n symoff nsyms : ℕ} {strings : List ℕ} {text_end : ℕ} → IsFrame w file at n symoff nsyms strings text_end → (i : ℕ) (h : SectionHeader) → i < n
    → h ≡ (table_at (tables_of w file) i).header → (table_at (tables_of w file) i).relocs ≡ rows relocation_info_at 8 file h.reloff h.nreloc
unfolding section_table
relocs_are {w} {file} {at} {n} is i h low same =
    ap (λ (x : SectionTable). x.relocs) (table_is is i low)
    ∙ ap (λ (g : SectionHeader). rows relocation_info_at 8 file g.reloff g.nreloc) (header_is is i low ∙ sym same)

pub raw_is : {w : Word} {file : List ℕ} {at n symoff nsyms : ℕ} {strings : List ℕ} {text_end : ℕ} → IsFrame w file at n symoff nsyms strings text_end → (i : ℕ) (h : SectionHeader) → i < n
    → h ≡ (table_at (tables_of w file) i).header → is_zerofill h ≡ false → take h.size (drop h.offset file) ≡ (table_at (tables_of w file) i).raw
unfolding section_table
raw_is {w} {file} {at} {n} is i h low same stored =
    ap (λ (b : Bool). cond b [] (take h.size (drop h.offset file))) (sym stored)
    ∙ ap (λ (g : SectionHeader). cond (is_zerofill g) [] (take g.size (drop g.offset file))) (sym (header_is is i low ∙ sym same))
    ∙ sym (ap (λ (x : SectionTable). x.raw) (table_is is i low))

-- the bytes are as many as the header says
pub bytes_long : {w : Word} {file : List ℕ} {at n symoff nsyms : ℕ} {strings : List ℕ} {text_end : ℕ} → IsFrame w file at n symoff nsyms strings text_end → (i : ℕ) (h : SectionHeader) → i < n
    → h ≡ (table_at (tables_of w file) i).header → is_zerofill h ≡ false → h.offset + h.size ≤ length file → length (table_at (tables_of w file) i).raw ≡ h.size
bytes_long {w} {file} is i h low same stored lie =
    ap (λ (xs : List ℕ). length xs) (sym (raw_is is i h low same stored)) ∙ (let room : h.size ≤ length (drop h.offset file) = omega (arith, lie, length-drop h.offset file) in length-take-le h.size (drop h.offset file) room)

pub reloc_there : {w : Word} {file : List ℕ} {at n symoff nsyms : ℕ} {strings : List ℕ} {text_end : ℕ} → IsFrame w file at n symoff nsyms strings text_end → (i k : ℕ) (h : SectionHeader) → i < n
    → h ≡ (table_at (tables_of w file) i).header → k < h.nreloc → slice_get (table_at (tables_of w file) i).relocs k ≡ Some (relocation_info_at file (h.reloff + 8 * k))
reloc_there {w} {file} is i k h low same inside =
    ap (λ (es : List RelocationInfo). slice_get es k) (relocs_are is i h low same) ∙ row_at relocation_info_at 8 file h.reloff h.nreloc k inside

pub reloc_lies : (reloff n k size : ℕ) → k < n → reloff + 8 * n ≤ size → reloff + 8 * k + 8 ≤ size
reloc_lies reloff n k size low lies = let inside = row_inside 8 reloff n k low in omega (arith, inside, lies)
