-- The text of a linked object (our profile): the first overflow, or the bytes of its sections and its exports.
use Rattle.std.specs.Prelude.{ℕ, ◌+◌, ◌%◌, ◌||◌, nat_eq, not, if◌then◌else◌, List, [], ◌∷◌, ◌++◌, codes, filter, get_or, length, map, Option, Some, None}
use Rattle.std.specs.{Fmt.{decimal}, List.{enumerate_from, flat_map}, Ordering.{nat_cmp, is_lt}, Cmp.Lexicographic.{slice_cmp}}
use Rattle.oc_base.specs.declared.format.Word.{Word}
use Rattle.oc_linking.specs.{declared.terms.Kind.{Kind}, Parts.{Section, Symbol, is_local}, Placing.{Placement}}
use Rattle.oc_linking.specs.Linking.{Export, Exports, Linked, Address, Size, Overflow, Image}
use Rattle.oc_neutral.specs.Building.{is_zero}
use Rattle.oc_dump.specs.Lines.{hex, digit_count, shown_name}

-- ... sections

-- what comes after byte i of so many: a newline after each sixteenth and the last, and else a blank
abbrev pub mark : ℕ → ℕ → List ℕ
mark count i = if nat_eq (i + 1) count || nat_eq ((i + 1) % 16) 0 then codes "\n" else codes " "

-- a byte at a position, of so many: two digits, and what comes after them
abbrev pub byte_text : ℕ → ℕ × ℕ → List ℕ
byte_text count x = hex 2 x.1 ++ mark count x.0

-- bytes: two digits each, up to sixteen in a line
abbrev pub bytes_text : List ℕ → List ℕ
bytes_text bytes = flat_map (byte_text (length bytes)) (enumerate_from 0 bytes)

-- zeros, where there are some
abbrev pub zeros_text : List ℕ → List ℕ
zeros_text [] = []
zeros_text (b ∷ bs) = codes "zeros\n"

-- the image of a section of that kind
abbrev pub image_text : Kind → List ℕ → List ℕ
image_text kind bytes = if is_zero kind then zeros_text bytes else bytes_text bytes

-- `section S ADDRESS SIZE`, S counted from 1
unfoldable pub head_text : Word → ℕ → ℕ → ℕ → List ℕ
head_text w k address size = codes "section " ++ decimal (k + 1) ++ codes " " ++ hex (digit_count w) address ++ codes " " ++ decimal size ++ codes "\n"

-- a section at a position; nothing where it is discarded
abbrev pub section_text : Word → Placement → List (List ℕ) → ℕ × Section → List ℕ
section_text w p images x =
    if p.discarded x.0 then [] else head_text w x.0 (p.site x.0).address x.1.size ++ image_text x.1.kind (get_or images x.0 [])

-- all sections
abbrev pub sections_text : Word → Placement → List (List ℕ) → List Section → List ℕ
sections_text w p images sections = flat_map (section_text w p images) (enumerate_from 0 sections)

-- ... exports

-- the end of a line: a blank, the name and a newline
abbrev pub end_text : List ℕ → List ℕ
end_text name = codes " " ++ shown_name name ++ codes "\n"

-- `export ADDRESS NAME`, or of a common `common SIZE NAME`
abbrev pub export_text : Word → List ℕ → Export → List ℕ
export_text w name (Address a) = codes "export " ++ hex (digit_count w) a ++ end_text name
export_text w name (Size n) = codes "common " ++ decimal n ++ end_text name

-- what is exported, or nothing
abbrev pub exported_text : Word → List ℕ → Option Export → List ℕ
exported_text w name None = []
exported_text w name (Some x) = export_text w name x

-- a name put among names in order
abbrev pub put_in_order : List ℕ → List (List ℕ) → List (List ℕ)
put_in_order name [] = name ∷ []
put_in_order name (x ∷ xs) = if is_lt (slice_cmp nat_cmp x name) then x ∷ put_in_order name xs else name ∷ x ∷ xs

-- names in the order of their bytes
abbrev pub in_order : List (List ℕ) → List (List ℕ)
in_order [] = []
in_order (x ∷ xs) = put_in_order x (in_order xs)

-- the names of symbols that are not Local
abbrev pub nonlocal_names : List Symbol → List (List ℕ)
nonlocal_names symbols = map (λ (s : Symbol). s.name) (filter (λ (s : Symbol). not (is_local s.binding)) symbols)

-- what a name exports
abbrev pub name_text : Word → Exports → List ℕ → List ℕ
name_text w exported name = exported_text w name (exported name)

-- all that is exported, in the order of the names
abbrev pub exports_text : Word → List Symbol → Exports → List ℕ
exports_text w symbols exported = flat_map (name_text w exported) (in_order (nonlocal_names symbols))

-- ... the whole

-- `overflow S AT`, S counted from 1
unfoldable pub overflow_text : ℕ → ℕ → List ℕ
overflow_text s at = codes "overflow " ++ decimal (s + 1) ++ codes " " ++ decimal at ++ codes "\n"

-- what linking sections and symbols gives
abbrev pub text_of : Word → List Section → List Symbol → Placement → Linked → List ℕ
text_of w sections symbols p (Overflow s at) = overflow_text s at
text_of w sections symbols p (Image images exported) = sections_text w p images sections ++ exports_text w symbols exported
