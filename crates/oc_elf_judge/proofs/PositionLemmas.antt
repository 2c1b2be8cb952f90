-- Positions of what is carried, one entry after the other.
use Rattle.std.proofs.Common.{◌≡◌, ℕ, ◌/◌, ◌≤◌, Bool, true, false, cond, List, length, Option, None, Some, refl, sym, ap, arith, is_some}
use Rattle.oc_shelf.specs.{Reading.Collected.{collected, position_in}, Reading.Slots.{AreSlots}}
use Rattle.oc_elf.specs.{Frames.{FileFrame, header_at}, Sections.{is_carried}, CarriedSections.{section_of, section_with}, declared.shdr.Shdr.{Shdr}}
use Rattle.oc_elf.specs.{Sym.{sym_size}, Tables.{symbol_count, symtab_of}, Classes.{word_of}}
use Rattle.oc_elf_judge.specs.Known.{IsSymtab}
use Rattle.oc_base.specs.{declared.format.Word.{Word}, declared.format.Word.TheVariants.{W32, W64}}

module _ {X : Type 0} (item : ℕ → Option X) where
  -- the positions so far, and the next
  pub record ArePlaced (k position : ℕ) (slots : List (Option ℕ)) : Type 0 where
    pub slots_are : AreSlots (position_in item) k slots
    pub next : position ≡ length (collected item k)

pub section_carried : (f : FileFrame) (k : ℕ) → is_carried (header_at f.headers k) ≡ is_some (section_of f k)
unfolding section_of
section_carried f k = by (is_carried (header_at f.headers k))
  where
    by : (b : Bool) → b ≡ is_some (cond b (Some (section_with f k (header_at f.headers k))) None)
    by true = refl
    by false = refl

-- a file has few symbols
pub few_symbols : (f : FileFrame) (table : Shdr) → IsSymtab f table → symbol_count f ≤ 67108864
few_symbols f table is =
    let lies = is.lies in
    let small = is.small in
    let size : (symtab_of f).sh_size ≡ table.sh_size = ap (λ (s : Shdr). s.sh_size) (sym is.is) in
    let less = by (word_of f.class) (symtab_of f).sh_size in
    omega (arith, lies, small, size, less)
  where
    by : (word : Word) (n : ℕ) → n / sym_size word ≤ n
    by W32 n = omega arith
    by W64 n = omega arith
