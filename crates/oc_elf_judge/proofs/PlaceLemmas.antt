-- Which sections are carried.
use Rattle.std.proofs.Common.{◌≡◌, ℕ, ◌≤◌, true, false, length, None, Some, refl, ap}
use Rattle.oc_elf.specs.{Frames.{FileFrame}, Sections.{is_carried}, CarriedSections.{section_with, section_of, position_of}}
use Rattle.oc_elf_judge.proofs.{SectionLemmas.{here}, TableLemmas.{header_past}}

pub section_some : (f : FileFrame) (k : ℕ) → is_carried (here f k) ≡ true → section_of f k ≡ Some (section_with f k (here f k))
unfolding section_of
section_some f k is = rw is refl

pub section_none : (f : FileFrame) (k : ℕ) → is_carried (here f k) ≡ false → section_of f k ≡ None
unfolding section_of
section_none f k is = rw is refl

-- there is none past the last header
pub position_past : (f : FileFrame) (j : ℕ) → length f.headers ≤ j → position_of f j ≡ None
position_past f j le = let none = section_none f j (ap is_carried (header_past f.headers j le)) in rw none refl
