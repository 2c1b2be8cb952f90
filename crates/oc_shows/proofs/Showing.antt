-- What an object holds to which relocations were given, and the object before: what is compared with a file.
use Rattle.std.proofs.Common.{◌≡◌, ℕ, ◌+◌, ◌/◌, ◌%◌, ◌^◌, ◌<◌, ◌≤◌, false, List, map, Some, None, refl, sym, ap, subst}
use Rattle.std.specs.{Prelude.{slice_get}, List.{AllByRecursion}, Option.{option_and_then, option_map_or}}
use Rattle.oc_base.specs.Formats.{word_for}
use Rattle.oc_linking.specs.{declared.terms.Keep.{Keep}, Fits.{bytes_of}}
use Rattle.oc_algebra.specs.Residues.{reduced_number}
use Rattle.oc_neutral.specs.{declared.section.Section.{Section}, declared.reloc.Reloc.{Reloc}, declared.normal.Normal.{Normal}, Objects.{Object, reloc_at}}
use Rattle.oc_neutral.specs.{Normal.{by_section, cancels, folded, normal_of, place_among, takes_section}, Building.{stored_size}, Dialects.{Dialect}}
use Rattle.oc_neutral.specs.{Faces.{shown_section, shown_sections, shown_symbols, frame_of}, Invariants.{HasItsBytes}}
use Rattle.oc_neutral.specs.declared.normal.Normal.TheVariants as normal
use Rattle.oc_shows.specs.{Shows.{AreNumbered}, Built.{RelocMap}, Again.{IsCovered}}
use Rattle.oc_neutral.proofs.{Added.{kept_of, number_left, IsFitting}, WrittenBytes.{byte_at}}

-- the normal form of a relocation among the symbols of an object
abbrev pub normal_in : Object → ℕ → ℕ → Reloc → Normal
normal_in base s at r = normal_of (word_for base.format) base.symbols s at r

-- the number that it leaves in its bytes
abbrev pub left_in : Object → ℕ → ℕ → Reloc → ℕ
left_in base s at r = number_left (word_for base.format) r.form.width (normal_in base s at r)

-- how many bytes section s has
abbrev pub stored_at : List Section → ℕ → ℕ
stored_at sections s = option_map_or stored_size (slice_get sections s) 0

-- an object that has a file's sections and symbols, with their contents, and no relocations
pub record IsBase (f : Dialect) (b : List ℕ) (keep : Keep) (base : Object) : Type 0 where
  pub whole : AllByRecursion HasItsBytes base.sections
  pub format : base.format ≡ f.format
  pub word : f.rules.word ≡ word_for f.format
  pub sections : shown_sections base ≡ f.rules.sections b
  pub symbols : shown_symbols base ≡ f.rules.symbols b keep
  pub numbered : AreNumbered (f.rules.symbols b keep)

-- n is that object with what is given: a relocation in normal form, or its constant, at each place
pub record IsShowing (base n : Object) (given : RelocMap) : Type 0 where
  pub whole : AllByRecursion HasItsBytes n.sections
  pub format : n.format ≡ base.format
  pub groups : n.groups ≡ base.groups
  pub symbols : n.symbols ≡ base.symbols
  pub frames : map (λ (z : Section). frame_of (shown_section base.groups z)) n.sections ≡ map (λ (z : Section). frame_of (shown_section base.groups z)) base.sections
  pub sizes : map stored_size n.sections ≡ map stored_size base.sections
  pub relocs : (t x : ℕ) → reloc_at n t x ≡ option_and_then (λ r. kept_of (normal_in base t x r)) (given t x)
  pub fitting : (t x : ℕ) (r : Reloc) → given t x ≡ Some r → IsFitting (word_for base.format) r (normal_in base t x r)
  pub inside : (t x : ℕ) (r : Reloc) → given t x ≡ Some r → x + bytes_of r.form.width ≤ stored_at base.sections t
  pub under : (t x j : ℕ) (r : Reloc) → given t x ≡ Some r → j < bytes_of r.form.width → byte_at n.sections t (x + j) ≡ left_in base t x r / 256 ^ j % 256
  pub beside : (t i : ℕ) → (IsCovered given t i → ⊥) → byte_at n.sections t i ≡ byte_at base.sections t i
  pub apart : (t i j : ℕ) (q r : Reloc) → given t i ≡ Some q → given t j ≡ Some r → i < j → i + bytes_of q.form.width ≤ j

-- what is left of a relocation that is in normal form: itself, and zeros
pub record StaysAt (n : Object) (s at : ℕ) (r : Reloc) : Type 0 where
  pub kept : kept_of (normal_in n s at r) ≡ Some r
  pub left : left_in n s at r ≡ 0
  pub fitting : IsFitting (word_for n.format) r (normal_in n s at r)

pub stays : (n : Object) (s at : ℕ) (r : Reloc) → place_among n.symbols r.target ≡ None → reduced_number (word_for n.format) r.addend ≡ r.addend
    → cancels r.form.base r.target r.form.less ≡ false → takes_section s r.form.less ≡ false → StaysAt n s at r
unfolding folded by_section
stays n s at r against reduced varies placed =
    let is : normal_in n s at r ≡ normal.Kept r = rw (against, reduced, varies, placed) refl in
    record {
      kept = ap kept_of is;
      left = ap (λ (m : Normal). number_left (word_for n.format) r.form.width m) is;
      fitting = subst (λ (m : Normal). IsFitting (word_for n.format) r m) (sym is) tt;
    }
