-- Objects that are ready to be written in a format, and what fitting makes of an object (our profile).
use Rattle.std.specs.Prelude.{◌≡◌, ℕ, ◌+◌, ◌^◌, ◌≤◌, Bool, true, false, ◌||◌, ◌++◌, if◌then◌else◌, List, [], ◌∷◌, length, map, slice_get, Option, Some, None}
use Rattle.std.specs.{List.{AllByRecursion}, Option.{option_and_then, option_map_or}}
use Rattle.oc_base.specs.{declared.format.Format.{Format}, declared.fault.Fault.{Fault}, Formats.{word_for}}
use Rattle.oc_linking.specs.{declared.terms.Binding.{Binding}, declared.terms.Binding.TheVariants.{Local, Global, Undefined, Common, Weak}}
use Rattle.oc_linking.specs.{declared.terms.Kind.TheVariants.{Note}, FirstFault.{first_fault}, Placing.{Placement}, Values.{Valuation}, Images.{overlays}}
use Rattle.oc_linking.specs.Shows.{lives, unders}
use Rattle.oc_linking.specs.Parts as parts
use Rattle.oc_neutral.specs.{declared.group.Group.{Group}, declared.section.Section.{Section}, declared.symbol.Symbol.{Symbol}, declared.reloc.Reloc.{Reloc}}
use Rattle.oc_neutral.specs.{Objects.{Object, reloc_at}, Invariants.{IsObject}, Families.{same_format}, Alignments.{output_align, common_align}}
use Rattle.oc_neutral.specs.{GivenTags.{can_have}, HomeNames.{is_home, output_names, output_tag}, Stored.{is_stored}, TargetSections.{section_stages}}
use Rattle.oc_neutral.specs.{TargetSymbols.{symbol_stages}, TargetRelocations.{relocation_stages}, Faces.{key_of, contents_of, shown_sections, frame_of}}
use Rattle.oc_shows.specs.{Readable.{IsBlankWhereTyped, IsReadable}, Shows.{looks_of, patches_of}}

-- the first condition that an object breaks of those that a target sets: on sections, then on symbols, then on relocations
unfoldable pub first_unfit : Format → Object → Option Fault
first_unfit target n = first_fault (section_stages target n ++ (symbol_stages target n ++ relocation_stages target n))

-- the binding of a symbol in a target: a common has the target's alignment for it
abbrev pub fitted_binding : Format → Binding → Binding
fitted_binding target (Local v) = Local v
fitted_binding target (Global v) = Global v
fitted_binding target Undefined = Undefined
fitted_binding target (Common size align) = Common size (common_align target size align)
fitted_binding target (Weak f) = Weak f

-- a symbol in a target
abbrev pub fitted_symbol : Format → Symbol → Symbol
fitted_symbol target s = record {
  name = s.name;
  binding = fitted_binding target s.binding;
  mark = s.mark;
  vis = s.vis;
  size = s.size;
  pinned = s.pinned;
  number = s.number;
}

-- a section of an object of the format `from` in a target under a name, without its contents
abbrev pub fitted_frame : Format → Format → List Group → List ℕ → Section → parts.Section
fitted_frame target from groups name s = record {
  name = name;
  kind = s.kind;
  align = output_align target s.align;
  size = s.size;
  contents = [];
  tag = output_tag target from s;
  number = s.number;
  group = option_and_then (key_of groups) s.group;
}

-- the sections under these names; one that has none left keeps its own
abbrev pub fitted_frames : Format → Format → List Group → List (List ℕ) → List Section → List parts.Section
fitted_frames target from groups names [] = []
fitted_frames target from groups [] (s ∷ sections) = fitted_frame target from groups s.name s ∷ fitted_frames target from groups [] sections
fitted_frames target from groups (name ∷ names) (s ∷ sections) = fitted_frame target from groups name s ∷ fitted_frames target from groups names sections

-- the section at position k has a name and a tag that go with its kind in the format
abbrev pub IsNamed : Format → ℕ → Section → Type 0
IsNamed format k s = is_home format (k + 1) s.kind s.name s.tag || can_have format s.kind s.name s.tag ≡ true

-- an object that is ready to be written in a format
pub record IsFitted (target : Format) (n : Object) : Type 0 where
  pub object : IsObject n
  pub format : n.format ≡ target
  pub expressible : first_unfit target n ≡ None
  pub few_symbols : length n.symbols ≤ 2 ^ 24
  pub names : (k : ℕ) (s : Section) → slice_get n.sections k ≡ Some s → IsNamed target k s
  pub blanks : (s : ℕ) (x : Section) → slice_get n.sections s ≡ Some x → IsBlankWhereTyped n s x
  pub aligns : AllByRecursion (λ (s : Section). output_align target s.align ≡ s.align) n.sections
  pub commons : AllByRecursion (λ (s : Symbol). fitted_binding target s.binding ≡ s.binding) n.symbols
  -- no relocation is one that the format stores as a constant
  pub stored : (s at : ℕ) (r : Reloc) → reloc_at n s at ≡ Some r → is_stored target s r ≡ false

-- the relocation at an offset of section s is stored as a constant in the target
unfoldable pub is_stored_at : Format → Object → ℕ → ℕ → Bool
is_stored_at target n s at = option_map_or (is_stored target s) (reloc_at n s at) false

-- what an object meets that is to be fitted to a target
pub record CanFit (target : Format) (n : Object) : Type 0 where
  pub word : word_for target ≡ word_for n.format
  pub few_symbols : length n.symbols ≤ 2 ^ 24
  -- notes stay within their format
  pub notes : (k : ℕ) (s : Section) → slice_get n.sections k ≡ Some s → s.kind ≡ Note → same_format target n.format ≡ true
  pub readable : IsReadable n

-- m has the contents and the fields of n, where those fields are stored as constants that the target stores, at one placement and valuation
pub record FitsAt (target : Format) (n m : Object) (p : Placement) (v : Valuation) : Type 0 where
  pub contents : map contents_of m.sections ≡ overlays (unders (is_stored_at target n) (patches_of n p v)) 0 (map contents_of n.sections)
  pub patches : (s at : ℕ) → patches_of m p v s at ≡ lives (is_stored_at target n) (patches_of n p v) s at

-- m is the object n in a target: with the target's names, tags and alignments, and the same symbols, fields and values
pub record IsFit (target : Format) (n m : Object) : Type 0 where
  pub format : m.format ≡ target
  pub sections : map frame_of (shown_sections m) ≡ fitted_frames target n.format n.groups (output_names target n) n.sections
  pub symbols : m.symbols ≡ map (fitted_symbol target) n.symbols
  pub looks : (s at : ℕ) → looks_of m s at ≡ (if is_stored_at target n s at then None else looks_of n s at)
  pub at : (p : Placement) (v : Valuation) → FitsAt target n m p v
