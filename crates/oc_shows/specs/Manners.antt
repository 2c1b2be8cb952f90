-- What each family of formats records of an object that was written, and what it leaves out (gABI, "Symbol Table"; PE/COFF, "COFF Symbol Table";
-- Mach-O reference, "nlist"; TIS OMF 1.1, "FIXUPP"; our profile).
use Rattle.std.specs.{Prelude.{ℕ, ◌+◌, Bool, true, false, if◌then◌else◌, List, length}, Option.{unwrap_or}}
use Rattle.oc_base.specs.{declared.format.Word.{Word}, declared.format.Word.TheVariants.{W32, W64}, Formats.{word_for}}
use Rattle.oc_linking.specs.{declared.terms.Kind.{Kind}, declared.terms.Hint.{Hint}, declared.terms.Hint.TheVariants.{Plain}, declared.terms.Less.{Less}}
use Rattle.oc_linking.specs.{declared.terms.Mark.{Mark}, declared.terms.Mark.TheVariants.{NoType, Function, Object as ObjectMark}}
use Rattle.oc_linking.specs.{declared.terms.Visibility.{Visibility}, declared.terms.Visibility.TheVariants.{Default, Internal, Hidden, Protected}}
use Rattle.oc_linking.specs.{declared.terms.Binding.{Binding}, declared.terms.Binding.TheVariants.{Local, Global, Undefined, Common, Weak}}
use Rattle.oc_linking.specs.declared.terms.Less.TheVariants as less
use Rattle.oc_neutral.specs.{declared.section.Section.{Section}, Objects.{Object}, Family.{Container, IsElf, IsCoff, IsMach, IsOmf}, Families.{container_of}}
use Rattle.oc_neutral.specs.{Dressing.{is_common}, Elf.Kinds.{elf_kind, elf_tag_type, elf_tag_flags}, Coff.Kinds.{coff_kind}}
use Rattle.oc_neutral.specs.Mach.Kinds.{segment_of, section_of, mach_kind}
use Rattle.oc_shows.specs.SymbolLines.{Line, is_defined, elf_lines, coff_lines, mach_lines, omf_lines}

-- what a family records of an object that was written
pub record Manner : Type 0 where
  -- the number of the first section; the others follow it
  pub first_section : Object → ℕ
  -- the kind that its name and tag give to a section
  pub kind : Section → Kind
  -- the symbol table, whose first entry has the number 0
  pub lines : Object → List Line
  -- of a symbol with that binding
  pub mark : Binding → Mark → Mark
  pub vis : Binding → Visibility → Visibility
  pub size : Binding → ℕ → ℕ
  pub hint : Hint → Hint
  -- a fallback Name is read as the place of the Global that it names
  pub places : Bool
  -- a Global with a place is read as its section, where it is the target of a relocation from which this is taken
  pub by_section : Less → Bool

-- ELF: a common is an object, and its size is also the symbol's
abbrev pub elf_mark : Binding → Mark → Mark
elf_mark b own = if is_common b then ObjectMark else own

abbrev pub elf_size : Binding → ℕ → ℕ
elf_size (Local v) own = own
elf_size (Global v) own = own
elf_size Undefined own = own
elf_size (Common size align) own = size
elf_size (Weak f) own = own

-- section headers begin with the null one and those of the groups
abbrev pub elf_manner : Manner
elf_manner = record {
  first_section = λ n. length n.groups + 1;
  kind = λ s. elf_kind s.name (elf_tag_type s.tag) (elf_tag_flags s.tag);
  lines = elf_lines;
  mark = elf_mark;
  vis = λ b own. own;
  size = elf_size;
  hint = λ own. own;
  places = true;
  by_section = λ l. false;
}

-- COFF: of marks it knows Function alone
abbrev pub coff_mark : Mark → Mark
coff_mark NoType = NoType
coff_mark Function = Function
coff_mark ObjectMark = NoType

-- a section that no reader carries would keep its kind
abbrev pub coff_manner : Manner
coff_manner = record {
  first_section = λ n. 1;
  kind = λ s. unwrap_or (coff_kind s.name s.tag) s.kind;
  lines = coff_lines;
  mark = λ b own. coff_mark own;
  vis = λ b own. Default;
  size = λ b own. 0;
  hint = λ own. Plain;
  places = false;
  by_section = λ l. false;
}

-- Mach-O: what is defined is Hidden (private extern) or not
abbrev pub hidden : Visibility → Visibility
hidden Default = Default
hidden Internal = Hidden
hidden Hidden = Hidden
hidden Protected = Default

abbrev pub mach_vis : Binding → Visibility → Visibility
mach_vis b own = if is_defined b then hidden own else Default

-- i386 has no type for a call
abbrev pub mach_hint : Word → Hint → Hint
mach_hint W32 own = Plain
mach_hint W64 own = own

-- a section's address is taken
abbrev pub is_of_section : Less → Bool
is_of_section less.Zero = false
is_of_section less.Place = false
is_of_section less.GotBase = false
is_of_section less.ImageBase = false
is_of_section less.Home = false
is_of_section (less.Section k) = true

-- i386 gives both ends of a difference by addresses in the object
abbrev pub mach_by_section : Word → Less → Bool
mach_by_section W32 l = is_of_section l
mach_by_section W64 l = false

abbrev pub mach_manner : Word → Manner
mach_manner w = record {
  first_section = λ n. 1;
  kind = λ s. mach_kind (segment_of s.name) (section_of s.name) s.tag;
  lines = mach_lines w;
  mark = λ b own. NoType;
  vis = mach_vis;
  size = λ b own. 0;
  hint = mach_hint w;
  places = true;
  by_section = mach_by_section w;
}

-- OMF: a fixup names the segment of a public
abbrev pub omf_manner : Manner
omf_manner = record {
  first_section = λ n. 1;
  kind = λ s. s.kind;
  lines = omf_lines;
  mark = λ b own. NoType;
  vis = λ b own. Default;
  size = λ b own. 0;
  hint = λ own. Plain;
  places = false;
  by_section = λ l. true;
}

-- of each container, with a word
abbrev pub manner_of : Container → Word → Manner
manner_of IsElf w = elf_manner
manner_of IsCoff w = coff_manner
manner_of IsMach w = mach_manner w
manner_of IsOmf w = omf_manner

-- of an object's format
abbrev pub own_manner : Object → Manner
own_manner n = manner_of (container_of n.format) (word_for n.format)
