-- The headers and commands of a file together (Mach-O reference, "Mach-O Data Structures"; our profile).
use Rattle.std.specs.Prelude.{◌≡◌, length, replicate}
use Rattle.oc_base.specs.declared.format.Word.{Word}
use Rattle.oc_neutral.specs.Objects.{Object}
use Rattle.oc_macho.specs.{declared.names.TheConstants.{NAME_SIZE}, declared.segment_command.SegmentCommand.{SegmentCommand}}
use Rattle.oc_macho.specs.{declared.constants.TheConstants.{VM_PROT_ALL}, declared.structures.Dysymtab.{Dysymtab}, MachHeader.{mach_format}}
use Rattle.oc_macho_file.specs.{Addresses.{memory_end, stored_end}, Canonical.{file_header, section_headers, symtab_command}}
use Rattle.oc_macho_file.specs.{Layout.{segment_length, contents_begin}, Lines.{inner_lines, defined_lines, undefined_lines}}
use Rattle.oc_target.specs.Fitted.{IsFitted}
use Rattle.oc_macho_write.specs.{declared.headers.Output.{Output}, declared.heads.Heads.{Heads}, Addresses.{AreAllAddresses}, Bodies.{AreBodies}}
use Rattle.oc_macho_write.specs.Places.{ArePlaces}

-- the object is ready for Mach-O, and all this was made of it
pub record IsOutput (x : Output) : Type 0 where
  pub fitted : IsFitted (mach_format x.word) x.neutral.now
  pub addresses : AreAllAddresses x.neutral.now x.addresses.now
  pub bodies : AreBodies x.word x.neutral.now x.bodies.now
  pub places : ArePlaces x.word x.neutral.now x.places.now

-- the command for the segment
abbrev pub segment_of : Word → Object → SegmentCommand
segment_of w n = record {
  segname = replicate NAME_SIZE 0;
  vmaddr = 0;
  vmsize = memory_end n;
  fileoff = contents_begin w n;
  filesize = stored_end n;
  maxprot = VM_PROT_ALL;
  initprot = VM_PROT_ALL;
  nsects = length n.sections;
  flags = 0;
}

-- how many symbols are in each group
abbrev pub dysymtab_of : Word → Object → Dysymtab
dysymtab_of w n = record { nlocalsym = length (inner_lines w n); nextdefsym = length (defined_lines n); nundefsym = length (undefined_lines n) }

-- these are the headers of the object's file
pub record AreHeads (w : Word) (n : Object) (h : Heads) : Type 0 where
  pub file : h.file ≡ file_header w n
  pub cmdsize : h.cmdsize ≡ segment_length w n
  pub segment : h.segment ≡ segment_of w n
  pub sections : h.sections.items ≡ section_headers w n
  pub symtab : h.symtab ≡ symtab_command w n
  pub dysymtab : h.dysymtab ≡ dysymtab_of w n
