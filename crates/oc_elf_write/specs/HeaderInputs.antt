-- What is made of an object before its section headers.
use Rattle.std.specs.Prelude.{◌≡◌, length}
use Rattle.oc_neutral.specs.Objects.{Object}
use Rattle.oc_elf.specs.declared.class.ElfClass.{ElfClass}
use Rattle.oc_elf_file.specs.{Heads.{heads_of, head_where, is_symtab_head}, Lines.{inner_lines}}
use Rattle.oc_elf_write.specs.{declared.headers.HeaderInputs.{HeaderInputs}, Bodies.{AreBodies}, Keys.{AreKeys}, Numbers.{IsNumbered}}

-- this was made of the object
pub record IsMadeOf (class : ElfClass) (n : Object) (made : HeaderInputs) : Type 0 where
  pub keys : AreKeys n made.keys.now
  pub numbers : IsNumbered n made.numbers.now
  pub inner : made.inner ≡ length (inner_lines n)
  pub bodies : AreBodies class n made.bodies.now
  pub heads : made.heads ≡ length (heads_of n)
  pub symtab : made.symtab ≡ head_where n is_symtab_head
