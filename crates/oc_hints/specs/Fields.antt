-- What hints say of relocated fields (docs/INTEROPERABILITY.md; our profile).
use Rattle.std.specs.{Prelude.{ℕ, ◌-◌, ◌%◌, Bool, true, false, not, ◌&&◌, ◌||◌, nat_eq, nat_le, if◌then◌else◌, List, slice_get}, Option.{option_map_or}}
use Rattle.oc_linking.specs.{declared.terms.Width.{Width}, declared.terms.Width.TheVariants.{Four, Eight}, declared.terms.Hint.TheVariants.{Plain}}
use Rattle.oc_linking.specs.{declared.terms.Base.TheVariants.{Address}, declared.terms.Kind.{Kind}, declared.terms.Kind.TheVariants.{Code, ReadOnly}}
use Rattle.oc_linking.specs.{declared.terms.Binding.{Binding}, declared.terms.Binding.TheVariants.{Local, Global, Undefined, Common, Weak}}
use Rattle.oc_algebra.specs.declared.form.Form.{Form}
use Rattle.oc_neutral.specs.declared.mach.TheConstants.{S_CSTRING_LITERALS, S_4BYTE_LITERALS, S_8BYTE_LITERALS, S_16BYTE_LITERALS}
use Rattle.oc_neutral.specs.{declared.section.Section.{Section}, declared.reloc.Reloc.{Reloc}, declared.reloc.Target.{Target}, Objects.{Object}}
use Rattle.oc_neutral.specs.{KindRules.{same_kind}, Rows.{Taken, TakesZero, TakesPlace, TakesHome, same_base, same_hint, same_taken, same_width, taken_of}}
use Rattle.oc_neutral.specs.TargetRelocations.{is_target}
use Rattle.oc_neutral.specs.declared.reloc.Target.TheVariants as target
use Rattle.oc_hints.specs.{declared.key.FieldKey.{FieldKey}, Case.{Case, crosses, is_coff, is_elf, is_mach, is_omf, is_wide, source_of}}
use Rattle.oc_hints.specs.declared.key.FieldKey.TheVariants as key

-- ... forms

-- the value is an address less this, in so many bytes
abbrev pub is_form : Taken → Width → Form → Bool
is_form taken width form = same_base form.base Address && same_taken (taken_of form.less) taken && same_width form.width width

-- ... calls

-- the byte that lies so many bytes before an offset, or 0
abbrev pub byte_before : List ℕ → ℕ → ℕ → ℕ
byte_before bytes at back = if nat_le back at then option_map_or (λ b. b) (slice_get bytes (at - back)) 0 else 0

-- the instruction whose last four bytes are the field is `call`, `jmp`, or a jump on a condition (Intel 64 and IA-32 manual, "Opcode Map")
abbrev pub is_jump : List ℕ → ℕ → Bool
is_jump bytes at =
    nat_eq (byte_before bytes at 1) 0xE8 || nat_eq (byte_before bytes at 1) 0xE9
    || (nat_eq (byte_before bytes at 2) 0x0F && nat_le 0x80 (byte_before bytes at 1) && nat_le (byte_before bytes at 1) 0x8F)

-- the binding is Undefined
abbrev pub is_undefined : Binding → Bool
is_undefined (Local v) = false
is_undefined (Global v) = false
is_undefined Undefined = true
is_undefined (Common size align) = false
is_undefined (Weak f) = false

-- a call of a name from outside that the object does not mark as a call
abbrev pub is_unmarked_call : Object → Section → ℕ → Reloc → Bool
is_unmarked_call n s at r =
    same_kind s.kind Code && is_form TakesPlace Four r.form && same_hint r.hint Plain && is_target n is_undefined r.target && is_jump s.bytes at

-- ... literals of Mach-O

-- the section has literals, which linkers merge one by one (Mach-O reference, "section")
abbrev pub has_literals : Section → Bool
has_literals s =
    nat_eq (s.tag % 256) S_CSTRING_LITERALS || nat_eq (s.tag % 256) S_4BYTE_LITERALS || nat_eq (s.tag % 256) S_8BYTE_LITERALS
    || nat_eq (s.tag % 256) S_16BYTE_LITERALS

-- the target is such a section
abbrev pub names_literals : Object → Target → Bool
names_literals n (target.Section k) = option_map_or has_literals (slice_get n.sections k) false
names_literals n (target.Symbol k) = false

-- ... the conversion

-- the conversion is one that the key is about
abbrev pub concerns_fields : FieldKey → Case → Bool
concerns_fields key.AddressInReadOnly x = crosses x && is_elf x.to && is_wide x.to
concerns_fields key.DistanceForAddress x = is_omf (source_of x) && is_coff x.to
concerns_fields key.CallWithoutStub x = crosses x && is_mach x.to && is_wide x.to
concerns_fields key.SplitLiterals x = is_mach (source_of x) && is_mach x.to
concerns_fields key.CallRecompile x = is_coff (source_of x) && is_elf x.to
concerns_fields key.AddressOutOfRange x = is_mach x.to && is_wide x.to
concerns_fields key.TextRelocations x = crosses x && is_elf x.to && not (is_wide x.to)

-- ... the field

-- what is loaded where it may not be written
abbrev pub is_fixed : Kind → Bool
is_fixed kind = same_kind kind Code || same_kind kind ReadOnly

-- the key is about a field at an offset of a section
abbrev pub field_meets : FieldKey → Object → Section → ℕ → Reloc → Bool
field_meets key.AddressInReadOnly n s at r = same_kind s.kind ReadOnly && is_form TakesZero Eight r.form
field_meets key.DistanceForAddress n s at r = same_taken (taken_of r.form.less) TakesHome
field_meets key.CallWithoutStub n s at r = is_unmarked_call n s at r
field_meets key.SplitLiterals n s at r = names_literals n r.target
field_meets key.CallRecompile n s at r = is_unmarked_call n s at r
field_meets key.AddressOutOfRange n s at r = is_form TakesZero Four r.form
field_meets key.TextRelocations n s at r = is_fixed s.kind && is_form TakesZero Four r.form
