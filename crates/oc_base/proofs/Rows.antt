-- The tables of the definitions, at one entry of each kind.
use Rattle.std.proofs.Common.{◌≡◌, refl}
use Rattle.oc_base.specs.{declared.fault.Class.TheVariants.{Refused, Malformed, Limit}, declared.format.Format.TheVariants.{Omf, Mac64}}
use Rattle.oc_base.specs.{declared.format.Word.TheVariants.{W32, W64}, Codes.{class_of}, Formats.{word_for}}
use Rattle.oc_base.specs.declared.code.Code.TheVariants as code

word_for-Omf : word_for Omf ≡ W32
word_for-Omf = refl

word_for-Mac64 : word_for Mac64 ≡ W64
word_for-Mac64 = refl

class_of-AddendTooWide : class_of code.AddendTooWide ≡ Refused
class_of-AddendTooWide = refl

class_of-BadPair : class_of code.BadPair ≡ Malformed
class_of-BadPair = refl

class_of-LimitNames : class_of code.LimitNames ≡ Limit
class_of-LimitNames = refl
