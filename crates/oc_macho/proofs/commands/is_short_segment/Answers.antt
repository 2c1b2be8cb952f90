-- The size of a segment is small.
use Rattle.std.proofs.Common.{◌≡◌, ℕ, ◌*◌, ◌≤◌, arith}
use Rattle.oc_base.specs.{declared.format.Word.{Word}, declared.format.Word.TheVariants.{W32, W64}}
use Rattle.oc_macho.specs.{SectionHeader.{section_header_size}, SegmentCommand.{segment_command_size}}
use Rattle.oc_macho.proofs.commands.is_short_segment.Goals as goal

few : (w : Word) (a n : ℕ) → a ≡ section_header_size w → a * n ≤ 80 * n
few W32 a n e = rw e (omega arith)
few W64 a n e = rw e (omega arith)

small : (w : Word) (a : ℕ) → a ≡ segment_command_size w → a ≤ 72
small W32 a e = omega (arith, e)
small W64 a e = omega (arith, e)

pub overflow_mul-result : goal.overflow_mul-result
overflow_mul-result c =
    let low = few c.args.word c.section_header_size.result c.from-3.result c.section_header_size.ensures in
    omega (arith, low, c.from-3.ensures, c.segment_command_at-nsects.type_inv)

pub overflow_add-result : goal.overflow_add-result
overflow_add-result c =
    let low = few c.args.word c.section_header_size.result c.from-3.result c.section_header_size.ensures in
    let head = small c.args.word c.segment_command_size-2.result c.segment_command_size-2.ensures in
    omega (arith, low, head, c.from-3.ensures, c.segment_command_at-nsects.type_inv)
