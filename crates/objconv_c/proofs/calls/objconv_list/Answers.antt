-- The status is that of the library.
use Rattle.std.proofs.Common.{◌≡◌, pos, rules, to_z, of_z, w32}
use Rattle.objconv_c.proofs.calls.objconv_list.Goals as goal

pub returns : goal.returns
returns c =
    let is : to_z w32 (of_z w32 c.from.result) ≡ pos c.list_by-left.result.status = search rules in
    let left = c.list_by-left.ensures in (
      c.list_by-left.result.status,
      is,
      record {
        said = left.said;
        says = left.says;
        leaves = record {
          status = left.leaves.status;
          output_size = left.leaves.output_size;
          text_size = left.leaves.text_size;
          output_laid = left.leaves.output_laid;
          text_laid = left.leaves.text_laid;
        };
      },
    )
