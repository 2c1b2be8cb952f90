-- What contracts see of iterated data that were read (TIS OMF 1.1, "LIDATA: Logical Iterated Data Record").
use Rattle.oc_omf_records.specs.{declared.block.Block.{Block}, Blocks.{Blocks}, Rows.{rows_of}}

-- the tree of the blocks
abbrev pub shown : Block → Blocks
shown block = rows_of block.blocks.items
