-- The lines of blocks, one after the other, and the texts of faults.
use Rattle.std.specs.Prelude.{ℕ, List, Vec, codes}
use Rattle.std.specs.Global.{Global}
use Rattle.std.specs.List.{AllByRecursion, flat_map}
use Rattle.zb_inspect.specs.Pieces.{seen_text, HasRoom}
use Rattle.zb_inspect.specs.declared.block.Block.{Block}
use Rattle.zb_inspect.specs.declared.fault.InspectFault.{InspectFault}
use Rattle.zb_inspect.specs.declared.fault.InspectFault.TheVariants.{Write, NoMemory}

-- The lines that blocks keep.
abbrev pub block_text : Block → List ℕ
block_text block = seen_text block.first block.count block.seen

abbrev pub blocks_text : List Block → List ℕ
blocks_text blocks = flat_map block_text blocks

-- The text of pages, one after the other.
abbrev pub pages_text : List (Vec ℕ Global) → List ℕ
pages_text pages = flat_map (λ (page : Vec ℕ Global). page.items) pages

-- The numbers of all frames are in their range.
abbrev pub BlockHasRoom : Block → Type 0
BlockHasRoom block = HasRoom block.first block.count block.seen

abbrev pub HaveRoom : List Block → Type 0
HaveRoom blocks = AllByRecursion BlockHasRoom blocks

-- How a fault is printed.
abbrev pub fault_text : InspectFault → List ℕ
fault_text Write = codes "the report can't be written"
fault_text NoMemory = codes "no memory"
