use Rattle.std.proofs.Common.{[], rules}
use Rattle.zb_text.proofs.Digits.{flat_pairs}
use Rattle.zb_text.proofs.hexadecimal.pairs_of_block.Goals as goal

pub returns : goal.returns
returns g c = flat_pairs c.loop-i.pairs c.args.block.now [] (search rules) (search rules)
