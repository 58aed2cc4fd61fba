use Rattle.std.specs.List.{AllZip}
use Rattle.zb_inspect.specs.Pieces.{HasShare}
use Rattle.zb_inspect.proofs.cut.unseen_pieces.Given as goal

abbrev pub invariant-loop-share : goal.invariant-loop-share
invariant-loop-share l = AllZip HasShare l.yielded l.pieces.items
