use Rattle.std.proofs.Common.{arith}
use Rattle.zb_inspect.proofs.CutLaws.{all_within, cut_counts, cut_lengths, cut_numbers, cut_sized, cut_unseen}
use Rattle.zb_inspect.proofs.cut.cut.Goals as goal

pub unseen_pieces-requires : goal.unseen_pieces-requires
unseen_pieces-requires c = all_within 100000 _ 0 0 c.args.frames c.in_ok-shares.shares.items
    c.in_ok-shares.ensures.cut (omega (arith, c.requires.frames))

pub returns-clause-numbers : goal.returns-clause-numbers
returns-clause-numbers c =
    cut_numbers _ 0 0 c.args.frames c.in_ok-shares.shares.items c.in_ok-pieces.pieces.items c.in_ok-shares.ensures.cut
    c.in_ok-pieces.ensures

pub returns-clause-count : goal.returns-clause-count
returns-clause-count c =
    cut_counts _ 0 0 c.args.frames c.in_ok-shares.shares.items c.in_ok-pieces.pieces.items c.in_ok-shares.ensures.cut
    c.in_ok-pieces.ensures

pub returns-clause-unseen : goal.returns-clause-unseen
returns-clause-unseen c = cut_unseen c.in_ok-shares.shares.items c.in_ok-pieces.pieces.items c.in_ok-pieces.ensures

pub returns-clause-sized : goal.returns-clause-sized
returns-clause-sized c =
    cut_sized _ 0 0 c.args.frames c.in_ok-shares.shares.items c.in_ok-pieces.pieces.items c.in_ok-shares.ensures.cut
    c.in_ok-pieces.ensures

pub returns-clause-few : goal.returns-clause-few
returns-clause-few c =
    omega (
      arith,
      c.in_ok-shares.ensures.few,
      cut_lengths c.in_ok-shares.shares.items c.in_ok-pieces.pieces.items
          c.in_ok-pieces.ensures,
    )
