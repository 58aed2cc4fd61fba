use Rattle.std.proofs.Common.{◌≡◌, drop}
use Rattle.zb_inspect.specs.Pieces.{all_leads}
use Rattle.zb_inspect.specs.Rings.{learnt}
use Rattle.zb_inspect.proofs.rounds.learn_from.Given as goal

abbrev pub invariant-loop-piece : goal.invariant-loop-piece
invariant-loop-piece l = learnt l.round l.ring (all_leads (drop l.piece-index l.pieces))
    ≡ learnt l.round l.initial.ring (all_leads l.pieces)
