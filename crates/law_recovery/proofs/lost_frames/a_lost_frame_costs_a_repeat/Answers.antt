use Rattle.law_recovery.proofs.LostCounting.{two_turns}
use Rattle.law_recovery.proofs.Turning.{one_turn, turns_confirm}
use Rattle.law_recovery.proofs.lost_frames.a_lost_frame_costs_a_repeat.Goals as goal

pub returns : goal.returns
returns c = record {
  turn = λ tools delivers opens w x c d k far turn range long h free. one_turn tools delivers opens w x c d k far turn
      (record { range = range; drawn = long }) h free;
  turns = λ tools delivers opens w x c d k turns range long met j over free. turns_confirm tools delivers opens w x c d
      k turns (record { range = range; drawn = long }) met j over free;
  enough = two_turns;
}
