use Rattle.law_recovery.proofs.StaleTurns.{stale_turns_are_fewer, stays_as_far}
use Rattle.law_recovery.proofs.lost_frames.stale_turns_are_fewer_than_a_block.Goals as goal

pub returns : goal.returns
returns c = record {
  fewer = λ tools delivers opens w x c d k far n range long h came all. stale_turns_are_fewer tools delivers opens w
      c d k far n x (record { range = range; drawn = long }) h came all;
  stays = λ tools opens w x c d k far n range long h all. stays_as_far tools opens w c d k far n x
      (record { range = range; drawn = long }) h all;
}
