use Rattle.law_recovery.proofs.StaleAnswers.{stale_answers_are_fewer, stays_answered}
use Rattle.law_recovery.proofs.lost_frames.stale_answers_are_fewer_than_a_block.Goals as goal

pub returns : goal.returns
returns c = record {
  fewer = λ tools delivers opens w x c d k far n range long block h came all. stale_answers_are_fewer tools delivers
      opens w c d k far n x (record { range = range; drawn = long }) block h came all;
  stays = λ tools delivers opens w x c d k far n range long h answered all. stays_answered tools delivers opens w c d k
      far n x (record { range = range; drawn = long }) h answered all;
}
