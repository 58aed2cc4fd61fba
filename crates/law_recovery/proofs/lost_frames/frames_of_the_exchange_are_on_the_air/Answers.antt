use Rattle.law_recovery.proofs.OnAir.{centre_sends, stays_on_air, timer_sends}
use Rattle.law_recovery.proofs.lost_frames.frames_of_the_exchange_are_on_the_air.Goals as goal

pub returns : goal.returns
returns c = record {
  asked = timer_sends;
  told = λ tools delivers w x c d k far frame sealed range long h o up whole. centre_sends tools delivers w x c d k far
      frame sealed (record { range = range; drawn = long }) h o up whole;
  stay = stays_on_air;
}
