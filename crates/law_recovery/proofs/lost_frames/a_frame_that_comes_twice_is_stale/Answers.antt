use Rattle.law_recovery.proofs.Twice.{comes_twice}
use Rattle.law_recovery.proofs.lost_frames.a_frame_that_comes_twice_is_stale.Goals as goal

pub returns : goal.returns
returns c = record {
  refused = λ tools opens c s f content draw again block i a m h. (comes_twice tools opens c s f content draw again
      block i a m h).refused;
  nothing = λ tools opens c s f content draw again block i a m h. (comes_twice tools opens c s f content draw again
      block i a m h).same;
}
