use Rattle.std.proofs.Common.{◌<◌, subst}
use Rattle.zb_model.specs.Play.{setting_of}
use Rattle.law_recovery.proofs.Floors.{floor_at_most}
use Rattle.law_recovery.proofs.Rounds.{rounds_end}
use Rattle.law_recovery.proofs.lost_frames.stale_rounds_are_fewer_than_a_block.Goals as goal

pub returns : goal.returns
returns c = record {
  rounds = λ tools delivers opens w x c d n later. rounds_end tools delivers opens w c d n x later;
  bounded = λ w x c d n later came. subst (λ k. k < (setting_of w d).me.in_block) later.stale
      (floor_at_most w x c d later.linked.own later.linked.at_member came later.network.in_block);
}
