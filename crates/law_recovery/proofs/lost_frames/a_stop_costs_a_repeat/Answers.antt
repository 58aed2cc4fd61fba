use Rattle.law_recovery.proofs.Halting.{all_happenings, come_again, happenings_confirm, one_happening, turns_end}
use Rattle.law_recovery.proofs.LostTaking.{kept_so}
use Rattle.law_recovery.proofs.lost_frames.a_stop_costs_a_repeat.Goals as goal

pub returns : goal.returns
returns c = record {
  happening = λ tools delivers opens w x c d k far happening range long h o. one_happening tools delivers opens w x c d
      k far happening (record { range = range; drawn = long }) h o;
  happenings = λ tools delivers opens w x c d k far hs range long h o. all_happenings tools delivers opens w x c d k
      far hs (record { range = range; drawn = long }) h o;
  ends = λ tools delivers opens w x c d k hs range long met j o over rc rd. happenings_confirm tools delivers opens w x
      c d k hs (record { range = range; drawn = long }) met j o over rc rd;
  begins = kept_so;
  goes_on = come_again;
  turns = λ tools delivers opens w x c d k far turns range long h free over. turns_end tools delivers opens w x c d k
      far turns (record { range = range; drawn = long }) h free over;
}
