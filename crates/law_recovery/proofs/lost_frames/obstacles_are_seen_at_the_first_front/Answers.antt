use Rattle.law_recovery.proofs.Foreseen.{foreseen}
use Rattle.law_recovery.proofs.lost_frames.obstacles_are_seen_at_the_first_front.Goals as goal

pub returns : goal.returns
returns c = λ tools delivers opens w x c d key sequence link drawn met j range long seen. foreseen tools delivers opens
    w x c d (record { network = key; sequence = sequence; link = link; drawn = drawn })
    (record { range = range; drawn = long })
    (record { met = met; network = j.network; device = j.device; centre = j.keys }) seen
