-- One lemma per rule.
use Rattle.law_run_lookups.proofs.FrameLayers.{own-spent, own-sealed, command-spent, command-sealed}
use Rattle.law_run_lookups.proofs.counter_spent_is_of_the_layers_of_the_frame.Goals as goal

pub returns : goal.returns
returns c =
    record { own_events = own-spent; own_frames = own-sealed; commands = command-spent; their_frames = command-sealed }
