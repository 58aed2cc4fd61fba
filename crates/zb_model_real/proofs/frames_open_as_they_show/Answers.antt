-- The envelope of a frame is what it shows, and opening adds the content alone.
use Rattle.zb_model_real.proofs.Showing.{nwk-opens, aps-opens}
use Rattle.zb_model_real.proofs.frames_open_as_they_show.Goals as goal

pub returns-clause-nwk : goal.returns-clause-nwk
returns-clause-nwk c = nwk-opens

pub returns-clause-aps : goal.returns-clause-aps
returns-clause-aps c = aps-opens
