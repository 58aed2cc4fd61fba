use Rattle.std.proofs.Common.{◌∙◌, ap}
use Rattle.zb_model.specs.State.{NodeState, after_boot}
use Rattle.zb_keys.specs.Tables.{links_booted}
use Rattle.zb_keys.proofs.ReadLemmas.{aps_sound}
use Rattle.zb_keys.proofs.contents.Contents.boot.Goals as goal

pub returns-clause-state : goal.returns-clause-state
unfolding after_boot
returns-clause-state c = ap (λ (s : NodeState). record s { aps_next = s.aps_limit })
    (c.set_links_back.ensures.state ∙ ap links_booted c.set_nets_back.ensures.state)

pub returns-clause-sound : goal.returns-clause-sound
returns-clause-sound c = aps_sound c.set_links_back.new.self _ c.set_links_back.ensures.sound
