use Rattle.std.proofs.Common.{◌∙◌, ap, map}
use Rattle.zb_model.specs.State.{booted_net}
use Rattle.zb_record.specs.RowViews.{net_key}
use Rattle.zb_keys.proofs.BootLemmas.{nets_sound}
use Rattle.zb_keys.proofs.HeardLemmas.{state_nets}
use Rattle.zb_keys.proofs.contents.Contents.set_nets_back.Goals as goal

pub returns-clause-state : goal.returns-clause-state
returns-clause-state c =
    let nets = c.boot_nets.ensures ∙ ap (λ l. map booted_net (map net_key l)) c.deref_mut.ensures.value in
    state_nets c.args.self.now c.boot_nets.new.rows _ (c.boot_nets.auto.rows ∙ c.deref_mut.ensures.len) nets

pub returns-clause-sound : goal.returns-clause-sound
returns-clause-sound c =
    let nets = c.boot_nets.ensures ∙ ap (λ l. map booted_net (map net_key l)) c.deref_mut.ensures.value in
    nets_sound c.args.self.now c.boot_nets.new.rows (c.boot_nets.auto.rows ∙ c.deref_mut.ensures.len) nets
    c.requires.sound
