use Rattle.std.proofs.Common.{◌∙◌, ap}
use Rattle.std.specs.Prelude.{find}
use Rattle.zb_model.specs.State.{same_key}
use Rattle.zb_record.specs.declared.net_row.NetRow.{NetRow}
use Rattle.zb_record.specs.RowViews.{net_key}
use Rattle.zb_keys.proofs.ReadLemmas.{active_found, active_none}
use Rattle.zb_keys.proofs.contents.Contents.active_row.Goals as goal

pub returns-in-Some : goal.returns-in-Some
returns-in-Some c = active_found c.args.self.now c.in-Some.key _ c.in-Some.is
    (c.key_row.ensures ∙ ap (find (λ (r : NetRow). same_key (net_key r).key c.in-Some.key.0)) c.as_slice.ensures.value)

pub returns-in-None : goal.returns-in-None
returns-in-None c = active_none c.args.self.now c.in-None.is
