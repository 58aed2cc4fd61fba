use Rattle.std.proofs.Common.{ap, arith, length}
use Rattle.std.proofs.lemmas.List.{length-map}
use Rattle.zb_model.specs.State.{NetKey}
use Rattle.zb_record.specs.RowViews.{net_key}
use Rattle.zb_keys.proofs.ReadLemmas.{few_nets}
use Rattle.zb_keys.proofs.tables.Tables.active.Goals as goal

pub net_place-requires : goal.net_place-requires
net_place-requires c =
    let few = few_nets c.args.self.now c.keep_rules.ensures.rules in
    omega (arith, few, length-map c.nets.result.now net_key, ap (length {A = NetKey}) c.nets.ensures)
