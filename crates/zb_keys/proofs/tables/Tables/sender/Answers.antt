use Rattle.std.proofs.Common.{ap, map, None, Option}
use Rattle.std.specs.Prelude.{slice_get}
use Rattle.zb_model.specs.State.{NetKey, SenderFloor}
use Rattle.zb_record.specs.RowViews.{net_key}
use Rattle.zb_keys.specs.Places.{live_floors}
use Rattle.zb_keys.proofs.PlaceLemmas.{ascends_at, seen_at}
use Rattle.zb_keys.proofs.tables.Tables.sender.Goals as goal

pub returns-in-Some-clause-ascends : goal.returns-in-Some-clause-ascends
returns-in-Some-clause-ascends c = ascends_at c.args.self.now c.args.place c.keep_rules.ensures.rules

pub returns-in-None-clause-value : goal.returns-in-None-clause-value
returns-in-None-clause-value c =
    let nets = c.args.self.now.nets in
    let row = seen_at net_key None c.nets.result.now nets c.args.place c.in-None.ensures c.nets.ensures in
    ap (λ (o : Option NetKey). slice_get (map (λ (f : SenderFloor). f.sender) (live_floors o)) c.args.at) row

pub returns-in-None-clause-ascends : goal.returns-in-None-clause-ascends
returns-in-None-clause-ascends c = ascends_at c.args.self.now c.args.place c.keep_rules.ensures.rules
