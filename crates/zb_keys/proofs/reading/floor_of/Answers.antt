use Rattle.std.proofs.Common.{◌∙◌, ap}
use Rattle.std.specs.Prelude.{find, nat_eq}
use Rattle.zb_counter.specs.declared.receiving.Floor.{Floor}
use Rattle.zb_model.specs.State as model
use Rattle.zb_record.specs.declared.net_row.SenderFloor.{SenderFloor}
use Rattle.zb_record.specs.RowViews.{heard_floor}
use Rattle.zb_keys.proofs.ReadLemmas.{floor_found}
use Rattle.zb_keys.proofs.reading.floor_of.Goals as goal

pub returns-in-Some : goal.returns-in-Some
returns-in-Some c =
    let same = floor_found c.args.row.now c.args.sender.0 c.in-Some.floor.now
    (c.in-Some.ensures ∙ ap (find (λ (f : SenderFloor). nat_eq (heard_floor f).sender c.args.sender.0))
    c.as_slice.ensures.value) in
    ap (λ (f : model.SenderFloor). plain f) same
  where
    plain : model.SenderFloor → Floor
    plain f = record { kept = f.kept; stored = f.stored }
