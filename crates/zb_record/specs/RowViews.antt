-- The rows of the program as the model's.
use Rattle.std.specs.Prelude.{map}
use Rattle.zb_node_types.specs.Changes.{model_attribute}
use Rattle.zb_record.specs.declared.net_row.NetRow.{NetRow}
use Rattle.zb_record.specs.declared.net_row.SenderFloor as program
use Rattle.zb_record.specs.declared.link_row.LinkRow.{LinkRow}
use Rattle.zb_record.specs.declared.pair_row.Pair as program_pair
use Rattle.zb_model.specs.State.{SenderFloor, NetKey, LinkKey, PairKey}

abbrev pub heard_floor : program.SenderFloor → SenderFloor
heard_floor f = record { sender = f.sender.0; kept = f.kept; stored = f.stored }

abbrev pub net_key : NetRow → NetKey
net_key r = record {
  key = r.key.0;
  sequence = r.sequence;
  live = r.live;
  started = r.started;
  limit = r.limit;
  next = r.next;
  floors = map heard_floor r.floors.items;
}

abbrev pub link_key : LinkRow → LinkKey
link_key r = record {
  partner = r.partner.0;
  key = r.key.0;
  attribute = model_attribute r.attribute;
  live = r.live;
  code = r.code;
  told = r.told;
  kept = r.floor.kept;
  stored = r.floor.stored;
}

abbrev pub pair_key : program_pair.Pair → PairKey
pair_key p = record { first = p.first.0; second = p.second.0; key = p.key.0 }
