-- The state of a node with a heading and rows, as a record of them is written.
use Rattle.std.specs.Prelude.{ℕ, List, map, Option, Some, None}
use Rattle.zb_base.specs.declared.key.Key.{Key}
use Rattle.zb_node_types.specs.Changes.{model_role, model_state, is_sending}
use Rattle.zb_model.specs.Data.{Bytes}
use Rattle.zb_model.specs.Record.{place_from, no_place}
use Rattle.zb_model.specs.State.{NodeState}
use Rattle.zb_record.specs.RowViews.{net_key, link_key, pair_key}
use Rattle.zb_record.specs.declared.write.Heading.{Heading}
use Rattle.zb_record.specs.declared.net_row.NetRow.{NetRow}
use Rattle.zb_record.specs.declared.link_row.LinkRow.{LinkRow}
use Rattle.zb_record.specs.declared.pair_row.Pair.{Pair}

abbrev pub active_bytes : Option Key → Option Bytes
active_bytes None = None
active_bytes (Some key) = Some key.0

-- the place of the active network key among the rows, 65,535 for none
abbrev pub place_in : Option Key → List NetRow → ℕ
place_in None rows = no_place
place_in (Some key) rows = place_from 0 key.0 (map net_key rows)

-- the same with another active key
abbrev pub state_with : ℕ → Heading → Option Key → List NetRow → List LinkRow → List Pair → NodeState
state_with aps_next h active nets links pairs = record {
  role = model_role h.role;
  state = model_state h.state;
  declared = h.declared;
  aps_limit = h.aps_limit;
  aps_next = aps_next;
  sending = is_sending h.rolling;
  nets = map net_key nets;
  active = active_bytes active;
  links = map link_key links;
  pairs = map pair_key pairs;
}

-- the state of a node with that next APS counter
abbrev pub state_written : ℕ → Heading → List NetRow → List LinkRow → List Pair → NodeState
state_written aps_next h nets links pairs = state_with aps_next h h.active nets links pairs
