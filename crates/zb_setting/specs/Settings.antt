-- What a node's configuration says about the network, as the model's setting: of the node itself all that is
-- declared, of the others their names, addresses and roles.
use Rattle.std.specs.Prelude.{ℕ, map, slice_get, Option, Some, None}
use Rattle.zb_base.specs.declared.node.Config.{Config}
use Rattle.zb_base.specs.declared.node.Peer.{Peer}
use Rattle.zb_model.specs.Data.{Station}
use Rattle.zb_model.specs.Play.{no_station}
use Rattle.zb_model.specs.Rules.{Setting}
use Rattle.zb_node_types.specs.Changes.{model_role}

-- A declared node with blocks of these sizes.
abbrev pub station : ℕ → ℕ → Peer → Station
station out_block in_block peer = record {
  name = peer.name.bytes;
  eui = peer.eui.0;
  short = peer.short.0;
  role = model_role peer.role;
  out_block = out_block;
  in_block = in_block;
}

-- A node as the others know it: without its blocks.
abbrev pub known : Peer → Station
known peer = station 0 0 peer

-- The node itself. A configuration has a place among the peers, so the value for no peer changes nothing.
abbrev pub own : ℕ → ℕ → Option Peer → Station
own out_block in_block None = no_station
own out_block in_block (Some peer) = station out_block in_block peer

unfoldable pub setting_for : Config → Setting
setting_for config = record {
  me = own config.out_block config.in_block (slice_get config.peers.items config.me);
  stations = map known config.peers.items;
}
