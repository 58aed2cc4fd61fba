-- The peers so far are those of the nodes so far.
use Rattle.std.proofs.Common.{◌≡◌, map, take}
use Rattle.arrayvec.specs.ArrayVec.{array_vec_len}
use Rattle.zb_player_start.proofs.Settings.{peer_of}
use Rattle.zb_player_start.proofs.config.peers_of.Given as goal

abbrev pub invariant-loop-node : goal.invariant-loop-node
invariant-loop-node l =
    record {
      items : l.peers.items ≡ map peer_of (take l.node-index l.declared);
      len : array_vec_len l.peers
          ≡ l.node-index;
    }
