-- What a valid configuration of a node is. Each call that takes a `Config` requires it.
use Rattle.std.specs.Prelude.{◌≡◌, ◌≢◌, ◌≤◌, ◌<◌, List, [], ◌∷◌, ⊤, length, count_by, Bool, true, false}
use Rattle.std.specs.List.{AllByRecursion}
use Rattle.zb_base.specs.declared.node.Config.{Config}
use Rattle.zb_base.specs.declared.node.Peer.{Peer}
use Rattle.zb_base.specs.declared.node.Role.{Role}
use Rattle.zb_base.specs.declared.node.Role.TheVariants.{Centre, Router, Device}
use Rattle.zb_base.specs.Limits.{most_out_block, most_in_block}

-- the readings of all items differ
abbrev pub ApartBy : {T V : Type 0} → (T → V) → List T → Type 0
ApartBy reading [] = ⊤
ApartBy reading (item ∷ items) = AllByRecursion (λ other. reading item ≢ reading other) items × ApartBy reading items

-- whether a role is that of the trust centre
abbrev pub is_centre : Role → Bool
is_centre Centre = true
is_centre Router = false
is_centre Device = false

-- the peers differ in name and in both addresses, exactly one is the centre, `me` is a place among them, and each
-- block is in its range
pub record IsConfig (config : Config) : Type 0 where
  pub names : ApartBy (λ (peer : Peer). peer.name.bytes) config.peers.items
  pub euis : ApartBy (λ (peer : Peer). peer.eui.0) config.peers.items
  pub shorts : ApartBy (λ (peer : Peer). peer.short.0) config.peers.items
  pub one_centre : count_by (λ (peer : Peer). is_centre peer.role) config.peers.items ≡ 1
  pub place : config.me < length config.peers.items
  pub out_least : 1 ≤ config.out_block
  pub out_most : config.out_block ≤ most_out_block
  pub in_least : 1 ≤ config.in_block
  pub in_most : config.in_block ≤ most_in_block
