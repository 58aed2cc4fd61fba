-- Laws of nodes, for those who stand on their events.
pub use Rattle.zb_player_node.proofs.Conditions.{holds_from, in_from, in_later, over_another}
