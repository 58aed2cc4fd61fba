-- What nodes are, for those who stand on their events.
pub use Rattle.zb_player_node.specs.Nodes.{AllIn, AllStand, CanBootFrom, IsIn, IsSeat}
pub use Rattle.zb_player_node.specs.Events.{task_of}
pub use Rattle.zb_player_node.specs.Values.{NodeValue}
