-- A node at the start of a run.
use Rattle.std.specs.Prelude.{◌≡◌, []}
use Rattle.zb_disk.specs.Memory.{Medium}
use Rattle.zb_model.specs.Data.{Station}
use Rattle.zb_model.specs.Play.{Schedule, start}
use Rattle.law_run_steps.specs.Conditions.{condition_of}
use Rattle.zb_player_node.specs.Nodes.{IsIn, IsSeat}
use Rattle.zb_player_node.specs.Values.{NodeValue}

-- The node is that station of the schedule, and is before the first event as the start lines say. Its disk made six
-- device calls: five for its first record, and one for its first boot.
pub record IsSeated (w : Schedule) (s : Station) (node : NodeValue) (m : Medium) : Type 0 where
  pub seat : IsSeat s node
  pub stands : IsIn (condition_of w (start w) [] s.eui) 1 node m
  pub calls : m.calls ≡ 6
