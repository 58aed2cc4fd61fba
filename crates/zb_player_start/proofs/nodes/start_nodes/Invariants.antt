-- The nodes so far stand as the start lines say.
use Rattle.std.proofs.Common.{◌≡◌, ◌≤◌, [], length, take, vec_len}
use Rattle.std.specs.List.{AllByRecursion}
use Rattle.zb_disk.specs.Memory.{Medium}
use Rattle.zb_player_start.specs.Firsts.{AreNodesOf}
use Rattle.zb_model.specs.Play.{start, stations}
use Rattle.law_schedules.specs.Schedules.{schedule_of}
use Rattle.zb_player_node.specs.Nodes.{AllStand}
use Rattle.zb_sched.specs.Schedules.{Schedule}
use Rattle.zb_base.specs.Sizes.{record_room}
use Rattle.zb_player_start.proofs.nodes.start_nodes.Given as goal

abbrev pub invariant-loop-me : goal.invariant-loop-me
invariant-loop-me l = record {
  stand : (p : Schedule) → AreNodesOf p l.declared → AllStand (schedule_of p) (start (schedule_of p)) [] 1
      (take l.me (stations (schedule_of p))) l.nodes.items l.disks.items;
  nodes : length l.nodes.items ≡ l.me;
  disks : length l.disks.items ≡ l.me;
  calls : AllByRecursion (λ (m : Medium). m.calls ≡ 6) l.disks.items;
  room : record_room ≤ vec_len l.spare.room;
}
