use Rattle.std.proofs.Common.{◌≡◌, ◌≤◌, ◌*◌, List, ℕ, length, IsTrue}
use Rattle.zb_disk.specs.View.{IsStill}
use Rattle.zb_base.specs.Outside.{Unrisen}
use Rattle.zb_store.specs.Layout.{payloads_of, extent}
use Rattle.zb_store.specs.Reading.{IsBehind}
use Rattle.zb_store.proofs.reading.count_entries.Given as goal

abbrev pub invariant-loop-count : goal.invariant-loop-count
invariant-loop-count g l = record {
  still : IsStill (g.D.Disk.state l.fn.disk) (g.D.Disk.state l.disk);
  later : (g.D.Disk.state l.fn.disk).faults ≤ (g.D.Disk.state l.disk).faults;
  unrisen : Unrisen (g.D.Disk.state l.fn.disk).faults (g.D.Disk.state l.disk).faults;
  short : l.taken ≤ 484 * l.count;
  entries : IsTrue g.D.Disk.tells.content → (b : List ℕ)
      → IsBehind b l.fn.start l.fn.room 15616 (g.D.Disk.state l.fn.disk).seen
      → (length (payloads_of l.count b) ≡ l.count) × (l.taken ≡ extent (payloads_of l.count b));
}
