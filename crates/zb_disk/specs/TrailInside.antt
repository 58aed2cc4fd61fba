-- What the fields of a disk with a trail keep.
use Rattle.std.specs.Prelude.{◌≤◌, ◌≡◌, length, reverse, vec_capacity}
use Rattle.zb_disk.specs.declared.trail.TrailDisk.TheInside.{Inside}
use Rattle.zb_disk.specs.Trail.{Trail, replayed, steps_of, total}
use Rattle.zb_base.specs.Sizes.{disk_size}

abbrev pub trail_of : Inside → Trail
trail_of d = record {
  start = d.start.items;
  steps = reverse (steps_of d.log.items d.pool.items);
  calls_room = d.calls_room;
  bytes_room = d.bytes_room;
  taken = length d.pool.items;
  calls = d.calls;
  faults = d.faults;
}

pub record IsTrail (d : Inside) : Type 0 where
  pub now : d.bytes.items ≡ replayed d.start.items (reverse (steps_of d.log.items d.pool.items))
  pub whole : total d.log.items ≡ length d.pool.items
  pub room : disk_size ≤ vec_capacity d.bytes
  pub log_room : d.calls_room ≤ vec_capacity d.log
  pub pool_room : d.bytes_room ≤ vec_capacity d.pool
