-- What the fields of a store keep.
use Rattle.std.specs.Prelude.{◌+◌, ◌*◌, ◌≤◌, vec_capacity}
use Rattle.zb_store.specs.declared.store.Store.TheInside.{Inside}
use Rattle.zb_base.specs.Sizes.{entries_room, entry_room}
use Rattle.zb_store.specs.Sizes.{body_room}
use Rattle.zb_store.specs.Store.{Place}

abbrev pub place_inside : Inside → Place
place_inside s = record { second = s.second; generation = s.generation; end = s.end; entries = s.entries }

-- the entries lie within their slot, and the buffer has room for a record
pub record IsStore (s : Inside) : Type 0 where
  pub few : s.entries ≤ entries_room
  pub end : s.end ≤ body_room + entry_room * s.entries
  pub room : body_room ≤ vec_capacity s.buffer
