use Rattle.std.proofs.Common.{◌≡◌, ◌≢◌, ℕ, ◌+◌, ◌-◌, ◌<◌, ◌≤◌, length, take}
use Rattle.std.specs.Int.{div_ceil}
use Rattle.zb_inspect.specs.Pieces.{AreSized, all_blocks, AllSee, IsCut}
use Rattle.zb_inspect.specs.Rings.{keys_of, ring_after}
use Rattle.zb_inspect.proofs.FreshLeads.{AllLearnt}
use Rattle.zb_inspect.proofs.rounds.open_all.Given as goal

abbrev pub invariant-rounds : goal.invariant-rounds
invariant-rounds g l = record {
  ring : l.ring ≡ ring_after l.capture l.rounds;
  pieces : IsCut l.capture l.pieces.items;
  sized : AreSized (div_ceil (length l.capture.frames) l.jobs) 0 (length l.capture.frames) l.pieces.items;
  known : l.known ≤ length l.ring;
  seen : AllSee l.capture.frames l.capture.addrs (take l.known (keys_of l.ring)) (all_blocks l.pieces.items);
  learnt : AllLearnt l.ring l.capture.frames l.capture.addrs (take l.known (keys_of l.ring))
      (all_blocks l.pieces.items);
  few : length l.ring ≤ 300256;
  grew : l.rounds ≤ length l.ring;
  first : (n : ℕ) → 0 < n → n < l.rounds + 1 → ring_after l.capture n ≢ ring_after l.capture (n - 1);
}

abbrev pub decreases-rounds : goal.decreases-rounds
decreases-rounds g l = 300257 - length l.ring
