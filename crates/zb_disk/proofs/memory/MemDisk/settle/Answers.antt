use Rattle.std.proofs.Common.{◌≡◌, ◌+◌, ◌≤◌, ℕ, length, replicate, List, Bool, false, sym, ◌∙◌, ap, arith}
use Rattle.zb_disk.specs.Memory.{Medium, synced}
use Rattle.zb_disk.specs.MemoryInside.{medium_of, flags_around}
use Rattle.zb_disk.proofs.Windows.{around_emptied, length-around, length-flags}
use Rattle.zb_disk.proofs.memory.MemDisk.settle.Goals as goal

pub invariant_of-self : goal.invariant_of-self
invariant_of-self c =
    let kept = c.self.invariant in
    let cleared = c.clear.ensures in
    record {
      flags = omega (arith, kept.flags, cleared.len);
      order = omega arith;
      last = omega arith;
      within = kept.within;
      size = kept.size;
      grown = omega arith;
      behind = kept.behind;
      beyond = kept.beyond;
      room = kept.room;
      room_flags = omega (arith, kept.room_flags, cleared.capacity);
    }

lowered_is : (m : Medium) (w : List Bool) → w ≡ replicate (length m.written) false
    → ◌≡◌ {A = Medium} (record m { written = w; grown = 0 }) (synced m)
unfolding synced
lowered_is m w is = ap (λ (x : List Bool). let n : Medium = record m { written = x; grown = 0 } in n) is

pub returns : goal.returns
returns c =
    let kept = c.self.invariant in
    let old = c.self.inside in
    let n = old.len in
    let within : old.base + length old.written.items ≤ n = omega (arith, kept.flags, old.written.ok.0) in
    let all = length-flags old.base old.written.items n old.from old.to within kept.order kept.last in
    let flags = around_emptied old.base old.written.items c.clear.new.self.items n within c.clear.ensures.items in
    lowered_is (medium_of old) (flags_around old.base c.clear.new.self.items n)
    (flags ∙ ap (λ (i : ℕ). replicate i false) (length-around old.base old.written.items n within ∙ sym all))
    ∙ ap synced c.self.view_is
