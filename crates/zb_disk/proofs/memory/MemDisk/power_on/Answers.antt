use Rattle.std.proofs.Common.{◌≡◌, List, ℕ, ◌+◌, ◌-◌, ◌≤◌, length, take, replicate, inr, Bool, true, false, rules, sym, ◌∙◌, ap, subst, arith}
use Rattle.zb_disk.specs.View.{Only}
use Rattle.zb_disk.specs.declared.memory.Arming.TheVariants.{Unarmed}
use Rattle.zb_disk.specs.Memory.{Medium, patch, IsImage, is_stopped, torn_by, settled, synced, powered, memory_view}
use Rattle.zb_disk.specs.MemoryInside.{medium_of, flags_around, IsOutside}
use Rattle.zb_disk.proofs.Windows.{length-flags}
use Rattle.zb_disk.proofs.Tearing.{settled_image, settled_byte, powered_on, powered_off, only_powered}
use Rattle.zb_disk.proofs.Extents.{torn_outside, torn_front}
use Rattle.zb_disk.proofs.memory.MemDisk.power_on.Goals as goal

bytes_of : (m new : Medium) → new ≡ powered m → new.bytes ≡ settled m
unfolding powered
bytes_of m new is = ap (λ (x : Medium). x.bytes) is

image_of : (m new : Medium) → new ≡ powered m → IsImage m.bytes m.written m.grown new.bytes
image_of m new is = subst (λ (l : List ℕ). IsImage m.bytes m.written m.grown l) (sym (bytes_of m new is))
    (settled_image m (is_stopped m.arming))

only_of : (m new : Medium) → new ≡ powered m → Only new.bytes (memory_view new).images
only_of m new is = subst (λ (x : Medium). Only x.bytes (memory_view x).images) (sym is) (only_powered m)

pub returns-then-not-is_off-clause-after : goal.returns-then-not-is_off-clause-after
returns-then-not-is_off-clause-after c =
    let on : is_stopped c.args.self.now.arming ≡ false = search rules in
    c.settle.ensures ∙ powered_on c.args.self.now on

pub returns-then-not-is_off-clause-one_of_the_images : goal.returns-then-not-is_off-clause-one_of_the_images
returns-then-not-is_off-clause-one_of_the_images c = image_of c.args.self.now c.settle.new.self
    (returns-then-not-is_off-clause-after c)

pub returns-then-not-is_off-clause-only : goal.returns-then-not-is_off-clause-only
returns-then-not-is_off-clause-only c = only_of c.args.self.now c.settle.new.self
    (returns-then-not-is_off-clause-after c)

-- A sync doesn't depend on which bytes were written.
synced_same : (m : Medium) (w : List Bool) → length w ≡ length m.written → synced (record m { written = w }) ≡ synced m
unfolding synced
synced_same m w same = ap (λ (i : ℕ). let n : Medium = record m { written = replicate i false; grown = 0 } in n) same

-- What a stop leaves, if its pattern and its flags are known.
torn_is : (p p' b new : List ℕ) (base : ℕ) (w w' : List Bool) (n : ℕ) → new ≡ torn_by p' b (flags_around base w' n)
    → p' ≡ p → w' ≡ w → new ≡ torn_by p b (flags_around base w n)
torn_is p p' b new base w w' n is same_pattern same_flags =
    is ∙ ap (λ (x : List ℕ). torn_by x b (flags_around base w' n)) same_pattern ∙ ap
    (λ (x : List Bool). torn_by p b (flags_around base x n)) same_flags

pub invariant_of-self : goal.invariant_of-self
invariant_of-self c =
    let kept = c.self.invariant in
    let old = c.self.inside in
    let b = old.bytes.items in
    let base = c.add-self-inside.result in
    let w = c.add-self-inside.new.written.items in
    let new = c.tear_all.new.bytes.items in
    let added = c.add-self-inside.ensures in
    let old_flags = old.written.ok.0 in
    let new_flags = c.add-self-inside.new.written.ok.0 in
    let window : base + length w ≤ old.len = omega (arith, old_flags, added.ends, kept.flags, kept.last) in
    let torn : new ≡ torn_by old.torn.items b (flags_around base w (length b)) =
    torn_is old.torn.items c.as_slice.result.now b new base w c.deref.result.now (length b) c.tear_all.ensures.after
    c.as_slice.ensures.value c.deref.ensures.value in
    record {
      flags = omega (arith, new_flags, window);
      order = kept.order;
      last = kept.last;
      within = omega (arith, kept.within, c.tear_all.ensures.size);
      size = omega (arith, kept.size, c.tear_all.ensures.size);
      grown = kept.grown;
      behind = λ k past. torn_outside old.torn.items b base w (length b) k new torn (inr (omega arith))
          (kept.behind k past);
      beyond = λ k it.
          let before = c.include.ensures k it in
          let all : base + c.len.result ≡ base + length w = omega (arith, c.len.ensures, new_flags) in
          torn_outside old.torn.items b base w (length b) k new torn
          (subst (λ (end : ℕ). IsOutside base end k) all before.1) (kept.beyond k before.0);
      room = omega (arith, kept.room, c.tear_all.ensures.room);
      room_flags = omega (arith, kept.room_flags, added.room);
    }

pub returns-clause-after : goal.returns-clause-after
returns-clause-after c =
    let kept = c.self.invariant in
    let old = c.self.inside in
    let m = medium_of old in
    let b = old.bytes.items in
    let base = c.add-self-inside.result in
    let w = c.add-self-inside.new.written.items in
    let new = c.tear_all.new.bytes.items in
    let off : is_stopped c.args.self.now.arming ≡ true = search rules in
    let here : is_stopped m.arming ≡ true = ap (λ (x : Medium). is_stopped x.arming) c.self.view_is ∙ off in
    let within : old.base + length old.written.items ≤ old.len = omega (arith, old.written.ok.0, kept.flags) in
    let flags : flags_around base w old.len ≡ m.written = c.add-self-inside.ensures.after old.len kept.last within in
    let window : base + length w ≤ old.len = omega (arith, c.add-self-inside.ensures.ends, within, kept.last) in
    let fits : old.len ≤ length b = omega (arith, old.bytes.ok.0, kept.within) in
    let torn : take old.len new ≡ torn_by old.torn.items m.bytes m.written =
    ap (λ (l : List ℕ). take old.len l)
    (torn_is old.torn.items c.as_slice.result.now b new base w c.deref.result.now (length b)
    c.tear_all.ensures.after c.as_slice.ensures.value c.deref.ensures.value)
    ∙ torn_front old.torn.items b base w old.len window fits
    ∙ ap (λ (x : List Bool). torn_by old.torn.items (take old.len b) x) flags in
    let long : length (patch (flags_around base w old.len) old.from (replicate (old.to - old.from) true))
    ≡ length m.written =
    length-flags base w old.len old.from old.to window kept.order kept.last ∙ sym
    (length-flags old.base old.written.items old.len old.from old.to within kept.order kept.last) in
    let torn_medium : Medium = record m { bytes = take old.len new; arming = Unarmed } in
    c.settle-2.ensures ∙ synced_same torn_medium
    (patch (flags_around base w old.len) old.from (replicate (old.to - old.from) true)) long
    ∙ powered_off m (take old.len new) here torn ∙ ap powered c.self.view_is

pub returns-clause-one_of_the_images : goal.returns-clause-one_of_the_images
returns-clause-one_of_the_images c = image_of c.args.self.now c.settle-2.new.self (returns-clause-after c)

pub returns-clause-only : goal.returns-clause-only
returns-clause-only c = only_of c.args.self.now c.settle-2.new.self (returns-clause-after c)

pub returns-clause-one_byte : goal.returns-clause-one_byte
returns-clause-one_byte c at one within off some = bytes_of c.args.self.now c.settle-2.new.self
    (returns-clause-after c) ∙ settled_byte c.args.self.now at one within off some
