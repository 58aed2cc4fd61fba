use Rattle.std.proofs.Common.{◌≡◌, inr, refl, take, ◌≤◌, ◌+◌, ◌-◌, ℕ, List, Bool, true, false, length, replicate, max, ◌∙◌, ap, arith}
use Rattle.std.proofs.lemmas.List.{length-replicate, length-take-le}
use Rattle.zb_disk.specs.Memory.{Medium, stored, patch, spread}
use Rattle.zb_disk.specs.MemoryInside.{medium_of, flags_around}
use Rattle.zb_disk.proofs.Windows.{around_written}
use Rattle.zb_disk.proofs.Lists.{length-patch, length-spread}
use Rattle.zb_disk.proofs.Extents.{put_front, put_outside}
use Rattle.zb_disk.proofs.memory.MemDisk.store.Goals as goal

-- The length of the bytes after a write.
put_long : (old new piece : List ℕ) (start : ℕ) → new ≡ patch (spread old (start + length piece) 0) start piece
    → length new ≡ max (length old) (start + length piece)
put_long old new piece start is =
    let end = start + length piece in
    let all = spread old end 0 in
    let fits : start + length piece ≤ length all = omega (arith, length-spread old end 0) in
    ap length is ∙ length-patch all piece start fits ∙ length-spread old end 0

pub invariant_of-self : goal.invariant_of-self
invariant_of-self c =
    let kept = c.self.invariant in
    let old = c.self.inside in
    let start = c.args.start in
    let piece = c.args.piece.now in
    let added = c.add-self-inside.ensures in
    let size = put_long old.bytes.items c.put.new.bytes.items piece start c.put.ensures.after in
    let old_len = old.bytes.ok.0 in
    let old_flags = old.written.ok.0 in
    let new_len = c.put.new.bytes.ok.0 in
    let new_flags = c.add-self-inside.new.written.ok.0 in
    record {
      flags = omega (arith, old_flags, new_flags, added.ends, kept.flags, kept.last, c.max-self-inside.ensures);
      order = omega arith;
      last = omega (arith, c.max-self-inside.ensures);
      within = omega (arith, size, old_len, new_len, kept.within, c.max-self-inside.ensures);
      size = omega (arith, size, old_len, new_len, kept.size, c.requires);
      grown = omega (arith, kept.grown, c.saturating_sub.ensures, c.max-self-inside.ensures);
      behind = λ k past. put_outside old.bytes.items piece c.put.new.bytes.items start k c.put.ensures.after
          (inr (omega (arith, c.max-self-inside.ensures))) (kept.behind k (omega (arith, c.max-self-inside.ensures)));
      beyond = λ k it.
          let before = c.include.ensures k it in
          put_outside old.bytes.items piece c.put.new.bytes.items start k c.put.ensures.after before.1
          (kept.beyond k before.0);
      room = omega (arith, kept.room, c.put.ensures.room);
      room_flags = omega (arith, kept.room_flags, added.room);
    }

same_medium : (m : Medium) (b b' : List ℕ) (w w' : List Bool) (g g' : ℕ) → b ≡ b' → w ≡ w' → g ≡ g'
    → record m { bytes = b; written = w; grown = g } ≡ record m { bytes = b'; written = w'; grown = g' }
same_medium m b b' w w' g g' p q r =
    ap (λ (x : List ℕ). let n : Medium = record m { bytes = x; written = w; grown = g } in n) p
    ∙ ap (λ (x : List Bool). let n : Medium = record m { bytes = b'; written = x; grown = g } in n) q
    ∙ ap (λ (x : ℕ). let n : Medium = record m { bytes = b'; written = w'; grown = x } in n) r

same_len : (m : Medium) (items : List ℕ) (base : ℕ) (w : List Bool) (start count grown len len' : ℕ) → len ≡ len'
    → record m {
      bytes = take len items;
      written = patch (flags_around base w len) start (replicate count true);
      grown = grown;
    }
    ≡ record m {
      bytes = take len' items;
      written = patch (flags_around base w len') start (replicate count true);
      grown = grown;
    }
same_len m items base w start count grown len len' is =
    ap (λ (i : ℕ). let n : Medium = record m
    { bytes = take i items; written = patch (flags_around base w i) start (replicate count true); grown = grown } in
    n) is

pub returns : goal.returns
unfolding stored
returns c =
    let kept = c.self.invariant in
    let old = c.self.inside in
    let start = c.args.start in
    let piece = c.args.piece.now in
    let end = start + length piece in
    let m = medium_of old in
    let base = c.add-self-inside.result in
    let w = c.add-self-inside.new.written.items in
    let n = max old.len end in
    let last = replicate (old.to - old.from) true in
    let within : old.base + length old.written.items ≤ old.len = omega (arith, old.written.ok.0, kept.flags) in
    let fits : old.from + length last ≤ old.len =
    omega (arith, length-replicate (old.to - old.from) true, kept.order, kept.last) in
    let until : old.to ≤ n = omega (arith, kept.last) in
    let low_flags : old.base + length old.written.items ≤ n = omega arith in
    let long : length (take old.len old.bytes.items) ≡ old.len =
    length-take-le old.len old.bytes.items (omega (arith, old.bytes.ok.0, kept.within)) in
    let count : end - start ≡ length piece = omega arith in
    let before : flags_around base w n ≡ spread m.written end false =
    around_written old.base old.written.items base w last old.from end old.len n within refl fits
    (c.add-self-inside.ensures.after n until low_flags) in
    let written : patch (flags_around base w n) start (replicate (end - start) true)
    ≡ patch (spread m.written end false) start (replicate (length piece) true) =
    ap (λ (k : ℕ). patch (flags_around base w n) start (replicate k true)) count ∙ ap
    (λ (l : List Bool). patch l start (replicate (length piece) true)) before in
    let grown : old.grown + c.saturating_sub.result ≡ old.grown + (end - length (take old.len old.bytes.items)) =
    omega (arith, long, c.saturating_sub.ensures) in
    let bytes : take n c.put.new.bytes.items ≡ patch (spread m.bytes end 0) start piece =
    put_front old.bytes.items piece c.put.new.bytes.items start old.len (omega (arith, old.bytes.ok.0, kept.within))
    kept.behind c.put.ensures.after in
    same_len m c.put.new.bytes.items base w start (end - start) (old.grown + c.saturating_sub.result)
    c.max-self-inside.result n c.max-self-inside.ensures
    ∙ same_medium m (take n c.put.new.bytes.items) (patch (spread m.bytes end 0) start piece)
    (patch (flags_around base w n) start (replicate (end - start) true))
    (patch (spread m.written end false) start (replicate (length piece) true))
    (old.grown + c.saturating_sub.result) (m.grown + (end - length m.bytes)) bytes written grown
    ∙ ap (λ (x : Medium). stored x start piece) c.self.view_is
