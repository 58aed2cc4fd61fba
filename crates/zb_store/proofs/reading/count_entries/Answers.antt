use Rattle.std.proofs.Common.{◌≡◌, ◌+◌, ◌-◌, List, [], ◌∷◌, ◌++◌, ℕ, suc, Some, None, length, drop, refl, sym, ◌∙◌, ap, subst, arith, length-append}
use Rattle.zb_disk.proofs.Moments.{still_refl, still_trans}
use Rattle.zb_store.specs.Layout.{payloads_of, extent, entry_of}
use Rattle.zb_store.specs.Reading.{IsBehind}
use Rattle.zb_store.proofs.Entries.{extent-append}
use Rattle.zb_store.proofs.Finding.{none_of, payloads_more, payloads_end, size_none, size_some, behind_more}
use Rattle.zb_store.proofs.reading.count_entries.Goals as goal

pub loop-count-init : goal.loop-count-init
loop-count-init g c = record {
  still = still_refl (g.D.Disk.state c.args.disk.now);
  later = omega arith;
  unrisen = refl;
  short = omega arith;
  entries = λ told b is. (ap length (none_of b), ap extent (sym (none_of b)));
}

pub returns-in-Ok-None-clause-entries : goal.returns-in-Ok-None-clause-entries
returns-in-Ok-None-clause-entries g c told b is =
    let inv = c.loop-count.invariant in
    let n = c.loop-count.count in
    let taken = c.loop-count.taken in
    let so_far = inv.entries told b is in
    let seen = inv.still.same.seen in
    let room = c.saturating_sub.ensures in
    let front =
    subst (λ (r : ℕ). IsBehind (drop taken b) (c.args.start + taken) r 3 (g.D.Disk.state c.loop-count.disk).seen)
    (sym room)
    (subst (λ (l : List ℕ). IsBehind (drop taken b) (c.args.start + taken) (c.args.room - taken) 3 l) (sym seen)
    (behind_more b c.args.start c.args.room taken (g.D.Disk.state c.args.disk.now).seen is
    (omega (arith, inv.short, c.loop-count-test.true)))) in
    let entry = rw c.in-Ok-None.field-0-is at c.in-Ok-None.ensures in
    let none : entry_of (drop taken b) ≡ None = size_none (drop taken b) (sym (entry.entry told (drop taken b) front))
    in
    let there : entry_of (drop (extent (payloads_of n b)) b) ≡ None =
    ap (λ (k : ℕ). entry_of (drop k b)) (sym so_far.1) ∙ none in
    let all = payloads_end n 32 b (omega arith) so_far.0 there in
    (sym so_far.0 ∙ ap length (sym all), so_far.1 ∙ ap extent (sym all))

pub loop-count-preserved : goal.loop-count-preserved
loop-count-preserved g c =
    let inv = c.loop-count.invariant in
    let n = c.loop-count.count in
    let taken = c.loop-count.taken in
    let size = c.in-Ok-Some.size in
    let entry = rw c.in-Ok-Some.field-0-is at c.in-Ok-Some.ensures in
    record {
      still = still_trans (g.D.Disk.state c.args.disk.now) (g.D.Disk.state c.loop-count.disk)
          (g.D.Disk.state c.entry_size.new.disk) inv.still c.entry_size.ensures.read.still;
      later = omega (arith, inv.later, c.entry_size.ensures.read.cause.later);
      unrisen = entry.read.cause.unrisen ∙ inv.unrisen;
      short = omega (arith, inv.short, entry.small, c.from.ensures);
      entries = λ told b is.
          let so_far = inv.entries told b is in
          let front =
          subst (λ (r : ℕ). IsBehind (drop taken b) (c.args.start + taken) r 3
          (g.D.Disk.state c.loop-count.disk).seen) (sym c.saturating_sub.ensures)
          (subst (λ (l : List ℕ). IsBehind (drop taken b) (c.args.start + taken) (c.args.room - taken) 3 l)
          (sym inv.still.same.seen)
          (behind_more b c.args.start c.args.room taken (g.D.Disk.state c.args.disk.now).seen is
          (omega (arith, inv.short, c.loop-count-test.true)))) in
          let found = size_some (drop taken b) size (sym (entry.entry told (drop taken b) front)) in
          let there : entry_of (drop (extent (payloads_of n b)) b) ≡ Some found.0 =
          ap (λ (k : ℕ). entry_of (drop k b)) (sym so_far.1) ∙ found.1 in
          let next : n + 1 ≡ suc n = omega arith in
          let more : payloads_of (n + 1) b ≡ payloads_of n b ++ found.0
          ∷ [] = ap (λ (k : ℕ). payloads_of k b) next ∙ payloads_more n b found.0 so_far.0 there in (
            omega (arith, ap length more, length-append (payloads_of n b) (found.0 ∷ []), so_far.0),
            omega (arith, ap extent more, extent-append (payloads_of n b) found.0, so_far.1, found.2, c.from.ensures),
          );
    }
