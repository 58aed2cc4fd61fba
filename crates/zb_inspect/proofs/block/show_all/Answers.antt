use Rattle.std.proofs.Common.{◌≡◌, ◌+◌, ◌∙◌, ◌≤◌, ℕ, List, length, take, drop, map, vec_len, ap, sym, arith, length-append, length-take}
use Rattle.std.proofs.lemmas.List.{length-map}
use Rattle.arrayvec.specs.ArrayVec.{ArrayVec}
use Rattle.zb_inspect_frame.specs.Shows.{frame_shown}
use Rattle.zb_inspect_frame.specs.declared.shown.Shown.{Shown}
use Rattle.zb_inspect.proofs.RunLaws.{more_mapped}
use Rattle.zb_inspect.proofs.block.show_all.Goals as goal

pub loop-seen-preserved : goal.loop-seen-preserved
loop-seen-preserved c =
    let f : ArrayVec ℕ → Shown = λ frame. frame_shown c.args.addrs.now c.args.keys.now frame.items in
    let run = c.from-run.result in
    let old = c.loop-seen.seen in
    let new = c.show_run.new.seen in
    let n = c.min.result in
    let few : n ≤ length run = omega (arith, c.min.ensures) in
    let added = c.in_ok-show_run.ensures in
    let done = c.len-done.result in
    let upto : ℕ → List Shown = λ k. map f (take k (drop c.args.from c.args.frames.now)) in
    let count : vec_len new ≡ done + n =
    omega (
      arith,
      new.ok.0,
      old.ok.0,
      few,
      c.len-done.ensures,
      ap (length {A = Shown}) added,
      length-append old.items (map f (take n run)),
      length-map (take n run) f,
      length-take n run,
    ) in
    record {
      seen = more_mapped f c.args.frames.now run old.items new.items c.args.from done n few c.from-run.ensures.part
          (c.loop-seen.invariant.seen ∙ ap upto (sym c.len-done.ensures)) added ∙ ap upto (sym count);
      within = omega (arith, count, c.min.ensures, c.len-done.ensures, c.loop-seen-test.true, c.len.ensures);
    }
