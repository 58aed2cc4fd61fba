use Rattle.std.proofs.Common.{◌≡◌, ◌∙◌, length, take, drop, vec_len, ap, sym}
use Rattle.std.proofs.lemmas.List.{length-map}
use Rattle.zb_inspect_frame.specs.declared.shown.Shown.{Shown}
use Rattle.zb_inspect.specs.Rings.{frames_shown}
use Rattle.zb_inspect.proofs.BlockLaws.{unopened_frames}
use Rattle.zb_inspect.proofs.RunLaws.{part_count}
use Rattle.zb_inspect.proofs.block.show_unopened.Goals as goal

pub show_again-requires-clause-before : goal.show_again-requires-clause-before
show_again-requires-clause-before c =
    let own = take c.args.count (drop c.args.from c.args.frames.now) in
    let first = take c.args.known c.args.keys.now in
    let seen = c.in_ok-before.before in
    let count : vec_len seen ≡ c.args.count =
    seen.ok.0 ∙ ap (length {A = Shown}) c.in_ok-before.ensures ∙ length-map own _ ∙ part_count c.args.frames.now
    c.args.from c.args.count c.requires.within in
    c.in_ok-before.ensures ∙ unopened_frames c.args.addrs.now first own c.requires.before
    ∙ ap (λ n. frames_shown c.args.addrs.now first (take n (drop c.args.from c.args.frames.now))) (sym count)
