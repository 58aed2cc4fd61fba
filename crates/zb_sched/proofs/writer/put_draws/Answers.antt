use Rattle.std.proofs.Common.{◌+◌, take, map}
use Rattle.zb_base.specs.declared.key.Key.{Key}
use Rattle.zb_text.specs.Pages.{page}
use Rattle.zb_sched.specs.Printed.{draw_line}
use Rattle.zb_sched.proofs.PageLemmas.{map_more, so_far}
use Rattle.zb_sched.proofs.writer.put_draws.Goals as goal

pub loop-key-preserved : goal.loop-key-preserved
loop-key-preserved c =
    so_far c.args.out.now.items c.loop-key.out.items c.put_draw.new.out.items
    (page (map (λ (x : Key). draw_line x.0) (take c.loop-key.key-index c.args.draws.now))) _
    (page (map (λ (x : Key). draw_line x.0) (take (c.loop-key.key-index + 1) c.args.draws.now))) c.loop-key.invariant
    c.in_ok-put_draw.ensures
    (map_more (λ (x : Key). draw_line x.0) c.args.draws.now c.loop-key.key-index _ c.loop-key-test.true)
