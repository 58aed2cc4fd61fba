use Rattle.std.proofs.Common.{◌≡◌, ◌++◌, take, map}
use Rattle.zb_base.specs.declared.key.Key.{Key}
use Rattle.zb_text.specs.Pages.{page}
use Rattle.zb_sched.specs.Printed.{draw_line}
use Rattle.zb_sched.proofs.writer.put_draws.Given as goal

abbrev pub invariant-loop-key : goal.invariant-loop-key
invariant-loop-key l = l.out.items ≡ l.initial.out.items
    ++ page (map (λ (x : Key). draw_line x.0) (take l.key-index l.draws))
