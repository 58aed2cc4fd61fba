use Rattle.zb_centre_store.proofs.StoreLemmas.{judged_then, judged_unread}
use Rattle.zb_centre_store.proofs.store.judge.Goals as goal

pub returns-in-Ok-clause-judged : goal.returns-in-Ok-clause-judged
returns-in-Ok-clause-judged g c =
    judged_then g.D.Disk.tells _ (g.D.Disk.state c.args.disk.now) (g.D.Disk.state c.size.new.self)
    (g.D.Disk.state c.judge_sized.new.disk) c.judge_sized.result c.in-Ok.ensures.read.cause.unrisen
    c.in-Ok.ensures.read.still c.judge_sized.ensures.judged

pub returns-in-Err-clause-judged : goal.returns-in-Err-clause-judged
returns-in-Err-clause-judged g c =
    judged_unread g.D.Disk.tells _ (g.D.Disk.state c.args.disk.now) (g.D.Disk.state c.size.new.self)
    (g.met.D.Disk.only_now c.args.disk.now) c.in-Err.ensures.read.still c.in-Err.ensures.read.cause.failed
