use Rattle.zb_sched.proofs.NameLemmas.{found_at}
use Rattle.zb_sched.proofs.entry.role_near.Goals as goal

pub returns-in-Some : goal.returns-in-Some
returns-in-Some c =
    found_at c.args.name.now.bytes c.args.entries.now c.args.guess c.in-Some.entry.now c.in-Some.ensures.lookup.0
    c.in-Some.ensures.lookup.1 c.if-eq.ensures
