use Rattle.zb_sched.proofs.DraftLemmas.{link_seats}
use Rattle.zb_sched.proofs.draft.Draft.is_link.Goals as goal

pub returns : goal.returns
returns c = let asked = link_seats c.args.key.now.0 c.self.inside.entries.items c.self.invariant.0 in cc
