use Rattle.zb_sched.proofs.DraftLemmas.{other_link_seats}
use Rattle.zb_sched.proofs.draft.Draft.is_link_of_other.Goals as goal

pub returns : goal.returns
returns c = let asked = other_link_seats c.args.key.now.0 c.args.name.now.bytes c.self.inside.entries.items
    c.self.invariant.0 in cc
