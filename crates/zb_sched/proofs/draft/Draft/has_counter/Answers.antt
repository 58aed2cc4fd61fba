use Rattle.std.proofs.Common.{◌&&◌}
use Rattle.zb_sched.proofs.DraftLemmas.{any_seats}
use Rattle.zb_sched.specs.Judge.{has_name, is_declared}
use Rattle.zb_sched.proofs.draft.Draft.has_counter.Goals as goal

pub returns : goal.returns
returns c = let asked = any_seats (λ s. has_name c.args.name.now.bytes s && is_declared c.args.layer s)
    c.self.inside.entries.items in cc
