use Rattle.std.proofs.Common.{◌&&◌}
use Rattle.std.specs.Prelude.{is_some}
use Rattle.zb_sched.proofs.DraftLemmas.{any_seats}
use Rattle.zb_sched.specs.Judge.{has_name}
use Rattle.zb_sched.proofs.draft.Draft.has_network.Goals as goal

pub returns : goal.returns
returns c = let asked = any_seats (λ s. has_name c.args.name.now.bytes s && is_some s.node.network)
    c.self.inside.entries.items in cc
