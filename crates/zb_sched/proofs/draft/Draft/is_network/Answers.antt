use Rattle.zb_sched.proofs.DraftLemmas.{any_seats}
use Rattle.zb_sched.specs.Judge.{is_key, network_of}
use Rattle.zb_sched.proofs.draft.Draft.is_network.Goals as goal

pub returns : goal.returns
returns c = let asked = any_seats (λ s. is_key c.args.key.now.0 (network_of s.node)) c.self.inside.entries.items in cc
