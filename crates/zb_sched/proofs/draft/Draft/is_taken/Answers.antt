use Rattle.zb_sched.proofs.DraftLemmas.{any_seats}
use Rattle.zb_sched.specs.Judge.{is_taken}
use Rattle.zb_sched.proofs.draft.Draft.is_taken.Goals as goal

pub returns : goal.returns
returns c = let asked =
    any_seats (λ s. is_taken c.args.peer.now.name.bytes c.args.peer.now.eui.0 c.args.peer.now.short.0 s)
    c.self.inside.entries.items in cc
