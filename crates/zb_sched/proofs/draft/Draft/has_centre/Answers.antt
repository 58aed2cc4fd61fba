use Rattle.zb_sched.proofs.DraftLemmas.{any_seats}
use Rattle.zb_sched.specs.Reading.{is_centre}
use Rattle.zb_sched.proofs.draft.Draft.has_centre.Goals as goal

pub returns : goal.returns
returns c = let asked = any_seats (λ s. is_centre s.node.role) c.self.inside.entries.items in cc
