use Rattle.zb_script.proofs.Kept.{finished}
use Rattle.zb_script.proofs.draft.Draft.finish.Goals as goal

pub returns-clause-valid : goal.returns-clause-valid
returns-clause-valid c = λ has.
    let i = c.self.inside in
    finished i.config i.steps.items c.from_vec.result c.args.self c.from_vec.ensures c.self.view_is c.self.invariant.1
    c.self.invariant.0 has
