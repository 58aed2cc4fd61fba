use Rattle.std.proofs.Common.{refl}
use Rattle.zb_script.proofs.Kept.{finished}
use Rattle.zb_script.proofs.draft.Draft.config.Goals as goal

pub returns-clause-config : goal.returns-clause-config
returns-clause-config c = λ has.
    let i = c.self.inside in
    (finished i.config i.steps.items i.steps.items c.args.self.now refl c.self.view_is c.self.invariant.1
    c.self.invariant.0 has).config

pub returns-clause-centre : goal.returns-clause-centre
returns-clause-centre c = λ has.
    let i = c.self.inside in
    (finished i.config i.steps.items i.steps.items c.args.self.now refl c.self.view_is c.self.invariant.1
    c.self.invariant.0 has).centre
