use Rattle.std.proofs.Common.{◌∙◌, ap}
use Rattle.zb_model.specs.State.{NodeState}
use Rattle.zb_centre_store.proofs.StoreLemmas.{first_role}
use Rattle.zb_centre_store.proofs.store.init.Goals as goal

pub lay_out-requires-clause-centre : goal.lay_out-requires-clause-centre
lay_out-requires-clause-centre g c =
    ap (λ (s : NodeState). s.role) (c.in-Ok.ensures.state ∙ c.first_declaration.ensures.is) ∙ first_role c.args.key.0
