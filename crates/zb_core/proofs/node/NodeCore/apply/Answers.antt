use Rattle.std.proofs.Common.{sym, subst}
use Rattle.zb_core.specs.CorePlans.{CanBeCarriedOut}
use Rattle.zb_core.proofs.Parts.{carried, heard_below, sealed_in_parts}
use Rattle.zb_stored_tables.specs.Cores.{CoreValue}
use Rattle.zb_core.proofs.node.NodeCore.apply.Goals as goal

pub carry_out-requires-clause-fit : goal.carry_out-requires-clause-fit
carry_out-requires-clause-fit c =
    (subst (λ (x : CoreValue). CanBeCarriedOut x c.args.plan.now) (sym c.self.view_is) c.requires).storable.fit

pub carry_out-requires-clause-range : goal.carry_out-requires-clause-range
carry_out-requires-clause-range c = c.requires.storable.range

pub carry_out-requires-clause-nwk : goal.carry_out-requires-clause-nwk
carry_out-requires-clause-nwk c = (heard_below c.args.self.now c.args.plan.now c.requires).0

pub carry_out-requires-clause-aps : goal.carry_out-requires-clause-aps
carry_out-requires-clause-aps c = (heard_below c.args.self.now c.args.plan.now c.requires).1

pub carry_out-requires-clause-first : goal.carry_out-requires-clause-first
carry_out-requires-clause-first c =
    (sealed_in_parts _ c.args.plan.now
    (subst (λ (x : CoreValue). CanBeCarriedOut x c.args.plan.now) (sym c.self.view_is) c.requires)).0

pub carry_out-requires-clause-second : goal.carry_out-requires-clause-second
carry_out-requires-clause-second c =
    (sealed_in_parts _ c.args.plan.now
    (subst (λ (x : CoreValue). CanBeCarriedOut x c.args.plan.now) (sym c.self.view_is) c.requires)).1

pub returns : goal.returns
returns c = carried c.args.self.now _ c.args.plan.now _ c.self.view_is c.carry_out.ensures.made
