-- The steps of a plan: its changes, what it accepted at NWK and at APS, what it sealed at APS and at NWK.
use Rattle.std.specs.Prelude.{◌<◌, List, Option, Some, None, option_map, option_to_list, ⊤}
use Rattle.zb_core.specs.CorePlans.{CorePlan}
use Rattle.zb_model.specs.Answer.{accepted_all, sealed_all}
use Rattle.zb_model.specs.Data as model
use Rattle.zb_model.specs.State.{NodeState, applied_all, greatest_counter, shown}
use Rattle.zb_model_real.specs.Terms.{model_term}
use Rattle.zb_node_types.specs.Changes.{edits}
use Rattle.zb_seal.specs.declared.term.Term.{Term}

-- A term of one layer, if there is one.
abbrev pub one : Option Term → List model.Term
one o = option_to_list (option_map model_term o)

-- The counter of the term isn't the greatest.
abbrev pub IsBelowLast : Option Term → Type 0
IsBelowLast None = ⊤
IsBelowLast (Some t) = t.counter < greatest_counter

-- The state after the changes and the accepted terms.
abbrev pub after_heard : CorePlan → NodeState → NodeState
after_heard p s =
    accepted_all (one p.out.accepted_aps)
    (accepted_all (one p.out.accepted_nwk) (shown (applied_all (edits p.changes.items) s)))

-- And after the seal of APS.
abbrev pub after_aps : CorePlan → NodeState → NodeState
after_aps p s = sealed_all (one p.out.sealed_aps) (after_heard p s)

-- And after the seal of NWK.
abbrev pub after_plan : CorePlan → NodeState → NodeState
after_plan p s = sealed_all (one p.out.sealed_nwk) (after_aps p s)
