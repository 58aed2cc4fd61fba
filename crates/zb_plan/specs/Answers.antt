-- A plan of the program is the policy's answer: five equations and a place.
use Rattle.std.specs.Prelude.{◌≡◌, ℕ, ◌∷◌, [], ◌++◌, List, Option, Some, None, option_map, option_to_list, ⊤}
use Rattle.arrayvec.specs.ArrayVec.{ArrayVec}
use Rattle.zb_host.specs.declared.outcome.Outcome.{Outcome}
use Rattle.zb_host.specs.declared.plan.Plan.{Plan}
use Rattle.zb_model.specs.Answer.{Answer, answer_by, counting_of}
use Rattle.zb_model.specs.Data as model
use Rattle.zb_model.specs.Rules as rules
use Rattle.zb_model.specs.State.{NodeState}
use Rattle.zb_model.specs.Tools.{Tools}
use Rattle.zb_model_real.specs.Terms.{model_term}
use Rattle.zb_node_types.specs.Changes.{edits, model_place, place_of, reason}
use Rattle.zb_node_types.specs.declared.refusal.Refusal.{Refusal}
use Rattle.zb_seal.specs.declared.term.Term.{Term}

-- the terms of two layers, in this order
abbrev pub terms : Option Term → Option Term → List model.Term
terms first None = option_to_list (option_map model_term first)
terms first (Some second) = option_to_list (option_map model_term first) ++ model_term second ∷ []

-- a refusal, if there is one, stands at the place
abbrev pub IsAt : model.Place → Option Refusal → Type 0
IsAt place None = ⊤
IsAt place (Some refusal) = model_place (place_of refusal) ≡ place

-- The changes are the answer's; so are the accepted terms (NWK, then APS), the refusal and its place, the sealed terms
-- (APS, then NWK) and the frame.
pub record IsAnswer (p : Plan (Outcome Term Refusal)) (a : Answer) : Type 0 where
  pub changes : edits p.changes.items ≡ a.edits
  pub accepts : terms p.out.accepted_nwk p.out.accepted_aps ≡ a.accepts
  pub refusal : option_map reason p.out.refused ≡ a.refusal
  pub place : IsAt a.place p.out.refused
  pub seals : terms p.out.sealed_aps p.out.sealed_nwk ≡ a.seals
  pub frame : option_map (λ (f : ArrayVec ℕ). f.items) p.out.frame ≡ a.frame

-- the answer of a plan of the model, with the counters that the node takes
abbrev pub answer_to : Tools → rules.Setting → NodeState → rules.Plan → Answer
answer_to tools c s p = answer_by tools c s (counting_of c s p) p
