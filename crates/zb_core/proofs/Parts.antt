-- A plan that is the policy's answer can be carried out step by step: accepted counters are below the greatest, and
-- seals have the next counters.
use Rattle.std.proofs.Common.{◌≡◌, ◌<◌, List, ◌++◌, Option, Some, None, refl, sym, ap, ◌∙◌, subst, append-nil}
use Rattle.std.specs.List.{AllByRecursion}
use Rattle.zb_core.specs.Carrying.{IsBelowLast, after_aps, after_heard, after_plan, one}
use Rattle.zb_core.specs.CorePlans.{CanBeCarriedOut, CorePlan, IsCoreAfter, accepts, seals}
use Rattle.zb_core.proofs.Opening.{real_opens}
use Rattle.zb_keys.specs.Reading as keys
use Rattle.zb_model.specs.Answer.{accepted_all, answer, sealed_all}
use Rattle.zb_model.specs.Data as model
use Rattle.zb_model.specs.Data.{Bytes, Edit, Layer, Nwk, Aps}
use Rattle.zb_model.specs.State.{NodeState, applied_all, greatest_counter, shown}
use Rattle.zb_model_real.specs.Real.{real}
use Rattle.zb_model_real.specs.Terms.{model_term}
use Rattle.law_answer_seals.specs.Sealing.{SealsNext, next_under}
use Rattle.law_answer_seals.proofs.Heard.{answer_below_last}
use Rattle.law_answer_seals.proofs.InParts.{accepted_parts, next_parts, sealed_parts}
use Rattle.law_answer_seals.proofs.Next.{answer_next}
use Rattle.zb_node_types.specs.Changes.{edits, model_layer}
use Rattle.zb_plan.specs.Answers.{terms}
use Rattle.zb_seal.specs.declared.term.Term.{Term}
use Rattle.zb_stored_tables.specs.Cores.{CoreValue, tables_after}

-- The terms of two layers are those of one, and then those of the other.
pub two_parts : (first second : Option Term) → terms first second ≡ one first ++ one second
two_parts first None = sym (append-nil (one first))
two_parts first (Some t) = refl

-- ---- What is accepted

abbrev Below : model.Term → Type 0
Below t = t.counter < greatest_counter

below_parts : (first second : Option Term) → AllByRecursion Below (terms first second) → IsBelowLast first
    × IsBelowLast second
below_parts None None all = (tt, tt)
below_parts None (Some t) all = (tt, all.0)
below_parts (Some t) None all = (all.0, tt)
below_parts (Some t) (Some u) all = (all.0, all.1.0)

pub heard_below : (c : CoreValue) (p : CorePlan) → CanBeCarriedOut c p → IsBelowLast p.out.accepted_nwk
    × IsBelowLast p.out.accepted_aps
heard_below c p can = below_parts p.out.accepted_nwk p.out.accepted_aps
    (subst (AllByRecursion Below) (sym can.answer_is.accepts)
    (answer_below_last real real_opens c.setting c.tables can.task))

-- ---- What is sealed

same_next : (layer : Layer) (key : Bytes) (s : NodeState) → keys.next_under layer key s ≡ next_under layer key s
same_next Nwk key s = refl
same_next Aps key s = refl

pub counted_next : (t : Term) (s : NodeState) → SealsNext s (one (Some t))
    → keys.IsNext (model_layer t.layer) t.base.0 s (model_term t)
counted_next t s next = record {
  layer_is = refl;
  base_is = refl;
  counter_is = same_next (model_layer t.layer) t.base.0 s ∙ next.0.counter_is;
  below_last = next.0.below_last;
}

heard_parts : (p : CorePlan) (s : NodeState) → accepted_all (accepts p) s
    ≡ accepted_all (one p.out.accepted_aps) (accepted_all (one p.out.accepted_nwk) s)
heard_parts p s = ap (λ (ts : List model.Term). accepted_all ts s) (two_parts p.out.accepted_nwk p.out.accepted_aps) ∙
    accepted_parts (one p.out.accepted_nwk) (one p.out.accepted_aps) s

-- The state in which a plan's seals are made.
abbrev before : CorePlan → NodeState → NodeState
before p s = accepted_all (accepts p) (shown (applied_all (edits p.changes.items) s))

before_is : (p : CorePlan) (s : NodeState) → before p s ≡ after_heard p s
before_is p s = heard_parts p (shown (applied_all (edits p.changes.items) s))

sealed_next : (c : CoreValue) (p : CorePlan) → CanBeCarriedOut c p → SealsNext (before p c.tables) (seals p)
sealed_next c p can =
    let s = c.tables in
    let is = can.answer_is in
    let a = answer real c.setting s can.task in
    subst (λ (ts : List model.Term). SealsNext (before p s) ts) (sym is.seals)
    (subst (λ (ts : List model.Term). SealsNext (accepted_all ts (shown (applied_all (edits p.changes.items) s)))
    a.seals) (sym is.accepts)
    (subst (λ (es : List Edit). SealsNext (accepted_all a.accepts (shown (applied_all es s))) a.seals)
    (sym is.changes) (answer_next real c.setting s can.task)))

pub sealed_in_parts : (c : CoreValue) (p : CorePlan) → CanBeCarriedOut c p
    → SealsNext (after_heard p c.tables) (one p.out.sealed_aps)
    × SealsNext (after_aps p c.tables) (one p.out.sealed_nwk)
sealed_in_parts c p can =
    next_parts (one p.out.sealed_aps) (one p.out.sealed_nwk) (after_heard p c.tables)
    (subst (λ (ts : List model.Term). SealsNext (after_heard p c.tables) ts)
    (two_parts p.out.sealed_aps p.out.sealed_nwk)
    (subst (λ (s : NodeState). SealsNext s (seals p)) (before_is p c.tables) (sealed_next c p can)))

-- ---- The tables after a plan

pub after_is : (p : CorePlan) (s : NodeState) → after_plan p s ≡ tables_after p.changes.items (accepts p) (seals p) s
after_is p s =
    sym (ap (λ (ts : List model.Term). sealed_all ts (before p s)) (two_parts p.out.sealed_aps p.out.sealed_nwk)
    ∙ sealed_parts (one p.out.sealed_aps) (one p.out.sealed_nwk) (before p s)
    ∙ ap (λ (x : NodeState). sealed_all (one p.out.sealed_nwk) (sealed_all (one p.out.sealed_aps) x)) (before_is p s))

abbrev with_tables : CoreValue → NodeState → CoreValue
with_tables c s = record { setting = c.setting; tables = s }

-- The core after a plan was carried out over its tables.
pub carried : (c v : CoreValue) (p : CorePlan) (tables : NodeState) → v ≡ c → tables ≡ after_plan p v.tables
    → IsCoreAfter c p (with_tables v tables)
carried c v p tables view is =
    ap (with_tables v) (is ∙ after_is p v.tables) ∙ ap
    (λ (x : CoreValue). with_tables x (tables_after p.changes.items (accepts p) (seals p) x.tables)) view
