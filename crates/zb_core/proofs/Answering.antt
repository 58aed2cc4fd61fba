-- The answer to an event of a node's own is that of its rule, at each role.
use Rattle.std.proofs.Common.{◌≡◌, ℕ, Bool, true, false, refl}
use Rattle.std.specs.Prelude.{if◌then◌else◌}
use Rattle.zb_core.specs.CorePlans.{CorePlan}
use Rattle.zb_event.specs.Events.{IsOwn, NodeEvent, task_of}
use Rattle.zb_event.specs.declared.event.Event.TheVariants.{Say, Tell, Ask, Knock, Rejoin, Timer, Child, Provision, Remove, Roll, Switch, Again, Share, Deliver}
use Rattle.zb_model.specs.Answer.{answer, plan_of}
use Rattle.zb_model.specs.Data.{Bytes, Task, SayTo}
use Rattle.zb_model.specs.OwnEvents.{own, own_at_centre, own_at_member, say}
use Rattle.zb_model.specs.Rules.{Outcome, Setting}
use Rattle.zb_model.specs.State.{NodeState, is_centre}
use Rattle.zb_model_real.specs.Real.{real}
use Rattle.zb_plan.specs.Answers.{IsAnswer, answer_to}
use Rattle.zb_plan.specs.Storing.{own_plan}

own_plan_is : (c : Setting) (s : NodeState) (e : NodeEvent) → IsOwn e → plan_of real c s (task_of e)
    ≡ own_plan (own real c s (task_of e))
unfolding plan_of
own_plan_is c s (Say to bytes) other = refl
own_plan_is c s (Tell partner bytes) other = refl
own_plan_is c s (Ask partner) other = refl
own_plan_is c s Knock other = refl
own_plan_is c s Rejoin other = refl
own_plan_is c s Timer other = refl
own_plan_is c s (Child device rejoin) other = refl
own_plan_is c s (Provision device key) other = refl
own_plan_is c s (Remove device via) other = refl
own_plan_is c s (Roll draw) other = refl
own_plan_is c s Switch other = refl
own_plan_is c s (Again device) other = refl
own_plan_is c s (Share device partner) other = refl
own_plan_is c s (Deliver bytes draw) other = absurd (other bytes draw refl)

centre_own : (c : Setting) (s : NodeState) (task : Task) → is_centre c.me.role ≡ true → own real c s task
    ≡ own_at_centre c s task
unfolding own
centre_own c s task centre = rw centre refl

member_own : (c : Setting) (s : NodeState) (task : Task) → is_centre c.me.role ≡ false → own real c s task
    ≡ own_at_member real c s task
unfolding own
member_own c s task member = rw member refl

-- what is planned by the rule of an event's task is the answer to it, at the centre
pub centre_answer : (c : Setting) (s : NodeState) (e : NodeEvent) (p : CorePlan) → is_centre c.me.role ≡ true
    → IsOwn e → IsAnswer p (answer_to real c s (own_plan (own_at_centre c s (task_of e))))
    → IsAnswer p (answer real c s (task_of e))
unfolding answer
centre_answer c s e p centre other a = rw (own_plan_is c s e other, centre_own c s (task_of e) centre) a

-- and at a router or device
pub member_answer : (c : Setting) (s : NodeState) (e : NodeEvent) (p : CorePlan) → is_centre c.me.role ≡ false
    → IsOwn e → IsAnswer p (answer_to real c s (own_plan (own_at_member real c s (task_of e))))
    → IsAnswer p (answer real c s (task_of e))
unfolding answer
member_answer c s e p member other a = rw (own_plan_is c s e other, member_own c s (task_of e) member) a

say_at : (centre : Bool) (o : Outcome) → (if centre then o else o) ≡ o
say_at true o = refl
say_at false o = refl

-- what is planned by the rule of what a node says is the answer to it, at each role
pub say_answer : (c : Setting) (s : NodeState) (to : ℕ) (bytes : Bytes) (p : CorePlan)
    → IsAnswer p (answer_to real c s (own_plan (say s to bytes))) → IsAnswer p (answer real c s (SayTo to bytes))
unfolding answer plan_of own
say_answer c s to bytes p a = rw (say_at (is_centre c.me.role) (say s to bytes)) a
