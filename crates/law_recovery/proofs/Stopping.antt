-- A stop leaves a node as it was before its event, or with the changes of its answer; a boot leaves bare rows.
use Rattle.std.proofs.Common.{◌≡◌, List, sym, ap, ◌∙◌}
use Rattle.zb_model.specs.Answer.{Answer, accepted_all, answer, answered}
use Rattle.zb_model.specs.Data.{Task}
use Rattle.zb_model.specs.Rules.{Setting}
use Rattle.zb_model.specs.State.{NetKey, LinkKey, NodeState, after_boot, applied_all, booted_net, booted_link}
use Rattle.zb_model.specs.Tools.{Tools}
use Rattle.law_recovery.proofs.Baring.{bare, bare_net, bare_link, by_accepts, by_seals}
use Rattle.law_recovery.specs.Entering.{IsSpared}
use Rattle.law_recovery.proofs.Refusing.{spared_by}
use Rattle.law_recovery.specs.Answering.{after_task}
use Rattle.law_recovery.proofs.Once.{map_map}

pub booted_bare : (s : NodeState) → bare (after_boot s) ≡ bare s
unfolding bare after_boot
booted_bare s =
    ap (λ (n : List NetKey). record (bare (after_boot s)) { nets = n }) (map_map bare_net booted_net s.nets)
    ∙ ap (λ (l : List LinkKey). record (bare s) { links = l }) (map_map bare_link booted_link s.links)

-- what is accepted and sealed doesn't show
pub stored_bare : (a : Answer) (s : NodeState) → bare (applied_all a.edits s) ≡ bare (answered a s)
unfolding answered
stored_bare a s =
    sym (by_seals a.seals (accepted_all a.accepts (applied_all a.edits s))
    ∙ by_accepts a.accepts (applied_all a.edits s))

pub before_stop : (s : NodeState) → IsSpared s (after_boot s)
before_stop s = spared_by s (after_boot s) (booted_bare s)

pub after_stop : (tools : Tools) (c : Setting) (s : NodeState) (task : Task)
    → IsSpared (after_task tools c s task) (after_boot (applied_all (answer tools c s task).edits s))
unfolding after_task
after_stop tools c s task =
    let a = answer tools c s task in
    spared_by (answered a s) (after_boot (applied_all a.edits s))
    (booted_bare (applied_all a.edits s) ∙ stored_bare a s)
