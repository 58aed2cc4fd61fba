-- What the centre sealed so far was used, deed after deed.
use Rattle.std.proofs.Common.{ℕ, List, [], ◌∷◌, ◌++◌, Option, Some, None, Ok, Err, sym, subst, append_assoc, append-nil}
use Rattle.std.specs.List.{AllByRecursion}
use Rattle.law_sessions.specs.Deeds.{AreDeeds, Deed, IsLeft, Lived, Ran, all_seals, deed_seals, last_left, left}
use Rattle.law_sessions.specs.Runs.{order_seals, run_seals, step_seals, steps_seal}
use Rattle.law_sessions.specs.Sessions.{NoneTwice, lines_seal}
use Rattle.law_sessions.proofs.OnDisk.{left_found}
use Rattle.law_sessions.proofs.RuledSessions.{session_kept}
use Rattle.law_sessions.proofs.RunLemmas.{run_used}
use Rattle.law_sessions.proofs.SessionLemmas.{found_used, none_found, session_used}
use Rattle.law_sessions.proofs.Stamps.{HasForm, all_append, answer_has_form, lines_form, stamps_apart}
use Rattle.law_sessions.proofs.Used.{IsFoundUsed}
use Rattle.zb_admin.specs.Served.{done}
use Rattle.zb_centre_store.specs.Standing.{found_on}
use Rattle.zb_install.specs.Code.{code_key}
use Rattle.zb_live.specs.Living.{Found, fresh, served}
use Rattle.zb_model.specs.Claims.{AreApart}
use Rattle.zb_model.specs.Data.{DoProvision, DoRemove, Term}
use Rattle.zb_model.specs.Rules.{Setting}
use Rattle.zb_model.specs.State.{NodeState}
use Rattle.zb_model_real.specs.Real.{real}
use Rattle.zb_script.specs.declared.script.Order.{Order}
use Rattle.zb_script.specs.declared.script.Order.TheVariants.{Init, Provision, Remove, List as Lists, Backup, Restore}
use Rattle.zb_script.specs.declared.script.Step.{Step}

deed_used : (image : List ℕ) (deed : Deed) (used : List Term) → IsLeft deed (found_on image)
    → IsFoundUsed used (found_on image) → IsFoundUsed (used ++ deed_seals deed (found_on image)) (found_on (left deed))
deed_used image (Lived x) used is before =
    subst (IsFoundUsed (used ++ lines_seal (found_on image) x.lines fresh))
    (sym
    (left_found (found_on image) (served (found_on image) x.lines fresh).after.tables x.left
    (session_kept image x.lines) is))
    (session_used (found_on image) x.lines used before)
deed_used image (Ran r) used (script, is) before = run_used r (found_on image) used script is before

pub deeds_used : (image : List ℕ) (deeds : List Deed) (used : List Term) → AreDeeds image deeds
    → IsFoundUsed used (found_on image) → IsFoundUsed (used ++ all_seals image deeds) (found_on (last_left image
    deeds))
deeds_used image [] used are before = subst (λ ts. IsFoundUsed ts (found_on image)) (sym (append-nil used)) before
deeds_used image (deed ∷ more) used (is, are) before =
    subst (λ ts. IsFoundUsed ts (found_on (last_left (left deed) more)))
    (append_assoc used (deed_seals deed (found_on image)) (all_seals (left deed) more))
    (deeds_used (left deed) more (used ++ deed_seals deed (found_on image)) are
    (deed_used image deed used is before))

pub deeds_apart : (image : List ℕ) (deeds : List Deed) → AreDeeds image deeds → NoneTwice (all_seals image deeds)
deeds_apart image deeds are =
    none_found (all_seals image deeds) (found_on (last_left image deeds))
    (deeds_used image deeds [] are (found_used image))

-- ---- nonces

order_form : (c : Setting) (order : Order) (s : NodeState) → AllByRecursion HasForm (order_seals c order s)
order_form c (Init key) s = tt
order_form c (Provision device code) s = answer_has_form real c s (DoProvision device.0 (code_key code))
order_form c (Remove device via) s = answer_has_form real c s (DoRemove device.0 via.0)
order_form c Lists s = tt
order_form c Backup s = tt
order_form c (Restore by bytes) s = tt

step_form : (c : Setting) (step : Step) (standing : Option NodeState)
    → AllByRecursion HasForm (step_seals c step standing)
step_form c step None = tt
step_form c step (Some s) = order_form c step.order s

steps_form : (c : Setting) (steps : List Step) (standing : Option NodeState)
    → AllByRecursion HasForm (steps_seal c steps standing)
steps_form c [] standing = tt
steps_form c (step ∷ steps) standing =
    all_append HasForm (step_seals c step standing) (steps_seal c steps (done c step standing).after)
    (step_form c step standing) (steps_form c steps (done c step standing).after)

deed_form : (deed : Deed) (found : Found) → AllByRecursion HasForm (deed_seals deed found)
deed_form (Lived x) found = lines_form found x.lines fresh
deed_form (Ran r) (Ok standing) =
    steps_form (Rattle.law_sessions.specs.Runs.setting_of r) (Rattle.law_sessions.specs.Runs.commands_of r) standing
deed_form (Ran r) (Err fault) = tt

pub deeds_form : (image : List ℕ) (deeds : List Deed) → AllByRecursion HasForm (all_seals image deeds)
deeds_form image [] = tt
deeds_form image (deed ∷ more) =
    all_append HasForm (deed_seals deed (found_on image)) (all_seals (left deed) more)
    (deed_form deed (found_on image)) (deeds_form (left deed) more)

pub deed_nonces_apart : (image : List ℕ) (deeds : List Deed) → AreDeeds image deeds
    → AreApart real (all_seals image deeds)
deed_nonces_apart image deeds are =
    stamps_apart real (all_seals image deeds) (deeds_form image deeds) (deeds_apart image deeds are)
