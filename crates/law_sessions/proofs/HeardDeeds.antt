-- What the centre accepted so far is below the floors, line after line and deed after deed.
use Rattle.std.proofs.Common.{◌≡◌, ℕ, Bool, true, false, if◌then◌else◌, List, [], ◌∷◌, ◌++◌, Option, Some, None, Result, Ok, Err, refl, sym, subst, arith, append_assoc, append-nil}
use Rattle.law_sessions.specs.Accepts.{AllRise, all_accepts, deed_accepts, event_accepts, line_accepts, lines_accept, meaning_accepts}
use Rattle.law_sessions.specs.Deeds.{AreDeeds, Deed, IsLeft, Lived, Ran, last_left, left}
use Rattle.law_sessions.specs.Runs as runs
use Rattle.law_sessions.specs.Runs.{KeepsTables, Run, after_run, commands_of}
use Rattle.law_sessions.specs.Sessions.{found_after, left_by}
use Rattle.law_sessions.proofs.FoundAgain.{found_again}
use Rattle.law_sessions.proofs.Heard.{AreHeard, boot_heard, event_heard, quiet_heard}
use Rattle.law_sessions.proofs.LogRuns.{opens_real}
use Rattle.law_sessions.proofs.OnDisk.{left_found}
use Rattle.law_sessions.proofs.RuledSessions.{IsOpen, IsRuledIn, IsWell, found_ruled, line_ruled, no_header, session_kept}
use Rattle.law_sessions.proofs.SoundTables.{sound_by_rules}
use Rattle.zb_admin.specs.Served.{done as carried_out, on_empty, on_store, served as served_steps}
use Rattle.zb_centre_store.specs.Makings.{first_tables}
use Rattle.zb_centre_store.specs.Skipping.{skipped}
use Rattle.zb_centre_store.specs.Standing.{found_on}
use Rattle.zb_install.specs.Code.{code_key}
use Rattle.zb_live.specs.Events.{task_for}
use Rattle.zb_live.specs.Grammar.{meaning_of}
use Rattle.zb_live.specs.Living.{Found, Living, counted, declared, done, fresh, happened, next, on_header, on_meaning, on_open, on_stage, opened, refused, served, setting_of}
use Rattle.zb_live.specs.Said.{Sentence, Quiet, Founds, Introduces, Logs, Opens, Happens, Asks}
use Rattle.zb_live.specs.declared.cause.Cause.{Cause}
use Rattle.zb_live.specs.declared.cause.Cause.TheVariants as cause
use Rattle.zb_model.specs.Answer.{answer, answer_by, plan_of}
use Rattle.zb_model.specs.Data.{Bytes, DoProvision, DoRemove, Task, Term}
use Rattle.zb_model.specs.Rules.{Setting}
use Rattle.zb_model.specs.State.{NodeState}
use Rattle.zb_model_real.specs.Real.{real}
use Rattle.zb_script.specs.Judge.{after_centre, after_peer, has_centre}
use Rattle.zb_script.specs.Scripts.{Script}
use Rattle.zb_script.specs.declared.error.ScriptCause.{ScriptCause}
use Rattle.zb_script.specs.declared.script.Order.{Order}
use Rattle.zb_script.specs.declared.script.Order.TheVariants.{Init, Provision, Remove, List as Lists, Backup, Restore}
use Rattle.zb_script.specs.declared.script.Step.{Step}

-- ---- what is found, and a session

-- the terms were accepted over these tables; before there are any, nothing was
abbrev pub IsHeardBy : List Term → Option NodeState → Type 0
IsHeardBy terms None = terms ≡ []
IsHeardBy terms (Some s) = AreHeard terms s

abbrev pub IsFoundHeard : List Term → Found → Type 0
IsFoundHeard terms (Ok standing) = IsHeardBy terms standing
IsFoundHeard terms (Err fault) = terms ≡ []

abbrev IsHeardIn : List Term → Found → Option NodeState → Type 0
IsHeardIn terms found None = IsFoundHeard terms found
IsHeardIn terms found (Some s) = AreHeard terms s

closed_heard : (terms : List Term) (found : Found) (o : Option NodeState) → o ≡ None → IsFoundHeard terms found
    → IsHeardIn terms found o
closed_heard terms found o none is = subst (λ (x : Option NodeState). IsHeardIn terms found x) (sym none) is

declared_heard : (number : ℕ) (v : Living) (found : Found) (terms : List Term) (r : Result Script ScriptCause)
    → v.tables ≡ None → IsFoundHeard terms found → IsHeardIn terms found (declared number v r).after.tables
declared_heard number v found terms (Ok network) none is = closed_heard terms found v.tables none is
declared_heard number v found terms (Err why) none is = closed_heard terms found v.tables none is

opened_heard : (number : ℕ) (v : Living) (found : Found) (terms : List Term) → v.tables ≡ None
    → IsFoundHeard terms found → IsHeardIn terms found (opened number found v).after.tables
opened_heard number v (Ok (Some s)) terms none is = is
opened_heard number v (Ok None) terms none is = closed_heard terms (Ok None) v.tables none is
opened_heard number v (Err fault) terms none is = closed_heard terms (Err fault) v.tables none is

header_heard : (number : ℕ) (found : Found) (said : Sentence) (v : Living) (terms : List Term) → v.tables ≡ None
    → IsFoundHeard terms found → IsHeardIn terms found (on_header number found said v).after.tables
header_heard number found Quiet v terms none is = closed_heard terms found v.tables none is
header_heard number found (Founds name eui out_block in_block) v terms none is =
    declared_heard number v found terms (after_centre v.network name eui out_block in_block) none is
header_heard number found (Introduces name role eui short) v terms none is =
    declared_heard number v found terms (after_peer v.network name role eui short) none is
header_heard number found (Logs log) v terms none is = closed_heard terms found v.tables none is
header_heard number found Opens v terms none is = by_centre (has_centre v.network)
  where
    by_centre : (b : Bool)
        → IsHeardIn terms found (if b then opened number found v else refused number cause.NoCentre v).after.tables
    by_centre true = opened_heard number v found terms none is
    by_centre false = closed_heard terms found v.tables none is
header_heard number found (Happens event) v terms none is = closed_heard terms found v.tables none is
header_heard number found (Asks question) v terms none is = closed_heard terms found v.tables none is

open_kept : (terms : List Term) (found : Found) (o : Option NodeState) (s : NodeState) → o ≡ Some s
    → AreHeard terms s → IsHeardIn (terms ++ []) found o
open_kept terms found o s some is = subst (λ (x : Option NodeState). IsHeardIn (terms ++ []) found x) (sym some)
    (subst (λ ts. AreHeard ts s) (sym (append-nil terms)) is)

happened_heard : (number : ℕ) (v : Living) (found : Found) (s : NodeState) (terms : List Term)
    (r : Result Task Cause) → v.tables ≡ Some s → IsWell s → IsOpen v.network → AreHeard terms s
    → IsHeardIn (terms ++ event_accepts v.network s r) found (happened number v s r).after.tables
happened_heard number v found s terms (Ok task) some well head is =
    event_heard real opens_real (setting_of v.network) task s terms (sound_by_rules s well.ruled.rules)
    (omega (arith, head.0.in_block)) is
happened_heard number v found s terms (Err why) some well head is = open_kept terms found v.tables s some is

open_heard : (number : ℕ) (found : Found) (s : NodeState) (said : Sentence) (v : Living) (terms : List Term)
    → v.tables ≡ Some s → IsWell s → IsOpen v.network → AreHeard terms s
    → IsHeardIn (terms ++ meaning_accepts v.network (Some s) (Some said)) found (on_open number s said v).after.tables
open_heard number found s Quiet v terms some well head is = open_kept terms found v.tables s some is
open_heard number found s (Founds name eui out_block in_block) v terms some well head is =
    open_kept terms found v.tables s some is
open_heard number found s (Introduces name role eui short) v terms some well head is =
    open_kept terms found v.tables s some is
open_heard number found s (Logs log) v terms some well head is = open_kept terms found v.tables s some is
open_heard number found s Opens v terms some well head is = open_kept terms found v.tables s some is
open_heard number found s (Happens event) v terms some well head is =
    happened_heard number v found s terms (task_for v.network.stations event) some well head is
open_heard number found s (Asks question) v terms some well head is = open_kept terms found v.tables s some is

stage_heard : (number : ℕ) (found : Found) (o : Option NodeState) (m : Option Sentence) (v : Living)
    (terms : List Term) → v.tables ≡ o → IsRuledIn found o v.network → IsHeardIn terms found o
    → IsHeardIn (terms ++ meaning_accepts v.network o m) found (on_meaning number found m v).after.tables
stage_heard number found None None v terms none ruled is =
    subst (λ ts. IsHeardIn ts found v.tables) (sym (append-nil terms)) (closed_heard terms found v.tables none is)
stage_heard number found (Some s) None v terms some ruled is = open_kept terms found v.tables s some is
stage_heard number found None (Some said) v terms none ruled is =
    subst (λ ts. IsHeardIn ts found (on_stage number found v.tables said v).after.tables) (sym (append-nil terms))
    (subst (λ (o : Option NodeState). IsHeardIn terms found (on_stage number found o said v).after.tables) (sym none)
    (header_heard number found said v terms none is))
stage_heard number found (Some s) (Some said) v terms some ruled is =
    subst
    (λ (o : Option NodeState). IsHeardIn (terms ++ meaning_accepts v.network (Some s) (Some said)) found
    (on_stage number found o said v).after.tables)
    (sym some) (open_heard number found s said v terms some ruled.0 ruled.1 is)

line_heard : (found : Found) (line : Bytes) (v : Living) (terms : List Term) → IsRuledIn found v.tables v.network
    → IsHeardIn terms found v.tables
    → IsHeardIn (terms ++ line_accepts line v) found (done found line v).after.tables
unfolding done line_accepts
line_heard found line v terms ruled is =
    stage_heard (next v.lines) found v.tables (meaning_of line) (counted v) terms refl ruled is

lines_heard : (found : Found) (lines : List Bytes) (v : Living) (terms : List Term)
    → IsRuledIn found v.tables v.network → IsHeardIn terms found v.tables
    → IsHeardIn (terms ++ lines_accept found lines v) found (served found lines v).after.tables
lines_heard found [] v terms ruled is = subst (λ ts. IsHeardIn ts found v.tables) (sym (append-nil terms)) is
lines_heard found (line ∷ more) v terms ruled is =
    let d = done found line v in
    subst (λ ts. IsHeardIn ts found (served found more d.after).after.tables)
    (append_assoc terms (line_accepts line v) (lines_accept found more d.after))
    (lines_heard found more d.after (terms ++ line_accepts line v) (line_ruled found line v ruled)
    (line_heard found line v terms ruled is))

after_session : (terms : List Term) (found : Found) (o : Option NodeState) → IsHeardIn terms found o
    → IsFoundHeard terms (found_after found o)
after_session terms found None is = is
after_session terms found (Some s) is = boot_heard s terms is

session_heard : (image : List ℕ) (lines : List Bytes) (terms : List Term) → IsFoundHeard terms (found_on image)
    → IsFoundHeard (terms ++ lines_accept (found_on image) lines fresh) (left_by (found_on image) lines)
session_heard image lines terms is =
    after_session (terms ++ lines_accept (found_on image) lines fresh) (found_on image)
    (served (found_on image) lines fresh).after.tables
    (lines_heard (found_on image) lines fresh terms (found_ruled image, no_header) is)

-- ---- a run of `admin`

none_heard : (terms : List Term) (s : NodeState) → terms ≡ [] → AreHeard terms s
none_heard terms s none = subst (λ ts. AreHeard ts s) (sym none) (record { heard = tt; rise = tt })

provides_none : (c : Setting) (device : ℕ) (key : Bytes) (s : NodeState)
    → (answer real c s (DoProvision device key)).accepts ≡ []
unfolding answer answer_by plan_of
provides_none c device key s = refl

removes_none : (c : Setting) (device via : ℕ) (s : NodeState) → (answer real c s (DoRemove device via)).accepts ≡ []
unfolding answer answer_by plan_of
removes_none c device via s = refl

empty_heard : (number : ℕ) (order : Order) (terms : List Term) → terms ≡ []
    → IsHeardBy terms (on_empty number order).after
empty_heard number (Init key) terms none = none_heard terms (first_tables key.0) none
empty_heard number (Provision device code) terms none = none
empty_heard number (Remove device via) terms none = none
empty_heard number Lists terms none = none
empty_heard number Backup terms none = none
empty_heard number (Restore by bytes) terms none =
    none_heard terms (skipped by (runs.backup_tables bytes)) none

store_heard : (c : Setting) (number : ℕ) (order : Order) (s : NodeState) (terms : List Term) → AreHeard terms s
    → IsHeardBy terms (on_store c number order s).after
store_heard c number (Init key) s terms is = is
store_heard c number (Provision device code) s terms is =
    quiet_heard (answer real c s (DoProvision device.0 (code_key code))) s terms
    (provides_none c device.0 (code_key code) s) is
store_heard c number (Remove device via) s terms is =
    quiet_heard (answer real c s (DoRemove device.0 via.0)) s terms (removes_none c device.0 via.0 s) is
store_heard c number Lists s terms is = is
store_heard c number Backup s terms is = is
store_heard c number (Restore by bytes) s terms is = is

step_heard : (c : Setting) (step : Step) (standing : Option NodeState) (terms : List Term) → IsHeardBy terms standing
    → IsHeardBy terms (carried_out c step standing).after
unfolding carried_out
step_heard c step None terms is = empty_heard step.line step.order terms is
step_heard c step (Some s) terms is = store_heard c step.line step.order s terms is

pub steps_heard : (c : Setting) (steps : List Step) (standing : Option NodeState) (terms : List Term)
    → IsHeardBy terms standing → IsHeardBy terms (served_steps c steps standing).after
steps_heard c [] standing terms is = is
steps_heard c (step ∷ steps) standing terms is =
    steps_heard c steps (carried_out c step standing).after terms (step_heard c step standing terms is)

pub kept_heard : (standing : Option NodeState) (image : List ℕ) (terms : List Term) → KeepsTables standing image
    → IsHeardBy terms standing → IsFoundHeard terms (found_on image)
unfolding found_on
kept_heard None image terms none is = subst (λ i. IsFoundHeard terms (found_on i)) (sym none) is
kept_heard (Some s) image terms (kept, holds) is =
    subst (IsFoundHeard terms) (sym (found_again s image kept holds)) (boot_heard s terms is)

run_heard : (r : Run) (found : Found) (terms : List Term) → runs.IsLeft r found → IsFoundHeard terms found
    → IsFoundHeard terms (found_on r.left)
run_heard r (Ok standing) terms is heard =
    kept_heard (after_run r standing) r.left terms is
    (steps_heard (runs.setting_of r) (commands_of r) standing terms heard)
run_heard r (Err fault) terms is heard = subst (IsFoundHeard terms) (sym is) heard

-- ---- all deeds

deed_heard : (image : List ℕ) (deed : Deed) (terms : List Term) → IsLeft deed (found_on image)
    → IsFoundHeard terms (found_on image)
    → IsFoundHeard (terms ++ deed_accepts deed (found_on image)) (found_on (left deed))
deed_heard image (Lived x) terms is heard =
    subst (IsFoundHeard (terms ++ lines_accept (found_on image) x.lines fresh))
    (sym
    (left_found (found_on image) (served (found_on image) x.lines fresh).after.tables x.left
    (session_kept image x.lines) is))
    (session_heard image x.lines terms heard)
deed_heard image (Ran r) terms (script, is) heard =
    subst (λ ts. IsFoundHeard ts (found_on r.left)) (sym (append-nil terms))
    (run_heard r (found_on image) terms is heard)

pub deeds_heard : (image : List ℕ) (deeds : List Deed) (terms : List Term) → AreDeeds image deeds
    → IsFoundHeard terms (found_on image)
    → IsFoundHeard (terms ++ all_accepts image deeds) (found_on (last_left image deeds))
deeds_heard image [] terms are heard = subst (λ ts. IsFoundHeard ts (found_on image)) (sym (append-nil terms)) heard
deeds_heard image (deed ∷ more) terms (is, are) heard =
    subst (λ ts. IsFoundHeard ts (found_on (last_left (left deed) more)))
    (append_assoc terms (deed_accepts deed (found_on image)) (all_accepts (left deed) more))
    (deeds_heard (left deed) more (terms ++ deed_accepts deed (found_on image)) are
    (deed_heard image deed terms is heard))

pub first_heard : (found : Found) → IsFoundHeard [] found
first_heard (Ok None) = refl
first_heard (Ok (Some s)) = record { heard = tt; rise = tt }
first_heard (Err fault) = refl

pub rise_found : (terms : List Term) (found : Found) → IsFoundHeard terms found → AllRise terms
rise_found terms (Ok None) none = subst AllRise (sym none) tt
rise_found terms (Ok (Some s)) heard = heard.rise
rise_found terms (Err fault) none = subst AllRise (sym none) tt

pub deeds_rise : (image : List ℕ) (deeds : List Deed) → AreDeeds image deeds → AllRise (all_accepts image deeds)
deeds_rise image deeds are =
    rise_found (all_accepts image deeds) (found_on (last_left image deeds))
    (deeds_heard image deeds [] are (first_heard (found_on image)))
