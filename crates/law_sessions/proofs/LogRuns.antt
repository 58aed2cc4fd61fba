-- The log of a hub is the part of its node in the run of the model.
use Rattle.std.proofs.Common.{◌≡◌, ℕ, true, List, [], ◌∷◌, Option, Some, None, refl, sym, ap, ◌∙◌, subst, eqb-true, nat_eq}
use Rattle.std.specs.List.{AllByRecursion}
use Rattle.std.specs.Prelude.{is_some, unwrap_or, ⊤}
use Rattle.std.proofs.lemmas.Bool.{false≢true}
use Rattle.law_answer_storable.specs.Storing.{OpensAsJudged, source_or}
use Rattle.law_run.specs.Commanding.{SpellsConfirm}
use Rattle.law_run.specs.Opening.{Opens, shown_source}
use Rattle.law_run.proofs.LawfulRuns.{lawful}
use Rattle.law_run_counters.proofs.Unique.{counted}
use Rattle.law_run.proofs.Runs.{FoundIs, found-is}
use Rattle.law_sessions.specs.Hubs.{hub_events, without_numbers}
use Rattle.law_sessions.specs.Logs.{AllHaveSetting, HubHolds, IsHubOf, hub_log, hub_tasks}
use Rattle.law_sessions.proofs.Carried.{hub_fresh}
use Rattle.law_sessions.proofs.Claimed.{hub_confirms, hub_once}
use Rattle.law_sessions.proofs.HubRuns.{again, hub_lines, hub_runs}
use Rattle.law_sessions.proofs.LogLemmas.{holding, sessions_log}
use Rattle.zb_live.specs.Living.{Found}
use Rattle.zb_model.specs.Data.{Bytes, Station}
use Rattle.zb_model.specs.Play.{Schedule, groups, setting_of, start, station_or, stations}
use Rattle.zb_model.specs.Readings.{state_of}
use Rattle.zb_model.specs.Rules.{station_of}
use Rattle.zb_model.specs.Schedules.{IsSchedule, Names}
use Rattle.zb_model.specs.State.{NodeState, shown, after_boot}
use Rattle.zb_model_real.proofs.Showing.{aps-opens, nwk-opens}
use Rattle.zb_model_real.specs.Real.{real}
use Rattle.law_tables_suffice.proofs.Answered.{boot_same, twice_same}

-- ---- real frames open to what they were judged by

given_or : (given : ℕ) (o : Option ℕ) → unwrap_or o given ≡ source_or given o
given_or given None = refl
given_or given (Some source) = refl

pub real_opens : OpensAsJudged real
real_opens = record {
  nwk = nwk-opens;
  aps = λ bytes key given a aux t read shown opened.
      let is = aps-opens bytes key given a aux t read shown opened in
      (is.0, is.1, is.2 ∙ given_or given aux.source, is.3);
}

shown_or : (given : ℕ) (o : Option ℕ) → unwrap_or o given ≡ shown_source given o
shown_or given None = refl
shown_or given (Some source) = refl

pub opens_real : Opens real
opens_real = record {
  nwk = nwk-opens;
  aps = λ bytes key given a aux t read shown opened.
      let is = aps-opens bytes key given a aux t read shown opened in
      (is.0, is.1, is.2 ∙ shown_or given aux.source, is.3);
}

-- ---- the node

all_so : (ps : List Station) → AllByRecursion (λ (p : Station). ⊤) ps
all_so [] = tt
all_so (p ∷ ps) = (tt, all_so ps)

mine_by : (n : ℕ) (o : Option Station) → is_some o ≡ true
    → FoundIs (λ (p : Station). ⊤ × (nat_eq p.eui n ≡ true)) o → (station_or o).eui ≡ n
mine_by n None some is = absurd (false≢true some)
mine_by n (Some p) some is = eqb-true p.eui n is.1

-- a declared node knows its EUI
pub mine : (w : Schedule) (n : ℕ) → Names w n → (setting_of w n).me.eui ≡ n
unfolding setting_of station_of
mine w n named = mine_by n (station_of (stations w) n) named
    (found-is (λ (p : Station). ⊤) (λ (p : Station). nat_eq p.eui n) (stations w) (all_so (stations w)))

-- ---- the law

-- a boot of what is shown is as one of what was before
booted_shown : (s : NodeState) → again (shown s) ≡ again s
booted_shown s = ap shown (boot_same s) ∙ twice_same (after_boot s)

pub log_runs : (w : Schedule) (n : ℕ) (found : Found) (sessions : List (List Bytes)) → IsHubOf w n found sessions
    → without_numbers (hub_log n found sessions) ≡ without_numbers (groups real w (start w) [] 1 w.events)
log_runs w n found sessions is =
    let c = setting_of w n in
    let s = state_of (start w) n in
    let found_is : found ≡ holding (again (shown s)) = is.found_so ∙ ap holding (sym (booted_shown s)) in
    ap (λ (f : Found). without_numbers (hub_log n f sessions)) found_is
    ∙ subst
    (λ m. without_numbers (hub_log m (holding (again (shown s))) sessions)
    ≡ hub_lines real c m (shown s) (hub_tasks (holding (again (shown s))) sessions))
    (mine w n is.named)
    (sessions_log c (shown s) sessions (subst (λ (f : Found). AllHaveSetting c f sessions) found_is is.headers))
    ∙ sym (hub_runs real real_opens w n (hub_tasks (holding (again (shown s))) sessions))
    ∙ ap (λ (f : Found). without_numbers (groups real w (start w) [] 1 (hub_events n (hub_tasks f sessions))))
    (sym found_is)
    ∙ ap (λ es. without_numbers (groups real w (start w) [] 1 es)) (sym is.events)

-- ---- claims on the run

pub run_holds : SpellsConfirm real → (w : Schedule) (n : ℕ) (found : Found) (sessions : List (List Bytes))
    → IsHubOf w n found sessions → IsSchedule (record w { events = [] }) → HubHolds w
run_holds spells w n found sessions is nodes =
    let all = hub_tasks found sessions in
    record {
      lawful = lawful real w;
      counted = counted real opens_real w;
      fresh = hub_fresh real w n all is.events nodes is.named;
      once = hub_once real opens_real w n all is.events nodes is.named;
      confirms = λ one. hub_confirms real opens_real spells w n all is.events nodes one is.named;
    }
