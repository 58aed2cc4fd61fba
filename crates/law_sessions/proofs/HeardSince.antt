-- What the centre accepted stays below the floors over restores, if the backups are of what was there before.
use Rattle.std.proofs.Common.{◌≡◌, ℕ, List, [], ◌∷◌, ◌++◌, take, Option, Some, None, Ok, refl, sym, ap, ◌∙◌, subst, append_assoc, append-nil}
use Rattle.law_sessions.specs.Accepts.{AllRise, all_accepts}
use Rattle.law_sessions.specs.Deeds.{AreDeeds, Deed, Lived, Ran, last_left}
use Rattle.law_sessions.specs.Runs.{Restores, Run, after_run, backup_tables, commands_of, setting_of}
use Rattle.law_sessions.specs.Runs as runs
use Rattle.law_sessions.specs.Stores.{AreInLine, BeginsRestored, Restored, restored_accepts}
use Rattle.law_sessions.proofs.Heard.{AreHeard, skipped_heard}
use Rattle.law_sessions.proofs.HeardDeeds.{IsFoundHeard, IsHeardBy, deeds_heard, first_heard, kept_heard, rise_found, steps_heard}
use Rattle.law_sessions.proofs.RunLemmas.{take_first}
use Rattle.zb_admin.specs.Served.{done, served}
use Rattle.zb_centre_store.specs.Skipping.{skipped}
use Rattle.zb_centre_store.specs.Standing.{found_on}
use Rattle.zb_live.specs.Living.{Found}
use Rattle.zb_model.specs.Data.{Term}
use Rattle.zb_model.specs.State.{NodeState}
use Rattle.zb_script.specs.declared.script.Order.TheVariants.{Restore}
use Rattle.zb_script.specs.declared.script.Step.{Step}

-- the first run on the new store
first_run : (r : Run) (by : ℕ) (bytes : List ℕ) (terms : List Term) → AreHeard terms (backup_tables bytes)
    → runs.IsLeft r (Ok None) → Restores by bytes (r ∷ []) → IsFoundHeard terms (found_on r.left)
unfolding done
first_run r by bytes terms heard left (line, steps, some, begins) =
    let step : Step = record { line = line; order = Restore by bytes } in
    let first = take_first r.stored step steps some in
    let commands : commands_of r ≡ step ∷ take first.0 steps = ap (take r.stored) begins ∙ first.1 in
    let tables : Option NodeState = Some (skipped by (backup_tables bytes)) in
    let after : after_run r None ≡ (served (setting_of r) (take first.0 steps) tables).after =
    ap (λ ss. (served (setting_of r) ss None).after) commands in
    kept_heard (after_run r None) r.left terms left
    (subst (IsHeardBy terms) (sym after)
    (steps_heard (setting_of r) (take first.0 steps) tables terms (skipped_heard by (backup_tables bytes) terms
    heard)))

-- all deeds on the new store
since_heard : (deeds : List Deed) (by : ℕ) (bytes : List ℕ) (terms : List Term) → AreHeard terms (backup_tables bytes)
    → AreDeeds [] deeds → BeginsRestored by bytes deeds → (deeds ≡ [] → ⊥)
    → IsFoundHeard (terms ++ all_accepts [] deeds) (found_on (last_left [] deeds))
unfolding found_on
since_heard [] by bytes terms heard are begins some = absurd (some refl)
since_heard (Lived x ∷ more) by bytes terms heard are begins some = absurd begins
since_heard (Ran r ∷ more) by bytes terms heard ((script, left), are) begins some =
    deeds_heard r.left more terms are (first_run r by bytes terms heard left begins)

-- what was accepted before, and with each store in turn
line_rises : (before : Found) (more : List Restored) (terms : List Term) → IsFoundHeard terms before
    → AreInLine before more → AllRise (terms ++ restored_accepts more)
line_rises before [] terms heard are = subst AllRise (sym (append-nil terms)) (rise_found terms before heard)
line_rises before (r ∷ more) terms heard (is, are) =
    subst AllRise (append_assoc terms (all_accepts [] r.deeds) (restored_accepts more))
    (line_rises (found_on (last_left [] r.deeds)) more (terms ++ all_accepts [] r.deeds)
    (since_heard r.deeds r.skip r.backup terms (subst (IsFoundHeard terms) is.backup heard) is.deeds is.begins is.some)
    are)

pub life_rises : (image : List ℕ) (deeds : List Deed) (more : List Restored) → AreDeeds image deeds
    → AreInLine (found_on (last_left image deeds)) more → AllRise (all_accepts image deeds ++ restored_accepts more)
life_rises image deeds more are in_line =
    line_rises (found_on (last_left image deeds)) more (all_accepts image deeds)
    (deeds_heard image deeds [] are (first_heard (found_on image))) in_line
