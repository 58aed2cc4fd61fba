-- What the centre sealed so far was used, command after command and run after run.
use Rattle.std.proofs.Common.{◌≡◌, ℕ, ◌≤◌, ◌<◌, ◌++◌, suc, zero, List, [], ◌∷◌, take, length, Option, Some, None, Ok, Err, refl, sym, ap, ◌∙◌, subst, arith, append_assoc, append-nil}
use Rattle.std.specs.Prelude.{slice_get}
use Rattle.std.specs.List.{AllByRecursion}
use Rattle.law_sessions.specs.Runs.{AreRuns, Found, KeepsTables, IsLeft, Restores, Run, after_run, backup_tables, commands_of, left_by_all, order_seals, run_seals, sealed_on, setting_of, step_seals, steps_seal}
use Rattle.law_answer_seals.specs.Sealing.{IsWithinLimits}
use Rattle.law_answer_seals.proofs.Limits.{booted_within}
use Rattle.law_sessions.specs.Sessions.{IsUnderKept, NoneAgain, NoneTwice, TakeOneCounter}
use Rattle.law_sessions.proofs.FoundAgain.{found_again}
use Rattle.law_sessions.proofs.SessionLemmas.{found_used, none_found}
use Rattle.law_sessions.proofs.Used.{AreUsed, IsFoundUsed, IsUsed, IsUsedBy, all_map, boot_used, event_used, restored_used}
use Rattle.zb_admin.specs.Served.{done, on_empty, on_store, served}
use Rattle.zb_base.specs.declared.node.Peer.{Peer}
use Rattle.zb_centre_store.specs.Makings.{first_tables}
use Rattle.zb_centre_store.specs.Standing.{found_on}
use Rattle.zb_install.specs.Code.{code_key}
use Rattle.zb_keys.specs.Declarations.{first_state}
use Rattle.zb_model.specs.Data.{Bytes, DoProvision, DoRemove, Term}
use Rattle.zb_model.specs.Rules.{Setting}
use Rattle.zb_model.specs.State.{NodeState, after_boot, with_declared, with_given_net}
use Rattle.zb_model_real.specs.Real.{real}
use Rattle.zb_script.specs.Scripts.{IsScript}
use Rattle.zb_script.specs.declared.script.Order.{Order}
use Rattle.zb_script.specs.declared.script.Order.TheVariants.{Init, Provision, Remove, List as Lists, Backup, Restore}
use Rattle.zb_script.specs.declared.script.Step.{Step}
use Rattle.zb_setting.specs.Settings.{own, setting_for}
use Rattle.zb_centre_store.specs.Freshness.{HasUsed}
use Rattle.zb_centre_store.specs.Skipping.{skipped}

-- ---- the block of the centre

own_block : (peers : List Peer) (out_block in_block : ℕ) → 0 < length peers → 1 ≤ out_block
    → 1 ≤ (own out_block in_block (slice_get peers 0)).out_block
own_block [] out_block in_block some block = absurd (omega (arith, some))
own_block (p ∷ ps) out_block in_block some block = block

block_of : (r : Run) → IsScript r.script → 1 ≤ (setting_of r).me.out_block
unfolding setting_for
block_of r is =
    let config = r.script.config in
    subst (λ n. 1 ≤ (own config.out_block config.in_block (slice_get config.peers.items n)).out_block) (sym is.me)
    (own_block config.peers.items config.out_block config.in_block
    (subst (λ n. n < length config.peers.items) is.me is.config.place) is.config.out_least)

-- ---- the tables, and what was used in them

first_within : (key : Bytes) → IsWithinLimits (first_tables key)
unfolding first_state with_declared with_given_net after_boot
first_within key = booted_within (first_tables key)

pub skipped_within : (by : ℕ) (backup : NodeState) → IsWithinLimits (skipped by backup)
unfolding skipped
skipped_within by backup = booted_within _

none_used : (used : List Term) (s : NodeState) → IsWithinLimits s → used ≡ [] → AreUsed used s
none_used used s within none =
    subst (λ ts. AreUsed ts s) (sym none) (record { used = tt; apart = tt; within = within })

same_used : (used : List Term) (s : NodeState) → AreUsed used s → AreUsed (used ++ []) s
same_used used s is = subst (λ ts. AreUsed ts s) (sym (append-nil used)) is

empty_used : (number : ℕ) (order : Order) (used : List Term) → used ≡ []
    → IsUsedBy (used ++ []) (on_empty number order).after
empty_used number (Init key) used none = none_used (used ++ []) (first_tables key.0) (first_within key.0)
    (append-nil used ∙ none)
empty_used number (Provision device code) used none = append-nil used ∙ none
empty_used number (Remove device via) used none = append-nil used ∙ none
empty_used number Lists used none = append-nil used ∙ none
empty_used number Backup used none = append-nil used ∙ none
empty_used number (Restore by bytes) used none =
    none_used (used ++ []) (skipped by (backup_tables bytes)) (skipped_within by (backup_tables bytes))
    (append-nil used ∙ none)

store_used : (c : Setting) (number : ℕ) (order : Order) (s : NodeState) (used : List Term) → 1 ≤ c.me.out_block
    → AreUsed used s → IsUsedBy (used ++ order_seals c order s) (on_store c number order s).after
store_used c number (Init key) s used block is = same_used used s is
store_used c number (Provision device code) s used block is = event_used real c
    (DoProvision device.0 (code_key code)) s used block is
store_used c number (Remove device via) s used block is = event_used real c (DoRemove device.0 via.0) s used block is
store_used c number Lists s used block is = same_used used s is
store_used c number Backup s used block is = same_used used s is
store_used c number (Restore by bytes) s used block is = same_used used s is

step_used : (c : Setting) (step : Step) (standing : Option NodeState) (used : List Term) → 1 ≤ c.me.out_block
    → IsUsedBy used standing → IsUsedBy (used ++ step_seals c step standing) (done c step standing).after
unfolding done
step_used c step None used block is = empty_used step.line step.order used is
step_used c step (Some s) used block is = store_used c step.line step.order s used block is

steps_used : (c : Setting) (steps : List Step) (standing : Option NodeState) (used : List Term) → 1 ≤ c.me.out_block
    → IsUsedBy used standing → IsUsedBy (used ++ steps_seal c steps standing) (served c steps standing).after
steps_used c [] standing used block is = subst (λ ts. IsUsedBy ts standing) (sym (append-nil used)) is
steps_used c (step ∷ steps) standing used block is =
    let next = (done c step standing).after in
    subst (λ ts. IsUsedBy ts (served c steps next).after)
    (append_assoc used (step_seals c step standing) (steps_seal c steps next))
    (steps_used c steps next (used ++ step_seals c step standing) block (step_used c step standing used block is))

-- ---- runs

left_used : (standing : Option NodeState) (left : List ℕ) (used : List Term) → KeepsTables standing left
    → IsUsedBy used standing → IsFoundUsed used (found_on left)
unfolding found_on
left_used None left used none is = subst (λ image. IsFoundUsed used (found_on image)) (sym none) is
left_used (Some s) left used (kept, stood) is = subst (IsFoundUsed used) (sym (found_again s left kept stood))
    (boot_used s used is)

pub run_used : (r : Run) (found : Found) (used : List Term) → IsScript r.script → IsLeft r found → IsFoundUsed used
    found
    → IsFoundUsed (used ++ run_seals r found) (found_on r.left)
run_used r (Ok standing) used script left is =
    left_used (after_run r standing) r.left (used ++ steps_seal (setting_of r) (commands_of r) standing) left
    (steps_used (setting_of r) (commands_of r) standing used (block_of r script) is)
run_used r (Err fault) used script left is = subst (IsFoundUsed (used ++ [])) (sym left) (append-nil used ∙ is)

all_used : (image : List ℕ) (runs : List Run) (used : List Term) → AreRuns image runs
    → IsFoundUsed used (found_on image)
    → IsFoundUsed (used ++ sealed_on image runs) (found_on (left_by_all image runs))
all_used image [] used are is = subst (λ ts. IsFoundUsed ts (found_on image)) (sym (append-nil used)) is
all_used image (r ∷ more) used (script, left, are) is =
    subst (λ ts. IsFoundUsed ts (found_on (left_by_all r.left more)))
    (append_assoc used (run_seals r (found_on image)) (sealed_on r.left more))
    (all_used r.left more (used ++ run_seals r (found_on image)) are (run_used r (found_on image) used script left is))

pub runs_apart : (image : List ℕ) (runs : List Run) → AreRuns image runs → NoneTwice (sealed_on image runs)
runs_apart image runs are =
    none_found (sealed_on image runs) (found_on (left_by_all image runs))
    (all_used image runs [] are (found_used image))

-- ---- a restore

pub take_first : (n : ℕ) (step : Step) (steps : List Step) → 1 ≤ n
    → (k : ℕ) × (take n (step ∷ steps) ≡ step ∷ take k steps)
take_first zero step steps some = absurd (omega (arith, some))
take_first (suc k) step steps some = (k, refl)

-- terms that were used in the tables with which a restored centre begins stay used in its first run
pub restored_used_in : (r : Run) (by : ℕ) (bytes : List ℕ) (used : List Term)
    → AreUsed used (skipped by (backup_tables bytes)) → IsScript r.script → IsLeft r (Ok None)
    → Restores by bytes (r ∷ []) → IsFoundUsed (used ++ run_seals r (Ok None)) (found_on r.left)
unfolding done
restored_used_in r by bytes used is script left (line, steps, some, begins) =
    let step : Step = record { line = line; order = Restore by bytes } in
    let first = take_first r.stored step steps some in
    let commands : commands_of r ≡ step ∷ take first.0 steps = ap (take r.stored) begins ∙ first.1 in
    let c = setting_of r in
    let rest = take first.0 steps in
    let tables : Option NodeState = Some (skipped by (backup_tables bytes)) in
    let seals : steps_seal c (commands_of r) None ≡ steps_seal c rest tables = ap (λ ss. steps_seal c ss None) commands
    in
    let after : after_run r None ≡ (served c rest tables).after = ap (λ ss. (served c ss None).after) commands in
    left_used (after_run r None) r.left (used ++ steps_seal c (commands_of r) None) left
    (subst (IsUsedBy (used ++ steps_seal c (commands_of r) None)) (sym after)
    (subst (λ ts. IsUsedBy (used ++ ts) (served c rest tables).after) (sym seals)
    (steps_used c rest tables used (block_of r script) is)))

restored_run : (r : Run) (more : List Run) (by : ℕ) (bytes : List ℕ) (used : List Term)
    → AreUsed used (skipped by (backup_tables bytes)) → AreRuns [] (r ∷ more) → Restores by bytes (r ∷ more)
    → NoneTwice (used ++ sealed_on [] (r ∷ more))
unfolding found_on
restored_run r more by bytes used is (script, left, are) restores =
    subst NoneTwice (append_assoc used (run_seals r (Ok None)) (sealed_on r.left more))
    (none_found ((used ++ run_seals r (Ok None)) ++ sealed_on r.left more) (found_on (left_by_all r.left more))
    (all_used r.left more (used ++ run_seals r (Ok None)) are
    (restored_used_in r by bytes used is script left restores)))

since_apart : (since : List Run) (by : ℕ) (bytes : List ℕ) (t : Term)
    → AreUsed (t ∷ []) (skipped by (backup_tables bytes)) → AreRuns [] since → Restores by bytes since
    → AllByRecursion (λ u. TakeOneCounter t u → ⊥) (sealed_on [] since)
since_apart [] by bytes t is are restores = tt
since_apart (r ∷ more) by bytes t is are restores = (restored_run r more by bytes (t ∷ []) is are restores).0

pub runs_apart_again : (image : List ℕ) (before since : List Run) (by : ℕ) (bytes : List ℕ) (lost : NodeState)
    → AreRuns image before → found_on (left_by_all image before) ≡ Ok (Some lost)
    → HasUsed by (backup_tables bytes) lost → AreRuns [] since → Restores by bytes since
    → NoneAgain (backup_tables bytes) (sealed_on image before) (sealed_on [] since)
runs_apart_again image before since by bytes lost are left has since_are restores =
    let backup = backup_tables bytes in
    let all = subst (IsFoundUsed (sealed_on image before)) left (all_used image before [] are (found_used image)) in
    all_map (IsUsed lost)
    (λ (t : Term). IsUnderKept t.layer t.base backup
    → AllByRecursion (λ u. TakeOneCounter t u → ⊥) (sealed_on [] since))
    (λ t h kept. since_apart since by bytes t
    (record {
      used = (restored_used by backup lost t.layer t has kept h, tt);
      apart = (tt, tt);
      within = skipped_within by backup;
    }) since_are restores) (sealed_on image before) all.used
