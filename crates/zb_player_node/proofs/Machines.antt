-- What a boot of a host of each role makes, and the bytes of a room once a slice of it is written.
use Rattle.std.proofs.Common.{◌≡◌, ◌++◌, inl, inr, ℕ, List, [], Option, Some, None, Result, Ok, Err, drop, length, take, refl, sym, ◌∙◌, ap, subst, arith}
use Rattle.std.proofs.lemmas.List.{take_all}
use Rattle.std.specs.Option.{MatchOption}
use Rattle.std.proofs.Math.Seq.{take-append_seam}
use Rattle.std.specs.Result.{IsErrAnd}
use Rattle.std.specs.Prelude.{OnOk, OnErr, IfErr}
use Rattle.arrayvec.specs.declared.array_vec.ArrayVec.{ArrayVec}
use Rattle.zb_base.specs.declared.fault.OrMemory.{OrMemory}
use Rattle.zb_base.specs.declared.fault.OrMemory.TheVariants.{Fault, NoMemory}
use Rattle.zb_base.specs.declared.node.Config.{Config}
use Rattle.zb_disk.specs.Memory.{Medium}
use Rattle.zb_armed_host.specs.Driven.{IsDown, IsUp, WasHandled, HasEnded, HasFallen, HasFallenAtBoot, IsRecordOn, IsRecordOf}
use Rattle.zb_armed_host.specs.declared.fall.Cut.{Cut}
use Rattle.zb_armed_host.specs.declared.fall.Fallen.{Fallen}
use Rattle.zb_model.specs.Data.{Role}
use Rattle.zb_model.specs.Play.{Armed}
use Rattle.zb_player_node.specs.Answers.{HasGiven, HasMade, IsDump, IsPlanFor, made}
use Rattle.zb_player_node.specs.Nodes.{words_for}
use Rattle.zb_player_node.specs.declared.machine.Machine.{Machine}
use Rattle.zb_host.specs.Hosts.{Hosted, Restoring}
use Rattle.zb_core.specs.CorePlans.{CorePlan, IsCoreAfter, IsCorePlan}
use Rattle.zb_core.specs.Events.{NodeEvent, task_of}
use Rattle.zb_node_types.specs.declared.change.Change.{Change}
use Rattle.zb_stored_tables.specs.Cores.{CoreValue}
use Rattle.zb_host.specs.Plans.{gives}
use Rattle.zb_store.specs.Layout.{Standing, stands}

abbrev Falls : Role → Armed → Medium → OrMemory Fallen → Medium → Type 0
Falls role a old fault new = (fallen : Fallen) → fault ≡ Fault fallen → (s : Standing) (w : List ℕ)
    → IsDown (words_for role) s w a old → HasFallenAtBoot s a old fallen new

abbrev Ends : Armed → Medium → OrMemory Fallen → Medium → Type 0
Ends a old fault new = (fallen : Fallen) → fault ≡ Fault fallen → HasEnded a old fallen new

none_made : (role : Role) (config : Config) (a : Armed) (old : Medium) (fault : OrMemory Fallen) (new : Medium)
    → Falls role a old fault new → Ends a old fault new → HasMade role config a old (Err fault) new
none_made role config a old (Fault fallen) new fell ended = (fell fallen refl, ended fallen refl)
none_made role config a old NoMemory new fell ended = tt

-- a boot that failed, as it is passed on
pub no_host : (role : Role) (config : Config) (a : Armed) (old : Medium) (fault : OrMemory Fallen) (new : Medium)
    → Falls role a old fault new → Ends a old fault new
    → (result : Result Machine (OrMemory Fallen)) → IsErrAnd result (λ e. e ≡ fault)
    → HasMade role config a old (made result) new
no_host role config a old fault new fell ended (Ok machine) passed = absurd passed
no_host role config a old fault new fell ended (Err e) passed =
    subst (λ (x : OrMemory Fallen). HasMade role config a old (Err x) new) (sym passed)
    (none_made role config a old fault new fell ended)

pub room_is : (n : ℕ) (room items : List ℕ) → length room ≡ n → take n (room ++ drop (length room) items) ≡ room
room_is n room items long = subst (λ (k : ℕ). take k (room ++ drop (length room) items) ≡ room) long
    (take-append_seam room (drop (length room) items))

-- what is kept of a room in which the record is shown
shown_again : (restored : Restoring) (found : Option Standing) (n : ℕ) (room kept : List ℕ)
    → IsRecordOn restored found (Some n) room → kept ≡ take n room → IsRecordOn restored found (Some (length kept))
    kept
shown_again restored None n room kept is same = absurd is
shown_again restored (Some s) n room kept is same =
    is ∙ ap gives (sym same ∙ sym (take_all (length kept) kept (omega arith)))

-- what is no record shows none of any room
none_again : (restored : Restoring) (found : Option Standing) (room : List ℕ) → IsRecordOn restored found None room
    → IsRecordOn restored found None []
none_again restored None room is = is
none_again restored (Some s) room is = is

pub dump_is : (restored : Restoring) (m : Medium) (len : Option ℕ) (room kept : List ℕ)
    → IsRecordOf restored m len room → MatchOption len (kept ≡ []) (λ n. kept ≡ take n room) → IsDump restored m kept
dump_is restored m None room kept (inl off) same = inl (same, inl off)
dump_is restored m None room kept (inr on) same = inl (same, inr (none_again restored (stands m.bytes) room on))
dump_is restored m (Some n) room kept is same = inr (shown_again restored (stands m.bytes) n room kept is same)

-- ---- what an event of a host gave, from what its call promises

plan_for : (role : Role) (before : CoreValue) (e : NodeEvent) (p : CorePlan) (after : CoreValue)
    → IsCorePlan role before e p → IsCoreAfter before p after → IsPlanFor role (task_of e) before p after
plan_for role before e p after plan done =
    record { answer_is = plan.answer_is; storable = plan.storable; after_is = done }

pub given_by : (D : Type 0) (role : Role) (a : Armed) (before after : Hosted CoreValue) (old new : Medium)
    (e : NodeEvent) (p : CorePlan) (result : Result (Unit {0}) Cut)
    → OnOk result (IsCorePlan role before.core e p) → OnOk result (IsCoreAfter before.core p after.core)
    → OnErr result ((q : CorePlan) × IsCorePlan role before.core e q × IsCoreAfter before.core q after.core
    × (p.changes ≡ q.changes) × D)
    → OnOk result
    ((s : Standing) → IsUp (words_for role) s a before old
    → WasHandled (words_for role) s a before old p.changes.items after new)
    → IfErr result
    (λ cut. (s : Standing) → IsUp (words_for role) s a before old
    → HasFallen (words_for role) s a before old p.changes.items cut.fallen after new)
    → HasGiven role (task_of e) a before old p result after new
given_by D role a before after old new e p (Ok u) planned done withheld handled fallen =
    (plan_for role before.core e p after.core planned done, handled)
given_by D role a before after old new e p (Err cut) planned done withheld handled fallen = (
  (
    withheld.0,
    plan_for role before.core e withheld.0 after.core withheld.1 withheld.2,
    ap (λ (v : ArrayVec Change 16 (Unit {0})). v.items) withheld.3,
  ),
  fallen,
)
