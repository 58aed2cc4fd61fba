-- What the calls of a host leave is the condition that the model says.
use Rattle.std.proofs.Common.{◌<◌, ◌≡◌, ◌≢◌, ◌≤◌, ◌+◌, ◌&&◌, ℕ, Bool, true, false, if◌then◌else◌, List, [], ◌∷◌, length, get_or, Option, Some, None, Result, Ok, Err, is_some, refl, sym, ◌∙◌, ap, subst, arith}
use Rattle.std.proofs.lemmas.Bool.{false≢true, ne_eqb}
use Rattle.zb_base.specs.Sizes.{late_generation}
use Rattle.zb_base.specs.Outside.{risen}
use Rattle.zb_base.specs.declared.fault.OrMemory.{OrMemory}
use Rattle.zb_base.specs.declared.fault.OrMemory.TheVariants.{Fault}
use Rattle.zb_base.specs.declared.node.Config.{Config}
use Rattle.zb_base.specs.declared.node.Peer.{Peer}
use Rattle.zb_core.proofs.PlanLaws.{answer_leads}
use Rattle.zb_core.specs.CorePlans.{CorePlan, accepts, seals}
use Rattle.zb_disk.specs.View.{IsStill}
use Rattle.zb_disk.specs.Memory.{Medium, memory_view}
use Rattle.zb_disk.specs.MemoryLaws.{image_seen}
use Rattle.zb_armed_host.proofs.Resets.{one_open}
use Rattle.zb_armed_host.proofs.Ties.{stop_stands, fail_stands}
use Rattle.zb_armed_host.specs.Arms.{arms_stand, IsArming, IsUnarmed, armed_of, commit_of, calls_after}
use Rattle.zb_armed_host.specs.Driven.{IsAtRest, IsUp, HasFallen, IsDown, calls_in, next_of}
use Rattle.zb_armed_host.specs.declared.arms.Arms.TheVariants.{Unarmed}
use Rattle.zb_armed_host.specs.declared.fall.Cut.{Cut as CutEvent}
use Rattle.zb_armed_host.specs.declared.fall.Fall.{Fall}
use Rattle.zb_armed_host.specs.declared.fall.Fallen.{Fallen}
use Rattle.zb_host.specs.Hosts.{Gives, Hosted, IsCurrent, writes_whole}
use Rattle.zb_model.specs.Answer.{Answer, answer, answered}
use Rattle.zb_model.specs.Data.{Edit, Role}
use Rattle.zb_model.specs.Data as model
use Rattle.zb_model.specs.Play.{Armed, NotArmed, StopAfter, FailAt, BootCalls, Calls, falls, leaves_both, stands, new_disk}
use Rattle.zb_model.specs.Record.{record_of}
use Rattle.zb_model.specs.Rules.{Setting}
use Rattle.zb_model.specs.State.{NodeState, after_boot, applied_all, shown}
use Rattle.zb_model_real.specs.Real.{real}
use Rattle.law_tables_suffice.proofs.Answered.{answered_same, boot_same}
use Rattle.law_run_steps.specs.Conditions.{Condition, after_cut, after_cut_boot, after_fall, after_power_on, after_storing, after_whole, calls_by, commits_with}
use Rattle.zb_setting.specs.Settings.{setting_for}
use Rattle.law_run_steps.specs.Swaps.{Stood, after_swap}
use Rattle.zb_player_node.proofs.Showing.{same_answer}
use Rattle.zb_player_node.proofs.Standing.{after_alike, boot_alike, calls_are, same_given, stored_as, stored_from, stored_later, stored_next, writes_are}
use Rattle.zb_player_node.specs.Answers.{CanStart, HasBooted, HasGiven, HasMade, IsPlanFor, IsStarted, IsStillDown, IsUpAgain, WasAnswered, WasCut, start_condition}
use Rattle.zb_player_node.specs.Nodes.{CanBootFrom, IsIn, IsPowered, IsRunning, IsStored, words_for}
use Rattle.zb_player_node.specs.Values.{NodeValue, Running}
use Rattle.zb_node_types.specs.Changes.{edits, model_role}
use Rattle.zb_node_types.specs.declared.change.Change.{Change}
use Rattle.zb_plan.specs.Answers.{IsAnswer}
use Rattle.zb_store.specs.Layout.{Standing, IsWhole}
use Rattle.zb_store.specs.Store.{IsHeld, both_gates_open}
use Rattle.zb_stored_tables.proofs.CoreValues.{stored_after}
use Rattle.zb_stored_tables.specs.Cores.{CoreValue, IsOfRole}
use Rattle.zb_stored_tables.specs.Stored.{restored}

core_as : (x y : Condition) → x.setting ≡ y.setting → shown x.state ≡ shown y.state → let k : CoreValue =
    record { setting = x.setting; tables = shown x.state } in k
    ≡ record { setting = y.setting; tables = shown y.state }
core_as x y same alike =
    ap (λ (z : Setting). let k : CoreValue = record { setting = z; tables = shown x.state } in k) same ∙ ap
    (λ (z : NodeState). let k : CoreValue = record { setting = y.setting; tables = z } in k) alike

IsThere : Option Running → Type 0
IsThere None = ⊥
IsThere (Some r) = Unit {0}

some_none : (r : Running) → Some r ≡ None → ⊥
unfolding IsThere
some_none r e = subst IsThere e tt

-- ---- power

pub running_of : (up : Bool) (x : Condition) (s : Standing) (r : Running) (m : Medium) → IsPowered up x s (Some r) m
    → IsRunning x s r m × (up ≡ true)
running_of true x s r m is = (is, refl)
running_of false x s r m is = absurd is

powered_by : (up : Bool) (x : Condition) (s : Standing) (r : Running) (m : Medium) → up ≡ true → IsRunning x s r m
    → IsPowered up x s (Some r) m
powered_by true x s r m on is = is
powered_by false x s r m on is = absurd (false≢true on)

at_rest_of : (up : Bool) (x : Condition) (s : Standing) (o : Option Running) (m : Medium) → up ≡ false
    → IsPowered up x s o m → IsAtRest s m
at_rest_of true x s o m off is = absurd (false≢true (sym off))
at_rest_of false x s (Some r) m off is = absurd is
at_rest_of false x s None m off is = is

pub power_is : (up : Bool) (x : Condition) (s : Standing) (o : Option Running) (m : Medium) → IsPowered up x s o m
    → is_some o ≡ up
power_is true x s (Some r) m is = refl
power_is true x s None m is = absurd is
power_is false x s (Some r) m is = absurd is
power_is false x s None m is = refl

none_of : (up : Bool) (x : Condition) (s : Standing) (o : Option Running) (m : Medium) → up ≡ false
    → IsPowered up x s o m → o ≡ None
none_of true x s o m off is = absurd (false≢true (sym off))
none_of false x s (Some r) m off is = absurd is
none_of false x s None m off is = refl

down_by : (up : Bool) (x : Condition) (s : Standing) (o : Option Running) (m : Medium) → up ≡ false → o ≡ None
    → IsAtRest s m → IsPowered up x s o m
down_by true x s o m off none rest = absurd (false≢true (sym off))
down_by false x s (Some r) m off none rest = absurd (some_none r none)
down_by false x s None m off none rest = rest

-- of the condition a host has the setting and the state
powered_as : (up : Bool) (x y : Condition) (s : Standing) (o : Option Running) (m : Medium) → x.setting ≡ y.setting
    → shown x.state ≡ shown y.state → IsPowered up x s o m → IsPowered up y s o m
powered_as true x y s (Some r) m same alike is = record {
  role = is.role ∙ ap (λ (c : Setting). c.me.role) same;
  core = is.core ∙ core_as x y same alike;
  entry_next = is.entry_next;
  current =
      subst (λ (c : Setting). IsCurrent (restored c.me.role) (λ (k : CoreValue). record_of k.tables) s r.host
      (memory_view m)) same is.current;
}
powered_as true x y s None m same alike is = absurd is
powered_as false x y s (Some r) m same alike is = absurd is
powered_as false x y s None m same alike is = is

-- ---- an event that was handled

core_is : (c : CoreValue) (setting : Setting) (state : NodeState) → c.setting ≡ setting → c.tables ≡ state → c
    ≡ record { setting = setting; tables = state }
core_is c setting state one other =
    ap (λ (z : Setting). let k : CoreValue = record { setting = z; tables = c.tables } in k) one ∙ ap
    (λ (z : NodeState). let k : CoreValue = record { setting = setting; tables = z } in k) other

-- where the answer leads that was given of what is shown
leads_to : (x : Condition) (task : model.Task) (p : CorePlan) (d : CoreValue)
    → IsPlanFor x.setting.me.role task (record { setting = x.setting; tables = shown x.state }) p d
    → d ≡ record { setting = x.setting; tables = shown (answered (answer real x.setting x.state task) x.state) }
leads_to x task p d plan =
    let c : CoreValue = record { setting = x.setting; tables = shown x.state } in
    let core : NodeState → CoreValue = λ (z : NodeState). record { setting = x.setting; tables = z } in
    answer_leads c d p task plan.answer_is plan.after_is ∙ ap
    (λ (a : Answer). core (shown (answered a (shown x.state))))
    (same_answer x.setting x.state task plan.storable.kept.rules) ∙ ap core
    (answered_same (answer real x.setting x.state task) x.state)

-- An event by its plan: the answer, the device calls, and the state that it leads to and that is stored.
record Went (x : Condition) (number : ℕ) (a : Answer) (s : Standing) (before : Hosted CoreValue) (p : CorePlan)
    (after : Hosted CoreValue) : Type 0 where
  answer_is : IsAnswer p a
  calls : calls_in (writes_whole before) p.changes.items ≡ calls_by x.commits a.edits
  leads : after.core ≡ record { setting = x.setting; tables = shown (answered a x.state) }
  alike : after_boot (shown (applied_all a.edits x.state)) ≡ after_boot (shown (answered a x.state))
  stored : Gives (restored x.setting.me.role) (next_of (words_for x.setting.me.role) s before p.changes.items after)
      (record_of after.core.tables)
      → IsStored x.setting.me.role (applied_all a.edits x.state) (commits_with x.commits a.edits) (number + 1)
      (next_of (words_for x.setting.me.role) s before p.changes.items after)

went : (x : Condition) (number : ℕ) (task : model.Task) (s : Standing) (r : Running) (p : CorePlan)
    (after : Hosted CoreValue) (m : Medium) → IsStored x.setting.me.role x.state x.commits number s → IsRunning x s r m
    → IsPlanFor x.setting.me.role task r.host.core p after.core
    → Went x number (answer real x.setting x.state task) s r.host p after
went x number task s r p after m stored run given =
    let role = x.setting.me.role in
    let a = answer real x.setting x.state task in
    let c : CoreValue = record { setting = x.setting; tables = shown x.state } in
    let items = p.changes.items in
    let plan : IsPlanFor role task c p after.core = subst (λ (k : CoreValue). IsPlanFor role task k p after.core)
    run.core given in
    let answer_is : IsAnswer p a =
    subst (IsAnswer p) (same_answer x.setting x.state task plan.storable.kept.rules) plan.answer_is in
    let whole = writes_are r.host s run.entry_next run.current.place in
    let leads = leads_to x task p after.core plan in
    let made = stored_after items (accepts p) (seals p) c after.core plan.after_is in
    let next = next_of (words_for role) s r.host items after in
    record {
      answer_is = answer_is;
      calls = calls_are (writes_whole r.host) (length s.payloads) x.commits items stored.entries whole ∙ ap
          (calls_by x.commits) answer_is.changes;
      leads = leads;
      alike = ap (λ (es : List Edit). after_boot (shown (applied_all es x.state))) (sym answer_is.changes)
          ∙ after_alike x.state after.core.tables (answered a x.state) items made
          (ap (λ (k : CoreValue). k.tables) leads);
      stored =
          λ gives_it. subst
          (λ (es : List Edit). IsStored role (applied_all es x.state) (commits_with x.commits es) (number + 1) next)
          answer_is.changes
          (stored_next role x.state after.core.tables x.commits number s items (writes_whole r.host) stored
          plan.storable made whole gives_it);
    }

-- a host that is up has what a call of it asks
up_of : (x : Condition) (number : ℕ) (task : model.Task) (s : Standing) (r : Running) (m : Medium)
    → IsStored x.setting.me.role x.state x.commits number s → IsRunning x s r m → IsUnarmed m → IsArming x.disk.armed
    → number < late_generation → IsUp (words_for x.setting.me.role) s x.disk.armed r.host m
up_of x number task s r m stored run unarmed arming can =
    record {
      current = run.current;
      unarmed = unarmed;
      arming = arming;
      lasting = omega (arith, stored.generation, can);
    }

answered_in : (x : Condition) (number : ℕ) (task : model.Task) (node : NodeValue) (r r' : Running) (p : CorePlan)
    (old new : Medium)
    → IsIn x number (record node { machine = Some r }) old → number < late_generation → r'.role ≡ r.role
    → HasGiven x.setting.me.role task x.disk.armed r.host old p (Ok tt) r'.host new
    → WasAnswered (answer real x.setting x.state task) x number p old (record node { machine = Some r' }) new
answered_in x number task node r r' p old new is can role_stays given =
    let role = x.setting.me.role in
    let a = answer real x.setting x.state task in
    let s = is.standing in
    let power = running_of x.up x s r old is.powered in
    let run = power.0 in
    let handled = given.1 s (up_of x number task s r old is.stored run is.unarmed is.arming can) in
    let it = went x number task s r p r'.host old is.stored run given.0 in
    let next = next_of (words_for role) s r.host p.changes.items r'.host in
    record {
      missed = sym (ap (falls x.disk.armed) it.calls) ∙ handled.missed;
      answer_is = it.answer_is;
      calls = handled.calls ∙ ap (calls_after old.calls) it.calls;
      leaves = record {
        standing = next;
        stored = stored_as role (applied_all a.edits x.state) (answered a x.state) (commits_with x.commits a.edits)
            (number + 1) next it.alike (it.stored handled.current.gives_it);
        powered = powered_by x.up (after_whole a x) next r' new power.1 (record {
          role = role_stays ∙ run.role;
          core = it.leads;
          entry_next = handled.entry_next run.entry_next;
          current = handled.current;
        });
        unarmed = handled.unarmed;
        gates = one_open next new handled.current.held ∙ sym (one_open s old run.current.held) ∙ is.gates;
        armed = is.armed;
        arming = is.arming;
        setting = is.setting;
        role = is.role;
      };
    }

-- what was given of the host's role and of what the node armed is given of the condition
given_of : (x : Condition) (number : ℕ) (task : model.Task) (node : NodeValue) (r : Running) (old : Medium)
    (p : CorePlan) (result : Result (Unit {0}) CutEvent) (after : Hosted CoreValue) (new : Medium)
    → IsIn x number (record node { machine = Some r }) old → number < late_generation
    → HasGiven r.role task (armed_of node.arms) r.host old p result after new
    → HasGiven x.setting.me.role task x.disk.armed r.host old p result after new
given_of x number task node r old p result after new is can given =
    let run = (running_of x.up x is.standing r old is.powered).0 in
    subst (λ (a : Armed). HasGiven x.setting.me.role task a r.host old p result after new) is.armed
    (subst (λ (role : Role). HasGiven role task (armed_of node.arms) r.host old p result after new) run.role
    given)

pub was_answered : (task : model.Task) (node : NodeValue) (r r' : Running) (p : CorePlan) (old new : Medium) → r'.role
    ≡ r.role
    → HasGiven r.role task (armed_of node.arms) r.host old p (Ok tt) r'.host new
    → (x : Condition) (number : ℕ) → IsIn x number (record node { machine = Some r }) old → number < late_generation
    → WasAnswered (answer real x.setting x.state task) x number p old (record node { machine = Some r' }) new
was_answered task node r r' p old new role_stays given x number is can =
    answered_in x number task node r r' p old new is can role_stays
    (given_of x number task node r old p (Ok tt) r'.host new is can given)

-- ---- an event that was cut

-- what the node asks of its arms is what the model says of the commit
commit_stands : (a : Armed) (whole : Bool) → falls a (commit_of whole) ≡ true → arms_stand a
    ≡ stands a (commit_of whole)
commit_stands NotArmed whole fell = absurd (false≢true fell)
commit_stands (StopAfter calls torn) whole fell = sym (stop_stands whole calls torn fell)
commit_stands (FailAt call) whole fell = sym (fail_stands whole call fell)

cut_stands : (a : Armed) (whole : Bool) (cs : List Change) → cs ≢ [] → falls a (calls_in whole cs) ≡ true
    → arms_stand a ≡ stands a (calls_in whole cs)
cut_stands a whole [] there fell = absurd (there refl)
cut_stands a whole (c ∷ cs) there fell = commit_stands a whole fell

edits_if : (b : Bool) (cs : List Change) → edits (if b then cs else []) ≡ (if b then edits cs else [])
edits_if true cs = refl
edits_if false cs = refl

-- a node that is down, with nothing armed
down_now : (x : Condition) (number : ℕ) (node : NodeValue) (s : Standing) (both : Bool) (m : Medium)
    → IsStored x.setting.me.role x.state x.commits number s → IsAtRest s m
    → both_gates_open m.bytes ≡ both → setting_for node.config ≡ x.setting → model_role node.peer.role
    ≡ x.setting.me.role
    → IsIn (after_fall both x) number (record node { machine = None; arms = Unarmed }) m
down_now x number node s both m stored rest gates setting role = record {
  standing = s;
  stored = stored;
  powered = rest;
  unarmed = rest.unarmed;
  gates = gates;
  armed = refl;
  arming = tt;
  setting = setting;
  role = role;
}

cut_now : (x : Condition) (number : ℕ) (node : NodeValue) (s next : Standing) (es : List Edit) (b both : Bool)
    (m : Medium) → IsStored x.setting.me.role x.state x.commits number s
    → IsStored x.setting.me.role (applied_all es x.state) (commits_with x.commits es) number next
    → IsAtRest (if b then next else s) m
    → both_gates_open m.bytes ≡ both → setting_for node.config ≡ x.setting → model_role node.peer.role
    ≡ x.setting.me.role
    → IsIn (if b then after_fall both (after_storing es x) else after_fall both x) number
    (record node { machine = None; arms = Unarmed }) m
cut_now x number node s next es true both m stored then_stored rest gates setting role =
    down_now (after_storing es x) number node next both m then_stored rest gates setting role
cut_now x number node s next es false both m stored then_stored rest gates setting role =
    down_now x number node s both m stored rest gates setting role

pub was_cut : (task : model.Task) (node : NodeValue) (r : Running) (after : Hosted CoreValue) (p : CorePlan)
    (cut : CutEvent) (kept : List Change) (old new : Medium)
    → HasGiven r.role task (armed_of node.arms) r.host old p (Err cut) after new → kept
    ≡ (if cut.fallen.fired && arms_stand (armed_of node.arms) then p.changes.items else [])
    → (x : Condition) (number : ℕ) → IsIn x number (record node { machine = Some r }) old → number < late_generation
    → WasCut (answer real x.setting x.state task) x number kept cut.fallen.fall old
    (record node { machine = None; arms = if cut.fallen.fired then Unarmed else node.arms }) new
was_cut task node r after p cut kept old new gave kept_are x number is can =
    let role = x.setting.me.role in
    let armed = x.disk.armed in
    let a = answer real x.setting x.state task in
    let s = is.standing in
    let given = given_of x number task node r old p (Err cut) after new is can gave in
    let items = p.changes.items in
    let q = given.0.0 in
    let same : items ≡ q.changes.items = given.0.2 in
    let run = (running_of x.up x s r old is.powered).0 in
    let gave_way : HasFallen (words_for role) s armed r.host old items cut.fallen after new =
    given.1 s (up_of x number task s r old is.stored run is.unarmed is.arming can) in
    let fallen : HasFallen (words_for role) s armed r.host old q.changes.items cut.fallen after new =
    subst (λ (l : List Change). HasFallen (words_for role) s armed r.host old l cut.fallen after new) same gave_way in
    let it = went x number task s r q after old is.stored run given.0.1 in
    let next = next_of (words_for role) s r.host q.changes.items after in
    let calls = calls_by x.commits a.edits in
    let stands_so = ap (λ (b : Bool). b && arms_stand (armed_of node.arms)) fallen.fired in
    let left =
    ap (λ (b : Bool). let n : NodeValue = record node { machine = None; arms = if b then Unarmed else node.arms }
    in n) fallen.fired in
    let stood = ap arms_stand is.armed ∙ cut_stands armed (writes_whole r.host) q.changes.items fallen.some
    fallen.fell ∙ ap (stands armed) it.calls in
    record {
      fell = sym (ap (falls armed) it.calls) ∙ fallen.fell;
      stored_are = ap edits kept_are ∙ ap (λ (b : Bool). edits (if b then items else [])) stands_so ∙ edits_if
          (arms_stand (armed_of node.arms)) items
          ∙ ap (λ (l : List Change). if arms_stand (armed_of node.arms) then edits l else []) same ∙ ap
          (λ (b : Bool). if b then edits q.changes.items else []) stood
          ∙ ap (λ (es : List Edit). if stands armed calls then es else []) it.answer_is.changes;
      fall_is = fallen.is;
      calls = fallen.calls;
      leaves = subst (λ (n : NodeValue). IsIn (after_cut a x) (number + 1) n new) (sym left)
          (cut_now x (number + 1) node s next a.edits (stands armed calls) (leaves_both armed calls) new
          (stored_later role x.state x.commits number s is.stored) (it.stored fallen.gives_it)
          (subst (λ (k : Calls). IsAtRest (if stands armed k then next else s) new) it.calls fallen.rest)
          (fallen.gates ∙ ap (leaves_both armed) it.calls) is.setting is.role);
    }

-- ---- a boot

down_of : (x : Condition) (number : ℕ) (node : NodeValue) (m : Medium) (is : IsIn x number node m) → x.up ≡ false
    → IsDown (words_for x.setting.me.role) is.standing (record_of x.state) x.disk.armed m
down_of x number node m is off =
    record {
      rest = at_rest_of x.up x is.standing node.machine m off is.powered;
      gives_it = is.stored.gives_it;
      arming = is.arming;
    }

made_of : (x : Condition) (number : ℕ) (node : NodeValue) (old : Medium) (result : Result Running (OrMemory Fallen))
    (new : Medium) → IsIn x number node old
    → HasMade (model_role node.peer.role) node.config (armed_of node.arms) old result new
    → HasMade x.setting.me.role node.config x.disk.armed old result new
made_of x number node old result new is made =
    subst (λ (a : Armed). HasMade x.setting.me.role node.config a old result new) is.armed
    (subst (λ (role : Role). HasMade role node.config (armed_of node.arms) old result new) is.role made)

pub was_booted : (node : NodeValue) (r : Running) (old new : Medium) → HasMade (model_role node.peer.role) node.config
    (armed_of node.arms) old (Ok r) new
    → (x : Condition) (number : ℕ) → IsIn x number node old → x.up ≡ false
    → IsUpAgain x number old (record node { machine = Some r }) new
was_booted node r old new made0 x number is off =
    let role = x.setting.me.role in
    let s = is.standing in
    let made = made_of x number node old (Ok r) new is made0 in
    let both = made.2 s (record_of x.state) (down_of x number node old is off) in
    let booted = both.0 in
    let up = both.1 in
    let tables = same_given r.host.core.tables (after_boot (shown x.state)) (sym booted.tables ∙ is.stored.reads) ∙
    boot_same x.state in
    record {
      missed = sym (ap (λ (b : Bool). falls x.disk.armed (BootCalls b)) is.gates) ∙ up.missed;
      calls = up.calls ∙ ap (λ (b : Bool). calls_after old.calls (BootCalls b)) is.gates;
      leaves = record {
        standing = s;
        stored = stored_later role (after_boot x.state) x.commits number s
            (stored_as role x.state (after_boot x.state) x.commits number s (sym (boot_alike x.state)) is.stored);
        powered = record {
          role = made.0;
          core = core_is r.host.core x.setting (shown (after_boot x.state)) (booted.setting ∙ is.setting) tables;
          entry_next = up.whole ∙ ne_eqb (get_or s.content 0 0) 1 is.stored.newest;
          current = up.current;
        };
        unarmed = up.unarmed;
        gates = one_open s new up.current.held;
        armed = is.armed;
        arming = is.arming;
        setting = is.setting;
        role = is.role;
      };
    }

pub boot_fell : (node : NodeValue) (seen : Fallen) (old new : Medium)
    → HasMade (model_role node.peer.role) node.config (armed_of node.arms) old (Err (Fault seen)) new
    → (x : Condition) (number : ℕ) → IsIn x number node old → x.up ≡ false
    → IsStillDown x number seen.fall old (record node { arms = if seen.fired then Unarmed else node.arms }) new
boot_fell node seen old new made0 x number is off =
    let role = x.setting.me.role in
    let s = is.standing in
    let fallen = (made_of x number node old (Err (Fault seen)) new is made0).0 s (record_of x.state)
    (down_of x number node old is off) in
    let left = ap (λ (b : Bool). let n : NodeValue = record node { arms = if b then Unarmed else node.arms } in n)
    fallen.fired in
    record {
      fell = sym (ap (λ (b : Bool). falls x.disk.armed (BootCalls b)) is.gates) ∙ fallen.fell;
      fall_is = fallen.is;
      calls = fallen.calls;
      leaves = subst (λ (n : NodeValue). IsIn (after_cut_boot x) (number + 1) n new) (sym left) (record {
        standing = s;
        stored = stored_later role x.state x.commits number s is.stored;
        powered = down_by x.up (after_cut_boot x) s node.machine new off
            (none_of x.up x s node.machine old off is.powered) fallen.rest;
        unarmed = fallen.rest.unarmed;
        gates = fallen.gates ∙ ap (λ (b : Bool). leaves_both x.disk.armed (BootCalls b)) is.gates;
        armed = refl;
        arming = tt;
        setting = is.setting;
        role = is.role;
      });
    }

-- ---- a reset, arming, a later event

pub in_later : (x : Condition) (number : ℕ) (node : NodeValue) (m : Medium) → IsIn x number node m
    → IsIn x (number + 1) node m
in_later x number node m is = record {
  standing = is.standing;
  stored = stored_later x.setting.me.role x.state x.commits number is.standing is.stored;
  powered = is.powered;
  unarmed = is.unarmed;
  gates = is.gates;
  armed = is.armed;
  arming = is.arming;
  setting = is.setting;
  role = is.role;
}

-- generations further from the last one are left
pub in_from : (x : Condition) (number later : ℕ) (node : NodeValue) (m : Medium) → number ≤ later
    → IsIn x number node m → IsIn x later node m
in_from x number later node m from is = record {
  standing = is.standing;
  stored = stored_from x.setting.me.role x.state x.commits number later is.standing from is.stored;
  powered = is.powered;
  unarmed = is.unarmed;
  gates = is.gates;
  armed = is.armed;
  arming = is.arming;
  setting = is.setting;
  role = is.role;
}

-- ---- another disk

pub holds_from : (role : Role) (number later : ℕ) (m : Medium) (s : Stood) → number ≤ later
    → CanBootFrom role number m s
    → CanBootFrom role later m s
holds_from role number later m s from holds = record {
  standing = holds.standing;
  stored = stored_from role s.state s.commits number later holds.standing from holds.stored;
  rest = holds.rest;
  gates = holds.gates;
}

pub over_another : (x : Condition) (number : ℕ) (node : NodeValue) (old new : Medium) (s : Stood)
    → IsIn x number node old → x.up ≡ false → CanBootFrom x.setting.me.role number new s
    → IsIn (after_swap (Some s) x) number node new
over_another x number node old new s is off holds = record {
  standing = holds.standing;
  stored = holds.stored;
  powered = down_by x.up (after_swap (Some s) x) holds.standing node.machine new off
      (none_of x.up x is.standing node.machine old off is.powered) holds.rest;
  unarmed = holds.rest.unarmed;
  gates = holds.gates;
  armed = is.armed;
  arming = is.arming;
  setting = is.setting;
  role = is.role;
}

-- ---- a dump

still_at_rest : (s : Standing) (old new : Medium) → IsStill (memory_view old) (memory_view new) → IsAtRest s old
    → IsAtRest s new
still_at_rest s old new still rest = record {
  only = λ c image. rest.only c (still.same.images c image) ∙ sym still.same.seen;
  whole = subst (IsWhole s) (sym still.same.seen) rest.whole;
  unarmed = λ k. still.refuses k ∙ rest.unarmed k;
}

still_current : (x : Condition) (s : Standing) (r : Running) (old new : Medium)
    → IsStill (memory_view old) (memory_view new) → IsRunning x s r old → IsRunning x s r new
still_current x s r old new still run = record {
  role = run.role;
  core = run.core;
  entry_next = run.entry_next;
  current = record {
    place = run.current.place;
    held = record {
      whole = λ c image. run.current.held.whole c (still.same.images c image);
      closed = λ c image. run.current.held.closed c (still.same.images c image);
    };
    gives_it = run.current.gives_it;
    later = run.current.later;
  };
}

still_powered : (up : Bool) (x : Condition) (s : Standing) (o : Option Running) (old new : Medium)
    → IsStill (memory_view old) (memory_view new) → IsPowered up x s o old → IsPowered up x s o new
still_powered true x s (Some r) old new still is = still_current x s r old new still is
still_powered true x s None old new still is = absurd is
still_powered false x s (Some r) old new still is = absurd is
still_powered false x s None old new still is = still_at_rest s old new still is

still_in : (x : Condition) (number : ℕ) (node : NodeValue) (old new : Medium)
    → IsStill (memory_view old) (memory_view new) → IsIn x number node old → IsIn x (number + 1) node new
still_in x number node old new still is = record {
  standing = is.standing;
  stored = stored_later x.setting.me.role x.state x.commits number is.standing is.stored;
  powered = still_powered x.up x is.standing node.machine old new still is.powered;
  unarmed = λ k. still.refuses k ∙ is.unarmed k;
  gates = ap both_gates_open still.same.seen ∙ is.gates;
  armed = is.armed;
  arming = is.arming;
  setting = is.setting;
  role = is.role;
}

whole_of : (up : Bool) (x : Condition) (s : Standing) (o : Option Running) (m : Medium) → IsPowered up x s o m
    → IsWhole s m.bytes
whole_of true x s (Some r) m is = is.current.held.whole m.bytes (image_seen m.bytes m.written m.grown)
whole_of true x s None m is = absurd is
whole_of false x s (Some r) m is = absurd is
whole_of false x s None m is = is.whole

pub was_dumped : (node : NodeValue) (old new : Medium) (bytes : List ℕ) → IsStill (memory_view old) (memory_view new)
    → ((s : Standing) (w : List ℕ) → IsWhole s old.bytes → IsUnarmed old
    → Gives (restored (model_role node.peer.role)) s w → bytes ≡ w)
    → (x : Condition) (number : ℕ) → IsIn x number node old → (bytes ≡ record_of x.state)
    × IsIn x (number + 1) node new
was_dumped node old new bytes still shown x number is =
    let s = is.standing in (
      shown s (record_of x.state) (whole_of x.up x s node.machine old is.powered) is.unarmed
          (subst (λ (role : Role). Gives (restored role) s (record_of x.state)) (sym is.role) is.stored.gives_it),
      still_in x number node old new still is,
    )

-- ---- the start

abbrev before_start : Setting → NodeState → Condition
before_start setting state = record { setting = setting; state = state; commits = 0; up = false; disk = new_disk }

ready : (setting : Setting) (state : NodeState) (s : Standing) (peer : Peer) (config : Config) (old m : Medium)
    → IsOfRole (model_role peer.role) config → CanStart setting state s config old
    → ((s : Standing) → IsHeld s (memory_view old) → IsUnarmed old → IsAtRest s m)
    → (IsUnarmed old → m.bytes ≡ old.bytes)
    → IsIn (before_start setting state) 0 (record { peer = peer; config = config; machine = None; arms = Unarmed }) m
ready setting state s peer config old m of_role can rest bytes =
    let at_rest = rest s can.held can.unarmed in
    record {
      standing = s;
      stored = can.stored;
      powered = at_rest;
      unarmed = at_rest.unarmed;
      gates = ap both_gates_open (bytes can.unarmed) ∙ one_open s old can.held;
      armed = refl;
      arming = tt;
      setting = can.setting_is;
      role = sym of_role ∙ ap (λ (c : Setting). c.me.role) can.setting_is;
    }

running_now : (setting : Setting) (state : NodeState) (node : NodeValue) (m : Medium) → after_boot (shown state)
    ≡ shown state → IsIn (after_power_on (before_start setting state)) 1 node m
    → IsIn (start_condition setting state) 1 node m
running_now setting state node m booted is = record {
  standing = is.standing;
  stored = stored_as setting.me.role (after_boot state) state 0 1 is.standing (boot_alike state) is.stored;
  powered = powered_as true (after_power_on (before_start setting state)) (start_condition setting state) is.standing
      node.machine m refl (sym (boot_same state) ∙ booted) is.powered;
  unarmed = is.unarmed;
  gates = is.gates;
  armed = is.armed;
  arming = is.arming;
  setting = is.setting;
  role = is.role;
}

pub was_started : (peer : Peer) (config : Config) (o : Option Fall) (node : NodeValue) (old m new : Medium)
    → IsOfRole (model_role peer.role) config
    → ((s : Standing) → IsHeld s (memory_view old) → IsUnarmed old → IsAtRest s m)
    → (IsUnarmed old → m.bytes ≡ old.bytes) → m.calls ≡ old.calls
    → HasBooted (record { peer = peer; config = config; machine = None; arms = Unarmed }) m o node new
    → (setting : Setting) (state : NodeState) (s : Standing) → CanStart setting state s config old
    → IsStarted setting state old node new
was_started peer config None node old m new of_role rest bytes calls booted setting state s can =
    let up = booted (before_start setting state) 0 (ready setting state s peer config old m of_role can rest bytes)
    refl in
    record {
      is = running_now setting state node new can.booted up.leaves;
      calls = up.calls ∙ ap (λ (n : ℕ). risen n 1) calls;
    }
was_started peer config (Some fall) node old m new of_role rest bytes calls booted setting state s can =
    absurd (false≢true
    (booted (before_start setting state) 0 (ready setting state s peer config old m of_role can rest bytes)
    refl).fell)
