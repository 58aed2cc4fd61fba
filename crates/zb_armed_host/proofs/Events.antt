-- An event of a node that is up: nothing falls, or something falls on its commit.
use Rattle.std.proofs.Common.{◌≡◌, ◌≢◌, ◌&&◌, ℕ, List, [], ◌∷◌, Option, Some, None, Result, Err, Bool, true, false, not, nat_lt, if◌then◌else◌, refl, sym, ◌∙◌, ap, subst, arith}
use Rattle.std.proofs.lemmas.Bool.{false≢true, lt-ltb, le-leb}
use Rattle.zb_base.specs.Outside.{risen}
use Rattle.zb_node_types.specs.declared.change.Change.{Change}
use Rattle.zb_disk.specs.View.{Only}
use Rattle.zb_disk.specs.Memory.{Medium, is_stopped, will_refuse, powered, memory_tells, memory_view}
use Rattle.zb_store.specs.Layout.{Standing, IsWhole}
use Rattle.zb_store.specs.Steps.{WentThrough, StoppedWithin}
use Rattle.zb_store.specs.Store.{Place, both_gates_open}
use Rattle.zb_store.specs.Power.{stop_commits, failure_commits, stop_opens_both, failure_opens_both, StopFell, FailureFell}
use Rattle.zb_store.proofs.Powers.{append_stands, append_failure_stands, append_gates, put_stands, put_failure_stands, put_gates, put_failure_gates, append_within, put_within, stop_falls, failure_falls}
use Rattle.zb_host.specs.declared.fault.RecordFault.{RecordFault}
use Rattle.zb_host.specs.declared.fault.RecordFault.TheVariants as why
use Rattle.zb_host.specs.Hosts.{Gives, Hosted, IsCurrent, writes_whole, next_standing, CommitStop, HasStopped, commit_calls}
use Rattle.zb_host.specs.HostFaults.{IsUnstored}
use Rattle.zb_host.specs.Calls.{Words}
use Rattle.zb_host.proofs.Stops.{stands_then, within_then, gates_then}
use Rattle.zb_model.specs.Play.{Armed, NotArmed, StopAfter, FailAt, count_of, falls}
use Rattle.zb_armed_host.specs.declared.fall.Fallen.{Fallen}
use Rattle.zb_armed_host.specs.Arms.{IsUnarmed, armed_medium, disarmed_medium, commit_of, calls_after, fired_seen}
use Rattle.zb_armed_host.specs.Driven.{IsUp, WasHandled, HasFallen, fall_seen}
use Rattle.zb_armed_host.proofs.Ties.{stop_stands, fail_stands, stop_leaves, fail_leaves}
use Rattle.zb_armed_host.proofs.Armings.{on, taken_back, on_once_powered, powered_calls, armed_calls, disarmed_calls, disarmed_current, rearmed, none_falls, missed, unarmed_then}

abbrev Empty : List Change → Type 0
Empty [] = Unit {0}
Empty (e ∷ es) = ⊥

some : (e : Change) (es : List Change) → (e ∷ es) ≢ []
some e es is = subst Empty (sym is) tt

-- a commit's calls
pub count_is : (whole : Bool) → count_of (commit_of whole) ≡ commit_calls whole
count_is true = refl
count_is false = refl

made_is : (count : ℕ) (whole : Bool) → calls_after count (commit_of whole) ≡ risen count (commit_calls whole)
made_is count true = refl
made_is count false = refl

-- nothing fell
pub was_handled : {C : Type 0} (words : Words C Medium) (s : Standing) (a : Armed) (before after : Hosted C)
    (old m : Medium) (changes : List Change) → IsUp words s a before old
    → (changes ≢ []
    → IsCurrent words.restored words.recorded
    (next_standing (writes_whole before) s (words.recorded after.core) (words.payload changes)) after
    (memory_view m))
    → (changes ≡ [] → IsCurrent words.restored words.recorded s after (memory_view m))
    → (changes ≢ [] → WentThrough memory_tells (commit_calls (writes_whole before)) (memory_view (armed_medium a old))
    (memory_view m)) → (changes ≡ [] → m ≡ armed_medium a old)
    → (changes ≢ [] → after.whole ≡ false) → (changes ≡ [] → after.whole ≡ before.whole)
    → WasHandled words s a before old changes after (disarmed_medium a m)
was_handled words s a before after old m [] up kept idle_kept through idle entry same = record {
  missed = none_falls a up.arming;
  current = disarmed_current words.restored words.recorded s after a m (idle_kept refl);
  calls = disarmed_calls a m ∙ ap (λ (x : Medium). x.calls) (idle refl) ∙ armed_calls a old;
  unarmed = subst (λ (x : Medium). IsUnarmed (disarmed_medium a x)) (sym (idle refl)) (rearmed a old up.unarmed);
  entry_next = λ was. same refl ∙ was;
}
was_handled words s a before after old m (e ∷ es) up kept idle_kept through idle entry same =
    let whole = writes_whole before in
    let went = through (some e es) in
    record {
      missed = missed a (commit_of whole) (commit_calls whole) old m up.arming (count_is whole) went;
      current = disarmed_current words.restored words.recorded
          (next_standing whole s (words.recorded after.core) (words.payload (e ∷ es))) after a m (kept (some e es));
      calls = disarmed_calls a m ∙ went.calls ∙ ap (λ (n : ℕ). risen n (commit_calls whole)) (armed_calls a old) ∙ sym
          (made_is old.calls whole);
      unarmed = unarmed_then a (commit_calls whole) old m up.unarmed went;
      entry_next = λ was. entry (some e es);
    }

-- a commit that ended early, on a disk on which this was armed
module _ (whole : Bool) (s : Standing) (content payload : List ℕ) (old m : Medium) where
  within : (a : Armed) → CommitStop memory_tells whole s content payload (memory_view (armed_medium a old))
      (memory_view m)
      → StoppedWithin memory_tells (commit_calls whole) (memory_view (armed_medium a old)) (memory_view m)
  within a stop = let armed = armed_medium a old in
      within_then memory_tells whole s content payload (memory_view armed) (memory_view m)
      (append_within memory_tells s payload (memory_view armed) (memory_view m))
      (put_within memory_tells s content (memory_view armed) (memory_view m)) stop

  none : IsUnarmed old → CommitStop memory_tells whole s content payload (memory_view old) (memory_view m) → ⊥
  none quiet stop = let (n, low, ended) = within NotArmed stop in false≢true (sym (quiet n) ∙ ended.refused refl)

  left_stop : (calls : ℕ) (torn : List ℕ) → CommitStop memory_tells whole s content payload
      (memory_view (armed_medium (StopAfter calls torn) old)) (memory_view m)
      → IsWhole (if stop_commits calls torn then next_standing whole s content payload else s) (powered m).bytes
  left_stop calls torn stop = let armed = armed_medium (StopAfter calls torn) old in
      stands_then memory_tells whole (stop_commits calls torn) s content payload (powered m).bytes (memory_view armed)
      (memory_view m)
      (λ x. append_stands s payload armed m calls x refl) (λ x. put_stands s content armed m calls x refl) stop

  left_fail : (call : ℕ) → CommitStop memory_tells whole s content payload
      (memory_view (armed_medium (FailAt call) old)) (memory_view m)
      → IsWhole (if failure_commits call then next_standing whole s content payload else s) (powered m).bytes
  left_fail call stop = let armed = armed_medium (FailAt call) old in
      stands_then memory_tells whole (failure_commits call) s content payload (powered m).bytes (memory_view armed)
      (memory_view m)
      (λ x. append_failure_stands s payload armed m call x refl)
      (λ x. put_failure_stands s content armed m call x refl) stop

  gates_stop : (calls : ℕ) (torn : List ℕ) → CommitStop memory_tells whole s content payload
      (memory_view (armed_medium (StopAfter calls torn) old)) (memory_view m)
      → both_gates_open (powered m).bytes ≡ (whole && stop_opens_both calls torn)
  gates_stop calls torn stop = let armed = armed_medium (StopAfter calls torn) old in
      gates_then memory_tells whole (stop_opens_both calls torn) (both_gates_open (powered m).bytes) s content payload
      (memory_view armed) (memory_view m)
      (λ x. append_gates s payload armed m x) (λ x. put_gates s content armed m calls x refl) stop

  gates_fail : (call : ℕ) → CommitStop memory_tells whole s content payload
      (memory_view (armed_medium (FailAt call) old)) (memory_view m)
      → both_gates_open (powered m).bytes ≡ (whole && failure_opens_both call)
  gates_fail call stop = let armed = armed_medium (FailAt call) old in
      gates_then memory_tells whole (failure_opens_both call) (both_gates_open (powered m).bytes) s content payload
      (memory_view armed) (memory_view m)
      (λ x. append_gates s payload armed m x) (λ x. put_failure_gates s content armed m call x refl) stop

-- it fell on the event's commit
fell_some : {C : Type 0} (words : Words C Medium) (s : Standing) (a : Armed) (before after : Hosted C)
    (old m : Medium) (e : Change) (es : List Change) (fallen : Fallen) → IsUp words s a before old
    → CommitStop memory_tells (writes_whole before) s (words.recorded after.core) (words.payload (e ∷ es))
    (memory_view (armed_medium a old)) (memory_view m)
    → Gives words.restored
    (next_standing (writes_whole before) s (words.recorded after.core) (words.payload (e ∷ es)))
    (words.recorded after.core)
    → fallen.fall ≡ fall_seen (is_stopped old.arming) (is_stopped m.arming) → fallen.fired
    ≡ fired_seen a (is_stopped old.arming) (is_stopped m.arming) (will_refuse m.arming)
    → Only (powered m).bytes (memory_view (powered m)).images
    → HasFallen words s a before old (e ∷ es) fallen after (disarmed_medium a (powered m))
fell_some words s NotArmed before after old m e es fallen up stop gives is did only =
    absurd (none (writes_whole before) s (words.recorded after.core) (words.payload (e ∷ es)) old m up.unarmed stop)
fell_some words s (StopAfter calls torn) before after old m e es fallen up stop gives is did only =
    let whole = writes_whole before in
    let content = words.recorded after.core in
    let payload = words.payload (e ∷ es) in
    let next = next_standing whole s content payload in
    let a = StopAfter calls torn in
    let armed = armed_medium a old in
    let it : StopFell calls (commit_calls whole) armed m = stop_falls (commit_calls whole) armed m calls
    (within whole s content payload old m a stop) refl in
    let fell : falls a (commit_of whole) ≡ true = lt-ltb calls (count_of (commit_of whole))
    (omega (arith, count_is whole, it.within)) in
    record {
      some = some e es;
      fell = fell;
      is = is ∙ ap (λ (b : Bool). fall_seen b (is_stopped m.arming)) (on old up.unarmed) ∙ ap (fall_seen false) it.off;
      fired = did ∙ ap (λ (b : Bool). not b && is_stopped m.arming) (on old up.unarmed) ∙ it.off;
      gives_it = gives;
      rest = record {
        only = only;
        whole = subst (λ (b : Bool). IsWhole (if b then next else s) (powered m).bytes)
            (sym (stop_stands whole calls torn fell)) (left_stop whole s content payload old m calls torn stop);
        unarmed = taken_back (powered m).arming (on_once_powered m);
      };
      gates = gates_stop whole s content payload old m calls torn stop ∙ sym (stop_leaves whole calls torn fell);
      calls = powered_calls m ∙ it.made;
    }
fell_some words s (FailAt call) before after old m e es fallen up stop gives is did only =
    let whole = writes_whole before in
    let content = words.recorded after.core in
    let payload = words.payload (e ∷ es) in
    let next = next_standing whole s content payload in
    let a = FailAt call in
    let armed = armed_medium a old in
    let it : FailureFell call (commit_calls whole) armed m = failure_falls (commit_calls whole) armed m call
    (within whole s content payload old m a stop) refl in
    let fell : falls a (commit_of whole) ≡ true = le-leb call (count_of (commit_of whole))
    (omega (arith, count_is whole, it.within)) in
    record {
      some = some e es;
      fell = fell;
      is = is ∙ ap (λ (b : Bool). fall_seen b (is_stopped m.arming)) (on old up.unarmed) ∙ ap (fall_seen false) it.on;
      fired = did ∙ ap (λ (b : Bool). not b && nat_lt 0 call && not (will_refuse m.arming)) (on old up.unarmed)
          ∙ ap (λ (b : Bool). b && not (will_refuse m.arming)) (lt-ltb 0 call (omega (arith, it.first))) ∙ ap
          not it.spent;
      gives_it = gives;
      rest = record {
        only = only;
        whole = subst (λ (b : Bool). IsWhole (if b then next else s) (powered m).bytes)
            (sym (fail_stands whole call fell)) (left_fail whole s content payload old m call stop);
        unarmed = taken_back (powered m).arming (on_once_powered m);
      };
      gates = gates_fail whole s content payload old m call stop ∙ sym (fail_leaves whole call fell);
      calls = powered_calls m ∙ it.made;
    }

pub has_fallen : {C : Type 0} (words : Words C Medium) (s : Standing) (a : Armed) (before after : Hosted C)
    (old m : Medium) (changes : List Change) (fallen : Fallen) → IsUp words s a before old → changes ≢ []
    → CommitStop memory_tells (writes_whole before) s (words.recorded after.core) (words.payload changes)
    (memory_view (armed_medium a old)) (memory_view m)
    → Gives words.restored (next_standing (writes_whole before) s (words.recorded after.core) (words.payload changes))
    (words.recorded after.core)
    → fallen.fall ≡ fall_seen (is_stopped old.arming) (is_stopped m.arming) → fallen.fired
    ≡ fired_seen a (is_stopped old.arming) (is_stopped m.arming) (will_refuse m.arming)
    → Only (powered m).bytes (memory_view (powered m)).images
    → HasFallen words s a before old changes fallen after (disarmed_medium a (powered m))
has_fallen words s a before after old m [] fallen up there stop gives is did only = absurd (there refl)
has_fallen words s a before after old m (e ∷ es) fallen up there stop gives is did only =
    fell_some words s a before after old m e es fallen up stop gives is did only

abbrev generation_in : Option Place → ℕ
generation_in None = 0
generation_in (Some p) = p.generation

-- the same fault ends a call in the same way
abbrev pub Ended : Type 0
Ended = Result (Unit {0}) RecordFault

abbrev pub err : RecordFault → Ended
err f = Err f

pub err_is : {f g : RecordFault} → f ≡ g → err f ≡ err g
err_is is = ap err is

-- an event that failed, by its fault: no other comes of a host that is up over such a disk
pub fallen_by : {C : Type 0} (words : Words C Medium) (s : Standing) (a : Armed) (before after : Hosted C)
    (old m : Medium) (fault : RecordFault) (items : List Change) (fallen : Fallen) → IsUp words s a before old
    → IsUnstored (writes_whole before) before.store (memory_view (armed_medium a old)) (memory_view m) fault
    → items ≢ []
    → (fault ≡ why.Disk → HasStopped memory_tells words.restored (writes_whole before) s
    (words.recorded after.core) (words.payload items) (memory_view (armed_medium a old)) (memory_view m))
    → fallen.fall ≡ fall_seen (is_stopped old.arming) (is_stopped m.arming) → fallen.fired
    ≡ fired_seen a (is_stopped old.arming) (is_stopped m.arming) (will_refuse m.arming)
    → Only (powered m).bytes (memory_view (powered m)).images
    → HasFallen words s a before old items fallen after (disarmed_medium a (powered m))
fallen_by words s a before after old m why.Disk items fallen up of_fault some stopped is did only =
    let stop = stopped refl in
    has_fallen words s a before after old m items fallen up some stop.0 stop.1 is did only
fallen_by words s a before after old m why.NoRecord items fallen up of_fault some stopped is did only =
    absurd of_fault
fallen_by words s a before after old m (why.BadRecord at) items fallen up of_fault some stopped is did only =
    absurd of_fault
fallen_by words s a before after old m why.Worn items fallen up of_fault some stopped is did only =
    let p = of_fault.1.0 in
    let same : p.generation ≡ s.generation = ap generation_in (sym of_fault.1.1 ∙ up.current.place) in
    let last : p.generation ≡ 18446744073709551615 = of_fault.1.2 in
    absurd (omega (arith, same, last, up.lasting))
