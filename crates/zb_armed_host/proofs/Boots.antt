-- A boot: nothing falls, or something falls on it.
use Rattle.std.proofs.Common.{◌≡◌, ◌==◌, arith, ℕ, List, get_or, ◌&&◌, Bool, true, false, not, nat_lt, Option, Some, None, Ok, refl, sym, ◌∙◌, ap, subst}
use Rattle.std.specs.List.{concat}
use Rattle.std.proofs.lemmas.Bool.{false≢true, lt-ltb, le-leb}
use Rattle.zb_base.specs.Outside.{risen, Unrisen}
use Rattle.zb_base.specs.declared.fault.OrMemory.{OrMemory}
use Rattle.zb_base.specs.declared.fault.OrMemory.TheVariants.{Fault, NoMemory as Lacking}
use Rattle.zb_node_types.specs.declared.change.Change.{Change}
use Rattle.zb_disk.specs.View.{Only, View}
use Rattle.zb_disk.specs.Memory.{Medium, is_stopped, will_refuse, powered, memory_tells, memory_view}
use Rattle.zb_store.specs.Layout.{Standing, IsWhole, stands as stands_on}
use Rattle.zb_store.specs.Steps.{WentThrough}
use Rattle.zb_store.specs.Store.{AllWhole, OpenStop, both_gates_open, open_calls}
use Rattle.zb_store.specs.Power.{StopFell, FailureFell}
use Rattle.zb_store.proofs.Powers.{open_stands, open_failure_stands, open_gates, open_failure_gates, open_closed, open_within, stop_falls, failure_falls}
use Rattle.zb_host.specs.declared.fault.RecordFault.{RecordFault}
use Rattle.zb_host.specs.declared.fault.RecordFault.TheVariants.{Disk, NoRecord, BadRecord, Worn}
use Rattle.zb_host.specs.Plans.{Restored, gives, bad}
use Rattle.zb_host.specs.Hosts.{Restoring, Hosted}
use Rattle.zb_host.specs.HostFaults.{IsBootFault}
use Rattle.zb_host.specs.Calls.{Words, IsBooted}
use Rattle.zb_host.proofs.Lives.{same_standing, same_record}
use Rattle.zb_model.specs.Play.{Armed, NotArmed, StopAfter, FailAt, BootCalls, count_of, falls, leaves_both}
use Rattle.zb_armed_host.specs.declared.fall.Fallen.{Fallen}
use Rattle.zb_armed_host.specs.Arms.{armed_medium, disarmed_medium, fired_seen}
use Rattle.zb_armed_host.specs.Driven.{memory_words, IsAtRest, IsDown, WasBooted, HasFallenAtBoot, boot_cause, fall_seen}
use Rattle.zb_armed_host.proofs.Ties.{boot_stop_leaves, boot_fail_leaves}
use Rattle.zb_armed_host.proofs.Armings.{on, taken_back, on_once_powered, powered_calls, armed_bytes, armed_calls, disarmed_calls, armed_only, disarmed_current, missed, unarmed_then}

-- all that an open needs of a disk at rest, on which this is armed

pub armed_stands : (s : Standing) (a : Armed) (m : Medium) → IsAtRest s m → stands_on (armed_medium a m).bytes ≡ Some s
armed_stands s a m rest = ap stands_on (armed_bytes a m) ∙ rest.whole.stands

pub all_whole : (s : Standing) (a : Armed) (m : Medium) → IsAtRest s m → AllWhole (memory_view (armed_medium a m))
all_whole s a m rest = λ c image. (s, subst (IsWhole s) (sym (armed_only a m rest.only c image)) rest.whole)

-- nothing fell
pub was_booted : {C : Type 0} (restored : Restoring) (recorded : C → List ℕ) (payload : List Change → List ℕ)
    (s : Standing) (w : List ℕ) (a : Armed) (host : Hosted C) (old m : Medium)
    → IsDown (memory_words restored recorded payload) s w a old → IsBooted (memory_words restored recorded payload)
    (armed_medium a old) (Ok host) m
    → WentThrough memory_tells (open_calls (armed_medium a old).bytes) (memory_view (armed_medium a old))
    (memory_view m)
    → WasBooted (memory_words restored recorded payload) s w a old host (disarmed_medium a m)
was_booted restored recorded payload s w a host old m down step went =
    let armed = armed_medium a old in
    let is = armed_stands s a old down.rest in
    let answer = step.answer refl in
    let same = same_standing answer.0 s armed.bytes answer.1 is in
    let calls : open_calls armed.bytes ≡ open_calls old.bytes = ap open_calls (armed_bytes a old) in
    record {
      missed = missed a (BootCalls (both_gates_open old.bytes)) (open_calls armed.bytes) old m down.arming (sym calls)
          went;
      current = disarmed_current restored recorded s host a m (step.ready (all_whole s a old down.rest) refl s is);
      recorded = same_record restored answer.0 s (recorded host.core) w same answer.2 down.gives_it;
      whole = answer.4 ∙ ap (λ (r : Standing). get_or r.content 0 0 == 1) same;
      calls = disarmed_calls a m ∙ went.calls ∙ ap (λ (n : ℕ). risen n (open_calls armed.bytes)) (armed_calls a old) ∙
          ap (λ (n : ℕ). risen old.calls n) calls;
      unarmed = unarmed_then a (open_calls armed.bytes) old m down.rest.unarmed went;
    }

-- whether the gates of both slots are still open

shut : (a : Armed) → leaves_both a (BootCalls false) ≡ false
unfolding leaves_both
shut NotArmed = refl
shut (StopAfter calls torn) = refl
shut (FailAt call) = refl

gates_stop : (s : Standing) (calls : ℕ) (torn : List ℕ) (old m : Medium) → (both : Bool) → both_gates_open old.bytes
    ≡ both → IsAtRest s old
    → OpenStop memory_tells s (memory_view (armed_medium (StopAfter calls torn) old)) (memory_view m)
    → falls (StopAfter calls torn) (BootCalls both) ≡ true
    → both_gates_open (powered m).bytes ≡ leaves_both (StopAfter calls torn) (BootCalls both)
gates_stop s calls torn old m true is rest stop fell = open_gates s (armed_medium (StopAfter calls torn) old) m calls
    stop rest.only is refl ∙ sym (boot_stop_leaves calls torn fell)
gates_stop s calls torn old m false is rest stop fell = open_closed s (armed_medium (StopAfter calls torn) old) m stop
    rest.only is ∙ sym (shut (StopAfter calls torn))

gates_fail : (s : Standing) (call : ℕ) (old m : Medium) → (both : Bool) → both_gates_open old.bytes ≡ both
    → IsAtRest s old
    → OpenStop memory_tells s (memory_view (armed_medium (FailAt call) old)) (memory_view m)
    → falls (FailAt call) (BootCalls both) ≡ true
    → both_gates_open (powered m).bytes ≡ leaves_both (FailAt call) (BootCalls both)
gates_fail s call old m true is rest stop fell = open_failure_gates s (armed_medium (FailAt call) old) m call stop
    rest.only is refl ∙ sym (boot_fail_leaves call fell)
gates_fail s call old m false is rest stop fell = open_closed s (armed_medium (FailAt call) old) m stop rest.only is ∙
    sym (shut (FailAt call))

-- an open that ended early, on a disk on which this was armed
pub fell_at_open : (s : Standing) (a : Armed) (old m : Medium) (fallen : Fallen) → IsAtRest s old
    → OpenStop memory_tells s (memory_view (armed_medium a old)) (memory_view m)
    → fallen.fall ≡ fall_seen (is_stopped old.arming) (is_stopped m.arming) → fallen.fired
    ≡ fired_seen a (is_stopped old.arming) (is_stopped m.arming) (will_refuse m.arming)
    → Only (powered m).bytes (memory_view (powered m)).images
    → HasFallenAtBoot s a old fallen (disarmed_medium a (powered m))
fell_at_open s NotArmed old m fallen rest stop is did only =
    let (n, low, ended) = open_within s old m stop (on old rest.unarmed) in
    absurd (false≢true (sym (rest.unarmed n) ∙ ended.refused refl))
fell_at_open s (StopAfter calls torn) old m fallen rest stop is did only =
    let a = StopAfter calls torn in
    let armed = armed_medium a old in
    let run = open_calls old.bytes in
    let it : StopFell calls run armed m = stop_falls run armed m calls (open_within s armed m stop refl) refl in
    let fell : falls a (BootCalls (both_gates_open old.bytes)) ≡ true =
    lt-ltb calls (count_of (BootCalls (both_gates_open old.bytes))) it.within in
    record {
      fell = fell;
      is = is ∙ ap (λ (b : Bool). fall_seen b (is_stopped m.arming)) (on old rest.unarmed) ∙ ap (fall_seen false)
          it.off;
      fired = did ∙ ap (λ (b : Bool). not b && is_stopped m.arming) (on old rest.unarmed) ∙ it.off;
      rest = record {
        only = only;
        whole = open_stands s armed m calls stop rest.whole rest.only refl;
        unarmed = taken_back (powered m).arming (on_once_powered m);
      };
      gates = gates_stop s calls torn old m (both_gates_open old.bytes) refl rest stop fell;
      calls = powered_calls m ∙ it.made;
    }
fell_at_open s (FailAt call) old m fallen rest stop is did only =
    let a = FailAt call in
    let armed = armed_medium a old in
    let run = open_calls old.bytes in
    let it : FailureFell call run armed m = failure_falls run armed m call (open_within s armed m stop refl) refl in
    let fell : falls a (BootCalls (both_gates_open old.bytes)) ≡ true =
    le-leb call (count_of (BootCalls (both_gates_open old.bytes))) it.within in
    record {
      fell = fell;
      is = is ∙ ap (λ (b : Bool). fall_seen b (is_stopped m.arming)) (on old rest.unarmed) ∙ ap (fall_seen false)
          it.on;
      fired = did ∙ ap (λ (b : Bool). not b && nat_lt 0 call && not (will_refuse m.arming)) (on old rest.unarmed)
          ∙ ap (λ (b : Bool). b && not (will_refuse m.arming)) (lt-ltb 0 call (omega (arith, it.first))) ∙ ap
          not it.spent;
      rest = record {
        only = only;
        whole = open_failure_stands s armed m call stop rest.whole rest.only refl;
        unarmed = taken_back (powered m).arming (on_once_powered m);
      };
      gates = gates_fail s call old m (both_gates_open old.bytes) refl rest stop fell;
      calls = powered_calls m ∙ it.made;
    }

-- ---- why a boot failed

abbrev fault_in : Fallen → OrMemory Fallen → Fallen
fault_in other (Fault fallen) = fallen
fault_in other Lacking = other

abbrev IsLack : OrMemory Fallen → Type 0
IsLack (Fault fallen) = ⊥
IsLack Lacking = Unit {0}

-- a fault that is told is how the call ended
pub fault_of : (seen fallen : Fallen) (fault : OrMemory RecordFault) → boot_cause fault seen ≡ Fault fallen → seen
    ≡ fallen
fault_of seen fallen (Fault fault) cause = ap (fault_in seen) cause
fault_of seen fallen Lacking cause = absurd (subst IsLack cause tt)

abbrev IsThere : Option Standing → Type 0
IsThere None = ⊥
IsThere (Some s) = Unit {0}

abbrev IsGood : Restored → Type 0
IsGood (gives w) = Unit {0}
IsGood (bad at) = ⊥

-- a boot that lacked memory left the count of faults
pub lacked : (restored : Restoring) (old new : View) (fault : OrMemory RecordFault) (fallen : Fallen)
    → boot_cause fault fallen ≡ Lacking
    → IsBootFault memory_tells restored old new fault → Unrisen old.faults new.faults
lacked restored old new (Fault fault) fallen cause of_fault = absurd (subst IsLack (sym cause) tt)
lacked restored old new Lacking fallen cause of_fault = of_fault

-- a boot of a node at rest fails for the disk or for out of memory alone
pub has_fallen_at_boot : {C : Type 0} (words : Words C Medium) (s : Standing) (w : List ℕ) (a : Armed)
    (old m : Medium) (fault : OrMemory RecordFault) (seen fallen : Fallen) → IsDown words s w a old
    → IsBootFault memory_tells words.restored (memory_view (armed_medium a old)) (memory_view m) fault
    → (fault ≡ Fault Disk → OpenStop memory_tells s (memory_view (armed_medium a old)) (memory_view m))
    → seen.fall ≡ fall_seen (is_stopped old.arming) (is_stopped m.arming) → seen.fired
    ≡ fired_seen a (is_stopped old.arming) (is_stopped m.arming) (will_refuse m.arming)
    → Only (powered m).bytes (memory_view (powered m)).images → boot_cause fault seen ≡ Fault fallen
    → HasFallenAtBoot s a old fallen (disarmed_medium a (powered m))
has_fallen_at_boot words s w a old m (Fault Disk) seen fallen down of_fault stopped is did only cause =
    let same : fallen ≡ seen = sym (ap (fault_in seen) cause) in
    fell_at_open s a old m fallen down.rest (stopped refl) (ap (λ (f : Fallen). f.fall) same ∙ is)
    (ap (λ (f : Fallen). f.fired) same ∙ did) only
has_fallen_at_boot words s w a old m Lacking seen fallen down of_fault stopped is did only cause =
    absurd (subst IsLack cause tt)
has_fallen_at_boot words s w a old m (Fault NoRecord) seen fallen down of_fault stopped is did only cause =
    absurd (subst IsThere (sym (armed_stands s a old down.rest) ∙ of_fault.0 refl) tt)
has_fallen_at_boot words s w a old m (Fault (BadRecord at)) seen fallen down of_fault stopped is did only cause =
    let (r, there, wrong) = of_fault.0 refl in
    let same = same_standing r s (armed_medium a old).bytes there (armed_stands s a old down.rest) in
    absurd (subst IsGood
    (sym down.gives_it ∙ sym (ap (λ (x : Standing). words.restored x.content (concat x.payloads)) same) ∙ wrong)
    tt)
has_fallen_at_boot words s w a old m (Fault Worn) seen fallen down of_fault stopped is did only cause = absurd of_fault
