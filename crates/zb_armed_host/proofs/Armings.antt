-- What arming and disarming leave of a disk in memory, and what an armed one does to a run of calls.
use Rattle.std.proofs.Common.{◌≡◌, ◌+◌, ◌≤◌, ◌<◌, ℕ, List, Bool, true, false, if◌then◌else◌, refl, sym, ◌∙◌, ap, arith}
use Rattle.std.proofs.lemmas.Bool.{false≢true, lt-leb, le-ltb}
use Rattle.zb_disk.specs.declared.memory.Arming.{Arming}
use Rattle.zb_disk.specs.declared.memory.Arming.TheVariants.{Unarmed, Stop, Fail, Stopped}
use Rattle.zb_disk.specs.View.{Only}
use Rattle.zb_disk.specs.Memory.{Medium, refuses, is_stopped, armed, powered, memory_tells, memory_view}
use Rattle.zb_store.specs.Layout.{Standing}
use Rattle.zb_store.specs.Steps.{WentThrough}
use Rattle.zb_store.proofs.Powers.{stop_missed, failure_missed, still_on}
use Rattle.zb_host.specs.Hosts.{Restoring, Hosted, IsCurrent}
use Rattle.zb_model.specs.Play.{Armed, NotArmed, StopAfter, FailAt, Calls, NoCalls, count_of, falls}
use Rattle.zb_armed_host.specs.Arms.{IsArming, IsUnarmed, armed_medium, disarmed_medium}

-- a disk that refuses nothing isn't off
on_by : (x : Arming) → ((k : ℕ) → refuses x k ≡ false) → is_stopped x ≡ false
on_by Unarmed quiet = refl
on_by (Stop calls) quiet = refl
on_by (Fail call) quiet = refl
on_by Stopped quiet = absurd (false≢true (sym (quiet 0)))

pub on : (m : Medium) → IsUnarmed m → is_stopped m.arming ≡ false
on m quiet = on_by m.arming quiet

-- what is taken back of a disk that isn't off
pub taken_back : (x : Arming) → is_stopped x ≡ false → (k : ℕ) → refuses (armed x Unarmed) k ≡ false
taken_back x is k = ap (λ b. refuses (if b then x else Unarmed) k) is

on_after_power : (b : Bool) (x : Arming) → is_stopped x ≡ b → is_stopped (if b then Unarmed else x) ≡ false
on_after_power true x is = refl
on_after_power false x is = is

pub on_once_powered : (m : Medium) → is_stopped (powered m).arming ≡ false
unfolding powered
on_once_powered m = on_after_power (is_stopped m.arming) m.arming refl

pub powered_calls : (m : Medium) → (powered m).calls ≡ m.calls
unfolding powered
powered_calls m = refl

-- the bytes, the images and the count of calls stay

pub armed_bytes : (a : Armed) (m : Medium) → (armed_medium a m).bytes ≡ m.bytes
armed_bytes NotArmed m = refl
armed_bytes (StopAfter calls torn) m = refl
armed_bytes (FailAt call) m = refl

pub armed_calls : (a : Armed) (m : Medium) → (armed_medium a m).calls ≡ m.calls
armed_calls NotArmed m = refl
armed_calls (StopAfter calls torn) m = refl
armed_calls (FailAt call) m = refl

pub disarmed_calls : (a : Armed) (m : Medium) → (disarmed_medium a m).calls ≡ m.calls
disarmed_calls NotArmed m = refl
disarmed_calls (StopAfter calls torn) m = refl
disarmed_calls (FailAt call) m = refl

pub armed_only : (a : Armed) (m : Medium) → Only m.bytes (memory_view m).images
    → Only m.bytes (memory_view (armed_medium a m)).images
armed_only NotArmed m only = only
armed_only (StopAfter calls torn) m only = only
armed_only (FailAt call) m only = only

pub armed_current : {C : Type 0} (restored : Restoring) (recorded : C → List ℕ) (s : Standing) (host : Hosted C)
    (a : Armed) (m : Medium)
    → IsCurrent restored recorded s host (memory_view m)
    → IsCurrent restored recorded s host (memory_view (armed_medium a m))
armed_current restored recorded s host NotArmed m it = it
armed_current restored recorded s host (StopAfter calls torn) m it = record {
  place = it.place;
  held = record { whole = it.held.whole; closed = it.held.closed };
  gives_it = it.gives_it;
  later = it.later;
}
armed_current restored recorded s host (FailAt call) m it = record {
  place = it.place;
  held = record { whole = it.held.whole; closed = it.held.closed };
  gives_it = it.gives_it;
  later = it.later;
}

pub disarmed_current : {C : Type 0} (restored : Restoring) (recorded : C → List ℕ) (s : Standing) (host : Hosted C)
    (a : Armed) (m : Medium)
    → IsCurrent restored recorded s host (memory_view m)
    → IsCurrent restored recorded s host (memory_view (disarmed_medium a m))
disarmed_current restored recorded s host NotArmed m it = it
disarmed_current restored recorded s host (StopAfter calls torn) m it = record {
  place = it.place;
  held = record { whole = it.held.whole; closed = it.held.closed };
  gives_it = it.gives_it;
  later = it.later;
}
disarmed_current restored recorded s host (FailAt call) m it = record {
  place = it.place;
  held = record { whole = it.held.whole; closed = it.held.closed };
  gives_it = it.gives_it;
  later = it.later;
}

-- armed, with no call made, and taken back
pub rearmed : (a : Armed) (m : Medium) → IsUnarmed m → IsUnarmed (disarmed_medium a (armed_medium a m))
rearmed NotArmed m quiet = quiet
rearmed (StopAfter calls torn) m quiet = λ k. refl
rearmed (FailAt call) m quiet = λ k. refl

-- where no call is made nothing falls
pub none_falls : (a : Armed) → IsArming a → falls a NoCalls ≡ false
none_falls NotArmed arming = refl
none_falls (StopAfter calls torn) arming = le-ltb calls 0 (omega arith)
none_falls (FailAt call) arming = lt-leb call 0 (omega arith)

-- where all calls of a run went through nothing fell
pub missed : (a : Armed) (calls : Calls) (run : ℕ) (old m : Medium) → IsArming a → count_of calls ≡ run
    → WentThrough memory_tells run (memory_view (armed_medium a old)) (memory_view m) → falls a calls ≡ false
missed NotArmed calls run old m arming is went = refl
missed (StopAfter n torn) calls run old m arming is went =
    let late : run ≤ n = stop_missed run (armed_medium (StopAfter n torn) old) m n went refl in
    le-ltb n (count_of calls) (omega (arith, is, late))
missed (FailAt n) calls run old m arming is went =
    let late : run < n = failure_missed run (armed_medium (FailAt n) old) m n went refl arming in
    lt-leb n (count_of calls) (omega (arith, is, late))

-- and then nothing is armed, once that is taken back
pub unarmed_then : (a : Armed) (run : ℕ) (old m : Medium) → IsUnarmed old
    → WentThrough memory_tells run (memory_view (armed_medium a old)) (memory_view m) → IsUnarmed (disarmed_medium a m)
unarmed_then NotArmed run old m quiet went = λ k. went.later refl k ∙ quiet (k + run)
unarmed_then (StopAfter calls torn) run old m quiet went =
    taken_back m.arming (still_on run (armed_medium (StopAfter calls torn) old) m went)
unarmed_then (FailAt call) run old m quiet went =
    taken_back m.arming (still_on run (armed_medium (FailAt call) old) m went)

pub unarmed_stays : (run : ℕ) (old new : Medium) → IsUnarmed old → WentThrough memory_tells run (memory_view old)
    (memory_view new) → IsUnarmed new
unarmed_stays run old new quiet went = unarmed_then NotArmed run old new quiet went
