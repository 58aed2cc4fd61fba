-- The first half of lockout over whole runs, and both halves together.
use Rattle.std.proofs.Common.{◌≡◌, ℕ, ◌<◌, ◌+◌, Bool, true, false, cond, not, ◌&&◌, ◌||◌, List, [], ◌∷◌, ◌++◌, map, length, slice_get, Option, Some, None, option_to_list, flat_map, fold, nat_eq, refl, sym, ap, ◌∙◌, subst, arith, append_assoc, eqb-true, eq-eqb, lt_irrefl, ◌⊎◌, inl, inr, ⊎_elim}
use Rattle.std.proofs.lemmas.Bool.{false≢true, and_parts}
use Rattle.std.proofs.lemmas.List.Sums.{fold-append}
use Rattle.std.specs.List.{AllByRecursion, list_any}
use Rattle.zb_model.specs.Data.{Bytes, Layer, Nwk, Aps, Station, Term, Draw, Install, Row, Live, Removed, Moved, Task, SayTo, TellTo, DoKnock, DoRejoin, DoTimer, AskFor, HasChild, DoProvision, DoRemove, DoRoll, DoSwitch, DoAgain, DoShare, Received, Place, Reason, Down, WrongState}
use Rattle.zb_model.specs.Lines.{Line, Declared, GivenNet, GivenLink, Counter, Changed, Refuse, Forge, DownReset, Boot}
use Rattle.zb_model.specs.State.{LinkKey, same_key}
use Rattle.zb_model.specs.Tools.{Tools}
use Rattle.zb_model.specs.Rules.{Plan, centre_of}
use Rattle.zb_model.specs.Answer.{Answer, answer_by, plan_of, counting_of}
use Rattle.zb_model.specs.Readings.{state_of, is_up, speaker, stations_of, station_line}
use Rattle.zb_model.specs.Secrets.{holds, holds_some, carried, key_in, terms_in, terms_of, exposed, ever, ever_in, ever_from, well_known, network_in, network_keys, forged_in, passes_on, based_line, each_line, ideal_line, ideal, private}
use Rattle.zb_model.specs.Play.{Schedule, Node, Event, Own, RollOver, Deliver, Reset, PowerOn, ShowRecord, ArmStop, ArmFail, InjectBytes, ForgeNet, ForgeNetAps, ForgeOpen, Step, Disk, NotArmed, BootCalls, stations, setting_of, start, net_line, link_line, limit_line, disk_of, with_disk, falls, stands, calls_for, leaves_both, group_of, cut_of, fallen_line, answer_step, boot_step, refused_step, answer_counted, task_step, deliver_step, frame_at, supply, forged_net, forged_both, forged_open, step_by, step, groups}
use Rattle.zb_model.specs.Schedules.{Names, NamesNode, IsSchedule}
use Rattle.zb_model.specs.Transcript.{run_lines, transcript, end_line}
use Rattle.zb_model.specs.Claims.{Each, drawn_in, until_live, is_live_line, taken_in, Obtains, LockedFrom, LockedLine, Locked}
use Rattle.law_run.specs.Opening.{Opens}
use Rattle.law_run.specs.Commanding.{OneCentre, ShowsKeys}
use Rattle.law_run.specs.KeysApart.{EntersOwn, KeysApart, given_keys, network_key}
use Rattle.law_run.specs.Lockout.{KeepsOutAfter, KeepsRemovedOut, RefusesAfter, RefusesOutsiders}
use Rattle.law_run.proofs.Basics.{each-append, append-nil', nat_eq-refl, same_key-refl}
use Rattle.law_run.proofs.FreshLines.{all-append}
use Rattle.law_run.proofs.Judged.{In, all-in, nowhere}
use Rattle.law_run.proofs.AnyLemmas.{any-in}
use Rattle.law_run.proofs.OutsiderRuns.{step-tagged, undeclared, outsiders-refused}
use Rattle.law_run.proofs.LockoutDeeds.{HasRow, HasNet, HasPair, OutcomeFits, any-of, plan-fits}
use Rattle.law_run.proofs.ConfirmsLines.{in-append'}
use Rattle.law_run.proofs.ConfirmsRuns.{no-stations, start-stations}
use Rattle.law_run.proofs.LockoutRows.{in-left, in-right}
use Rattle.law_run.proofs.LockoutKept.{Away, late_line, away, away-snoc, row-back, drawn, Safe, exposed-free, holds-in}
use Rattle.law_run.proofs.LockoutSteps.{Case, centre, given_to, InNet, InGiven, InNets, IsKept, Whole, whole-step, IsIdle, idle-one, Carries, forge-step, forged-carries, present-own}
use Rattle.law_run.proofs.LockoutMoves.{Standing, Honest, RemovesOther, Goes, GoesOn, goes-none, goes-append, goes-line, goes-cons, goes-idle, moves_lines, map-append, present, TaskFits, Entered, row-is-new, new-rows, new-by, drawn-lines, here-in, no-key}
use Rattle.law_run.proofs.LockoutGroups.{Grounds}
use Rattle.law_run.proofs.LockoutDevices.{from-ever}
use Rattle.law_run.proofs.LockoutRuns.{group-goes, cut-goes, fallen-idle}

-- The lines of a step

either : (P : List Line → Type 0) (b : Bool) (u v : Step) → P u.lines → P v.lines → P (cond b u v).lines
either P true u v p q = p
either P false u v p q = q

answer-goes : (x : Case) → Grounds x → (h : List Line) → stations_of h ≡ stations x.schedule
    → (disks : List Disk) (number n : ℕ) → Names x.schedule n → (task : Task) → TaskFits x h task → (p : Plan)
    → OutcomeFits (setting_of x.schedule n) (state_of h n) task p.outcome
    → GoesOn x h
    (answer_step h disks number n
    (answer_by x.tools (setting_of x.schedule n) (state_of h n)
    (counting_of (setting_of x.schedule n) (state_of h n) p) p)).lines
unfolding answer_by
answer-goes x g h known disks number n named task f p fits =
    either (λ ls. GoesOn x h ls) (falls (disk_of disks n).armed (calls_for h n a.edits)) cut whole
    (cut-goes x g h known (disk_of disks n).armed (calls_for h n a.edits) number n named task f
    (counting_of (setting_of x.schedule n) (state_of h n) p) p fits a refl)
    (group-goes x g h h known number n named task f p fits)
  where
    a : Answer
    a = answer_by x.tools (setting_of x.schedule n) (state_of h n)
        (counting_of (setting_of x.schedule n) (state_of h n) p) p

    cut : Step
    cut = record {
      lines = cut_of (disk_of disks n).armed (calls_for h n a.edits) number n a;
      disks =
          with_disk disks n
          (record { armed = NotArmed; both_open = leaves_both (disk_of disks n).armed (calls_for h n a.edits) });
    }

    whole : Step
    whole = record { lines = group_of h number n a; disks = disks }

refused-goes : (x : Case) (h : List Line) (disks : List Disk) (number n : ℕ) (reason : Reason)
    → GoesOn x h (refused_step disks number n reason).lines
unfolding IsIdle
refused-goes x h disks number n reason = goes-idle x h (Refuse number n Place.AtEvent reason ∷ []) (tt, tt)

task-goes : (x : Case) → Grounds x → (h : List Line) → stations_of h ≡ stations x.schedule
    → (disks : List Disk) (number n : ℕ) (task : Task) → Names x.schedule n → TaskFits x h task
    → GoesOn x h (task_step x.tools counting_of x.schedule h disks number n task).lines
unfolding task_step
task-goes x g h known disks number n task named f =
    either (λ ls. GoesOn x h ls) (is_up h n)
    (answer_step h disks number n (answer_counted x.tools counting_of (setting_of x.schedule n) (state_of h n) p))
    (refused_step disks number n Down)
    (answer-goes x g h known disks number n named task f p
    (plan-fits x.tools g.opens (setting_of x.schedule n) (state_of h n) task))
    (refused-goes x h disks number n Down)
  where
    p : Plan
    p = plan_of x.tools (setting_of x.schedule n) (state_of h n) task

supplied : (x : Case) (h : List Line) (bytes : Bytes) → TaskFits x h (Received bytes (supply x.schedule h))
supplied x h bytes = record { draw = inr refl; entered = λ p k e. absurd e }

rolled : (x : Case) (h : List Line) → TaskFits x h (DoRoll (supply x.schedule h))
rolled x h = record { draw = inr refl; entered = λ p k e. absurd e }

-- what a node does itself
own-task : (x : Case) (h : List Line) (n : ℕ) (task : Task) → EntersOwn x.schedule (Own n task) → TaskFits x h task
own-task x h n (DoProvision device key) e = record {
  draw = inl refl;
  entered = λ p k q. record {
    at_centre = λ c. e.0 (q.0 ∙ c);
    well = λ c. e.1 (q.1 ∙ c);
    draws = subst (λ y. Rattle.law_run.specs.KeysApart.IsNoneOf x.schedule.draws y) q.1 e.2;
    others =
        subst (λ m. AllByRecursion
        (λ (y : Node). Rattle.law_run.specs.KeysApart.IsNoneOf (Rattle.law_run.specs.KeysApart.keys_of_others m y) k)
        x.schedule.nodes) q.0
        (subst (λ b. AllByRecursion
        (λ (y : Node). Rattle.law_run.specs.KeysApart.IsNoneOf
        (Rattle.law_run.specs.KeysApart.keys_of_others device y) b) x.schedule.nodes) q.1 e.3);
  };
}
own-task x h n (DoRoll draw) e = record { draw = inl e; entered = λ p k q. absurd q }
own-task x h n (Received bytes draw) e = record { draw = inl e; entered = λ p k q. absurd q }
own-task x h n (SayTo to bytes) e = record { draw = inl refl; entered = λ p k q. absurd q }
own-task x h n (TellTo partner bytes) e = record { draw = inl refl; entered = λ p k q. absurd q }
own-task x h n DoKnock e = record { draw = inl refl; entered = λ p k q. absurd q }
own-task x h n DoRejoin e = record { draw = inl refl; entered = λ p k q. absurd q }
own-task x h n DoTimer e = record { draw = inl refl; entered = λ p k q. absurd q }
own-task x h n (AskFor partner) e = record { draw = inl refl; entered = λ p k q. absurd q }
own-task x h n (HasChild child returns) e = record { draw = inl refl; entered = λ p k q. absurd q }
own-task x h n (DoRemove device via) e = record { draw = inl refl; entered = λ p k q. absurd q }
own-task x h n DoSwitch e = record { draw = inl refl; entered = λ p k q. absurd q }
own-task x h n (DoAgain device) e = record { draw = inl refl; entered = λ p k q. absurd q }
own-task x h n (DoShare device partner) e = record { draw = inl refl; entered = λ p k q. absurd q }

deliver-goes : (x : Case) → Grounds x → (h : List Line) → stations_of h ≡ stations x.schedule
    → (disks : List Disk) (number n : ℕ) (o : Option Bytes) → Names x.schedule n
    → GoesOn x h (deliver_step x.tools counting_of x.schedule h disks number n o).lines
deliver-goes x g h known disks number n None named =
    refused-goes x h disks number n (cond (is_up h n) Reason.NoFrame Down)
deliver-goes x g h known disks number n (Some bytes) named =
    task-goes x g h known disks number n (Received bytes (supply x.schedule h)) named (supplied x h bytes)

boot-goes : (x : Case) (h : List Line) (disks : List Disk) (number n : ℕ) → GoesOn x h (boot_step disks number n).lines
unfolding IsIdle
boot-goes x h disks number n =
    either (λ ls. GoesOn x h ls) (falls (disk_of disks n).armed (BootCalls (disk_of disks n).both_open))
    (record {
      lines = fallen_line (disk_of disks n).armed number n;
      disks =
          with_disk disks n
          (record {
            armed = NotArmed;
            both_open = leaves_both (disk_of disks n).armed (BootCalls (disk_of disks n).both_open);
          });
    })
    (record {
      lines = Boot number n
          ∷ [];
      disks = with_disk disks n (record { armed = (disk_of disks n).armed; both_open = false });
    })
    (goes-idle x h (fallen_line (disk_of disks n).armed number n) (fallen-idle (disk_of disks n).armed number n))
    (goes-idle x h (Boot number n ∷ []) (tt, tt))

forge-line : (x : Case) (h : List Line) (e : ℕ) (t : Term) (ls : List Line) → GoesOn x (h ++ Forge e t ∷ []) ls
    → GoesOn x h (Forge e t ∷ ls)
forge-line x h e t ls more =
    goes-cons x h (Forge e t) ls
    (λ o w. (forge-step x h e t (forged-carries x h t w (λ k q. o.forged t (here-in t []) k q)) w, tt)) more

step-goes : (x : Case) → Grounds x → (h : List Line) → stations_of h ≡ stations x.schedule
    → (disks : List Disk) (number : ℕ) (event : Event) → NamesNode x.schedule event → EntersOwn x.schedule event
    → GoesOn x h (step x.tools x.schedule h disks number event).lines
unfolding step step_by forged_net forged_both forged_open IsIdle
step-goes x g h known disks number (Own n task) named e = task-goes x g h known disks number n task named
    (own-task x h n task e)
step-goes x g h known disks number (RollOver n) named e =
    task-goes x g h known disks number n (DoRoll (supply x.schedule h)) named (rolled x h)
step-goes x g h known disks number (Deliver frame n) named e =
    deliver-goes x g h known disks number n (frame_at h frame) named
step-goes x g h known disks number (Reset n) named e =
    either (λ ls. GoesOn x h ls) (is_up h n) (record { lines = DownReset number n ∷ []; disks = disks })
    (refused_step disks number n Down) (goes-idle x h (DownReset number n ∷ []) (tt, tt))
    (refused-goes x h disks number n Down)
step-goes x g h known disks number (PowerOn n) named e =
    either (λ ls. GoesOn x h ls) (is_up h n) (refused_step disks number n WrongState) (boot_step disks number n)
    (refused-goes x h disks number n WrongState) (boot-goes x h disks number n)
step-goes x g h known disks number (ShowRecord n) named e = goes-idle x h _ (tt, tt)
step-goes x g h known disks number (ArmStop n calls torn) named e = goes-none x h
step-goes x g h known disks number (ArmFail n call) named e = goes-none x h
step-goes x g h known disks number (InjectBytes bytes) named e = goes-idle x h _ (tt, tt)
step-goes x g h known disks number (ForgeNet to from source key sequence counter content) named e =
    forge-line x h number _ _ (goes-idle x _ _ (tt, tt))
step-goes x g h known disks number (ForgeNetAps to from source key sequence counter label base aps_counter command)
    named e = forge-line x h number _ _ (forge-line x _ number _ _ (goes-idle x _ _ (tt, tt)))
step-goes x g h known disks number (ForgeOpen to from source label base aps_counter command) named e =
    forge-line x h number _ _ (goes-idle x _ _ (tt, tt))

-- All groups

more-stations : (x : Case) (h : List Line) (disks : List Disk) (number : ℕ) (event : Event) → stations_of h
    ≡ stations x.schedule → stations_of (h ++ (step x.tools x.schedule h disks number event).lines)
    ≡ stations x.schedule
unfolding stations_of
more-stations x h disks number event known =
    fold-append station_line [] h (step x.tools x.schedule h disks number event).lines
    ∙ no-stations (fold station_line [] h) (step x.tools x.schedule h disks number event).lines
    (undeclared number (step x.tools x.schedule h disks number event).lines
    (step-tagged x.tools x.schedule h disks number event))
    ∙ known

groups-go : (x : Case) → Grounds x → (h : List Line) → stations_of h ≡ stations x.schedule
    → (disks : List Disk) (number : ℕ) (events : List Event) → AllByRecursion (NamesNode x.schedule) events
    → AllByRecursion (EntersOwn x.schedule) events
    → GoesOn x h (groups x.tools x.schedule h disks number events)
unfolding groups
groups-go x g h known disks number [] named own = goes-none x h
groups-go x g h known disks number (event ∷ events) named own =
    goes-append x h (step x.tools x.schedule h disks number event).lines
    (groups x.tools x.schedule (h ++ (step x.tools x.schedule h disks number event).lines)
    (step x.tools x.schedule h disks number event).disks (number + 1) events)
    (step-goes x g h known disks number event named.0 own.0)
    (groups-go x g (h ++ (step x.tools x.schedule h disks number event).lines)
    (more-stations x h disks number event known) (step x.tools x.schedule h disks number event).disks (number + 1)
    events named.1 own.1)

-- The start

record Early (x : Case) (h : List Line) : Type 0 where
  rows : (p : ℕ) (k : Bytes) → HasRow (state_of h (centre x)) p k → ⊥
  late : (k : Bytes) → In k (away x.device h).keys → ⊥

early-safe : (x : Case) (h : List Line) → Early x h → (k : Bytes) → Safe (centre x) x.device h k → ⊥
early-safe x h e k (inl i) = e.late k i
early-safe x h e k (inr o) = e.rows o.partner k o.row

abbrev StartLine : Case → Line → Type 0
StartLine x (Declared p) = Unit {0}
StartLine x (GivenNet n k q) = (n ≡ x.device → InGiven x k) × (n ≡ centre x → InNets x k)
StartLine x (GivenLink n p k) = (n ≡ x.device → InGiven x k) × (n ≡ centre x → ⊥)
StartLine x (Counter n layer v) = Unit {0}
StartLine x _ = ⊥

start-early : (x : Case) (h : List Line) (l : Line) → StartLine x l → Early x h → Early x (h ++ l ∷ [])
unfolding speaker
start-early x h (Declared p) s e =
    record {
      rows = λ q k r. ⊎_elim (λ a. e.rows q k a) (λ a. a.1) (row-back h (Declared p) (centre x) q k r);
      late = λ k i. e.late k (subst (λ a. In k a.keys) (away-snoc x.device h (Declared p)) i);
    }
start-early x h (GivenNet n k q) s e =
    record {
      rows = λ p j r. ⊎_elim (λ a. e.rows p j a) (λ a. a.1) (row-back h (GivenNet n k q) (centre x) p j r);
      late = λ j i. e.late j (subst (λ a. In j a.keys) (away-snoc x.device h (GivenNet n k q)) i);
    }
start-early x h (GivenLink n p k) s e =
    record {
      rows = λ q j r. ⊎_elim (λ a. e.rows q j a) (λ a. s.1 a.0)
          (row-back h (GivenLink n p k) (centre x) q j r);
      late =
          λ j i. e.late j (subst (λ a. In j a.keys) (away-snoc x.device h (GivenLink n p k)) i);
    }
start-early x h (Counter n layer v) s e =
    record {
      rows = λ q k r. ⊎_elim (λ a. e.rows q k a) (λ a. a.1) (row-back h (Counter n layer v) (centre x) q k r);
      late = λ k i. e.late k (subst (λ a. In k a.keys) (away-snoc x.device h (Counter n layer v)) i);
    }
start-early x h _ s e = absurd s

cond-in : (b : Bool) (k j : Bytes) → In j (cond b (k ∷ []) []) → (b ≡ true) × (k ≡ j)
unfolding In
cond-in true k j (inl e) = (refl, e)
cond-in true k j (inr i) = absurd i
cond-in false k j i = absurd i

given-fits : (x : Case) (h : List Line) (l : Line) (n : ℕ) (k : Bytes) → Early x (h ++ l ∷ [])
    → ((t : Term) → In t (terms_in l) → ⊥) → ever_in (stations_of h) x.device l ≡ cond (nat_eq n x.device) (k ∷ []) []
    → (n ≡ x.device → InGiven x k) → Rattle.law_run.proofs.LockoutSteps.StepFits x h l
given-fits x h l n k e none same given = record {
  terms = λ t i. absurd (none t i);
  held = λ j i. (
    λ s. early-safe x (h ++ l ∷ []) e j s,
    λ q. inr (subst (λ y. InGiven x y) (found j i).1 (given (eqb-true n x.device (found j i).0))),
  );
  safe = λ j s. absurd (early-safe x (h ++ l ∷ []) e j s);
}
  where
    found : (j : Bytes) → In j (ever_in (stations_of h) x.device l) → (nat_eq n x.device ≡ true) × (k ≡ j)
    found j i = cond-in (nat_eq n x.device) k j (subst (λ ks. In j ks) same i)

start-line : (x : Case) (h : List Line) (l : Line) → StartLine x l → Early x h → Whole x h → Whole x (h ++ l ∷ [])
    × RemovesOther x l
unfolding speaker IsIdle
start-line x h (Declared p) s e w = (idle-one x h (Declared p) tt w, tt)
start-line x h (Counter n layer v) s e w = (idle-one x h (Counter n layer v) tt w, tt)
start-line x h (GivenNet n k q) s e w = (
  whole-step x h (GivenNet n k q) w
      (given-fits x h (GivenNet n k q) n k (start-early x h (GivenNet n k q) s e) (λ t i. nowhere t i) refl s.0)
      (record {
        rows = λ p j c r. absurd r;
        nets = λ j c r. (λ p y. e.rows p j y, inr (subst (λ y. InNets x y) r (s.1 c)));
        pairs = λ j c r. absurd r;
        draw = λ j i. absurd (nowhere j i);
      })
      (record { came = λ g p j c r. absurd r; went = λ g. inl g }),
  tt,
)
start-line x h (GivenLink n p k) s e w = (
  whole-step x h (GivenLink n p k) w
      (given-fits x h (GivenLink n p k) n k (start-early x h (GivenLink n p k) s e) (λ t i. nowhere t i) refl s.0)
      (record {
        rows = λ q j c r. absurd (s.1 c);
        nets = λ j c r. absurd r;
        pairs = λ j c r. absurd r;
        draw = λ j i. absurd (nowhere j i);
      })
      (record { came = λ g q j c r. absurd (s.1 c); went = λ g. inl g }),
  tt,
)
start-line x h _ s e w = absurd s

start-goes : (x : Case) (h ls : List Line) → AllByRecursion (StartLine x) ls → Early x h → GoesOn x h ls
start-goes x h [] a e = goes-none x h
start-goes x h (l ∷ ls) a e = goes-cons x h l ls (λ o w. start-line x h l a.0 e w)
    (start-goes x (h ++ l ∷ []) ls a.1 (start-early x h l a.0 e))

-- the start lines of a schedule

flat-all : (Q : Line → Type 0) (f : Node → List Line) (ms : List Node)
    → ((m : Node) → In m ms → AllByRecursion Q (f m)) → AllByRecursion Q (flat_map f ms)
unfolding In
flat-all Q f [] k = tt
flat-all Q f (m ∷ ms) k = all-append Q (f m) (flat_map f ms) (k m (inl refl)) (flat-all Q f ms (λ y i. k y (inr i)))

in-flat : (f : Node → List Bytes) (k : Bytes) (ms : List Node) (m : Node) → In m ms → In k (f m) → In k (flat_map f ms)
unfolding In
in-flat f k [] m i j = absurd i
in-flat f k (y ∷ ms) m (inl e) j = in-left k (f y) (flat_map f ms) (subst (λ z. In k (f z)) (sym e) j)
in-flat f k (y ∷ ms) m (inr i) j = in-right k (f y) (flat_map f ms) (in-flat f k ms m i j)

in-given : (x : Case) (m : Node) (k : Bytes) → In m x.schedule.nodes → m.station.eui ≡ x.device → In k (given_keys m)
    → InGiven x k
in-given x m k i e j = in-flat (given_to x.device) k x.schedule.nodes m i
    (subst (λ b. In k (cond b (given_keys m) [])) (sym (eq-eqb m.station.eui x.device e)) j)

net-starts : (x : Case) (m : Node) → In m x.schedule.nodes → (o : Option (Bytes × ℕ)) → m.network ≡ o
    → AllByRecursion (StartLine x) (net_line m.station.eui o)
net-starts x m i None e = tt
net-starts x m i (Some given) e = (
  (
    λ d. in-given x m given.0 i d (in-right given.0 (option_to_list m.code) (network_key m.network) there),
    λ c. in-flat (λ (y : Node). network_key y.network) given.0 x.schedule.nodes m i there,
  ),
  tt,
)
  where
    there : In given.0 (network_key m.network)
    there = subst (λ o. In given.0 (network_key o)) (sym e) (here-in given.0 [])

code-starts : (x : Case) → KeysApart x.schedule → (m : Node) → In m x.schedule.nodes → (o : Option Bytes) → m.code ≡ o
    → AllByRecursion (StartLine x) (link_line (centre x) m.station.eui o)
code-starts x g m i None e = tt
code-starts x g m i (Some key) e = (
  (
    λ d. in-given x m key i d
        (in-left key (option_to_list m.code) (network_key m.network)
        (subst (λ o. In key (option_to_list o)) (sym e) (here-in key []))),
    λ c. no-key key (sym (none c) ∙ e),
  ),
  tt,
)
  where
    none : m.station.eui ≡ centre x → m.code ≡ None
    none c = all-in (λ (y : Node). y.station.eui ≡ centre x → y.code ≡ None) x.schedule.nodes g.no_code m i c

limit-starts : (x : Case) (n : ℕ) (layer : Layer) (v : ℕ) (b : Bool)
    → AllByRecursion (StartLine x) (cond b [] (Counter n layer v ∷ []))
limit-starts x n layer v true = tt
limit-starts x n layer v false = (tt, tt)

declared-starts : (x : Case) (ps : List Station) → AllByRecursion (StartLine x) (map Declared ps)
declared-starts x [] = tt
declared-starts x (p ∷ ps) = (tt, declared-starts x ps)

start-starts : (x : Case) → KeysApart x.schedule → AllByRecursion (StartLine x) (start x.schedule)
unfolding start
start-starts x g =
    all-append (StartLine x) (map Declared (stations x.schedule)) (nets ++ (links ++ limits))
    (declared-starts x (stations x.schedule))
    (all-append (StartLine x) nets (links ++ limits)
    (flat-all (StartLine x) (λ (m : Node). net_line m.station.eui m.network) x.schedule.nodes
    (λ m i. net-starts x m i m.network refl))
    (all-append (StartLine x) links limits
    (flat-all (StartLine x) (λ (m : Node). link_line (centre_of (stations x.schedule)) m.station.eui m.code)
    x.schedule.nodes (λ m i. code-starts x g m i m.code refl))
    (flat-all (StartLine x)
    (λ (m : Node). limit_line m.station.eui Nwk m.start_nwk ++ limit_line m.station.eui Aps m.start_aps)
    x.schedule.nodes
    (λ m i. all-append (StartLine x) (limit_line m.station.eui Nwk m.start_nwk)
    (limit_line m.station.eui Aps m.start_aps)
    (limit-starts x m.station.eui Nwk m.start_nwk (nat_eq m.start_nwk 0))
    (limit-starts x m.station.eui Aps m.start_aps (nat_eq m.start_aps 0))))))
  where
    nets : List Line
    nets = flat_map (λ (m : Node). net_line m.station.eui m.network) x.schedule.nodes

    links : List Line
    links = flat_map (λ (m : Node). link_line (centre_of (stations x.schedule)) m.station.eui m.code) x.schedule.nodes

    limits : List Line
    limits =
        flat_map (λ (m : Node). limit_line m.station.eui Nwk m.start_nwk ++ limit_line m.station.eui Aps m.start_aps)
        x.schedule.nodes

no-row : (c p : ℕ) (k : Bytes) → HasRow (state_of [] c) p k → ⊥
unfolding state_of In
no-row c p k r = r.among

no-net : (c : ℕ) (k : Bytes) → HasNet (state_of [] c) k → ⊥
unfolding state_of In
no-net c k r = r.among

no-pair : (c : ℕ) (k : Bytes) → HasPair (state_of [] c) k → ⊥
unfolding state_of In
no-pair c k r = r.among

no-link : (c : ℕ) (r : LinkKey) → In r (state_of [] c).links → ⊥
unfolding state_of In
no-link c r i = i

none-late : (d : ℕ) (k : Bytes) → In k (away d []).keys → ⊥
unfolding away In
none-late d k i = i

nothing-early : (x : Case) → Early x []
nothing-early x = record { rows = no-row (centre x); late = none-late x.device }

nothing-whole : (x : Case) → Whole x []
unfolding terms_of ever In
nothing-whole x = record {
  kept = record {
    closed = λ t i. absurd i;
    out = λ k i. absurd i;
    terms_known = λ t i. absurd i;
    ever_known = λ k i. absurd i;
    none = λ g k i. none-late x.device k i;
    late_drawn = λ k i. absurd (none-late x.device k i);
  };
  ledger = record {
    one = λ p q k a b. absurd (no-row (centre x) p k a);
    net = λ p k a b. no-row (centre x) p k a;
    pair = λ p k a b. no-row (centre x) p k a;
    pair_drawn = λ k a. absurd (no-pair (centre x) k a);
    net_known = λ k a. absurd (no-net (centre x) k a);
    centre = λ p k a q. no-row (centre x) p k a;
    well = λ p k a q. no-row (centre x) p k a;
    row_net = λ p k a. absurd (no-row (centre x) p k a);
    drawn_net = λ k i. absurd i;
    drawn_from = λ k i. absurd i;
  };
  dead = λ g r i. absurd (no-link (centre x) r i);
}

-- The whole run

run-goes : (x : Case) → Grounds x → GoesOn x [] (run_lines x.tools x.schedule)
unfolding run_lines
run-goes x g =
    goes-append x [] (start x.schedule) (groups x.tools x.schedule (start x.schedule) [] 1 x.schedule.events)
    (start-goes x [] (start x.schedule) (start-starts x g.keys) (nothing-early x))
    (groups-go x g (start x.schedule) (start-stations x.schedule) [] 1 x.schedule.events g.schedule.events
    g.keys.entered)

transcript-goes : (x : Case) → Grounds x → GoesOn x [] (transcript x.tools x.schedule)
unfolding transcript end_line IsIdle
transcript-goes x g = goes-append x [] (run_lines x.tools x.schedule)
    (end_line x.tools (length x.schedule.events) (run_lines x.tools x.schedule) ∷ []) (run-goes x g)
    (goes-idle x (run_lines x.tools x.schedule)
    (end_line x.tools (length x.schedule.events) (run_lines x.tools x.schedule) ∷ []) (tt, tt))

-- What the two words of the end line say of each line

in-holds : (xs : List Bytes) (k : Bytes) → In k xs → holds xs k ≡ true
in-holds xs k i = any-of (same_key k) k xs i (same_key-refl k)

flat-lines : (f : Line → List Bytes) (k : Bytes) (ls : List Line) (l : Line) → In l ls → In k (f l)
    → In k (flat_map f ls)
unfolding In
flat-lines f k [] l i j = absurd i
flat-lines f k (y ∷ ls) l (inl e) j = in-left k (f y) (flat_map f ls) (subst (λ z. In k (f z)) (sym e) j)
flat-lines f k (y ∷ ls) l (inr i) j = in-right k (f y) (flat_map f ls) (flat-lines f k ls l i j)

flat-terms : (f : Line → List Term) (t : Term) (ls : List Line) (l : Line) → In l ls → In t (f l)
    → In t (flat_map f ls)
unfolding In
flat-terms f t [] l i j = absurd i
flat-terms f t (y ∷ ls) l (inl e) j = in-left t (f y) (flat_map f ls) (subst (λ z. In t (f z)) (sym e) j)
flat-terms f t (y ∷ ls) l (inr i) j = in-right t (f y) (flat_map f ls) (flat-terms f t ls l i j)

any-false : (test : Term → Bool) (ts : List Term) (t : Term) → list_any test ts ≡ false → In t ts → test t ≡ false
unfolding In
any-false test [] t e i = absurd i
any-false test (u ∷ us) t e (inl q) = ap test (sym q) ∙ first (test u) (list_any test us) e
  where
    first : (a b : Bool) → (a || b) ≡ false → a ≡ false
    first true b e = absurd (false≢true (sym e))
    first false b e = refl
any-false test (u ∷ us) t e (inr i) = any-false test us t (second (test u) (list_any test us) e) i
  where
    second : (a b : Bool) → (a || b) ≡ false → b ≡ false
    second true b e = absurd (false≢true (sym e))
    second false b e = e

honest-lines : (x : Case) → passes_on x.tools x.lines ≡ false → (h ls : List Line)
    → each_line (ideal_line x.tools) h ls ≡ true → ((l : Line) → In l ls → In l x.lines) → Each (Honest x) h ls
unfolding each_line network_keys passes_on In
honest-lines x none h [] e within = tt
honest-lines x none h (l ∷ ls) e within = (
  record {
    ideal = (and_parts (ideal_line x.tools h l) (each_line (ideal_line x.tools) (h ++ l ∷ []) ls) e).0;
    net = λ k i. flat-lines network_in k x.lines l (within l (inl refl)) i;
    forged =
        λ t i k c n. false≢true
        (sym (any-false (λ (u : Term). holds_some (flat_map network_in x.lines) (carried x.tools u))
        (flat_map forged_in x.lines) t none (flat-terms forged_in t x.lines l (within l (inl refl)) i))
        ∙ ap (λ o. holds_some (flat_map network_in x.lines) o) c ∙ in-holds (flat_map network_in x.lines) k n);
  },
  honest-lines x none (h ++ l ∷ []) ls
      (and_parts (ideal_line x.tools h l) (each_line (ideal_line x.tools) (h ++ l ∷ []) ls) e).1
      (λ y i. within y (inr i)),
)

abbrev pub case_of : Tools → Schedule → ℕ → Case
case_of tools w d = record { tools = tools; schedule = w; lines = run_lines tools w; device = d }

not-passed : (a b : Bool) → (a && not b) ≡ true → b ≡ false
not-passed true true e = absurd (false≢true e)
not-passed true false e = refl
not-passed false b e = absurd (false≢true e)

grounds_of : (tools : Tools) → Opens tools → ShowsKeys tools → (w : Schedule) → IsSchedule w → OneCentre w
    → KeysApart w → (d : ℕ) → (d ≡ centre_of (stations w) → ⊥) → Grounds (case_of tools w d)
grounds_of tools opens shows w i one keys d apart =
    record { opens = opens; shows = shows; schedule = i; one = one; keys = keys; apart = apart }

law-goes : (tools : Tools) → Opens tools → ShowsKeys tools → (w : Schedule) → IsSchedule w → OneCentre w → KeysApart w
    → ideal tools (run_lines tools w) ≡ true → private tools (run_lines tools w) ≡ true
    → (d : ℕ) → (d ≡ centre_of (stations w) → ⊥) → Goes (case_of tools w d) [] (transcript tools w)
unfolding transcript end_line ideal private ideal_line In
law-goes tools opens shows w i one keys e q d apart =
    transcript-goes x (grounds_of tools opens shows w i one keys d apart)
    (each-append (Honest x) [] (run_lines tools w) (end_line tools (length w.events) (run_lines tools w) ∷ [])
    (honest-lines x
    (not-passed (each_line (based_line tools) [] (run_lines tools w)) (passes_on tools (run_lines tools w)) q) []
    (run_lines tools w) e (λ l i. i))
    (record { ideal = refl; net = λ k j. absurd j; forged = λ t j. absurd j }, tt)) (nothing-whole x)
  where
    x : Case
    x = case_of tools w d

-- The lines up to a device's next admission

until-stands : (x : Case) (d : ℕ) (g ls : List Line) → Each (λ y l. Standing x y) g ls → Standing x (g ++ ls)
    → Standing x (g ++ until_live d ls)
until-stands x d g [] b s = s
until-stands x d g (l ∷ ls) b s =
    by-test (is_live_line d l)
    (subst (Standing x) (append_assoc g (l ∷ []) (until_live d ls))
    (until-stands x d (g ++ l ∷ []) ls b.1 (subst (Standing x) (sym (append_assoc g (l ∷ []) ls)) s)))
  where
    by-test : (t : Bool) → Standing x (g ++ l ∷ until_live d ls) → Standing x (g ++ cond t [] (l ∷ until_live d ls))
    by-test true more = subst (Standing x) (sym (append-nil' g)) b.0
    by-test false more = more

abbrev StillGone : Away → Away → Type 0
StillGone a b = (b.gone ≡ true) × ((k : Bytes) → In k a.keys → In k b.keys)

gone-line : (d : ℕ) (a : Away) (l : Line) → is_live_line d l ≡ false → a.gone ≡ true → StillGone a (late_line d a l)
unfolding In
gone-line d a (Changed e n (Moved (Live x))) live g =
    subst (λ t. StillGone a (cond t (record { gone = false; keys = [] }) a)) (sym live) (g, λ k i. i)
gone-line d a (Changed e n (Moved (Removed x))) live g = by-test (nat_eq x d)
  where
    by-test : (t : Bool) → StillGone a (cond t (record { gone = true; keys = a.keys }) a)
    by-test true = (refl, λ k i. i)
    by-test false = (g, λ k i. i)
gone-line d a (Changed e n (Moved (Draw k))) live g = by-test a.gone
  where
    by-test : (t : Bool) → StillGone a (cond t (record { gone = true; keys = k ∷ a.keys }) a)
    by-test true = (refl, λ j i. inr i)
    by-test false = (g, λ j i. i)
gone-line d a _ live g = (g, λ k i. i)

draw-late : (d : ℕ) (a : Away) (l : Line) (k : Bytes) → a.gone ≡ true → In k (drawn_in l) → In k (late_line d a l).keys
unfolding In
draw-late d a (Changed e n (Moved (Draw j))) k g i =
    subst (λ t. In k (cond t (record { gone = true; keys = j ∷ a.keys }) a).keys) (sym g) (head i)
  where
    head : In k (j ∷ []) → In k (j ∷ a.keys)
    head (inl q) = inl q
    head (inr q) = absurd q
draw-late d a _ k g i = absurd i

gone-until : (d : ℕ) (a : Away) (ls : List Line) → a.gone ≡ true → (k : Bytes) → In k a.keys
    ⊎ In k (flat_map drawn_in (until_live d ls)) → In k (fold (late_line d) a (until_live d ls)).keys
gone-until d a [] g k (inl i) = i
gone-until d a [] g k (inr i) = absurd (nowhere k i)
gone-until d a (l ∷ ls) g k i = by-test (is_live_line d l) refl (λ b h j. gone-until d b ls h k j) i
  where
    by-test : (t : Bool) → is_live_line d l ≡ t
        → ((b : Away) → b.gone ≡ true → In k b.keys ⊎ In k (flat_map drawn_in (until_live d ls))
        → In k (fold (late_line d) b (until_live d ls)).keys)
        → In k a.keys ⊎ In k (flat_map drawn_in (cond t [] (l ∷ until_live d ls)))
        → In k (fold (late_line d) a (cond t [] (l ∷ until_live d ls))).keys
    by-test true e more (inl j) = j
    by-test true e more (inr j) = absurd (nowhere k j)
    by-test false e more (inl j) = more (late_line d a l) (gone-line d a l e g).0 (inl ((gone-line d a l e g).1 k j))
    by-test false e more (inr j) = more (late_line d a l) (gone-line d a l e g).0
        (⊎_elim (λ q. inl (draw-late d a l k g q)) (λ q. inr q)
        (in-append' k (drawn_in l) (flat_map drawn_in (until_live d ls)) j))

removed-away : (d e n : ℕ) (h : List Line) → (away d (h ++ Changed e n (Moved (Removed d)) ∷ [])).gone ≡ true
removed-away d e n h = ap (λ a. a.gone) (away-snoc d h (Changed e n (Moved (Removed d)))) ∙ ap
    (λ t. (cond t (record { gone = true; keys = (away d h).keys }) (away d h)).gone) (nat_eq-refl d)

drawn-late : (d e n : ℕ) (h after : List Line) (k : Bytes) → In k (flat_map drawn_in (until_live d after))
    → In k (away d ((h ++ Changed e n (Moved (Removed d)) ∷ []) ++ until_live d after)).keys
unfolding away
drawn-late d e n h after k i =
    subst (λ a. In k a.keys)
    (sym (fold-append (late_line d) (record { gone = false; keys = [] }) (h ++ Changed e n (Moved (Removed d)) ∷ [])
    (until_live d after)))
    (gone-until d
    (fold (late_line d) (record { gone = false; keys = [] }) (h ++ Changed e n (Moved (Removed d)) ∷ [])) after
    (removed-away d e n h) k (inr i))

-- A key that the device installed is among those that it ever held

taken-ever : (known : List Station) (d : ℕ) (l : Line) (k : Bytes) → In k (taken_in d l) → In k (ever_in known d l)
taken-ever known d (Changed e m (Moved (Install key q))) k i = i
taken-ever known d (Changed e m (Moved (Row p key t))) k i = by-test (nat_eq m d) i
  where
    by-test : (b : Bool) → In k (cond b (key ∷ []) [])
        → In k (cond (b || (Rattle.zb_model.specs.Secrets.is_the_centre known m && nat_eq p d)) (key ∷ []) [])
    by-test true i = i
    by-test false i = absurd (nowhere k i)
taken-ever known d _ k i = absurd (nowhere k i)

all-taken : (h : List Line) (d : ℕ) (k : Bytes) → In k (flat_map (taken_in d) h) → In k (ever h d)
unfolding ever
all-taken h d k i = from-ever taken_in taken-ever [] d h k i

-- No safe key is known

well-safe : (x : Case) → KeysApart x.schedule → (h : List Line) → Standing x h → Safe (centre x) x.device h well_known
    → ⊥
well-safe x keys h s (inl i) = Rattle.law_run.proofs.LockoutMoves.new-well x keys
    (from (s.0.late_drawn well_known i)).0 well_known (from (s.0.late_drawn well_known i)).1 refl
  where
    from : In well_known (drawn h) → (i : ℕ) × (slice_get x.schedule.draws i ≡ Some well_known)
    from j = ((s.1.drawn_from well_known j).0, (s.1.drawn_from well_known j).2)
well-safe x keys h s (inr o) = s.1.well o.partner well_known o.row refl

obtains-none : (x : Case) → KeysApart x.schedule → (h : List Line) → Standing x h → (k : Bytes)
    → Safe (centre x) x.device h k → Obtains x.tools h x.device k → ⊥
unfolding In
obtains-none x keys h s k safe (inl a) =
    s.0.out k (all-taken h x.device k (any-in (flat_map (taken_in x.device) h) k a)) safe
obtains-none x keys h s k safe (inr a) = exposed-free x.tools (λ y. Safe (centre x) x.device h y) h
    (well_known ∷ ever h x.device) (λ t i y c q. inr (s.0.closed t i y c q)) free k
    (in-holds (exposed x.tools h (well_known ∷ ever h x.device)) k
    (any-in (exposed x.tools h (well_known ∷ ever h x.device)) k a)) safe
  where
    free : (y : Bytes) → holds (well_known ∷ ever h x.device) y ≡ true → Safe (centre x) x.device h y → ⊥
    free y e q = case (holds-in (well_known ∷ ever h x.device) y e) q
      where
        case : In y (well_known ∷ ever h x.device) → Safe (centre x) x.device h y → ⊥
        case (inl w) q = well-safe x keys h s (subst (λ z. Safe (centre x) x.device h z) (sym w) q)
        case (inr i) q = s.0.out y i q

-- The law

keeps-after : (tools : Tools) (w : Schedule) → KeysApart w → (h : List Line) (l : Line) (after : List Line)
    → ((d : ℕ) → (d ≡ centre_of (stations w) → ⊥) → Each (λ y m. Standing (case_of tools w d) y) (h ++ l ∷ []) after
    × Standing (case_of tools w d) ((h ++ l ∷ []) ++ after))
    → ((d : ℕ) → RemovesOther (case_of tools w d) l) → KeepsOutAfter tools h l after
keeps-after tools w keys h (Changed e n (Moved (Removed d))) after stands other = λ k drawn_ obtains.
    obtains-none (case_of tools w d) keys taken
    (until-stands (case_of tools w d) d (h ++ Changed e n (Moved (Removed d)) ∷ []) after (stands d (other d)).0
    (stands d (other d)).1) k
    (inl (drawn-late d e n h after k (any-in (flat_map drawn_in (until_live d after)) k drawn_))) obtains
  where
    taken : List Line
    taken = (h ++ Changed e n (Moved (Removed d)) ∷ []) ++ until_live d after
keeps-after tools w keys h _ after stands other = tt

keeps-from : (tools : Tools) (w : Schedule) → KeysApart w → (h ls : List Line)
    → ((d : ℕ) → (d ≡ centre_of (stations w) → ⊥) → Each (λ y m. Standing (case_of tools w d) y) h ls
    × Standing (case_of tools w d) (h ++ ls))
    → ((d : ℕ) → AllByRecursion (RemovesOther (case_of tools w d)) ls) → KeepsRemovedOut tools h ls
keeps-from tools w keys h [] stands other = tt
keeps-from tools w keys h (l ∷ ls) stands other = (
  keeps-after tools w keys h l ls later (λ d. (other d).0),
  keeps-from tools w keys (h ++ l ∷ []) ls later
      (λ d. (other d).1),
)
  where
    later : (d : ℕ) → (d ≡ centre_of (stations w) → ⊥) → Each (λ y m. Standing (case_of tools w d) y) (h ++ l ∷ []) ls
        × Standing (case_of tools w d) ((h ++ l ∷ []) ++ ls)
    later d a =
        ((stands d a).0.1, subst (Standing (case_of tools w d)) (sym (append_assoc h (l ∷ []) ls)) (stands d a).1)

-- removals don't speak of the device of a case
same-removes : (tools : Tools) (w : Schedule) (d c : ℕ) (ls : List Line)
    → AllByRecursion (RemovesOther (case_of tools w d)) ls → AllByRecursion (RemovesOther (case_of tools w c)) ls
same-removes tools w d c [] a = tt
same-removes tools w d c (l ∷ ls) a = (one l a.0, same-removes tools w d c ls a.1)
  where
    one : (l : Line) → RemovesOther (case_of tools w d) l → RemovesOther (case_of tools w c) l
    one (Changed e n (Moved (Removed p))) b = b
    one _ b = tt

next-apart : (n : ℕ) → (n + 1) ≡ n → ⊥
next-apart n e = lt_irrefl n (subst (λ m. n < m) e (omega arith))

pub keeps-removed-out : (tools : Tools) → Opens tools → ShowsKeys tools → (w : Schedule) → IsSchedule w → OneCentre w
    → KeysApart w → ideal tools (run_lines tools w) ≡ true → private tools (run_lines tools w) ≡ true
    → KeepsRemovedOut tools [] (transcript tools w)
keeps-removed-out tools opens shows w i one keys e q =
    keeps-from tools w keys [] (transcript tools w)
    (λ d a. ((goes d a).before, ((goes d a).whole.kept, (goes d a).whole.ledger)))
    (λ d. same-removes tools w (centre_of (stations w) + 1) d (transcript tools w)
    (goes (centre_of (stations w) + 1) (next-apart (centre_of (stations w)))).removals)
  where
    goes : (d : ℕ) → (d ≡ centre_of (stations w) → ⊥) → Goes (case_of tools w d) [] (transcript tools w)
    goes d a = law-goes tools opens shows w i one keys e q d a

-- Both halves

both-halves : (tools : Tools) (h ls : List Line) → KeepsRemovedOut tools h ls → RefusesOutsiders tools h ls
    → LockedFrom tools h ls
both-halves tools h [] a b = tt
both-halves tools h (l ∷ ls) a b = (one l a.0 b.0, both-halves tools (h ++ l ∷ []) ls a.1 b.1)
  where
    one : (l : Line) → KeepsOutAfter tools h l ls → RefusesAfter tools h l ls → LockedLine tools h l ls
    one (Changed e n (Moved (Removed d))) k r = (k, r)
    one _ k r = tt

pub locked : (tools : Tools) → Opens tools → ShowsKeys tools → (w : Schedule) → IsSchedule w → OneCentre w
    → KeysApart w → ideal tools (run_lines tools w) ≡ true → private tools (run_lines tools w) ≡ true
    → Locked tools (transcript tools w)
locked tools opens shows w i one keys e q = both-halves tools [] (transcript tools w)
    (keeps-removed-out tools opens shows w i one keys e q) (outsiders-refused tools opens w i q)
