-- The condition of a node after lines of other nodes.
use Rattle.std.proofs.Common.{◌≡◌, ℕ, ◌+◌, Bool, true, false, cond, List, [], ◌∷◌, ◌++◌, Option, fold, nat_eq, refl, ap, ◌∙◌}
use Rattle.std.proofs.lemmas.List.Sums.{fold-append}
use Rattle.std.specs.List.{AllByRecursion}
use Rattle.zb_model.specs.Data.{Bytes, nobody}
use Rattle.zb_model.specs.Lines.{Line, Changed, Commit, Accept, Refuse, Seal, Forge, Send, Inject, Stopped, DownReset, DownDisk, Boot, Dump}
use Rattle.zb_model.specs.Rules.{Setting}
use Rattle.zb_model.specs.State.{NodeState}
use Rattle.zb_model.specs.Tools.{Tools}
use Rattle.zb_model.specs.Readings.{speaker, after, heard_line, state_of, power, power_line, is_up, commit_line, commits_of}
use Rattle.zb_model.specs.Play.{Schedule, Event, Own, RollOver, Deliver, Reset, PowerOn, ShowRecord, ArmStop, ArmFail, InjectBytes, ForgeNet, ForgeNetAps, ForgeOpen, Disk, DiskState, disk_of, setting_of, step}
use Rattle.law_run.proofs.Basics.{state-append}
use Rattle.law_run_steps.specs.Conditions.{Condition, condition_of}
use Rattle.law_run_steps.specs.Steps.{is_of}
use Rattle.law_run_steps.proofs.Disks.{cond-same, other-disk}
use Rattle.law_run_steps.proofs.Walks.{OfTold, OfNode, OfOutside, Asked, Has, step-has}

-- Readings continue after the lines so far.

pub power-append : (h g : List Line) (n : ℕ) → is_up (h ++ g) n ≡ fold (power_line n) (is_up h n) g
unfolding is_up
power-append h g n = fold-append (power_line n) true h g

pub commits-append : (h g : List Line) (n : ℕ) → commits_of (h ++ g) n ≡ fold (commit_line n) (commits_of h n) g
unfolding commits_of
commits-append h g n = fold-append (commit_line n) 0 h g

-- a fold over items that leave the value as it is
pub fold-left : {X Y : Type 0} (f : X → Y → X) (x : X) (ys : List Y) → AllByRecursion (λ y. f x y ≡ x) ys
    → fold f x ys ≡ x
fold-left f x [] a = refl
fold-left f x (y ∷ ys) a = ap (λ z. fold f z ys) a.0 ∙ fold-left f x ys a.1

pub same-condition : (c : Setting) (s t : NodeState) (k j : ℕ) (u v : Bool) (d e : DiskState) → s ≡ t → k ≡ j → u ≡ v
    → d ≡ e
    → ◌≡◌ {A = Condition} (record { setting = c; state = s; commits = k; up = u; disk = d })
    (record { setting = c; state = t; commits = j; up = v; disk = e })
same-condition c s t k j u v d e p q r x = cc

-- A line that leaves a node as it is, in the condition x

pub record Spares (m : ℕ) (x : Condition) (l : Line) : Type 0 where
  pub state : heard_line m x.state l ≡ x.state
  pub power : power_line m x.up l ≡ x.up
  pub commits : commit_line m x.commits l ≡ x.commits

states : (m : ℕ) (x : Condition) (ls : List Line) → AllByRecursion (Spares m x) ls → fold (heard_line m) x.state ls
    ≡ x.state
states m x [] a = refl
states m x (l ∷ ls) a = ap (λ z. fold (heard_line m) z ls) a.0.state ∙ states m x ls a.1

powers : (m : ℕ) (x : Condition) (ls : List Line) → AllByRecursion (Spares m x) ls → fold (power_line m) x.up ls ≡ x.up
powers m x [] a = refl
powers m x (l ∷ ls) a = ap (λ z. fold (power_line m) z ls) a.0.power ∙ powers m x ls a.1

all-commits : (m : ℕ) (x : Condition) (ls : List Line) → AllByRecursion (Spares m x) ls
    → fold (commit_line m) x.commits ls ≡ x.commits
all-commits m x [] a = refl
all-commits m x (l ∷ ls) a = ap (λ z. fold (commit_line m) z ls) a.0.commits ∙ all-commits m x ls a.1

pub spared-by : (w : Schedule) (h ls : List Line) (ds new : List Disk) (m : ℕ)
    → AllByRecursion (Spares m (condition_of w h ds m)) ls → disk_of new m ≡ disk_of ds m
    → condition_of w (h ++ ls) new m ≡ condition_of w h ds m
spared-by w h ls ds new m a d =
    same-condition (setting_of w m) (state_of (h ++ ls) m) (state_of h m) (commits_of (h ++ ls) m) (commits_of h m)
    (is_up (h ++ ls) m) (is_up h m) (disk_of new m) (disk_of ds m)
    (state-append h ls m ∙ states m x ls a) (commits-append h ls m ∙ all-commits m x ls a)
    (power-append h ls m ∙ powers m x ls a) d
  where
    x : Condition
    x = condition_of w h ds m

-- Lines of another node, and of nobody

other-commits : (m k : ℕ) (l : Line) → nat_eq (speaker l) m ≡ false → commit_line m k l ≡ k
unfolding speaker
other-commits m k (Commit e n) d = ap (λ b. cond b (k + 1) k) d
other-commits m k _ d = refl

other-spares : (m : ℕ) (x : Condition) (l : Line) → nat_eq (speaker l) m ≡ false → Spares m x l
unfolding heard_line
other-spares m x l d = record {
  state = ap (λ b. cond b (after l x.state) x.state) d;
  power = ap (λ b. cond b (power l x.up) x.up) d;
  commits = other-commits m x.commits l d;
}

forge-spares : (m : ℕ) (x : Condition) (number : ℕ) (t : Rattle.zb_model.specs.Data.Term) → Spares m x (Forge number t)
unfolding heard_line speaker after
forge-spares m x number t =
    record { state = cond-same (nat_eq nobody m) x.state; power = cond-same (nat_eq nobody m) x.up; commits = refl }

send-spares : (m : ℕ) (x : Condition) (number : ℕ) (o : Option ℕ) (frame : ℕ) (bytes : Bytes)
    → Spares m x (Send number o frame bytes)
unfolding heard_line speaker after
send-spares m x number o frame bytes =
    record { state = cond-same (nat_eq nobody m) x.state; power = cond-same (nat_eq nobody m) x.up; commits = refl }

inject-spares : (m : ℕ) (x : Condition) (number frame : ℕ) (bytes : Bytes) → Spares m x (Inject number frame bytes)
unfolding heard_line speaker after
inject-spares m x number frame bytes =
    record { state = cond-same (nat_eq nobody m) x.state; power = cond-same (nat_eq nobody m) x.up; commits = refl }

told-spares : (m : ℕ) (x : Condition) (number n : ℕ) → nat_eq n m ≡ false → OfTold (Spares m x) number n
unfolding speaker
told-spares m x number n d = record {
  accept = λ t. other-spares m x (Accept number n t) d;
  refuse = λ place reason. other-spares m x (Refuse number n place reason) d;
  seal = λ t. other-spares m x (Seal number n t) d;
  send = send-spares m x number;
}

node-spares : (m : ℕ) (x : Condition) (ds : List Disk) (number n : ℕ) → nat_eq n m ≡ false
    → OfNode (Spares m x) (λ new. disk_of new m ≡ disk_of ds m) ds number n
unfolding speaker
node-spares m x ds number n d = record {
  lines = record {
    changed = λ e. other-spares m x (Changed number n e) d;
    commit = other-spares m x (Commit number n) d;
    told = told-spares m x number n d;
    stopped = other-spares m x (Stopped number n) d;
    failed = other-spares m x (DownDisk number n) d;
    reset = other-spares m x (DownReset number n) d;
    boot = other-spares m x (Boot number n) d;
    dump = λ bytes. other-spares m x (Dump number n bytes) d;
  };
  disks = λ new. other-disk ds n m new d;
}

outside-spares : (m : ℕ) (x : Condition) (number : ℕ) → OfOutside (Spares m x) number
outside-spares m x number =
    record { forge = forge-spares m x number; send = send-spares m x number; inject = inject-spares m x number }

asked : (m : ℕ) (x : Condition) (ds : List Disk) (number : ℕ) (act : Event) → is_of m act ≡ false
    → Asked (Spares m x) (λ new. disk_of new m ≡ disk_of ds m) ds number act
asked m x ds number (Own n task) d = node-spares m x ds number n d
asked m x ds number (RollOver n) d = node-spares m x ds number n d
asked m x ds number (Deliver frame n) d = node-spares m x ds number n d
asked m x ds number (Reset n) d = node-spares m x ds number n d
asked m x ds number (PowerOn n) d = node-spares m x ds number n d
asked m x ds number (ShowRecord n) d = node-spares m x ds number n d
asked m x ds number (ArmStop n calls torn) d = node-spares m x ds number n d
asked m x ds number (ArmFail n call) d = node-spares m x ds number n d
asked m x ds number (InjectBytes bytes) d = outside-spares m x number
asked m x ds number (ForgeNet to from source key sequence counter content) d = outside-spares m x number
asked m x ds number (ForgeNetAps to from source key sequence counter label base aps_counter command) d =
    outside-spares m x number
asked m x ds number (ForgeOpen to from source label base aps_counter command) d = outside-spares m x number

pub spared : (tools : Tools) (w : Schedule) (h : List Line) (ds : List Disk) (number : ℕ) (act : Event) (m : ℕ)
    → is_of m act ≡ false
    → condition_of w (h ++ (step tools w h ds number act).lines) (step tools w h ds number act).disks m
    ≡ condition_of w h ds m
spared tools w h ds number act m d = spared-by w h (step tools w h ds number act).lines ds
    (step tools w h ds number act).disks m has.0 has.1
  where
    has : Has (Spares m (condition_of w h ds m)) (λ new. disk_of new m ≡ disk_of ds m) (step tools w h ds number act)
    has = step-has (Spares m (condition_of w h ds m)) (λ new. disk_of new m ≡ disk_of ds m) tools w h ds number act
        (asked m (condition_of w h ds m) ds number act d) refl
