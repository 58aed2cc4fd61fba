-- The start of a run, how it continues, and the nodes that its lines declare.
use Rattle.std.proofs.Common.{◌≡◌, ℕ, ◌+◌, true, List, [], ◌∷◌, ◌++◌, fold, nat_eq, refl, sym, ◌∙◌, append_assoc}
use Rattle.std.proofs.lemmas.List.Sums.{fold-append}
use Rattle.zb_model.specs.Data.{Station}
use Rattle.zb_model.specs.Lines.{Line}
use Rattle.zb_model.specs.Tools.{Tools}
use Rattle.zb_model.specs.Readings.{speaker, power_line, is_up, commit_line, commits_of, station_line, stations_of}
use Rattle.zb_model.specs.Play.{Schedule, Event, Own, RollOver, Deliver, Reset, PowerOn, ShowRecord, ArmStop, ArmFail, InjectBytes, ForgeNet, ForgeNetAps, ForgeOpen, Disk, start, step, groups}
use Rattle.law_run.proofs.Basics.{append-nil'}
use Rattle.law_run_steps.proofs.Disks.{cond-same}
use Rattle.law_run_steps.proofs.Walks.{OfNode, OfOutside, Asked, step-has, start-all}
use Rattle.law_run_steps.proofs.Spared.{fold-left}

pub start-power : (w : Schedule) (n : ℕ) → is_up (start w) n ≡ true
unfolding is_up speaker
start-power w n = fold-left (power_line n) true (start w) (start-all (λ l. power_line n true l ≡ true) (record {
  declared = λ p. cond-same (nat_eq p.eui n) true;
  net = λ m key sequence. cond-same (nat_eq m n) true;
  link = λ m partner key. cond-same (nat_eq m n) true;
  counter = λ m layer limit. cond-same (nat_eq m n) true;
}) w)

pub start-commits : (w : Schedule) (n : ℕ) → commits_of (start w) n ≡ 0
unfolding commits_of
start-commits w n =
    fold-left (commit_line n) 0 (start w)
    (start-all (λ l. commit_line n 0 l ≡ 0)
    (record {
      declared = λ p. refl;
      net = λ m key sequence. refl;
      link = λ m partner key. refl;
      counter = λ m layer limit. refl;
    }) w)

-- No line of a step declares a node.

abbrev DeclaresNone : List Station → Line → Type 0
DeclaresNone known l = station_line known l ≡ known

abbrev Any : List Disk → Type 0
Any ds = Unit {0}

node-declares : (known : List Station) (ds : List Disk) (number n : ℕ) → OfNode (DeclaresNone known) Any ds number n
node-declares known ds number n = record {
  lines = record {
    changed = λ e. refl;
    commit = refl;
    told = record {
      accept = λ t. refl;
      refuse = λ place reason. refl;
      seal = λ t. refl;
      send = λ o frame bytes. refl;
    };
    stopped = refl;
    failed = refl;
    reset = refl;
    boot = refl;
    dump = λ bytes. refl;
  };
  disks = λ d. tt;
}

outside-declares : (known : List Station) (number : ℕ) → OfOutside (DeclaresNone known) number
outside-declares known number =
    record { forge = λ t. refl; send = λ o frame bytes. refl; inject = λ frame bytes. refl }

asked : (known : List Station) (ds : List Disk) (number : ℕ) (act : Event)
    → Asked (DeclaresNone known) Any ds number act
asked known ds number (Own n task) = node-declares known ds number n
asked known ds number (RollOver n) = node-declares known ds number n
asked known ds number (Deliver frame n) = node-declares known ds number n
asked known ds number (Reset n) = node-declares known ds number n
asked known ds number (PowerOn n) = node-declares known ds number n
asked known ds number (ShowRecord n) = node-declares known ds number n
asked known ds number (ArmStop n calls torn) = node-declares known ds number n
asked known ds number (ArmFail n call) = node-declares known ds number n
asked known ds number (InjectBytes bytes) = outside-declares known number
asked known ds number (ForgeNet to from source key sequence counter content) = outside-declares known number
asked known ds number (ForgeNetAps to from source key sequence counter label base aps_counter command) =
    outside-declares known number
asked known ds number (ForgeOpen to from source label base aps_counter command) = outside-declares known number

pub step-stations : (tools : Tools) (w : Schedule) (h : List Line) (ds : List Disk) (number : ℕ) (act : Event)
    → stations_of (h ++ (step tools w h ds number act).lines) ≡ stations_of h
unfolding stations_of
step-stations tools w h ds number act =
    fold-append station_line [] h (step tools w h ds number act).lines
    ∙ fold-left station_line (fold station_line [] h) (step tools w h ds number act).lines
    (step-has (DeclaresNone (fold station_line [] h)) Any tools w h ds number act
    (asked (fold station_line [] h) ds number act) tt).0

-- The lines of all events

pub group-first : (tools : Tools) (w : Schedule) (h : List Line) (ds : List Disk) (number : ℕ) (act : Event)
    (acts : List Event)
    → groups tools w h ds number (act ∷ acts) ≡ (step tools w h ds number act).lines
    ++ groups tools w (h ++ (step tools w h ds number act).lines) (step tools w h ds number act).disks
    (number + 1) acts
unfolding groups
group-first tools w h ds number act acts = refl

pub run-goes-on : (tools : Tools) (w : Schedule) (h : List Line) (ds : List Disk) (number : ℕ) (act : Event)
    (acts : List Event)
    → h ++ groups tools w h ds number (act ∷ acts) ≡ (h ++ (step tools w h ds number act).lines)
    ++ groups tools w (h ++ (step tools w h ds number act).lines) (step tools w h ds number act).disks
    (number + 1) acts
unfolding groups
run-goes-on tools w h ds number act acts =
    sym (append_assoc h (step tools w h ds number act).lines
    (groups tools w (h ++ (step tools w h ds number act).lines) (step tools w h ds number act).disks (number + 1)
    acts))

pub run-ends : (tools : Tools) (w : Schedule) (h : List Line) (ds : List Disk) (number : ℕ) → h
    ++ groups tools w h ds number [] ≡ h
unfolding groups
run-ends tools w h ds number = append-nil' h
