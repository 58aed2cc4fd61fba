-- What the start lines say of each node: its declarations, that it has power, and no commit.
use Rattle.std.proofs.Common.{◌≡◌, ℕ, Bool, true, false, cond, List, [], ◌∷◌, ◌++◌, map, find, nat_eq, Option, Some, None, refl, ap, ◌∙◌, eq-eqb, eqb-true}
use Rattle.std.specs.Prelude.{flat_map, fold, slice_get}
use Rattle.std.specs.List.{AllByRecursion, list_any}
use Rattle.std.proofs.lemmas.List.Sums.{fold-append}
use Rattle.zb_keys.specs.Declarations.{same_eui}
use Rattle.zb_model.specs.Data.{Bytes, Layer, Nwk, Aps, Station}
use Rattle.zb_model.specs.Fits.{all_apart}
use Rattle.zb_model.specs.Lines.{Line, Declared, GivenNet, GivenLink, Counter}
use Rattle.zb_model.specs.Play as model
use Rattle.zb_model.specs.Play.{net_line, link_line, limit_line, start, stations, disk_of, new_disk}
use Rattle.zb_model.specs.Readings.{commit_line, commits_of, is_up, power_line, speaker}
use Rattle.zb_model.specs.Rules.{centre_of}
use Rattle.law_schedules.specs.Schedules.{node_for, schedule_of}
use Rattle.zb_sched.specs.Schedules.{Schedule}
use Rattle.zb_sched.specs.Valid.{Apart, IsSchedule, Pairwise}
use Rattle.zb_sched.proofs.Splits.{false_if}
use Rattle.zb_player_start.proofs.Lists.{all_at, each_found, mapped_pairs}

-- EUIs differ

abbrev EuisDiffer : model.Node → model.Node → Type 0
EuisDiffer a b = a.station.eui ≡ b.station.eui → ⊥

unlike : (a b : model.Node) → EuisDiffer a b → same_eui a b ≡ false
unlike a b differ = false_if (same_eui a b) (λ same. differ (eqb-true a.station.eui b.station.eui same))

none_like : (a : model.Node) (bs : List model.Node) → AllByRecursion (EuisDiffer a) bs → list_any (same_eui a) bs
    ≡ false
none_like a [] all = refl
none_like a (b ∷ bs) all = rw (unlike a b all.0) (none_like a bs all.1)

all_differ : (bs : List model.Node) → Pairwise EuisDiffer bs → all_apart same_eui bs ≡ true
all_differ [] pairs = refl
all_differ (b ∷ bs) pairs = rw (none_like b bs pairs.0) (all_differ bs pairs.1)

euis_differ : (p : Schedule) → IsSchedule p → Pairwise EuisDiffer (schedule_of p).nodes
unfolding schedule_of
euis_differ p is = mapped_pairs Apart EuisDiffer node_for (λ m n differ. differ.1) p.nodes is.so_far.apart

pub nodes_apart : (p : Schedule) → IsSchedule p → all_apart same_eui (schedule_of p).nodes ≡ true
nodes_apart p is = all_differ (schedule_of p).nodes (euis_differ p is)

pub node_found : (p : Schedule) → IsSchedule p → (me : ℕ) (m : model.Node) → slice_get (schedule_of p).nodes me
    ≡ Some m
    → find (λ (x : model.Node). nat_eq x.station.eui m.station.eui) (schedule_of p).nodes ≡ Some m
node_found p is me m at =
    all_at (λ (x : model.Node). find (λ (y : model.Node). nat_eq y.station.eui x.station.eui) (schedule_of p).nodes
    ≡ Some x) (schedule_of p).nodes me m
    (each_found EuisDiffer same_eui unlike (λ x. eq-eqb x.station.eui x.station.eui refl) (schedule_of p).nodes
    (euis_differ p is)) at

-- no start line changes this reading of lines
record IsQuiet {B : Type 0} (step : B → Line → B) : Type 0 where
  declared : (b : B) (s : Station) → step b (Declared s) ≡ b
  net : (b : B) (n : ℕ) (key : Bytes) (sequence : ℕ) → step b (GivenNet n key sequence) ≡ b
  link : (b : B) (n partner : ℕ) (key : Bytes) → step b (GivenLink n partner key) ≡ b
  limit : (b : B) (n : ℕ) (layer : Layer) (value : ℕ) → step b (Counter n layer value) ≡ b

quiet_declared : {B : Type 0} (step : B → Line → B) → IsQuiet step → (b : B) (ss : List Station)
    → fold step b (map Declared ss) ≡ b
quiet_declared step q b [] = refl
quiet_declared step q b (s ∷ ss) = ap (λ x. fold step x (map Declared ss)) (q.declared b s) ∙ quiet_declared step q b
    ss

quiet_flat : {B X : Type 0} (step : B → Line → B) (lines : X → List Line)
    → ((b : B) (x : X) → fold step b (lines x) ≡ b) → (b : B) (xs : List X) → fold step b (flat_map lines xs) ≡ b
quiet_flat step lines each b [] = refl
quiet_flat step lines each b (x ∷ xs) = fold-append step b (lines x) (flat_map lines xs) ∙ ap
    (λ y. fold step y (flat_map lines xs)) (each b x) ∙ quiet_flat step lines each b xs

quiet_net : {B : Type 0} (step : B → Line → B) → IsQuiet step → (b : B) (n : ℕ) (o : Option (Bytes × ℕ))
    → fold step b (net_line n o) ≡ b
quiet_net step q b n None = refl
quiet_net step q b n (Some held) = q.net b n held.0 held.1

quiet_link : {B : Type 0} (step : B → Line → B) → IsQuiet step → (b : B) (centre n : ℕ) (o : Option Bytes)
    → fold step b (link_line centre n o) ≡ b
quiet_link step q b centre n None = refl
quiet_link step q b centre n (Some key) = q.link b n centre key

quiet_limit_by : {B : Type 0} (step : B → Line → B) → IsQuiet step
    → (b : B) (n : ℕ) (layer : Layer) (value : ℕ) (t : Bool) → fold step b (cond t [] (Counter n layer value ∷ [])) ≡ b
quiet_limit_by step q b n layer value true = refl
quiet_limit_by step q b n layer value false = q.limit b n layer value

quiet_limits : {B : Type 0} (step : B → Line → B) → IsQuiet step → (b : B) (m : model.Node)
    → fold step b (limit_line m.station.eui Nwk m.start_nwk ++ limit_line m.station.eui Aps m.start_aps) ≡ b
quiet_limits step q b m =
    fold-append step b (limit_line m.station.eui Nwk m.start_nwk) (limit_line m.station.eui Aps m.start_aps)
    ∙ ap (λ x. fold step x (limit_line m.station.eui Aps m.start_aps))
    (quiet_limit_by step q b m.station.eui Nwk m.start_nwk (nat_eq m.start_nwk 0))
    ∙ quiet_limit_by step q b m.station.eui Aps m.start_aps (nat_eq m.start_aps 0)

quiet_start : {B : Type 0} (step : B → Line → B) → IsQuiet step → (b : B) (w : model.Schedule) → fold step b (start w)
    ≡ b
unfolding start
quiet_start step q b w =
    fold-append step b (map Declared (stations w)) (nets ++ (links ++ limits))
    ∙ ap (λ x. fold step x (nets ++ (links ++ limits))) (quiet_declared step q b (stations w))
    ∙ fold-append step b nets (links ++ limits)
    ∙ ap (λ x. fold step x (links ++ limits))
    (quiet_flat step (λ (m : model.Node). net_line m.station.eui m.network)
    (λ x m. quiet_net step q x m.station.eui m.network) b w.nodes)
    ∙ fold-append step b links limits
    ∙ ap (λ x. fold step x limits)
    (quiet_flat step (λ (m : model.Node). link_line (centre_of (stations w)) m.station.eui m.code)
    (λ x m. quiet_link step q x (centre_of (stations w)) m.station.eui m.code) b w.nodes)
    ∙ quiet_flat step
    (λ (m : model.Node). limit_line m.station.eui Nwk m.start_nwk ++ limit_line m.station.eui Aps m.start_aps)
    (λ x m. quiet_limits step q x m) b w.nodes
  where
    nets : List Line
    nets = flat_map (λ (m : model.Node). net_line m.station.eui m.network) w.nodes

    links : List Line
    links = flat_map (λ (m : model.Node). link_line (centre_of (stations w)) m.station.eui m.code) w.nodes

    limits : List Line
    limits =
        flat_map
        (λ (m : model.Node). limit_line m.station.eui Nwk m.start_nwk ++ limit_line m.station.eui Aps m.start_aps)
        w.nodes

same_either : (b : Bool) (up : Bool) → cond b up up ≡ up
same_either true up = refl
same_either false up = refl

-- all nodes have power
pub powered : (w : model.Schedule) (n : ℕ) → is_up (start w) n ≡ true
unfolding is_up
powered w n =
    quiet_start (power_line n) (record {
      declared = λ up s. same_either (nat_eq (speaker (Declared s)) n) up;
      net = λ up m key sequence. same_either (nat_eq (speaker (GivenNet m key sequence)) n) up;
      link = λ up m partner key. same_either (nat_eq (speaker (GivenLink m partner key)) n) up;
      limit = λ up m layer value. same_either (nat_eq (speaker (Counter m layer value)) n) up;
    }) true w

-- none has made a commit
pub uncommitted : (w : model.Schedule) (n : ℕ) → commits_of (start w) n ≡ 0
unfolding commits_of
uncommitted w n =
    quiet_start (commit_line n)
    (record {
      declared = λ b s. refl;
      net = λ b m key sequence. refl;
      link = λ b m partner key. refl;
      limit = λ b m layer value. refl;
    }) 0 w

-- the disks of the model are new
pub disk_is_new : (n : ℕ) → disk_of [] n ≡ new_disk
unfolding disk_of
disk_is_new n = refl
