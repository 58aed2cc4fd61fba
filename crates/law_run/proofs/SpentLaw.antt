-- Whole runs: a node that answers counter-spent is at the greatest counter.
use Rattle.std.proofs.Common.{ℕ, ◌≤◌, Bool, true, false, cond, List, [], ◌∷◌, ◌++◌, map, length, Option, Some, None, flat_map, nat_eq, arith, inl, inr}
use Rattle.std.specs.List.{AllByRecursion}
use Rattle.zb_model.specs.Data.{Bytes, Layer, Nwk, Aps, Station, CounterSpent}
use Rattle.zb_model.specs.Lines.{Line, Declared, GivenNet, GivenLink, Counter, Refuse, Seal}
use Rattle.zb_model.specs.State.{greatest_counter, NodeState}
use Rattle.zb_model.specs.Tools.{Tools}
use Rattle.zb_model.specs.Readings.{state_of}
use Rattle.zb_model.specs.Rules.{centre_of}
use Rattle.zb_model.specs.Play.{Schedule, Node, stations, net_line, link_line, limit_line, start, groups}
use Rattle.zb_model.specs.Schedules.{IsMember, IsSchedule}
use Rattle.zb_model.specs.Transcript.{run_lines, transcript, end_line}
use Rattle.zb_model.specs.Claims.{Each}
use Rattle.law_run.specs.Spent.{StandsAtEnd, SpentLine}
use Rattle.law_run.proofs.Basics.{each-append}
use Rattle.law_run.proofs.Counters.{LineFits}
use Rattle.law_run.proofs.FreshLines.{all-append}
use Rattle.law_run.proofs.Runs.{groups-fit, start-inv}
use Rattle.law_run.proofs.SpentRuns.{ReachesEnd, GroupLine, groups-spent}
use Rattle.law_run.proofs.Within.{Within, AreWithin, LineSmall, within-snoc, within-lines, no-lines-within, next-small}

-- a counter that has reached the greatest counter, and isn't above it, is the greatest counter

stands : (s : NodeState) → Within s → ReachesEnd s → StandsAtEnd s
stands s w (inl e) = inl (omega (arith, e, next-small Nwk s w))
stands s w (inr e) = inr (omega (arith, e, next-small Aps s w))

line-spent : (h : List Line) (l : Line) → AreWithin h → GroupLine h l → SpentLine h l
line-spent h (Refuse e n place CounterSpent) a g = stands (state_of h n) (a n) g
line-spent h _ a g = tt

each-spent : (h ls : List Line) → AreWithin h → AllByRecursion LineSmall ls → Each GroupLine h ls → Each SpentLine h ls
each-spent h [] a m g = tt
each-spent h (l ∷ ls) a m g = (line-spent h l a g.0, each-spent (h ++ l ∷ []) ls (within-snoc h l m.0 a) m.1 g.1)

-- the lines of groups

small : (h : List Line) (l : Line) → LineFits h l → GroupLine h l → LineSmall l
small h (Seal e n t) f g = f.small
small h (Counter n layer v) f g = absurd g
small h _ f g = tt

all-small : (h ls : List Line) → Each LineFits h ls → Each GroupLine h ls → AllByRecursion LineSmall ls
all-small h [] f g = tt
all-small h (l ∷ ls) f g = (small h l f.0 g.0, all-small (h ++ l ∷ []) ls f.1 g.1)

-- the lines at the start

-- a line that says what a node holds, with a limit that is a counter
abbrev Starts : Line → Type 0
Starts (Declared p) = Unit {0}
Starts (GivenNet n key sequence) = Unit {0}
Starts (GivenLink n partner key) = Unit {0}
Starts (Counter n layer v) = v ≤ greatest_counter
Starts _ = ⊥

starts-small : (l : Line) → Starts l → LineSmall l
starts-small (Declared p) s = tt
starts-small (GivenNet n key sequence) s = tt
starts-small (GivenLink n partner key) s = tt
starts-small (Counter n layer v) s = s
starts-small _ s = absurd s

starts-quiet : (h : List Line) (l : Line) → Starts l → SpentLine h l
starts-quiet h (Declared p) s = tt
starts-quiet h (GivenNet n key sequence) s = tt
starts-quiet h (GivenLink n partner key) s = tt
starts-quiet h (Counter n layer v) s = tt
starts-quiet h _ s = absurd s

all-starts-small : (ls : List Line) → AllByRecursion Starts ls → AllByRecursion LineSmall ls
all-starts-small [] a = tt
all-starts-small (l ∷ ls) a = (starts-small l a.0, all-starts-small ls a.1)

all-starts-quiet : (h ls : List Line) → AllByRecursion Starts ls → Each SpentLine h ls
all-starts-quiet h [] a = tt
all-starts-quiet h (l ∷ ls) a = (starts-quiet h l a.0, all-starts-quiet (h ++ l ∷ []) ls a.1)

declared-start : (ps : List Station) → AllByRecursion Starts (map Declared ps)
declared-start [] = tt
declared-start (p ∷ ps) = (tt, declared-start ps)

net-start : (n : ℕ) (o : Option (Bytes × ℕ)) → AllByRecursion Starts (net_line n o)
net-start n None = tt
net-start n (Some given) = (tt, tt)

link-start : (c n : ℕ) (o : Option Bytes) → AllByRecursion Starts (link_line c n o)
link-start c n None = tt
link-start c n (Some key) = (tt, tt)

limit-by : (n : ℕ) (layer : Layer) (v : ℕ) (b : Bool) → v ≤ greatest_counter
    → AllByRecursion Starts (cond b [] (Counter n layer v ∷ []))
limit-by n layer v true m = tt
limit-by n layer v false m = (m, tt)

-- what each node begins with
each-start : (f : Node → List Line) → ((m : Node) → IsMember m → AllByRecursion Starts (f m)) → (ms : List Node)
    → AllByRecursion IsMember ms → AllByRecursion Starts (flat_map f ms)
each-start f k [] a = tt
each-start f k (m ∷ ms) a = all-append Starts (f m) (flat_map f ms) (k m a.0) (each-start f k ms a.1)

all-start : (w : Schedule) → IsSchedule w → AllByRecursion Starts (start w)
unfolding start
all-start w i =
    all-append Starts (map Declared (stations w)) (nets ++ (links ++ limits)) (declared-start (stations w))
    (all-append Starts nets (links ++ limits)
    (each-start (λ (m : Node). net_line m.station.eui m.network) (λ m is. net-start m.station.eui m.network)
    w.nodes i.nodes)
    (all-append Starts links limits
    (each-start (λ (m : Node). link_line (centre_of (stations w)) m.station.eui m.code)
    (λ m is. link-start (centre_of (stations w)) m.station.eui m.code) w.nodes i.nodes)
    (each-start (λ (m : Node). limit_line m.station.eui Nwk m.start_nwk ++ limit_line m.station.eui Aps m.start_aps)
    (λ m is. all-append Starts (limit_line m.station.eui Nwk m.start_nwk) (limit_line m.station.eui Aps m.start_aps)
    (limit-by m.station.eui Nwk m.start_nwk (nat_eq m.start_nwk 0) is.start_nwk)
    (limit-by m.station.eui Aps m.start_aps (nat_eq m.start_aps 0) is.start_aps)) w.nodes i.nodes)))
  where
    nets : List Line
    nets = flat_map (λ (m : Node). net_line m.station.eui m.network) w.nodes

    links : List Line
    links = flat_map (λ (m : Node). link_line (centre_of (stations w)) m.station.eui m.code) w.nodes

    limits : List Line
    limits =
        flat_map (λ (m : Node). limit_line m.station.eui Nwk m.start_nwk ++ limit_line m.station.eui Aps m.start_aps)
        w.nodes

-- the whole

pub transcript-spent : (tools : Tools) (w : Schedule) → IsSchedule w → Each SpentLine [] (transcript tools w)
unfolding transcript run_lines end_line
transcript-spent tools w i =
    each-append SpentLine [] (start w ++ groups tools w (start w) [] 1 w.events)
    (end_line tools (length w.events) (start w ++ groups tools w (start w) [] 1 w.events) ∷ [])
    (each-append SpentLine [] (start w) (groups tools w (start w) [] 1 w.events)
    (all-starts-quiet [] (start w) (all-start w i))
    (each-spent (start w) (groups tools w (start w) [] 1 w.events)
    (within-lines [] (start w) (all-starts-small (start w) (all-start w i)) no-lines-within)
    (all-small (start w) (groups tools w (start w) [] 1 w.events)
    (groups-fit tools w i (start w) [] 1 w.events i.events (start-inv tools w))
    (groups-spent tools w (start w) [] 1 w.events))
    (groups-spent tools w (start w) [] 1 w.events))) (tt, tt)
