-- Each prefix of a run's lines is read by names as by addresses.
use Rattle.std.proofs.Common.{◌≡◌, ℕ, ◌+◌, Bool, true, false, cond, List, [], ◌∷◌, ◌++◌, map, flat_map, length, Option, Some, None, nat_eq, refl, sym, ap, ◌∙◌, subst, append_assoc, inl, inr}
use Rattle.std.specs.List.{AllByRecursion}
use Rattle.zb_model.specs.Claims.{Each}
use Rattle.zb_model.specs.Data.{Bytes, Layer, Nwk, Aps, Station}
use Rattle.zb_model.specs.Lines.{Line, Declared, Counter}
use Rattle.zb_model.specs.Play.{Schedule, Node, Event, Own, RollOver, Deliver, Reset, PowerOn, ShowRecord, ArmStop, ArmFail, InjectBytes, ForgeNet, ForgeNetAps, ForgeOpen, Disk, stations, net_line, link_line, limit_line, start, step, groups}
use Rattle.zb_model.specs.Readings.{station_line}
use Rattle.zb_model.specs.Rules.{centre_of}
use Rattle.zb_model.specs.Schedules.{IsSchedule}
use Rattle.zb_model.specs.Tools.{Tools}
use Rattle.zb_model.specs.Transcript.{end_line, run_lines, transcript}
use Rattle.law_run.specs.Commanding.{OneCentre}
use Rattle.law_run.proofs.Basics.{append-nil'}
use Rattle.law_run.proofs.FreshLines.{all-append, all-map}
use Rattle.law_run_text.specs.OfNodes.{IsOfSchedule}
use Rattle.law_run_text.proofs.Lines.{are_of_nodes}
use Rattle.law_tables_suffice.specs.Along.{euis_differ}
use Rattle.law_run_steps.proofs.Walks.{Asked, OfNode, OfOutside, step-has}
use Rattle.law_answer_storable.specs.Storing.{OpensAsJudged}
use Rattle.zb_trace_model.specs.Naming.{AreNamed}
use Rattle.zb_trace_model.specs.Said.{IsOfNodes}
use Rattle.law_audit_sound.specs.Agreeing.{RunReadSame}
use Rattle.law_audit_sound.proofs.Holding.{hold_same}
use Rattle.law_audit_sound.proofs.Leading.{Begins, Leads, NotNode, leads_left, name_same, no_station}
use Rattle.law_audit_sound.proofs.LiveKeys.{live_keys_same}
use Rattle.law_audit_sound.proofs.Lively.{IsLively, run_lively}
use Rattle.law_audit_sound.proofs.Showing.{show_same}
use Rattle.law_audit_sound.proofs.Wording.{words_same}

-- ---- no node line comes after the first lines

abbrev Any : List Disk → Type 0
Any ds = Unit {0}

node_steps : (ds : List Disk) (number n : ℕ) → OfNode NotNode Any ds number n
node_steps ds number n = record {
  lines = record {
    changed = λ e. tt;
    commit = tt;
    told = record { accept = λ t. tt; refuse = λ place reason. tt; seal = λ t. tt; send = λ o frame bytes. tt };
    stopped = tt;
    failed = tt;
    reset = tt;
    boot = tt;
    dump = λ bytes. tt;
  };
  disks = λ d. tt;
}

outside_steps : (number : ℕ) → OfOutside NotNode number
outside_steps number = record { forge = λ t. tt; send = λ o frame bytes. tt; inject = λ frame bytes. tt }

all_steps : (ds : List Disk) (number : ℕ) (event : Event) → Asked NotNode Any ds number event
all_steps ds number (Own n task) = node_steps ds number n
all_steps ds number (RollOver n) = node_steps ds number n
all_steps ds number (Deliver frame n) = node_steps ds number n
all_steps ds number (Reset n) = node_steps ds number n
all_steps ds number (PowerOn n) = node_steps ds number n
all_steps ds number (ShowRecord n) = node_steps ds number n
all_steps ds number (ArmStop n calls torn) = node_steps ds number n
all_steps ds number (ArmFail n call) = node_steps ds number n
all_steps ds number (InjectBytes bytes) = outside_steps number
all_steps ds number (ForgeNet to from source key sequence counter content) = outside_steps number
all_steps ds number (ForgeNetAps to from source key sequence counter label base aps_counter command) =
    outside_steps number
all_steps ds number (ForgeOpen to from source label base aps_counter command) = outside_steps number

groups_behind : (tools : Tools) (w : Schedule) (h : List Line) (ds : List Disk) (number : ℕ) (events : List Event)
    → AllByRecursion NotNode (groups tools w h ds number events)
unfolding groups
groups_behind tools w h ds number [] = tt
groups_behind tools w h ds number (event ∷ events) =
    let g = step tools w h ds number event in
    all-append NotNode g.lines (groups tools w (h ++ g.lines) g.disks (number + 1) events)
    (step-has NotNode Any tools w h ds number event (all_steps ds number event) tt).0
    (groups_behind tools w (h ++ g.lines) g.disks (number + 1) events)

each_behind : (f : Node → List Line) → ((m : Node) → AllByRecursion NotNode (f m)) → (ms : List Node)
    → AllByRecursion NotNode (flat_map f ms)
each_behind f each [] = tt
each_behind f each (m ∷ ms) = all-append NotNode (f m) (flat_map f ms) (each m) (each_behind f each ms)

net_behind : (n : ℕ) (o : Option (Bytes × ℕ)) → AllByRecursion NotNode (net_line n o)
net_behind n None = tt
net_behind n (Some given) = (tt, tt)

link_behind : (centre n : ℕ) (o : Option Bytes) → AllByRecursion NotNode (link_line centre n o)
link_behind centre n None = tt
link_behind centre n (Some key) = (tt, tt)

limit_behind : (n : ℕ) (layer : Layer) (v : ℕ) (b : Bool) → AllByRecursion NotNode (cond b [] (Counter n layer v ∷ []))
limit_behind n layer v true = tt
limit_behind n layer v false = (tt, tt)

abbrev nets : Schedule → List Line
nets w = flat_map (λ (m : Node). net_line m.station.eui m.network) w.nodes

abbrev links : Schedule → List Line
links w = flat_map (λ (m : Node). link_line (centre_of (stations w)) m.station.eui m.code) w.nodes

abbrev limits : Schedule → List Line
limits w =
    flat_map (λ (m : Node). limit_line m.station.eui Nwk m.start_nwk ++ limit_line m.station.eui Aps m.start_aps)
    w.nodes

start_behind : (w : Schedule) → AllByRecursion NotNode (nets w ++ (links w ++ limits w))
start_behind w =
    all-append NotNode (nets w) (links w ++ limits w)
    (each_behind (λ (m : Node). net_line m.station.eui m.network) (λ m. net_behind m.station.eui m.network)
    w.nodes)
    (all-append NotNode (links w) (limits w)
    (each_behind (λ (m : Node). link_line (centre_of (stations w)) m.station.eui m.code)
    (λ m. link_behind (centre_of (stations w)) m.station.eui m.code) w.nodes)
    (each_behind (λ (m : Node). limit_line m.station.eui Nwk m.start_nwk ++ limit_line m.station.eui Aps m.start_aps)
    (λ m. all-append NotNode (limit_line m.station.eui Nwk m.start_nwk) (limit_line m.station.eui Aps m.start_aps)
    (limit_behind m.station.eui Nwk m.start_nwk (nat_eq m.start_nwk 0))
    (limit_behind m.station.eui Aps m.start_aps (nat_eq m.start_aps 0))) w.nodes))

-- the lines of a run after its node lines
abbrev later : Tools → Schedule → List Line
later tools w = (nets w ++ (links w ++ limits w))
    ++ (groups tools w (start w) [] 1 w.events ++ end_line tools (length w.events) (run_lines tools w) ∷ [])

end_behind : (tools : Tools) (events : ℕ) (h : List Line) → NotNode (end_line tools events h)
unfolding end_line
end_behind tools events h = tt

later_behind : (tools : Tools) (w : Schedule) → AllByRecursion NotNode (later tools w)
later_behind tools w =
    let last = end_line tools (length w.events) (run_lines tools w) in
    all-append NotNode (nets w ++ (links w ++ limits w)) (groups tools w (start w) [] 1 w.events ++ last ∷ [])
    (start_behind w)
    (all-append NotNode (groups tools w (start w) [] 1 w.events) (last ∷ [])
    (groups_behind tools w (start w) [] 1 w.events) (end_behind tools (length w.events) (run_lines tools w), tt))

start_parts : (w : Schedule) → start w ≡ map Declared (stations w) ++ (nets w ++ (links w ++ limits w))
unfolding start
start_parts w = refl

parts : (tools : Tools) (w : Schedule) → transcript tools w ≡ map Declared (stations w) ++ later tools w
unfolding transcript run_lines
parts tools w =
    let rest = groups tools w (start w) [] 1 w.events in
    let last = end_line tools (length w.events) (start w ++ rest) in
    append_assoc (start w) rest (last ∷ [])
    ∙ ap (λ ls. ls ++ (rest ++ last ∷ [])) (start_parts w)
    ∙ append_assoc (map Declared (stations w)) (nets w ++ (links w ++ limits w)) (rest ++ last ∷ [])

-- ---- so node lines come first

leads_behind : (known front : List Station) (h : List Line) → front ≡ known → AllByRecursion (IsOfNodes known) h
    → AllByRecursion NotNode h → Leads known front h
leads_behind known front [] same of not = tt
leads_behind known front (m ∷ h) same of not =
    (inr (same, of.0, not.0), leads_behind known (station_line front m) h (no_station front m not.0 ∙ same) of.1 not.1)

leads_nodes : (known front ps : List Station) (h : List Line) → known ≡ front ++ ps
    → AllByRecursion (IsOfNodes known) h → AllByRecursion NotNode h → Leads known front (map Declared ps ++ h)
leads_nodes known front [] h same of not = leads_behind known front h (sym (same ∙ append-nil' front)) of not
leads_nodes known front (p ∷ ps) h same of not = (
  inl (p, refl, ps, same),
  leads_nodes known (front ++ p ∷ []) ps h (same ∙ sym (append_assoc front (p ∷ []) ps))
      of not,
)

all_right : {X : Type 0} (P : X → Type 0) (xs ys : List X) → AllByRecursion P (xs ++ ys) → AllByRecursion P ys
all_right P [] ys all = all
all_right P (x ∷ xs) ys all = all_right P xs ys all.1

run_leads : (tools : Tools) (w : Schedule) → IsSchedule w → OneCentre w → Leads (stations w) [] (transcript tools w)
run_leads tools w is one =
    let known = stations w in
    let of : AllByRecursion (IsOfNodes known) (transcript tools w) = all-map (IsOfSchedule known) (IsOfNodes known)
    (λ m i. i.0) (transcript tools w) (are_of_nodes tools w is one) in
    subst (Leads known []) (sym (parts tools w))
    (leads_nodes known [] known (later tools w) refl
    (all_right (IsOfNodes known) (map Declared known) (later tools w)
    (subst (AllByRecursion (IsOfNodes known)) (parts tools w) of)) (later_behind tools w))

each_left : (P : List Line → Line → Type 0) (h xs ys : List Line) → Each P h (xs ++ ys) → Each P h xs
each_left P h [] ys all = tt
each_left P h (x ∷ xs) ys all = (all.0, each_left P (h ++ x ∷ []) xs ys all.1)

-- each prefix of the lines begins a run of its nodes
pub run_begins : (tools : Tools) (w : Schedule) → IsSchedule w → euis_differ w ≡ true → OneCentre w
    → AreNamed (stations w) → (h rest : List Line) → h ++ rest ≡ transcript tools w → Begins (stations w) h
unfolding euis_differ
run_begins tools w is differ one fits h rest same =
    record {
      named = fits;
      apart = differ;
      leads = leads_left (stations w) [] h rest
          (subst (Leads (stations w) []) (sym same) (run_leads tools w is one));
    }

pub run_read_same : (tools : Tools) → OpensAsJudged tools → (w : Schedule) → IsSchedule w → euis_differ w ≡ true
    → OneCentre w → AreNamed (stations w) → RunReadSame tools w
run_read_same tools judged w is differ one fits h rest same =
    let known = stations w in
    let begins : Begins known h = run_begins tools w is differ one fits h rest same in
    let lively : Each IsLively [] h =
    each_left IsLively [] h rest (subst (Each IsLively []) (sym same) (run_lively tools judged w is differ)) in
    record {
      shows = show_same tools known h;
      names = name_same known h begins;
      holds = hold_same tools known h begins;
      lives = live_keys_same tools known h begins lively;
      words = words_same tools known h begins;
    }
