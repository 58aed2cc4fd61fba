-- Whose the events of a schedule are.
use Rattle.std.proofs.Common.{◌≡◌, ℕ, suc, ◌+◌, ◌<◌, Bool, true, false, not, ◌&&◌, cond, List, [], ◌∷◌, map, find, length, get_or, Option, Some, None, nat_eq, bytes_eq, refl, sym, ap, ◌∙◌, subst, arith}
use Rattle.std.specs.Prelude.{if◌then◌else◌, is_some}
use Rattle.std.specs.Option.{option_map}
use Rattle.std.proofs.lemmas.Bool.{false≢true}
use Rattle.std.proofs.lemmas.Bool.Decides.{nat_tests}
use Rattle.zb_base.specs.declared.node.Role.{Role}
use Rattle.zb_player_events.specs.Acts.{HasNames, IsNamed, act_for}
use Rattle.zb_player_events.specs.Seats.{first_seat, has_name}
use Rattle.zb_player_events.specs.declared.acts.Act.{Act}
use Rattle.zb_player_events.specs.declared.acts.Act.TheVariants as act
use Rattle.zb_player_events.specs.declared.seats.Seat.{Seat}
use Rattle.zb_model.specs.Data.{Bytes, Station}
use Rattle.zb_model.specs.Play as play
use Rattle.law_schedules.specs.Schedules.{station_for}
use Rattle.law_run_steps.specs.Steps.{is_of}
use Rattle.law_run_steps.specs.Swaps.{node_of}
use Rattle.zb_player_events.specs.Nodes.{task_of}
use Rattle.zb_sched.specs.Judge as judge
use Rattle.zb_sched.specs.Judge.{are_child_and_parent, are_partners, has_its_nodes, is_joiner, is_parent, role_named}
use Rattle.zb_sched.specs.Schedules.{Node}
use Rattle.zb_sched.specs.Valid.{seated}
use Rattle.zb_sched_line.specs.Said as said
use Rattle.zb_sched_line.specs.Said.{Event}

-- A node that is found stands at its place.
pub record FoundAt (test : Station → Bool) (k : ℕ) (ps : List Station) (it : Seat) (d : Station) : Type 0 where
  pub index : ℕ
  pub place : it.place ≡ k + index
  pub bound : index < length ps
  pub eui : (get_or ps index d).eui ≡ it.eui.0
  pub found : find test ps ≡ Some (get_or ps index d)

found_by : (test : Station → Bool) (k : ℕ) (p : Station) (ps : List Station) (it : Seat) (d : Station) (b : Bool)
    → test p ≡ b
    → (first_seat test (k + 1) ps ≡ Some it → FoundAt test (k + 1) ps it d)
    → (if b then Some (record { place = k; eui = record { 0 = p.eui } }) else first_seat test (k + 1) ps) ≡ Some it
    → FoundAt test k (p ∷ ps) it d
found_by test k p ps it d true hit more e =
    let same : record { place = k; eui = record { 0 = p.eui } } ≡ it = cc in
    record {
      index = 0;
      place = sym (ap (λ (s : Seat). s.place) same) ∙ omega arith;
      bound = omega arith;
      eui = ap (λ (s : Seat). s.eui.0) same;
      found = ap (λ b. cond b (Some p) (find test ps)) hit;
    }
found_by test k p ps it d false hit more e =
    let f = more e in
    record {
      index = suc f.index;
      place = omega (arith, f.place);
      bound = omega (arith, f.bound);
      eui = f.eui;
      found = ap (λ b. cond b (Some p) (find test ps)) hit ∙ f.found;
    }

pub found_at : (test : Station → Bool) (k : ℕ) (ps : List Station) (it : Seat) (d : Station) → first_seat test k ps
    ≡ Some it → FoundAt test k ps it d
found_at test k [] it d e = absurd (cc)
found_at test k (p ∷ ps) it d e = found_by test k p ps it d (test p) refl (found_at test (k + 1) ps it d) e

-- other nodes have no part in an event of this one
not_of : (n q : ℕ) → (q ≡ n → ⊥) → nat_eq n q ≡ false
not_of n q other = grind (arith, nat_tests, other)

none_some : (event : play.Event) → None ≡ Some event → ⊥
none_some event e = cc

pub of_others : (n q : ℕ) (a : Act) (event : play.Event) → act_for n a ≡ Some event → (q ≡ n → ⊥) → is_of q event
    ≡ false
of_others n q (act.Own task) event e other = let same : play.Own n (task_of task) ≡ event =
    cc in subst (λ (x : play.Event). is_of q x ≡ false) same (not_of n q other)
of_others n q act.Roll event e other = let same : play.RollOver n ≡ event =
    cc in subst (λ (x : play.Event). is_of q x ≡ false) same (not_of n q other)
of_others n q (act.Deliver frame) event e other = let same : play.Deliver frame n ≡ event =
    cc in subst (λ (x : play.Event). is_of q x ≡ false) same (not_of n q other)
of_others n q act.Reset event e other = let same : play.Reset n ≡ event =
    cc in subst (λ (x : play.Event). is_of q x ≡ false) same (not_of n q other)
of_others n q act.Boot event e other = let same : play.PowerOn n ≡ event =
    cc in subst (λ (x : play.Event). is_of q x ≡ false) same (not_of n q other)
of_others n q act.Dump event e other = let same : play.ShowRecord n ≡ event =
    cc in subst (λ (x : play.Event). is_of q x ≡ false) same (not_of n q other)
of_others n q (act.Stop calls torn) event e other = let same : play.ArmStop n calls torn.items ≡ event =
    cc in subst (λ (x : play.Event). is_of q x ≡ false) same (not_of n q other)
of_others n q (act.Fail call) event e other = let same : play.ArmFail n call ≡ event =
    cc in subst (λ (x : play.Event). is_of q x ≡ false) same (not_of n q other)
of_others n q act.Outside event e other = absurd (none_some event e)

-- it is of this one
pub of_node : (n : ℕ) (a : Act) (event : play.Event) → act_for n a ≡ Some event → node_of event ≡ Some n
of_node n (act.Own task) event e = let same : play.Own n (task_of task) ≡ event = cc in ap node_of (sym same)
of_node n act.Roll event e = let same : play.RollOver n ≡ event = cc in ap node_of (sym same)
of_node n (act.Deliver frame) event e = let same : play.Deliver frame n ≡ event = cc in ap node_of (sym same)
of_node n act.Reset event e = let same : play.Reset n ≡ event = cc in ap node_of (sym same)
of_node n act.Boot event e = let same : play.PowerOn n ≡ event = cc in ap node_of (sym same)
of_node n act.Dump event e = let same : play.ShowRecord n ≡ event = cc in ap node_of (sym same)
of_node n (act.Stop calls torn) event e = let same : play.ArmStop n calls torn.items ≡ event = cc in ap node_of
    (sym same)
of_node n (act.Fail call) event e = let same : play.ArmFail n call ≡ event = cc in ap node_of (sym same)
of_node n act.Outside event e = absurd (none_some event e)

-- Names that a schedule declares are found.

named_by : (name : Bytes) (k : ℕ) (m : Node) (ms : List Node) (b : Bool)
    → (is_some (role_named name (map seated ms)) ≡ true
    → is_some (first_seat (has_name name) (k + 1) (map station_for ms)) ≡ true)
    → is_some
    (option_map (λ (seat : judge.Seat). seat.node.role)
    (cond b (Some (seated m)) (find (λ seat. judge.has_name name seat) (map seated ms)))) ≡ true
    → is_some (if b then Some (record { place = k; eui = record { 0 = m.eui } })
    else first_seat (has_name name) (k + 1) (map station_for ms)) ≡ true
named_by name k m ms true more e = refl
named_by name k m ms false more e = more e

pub named_from : (name : Bytes) (k : ℕ) (ms : List Node) → is_some (role_named name (map seated ms)) ≡ true
    → is_some (first_seat (has_name name) k (map station_for ms)) ≡ true
named_from name k [] e = absurd (false≢true e)
named_from name k (m ∷ ms) e = named_by name k m ms (bytes_eq m.name name) (named_from name (k + 1) ms) e

pub joins : (o : Option Role) → is_joiner o ≡ true → is_some o ≡ true
joins None e = absurd (false≢true e)
joins (Some r) e = refl

pub adopts : (o : Option Role) → is_parent o ≡ true → is_some o ≡ true
adopts None e = absurd (false≢true e)
adopts (Some r) e = refl

first_of : (a b : Bool) → (a && b) ≡ true → a ≡ true
first_of true b e = refl
first_of false b e = absurd (false≢true e)

second_of : (a b : Bool) → (a && b) ≡ true → b ≡ true
second_of true b e = e
second_of false b e = absurd (false≢true e)

is_named : (ms : List Node) (name : Bytes) → is_joiner (role_named name (map seated ms)) ≡ true
    → IsNamed (map station_for ms) name
is_named ms name e = named_from name 0 ms (joins (role_named name (map seated ms)) e)

is_named_parent : (ms : List Node) (name : Bytes) → is_parent (role_named name (map seated ms)) ≡ true
    → IsNamed (map station_for ms) name
is_named_parent ms name e = named_from name 0 ms (adopts (role_named name (map seated ms)) e)

pub of_partners : (ms : List Node) (name partner : Bytes) → are_partners name partner (map seated ms) ≡ true
    → is_joiner (role_named name (map seated ms)) ≡ true × (is_joiner (role_named partner (map seated ms)) ≡ true)
of_partners ms name partner e =
    let both = first_of (not (bytes_eq name partner) && is_joiner (role_named name (map seated ms)))
    (is_joiner (role_named partner (map seated ms))) e in (
      second_of (not (bytes_eq name partner)) (is_joiner (role_named name (map seated ms))) both,
      second_of (not (bytes_eq name partner) && is_joiner (role_named name (map seated ms)))
          (is_joiner (role_named partner (map seated ms))) e,
    )

pub of_family : (ms : List Node) (name parent : Bytes) → are_child_and_parent name parent (map seated ms) ≡ true
    → is_joiner (role_named name (map seated ms)) ≡ true × (is_parent (role_named parent (map seated ms)) ≡ true)
of_family ms name parent e =
    let both = first_of (not (bytes_eq name parent) && is_joiner (role_named name (map seated ms)))
    (is_parent (role_named parent (map seated ms))) e in (
      second_of (not (bytes_eq name parent)) (is_joiner (role_named name (map seated ms))) both,
      second_of (not (bytes_eq name parent) && is_joiner (role_named name (map seated ms)))
          (is_parent (role_named parent (map seated ms))) e,
    )

-- the other nodes that an event names are declared
pub has_names : (ms : List Node) (e : Event) → has_its_nodes e (map seated ms) ≡ true → HasNames (map station_for ms) e
has_names ms (said.Says name to bytes) e = tt
has_names ms (said.Delivers frame name) e = tt
has_names ms (said.Ticks name) e = tt
has_names ms (said.Knocks name) e = tt
has_names ms (said.Rejoins name) e = tt
has_names ms (said.Adopts parent name rejoin) e = is_named ms name (of_family ms name parent e).0
has_names ms (said.Provisions name code) e = is_named ms name e
has_names ms (said.Repeats name) e = is_named ms name e
has_names ms said.Rolls e = tt
has_names ms said.Switches e = tt
has_names ms (said.Removes name parent) e = let f =
    of_family ms name parent e in (is_named ms name f.0, is_named_parent ms parent f.1)
has_names ms (said.Resets name) e = tt
has_names ms (said.Boots name) e = tt
has_names ms (said.Dumps name) e = tt
has_names ms (said.Stops name calls torn) e = tt
has_names ms (said.Fails name call) e = tt
has_names ms (said.Injects bytes) e = tt
has_names ms (said.ForgesNet to from source key sequence counter content) e = tt
has_names ms (said.ForgesBoth to from source key sequence counter label base aps_counter command) e = tt
has_names ms (said.ForgesOpen to from source label base aps_counter command) e = tt
has_names ms (said.Asks name partner) e = is_named ms partner (of_partners ms name partner e).1
has_names ms (said.Shares name partner) e = let f =
    of_partners ms name partner e in (is_named ms name f.0, is_named ms partner f.1)
has_names ms (said.Tells name partner bytes) e = is_named ms partner (of_partners ms name partner e).1
