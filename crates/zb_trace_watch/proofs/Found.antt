-- The node of a line, whether it is a router or device, and whether it is the centre: a watch and the model find the
-- same.
use Rattle.zb_model.specs.Data as model
use Rattle.std.proofs.Common.{◌≡◌, ℕ, List, [], ◌∷◌, Bool, true, false, cond, not, ◌||◌, Option, Some, None, refl, ap, sym, ◌∙◌, bytes_eq, nat_eq}
use Rattle.std.specs.List.{AllByRecursion, find}
use Rattle.std.specs.Option.{IfSome, option_map}
use Rattle.std.specs.Prelude.{if◌then◌else◌}
use Rattle.arrayvec.specs.ArrayString.{ArrayString}
use Rattle.zb_base.specs.declared.address.Eui.{Eui}
use Rattle.zb_base.specs.declared.node.Role.{Role}
use Rattle.zb_base.specs.declared.node.Role.TheVariants as role
use Rattle.zb_model.specs.Data.{Bytes, Centre, Router, Device, Station, nobody}
use Rattle.zb_model.specs.Lines.{Line}
use Rattle.zb_model.specs.Readings.{stations_of}
use Rattle.zb_model.specs.Rules.{station_of}
use Rattle.zb_model.specs.State.{is_centre}
use Rattle.zb_model.specs.Secrets.{came_by, is_the_centre, joins}
use Rattle.zb_model.specs.Tools.{Tools}
use Rattle.zb_node_types.specs.Changes.{model_role}
use Rattle.zb_trace.specs.Views.{eui_or_nobody, named}
use Rattle.zb_trace_watch.specs.Nodes.{address_of, is_first_centre, is_joiner, is_member, number_of, role_in, who_is, Declares}
use Rattle.zb_trace_watch.specs.Sayings as say
use Rattle.zb_trace_watch.specs.Sayings.{came_to}
use Rattle.zb_trace_watch.specs.Sets.{is_node, is_number}
use Rattle.zb_trace_watch.specs.Watching.{is_somebody, said}
use Rattle.zb_trace_watch.specs.declared.nodes.Nodes.{Nodes}
use Rattle.zb_trace_watch.proofs.Truth.{turned_number}

-- Nobody is declared.

abbrev Somebody : List Station → Type 0
Somebody stations = AllByRecursion (λ (s : Station). nat_eq s.eui nobody ≡ false) stations

one_found : (b : Bool) (s : Station) (o : Option Station) → nat_eq s.eui nobody ≡ false
    → IfSome o (λ (s : Station). nat_eq s.eui nobody ≡ false)
    → IfSome (cond b (Some s) o) (λ (s : Station). nat_eq s.eui nobody ≡ false)
one_found true s o here later = here
one_found false s o here later = later

found_somebody : (p : Station → Bool) (stations : List Station) → Somebody stations
    → IfSome (find p stations) (λ (s : Station). nat_eq s.eui nobody ≡ false)
found_somebody p [] all = tt
found_somebody p (s ∷ stations) all = one_found (p s) s (find p stations) all.0 (found_somebody p stations all.1)

nobody_found : (stations : List Station) → Somebody stations → find (λ (p : Station). nat_eq p.eui nobody) stations
    ≡ None
nobody_found [] all = refl
nobody_found (s ∷ stations) all = rw all.0 (nobody_found stations all.1)

nobody_absent : (stations : List Station) → Somebody stations → station_of stations nobody ≡ None
unfolding station_of
nobody_absent stations all = nobody_found stations all

abbrev Same : Option Eui → Option Station → Type 0
Same node found = option_map (λ (e : Eui). e.0) node ≡ option_map (λ (s : Station). s.eui) found

node_or_nobody : (node : Option Eui) (found : Option Station) → Same node found → (d : ℕ) → nat_eq d nobody ≡ false
    → is_node node d ≡ nat_eq (eui_or_nobody found) d
node_or_nobody None None e d some = sym (turned_number nobody d ∙ some)
node_or_nobody None (Some y) e d some = cc
node_or_nobody (Some x) None e d some = cc
node_or_nobody (Some x) (Some y) e d some = let it : x.0 ≡ y.eui =
    cc in turned_number d x.0 ∙ ap (λ (m : ℕ). nat_eq m d) it

-- Routers and devices

member_role : model.Role → Bool
member_role Centre = false
member_role Router = true
member_role Device = true

member_of : Option Station → Bool
member_of None = false
member_of (Some p) = member_role p.role

member_is : (r : Option Role) (o : Option Station) → option_map model_role r ≡ option_map (λ (s : Station). s.role) o
    → is_member r ≡ member_of o
unfolding member_of member_role
member_is None None e = refl
member_is None (Some p) e = cc
member_is (Some x) None e = cc
member_is (Some role.Centre) (Some p) e = let it : p.role ≡ Centre = cc in rw it refl
member_is (Some role.Router) (Some p) e = let it : p.role ≡ Router = cc in rw it refl
member_is (Some role.Device) (Some p) e = let it : p.role ≡ Device = cc in rw it refl

joins_as : (h : List Line) (n : ℕ) (p : Station) (d : model.Role) → station_of (stations_of h) n ≡ Some p → p.role ≡ d
    → joins h n ≡ member_role d
unfolding member_role
joins_as h n p Centre e f = rw (e, f) refl
joins_as h n p Router e f = rw (e, f) refl
joins_as h n p Device e f = rw (e, f) refl

joins_is : (h : List Line) (n : ℕ) (o : Option Station) → station_of (stations_of h) n ≡ o → joins h n ≡ member_of o
unfolding member_of
joins_is h n None e = rw e refl
joins_is h n (Some p) e = joins_as h n p p.role e refl

-- The centre

eui_is : Option Station → ℕ → Bool
eui_is None n = false
eui_is (Some p) n = nat_eq p.eui n

centre_as : (known : List Station) (n : ℕ) (o : Option Station) → find (λ (p : Station). is_centre p.role) known ≡ o
    → is_the_centre known n ≡ eui_is o n
unfolding eui_is
centre_as known n None e = rw e refl
centre_as known n (Some p) e = rw e refl

first_centre_as : (centre : Option Eui) (first : Option Station) → Same centre first
    → (node : Option Eui) (found : Option Station) → Same node found
    → IfSome first (λ (s : Station). nat_eq s.eui nobody ≡ false) → is_first_centre centre node
    ≡ eui_is first (eui_or_nobody found)
unfolding eui_is
first_centre_as None None e second found f some = refl
first_centre_as None (Some y) e second found f some = cc
first_centre_as (Some x) None e second found f some = cc
first_centre_as (Some x) (Some y) e None None f some = sym some
first_centre_as (Some x) (Some y) e None (Some b) f some = cc
first_centre_as (Some x) (Some y) e (Some a) None f some = cc
first_centre_as (Some x) (Some y) e (Some a) (Some b) f some = let one : x.0 ≡ y.eui = cc in let other : a.0 ≡ b.eui =
    cc in rw (one, other) refl

module _ (nodes : Nodes) (h : List Line) (declares : Declares nodes (stations_of h)) where
  pub node_is : (name : ArrayString) (d : ℕ) → nat_eq d nobody ≡ false → is_node (address_of nodes name) d
      ≡ nat_eq (named (stations_of h) name.bytes) d
  unfolding named
  node_is name = node_or_nobody (address_of nodes name)
      (find (λ (s : Station). bytes_eq s.name name.bytes) (stations_of h)) (declares.addresses name)

  number_as : (node : Option Eui) (d : ℕ) → is_number (number_of node) d ≡ is_node node d
  number_as None d = refl
  number_as (Some eui) d = refl

  pub number_is : (name : ArrayString) (d : ℕ) → nat_eq d nobody ≡ false
      → is_number (number_of (address_of nodes name)) d ≡ nat_eq (named (stations_of h) name.bytes) d
  number_is name d some = number_as (address_of nodes name) d ∙ node_is name d some

  joiner_as : (node : Option Eui) (found : Option Station) → Same node found → is_joiner nodes node
      ≡ joins h (eui_or_nobody found)
  unfolding member_of
  joiner_as None None e = sym (joins_is h nobody None (nobody_absent (stations_of h) declares.somebody))
  joiner_as None (Some y) e = cc
  joiner_as (Some x) None e = cc
  joiner_as (Some x) (Some y) e =
      let it : x.0 ≡ y.eui = cc in
      member_is (role_in nodes.roles x.0) (station_of (stations_of h) x.0) (declares.roles x.0) ∙
      (sym (joins_is h x.0 (station_of (stations_of h) x.0) refl) ∙ ap (joins h) it)

  pub centre_is : (name : ArrayString) → is_first_centre nodes.centre (address_of nodes name)
      ≡ is_the_centre (stations_of h) (named (stations_of h) name.bytes)
  unfolding named
  centre_is name =
      first_centre_as nodes.centre (find (λ (p : Station). is_centre p.role) (stations_of h)) declares.centre
      (address_of nodes name)
      (find (λ (s : Station). bytes_eq s.name name.bytes) (stations_of h)) (declares.addresses name)
      (found_somebody (λ (p : Station). is_centre p.role) (stations_of h) declares.somebody)
      ∙ sym (centre_as (stations_of h)
      (eui_or_nobody (find (λ (s : Station). bytes_eq s.name name.bytes) (stations_of h)))
      (find (λ (p : Station). is_centre p.role) (stations_of h)) refl)

  -- Where an installed key came from

  came_same : (tools : Tools) (n : ℕ) (key : Bytes) → say.came_by tools (said tools h) n key ≡ came_by tools h n key
  unfolding came_by say.came_by
  came_same tools n key = refl

  came_as : (tools : Tools) (node : Option Eui) (found : Option Station) → Same node found → (key : Bytes) (b : Bool)
      → is_joiner nodes node ≡ b
      → came_to tools (said tools h) (number_of (if b then node else None)) key
      ≡ (not b || came_by tools h (eui_or_nobody found) key)
  came_as tools who found e key false is = refl
  came_as tools None found e key true is = cc
  came_as tools (Some x) None e key true is = cc
  came_as tools (Some x) (Some y) e key true is = let it : x.0 ≡ y.eui =
      cc in came_same tools x.0 key ∙ ap (λ (n : ℕ). came_by tools h n key) it

  pub came_is : (tools : Tools) (name : ArrayString) (key : Bytes)
      → came_to tools (said tools h) (who_is nodes name).joiner key
      ≡ (not (joins h (named (stations_of h) name.bytes)) || came_by tools h (named (stations_of h) name.bytes) key)
  unfolding named
  came_is tools name key =
      came_as tools (address_of nodes name) (find (λ (s : Station). bytes_eq s.name name.bytes) (stations_of h))
      (declares.addresses name) key (is_joiner nodes (address_of nodes name)) refl
      ∙ ap (λ (b : Bool). not b
      || came_by tools h (eui_or_nobody (find (λ (s : Station). bytes_eq s.name name.bytes) (stations_of h))) key)
      (joiner_as (address_of nodes name) (find (λ (s : Station). bytes_eq s.name name.bytes) (stations_of h))
      (declares.addresses name))

  counts_as : (node : Option Eui) (found : Option Station) → Same node found
      → IfSome found (λ (s : Station). nat_eq s.eui nobody ≡ false) → (b : Bool)
      → IfSome (number_of (if b then node else None)) (λ (n : ℕ). is_somebody n ≡ true)
  counts_as who found e some false = tt
  counts_as None found e some true = tt
  counts_as (Some x) None e some true = cc
  counts_as (Some x) (Some y) e some true = let it : x.0 ≡ y.eui =
      cc in ap (λ (n : ℕ). not (nat_eq n nobody)) it ∙ ap not some

  pub joiner_counts : (name : ArrayString) → IfSome (who_is nodes name).joiner (λ (n : ℕ). is_somebody n ≡ true)
  joiner_counts name =
      counts_as (address_of nodes name) (find (λ (s : Station). bytes_eq s.name name.bytes) (stations_of h))
      (declares.addresses name)
      (found_somebody (λ (s : Station). bytes_eq s.name name.bytes) (stations_of h) declares.somebody)
      (is_joiner nodes (address_of nodes name))
