-- The declared nodes, as a watch keeps them.
use Rattle.std.specs.Prelude.{◌≡◌, ℕ, if◌then◌else◌, List, Bool, true, false, bytes_eq, find, nat_eq, Option, Some, None}
use Rattle.std.specs.BTreeMap.{BTreeMap, get}
use Rattle.std.specs.Cmp.Lexicographic.{slice_cmp}
use Rattle.std.specs.List.{AllByRecursion}
use Rattle.std.specs.Option.{option_map}
use Rattle.std.specs.Ordering.{nat_cmp}
use Rattle.std.specs.declared.cmp.Ordering.{Ordering}
use Rattle.arrayvec.specs.ArrayString.{ArrayString}
use Rattle.zb_base.specs.declared.address.Eui.{Eui}
use Rattle.zb_base.specs.declared.node.Role.{Role}
use Rattle.zb_base.specs.declared.node.Role.TheVariants as role
use Rattle.zb_model.specs.Data.{Bytes, Station, nobody}
use Rattle.zb_model.specs.Rules.{station_of}
use Rattle.zb_model.specs.State.{is_centre}
use Rattle.zb_node_types.specs.Changes.{model_role}
use Rattle.zb_trace_watch.specs.Sets.{eui_cmp}
use Rattle.zb_trace_watch.specs.declared.nodes.Nodes.{Nodes}
use Rattle.zb_trace_watch.specs.declared.speaker.Speaker.{Speaker}

abbrev pub name_cmp : ArrayString → ArrayString → Ordering
name_cmp a b = slice_cmp nat_cmp a.bytes b.bytes

abbrev pub address_in : BTreeMap ArrayString Eui → ArrayString → Option Eui
address_in addresses name = get name_cmp addresses name

abbrev pub role_in : BTreeMap Eui Role → ℕ → Option Role
role_in roles eui = get eui_cmp roles (record { 0 = eui })

abbrev pub address_of : Nodes → ArrayString → Option Eui
address_of nodes name = address_in nodes.addresses name

abbrev pub is_member : Option Role → Bool
is_member None = false
is_member (Some role.Centre) = false
is_member (Some role.Router) = true
is_member (Some role.Device) = true

-- Whether there is a node, and it is a router or device.
abbrev pub is_joiner : Nodes → Option Eui → Bool
is_joiner nodes None = false
is_joiner nodes (Some eui) = is_member (role_in nodes.roles eui.0)

-- Whether there is a node and a centre, and they are the same.
abbrev pub is_first_centre : Option Eui → Option Eui → Bool
is_first_centre None _ = false
is_first_centre (Some centre) None = false
is_first_centre (Some centre) (Some eui) = nat_eq centre.0 eui.0

abbrev pub number_of : Option Eui → Option ℕ
number_of node = option_map (λ (e : Eui). e.0) node

-- Who the first node of that name is.
abbrev pub who_is : Nodes → ArrayString → Speaker
who_is nodes name = record {
  number = number_of (address_of nodes name);
  joiner = number_of (if is_joiner nodes (address_of nodes name) then address_of nodes name else None);
  address = address_of nodes name;
  is_centre = is_first_centre nodes.centre (address_of nodes name);
}

-- The node of a line of which nothing is needed.
abbrev pub no_node : Speaker
no_node = record { number = None; joiner = None; address = None; is_centre = false }

-- The first node of a name, of an address and of the centre's role are those of the list. No node has the address
-- that represents nobody.
pub record Declares (nodes : Nodes) (stations : List Station) : Type 0 where
  pub addresses : (name : ArrayString) → option_map (λ (e : Eui). e.0) (address_of nodes name)
      ≡ option_map (λ (s : Station). s.eui) (find (λ (s : Station). bytes_eq s.name name.bytes) stations)
  pub roles : (eui : ℕ) → option_map model_role (role_in nodes.roles eui)
      ≡ option_map (λ (s : Station). s.role) (station_of stations eui)
  pub centre : option_map (λ (e : Eui). e.0) nodes.centre
      ≡ option_map (λ (s : Station). s.eui) (find (λ (s : Station). is_centre s.role) stations)
  pub somebody : AllByRecursion (λ (s : Station). nat_eq s.eui nobody ≡ false) stations

-- The station with these parts.
pub record IsOf (station : Station) (name : Bytes) (eui : ℕ) (r : Role) : Type 0 where
  pub name_is : station.name ≡ name
  pub eui_is : station.eui ≡ eui
  pub role_is : station.role ≡ model_role r
