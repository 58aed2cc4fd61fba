-- The state of a node before its first event.
use Rattle.std.specs.Prelude.{ℕ, Bool, nat_eq, if◌then◌else◌, List, [], ◌∷◌, false, Option, Some, None, option_map}
use Rattle.zb_node_types.specs.Changes.{model_role}
use Rattle.zb_keys.specs.declared.declaration.Declaration.{Declaration}
use Rattle.zb_keys.specs.declared.declaration.HeldNetwork.{HeldNetwork}
use Rattle.zb_keys.specs.declared.declaration.HeldCode.{HeldCode}
use Rattle.zb_model.specs.Data.{Bytes, Role, State, Fresh, Joined, Nwk, Aps, Provisional}
use Rattle.zb_model.specs.State.{NodeState, NetKey, LinkKey, new_node, is_centre, given_net, new_link, with_given_net, with_given_link, with_declared}
use Rattle.zb_model.specs.Play.{Node}

abbrev pub with_network : Option (Bytes × ℕ) → NodeState → NodeState
with_network None s = s
with_network (Some given) s = with_given_net given.0 given.1 s

abbrev pub with_code : Option (ℕ × Bytes) → NodeState → NodeState
with_code None s = s
with_code (Some given) s = with_given_link given.0 given.1 s

-- A node of that role with a network key and its sequence, the link key of an install code and its partner, and the
-- stored limits of both layers. They come in the order of the start lines.
unfoldable pub first_state : Role → Option (Bytes × ℕ) → Option (ℕ × Bytes) → ℕ → ℕ → NodeState
first_state role network code nwk aps =
    with_declared Aps aps (with_declared Nwk nwk (with_code code (with_network network (new_node role))))

abbrev pub network_of : Option HeldNetwork → Option (Bytes × ℕ)
network_of held = option_map (λ (n : HeldNetwork). (n.key.0, n.sequence)) held

abbrev pub code_of : Option HeldCode → Option (ℕ × Bytes)
code_of held = option_map (λ (c : HeldCode). (c.partner.0, c.key.0)) held

abbrev pub declared_state : Declaration → NodeState
declared_state d = first_state (model_role d.role) (network_of d.network) (code_of d.code) d.nwk d.aps

-- the rows and the state that this comes to
abbrev pub held_nets : ℕ → Option (Bytes × ℕ) → List NetKey
held_nets start None = []
held_nets start (Some given) = given_net start given.0 given.1 ∷ []

abbrev pub held_links : Option (ℕ × Bytes) → List LinkKey
held_links None = []
held_links (Some given) = new_link given.0 given.1 Provisional false ∷ []

abbrev pub joined_unless_centre : Role → State
joined_unless_centre role = if is_centre role then Fresh else Joined

abbrev pub held_state : Role → Option (Bytes × ℕ) → State
held_state role None = Fresh
held_state role (Some given) = joined_unless_centre role

-- two nodes of one EUI
abbrev pub same_eui : Node → Node → Bool
same_eui a b = nat_eq a.station.eui b.station.eui

abbrev pub code_with : ℕ → Option Bytes → Option (ℕ × Bytes)
code_with centre code = option_map (λ (key : Bytes). (centre, key)) code
