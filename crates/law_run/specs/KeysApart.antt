-- What the first half of lockout asks of a schedule: its keys are apart.
use Rattle.std.specs.Prelude.{ℕ, ◌≡◌, true, if◌then◌else◌, List, [], ◌∷◌, ◌++◌, Option, Some, None, nat_eq, option_to_list, ⊤}
use Rattle.std.specs.List.{AllByRecursion}
use Rattle.zb_model.specs.Data.{Bytes, Station, DoProvision, DoRoll, Received}
use Rattle.zb_model.specs.State.{is_centre}
use Rattle.zb_model.specs.Rules.{centre_of}
use Rattle.zb_model.specs.Secrets.{well_known}
use Rattle.zb_model.specs.Play.{Schedule, Node, Event, Own, stations}

-- the network key and the link key of its code that a node has from the start
abbrev pub network_key : Option (Bytes × ℕ) → List Bytes
network_key None = []
network_key (Some given) = given.0 ∷ []

abbrev pub given_keys : Node → List Bytes
given_keys m = option_to_list m.code ++ network_key m.network

abbrev pub IsNoneOf : List Bytes → Bytes → Type 0
IsNoneOf keys k = AllByRecursion (λ j. j ≡ k → ⊥) keys

abbrev pub AllDiffer : List Bytes → Type 0
AllDiffer [] = ⊤
AllDiffer (k ∷ ks) = IsNoneOf ks k × AllDiffer ks

-- a key of the supply is not the well-known one, and no node has it from the start
abbrev pub IsNewKey : Schedule → Bytes → Type 0
IsNewKey w k = (k ≡ well_known → ⊥) × AllByRecursion (λ (m : Node). IsNoneOf (given_keys m) k) w.nodes

-- the keys that may not be entered for a device: all network keys, and the codes of others
abbrev pub keys_of_others : ℕ → Node → List Bytes
keys_of_others device m = (if nat_eq m.station.eui device then [] else option_to_list m.code) ++ network_key m.network

-- A code is entered for a device or router. Its key is not another node's, not a network key, not in the supply and
-- not the well-known one. A node's own events bring no key of the supply: rolls and deliveries have events of their
-- own.
abbrev pub EntersOwn : Schedule → Event → Type 0
EntersOwn w (Own n (DoProvision device key)) =
    (device ≡ centre_of (stations w) → ⊥) × (key ≡ well_known → ⊥) × IsNoneOf w.draws key
    × AllByRecursion (λ (m : Node). IsNoneOf (keys_of_others device m) key) w.nodes
EntersOwn w (Own n (DoRoll draw)) = draw ≡ None
EntersOwn w (Own n (Received bytes draw)) = draw ≡ None
EntersOwn w _ = ⊤

-- Keys of the supply differ and are new. Only allowed codes are entered. No other node has the centre's EUI, and the
-- centre has no code.
pub record KeysApart (w : Schedule) : Type 0 where
  pub draws_differ : AllDiffer w.draws
  pub draws_new : AllByRecursion (IsNewKey w) w.draws
  pub entered : AllByRecursion (EntersOwn w) w.events
  pub alone : AllByRecursion (λ (p : Station). p.eui ≡ centre_of (stations w) → is_centre p.role ≡ true) (stations w)
  pub no_code : AllByRecursion (λ (m : Node). m.station.eui ≡ centre_of (stations w) → m.code ≡ None) w.nodes
