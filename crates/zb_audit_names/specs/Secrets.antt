-- Which keys the lines of a transcript show, who learned them, and the two words of its end line. Nodes are
-- identified by names: the lines before a line say whose address a name has, and which node is the centre.
use Rattle.std.specs.Prelude.{ℕ, Bool, true, false, not, if◌then◌else◌, ◌&&◌, ◌||◌, List, [], ◌∷◌, ◌++◌, length, nat_eq, bytes_eq, flat_map, Option, Some, None}
use Rattle.std.specs.List.{list_any}
use Rattle.zb_base.specs.declared.state.Attribute.TheVariants as attribute
use Rattle.zb_audit_names.specs.Naming.{declares, declared_in, is_centres, is_of, station_named}
use Rattle.zb_model.specs.Data.{Bytes, Centre, Router, Device, Role, Station, Term}
use Rattle.zb_model.specs.Secrets.{brings, carried, holds, holds_some, rounds, same_term, well_known}
use Rattle.zb_model.specs.Tools.{Tools}
use Rattle.zb_trace.specs.Terms.{model_term}
use Rattle.zb_trace.specs.declared.line.Line.{Line}
use Rattle.zb_trace.specs.declared.line.Line.TheVariants as line

-- The terms of seal and forge lines.
abbrev pub terms_in : Line → List Term
terms_in (line.Seal event node t) = model_term t ∷ []
terms_in (line.Forge event t) = model_term t ∷ []
terms_in _ = []

unfoldable pub terms_of : List Line → List Term
terms_of h = flat_map terms_in h

-- The keys that somebody who holds the start can learn. Each round adds the keys of terms whose base key is known.
-- There are as many rounds as lines.
unfoldable pub exposed : Tools → List Line → List Bytes → List Bytes
exposed tools h from = rounds (length h) tools (terms_of h) from

-- What each line says, one after the other. The nodes declared before a line give its meaning.
abbrev pub along : {A : Type 0} → (List Station → Line → List A) → List Station → List Line → List A
along says known [] = []
along says known (l ∷ ls) = says known l ++ along says (declares known l) ls

-- The keys that a device ever held: those of its own given, install and row lines, of the centre's row lines with it,
-- and of its pairs.
abbrev pub held_by : ℕ → List Station → Line → List Bytes
held_by d known (line.GivenNet node key sequence) = if is_of known d node.bytes then key.0 ∷ [] else []
held_by d known (line.GivenLink node partner key) = if is_of known d node.bytes then key.0 ∷ [] else []
held_by d known (line.Install event node key sequence) = if is_of known d node.bytes then key.0 ∷ [] else []
held_by d known (line.Row event node partner key a) =
    if is_of known d node.bytes || (is_centres known node.bytes && nat_eq partner.0 d) then key.0 ∷ [] else []
held_by d known (line.Pair event node first second key) = if nat_eq first.0 d || nat_eq second.0 d then key.0 ∷ []
    else []
held_by d known _ = []

unfoldable pub ever : List Line → ℕ → List Bytes
ever h d = along (held_by d) [] h

-- What outsiders may hold: the well-known key, and all that removed devices ever held.
abbrev pub removed_in : Line → List ℕ
removed_in (line.Removed event device) = device.0 ∷ []
removed_in _ = []

unfoldable pub removed_devices : List Line → List ℕ
removed_devices h = flat_map removed_in h

unfoldable pub outside : List Line → List Bytes
outside h = well_known ∷ flat_map (ever h) (removed_devices h)

-- The network's keys: those given, drawn, or entered as codes.
abbrev pub network_in : Line → List Bytes
network_in (line.GivenNet node key sequence) = key.0 ∷ []
network_in (line.GivenLink node partner key) = key.0 ∷ []
network_in (line.Draw event key) = key.0 ∷ []
network_in (line.Row event node partner key attribute.Provisional) = key.0 ∷ []
network_in _ = []

unfoldable pub network_keys : List Line → List Bytes
network_keys h = flat_map network_in h

-- Whether a test holds for each line and the lines before it.
unfoldable pub each_line : (List Line → Line → Bool) → List Line → List Line → Bool
each_line test h [] = true
each_line test h (l ∷ ls) = test h l && each_line test (h ++ l ∷ []) ls

-- The keys of a node's code, and of its code and its link rows.
abbrev pub code_in : Bytes → Line → List Bytes
code_in n (line.GivenLink node partner key) = if bytes_eq node.bytes n then key.0 ∷ [] else []
code_in n _ = []

unfoldable pub codes_of : List Line → Bytes → List Bytes
codes_of h n = flat_map (code_in n) h

abbrev pub base_in : Bytes → Line → List Bytes
base_in n (line.GivenLink node partner key) = if bytes_eq node.bytes n then key.0 ∷ [] else []
base_in n (line.Row event node partner key a) = if bytes_eq node.bytes n then key.0 ∷ [] else []
base_in n _ = []

unfoldable pub bases : List Line → Bytes → List Bytes
bases h n = flat_map (base_in n) h

-- Whether a node's key is its code's, or an earlier term carries it under one of the node's keys.
unfoldable pub came_by : Tools → List Line → Bytes → Bytes → Bool
came_by tools h n key = holds (codes_of h n) key || list_any (brings tools (bases h n) key) (terms_of h)

-- Whether a name is that of a declared router or device.
abbrev pub is_member : Role → Bool
is_member Centre = false
is_member Router = true
is_member Device = true

abbrev pub is_joiner : Option Station → Bool
is_joiner None = false
is_joiner (Some s) = is_member s.role

unfoldable pub joins : List Station → Bytes → Bool
joins known n = is_joiner (station_named known n)

-- Ideal: an accepted term was sealed or forged before. A key that a router or device installed is its code's, or came
-- in an earlier term under one of its keys. The second part matters if a stop prevented the acceptance.
unfoldable pub ideal_line : Tools → List Line → Line → Bool
ideal_line tools h (line.Accept event node t) = list_any (same_term (model_term t)) (terms_of h)
ideal_line tools h (line.Install event node key sequence) = not (joins (declared_in h) node.bytes)
    || came_by tools h node.bytes key.0
ideal_line tools h (line.Row event node partner key a) = not (joins (declared_in h) node.bytes)
    || came_by tools h node.bytes key.0
ideal_line tools h _ = true

unfoldable pub ideal : Tools → List Line → Bool
ideal tools lines = each_line (ideal_line tools) [] lines

-- Private: outsiders forge only under keys that are known outside, and pass on no key of the network.
abbrev pub based_line : Tools → List Line → Line → Bool
based_line tools h (line.Forge event t) = holds (exposed tools h (outside h)) t.base.0
based_line tools h _ = true

abbrev pub forged_in : Line → List Term
forged_in (line.Forge event t) = model_term t ∷ []
forged_in _ = []

unfoldable pub passes_on : Tools → List Line → Bool
passes_on tools lines = list_any (λ (t : Term). holds_some (network_keys lines) (carried tools t))
    (flat_map forged_in lines)

unfoldable pub private : Tools → List Line → Bool
private tools lines = each_line (based_line tools) [] lines && not (passes_on tools lines)
