-- Which keys appear in a transcript, who learned them, and the two words of its end line.
use Rattle.std.specs.Prelude.{ℕ, ◌%◌, Bool, true, false, not, if◌then◌else◌, ◌&&◌, ◌||◌, List, [], ◌∷◌, ◌++◌, map, length, get_or, fold, filter, find, Option, Some, None, nat_eq, nat_lt, is_some, flat_map, filter_map, option_to_list, bytes_eq}
use Rattle.std.specs.List.{list_any, list_all}
use Rattle.zb_model.specs.Data.{Bytes, Role, Centre, Router, Device, Layer, Nwk, Aps, Provisional, Station, Term, Move, Draw, Install, Row, Pair, Removed, Moved, Command, TransportNet, TransportApp, TransportLink}
use Rattle.zb_model.specs.Lines.{Line, GivenNet, GivenLink, Changed, Accept, Seal, Forge}
use Rattle.zb_model.specs.State.{same_key, is_centre, same_layer, same_label}
use Rattle.zb_model.specs.Tools.{Tools, ApsShown, ApsAuxiliary, CommandShown, Known, Unknown, Broken}
use Rattle.zb_model.specs.Rules.{station_of, centre_of}
use Rattle.zb_model.specs.Readings.{station_line, stations_of}

-- Sets of keys, as lists without repeats

abbrev pub holds : List Bytes → Bytes → Bool
holds keys key = list_any (same_key key) keys

abbrev pub with_key : List Bytes → Bytes → List Bytes
with_key keys key = if holds keys key then keys else keys ++ key ∷ []

abbrev pub holds_some : List Bytes → Option Bytes → Bool
holds_some keys None = false
holds_some keys (Some key) = holds keys key

-- What a term carries: the key of a Transport-Key that is its content. The Transport-Key is a command sealed at APS,
-- or is in a NWK frame without APS security.

abbrev pub key_in : Command → Option Bytes
key_in (TransportNet key sequence destination source) = Some key
key_in (TransportApp key partner initiator) = Some key
key_in (TransportLink key destination source) = Some key
key_in _ = None

abbrev pub key_shown : CommandShown → Option Bytes
key_shown (Known command) = key_in command
key_shown Unknown = None
key_shown Broken = None

-- the two low bits of an APS frame control are 1 for a command
abbrev pub is_command_header : Bytes → Bool
is_command_header header = nat_eq (get_or header 0 0 % 4) 1

abbrev pub unsealed_key : Tools → ApsShown → Option ApsAuxiliary → Option Bytes
unsealed_key tools a None = if a.is_command then key_shown (tools.read_command a.body) else None
unsealed_key tools a (Some aux) = None

abbrev pub clear_key : Tools → Option ApsShown → Option Bytes
clear_key tools None = None
clear_key tools (Some a) = unsealed_key tools a a.auxiliary

abbrev pub carried_at : Layer → Tools → Term → Option Bytes
carried_at Aps tools t = if is_command_header t.header then key_shown (tools.read_command t.content) else None
carried_at Nwk tools t = clear_key tools (tools.read_aps t.content)

unfoldable pub carried : Tools → Term → Option Bytes
carried tools t = carried_at t.layer tools t

-- the terms of seal and forge lines
abbrev pub terms_in : Line → List Term
terms_in (Seal e n t) = t ∷ []
terms_in (Forge e t) = t ∷ []
terms_in _ = []

unfoldable pub terms_of : List Line → List Term
terms_of h = flat_map terms_in h

-- The keys that come out for somebody who holds the keys `from`: each round adds the keys that a term carries
-- whose base key is among them. There are as many rounds as lines.

abbrev pub opened_by : Tools → List Bytes → Term → List Bytes
opened_by tools keys t = if holds keys t.base then fold with_key keys (option_to_list (carried tools t)) else keys

unfoldable pub a_round : Tools → List Term → List Bytes → List Bytes
a_round tools terms keys = fold (opened_by tools) keys terms

unfoldable pub rounds : ℕ → Tools → List Term → List Bytes → List Bytes
rounds Rattle.std.specs.Prelude.zero tools terms keys = keys
rounds (Rattle.std.specs.Prelude.suc n) tools terms keys = rounds n tools terms (a_round tools terms keys)

unfoldable pub exposed : Tools → List Line → List Bytes → List Bytes
exposed tools h from = rounds (length h) tools (terms_of h) from

-- The keys that a node ever held: those of its given, install and row lines, of the centre's rows with it, and of its
-- pairs. The earlier lines show who the centre is: the first node that they declare as one.

abbrev pub is_the_centre : List Station → ℕ → Bool
is_the_centre known n = is_eui (find (λ (p : Station). is_centre p.role) known)
  where
    is_eui : Option Station → Bool
    is_eui None = false
    is_eui (Some p) = nat_eq p.eui n

abbrev pub ever_moved : List Station → ℕ → ℕ → Move → List Bytes
ever_moved known d n (Install key sequence) = if nat_eq n d then key ∷ [] else []
ever_moved known d n (Row partner key attribute) = if nat_eq n d || (is_the_centre known n && nat_eq partner d)
    then key ∷ [] else []
ever_moved known d n (Pair first second key) = if nat_eq first d || nat_eq second d then key ∷ [] else []
ever_moved known d n _ = []

abbrev pub ever_in : List Station → ℕ → Line → List Bytes
ever_in known d (GivenNet n key sequence) = if nat_eq n d then key ∷ [] else []
ever_in known d (GivenLink n partner key) = if nat_eq n d then key ∷ [] else []
ever_in known d (Changed e n (Moved move)) = ever_moved known d n move
ever_in known d _ = []

-- after lines that declare these nodes
abbrev pub ever_from : List Station → ℕ → List Line → List Bytes
ever_from known d [] = []
ever_from known d (l ∷ ls) = ever_in known d l ++ ever_from (station_line known l) d ls

unfoldable pub ever : List Line → ℕ → List Bytes
ever h d = ever_from [] d h

-- the centre of a transcript: the first node that is declared as one
unfoldable pub centre_in : List Line → ℕ
centre_in h = centre_of (stations_of h)

-- The link key that everybody knows (ZigBeeAlliance09).
abbrev pub well_known : Bytes
well_known = 0x5a ∷ 0x69 ∷ 0x67 ∷ 0x42 ∷ 0x65 ∷ 0x65 ∷ 0x41 ∷ 0x6c ∷ 0x6c ∷ 0x69 ∷ 0x61 ∷ 0x6e ∷ 0x63 ∷ 0x65 ∷ 0x30
    ∷ 0x39 ∷ []

abbrev pub removed_in : Line → List ℕ
removed_in (Changed e n (Moved (Removed d))) = d ∷ []
removed_in _ = []

unfoldable pub removed_devices : List Line → List ℕ
removed_devices h = flat_map removed_in h

-- what outsiders may hold: the well-known key, and all that removed devices ever held
unfoldable pub outside : List Line → List Bytes
outside h = well_known ∷ flat_map (ever h) (removed_devices h)

-- The network's keys: those given, drawn, or entered as codes.
abbrev pub network_in : Line → List Bytes
network_in (GivenNet n key sequence) = key ∷ []
network_in (GivenLink n partner key) = key ∷ []
network_in (Changed e n (Moved (Draw key))) = key ∷ []
network_in (Changed e n (Moved (Row partner key Provisional))) = key ∷ []
network_in _ = []

unfoldable pub network_keys : List Line → List Bytes
network_keys h = flat_map network_in h

-- A test of each line and the lines before it.
unfoldable pub each_line : (List Line → Line → Bool) → List Line → List Line → Bool
each_line test h [] = true
each_line test h (l ∷ ls) = test h l && each_line test (h ++ l ∷ []) ls

-- Whether what was accepted was sealed or forged before

unfoldable pub same_term : Term → Term → Bool
same_term a b =
    same_layer a.layer b.layer && (same_key a.base b.base && (same_label a.label b.label && (nat_eq a.source b.source
    && (nat_eq a.counter b.counter
    && (nat_eq a.control b.control && (bytes_eq a.header b.header && bytes_eq a.content b.content))))))

-- the keys of a node's code and of its link rows
abbrev pub base_in : ℕ → Line → List Bytes
base_in n (GivenLink m partner key) = if nat_eq m n then key ∷ [] else []
base_in n (Changed e m (Moved (Row partner key attribute))) = if nat_eq m n then key ∷ [] else []
base_in n _ = []

unfoldable pub bases : List Line → ℕ → List Bytes
bases h n = flat_map (base_in n) h

abbrev pub code_in : ℕ → Line → List Bytes
code_in n (GivenLink m partner key) = if nat_eq m n then key ∷ [] else []
code_in n _ = []

unfoldable pub codes_of : List Line → ℕ → List Bytes
codes_of h n = flat_map (code_in n) h

-- an earlier term carries the key under a base key that the node had
abbrev pub brings : Tools → List Bytes → Bytes → Term → Bool
brings tools keys key t = holds keys t.base && brought (carried tools t)
  where
    brought : Option Bytes → Bool
    brought None = false
    brought (Some k) = same_key k key

unfoldable pub came_by : Tools → List Line → ℕ → Bytes → Bool
came_by tools h n key = holds (codes_of h n) key || list_any (brings tools (bases h n) key) (terms_of h)

-- a declared router or device
abbrev pub joins : List Line → ℕ → Bool
joins h n = joined (station_of (stations_of h) n)
  where
    joined : Option Station → Bool
    joined None = false
    joined (Some p) = is_member p.role
      where
        is_member : Role → Bool
        is_member Centre = false
        is_member Router = true
        is_member Device = true

-- An accepted term was sealed or forged before; a key that a router or device installed is its code's, or came in an
-- earlier term under one of its keys. The second matters if a stop cut off the acceptance.
unfoldable pub ideal_line : Tools → List Line → Line → Bool
ideal_line tools h (Accept e n t) = list_any (same_term t) (terms_of h)
ideal_line tools h (Changed e n (Moved (Install key sequence))) = not (joins h n) || came_by tools h n key
ideal_line tools h (Changed e n (Moved (Row partner key attribute))) = not (joins h n) || came_by tools h n key
ideal_line tools h _ = true

unfoldable pub ideal : Tools → List Line → Bool
ideal tools lines = each_line (ideal_line tools) [] lines

-- Outsiders forge only under keys that are known outside, and pass on no key of the network.
abbrev pub based_line : Tools → List Line → Line → Bool
based_line tools h (Forge e t) = holds (exposed tools h (outside h)) t.base
based_line tools h _ = true

abbrev pub forged_in : Line → List Term
forged_in (Forge e t) = t ∷ []
forged_in _ = []

unfoldable pub passes_on : Tools → List Line → Bool
passes_on tools lines = list_any (λ (t : Term). holds_some (network_keys lines) (carried tools t))
    (flat_map forged_in lines)

unfoldable pub private : Tools → List Line → Bool
private tools lines = each_line (based_line tools) [] lines && not (passes_on tools lines)
