-- The backup of a centre's tables: one JSON object, whose members and their values say all that its record says. Keys
-- and EUIs are texts of upper-case hexadecimal digits, the first digits for the most significant byte; numbers are
-- whole.
use Rattle.std.specs.Prelude.{ℕ, Bool, true, false, List, map, codes, Option, Some, None}
use Rattle.std.specs.List.{position}
use Rattle.hex.specs.Hex.{encode_upper}
use Rattle.serde_json.specs.Data.{Data, null, boolean, number, unsigned, string, array, object, no_members, member}
use Rattle.serde_json.specs.View.{items_of}
use Rattle.serde_json.specs.Written.{compact_text}
use Rattle.zb_text.specs.Fields.{eui_text}
use Rattle.zb_model.specs.Data.{Bytes}
use Rattle.zb_model.specs.Record.{attribute_byte}
use Rattle.zb_model.specs.State.{SenderFloor, NetKey, LinkKey, PairKey, NodeState, same_key}

abbrev pub whole : ℕ → Data
whole n = number (unsigned n)

abbrev pub key_value : Bytes → Data
key_value key = string (encode_upper key)

abbrev pub eui_value : ℕ → Data
eui_value eui = string (eui_text eui)

-- the list of some rows
abbrev pub rows_value : {X : Type 0} → (X → Data) → List X → Data
rows_value value rows = array (items_of (map value rows))

-- The members of each object stand in the order of their names.

-- the floor of a sender under a network key
unfoldable pub floor_object : SenderFloor → Data
floor_object f =
    object (member (codes "floor") (whole f.stored) (member (codes "sender") (eui_value f.sender) no_members))

-- a network key: the floors under it, its outgoing limit, whether it is live, its sequence number, whether it was
-- started
unfoldable pub net_object : NetKey → Data
net_object r = object
    (member (codes "floors") (rows_value floor_object r.floors)
    (member (codes "key") (key_value r.key)
    (member (codes "limit") (whole r.limit)
    (member (codes "live") (boolean r.live)
    (member (codes "sequence") (whole r.sequence)
    (member (codes "started") (boolean r.started) no_members))))))

-- A link key: its attribute, whether it is from an install code, the floor under it, and whether it is live. Then its
-- partner, and whether that was told of the newest network key. Attributes are 0 provisional, 1 unverified, 2
-- verified.
unfoldable pub link_object : LinkKey → Data
link_object r = object
    (member (codes "attribute") (whole (attribute_byte r.attribute))
    (member (codes "code") (boolean r.code)
    (member (codes "floor") (whole r.stored)
    (member (codes "key") (key_value r.key)
    (member (codes "live") (boolean r.live)
    (member (codes "partner") (eui_value r.partner)
    (member (codes "told") (boolean r.told) no_members)))))))

-- a key that the centre gave two devices for one another
unfoldable pub pair_object : PairKey → Data
pair_object p = object
    (member (codes "first") (eui_value p.first)
    (member (codes "key") (key_value p.key) (member (codes "second") (eui_value p.second) no_members)))

-- the place of the active network key, from 0, or null
abbrev pub place_value : Option ℕ → Data
place_value None = null
place_value (Some place) = whole place

unfoldable pub active_value : Option Bytes → List NetKey → Data
active_value None nets = null
active_value (Some key) nets = place_value (position (λ (r : NetKey). same_key r.key key) nets)

abbrev pub roll_text : Bool → List ℕ
roll_text true = codes "sending"
roll_text false = codes "idle"

-- The tables: beside their rows the active network key, the outgoing APS limit, the outgoing NWK counter of the start,
-- the rollover, and the version of the record, which is 3.
unfoldable pub backup_of : NodeState → Data
backup_of s = object
    (member (codes "active") (active_value s.active s.nets)
    (member (codes "aps") (whole s.aps_limit)
    (member (codes "links") (rows_value link_object s.links)
    (member (codes "nets") (rows_value net_object s.nets)
    (member (codes "nwk") (whole s.declared)
    (member (codes "pairs") (rows_value pair_object s.pairs)
    (member (codes "roll") (string (roll_text s.sending))
    (member (codes "version") (whole 3) no_members))))))))

-- its text, with no space and no line feed
abbrev pub backup_text : NodeState → List ℕ
backup_text s = compact_text (backup_of s)
