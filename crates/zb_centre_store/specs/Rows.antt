-- The lines of a list, without their ends: what the tables of a centre hold.
use Rattle.std.specs.Prelude.{ℕ, ◌+◌, List, [], ◌∷◌, ◌++◌, codes, decimal, Option}
use Rattle.hex.specs.Hex.{encode_upper}
use Rattle.zb_centre_store.specs.RowWords.{attribute_word, live_word, net_word}
use Rattle.zb_model.specs.Data.{Bytes}
use Rattle.zb_model.specs.State.{NetKey, LinkKey, NodeState}
use Rattle.zb_text.specs.Fields.{eui_text}
use Rattle.zb_text.specs.Words.{then}

-- a network key: its place from 0, the key, its sequence number, and whether it is used
unfoldable pub net_line : Option Bytes → ℕ → NetKey → Bytes
net_line active place r =
    codes "net"
    ++ (then (decimal place)
    ++ (then (encode_upper r.key) ++ (then (decimal r.sequence) ++ then (net_word active r))))

-- a link key: its place from 0, the partner, the key, its attribute, and whether it is used
unfoldable pub link_line : ℕ → LinkKey → Bytes
link_line place r =
    codes "link"
    ++ (then (decimal place)
    ++ (then (eui_text r.partner)
    ++ (then (encode_upper r.key) ++ (then (attribute_word r.attribute) ++ then (live_word r.live)))))

-- a line for each of some rows, the first of which has this place
abbrev pub numbered : {X : Type 0} → (ℕ → X → Bytes) → ℕ → List X → List Bytes
numbered line place [] = []
numbered line place (x ∷ xs) = line place x ∷ numbered line (place + 1) xs

-- all network keys, and then all link keys
unfoldable pub listed : NodeState → List Bytes
listed s = numbered (net_line s.active) 0 s.nets ++ numbered link_line 0 s.links
