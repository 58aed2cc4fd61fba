-- The tables that the members of a JSON object tell, whatever else stands in it. A counter goes on from its limit, and
-- a floor is the stored one.
use Rattle.std.specs.Prelude.{ℕ, Bool, true, false, if◌then◌else◌, nat_lt, List, [], ◌∷◌, ◌++◌, length, codes, bytes_eq, Option, Some, None, option_map}
use Rattle.serde_json.specs.Data.{Data, null, boolean, number, string, array, object, Items, no_items, item}
use Rattle.serde_json.specs.Find.{get, as_array, as_bool, as_number, as_str, as_u64}
use Rattle.zb_text.specs.Fields.{eui_of, key_of}
use Rattle.zb_text.specs.Numbers.{up_to}
use Rattle.zb_node_types.specs.Changes.{model_attribute}
use Rattle.zb_record.specs.Fields.{attribute_of}
use Rattle.zb_record.specs.Records as record_places
use Rattle.zb_model.specs.Data.{Bytes, Centre, Fresh, Attribute}
use Rattle.zb_model.specs.Fits.{most_nets, most_links, most_pairs, most_senders}
use Rattle.zb_model.specs.State.{SenderFloor, NetKey, LinkKey, PairKey, NodeState, greatest_counter}
use Rattle.zb_model.specs.Record.{no_place}

-- one step, and then what depends on it
infixl 10 ◌>>=◌
abbrev pub ◌>>=◌ : {A B : Type 0} → Option A → (A → Option B) → Option B
None >>= next = None
Some x >>= next = next x

-- the member of a name, where it is a text, a truth value, or a whole number of at most `limit`
unfoldable pub text_at : List ℕ → Data → Option (List ℕ)
text_at name d = get name d >>= as_str

unfoldable pub flag_at : List ℕ → Data → Option Bool
flag_at name d = get name d >>= as_bool

abbrev pub whole_in : ℕ → Data → Option ℕ
whole_in limit d = up_to limit (as_number d >>= as_u64)

unfoldable pub number_at : ℕ → List ℕ → Data → Option ℕ
number_at limit name d = get name d >>= whole_in limit

unfoldable pub key_at : List ℕ → Data → Option Bytes
key_at name d = text_at name d >>= key_of

unfoldable pub eui_at : List ℕ → Data → Option ℕ
eui_at name d = text_at name d >>= eui_of

-- the rows of a list, after those done: at most `limit` in all
abbrev pub told_rows : {X : Type 0} → ℕ → (Data → Option X) → List X → Items → Option (List X)
told_rows limit told done no_items = Some done
told_rows limit told done (item d more) = if nat_lt (length done) limit
    then told d >>= (λ x. told_rows limit told (done ++ x ∷ []) more) else None

unfoldable pub list_at : List ℕ → Data → Option Items
list_at name d = get name d >>= as_array

unfoldable pub rows_at : {X : Type 0} → ℕ → (Data → Option X) → List ℕ → Data → Option (List X)
rows_at limit told name d = list_at name d >>= told_rows limit told []

unfoldable pub floor_told : Data → Option SenderFloor
floor_told d = do
  floor ← number_at greatest_counter (codes "floor") d
  sender ← eui_at (codes "sender") d
  Some (record { sender = sender; kept = floor; stored = floor })

unfoldable pub net_told : Data → Option NetKey
net_told d = do
  floors ← rows_at most_senders floor_told (codes "floors") d
  key ← key_at (codes "key") d
  limit ← number_at greatest_counter (codes "limit") d
  live ← flag_at (codes "live") d
  sequence ← number_at 255 (codes "sequence") d
  started ← flag_at (codes "started") d
  Some (record {
    key = key;
    sequence = sequence;
    live = live;
    started = started;
    limit = limit;
    next = limit;
    floors = floors;
  })

unfoldable pub attribute_at : List ℕ → Data → Option Attribute
attribute_at name d = number_at 2 name d >>= (λ n. option_map model_attribute (attribute_of n))

unfoldable pub link_told : Data → Option LinkKey
link_told d = do
  attribute ← attribute_at (codes "attribute") d
  code ← flag_at (codes "code") d
  floor ← number_at greatest_counter (codes "floor") d
  key ← key_at (codes "key") d
  live ← flag_at (codes "live") d
  partner ← eui_at (codes "partner") d
  told ← flag_at (codes "told") d
  Some (record {
    partner = partner;
    key = key;
    attribute = attribute;
    live = live;
    code = code;
    told = told;
    kept = floor;
    stored = floor;
  })

unfoldable pub pair_told : Data → Option PairKey
pair_told d = do
  first ← eui_at (codes "first") d
  key ← key_at (codes "key") d
  second ← eui_at (codes "second") d
  Some (record { first = first; second = second; key = key })

-- no active key, or that of the row at a place
abbrev pub key_in : List NetKey → Option ℕ → Option (Option Bytes)
key_in nets place = option_map Some (place >>= (λ n. record_places.key_of n nets))

abbrev pub place_in : List NetKey → Data → Option (Option Bytes)
place_in nets null = Some None
place_in nets (boolean b) = None
place_in nets (number n) = key_in nets (up_to no_place (as_u64 n))
place_in nets (string s) = None
place_in nets (array ds) = None
place_in nets (object ms) = None

unfoldable pub active_at : List NetKey → List ℕ → Data → Option (Option Bytes)
active_at nets name d = get name d >>= place_in nets

abbrev pub roll_of : List ℕ → Option Bool
roll_of word = if bytes_eq word (codes "sending") then Some true else if bytes_eq word (codes "idle") then Some false
    else None

unfoldable pub roll_at : List ℕ → Data → Option Bool
roll_at name d = text_at name d >>= roll_of

unfoldable pub state_told : Data → Option NodeState
state_told d = do
  nets ← rows_at most_nets net_told (codes "nets") d
  links ← rows_at (most_links Centre) link_told (codes "links") d
  pairs ← rows_at most_pairs pair_told (codes "pairs") d
  active ← active_at nets (codes "active") d
  aps ← number_at greatest_counter (codes "aps") d
  nwk ← number_at greatest_counter (codes "nwk") d
  sending ← roll_at (codes "roll") d
  Some (record {
    role = Centre;
    state = Fresh;
    declared = nwk;
    aps_limit = aps;
    aps_next = aps;
    sending = sending;
    nets = nets;
    active = active;
    links = links;
    pairs = pairs;
  })
