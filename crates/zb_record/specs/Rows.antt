-- The rows of a record, read from their bytes, each checked against those before it.
use Rattle.std.specs.Prelude.{ℕ, Bool, true, not, ◌&&◌, ◌||◌, ◌==◌, if◌then◌else◌, List, [], ◌∷◌, ◌++◌, length, map, filter, Ok, nat_eq, nat_le, nat_lt}
use Rattle.std.specs.List.{list_any, list_all}
use Rattle.std.specs.Int.{w16, w32}
use Rattle.zb_base.specs.declared.address.Eui.{Eui}
use Rattle.zb_base.specs.declared.key.Key.{Key}
use Rattle.zb_node_types.specs.Changes.{model_attribute}
use Rattle.zb_cursor.specs.Spelling.{bit}
use Rattle.zb_cursor.specs.Reading.{byte_at, number_at, eui_at, key_at}
use Rattle.zb_model.specs.Data.{Bytes, Role, Attribute}
use Rattle.zb_model.specs.State.{SenderFloor, NetKey, LinkKey, PairKey, same_key, is_centre, is_provisional, is_unverified, has_net}
use Rattle.zb_model.specs.Fits.{most_links, most_pairs, most_senders, like_rows, same_bool}
use Rattle.zb_record.specs.declared.version.Version.{Version}
use Rattle.zb_record.specs.declared.version.Version.TheVariants.{First, Second, Third}
use Rattle.zb_record.specs.declared.sender.SenderRecord.{SenderRecord}
use Rattle.zb_record.specs.declared.net.NetRecord.{NetRecord}
use Rattle.zb_record.specs.declared.link.LinkRecord.{LinkRecord}
use Rattle.zb_record.specs.declared.pair.PairRecord.{PairRecord}
use Rattle.zb_record.specs.Fields.{attribute_at}
use Rattle.zb_record.specs.Placed.{Placed, ◌>>=◌, give, field, whole, rows_at}

-- the program's rows as the model's: after a boot a counter continues from its limit, and a floor from the stored one

abbrev pub sender_seen : SenderRecord → SenderFloor
sender_seen f = record { sender = f.sender.0; kept = f.stored; stored = f.stored }

abbrev pub net_seen : NetRecord → NetKey
net_seen r = record {
  key = r.key.0;
  sequence = r.sequence;
  live = r.live;
  started = r.started;
  limit = r.limit;
  next = r.limit;
  floors = map sender_seen r.floors.items;
}

abbrev pub link_seen : LinkRecord → LinkKey
link_seen r = record {
  partner = r.partner.0;
  key = r.key.0;
  attribute = model_attribute r.attribute;
  live = r.live;
  code = r.code;
  told = r.told;
  kept = r.stored;
  stored = r.stored;
}

abbrev pub pair_seen : PairRecord → PairKey
pair_seen p = record { first = p.first.0; second = p.second.0; key = p.key.0 }

-- the network keys

-- a key differs from those before it
abbrev pub is_new_net : List NetKey → Key → Bool
is_new_net done k = not (has_net k.0 done)

abbrev pub lives : List NetKey → ℕ
lives rows = length (filter (λ (r : NetKey). r.live) rows)

-- how many values the flags of a network row have: bit 0 live, and from version 2 on bit 1 started
abbrev pub net_flags : Version → ℕ
net_flags First = 2
net_flags Second = 4
net_flags Third = 4

-- a third live row is refused, and so is an active row that isn't live
abbrev pub net_flags_fit : Version → ℕ → List NetKey → ℕ → Bool
net_flags_fit version active done flags = nat_lt flags (net_flags version)
    && (if bit flags 0 then nat_lt (lives done) 2 else not (nat_eq active (length done)))

abbrev pub is_started : Version → ℕ → Bool
is_started First flags = true
is_started Second flags = bit flags 1
is_started Third flags = bit flags 1

-- a row that isn't started has the limit 0
abbrev pub allows_limit : Bool → ℕ → Bool
allows_limit started limit = started || nat_eq limit 0

-- the one limit of version 1, or the row's own
abbrev pub net_limit_at : Version → ℕ → Bool → Placed ℕ
net_limit_at First declared started = give declared
net_limit_at Second declared started = field (number_at w32) (allows_limit started)
net_limit_at Third declared started = field (number_at w32) (allows_limit started)

unfoldable pub net_at : Version → ℕ → ℕ → List NetKey → Placed NetKey
net_at version declared active done = do
  key ← field key_at (is_new_net done)
  sequence ← whole byte_at
  flags ← field byte_at (net_flags_fit version active done)
  limit ← net_limit_at version declared (is_started version flags)
  give (record {
    key = key.0;
    sequence = sequence;
    live = bit flags 0;
    started = is_started version flags;
    limit = limit;
    next = limit;
    floors = [];
  })

-- senders ascend
abbrev pub is_last : List SenderFloor → Eui → Bool
is_last done sender = list_all (λ (f : SenderFloor). nat_lt f.sender sender.0) done

abbrev pub isnt_zero : ℕ → Bool
isnt_zero n = nat_lt 0 n

abbrev pub has_few : ℕ → Bool
has_few n = nat_le n most_senders

unfoldable pub sender_at : List SenderFloor → Placed SenderFloor
sender_at done = do
  sender ← field eui_at (is_last done)
  floor ← field (number_at w32) isnt_zero
  give (record { sender = sender.0; kept = floor; stored = floor })

unfoldable pub floors_at : Placed (List SenderFloor)
floors_at = do
  count ← field byte_at has_few
  rows_at sender_at count []

-- the floors of a live row
abbrev pub live_floors_at : NetKey → Placed NetKey
live_floors_at r bytes = if r.live then (floors_at >>= (λ floors. give (record r { floors = floors }))) bytes
    else Ok (r, bytes)

-- the floors of all rows, in their order
unfoldable pub all_floors_at : List NetKey → List NetKey → Placed (List NetKey)
all_floors_at done [] bytes = Ok (done, bytes)
all_floors_at done (r ∷ rs) bytes = (live_floors_at r >>= (λ row. all_floors_at (done ++ row ∷ []) rs)) bytes

-- the link keys

abbrev pub is_new_link : List LinkKey → Key → Bool
is_new_link done k = not (list_any (λ (r : LinkKey). same_key r.key k.0) done)

-- the flags of a link row: bit 0 live, bit 1 from an install code, bit 2 told
abbrev pub link_row : ℕ → Bytes → Attribute → ℕ → LinkKey
link_row partner key t flags = record {
  partner = partner;
  key = key;
  attribute = t;
  live = bit flags 0;
  code = bit flags 1;
  told = bit flags 2;
  kept = 0;
  stored = 0;
}

abbrev pub kinds_alike : LinkKey → LinkKey → Bool
kinds_alike a b = like_rows a b && same_bool (is_unverified a.attribute) (is_unverified b.attribute)

abbrev pub told_apart : LinkKey → LinkKey → Bool
told_apart a b = like_rows a b && not (same_bool a.told b.told)

-- a told row is a live one of the centre, and a provisional row is from an install code
abbrev pub is_marked : Role → LinkKey → Bool
is_marked d r = (not r.told || (r.live && is_centre d)) && (not (is_provisional r.attribute) || r.code)

-- a partner has one live row of a kind, and its live rows agree whether it was told
abbrev pub link_fits : Role → List LinkKey → LinkKey → Bool
link_fits d done r = is_marked d r
    && (not (list_any (λ (y : LinkKey). kinds_alike y r) done)
    && not (list_any (λ (y : LinkKey). told_apart y r) done))

abbrev pub link_flags_fit : Role → List LinkKey → ℕ → Bytes → Attribute → ℕ → Bool
link_flags_fit d done partner key t flags = nat_lt flags 8 && link_fits d done (link_row partner key t flags)

unfoldable pub link_at : Role → List LinkKey → Placed LinkKey
link_at d done = do
  partner ← whole eui_at
  key ← field key_at (is_new_link done)
  attribute ← whole attribute_at
  flags ← field byte_at (link_flags_fit d done partner.0 key.0 (model_attribute attribute))
  floor ← whole (number_at w32)
  give (record (link_row partner.0 key.0 (model_attribute attribute) flags) { kept = floor; stored = floor })

abbrev pub has_link_room : Role → ℕ → Bool
has_link_room d n = nat_le n (most_links d)

unfoldable pub links_at : Role → Placed (List LinkKey)
links_at d = do
  count ← field (number_at w16) (has_link_room d)
  rows_at (link_at d) count []

-- the pairs

abbrev pub is_pair : ℕ → ℕ → PairKey → Bool
is_pair first second p = nat_eq p.first first && nat_eq p.second second

-- the first device is the one with the smaller EUI, and no two pairs have the same devices
abbrev pub is_new_pair : List PairKey → Eui → Eui → Bool
is_new_pair done first second = nat_lt first.0 second.0 && not (list_any (is_pair first.0 second.0) done)

abbrev pub is_one : ℕ → Bool
is_one n = n == 1

unfoldable pub pair_at : List PairKey → Placed PairKey
pair_at done = do
  first ← whole eui_at
  second ← field eui_at (is_new_pair done first)
  key ← whole key_at
  live ← field byte_at is_one
  give (record { first = first.0; second = second.0; key = key.0 })

-- only the centre has pairs
abbrev pub pairs_room : Role → ℕ
pairs_room d = if is_centre d then most_pairs else 0

abbrev pub has_pair_room : Role → ℕ → Bool
has_pair_room d n = nat_le n (pairs_room d)

unfoldable pub all_pairs_at : Role → Placed (List PairKey)
all_pairs_at d = do
  count ← field (number_at w16) (has_pair_room d)
  rows_at pair_at count []

-- only version 3 has pairs
abbrev pub pairs_at : Version → Role → Placed (List PairKey)
pairs_at First d = give []
pairs_at Second d = give []
pairs_at Third d = all_pairs_at d
