-- Parts of the model's definitions about a node's rows, each over just the values that it needs.
use Rattle.std.specs.Prelude.{ℕ, Bool, true, false, not, ◌&&◌, nat_eq, Option, Some, None}
use Rattle.std.specs.List.{list_any}
use Rattle.zb_model.specs.Data.{Bytes, Role, State, Fresh, Knocked, Gone, Attribute}
use Rattle.zb_model.specs.State.{NodeState, LinkKey, is_centre, is_link, is_live_of, same_key}
use Rattle.zb_model.specs.Record.{attribute_byte}

-- a node of that role may use its network keys in that state
abbrev pub may_use_in : Role → State → Bool
may_use_in role Fresh = is_centre role
may_use_in role Knocked = is_centre role
may_use_in role Gone = is_centre role
may_use_in role _ = true

-- a link row of any partner, in use or dropped, has the key
abbrev pub key_is_used : NodeState → Bytes → Bool
key_is_used s key = list_any (λ (r : LinkKey). same_key r.key key) s.links

-- the row of a partner and a key, in use with that attribute
abbrev pub is_row_as : ℕ → Bytes → Attribute → LinkKey → Bool
is_row_as partner key attribute r = is_link partner key r
    && (r.live && nat_eq (attribute_byte r.attribute) (attribute_byte attribute))

-- the spared key, if there is one, is the row's
abbrev pub is_spared : Option Bytes → Bytes → Bool
is_spared None key = false
is_spared (Some spared) key = same_key key spared

-- a row in use of a partner that isn't spared
abbrev pub goes : ℕ → Option Bytes → LinkKey → Bool
goes partner spared r = is_live_of partner r && not (is_spared spared r.key)
