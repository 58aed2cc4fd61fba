-- The words of a list for what is known of a row.
use Rattle.std.specs.Prelude.{Bool, if◌then◌else◌, codes, Option}
use Rattle.zb_model.specs.Data.{Bytes, Attribute, Provisional, Unverified, Verified}
use Rattle.zb_model.specs.State.{NetKey, is_active_key}

abbrev pub live_word : Bool → Bytes
live_word live = if live then codes "live" else codes "dropped"

-- the active network key is live too
abbrev pub net_word : Option Bytes → NetKey → Bytes
net_word active r = if is_active_key active r.key then codes "active" else live_word r.live

abbrev pub attribute_word : Attribute → Bytes
attribute_word Provisional = codes "provisional"
attribute_word Unverified = codes "unverified"
attribute_word Verified = codes "verified"
