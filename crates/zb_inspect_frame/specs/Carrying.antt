-- The keys that opened contents carry.
use Rattle.std.specs.Prelude.{Option, Some, None}
use Rattle.zb_base.specs.declared.key.Key.{Key}
use Rattle.zb_seal.specs.Carrying.{carried}
use Rattle.zb_inspect_frame.specs.declared.carried.Carried.{Carried}
use Rattle.zb_inspect_frame.specs.declared.layer.Finding.{Finding}
use Rattle.zb_inspect_frame.specs.declared.layer.Finding.TheVariants.{Malformed, NotSecured, NoSource, Closed, Opened}
use Rattle.zb_inspect_frame.specs.declared.shown.Below.{Below}
use Rattle.zb_inspect_frame.specs.declared.shown.Shown.{Shown}

-- Only a content that a key of the ring opened carries a key.
abbrev pub carries : Finding → Option Key
carries (Opened number term) = carried term
carries Malformed = None
carries NotSecured = None
carries NoSource = None
carries (Closed s source) = None

abbrev pub key_below : Option Finding → Option Key
key_below None = None
key_below (Some inner) = carries inner

abbrev pub keys_of_layers : Finding → Option Below → Carried
keys_of_layers nwk None = record { inner = None; aps = None; nwk = carries nwk }
keys_of_layers nwk (Some below) = record { inner = key_below below.inner; aps = carries below.aps; nwk = carries nwk }

-- The keys of a frame, from the innermost layer outwards.
abbrev pub keys_carried : Shown → Carried
keys_carried shown = keys_of_layers shown.nwk shown.below
