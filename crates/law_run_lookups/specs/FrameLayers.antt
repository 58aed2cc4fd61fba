-- At which layers the frame of a rule is sealed, and so which counters it uses. Data and the requests of routers and
-- devices are sealed at NWK, and also at APS if they are sent under a link key. A network key is sent to a child of
-- the centre without NWK security.
use Rattle.std.specs.Prelude.{◌≡◌, ◌≤◌, ◌⊎◌, if◌then◌else◌, Bool, List, [], ◌∷◌, Option, Some, None, nat_eq, ⊤}
use Rattle.std.specs.List.{list_any}
use Rattle.zb_model.specs.Data.{Layer, Nwk, Aps, State, Offered, Command, UpdateDevice, RemoveDevice, RequestApp, RequestLink, VerifyKey, Task, SayTo, TellTo, DoTimer, AskFor, HasChild, DoRemove, DoSwitch, DoShare}
use Rattle.zb_model.specs.State.{greatest_counter, LinkKey, NodeState, is_centre, current, next_counter, same_layer}
use Rattle.zb_model.specs.Rules.{Setting, Sending, centre_of}
use Rattle.zb_model.specs.Answer.{seals_at}

abbrev pub at_nwk : List Layer
at_nwk = Nwk ∷ []

abbrev pub at_both : List Layer
at_both = Nwk ∷ Aps ∷ []

-- in Offered the key is proved in clear (Verify-Key); otherwise a key is asked for, under the current row
abbrev pub timer_layers : State → List Layer
timer_layers Offered = at_nwk
timer_layers _ = at_both

-- a child is reported under the current row of the centre, or in clear if there is none
abbrev pub report_layers : Option LinkKey → List Layer
report_layers None = at_nwk
report_layers (Some row) = at_both

abbrev pub centre_layers : Setting → Task → List Layer
centre_layers c (SayTo to bytes) = at_nwk
centre_layers c DoTimer = at_both
centre_layers c (HasChild child rejoin) = Aps ∷ []
centre_layers c (DoRemove device via) = if nat_eq via c.me.eui then at_nwk else at_both
centre_layers c DoSwitch = at_nwk
centre_layers c (DoShare device partner) = at_both
centre_layers c _ = []

abbrev pub member_layers : Setting → NodeState → Task → List Layer
member_layers c s (SayTo to bytes) = at_nwk
member_layers c s (TellTo partner bytes) = at_both
member_layers c s DoTimer = timer_layers s.state
member_layers c s (AskFor partner) = at_both
member_layers c s (HasChild child rejoin) = report_layers (current s (centre_of c.stations))
member_layers c s _ = []

-- of an event of a node's own
abbrev pub own_layers : Setting → NodeState → Task → List Layer
own_layers c s task = if is_centre c.me.role then centre_layers c task else member_layers c s task

-- of the frame that answers a command: a Leave is sealed at NWK only; a key, and a Confirm-Key, at APS too
abbrev pub command_layers : Command → List Layer
command_layers (UpdateDevice device short status) = at_both
command_layers (RemoveDevice target) = at_nwk
command_layers (RequestApp partner) = at_both
command_layers RequestLink = at_both
command_layers (VerifyKey kind source hash) = at_both
command_layers _ = []

-- one of the layers has no counter left: its next counter is the greatest, which is never used
abbrev pub OneSpent : List Layer → NodeState → Type 0
OneSpent [] s = ⊥
OneSpent (layer ∷ layers) s = (greatest_counter ≤ next_counter layer s) ⊎ OneSpent layers s

-- a frame is sealed at exactly these layers
abbrev pub has_layer : Layer → List Layer → Bool
has_layer layer layers = list_any (same_layer layer) layers

abbrev pub SealedAt : List Layer → Option Sending → Type 0
SealedAt layers None = ⊤
SealedAt layers (Some send) = (seals_at Nwk (Some send) ≡ has_layer Nwk layers)
    × (seals_at Aps (Some send) ≡ has_layer Aps layers)
