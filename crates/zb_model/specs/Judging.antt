-- How a delivered frame is verified: its NWK layer, then its APS part. The reasons are tried in order; the first that
-- applies is the answer. A layer that passes gives the term that was accepted.
use Rattle.std.specs.Prelude.{ℕ, Bool, true, false, not, if◌then◌else◌, ◌&&◌, ◌||◌, List, [], ◌∷◌, filter, find, reverse, length, Option, Some, None, nat_eq, nat_lt, nat_le, is_some}
use Rattle.zb_model.specs.Data.{Bytes, Role, Centre, Router, Device, State, Fresh, Knocked, Joined, Offered, Confirmed, Rejoining, Gone, Label, Station, Term, Place, AtNwk, AtAps, Reason, Malformed, NotForMe, Unsecured, NoKey, CounterMax, Stale, BadMic, NotMember, RowsFull, Task}
use Rattle.zb_model.specs.State.{greatest_counter, SenderFloor, NetKey, LinkKey, NodeState, is_centre, is_live_of, usable_of, sender_floor, is_live, is_known}
use Rattle.zb_model.specs.Fits.{most_senders}
use Rattle.zb_model.specs.Tools.{Tools, NwkShown, NwkAuxiliary, ApsShown, ApsAuxiliary}
use Rattle.zb_model.specs.Rules.{Setting, station_at, is_declared, waits_for_key}

-- What the verification gives: a reason, at a layer, or a value. Tests are chained as in the rules.
pub data Verdict (A : Type 0) : Type 0 where
  Not : (place : Place) (reason : Reason) → Verdict A
  Good : (it : A) → Verdict A

unfoldable pub reject : {A : Type 0} → Bool → Place → Reason → Verdict A → Verdict A
reject bad place reason rest = if bad then Not place reason else rest

unfoldable pub need : {A B : Type 0} → Option A → Place → Reason → (A → Verdict B) → Verdict B
need None place reason rest = Not place reason
need (Some a) place reason rest = rest a

-- The NWK layer

-- Frames are for a node by its short address, or for all (FFFF), for all that listen (FFFD), and for routers (FFFC).
abbrev pub hears : Setting → ℕ → Bool
hears c to = nat_eq to c.me.short || (nat_eq to 0xffff || (nat_eq to 0xfffd || (nat_eq to 0xfffc && routes c.me.role)))
  where
    routes : Role → Bool
    routes Device = false
    routes _ = true

-- An unsecured frame passes only as the carrier of a command that is sealed under a transport key, and only in a
-- router or device that waits for the network key.
abbrev pub is_transport : Label → Bool
is_transport Rattle.zb_model.specs.Data.Label.ForTransport = true
is_transport _ = false

abbrev pub sealed_for_transport : Option ApsShown → Bool
sealed_for_transport None = false
sealed_for_transport (Some a) = a.is_command && labelled a.auxiliary
  where
    labelled : Option ApsAuxiliary → Bool
    labelled None = false
    labelled (Some x) = is_transport x.label

abbrev pub may_pass_unsecured : Tools → Setting → NodeState → NwkShown → Bool
may_pass_unsecured tools c s f =
    not (is_centre c.me.role)
    && (waits_for_key s.state && (not f.is_command && sealed_for_transport (tools.read_aps f.body)))

-- a floor must be stored for a source, and 64 others already have floors
abbrev pub senders_full : ℕ → ℕ → NetKey → Bool
senders_full source counter row =
    nat_le (sender_floor source row).stored counter
    && nat_le most_senders (length (filter (λ (f : SenderFloor). not (nat_eq f.sender source)) row.floors))

-- a frame under the row of its key sequence
unfoldable pub judge_net : Tools → Setting → NodeState → Bytes → NwkAuxiliary → Verdict Term
judge_net tools c s bytes aux =
    need (usable_of s aux.sequence) AtNwk NoKey (λ row.
    reject (nat_le greatest_counter aux.counter) AtNwk CounterMax (
    reject (nat_lt aux.counter (sender_floor aux.source row).kept) AtNwk (Stale (sender_floor aux.source row).kept) (
    need (tools.open_nwk bytes row.key) AtNwk BadMic (λ term.
    reject (not (is_declared c aux.source)) AtNwk NotMember (
    reject (is_centre c.me.role && (is_known s aux.source && not (is_live s aux.source))) AtNwk NotMember (
    -- decides nothing in a run: at most 64 nodes are declared
    reject (senders_full aux.source aux.counter row) AtNwk RowsFull (
    Good term)))))))

-- What a NWK layer that passed gives: what the frame shows, and the accepted term if it is secured.
pub record Carrier : Type 0 where
  pub frame : NwkShown
  pub term : Option Term

abbrev pub carrier : NwkShown → Verdict Term → Verdict Carrier
carrier f (Not place reason) = Not place reason
carrier f (Good term) = Good (record { frame = f; term = Some term })

abbrev pub judge_security : Tools → Setting → NodeState → Bytes → NwkShown → Option NwkAuxiliary → Verdict Carrier
judge_security tools c s bytes f None =
    reject (not (may_pass_unsecured tools c s f)) AtNwk Unsecured (Good (record { frame = f; term = None }))
judge_security tools c s bytes f (Some aux) = carrier f (judge_net tools c s bytes aux)

unfoldable pub judge_nwk : Tools → Setting → NodeState → Bytes → Verdict Carrier
judge_nwk tools c s bytes =
    need (tools.read_nwk bytes) AtNwk Malformed (λ f.
    reject (nat_eq f.source c.me.short || not (hears c f.destination)) AtNwk NotForMe (
    judge_security tools c s bytes f f.auxiliary))

-- the payload of the frame: what the term opens to, or the unsecured payload
abbrev pub payload_of : NwkShown → Option Term → Bytes
payload_of f None = f.body
payload_of f (Some term) = term.content

-- The APS part

-- The candidates for a source: its live link rows, the one of the greatest place first.
unfoldable pub candidates : NodeState → ℕ → List LinkKey
candidates s source = filter (is_live_of source) (reverse s.links)

abbrev pub opens_with : Tools → Bytes → ℕ → LinkKey → Bool
opens_with tools bytes source row = is_some (tools.open_aps bytes row.key source)

-- the first candidate that opens the frame, else the first
abbrev pub chosen : Option LinkKey → List LinkKey → Option LinkKey
chosen (Some row) rows = Some row
chosen None [] = None
chosen None (row ∷ rows) = Some row

abbrev pub chosen_row : Tools → Bytes → ℕ → List LinkKey → Option LinkKey
chosen_row tools bytes source rows = chosen (find (opens_with tools bytes source) rows) rows

-- the source of a sealed APS part: its own, or the declared node of the frame's short source address
abbrev pub aps_source : Setting → NwkShown → ApsAuxiliary → Option ℕ
aps_source c f aux = own_or aux.source
  where
    declared_at : Option Station → Option ℕ
    declared_at None = None
    declared_at (Some p) = Some p.eui

    own_or : Option ℕ → Option ℕ
    own_or (Some eui) = Some eui
    own_or None = declared_at (station_at c.stations f.source)

-- An accepted APS part: its term and the row that opened it.
pub record Unsealed : Type 0 where
  pub term : Term
  pub row : LinkKey

unfoldable pub judge_aps : Tools → Setting → NodeState → NwkShown → Bytes → ApsAuxiliary → Verdict Unsealed
judge_aps tools c s f bytes aux =
    need (aps_source c f aux) AtAps NoKey (λ source.
    need (chosen_row tools bytes source (candidates s source)) AtAps NoKey (λ row.
    reject (nat_le greatest_counter aux.counter) AtAps CounterMax (
    reject (nat_lt aux.counter row.kept) AtAps (Stale row.kept) (
    need (tools.open_aps bytes row.key source) AtAps BadMic (λ term.
    Good (record { term = term; row = row }))))))
