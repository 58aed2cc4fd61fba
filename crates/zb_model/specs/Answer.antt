-- The answer of one node to one event: the rule that applies, and then the node's counters. The answer is determined,
-- so it is a function; where only the policy is meant, the counters are a parameter (`Counting`).
use Rattle.std.specs.Prelude.{ℕ, ◌+◌, min, Bool, true, false, not, if◌then◌else◌, ◌&&◌, ◌||◌, List, [], ◌∷◌, ◌++◌, filter, find, Option, Some, None, nat_eq, nat_le, flat_map, option_map, option_to_list, is_some}
use Rattle.std.specs.List.{list_any}
use Rattle.zb_model.specs.Data.{Bytes, Layer, Nwk, Aps, ForTransport, ForData, Term, Move, Active, Row, Became, Edit, Reserve, Floor, Start, Moved, Place, AtNwk, AtAps, AtEvent, Reason, Malformed, Policy, Tunnel, Task, Received, nobody}
use Rattle.zb_model.specs.State.{greatest_counter, NetKey, LinkKey, NodeState, is_link, net_of, active_row, next_counter, stored_limit, applied_all, after_accepting, after_sealing, same_layer, is_active_key}
use Rattle.zb_model.specs.Fits.{net_stored, link_stored}
use Rattle.zb_model.specs.Record.{state_byte, attribute_byte}
use Rattle.zb_model.specs.Tools.{Tools, NwkShown, ApsShown, ApsAuxiliary, CommandShown, Known, Unknown, Broken, LeaveShown, Leave, Other, NoCommand}
use Rattle.zb_model.specs.Frames.{low_byte, plain_frame, secured_frame, leave_frame, nwk_header, nwk_term, aps_term, sealed_command, clear_command, data_front, data_control, sealed_data, leave_payload}
use Rattle.zb_model.specs.Rules.{Body, Saying, Clear, Secret, Tunnelled, Telling, Leaving, Relayed, Sending, Outcome, Stop, Does, Plan, Setting, spent}
use Rattle.zb_model.specs.OwnEvents.{own}
use Rattle.zb_model.specs.Judging.{Verdict, Not, Good, Carrier, judge_nwk, payload_of, Unsealed, judge_aps}
use Rattle.zb_model.specs.Commands.{Heard, take_command, take_leave}

-- The plan of a delivered frame

abbrev pub stopped_at : List Term → Place → Reason → Plan
stopped_at accepts place reason = record { accepts = accepts; place = place; outcome = Stop reason }

abbrev pub comes_to : List Term → Place → Outcome → Plan
comes_to accepts place outcome = record { accepts = accepts; place = place; outcome = outcome }

-- a NWK command: a Leave, or one that no node takes
abbrev pub nwk_command : Setting → Term → LeaveShown → Plan
nwk_command c term (Leave options) = comes_to (term ∷ []) AtNwk (take_leave c term options)
nwk_command c term Other = stopped_at (term ∷ []) AtNwk Policy
nwk_command c term NoCommand = stopped_at (term ∷ []) AtNwk Malformed

-- The source of the NWK term. The default number has no effect: only a command that is sealed at APS passes without
-- NWK security.
abbrev pub source_or : ℕ → Option Term → ℕ
source_or other None = other
source_or other (Some t) = t.source

abbrev pub heard_clear : Option Term → Heard
heard_clear nwk =
    record {
      sender = source_or nobody nwk;
      label = None;
      row = None;
      nwk_source = option_map (λ (t : Term). t.source) nwk;
    }

abbrev pub heard_sealed : Option Term → ApsAuxiliary → Unsealed → Heard
heard_sealed nwk aux u =
    record {
      sender = u.term.source;
      label = Some aux.label;
      row = Some u.row;
      nwk_source = option_map (λ (t : Term). t.source) nwk;
    }

-- An APS command: a known one has its rule, an unknown one isn't taken, and other bytes aren't a command.
abbrev pub aps_command : Tools → Setting → NodeState → Option Bytes → List Term → Heard → CommandShown → Plan
aps_command tools c s draw accepts m (Known command) = comes_to accepts AtAps (take_command tools c s draw m command)
aps_command tools c s draw accepts m Unknown = stopped_at accepts AtAps Policy
aps_command tools c s draw accepts m Broken = stopped_at accepts AtAps Malformed

-- Data and acknowledgements need nothing more once they are accepted; their content is for the application.
abbrev pub clear_part : Tools → Setting → NodeState → Option Bytes → Option Term → ApsShown → Plan
clear_part tools c s draw nwk a =
    if a.is_command then aps_command tools c s draw (option_to_list nwk) (heard_clear nwk) (tools.read_command a.body)
    else comes_to (option_to_list nwk) AtAps (Does [] None)

abbrev pub sealed_part : Tools → Setting → NodeState → Option Bytes → Option Term → ApsShown → ApsAuxiliary
    → Verdict Unsealed → Plan
sealed_part tools c s draw nwk a aux (Not place reason) = stopped_at (option_to_list nwk) place reason
sealed_part tools c s draw nwk a aux (Good u) =
    if a.is_command then aps_command tools c s draw (option_to_list nwk ++ u.term ∷ []) (heard_sealed nwk aux u)
    (tools.read_command u.term.content)
    else comes_to (option_to_list nwk ++ u.term ∷ []) AtAps (Does [] None)

abbrev pub by_security : Tools → Setting → NodeState → Option Bytes → NwkShown → Option Term → ApsShown
    → Option ApsAuxiliary → Plan
by_security tools c s draw f nwk a None = clear_part tools c s draw nwk a
by_security tools c s draw f nwk a (Some aux) =
    sealed_part tools c s draw nwk a aux (judge_aps tools c s f (payload_of f nwk) aux)

abbrev pub aps_part : Tools → Setting → NodeState → Option Bytes → NwkShown → Option Term → Option ApsShown → Plan
aps_part tools c s draw f nwk None = stopped_at (option_to_list nwk) AtAps Malformed
aps_part tools c s draw f nwk (Some a) = by_security tools c s draw f nwk a a.auxiliary

abbrev pub net_part : Tools → Setting → NodeState → Option Bytes → NwkShown → Option Term → Plan
net_part tools c s draw f None = aps_part tools c s draw f None (tools.read_aps f.body)
net_part tools c s draw f (Some term) =
    if f.is_command then nwk_command c term (tools.read_leave term.content)
    else aps_part tools c s draw f (Some term) (tools.read_aps term.content)

abbrev pub received_as : Tools → Setting → NodeState → Option Bytes → Verdict Carrier → Plan
received_as tools c s draw (Not place reason) = stopped_at [] place reason
received_as tools c s draw (Good k) = net_part tools c s draw k.frame k.term

unfoldable pub plan_of : Tools → Setting → NodeState → Task → Plan
plan_of tools c s (Received bytes draw) = received_as tools c s draw (judge_nwk tools c s bytes)
plan_of tools c s task = comes_to [] AtEvent (own tools c s task)

-- Which counters an answer takes.
pub record Counting : Type 0 where
  -- the counters of its frames
  pub counter : Layer → ℕ
  -- a limit that is reserved, at a layer
  pub reserve : Layer → Option ℕ
  -- the floor stored for the term accepted at a layer
  pub floor : Layer → Option ℕ
  -- the first counter of the key that becomes active
  pub start : Option ℕ

-- What goes out

abbrev pub has_aps_seal : Body → Bool
has_aps_seal (Secret label key command) = true
has_aps_seal (Tunnelled device key command) = true
has_aps_seal (Telling key bytes) = true
has_aps_seal _ = false

-- The layers at which a frame is sealed.
abbrev pub seals_at : Layer → Option Sending → Bool
seals_at layer None = false
seals_at Nwk (Some send) = send.secured
seals_at Aps (Some send) = has_aps_seal send.body

-- The APS part: what is sealed in it, its bytes, and the frame control that carries it.
pub record Part : Type 0 where
  pub control : ℕ
  pub seals : List Term
  pub bytes : Bytes

abbrev pub sealed_into : Tools → Term → Part
sealed_into tools t = record { control = secured_frame; seals = t ∷ []; bytes = tools.wire t }

abbrev pub in_clear : Bytes → Part
in_clear bytes = record { control = secured_frame; seals = []; bytes = bytes }

abbrev pub tunnel_of : Tools → ℕ → ℕ → Term → Part
tunnel_of tools nwk device t =
    record {
      control = secured_frame;
      seals = t ∷ [];
      bytes = clear_command ∷ low_byte nwk
          ∷ tools.spelled (Tunnel device (tools.wire t));
    }

unfoldable pub part_of : Tools → ℕ → ℕ → ℕ → ℕ → Body → Part
part_of tools me to nwk aps (Saying bytes) = in_clear (data_front (data_control to) ++ low_byte nwk ∷ bytes)
part_of tools me to nwk aps (Clear control command) = in_clear (control ∷ low_byte nwk ∷ tools.spelled command)
part_of tools me to nwk aps (Secret label key command) =
    sealed_into tools (aps_term sealed_command label key me aps (tools.spelled command))
part_of tools me to nwk aps (Tunnelled device key command) =
    tunnel_of tools nwk device (aps_term sealed_command ForTransport key me aps (tools.spelled command))
part_of tools me to nwk aps (Telling key bytes) =
    sealed_into tools (aps_term (data_front sealed_data) ForData key me aps bytes)
part_of tools me to nwk aps Leaving = record { control = leave_frame; seals = []; bytes = leave_payload }
part_of tools me to nwk aps (Relayed bytes) = in_clear bytes

pub record Outgoing : Type 0 where
  pub seals : List Term
  pub frame : Option Bytes

abbrev pub nothing_out : Outgoing
nothing_out = record { seals = []; frame = None }

-- sealed under the active row, APS before NWK
abbrev pub secured_out : Tools → Setting → ℕ → ℕ → NetKey → Part → Outgoing
secured_out tools c to nwk row part = let t = nwk_term part.control to c.me.short c.me.eui row.key row.sequence nwk
    part.bytes in record { seals = part.seals ++ t ∷ []; frame = Some (tools.wire t) }

abbrev pub plain_out : Setting → ℕ → Part → Outgoing
plain_out c to part =
    record { seals = part.seals; frame = Some (nwk_header plain_frame to c.me.short 0 ++ part.bytes) }

-- A secured frame without an active row isn't sent. This case has no effect: `may_seal` has already checked that
-- there is a row.
abbrev pub framed : Tools → Setting → ℕ → ℕ → Bool → Option NetKey → Part → Outgoing
framed tools c to nwk false row part = plain_out c to part
framed tools c to nwk true None part = nothing_out
framed tools c to nwk true (Some row) part = secured_out tools c to nwk row part

-- A node never seals without a counter: at NWK it has an active row whose counter isn't at its end, at APS the counter
-- isn't at its end. The rules have already refused every event for which this would fail, so it decides nothing in a
-- run. A row that was never started may seal: the reserve before the frame starts it.
unfoldable pub may_seal : NodeState → Option Sending → Bool
may_seal s send =
    (not (seals_at Nwk send) || (is_some (active_row s) && not (spent Nwk s)))
    && (not (seals_at Aps send) || not (spent Aps s))

abbrev pub sent : Tools → Setting → NodeState → Counting → Option Sending → Outgoing
sent tools c s k None = nothing_out
sent tools c s k (Some send) =
    framed tools c send.to (k.counter Nwk) send.secured (active_row s)
    (part_of tools c.me.eui send.to (k.counter Nwk) (k.counter Aps) send.body)

unfoldable pub out_of : Tools → Setting → NodeState → Counting → Option Sending → Outgoing
out_of tools c s k send = if may_seal s send then sent tools c s k send else nothing_out

-- What is stored

-- A change that leaves a thing as it is gives no line.
abbrev pub changes : NodeState → Move → Bool
changes s (Row partner key attribute) =
    not (list_any
    (λ (r : LinkKey). is_link partner key r
    && (r.live && nat_eq (attribute_byte r.attribute) (attribute_byte attribute))) s.links)
changes s (Active key) = not (is_active_key s.active key)
changes s (Became state) = not (nat_eq (state_byte s.state) (state_byte state))
changes s _ = true

abbrev pub row_is_started : Option NetKey → Bool
row_is_started None = false
row_is_started (Some r) = r.started

abbrev pub is_started_key : NodeState → Bytes → Bool
is_started_key s key = row_is_started (net_of key s)

-- the first counter of a key comes right after the change that makes the key active
abbrev pub start_edit : Bytes → Option ℕ → List Edit
start_edit key None = []
start_edit key (Some value) = Start key value ∷ []

abbrev pub move_edits : Counting → Move → List Edit
move_edits k (Active key) = Moved (Active key) ∷ start_edit key k.start
move_edits k move = Moved move ∷ []

abbrev pub reserve_edit : Counting → Layer → List Edit
reserve_edit k layer = option_to_list (option_map (Reserve layer) (k.reserve layer))

abbrev pub floor_edit : Counting → Term → List Edit
floor_edit k t = option_to_list (option_map (Floor t.layer t.base t.source) (k.floor t.layer))

abbrev pub moves_of : Outcome → List Move
moves_of (Stop reason) = []
moves_of (Does moves sending) = moves

abbrev pub sending_of : Outcome → Option Sending
sending_of (Stop reason) = None
sending_of (Does moves sending) = sending

abbrev pub reason_of : Outcome → Option Reason
reason_of (Stop reason) = Some reason
reason_of (Does moves sending) = None

abbrev pub refusal_of : Plan → Option Reason
refusal_of p = reason_of p.outcome

-- in the order of the lines: reserves, floors, and the rule's own changes
unfoldable pub edits_of : NodeState → Counting → Plan → List Edit
edits_of s k p =
    (reserve_edit k Nwk ++ reserve_edit k Aps)
    ++ (flat_map (floor_edit k) p.accepts ++ flat_map (move_edits k) (filter (changes s) (moves_of p.outcome)))

-- The whole answer: the changes that are stored, the terms accepted, a refusal, the terms sealed, the frame.
pub record Answer : Type 0 where
  pub edits : List Edit
  pub accepts : List Term
  pub place : Place
  pub refusal : Option Reason
  pub seals : List Term
  pub frame : Option Bytes

unfoldable pub answer_by : Tools → Setting → NodeState → Counting → Plan → Answer
answer_by tools c s k p = let out = out_of tools c s k (sending_of p.outcome) in record {
  edits = edits_of s k p;
  accepts = p.accepts;
  place = p.place;
  refusal = refusal_of p;
  seals = out.seals;
  frame = out.frame;
}

-- The counters that a node takes

-- A limit is reserved if the frame is sealed at the layer and the counter has reached its limit. The new limit is one
-- block above the counter.
unfoldable pub reserve_of : Setting → NodeState → Option Sending → Layer → Option ℕ
reserve_of c s send layer =
    if seals_at layer send && (may_seal s send && nat_eq (next_counter layer s) (stored_limit layer s))
    then Some (min (next_counter layer s + c.me.out_block) greatest_counter) else None

-- The stored floor of a term's sender under its key.
abbrev pub stored_at : Layer → Term → NodeState → ℕ
stored_at Nwk t s = net_stored t.source (net_of t.base s)
stored_at Aps t s = link_stored (find (is_link t.source t.base) s.links)

unfoldable pub stored_floor : Term → NodeState → ℕ
stored_floor t s = stored_at t.layer t s

-- A floor is stored if the accepted counter isn't below the stored floor. The new floor is one block above the
-- counter.
abbrev pub floor_for : Setting → NodeState → Term → Option ℕ
floor_for c s t = if nat_le (stored_floor t s) t.counter then Some (min (t.counter + c.me.in_block) greatest_counter)
    else None

unfoldable pub floor_of : Setting → NodeState → List Term → Layer → Option ℕ
floor_of c s [] layer = None
floor_of c s (t ∷ ts) layer = if same_layer t.layer layer then floor_for c s t else floor_of c s ts layer

-- A key that becomes active for the first time starts at 0 if the counter has passed half of its range, else at the
-- counter's present value.
abbrev pub half : ℕ
half = 2147483648

abbrev pub first_counter : NodeState → ℕ
first_counter s = if nat_le half (next_counter Nwk s) then 0 else next_counter Nwk s

abbrev pub activated : NodeState → List Move → Option Bytes
activated s [] = None
activated s (Active key ∷ moves) = Some key
activated s (_ ∷ moves) = activated s moves

abbrev pub start_for : NodeState → Option Bytes → Option ℕ
start_for s None = None
start_for s (Some key) = if is_started_key s key then None else Some (first_counter s)

unfoldable pub counting_of : Setting → NodeState → Plan → Counting
counting_of c s p = record {
  counter = λ layer. next_counter layer s;
  reserve = reserve_of c s (sending_of p.outcome);
  floor = floor_of c s p.accepts;
  start = start_for s (activated s (filter (changes s) (moves_of p.outcome)));
}

unfoldable pub answer : Tools → Setting → NodeState → Task → Answer
answer tools c s task = let p = plan_of tools c s task in answer_by tools c s (counting_of c s p) p

-- The state after an answer that was stored and handed out.
abbrev pub accepted_all : List Term → NodeState → NodeState
accepted_all [] s = s
accepted_all (t ∷ ts) s = accepted_all ts (after_accepting t s)

abbrev pub sealed_all : List Term → NodeState → NodeState
sealed_all [] s = s
sealed_all (t ∷ ts) s = sealed_all ts (after_sealing t s)

unfoldable pub answered : Answer → NodeState → NodeState
answered a s = sealed_all a.seals (accepted_all a.accepts (applied_all a.edits s))
