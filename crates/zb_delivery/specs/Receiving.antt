-- What a delivered frame brings and leads to, in the words of the policy.
use Rattle.std.specs.Prelude.{◌≡◌, ℕ, true, Bool, if◌then◌else◌, List, [], Option, Some, None, option_map, option_to_list, Result, Ok, Err, ⊤}
use Rattle.zb_aps.specs.declared.frame.ApsFrame.{ApsFrame}
use Rattle.zb_base.specs.declared.address.Eui.{Eui}
use Rattle.zb_base.specs.declared.key.Key.{Key}
use Rattle.zb_base.specs.declared.place.Place.{Place}
use Rattle.zb_base.specs.declared.place.Place.TheVariants as place
use Rattle.zb_cmd.specs.Shape.{IsSmall}
use Rattle.zb_delivery.specs.declared.received.Content.{Content}
use Rattle.zb_delivery.specs.declared.received.Content.TheVariants as received
use Rattle.zb_delivery.specs.declared.received.Received.{Received}
use Rattle.zb_member_rules.specs.Forms.{leave_from}
use Rattle.zb_model.specs.Answer.{aps_command, aps_part, comes_to, stopped_at}
use Rattle.zb_model.specs.Commands.{Heard, take_command}
use Rattle.zb_model.specs.Data.{AtAps, AtNwk, Bytes, Malformed, Policy, Reason, Term}
use Rattle.zb_model.specs.Judging.{payload_of, sealed_for_transport}
use Rattle.zb_model.specs.Rules.{Does, Outcome, Plan, Setting}
use Rattle.zb_model.specs.State.{NodeState, is_centre}
use Rattle.zb_model.specs.Tools.{ApsShown, CommandShown, Unknown, LeaveShown, NwkShown, Other}
use Rattle.zb_model_real.specs.Readers.{aps_frame_shown, model_command}
use Rattle.zb_model_real.specs.Real.{real}
use Rattle.zb_node_types.specs.Changes as changes
use Rattle.zb_node_types.specs.Changes.{model_place, reason}
use Rattle.zb_node_types.specs.declared.refusal.Refusal.{Refusal}
use Rattle.zb_rules.specs.Hearing.{heard_of}
use Rattle.zb_rules.specs.declared.heard.Heard as program
use Rattle.zb_seal.specs.declared.term.Term as seal

-- The draw of a delivery: at the centre the key that it is given, elsewhere any, since no other node draws.
abbrev pub IsDrawOf : Setting → Option Key → Option Bytes → Type 0
IsDrawOf c key draw = is_centre c.me.role ≡ true → option_map (λ (k : Key). k.0) key ≡ draw

-- What came without NWK security is a command that is sealed for transport.
abbrev pub PassesInClear : Option seal.Term → Option ApsShown → Type 0
PassesInClear None shown = sealed_for_transport shown ≡ true
PassesInClear (Some term) shown = ⊤

-- why bytes that are no known command aren't taken
abbrev pub no_command : CommandShown → Reason
no_command Unknown = Policy
no_command _ = Malformed

-- why a NWK command that is no Leave isn't taken
abbrev pub no_leave : LeaveShown → Reason
no_leave Other = Policy
no_leave _ = Malformed

-- a command fits a frame
abbrev pub IsFitting : Content → Type 0
IsFitting (received.Leave options) = ⊤
IsFitting (received.Command command) = IsSmall command
IsFitting received.Data = ⊤

-- the layer of what was received
abbrev pub place_of : Content → Place
place_of (received.Leave options) = place.Nwk
place_of (received.Command command) = place.Aps
place_of received.Data = place.Aps

-- what a node is asked by what it received
abbrev pub asked : Setting → NodeState → Option Bytes → Heard → Content → Outcome
asked c s d m (received.Leave options) = leave_from c m.sender options
asked c s d m (received.Command command) = take_command real c s d m (model_command command)
asked c s d m received.Data = Does [] None

-- the plan of a refusal, after what was accepted
abbrev pub refused : List Term → Refusal → Plan
refused accepts refusal = stopped_at accepts (model_place (changes.place_of refusal)) (reason refusal)

-- the plan of content that came so
abbrev pub content_plan : Setting → NodeState → Option Bytes → List Term → Heard → Result Content Refusal → Plan
content_plan c s d accepts m (Err refusal) = refused accepts refusal
content_plan c s d accepts m (Ok it) = comes_to accepts (model_place (place_of it)) (asked c s d m it)

-- the plan of what was received
abbrev pub received_plan : Setting → NodeState → Option Bytes → List Term → Result Received Refusal → Plan
received_plan c s d accepts (Err refusal) = refused accepts refusal
received_plan c s d accepts (Ok it) =
    comes_to accepts (model_place (place_of it.content)) (asked c s d (heard_of it.came) it.content)

-- what an APS part brings: what its term opens to, or its body
abbrev pub brought : ApsFrame → Option seal.Term → Bytes
brought part None = part.body.items
brought part (Some term) = term.content.items

-- the plan of the bytes that an APS part brings, if they are to be a command or not
abbrev pub brought_plan : Setting → NodeState → Option Bytes → List Term → Heard → Bool → Bytes → Plan
brought_plan c s d accepts m is_command bytes =
    if is_command then aps_command real c s d accepts m (real.read_command bytes)
    else comes_to accepts AtAps (Does [] None)

-- the plan of an APS part that was judged
abbrev pub part_plan : Setting → NodeState → Option Bytes → List Term → ApsFrame → Option seal.Term
    → Result program.Heard Refusal → Plan
part_plan c s d accepts part aps (Err refusal) = refused accepts refusal
part_plan c s d accepts part aps (Ok heard) =
    brought_plan c s d accepts (heard_of heard) (aps_frame_shown part).is_command (brought part aps)

-- the plan of a frame whose NWK layer passed, once it is known whether it brings a Leave
abbrev pub nwk_plan : Setting → NodeState → Option Bytes → NwkShown → Option Term
    → Result (Option (Eui × ℕ)) Refusal → Plan
nwk_plan c s d f nwk (Err refusal) = refused (option_to_list nwk) refusal
nwk_plan c s d f nwk (Ok (Some leave)) = comes_to (option_to_list nwk) AtNwk (leave_from c leave.0.0 leave.1)
nwk_plan c s d f nwk (Ok None) = aps_part real c s d f nwk (real.read_aps (payload_of f nwk))
