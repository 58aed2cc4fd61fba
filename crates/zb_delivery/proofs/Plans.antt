-- What each layer of a frame comes to, as equations of plans.
use Rattle.std.proofs.Common.{◌≡◌, ℕ, List, [], ◌∷◌, ◌++◌, refl, sym, ap, ◌∙◌, subst, Bool, true, false, if◌then◌else◌, Option, Some, None, option_map, Result, Ok, Err}
use Rattle.std.specs.Prelude.{option_to_list}
use Rattle.std.specs.Result.{IsErrAnd}
use Rattle.zb_aps.specs.Shape.{key_id}
use Rattle.zb_aps.specs.declared.auxiliary.ApsAux.{ApsAux}
use Rattle.zb_aps.specs.declared.frame.ApsFrame.{ApsFrame}
use Rattle.zb_base.specs.declared.address.Eui.{Eui}
use Rattle.zb_base.specs.declared.label.Label.{Label}
use Rattle.zb_base.specs.declared.place.Place.{Place}
use Rattle.zb_base.specs.declared.place.Place.TheVariants as place
use Rattle.zb_cmd.specs.Reading.{command_of, leave_of}
use Rattle.zb_cmd.specs.declared.command.Command.{Command}
use Rattle.zb_cmd.specs.declared.fault.CmdError.{CmdError}
use Rattle.zb_cmd.specs.declared.fault.CmdError.TheVariants as fault
use Rattle.zb_cmd.specs.declared.leave.Leave as leaving
use Rattle.zb_delivery.specs.Receiving.{PassesInClear, brought_plan, content_plan, no_command, no_leave, nwk_plan, part_plan, received_plan, refused}
use Rattle.zb_delivery.specs.declared.received.Content.TheVariants as received
use Rattle.zb_delivery.specs.declared.received.Received.{Received}
use Rattle.zb_host.specs.declared.outcome.Outcome.{Outcome}
use Rattle.zb_host.specs.declared.plan.Plan.{Plan as Program}
use Rattle.zb_judge.specs.Verdicts.{carrier_seen, unsealed_seen}
use Rattle.zb_judge.specs.declared.aps.Unsealed.{Unsealed}
use Rattle.zb_member_rules.specs.Forms.{leave_from}
use Rattle.zb_model.specs.Answer.{answer, aps_command, aps_part, by_security, comes_to, heard_sealed, net_part, nwk_command, plan_of, received_as, sealed_part, stopped_at}
use Rattle.zb_model.specs.Commands.{Heard, take_leave}
use Rattle.zb_model.specs.Data.{AtAps, AtNwk, Bytes, Reason}
use Rattle.zb_model.specs.Data as model
use Rattle.zb_model.specs.Judging.{Verdict, Good, Not, judge_aps, judge_nwk, payload_of}
use Rattle.zb_model.specs.Judging as judging
use Rattle.zb_model.specs.Rules.{Does, Plan, Setting}
use Rattle.zb_model.specs.Rules as rules
use Rattle.zb_model.specs.State.{NodeState}
use Rattle.zb_model.specs.Tools.{ApsShown, CommandShown, Known, LeaveShown, Leave, NwkShown}
use Rattle.zb_model_real.specs.Readers.{aps_frame_shown, auxiliary, command_shown, leave_shown, model_command, nwk_frame_shown}
use Rattle.zb_model_real.specs.Real.{real}
use Rattle.zb_model_real.specs.Terms.{model_term}
use Rattle.zb_node_types.specs.Changes as changes
use Rattle.zb_node_types.specs.Changes.{model_place, reason}
use Rattle.zb_node_types.specs.declared.refusal.Refusal.{Refusal}
use Rattle.zb_node_types.specs.declared.refusal.Refusal.TheVariants.{Malformed}
use Rattle.zb_nwk.specs.declared.frame.NwkFrame.{NwkFrame}
use Rattle.zb_plan.specs.Answers.{IsAnswer, answer_to, terms}
use Rattle.zb_plan.specs.Deciding.{IsDecision}
use Rattle.zb_rules.specs.Hearing.{heard_of}
use Rattle.zb_rules.specs.declared.heard.Heard.TheVariants.{Clear, Sealed}
use Rattle.zb_seal.specs.Opening.{label_of}
use Rattle.zb_seal.specs.declared.term.Term.{Term}

chosen_then : (b : Bool) (p q : Plan) → b ≡ true → p ≡ (if b then p else q)
chosen_then true p q e = refl
chosen_then false p q e = absurd cc

chosen_else : (b : Bool) (p q : Plan) → b ≡ false → q ≡ (if b then p else q)
chosen_else false p q e = refl
chosen_else true p q e = absurd cc

refused_is : (accepts : List model.Term) (r : Refusal) (at : Place) (why : Reason) → changes.place_of r ≡ at
    → reason r ≡ why → refused accepts r ≡ stopped_at accepts (model_place at) why
refused_is accepts r at why p e =
    subst (λ (q : Place). refused accepts r ≡ stopped_at accepts (model_place q) why) p
    (subst (λ (w : Reason). refused accepts r ≡ stopped_at accepts (model_place (changes.place_of r)) w) e refl)

-- where a call in the middle is refused, so is the whole
pub refused_exit : (c : Setting) (s : NodeState) (d : Option Bytes) (accepts : List model.Term)
    (r : Result Received Refusal) (e : Refusal) (plan : Plan) → IsErrAnd r (λ x. x ≡ e) → refused accepts e ≡ plan
    → received_plan c s d accepts r ≡ plan
refused_exit c s d accepts (Ok it) e plan is same = absurd is
refused_exit c s d accepts (Err x) e plan is same = subst (λ y. refused accepts y ≡ plan) (sym is) same

-- a NWK command

leave_is : (c : Setting) (t : model.Term) (options : ℕ) → leave_from c t.source options ≡ take_leave c t options
unfolding take_leave
leave_is c t options = refl

leave_read : (bytes : Bytes) (l : leaving.Leave) → Ok l ≡ leave_of bytes → Leave l.options ≡ real.read_leave bytes
unfolding real
leave_read bytes l e = ap leave_shown e

leave_unread : (bytes : Bytes) (f : CmdError) → Err f ≡ leave_of bytes → leave_shown (Err f) ≡ real.read_leave bytes
unfolding real
leave_unread bytes f e = ap leave_shown e

leave_refused : (c : Setting) (t : model.Term) (f : CmdError)
    → stopped_at (t ∷ []) AtNwk (no_leave (leave_shown (Err f))) ≡ nwk_command c t (leave_shown (Err f))
leave_refused c t (fault.Unknown id) = refl
leave_refused c t (fault.KeyType found) = refl
leave_refused c t (fault.Short at) = refl
leave_refused c t (fault.Trailing count) = refl

nwk_command_is : (c : Setting) (s : NodeState) (d : Option Bytes) (f : NwkShown) (t : model.Term) (shown : LeaveShown)
    → f.is_command ≡ true → shown ≡ real.read_leave t.content
    → nwk_command c t shown ≡ net_part real c s d f (Some t)
nwk_command_is c s d f t shown is read =
    ap (λ (l : LeaveShown). nwk_command c t l) read
    ∙ chosen_then f.is_command (nwk_command c t (real.read_leave t.content))
    (aps_part real c s d f (Some t) (real.read_aps t.content)) is

pub nwk_none : (c : Setting) (s : NodeState) (d : Option Bytes) (f : NwkShown) (nwk : Option Term) → nwk ≡ None
    → nwk_plan c s d f (option_map model_term nwk) (Ok None) ≡ net_part real c s d f (option_map model_term nwk)
nwk_none c s d f nwk n = rw n refl

pub nwk_payload : (c : Setting) (s : NodeState) (d : Option Bytes) (f : NwkShown) (nwk : Option Term) (t : Term)
    → nwk ≡ Some t → f.is_command ≡ false
    → nwk_plan c s d f (option_map model_term nwk) (Ok None) ≡ net_part real c s d f (option_map model_term nwk)
nwk_payload c s d f nwk t n is =
    rw n (chosen_else f.is_command (nwk_command c (model_term t) (real.read_leave t.content.items))
    (aps_part real c s d f (Some (model_term t)) (real.read_aps t.content.items)) is)

pub nwk_leave : (c : Setting) (s : NodeState) (d : Option Bytes) (f : NwkShown) (nwk : Option Term) (t : Term)
    (l : leaving.Leave) → nwk ≡ Some t → f.is_command ≡ true → Ok l ≡ leave_of t.content.items
    → nwk_plan c s d f (option_map model_term nwk) (Ok (Some (t.source, l.options)))
    ≡ net_part real c s d f (option_map model_term nwk)
nwk_leave c s d f nwk t l n is read =
    rw n (ap (λ (o : rules.Outcome). comes_to (model_term t ∷ []) AtNwk o) (leave_is c (model_term t) l.options)
    ∙ nwk_command_is c s d f (model_term t) (Leave l.options) is (leave_read t.content.items l read))

pub nwk_refused : (c : Setting) (s : NodeState) (d : Option Bytes) (f : NwkShown) (nwk : Option Term) (t : Term)
    (e : CmdError) (r : Refusal) → nwk ≡ Some t → f.is_command ≡ true → Err e ≡ leave_of t.content.items
    → changes.place_of r ≡ place.Nwk → reason r ≡ no_leave (leave_shown (Err e))
    → nwk_plan c s d f (option_map model_term nwk) (Err r) ≡ net_part real c s d f (option_map model_term nwk)
nwk_refused c s d f nwk t e r n is read at why =
    rw n (refused_is (model_term t ∷ []) r place.Nwk (no_leave (leave_shown (Err e))) at why
    ∙ leave_refused c (model_term t) e
    ∙ nwk_command_is c s d f (model_term t) (leave_shown (Err e)) is (leave_unread t.content.items e read))

-- what an APS part brings

command_read : (bytes : Bytes) (c : Command) → Ok c ≡ command_of bytes
    → Known (model_command c) ≡ real.read_command bytes
unfolding real
command_read bytes c e = ap command_shown e

command_unread : (bytes : Bytes) (f : CmdError) → Err f ≡ command_of bytes
    → command_shown (Err f) ≡ real.read_command bytes
unfolding real
command_unread bytes f e = ap command_shown e

command_refused : (c : Setting) (s : NodeState) (d : Option Bytes) (accepts : List model.Term) (m : Heard)
    (f : CmdError) → stopped_at accepts AtAps (no_command (command_shown (Err f)))
    ≡ aps_command real c s d accepts m (command_shown (Err f))
command_refused c s d accepts m (fault.Unknown id) = refl
command_refused c s d accepts m (fault.KeyType found) = refl
command_refused c s d accepts m (fault.Short at) = refl
command_refused c s d accepts m (fault.Trailing count) = refl

command_is : (c : Setting) (s : NodeState) (d : Option Bytes) (accepts : List model.Term) (m : Heard) (is : Bool)
    (bytes : Bytes) (shown : CommandShown) → is ≡ true → shown ≡ real.read_command bytes
    → aps_command real c s d accepts m shown ≡ brought_plan c s d accepts m is bytes
command_is c s d accepts m is bytes shown test read =
    ap (λ (x : CommandShown). aps_command real c s d accepts m x) read
    ∙ chosen_then is (aps_command real c s d accepts m (real.read_command bytes))
    (comes_to accepts AtAps (Does [] None)) test

pub data_content : (c : Setting) (s : NodeState) (d : Option Bytes) (accepts : List model.Term) (m : Heard)
    (is : Bool) (bytes : Bytes) → is ≡ false
    → content_plan c s d accepts m (Ok received.Data) ≡ brought_plan c s d accepts m is bytes
data_content c s d accepts m is bytes test =
    chosen_else is (aps_command real c s d accepts m (real.read_command bytes))
    (comes_to accepts AtAps (Does [] None)) test

pub command_content : (c : Setting) (s : NodeState) (d : Option Bytes) (accepts : List model.Term) (m : Heard)
    (is : Bool) (bytes : Bytes) (command : Command) → is ≡ true → Ok command ≡ command_of bytes
    → content_plan c s d accepts m (Ok (received.Command command)) ≡ brought_plan c s d accepts m is bytes
command_content c s d accepts m is bytes command test read =
    command_is c s d accepts m is bytes (Known (model_command command)) test (command_read bytes command read)

pub refused_content : (c : Setting) (s : NodeState) (d : Option Bytes) (accepts : List model.Term) (m : Heard)
    (is : Bool) (bytes : Bytes) (e : CmdError) (r : Refusal) → is ≡ true → Err e ≡ command_of bytes
    → changes.place_of r ≡ place.Aps → reason r ≡ no_command (command_shown (Err e))
    → content_plan c s d accepts m (Err r) ≡ brought_plan c s d accepts m is bytes
refused_content c s d accepts m is bytes e r test read at why =
    refused_is accepts r place.Aps (no_command (command_shown (Err e))) at why
    ∙ command_refused c s d accepts m e
    ∙ command_is c s d accepts m is bytes (command_shown (Err e)) test (command_unread bytes e read)

-- the security of an APS part

pub sealed_refused : (c : Setting) (s : NodeState) (d : Option Bytes) (f : NwkShown) (nwk aps : Option Term)
    (part : ApsFrame) (aux : ApsAux) (r : Refusal) → aps ≡ None
    → Not (model_place (changes.place_of r)) (reason r)
    ≡ judge_aps real c s f (payload_of f (option_map model_term nwk)) (auxiliary aux)
    → part_plan c s d (terms nwk aps) part aps (Err r)
    ≡ by_security real c s d f (option_map model_term nwk) (aps_frame_shown part) (Some (auxiliary aux))
sealed_refused c s d f nwk aps part aux r none e =
    rw none (ap (λ (v : Verdict judging.Unsealed). sealed_part real c s d (option_map model_term nwk)
    (aps_frame_shown part) (auxiliary aux) v) e)

sealed_heard : (nwk : Option Term) (source : Option Eui) (aux : ApsAux) (u : Unsealed) (label : Label)
    → option_map (λ (e : Eui). e.0) source ≡ option_map (λ (t : model.Term). t.source) (option_map model_term nwk)
    → label ≡ label_of (key_id aux.control)
    → heard_of (Sealed u.term.source label u.row source) ≡ heard_sealed (option_map model_term nwk) (auxiliary aux)
    (unsealed_seen u)
sealed_heard nwk source aux u label e is = rw (is, e) refl

pub sealed_passed : (c : Setting) (s : NodeState) (d : Option Bytes) (f : NwkShown) (nwk : Option Term)
    (part : ApsFrame) (aux : ApsAux) (u : Unsealed) (source : Option Eui) (label : Label)
    → option_map (λ (e : Eui). e.0) source ≡ option_map (λ (t : model.Term). t.source) (option_map model_term nwk)
    → label ≡ label_of (key_id aux.control)
    → Good (unsealed_seen u) ≡ judge_aps real c s f (payload_of f (option_map model_term nwk)) (auxiliary aux)
    → part_plan c s d (terms nwk (Some u.term)) part (Some u.term) (Ok (Sealed u.term.source label u.row source))
    ≡ by_security real c s d f (option_map model_term nwk) (aps_frame_shown part) (Some (auxiliary aux))
sealed_passed c s d f nwk part aux u source label from named e =
    ap (λ (m : Heard). brought_plan c s d (option_to_list (option_map model_term nwk) ++ model_term u.term ∷ []) m
    (aps_frame_shown part).is_command u.term.content.items) (sealed_heard nwk source aux u label from named)
    ∙ ap (λ (v : Verdict judging.Unsealed). sealed_part real c s d (option_map model_term nwk) (aps_frame_shown part)
    (auxiliary aux) v) e

-- the whole frame

pub frame_refused : (c : Setting) (s : NodeState) (d : Option Bytes) (bytes : Bytes) (nwk aps : Option Term)
    (r : Refusal) → nwk ≡ None → aps ≡ None
    → Not (model_place (changes.place_of r)) (reason r) ≡ judge_nwk real c s bytes
    → refused (terms nwk aps) r ≡ plan_of real c s (model.Received bytes d)
unfolding plan_of
frame_refused c s d bytes nwk aps r n a e =
    rw (n, a) (ap (λ (v : Verdict judging.Carrier). received_as real c s d v) e)

-- from the plan of a frame whose NWK layer passed to that of the bytes
pub frame_passed : (c : Setting) (s : NodeState) (d : Option Bytes) (bytes : Bytes) (f : NwkFrame)
    (nwk : Option Term) (plan : Plan) → Good (carrier_seen f nwk) ≡ judge_nwk real c s bytes
    → plan ≡ net_part real c s d (nwk_frame_shown f) (option_map model_term nwk)
    → plan ≡ plan_of real c s (model.Received bytes d)
unfolding plan_of
frame_passed c s d bytes f nwk plan e g =
    g ∙ ap (λ (v : Verdict judging.Carrier). received_as real c s d v) e

abbrev payload : NwkShown → Option Term → Bytes
payload f nwk = payload_of f (option_map model_term nwk)

-- the same of a frame that brings no NWK command
part_of_net : (c : Setting) (s : NodeState) (d : Option Bytes) (bytes : Bytes) (f : NwkFrame) (nwk : Option Term)
    (shown : Option ApsShown) (plan : Plan) → Good (carrier_seen f nwk) ≡ judge_nwk real c s bytes
    → aps_part real c s d (nwk_frame_shown f) (option_map model_term nwk)
    (real.read_aps (payload (nwk_frame_shown f) nwk))
    ≡ net_part real c s d (nwk_frame_shown f) (option_map model_term nwk)
    → shown ≡ real.read_aps (payload (nwk_frame_shown f) nwk)
    → plan ≡ aps_part real c s d (nwk_frame_shown f) (option_map model_term nwk) shown
    → plan ≡ plan_of real c s (model.Received bytes d)
part_of_net c s d bytes f nwk shown plan e net read g =
    frame_passed c s d bytes f nwk plan e
    (g ∙ ap (λ (o : Option ApsShown). aps_part real c s d (nwk_frame_shown f) (option_map model_term nwk) o) read
    ∙ net)

pub part_unread : (c : Setting) (s : NodeState) (d : Option Bytes) (bytes : Bytes) (f : NwkFrame)
    (nwk aps : Option Term) → Good (carrier_seen f nwk) ≡ judge_nwk real c s bytes
    → nwk_plan c s d (nwk_frame_shown f) (option_map model_term nwk) (Ok None)
    ≡ net_part real c s d (nwk_frame_shown f) (option_map model_term nwk)
    → aps ≡ None → None ≡ real.read_aps (payload (nwk_frame_shown f) nwk)
    → refused (terms nwk aps) (Malformed place.Aps) ≡ plan_of real c s (model.Received bytes d)
part_unread c s d bytes f nwk aps e net none read =
    rw none (part_of_net c s d bytes f nwk None (refused (terms nwk None) (Malformed place.Aps)) e net read refl)

pub part_read : (c : Setting) (s : NodeState) (d : Option Bytes) (bytes : Bytes) (f : NwkFrame)
    (nwk : Option Term) (part : ApsFrame) (plan : Plan) → Good (carrier_seen f nwk) ≡ judge_nwk real c s bytes
    → nwk_plan c s d (nwk_frame_shown f) (option_map model_term nwk) (Ok None)
    ≡ net_part real c s d (nwk_frame_shown f) (option_map model_term nwk)
    → Some (aps_frame_shown part) ≡ real.read_aps (payload (nwk_frame_shown f) nwk)
    → plan ≡ by_security real c s d (nwk_frame_shown f) (option_map model_term nwk) (aps_frame_shown part)
    (option_map auxiliary part.aux)
    → plan ≡ plan_of real c s (model.Received bytes d)
part_read c s d bytes f nwk part plan e net read g =
    part_of_net c s d bytes f nwk (Some (aps_frame_shown part)) plan e net read g

pub leave_refused_exit : (c : Setting) (s : NodeState) (d : Option Bytes) (bytes : Bytes) (f : NwkFrame)
    (nwk aps : Option Term) (e : Refusal) → Good (carrier_seen f nwk) ≡ judge_nwk real c s bytes → aps ≡ None
    → nwk_plan c s d (nwk_frame_shown f) (option_map model_term nwk) (Err e)
    ≡ net_part real c s d (nwk_frame_shown f) (option_map model_term nwk)
    → refused (terms nwk aps) e ≡ plan_of real c s (model.Received bytes d)
leave_refused_exit c s d bytes f nwk aps e passed none g =
    rw none (frame_passed c s d bytes f nwk (refused (terms nwk None) e) passed g)

pub leave_exit : (c : Setting) (s : NodeState) (d : Option Bytes) (bytes : Bytes) (f : NwkFrame)
    (nwk aps : Option Term) (leave : Option (Eui × ℕ)) (sender : Eui) (options : ℕ)
    → Good (carrier_seen f nwk) ≡ judge_nwk real c s bytes → aps ≡ None → leave ≡ Some (sender, options)
    → nwk_plan c s d (nwk_frame_shown f) (option_map model_term nwk) (Ok leave)
    ≡ net_part real c s d (nwk_frame_shown f) (option_map model_term nwk)
    → comes_to (terms nwk aps) AtNwk (leave_from c sender.0 options) ≡ plan_of real c s (model.Received bytes d)
leave_exit c s d bytes f nwk aps leave sender options passed none is g =
    rw none (frame_passed c s d bytes f nwk (comes_to (terms nwk None) AtNwk (leave_from c sender.0 options)) passed
    (subst (λ (o : Option (Eui × ℕ)). nwk_plan c s d (nwk_frame_shown f) (option_map model_term nwk) (Ok o)
    ≡ net_part real c s d (nwk_frame_shown f) (option_map model_term nwk)) is g))

pub no_leave_is : (c : Setting) (s : NodeState) (d : Option Bytes) (f : NwkShown) (nwk : Option Term)
    (leave : Option (Eui × ℕ)) → leave ≡ None
    → nwk_plan c s d f (option_map model_term nwk) (Ok leave) ≡ net_part real c s d f (option_map model_term nwk)
    → nwk_plan c s d f (option_map model_term nwk) (Ok None) ≡ net_part real c s d f (option_map model_term nwk)
no_leave_is c s d f nwk leave is g =
    subst (λ (o : Option (Eui × ℕ)). nwk_plan c s d f (option_map model_term nwk) (Ok o)
    ≡ net_part real c s d f (option_map model_term nwk)) is g

pub in_clear_read : (nwk : Option Term) (f : NwkFrame) (shown : ApsShown)
    → PassesInClear nwk (real.read_aps f.body.items) → Some shown ≡ real.read_aps (payload (nwk_frame_shown f) nwk)
    → PassesInClear nwk (Some shown)
in_clear_read None f shown clear read = subst (λ (o : Option ApsShown). PassesInClear None o) (sym read) clear
in_clear_read (Some t) f shown clear read = tt

-- the answer of a plan that is that of the bytes

pub planned : (c : Setting) (s : NodeState) (d : Option Bytes) (bytes : Bytes) (p : Plan)
    (plan : Program (Outcome Term Refusal)) → p ≡ plan_of real c s (model.Received bytes d)
    → IsAnswer plan (answer_to real c s p) → IsAnswer plan (answer real c s (model.Received bytes d))
unfolding answer
planned c s d bytes p plan e g = subst (λ (q : Plan). IsAnswer plan (answer_to real c s q)) e g

pub refusal_decided : (nwk aps : Option Term) (r : Refusal)
    → IsDecision (record { nwk = nwk; aps = aps; effect = Err r }) (refused (terms nwk aps) r)
refusal_decided nwk aps r = record { accepts = refl; outcome = refl; place = refl }
