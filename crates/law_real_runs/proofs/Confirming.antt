-- Of the commands, only a Confirm-Key is spelled so that it reads as one.
use Rattle.std.proofs.Common.{◌≡◌, ℕ, ◌<◌, ◌^◌, Bool, true, false, cond, List, [], ◌∷◌, length, Result, Ok, Err, refl, sym, ap, ◌∙◌, subst}
use Rattle.std.specs.Prelude.{◌==◌}
use Rattle.arrayvec.specs.ArrayVec.{ArrayVec}
use Rattle.zb_base.specs.declared.address.Eui.{Eui}
use Rattle.zb_base.specs.declared.address.Short.{Short}
use Rattle.zb_base.specs.declared.key.Key.{Key}
use Rattle.zb_cmd.specs.Reading.{network_at, application_at, link_at, transport_of, transport_at, update_at, remove_at, partner_at, request_of, request_at, switch_at, inner_at, tunnel_at, verify_at, confirm_at, body_of, command_at, whole, command_of}
use Rattle.zb_cmd.specs.declared.command.Command.{Command}
use Rattle.zb_cmd.specs.declared.command.Command.TheVariants.{TransportNetwork, TransportApplication, TransportLink, Update, Remove, RequestApplication, RequestLink, Switch, Tunnel, Verify, Confirm}
use Rattle.zb_cmd.specs.declared.fault.CmdError.{CmdError}
use Rattle.zb_cmd.specs.declared.fault.CmdError.TheVariants as fault
use Rattle.zb_cursor.proofs.ReadAgain.{eui_again}
use Rattle.zb_cursor.specs.Reading.{follow, byte_at, bytes_at, short_at, eui_at, key_at}
use Rattle.zb_cursor.specs.Spelling.{eui}
use Rattle.law_run.proofs.Basics.{append-nil'}
use Rattle.law_run.specs.Commanding.{SpellsConfirm}
use Rattle.zb_model.specs.Data as model
use Rattle.zb_model.specs.Tools.{CommandShown, Known}
use Rattle.zb_model_real.specs.Real.{real}
use Rattle.zb_model_real.specs.Terms.{eui_of}
use Rattle.zb_model_real.specs.Readers.{model_command, command_shown}

-- readings that give no Confirm-Key

abbrev NoConfirm : Command → Type 0
NoConfirm (Confirm status kind destination) = ⊥
NoConfirm _ = Unit {0}

abbrev ReadsNone : Result (Command × List ℕ) CmdError → Type 0
ReadsNone (Ok x) = NoConfirm x.0
ReadsNone (Err e) = Unit {0}

abbrev IsNone : CommandShown → Type 0
IsNone (Known (model.ConfirmKey status kind destination)) = ⊥
IsNone _ = Unit {0}

follow-none : (A : Type 0) (o : Result (A × List ℕ) CmdError) (next : A → List ℕ → Result (Command × List ℕ) CmdError)
    → ((x : A) (rest : List ℕ) → ReadsNone (next x rest)) → ReadsNone (follow o next)
follow-none A (Ok x) next k = k x.0 x.1
follow-none A (Err e) next k = tt

network-none : (cut : CmdError) (bytes : List ℕ) → ReadsNone (network_at cut bytes)
unfolding network_at
network-none cut bytes =
    follow-none Key (key_at cut bytes)
    (λ k r. follow (byte_at cut r)
    (λ q r. follow (eui_at cut r) (λ d r. follow (eui_at cut r) (λ s r. Ok (TransportNetwork k q d s, r)))))
    (λ k r.
    follow-none ℕ (byte_at cut r)
    (λ q r. follow (eui_at cut r) (λ d r. follow (eui_at cut r) (λ s r. Ok (TransportNetwork k q d s, r)))) (λ q r.
    follow-none Eui (eui_at cut r) (λ d r. follow (eui_at cut r) (λ s r. Ok (TransportNetwork k q d s, r))) (λ d r.
    follow-none Eui (eui_at cut r) (λ s r. Ok (TransportNetwork k q d s, r)) (λ s r. tt))))

application-none : (cut : CmdError) (bytes : List ℕ) → ReadsNone (application_at cut bytes)
unfolding application_at
application-none cut bytes =
    follow-none Key (key_at cut bytes)
    (λ k r. follow (eui_at cut r) (λ p r. follow (byte_at cut r) (λ i r. Ok (TransportApplication k p i, r))))
    (λ k r.
    follow-none Eui (eui_at cut r) (λ p r. follow (byte_at cut r) (λ i r. Ok (TransportApplication k p i, r))) (λ p r.
    follow-none ℕ (byte_at cut r) (λ i r. Ok (TransportApplication k p i, r)) (λ i r. tt)))

link-none : (cut : CmdError) (bytes : List ℕ) → ReadsNone (link_at cut bytes)
unfolding link_at
link-none cut bytes =
    follow-none Key (key_at cut bytes)
    (λ k r. follow (eui_at cut r) (λ d r. follow (eui_at cut r) (λ s r. Ok (TransportLink k d s, r)))) (λ k r.
    follow-none Eui (eui_at cut r) (λ d r. follow (eui_at cut r) (λ s r. Ok (TransportLink k d s, r))) (λ d r.
    follow-none Eui (eui_at cut r) (λ s r. Ok (TransportLink k d s, r)) (λ s r. tt)))

update-none : (cut : CmdError) (bytes : List ℕ) → ReadsNone (update_at cut bytes)
unfolding update_at
update-none cut bytes =
    follow-none Eui (eui_at cut bytes)
    (λ d r. follow (short_at cut r) (λ a r. follow (byte_at cut r) (λ s r. Ok (Update d a s, r)))) (λ d r.
    follow-none Short (short_at cut r) (λ a r. follow (byte_at cut r) (λ s r. Ok (Update d a s, r))) (λ a r.
    follow-none ℕ (byte_at cut r) (λ s r. Ok (Update d a s, r)) (λ s r. tt)))

remove-none : (cut : CmdError) (bytes : List ℕ) → ReadsNone (remove_at cut bytes)
unfolding remove_at
remove-none cut bytes = follow-none Eui (eui_at cut bytes) (λ t r. Ok (Remove t, r)) (λ t r. tt)

partner-none : (cut : CmdError) (bytes : List ℕ) → ReadsNone (partner_at cut bytes)
unfolding partner_at
partner-none cut bytes = follow-none Eui (eui_at cut bytes) (λ p r. Ok (RequestApplication p, r)) (λ p r. tt)

switch-none : (cut : CmdError) (bytes : List ℕ) → ReadsNone (switch_at cut bytes)
unfolding switch_at
switch-none cut bytes = follow-none ℕ (byte_at cut bytes) (λ q r. Ok (Switch q, r)) (λ q r. tt)

tunnel-none : (cut : CmdError) (bytes : List ℕ) → ReadsNone (tunnel_at cut bytes)
unfolding tunnel_at
tunnel-none cut bytes =
    follow-none Eui (eui_at cut bytes) (λ d r. follow (inner_at cut r) (λ i r. Ok (Tunnel d i, r))) (λ d r.
    follow-none (ArrayVec ℕ) (inner_at cut r) (λ i r. Ok (Tunnel d i, r)) (λ i r. tt))

verify-none : (cut : CmdError) (bytes : List ℕ) → ReadsNone (verify_at cut bytes)
unfolding verify_at
verify-none cut bytes =
    follow-none ℕ (byte_at cut bytes)
    (λ k r. follow (eui_at cut r) (λ s r. follow (bytes_at 16 cut r) (λ h r. Ok (Verify k s h, r)))) (λ k r.
    follow-none Eui (eui_at cut r) (λ s r. follow (bytes_at 16 cut r) (λ h r. Ok (Verify k s h, r))) (λ s r.
    follow-none (List ℕ) (bytes_at 16 cut r) (λ h r. Ok (Verify k s h, r)) (λ h r. tt)))

-- what was read is shown, if no bytes are left
known-none : (c : Command) → NoConfirm c → IsNone (Known (model_command c))
known-none (TransportNetwork k q d s) n = tt
known-none (TransportApplication k p i) n = tt
known-none (TransportLink k d s) n = tt
known-none (Update d a s) n = tt
known-none (Remove t) n = tt
known-none (RequestApplication p) n = tt
known-none RequestLink n = tt
known-none (Switch q) n = tt
known-none (Tunnel d i) n = tt
known-none (Verify k s h) n = tt
known-none (Confirm s k d) n = n

error-none : (e : CmdError) → IsNone (command_shown (Err e))
error-none (fault.Unknown id) = tt
error-none (fault.KeyType found) = tt
error-none (fault.Short len) = tt
error-none (fault.Trailing len) = tt

ended-none : (c : Command) (left : ℕ) (b : Bool) → NoConfirm c
    → IsNone (command_shown (cond b (Ok c) (Err (fault.Trailing left))))
ended-none c left true n = known-none c n
ended-none c left false n = tt

whole-none : (r : Result (Command × List ℕ) CmdError) → ReadsNone r → IsNone (command_shown (whole r))
whole-none (Err e) n = error-none e
whole-none (Ok x) n = ended-none x.0 (length x.1) (length x.1 == 0) n

-- by the first bytes

abbrev cut_of : List ℕ → CmdError
cut_of bytes = fault.Short (length bytes)

transport-net : (rest : List ℕ) → IsNone (command_shown (command_of (5 ∷ 1 ∷ rest)))
unfolding command_of command_at body_of transport_at transport_of
transport-net rest = whole-none (network_at (cut_of (5 ∷ 1 ∷ rest)) rest) (network-none (cut_of (5 ∷ 1 ∷ rest)) rest)

transport-app : (rest : List ℕ) → IsNone (command_shown (command_of (5 ∷ 3 ∷ rest)))
unfolding command_of command_at body_of transport_at transport_of
transport-app rest = whole-none (application_at (cut_of (5 ∷ 3 ∷ rest)) rest)
    (application-none (cut_of (5 ∷ 3 ∷ rest)) rest)

transport-link : (rest : List ℕ) → IsNone (command_shown (command_of (5 ∷ 4 ∷ rest)))
unfolding command_of command_at body_of transport_at transport_of
transport-link rest = whole-none (link_at (cut_of (5 ∷ 4 ∷ rest)) rest) (link-none (cut_of (5 ∷ 4 ∷ rest)) rest)

update : (rest : List ℕ) → IsNone (command_shown (command_of (6 ∷ rest)))
unfolding command_of command_at body_of
update rest = whole-none (update_at (cut_of (6 ∷ rest)) rest) (update-none (cut_of (6 ∷ rest)) rest)

remove : (rest : List ℕ) → IsNone (command_shown (command_of (7 ∷ rest)))
unfolding command_of command_at body_of
remove rest = whole-none (remove_at (cut_of (7 ∷ rest)) rest) (remove-none (cut_of (7 ∷ rest)) rest)

request-app : (rest : List ℕ) → IsNone (command_shown (command_of (8 ∷ 2 ∷ rest)))
unfolding command_of command_at body_of request_at request_of
request-app rest = whole-none (partner_at (cut_of (8 ∷ 2 ∷ rest)) rest) (partner-none (cut_of (8 ∷ 2 ∷ rest)) rest)

request-link : IsNone (command_shown (command_of (8 ∷ 4 ∷ [])))
unfolding command_of command_at body_of request_at request_of
request-link = tt

switch : (rest : List ℕ) → IsNone (command_shown (command_of (9 ∷ rest)))
unfolding command_of command_at body_of
switch rest = whole-none (switch_at (cut_of (9 ∷ rest)) rest) (switch-none (cut_of (9 ∷ rest)) rest)

tunnel : (rest : List ℕ) → IsNone (command_shown (command_of (14 ∷ rest)))
unfolding command_of command_at body_of
tunnel rest = whole-none (tunnel_at (cut_of (14 ∷ rest)) rest) (tunnel-none (cut_of (14 ∷ rest)) rest)

verify : (rest : List ℕ) → IsNone (command_shown (command_of (15 ∷ rest)))
unfolding command_of command_at body_of
verify rest = whole-none (verify_at (cut_of (15 ∷ rest)) rest) (verify-none (cut_of (15 ∷ rest)) rest)

-- a Confirm-Key is read with its own device
confirm-again : (status kind device : ℕ) → device < 2 ^ 64 → command_of (16 ∷ status ∷ kind ∷ eui (eui_of device))
    ≡ Ok (Confirm status kind (eui_of device))
unfolding command_of command_at body_of confirm_at
confirm-again status kind device lt =
    let again : eui_at (cut_of (16 ∷ status ∷ kind ∷ eui (eui_of device))) (eui (eui_of device))
    ≡ Ok (eui_of device, []) =
    ap (λ b. eui_at (cut_of (16 ∷ status ∷ kind ∷ eui (eui_of device))) b) (sym (append-nil' (eui (eui_of device)))) ∙
    eui_again (cut_of (16 ∷ status ∷ kind ∷ eui (eui_of device))) (eui_of device) [] lt in
    rw again refl

device_of : CommandShown → ℕ
device_of (Known (model.ConfirmKey status kind device)) = device
device_of _ = 0

confirmed : (status kind device k d : ℕ) → command_shown (command_of (16 ∷ status ∷ kind ∷ eui (eui_of device)))
    ≡ Known (model.ConfirmKey 0 k d) → device < 2 ^ 64 → device ≡ d
unfolding device_of
confirmed status kind device k d e lt =
    ap (λ r. device_of (command_shown r)) (sym (confirm-again status kind device lt)) ∙ ap device_of e

pub spells-confirm : SpellsConfirm real
unfolding real
spells-confirm (model.TransportNet key q destination source) kind d e = subst IsNone e (transport-net _)
spells-confirm (model.TransportApp key partner initiator) kind d e = subst IsNone e (transport-app _)
spells-confirm (model.TransportLink key destination source) kind d e = subst IsNone e (transport-link _)
spells-confirm (model.UpdateDevice device short status) kind d e = subst IsNone e (update _)
spells-confirm (model.RemoveDevice target) kind d e = subst IsNone e (remove _)
spells-confirm (model.RequestApp partner) kind d e = subst IsNone e (request-app _)
spells-confirm model.RequestLink kind d e = subst IsNone e request-link
spells-confirm (model.SwitchKey q) kind d e = subst IsNone e (switch _)
spells-confirm (model.Tunnel destination inner) kind d e = subst IsNone e (tunnel _)
spells-confirm (model.VerifyKey k source hash) kind d e = subst IsNone e (verify _)
spells-confirm (model.ConfirmKey status k device) kind d e = confirmed status k device kind d e
