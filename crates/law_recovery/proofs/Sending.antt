-- The frame when a rule sends a command under the active network key, sealed under a link key or in clear.
use Rattle.std.proofs.Common.{◌≡◌, ℕ, true, false, List, ◌∷◌, Some, refl}
use Rattle.zb_model.specs.Data.{Bytes, Nwk, Aps, Label, Command, Term, Place, Move}
use Rattle.zb_model.specs.Frames.{secured_frame, nwk_term, aps_term, sealed_command, clear_command, low_byte}
use Rattle.zb_model.specs.State.{NetKey, NodeState, active_row}
use Rattle.zb_model.specs.Tools.{Tools}
use Rattle.zb_model.specs.Rules.{Setting, Does, Secret, Clear, sends, spent, both_spent}
use Rattle.zb_model.specs.Answer.{Counting, comes_to, part_of, may_seal, out_of, answer_by}
use Rattle.law_change_fits.proofs.Tests.{neither}

pub apart_spent : (s : NodeState) → both_spent s ≡ false → (spent Nwk s ≡ false) × (spent Aps s ≡ false)
unfolding both_spent
apart_spent s e = neither (spent Nwk s) (spent Aps s) e

pub sealed_out : (tools : Tools) (c : Setting) (s : NodeState) (k : Counting) (accepts : List Term) (place : Place)
    (moves : List Move) (net : NetKey) (to : ℕ) (label : Label) (link : Bytes) (command : Command)
    → active_row s ≡ Some net → both_spent s ≡ false
    → (answer_by tools c s k (comes_to accepts place (Does moves (sends to true (Secret label link command))))).frame
    ≡ Some (tools.wire
    (nwk_term secured_frame to c.me.short c.me.eui net.key net.sequence (k.counter Nwk)
    (tools.wire (aps_term sealed_command label link c.me.eui (k.counter Aps) (tools.spelled command)))))
unfolding answer_by out_of may_seal part_of
sealed_out tools c s k accepts place moves net to label link command active unspent =
    let z = apart_spent s unspent in
    rw (z.0, z.1, active) refl

pub clear_out : (tools : Tools) (c : Setting) (s : NodeState) (k : Counting) (accepts : List Term) (place : Place)
    (moves : List Move) (net : NetKey) (to : ℕ) (command : Command)
    → active_row s ≡ Some net → spent Nwk s ≡ false
    → (answer_by tools c s k (comes_to accepts place (Does moves (sends to true (Clear clear_command command))))).frame
    ≡ Some (tools.wire
    (nwk_term secured_frame to c.me.short c.me.eui net.key net.sequence (k.counter Nwk)
    (clear_command ∷ low_byte (k.counter Nwk) ∷ tools.spelled command)))
unfolding answer_by out_of may_seal part_of
clear_out tools c s k accepts place moves net to command active unspent = rw (unspent, active) refl
