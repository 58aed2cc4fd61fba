-- Parts of the centre's rules that have functions of their own.
use Rattle.std.specs.Prelude.{ℕ, ◌+◌, ◌%◌, true, [], ◌∷◌, ◌++◌, List}
use Rattle.zb_model.specs.Commands.{proves, send_confirm, verified_current}
use Rattle.zb_model.specs.Data.{Bytes, ForTransport, Move, Draw, Install, Roll, Row, Told, Verified, NoKey, WrongHash, WrongState, CounterSpent, TransportNet}
use Rattle.zb_model.specs.Rules.{Secret, Outcome, Stop, Does, Setting, refuse_if, found_or, choose, sends, short_of, both_spent, drop_old, drop_row}
use Rattle.zb_model.specs.State.{NetKey, NodeState, current, newest, offered}
use Rattle.zb_model.specs.Tools.{Tools}

-- the newest network key goes to a device, which then was told
abbrev pub newest_to : Setting → NodeState → ℕ → Outcome
newest_to c s device =
    found_or (newest s) NoKey (λ new.
    found_or (current s device) WrongState (λ row.
    refuse_if (both_spent s) CounterSpent (
    Does (Told device ∷ [])
    (sends (short_of c device) true
    (Secret ForTransport row.key (TransportNet new.key new.sequence device c.me.eui))))))

-- a new network key is drawn, and is to be sent to each device
abbrev pub rolled : NodeState → NetKey → Bytes → List Move
rolled s net key = Draw key ∷ drop_old s ++ (Install key ((net.sequence + 1) % 256) ∷ Roll true ∷ [])

-- the key that the hash is of is confirmed: the offered one, which then is verified, or the verified current one
abbrev pub confirmed_by : Tools → Setting → NodeState → ℕ → Bytes → Outcome
confirmed_by tools c s device hash =
    choose (proves tools hash (offered s device))
    (found_or (offered s device) WrongHash (λ row.
    send_confirm c device row.key (drop_row (current s device) ++ (Row device row.key Verified ∷ []))))
    (choose (proves tools hash (verified_current s device))
    (found_or (verified_current s device) WrongHash (λ row. send_confirm c device row.key []))
    (Stop WrongHash))
