-- The payload of a NWK frame, as the model's: its control, what is sealed in it, and its bytes.
use Rattle.std.specs.Prelude.{ℕ, Option, option_map, option_to_list}
use Rattle.arrayvec.specs.ArrayVec.{ArrayVec}
use Rattle.zb_model.specs.Answer as model
use Rattle.zb_model_real.specs.Real.{real}
use Rattle.zb_model_real.specs.Terms.{model_term}
use Rattle.zb_seal.specs.declared.term.Term.{Term}
use Rattle.zb_send.specs.Sendings.{body_of}
use Rattle.zb_send.specs.declared.part.Seals.{Seals}
use Rattle.zb_send.specs.declared.sending.Sending.{Sending}

abbrev pub part_seen : ℕ → Option Term → ArrayVec ℕ → model.Part
part_seen control seal bytes =
    record { control = control; seals = option_to_list (option_map model_term seal); bytes = bytes.items }

-- the part that carries what is to be sent
abbrev pub part_by : Seals → Sending → model.Part
part_by seals sending = model.part_of real seals.me.0 sending.to.0 seals.nwk seals.aps (body_of sending.body)
