-- What goes out with the next counters goes out with any counters that are the next ones.
use Rattle.std.proofs.Common.{◌≡◌, ℕ, Some, sym, ◌∙◌}
use Rattle.zb_model.specs.Answer.{Counting, Outgoing, Part, framed, part_of, sent}
use Rattle.zb_model.specs.Data.{Nwk, Aps}
use Rattle.zb_model.specs.Rules.{Sending, Setting}
use Rattle.zb_model.specs.State.{NodeState, active_row, next_counter}
use Rattle.zb_model_real.specs.Real.{real}
use Rattle.zb_send.specs.Sent.{IsCounting}

pub sent_with : (c : Setting) (s : NodeState) (send : Sending) (me nwk aps : ℕ) (part : Part) (out : Outgoing) → me
    ≡ c.me.eui → nwk ≡ next_counter Nwk s → aps ≡ next_counter Aps s
    → part ≡ part_of real me send.to nwk aps send.body → out ≡ framed real c send.to nwk send.secured (active_row s)
    part
    → (k : Counting) → IsCounting s k → out ≡ sent real c s k (Some send)
sent_with c s send me nwk aps part out is_me is_nwk is_aps is_part is_out k is =
    let same_nwk : nwk ≡ k.counter Nwk = is_nwk ∙ sym is.nwk in
    let same_aps : aps ≡ k.counter Aps = is_aps ∙ sym is.aps in
    cc
