-- What a frame that was read opens to.
use Rattle.std.proofs.Common.{◌≡◌, List, ℕ, Some, Result, Ok, sym, ap, ◌∙◌}
use Rattle.zb_aps.specs.Reading.{frame_of}
use Rattle.zb_aps.specs.declared.frame.ApsFrame.{ApsFrame}
use Rattle.zb_base.specs.declared.address.Eui.{Eui}
use Rattle.zb_base.specs.declared.key.Key.{Key}
use Rattle.zb_model_real.specs.Real.{real, opened as shown}
use Rattle.zb_model_real.specs.Terms.{model_term}
use Rattle.zb_seal.specs.Opening.{aps_envelope, aps_seen, opened, opened_aps, opened_seen, seen_aps}
use Rattle.zb_seal.specs.declared.envelope.Envelope.{Envelope}
use Rattle.zb_seal.specs.declared.envelope.OpenError.{OpenError}
use Rattle.zb_seal.specs.declared.term.Term.{Term}

pub aps_opened : (bytes : List ℕ) (f : ApsFrame) (e : Envelope) (key : Key) (source : Eui) (t : Term) → frame_of bytes
    ≡ Ok f → Ok e ≡ aps_envelope f f.aux → Ok t ≡ opened e key (Some source)
    → Some (model_term t) ≡ real.open_aps bytes key.0 source.0
unfolding real opened_aps seen_aps
aps_opened bytes f e key source t read is it =
    let seen : seen_aps bytes ≡ Ok e = ap aps_seen read ∙ sym is in
    ap shown (it ∙ ap (λ (r : Result Envelope OpenError). opened_seen r key (Some source)) (sym seen))
