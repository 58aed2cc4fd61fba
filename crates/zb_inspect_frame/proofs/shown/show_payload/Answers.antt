use Rattle.std.proofs.Common.{◌∙◌, ℕ, ap, sym}
use Rattle.std.specs.Option.{option_map}
use Rattle.arrayvec.specs.ArrayVec.{ArrayVec}
use Rattle.zb_inspect_frame.specs.Layers.{found_aps}
use Rattle.zb_inspect_frame.proofs.ReadOnce.{payload_read}
use Rattle.zb_inspect_frame.proofs.shown.show_payload.Goals as goal

pub returns-in-Ok : goal.returns-in-Ok
returns-in-Ok c =
    payload_read c.args.keys.now c.args.given c.args.payload.now c.in-Ok.frame c.find_aps-aps.result
    c.find_inner-inner.result
    (sym c.in-Ok.is ∙ c.read.ensures.exact) c.find_aps-aps.ensures
    (c.find_inner-inner.ensures
    ∙ ap (option_map (λ (i : ArrayVec ℕ). found_aps c.args.keys.now c.args.given i.items)) c.tunnelled.ensures)
