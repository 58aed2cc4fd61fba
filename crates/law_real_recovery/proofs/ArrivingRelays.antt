-- The real frames of a router's report and of a Tunnel are read, opened and understood as they were sent.
use Rattle.std.proofs.Common.{◌≡◌, ℕ, true, false, ◌<◌, ◌≤◌, ◌^◌, length, refl, ap, arith, length-append}
use Rattle.std.specs.Int.{w64}
use Rattle.std.specs.Prelude.{nat_le, slice_index}
use Rattle.zb_cmd.proofs.ReadAgain as cmd_again
use Rattle.zb_cmd.specs.Shape as cmd_shape
use Rattle.zb_cmd.specs.Spelling.{command}
use Rattle.zb_cursor.specs.Spelling.{bit, number}
use Rattle.zb_model.specs.Data.{Bytes, UpdateDevice}
use Rattle.zb_model_real.specs.Readers.{command_shown}
use Rattle.zb_model_real.specs.Real.{real, command_for}
use Rattle.zb_seal.specs.Wire.{wire}
use Rattle.law_recovery.specs.CommandFrames.{LinkFrame, clear_content, sealed_content}
use Rattle.law_recovery.specs.KeyFrames.{KeyFrame, KeyFrameInRange}
use Rattle.law_recovery.specs.RouterFrames.{DeliversRelays, ReportInRange, joins_now, reporting, tunnel}
use Rattle.law_real_recovery.proofs.Arriving.{air_frame, air-spells, own_term, wire-length}
use Rattle.law_real_recovery.proofs.ArrivingCommands.{IsSpelled, arrives, carried, clear_short, content-length, read_clear}

-- ---- the report

spelled_update : (device short : ℕ) → device < 2 ^ 64 → short < 2 ^ 16
    → IsSpelled (UpdateDevice device short joins_now)
unfolding real
spelled_update device short to at =
    let c = UpdateDevice device short joins_now in
    let fits : cmd_shape.InRange (command_for c) = (to, at, omega arith) in
    record {
      means =
          ap command_shown
          (cmd_again.spelled_again (command (command_for c)) (command_for c)
          (record { in_range = fits; shaped = tt; text = refl; fits = cmd_again.small_fits (command_for c) fits tt }));
      short = omega arith;
    }

report_short : (l : LinkFrame) (device short : ℕ) → ReportInRange l device short
    → length (sealed_content real (reporting l device short)) ≤ 101
unfolding real
report_short l device short r =
    omega (
      arith,
      content-length false l.link l.source l.counter (UpdateDevice device short joins_now) r.link,
      (spelled_update device short r.device_fits r.short_fits).short,
    )

-- ---- the Tunnel

-- what is in a Tunnel has the extended nonce
inner_is : (f : KeyFrame) → KeyFrameInRange f → cmd_shape.is_inner (wire (own_term f)) ≡ true
unfolding air_frame
inner_is f r =
    let long : nat_le 19 (length (wire (own_term f))) ≡ true = ap (nat_le 19) (wire-length f r) in
    let nonce : bit (slice_index (wire (own_term f)) 2) 5 ≡ true =
    ap (λ (l : Bytes). bit (slice_index l 2) 5) (air-spells f r).is_frame.text in
    rw (long, nonce) refl

spelled_tunnel : (f : KeyFrame) → KeyFrameInRange f → IsSpelled (tunnel real f)
unfolding real
spelled_tunnel f r =
    let c = tunnel real f in
    let small : cmd_shape.IsSmall (command_for c) = omega (arith, wire-length f r) in
    record {
      means =
          ap command_shown
          (cmd_again.spelled_again (command (command_for c)) (command_for c)
          (record {
            in_range = r.device;
            shaped = inner_is f r;
            text = refl;
            fits = cmd_again.small_fits (command_for c) r.device small;
          }));
      short = omega (arith, wire-length f r, length-append (number w64 f.device) (wire (own_term f)));
    }

-- ---- all of it

pub delivers_relays : DeliversRelays real
delivers_relays = record {
  carried = λ f l device short r s. carried f (sealed_content real (reporting l device short)) r
      (report_short l device short s);
  unsealed = λ l device short s. arrives false l.link l.source l.counter (UpdateDevice device short joins_now) s.link
      s.counter s.source (spelled_update device short s.device_fits s.short_fits);
  carried_tunnel = λ f g r s. carried f (clear_content real f.counter (tunnel real g)) r
      (clear_short f.counter (tunnel real g) (spelled_tunnel g s));
  read = λ counter g s. read_clear counter (tunnel real g) (spelled_tunnel g s);
}
