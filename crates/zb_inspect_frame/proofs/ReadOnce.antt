-- Frames that are parsed once: what they show follows from what was parsed.
use Rattle.std.proofs.Common.{◌≡◌, ℕ, List, Option, None, Result, Ok, Err, refl, ap, ◌∙◌}
use Rattle.std.specs.Option.{option_map}
use Rattle.arrayvec.specs.ArrayVec.{ArrayVec}
use Rattle.zb_base.specs.declared.address.Eui.{Eui}
use Rattle.zb_base.specs.declared.address.Short.{Short}
use Rattle.zb_base.specs.declared.key.Key.{Key}
use Rattle.zb_nwk.specs.Reading as nwk_reading
use Rattle.zb_nwk.specs.declared.fault.NwkError.{NwkError}
use Rattle.zb_nwk.specs.declared.frame.NwkFrame.{NwkFrame}
use Rattle.zb_aps.specs.Reading as aps_reading
use Rattle.zb_aps.specs.declared.fault.ApsError.{ApsError}
use Rattle.zb_aps.specs.declared.frame.ApsFrame.{ApsFrame}
use Rattle.zb_seal.specs.Opening.{aps_envelope, aps_seen, nwk_envelope, nwk_seen, seen_aps, seen_nwk}
use Rattle.zb_inspect_frame.specs.declared.layer.Finding.{Finding}
use Rattle.zb_inspect_frame.specs.declared.layer.Finding.TheVariants.{Malformed}
use Rattle.zb_inspect_frame.specs.declared.shown.Below.{Below}
use Rattle.zb_inspect_frame.specs.declared.shown.Shown.{Shown}
use Rattle.zb_inspect_frame.specs.Layers.{found_aps, found_nwk, looked, tried}
use Rattle.zb_inspect_frame.specs.Shows.{below, frame_shown, shown_under, tunnelled}

-- What a frame shows, from what is parsed.
abbrev nwk_by : List (Short × Eui) → List Key → Result NwkFrame NwkError → Shown
nwk_by addrs keys r = shown_under addrs keys (tried 0 keys (looked (nwk_seen r) None)) r

is_nwk_by : (addrs : List (Short × Eui)) (keys : List Key) (bytes : List ℕ)
    → nwk_by addrs keys (nwk_reading.frame_of bytes) ≡ frame_shown addrs keys bytes
unfolding frame_shown found_nwk seen_nwk
is_nwk_by addrs keys bytes = refl

pub frame_read : (addrs : List (Short × Eui)) (keys : List Key) (bytes : List ℕ) (f : NwkFrame) → Ok f
    ≡ nwk_reading.frame_of bytes
    → shown_under addrs keys (tried 0 keys (looked (nwk_envelope f f.aux) None)) (Ok f) ≡ frame_shown addrs keys bytes
frame_read addrs keys bytes f is = ap (nwk_by addrs keys) is ∙ is_nwk_by addrs keys bytes

pub frame_bad : (addrs : List (Short × Eui)) (keys : List Key) (bytes : List ℕ) (e : NwkError) → Err e
    ≡ nwk_reading.frame_of bytes
    → record { nwk = Malformed; below = None } ≡ frame_shown addrs keys bytes
frame_bad addrs keys bytes e is = ap (nwk_by addrs keys) is ∙ is_nwk_by addrs keys bytes

-- The same for a payload.

abbrev inside : List Key → Option Eui → Finding → Result ApsFrame ApsError → Option Finding
inside keys given aps r = option_map (λ (i : ArrayVec ℕ). found_aps keys given i.items) (tunnelled aps r)

abbrev both : Finding → Option Finding → Below
both aps inner = record { aps = aps; inner = inner }

abbrev aps_by : List Key → Option Eui → Result ApsFrame ApsError → Below
aps_by keys given r = both (tried 0 keys (looked (aps_seen r) given))
    (inside keys given (tried 0 keys (looked (aps_seen r) given)) r)

is_aps_by : (keys : List Key) (given : Option Eui) (payload : List ℕ)
    → aps_by keys given (aps_reading.frame_of payload) ≡ below keys given payload
unfolding found_aps seen_aps
is_aps_by keys given payload = refl

pub payload_read : (keys : List Key) (given : Option Eui) (payload : List ℕ) (f : ApsFrame) (aps : Finding)
    (inner : Option Finding)
    → Ok f ≡ aps_reading.frame_of payload → aps ≡ tried 0 keys (looked (aps_envelope f f.aux) given) → inner
    ≡ inside keys given aps (Ok f)
    → both aps inner ≡ below keys given payload
payload_read keys given payload f aps inner is found in_it =
    ap (both aps) in_it ∙ ap (λ a. both a (inside keys given a (Ok f))) found ∙ ap (aps_by keys given) is ∙ is_aps_by
    keys given payload

pub payload_bad : (keys : List Key) (given : Option Eui) (payload : List ℕ) (e : ApsError) → Err e
    ≡ aps_reading.frame_of payload
    → both Malformed None ≡ below keys given payload
payload_bad keys given payload e is = ap (aps_by keys given) is ∙ is_aps_by keys given payload
