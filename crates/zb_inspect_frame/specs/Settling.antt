-- Frames for which further keys show no more.
use Rattle.std.specs.Prelude.{◌≡◌, ℕ, ◌≤◌, ◌&&◌, Bool, true, not, is_some, List, [], length, take, Option, Some, None}
use Rattle.zb_base.specs.declared.address.Eui.{Eui}
use Rattle.zb_base.specs.declared.address.Short.{Short}
use Rattle.zb_base.specs.declared.key.Key.{Key}
use Rattle.zb_inspect_frame.specs.Layers.{is_closed}
use Rattle.zb_inspect_frame.specs.Shows.{frame_shown}
use Rattle.zb_inspect_frame.specs.declared.layer.Finding.{Finding}
use Rattle.zb_inspect_frame.specs.declared.shown.Below.{Below}
use Rattle.zb_inspect_frame.specs.declared.shown.Shown.{Shown}

abbrev pub inner_settled : Option Finding → Bool
inner_settled None = true
inner_settled (Some inner) = not (is_closed inner)

abbrev pub below_settled : Option Below → Bool
below_settled None = true
below_settled (Some below) = not (is_closed below.aps) && inner_settled below.inner

-- Whether no layer of a frame is closed.
abbrev pub is_settled : Shown → Bool
is_settled shown = not (is_closed shown.nwk) && below_settled shown.below

-- Whether no key opened the NWK layer of a frame, so that nothing is known about what is below it.
abbrev pub is_unopened : Shown → Bool
is_unopened shown = is_closed shown.nwk && not (is_some shown.below)

-- A frame that shows this under some keys shows the same under any further ones.
abbrev pub ShowsNoMore : Shown → Type 0
ShowsNoMore seen = (known : ℕ) (addrs : List (Short × Eui)) (keys : List Key) (bytes : List ℕ) → known ≤ length keys
    → seen ≡ frame_shown addrs (take known keys) bytes → frame_shown addrs keys bytes ≡ seen

-- A frame that shows this under some keys shows the same under none.
abbrev pub ShowsNothing : Shown → Type 0
ShowsNothing seen = (addrs : List (Short × Eui)) (keys : List Key) (bytes : List ℕ) → seen
    ≡ frame_shown addrs keys bytes → frame_shown addrs [] bytes ≡ seen

-- If the first one is what a frame shows under the first keys, the second one is what it shows under all keys.
abbrev pub ShowsOn : ℕ → List Key → Shown → Shown → Type 0
ShowsOn known keys old new = (addrs : List (Short × Eui)) (bytes : List ℕ)
    → old ≡ frame_shown addrs (take known keys) bytes → new ≡ frame_shown addrs keys bytes
