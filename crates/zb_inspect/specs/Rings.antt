-- The ring of keys of a capture (this project's profile): the given keys, and those that the frames give, round after
-- round.
use Rattle.std.specs.Prelude.{◌≡◌, ◌≢◌, ℕ, suc, zero, ◌+◌, ◌-◌, ◌*◌, ◌<◌, ◌==◌, List, [], ◌∷◌, ◌++◌, length, map, bytes_eq, Bool, if◌then◌else◌, Option, Some, None}
use Rattle.std.specs.List.{list_any}
use Rattle.arrayvec.specs.ArrayVec.{ArrayVec}
use Rattle.zb_base.specs.declared.address.Eui.{Eui}
use Rattle.zb_base.specs.declared.address.Short.{Short}
use Rattle.zb_base.specs.declared.key.Key.{Key}
use Rattle.zb_capture.specs.declared.capture.Capture.{Capture}
use Rattle.zb_inspect_frame.specs.Carrying.{keys_carried}
use Rattle.zb_inspect_frame.specs.Shows.{frame_shown}
use Rattle.zb_inspect_frame.specs.declared.carried.Carried.{Carried}
use Rattle.zb_inspect_frame.specs.declared.shown.Shown.{Shown}
use Rattle.zb_inspect.specs.declared.key_ring.Lead.{Lead}
use Rattle.zb_inspect.specs.declared.key_ring.Ring.{Ring}
use Rattle.zb_inspect.specs.declared.key_ring.RingKey.{RingKey}

abbrev pub is_key : Key → RingKey → Bool
is_key key known = bytes_eq known.key.0 key.0

-- Whether the ring has the key.
abbrev pub has_key : List RingKey → Key → Bool
has_key ring key = list_any (is_key key) ring

-- A key is added after those of the ring, if it is new.
abbrev pub with_key : List RingKey → Key → Option (ℕ × ℕ) → List RingKey
with_key ring key found = if has_key ring key then ring else ring ++ record { key = key; found = found } ∷ []

-- The most keys of a ring: 256 that are given, and three for each of 100,000 frames.
abbrev pub most_ring_keys : ℕ
most_ring_keys = 300256

-- The given keys in order, without repeats.
abbrev pub given_from : List RingKey → List Key → List RingKey
given_from ring [] = ring
given_from ring (key ∷ more) = given_from (with_key ring key None) more

abbrev pub keys_of : List RingKey → List Key
keys_of ring = map (λ (known : RingKey). known.key) ring

-- The keys that the opened contents of a frame carry, inner before outer, with the number of the frame.
abbrev pub lead_of : ℕ → Option Key → List Lead
lead_of frame None = []
lead_of frame (Some key) = record { frame = frame; key = key } ∷ []

abbrev pub leads_of : ℕ → Carried → List Lead
leads_of frame carried = lead_of frame carried.inner ++ lead_of frame carried.aps ++ lead_of frame carried.nwk

-- Those of frames in order, of which the first has the number `frame`.
abbrev pub leads : ℕ → List Shown → List Lead
leads frame [] = []
leads frame (shown ∷ more) = leads_of frame (keys_carried shown) ++ leads (frame + 1) more

-- What frames show under the keys.
abbrev pub frames_shown : List (Short × Eui) → List Key → List (ArrayVec ℕ) → List Shown
frames_shown addrs keys frames = map (λ (frame : ArrayVec ℕ). frame_shown addrs keys frame.items) frames

-- Keys that were found in a round are added in order, if they are new.
abbrev pub learnt : ℕ → List RingKey → List Lead → List RingKey
learnt round ring [] = ring
learnt round ring (lead ∷ more) = learnt round (with_key ring lead.key (Some (lead.frame, round))) more

-- In a round every frame is opened with the ring so far. Then the keys that opened contents carry are added.
abbrev pub after_round : Capture → ℕ → List RingKey → List RingKey
after_round c round ring = learnt round ring (leads 1 (frames_shown c.addrs (keys_of ring) c.frames))

-- The keys after the given number of rounds.
unfoldable pub ring_after : Capture → ℕ → List RingKey
ring_after c zero = given_from [] c.keys
ring_after c (suc n) = after_round c (suc n) (ring_after c n)

-- The ring after round n + 1, if that adds no key, else after the next rounds. At most `tries` rounds are tried.
unfoldable pub ring_from : ℕ → Capture → ℕ → Ring
ring_from zero c n = record { keys = ring_after c n; rounds = n }
ring_from (suc tries) c n =
    if length (ring_after c (suc n)) == length (ring_after c n)
    then record { keys = ring_after c (suc n); rounds = suc n } else ring_from tries c (suc n)

-- The rounds end with the first one that adds no key. There is one: no ring has more keys than are given and three
-- for each frame, and each other round adds a key.
abbrev pub ring_of : Capture → Ring
ring_of c = ring_from (length c.keys + 3 * length c.frames + 1) c 0

-- The same without a count of tried rounds.
pub record IsRing (c : Capture) (ring : Ring) : Type 0 where
  pub some : 0 < ring.rounds
  pub keys : ring.keys ≡ ring_after c ring.rounds
  pub last : ring_after c ring.rounds ≡ ring_after c (ring.rounds - 1)
  pub first : (n : ℕ) → 0 < n → n < ring.rounds → ring_after c n ≢ ring_after c (n - 1)
