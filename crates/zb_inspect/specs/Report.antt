-- The report on a capture (this project's profile): the lines of each frame, one line for each key, and the end.
use Rattle.std.specs.Prelude.{ℕ, ◌+◌, List, [], ◌∷◌, ◌++◌, length, codes, decimal, Option, Some, None}
use Rattle.hex.specs.Hex.{encode_upper}
use Rattle.zb_capture.specs.declared.capture.Capture.{Capture}
use Rattle.zb_inspect.specs.Rings.{keys_of, frames_shown, ring_of}
use Rattle.zb_inspect.specs.declared.key_ring.Ring.{Ring}
use Rattle.zb_inspect.specs.declared.key_ring.RingKey.{RingKey}
use Rattle.zb_inspect_frame.specs.Lines.{frames_text}
use Rattle.zb_text.specs.Words.{then}

abbrev pub found_text : Option (ℕ × ℕ) → List ℕ
found_text None = then (codes "given")
found_text (Some place) = then (codes "found") ++ then (decimal place.0) ++ then (decimal place.1)

-- The line of a key, and those of keys, of which the first has the number `number`.
unfoldable pub key_line : ℕ → RingKey → List ℕ
key_line number known = codes "key" ++ then (decimal number) ++ then (encode_upper known.key.0)
    ++ found_text known.found ++ 10 ∷ []

abbrev pub keys_text : ℕ → List RingKey → List ℕ
keys_text number [] = []
keys_text number (known ∷ more) = key_line number known ++ keys_text (number + 1) more

unfoldable pub end_line : ℕ → ℕ → ℕ → List ℕ
end_line frames keys rounds = codes "end" ++ then (decimal frames) ++ then (decimal keys) ++ then (decimal rounds)
    ++ 10 ∷ []

-- What comes after the lines of the frames.
abbrev pub tail_text : ℕ → Ring → List ℕ
tail_text frames ring = keys_text 1 ring.keys ++ end_line frames (length ring.keys) ring.rounds

-- The report under a ring: what each frame shows under its keys, the keys, and the counts.
abbrev pub report_text : Capture → Ring → List ℕ
report_text c ring = frames_text 1 (frames_shown c.addrs (keys_of ring.keys) c.frames)
    ++ tail_text (length c.frames) ring

-- The report on a capture, under its last ring.
unfoldable pub report_of : Capture → List ℕ
report_of c = report_text c (ring_of c)
