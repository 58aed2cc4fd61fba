-- Captures that are read in pieces.
use Rattle.std.specs.Prelude.{◌≡◌, ℕ, ◌++◌, List, Bool, true, not, map}
use Rattle.std.specs.List.{flat_map, list_all, list_any}
use Rattle.std.specs.Str.Lines.{lines}
use Rattle.zb_base.specs.declared.address.Eui.{Eui}
use Rattle.zb_base.specs.declared.address.Short.{Short}
use Rattle.zb_capture.specs.declared.capture.Capture.{Capture}
use Rattle.zb_capture.specs.declared.pieces.Found.{Found}
use Rattle.zb_capture.specs.declared.pieces.Piece.{Piece}
use Rattle.zb_capture.specs.Grammar.{has_short, IsCapture}
use Rattle.zb_capture.specs.Readings.{IsReadAlone}

-- The texts of pieces.
abbrev pub all_texts : List Piece → List (List ℕ)
all_texts pieces = map (λ (piece : Piece). piece.text.now) pieces

abbrev pub all_found : List Found → List (List ℕ)
all_found found = map (λ (piece : Found). piece.text.now) found

-- Texts that together are one text, cut between lines.
pub record AreCut (text : List ℕ) (parts : List (List ℕ)) : Type 0 where
  pub whole : flat_map (λ part. part) parts ≡ text
  pub lines : flat_map lines parts ≡ lines text

-- What a piece gives by itself.
abbrev pub IsFound : Found → Type 0
IsFound found = IsReadAlone found.read found.text.now

-- Two captures, the second one after the first.
abbrev pub both : Capture → Capture → Capture
both c d = record { keys = c.keys ++ d.keys; addrs = c.addrs ++ d.addrs; frames = c.frames ++ d.frames }

-- Whether no address of a list has the short address of this one.
abbrev pub is_new : List (Short × Eui) → Short × Eui → Bool
is_new addrs addr = not (list_any (has_short addr.0) addrs)

-- Both together keep the limits, and have no short address in common.
pub record Fit (c d : Capture) : Type 0 where
  pub limits : IsCapture (both c d)
  pub apart : list_all (is_new c.addrs) d.addrs ≡ true
