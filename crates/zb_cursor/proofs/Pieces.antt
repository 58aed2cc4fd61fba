-- Pieces that are appended one after the other.
use Rattle.std.proofs.Common.{◌≡◌, ℕ, ◌+◌, ◌≤◌, List, ◌++◌, length, ap, append_assoc, arith, length-append}

-- the piece is at the end, and all of it fits
abbrev pub Puts : List ℕ → List ℕ → List ℕ → Type 0
Puts old piece new = (new ≡ old ++ piece) × (length old + length piece ≤ 127)

pub two : (old between new first second : List ℕ) → Puts old first between → Puts between second new
    → Puts old (first ++ second) new
two old between new first second p q = (
  rw (q.0, p.0) (append_assoc old first second),
  omega (arith, q.1, ap (length {A = ℕ}) p.0, length-append old first, length-append first second),
)
