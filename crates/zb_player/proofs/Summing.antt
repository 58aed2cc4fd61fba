-- The words of the last line.
use Rattle.std.proofs.Common.{◌≡◌, ℕ, Bool, List, fold, refl}
use Rattle.zb_model.specs.Lines.{Line, End}
use Rattle.zb_model.specs.Secrets.{ideal, private}
use Rattle.zb_model.specs.Transcript.{accept_count, end_line, refuse_count, seal_count}
use Rattle.zb_model_real.specs.Real.{real}

pub sums : (events seals accepts refusals : ℕ) (i p : Bool) (h : List Line) → seals ≡ fold seal_count 0 h → accepts
    ≡ fold accept_count 0 h → refusals ≡ fold refuse_count 0 h
    → i ≡ ideal real h → p ≡ private real h → End events seals accepts refusals i p ≡ end_line real events h
unfolding end_line
sums events seals accepts refusals i p h a b c d e = rw a (rw b (rw c (rw d (rw e refl))))
