-- What reads as tables has no fault, and leads to no others.
use Rattle.std.proofs.Common.{◌≡◌, ℕ, sym, ◌∙◌, Ok, Err}
use Rattle.std.specs.Prelude.{Result}
use Rattle.zb_base.specs.declared.fault.OrMemory.TheVariants.{Fault}
use Rattle.zb_model.specs.State.{NodeState}
use Rattle.zb_node_types.specs.declared.fault.KeyError.{KeyError}
use Rattle.zb_node_types.specs.declared.fault.KeyError.TheVariants.{KeyOld, KeysFull, RowsFull, KeyInUse, NoRow, WrongHash, BadRecord}
use Rattle.zb_record.specs.Records.{BadPlace}

pub one_read : (read : Result NodeState ℕ) (s t : NodeState) → read ≡ Ok s → read ≡ Ok t → t ≡ s
one_read read s t is found = ok_of t s (sym found ∙ is)
  where
    ok_of : (a b : NodeState) → ◌≡◌ {A = Result NodeState ℕ} (Ok a) (Ok b) → a ≡ b
    ok_of a b e = cc

pub no_fault : (read : Result NodeState ℕ) (s : NodeState) (e : KeyError) (total : ℕ) → read ≡ Ok s
    → BadPlace (Fault e) total read → ⊥
no_fault read s (KeyOld place) total is bad = bad
no_fault read s KeysFull total is bad = bad
no_fault read s RowsFull total is bad = bad
no_fault read s (KeyInUse partner) total is bad = bad
no_fault read s NoRow total is bad = bad
no_fault read s WrongHash total is bad = bad
no_fault read s (BadRecord place) total is (left, wrong, there) =
    let both : ◌≡◌ {A = Result NodeState ℕ} (Ok s) (Err left) = sym is ∙ wrong in
    absurd (cc)
