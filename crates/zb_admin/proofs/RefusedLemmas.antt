-- A refused command: its line is no other's.
use Rattle.std.proofs.Common.{◌≡◌, ℕ, true, List, [], ◌∷◌, ◌++◌, get_or, Option, Some, None, refl, sym, ap, ◌∙◌, arith}
use Rattle.std.specs.Prelude.{is_some}
use Rattle.zb_admin.specs.Served.{Done, IsRefusal, outcome_lines, sent_lines}
use Rattle.zb_admin.specs.Texts.{ok_line, refuse_line}
use Rattle.zb_model.specs.Data.{Bytes, Reason}
use Rattle.zb_model.specs.State.{NodeState}

-- lines that end with the `ok` of a command are no refusal
no_refusal : (lines : List Bytes) (n m : ℕ) (why : Bytes) → lines ++ ok_line n ∷ [] ≡ refuse_line m why ∷ [] → ⊥
no_refusal [] n m why e =
    let first : 111 ≡ 114 = ap (λ (l : List Bytes). get_or (get_or l 0 []) 0 0) e in
    absurd (omega (arith, first))
no_refusal (x ∷ []) n m why e = absurd (cc)
no_refusal (x ∷ y ∷ more) n m why e = absurd (cc)

pub is_no_refusal : (d : Done) (lines : List Bytes) (n : ℕ) → d.lines ≡ lines ++ ok_line n ∷ [] → IsRefusal d → ⊥
is_no_refusal d lines n is (m, why, e) = no_refusal lines n m why (sym is ∙ e)

-- an event whose line is a refusal was refused
pub refused_by : (number : ℕ) (reason : Option Reason) (frame : Option Bytes) (after : Option NodeState)
    → IsRefusal (record { lines = outcome_lines number reason frame; after = after }) → is_some reason ≡ true
refused_by number (Some reason) frame after refusal = refl
refused_by number None frame after refusal =
    absurd (no_refusal (sent_lines frame) number refusal.0 refusal.1 refusal.2)
