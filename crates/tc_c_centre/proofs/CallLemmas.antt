-- How a call ends.
use Rattle.std.proofs.Common.{◌≡◌, ℕ, List, length, Bool, true, false, if◌then◌else◌, Result, Err, sym, ◌∙◌, ap, subst}
use Rattle.std.proofs.lemmas.Bool.{false≢true}
use Rattle.tc_c_centre.specs.Buffers.{Buffers, Calls, HandsOut, Made, fitted, in_use, is_ready}
use Rattle.tc_c_centre.specs.declared.fault.CallFault.{CallFault}
use Rattle.tc_c_centre.specs.declared.fault.CallFault.TheVariants.{Usage, NoMemory}

-- the buffers are as they are asked for
pub called : (is_made : List ℕ → Result Made CallFault → Type 0) (before after : Buffers) (number : ℕ)
    (made out : Result Made CallFault) → is_ready before.store before.used ≡ true → is_made (in_use before) made
    → out ≡ fitted (length before.answer) made → HandsOut out number before after
    → Calls is_made before number after
called is_made before after number made out ready right fits handed = record {
  made = made;
  right = λ again. right;
  handed_out = subst (λ (r : Result Made CallFault). HandsOut r number before after)
      (fits ∙ sym (ap (λ (b : Bool). if b then fitted (length before.answer) made else Err Usage) ready)) handed;
}

-- they aren't
pub misused : (is_made : List ℕ → Result Made CallFault → Type 0) (before after : Buffers) (number : ℕ)
    → is_ready before.store before.used ≡ false → HandsOut (Err Usage) number before after
    → Calls is_made before number after
misused is_made before after number unready handed = record {
  made = Err NoMemory;
  right = λ ready. absurd (false≢true (sym unready ∙ ready));
  handed_out = subst (λ (r : Result Made CallFault). HandsOut r number before after)
      (sym (ap (λ (b : Bool). if b then fitted (length before.answer) (Err NoMemory) else Err Usage) unready)) handed;
}
