-- The result of a call is what the bytes open to.
use Rattle.std.proofs.Common.{◌≡◌, ℕ, List, length, Option, Result, Ok, Err, sym}
use Rattle.std.specs.Prelude.{IfOk}
use Rattle.zb_base.specs.declared.address.Eui.{Eui}
use Rattle.zb_base.specs.declared.key.Key.{Key}
use Rattle.zb_cursor.specs.Spelling.{IsBytes}
use Rattle.zb_seal.specs.declared.envelope.OpenError.{OpenError}
use Rattle.zb_seal.specs.declared.term.Term.{Term}
use Rattle.zb_seal.specs.Opening.{opened_nwk, opened_aps, OpensNwk, OpensAps}
use Rattle.zb_seal.proofs.NwkLaws.{found_nwk}
use Rattle.zb_seal.proofs.ApsLaws.{found_aps}

pub nwk_answer : (bytes : List ℕ) (base : Key) (r : Result Term OpenError) → IsBytes bytes → length base.0 ≡ 16 → r
    ≡ opened_nwk bytes base → IfOk r (λ t. OpensNwk bytes base t)
nwk_answer bytes base (Ok t) fits sixteen is = found_nwk bytes base t fits sixteen (sym is)
nwk_answer bytes base (Err e) fits sixteen is = tt

pub aps_answer : (bytes : List ℕ) (base : Key) (given : Option Eui) (r : Result Term OpenError) → IsBytes bytes
    → length base.0 ≡ 16 → r ≡ opened_aps bytes base given → IfOk r (λ t. OpensAps bytes base given t)
aps_answer bytes base given (Ok t) fits sixteen is = found_aps bytes base given t fits sixteen (sym is)
aps_answer bytes base given (Err e) fits sixteen is = tt
