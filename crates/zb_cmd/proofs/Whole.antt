-- A reading of all bytes has the result of the walk over them, and what the call that read them ensured.
use Rattle.std.proofs.Common.{◌≡◌, ◌<◌, ℕ, false, eqb, List, [], length, Result, Ok, Err, refl, ap, subst, ◌∙◌, arith, inl, inr, Bor, MutBor}
use Rattle.std.proofs.lemmas.Bool.{ne_eqb}
use Rattle.std.specs.Prelude.{IfOk}
use Rattle.std.specs.Fn.{Once, FnOnceReturnsAtMut}
use Rattle.zb_cursor.specs.declared.reader.Reader.{Reader}
use Rattle.zb_cursor.specs.Reading.{Reading, Gives}
use Rattle.zb_cursor.specs.Whole.{IsWhole}
use Rattle.zb_cmd.specs.declared.fault.CmdError.{CmdError}
use Rattle.zb_cmd.specs.declared.fault.CmdError.TheVariants.{Short, Trailing}
use Rattle.zb_cmd.specs.Reading.{whole}

-- a call of `read` for all of the bytes
module _ {A F : Type 0}
    (call : Once F (MutBor (Reader CmdError) × Unit {0}) (Result A CmdError × (MutBor (Reader CmdError) × Unit {0})))
    (read : F) (Tells : ℕ → CmdError → Type 0) (bytes : Bor (List ℕ)) where
  abbrev cut : CmdError
  cut = Short (length bytes.now)

  abbrev Gave : Result A CmdError → Reader CmdError → Type 0
  Gave = FnOnceReturnsAtMut call read (record { rest = bytes; cut = cut })

  module _ (P : A → Type 0)
      (has : (x : A) (shown left : MutBor (Reader CmdError)) → call.post read (shown, tt) (Ok x, (left, tt))
      → shown.now.rest.now ≡ bytes.now → left.now.rest.now ≡ [] → P x) where
    has_all : (x : A) (end : Reader CmdError) → Gave (Ok x) end → end.rest.now ≡ [] → P x
    has_all x end gave nothing = has x gave.shown gave.left gave.met
        (ap (λ (s : Reader CmdError). s.rest.now) gave.shows)
        (ap (λ (t : Reader CmdError). t.rest.now) gave.leaves ∙ nothing)

    pub read_whole_has : (r : Result A CmdError) → IsWhole Gave Tells r → IfOk r P
    read_whole_has (Ok x) all = has_all x all.value.0 all.value.1 all.value.2
    read_whole_has (Err e) all = tt

  -- if `read` reads as `reading` says, and the fault of n bytes that are left is `Trailing n`
  module _ (reading : Reading CmdError A)
      (reads : (r : Result A CmdError) (shown left : MutBor (Reader CmdError))
      → call.post read (shown, tt) (r, (left, tt))
      → Gives r left.now.rest.now (reading shown.now.cut shown.now.rest.now))
      (tells : (n : ℕ) (e : CmdError) → Tells n e → e ≡ Trailing n) where
    gives : (r : Result A CmdError) (end : Reader CmdError) → Gave r end → Gives r end.rest.now (reading cut bytes.now)
    gives r end gave = subst (λ (t : Reader CmdError). Gives r t.rest.now (reading cut bytes.now)) gave.leaves
        (subst (λ (s : Reader CmdError). Gives r gave.left.now.rest.now (reading s.cut s.rest.now)) gave.shows
        (reads r gave.shown gave.left gave.met))

    all_is : (x : A) (end : Reader CmdError) → Gave (Ok x) end → end.rest.now ≡ []
        → Ok x ≡ whole (reading cut bytes.now)
    all_is x end gave nothing = rw (gives (Ok x) end gave, nothing) refl

    fault_is : (e : CmdError) (end : Reader CmdError) → Gave (Err e) end → Err e ≡ whole (reading cut bytes.now)
    fault_is e end gave = rw (gives (Err e) end gave) refl

    left_is : (e : CmdError) (x : A) (end : Reader CmdError) → Gave (Ok x) end → 0 < length end.rest.now
        → Tells (length end.rest.now) e → Err e ≡ whole (reading cut bytes.now)
    left_is e x end gave some told =
        let left : eqb (length end.rest.now) 0 ≡ false = ne_eqb _ _ (λ zero. absurd (omega (arith, zero, some))) in
        rw (gives (Ok x) end gave, left, tells (length end.rest.now) e told) refl

    pub read_whole_is : (r : Result A CmdError) → IsWhole Gave Tells r → r ≡ whole (reading cut bytes.now)
    read_whole_is (Ok x) all = all_is x all.value.0 all.value.1 all.value.2
    read_whole_is (Err e) all = elim all.fault [
      | inl a ↦ fault_is e a.0 a.1
      | inr a ↦ left_is e a.0 a.1 a.2 a.3 a.4
    ]
