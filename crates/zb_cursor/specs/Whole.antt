-- Reading a value that must take all of the bytes.
use Rattle.std.specs.Prelude.{◌≡◌, ◌<◌, ◌⊎◌, ℕ, [], length, Result, Ok, Err, IfOk, IfErr}
use Rattle.zb_cursor.specs.declared.reader.Reader.{Reader}

-- A value takes all of the bytes: the call that reads them gave this value and left nothing. A fault is that of the
-- call, or the one that reports how many bytes the call left.
pub record IsWhole {E A : Type 0} (Gave : Result A E → Reader E → Type 0) (Tells : ℕ → E → Type 0) (read : Result A E)
    : Type 0 where
  pub value : IfOk read (λ x. (end : Reader E) × Gave (Ok x) end × (end.rest.now ≡ []))
  pub fault : IfErr read (λ e. ((end : Reader E) × Gave (Err e) end)
      ⊎ ((x : A) × (end : Reader E) × Gave (Ok x) end × (0 < length end.rest.now) × Tells (length end.rest.now) e))
