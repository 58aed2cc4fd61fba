-- What the calls of a disk do to it.
use Rattle.std.specs.Prelude.{ℕ, ◌+◌, ◌≤◌, ◌≡◌, ◌⊎◌, List, length, false, IsTrue, Result, OnOk, OnErr, is_err}
use Rattle.zb_base.specs.Outside.{HasCause, risen}
use Rattle.zb_disk.specs.View.{Telling, View, overwrite, Torn, Follows, Opens, Only, IsSame, IsStill}

-- Time passes: a crash since t left what it could leave before, or what it can leave now.
pub record Elapses (tells : Telling) (old new : View) : Type 0 where
  pub later : old.moment ≤ new.moment
  pub nothing_else : (t : ℕ) (c : List ℕ) → t ≤ old.moment → new.since t c → old.since t c ⊎ new.images c
  pub kept : IsTrue tells.past → (t : ℕ) (c : List ℕ) → t ≤ old.moment → old.since t c → new.since t c

-- The call was refused exactly if that was foretold, and so are the later calls and what a stop leaves.
pub record IsForetold {T E : Type 0} (old new : View) (result : Result T E) : Type 0 where
  pub refusal : is_err result ≡ old.refuses 0
  pub later : (k : ℕ) → new.refuses k ≡ old.refuses (k + 1)
  pub off : (k : ℕ) → new.off k ≡ old.off (k + 1)
  pub on : OnOk result (new.off 0 ≡ false)
  pub torn : new.torn ≡ old.torn

-- What holds for each call that writes or syncs.
pub record IsCounted {T E : Type 0} (tells : Telling) (old new : View) (result : Result T E) : Type 0 where
  pub calls : new.calls ≡ risen old.calls 1
  pub cause : HasCause old.faults new.faults result
  pub time : Elapses tells old new
  pub foretold : IsTrue tells.refusals → IsForetold old new result

-- What holds for each call that reads.
pub record IsRead {T E : Type 0} (tells : Telling) (old new : View) (result : Result T E) : Type 0 where
  pub still : IsStill old new
  pub cause : HasCause old.faults new.faults result
  pub refusal : IsTrue tells.refusals → is_err result ≡ old.off 0

-- A write. After `Ok` the bytes are read, and the images are exactly the old ones, torn there. After a failure there
-- are no other images.
pub record IsWrite {T E : Type 0} (tells : Telling) (at : ℕ) (bytes : List ℕ) (old new : View) (result : Result T E) :
    Type 0 where
  pub written : OnOk result (IsTrue tells.content → new.seen ≡ overwrite old.seen at bytes)
  pub torn : Follows (Torn at (length bytes)) old.images new.images
  pub opens : OnOk result (Opens (Torn at (length bytes)) old.images new.images)
  pub refused : OnErr result (IsTrue tells.steady → IsSame old new)
  pub counted : IsCounted tells old new result

-- A sync. After `Ok` what is read is the only image. After a failure no image has changed.
pub record IsSync {T E : Type 0} (tells : Telling) (old new : View) (result : Result T E) : Type 0 where
  pub durable : OnOk result (Only new.seen new.images)
  pub seen : new.seen ≡ old.seen
  pub images : (c : List ℕ) → new.images c → old.images c
  pub images_kept : OnErr result ((c : List ℕ) → old.images c → new.images c)
  pub counted : IsCounted tells old new result
