-- What the reader has so far, and what it returns.
use Rattle.std.specs.Prelude.{◌≡◌, ℕ, Result, Ok, Err}
use Rattle.zb_base.specs.declared.fault.OrMemory.{OrMemory}
use Rattle.zb_base.specs.declared.fault.OrMemory.TheVariants as error
use Rattle.zb_capture.specs.declared.capture.Capture.{Capture}
use Rattle.zb_capture.specs.declared.draft.Draft.{Draft}
use Rattle.zb_capture.specs.declared.fault.CaptureCause.{CaptureCause}
use Rattle.zb_capture.specs.declared.fault.CaptureError.{CaptureError}

abbrev pub capture_of : Draft → Capture
capture_of draft = record { keys = draft.keys.items; addrs = draft.addrs; frames = draft.frames }

-- A step led to `new`, or to its fault. `next` is what it has to lead to. If memory runs out, this says nothing.
abbrev pub Steps : Result (Unit {0}) (OrMemory CaptureCause) → Capture → Result Capture CaptureCause → Type 0
Steps (Ok done) new next = next ≡ Ok new
Steps (Err (error.Fault cause)) new next = next ≡ Err cause
Steps (Err error.NoMemory) new next = Unit {0}

-- An answer is the expected one. If memory runs out, this says nothing.
abbrev pub Answers : {T E : Type 0} → Result T (OrMemory E) → Result T E → Type 0
Answers (Ok value) expected = expected ≡ Ok value
Answers (Err (error.Fault fault)) expected = expected ≡ Err fault
Answers (Err error.NoMemory) expected = Unit {0}

abbrev pub numbered : ℕ → OrMemory CaptureCause → OrMemory CaptureError
numbered line (error.Fault cause) = error.Fault (record { line = line; cause = cause })
numbered line error.NoMemory = error.NoMemory
