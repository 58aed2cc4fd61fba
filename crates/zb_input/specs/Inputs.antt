-- What is read from an input.
use Rattle.std.specs.Prelude.{◌≡◌, ◌≢◌, ℕ, ◌+◌, ◌-◌, ◌<◌, ◌≤◌, ◌++◌, min, Bool, true, false, List, length, Option, Result, Ok, Err, IfOk, IfErr, OnOk, IfSome}
use Rattle.std.specs.Io.KnownBytes.{Consumes, IsAtEnd}
use Rattle.std.specs.Str.Lines.{lines}
use Rattle.zb_base.specs.Outside.{Rose, Unrisen}
use Rattle.zb_base.specs.declared.fault.OrMemory.{OrMemory}
use Rattle.zb_base.specs.declared.fault.OrMemory.TheVariants as error
use Rattle.zb_capture.specs.Grammar.{IsCapture, captured}
use Rattle.zb_capture.specs.Readings.{Reading, Lead, IsReadAlone, with_more}
use Rattle.zb_capture.specs.declared.capture.Capture.{Capture}
use Rattle.zb_capture.specs.declared.fault.CaptureError.{CaptureError}
use Rattle.zb_input.specs.declared.incoming.Incoming.{Incoming}
use Rattle.zb_input.specs.declared.incoming.Taken.{Taken}
use Rattle.zb_input.specs.declared.input.InputFault.{InputFault}
use Rattle.zb_input.specs.declared.input.InputFault.TheVariants as input
use Rattle.zb_input.specs.declared.capture.CaptureFault.{CaptureFault}
use Rattle.zb_input.specs.declared.capture.CaptureFault.TheVariants as fault
use Rattle.zb_base.specs.Limits.{longest_input, first_too_long}

-- The source's bytes come after the earlier ones.
abbrev pub Grows : Option (List ℕ) → Option (List ℕ) → List ℕ → List ℕ → Type 0
Grows old new before after = (taken : List ℕ) × Consumes old new taken × (after ≡ before ++ taken)

-- At most `limit` bytes were read from a source.
abbrev pub TakesAtMost : Option (List ℕ) → Option (List ℕ) → ℕ → Type 0
TakesAtMost old new limit = (taken : List ℕ) × Consumes old new taken × (length taken ≤ limit)

-- Bytes that were read, and how that ended. After `Ok` there are as many as allowed, or the source has no more.
pub record IsReadOn (result : Result (Unit {0}) InputFault) (old new : Option (List ℕ)) (before after : List ℕ)
    (limit faults faults_after : ℕ) : Type 0 where
  pub grown : OnOk result (Grows old new before after)
  pub end : OnOk result (length after < limit → IsAtEnd new)
  pub short : length after ≤ limit
  pub later : faults ≤ faults_after
  pub read : result ≡ Err input.Read → Rose faults faults_after
  pub unrisen : result ≢ Err input.Read → Unrisen faults faults_after
  pub within : result ≡ Err input.TooLong → ⊥

-- The source gave more bytes than an input may have. `count` bytes were read before.
abbrev pub IsPastAll : Option (List ℕ) → Option (List ℕ) → ℕ → Type 0
IsPastAll old new count = (taken : List ℕ) × Consumes old new taken × (longest_input < count + length taken)

-- Bytes were read after others. The result is `true` if there are as many as were asked for.
pub record IsFilled (result : Result Bool InputFault) (old new : Option (List ℕ)) (before after : Incoming)
    (size faults faults_after : ℕ) : Type 0 where
  pub grown : OnOk result (Grows old new before.part.items after.part.items)
  pub count : OnOk result (after.count + length before.part.items ≡ before.count + length after.part.items)
  pub within : OnOk result (after.count ≤ longest_input)
  pub full : result ≡ Ok true → after.count ≡ before.count + min size (first_too_long - before.count)
  pub end : result ≡ Ok false → IsAtEnd new
  pub later : faults ≤ faults_after
  pub read : result ≡ Err input.Read → Rose faults faults_after
  pub unrisen : result ≢ Err input.Read → Unrisen faults faults_after
  pub too_long : result ≡ Err input.TooLong → IsPastAll old new before.count

-- Bytes were read after others. What comes after the whole lines of all these was split off, and the lines were
-- parsed by themselves.
pub record IsTaken (result : Result Taken InputFault) (old new : Option (List ℕ)) (before after : Incoming)
    (faults faults_after : ℕ) : Type 0 where
  pub grown : IfOk result (λ taken. Grows old new before.part.items (after.part.items ++ taken.rest.part.items))
  pub count : IfOk result
      (λ taken. taken.rest.count + length before.part.items
      ≡ before.count + length (after.part.items ++ taken.rest.part.items))
  pub within : IfOk result (λ taken. taken.rest.count ≤ longest_input)
  pub cut : IfOk result (λ taken. (more : List ℕ) → lines ((after.part.items ++ taken.rest.part.items) ++ more)
      ≡ lines after.part.items ++ lines (taken.rest.part.items ++ more))
  pub alone : IfOk result (λ taken. IsReadAlone taken.alone after.part.items)
  pub few : TakesAtMost old new (first_too_long - before.count)
  pub later : faults ≤ faults_after
  pub read : result ≡ Err input.Read → Rose faults faults_after
  pub unrisen : result ≢ Err input.Read → Unrisen faults faults_after
  pub too_long : result ≡ Err input.TooLong → IsPastAll old new before.count

-- Lines of the input were parsed: whatever comes later gives the same after the rest.
abbrev pub AreLinesRead : Result (Unit {0}) (OrMemory CaptureError) → Reading → Reading → List ℕ → List ℕ → Type 0
AreLinesRead (Ok done) old new before after = (more : List ℕ) → with_more old (lines (before ++ more))
    ≡ with_more new (lines (after ++ more))
AreLinesRead (Err (error.Fault fault)) old new before after = (more : List ℕ) → with_more old (lines (before ++ more))
    ≡ Err fault
AreLinesRead (Err error.NoMemory) old new before after = Unit {0}

-- Lines were parsed after the earlier ones, or have a fault. If memory runs out, this says nothing.
abbrev pub AreLines : Result (Unit {0}) (OrMemory CaptureError) → Reading → Reading → List (List ℕ) → Type 0
AreLines (Ok done) old new more = Lead old more new
AreLines (Err (error.Fault fault)) old new more = with_more old more ≡ Err fault
AreLines (Err error.NoMemory) old new more = Unit {0}

-- Bytes were read after others, and lines of all these were parsed. The rest may be the beginning of a line.
pub record IsRead (read : Result (Unit {0}) (OrMemory CaptureError)) (old new : Option (List ℕ))
    (before after : Incoming) (reading next : Reading) : Type 0 where
  pub all : List ℕ
  pub grown : Grows old new before.part.items all
  pub count : after.count + length before.part.items ≡ before.count + length all
  pub within : after.count ≤ longest_input
  pub lines : AreLinesRead read reading next all after.part.items
  pub room : OnOk read (next.lines + length after.part.items ≤ reading.lines + length all)

-- One round, in which bytes were read and lines were parsed.
pub record IsRound (result : Result (Result (Unit {0}) (OrMemory CaptureError)) InputFault)
    (old new : Option (List ℕ)) (before after : Incoming) (reading next : Reading) (faults faults_after : ℕ) : Type 0
  where
    pub came : IfOk result (λ read. IsRead read old new before after reading next)
    pub few : TakesAtMost old new (first_too_long - before.count)
    pub later : faults ≤ faults_after
    pub read : result ≡ Err input.Read → Rose faults faults_after
    pub unrisen : result ≢ Err input.Read → Unrisen faults faults_after
    pub too_long : result ≡ Err input.TooLong → IsPastAll old new before.count

-- All bytes of the source were read, and there are no more than an input may have.
abbrev pub IsAll : Option (List ℕ) → Option (List ℕ) → ℕ → Type 0
IsAll old new count = (taken : List ℕ) × Consumes old new taken × IsAtEnd new × (count + length taken ≤ longest_input)

-- What is reported for an input with a fault in its lines. `count` bytes were read before.
abbrev pub IsJudged : CaptureFault → OrMemory CaptureError → Option (List ℕ) → Option (List ℕ) → ℕ → ℕ → ℕ → Type 0
IsJudged (fault.Input input.Read) bad old new count faults later = Rose faults later
IsJudged (fault.Input input.TooLong) bad old new count faults later = IsPastAll old new count
IsJudged (fault.Input input.NoMemory) bad old new count faults later = Unit {0}
IsJudged (fault.Text e) bad old new count faults later = (bad ≡ error.Fault e) × IsAll old new count

-- Why an input isn't a capture.
abbrev pub IsWhyNot : CaptureFault → Option (List ℕ) → ℕ → ℕ → Type 0
IsWhyNot (fault.Input input.Read) rest faults later = Rose faults later
IsWhyNot (fault.Input input.TooLong) rest faults later = IfSome rest (λ text. longest_input < length text)
IsWhyNot (fault.Input input.NoMemory) rest faults later = Unit {0}
IsWhyNot (fault.Text e) rest faults later =
    IfSome rest (λ text. (length text ≤ longest_input) × (captured text ≡ Err e))

-- The result of reading an input as a capture. The text of a capture has at most 16,777,216 bytes.
pub record IsReadAsCapture (result : Result Capture CaptureFault) (old new : Option (List ℕ)) (faults later : ℕ) :
    Type 0 where
  pub exact : IfOk result (λ c. IfSome old (λ text. (length text ≤ longest_input) × (captured text ≡ Ok c)))
  pub valid : IfOk result (λ c. IsCapture c)
  pub end : OnOk result (IsAtEnd new)
  pub few : TakesAtMost old new first_too_long
  pub unrisen : result ≢ Err (fault.Input input.Read) → Unrisen faults later
  pub fault : IfErr result (λ e. IsWhyNot e old faults later)

abbrev pub fault_of : OrMemory CaptureError → CaptureFault
fault_of (error.Fault e) = fault.Text e
fault_of error.NoMemory = fault.Input input.NoMemory
