-- How a fault of a capture is printed: the number of the line and the word of the cause.
use Rattle.std.specs.Prelude.{List, ℕ, ◌++◌, codes, decimal}
use Rattle.zb_capture.specs.declared.fault.CaptureCause.{CaptureCause}
use Rattle.zb_capture.specs.declared.fault.CaptureCause.TheVariants.{Syntax, BadCode, TooMany, AddressTaken}
use Rattle.zb_capture.specs.declared.fault.CaptureError.{CaptureError}

abbrev pub cause_text : CaptureCause → List ℕ
cause_text Syntax = codes "syntax"
cause_text BadCode = codes "bad-code"
cause_text TooMany = codes "too-many"
cause_text AddressTaken = codes "address-taken"

abbrev pub fault_text : CaptureError → List ℕ
fault_text fault = decimal fault.line ++ codes " " ++ cause_text fault.cause
