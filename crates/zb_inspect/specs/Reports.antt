-- What was written when the writing of a report ended.
use Rattle.std.specs.Prelude.{ℕ, List, Option, Result, Ok, Err}
use Rattle.std.specs.Io.KnownBytes.{Appends, Keeps}
use Rattle.zb_base.specs.Outside.{AppendsFront, Rose}
use Rattle.zb_capture.specs.declared.capture.Capture.{Capture}
use Rattle.zb_inspect.specs.Report.{report_of}
use Rattle.zb_inspect.specs.declared.fault.InspectFault.{InspectFault}
use Rattle.zb_inspect.specs.declared.fault.InspectFault.TheVariants.{Write, NoMemory}

-- After `Ok`, the report was written. If the sink failed, a prefix of it; if memory ran out, nothing.
abbrev pub Reports : Capture → Option (List ℕ) → Option (List ℕ) → ℕ → ℕ → Result (Unit {0}) InspectFault → Type 0
Reports c before after old new (Ok done) = Appends before after (report_of c)
Reports c before after old new (Err Write) = Rose old new × AppendsFront before after (report_of c)
Reports c before after old new (Err NoMemory) = Keeps before after
