-- How the first bad line of a transcript is printed.
use Rattle.std.specs.Prelude.{List, ℕ, ◌++◌, codes, decimal}
use Rattle.zb_trace_read.specs.declared.fault.TraceError.{TraceError}

abbrev pub fault_text : TraceError → List ℕ
fault_text e = codes "line " ++ decimal e.line ++ codes " is no line of a transcript"
