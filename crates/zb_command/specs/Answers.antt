-- What each command is to answer.
use Rattle.std.specs.Prelude.{ℕ, ◌∷◌, ◌++◌, [], nat_lt, if◌then◌else◌, length, Option, Some, None, Result, Ok, Err}
use Rattle.std.specs.Option.{option_map}
use Rattle.hex.specs.Hex.{encode_upper}
use Rattle.zb_campaign.specs.Campaigns.{campaigned}
use Rattle.zb_capture.specs.Grammar.{captured}
use Rattle.zb_capture.specs.declared.capture.Capture.{Capture}
use Rattle.zb_capture.specs.declared.fault.CaptureError.{CaptureError}
use Rattle.zb_gen.specs.Made.{made_schedule}
use Rattle.zb_inspect.specs.Report.{report_of}
use Rattle.zb_install.specs.Code.{code_of_text, code_key}
use Rattle.zb_install.specs.declared.code_error.CodeError.{CodeError}
use Rattle.zb_model.specs.Data.{Bytes}
use Rattle.zb_pcap.specs.Extracts.{extracted}
use Rattle.zb_pcap.specs.declared.extraction.Extraction.{Extraction}
use Rattle.zb_pcap.specs.declared.fault.PcapError.{PcapError}
use Rattle.zb_campaign.specs.Runs.{transcript_text}
use Rattle.zb_sched.specs.Schedules as sched
use Rattle.zb_sched.specs.Printed.{printed}
use Rattle.zb_sched.specs.Reading.{schedule_in}
use Rattle.zb_sched.specs.declared.error.SchedError.{SchedError}
use Rattle.zb_command.specs.CountsLine.{counts_line}
use Rattle.zb_command.specs.Commands.{Invocation, Playing, Installing, Making, Inspecting, Sniffing, Campaigning, Auditing, Serving}
use Rattle.zb_command.specs.Statuses.{cause_of, schedule_cause, capture_cause, pcap_cause}
use Rattle.zb_command.specs.declared.status.Status.{Status}
use Rattle.zb_command.specs.declared.status.Status.TheVariants as status
use Rattle.zb_command.specs.declared.status.Cause.{Cause}
use Rattle.zb_base.specs.Limits.{longest_input}

-- A whole output, the first bad line of the input with the first of its causes, or that the input is too long.
pub data Answer : Type 0 where
  Writes : (output : Bytes) → Answer
  Refuses : (line : ℕ) (cause : Cause) → Answer
  Exceeds : Answer

-- An input that is too long is judged before its lines.
abbrev pub within_limit : Bytes → Answer → Answer
within_limit input answer = if nat_lt longest_input (length input) then Exceeds else answer

-- ---- `play`: the text of the transcript that the policy gives of the schedule that the input is

abbrev pub play_answer : Result sched.Schedule SchedError → Answer
play_answer (Ok plan) = Writes (transcript_text plan)
play_answer (Err e) = Refuses e.line (schedule_cause e.cause)

-- ---- `install`: the 32 digits of the code's link key, and a line feed

abbrev pub install_answer : Result Bytes CodeError → Answer
install_answer (Ok code) = Writes (encode_upper (code_key code) ++ 10 ∷ [])
install_answer (Err e) = Refuses 1 (cause_of e)

-- ---- `make`: the printed text of the made schedule of start value 0, or where its lines clash

abbrev pub make_answer : Result sched.Schedule SchedError → Answer
make_answer (Ok plan) = Writes (printed plan)
make_answer (Err e) = Refuses e.line (schedule_cause e.cause)

-- ---- `inspect`: the report on the capture that the input is; the number of jobs doesn't matter

abbrev pub inspect_answer : Result Capture CaptureError → Answer
inspect_answer (Ok capture) = Writes (report_of capture)
inspect_answer (Err e) = Refuses e.line (capture_cause e.cause)

-- ---- `sniff`: the report on the frames of the capture file that the input is, and the counts of its packets

abbrev pub sniff_output : Extraction → Bytes
sniff_output e = report_of e.capture ++ counts_line e.counts

abbrev pub sniff_answer : Result Extraction PcapError → Answer
sniff_answer (Ok e) = Writes (sniff_output e)
sniff_answer (Err e) = Refuses e.place (pcap_cause e.cause)

-- ---- `campaign`: the lines of made schedules that were played, or where the first of them clashes; the number of
-- jobs doesn't matter

abbrev pub campaign_answer : Result Bytes SchedError → Answer
campaign_answer (Ok output) = Writes output
campaign_answer (Err e) = Refuses e.line (schedule_cause e.cause)

-- What is wanted of a command, by the bytes that a source has to come. None where the command reads them and the
-- source doesn't tell them; and for `audit` and `admin`, of which Auditing and Serving say how they end.
abbrev pub wanted : Invocation → Option Bytes → Option Answer
wanted Playing rest = option_map (λ input. within_limit input (play_answer (schedule_in input))) rest
wanted (Installing code) rest = Some (install_answer (code_of_text code))
wanted (Making count) rest = Some (make_answer (made_schedule 0 count))
wanted (Inspecting jobs) rest = option_map (λ input. within_limit input (inspect_answer (captured input))) rest
wanted (Sniffing jobs keys) rest = option_map (λ input. within_limit input (sniff_answer (extracted keys input))) rest
wanted (Campaigning count start jobs) rest = Some (campaign_answer (campaigned count start))
wanted Auditing rest = None
wanted Serving rest = None

-- The status that an answer comes with, and the bytes that are written.
abbrev pub status_of : Answer → Status
status_of (Writes output) = status.Ok
status_of (Refuses line cause) = status.Refused line cause
status_of Exceeds = status.TooLong longest_input

abbrev pub output_of : Answer → Bytes
output_of (Writes output) = output
output_of (Refuses line cause) = []
output_of Exceeds = []
