use Rattle.std.proofs.Common.{◌≡◌, ◌+◌, ◌≤◌, length}
use Rattle.std.specs.Str.Lines.{lines}
use Rattle.zb_capture.specs.Drafts.{capture_of}
use Rattle.zb_capture.specs.Grammar.{IsCapture, with_lines}
use Rattle.zb_capture.proofs.reader.CaptureReader.read_lines.Given as goal

abbrev pub invariant-loop-line : goal.invariant-loop-line
invariant-loop-line l = record {
  gives : with_lines (l.self-inside.lines + 1) (capture_of l.self-inside.draft) (lines l.rest)
      ≡ with_lines (l.fn.self.lines + 1) l.fn.self.capture (lines l.fn.text);
  count : l.self-inside.lines + length (lines l.rest) ≡ l.fn.self.lines + length (lines l.fn.text);
  room : l.self-inside.lines + length l.rest ≤ l.fn.self.lines + length l.fn.text;
  valid : IsCapture (capture_of l.self-inside.draft);
}

abbrev pub decreases-loop-line : goal.decreases-loop-line
decreases-loop-line l = length l.rest
