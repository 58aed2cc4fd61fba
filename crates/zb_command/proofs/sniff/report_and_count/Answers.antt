use Rattle.zb_inspect.specs.Report.{report_of}
use Rattle.zb_command.specs.CountsLine.{counts_line}
use Rattle.zb_command.proofs.Fronts.{front_within, front_behind, rose_later}
use Rattle.zb_command.proofs.sniff.report_and_count.Goals as goal

pub returns-in-Err-Write-clause-ends : goal.returns-in-Err-Write-clause-ends
returns-in-Err-Write-clause-ends g c =
    let e = c.args.extraction.now in
    let ends = rw c.in-Err-Write.field-0-is at c.in-Err-Write.ensures.ends in (
      front_within (g.W.Sink.taken c.args.output.now) (g.W.Sink.taken c.report.new.out) (report_of e.capture)
          (counts_line e.counts) ends.1,
      ends.0,
    )

pub returns-clause-ends : goal.returns-clause-ends
returns-clause-ends g c =
    let e = c.args.extraction.now in (
      front_behind (g.W.Sink.taken c.args.output.now) (g.W.Sink.taken c.report.new.out)
          (g.W.Sink.taken c.hand_out.new.out) (report_of e.capture) (counts_line e.counts) _
          c.in-Ok-report.ensures.ends c.in-Ok.ensures c.in-Err.ensures.front.0,
      rose_later (g.W.Sink.faults c.args.output.now) (g.W.Sink.faults c.report.new.out)
          (g.W.Sink.faults c.hand_out.new.out) c.report.ensures.later c.in-Err.ensures.cause.failed,
    )
