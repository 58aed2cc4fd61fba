use Rattle.std.proofs.Common.{rules, arith, ap, sym, ◌∙◌}
use Rattle.std.specs.Str.Lines.{lines}
use Rattle.zb_sched.specs.Judge.{Seen}
use Rattle.zb_sched.specs.Schedules.{schedule_of}
use Rattle.zb_sched.specs.Reading.{reads}
use Rattle.zb_sched.proofs.Finished.{start_keeps}
use Rattle.zb_sched.specs.Valid.{IsSchedule}
use Rattle.zb_sched.proofs.PrintedReads.{printed_again}
use Rattle.zb_sched.proofs.ReadLemmas.{go_on}
use Rattle.zb_sched.proofs.reader.read.Goals as goal

pub loop-line-init : goal.loop-line-init
loop-line-init c = record {
  reads = ap (λ (s : Seen). reads 1 s (lines c.args.text.now)) c.new-draft.ensures;
  short = omega arith;
  valid = start_keeps c.new-draft.result c.new-draft.ensures;
}

pub loop-line-preserved : goal.loop-line-preserved
loop-line-preserved c = record {
  reads =
      sym (go_on c.loop-line.number c.loop-line.draft c.take.new.self c.in-Some.line.now (lines c.loop-line.rest.now)
      (lines c.in-Some.after.now) c.in-Some.ensures.value c.in-Ok.ensures.exact)
      ∙ c.loop-line.invariant.reads;
  short = omega (arith, c.in-Some.ensures.shorter);
  valid = c.in-Ok.ensures.kept c.loop-line.invariant.valid;
}

pub returns-in-Ok-finish-clause-again : goal.returns-in-Ok-finish-clause-again
returns-in-Ok-finish-clause-again c =
    let valid : IsSchedule (schedule_of c.in-Ok-finish.schedule) =
    search rules in printed_again (schedule_of c.in-Ok-finish.schedule) valid
