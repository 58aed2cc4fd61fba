-- The lines that were taken are those of the text.
use Rattle.std.proofs.Common.{rules, ◌≡◌, ◌+◌, ◌≤◌, ◌<◌, ◌++◌, length, arith}
use Rattle.std.proofs.lemmas.Result.{err_from_is_err_and}
use Rattle.zb_model_real.specs.Real.{real}
use Rattle.zb_trace.specs.Text.{IsProper, text}
use Rattle.zb_command.proofs.AuditedTexts.{begun, broken_of, sound_of, taken}
use Rattle.zb_command.proofs.audit.audit_text.Goals as goal

pub loop-rest-init : goal.loop-rest-init
loop-rest-init c =
    let short : length c.args.text.now < 4294967296 = search rules in
    (begun c.args.text.now c.in_ok-auditor.auditor (c.in_ok-auditor.ensures real), omega arith, short)

pub loop-rest-preserved : goal.loop-rest-preserved
loop-rest-preserved c =
    let f : IsProper c.take_into.new.line × (c.loop-rest.rest.now ≡ text c.take_into.new.line ++ c.in-Some.after.now) =
    search rules in
    let bound : c.loop-rest.count + length c.loop-rest.rest.now ≤ length c.args.text.now = c.loop-rest.invariant.1 in
    let less : length c.in-Some.after.now < length c.loop-rest.rest.now = search rules in (
      taken c.args.text.now c.loop-rest.rest.now c.in-Some.after.now c.loop-rest.count c.loop-rest.auditor
          c.line.new.self c.take_into.new.line c.loop-rest.invariant.0 f.0 f.1 c.in_ok-line.ensures,
      omega arith,
      c.loop-rest.invariant.2,
    )

pub returns-in-Ok-clause-sound : goal.returns-in-Ok-clause-sound
returns-in-Ok-clause-sound c =
    let none : length c.loop-rest.rest.now ≡ 0 = search rules in
    let s = c.loop-rest.invariant.0 in
    sound_of c.args.text.now c.loop-rest.rest.now c.loop-rest.count c.loop-rest.auditor s c.end.result c.in-Ok.verdict
    c.in-Ok.is (c.end.ensures real s.lines s.stands) none

pub returns-in-Err-Broken-clause-fault : goal.returns-in-Err-Broken-clause-fault
returns-in-Err-Broken-clause-fault c =
    let none : length c.loop-rest.rest.now ≡ 0 = search rules in
    let s = c.loop-rest.invariant.0 in
    broken_of c.args.text.now c.loop-rest.rest.now c.loop-rest.count c.loop-rest.auditor s c.end.result
    c.in-Err-Broken.field-0 c.in-Err-Broken.line c.in-Err-Broken.clause
    c.in-Err-Broken.is c.in-Err-Broken.field-0-is (c.end.ensures real s.lines s.stands) none

pub returns-in_err-line-clause-fault : goal.returns-in_err-line-clause-fault
returns-in_err-line-clause-fault c =
    let p = err_from_is_err_and c.from_residual-in_err-line.result c.from_residual-in_err-line.ensures.1 in
    rw (p.1, p.2) tt
