use Rattle.std.proofs.Common.{Ok, Err, Result, refl, ap, ◌∙◌, subst, arith}
use Rattle.zb_base.specs.declared.fault.OrMemory.{OrMemory}
use Rattle.zb_capture.specs.declared.fault.CaptureError.{CaptureError}
use Rattle.zb_input.specs.Inputs.{IsRead, fault_of}
use Rattle.zb_input.specs.declared.capture.CaptureFault.TheVariants as fault
use Rattle.zb_input.proofs.PartLaws.{nothing_came, more_came, lines_came, all_read, last_fault, takes_came, takes_on, why_input, judged, not_captured, read_of}
use Rattle.zb_input.proofs.capture.read_by_several.Goals as goal

pub rounds-init : goal.rounds-init
rounds-init g c = record {
  coming = nothing_came (g.R.Source.rest c.args.input.now) c.new-reader.result c.new-front.result.part.items
      c.new-front.result.count
      c.new-reader.ensures c.new-front.ensures.1 c.new-front.ensures.0;
  within = omega (arith, c.new-front.ensures.0);
  later = omega arith;
  unrisen = refl;
}

pub rounds-preserved : goal.rounds-preserved
rounds-preserved g c =
    let old = g.R.Source.rest c.args.input.now in
    let mid = g.R.Source.rest c.fill.new.input in
    let new = g.R.Source.rest c.read_round.new.input in
    let front = c.read_round.new.front in
    let came = more_came old (g.R.Source.rest c.rounds.input) mid c.rounds.reader c.rounds.front.part.items
    c.fill.new.self.part.items
    c.rounds.front.count c.fill.new.self.count c.rounds.invariant.coming c.in_ok-fill.ensures.filled.grown
    c.in_ok-fill.ensures.filled.count in
    let R : Result (Unit {0}) (OrMemory CaptureError) → Type 0 = λ r. IsRead r mid new c.fill.new.self front
    c.rounds.reader c.read_round.new.reader in
    let read = subst R c.in-Ok.is c.in_ok-read_round.ensures.came in
    let all = more_came old mid new c.rounds.reader c.fill.new.self.part.items read.all c.fill.new.self.count
    front.count came read.grown read.count in
    record {
      coming = lines_came old new c.rounds.reader c.read_round.new.reader read.all front.part.items front.count all
          read.lines read.room;
      within = read.within;
      later =
          omega (arith, c.rounds.invariant.later, c.in_ok-fill.ensures.filled.later, c.in_ok-read_round.ensures.later);
      unrisen = c.in_ok-read_round.ensures.unrisen (λ is. cc is) ∙ c.in_ok-fill.ensures.filled.unrisen (λ is. cc is) ∙
          c.rounds.invariant.unrisen;
    }

pub returns-in_err-fill : goal.returns-in_err-fill
returns-in_err-fill g c =
    let old = g.R.Source.rest c.args.input.now in
    let mid = g.R.Source.rest c.fill.new.input in
    let faults = g.R.Source.faults c.args.input.now in
    let later = g.R.Source.faults c.fill.new.input in
    let e = c.in_err-fill.field-0.0 in
    not_captured c.from_residual.result (fault.Input e) old mid faults later c.from_residual.ensures.1
    (takes_on old (g.R.Source.rest c.rounds.input) mid c.rounds.reader c.rounds.front.part.items c.rounds.front.count
    c.rounds.invariant.coming
    c.rounds.invariant.within c.in_err-fill.ensures.few)
    (why_input e old (g.R.Source.rest c.rounds.input) mid c.rounds.reader c.rounds.front.part.items
    c.rounds.front.count faults
    (g.R.Source.faults c.rounds.input) later c.rounds.invariant.coming c.rounds.invariant.later
    (λ is. c.in_err-fill.ensures.filled.read (ap (λ x. Err x) is))
    (λ is. c.in_err-fill.ensures.filled.too_long (ap (λ x. Err x) is)))
    (λ not_read. c.in_err-fill.ensures.filled.unrisen (λ is. not_read (read_of e is)) ∙ c.rounds.invariant.unrisen)

pub returns-in_err-read_round : goal.returns-in_err-read_round
returns-in_err-read_round g c =
    let old = g.R.Source.rest c.args.input.now in
    let mid = g.R.Source.rest c.fill.new.input in
    let new = g.R.Source.rest c.read_round.new.input in
    let faults = g.R.Source.faults c.args.input.now in
    let later = g.R.Source.faults c.read_round.new.input in
    let e = c.in_err-read_round.field-0.0 in
    let part = c.fill.new.self.part.items in
    let count = c.fill.new.self.count in
    let came = more_came old (g.R.Source.rest c.rounds.input) mid c.rounds.reader c.rounds.front.part.items
    c.fill.new.self.part.items
    c.rounds.front.count c.fill.new.self.count c.rounds.invariant.coming c.in_ok-fill.ensures.filled.grown
    c.in_ok-fill.ensures.filled.count in
    not_captured c.from_residual-in_err-read_round.result (fault.Input e) old new faults later
    c.from_residual-in_err-read_round.ensures.1
    (takes_on old mid new c.rounds.reader part count came c.in_ok-fill.ensures.filled.within
    c.in_err-read_round.ensures.few)
    (why_input e old mid new c.rounds.reader part count faults (g.R.Source.faults c.fill.new.input) later came
    (omega (arith, c.rounds.invariant.later, c.in_ok-fill.ensures.filled.later))
    (λ is. c.in_err-read_round.ensures.read (ap (λ x. Err x) is))
    (λ is. c.in_err-read_round.ensures.too_long (ap (λ x. Err x) is)))
    (λ not_read. c.in_err-read_round.ensures.unrisen (λ is. not_read (read_of e is)) ∙
    c.in_ok-fill.ensures.filled.unrisen (λ is. cc is) ∙ c.rounds.invariant.unrisen)

pub returns-in-Err : goal.returns-in-Err
returns-in-Err g c =
    let old = g.R.Source.rest c.args.input.now in
    let mid = g.R.Source.rest c.fill.new.input in
    let new = g.R.Source.rest c.read_round.new.input in
    let left = g.R.Source.rest c.refuse.new.input in
    let faults = g.R.Source.faults c.args.input.now in
    let later = g.R.Source.faults c.refuse.new.input in
    let front = c.read_round.new.front in
    let came = more_came old (g.R.Source.rest c.rounds.input) mid c.rounds.reader c.rounds.front.part.items
    c.fill.new.self.part.items
    c.rounds.front.count c.fill.new.self.count c.rounds.invariant.coming c.in_ok-fill.ensures.filled.grown
    c.in_ok-fill.ensures.filled.count in
    let R : Result (Unit {0}) (OrMemory CaptureError) → Type 0 = λ r. IsRead r mid new c.fill.new.self front
    c.rounds.reader c.read_round.new.reader in
    let read = subst R c.in-Err.is c.in_ok-read_round.ensures.came in
    let all = more_came old mid new c.rounds.reader c.fill.new.self.part.items read.all c.fill.new.self.count
    front.count came read.grown read.count in
    not_captured (Err c.refuse.result) c.refuse.result old left faults later refl
    (takes_on old new left c.rounds.reader read.all front.count all read.within c.refuse.ensures.few)
    (judged c.refuse.result c.in-Err.fault old new left c.rounds.reader c.read_round.new.reader read.all
    front.part.items front.count faults
    (g.R.Source.faults c.read_round.new.input) later all
    (omega (arith, c.rounds.invariant.later, c.in_ok-fill.ensures.filled.later, c.in_ok-read_round.ensures.later))
    read.lines c.refuse.ensures.judged)
    (λ not_read. c.refuse.ensures.unrisen not_read ∙ c.in_ok-read_round.ensures.unrisen (λ is. cc is) ∙
    c.in_ok-fill.ensures.filled.unrisen (λ is. cc is) ∙ c.rounds.invariant.unrisen)

pub returns-in_err-read : goal.returns-in_err-read
returns-in_err-read g c =
    let old = g.R.Source.rest c.args.input.now in
    let mid = g.R.Source.rest c.fill.new.input in
    let faults = g.R.Source.faults c.args.input.now in
    let later = g.R.Source.faults c.fill.new.input in
    let e = c.in_err-read.field-0.0 in
    let part = c.fill.new.self.part.items in
    let came = more_came old (g.R.Source.rest c.rounds.input) mid c.rounds.reader c.rounds.front.part.items
    c.fill.new.self.part.items
    c.rounds.front.count c.fill.new.self.count c.rounds.invariant.coming c.in_ok-fill.ensures.filled.grown
    c.in_ok-fill.ensures.filled.count in
    not_captured c.from_residual-in_err-read.result (fault_of e) old mid faults later
    c.from_residual-in_err-read.ensures.1
    (takes_came old mid c.rounds.reader part c.fill.new.self.count came c.in_ok-fill.ensures.filled.within)
    (last_fault e old mid c.rounds.reader c.read.new.self part c.as_slice.result.now c.fill.new.self.count faults
    later came
    (c.in_ok-fill.ensures.filled.end (ap (λ b. Ok b) c.if-branch.false)) c.in_ok-fill.ensures.filled.within
    c.as_slice.ensures.value
    c.in_err-read.ensures.exact)
    (λ not_read. c.in_ok-fill.ensures.filled.unrisen (λ is. cc is) ∙ c.rounds.invariant.unrisen)

pub returns : goal.returns
returns g c =
    let old = g.R.Source.rest c.args.input.now in
    let mid = g.R.Source.rest c.fill.new.input in
    let part = c.fill.new.self.part.items in
    let came = more_came old (g.R.Source.rest c.rounds.input) mid c.rounds.reader c.rounds.front.part.items
    c.fill.new.self.part.items
    c.rounds.front.count c.fill.new.self.count c.rounds.invariant.coming c.in_ok-fill.ensures.filled.grown
    c.in_ok-fill.ensures.filled.count in
    let end = c.in_ok-fill.ensures.filled.end (ap (λ b. Ok b) c.if-branch.false) in
    record {
      exact = all_read old mid c.rounds.reader c.read.new.self part c.as_slice.result.now c.fill.new.self.count
          c.into_capture.result came end
          c.in_ok-fill.ensures.filled.within c.as_slice.ensures.value c.in_ok-read.ensures.exact
          c.into_capture.ensures.exact;
      valid = c.into_capture.ensures.valid;
      end = end;
      few = takes_came old mid c.rounds.reader part c.fill.new.self.count came c.in_ok-fill.ensures.filled.within;
      fault = tt;
      unrisen = λ not_read. c.in_ok-fill.ensures.filled.unrisen (λ is. cc is) ∙ c.rounds.invariant.unrisen;
    }
