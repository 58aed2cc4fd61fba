use Rattle.std.proofs.Common.{ℕ, Ok, Err, refl, ap, sym, ◌∙◌, subst, arith}
use Rattle.zb_input.specs.Inputs.{fault_of}
use Rattle.zb_input.specs.declared.capture.CaptureFault.TheVariants as fault
use Rattle.zb_input.proofs.PartLaws.{IsComing, nothing_came, more_came, lines_came, all_read, last_fault, takes_came, takes_on, why_input, judged, not_captured, read_of}
use Rattle.zb_input.proofs.capture.read_by_one.Goals as goal

pub parts-init : goal.parts-init
parts-init g c = record {
  coming = nothing_came (g.R.Source.rest c.args.input.now) c.new-reader.result c.new-incoming.result.part.items
      c.new-incoming.result.count
      c.new-reader.ensures c.new-incoming.ensures.1 c.new-incoming.ensures.0;
  within = omega (arith, c.new-incoming.ensures.0);
  later = omega arith;
  unrisen = refl;
}

pub parts-preserved : goal.parts-preserved
parts-preserved g c =
    let old = g.R.Source.rest c.args.input.now in
    let new = g.R.Source.rest c.fill.new.input in
    let came = more_came old (g.R.Source.rest c.parts.input) new c.parts.reader c.parts.incoming.part.items
    c.fill.new.self.part.items
    c.parts.incoming.count c.fill.new.self.count c.parts.invariant.coming c.in_ok-fill.ensures.filled.grown
    c.in_ok-fill.ensures.filled.count in
    let P : ℕ → Type 0 = λ n. IsComing old new c.read_whole_lines.new.reader c.read_whole_lines.new.self.part.items n
    in
    record {
      coming =
          subst P (sym c.in-Ok.ensures.count)
          (lines_came old new c.parts.reader c.read_whole_lines.new.reader c.fill.new.self.part.items
          c.read_whole_lines.new.self.part.items c.fill.new.self.count came c.in-Ok.ensures.lines
          c.in-Ok.ensures.room);
      within = omega (arith, c.in-Ok.ensures.count, c.in_ok-fill.ensures.filled.within);
      later = omega (arith, c.parts.invariant.later, c.in_ok-fill.ensures.filled.later);
      unrisen = c.in_ok-fill.ensures.filled.unrisen (λ is. cc is) ∙ c.parts.invariant.unrisen;
    }

pub returns-in_err-fill : goal.returns-in_err-fill
returns-in_err-fill g c =
    let old = g.R.Source.rest c.args.input.now in
    let mid = g.R.Source.rest c.fill.new.input in
    let faults = g.R.Source.faults c.args.input.now in
    let later = g.R.Source.faults c.fill.new.input in
    let e = c.in_err-fill.field-0.0 in
    not_captured c.from_residual.result (fault.Input e) old mid faults later c.from_residual.ensures.1
    (takes_on old (g.R.Source.rest c.parts.input) mid c.parts.reader c.parts.incoming.part.items
    c.parts.incoming.count c.parts.invariant.coming
    c.parts.invariant.within c.in_err-fill.ensures.few)
    (why_input e old (g.R.Source.rest c.parts.input) mid c.parts.reader c.parts.incoming.part.items
    c.parts.incoming.count faults
    (g.R.Source.faults c.parts.input) later c.parts.invariant.coming c.parts.invariant.later
    (λ is. c.in_err-fill.ensures.filled.read (ap (λ x. Err x) is))
    (λ is. c.in_err-fill.ensures.filled.too_long (ap (λ x. Err x) is)))
    (λ not_read. c.in_err-fill.ensures.filled.unrisen (λ is. not_read (read_of e is)) ∙ c.parts.invariant.unrisen)

pub returns-in-Err : goal.returns-in-Err
returns-in-Err g c =
    let old = g.R.Source.rest c.args.input.now in
    let mid = g.R.Source.rest c.fill.new.input in
    let new = g.R.Source.rest c.refuse.new.input in
    let part = c.fill.new.self.part.items in
    let count = c.read_whole_lines.new.self.count in
    let came = more_came old (g.R.Source.rest c.parts.input) mid c.parts.reader c.parts.incoming.part.items
    c.fill.new.self.part.items
    c.parts.incoming.count c.fill.new.self.count c.parts.invariant.coming c.in_ok-fill.ensures.filled.grown
    c.in_ok-fill.ensures.filled.count in
    let P : ℕ → Type 0 = λ n. IsComing old mid c.parts.reader part n in
    let all = subst P (sym c.in-Err.ensures.count) came in
    not_captured (Err c.refuse.result) c.refuse.result old new (g.R.Source.faults c.args.input.now)
    (g.R.Source.faults c.refuse.new.input) refl
    (takes_on old mid new c.parts.reader part count all
    (omega (arith, c.in-Err.ensures.count, c.in_ok-fill.ensures.filled.within)) c.refuse.ensures.few)
    (judged c.refuse.result c.in-Err.fault old mid new c.parts.reader c.read_whole_lines.new.reader part
    c.read_whole_lines.new.self.part.items count
    (g.R.Source.faults c.args.input.now) (g.R.Source.faults c.fill.new.input) (g.R.Source.faults c.refuse.new.input)
    all
    (omega (arith, c.parts.invariant.later, c.in_ok-fill.ensures.filled.later)) c.in-Err.ensures.lines
    c.refuse.ensures.judged)
    (λ not_read. c.refuse.ensures.unrisen not_read ∙ c.in_ok-fill.ensures.filled.unrisen (λ is. cc is) ∙
    c.parts.invariant.unrisen)

pub returns-in_err-read_lines : goal.returns-in_err-read_lines
returns-in_err-read_lines g c =
    let old = g.R.Source.rest c.args.input.now in
    let mid = g.R.Source.rest c.fill.new.input in
    let faults = g.R.Source.faults c.args.input.now in
    let later = g.R.Source.faults c.fill.new.input in
    let e = c.in_err-read_lines.field-0.0 in
    let part = c.fill.new.self.part.items in
    let came = more_came old (g.R.Source.rest c.parts.input) mid c.parts.reader c.parts.incoming.part.items
    c.fill.new.self.part.items
    c.parts.incoming.count c.fill.new.self.count c.parts.invariant.coming c.in_ok-fill.ensures.filled.grown
    c.in_ok-fill.ensures.filled.count in
    not_captured c.from_residual-in_err-read_lines.result (fault_of e) old mid faults later
    c.from_residual-in_err-read_lines.ensures.1
    (takes_came old mid c.parts.reader part c.fill.new.self.count came c.in_ok-fill.ensures.filled.within)
    (last_fault e old mid c.parts.reader c.read_lines.new.self part c.as_slice.result.now c.fill.new.self.count faults
    later came
    (c.in_ok-fill.ensures.filled.end (ap (λ b. Ok b) c.if-branch.false)) c.in_ok-fill.ensures.filled.within
    c.as_slice.ensures.value
    c.in_err-read_lines.ensures.exact)
    (λ not_read. c.in_ok-fill.ensures.filled.unrisen (λ is. cc is) ∙ c.parts.invariant.unrisen)

pub returns : goal.returns
returns g c =
    let old = g.R.Source.rest c.args.input.now in
    let mid = g.R.Source.rest c.fill.new.input in
    let part = c.fill.new.self.part.items in
    let came = more_came old (g.R.Source.rest c.parts.input) mid c.parts.reader c.parts.incoming.part.items
    c.fill.new.self.part.items
    c.parts.incoming.count c.fill.new.self.count c.parts.invariant.coming c.in_ok-fill.ensures.filled.grown
    c.in_ok-fill.ensures.filled.count in
    let end = c.in_ok-fill.ensures.filled.end (ap (λ b. Ok b) c.if-branch.false) in
    record {
      exact = all_read old mid c.parts.reader c.read_lines.new.self part c.as_slice.result.now c.fill.new.self.count
          c.into_capture.result came end
          c.in_ok-fill.ensures.filled.within c.as_slice.ensures.value c.in_ok-read_lines.ensures.exact
          c.into_capture.ensures.exact;
      valid = c.into_capture.ensures.valid;
      end = end;
      few = takes_came old mid c.parts.reader part c.fill.new.self.count came c.in_ok-fill.ensures.filled.within;
      fault = tt;
      unrisen = λ not_read. c.in_ok-fill.ensures.filled.unrisen (λ is. cc is) ∙ c.parts.invariant.unrisen;
    }
