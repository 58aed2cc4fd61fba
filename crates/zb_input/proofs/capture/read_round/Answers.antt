use Rattle.std.proofs.Common.{◌≤◌, ◌+◌, ◌-◌, ◌∙◌, ◌++◌, ℕ, List, Result, OnOk, length, ap, subst, arith}
use Rattle.std.specs.Str.Lines.{lines}
use Rattle.zb_input.specs.Inputs.{AreLines, Grows, IsTaken, TakesAtMost}
use Rattle.zb_input.specs.declared.incoming.Taken.{Taken}
use Rattle.zb_input.specs.declared.input.InputFault.{InputFault}
use Rattle.zb_input.proofs.PartLaws.{round_read}
use Rattle.zb_input.proofs.capture.read_round.Goals as goal

pub returns : goal.returns
returns g c =
    let mid = g.R.Source.rest c.args.input.now in
    let new = g.R.Source.rest c.read_both-first.new.input in
    let reading = c.args.reader.now in
    let next = c.add_both-read.new.reader in
    let read = c.add_both-read.result in
    let first = c.split.new.self.part.items in
    let rest = c.in_ok-split.field-0.part.items in
    let back = c.read_both-first.new.back.part.items in
    let left = c.in_ok-alone.field-0.rest.part.items in
    let second = c.as_slice-3.result.now in
    let T : Result Taken InputFault → Type 0 = λ r. IsTaken r mid new c.go_on_from.new.self c.read_both-first.new.back
    (g.R.Source.faults c.args.input.now)
    (g.R.Source.faults c.read_both-first.new.input) in
    let taken = subst T c.in_ok-alone.was c.read_both-first.ensures.taken in
    let G : List ℕ → Type 0 = λ zs. Grows mid new zs (back ++ left) in
    let F : List ℕ → Type 0 = λ zs. AreLines read reading next (lines zs ++ lines second) in
    let S : List ℕ → Type 0 = λ zs. AreLines read reading next (lines first ++ lines zs) in
    let N : List ℕ → Type 0 = λ zs. OnOk read (next.lines ≤ reading.lines + length zs + length second) in
    let M : List ℕ → Type 0 = λ zs. OnOk read (next.lines ≤ reading.lines + length first + length zs) in
    let K : ℕ → Type 0 = λ n. TakesAtMost mid new (16777217 - n) in
    record {
      came = round_read read mid new c.args.front.now c.go_on_from-2.new.self reading next first rest back left
          c.in_ok-split.ensures.parts
          c.in_ok-split.ensures.lines (subst G c.in_ok-go_on_from.ensures.part taken.grown) taken.cut
          (subst S c.as_slice-3.ensures.value (subst F c.as_slice-2.ensures.value c.add_both-read.ensures.exact))
          (subst M c.as_slice-3.ensures.value (subst N c.as_slice-2.ensures.value c.add_both-read.ensures.count))
          c.in_ok-go_on_from-2.ensures.part
          (omega (
            arith,
            c.in_ok-go_on_from-2.ensures.count,
            taken.count,
            c.in_ok-go_on_from.ensures.count,
            c.in_ok-split.ensures.count,
            ap (length {A = ℕ}) c.in_ok-go_on_from.ensures.part,
          ))
          (omega (arith, c.in_ok-go_on_from-2.ensures.count, taken.within));
      few = subst K (c.in_ok-go_on_from.ensures.count ∙ c.in_ok-split.ensures.count) taken.few;
      later = taken.later;
      read = λ is. absurd (cc is);
      unrisen = λ not_read. taken.unrisen (λ is. cc is);
      too_long = λ is. absurd (cc is);
    }
