use Rattle.std.proofs.Common.{arith, ap, sym, ◌∙◌}
use Rattle.std.specs.Str.Lines.{lines}
use Rattle.zb_script.specs.Scripts.{Script}
use Rattle.zb_script.specs.Reading.{reads}
use Rattle.zb_script.proofs.ReadLemmas.{go_on}
use Rattle.zb_script.proofs.reader.read.Goals as goal

pub loop-line-init : goal.loop-line-init
loop-line-init c = record {
  reads = ap (λ (s : Script). reads 1 s (lines c.args.text.now)) c.new-draft.ensures;
  short = omega arith;
}

pub loop-line-preserved : goal.loop-line-preserved
loop-line-preserved c = record {
  reads =
      sym (go_on c.loop-line.number c.loop-line.draft c.take.new.self c.in-Some.line.now (lines c.loop-line.rest.now)
      (lines c.in-Some.after.now) c.in-Some.ensures.value c.in-Ok.ensures.exact)
      ∙ c.loop-line.invariant.reads;
  short = omega (arith, c.in-Some.ensures.shorter);
}
