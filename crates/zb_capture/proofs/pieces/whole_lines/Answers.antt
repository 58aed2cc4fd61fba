use Rattle.std.proofs.Common.{◌≡◌, ◌+◌, ◌++◌, ◌∙◌, take, drop, get_or, ap, sym, arith, add-one}
use Rattle.std.specs.Str.Lines.{lines}
use Rattle.std.proofs.lemmas.Bool.Decides.{nat_tests}
use Rattle.zb_capture.proofs.Places.{lines_before, none_behind}
use Rattle.zb_capture.proofs.pieces.whole_lines.Goals as goal

pub returns-in-Some-clause-lines : goal.returns-in-Some-clause-lines
returns-in-Some-clause-lines c more =
    let text = c.args.text.now in
    let at = c.in-Some.at in
    let byte : get_or text at 0 ≡ 10 = grind (arith, nat_tests, c.in-Some.ensures.1) in
    lines_before at text more c.in-Some.ensures.0.high byte
    ∙ ap (λ n. lines (take n text) ++ lines (drop n text ++ more)) (sym (add-one at))

pub returns-in-Some-clause-all : goal.returns-in-Some-clause-all
returns-in-Some-clause-all c = none_behind (c.in-Some.at + 1) c.args.text.now
    (λ k low high is. c.in-Some.ensures.0.after k low high is)

pub returns-in-None-clause-all : goal.returns-in-None-clause-all
returns-in-None-clause-all c = none_behind 0 c.args.text.now (λ k low high is. c.in-None.ensures k low high is)
