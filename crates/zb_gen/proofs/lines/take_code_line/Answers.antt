use Rattle.std.proofs.Common.{arith, Some}
use Rattle.zb_gen.specs.Made.{node_name, code_line}
use Rattle.zb_sched_line.specs.Said.{Codes}
use Rattle.zb_gen.specs.Codes.{code_bytes}
use Rattle.zb_gen.proofs.Folds.{takes}
use Rattle.zb_gen.proofs.Said.{code_says}
use Rattle.zb_gen.proofs.lines.take_code_line.Goals as goal

pub returns-clause-lines : goal.returns-clause-lines
returns-clause-lines c =
    takes c.take.result c.args.maker.now c.take.new.self (code_line c.args.install_codes.now.start c.args.i)
    (Codes (node_name c.args.i) (Some (code_bytes c.args.install_codes.now.start c.args.i)))
    (code_says c.args.install_codes.now.start c.args.i (omega arith)).means
    (rw (c.name_of.ensures, c.code.ensures) at c.take.ensures.line)
