use Rattle.std.proofs.Common.{arith, codes, [], ◌∷◌}
use Rattle.zb_text.specs.Pages.{line_of_words}
use Rattle.zb_gen.specs.Made.{node_name, code_word}
use Rattle.zb_sched_line.specs.Said.{Happens, Provisions}
use Rattle.zb_gen.specs.Codes.{code_bytes}
use Rattle.zb_gen.proofs.Folds.{takes}
use Rattle.zb_gen.proofs.Said.{provision_says}
use Rattle.zb_gen.proofs.lines.take_provision_line.Goals as goal

pub returns-clause-lines : goal.returns-clause-lines
returns-clause-lines c =
    takes c.take_event.result c.args.maker.now c.take_event.new.maker
    (line_of_words (codes "provision" ∷ node_name c.args.i ∷ code_word c.args.install_codes.now.start c.args.i
    ∷ []))
    (Happens (Provisions (node_name c.args.i) (code_bytes c.args.install_codes.now.start c.args.i)))
    (provision_says c.args.install_codes.now.start c.args.i (omega arith)).means
    (rw (c.name_of.ensures, c.code.ensures) at c.take_event.ensures.line)
