-- What was read is the text's lines, which are those of the run.
use Rattle.law_run_text.proofs.Back.{is_read_back}
use Rattle.law_run_text.proofs.read_run.Goals as goal

pub returns : goal.returns
returns c = λ p is same. is_read_back p c.args.bytes.now c.read_lines.result c.read_lines.ensures.found
    c.read_lines.ensures.accepts is same
