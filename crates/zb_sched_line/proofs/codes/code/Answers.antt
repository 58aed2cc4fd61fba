use Rattle.std.proofs.Common.{ap, sym, ◌∙◌}
use Rattle.zb_install.specs.Code.{code_of}
use Rattle.zb_sched_line.proofs.CodeLemmas.{read_code, code_fits, unread_code}
use Rattle.zb_sched_line.proofs.codes.code.Goals as goal

pub returns-in-Ok-clause-value : goal.returns-in-Ok-clause-value
returns-in-Ok-clause-value c =
    read_code c.args.word.now c.in-Some.bytes.items c.in-Ok.code (sym c.in-Some.ensures.value)
    (ap code_of (sym c.as_slice.ensures.value) ∙ sym c.in-Ok.ensures)

pub returns-in-Ok-clause-fits : goal.returns-in-Ok-clause-fits
returns-in-Ok-clause-fits c =
    code_fits c.in-Some.bytes.items c.in-Ok.code (ap code_of (sym c.as_slice.ensures.value) ∙ sym c.in-Ok.ensures)
    c.in-Some.ensures.fits.1

pub returns-in-None-clause-value : goal.returns-in-None-clause-value
returns-in-None-clause-value c = unread_code c.args.word.now (sym c.in-None.ensures.value)
    (sym c.is_hexadecimal.ensures ∙ c.if-is_hexadecimal.true)
