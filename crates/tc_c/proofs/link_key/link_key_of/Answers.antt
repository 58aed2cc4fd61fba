use Rattle.std.proofs.Common.{sym, ap, arith}
use Rattle.tc_c.specs.Numbers.{code_number}
use Rattle.tc_c.proofs.Codes.{long_code, no_long_code}
use Rattle.tc_c.proofs.link_key.link_key_of.Goals as goal

pub returns-then-code-gt18-clause-number : goal.returns-then-code-gt18-clause-number
returns-then-code-gt18-clause-number c =
    ap code_number (sym (long_code c.args.code.now (omega (arith, c.if-code-gt18.true))))

pub returns-then-code-gt18-clause-key : goal.returns-then-code-gt18-clause-key
returns-then-code-gt18-clause-key c = λ v ok. no_long_code c.args.code.now v (omega (arith, c.if-code-gt18.true)) ok
