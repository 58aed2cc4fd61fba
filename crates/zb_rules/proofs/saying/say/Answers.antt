use Rattle.zb_rules.proofs.saying.say.Goals as goal

pub returns-in-Err-clause-rule : goal.returns-in-Err-clause-rule
returns-in-Err-clause-rule c = c.in-Err.ensures.rule c.args.to.0 c.args.bytes.items

pub returns-in-Ok-clause-rule : goal.returns-in-Ok-clause-rule
returns-in-Ok-clause-rule c =
    rw (c.of_sending.ensures.changes, c.of_sending.ensures.sending)
    (c.in-Ok.ensures.rule c.args.to.0 c.args.bytes.items)
