use Rattle.std.proofs.lemmas.Bool.{lt-ltb}
use Rattle.std.proofs.Common.{◌≡◌, ◌<◌, arith}
use Rattle.zb_audit_lockout.specs.Reading.{number_of}
use Rattle.zb_audit_lockout.proofs.Maps.{raised_number}
use Rattle.zb_audit_lockout.proofs.numbers.Numbers.raise_one.Goals as goal

pub returns-in_ok-insert-clause-numbers : goal.returns-in_ok-insert-clause-numbers
returns-in_ok-insert-clause-numbers c =
    let is : c.of.result ≡ number_of c.args.self.now c.args.key.0 = c.of.ensures in
    let low : number_of c.args.self.now c.args.key.0 < c.args.number =
    (let it : c.of.result < c.args.number = c.if-of-number.true in omega arith) in
    let below = lt-ltb (number_of c.args.self.now c.args.key.0) c.args.number low in
    raised_number c.args.self.now c.insert.new.self c.args.key c.args.number below c.in_ok-insert.ensures.updates.0
