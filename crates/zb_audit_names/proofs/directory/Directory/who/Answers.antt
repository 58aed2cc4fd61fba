use Rattle.zb_audit_names.proofs.Entries.{stands_with_told, tells_with_told}
use Rattle.zb_audit_names.proofs.directory.Directory.who.Goals as goal

pub returns-in-Some-clause-stands : goal.returns-in-Some-clause-stands
returns-in-Some-clause-stands c = λ names known stands. stands_with_told c.args.self.now c.args.name.now.bytes
    c.in-Some.who names known (c.in-Some.ensures names known stands) stands

pub returns-in-Some-clause-tells : goal.returns-in-Some-clause-tells
returns-in-Some-clause-tells c = λ names known stands. tells_with_told c.args.name.now.bytes c.in-Some.who names known
    (c.in-Some.ensures names known stands)
