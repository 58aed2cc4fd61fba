use Rattle.std.proofs.Common.{◌∙◌, arith}
use Rattle.zb_cursor.specs.Spelling.{IsBytes}
use Rattle.zb_seal.proofs.ApsLaws.{only_aps}
use Rattle.zb_seal.proofs.Founds.{aps_answer}
use Rattle.zb_seal.proofs.opening.open_aps.Goals as goal

pub returns-clause-found : goal.returns-clause-found
returns-clause-found c =
    let fits : IsBytes c.args.bytes.now = λ i. omega (arith, c.type_inv.bytes i) in
    aps_answer c.args.bytes.now c.args.base.now c.args.source c.open_aps_once.result fits c.known_key.ensures
    c.open_aps_once.ensures

pub returns-clause-only : goal.returns-clause-only
returns-clause-only c = λ t opens. c.open_aps_once.ensures ∙ only_aps c.args.bytes.now c.args.base.now c.args.source t
    c.known_key.ensures opens
