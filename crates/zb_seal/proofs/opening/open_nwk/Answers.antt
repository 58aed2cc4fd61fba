use Rattle.std.proofs.Common.{◌∙◌, arith}
use Rattle.zb_cursor.specs.Spelling.{IsBytes}
use Rattle.zb_seal.proofs.NwkLaws.{only_nwk}
use Rattle.zb_seal.proofs.Founds.{nwk_answer}
use Rattle.zb_seal.proofs.opening.open_nwk.Goals as goal

pub returns-clause-found : goal.returns-clause-found
returns-clause-found c =
    let fits : IsBytes c.args.bytes.now = λ i. omega (arith, c.type_inv.bytes i) in
    nwk_answer c.args.bytes.now c.args.key.now c.open_nwk_with.result fits c.known_key.ensures
    c.open_nwk_with.ensures.exact

pub returns-clause-only : goal.returns-clause-only
returns-clause-only c = λ t opens. c.open_nwk_with.ensures.exact ∙ only_nwk c.args.bytes.now c.args.key.now t
    c.known_key.ensures opens
