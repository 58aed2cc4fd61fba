use Rattle.std.proofs.Common.{sym, ◌∙◌, arith}
use Rattle.zb_cursor.specs.Spelling.{IsBytes}
use Rattle.zb_nwk.proofs.ReadAgain.{spelled_again}
use Rattle.zb_nwk.proofs.FaultLaws.{fault_found, fault_only}
use Rattle.zb_nwk.proofs.frame.read.Goals as goal

pub returns-clause-only : goal.returns-clause-only
returns-clause-only c = λ f spells. c.read_into_blank.ensures.exact ∙ spelled_again c.args.bytes.now f spells

pub returns-clause-fault : goal.returns-clause-fault
returns-clause-fault c = λ e.
    let fits : IsBytes c.args.bytes.now = λ i. omega (arith, c.type_inv.bytes i) in (
      λ given. fault_found c.args.bytes.now fits e (sym c.read_into_blank.ensures.exact ∙ given),
      λ has. c.read_into_blank.ensures.exact ∙ fault_only c.args.bytes.now fits e has,
    )
