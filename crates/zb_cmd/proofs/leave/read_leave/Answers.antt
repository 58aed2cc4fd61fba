use Rattle.std.proofs.Common.{rules, sym, ◌∙◌}
use Rattle.zb_cmd.specs.Reading.{leave_at, leave_of}
use Rattle.zb_cmd.proofs.Whole.{read_whole_is}
use Rattle.zb_cmd.proofs.ReadAgain.{leave_spelled_again}
use Rattle.zb_cmd.proofs.FaultLaws.{leave_fault_found, leave_fault_only}
use Rattle.zb_cmd.proofs.leave.read_leave.Goals as goal

pub returns-clause-exact : goal.returns-clause-exact
unfolding leave_of
returns-clause-exact c =
    read_whole_is _ _ _ c.args.bytes leave_at (λ r shown left met. met.0) (λ n e told. search rules)
    c.read_whole.result c.read_whole.ensures

pub returns-clause-only : goal.returns-clause-only
returns-clause-only c = λ l spells. returns-clause-exact c ∙ leave_spelled_again c.args.bytes.now l spells

pub returns-clause-fault : goal.returns-clause-fault
returns-clause-fault c =
    λ e. (
      λ given. leave_fault_found c.args.bytes.now e (sym (returns-clause-exact c) ∙ given),
      λ has. returns-clause-exact c ∙ leave_fault_only c.args.bytes.now e has,
    )
