use Rattle.std.proofs.Common.{rules, sym, ◌∙◌, arith}
use Rattle.zb_cursor.specs.Spelling.{IsBytes}
use Rattle.zb_cmd.specs.Reading.{command_at, command_of}
use Rattle.zb_cmd.specs.Shape.{Spells}
use Rattle.zb_cmd.proofs.Whole.{read_whole_has, read_whole_is}
use Rattle.zb_cmd.proofs.ReadAgain.{spelled_again, spelled_whole}
use Rattle.zb_cmd.proofs.FaultLaws.{fault_found, fault_only}
use Rattle.zb_cmd.proofs.command.read_command.Goals as goal

pub returns-clause-found : goal.returns-clause-found
returns-clause-found c =
    read_whole_has _ _ _ c.args.bytes (Spells c.args.bytes.now) (λ x shown left met same nothing.
    let found = met.0 in
    spelled_whole c.args.bytes.now x left.now.rest.now found.in_range found.shaped found.small
    (sym same ∙ found.spelled) nothing) c.read_whole.result c.read_whole.ensures

pub returns-clause-exact : goal.returns-clause-exact
unfolding command_of
returns-clause-exact c =
    read_whole_is _ _ _ c.args.bytes command_at (λ r shown left met. met.0.exact) (λ n e told. search rules)
    c.read_whole.result c.read_whole.ensures

pub returns-clause-only : goal.returns-clause-only
returns-clause-only c = λ f spells. returns-clause-exact c ∙ spelled_again c.args.bytes.now f spells

pub returns-clause-fault : goal.returns-clause-fault
returns-clause-fault c = λ e.
    let fits : IsBytes c.args.bytes.now = λ i. omega (arith, c.type_inv.bytes i) in (
      λ given. fault_found c.args.bytes.now fits e (sym (returns-clause-exact c) ∙ given),
      λ has. returns-clause-exact c ∙ fault_only c.args.bytes.now fits e has,
    )
