use Rattle.std.proofs.Common.{sym, ◌∙◌}
use Rattle.zb_cmd.specs.declared.command.Command.TheVariants.{Tunnel}
use Rattle.zb_model_real.proofs.SameTerms.{same_spelling}
use Rattle.zb_send.proofs.part.tunnel.Goals as goal

pub returns-in-Ok-clause-text : goal.returns-in-Ok-clause-text
returns-in-Ok-clause-text c = c.in-Ok.ensures.text ∙ sym (same_spelling (Tunnel c.args.device c.args.inner))
