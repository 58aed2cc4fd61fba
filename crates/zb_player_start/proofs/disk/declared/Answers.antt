-- The values of a declaration are within the widths of a record.
use Rattle.std.proofs.Common.{arith}
use Rattle.zb_node_types.specs.Changes.{model_role}
use Rattle.zb_player_start.proofs.Records.{fits}
use Rattle.zb_player_start.proofs.disk.declared.Goals as goal

pub returns-clause-fits : goal.returns-clause-fits
returns-clause-fits c = fits (model_role c.args.role) c.args.network c.args.code c.args.nwk c.args.aps (omega arith)
    (omega arith) c.requires.network c.requires.code
