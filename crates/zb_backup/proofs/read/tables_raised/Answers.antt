use Rattle.std.proofs.Common.{ap, subst, arith}
use Rattle.serde_json.specs.Data.{depth}
use Rattle.serde_json.specs.View.{view}
use Rattle.zb_backup.specs.Reading.{ReadsBackup, tables_in}
use Rattle.zb_backup.proofs.Raised.{depth_raised}
use Rattle.zb_backup.proofs.read.tables_raised.Goals as goal

pub tables_in-requires : goal.tables_in-requires
tables_in-requires c = omega (arith, ap depth c.in_ok-upper.ensures, depth_raised (view c.args.value.now), c.requires)

pub returns : goal.returns
returns c = subst (λ d. ReadsBackup c.tables_in.result (tables_in d)) c.in_ok-upper.ensures c.tables_in.ensures
