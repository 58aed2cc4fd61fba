use Rattle.serde_json.specs.View.{view}
use Rattle.zb_backup.proofs.Making.{not_read, value_read}
use Rattle.zb_backup.proofs.read.read_backup.Goals as goal

pub returns-in-Ok : goal.returns-in-Ok
returns-in-Ok c = value_read c.tables_raised.result c.args.text.now (view c.in-Ok.value) c.in-Ok.ensures.ok.0
    c.in-Ok.ensures.ok.1 c.tables_raised.ensures

pub returns-in-Err : goal.returns-in-Err
returns-in-Err c = not_read c.refusal.result c.in-Err.error c.args.text.now c.refusal.ensures c.in-Err.ensures.err
