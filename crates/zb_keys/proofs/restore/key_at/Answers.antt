use Rattle.zb_keys.proofs.RestoreLemmas.{key_within, key_past}
use Rattle.zb_keys.proofs.restore.key_at.Goals as goal

pub returns-in-Some : goal.returns-in-Some
returns-in-Some c = key_within c.args.rows.now c.from.result c.args.place c.in-Some.row.now c.from.ensures
    c.in-Some.ensures.lookup.3.0 c.in-Some.ensures.lookup.1

pub returns-in-None : goal.returns-in-None
returns-in-None c = key_past c.args.rows.now c.from.result c.args.place c.from.ensures c.in-None.ensures.lookup.3
