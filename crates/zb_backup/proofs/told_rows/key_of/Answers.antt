use Rattle.std.proofs.Common.{refl, sym}
use Rattle.zb_keys.proofs.RestoreLemmas.{key_past, key_within}
use Rattle.zb_backup.proofs.told_rows.key_of.Goals as goal

pub returns-in-Some : goal.returns-in-Some
returns-in-Some c =
    sym (key_within c.args.rows.now c.args.place c.args.place c.in-Some.row.now refl c.in-Some.ensures.lookup.3.0
    c.in-Some.ensures.lookup.1)

pub returns-in-None : goal.returns-in-None
returns-in-None c = sym (key_past c.args.rows.now c.args.place c.args.place refl c.in-None.ensures.lookup.3)
