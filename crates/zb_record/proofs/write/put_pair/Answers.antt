use Rattle.std.proofs.Common.{[], ◌∷◌, ◌++◌}
use Rattle.zb_model.specs.Record.{eight_bytes}
use Rattle.zb_record.proofs.WritingLemmas.{writes_then}
use Rattle.zb_record.proofs.write.put_pair.Goals as goal

pub returns-clause-writes : goal.returns-clause-writes
returns-clause-writes c = writes_then c.args.into.now c.put_number64-at.new.into c.put_second.new.into c.args.at
    c.put_number64-at.result c.put_second.result (eight_bytes c.args.pair.now.first.0)
    (eight_bytes c.args.pair.now.second.0 ++ (c.args.pair.now.key.0 ++ 1 ∷ [])) c.put_number64-at.ensures
    c.put_second.ensures.writes
