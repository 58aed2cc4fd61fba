use Rattle.zb_record.specs.RowViews.{net_key}
use Rattle.zb_keys.specs.Tables.{state_of}
use Rattle.zb_keys.proofs.ReadLemmas.{outgoing_row, outgoing_none}
use Rattle.zb_keys.proofs.contents.Contents.outgoing_nwk.Goals as goal

pub returns-in-Some : goal.returns-in-Some
returns-in-Some c = outgoing_row (state_of c.args.self.now) c.args.block (net_key c.in-Some.row.now) c.in-Some.ensures

pub returns-in-None : goal.returns-in-None
returns-in-None c = outgoing_none (state_of c.args.self.now) c.args.block c.in-None.ensures
