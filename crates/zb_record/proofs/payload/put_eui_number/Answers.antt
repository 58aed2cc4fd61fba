use Rattle.zb_model.specs.Record.{eight_bytes, four_bytes}
use Rattle.zb_record.proofs.WritingLemmas.{writes_then}
use Rattle.zb_record.proofs.payload.put_eui_number.Goals as goal

pub returns : goal.returns
returns c = writes_then c.args.into.now c.put_number64-at.new.into c.put_number32.new.into c.args.at
    c.put_number64-at.result c.put_number32.result (eight_bytes c.args.eui.0) (four_bytes c.args.value)
    c.put_number64-at.ensures c.put_number32.ensures
