use Rattle.std.proofs.Common.{◌∷◌, ◌++◌}
use Rattle.zb_node_types.specs.Changes.{model_layer}
use Rattle.zb_model.specs.Record.{layer_byte, eight_bytes, four_bytes}
use Rattle.zb_record.proofs.WritingLemmas.{writes_then}
use Rattle.zb_record.proofs.payload.put_floor.Goals as goal

pub returns : goal.returns
returns c = writes_then c.args.into.now c.put_layer_key-at.new.into c.put_eui_number.new.into c.args.at
    c.put_layer_key-at.result c.put_eui_number.result (2 ∷ layer_byte (model_layer c.args.layer) ∷ c.args.key.now.0)
    (eight_bytes c.args.sender.0 ++ four_bytes c.args.value) c.put_layer_key-at.ensures c.put_eui_number.ensures
