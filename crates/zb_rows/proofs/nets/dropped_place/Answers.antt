use Rattle.std.proofs.Common.{ap, arith, length}
use Rattle.std.proofs.lemmas.List.{length-map}
use Rattle.zb_model.specs.State.{NetKey}
use Rattle.zb_record.specs.RowViews.{net_key}
use Rattle.zb_keys.proofs.ReadLemmas.{few_nets}
use Rattle.zb_rows.proofs.nets.dropped_place.Goals as goal

pub overflow_cast-result : goal.overflow_cast-result
overflow_cast-result c =
    record {
      fits = omega (
        arith,
        c.in-Some.ensures.within,
        few_nets c.args.tables.now c.keep_rules.ensures.rules,
        length-map c.nets.result.now net_key,
        ap (length {A = NetKey}) c.nets.ensures,
      );
    }
