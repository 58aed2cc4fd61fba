use Rattle.std.proofs.Common.{arith}
use Rattle.std.proofs.lemmas.List.{length-take}
use Rattle.zb_centre_store.proofs.store.format.Goals as goal

pub format-requires : goal.format-requires
format-requires g c =
    record {
      short = omega
          (arith, length-take c.record_bytes-len.result c.record_bytes-len.new.into, c.record_bytes-len.type_inv);
    }
