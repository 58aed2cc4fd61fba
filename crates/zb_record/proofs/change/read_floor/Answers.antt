use Rattle.std.proofs.Common.{append_assoc}
use Rattle.zb_model.specs.Record.{edit_bytes}
use Rattle.zb_record.proofs.change.read_floor.Goals as goal

pub returns-clause-spelled : goal.returns-clause-spelled
unfolding edit_bytes
returns-clause-spelled c =
    rw (
      c.in_ok-layer.ensures.spelled,
      c.in_ok-key.ensures.spelled,
      c.in_ok-sender.ensures.spelled,
      c.in_ok-value.ensures.spelled,
    ) (simp append_assoc)
