use Rattle.std.proofs.Common.{◌≡◌, ◌+◌, drop}
use Rattle.zb_inspect_frame.specs.Layers.{opened_by}
use Rattle.zb_inspect_frame.proofs.layer.unseal_first.Given as goal

abbrev pub invariant-loop-sealing_keys : goal.invariant-loop-sealing_keys
invariant-loop-sealing_keys l =
    (opened_by l.envelope l.source l.place (drop l.sealing_keys-index l.keys)
    ≡ opened_by l.initial.envelope l.source l.number l.keys)
    × (l.place ≡ l.number + l.sealing_keys-index) × (l.envelope ≡ l.initial.envelope)
