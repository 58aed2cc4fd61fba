-- Whatever is known stays known.
use Rattle.std.proofs.Common.{◌-◌, List, length}
use Rattle.zb_model.specs.Data.{Bytes, Station}
use Rattle.zb_audit_names.specs.Standing.{AreKnown}
use Rattle.zb_audit_names.proofs.directory.make_places.Given as goal

abbrev pub invariant-loop-looked_up : goal.invariant-loop-looked_up
invariant-loop-looked_up l = (names : List Bytes) (known : List Station)
    → AreKnown l.initial.looked_up.items names known → AreKnown l.looked_up.items names known

abbrev pub decreases-loop-looked_up : goal.decreases-loop-looked_up
decreases-loop-looked_up l = 1024 - length l.looked_up.items
