use Rattle.std.proofs.Common.{◌≡◌, ◌+◌, ◌++◌, drop}
use Rattle.zb_inspect.specs.Rings.{leads}
use Rattle.zb_inspect.proofs.block.add_all_leads.Given as goal

abbrev pub invariant-loop-shown : goal.invariant-loop-shown
invariant-loop-shown l =
    (l.found.items ++ leads l.frame (drop l.shown-index l.seen) ≡ l.initial.found.items ++ leads l.first l.seen)
    × (l.frame ≡ l.first + l.shown-index)
