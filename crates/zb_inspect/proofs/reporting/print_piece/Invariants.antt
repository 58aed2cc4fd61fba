use Rattle.std.proofs.Common.{◌≡◌}
use Rattle.zb_inspect.specs.Texts.{blocks_text}
use Rattle.zb_inspect.proofs.reporting.print_piece.Given as goal

abbrev pub invariant-loop-block : goal.invariant-loop-block
invariant-loop-block l = l.page.items ≡ blocks_text l.yielded
