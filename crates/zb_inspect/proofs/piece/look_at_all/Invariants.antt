use Rattle.std.proofs.Common.{◌≡◌, ◌++◌, take}
use Rattle.zb_inspect.specs.Pieces.{IsNext, all_fresh}
use Rattle.zb_inspect.proofs.Lists.{Half}
use Rattle.zb_inspect.proofs.piece.look_at_all.Given as goal

abbrev pub invariant-loop-i : goal.invariant-loop-i
invariant-loop-i l = record {
  half : Half (IsNext l.frames l.addrs l.keys) l.i l.initial.blocks l.blocks;
  leads : l.leads.items ≡ l.initial.leads.items ++ all_fresh l.frames l.addrs l.keys (take l.i l.initial.blocks);
}
