use Rattle.std.proofs.Common.{List, ℕ, get_or, ◌∙◌, ap, arith}
use Rattle.zb_disk.proofs.Extents.{cleared_inside, cleared_others}
use Rattle.zb_disk.proofs.memory.clear.Goals as goal

pub returns-clause-inside : goal.returns-clause-inside
returns-clause-inside c k from to =
    ap (λ (l : List ℕ). get_or l k 0) c.blank_range.ensures ∙ cleared_inside c.args.bytes.now c.args.from c.args.to
    c.min.result c.min-end.result k c.min-end.ensures c.min.ensures from to

pub returns-clause-others : goal.returns-clause-others
returns-clause-others c k blank =
    ap (λ (l : List ℕ). get_or l k 0) c.blank_range.ensures ∙ cleared_others c.args.bytes.now c.min.result
    c.min-end.result k (omega (arith, c.min.ensures)) (omega (arith, c.min-end.ensures)) blank
