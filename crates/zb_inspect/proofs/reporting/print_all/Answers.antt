use Rattle.std.proofs.Common.{get_or, sym, ◌∙◌, subst, IfOk}
use Rattle.zb_inspect.specs.declared.piece.Piece.{Piece}
use Rattle.zb_inspect.proofs.Lists.{oks_zip, if_ok}
use Rattle.zb_inspect.proofs.Printed.{IsPagePrinted, pages_printed}
use Rattle.zb_inspect.proofs.reporting.print_all.Goals as goal

pub returns : goal.returns
returns g c =
    if_ok _ _ c.gather.result c.gather.ensures (λ v is.
    pages_printed c.args.pieces.items v.items
    (oks_zip IsPagePrinted c.args.pieces.items v.items c.in_ok-printed.printed.items is
    (sym c.in_ok-printed.printed.ok.0 ∙ c.in_ok-printed.ensures.len ∙ c.args.pieces.ok.0)
    (λ i d e within.
    let j = (c.in_ok-printed.ensures.each i d within).1 in
    let P : Piece → Type 0 = λ piece. IfOk (get_or c.in_ok-printed.printed.items i d)
    (λ page. IsPagePrinted piece page) in
    subst P (sym (j.job_is e)) j.call.met)))
