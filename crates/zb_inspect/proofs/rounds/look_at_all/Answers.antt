use Rattle.std.proofs.Common.{get_or, sym, ◌∙◌, subst, IfOk}
use Rattle.zb_inspect.specs.Pieces.{IsNextPiece}
use Rattle.zb_inspect.specs.declared.piece.Piece.{Piece}
use Rattle.zb_inspect.proofs.Lists.{oks_zip, if_ok}
use Rattle.zb_inspect.proofs.rounds.look_at_all.Goals as goal

pub returns : goal.returns
returns g c =
    if_ok _ _ c.gather.result c.gather.ensures (λ v is.
    oks_zip (IsNextPiece c.args.frames.now c.args.addrs.now c.args.keys.now) c.args.pieces.items v.items
    c.in_ok-looked.looked.items is
    (sym c.in_ok-looked.looked.ok.0 ∙ c.in_ok-looked.ensures.len ∙ c.args.pieces.ok.0)
    (λ i d e within.
    let j = (c.in_ok-looked.ensures.each i d within).1 in
    let P : Piece → Type 0 = λ old. IfOk (get_or c.in_ok-looked.looked.items i d)
    (λ p. IsNextPiece c.args.frames.now c.args.addrs.now c.args.keys.now old p) in
    subst P (sym (j.job_is e)) j.call.met))
