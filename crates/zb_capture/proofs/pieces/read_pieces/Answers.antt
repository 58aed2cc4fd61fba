use Rattle.std.proofs.Common.{◌∙◌, ap, sym, subst, get_or, length, arith, List, ℕ}
use Rattle.std.specs.List.{AllZip}
use Rattle.zb_capture.specs.Pieces.{AreCut}
use Rattle.zb_capture.specs.declared.pieces.Piece.{Piece}
use Rattle.zb_capture.proofs.Places.{WasRead, all_read, piece_within, zip_from_index}
use Rattle.zb_capture.proofs.pieces.read_pieces.Goals as goal

pub map_vec-requires-after_bounds : goal.map_vec-requires-after_bounds
map_vec-requires-after_bounds g c lts sub i x within is =
    let ps = c.in_ok-pieces.pieces.items in
    omega (
      arith,
      c.requires.text,
      piece_within ps i x within,
      ap (λ (p : Piece). length p.text.now) is,
      ap (length {A = ℕ}) c.in_ok-pieces.ensures.whole,
    )

pub returns-clause-cut : goal.returns-clause-cut
returns-clause-cut g c =
    let ps = c.in_ok-pieces.pieces in
    let fs = c.in_ok-found.found in
    let read : AllZip WasRead ps.items fs.items =
    zip_from_index WasRead ps.items fs.items (sym ps.ok.0 ∙ sym c.in_ok-found.ensures.len ∙ fs.ok.0)
    (λ i d e within.
    let j = (c.in_ok-found.ensures.each i e within).1 in
    let P : Piece → Type 0 = λ p. WasRead p (get_or fs.items i e) in
    subst P (sym (j.job_is d)) j.call.met) in
    let S : List (List ℕ) → Type 0 = λ parts. AreCut c.args.text.now parts in
    subst S (sym (all_read ps.items fs.items read).0) c.in_ok-pieces.ensures

pub returns-clause-found : goal.returns-clause-found
returns-clause-found g c =
    let ps = c.in_ok-pieces.pieces in
    let fs = c.in_ok-found.found in
    let read : AllZip WasRead ps.items fs.items =
    zip_from_index WasRead ps.items fs.items (sym ps.ok.0 ∙ sym c.in_ok-found.ensures.len ∙ fs.ok.0)
    (λ i d e within.
    let j = (c.in_ok-found.ensures.each i e within).1 in
    let P : Piece → Type 0 = λ p. WasRead p (get_or fs.items i e) in
    subst P (sym (j.job_is d)) j.call.met) in
    (all_read ps.items fs.items read).1
