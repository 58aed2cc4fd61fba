use Rattle.std.proofs.Common.{◌∙◌, ◌++◌, ◌∷◌, [], ℕ, take, map, ap, sym, arith, add-one, append_assoc}
use Rattle.arrayvec.specs.ArrayVec.{ArrayVec}
use Rattle.zb_inspect_frame.specs.Shows.{frame_shown}
use Rattle.zb_inspect_frame.specs.declared.shown.Shown.{Shown}
use Rattle.zb_inspect.proofs.RunLaws.{one_mapped}
use Rattle.zb_inspect.proofs.block.show_run.Goals as goal

pub loop-i-preserved : goal.loop-i-preserved
loop-i-preserved c =
    let f : ArrayVec ℕ → Shown = λ frame. frame_shown c.args.addrs.now c.args.keys.now frame.items in
    let run = c.args.run.now in
    let i = c.loop-i.i in
    let none : ArrayVec ℕ = record { items = [] } in
    c.in_ok-push.ensures.items ∙ ap (λ zs. zs ++ c.show_at.result ∷ []) c.loop-i.invariant
    ∙ append_assoc c.args.seen.now.items (map f (take i run)) (c.show_at.result ∷ [])
    ∙ ap (λ zs. c.args.seen.now.items ++ zs)
    (ap (λ x. map f (take i run) ++ x ∷ []) (c.show_at.ensures none)
    ∙ sym (one_mapped f run i none (omega (arith, c.loop-i-test.true, c.requires.within))) ∙ ap
    (λ k. map f (take k run)) (sym (add-one i)))
