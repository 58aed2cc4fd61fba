use Rattle.std.proofs.Common.{◌+◌, ◌++◌, ◌∷◌, [], ◌∙◌, ℕ, List, ap, arith}
use Rattle.zb_player_scribe.proofs.FramesIn.{push_ends, push_frames}
use Rattle.zb_player_scribe.proofs.air.Air.push.Goals as goal

pub invariant_of-self-2 : goal.invariant_of-self-2
invariant_of-self-2 c =
    let bytes = c.self.inside.bytes in
    push_ends bytes.items c.args.frame.now.items c.extend_from_slice.new.self.items c.self.inside.ends.items
    c.push.new.self.items
    (c.len.result + c.len-2.result) c.self.invariant (omega (arith, c.len-2.ensures.value, c.len-2.ensures.fits))
    (c.in_ok-extend_from_slice.ensures.items ∙ ap (λ zs. bytes.items ++ zs) c.as_slice.ensures.value)
    (omega (arith, c.len.ensures, bytes.ok.0, c.len-2.ensures.value))
    (c.in_ok-push.ensures.items ∙ ap (λ zs. zs ++ (c.len.result + c.len-2.result) ∷ []) c.in_ok-reserve.ensures.items)

pub returns-clause-added : goal.returns-clause-added
returns-clause-added c =
    let bytes = c.self.inside.bytes in
    push_frames bytes.items c.args.frame.now.items c.extend_from_slice.new.self.items c.self.inside.ends.items
    c.push.new.self.items
    (c.len.result + c.len-2.result) c.self.invariant
    (c.in_ok-extend_from_slice.ensures.items ∙ ap (λ zs. bytes.items ++ zs) c.as_slice.ensures.value)
    (omega (arith, c.len.ensures, bytes.ok.0, c.len-2.ensures.value))
    (c.in_ok-push.ensures.items ∙ ap (λ zs. zs ++ (c.len.result + c.len-2.result) ∷ []) c.in_ok-reserve.ensures.items)
    ∙ ap (λ (zs : List (List ℕ)). zs ++ c.args.frame.now.items ∷ []) c.self.view_is
