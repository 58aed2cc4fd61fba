use Rattle.std.proofs.Common.{◌+◌, ◌++◌, ◌∷◌, [], ◌∙◌, ℕ, length, ap, arith}
use Rattle.arrayvec.specs.ArrayVec.{ArrayVec}
use Rattle.zb_capture.proofs.RunLaws.{ends_room, frame_count, push_ends, push_frames}
use Rattle.zb_capture.proofs.run.Run.push.Goals as goal

pub overflow_cast-end : goal.overflow_cast-end
overflow_cast-end c =
    let bytes = c.self.inside.bytes in
    let ends = c.self.inside.ends in
    omega (
      arith,
      c.requires,
      c.len.ensures,
      bytes.ok.0,
      c.len-2.ensures.fits,
      ends_room (length bytes.items) 0 ends.items c.self.invariant,
      frame_count bytes.items 0 ends.items,
      ap (length {A = ArrayVec ℕ}) c.self.view_is,
    )

pub invariant_of-self-2 : goal.invariant_of-self-2
invariant_of-self-2 c =
    let bytes = c.self.inside.bytes in
    push_ends bytes.items c.args.frame.now.items c.extend_from_slice.new.self.items c.self.inside.ends.items
    c.push.new.self.items
    (c.len.result + c.len-2.result) c.self.invariant (omega (arith, c.len-2.ensures.value, c.len-2.ensures.fits))
    (c.in_ok-extend_from_slice.ensures.items ∙ ap (λ zs. bytes.items ++ zs) c.as_slice.ensures.value)
    (omega (arith, c.len.ensures, bytes.ok.0, c.len-2.ensures.value))
    (c.in_ok-push.ensures.items ∙ ap (λ zs. zs ++ (c.len.result + c.len-2.result) ∷ []) c.in_ok-reserve.ensures.items)

pub returns-clause-added : goal.returns-clause-added
returns-clause-added c =
    let bytes = c.self.inside.bytes in
    push_frames bytes.items c.args.frame.now.items c.extend_from_slice.new.self.items c.self.inside.ends.items
    c.push.new.self.items
    (c.len.result + c.len-2.result) c.self.invariant
    (c.in_ok-extend_from_slice.ensures.items ∙ ap (λ zs. bytes.items ++ zs) c.as_slice.ensures.value)
    (omega (arith, c.len.ensures, bytes.ok.0, c.len-2.ensures.value))
    (c.in_ok-push.ensures.items ∙ ap (λ zs. zs ++ (c.len.result + c.len-2.result) ∷ []) c.in_ok-reserve.ensures.items)
    ∙ ap (λ zs. zs ++ c.args.frame.now ∷ []) c.self.view_is
