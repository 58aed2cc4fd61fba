use Rattle.std.proofs.Common.{◌∙◌, sym, map, bit_xor, arith}
use Rattle.std.proofs.lemmas.Grind.{same_number_lists}
use Rattle.std.proofs.lemmas.List.{get_or-map, length-map}
use Rattle.zb_mmo.proofs.pads.padded_with.Goals as goal

pub returns : goal.returns
returns c =
    same_number_lists c.loop-i.pad (map (λ b. bit_xor b c.args.other) c.args.key.now)
    (omega (arith, length-map c.args.key.now (λ b. bit_xor b c.args.other)))
    (λ k h. c.loop-i.invariant.done k (omega arith)
    ∙ sym (get_or-map (λ b. bit_xor b c.args.other) c.args.key.now k 0 0 (omega arith)))
