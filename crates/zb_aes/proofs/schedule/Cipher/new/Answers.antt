use Rattle.std.proofs.Common.{◌≡◌, ◌∙◌, ap, get_or, map, refl, length-set, arith}
use Rattle.zb_aes.specs.Block.{next_key}
use Rattle.zb_aes.specs.Pairs.{byte_of}
use Rattle.zb_aes.specs.declared.schedule.TheConstants.{CONSTANTS}
use Rattle.zb_aes.proofs.Keys.{keys_one, keys_more}
use Rattle.zb_aes.proofs.schedule.Cipher.new.Goals as goal

pub loop-i-init : goal.loop-i-init
loop-i-init c = (keys_one _, c.pairs-last.ensures, refl, refl)

pub loop-i-preserved : goal.loop-i-preserved
loop-i-preserved c =
    let more = keys_more c.loop-i.i c.loop-i.keys c.next_key-last.result c.loop-i-test.true c.loop-i.invariant.2
    c.loop-i.invariant.0
    (c.next_key-last.ensures
    ∙ ap (λ k. next_key (byte_of (get_or CONSTANTS c.loop-i.i 0)) (map byte_of k)) c.loop-i.invariant.3) in
    (more.0, more.1 ∙ c.loop-i.invariant.1, simp length-set c.loop-i.invariant.2, more.2)

pub invariant_of-result : goal.invariant_of-result
invariant_of-result c = let e : c.loop-i.i ≡ 10 = omega arith in rw e at c.loop-i.invariant.0

pub returns : goal.returns
returns c = c.loop-i.invariant.1
