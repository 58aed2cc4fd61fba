use Rattle.std.proofs.Common.{◌∙◌, ◌++◌, ap, length, replicate, zero-add}
use Rattle.zb_mmo.proofs.KeyedHashes.{hash_begun}
use Rattle.zb_mmo.specs.Hash.{blocks_of, hash, mixed_all, padding}
use Rattle.zb_mmo.proofs.hash.Goals as goal

pub returns-in-Some : goal.returns-in-Some
returns-in-Some c =
    hash_begun c.args.bytes.now c.in-Some.block.now c.in-Some.rest.now _ _ c.in-Some.ensures.cases.2
    c.in-Some.ensures.cases.0
    c.in-Some.ensures.cases.1 c.begin.ensures c.finished.ensures

pub returns-in-None : goal.returns-in-None
unfolding hash
returns-in-None c =
    c.finished-in-None.ensures
    ∙ ap (λ n. mixed_all (replicate 16 0) (blocks_of (c.args.bytes.now ++ padding n)))
    (zero-add (length c.args.bytes.now))
