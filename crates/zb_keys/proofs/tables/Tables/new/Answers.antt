use Rattle.std.proofs.Common.{◌≡◌, [], refl, arith}
use Rattle.zb_keys.proofs.ApplyLemmas.{sound_new}
use Rattle.zb_keys.proofs.tables.Tables.new.Goals as goal

pub invariant_of-result : goal.invariant_of-result
invariant_of-result c =
    let n : c.in_ok-nets.nets.items ≡ [] = c.in_ok-nets.ensures.items in
    let l : c.in_ok-links.links.items ≡ [] = c.in_ok-links.ensures.items in
    let p : c.in_ok-pairs.pairs.items ≡ [] = c.in_ok-pairs.ensures.items in
    sound_new _ (rw (n, l, p) refl) (omega (arith, c.in_ok-nets.ensures.capacity))
    (omega (arith, c.in_ok-links.ensures.capacity, c.link_room.ensures))
    (omega (arith, c.in_ok-pairs.ensures.capacity))
