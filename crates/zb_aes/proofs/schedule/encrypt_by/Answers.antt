use Rattle.std.proofs.Common.{◌≡◌, refl, arith}
use Rattle.zb_aes.specs.Columns.{key_at, state_bytes}
use Rattle.zb_aes.proofs.Keys.{rounds-more, rounds-end, start-of-pairs}
use Rattle.zb_aes.proofs.schedule.encrypt_by.Goals as goal

pub returns : goal.returns
returns c =
    let key = key_at c.args.keys.now 0 in
    let block = state_bytes c.args.block in
    let is : key ≡ key = refl in
    let s0 = start-of-pairs _ _ block _ _ c.lanes.ensures c.pairs.ensures c.plus-state.ensures in
    let s1 =
    rounds-more key block _ _ _ _ 1 (omega arith) is (c.requires.each 1 (omega arith)) s0 c.round-state.ensures in
    let s2 =
    rounds-more key block _ _ _ _ 2 (omega arith) is (c.requires.each 2 (omega arith)) s1 c.round-state-2.ensures in
    let s3 =
    rounds-more key block _ _ _ _ 3 (omega arith) is (c.requires.each 3 (omega arith)) s2 c.round-state-3.ensures in
    let s4 =
    rounds-more key block _ _ _ _ 4 (omega arith) is (c.requires.each 4 (omega arith)) s3 c.round-state-4.ensures in
    let s5 =
    rounds-more key block _ _ _ _ 5 (omega arith) is (c.requires.each 5 (omega arith)) s4 c.round-state-5.ensures in
    let s6 =
    rounds-more key block _ _ _ _ 6 (omega arith) is (c.requires.each 6 (omega arith)) s5 c.round-state-6.ensures in
    let s7 =
    rounds-more key block _ _ _ _ 7 (omega arith) is (c.requires.each 7 (omega arith)) s6 c.round-state-7.ensures in
    let s8 =
    rounds-more key block _ _ _ _ 8 (omega arith) is (c.requires.each 8 (omega arith)) s7 c.round-state-8.ensures in
    let s9 =
    rounds-more key block _ _ _ _ 9 (omega arith) is (c.requires.each 9 (omega arith)) s8 c.round-state-9.ensures in
    rounds-end key block _ _ _ _ _ 10 refl is (c.requires.each 10 (omega arith)) s9 c.last_round.ensures
    c.of_lanes.ensures
