use Rattle.std.proofs.Common.{◌≢◌, ◌∙◌, ◌+◌, [], length, refl, ap, sym, arith}
use Rattle.std.specs.Int.{div_ceil}
use Rattle.zb_inspect.specs.Pieces.{AreSized, all_blocks, all_leads}
use Rattle.zb_inspect.specs.Rings.{given_from, learnt, ring_after}
use Rattle.zb_inspect.proofs.Bound.{ring_few, ring_is}
use Rattle.zb_inspect.proofs.FreshLeads.{all_unlearnt}
use Rattle.zb_inspect.proofs.CutLaws.{no_more_than_jobs, sized_as}
use Rattle.zb_inspect.proofs.PieceLists.{all_unseen, pieces_sized}
use Rattle.zb_inspect.proofs.RoundLaws.{Round, one_round, last_round, last_shown, another_first, another_seen, another_learnt, another_length, inside, ready}
use Rattle.zb_inspect.proofs.rounds.open_all.Goals as goal
use Rattle.zb_inspect.proofs.rounds.open_all.Goals.{In_ok-ring-2}

pub rounds-init : goal.rounds-init
unfolding ring_after
rounds-init g c = record {
  ring = c.in_ok-ring.ensures ∙ ap (given_from []) c.as_slice-2.ensures;
  pieces = record { numbers = c.in_ok-pieces.ensures.numbers; count = c.in_ok-pieces.ensures.count ∙ c.len.ensures };
  sized = sized_as (length c.args.capture.now.frames) c.args.jobs c.len.result c.in_ok-pieces.pieces.items
      c.len.ensures c.in_ok-pieces.ensures.sized;
  known = omega arith;
  seen = all_unseen c.args.capture.now.frames c.args.capture.now.addrs [] (all_blocks c.in_ok-pieces.pieces.items)
      c.in_ok-pieces.ensures.unseen;
  learnt = all_unlearnt c.in_ok-ring.ring c.args.capture.now.frames c.args.capture.now.addrs []
      (all_blocks c.in_ok-pieces.pieces.items) c.in_ok-pieces.ensures.unseen;
  few = ring_few c.args.capture.now 0 c.in_ok-ring.ring c.requires.capture
      (c.in_ok-ring.ensures ∙ ap (given_from []) c.as_slice-2.ensures);
  grew = omega arith;
  first = λ n some within e. absurd (omega (arith, some, within));
}

pub look_at_all-requires-clause-within : goal.look_at_all-requires-clause-within
look_at_all-requires-clause-within g c κs within =
    inside c.args.capture.now c.rounds.pieces.items c.args.capture.now.frames refl c.rounds.invariant.pieces

pub look_at_all-requires-clause-before : goal.look_at_all-requires-clause-before
look_at_all-requires-clause-before g c κs within =
    ready c.args.capture.now c.rounds.known c.rounds.ring c.rounds.pieces.items c.args.capture.now.frames
    c.in_ok-addrs.addrs c.sealing_keys.result.now
    refl (c.in_ok-addrs.ensures ∙ c.as_slice.ensures) c.sealing_keys.ensures c.rounds.invariant.seen

-- The round that was done.
done : (g : _) (c : In_ok-ring-2 g) → Round c.args.capture.now c.rounds.rounds c.rounds.ring c.in_ok-ring-2.ring
    c.in_ok-pieces-2.pieces.items
done g c =
    one_round c.args.capture.now c.rounds.rounds c.rounds.known c.rounds.ring c.in_ok-ring-2.ring
    c.rounds.pieces.items c.in_ok-pieces-2.pieces.items
    c.args.capture.now.frames c.in_ok-addrs.addrs c.sealing_keys.result.now c.rounds.invariant.pieces
    c.in_ok-pieces-2.ensures refl
    (c.in_ok-addrs.ensures ∙ c.as_slice.ensures) c.sealing_keys.ensures c.rounds.invariant.known
    c.rounds.invariant.seen c.rounds.invariant.learnt
    c.rounds.invariant.ring
    (c.in_ok-ring-2.ensures ∙ ap (λ ps. learnt (c.rounds.rounds + 1) c.rounds.ring (all_leads ps))
    c.as_slice-in-rounds.ensures.value)

still_sized : (g : _) (c : In_ok-ring-2 g)
    → AreSized (div_ceil (length c.args.capture.now.frames) c.args.jobs) 0 (length c.args.capture.now.frames)
    c.in_ok-pieces-2.pieces.items
still_sized g c =
    pieces_sized c.args.capture.now.frames c.in_ok-addrs.addrs c.sealing_keys.result.now
    (div_ceil (length c.args.capture.now.frames) c.args.jobs) 0
    (length c.args.capture.now.frames) c.rounds.pieces.items c.in_ok-pieces-2.pieces.items c.in_ok-pieces-2.ensures
    c.rounds.invariant.sized

pub returns-then-len-count-clause-rounds : goal.returns-then-len-count-clause-rounds
returns-then-len-count-clause-rounds g c =
    let d = (goal.at.returns-then-len-count-clause-rounds g c).In_ok-ring-2 in
    last_round c.args.capture.now c.rounds.rounds c.rounds.ring c.in_ok-ring-2.ring c.into_keys.result
    c.in_ok-pieces-2.pieces.items (done g d)
    c.rounds.invariant.first (sym c.len-in-rounds.ensures ∙ c.if-len-count.true ∙ c.len-count.ensures)
    c.into_keys.ensures

pub returns-then-len-count-clause-ring : goal.returns-then-len-count-clause-ring
returns-then-len-count-clause-ring g c =
    let d = (goal.at.returns-then-len-count-clause-ring g c).In_ok-ring-2 in
    ring_is c.args.capture.now (record { keys = c.into_keys.result; rounds = c.rounds.rounds + 1 })
    (last_round c.args.capture.now c.rounds.rounds c.rounds.ring c.in_ok-ring-2.ring c.into_keys.result
    c.in_ok-pieces-2.pieces.items (done g d)
    c.rounds.invariant.first (sym c.len-in-rounds.ensures ∙ c.if-len-count.true ∙ c.len-count.ensures)
    c.into_keys.ensures)

pub returns-then-len-count-clause-pieces : goal.returns-then-len-count-clause-pieces
returns-then-len-count-clause-pieces g c =
    let d = (goal.at.returns-then-len-count-clause-pieces g c).In_ok-ring-2 in (done g d).cut

pub returns-then-len-count-clause-sized : goal.returns-then-len-count-clause-sized
returns-then-len-count-clause-sized g c = let d = (goal.at.returns-then-len-count-clause-sized g c).In_ok-ring-2 in
    still_sized g d

pub returns-then-len-count-clause-few_pieces : goal.returns-then-len-count-clause-few_pieces
returns-then-len-count-clause-few_pieces g c =
    let d = (goal.at.returns-then-len-count-clause-few_pieces g c).In_ok-ring-2 in
    no_more_than_jobs (length c.args.capture.now.frames) c.args.jobs c.in_ok-pieces-2.pieces.items c.requires.jobs
    (still_sized g d)

pub returns-then-len-count-clause-shown : goal.returns-then-len-count-clause-shown
returns-then-len-count-clause-shown g c =
    let d = (goal.at.returns-then-len-count-clause-shown g c).In_ok-ring-2 in
    last_shown c.args.capture.now c.rounds.rounds c.rounds.ring c.in_ok-ring-2.ring c.into_keys.result
    c.in_ok-pieces-2.pieces.items (done g d)
    (sym c.len-in-rounds.ensures ∙ c.if-len-count.true ∙ c.len-count.ensures) c.into_keys.ensures

pub rounds-smaller : goal.rounds-smaller
rounds-smaller g c =
    let d = (goal.at.rounds-smaller g c).In_ok-ring-2 in
    let grew : length c.in_ok-ring-2.ring ≢ length c.rounds.ring =
    λ e. c.if-len-count.false (c.len-in-rounds.ensures ∙ e ∙ sym c.len-count.ensures) in
    let more = another_length c.args.capture.now c.rounds.rounds c.rounds.ring c.in_ok-ring-2.ring
    c.in_ok-pieces-2.pieces.items (done g d) grew in
    omega (arith, more, c.rounds.invariant.few)

pub rounds-preserved : goal.rounds-preserved
rounds-preserved g c =
    let d = (goal.at.rounds-preserved g c).In_ok-ring-2 in
    let round = done g d in
    let grew : length c.in_ok-ring-2.ring ≢ length c.rounds.ring =
    λ e. c.if-len-count.false (c.len-in-rounds.ensures ∙ e ∙ sym c.len-count.ensures) in
    let pieces = c.in_ok-pieces-2.pieces.items in
    let more = another_length c.args.capture.now c.rounds.rounds c.rounds.ring c.in_ok-ring-2.ring pieces round grew in
    record {
      ring = round.after;
      pieces = round.cut;
      sized = still_sized g d;
      known = omega (arith, more, c.len-count.ensures);
      seen = another_seen c.args.capture.now c.rounds.rounds c.len-count.result c.rounds.ring c.in_ok-ring-2.ring
          pieces round c.len-count.ensures;
      learnt = another_learnt c.args.capture.now c.rounds.rounds c.len-count.result c.rounds.ring c.in_ok-ring-2.ring
          pieces round c.len-count.ensures;
      few = ring_few c.args.capture.now (c.rounds.rounds + 1) c.in_ok-ring-2.ring c.requires.capture round.after;
      grew = omega (arith, more, c.rounds.invariant.grew);
      first = another_first c.args.capture.now c.rounds.rounds c.rounds.ring c.in_ok-ring-2.ring pieces round
          c.rounds.invariant.first grew;
    }
