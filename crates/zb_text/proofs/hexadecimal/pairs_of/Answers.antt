use Rattle.std.proofs.Common.{◌∙◌, rules, sym}
use Rattle.zb_text.proofs.Pairs.{pairs_more, pairs_room, pairs_stop, pairs_end, pairs_odd}
use Rattle.zb_text.proofs.hexadecimal.pairs_of.Goals as goal

pub returns-in_default-pair_value : goal.returns-in_default-pair_value
returns-in_default-pair_value g c =
    pairs_stop c.loop-rest.found.items c.loop-rest.rest.now c.args.word.now c.in-len2-up.len_at_least
    (sym c.in_default-pair_value.is ∙ c.pair_value.ensures) c.loop-rest.invariant.pairs

pub loop-rest-preserved : goal.loop-rest-preserved
loop-rest-preserved g c = record {
  pairs = pairs_more c.loop-rest.found.items c.push.new.self.items c.loop-rest.rest.now c.args.word.now c.in-Some.byte
      c.in-len2-up.len_at_least (sym c.in-Some.is ∙ c.pair_value.ensures) c.push.ensures.items
      c.loop-rest.invariant.pairs;
  room = pairs_room c.loop-rest.found.items c.push.new.self.items c.loop-rest.rest.now c.in-Some.byte g.row.N
      c.in-len2-up.len_at_least c.push.ensures.items c.loop-rest.invariant.room;
}

pub returns-then-is_empty : goal.returns-then-is_empty
returns-then-is_empty g c =
    pairs_end c.loop-rest.found.items c.loop-rest.rest.now c.args.word.now (search rules) c.loop-rest.invariant.pairs

pub returns-else-is_empty : goal.returns-else-is_empty
returns-else-is_empty g c =
    pairs_odd c.loop-rest.found.items c.loop-rest.rest.now c.args.word.now c.in_default.len_below (search rules)
    c.loop-rest.invariant.pairs
