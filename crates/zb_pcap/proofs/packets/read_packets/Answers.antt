use Rattle.std.proofs.Common.{◌≡◌, ◌<◌, ◌≤◌, length, map, rules, arith, ap, ◌∙◌, length-append, [], ◌∷◌, Vec, Global}
use Rattle.zb_pcap.specs.Extracts.{record_in}
use Rattle.zb_pcap.specs.Files.{records}
use Rattle.zb_pcap.specs.declared.packets.Packet.{Packet}
use Rattle.zb_pcap.proofs.Records.{so_far_more, cut_here, too_many_here, all_read, refused}
use Rattle.zb_pcap.proofs.packets.read_packets.Goals as goal

pub returns-in-None-clause-exact : goal.returns-in-None-clause-exact
returns-in-None-clause-exact c =
    let some : 0 < length c.loop-rest.rest.now = search rules in
    refused {T = Vec Packet Global} (λ v. map record_in v.items) c.fault.result _ _ c.fault.ensures
    (cut_here _ c.loop-rest.place c.args.order (records 100000 1 c.args.order c.args.bytes.now)
    (map record_in c.loop-rest.packets.items) c.loop-rest.rest.now
    c.loop-rest.invariant.so_far some c.in-None.ensures.value)

pub returns-then-len-ge-MOST_FRAMES-clause-exact : goal.returns-then-len-ge-MOST_FRAMES-clause-exact
returns-then-len-ge-MOST_FRAMES-clause-exact c =
    let some : 0 < length c.loop-rest.rest.now = search rules in
    let many : 100000 ≤ length c.loop-rest.packets.items = search rules in
    refused {T = Vec Packet Global} (λ v. map record_in v.items) c.fault-then-len-ge-MOST_FRAMES.result _ _
    c.fault-then-len-ge-MOST_FRAMES.ensures
    (too_many_here (length c.loop-rest.packets.items) c.loop-rest.place c.args.order
    (records 100000 1 c.args.order c.args.bytes.now)
    (map record_in c.loop-rest.packets.items) c.loop-rest.rest.now _ c.loop-rest.invariant.so_far many some
    c.in-Some.ensures.value)

pub loop-rest-preserved : goal.loop-rest-preserved
loop-rest-preserved c =
    let some : 0 < length c.loop-rest.rest.now = search rules in
    let few : length c.loop-rest.packets.items < 100000 = search rules in
    let grown = c.in_ok-push.ensures.items in
    let count = ap (length {A = Packet}) grown ∙ length-append c.loop-rest.packets.items (c.in-Some.taken.0 ∷ []) in
    record {
      so_far = so_far_more c.args.order (records 100000 1 c.args.order c.args.bytes.now) c.loop-rest.packets.items
          c.push.new.self.items c.in-Some.taken.0
          c.loop-rest.place c.loop-rest.rest.now c.in-Some.taken.1.now c.loop-rest.invariant.so_far some few
          c.in-Some.ensures.value grown;
      place = omega (arith, count, c.loop-rest.invariant.place);
      few = omega (arith, count, few);
    }

pub returns-clause-exact : goal.returns-clause-exact
returns-clause-exact c =
    let none : length c.loop-rest.rest.now ≡ 0 = search rules in
    all_read _ c.loop-rest.place c.args.order (records 100000 1 c.args.order c.args.bytes.now)
    (map record_in c.loop-rest.packets.items) c.loop-rest.rest.now
    c.loop-rest.invariant.so_far none
