use Rattle.std.proofs.Common.{◌≡◌, ◌+◌, ◌++◌, drop, map, length}
use Rattle.zb_pcap.specs.Extracts.{record_in, frames_in, bad_in, other_in}
use Rattle.zb_pcap.proofs.extraction.sort.Given as goal

abbrev pub invariant-loop-packet : goal.invariant-loop-packet
invariant-loop-packet l = record {
  frames : l.sorted.frames ++ frames_in l.check (map record_in (drop l.packet-index l.packets))
      ≡ frames_in l.check (map record_in l.packets);
  bad_check : l.sorted.bad_check + bad_in l.check (map record_in (drop l.packet-index l.packets))
      ≡ bad_in l.check (map record_in l.packets);
  other : l.sorted.other + other_in l.check (map record_in (drop l.packet-index l.packets))
      ≡ other_in l.check (map record_in l.packets);
  count : l.sorted.bad_check + l.sorted.other + length l.sorted.frames ≡ l.packet-index;
}
