use Rattle.std.proofs.Common.{◌≤◌, List, ℕ, length, take, true, ap, subst, arith}
use Rattle.zb_host.specs.Hosts.{IsCommit}
use Rattle.zb_host.proofs.Commits.{put_faults, put_untouched}
use Rattle.zb_host.proofs.commit.put.Goals as goal

pub returns : goal.returns
returns g c = λ payload.
    let old = g.D.Disk.state c.args.disk.now in
    let new = g.D.Disk.state c.put.new.disk in
    let bytes = take c.record-len.result c.record-len.new.into in
    let small : length bytes ≤ 49152 =
    omega (arith, ap length c.record-len.ensures.bytes, c.record-len.ensures.len, c.record-len.ensures.small) in
    let it : IsCommit g.D.Disk.tells true bytes payload c.args.store old new c.put.result = record {
      moments = c.put.ensures.moments;
      ready = c.put.ensures.ready;
      through = c.put.ensures.through;
      stopped = c.put.ensures.stopped;
      faults = put_faults c.args.store bytes old new c.put.result small c.put.ensures.faults;
      worn = λ whole generation. c.put.ensures.worn small generation;
      untouched = λ worn. put_untouched old new c.put.result worn c.put.ensures.untouched;
      count = c.put.ensures.count;
      unrisen = c.put.ensures.unrisen;
      asked = c.put.ensures.asked;
    } in
    subst (λ (w : List ℕ). IsCommit g.D.Disk.tells true w payload c.args.store old new c.put.result)
    c.record-len.ensures.bytes it
