use Rattle.std.proofs.Common.{◌≤◌, List, ℕ, length, take, false, ap, subst, arith}
use Rattle.zb_host.specs.Hosts.{IsCommit}
use Rattle.zb_host.proofs.Commits.{append_faults, append_untouched, no_whole}
use Rattle.zb_host.proofs.commit.append.Goals as goal

pub returns : goal.returns
returns g c = λ content.
    let old = g.D.Disk.state c.args.disk.now in
    let new = g.D.Disk.state c.append.new.disk in
    let bytes = take c.change_bytes-len.result c.change_bytes-len.new.into in
    let short : length bytes ≤ 481 = omega (arith, ap length c.change_bytes-len.ensures.bytes, c.requires.short) in
    let it : IsCommit g.D.Disk.tells false content bytes c.args.store old new c.append.result = record {
      moments = c.append.ensures.moments;
      ready = c.append.ensures.ready;
      through = c.append.ensures.through;
      stopped = c.append.ensures.stopped;
      faults = append_faults c.args.store bytes old new c.append.result short c.append.ensures.faults;
      worn = λ whole. no_whole whole;
      untouched = λ worn. append_untouched c.args.store bytes old new c.append.result worn
          (append_faults c.args.store bytes old new c.append.result short c.append.ensures.faults);
      count = c.append.ensures.count;
      unrisen = c.append.ensures.unrisen;
      asked = c.append.ensures.asked;
    } in
    subst (λ (p : List ℕ). IsCommit g.D.Disk.tells false content p c.args.store old new c.append.result)
    c.change_bytes-len.ensures.bytes it
