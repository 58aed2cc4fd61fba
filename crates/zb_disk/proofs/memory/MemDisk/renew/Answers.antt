use Rattle.std.proofs.Common.{[], take, refl}
use Rattle.zb_disk.proofs.Windows.{fresh_is}
use Rattle.zb_disk.proofs.memory.MemDisk.renew.Goals as goal

pub returns : goal.returns
returns c = fresh_is [] (take 0 c.wipe.new.bytes.items) c.new-self-inside.result.items c.clear.new.self.items refl
    c.clear.ensures.items c.new-self-inside.ensures
