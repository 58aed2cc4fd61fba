use Rattle.tc_c_centre.proofs.Rooms.{room_after_sync}
use Rattle.tc_c_centre.proofs.outside.StoreBytesDisk.sync.Goals as goal

pub invariant_of-self : goal.invariant_of-self
invariant_of-self c = room_after_sync c.self.inside.disk c.sync.new.self c.sync.ensures.after c.self.invariant
