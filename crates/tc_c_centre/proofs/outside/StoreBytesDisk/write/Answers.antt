use Rattle.tc_c_centre.proofs.Rooms.{room_after_write}
use Rattle.tc_c_centre.proofs.outside.StoreBytesDisk.write.Goals as goal

pub invariant_of-self : goal.invariant_of-self
invariant_of-self c = room_after_write c.self.inside.disk c.write.new.self c.args.at c.args.bytes.now c.requires
    c.write.ensures.after c.self.invariant
