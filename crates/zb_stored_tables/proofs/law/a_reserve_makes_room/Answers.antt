use Rattle.zb_stored_tables.proofs.Reserving.{reserve_fits, next_reserved, limit_reserved}
use Rattle.zb_stored_tables.proofs.law.a_reserve_makes_room.Goals as goal

pub returns-clause-fit : goal.returns-clause-fit
returns-clause-fit c = reserve_fits

pub returns-clause-next : goal.returns-clause-next
returns-clause-next c = next_reserved

pub returns-clause-limit : goal.returns-clause-limit
returns-clause-limit c = limit_reserved
