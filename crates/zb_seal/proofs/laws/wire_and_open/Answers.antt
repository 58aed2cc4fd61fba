use Rattle.std.proofs.Common.{sym}
use Rattle.zb_seal.proofs.NwkLaws.{found_nwk, nwk_opens}
use Rattle.zb_seal.proofs.ApsLaws.{aps_opens, aps_wire}
use Rattle.zb_seal.proofs.laws.wire_and_open.Goals as goal

pub returns-clause-nwk_opens : goal.returns-clause-nwk_opens
returns-clause-nwk_opens c = λ t h a is sixteen le. nwk_opens t h a is sixteen le

pub returns-clause-aps_opens : goal.returns-clause-aps_opens
returns-clause-aps_opens c = λ t h a given is from sixteen le. aps_opens t h a given is from sixteen le

pub returns-clause-nwk_wire : goal.returns-clause-nwk_wire
returns-clause-nwk_wire c = λ bytes base t fits sixteen result. let o = found_nwk bytes base t fits sixteen result in
    sym o.same

pub returns-clause-aps_wire : goal.returns-clause-aps_wire
returns-clause-aps_wire c = λ bytes base given t fits sixteen result. aps_wire bytes base given t fits sixteen result
