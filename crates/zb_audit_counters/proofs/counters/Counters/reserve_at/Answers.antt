use Rattle.zb_audit_counters.proofs.counters.Counters.reserve_at.Goals as goal

pub returns-in-Nwk : goal.returns-in-Nwk
returns-in-Nwk c = rw c.in-Nwk.is c.reserve_nwk.ensures

pub returns-in-Aps : goal.returns-in-Aps
returns-in-Aps c = λ number e m. rw c.in-Aps.is (c.reserve_aps.ensures number e m)
