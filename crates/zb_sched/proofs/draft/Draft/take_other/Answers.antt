use Rattle.zb_sched.proofs.draft.Draft.take_other.Goals as goal

pub returns-in-Some-clause-kept : goal.returns-in-Some-clause-kept
returns-in-Some-clause-kept c = c.take_line.ensures.kept c.in-Some.ensures.fits
