use Rattle.zb_delivery.proofs.Layers.{accepted_aps}
use Rattle.zb_delivery.proofs.Plans.{sealed_passed, sealed_refused}
use Rattle.zb_model_real.specs.Readers.{nwk_frame_shown}
use Rattle.zb_delivery.proofs.judging.judge_sealed.Goals as goal

pub returns-in-Err-clause-plan : goal.returns-in-Err-clause-plan
returns-in-Err-clause-plan c = λ d. sealed_refused c.args.known.now.network.now c.args.known.now.tables.now d
    (nwk_frame_shown c.args.frame.now) c.args.out.now.accepted_nwk c.args.out.now.accepted_aps c.args.part.now
    c.args.aux.now c.in-Err.refusal c.requires.none (rw c.payload_of.ensures at c.in-Err.ensures)

pub returns-in-Err-clause-aps : goal.returns-in-Err-clause-aps
returns-in-Err-clause-aps c = rw c.requires.none tt

pub returns-in-Ok-clause-plan : goal.returns-in-Ok-clause-plan
returns-in-Ok-clause-plan c = λ d. sealed_passed c.args.known.now.network.now c.args.known.now.tables.now d
    (nwk_frame_shown c.args.frame.now) c.args.out.now.accepted_nwk c.args.part.now c.args.aux.now c.in-Ok.unsealed
    c.source_of.result c.label_of.result c.source_of.ensures c.label_of.ensures
    (rw c.payload_of.ensures at c.in-Ok.ensures)

pub returns-in-Ok-clause-aps : goal.returns-in-Ok-clause-aps
returns-in-Ok-clause-aps c = accepted_aps c.args.known.now.network.now c.args.known.now.tables.now
    (nwk_frame_shown c.args.frame.now) c.payload_of.result.now c.args.part.now c.args.aux.now c.in-Ok.unsealed
    (rw c.payload_of.ensures c.requires.read) c.requires.aux c.in-Ok.ensures
