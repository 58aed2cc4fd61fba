use Rattle.std.proofs.Common.{◌≡◌, sym, subst, ◌∙◌, rules, None, Some, Ok, Option, option_map, refl}
use Rattle.zb_model.specs.Tools.{ApsShown}
use Rattle.zb_delivery.proofs.Layers.{accepted_nwk, passes_in_clear}
use Rattle.zb_delivery.proofs.Plans.{frame_refused, in_clear_read, leave_exit, leave_refused_exit, no_leave_is, part_read, part_unread, refused_exit}
use Rattle.zb_delivery.specs.Receiving.{content_plan, refused}
use Rattle.zb_model_real.specs.Readers.{aps_frame_shown, nwk_frame_shown}
use Rattle.zb_model_real.specs.Real.{real}
use Rattle.zb_model_real.specs.Terms.{model_term}
use Rattle.zb_plan.specs.Answers.{terms}
use Rattle.zb_rules.specs.Hearing.{heard_of}
use Rattle.zb_delivery.proofs.judging.judge.Goals as goal

pub returns-in_err-judge_carrier-clause-plan : goal.returns-in_err-judge_carrier-clause-plan
returns-in_err-judge_carrier-clause-plan c = λ d.
    refused_exit c.args.known.now.network.now c.args.known.now.tables.now d
    (terms c.judge_carrier.new.out.accepted_nwk c.judge_carrier.new.out.accepted_aps) c.from_residual.result
    c.in_err-judge_carrier.field-0.0 _ c.from_residual.ensures.1
    (frame_refused c.args.known.now.network.now c.args.known.now.tables.now d c.args.bytes.now
    c.judge_carrier.new.out.accepted_nwk c.judge_carrier.new.out.accepted_aps
    c.in_err-judge_carrier.field-0.0 c.in_err-judge_carrier.ensures.refused c.in_err-judge_carrier.ensures.aps
    c.in_err-judge_carrier.ensures.carrier)

pub returns-in_err-judge_carrier-clause-nwk : goal.returns-in_err-judge_carrier-clause-nwk
returns-in_err-judge_carrier-clause-nwk c = rw c.in_err-judge_carrier.ensures.refused tt

pub returns-in_err-judge_carrier-clause-aps : goal.returns-in_err-judge_carrier-clause-aps
returns-in_err-judge_carrier-clause-aps c = rw c.in_err-judge_carrier.ensures.aps tt

pub returns-in_err-leave-clause-plan : goal.returns-in_err-leave-clause-plan
returns-in_err-leave-clause-plan c = λ d.
    refused_exit c.args.known.now.network.now c.args.known.now.tables.now d
    (terms c.judge_carrier.new.out.accepted_nwk c.judge_carrier.new.out.accepted_aps)
    c.from_residual-in_err-leave.result
    c.in_err-leave.field-0.0 _ c.from_residual-in_err-leave.ensures.1
    (leave_refused_exit c.args.known.now.network.now c.args.known.now.tables.now d c.args.bytes.now
    c.judge_carrier.new.frame c.judge_carrier.new.out.accepted_nwk c.judge_carrier.new.out.accepted_aps
    c.in_err-leave.field-0.0 c.in_ok-judge_carrier.ensures.carrier c.in_ok-judge_carrier.ensures.aps
    (c.in_err-leave.ensures c.args.known.now.network.now c.args.known.now.tables.now d))

pub returns-in_err-leave-clause-nwk : goal.returns-in_err-leave-clause-nwk
returns-in_err-leave-clause-nwk c = accepted_nwk c.args.known.now.network.now c.args.known.now.tables.now
    c.args.bytes.now c.judge_carrier.new.frame
    c.judge_carrier.new.out.accepted_nwk c.in_ok-judge_carrier.ensures.carrier

pub returns-in_err-leave-clause-aps : goal.returns-in_err-leave-clause-aps
returns-in_err-leave-clause-aps c = rw c.in_ok-judge_carrier.ensures.aps tt

pub returns-in-Some-clause-plan : goal.returns-in-Some-clause-plan
returns-in-Some-clause-plan c = λ d.
    leave_exit c.args.known.now.network.now c.args.known.now.tables.now d c.args.bytes.now
    c.judge_carrier.new.frame c.judge_carrier.new.out.accepted_nwk c.judge_carrier.new.out.accepted_aps
    c.in_ok-leave.leave c.in-Some.sender c.in-Some.options c.in_ok-judge_carrier.ensures.carrier
    c.in_ok-judge_carrier.ensures.aps c.in-Some.is (c.in_ok-leave.ensures c.args.known.now.network.now
    c.args.known.now.tables.now d)

pub returns-in-Some-clause-nwk : goal.returns-in-Some-clause-nwk
returns-in-Some-clause-nwk c = accepted_nwk c.args.known.now.network.now c.args.known.now.tables.now c.args.bytes.now
    c.judge_carrier.new.frame
    c.judge_carrier.new.out.accepted_nwk c.in_ok-judge_carrier.ensures.carrier

pub returns-in-Some-clause-aps : goal.returns-in-Some-clause-aps
returns-in-Some-clause-aps c = rw c.in_ok-judge_carrier.ensures.aps tt

pub returns-then-is_none-clause-plan : goal.returns-then-is_none-clause-plan
returns-then-is_none-clause-plan c = λ d.
    let nothing : c.read_part.result ≡ None = search rules in
    let read : ◌≡◌ {A = Option ApsShown} None (real.read_aps c.payload_of.result.now)
    = subst (λ o. option_map (λ _. aps_frame_shown c.read_part.new.part) o ≡ real.read_aps c.payload_of.result.now)
    nothing c.read_part.ensures.shown in
    part_unread c.args.known.now.network.now c.args.known.now.tables.now d c.args.bytes.now
    c.judge_carrier.new.frame c.judge_carrier.new.out.accepted_nwk c.judge_carrier.new.out.accepted_aps
    c.in_ok-judge_carrier.ensures.carrier
    (no_leave_is c.args.known.now.network.now c.args.known.now.tables.now d
    (nwk_frame_shown c.judge_carrier.new.frame) c.judge_carrier.new.out.accepted_nwk c.in_ok-leave.leave c.in-None.is
    (c.in_ok-leave.ensures c.args.known.now.network.now c.args.known.now.tables.now d))
    c.in_ok-judge_carrier.ensures.aps (rw c.payload_of.ensures at read)

pub returns-then-is_none-clause-nwk : goal.returns-then-is_none-clause-nwk
returns-then-is_none-clause-nwk c = accepted_nwk c.args.known.now.network.now c.args.known.now.tables.now
    c.args.bytes.now c.judge_carrier.new.frame
    c.judge_carrier.new.out.accepted_nwk c.in_ok-judge_carrier.ensures.carrier

pub returns-then-is_none-clause-aps : goal.returns-then-is_none-clause-aps
returns-then-is_none-clause-aps c = rw c.in_ok-judge_carrier.ensures.aps tt

pub judge_part-requires-clause-in_clear : goal.judge_part-requires-clause-in_clear
judge_part-requires-clause-in_clear c =
    let found : Some (aps_frame_shown c.read_part.new.part) ≡ real.read_aps c.payload_of.result.now = search rules in
    let read = rw c.payload_of.ensures at found in
    in_clear_read c.judge_carrier.new.out.accepted_nwk c.judge_carrier.new.frame
    (aps_frame_shown c.read_part.new.part)
    (passes_in_clear c.args.known.now.network.now c.args.known.now.tables.now c.args.bytes.now
    c.judge_carrier.new.frame c.judge_carrier.new.out.accepted_nwk c.in_ok-judge_carrier.ensures.carrier) read

pub returns-in_err-came-clause-plan : goal.returns-in_err-came-clause-plan
returns-in_err-came-clause-plan c = λ d.
    let found : Some (aps_frame_shown c.read_part.new.part) ≡ real.read_aps c.payload_of.result.now = search rules in
    let read = rw c.payload_of.ensures at found in
    refused_exit c.args.known.now.network.now c.args.known.now.tables.now d
    (terms c.judge_part.new.out.accepted_nwk c.judge_part.new.out.accepted_aps) c.from_residual-in_err-came.result
    c.in_err-came.field-0.0 _ c.from_residual-in_err-came.ensures.1
    (part_read c.args.known.now.network.now c.args.known.now.tables.now d c.args.bytes.now
    c.judge_carrier.new.frame c.judge_carrier.new.out.accepted_nwk c.read_part.new.part
    (refused (terms c.judge_part.new.out.accepted_nwk c.judge_part.new.out.accepted_aps) c.in_err-came.field-0.0)
    c.in_ok-judge_carrier.ensures.carrier
    (no_leave_is c.args.known.now.network.now c.args.known.now.tables.now d
    (nwk_frame_shown c.judge_carrier.new.frame) c.judge_carrier.new.out.accepted_nwk c.in_ok-leave.leave c.in-None.is
    (c.in_ok-leave.ensures c.args.known.now.network.now c.args.known.now.tables.now d))
    read
    (c.in_err-came.ensures.plan d))

pub returns-in_err-came-clause-nwk : goal.returns-in_err-came-clause-nwk
returns-in_err-came-clause-nwk c = rw c.in_err-came.ensures.nwk
    (accepted_nwk c.args.known.now.network.now c.args.known.now.tables.now c.args.bytes.now c.judge_carrier.new.frame
    c.judge_carrier.new.out.accepted_nwk c.in_ok-judge_carrier.ensures.carrier)

pub returns-in_err-content-clause-plan : goal.returns-in_err-content-clause-plan
returns-in_err-content-clause-plan c = λ d.
    let found : Some (aps_frame_shown c.read_part.new.part) ≡ real.read_aps c.payload_of.result.now = search rules in
    let read = rw c.payload_of.ensures at found in
    refused_exit c.args.known.now.network.now c.args.known.now.tables.now d
    (terms c.judge_part.new.out.accepted_nwk c.judge_part.new.out.accepted_aps) c.from_residual-in_err-content.result
    c.in_err-content.field-0.0 _ c.from_residual-in_err-content.ensures.1
    (part_read c.args.known.now.network.now c.args.known.now.tables.now d c.args.bytes.now
    c.judge_carrier.new.frame c.judge_carrier.new.out.accepted_nwk c.read_part.new.part
    (refused (terms c.judge_part.new.out.accepted_nwk c.judge_part.new.out.accepted_aps) c.in_err-content.field-0.0)
    c.in_ok-judge_carrier.ensures.carrier
    (no_leave_is c.args.known.now.network.now c.args.known.now.tables.now d
    (nwk_frame_shown c.judge_carrier.new.frame) c.judge_carrier.new.out.accepted_nwk c.in_ok-leave.leave c.in-None.is
    (c.in_ok-leave.ensures c.args.known.now.network.now c.args.known.now.tables.now d))
    read
    (c.in_err-content.ensures.plan c.args.known.now.network.now c.args.known.now.tables.now d
    (terms c.judge_part.new.out.accepted_nwk c.judge_part.new.out.accepted_aps)
    (heard_of c.in_ok-came.came)
    ∙ c.in_ok-came.ensures.plan d))

pub returns-in_err-content-clause-nwk : goal.returns-in_err-content-clause-nwk
returns-in_err-content-clause-nwk c = rw c.in_ok-came.ensures.nwk
    (accepted_nwk c.args.known.now.network.now c.args.known.now.tables.now c.args.bytes.now c.judge_carrier.new.frame
    c.judge_carrier.new.out.accepted_nwk c.in_ok-judge_carrier.ensures.carrier)

pub returns-clause-plan : goal.returns-clause-plan
returns-clause-plan c = λ d.
    let found : Some (aps_frame_shown c.read_part.new.part) ≡ real.read_aps c.payload_of.result.now = search rules in
    let read = rw c.payload_of.ensures at found in
    part_read c.args.known.now.network.now c.args.known.now.tables.now d c.args.bytes.now
    c.judge_carrier.new.frame c.judge_carrier.new.out.accepted_nwk c.read_part.new.part
    (content_plan c.args.known.now.network.now c.args.known.now.tables.now d
    (terms c.judge_part.new.out.accepted_nwk c.judge_part.new.out.accepted_aps)
    (heard_of c.in_ok-came.came) (Ok c.in_ok-content.content))
    c.in_ok-judge_carrier.ensures.carrier
    (no_leave_is c.args.known.now.network.now c.args.known.now.tables.now d
    (nwk_frame_shown c.judge_carrier.new.frame) c.judge_carrier.new.out.accepted_nwk c.in_ok-leave.leave c.in-None.is
    (c.in_ok-leave.ensures c.args.known.now.network.now c.args.known.now.tables.now d))
    read
    (c.in_ok-content.ensures.plan c.args.known.now.network.now c.args.known.now.tables.now d
    (terms c.judge_part.new.out.accepted_nwk c.judge_part.new.out.accepted_aps)
    (heard_of c.in_ok-came.came)
    ∙ c.in_ok-came.ensures.plan d)

pub returns-clause-nwk : goal.returns-clause-nwk
returns-clause-nwk c = rw c.in_ok-came.ensures.nwk
    (accepted_nwk c.args.known.now.network.now c.args.known.now.tables.now c.args.bytes.now c.judge_carrier.new.frame
    c.judge_carrier.new.out.accepted_nwk c.in_ok-judge_carrier.ensures.carrier)
