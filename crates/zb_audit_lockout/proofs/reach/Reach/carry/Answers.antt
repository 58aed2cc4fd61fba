use Rattle.std.proofs.Common.{ap, ◌∙◌}
use Rattle.zb_audit_names.proofs.Entries.{if_ok, on_ok}
use Rattle.zb_base.specs.declared.key.Key.{Key}
use Rattle.zb_audit_lockout.specs.Standing.{Carries, Settles}
use Rattle.zb_audit_lockout.specs.declared.reach.Reach.{Reach}
use Rattle.zb_audit_lockout.proofs.Telling.{carried_tells}
use Rattle.zb_trace_watch.specs.Sets.{is_carried}
use Rattle.zb_trace_watch.specs.declared.holdings.Holdings.{Holdings}
use Rattle.zb_trace_watch.proofs.Owners.{added_bytes}
use Rattle.zb_audit_lockout.proofs.reach.Reach.carry.Goals as goal

pub returns-clause-carries : goal.returns-clause-carries
returns-clause-carries c =
    let mid : Reach =
    record {
      windows = c.args.self.now.windows;
      leads = c.add.new.self;
      held = c.args.self.now.held;
      back = record { bases = c.add-2.new.self; holders = c.args.self.now.back.holders };
      drawn = c.args.self.now.drawn;
      spread = c.args.self.now.spread;
    } in
    let read : Settles mid c.follow.new.self → Carries c.args.self.now c.follow.new.self c.args.base c.args.key =
    λ s. record {
      windows = s.windows;
      held = s.held;
      drawn = s.drawn;
      leads = λ b k. ap (λ (h : Holdings Key). is_carried h b k) s.leads ∙ added_bytes c.add.new.self
          c.args.self.now.leads c.args.base c.args.key c.in_ok-add.ensures b k;
    } in
    on_ok c.follow.result _ _ read c.follow.ensures.settles

pub returns-clause-tells : goal.returns-clause-tells
returns-clause-tells c =
    if_ok c.follow.result _ _
    (λ stays judged. carried_tells c.args.self.now c.follow.new.self c.add.new.self c.add-2.new.self c.args.base
    c.args.key c.of-early.result stays
    (added_bytes c.add.new.self c.args.self.now.leads c.args.base c.args.key c.in_ok-add.ensures)
    (added_bytes c.add-2.new.self c.args.self.now.back.bases c.args.key c.args.base c.in_ok-add-2.ensures)
    c.of-early.ensures judged) c.follow.ensures.judged
