use Rattle.std.proofs.Common.{ap, ◌∙◌}
use Rattle.zb_audit_names.proofs.Entries.{if_ok, on_ok}
use Rattle.zb_base.specs.declared.address.Eui.{Eui}
use Rattle.zb_audit_lockout.specs.Standing.{CameToHold, Settles}
use Rattle.zb_audit_lockout.specs.declared.reach.Reach.{Reach}
use Rattle.zb_audit_lockout.proofs.Telling.{held_tells}
use Rattle.std.proofs.Common.{ℕ, bytes_eq, nat_eq, ◌&&◌}
use Rattle.zb_model.specs.Data.{Bytes}
use Rattle.zb_trace_watch.specs.Sets.{node_has}
use Rattle.zb_trace_watch.specs.declared.holdings.Holdings.{Holdings}
use Rattle.zb_trace_watch.proofs.Owners.{added_number}
use Rattle.zb_audit_lockout.proofs.reach.Reach.hold_one.Goals as goal

pub returns-clause-holds : goal.returns-clause-holds
returns-clause-holds c =
    let mid : Reach =
    record {
      windows = c.args.self.now.windows;
      leads = c.args.self.now.leads;
      held = c.add.new.self;
      back = c.hold.new.self;
      drawn = c.args.self.now.drawn;
      spread = c.args.self.now.spread;
    } in
    let read : Settles mid c.follow.new.self → CameToHold c.args.self.now c.follow.new.self
    (λ (d : ℕ) (k : Bytes). nat_eq d c.args.device.0 && bytes_eq k c.args.key.0) =
    λ s. record {
      windows = s.windows;
      leads = s.leads;
      drawn = s.drawn;
      held = λ d k. ap (λ (h : Holdings Eui). node_has h d k) s.held ∙ added_number c.add.new.self
          c.args.self.now.held c.args.device c.args.key c.in_ok-add.ensures d k;
    } in
    on_ok c.follow.result _ _ read c.follow.ensures.settles

pub returns-clause-tells : goal.returns-clause-tells
returns-clause-tells c =
    if_ok c.follow.result _ _
    (λ stays judged. held_tells c.args.self.now c.follow.new.self c.add.new.self c.hold.new.self c.args.device
    c.args.key c.of-early.result stays
    (added_number c.add.new.self c.args.self.now.held c.args.device c.args.key c.in_ok-add.ensures)
    c.in_ok-hold.ensures
    c.of-early.ensures judged) c.follow.ensures.judged
