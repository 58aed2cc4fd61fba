use Rattle.std.proofs.Common.{inl, inr, refl, sym, ◌∙◌, nat_eq}
use Rattle.zb_base.specs.declared.address.Eui.{Eui}
use Rattle.zb_audit_lockout.proofs.back.Back.hold.Goals as goal
use Rattle.zb_trace_watch.proofs.Alike.{bytes_alike}
use Rattle.zb_trace_watch.proofs.Truth.{both, itself, itself_number, or_left, or_right}

pub returns-then-has : goal.returns-then-has
returns-then-has c = record {
  bases = refl;
  kept = λ k e there. there;
  noted = inl (sym c.has.ensures ∙ c.if-has.true);
}

pub returns-in_ok-add : goal.returns-in_ok-add
returns-in_ok-add c = record {
  bases = refl;
  kept = λ k e there. c.in_ok-add.ensures (λ (x : Eui). nat_eq e x.0) (record { 0 = k }) ∙ or_left _ _ there;
  noted = inr
      (c.in_ok-add.ensures (λ (x : Eui). nat_eq c.args.device.0 x.0) c.args.key
      ∙ or_right _ _
      (both _ _ (bytes_alike c.args.key.0 c.args.key.0 ∙ itself c.args.key.0) (itself_number c.args.device.0)));
}
