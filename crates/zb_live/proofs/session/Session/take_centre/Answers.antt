use Rattle.std.proofs.Common.{◌∙◌, sym, refl}
use Rattle.zb_live.specs.Alive.{living_of}
use Rattle.zb_live.specs.Living.{declared}
use Rattle.zb_live.specs.declared.cause.Cause.TheVariants as cause
use Rattle.zb_live.proofs.SessionLemmas.{declared_so, on_both, on_ok, said_closed, said_open}
use Rattle.zb_live.proofs.session.Session.take_centre.Goals as goal

pub returns-then-is_open-clause-said : goal.returns-then-is_open-clause-said
returns-then-is_open-clause-said c =
    on_ok c.refuse.result
    (λ t. said_open c.args.number _ c.args.self.now c.args.page.now.items _ cause.Opened
    (sym c.is_open.ensures ∙ c.if-is_open.true) (λ found s. refl) t) c.refuse.ensures.text

pub returns-clause-said : goal.returns-clause-said
returns-clause-said c =
    on_both c.tell_declared.result (λ t is.
    let pair = declared_so c.args.number (living_of c.args.self.now) _ c.take_centre-taken.result _
    c.args.page.now.items _ c.take_centre-taken.ensures.steps c.take_centre-taken.ensures.kept is t in
    said_closed c.args.number _ c.args.self.now _ c.args.page.now.items _
    (declared c.args.number (living_of c.args.self.now) _) (sym c.is_open.ensures ∙ c.if-is_open.false)
    (λ found. refl) pair.0 pair.1 refl)
    c.tell_declared.ensures.text c.tell_declared.ensures.declared
