use Rattle.std.proofs.Common.{◌∙◌, sym, refl}
use Rattle.zb_live.specs.Alive.{living_of}
use Rattle.zb_live.specs.Living.{confirmed}
use Rattle.zb_live.specs.declared.cause.Cause.TheVariants as cause
use Rattle.zb_live.proofs.SessionLemmas.{on_ok, said_closed, said_open}
use Rattle.zb_live.proofs.session.Session.choose_log.Goals as goal

pub returns-then-is_open-clause-said : goal.returns-then-is_open-clause-said
returns-then-is_open-clause-said c =
    on_ok c.refuse.result
    (λ t. said_open c.args.number _ c.args.self.now c.args.page.now.items _ cause.Opened
    (sym c.is_open.ensures ∙ c.if-is_open.true) (λ found s. refl) t) c.refuse.ensures.text

pub returns-clause-said : goal.returns-clause-said
returns-clause-said c =
    on_ok c.confirm.result (λ t.
    said_closed c.args.number _ c.args.self.now _ c.args.page.now.items _
    (confirmed c.args.number (record (living_of c.args.self.now) { log = c.args.log }))
    (sym c.is_open.ensures ∙ c.if-is_open.false) (λ found. refl) t refl refl)
    c.confirm.ensures.text
