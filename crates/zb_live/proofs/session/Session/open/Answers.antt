use Rattle.std.proofs.Common.{◌∙◌, None, Some, refl, sym}
use Rattle.zb_centre_store.specs.declared.fault.AdminFault.TheVariants.{Disk}
use Rattle.zb_centre_store.proofs.StoreLemmas.{same_fault}
use Rattle.zb_disk.proofs.Moments.{still_refl}
use Rattle.zb_live.specs.Alive.{living_of}
use Rattle.zb_live.specs.Living.{refused}
use Rattle.zb_live.specs.declared.cause.Cause.TheVariants as cause
use Rattle.zb_setting.specs.Settings.{setting_for}
use Rattle.zb_live.proofs.SessionLemmas.{always, on_ok, opened_follows, opened_some, said, said_closed, said_follows, said_open, setting_is, short_fault}
use Rattle.zb_live.proofs.session.Session.open.Goals as goal

pub returns-then-is_open-clause-taken : goal.returns-then-is_open-clause-taken
returns-then-is_open-clause-taken g c = λ told found alive.
    said c.args.number _ found c.args.self.now c.args.self.now (g.D.Disk.state c.args.disk.now) c.args.page.now.items
    _ c.refuse.result
    (on_ok c.refuse.result
    (λ t. said_open c.args.number _ c.args.self.now c.args.page.now.items _ cause.Opened
    (sym c.is_open.ensures ∙ c.if-is_open.true) (λ found s. refl) t) c.refuse.ensures.text)
    alive (g.met.D.Disk.only_now c.args.disk.now)

pub returns-then-is_open-clause-store : goal.returns-then-is_open-clause-store
returns-then-is_open-clause-store g c = always c.refuse.result c.requires

pub returns-then-is_open-clause-waits : goal.returns-then-is_open-clause-waits
returns-then-is_open-clause-waits g c =
    always c.refuse.result (λ none. (none, still_refl (g.D.Disk.state c.args.disk.now)))

pub returns-then-is_open-clause-faults : goal.returns-then-is_open-clause-faults
returns-then-is_open-clause-faults g c = short_fault g.D.Disk.tells _ c.args.self.now (g.D.Disk.state c.args.disk.now)
    c.refuse.result c.refuse.ensures.short

pub returns-then-not-has_centre-clause-taken : goal.returns-then-not-has_centre-clause-taken
returns-then-not-has_centre-clause-taken g c = λ told found alive.
    said c.args.number _ found c.args.self.now c.args.self.now (g.D.Disk.state c.args.disk.now) c.args.page.now.items
    _ c.refuse-then-not-has_centre.result
    (on_ok c.refuse-then-not-has_centre.result
    (λ t. said_closed c.args.number _ c.args.self.now c.args.self.now c.args.page.now.items _
    (refused c.args.number cause.NoCentre (living_of c.args.self.now))
    (sym c.is_open.ensures ∙ c.if-is_open.false)
    (λ found. rw (sym c.has_centre.ensures ∙ c.if-not-has_centre.true) refl) t refl refl)
    c.refuse-then-not-has_centre.ensures.text)
    alive (g.met.D.Disk.only_now c.args.disk.now)

pub returns-then-not-has_centre-clause-store : goal.returns-then-not-has_centre-clause-store
returns-then-not-has_centre-clause-store g c = always c.refuse-then-not-has_centre.result c.requires

pub returns-then-not-has_centre-clause-waits : goal.returns-then-not-has_centre-clause-waits
returns-then-not-has_centre-clause-waits g c = always c.refuse-then-not-has_centre.result
    (λ none. (none, still_refl (g.D.Disk.state c.args.disk.now)))

pub returns-then-not-has_centre-clause-faults : goal.returns-then-not-has_centre-clause-faults
returns-then-not-has_centre-clause-faults g c = short_fault g.D.Disk.tells _ c.args.self.now
    (g.D.Disk.state c.args.disk.now) c.refuse-then-not-has_centre.result c.refuse-then-not-has_centre.ensures.short

pub returns-in-Ok-Some-clause-taken : goal.returns-in-Ok-Some-clause-taken
returns-in-Ok-Some-clause-taken g c = λ told found alive.
    let judged = rw c.in-Ok-Some.field-0-is at c.in-Ok-Some.ensures.judged in
    opened_some c.args.number found c.args.self.now _ g.D.Disk.tells told (setting_for c.config.result.now)
    (sym c.is_open.ensures ∙ c.if-is_open.false) (sym c.has_centre.ensures ∙ c.if-not-has_centre.false)
    (g.D.Disk.state c.args.disk.now) (g.D.Disk.state c.judge.new.disk) alive c.args.page.now.items _ c.in-Ok-Some.host
    c.confirm.result
    (setting_is c.config.result.now c.args.self.now.network _ c.config.ensures.network c.config.ensures.me) judged
    refl c.confirm.ensures.text

pub returns-in-Ok-Some-clause-unrisen : goal.returns-in-Ok-Some-clause-unrisen
returns-in-Ok-Some-clause-unrisen g c = λ not. c.in-Ok-Some.ensures.judged.unrisen (λ is. cc is)

pub returns-in-Ok-None-clause-unrisen : goal.returns-in-Ok-None-clause-unrisen
returns-in-Ok-None-clause-unrisen g c = λ not. c.in-Ok-None.ensures.judged.unrisen (λ is. cc is)

pub returns-in-Err-clause-unrisen : goal.returns-in-Err-clause-unrisen
returns-in-Err-clause-unrisen g c = λ not. c.in-Err.ensures.judged.unrisen (same_fault c.in-Err.fault Disk not)

pub returns-in-Ok-Some-clause-store : goal.returns-in-Ok-Some-clause-store
returns-in-Ok-Some-clause-store g c =
    let judged = rw c.in-Ok-Some.field-0-is at c.in-Ok-Some.ensures.judged in
    let set = rw c.in-Ok-Some.field-0-is at c.in-Ok-Some.ensures.configured in
    always c.confirm.result (
      judged.store,
      sym c.has_centre.ensures ∙ c.if-not-has_centre.false,
      set
          ∙ sym
          (setting_is c.config.result.now c.args.self.now.network _ c.config.ensures.network c.config.ensures.me),
    )

pub returns-then-is_open-clause-follows : goal.returns-then-is_open-clause-follows
returns-then-is_open-clause-follows g c =
    said_follows c.args.number _ c.args.self.now c.args.self.now c.args.page.now.items _ c.refuse.result
    (on_ok c.refuse.result
    (λ t. said_open c.args.number _ c.args.self.now c.args.page.now.items _ cause.Opened
    (sym c.is_open.ensures ∙ c.if-is_open.true) (λ found s. refl) t) c.refuse.ensures.text)

pub returns-then-not-has_centre-clause-follows : goal.returns-then-not-has_centre-clause-follows
returns-then-not-has_centre-clause-follows g c =
    said_follows c.args.number _ c.args.self.now c.args.self.now c.args.page.now.items _
    c.refuse-then-not-has_centre.result
    (on_ok c.refuse-then-not-has_centre.result
    (λ t. said_closed c.args.number _ c.args.self.now c.args.self.now c.args.page.now.items _
    (refused c.args.number cause.NoCentre (living_of c.args.self.now))
    (sym c.is_open.ensures ∙ c.if-is_open.false)
    (λ found. rw (sym c.has_centre.ensures ∙ c.if-not-has_centre.true) refl) t refl refl)
    c.refuse-then-not-has_centre.ensures.text)

pub returns-in-Ok-Some-clause-follows : goal.returns-in-Ok-Some-clause-follows
returns-in-Ok-Some-clause-follows g c =
    opened_follows c.args.number c.args.self.now _ c.args.page.now.items _ (Some c.in-Ok-Some.host.core.tables) _
    c.confirm.result (sym c.is_open.ensures ∙ c.if-is_open.false)
    (sym c.has_centre.ensures ∙ c.if-not-has_centre.false) refl c.confirm.ensures.text refl

pub returns-in-Ok-None-clause-follows : goal.returns-in-Ok-None-clause-follows
returns-in-Ok-None-clause-follows g c =
    opened_follows c.args.number c.args.self.now c.args.self.now c.args.page.now.items _ None _
    c.refuse-in-Ok-None.result (sym c.is_open.ensures ∙ c.if-is_open.false)
    (sym c.has_centre.ensures ∙ c.if-not-has_centre.false) refl c.refuse-in-Ok-None.ensures.text refl
