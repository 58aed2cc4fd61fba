use Rattle.std.proofs.Common.{◌≡◌, ◌∙◌, rules, Bool, Option, Some, Err, OnOk, ap, refl, subst, sym}
use Rattle.std.specs.Prelude.{if◌then◌else◌}
use Rattle.zb_centre_store.specs.Events.{task_of}
use Rattle.zb_centre_store.specs.declared.fault.AdminFault.TheVariants.{Disk}
use Rattle.zb_centre_store.proofs.StoreLemmas.{same_fault}
use Rattle.zb_host.specs.Hosts.{Hosted}
use Rattle.zb_live.specs.Alive.{CanServe, HasFollowed, done_by, living_of}
use Rattle.zb_live.specs.Living.{happened, refused, setting_of}
use Rattle.zb_live.specs.declared.session.Session.{Session}
use Rattle.zb_live.specs.Said.{Happens}
use Rattle.zb_script.specs.Resolving.{said_of}
use Rattle.zb_model.specs.Rules.{Setting}
use Rattle.zb_stored_tables.specs.Cores.{CoreValue}
use Rattle.zb_live.proofs.SessionLemmas.{event_done, event_follows, event_stores, happening_fault, on_ok, said_follows, said_up, up_here}
use Rattle.zb_live.proofs.session.Session.take_event.Goals.{then-sends, else-sends}
use Rattle.zb_live.proofs.session.Session.take_event.Goals as goal

pub returns-in_err-sends-in-Ok-clause-faults : goal.returns-in_err-sends-in-Ok-clause-faults
returns-in_err-sends-in-Ok-clause-faults g c =
    let old = c.args.self.now in
    let host = c.in-Some.host in
    let can = subst (CanServe old.network) c.in-Some.is c.requires in
    let stores = event_stores old (said_of c.args.event) (task_of c.in-Ok.event) host c.in_err-sends-in-Ok.field-0.0
    c.in-Some.is c.in-Ok.ensures can.2 c.in_err-sends-in-Ok.ensures.worn in
    let fault = happening_fault g.D.Disk.tells (Some (Happens (said_of c.args.event))) old
    (g.D.Disk.state c.args.disk.now) (g.D.Disk.state c.happen.new.disk) host c.in_err-sends-in-Ok.field-0.0
    c.in-Some.is c.in_err-sends-in-Ok.ensures.faults stores in
    search (rules, fault)

pub returns-after-sends-clause-taken : goal.returns-after-sends-clause-taken
returns-after-sends-clause-taken g c = λ told found alive.
    let old = c.args.self.now in
    let host = c.in-Some.host in
    let host2 = c.happen.new.host in
    let before = g.D.Disk.state c.args.disk.now in
    let after = g.D.Disk.state c.happen.new.disk in
    let next : Bool → Session =
    λ b. record {
      lines = old.lines;
      log = old.log;
      network = old.network;
      centre = Some host2;
      events = c.next_number-next_event.result;
      frames = if b then c.next_number-next_frame.result else old.frames;
    } in
    let up = up_here c.args.number found old (said_of c.args.event) (task_of c.in-Ok.event) host host2 c.in-Some.is
    c.in-Ok.ensures before after alive in
    let h = c.in_ok-sends-in-Ok.ensures.happened told (setting_of old.network) host.core.tables up
    c.centre_name.ensures.called c.centre_name.ensures.centre in
    event_done c.args.number found old (said_of c.args.event) (task_of c.in-Ok.event) host host2 c.in-Some.is
    c.in-Ok.ensures before after alive
    c.next_number-next_event.result c.next_number-next_frame.result c.if-sends.self c.args.page.now.items
    c.happen.new.page.items _
    c.in_ok-sends-in-Ok.sends c.confirm.result c.next_number-next_event.ensures c.next_number-next_frame.ensures h
    (elim c.if-sends.branch [
      | then-sends w ↦ w.self-is ∙ ap next (sym w.if-sends.true)
      | else-sends w ↦ w.self-is ∙ ap next
          (sym w.if-sends.false)
    ])
    c.confirm.ensures.text

pub returns-after-sends-clause-unrisen : goal.returns-after-sends-clause-unrisen
returns-after-sends-clause-unrisen g c = λ not. c.in_ok-sends-in-Ok.ensures.unrisen (λ is. cc is)

pub returns-in_err-sends-in-Ok-clause-unrisen : goal.returns-in_err-sends-in-Ok-clause-unrisen
returns-in_err-sends-in-Ok-clause-unrisen g c =
    let same : c.from_residual.result ≡ Err c.in_err-sends-in-Ok.field-0.0 = search rules in
    λ not. c.in_err-sends-in-Ok.ensures.unrisen
    (same_fault c.in_err-sends-in-Ok.field-0.0 Disk (λ is. not (same ∙ is)))

pub returns-in-Err-clause-follows : goal.returns-in-Err-clause-follows
returns-in-Err-clause-follows g c =
    let old = c.args.self.now in
    let host = c.in-Some.host in
    let front = c.args.page.now.items in
    subst (λ (o : Option (Hosted CoreValue)). OnOk c.refuse-in-Err.result
    (HasFollowed (λ found. done_by c.args.number found (Happens (said_of c.args.event)) old) front
    (record old { centre = o }) c.refuse-in-Err.new.page.items)) c.in-Some.is
    (said_follows c.args.number (Happens (said_of c.args.event)) old old front _ c.refuse-in-Err.result
    (on_ok c.refuse-in-Err.result
    (λ t. said_up c.args.number _ old front _ host (refused c.args.number c.in-Err.cause (living_of old)) c.in-Some.is
    (λ found. ap (happened c.args.number (living_of old) host.core.tables) c.in-Err.ensures) t refl)
    c.refuse-in-Err.ensures.text))

pub returns-after-sends-clause-follows : goal.returns-after-sends-clause-follows
returns-after-sends-clause-follows g c =
    let old = c.args.self.now in
    let host = c.in-Some.host in
    let host2 = c.happen.new.host in
    let can = subst (CanServe old.network) c.in-Some.is c.requires in
    let next : Bool → Session =
    λ b. record {
      lines = old.lines;
      log = old.log;
      network = old.network;
      centre = Some host2;
      events = c.next_number-next_event.result;
      frames = if b then c.next_number-next_frame.result else old.frames;
    } in
    let h = c.in_ok-sends-in-Ok.ensures.answered (setting_of old.network) host.core.tables
    (ap (λ (x : Setting). let core : CoreValue = record { setting = x; tables = host.core.tables } in core) can.2)
    c.centre_name.ensures.called c.centre_name.ensures.centre in
    event_follows c.args.number old (said_of c.args.event) (task_of c.in-Ok.event) host host2 c.in-Some.is
    c.in-Ok.ensures c.next_number-next_event.result c.next_number-next_frame.result c.if-sends.self
    c.args.page.now.items
    c.happen.new.page.items _ c.in_ok-sends-in-Ok.sends c.confirm.result c.next_number-next_event.ensures
    c.next_number-next_frame.ensures h
    (elim c.if-sends.branch [
      | then-sends w ↦ w.self-is ∙ ap next (sym w.if-sends.true)
      | else-sends w ↦ w.self-is ∙ ap next
          (sym w.if-sends.false)
    ])
    c.confirm.ensures.text
