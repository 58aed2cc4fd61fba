use Rattle.std.proofs.Common.{IfErr, Ok, Some, ap, subst, sym}
use Rattle.zb_live.specs.Alive.{HasTaken, IsLineFault, done_by}
use Rattle.zb_live.specs.Views.{sentence_of}
use Rattle.zb_live.specs.declared.line.Line.{Line}
use Rattle.zb_live.proofs.SessionLemmas.{blank_said, follows_of, said, said_can, said_follows, said_taken, said_waits, short_fault}
use Rattle.zb_live.proofs.session.Session.take_line.Goals as goal

pub returns-in-Blank-clause-taken : goal.returns-in-Blank-clause-taken
returns-in-Blank-clause-taken g c = λ told found alive.
    let v = g.D.Disk.state c.args.disk.now in
    let old = c.args.self.now in
    subst (λ (l : Line). HasTaken found old (done_by c.args.number found (sentence_of l) old) v c.args.page.now.items
    (Ok tt) old v c.args.page.now.items) (sym c.in-Blank.is)
    (said_taken c.args.number _ found old old v c.args.page.now.items _
    (blank_said c.args.number old c.args.page.now.items) alive (g.met.D.Disk.only_now c.args.disk.now))

pub returns-in-Centre-clause-taken : goal.returns-in-Centre-clause-taken
returns-in-Centre-clause-taken g c = λ told found alive.
    let v = g.D.Disk.state c.args.disk.now in
    let old = c.args.self.now in
    subst (λ (l : Line). HasTaken found old (done_by c.args.number found (sentence_of l) old) v c.args.page.now.items
    c.take_centre.result c.take_centre.new.self v c.take_centre.new.page.items) (sym c.in-Centre.is)
    (said c.args.number _ found old c.take_centre.new.self v c.args.page.now.items _ c.take_centre.result
    c.take_centre.ensures.said alive (g.met.D.Disk.only_now c.args.disk.now))

pub returns-in-Centre-clause-store : goal.returns-in-Centre-clause-store
returns-in-Centre-clause-store g c = said_can c.args.number _ c.args.self.now c.take_centre.new.self
    c.args.page.now.items _ c.take_centre.result c.take_centre.ensures.said c.requires.store

pub returns-in-Centre-clause-waits : goal.returns-in-Centre-clause-waits
returns-in-Centre-clause-waits g c = said_waits c.args.number _ c.args.self.now c.take_centre.new.self
    c.args.page.now.items _ (g.D.Disk.state c.args.disk.now) c.take_centre.result c.take_centre.ensures.said

pub returns-in-Centre-clause-faults : goal.returns-in-Centre-clause-faults
returns-in-Centre-clause-faults g c = short_fault g.D.Disk.tells _ c.args.self.now (g.D.Disk.state c.args.disk.now)
    c.take_centre.result c.take_centre.ensures.short

pub returns-in-Peer-clause-taken : goal.returns-in-Peer-clause-taken
returns-in-Peer-clause-taken g c = λ told found alive.
    let v = g.D.Disk.state c.args.disk.now in
    let old = c.args.self.now in
    subst (λ (l : Line). HasTaken found old (done_by c.args.number found (sentence_of l) old) v c.args.page.now.items
    c.take_peer.result c.take_peer.new.self v c.take_peer.new.page.items) (sym c.in-Peer.is)
    (said c.args.number _ found old c.take_peer.new.self v c.args.page.now.items _ c.take_peer.result
    c.take_peer.ensures.said alive (g.met.D.Disk.only_now c.args.disk.now))

pub returns-in-Peer-clause-store : goal.returns-in-Peer-clause-store
returns-in-Peer-clause-store g c = said_can c.args.number _ c.args.self.now c.take_peer.new.self c.args.page.now.items
    _ c.take_peer.result c.take_peer.ensures.said c.requires.store

pub returns-in-Peer-clause-waits : goal.returns-in-Peer-clause-waits
returns-in-Peer-clause-waits g c = said_waits c.args.number _ c.args.self.now c.take_peer.new.self
    c.args.page.now.items _ (g.D.Disk.state c.args.disk.now) c.take_peer.result c.take_peer.ensures.said

pub returns-in-Peer-clause-faults : goal.returns-in-Peer-clause-faults
returns-in-Peer-clause-faults g c = short_fault g.D.Disk.tells _ c.args.self.now (g.D.Disk.state c.args.disk.now)
    c.take_peer.result c.take_peer.ensures.short

pub returns-in-Log-clause-taken : goal.returns-in-Log-clause-taken
returns-in-Log-clause-taken g c = λ told found alive.
    let v = g.D.Disk.state c.args.disk.now in
    let old = c.args.self.now in
    subst (λ (l : Line). HasTaken found old (done_by c.args.number found (sentence_of l) old) v c.args.page.now.items
    c.choose_log.result c.choose_log.new.self v c.choose_log.new.page.items) (sym c.in-Log.is)
    (said c.args.number _ found old c.choose_log.new.self v c.args.page.now.items _ c.choose_log.result
    c.choose_log.ensures.said alive (g.met.D.Disk.only_now c.args.disk.now))

pub returns-in-Log-clause-store : goal.returns-in-Log-clause-store
returns-in-Log-clause-store g c = said_can c.args.number _ c.args.self.now c.choose_log.new.self c.args.page.now.items
    _ c.choose_log.result c.choose_log.ensures.said c.requires.store

pub returns-in-Log-clause-waits : goal.returns-in-Log-clause-waits
returns-in-Log-clause-waits g c = said_waits c.args.number _ c.args.self.now c.choose_log.new.self
    c.args.page.now.items _ (g.D.Disk.state c.args.disk.now) c.choose_log.result c.choose_log.ensures.said

pub returns-in-Log-clause-faults : goal.returns-in-Log-clause-faults
returns-in-Log-clause-faults g c = short_fault g.D.Disk.tells _ c.args.self.now (g.D.Disk.state c.args.disk.now)
    c.choose_log.result c.choose_log.ensures.short

pub returns-in-Show-clause-taken : goal.returns-in-Show-clause-taken
returns-in-Show-clause-taken g c = λ told found alive.
    let v = g.D.Disk.state c.args.disk.now in
    let old = c.args.self.now in
    subst (λ (l : Line). HasTaken found old (done_by c.args.number found (sentence_of l) old) v c.args.page.now.items
    c.take_question.result c.args.self.now v c.take_question.new.page.items) (sym c.in-Show.is)
    (said c.args.number _ found old c.args.self.now v c.args.page.now.items _ c.take_question.result
    c.take_question.ensures.said alive
    (g.met.D.Disk.only_now c.args.disk.now))

pub returns-in-Show-clause-store : goal.returns-in-Show-clause-store
returns-in-Show-clause-store g c = said_can c.args.number _ c.args.self.now c.args.self.now c.args.page.now.items _
    c.take_question.result c.take_question.ensures.said c.requires.store

pub returns-in-Show-clause-waits : goal.returns-in-Show-clause-waits
returns-in-Show-clause-waits g c = said_waits c.args.number _ c.args.self.now c.args.self.now c.args.page.now.items _
    (g.D.Disk.state c.args.disk.now) c.take_question.result c.take_question.ensures.said

pub returns-in-Show-clause-faults : goal.returns-in-Show-clause-faults
returns-in-Show-clause-faults g c = short_fault g.D.Disk.tells _ c.args.self.now (g.D.Disk.state c.args.disk.now)
    c.take_question.result c.take_question.ensures.short

pub returns-in-Open-clause-taken : goal.returns-in-Open-clause-taken
returns-in-Open-clause-taken g c = λ told found alive.
    let old = c.args.self.now in
    subst (λ (l : Line). HasTaken found old (done_by c.args.number found (sentence_of l) old)
    (g.D.Disk.state c.args.disk.now) c.args.page.now.items c.open.result c.open.new.self
    (g.D.Disk.state c.open.new.disk) c.open.new.page.items) (sym c.in-Open.is)
    (c.open.ensures.taken told found alive)

pub returns-in-Open-clause-faults : goal.returns-in-Open-clause-faults
returns-in-Open-clause-faults g c =
    subst (λ (l : Line). IfErr c.open.result (IsLineFault g.D.Disk.tells (Some (sentence_of l)) c.args.self.now
    (g.D.Disk.state c.args.disk.now) (g.D.Disk.state c.open.new.disk))) (sym c.in-Open.is) c.open.ensures.faults

pub returns-in-Event-clause-faults : goal.returns-in-Event-clause-faults
returns-in-Event-clause-faults g c =
    subst (λ (l : Line). IfErr c.take_event.result (IsLineFault g.D.Disk.tells (Some (sentence_of l)) c.args.self.now
    (g.D.Disk.state c.args.disk.now) (g.D.Disk.state c.take_event.new.disk))) (sym c.in-Event.is)
    c.take_event.ensures.faults

pub returns-in-Event-clause-taken : goal.returns-in-Event-clause-taken
returns-in-Event-clause-taken g c = λ told found alive.
    let old = c.args.self.now in
    subst (λ (l : Line). HasTaken found old (done_by c.args.number found (sentence_of l) old)
    (g.D.Disk.state c.args.disk.now) c.args.page.now.items c.take_event.result c.take_event.new.self
    (g.D.Disk.state c.take_event.new.disk) c.take_event.new.page.items) (sym c.in-Event.is)
    (c.take_event.ensures.taken told found alive)

pub returns-in-Blank-clause-follows : goal.returns-in-Blank-clause-follows
returns-in-Blank-clause-follows g c =
    let old = c.args.self.now in
    let front = c.args.page.now.items in
    follows_of c.args.number old old front _ (Ok tt) _ _ (ap sentence_of (sym c.in-Blank.is))
    (said_follows c.args.number _ old old front _ (Ok tt) (blank_said c.args.number old front))

pub returns-in-Centre-clause-follows : goal.returns-in-Centre-clause-follows
returns-in-Centre-clause-follows g c =
    let old = c.args.self.now in
    let front = c.args.page.now.items in
    follows_of c.args.number old c.take_centre.new.self front _ c.take_centre.result _ _
    (ap sentence_of (sym c.in-Centre.is))
    (said_follows c.args.number _ old c.take_centre.new.self front _ c.take_centre.result c.take_centre.ensures.said)

pub returns-in-Peer-clause-follows : goal.returns-in-Peer-clause-follows
returns-in-Peer-clause-follows g c =
    let old = c.args.self.now in
    let front = c.args.page.now.items in
    follows_of c.args.number old c.take_peer.new.self front _ c.take_peer.result _ _
    (ap sentence_of (sym c.in-Peer.is))
    (said_follows c.args.number _ old c.take_peer.new.self front _ c.take_peer.result c.take_peer.ensures.said)

pub returns-in-Log-clause-follows : goal.returns-in-Log-clause-follows
returns-in-Log-clause-follows g c =
    let old = c.args.self.now in
    let front = c.args.page.now.items in
    follows_of c.args.number old c.choose_log.new.self front _ c.choose_log.result _ _
    (ap sentence_of (sym c.in-Log.is))
    (said_follows c.args.number _ old c.choose_log.new.self front _ c.choose_log.result c.choose_log.ensures.said)

pub returns-in-Show-clause-follows : goal.returns-in-Show-clause-follows
returns-in-Show-clause-follows g c =
    let old = c.args.self.now in
    let front = c.args.page.now.items in
    follows_of c.args.number old old front _ c.take_question.result _ _
    (ap sentence_of (sym c.in-Show.is))
    (said_follows c.args.number _ old old front _ c.take_question.result c.take_question.ensures.said)

pub returns-in-Open-clause-follows : goal.returns-in-Open-clause-follows
returns-in-Open-clause-follows g c =
    follows_of c.args.number c.args.self.now c.open.new.self c.args.page.now.items _ c.open.result _ _
    (ap sentence_of (sym c.in-Open.is)) c.open.ensures.follows

pub returns-in-Event-clause-follows : goal.returns-in-Event-clause-follows
returns-in-Event-clause-follows g c =
    follows_of c.args.number c.args.self.now c.take_event.new.self c.args.page.now.items _ c.take_event.result _ _
    (ap sentence_of (sym c.in-Event.is)) c.take_event.ensures.follows
