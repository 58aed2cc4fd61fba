use Rattle.zb_disk.proofs.Moments.{still_refl}
use Rattle.zb_live.specs.Alive.{done_by, living_of}
use Rattle.zb_live.specs.Living.{done}
use Rattle.zb_live.specs.Views.{sentence_of}
use Rattle.zb_live.proofs.SessionLemmas.{always, counted_faults, counted_taken, follows_as, line_is, short_fault, unread_follows, unread_taken}
use Rattle.zb_live.proofs.session.Session.take.Goals as goal

pub returns-in-Some-clause-taken : goal.returns-in-Some-clause-taken
returns-in-Some-clause-taken g c = λ told found alive.
    counted_taken c.next_number-self.result found c.args.self.now _ _ (g.D.Disk.state c.args.disk.now)
    c.args.page.now.items c.take_line.result c.take_line.new.self (g.D.Disk.state c.take_line.new.disk) _
    (line_is found c.args.line.now c.args.self.now c.next_number-self.result (sentence_of c.in-Some.line)
    c.next_number-self.ensures c.in-Some.ensures.value)
    (c.take_line.ensures.taken told found alive)

pub returns-in-Some-clause-faults : goal.returns-in-Some-clause-faults
returns-in-Some-clause-faults g c =
    counted_faults g.D.Disk.tells c.next_number-self.result _ (sentence_of c.in-Some.line) c.args.self.now
    (g.D.Disk.state c.args.disk.now) (g.D.Disk.state c.take_line.new.disk) c.take_line.result
    c.in-Some.ensures.value c.take_line.ensures.faults

pub returns-in-None-clause-taken : goal.returns-in-None-clause-taken
returns-in-None-clause-taken g c = λ told found alive.
    unread_taken c.next_number-self.result found c.args.self.now c.args.line.now (g.D.Disk.state c.args.disk.now)
    c.args.page.now.items _ c.refuse.result c.next_number-self.ensures c.in-None.ensures.value
    c.refuse.ensures.text alive (g.met.D.Disk.only_now c.args.disk.now)

pub returns-in-None-clause-store : goal.returns-in-None-clause-store
returns-in-None-clause-store g c = always c.refuse.result c.requires

pub returns-in-None-clause-waits : goal.returns-in-None-clause-waits
returns-in-None-clause-waits g c = always c.refuse.result (λ none. (none, still_refl (g.D.Disk.state c.args.disk.now)))

pub returns-in-None-clause-faults : goal.returns-in-None-clause-faults
returns-in-None-clause-faults g c = short_fault g.D.Disk.tells _ c.args.self.now (g.D.Disk.state c.args.disk.now)
    c.refuse.result c.refuse.ensures.short

pub returns-in-Some-clause-follows : goal.returns-in-Some-clause-follows
returns-in-Some-clause-follows g c =
    let old = c.args.self.now in
    let n = c.next_number-self.result in
    let sentence = sentence_of c.in-Some.line in
    follows_as (λ found. done_by n found sentence (record old { lines = n }))
    (λ found. done found c.args.line.now (living_of old)) c.args.page.now.items c.take_line.new.self _
    c.take_line.result
    (λ found. line_is found c.args.line.now old n sentence c.next_number-self.ensures c.in-Some.ensures.value)
    c.take_line.ensures.follows

pub returns-in-None-clause-follows : goal.returns-in-None-clause-follows
returns-in-None-clause-follows g c =
    unread_follows c.next_number-self.result c.args.self.now c.args.line.now c.args.page.now.items _ c.refuse.result
    c.next_number-self.ensures c.in-None.ensures.value c.refuse.ensures.text
