use Rattle.std.proofs.Common.{ap, not, sym, ◌∙◌, Ok}
use Rattle.zb_sched_line.specs.Places.{own_event_of}
use Rattle.zb_sched_line.specs.Fits.{FitsEvent}
use Rattle.zb_sched_line.specs.Views.{event_of}
use Rattle.zb_sched_line.specs.declared.event.Event.TheVariants.{Roll}
use Rattle.zb_sched.specs.Drafts.{seen_so_far}
use Rattle.zb_sched.specs.Judge.{Seen}
use Rattle.zb_sched.specs.Reading.{after_line}
use Rattle.zb_sched.proofs.OwnLemmas.{was_read, has_fit, placed, seen_last, with_last, has_room, clash_of, nodes_of_last, own_taken, own_keeps}
use Rattle.zb_sched.proofs.draft.Draft.take_own_event.Goals as goal

pub returns-clause-exact : goal.returns-clause-exact
returns-clause-exact c =
    let events = c.self.inside.events.items in
    let e = c.read_own_event.new.event in
    let before = seen_so_far c.self.inside.entries.items c.self.inside.draws events in
    let some = c.is_none.ensures ∙ ap not c.if-is_none.false in
    let own = was_read c.read_own_event.result e (own_event_of c.args.text.now) some c.read_own_event.ensures.value in
    let at = c.len-last.ensures ∙ c.self.inside.events.ok.0 in
    let same = seen_last events c.push.new.self.items c.len-last.result Roll e _ c.index-event.result.now
    c.in_ok-push.ensures.items at c.index-event.ensures in
    let last = placed events c.push.new.self.items c.len-last.result Roll e c.in_ok-push.ensures.items at in
    let view = with_last _ c.self.inside.draws events _ e last in
    ap (λ (s : Seen). after_line s c.args.text.now) (sym c.self.view_is)
    ∙ own_taken before c.args.text.now (event_of e) own
    (clash_of _ _ c.index-event.result.now e _ _ c.provision_clashes.ensures same view c.if-provision_clashes.false)
    (nodes_of_last _ _ c.index-event.result.now e _ c.has_nodes_of.ensures same c.if-not-has_nodes_of.false)
    (has_room events c.len-last.result at c.if-last-ge-MOST_EVENTS.false)
    ∙ ap Ok (sym view)

pub returns-clause-kept : goal.returns-clause-kept
returns-clause-kept c =
    let e = c.read_own_event.new.event in
    let some = c.is_none.ensures ∙ ap not c.if-is_none.false in
    own_keeps c.args.self.now _ c.args.text.now (event_of e)
    (was_read c.read_own_event.result e (own_event_of c.args.text.now) some c.read_own_event.ensures.value)
    (has_fit c.read_own_event.result (FitsEvent (event_of e)) some c.read_own_event.ensures.fits)
    (returns-clause-exact c)
