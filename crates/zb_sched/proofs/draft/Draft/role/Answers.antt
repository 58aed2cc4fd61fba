use Rattle.std.proofs.Common.{◌∙◌, ap, map, subst, sym, List}
use Rattle.zb_sched.specs.Drafts.{seat_of, role_among, AreNamedApart}
use Rattle.zb_sched.specs.Judge.{Seen, role_named}
use Rattle.zb_sched.specs.declared.entry.Entry.{Entry}
use Rattle.zb_sched.proofs.DraftLemmas.{role_seats}
use Rattle.zb_sched.proofs.draft.Draft.role.Goals as goal

pub returns : goal.returns
returns c =
    c.role_near.ensures
    (subst (λ (es : List Entry). AreNamedApart (map seat_of es)) (sym c.as_slice.ensures.value) c.self.invariant.1)
    ∙ ap (λ (es : List Entry). role_among c.args.name.now.bytes es) c.as_slice.ensures.value
    ∙ role_seats c.args.name.now.bytes c.self.inside.entries.items ∙ ap
    (λ (s : Seen). role_named c.args.name.now.bytes s.seats) c.self.view_is
