use Rattle.std.proofs.Common.{◌∙◌, ap, map, subst, sym, List}
use Rattle.std.specs.List.{list_any, AllByRecursion}
use Rattle.zb_sched.specs.Drafts.{seat_of, AreNamedApart, IsLinked}
use Rattle.zb_sched.specs.Judge.{Seat, Seen, is_taken}
use Rattle.zb_sched.specs.declared.entry.Entry.{Entry}
use Rattle.zb_sched.proofs.Lists.{all_append}
use Rattle.zb_sched.proofs.NameLemmas.{more_entries}
use Rattle.zb_sched.proofs.draft.Draft.take_node.Goals as goal

pub invariant_of-self-2 : goal.invariant_of-self-2
invariant_of-self-2 c = (
  subst (λ (es : List Entry). AllByRecursion IsLinked es) (sym c.in_ok-push.ensures.items)
      (all_append IsLinked c.self.inside.entries.items c.new.result c.self.invariant.0 c.new.ensures.linked),
  subst (λ (es : List Entry). AreNamedApart (map seat_of es)) (sym c.in_ok-push.ensures.items)
      (more_entries c.args.peer.name.bytes c.args.peer.eui.0 c.args.peer.short.0 c.self.inside.entries.items
      c.new.result
      (ap (λ (s : Seen). list_any (λ seat. is_taken c.args.peer.name.bytes c.args.peer.eui.0 c.args.peer.short.0 seat)
      s.seats) c.self.view_is
      ∙ sym c.is_taken.ensures ∙ c.if-is_taken.false)
      (ap (λ (s : Seat). s.node.name) c.new.ensures.seat) c.self.invariant.1),
)
