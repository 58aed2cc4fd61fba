use Rattle.std.proofs.Common.{ℕ, List, ◌∷◌, [], inl, inr, ap, sym, ◌∙◌}
use Rattle.zb_base.specs.declared.key.Key.{Key}
use Rattle.zb_audit_lockout.specs.Reading.{is_late}
use Rattle.zb_trace_watch.specs.Sets.{is_among}
use Rattle.zb_trace_watch.proofs.Truth.{among_append, among_end, or_left}
use Rattle.zb_audit_lockout.proofs.reach.Reach.sift.Goals as goal

pub returns-in_ok-push-clause-kept : goal.returns-in_ok-push-clause-kept
returns-in_ok-push-clause-kept c = λ k there.
    ap (λ (l : List Key). is_among l k) c.in_ok-push.ensures.items
    ∙ (among_append c.args.late.now.items (c.args.key ∷ []) k ∙ or_left _ _ there)

pub returns-in_ok-push-clause-sifted : goal.returns-in_ok-push-clause-sifted
returns-in_ok-push-clause-sifted c =
    inl
    (ap (λ (l : List Key). is_among l c.args.key.0) c.in_ok-push.ensures.items
    ∙ among_end c.args.late.now.items c.args.key)

pub returns-else-is_late-clause-sifted : goal.returns-else-is_late-clause-sifted
returns-else-is_late-clause-sifted c =
    inr
    (sym (c.is_late.ensures
    ∙ ap (λ (n : ℕ). is_late c.args.self.now.drawn n c.args.key.0) c.of-early.ensures)
    ∙ c.if-is_late.false)
