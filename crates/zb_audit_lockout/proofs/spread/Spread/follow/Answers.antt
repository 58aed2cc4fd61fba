use Rattle.std.proofs.Common.{List, ◌++◌, ◌∷◌, [], ap, ◌∙◌, subst}
use Rattle.zb_base.specs.declared.key.Key.{Key}
use Rattle.zb_audit_lockout.specs.Raising.{Raises}
use Rattle.zb_audit_lockout.proofs.spread.Spread.follow.Goals as goal

pub returns-clause-keys : goal.returns-clause-keys
returns-clause-keys c =
    subst (λ (keys : List Key). Raises c.args.leads.now c.args.self.now.keys c.raise.new.self keys c.args.early
    c.in_ok-raised.raised.items)
    (c.in_ok-push.ensures.items ∙ ap (λ (l : List Key). l ++ c.args.key ∷ []) c.new-keys.ensures.items)
    c.in_ok-raised.ensures
