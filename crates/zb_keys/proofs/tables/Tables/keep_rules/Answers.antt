use Rattle.std.proofs.Common.{◌≡◌, subst}
use Rattle.zb_model.specs.State.{shown}
use Rattle.zb_keys.specs.Tables.{state_of}
use Rattle.zb_keys.proofs.ApplyLemmas.{shown_is}
use Rattle.zb_keys.proofs.tables.Tables.keep_rules.Goals as goal

pub returns-clause-forgets : goal.returns-clause-forgets
returns-clause-forgets c =
    subst (λ s. shown s ≡ s) c.self.view_is (shown_is (state_of c.self.inside.contents) c.self.invariant.forgets)
