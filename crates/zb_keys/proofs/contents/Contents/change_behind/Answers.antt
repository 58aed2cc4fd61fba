use Rattle.std.proofs.Common.{◌≡◌, ◌∙◌, sym, ap, subst, true}
use Rattle.zb_node_types.specs.Changes.{edit}
use Rattle.zb_model.specs.State.{shown}
use Rattle.zb_keys.specs.Tables.{state_of}
use Rattle.zb_record.specs.declared.version.Version.{Version}
use Rattle.zb_record.specs.declared.version.Version.TheVariants.{Second, Third}
use Rattle.zb_record.specs.Redoing.{fits_behind, applied_behind}
use Rattle.zb_record.proofs.First.{behind_shown}
use Rattle.zb_keys.proofs.contents.Contents.change_behind.Goals as goal

pub change_first-requires-clause-fits : goal.change_first-requires-clause-fits
unfolding fits_behind
change_first-requires-clause-fits c =
    subst (λ (v : Version). fits_behind v (edit c.args.change.now) (state_of c.args.self.now) ≡ true) c.in-First.is
    c.requires.fits

pub change-requires-clause-rules : goal.change-requires-clause-rules
unfolding applied_behind
change-requires-clause-rules c =
    let fit = subst (λ (v : Version). fits_behind v (edit c.args.change.now) (state_of c.args.self.now) ≡ true)
    c.in-Second.is c.requires.fits in
    behind_shown Second (edit c.args.change.now) (state_of c.args.self.now) c.requires.sound.rules fit

pub change-requires-in-Third-clause-rules : goal.change-requires-in-Third-clause-rules
unfolding applied_behind
change-requires-in-Third-clause-rules c =
    let fit = subst (λ (v : Version). fits_behind v (edit c.args.change.now) (state_of c.args.self.now) ≡ true)
    c.in-Third.is c.requires.fits in
    behind_shown Third (edit c.args.change.now) (state_of c.args.self.now) c.requires.sound.rules fit

pub returns-in-First-clause-state : goal.returns-in-First-clause-state
unfolding applied_behind
returns-in-First-clause-state c =
    c.change_first.ensures.state ∙ ap
    (λ (v : Version). shown (applied_behind v (edit c.args.change.now) (state_of c.args.self.now))) (sym c.in-First.is)

pub returns-in-Second-clause-state : goal.returns-in-Second-clause-state
unfolding applied_behind
returns-in-Second-clause-state c =
    c.change.ensures.state ∙ ap
    (λ (v : Version). shown (applied_behind v (edit c.args.change.now) (state_of c.args.self.now)))
    (sym c.in-Second.is)

pub returns-in-Third-clause-state : goal.returns-in-Third-clause-state
unfolding applied_behind
returns-in-Third-clause-state c =
    c.change-in-Third.ensures.state ∙ ap
    (λ (v : Version). shown (applied_behind v (edit c.args.change.now) (state_of c.args.self.now))) (sym c.in-Third.is)
