use Rattle.std.proofs.Common.{◌∙◌, ◌++◌, ap, refl}
use Rattle.std.specs.Prelude.{is_some}
use Rattle.zb_live.specs.Alive.{living_of}
use Rattle.zb_live.specs.Living.{refused}
use Rattle.zb_live.specs.Answers.{ok_text}
use Rattle.zb_live.specs.Questions.{question_text}
use Rattle.zb_live.specs.declared.cause.Cause.TheVariants as cause
use Rattle.zb_model.specs.State.{NodeState}
use Rattle.zb_live.proofs.SessionLemmas.{on_ok, said_closed, said_up}
use Rattle.zb_live.proofs.session.Session.take_question.Goals as goal

pub returns-in-Some-clause-said : goal.returns-in-Some-clause-said
returns-in-Some-clause-said c =
    let q = c.args.question in
    let s = c.in-Some.host.core.tables in
    on_ok c.show.result
    (λ t. said_up c.args.number _ c.args.self.now c.args.page.now.items _ c.in-Some.host
    (record { text = question_text q s ++ ok_text c.args.number; after = living_of c.args.self.now }) c.in-Some.is
    (λ found. refl)
    (t ∙ ap (λ (s : NodeState). c.args.page.now.items ++ (question_text q s ++ ok_text c.args.number))
    c.centre_tables.ensures) refl) c.show.ensures.text

pub returns-in-None-clause-said : goal.returns-in-None-clause-said
returns-in-None-clause-said c =
    on_ok c.refuse.result
    (λ t. said_closed c.args.number _ c.args.self.now c.args.self.now c.args.page.now.items _
    (refused c.args.number cause.Closed (living_of c.args.self.now)) (ap is_some c.in-None.is) (λ found. refl) t
    refl refl) c.refuse.ensures.text
