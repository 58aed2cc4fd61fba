use Rattle.std.proofs.Common.{ap, refl, ◌∙◌}
use Rattle.zb_sched.specs.Reading.{finished}
use Rattle.zb_sched.proofs.Finished.{is_schedule}
use Rattle.zb_sched.proofs.ReadLemmas.{nodes_of}
use Rattle.zb_sched.proofs.draft.Draft.finish.Goals as goal

pub returns-clause-schedule : goal.returns-clause-schedule
returns-clause-schedule c =
    rw (
      c.from_vec.ensures,
      c.from_vec-2.ensures,
      c.from_vec-3.ensures,
      c.in_ok-nodes.ensures,
      c.into_keys-keys.ensures,
      nodes_of c.self.inside.entries.items,
    ) refl
    ∙ ap finished c.self.view_is

pub returns-clause-valid : goal.returns-clause-valid
returns-clause-valid c = λ keeps centre. is_schedule c.args.self _ (returns-clause-schedule c) keeps centre
