-- Each live verified row of the centre is stored before a group's seals, and a Confirm-Key names one of these rows.
use Rattle.law_run.proofs.ConfirmsRuns.{confirms}
use Rattle.law_run.proofs.only_stored_keys_are_confirmed.Goals as goal

pub returns : goal.returns
returns c = confirms
