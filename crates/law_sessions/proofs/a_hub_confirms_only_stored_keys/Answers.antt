-- Of real frames and commands.
use Rattle.law_sessions.proofs.LogClaims.{log_confirms}
use Rattle.law_sessions.proofs.a_hub_confirms_only_stored_keys.Goals as goal

pub returns : goal.returns
returns c = log_confirms c.only_confirmations_read_as_such.ensures
