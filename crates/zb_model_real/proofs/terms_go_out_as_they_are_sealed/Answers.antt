-- A term or command, made the model's and back, is itself.
use Rattle.zb_model_real.proofs.SameTerms.{same_wire, same_key, same_spelling}
use Rattle.zb_model_real.proofs.terms_go_out_as_they_are_sealed.Goals as goal

pub returns-clause-wire : goal.returns-clause-wire
returns-clause-wire c = same_wire

pub returns-clause-keys : goal.returns-clause-keys
returns-clause-keys c = same_key

pub returns-clause-commands : goal.returns-clause-commands
returns-clause-commands c = same_spelling
