use Rattle.law_real_recovery.proofs.ArrivingCommands.{delivers_commands}
use Rattle.law_real_recovery.proofs.real_frames_deliver_commands.Goals as goal

pub returns : goal.returns
returns c = delivers_commands
