-- How a fault of a player is printed.
use Rattle.std.specs.Prelude.{List, ℕ, codes}
use Rattle.zb_player.specs.declared.fault.PlayFault.{PlayFault}
use Rattle.zb_player.specs.declared.fault.PlayFault.TheVariants.{Write, NoMemory}

abbrev pub fault_text : PlayFault → List ℕ
fault_text Write = codes "the transcript can't be written"
fault_text NoMemory = codes "no memory"
