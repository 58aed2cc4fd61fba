-- How a fault of a command is printed.
use Rattle.std.specs.Prelude.{List, ℕ, ◌++◌, codes, decimal}
use Rattle.zb_cmd.specs.declared.fault.CmdError.{CmdError}
use Rattle.zb_cmd.specs.declared.fault.CmdError.TheVariants.{Unknown, KeyType, Short, Trailing}

abbrev pub fault_text : CmdError → List ℕ
fault_text (Unknown id) = codes "no command " ++ decimal id
fault_text (KeyType found) = codes "no key type " ++ decimal found
fault_text (Short place) = codes "the command is cut at byte " ++ decimal place
fault_text (Trailing count) = decimal count ++ codes " bytes behind the command"
