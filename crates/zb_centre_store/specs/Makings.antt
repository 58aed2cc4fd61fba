-- The tables with which a centre's store is made.
use Rattle.std.specs.Prelude.{ℕ, Some, None, Result, Ok, Err}
use Rattle.zb_keys.specs.Declarations.{first_state}
use Rattle.zb_model.specs.Data.{Bytes, Centre}
use Rattle.zb_model.specs.State.{NodeState, new_node}

-- a centre with this network key, of sequence 0, and nothing else
abbrev pub first_tables : Bytes → NodeState
first_tables key = first_state Centre (Some (key, 0)) None 0 0

-- the tables of a record
abbrev pub tables_of : Result NodeState ℕ → NodeState
tables_of (Ok s) = s
tables_of (Err place) = new_node Centre
