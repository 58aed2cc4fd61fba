-- The result of `say`, once it is known whether the node may send.
use Rattle.std.specs.Prelude.{ℕ, List, [], Option, Some, Result, Ok, Err, true}
use Rattle.zb_model.specs.Data.{Bytes, Edit, Reason}
use Rattle.zb_model.specs.Rules.{Saying, Sending}
use Rattle.zb_node_types.specs.declared.refusal.Refusal.{Refusal}
use Rattle.zb_node_types.specs.Changes.{reason}

abbrev pub said : Result Unit Refusal → ℕ → Bytes → Result (List Edit × Option Sending) Reason
said (Err refusal) to bytes = Err (reason refusal)
said (Ok done) to bytes = Ok ([], Some (record { to = to; secured = true; body = Saying bytes }))
