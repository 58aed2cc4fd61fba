-- How the refusals of tables are printed.
use Rattle.std.specs.Prelude.{List, ℕ, ◌++◌, codes, decimal}
use Rattle.zb_node_types.specs.declared.fault.KeyError.{KeyError}
use Rattle.zb_node_types.specs.declared.fault.KeyError.TheVariants.{KeyOld, KeysFull, RowsFull, KeyInUse, NoRow, WrongHash, BadRecord}

abbrev pub key_error_text : KeyError → List ℕ
key_error_text (KeyOld at) = codes "the network key was dropped, at place " ++ decimal at
key_error_text KeysFull = codes "no room for another network key"
key_error_text RowsFull = codes "no room for another row"
key_error_text (KeyInUse partner) = codes "another partner has the key"
key_error_text NoRow = codes "no such row"
key_error_text WrongHash = codes "the hash is of no key"
key_error_text (BadRecord at) = codes "no record, at byte " ++ decimal at
