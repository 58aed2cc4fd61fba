-- How a fault of a NWK frame is printed.
use Rattle.std.specs.Prelude.{List, ℕ, ◌++◌, codes, decimal}
use Rattle.zb_nwk.specs.declared.fault.NwkError.{NwkError}
use Rattle.zb_nwk.specs.declared.fault.NwkError.TheVariants.{TooLong, Short, FrameType, Version, KeyId, NoSource}

abbrev pub fault_text : NwkError → List ℕ
fault_text TooLong = codes "a NWK frame has at most 127 bytes"
fault_text (Short place) = codes "the NWK frame is cut at byte " ++ decimal place
fault_text (FrameType found) = codes "no NWK frame type " ++ decimal found
fault_text (Version found) = codes "no NWK version " ++ decimal found
fault_text (KeyId found) = codes "key identifier " ++ decimal found ++ codes " at NWK"
fault_text NoSource = codes "no source in the NWK auxiliary header"
