-- How a fault of an APS frame is printed.
use Rattle.std.specs.Prelude.{List, ℕ, ◌++◌, codes, decimal}
use Rattle.zb_aps.specs.declared.fault.ApsError.{ApsError}
use Rattle.zb_aps.specs.declared.fault.ApsError.TheVariants.{TooLong, Short, FrameType, Delivery, KeyId}

abbrev pub fault_text : ApsError → List ℕ
fault_text TooLong = codes "an APS frame has at most 127 bytes"
fault_text (Short place) = codes "the APS frame is cut at byte " ++ decimal place
fault_text (FrameType found) = codes "no APS frame type " ++ decimal found
fault_text (Delivery found) = codes "no APS delivery mode " ++ decimal found
fault_text (KeyId found) = codes "key identifier " ++ decimal found ++ codes " at APS"
