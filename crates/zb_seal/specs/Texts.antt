-- How a refusal to open a frame is printed.
use Rattle.std.specs.Prelude.{List, ℕ, codes}
use Rattle.zb_seal.specs.declared.envelope.OpenError.{OpenError}
use Rattle.zb_seal.specs.declared.envelope.OpenError.TheVariants.{Frame, NotSecured, NoSource, BadMic}

abbrev pub fault_text : OpenError → List ℕ
fault_text (Frame nwk aps) = codes "no frame"
fault_text NotSecured = codes "the frame is not secured"
fault_text NoSource = codes "the source of the frame is not known"
fault_text BadMic = codes "the MIC of the frame is wrong"
