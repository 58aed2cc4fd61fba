-- The one spelling of each APS frame (05-3474-21, 2.2.5.1 for the frame, 2.2.5.1.8 for the extended header and 4.5.1
-- for the auxiliary one).
use Rattle.std.specs.Prelude.{ℕ, List, ◌++◌, Option, Some, None}
use Rattle.std.specs.Int.{w16, w32}
use Rattle.zb_cursor.specs.Spelling.{byte, number, eui, optional}
use Rattle.zb_aps.specs.declared.header.Extended.{Extended}
use Rattle.zb_aps.specs.declared.header.ApsHeader.{ApsHeader}
use Rattle.zb_aps.specs.declared.auxiliary.ApsAux.{ApsAux}
use Rattle.zb_aps.specs.declared.frame.ApsFrame.{ApsFrame}

-- an extended header: its control byte, the block number, the bits of an ack
abbrev pub extended : Extended → List ℕ
extended e = byte e.control ++ optional byte e.block ++ optional byte e.bits

-- the control byte and the destination
abbrev pub addressing : ApsHeader → List ℕ
addressing h = byte h.control ++ optional byte h.endpoint ++ optional (number w16) h.group
    ++ optional (number w16) h.cluster

abbrev pub header : ApsHeader → List ℕ
header h = addressing h ++ optional (number w16) h.profile ++ optional byte h.source_endpoint ++ byte h.counter
    ++ optional extended h.extended

abbrev pub aux : ApsAux → List ℕ
aux a = byte a.control ++ number w32 a.counter ++ optional eui a.source

-- what comes after the header: the body; if the frame is secured, also an auxiliary header before it and the MIC after
-- it
abbrev pub content : Option ApsAux → List ℕ → List ℕ → List ℕ
content None body mic = body
content (Some a) body mic = aux a ++ body ++ mic

abbrev pub frame : ApsFrame → List ℕ
frame f = header f.header ++ content f.aux f.body.items f.mic
