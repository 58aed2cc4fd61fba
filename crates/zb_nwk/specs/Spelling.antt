-- The one spelling of each NWK frame (05-3474-21, 3.3.1 for the frame and 4.5.1 for the auxiliary header).
use Rattle.std.specs.Prelude.{ℕ, List, ◌++◌, length, Option, Some, None}
use Rattle.std.specs.List.{flat_map}
use Rattle.std.specs.Int.{w16, w32}
use Rattle.zb_cursor.specs.Spelling.{byte, number, short, eui, optional}
use Rattle.zb_nwk.specs.declared.header.Route.{Route}
use Rattle.zb_nwk.specs.declared.header.NwkHeader.{NwkHeader}
use Rattle.zb_nwk.specs.declared.auxiliary.NwkAux.{NwkAux}
use Rattle.zb_nwk.specs.declared.frame.NwkFrame.{NwkFrame}

-- a source route: the number of relays, the place among them, the relays
abbrev pub route : Route → List ℕ
route r = byte (length r.relays.items) ++ byte r.index ++ flat_map short r.relays.items

-- the fields that each header has
abbrev pub addresses : NwkHeader → List ℕ
addresses h = number w16 h.control ++ short h.destination ++ short h.source ++ byte h.radius ++ byte h.sequence

abbrev pub header : NwkHeader → List ℕ
header h =
    addresses h ++ optional eui h.destination_eui ++ optional eui h.source_eui ++ optional byte h.multicast
    ++ optional route h.route

abbrev pub aux : NwkAux → List ℕ
aux a = byte a.control ++ number w32 a.counter ++ eui a.source ++ byte a.key_sequence

-- what comes after the header: the body; if the frame is secured, also an auxiliary header before it and the MIC after
-- it
abbrev pub content : Option NwkAux → List ℕ → List ℕ → List ℕ
content None body mic = body
content (Some a) body mic = aux a ++ body ++ mic

abbrev pub frame : NwkFrame → List ℕ
frame f = header f.header ++ content f.aux f.body.items f.mic
