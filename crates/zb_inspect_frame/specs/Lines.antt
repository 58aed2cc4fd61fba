-- The lines of a frame in a report (this project's profile): one for each layer.
use Rattle.std.specs.Prelude.{ℕ, zero, suc, ◌+◌, List, [], ◌∷◌, ◌++◌, codes, decimal, Option, Some, None}
use Rattle.zb_base.specs.declared.label.Label.{Label}
use Rattle.zb_base.specs.declared.label.Layer.{Layer}
use Rattle.zb_base.specs.declared.label.Layer.TheVariants as layer
use Rattle.zb_seal.specs.declared.term.Term.{Term}
use Rattle.zb_inspect_frame.specs.declared.layer.Finding.{Finding}
use Rattle.zb_inspect_frame.specs.declared.layer.Finding.TheVariants.{Malformed, NotSecured, NoSource, Closed, Opened}
use Rattle.zb_inspect_frame.specs.declared.shown.Below.{Below}
use Rattle.zb_inspect_frame.specs.declared.shown.Shown.{Shown}
use Rattle.zb_text.specs.Choices as choices
use Rattle.zb_text.specs.Fields.{eui_text}
use Rattle.zb_text.specs.Hexadecimal.{bytes_text}
use Rattle.zb_text.specs.Words.{then}

-- LABEL, which is only given at APS.
abbrev pub label_text : Layer → Label → List ℕ
label_text layer.Nwk sealed = []
label_text layer.Aps sealed = then (choices.label_text sealed)

-- SOURCE COUNTER CONTENT
abbrev pub opened_text : Term → List ℕ
opened_text term = label_text term.layer term.label ++ then (eui_text term.source.0) ++ then (decimal term.counter)
    ++ then (bytes_text term.content.items)

-- What was found at a layer.
abbrev pub finding_text : Finding → List ℕ
finding_text Malformed = then (codes "malformed")
finding_text NotSecured = then (codes "not-secured")
finding_text NoSource = then (codes "no-source")
finding_text (Closed s source) = then (codes "no-key")
finding_text (Opened key term) = then (codes "key") ++ then (decimal key) ++ opened_text term

-- The line of a layer of a frame.
unfoldable pub layer_line : ℕ → List ℕ → Finding → List ℕ
layer_line frame layer finding = decimal frame ++ then layer ++ finding_text finding ++ 10 ∷ []

abbrev pub inner_text : ℕ → Option Finding → List ℕ
inner_text frame None = []
inner_text frame (Some inner) = layer_line frame (codes "inner") inner

abbrev pub below_text : ℕ → Option Below → List ℕ
below_text frame None = []
below_text frame (Some below) = layer_line frame (codes "aps") below.aps ++ inner_text frame below.inner

-- The lines of a frame.
abbrev pub frame_text : ℕ → Shown → List ℕ
frame_text frame shown = layer_line frame (codes "nwk") shown.nwk ++ below_text frame shown.below

-- Those of frames, of which the first has the number `frame`.
abbrev pub frames_text : ℕ → List Shown → List ℕ
frames_text frame [] = []
frames_text frame (shown ∷ more) = frame_text frame shown ++ frames_text (frame + 1) more

-- The line of a frame that no key opened.
abbrev pub unopened_line : ℕ → List ℕ
unopened_line frame = decimal frame ++ then (codes "nwk") ++ then (codes "no-key") ++ 10 ∷ []

unfoldable pub unopened_text : ℕ → ℕ → List ℕ
unopened_text frame zero = []
unopened_text frame (suc more) = unopened_line frame ++ unopened_text (frame + 1) more
