-- One layer of a frame under the keys of a ring (this project's profile).
use Rattle.std.specs.Prelude.{ℕ, ◌+◌, Bool, true, false, List, [], ◌∷◌, Option, Some, None, Result, Ok, Err}
use Rattle.zb_base.specs.declared.address.Eui.{Eui}
use Rattle.zb_base.specs.declared.key.Key.{Key}
use Rattle.zb_seal.specs.Keys.{sealing_key}
use Rattle.zb_seal.specs.Opening.{seen_nwk, seen_aps, source_of, term_of, content_of}
use Rattle.zb_seal.specs.declared.envelope.Envelope.{Envelope}
use Rattle.zb_seal.specs.declared.envelope.OpenError.{OpenError}
use Rattle.zb_seal.specs.declared.envelope.OpenError.TheVariants as fault
use Rattle.zb_inspect_frame.specs.declared.layer.Finding.{Finding}
use Rattle.zb_inspect_frame.specs.declared.layer.Finding.TheVariants.{Malformed, NotSecured, NoSource, Closed, Opened}

-- A secured layer, whose source must be known.
abbrev pub with_source : Envelope → Option Eui → Finding
with_source s None = NoSource
with_source s (Some source) = Closed s source

-- What a layer is before any key is tried. The MIC is not checked then.
abbrev pub looked : Result Envelope OpenError → Option Eui → Finding
looked (Err (fault.Frame nwk aps)) given = Malformed
looked (Err fault.NotSecured) given = NotSecured
looked (Err fault.NoSource) given = NoSource
looked (Err fault.BadMic) given = Malformed
looked (Ok s) given = with_source s (source_of s.source given)

-- A key with its number, and the content that it gives; or else what other keys give.
abbrev pub unsealed : Envelope → Eui → ℕ → Key → Option (List ℕ) → Finding → Finding
unsealed s source number key None others = others
unsealed s source number key (Some content) others =
    Opened number (term_of (record s { text = record { items = content } }) key source)

-- A frame is opened by the first key that opens it. `number` keys come before these.
abbrev pub opened_by : Envelope → Eui → ℕ → List Key → Finding
opened_by s source number [] = Closed s source
opened_by s source number (key ∷ more) =
    unsealed s source (number + 1) key (content_of s (sealing_key s.label key.0) source)
    (opened_by s source (number + 1) more)

abbrev pub tried : ℕ → List Key → Finding → Finding
tried number keys (Closed s source) = opened_by s source number keys
tried number keys Malformed = Malformed
tried number keys NotSecured = NotSecured
tried number keys NoSource = NoSource
tried number keys (Opened key term) = Opened key term

-- A closed layer that was unsealed under the key of a number.
abbrev pub opened_as : Finding → ℕ → Key → Finding
opened_as (Closed s source) number key = Opened number (term_of s key source)
opened_as Malformed number key = Malformed
opened_as NotSecured number key = NotSecured
opened_as NoSource number key = NoSource
opened_as (Opened other term) number key = Opened other term

-- The NWK layer of a frame, and the APS layer of a payload.
unfoldable pub found_nwk : List Key → List ℕ → Finding
found_nwk keys bytes = tried 0 keys (looked (seen_nwk bytes) None)

unfoldable pub found_aps : List Key → Option Eui → List ℕ → Finding
found_aps keys given bytes = tried 0 keys (looked (seen_aps bytes) given)

-- The content of a layer, if it is known: the body of a frame that is not secured, else what it was opened to.
abbrev pub clear : Finding → List ℕ → Option (List ℕ)
clear NotSecured body = Some body
clear (Opened key term) body = Some term.content.items
clear Malformed body = None
clear NoSource body = None
clear (Closed s source) body = None

-- Whether no key opened a secured layer.
abbrev pub is_closed : Finding → Bool
is_closed (Closed s source) = true
is_closed Malformed = false
is_closed NotSecured = false
is_closed NoSource = false
is_closed (Opened key term) = false
