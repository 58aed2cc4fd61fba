-- The words that ask for a text in place of a session.
use Rattle.std.specs.Prelude.{◌≡◌, bytes_eq, codes, if◌then◌else◌, List, ℕ, Option, Some, None, ⊤}
use Rattle.tc_centre.specs.declared.asked.Asked.{Asked}
use Rattle.tc_centre.specs.declared.asked.Asked.TheVariants.{Version, Usage}

-- just these two words ask for one: `./--help` is the path of a store
abbrev pub asked_by : List ℕ → Option Asked
asked_by word =
    if bytes_eq word (codes "--version") then Some Version
    else if bytes_eq word (codes "--help") then Some Usage
    else None

abbrev pub version_text : List ℕ
version_text = codes "tc_centre 0.9.0"

-- programs read the version; the usage is for people
abbrev pub IsTextOf : Asked → List ℕ → Type 0
IsTextOf Version text = text ≡ version_text
IsTextOf Usage text = ⊤
