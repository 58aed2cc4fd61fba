-- What the calls that open and seal read and write.
use Rattle.std.specs.Prelude.{ℕ, ◌+◌, ◌≡◌, ◌==◌, List, ◌++◌, length, drop, replicate, Option, Some, None, Result, Ok, Err, nat_le, if◌then◌else◌}
use Rattle.tc_c.specs.Numbers.{sealed_number, too_long}
use Rattle.tc_c.specs.declared.opened.TcOpened.{TcOpened}
use Rattle.zb_base.specs.Limits.{longest_frame}
use Rattle.zb_base.specs.declared.address.Eui.{Eui}
use Rattle.zb_base.specs.declared.key.Key.{Key}
use Rattle.zb_base.specs.declared.label.Label.{Label}
use Rattle.zb_base.specs.declared.label.Label.TheVariants.{Data, Network, Transport, Load}
use Rattle.zb_seal.specs.Opening.{seen_nwk, term_of}
use Rattle.zb_seal.specs.declared.envelope.Envelope.{Envelope}
use Rattle.zb_seal.specs.declared.envelope.OpenError.{OpenError}
use Rattle.zb_seal.specs.declared.envelope.OpenError.TheVariants.{NoSource}
use Rattle.zb_seal.specs.declared.term.Term.{Term}

-- The key identifier of a label (05-3474-21, 4.5.1.1.2).
abbrev pub label_number : Label → ℕ
label_number Data = 0
label_number Network = 1
label_number Transport = 2
label_number Load = 3

-- These bytes, and after them what was there.
abbrev pub over : List ℕ → List ℕ → List ℕ
over bytes old = bytes ++ drop (length bytes) old

-- A term was written: its content over the buffer, and its other parts into the struct.
pub record IsWritten (t : Term) (old content : List ℕ) (opened : TcOpened) : Type 0 where
  pub content_is : content ≡ over t.content.items old
  pub len : opened.len ≡ length t.content.items
  pub source : opened.source ≡ t.source.0
  pub counter : opened.counter ≡ t.counter
  pub label : opened.label ≡ label_number t.label
  pub control : opened.control ≡ t.control

-- The source that is given for frames that name none. 0 means none.
abbrev pub given_source : ℕ → Option Eui
given_source source = if source == 0 then None else Some (record { 0 = source })

-- ---- Sealing

-- The term of a frame in clear. Its header, auxiliary header and content are those of the frame with any MIC after
-- it, and so with one of zeros.
abbrev pub term_under : Key → Envelope → Option Eui → Result Term OpenError
term_under key s None = Err NoSource
term_under key s (Some source) = Ok (term_of s key source)

abbrev pub term_in : Key → Result Envelope OpenError → Result Term OpenError
term_in key (Err fault) = Err fault
term_in key (Ok s) = term_under key s s.source

abbrev pub clear_term : List ℕ → Key → Result Term OpenError
clear_term clear key = term_in key (seen_nwk (clear ++ replicate 4 0))

-- Whether there is room for its MIC of 4 bytes.
abbrev pub seal_number : List ℕ → Key → ℕ
seal_number clear key = if nat_le (length clear + 4) longest_frame then sealed_number (clear_term clear key)
    else too_long
