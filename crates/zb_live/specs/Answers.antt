-- The line that ends the answer to a line, with its end.
use Rattle.std.specs.Prelude.{ℕ, ◌++◌, codes, decimal}
use Rattle.zb_text.specs.Pages.{ended}
use Rattle.zb_text.specs.Words.{then}
use Rattle.zb_live.specs.Said.{Bytes}
use Rattle.zb_live.specs.declared.cause.Cause.{Cause}
use Rattle.zb_live.specs.declared.cause.Cause.TheVariants.{Syntax, BadCode, UnknownNode, DuplicateNode, Block, TooMany, NoCentre, Closed, Opened, Empty}

-- the word for a cause
abbrev pub cause_word : Cause → Bytes
cause_word Syntax = codes "syntax"
cause_word BadCode = codes "bad-code"
cause_word UnknownNode = codes "unknown-node"
cause_word DuplicateNode = codes "duplicate-node"
cause_word Block = codes "block"
cause_word TooMany = codes "too-many"
cause_word NoCentre = codes "no-centre"
cause_word Closed = codes "closed"
cause_word Opened = codes "opened"
cause_word Empty = codes "empty"

-- the line of this number was carried out
unfoldable pub ok_text : ℕ → Bytes
ok_text number = ended (codes "ok" ++ then (decimal number))

-- it wasn't, and why
unfoldable pub refused_text : ℕ → Cause → Bytes
refused_text number cause = ended (codes "refuse" ++ (then (decimal number) ++ then (cause_word cause)))
