-- The first claim: no node seals twice under one key and nonce.
use Rattle.std.specs.Prelude.{Bool, true, false, not, ◌&&◌, List, bytes_eq, nat_eq}
use Rattle.std.specs.List.{list_any}
use Rattle.zb_seal.specs.Keys.{sealing_key}
use Rattle.zb_seal.specs.declared.term.Term.{Term}
use Rattle.zb_trace.specs.declared.line.Line.{Line}
use Rattle.zb_trace.specs.declared.line.Line.TheVariants as line

-- Whether two terms have one sealing key and one nonce. A nonce is a source, a counter and a control byte
-- (05-3474-21, 4.5.2.2).
unfoldable pub same_stamp : Term → Term → Bool
same_stamp t u =
    bytes_eq (sealing_key t.label t.base.0) (sealing_key u.label u.base.0)
    && (nat_eq t.source.0 u.source.0 && (nat_eq t.counter u.counter && nat_eq t.control u.control))

abbrev pub seals_alike : Term → Line → Bool
seals_alike t (line.Seal event node u) = same_stamp t u
seals_alike t _ = false

-- Whether a seal has another key or nonce than all seals before it.
unfoldable pub is_fresh : List Line → Line → Bool
is_fresh h (line.Seal event node t) = not (list_any (seals_alike t) h)
is_fresh h _ = true
