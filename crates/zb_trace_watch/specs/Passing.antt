-- The network's keys.
use Rattle.std.specs.Prelude.{Bool, true, false, Option, Some, None}
use Rattle.zb_base.specs.declared.key.Key.{Key}
use Rattle.zb_base.specs.declared.state.Attribute.{Attribute}
use Rattle.zb_base.specs.declared.state.Attribute.TheVariants.{Provisional}
use Rattle.zb_trace_watch.specs.Sets.{has}
use Rattle.zb_trace_watch.specs.declared.keys.Keys.{Keys}

-- Whether the attribute is that of a link key that was entered as an install code.
abbrev pub is_code : Attribute → Bool
is_code Provisional = true
is_code _ = false

-- Whether there is a key, and the set has it.
abbrev pub has_that : Keys → Option Key → Bool
has_that set None = false
has_that set (Some key) = has set key.0
